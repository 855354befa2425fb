-- Lemmas on rules that join leaves.
mod Partings
mod UnionLaws
mod ItemTexts
mod Passings
mod Changes
mod ReadLaws
mod Exchanges
mod ValueLaws
mod SettlingLaws
pub mod LeafLaws
pub mod WrittenLaws
mod JointLaws
mod RankLaws
mod LeafCounts
mod PairLaws
pub mod JoinLaws
mod ReasonLaws
