-- The plain auto step: the two leaves that arrived first are merged by rules.
use Rattle.std.specs.Prelude.{ℕ, nat_lt, min, length, List, [], ◌∷◌, Option, Some, None, if◌then◌else◌}
use Rattle.tardis_base.specs.declared.ids.StateId.{StateId}
use Rattle.tardis_base.specs.declared.records.Write.{Write}
use Rattle.tardis_base.specs.declared.replies.Refusal.{Refusal}
use Rattle.tardis_base.specs.declared.replies.Reply.{Reply}
use Rattle.tardis_base.specs.declared.replies.Reply.TheVariants.{Committed, Refused as RefusedWith}
use Rattle.tardis_base.specs.Sizes.{most_writes}
use Rattle.tardis_base.specs.Ids.{is_before}
use Rattle.plain_dag.specs.Conflicts.{conflict_keys}
use Rattle.plain_dag.specs.Forks.{leaves}
use Rattle.plain_site.specs.Site.{Site}
use Rattle.plain_site.specs.Answers.{Answer}
use Rattle.plain_site.specs.Commits.{commit_below}
use Rattle.stored_site.specs.Joins.{begin_refusal}
use Rattle.merge_rules.specs.declared.steps.AutoEnd.{AutoEnd}
use Rattle.merge_rules.specs.declared.steps.AutoEnd.TheVariants.{Single, Refused, Wide, Unmerged, Merged}
use Rattle.rule_list.specs.declared.rules.PrefixRule.{PrefixRule}
use Rattle.join_rules.specs.Valued.{value_of, unmerged, values}

-- the site after an auto step, and how that ended
abbrev pub AutoAnswer : Type 0
AutoAnswer = Site × AutoEnd

-- ===== The step

-- how a commit ended, by its reply, which is one of these two
abbrev pub end_of : Reply → AutoEnd
end_of (Committed x parents) = Merged x
end_of (RefusedWith refusal) = Refused refusal
end_of _ = Single

abbrev pub ended_as : Answer → AutoAnswer
ended_as answer = (answer.0, end_of answer.1)

-- a merge of the two states commits with these values of these keys, unless one of the keys has none
abbrev pub merge_values : Site → ℕ → StateId → StateId → (List ℕ → Option Write) → List (List ℕ) → AutoAnswer
merge_values site n a b value ks =
    elim (unmerged value ks) [ Some k ↦ (site, Unmerged k) | None ↦ ended_as (commit_below site n (a ∷ b ∷ []) (values value ks) []) ]

-- the two states are merged, unless they have more than 64 conflict keys
abbrev pub merge_both : Site → ℕ → List PrefixRule → StateId → StateId → AutoAnswer
merge_both site n rules a b =
    let ks = conflict_keys site.dag (a ∷ b ∷ []) in
    if nat_lt most_writes (length ks) then (site, Wide (min (length ks) 4294967295)) else merge_values site n a b (value_of rules site.dag a b) ks

abbrev pub unless_refused : Site → Option Refusal → AutoAnswer → AutoAnswer
unless_refused site None answer = answer
unless_refused site (Some refusal) answer = (site, Refused refusal)

-- the two leaves that arrived first are merged, in the order of their ids
abbrev pub auto_over : Site → ℕ → List PrefixRule → List StateId → AutoAnswer
auto_over site n rules (x ∷ y ∷ more) =
    unless_refused site (begin_refusal site n) (if is_before x y then merge_both site n rules x y else merge_both site n rules y x)
auto_over site n rules _ = (site, Single)

-- the auto step of an actor
abbrev pub auto_step : Site → ℕ → List PrefixRule → AutoAnswer
auto_step site n rules = auto_over site n rules (leaves site.dag)
