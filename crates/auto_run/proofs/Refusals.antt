-- What an auto step is refused can be spelled.
use Rattle.std.proofs.Common.{◌≡◌, ℕ, ◌+◌, ◌≤◌, ◌<◌, ◌^◌, ◌≢◌, Bool, true, false, ◌&&◌, ◌||◌, ◌==◌, List, [], ◌∷◌, length, Option, Some, None, nat_le, nat_lt}
use Rattle.std.proofs.Common.{IsTrue, IsFalse, refl, sym, ◌∙◌, arith, lt-ltb, le-leb, eq-eqb, if◌then◌else◌}
use Rattle.std.proofs.lemmas.Bool.{and_from, or_right, both_ways}
use Rattle.std.specs.List.{list_all}
use Rattle.tardis_base.specs.declared.ids.StateId.{StateId}
use Rattle.tardis_base.specs.declared.records.Record.{Record}
use Rattle.tardis_base.specs.declared.replies.Refusal.{Refusal}
use Rattle.tardis_base.specs.declared.replies.Refusal.TheVariants.{SeqEnd}
use Rattle.tardis_base.specs.declared.replies.Reply.{Reply}
use Rattle.tardis_base.specs.Ids.{root, same_id, is_before}
use Rattle.tardis_base.specs.Keys.{KeyWrite}
use Rattle.tardis_base.specs.Valid.{is_u16, is_u32, is_id, are_writes}
use Rattle.plain_dag.specs.Entries.{entry_of}
use Rattle.plain_dag.specs.Floors.{Session}
use Rattle.plain_dag.specs.Forks.{leaves}
use Rattle.plain_dag.specs.Growth.{growth_refusal}
use Rattle.plain_dag.specs.Conflicts.{conflict_keys}
use Rattle.plain_site.specs.Site.{Site, Txn, own_count, next_id, next_record}
use Rattle.plain_site.specs.Answers.{refuse, unless}
use Rattle.plain_site.specs.Commits.{growth_refusals, committed, commit_below}
use Rattle.plain_site.specs.Sound.{IsSound}
use Rattle.plain_site.proofs.RepliesHistory.{is_stored}
use Rattle.plain_site.proofs.RepliesGrowth.{GrowsInRange, growth-refusal-is-valid}
use Rattle.plain_site.proofs.RepliesFrame.{AllGood, good-none, good-found}
use Rattle.plain_site.proofs.RepliesSound.{IsRanged, sound-ranged}
use Rattle.rule_list.specs.declared.rules.PrefixRule.{PrefixRule}
use Rattle.merge_rules.specs.declared.steps.AutoEnd.{AutoEnd}
use Rattle.join_rules.specs.Valued.{value_of, unmerged, values}
use Rattle.merge_rules.specs.Auto.{AutoAnswer, end_of, ended_as, merge_values, merge_both, unless_refused, auto_over, auto_step}
use Rattle.auto_run.specs.Telling.{CanBeTold}

-- the reply is no refusal, or one that can be spelled
abbrev EndsWell : Reply → Type 0
EndsWell reply = CanBeTold (end_of reply)

next-is-id : (site : Site) → IsRanged site → IsFalse (own_count site == 4294967295) → IsTrue (is_id (next_id site))
next-is-id site ranged f =
    let most : own_count site ≢ 4294967295 = λ e. both_ways (own_count site == 4294967295) f (eq-eqb (own_count site) 4294967295 e) in
    let fits : own_count site + 1 < 2 ^ 32 = omega (arith, ranged.counts site.own) in
    let few : site.own < 2 ^ 16 = omega (arith, ranged.own, ranged.limits.sites) in
    let some : 1 ≤ own_count site + 1 = omega arith in
    and_from (is_u16 site.own && is_u32 (own_count site + 1)) (same_id (next_id site) root || nat_le 1 site.own && nat_le 1 (own_count site + 1))
    (and_from (is_u16 site.own) (is_u32 (own_count site + 1)) (lt-ltb site.own (2 ^ 16) few) (lt-ltb (own_count site + 1) (2 ^ 32) fits))
    (or_right (same_id (next_id site) root) (nat_le 1 site.own && nat_le 1 (own_count site + 1))
    (and_from (nat_le 1 site.own) (nat_le 1 (own_count site + 1)) (le-leb 1 site.own ranged.own.0) (le-leb 1 (own_count site + 1) some)))

-- a refusal of growth doesn't look at what the record writes
without-writes : (site : Site) (xs : List StateId) (ws : List KeyWrite)
    → growth_refusal site.limits site.collected site.dag (next_record site xs ws) ≡ growth_refusal site.limits site.collected site.dag
    (next_record site xs [])
without-writes site xs ws = refl

grows-in-range : (site : Site) (xs : List StateId) → IsRanged site → IsTrue (is_id (next_id site)) →
    GrowsInRange site.dag site.collected site.limits (next_record site xs [])
grows-in-range site xs ranged id = record {
  stored = and_from (is_stored (next_record site xs [])) (list_all is_stored site.dag) (and_from (is_id (next_id site)) (are_writes []) id refl) ranged.stored;
  few_children = ranged.few_children;
  few_kept = ranged.few_kept;
}

growth-ends : (site : Site) (xs : List StateId) (ws : List KeyWrite) → IsRanged site → IsTrue (is_id (next_id site)) →
    AllGood EndsWell (growth_refusals site (next_record site xs ws))
growth-ends site xs ws ranged id =
    good-found (λ f. f) (growth_refusal site.limits site.collected site.dag (next_record site xs ws)) []
    (λ f e. growth-refusal-is-valid site.limits site.collected site.dag (next_record site xs []) f (grows-in-range site xs ranged id)
    (sym (without-writes site xs ws) ∙ e))
    good-none

commit-ends : (site : Site) (n : ℕ) (xs : List StateId) (ws : List KeyWrite) → IsRanged site → EndsWell (commit_below site n xs ws []).1
commit-ends site n xs ws ranged = go (own_count site == 4294967295) refl
  where
    r : Record
    r = next_record site xs ws

    go : (b : Bool) → (own_count site == 4294967295) ≡ b → EndsWell
        (unless site (refuse b SeqEnd ∷ growth_refusals site (next_record site xs ws)) (committed site n (next_record site xs ws))).1
    go true e = refl
    go false e = (growth-ends site xs ws ranged (next-is-id site ranged e)).each site (committed site n (next_record site xs ws)) (λ none. tt)

values-end : (site : Site) (n : ℕ) (a b : StateId) (ws : List KeyWrite) (key : Option (List ℕ)) → IsRanged site
    → CanBeTold (elim key as (λ _. AutoAnswer) [ Some k ↦ (site, AutoEnd.Unmerged k) | None ↦ ended_as (commit_below site n (a ∷ b ∷ []) ws []) ]).1
values-end site n a b ws (Some k) ranged = tt
values-end site n a b ws None ranged = commit-ends site n (a ∷ b ∷ []) ws ranged

both-end : (site : Site) (n : ℕ) (rules : List PrefixRule) (a b : StateId) → IsRanged site → CanBeTold (merge_both site n rules a b).1
both-end site n rules a b ranged = go (nat_lt 64 (length (conflict_keys site.dag (a ∷ b ∷ []))))
  where
    ks : List (List ℕ)
    ks = conflict_keys site.dag (a ∷ b ∷ [])

    go : (t : Bool) → CanBeTold (if t then (site, AutoEnd.Wide (Rattle.std.specs.Prelude.min (length (conflict_keys site.dag (a ∷ b ∷ []))) 4294967295))
        else merge_values site n a b (value_of rules site.dag a b) (conflict_keys site.dag (a ∷ b ∷ []))).1
    go true = tt
    go false = values-end site n a b (values (value_of rules site.dag a b) (conflict_keys site.dag (a ∷ b ∷ [])))
        (unmerged (value_of rules site.dag a b) (conflict_keys site.dag (a ∷ b ∷ []))) ranged

begins-end : (site : Site) (answer : AutoAnswer) (s : Option Session) (t : Option Txn) → CanBeTold answer.1
    → CanBeTold (unless_refused site (elim s [ None ↦ Some Refusal.NotOpen | Some s ↦ elim t [ None ↦ None | Some t ↦ Some Refusal.TxnOpen ] ]) answer).1
begins-end site answer None t well = refl
begins-end site answer (Some s) None well = well
begins-end site answer (Some s) (Some t) well = refl

over-ends : (site : Site) (n : ℕ) (rules : List PrefixRule) (xs : List StateId) → IsRanged site → CanBeTold (auto_over site n rules xs).1
over-ends site n rules [] ranged = tt
over-ends site n rules (x ∷ []) ranged = tt
over-ends site n rules (x ∷ y ∷ more) ranged =
    begins-end site (if is_before x y then merge_both site n rules x y else merge_both site n rules y x) (entry_of n site.sessions) (entry_of n site.txns)
    (go (is_before x y))
  where
    go : (t : Bool) → CanBeTold (if t then merge_both site n rules x y else merge_both site n rules y x).1
    go true = both-end site n rules x y ranged
    go false = both-end site n rules y x ranged

-- what the auto step of a sound site is refused can be spelled
pub step-told : (site : Site) (n : ℕ) (rules : List PrefixRule) → IsSound site → CanBeTold (auto_step site n rules).1
step-told site n rules sound = over-ends site n rules (leaves site.dag) (sound-ranged site sound)
