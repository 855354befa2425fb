-- An auto step merges, or changes nothing.
use Rattle.std.proofs.Common.{◌≡◌, ◌≤◌, ℕ, Bool, true, false, List, [], ◌∷◌, length, min, nat_lt, Option, Some, None, refl, arith}
use Rattle.std.specs.Prelude.{◌==◌, if◌then◌else◌}
use Rattle.tardis_base.specs.declared.ids.StateId.{StateId}
use Rattle.tardis_base.specs.declared.records.Record.{Record}
use Rattle.tardis_base.specs.declared.records.Write.{Write}
use Rattle.tardis_base.specs.declared.replies.Refusal.{Refusal}
use Rattle.tardis_base.specs.declared.replies.Refusal.TheVariants.{SeqEnd}
use Rattle.tardis_base.specs.Ids.{is_before}
use Rattle.tardis_base.specs.Keys.{KeyWrite}
use Rattle.plain_dag.specs.Conflicts.{conflict_keys}
use Rattle.plain_dag.specs.Forks.{leaves}
use Rattle.plain_dag.specs.Growth.{growth_refusal}
use Rattle.plain_site.specs.Site.{Site, own_count, next_record}
use Rattle.plain_site.specs.Answers.{refuse, refuse_found, unless}
use Rattle.plain_site.specs.Commits.{committed, commit_below}
use Rattle.stored_site.specs.Joins.{begin_refusal}
use Rattle.rule_list.specs.declared.rules.PrefixRule.{PrefixRule}
use Rattle.merge_rules.specs.declared.steps.AutoEnd.TheVariants.{Single, Unmerged, Wide, Merged}
use Rattle.join_rules.specs.Valued.{value_of, unmerged, values}
use Rattle.merge_rules.specs.Auto.{AutoAnswer, ended_as, merge_values, merge_both, unless_refused, auto_over}
use Rattle.merge_rules.specs.Laws.{SingleMeansOneLeaf, OnlyMergesChange}

-- it isn't Single, and unless it is Merged the site is as it was
record EndsWell (site : Site) (answer : AutoAnswer) : Type 0 where
  other : answer.1 ≡ Single → ⊥
  stays : ((x : StateId) → answer.1 ≡ Merged x → ⊥) → answer.0 ≡ site

module _ (site : Site) (n : ℕ) where
  refused-well : (refusal : Option Refusal) (answer : AutoAnswer) → EndsWell site answer → EndsWell site (unless_refused site refusal answer)
  refused-well None answer well = well
  refused-well (Some refusal) answer well = record { other = λ e. (cc); stays = λ none. refl }

  commit-well : (xs : List StateId) (ws : List KeyWrite) → EndsWell site (ended_as (commit_below site n xs ws []))
  commit-well xs ws = go (own_count site == 4294967295) (growth_refusal site.limits site.collected site.dag r)
    where
      r : Record
      r = next_record site xs ws

      go : (over : Bool) (grown : Option Refusal) → EndsWell site
          (ended_as (unless site (refuse over SeqEnd ∷ refuse_found (λ f. f) grown ∷ []) (committed site n r)))
      go true grown = record { other = λ e. (cc); stays = λ none. refl }
      go false (Some refusal) = record { other = λ e. (cc); stays = λ none. refl }
      go false None = record { other = λ e. (cc); stays = λ none. absurd (none r.id refl) }

  values-well : (a b : StateId) (value : List ℕ → Option Write) (ks : List (List ℕ)) → EndsWell site (merge_values site n a b value ks)
  values-well a b value ks = go (unmerged value ks)
    where
      go : (o : Option (List ℕ)) → EndsWell site (elim o as (λ v. AutoAnswer) [
        | Some k ↦ (site, Unmerged k)
        | None ↦
            ended_as (commit_below site n (a ∷ b ∷ []) (values value ks) [])
      ])
      go (Some k) = record { other = λ e. (cc); stays = λ none. refl }
      go None = commit-well (a ∷ b ∷ []) (values value ks)

  both-well : (rules : List PrefixRule) (a b : StateId) → EndsWell site (merge_both site n rules a b)
  both-well rules a b = go (nat_lt 64 (length (conflict_keys site.dag (a ∷ b ∷ []))))
    where
      ks : List (List ℕ)
      ks = conflict_keys site.dag (a ∷ b ∷ [])

      go : (wide : Bool) → EndsWell site (if wide then (site, Wide (min (length ks) 4294967295)) else merge_values site n a b (value_of rules site.dag a b) ks)
      go true = record { other = λ e. (cc); stays = λ none. refl }
      go false = values-well a b (value_of rules site.dag a b) ks

  two-well : (rules : List PrefixRule) (x y : StateId) (more : List StateId) → EndsWell site (auto_over site n rules (x ∷ y ∷ more))
  two-well rules x y more = refused-well (begin_refusal site n) (if is_before x y then merge_both site n rules x y else merge_both site n rules y x)
      (go (is_before x y))
    where
      go : (t : Bool) → EndsWell site (if t then merge_both site n rules x y else merge_both site n rules y x)
      go true = both-well rules x y
      go false = both-well rules y x

pub single-means-one-leaf : SingleMeansOneLeaf
single-means-one-leaf site n rules = go (leaves site.dag)
  where
    go : (xs : List StateId) → (auto_over site n rules xs).1 ≡ Single → length xs ≤ 1
    go [] e = omega arith
    go (x ∷ []) e = omega arith
    go (x ∷ y ∷ more) e = absurd ((two-well site n rules x y more).other e)

pub only-merges-change : OnlyMergesChange
only-merges-change site n rules = go (leaves site.dag)
  where
    go : (xs : List StateId) → ((x : StateId) → (auto_over site n rules xs).1 ≡ Merged x → ⊥) → (auto_over site n rules xs).0 ≡ site
    go [] none = refl
    go (x ∷ []) none = refl
    go (x ∷ y ∷ more) none = (two-well site n rules x y more).stays none
