-- What is told of where states parted.
use Rattle.std.proofs.Common.{◌≡◌, ℕ, ◌<◌, ◌≤◌, Bool, true, false, not, nat_lt, List, [], ◌∷◌, length, map, take, find, Option, Some, None, IsTrue}
use Rattle.std.proofs.Common.{inl, inr, refl, sym, ap, ◌∙◌, arith, take_all}
use Rattle.std.specs.Prelude.{min, option_map}
use Rattle.std.specs.List.{list_all, list_any}
use Rattle.std.specs.Option.{option_or, option_map_or}
use Rattle.std.proofs.lemmas.Bool.{and_parts, and_from, cases_Bool, cond-true, cond-false, both_ways, not-true, not_from_false, false_from_ne_true, ltb-true, lt-ltb}
use Rattle.std.proofs.lemmas.Option.{none-some}
use Rattle.tardis_base.specs.declared.ids.StateId.{StateId}
use Rattle.tardis_base.specs.Ids.{is_among}
use Rattle.plain_dag.specs.States.{is_known, arrived, children}
use Rattle.plain_dag.specs.Above.{is_above_all}
use Rattle.plain_dag.specs.Begin.{first_unknown}
use Rattle.plain_dag.specs.Forks.{is_fork_point, fork_points}
use Rattle.plain_dag.specs.Collection.{is_kept}
use Rattle.plain_dag.specs.Laws.{StandInsAreShared}
use Rattle.plain_dag.proofs.Ids.{any-witness, any-from, all-from}
use Rattle.plain_dag.proofs.Known.{arrived-is_known}
use Rattle.plain_dag.proofs.Searches.{filtered-passes}
use Rattle.plain_dag.proofs.StandIns.{collected-share-stand-ins}
use Rattle.plain_site.specs.Site.{Site}
use Rattle.plain_site.specs.Sound.{IsSound}
use Rattle.plain_questions.specs.declared.questions.Question.TheVariants.{Base}
use Rattle.plain_questions.specs.declared.questions.Denial.{Denial}
use Rattle.plain_questions.specs.declared.questions.Denial.TheVariants.{Unknown, Collected, ForkPoints}
use Rattle.plain_questions.specs.declared.questions.Answered.TheVariants.{ForkReads, Refused}
use Rattle.plain_questions.specs.Answer.{first_collected, denial, fork_read, reads_at, number_of, answer}
use Rattle.plain_questions.proofs.Bases.{fork-points-are-kept}

-- none of these passes where none is found
none-passes : {A : Type 0} (p : A → Bool) (x : A) (xs : List A) → find p (x ∷ xs) ≡ None → (p x ≡ false) × (find p xs ≡ None)
none-passes p x xs e = elim (cases_Bool (p x)) [
  | inl t ↦ absurd (none-some x (sym e ∙ cond-true (p x) (Some x) (find p xs) t))
  | inr f ↦ (f, sym (cond-false (p x) (Some x) (find p xs) f) ∙ e)
]

all-are-kept : (site : Site) (xs : List StateId) → first_unknown site.dag xs ≡ None → first_collected site xs ≡ None →
    IsTrue (list_all (is_kept site.dag site.collected) xs)
all-are-kept site [] u c = refl
all-are-kept site (x ∷ xs) u c =
    let a = none-passes (λ y. not (is_known site.dag y)) x xs u in
    let b = none-passes (λ y. is_among y site.collected) x xs c in
    and_from (is_kept site.dag site.collected x) (list_all (is_kept site.dag site.collected) xs)
    (and_from (is_known site.dag x) (not (is_among x site.collected)) (back (is_known site.dag x) a.0) (not_from_false (is_among x site.collected) b.0))
    (all-are-kept site xs a.1 b.1)
  where
    back : (b : Bool) → not b ≡ false → IsTrue b
    back true e = refl
    back false e = sym e

-- states that nothing denies are kept
pub undenied-are-kept : (site : Site) (xs : List StateId) → denial site xs ≡ None → IsTrue (list_all (is_kept site.dag site.collected) xs)
undenied-are-kept site xs e = go (first_unknown site.dag xs) (first_collected site xs) refl refl e
  where
    go : (u c : Option StateId) → first_unknown site.dag xs ≡ u → first_collected site xs ≡ c → option_or (option_map Unknown u) (option_map Collected c) ≡ None →
        IsTrue (list_all (is_kept site.dag site.collected) xs)
    go None None uis cis e = all-are-kept site xs uis cis
    go None (Some c) uis cis e = absurd (none-some (Collected c) (sym e))
    go (Some u) c uis cis e = absurd (none-some (Unknown u) (sym e))

-- a state without children isn't collected
leaf-is-kept : (site : Site) → IsSound site → (p : StateId) → IsTrue (is_among p (arrived site.dag)) → IsTrue (is_fork_point site.dag [] p) →
    IsTrue (is_kept site.dag site.collected p)
leaf-is-kept site sound p arrived-too point =
    and_from (is_known site.dag p) (not (is_among p site.collected)) (arrived-is_known site.dag p arrived-too)
    (not_from_false (is_among p site.collected) (false_from_ne_true (is_among p site.collected) gone))
  where
    shared : StandInsAreShared site.dag site.collected
    shared = collected-share-stand-ins site.dag site.floors site.collected sound.dag sound.collected

    gone : is_among p site.collected ≡ true → ⊥
    gone t =
        let parts = and_parts (is_above_all site.dag p []) (not (list_any (λ c. is_above_all site.dag c []) (children site.dag p))) point in
        let some = any-witness (λ c. true) (children site.dag p) (shared p t).0 in
        both_ways (list_any (λ c. is_above_all site.dag c []) (children site.dag p))
        (not-true (list_any (λ c. is_above_all site.dag c []) (children site.dag p)) parts.1)
        (any-from (λ c. is_above_all site.dag c []) (children site.dag p) some.0 some.1 refl)

-- where kept states parted is kept
pub points-are-kept : (site : Site) (xs : List StateId) → IsSound site → IsTrue (list_all (is_kept site.dag site.collected) xs) →
    IsTrue (list_all (is_kept site.dag site.collected) (fork_points site.dag xs))
points-are-kept site [] sound kept =
    all-from (is_kept site.dag site.collected) (fork_points site.dag [])
    (λ p m. let parts = filtered-passes (is_fork_point site.dag []) (arrived site.dag) p m in leaf-is-kept site sound p parts.0 parts.1)
points-are-kept site (x ∷ xs) sound kept =
    all-from (is_kept site.dag site.collected) (fork_points site.dag (x ∷ xs))
    (λ p m. fork-points-are-kept site x p xs sound kept (filtered-passes (is_fork_point site.dag (x ∷ xs)) (arrived site.dag) p m).1)

-- ===== The answers

pub denied-base : (site : Site) (xs : List StateId) (k : List ℕ) (why : Denial) → denial site xs ≡ Some why → answer site (Base xs k) ≡ Refused why
denied-base site xs k why e = ap (λ o. option_map_or Refused o (reads_at site.dag k (fork_points site.dag xs))) e

pub many-points : (site : Site) (xs : List StateId) (k : List ℕ) (total : ℕ) → denial site xs ≡ None → total ≡ length (fork_points site.dag xs) → 8 < total →
    answer site (Base xs k) ≡ Refused (ForkPoints (min total 4294967295))
many-points site xs k total e count many =
    let ps = fork_points site.dag xs in
    ap (λ o. option_map_or Refused o (reads_at site.dag k ps)) e
    ∙ cond-true (nat_lt 8 (length ps)) (Refused (ForkPoints (number_of ps))) (ForkReads (map (fork_read site.dag k) ps))
    (lt-ltb 8 (length ps) (omega (arith, count, many)))
    ∙ ap (λ n. Refused (ForkPoints (min n 4294967295))) (sym count)

pub few-points : (site : Site) (xs : List StateId) (k : List ℕ) (total : ℕ) (first : List StateId) → denial site xs ≡ None →
    (total ≡ length (fork_points site.dag xs)) × (first ≡ take 256 (fork_points site.dag xs)) → total ≤ 8
    → (first ≡ fork_points site.dag xs) × (answer site (Base xs k) ≡ ForkReads (map (fork_read site.dag k) first))
few-points site xs k total first e page few =
    let ps = fork_points site.dag xs in
    let is : first ≡ ps = page.1 ∙ take_all 256 ps (omega (arith, page.0, few)) in (
      is,
      ap (λ o. option_map_or Refused o (reads_at site.dag k ps)) e
          ∙ cond-false (nat_lt 8 (length ps)) (Refused (ForkPoints (number_of ps))) (ForkReads (map (fork_read site.dag k) ps))
          (false_from_ne_true (nat_lt 8 (length ps)) (λ t. absurd (omega (arith, page.0, few, ltb-true 8 (length ps) t))))
          ∙ ap (λ zs. ForkReads (map (fork_read site.dag k) zs)) (sym is),
    )
