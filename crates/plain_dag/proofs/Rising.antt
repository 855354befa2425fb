-- Lists of states in which each arrived before all that stand behind it.
use Rattle.std.proofs.Common.{◌≡◌, ℕ, ◌<◌, Bool, true, not, List, [], ◌∷◌, ◌++◌, filter, IsTrue, ◌⊎◌, inl, inr, refl, sym, subst, arith}
use Rattle.std.proofs.lemmas.Bool.{cases_Bool}
use Rattle.tardis_base.specs.declared.ids.StateId.{StateId}
use Rattle.tardis_base.specs.declared.records.Record.{Record}
use Rattle.tardis_base.specs.Ids.{is_among}
use Rattle.plain_dag.specs.States.{arrived, arrival}
use Rattle.plain_dag.specs.Forks.{is_leaf, leaves}
use Rattle.plain_dag.specs.Dag.{IsDag}
use Rattle.plain_dag.specs.Collection.{kept_states}
use Rattle.plain_dag.proofs.Ids.{not-both, same_id_self, among-first, among-later, among-cases}
use Rattle.plain_dag.proofs.Histories.{Grows, dag-grows, known-isnt-newest, arrival-newest, arrival-before, arrival_is_below}
use Rattle.plain_dag.proofs.Searches.{filtered-passes}
use Rattle.plain_dag.proofs.Known.{arrived-is_known}

module _ (f : StateId → ℕ) where
  -- each has a smaller number than all behind it
  abbrev pub Rising : List StateId → Type 0
  Rising [] = Unit {0}
  Rising (x ∷ xs) = ((z : StateId) → IsTrue (is_among z xs) → f x < f z) × Rising xs

  rising-last : (xs : List StateId) (y : StateId) → Rising xs → ((z : StateId) → IsTrue (is_among z xs) → f z < f y) → Rising (xs ++ y ∷ [])
  rising-last [] y up below = ((λ z m. not-both true refl (sym m)), tt)
  rising-last (x ∷ xs) y up below = (
    λ z m. elim (behind xs m) [ inl old ↦ up.0 z old | inr new ↦ subst (λ w. f x < f w) (sym new) (below x (among-first x xs)) ],
    rising-last xs y up.1 (λ z m. below z (among-later z x xs m)),
  )
    where
      behind : {z : StateId} (ys : List StateId) → IsTrue (is_among z (ys ++ y ∷ [])) → IsTrue (is_among z ys) ⊎ (z ≡ y)
      behind {z} [] m = elim (among-cases z y [] m) [ inl e ↦ inr e | inr none ↦ not-both true refl (sym none) ]
      behind {z} (w ∷ ys) m = elim (among-cases z w (ys ++ y ∷ []) m) [
        | inl e ↦ inl (subst (λ v. IsTrue (is_among v (w ∷ ys))) (sym e) (among-first w ys))
        | inr later ↦ elim (behind {z = z} ys later) [ inl old ↦ inl (among-later z w ys old) | inr new ↦ inr new ]
      ]

  rising-filter : (p : StateId → Bool) (xs : List StateId) → Rising xs → Rising (filter p xs)
  rising-filter p [] up = tt
  rising-filter p (x ∷ xs) up = elim (cases_Bool (p x)) [
    | inl t ↦ rw t ((λ z m. up.0 z (filtered-passes p xs z m).0), rising-filter p xs up.1)
    | inr n ↦ rw n (rising-filter p xs up.1)
  ]

rising-agrees : (f g : StateId → ℕ) (xs : List StateId) → ((z : StateId) → IsTrue (is_among z xs) → f z ≡ g z) → Rising f xs → Rising g xs
rising-agrees f g [] same up = tt
rising-agrees f g (x ∷ xs) same up = (
  λ z m. let here = same x (among-first x xs) in let there = same z (among-later z x xs m) in let less = up.0 z m in omega arith,
  rising-agrees f g xs (λ z m. same z (among-later z x xs m)) up.1,
)

arrived-rise : (rs : List Record) → Grows rs → Rising (arrival rs) (arrived rs)
arrived-rise [] g = tt
arrived-rise (r ∷ rs) g =
    let old : (z : StateId) → IsTrue (is_among z (arrived rs)) → arrival rs z ≡ arrival (r ∷ rs) z =
    λ z m. sym (arrival-before rs r z (known-isnt-newest rs r z g.0 (arrived-is_known rs z m))) in
    rising-last (arrival (r ∷ rs)) (arrived rs) r.id (rising-agrees (arrival rs) (arrival (r ∷ rs)) (arrived rs) old (arrived-rise rs g.1)) (λ z m.
    let same = old z m in
    let below = arrival_is_below rs z (arrived-is_known rs z m) in
    let newest = arrival-newest rs r r.id (same_id_self r.id) in
    omega arith)

pub leaves-rise : (rs : List Record) → IsDag rs → Rising (arrival rs) (leaves rs)
leaves-rise rs dag = rising-filter (arrival rs) (is_leaf rs) (arrived rs) (arrived-rise rs (dag-grows rs dag))

pub kept-rise : (rs : List Record) (ks : List StateId) → IsDag rs → Rising (arrival rs) (kept_states rs ks)
kept-rise rs ks dag = rising-filter (arrival rs) (λ x. not (is_among x ks)) (arrived rs) (arrived-rise rs (dag-grows rs dag))
