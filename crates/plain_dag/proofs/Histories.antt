-- A history record by record, and what one more record adds.
use Rattle.std.proofs.Common.{◌≡◌, ℕ, ◌<◌, true, List, [], ◌∷◌, length, IsTrue, IsFalse, ◌⊎◌, inl, inr, refl, sym, subst, arith}
use Rattle.std.proofs.lemmas.Bool.{or_cases, or_left, or_right, cases_Bool, cond-true, cond-false}
use Rattle.std.specs.List.{list_all}
use Rattle.tardis_base.specs.declared.ids.StateId.{StateId}
use Rattle.tardis_base.specs.declared.records.Record.{Record}
use Rattle.tardis_base.specs.Ids.{same_id, is_among}
use Rattle.tardis_base.specs.Keys.{has_key}
use Rattle.plain_dag.specs.States.{root_record, states, is_known, parents_of, arrival}
use Rattle.plain_dag.specs.Above.{are_apart}
use Rattle.plain_dag.specs.Conflicts.{is_conflict_key}
use Rattle.plain_dag.specs.Dag.{IsNext, IsDag}
use Rattle.plain_dag.proofs.Ids.{not-both, same_id-true, same_id_self, among-differs, all-at}

-- ===== Records that fit

-- what a record says of those before it: it is new, its parents are known and apart, and it writes each conflict key of
-- them. The root fits an empty history.
pub record Fits (rs : List Record) (r : Record) : Type 0 where
  pub new : IsFalse (is_known rs r.id)
  pub parents : IsTrue (list_all (is_known rs) r.parents)
  pub apart : IsTrue (are_apart rs r.parents)
  pub merges : (k : List ℕ) → IsTrue (is_conflict_key rs r.parents k) → IsTrue (has_key k r.writes)

-- each record fits those before it
abbrev pub Grows : List Record → Type 0
Grows [] = Unit {0}
Grows (r ∷ rs) = Fits rs r × Grows rs

root-fits : Fits [] root_record
root-fits = record { new = refl; parents = refl; apart = refl; merges = λ k h. not-both true refl (sym h) }

pub next-fits : (rs : List Record) (r : Record) → IsNext rs r → Fits rs r
next-fits rs r n = record { new = n.new; parents = n.parents; apart = n.apart; merges = n.merges }

pub dag-grows : (rs : List Record) → IsDag rs → Grows rs
dag-grows [] dag = absurd (dag)
dag-grows (r ∷ []) e = subst (λ q. Grows (q ∷ [])) (sym e) (root-fits, tt)
dag-grows (r ∷ s ∷ rs) dag = (next-fits (s ∷ rs) r dag.0, dag-grows (s ∷ rs) dag.1)

-- with a next record it is a history too
pub next-is-dag : (rs : List Record) (r : Record) → IsDag rs → IsNext rs r → IsDag (r ∷ rs)
next-is-dag [] r dag n = absurd (dag)
next-is-dag (s ∷ rs) r dag n = (n, dag)

-- ===== Known states

pub newest-is-known : (rs : List Record) (r : Record) → IsTrue (is_known (r ∷ rs) r.id)
newest-is-known rs r = or_left (same_id r.id r.id) (is_known rs r.id) (same_id_self r.id)

pub known-stays : (rs : List Record) (r : Record) (x : StateId) → IsTrue (is_known rs x) → IsTrue (is_known (r ∷ rs) x)
known-stays rs r x h = or_right (same_id x r.id) (is_known rs x) h

-- a known state is the newest or was known before
pub known-cases : (rs : List Record) (r : Record) (x : StateId) → IsTrue (is_known (r ∷ rs) x) → (x ≡ r.id) ⊎ IsTrue (is_known rs x)
known-cases rs r x h = elim (or_cases (same_id x r.id) (is_known rs x) h) [
  | inl t ↦ inl (same_id-true x r.id t)
  | inr m ↦ inr m
]

-- a known state that isn't the newest was known before
pub known-before : (rs : List Record) (r : Record) (x : StateId) → IsTrue (is_known (r ∷ rs) x) → IsFalse (same_id x r.id) → IsTrue (is_known rs x)
known-before rs r x h f = elim (or_cases (same_id x r.id) (is_known rs x) h) [
  | inl t ↦ not-both (same_id x r.id) t f
  | inr m ↦ m
]

-- what was known before isn't the newest
pub known-isnt-newest : (rs : List Record) (r : Record) (x : StateId) → Fits rs r → IsTrue (is_known rs x) → IsFalse (same_id x r.id)
known-isnt-newest rs r x f h = among-differs x r.id (states rs) h f.new

pub parent-is-known : (rs : List Record) (r : Record) (p : StateId) → Fits rs r → IsTrue (is_among p r.parents) → IsTrue (is_known rs p)
parent-is-known rs r p f h = all-at (is_known rs) r.parents p f.parents h

-- ===== Arrival and parents

pub arrival-newest : (rs : List Record) (r : Record) (x : StateId) → IsTrue (same_id x r.id) → arrival (r ∷ rs) x ≡ length rs
arrival-newest rs r x t = cond-true (same_id x r.id) (length rs) (arrival rs x) t

pub arrival-before : (rs : List Record) (r : Record) (x : StateId) → IsFalse (same_id x r.id) → arrival (r ∷ rs) x ≡ arrival rs x
arrival-before rs r x f = cond-false (same_id x r.id) (length rs) (arrival rs x) f

pub arrival_is_below : (rs : List Record) (x : StateId) → IsTrue (is_known rs x) → arrival rs x < length rs
arrival_is_below [] x h = not-both true refl (sym h)
arrival_is_below (r ∷ rs) x h = elim (cases_Bool (same_id x r.id)) [
  | inl t ↦ let e = arrival-newest rs r x t in omega arith
  | inr f ↦
      let e = arrival-before rs r x f in
      let l = arrival_is_below rs x (known-before rs r x h f) in
      omega arith
]

pub parents-newest : (rs : List Record) (r : Record) (x : StateId) → IsTrue (same_id x r.id) → parents_of (r ∷ rs) x ≡ r.parents
parents-newest rs r x t = cond-true (same_id x r.id) r.parents (parents_of rs x) t

pub parents-before : (rs : List Record) (r : Record) (x : StateId) → IsFalse (same_id x r.id) → parents_of (r ∷ rs) x ≡ parents_of rs x
parents-before rs r x f = cond-false (same_id x r.id) r.parents (parents_of rs x) f

-- what has a parent is known
pub has-parent-is-known : (rs : List Record) (p x : StateId) → IsTrue (is_among p (parents_of rs x)) → IsTrue (is_known rs x)
has-parent-is-known [] p x h = not-both true refl (sym h)
has-parent-is-known (r ∷ rs) p x h = elim (cases_Bool (same_id x r.id)) [
  | inl t ↦ or_left (same_id x r.id) (is_known rs x) t
  | inr f ↦ known-stays rs r x (has-parent-is-known rs p x (subst (λ ps. IsTrue (is_among p ps)) (parents-before rs r x f) h))
]

-- parents are known
pub parents-are-known : (rs : List Record) → Grows rs → (p x : StateId) → IsTrue (is_among p (parents_of rs x)) → IsTrue (is_known rs p)
parents-are-known [] g p x h = not-both true refl (sym h)
parents-are-known (r ∷ rs) g p x h = elim (cases_Bool (same_id x r.id)) [
  | inl t ↦ known-stays rs r p (parent-is-known rs r p g.0 (subst (λ ps. IsTrue (is_among p ps)) (parents-newest rs r x t) h))
  | inr f ↦ known-stays rs r p (parents-are-known rs g.1 p x (subst (λ ps. IsTrue (is_among p ps)) (parents-before rs r x f) h))
]
