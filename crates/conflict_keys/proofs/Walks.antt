-- Walks along the states that slots name.
use Rattle.std.proofs.Common.{◌≡◌, ℕ, zero, suc, ◌+◌, ◌<◌, Bool, List, [], ◌∷◌, ◌++◌, length, take, map, get_or, Option, Some, true, IsTrue, inl, inr, refl}
use Rattle.std.proofs.Common.{sym, ap, subst, ◌∙◌, arith, add-one}
use Rattle.std.specs.Prelude.{slice_get}
use Rattle.std.specs.List.{list_all}
use Rattle.std.proofs.lemmas.Bool.{and_parts}
use Rattle.std.proofs.lemmas.Option.{none-some, same_Some}
use Rattle.std.proofs.lemmas.List.{take_all, length-map}
use Rattle.tardis_base.specs.declared.ids.StateId.{StateId}
use Rattle.tardis_base.specs.declared.ids.Slot.{Slot}
use Rattle.tardis_base.specs.declared.records.Record.{Record}
use Rattle.tardis_base.specs.Ids.{is_among}
use Rattle.plain_dag.specs.Collection.{is_kept, kept_states}
use Rattle.plain_dag.proofs.Ids.{not-both, among-first, among-later, among-cases}
use Rattle.state_dag.specs.Table.{Table, id_at}
use Rattle.state_dag.specs.Stands.{Stands}
use Rattle.branch_region.specs.Regions.{apart_states}
use Rattle.state_dag.proofs.Standing.{slot-is_kept}

-- ===== Places in a list

take-suc : (xs : List StateId) (i : ℕ) (x : StateId) → slice_get xs i ≡ Some x → take (suc i) xs ≡ take i xs ++ x ∷ []
take-suc [] i x e = absurd (none-some x e)
take-suc (y ∷ xs) zero x e = ap (λ z. z ∷ []) (same_Some y x e)
take-suc (y ∷ xs) (suc i) x e = ap (λ zs. y ∷ zs) (take-suc xs i x e)

-- one more of these
pub take-next : (xs : List StateId) (i : ℕ) (x : StateId) → slice_get xs i ≡ Some x → take (i + 1) xs ≡ take i xs ++ x ∷ []
take-next xs i x e = subst (λ n. take n xs ≡ take i xs ++ x ∷ []) (sym (add-one i)) (take-suc xs i x e)

pub got-is_among : (xs : List StateId) (i : ℕ) (x : StateId) → slice_get xs i ≡ Some x → IsTrue (is_among x xs)
got-is_among [] i x e = absurd (none-some x e)
got-is_among (y ∷ xs) zero x e = subst (λ z. IsTrue (is_among z (y ∷ xs))) (same_Some y x e) (among-first y xs)
got-is_among (y ∷ xs) (suc i) x e = among-later x y xs (got-is_among xs i x e)

pub among-front : (xs : List StateId) (i : ℕ) (x : StateId) → IsTrue (is_among x (take i xs)) → IsTrue (is_among x xs)
among-front [] i x m = subst (λ zs. IsTrue (is_among x zs)) (take_all i [] (omega arith)) m
among-front (y ∷ xs) zero x m = not-both true refl (sym m)
among-front (y ∷ xs) (suc i) x m = elim (among-cases x y (take i xs) m) [
  | inl e ↦ subst (λ z. IsTrue (is_among z (y ∷ xs))) (sym e) (among-first y xs)
  | inr later ↦ among-later x y xs (among-front xs i x later)
]

-- ===== The states that slots name

-- these slots name these states
abbrev pub Named : (Slot → Option StateId) → List Slot → List StateId → Type 0
Named name ss xs = map name ss ≡ map (λ x. Some x) xs

pub named-length : (name : Slot → Option StateId) (ss : List Slot) (xs : List StateId) → Named name ss xs → length ss ≡ length xs
named-length name ss xs are = sym (length-map ss name) ∙ (ap length are ∙ length-map xs (λ x. Some x))

-- the state at a place
pub record IsNamedAt (name : Slot → Option StateId) (xs : List StateId) (i : ℕ) (s : Slot) : Type 0 where
  pub state : StateId
  pub named : name s ≡ Some state
  pub got : slice_get xs i ≡ Some state
  pub one : IsTrue (is_among state xs)
  pub next : take (i + 1) xs ≡ take i xs ++ state ∷ []

named-at : (name : Slot → Option StateId) (ss : List Slot) (xs : List StateId) (i : ℕ) (d : Slot) → Named name ss xs → i < length ss → (x : StateId)
    × (name (get_or ss i d) ≡ Some x) × (slice_get xs i ≡ Some x)
named-at name [] xs i d are lt = absurd (omega arith)
named-at name (s ∷ ss) [] i d are lt = absurd (let bad : ⊥ = cc in bad)
named-at name (s ∷ ss) (x ∷ xs) zero d are lt = (let here : name s ≡ Some x = cc in (x, here, refl))
named-at name (s ∷ ss) (x ∷ xs) (suc i) d are lt = (let rest : Named name ss xs = cc in named-at name ss xs i d rest (omega arith))

pub named-next : (name : Slot → Option StateId) (ss : List Slot) (xs : List StateId) (i : ℕ) (d : Slot) → Named name ss xs → i < length ss →
    IsNamedAt name xs i (get_or ss i d)
named-next name ss xs i d are lt =
    let w = named-at name ss xs i d are lt in
    record { state = w.0; named = w.1; got = w.2; one = got-is_among xs i w.0 w.2; next = take-next xs i w.0 w.2 }

-- they are kept
pub named-are_kept : (table : Table) (rs : List Record) (ks : List StateId) → Stands table rs ks → (ss : List Slot) (xs : List StateId) →
    Named (id_at table) ss xs → (x : StateId) → IsTrue (is_among x xs) → IsTrue (is_kept rs ks x)
named-are_kept table rs ks stands ss [] are x m = not-both true refl (sym m)
named-are_kept table rs ks stands [] (y ∷ ys) are x m = absurd (let bad : ⊥ = cc in bad)
named-are_kept table rs ks stands (s ∷ ss) (y ∷ ys) are x m =
    let here : id_at table s ≡ Some y = cc in
    let rest : Named (id_at table) ss ys = cc in
    elim (among-cases x y ys m) [
      | inl e ↦ subst (λ z. IsTrue (is_kept rs ks z)) (sym e) (slot-is_kept table rs ks stands s y here)
      | inr later ↦ named-are_kept table rs ks stands ss ys rest x later
    ]

-- each of these is a slot
pub all-got : (p : Slot → Bool) (ss : List Slot) (i : ℕ) (d : Slot) → IsTrue (list_all p ss) → i < length ss → IsTrue (p (get_or ss i d))
all-got p [] i d all lt = absurd (omega arith)
all-got p (s ∷ ss) zero d all lt = (and_parts (p s) (list_all p ss) all).0
all-got p (s ∷ ss) (suc i) d all lt = all-got p ss i d (and_parts (p s) (list_all p ss) all).1 (omega arith)

-- ===== Lists of slots that are lent

-- where the table stands for a history, these slots are those of its kept states
abbrev pub GivesKept : Table → List Slot → Type 0
GivesKept table ss = (rs : List Record) (ks : List StateId) → Stands table rs ks → map (id_at table) ss ≡ map (λ x. Some x) (kept_states rs ks)

-- and these are those of the states apart of the states at those
abbrev pub GivesApart : Table → List Slot → List Slot → Type 0
GivesApart table ss apart = (rs : List Record) (ks : List StateId) → Stands table rs ks → (xs : List StateId) → map (id_at table) ss ≡ map (λ x. Some x) xs
    → map (id_at table) apart ≡ map (λ x. Some x) (apart_states rs ks xs)
