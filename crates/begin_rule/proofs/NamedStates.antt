-- States, one after another, and the slots that name them.
use Rattle.std.proofs.Common.{◌≡◌, ℕ, ◌+◌, ◌<◌, Bool, List, [], ◌∷◌, length, map, find, get_or, drop, Option, Some, None, IsTrue, IsFalse, inl, inr, refl}
use Rattle.std.proofs.Common.{sym, ap, ◌∙◌, arith}
use Rattle.std.specs.List.{list_all}
use Rattle.std.proofs.lemmas.Bool.{and_parts, cases_Bool, cond-true, cond-false}
use Rattle.std.proofs.lemmas.Option.{none-some}
use Rattle.std.proofs.lemmas.List.{length-map, get_or-map, drop-map, drop_more, at_drop_more}
use Rattle.tardis_base.specs.declared.ids.StateId.{StateId}
use Rattle.tardis_base.specs.declared.ids.Slot.{Slot}
use Rattle.tardis_base.specs.declared.records.Record.{Record}
use Rattle.tardis_base.specs.Ids.{root}
use Rattle.plain_dag.specs.Above.{are_comparable, comparable_pair}

module _ (p : StateId → Bool) (x : StateId) (xs : List StateId) where
  -- the first is found where it passes
  pub found-here : IsTrue (p x) → find p (x ∷ xs) ≡ Some x
  found-here t = cond-true (p x) (Some x) (find p xs) t

  -- and else the search goes on behind it
  pub found-behind : IsFalse (p x) → find p (x ∷ xs) ≡ find p xs
  found-behind f = cond-false (p x) (Some x) (find p xs) f

-- where none is found, none passes
pub none-passes : (p : StateId → Bool) (xs : List StateId) (i : ℕ) (d : StateId) → find p xs ≡ None → i < length xs → IsFalse (p (get_or xs i d))
none-passes p [] i d e lt = absurd (omega arith)
none-passes p (x ∷ xs) i d e lt = elim (cases_Bool (p x)) [
  | inl t ↦ absurd (none-some x (sym e ∙ found-here p x xs t))
  | inr f ↦ at i lt f (sym (found-behind p x xs f) ∙ e) (none-passes p xs)
]
  where
    at : (i : ℕ) → i < length (x ∷ xs) → IsFalse (p x) → find p xs ≡ None →
        ((i : ℕ) (d : StateId) → find p xs ≡ None → i < length xs → IsFalse (p (get_or xs i d))) → IsFalse (p (get_or (x ∷ xs) i d))
    at ℕ.zero lt f rest later = f
    at (ℕ.suc i) lt f rest later = later i d rest (omega arith)

-- what holds of all from a place on holds of all behind it
pub all-behind : (p : Slot → Bool) (ss : List Slot) (i : ℕ) (d : Slot) → i < length ss → IsTrue (list_all p (drop i ss)) → IsTrue (list_all p (drop (i + 1) ss))
all-behind p ss i d lt all = (and_parts (p (get_or ss i d)) (list_all p (drop (i + 1) ss)) (sym (at_drop_more (list_all p) ss i d lt) ∙ all)).1

-- the state that the slot at a place names, and those behind it
pub record IsNamedNext (name : Slot → Option StateId) (ss : List Slot) (xs : List StateId) (i : ℕ) (s : Slot) : Type 0 where
  pub state : StateId
  pub named : name s ≡ Some state
  pub next : drop i xs ≡ state ∷ drop (i + 1) xs
  pub behind : map name (drop (i + 1) ss) ≡ map (λ x. Some x) (drop (i + 1) xs)

-- there are as many slots as states
pub named-length : (name : Slot → Option StateId) (ss : List Slot) (xs : List StateId) → map name ss ≡ map (λ x. Some x) xs → length ss ≡ length xs
named-length name ss xs are = sym (length-map ss name) ∙ (ap length are ∙ length-map xs (λ x. Some x))

-- each slot has its state at its place
pub named-next : (name : Slot → Option StateId) (ss : List Slot) (xs : List StateId) (i : ℕ) (d : Slot) → map name ss ≡ map (λ x. Some x) xs →
    i < length ss → IsNamedNext name ss xs i (get_or ss i d)
named-next name ss xs i d are lt =
    let same = named-length name ss xs are in
    let within : i < length xs = omega arith in
    record {
      state = get_or xs i root;
      named = sym (get_or-map name ss i d None lt) ∙ (ap (λ os. get_or os i None) are ∙ get_or-map (λ x. Some x) xs i root None within);
      next = drop_more xs i root within;
      behind = sym (drop-map name (i + 1) ss) ∙ (ap (drop (i + 1)) are ∙ drop-map (λ x. Some x) (i + 1) xs);
    }

module _ (rs : List Record) (x : StateId) (ys : List StateId) where
  -- the first is told with the first behind it that is comparable with it
  pub pair-here : (y : StateId) → find (are_comparable rs x) ys ≡ Some y → comparable_pair rs (x ∷ ys) ≡ Some (x, y)
  pair-here y e = rw (e, comparable_pair) refl

  -- and where none is, the pair is one of those behind it
  pub pair-behind : find (are_comparable rs x) ys ≡ None → comparable_pair rs (x ∷ ys) ≡ comparable_pair rs ys
  pair-behind e = rw (e, comparable_pair) refl
