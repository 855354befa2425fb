-- The last-arrived state that passes a test, among the states that are kept.
use Rattle.std.proofs.Common.{◌≡◌, ℕ, ◌+◌, ◌<◌, Bool, true, false, not, ◌&&◌, List, [], ◌∷◌, ◌++◌, length, map, find, filter, take, get_or, Option, Some}
use Rattle.std.proofs.Common.{None, is_some, is_none, if◌then◌else◌, IsTrue, IsFalse, inl, inr, refl, sym, ap, ◌∙◌, append-nil, arith}
use Rattle.std.proofs.lemmas.Bool.{cases_Bool, cond-true, cond-false, and_parts, both_ways, false_from_ne_true}
use Rattle.std.proofs.lemmas.List.{length-map, get_or-map, take_more}
use Rattle.tardis_base.specs.declared.ids.StateId.{StateId}
use Rattle.tardis_base.specs.declared.ids.Slot.{Slot}
use Rattle.tardis_base.specs.declared.records.Record.{Record}
use Rattle.tardis_base.specs.Ids.{root, is_among}
use Rattle.plain_dag.specs.States.{states, arrived}
use Rattle.plain_dag.specs.Above.{is_above, is_proper_ancestor}
use Rattle.plain_dag.specs.Dag.{IsDag}
use Rattle.plain_dag.specs.Floors.{Sessions, is_above_ceilings}
use Rattle.plain_dag.specs.Collection.{kept_states}
use Rattle.plain_dag.proofs.Collected.{proper-above, proper-of-itself}
use Rattle.state_dag.proofs.Known.{filter-last}
use Rattle.ceiling_book.specs.Floors.{holder}

-- the test of the automatic floor
abbrev pub fits : List Record → StateId → Sessions → StateId → Bool
fits rs floor sessions x = is_above rs floor x && is_above_ceilings rs sessions x

-- the one, or else the other
abbrev pub or_else : Option StateId → Option StateId → Option StateId
or_else None o = o
or_else (Some y) o = Some y

-- the last of these that passes
abbrev pub last_passing : (StateId → Bool) → List StateId → Option StateId
last_passing p [] = None
last_passing p (x ∷ xs) = or_else (last_passing p xs) (if p x then Some x else None)

module _ (p : StateId → Bool) where
  pub last-passes : (xs : List StateId) (y : StateId) → IsTrue (p y) → last_passing p (xs ++ y ∷ []) ≡ Some y
  last-passes [] y t = cond-true (p y) (Some y) None t
  last-passes (x ∷ xs) y t = rw (last-passes xs y t) refl

  pub last-fails : (xs : List StateId) (y : StateId) → IsFalse (p y) → last_passing p (xs ++ y ∷ []) ≡ last_passing p xs
  last-fails [] y f = cond-false (p y) (Some y) None f
  last-fails (x ∷ xs) y f = rw (last-fails xs y f) refl

  -- where what passes isn't collected, the newest that passes is the last kept one that does
  pub newest-is_last : (rs : List Record) (ks : List StateId) → ((x : StateId) → IsTrue (p x) → IsTrue (not (is_among x ks))) → find p (states rs)
      ≡ last_passing p (kept_states rs ks)
  newest-is_last [] ks kept = refl
  newest-is_last (r ∷ rs) ks kept =
      let q : StateId → Bool = λ x. not (is_among x ks) in
      let before = newest-is_last rs ks kept in
      let split : kept_states (r ∷ rs) ks ≡ kept_states rs ks ++ filter q (r.id ∷ []) = filter-last q (arrived rs) r.id in
      elim (cases_Bool (p r.id)) [
        | inl t ↦
            let one : filter q (r.id ∷ []) ≡ r.id ∷ [] = cond-true (q r.id) (r.id ∷ []) [] (kept r.id t) in
            cond-true (p r.id) (Some r.id) (find p (states rs)) t
            ∙ sym (ap (last_passing p) (split ∙ ap (λ zs. kept_states rs ks ++ zs) one) ∙ last-passes (kept_states rs ks) r.id t)
        | inr f ↦
            cond-false (p r.id) (Some r.id) (find p (states rs)) f ∙ before ∙ sym (elim (cases_Bool (q r.id)) [
              | inl u ↦
                  let one : filter q (r.id ∷ []) ≡ r.id ∷ [] = cond-true (q r.id) (r.id ∷ []) [] u in
                  ap (last_passing p) (split ∙ ap (λ zs. kept_states rs ks ++ zs) one) ∙ last-fails (kept_states rs ks) r.id f
              | inr n ↦
                  let none : filter q (r.id ∷ []) ≡ [] = cond-false (q r.id) (r.id ∷ []) [] n in
                  ap (last_passing p) (split ∙ ap (λ zs. kept_states rs ks ++ zs) none ∙ append-nil (kept_states rs ks))
            ])
      ]

-- where the collected states are proper ancestors of the floor, what fits isn't collected
pub fitting-is_kept : (rs : List Record) → IsDag rs → (ks : List StateId) (floor : StateId) (sessions : Sessions) →
    ((x : StateId) → IsTrue (is_among x ks) → IsTrue (is_proper_ancestor rs x floor)) →
    (x : StateId) → IsTrue (fits rs floor sessions x) → IsTrue (not (is_among x ks))
fitting-is_kept rs dag ks floor sessions under x fit =
    let above = (and_parts (is_above rs floor x) (is_above_ceilings rs sessions x) fit).0 in
    ap not (false_from_ne_true (is_among x ks) (λ t. proper-of-itself rs x (proper-above rs dag x floor x (under x t) above)))

-- none is told by what isn't some
pub none-told : {A : Type 0} (b : Bool) (o : Option A) → not b ≡ is_some o → b ≡ is_none o
none-told true None e = refl
none-told false (Some a) e = refl
none-told true (Some a) e = absurd (both_ways true (sym e) refl)
none-told false None e = absurd (both_ways false refl (sym e))

-- no session holds a state exactly where it is at or above every ceiling
pub held-by-none : (rs : List Record) (sessions : Sessions) (x : StateId) → is_none (holder rs sessions x) ≡ is_above_ceilings rs sessions x
held-by-none rs [] x = refl
held-by-none rs (s ∷ sessions) x =
    let rest = held-by-none rs sessions x in
    elim (cases_Bool (is_above rs x s.1.ceiling)) [
      | inl t ↦ rw t rest
      | inr f ↦ rw f refl
    ]

-- the state at a place, and those up to it
pub record IsPlaced (name : Slot → Option StateId) (xs : List StateId) (i : ℕ) (s : Slot) : Type 0 where
  pub state : StateId
  pub named : name s ≡ Some state
  pub front : take (i + 1) xs ≡ take i xs ++ state ∷ []

pub lengths-agree : (name : Slot → Option StateId) (ss : List Slot) (xs : List StateId) → map name ss ≡ map (λ x. Some x) xs → length ss ≡ length xs
lengths-agree name ss xs are = sym (length-map ss name) ∙ (ap length are ∙ length-map xs (λ x. Some x))

pub placed-at : (name : Slot → Option StateId) (ss : List Slot) (xs : List StateId) (i : ℕ) (d : Slot) → map name ss ≡ map (λ x. Some x) xs → i < length ss
    → IsPlaced name xs i (get_or ss i d)
placed-at name ss xs i d are lt =
    let same = lengths-agree name ss xs are in
    let within : i < length xs = omega arith in
    record {
      state = get_or xs i root;
      named = sym (get_or-map name ss i d None lt) ∙ (ap (λ os. get_or os i None) are ∙ get_or-map (λ x. Some x) xs i root None within);
      front = take_more xs i root within;
    }
