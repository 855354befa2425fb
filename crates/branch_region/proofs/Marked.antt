-- Marks that are put from the newest state to the oldest.
use Rattle.std.proofs.Common.{◌≡◌, ℕ, zero, suc, ◌+◌, ◌<◌, ◌≤◌, Bool, true, false, ◌&&◌, ◌||◌, not, eqb, List, [], ◌∷◌, ◌++◌, length, take, map, get_or, set, slice_get}
use Rattle.std.proofs.Common.{find, is_some, Option, Some, None, IsTrue, IsFalse, inl, inr, refl, sym, ap, ap₂, subst, ◌∙◌, arith, add-one, eqb-true, eq-eqb, take_all}
use Rattle.std.specs.List.{list_any, list_all}
use Rattle.std.specs.Option.{option_map}
use Rattle.std.proofs.lemmas.Bool.{and_parts, cases_Bool, or_left, or_right, or_cases, false_from_ne_true}
use Rattle.std.proofs.lemmas.Option.{none-some, same_Some}
use Rattle.std.proofs.lemmas.List.{get_or-set_same, get_or-set_other}
use Rattle.tardis_base.specs.declared.ids.StateId.{StateId}
use Rattle.tardis_base.specs.declared.ids.Slot.{Slot}
use Rattle.tardis_base.specs.declared.records.Record.{Record}
use Rattle.tardis_base.specs.Ids.{same_id, is_among}
use Rattle.plain_dag.specs.States.{arrival, children}
use Rattle.plain_dag.specs.Above.{is_above}
use Rattle.plain_dag.specs.Dag.{IsDag}
use Rattle.plain_dag.specs.Collection.{kept_states, stand_in}
use Rattle.plain_dag.proofs.Ids.{same_test, not-both, same_id-true, same_id_from, among-first, among-later, among-cases, any-from, any-witness}
use Rattle.plain_dag.proofs.Order.{above-same, above-reflexive, above-transitive, ancestors-arrive-earlier}
use Rattle.plain_dag.proofs.States.{child_is_known, child_arrives_later, parent_is_above, proper_goes_by_child}
use Rattle.plain_dag.proofs.Rising.{Rising, kept-rise}
use Rattle.state_dag.specs.Table.{Entry, Table, entry_at, id_at, is_slot, is_slot_above}
use Rattle.state_dag.specs.Stands.{Stands}
use Rattle.state_dag.proofs.Known.{kept-is_listed}
use Rattle.state_dag.proofs.Standing.{slot-is_kept, slots-tell}
use Rattle.state_dag.proofs.ParentSlots.{slot_from, same-slot}
use Rattle.branch_region.specs.Slots.{is_slot_above_part}
use Rattle.branch_region.specs.Marks.{is_marked, is_part_marked, AreMarks}
use Rattle.branch_region.specs.declared.marks.Marks.{Marks}
use Rattle.branch_region.proofs.Named.{got-is_among}
use Rattle.branch_region.proofs.Told.{well}

-- ===== Slots and their numbers

-- a slot of a state names one
pub slot-names : (table : Table) (s : Slot) → IsTrue (is_slot table s) → (x : StateId) × (id_at table s ≡ Some x)
slot-names table s there = go (entry_at table s) refl there
  where
    go : (o : Option Entry) → entry_at table s ≡ o → is_some o ≡ true → (x : StateId) × (id_at table s ≡ Some x)
    go None is t = not-both true refl (sym t)
    go (Some e) is t = (e.id, ap (option_map (λ (f : Entry). f.id)) is)

-- what is found among entries has a number below one that is above all of theirs
pub found-below : (es : List Entry) (n k : ℕ) → ((j : ℕ) → j < length es → (get_or (map (λ (e : Entry). e.slot) es) j (record { 0 = 0 })).0 < n) →
    is_some (find (λ e. eqb e.slot.0 k) es) ≡ true → k < n
found-below [] n k below there = not-both true refl (sym there)
found-below (e ∷ es) n k below there = elim (cases_Bool (eqb e.slot.0 k)) [
  | inl t ↦ subst (λ m. m < n) (eqb-true e.slot.0 k t) (below 0 (omega arith))
  | inr o ↦ found-below es n k (λ j lt. below (suc j) (omega arith)) (rw o at there)
]

-- ===== States in arrival order

-- of those up to a state none arrived later
taken-no_later : (f : StateId → ℕ) (xs : List StateId) → Rising f xs → (i : ℕ) (x : StateId) → slice_get xs i ≡ Some x → (z : StateId) →
    IsTrue (is_among z (take (suc i) xs)) → f z ≤ f x
taken-no_later f [] up i x got z m = absurd (none-some x got)
taken-no_later f (w ∷ xs) up zero x got z m = elim (among-cases z w [] m) [
  | inl e ↦ (let same = ap f (e ∙ same_Some w x got) in omega arith)
  | inr none ↦ not-both true refl (sym none)
]
taken-no_later f (w ∷ xs) up (suc i) x got z m = elim (among-cases z w (take (suc i) xs) m) [
  | inl e ↦ (let same = ap f e in let less = up.0 x (got-is_among xs i x got) in omega arith)
  | inr later ↦ taken-no_later f xs up.1 i x got z later
]

behind-isnt : (zs : List StateId) (x z : StateId) → IsFalse (is_among z zs) → IsFalse (same_id z x) → IsFalse (is_among z (zs ++ x ∷ []))
behind-isnt [] x z n d = false_from_ne_true (is_among z (x ∷ [])) (λ t. elim (among-cases z x [] t) [
  | inl e ↦ not-both (same_id z x) (same_id_from z x e) d
  | inr none ↦ not-both true refl (sym none)
])
behind-isnt (w ∷ zs) x z n d = false_from_ne_true (is_among z (w ∷ zs ++ x ∷ [])) (λ t. elim (among-cases z w (zs ++ x ∷ []) t) [
  | inl e ↦ not-both (is_among z (w ∷ zs)) (subst (λ v. IsTrue (is_among v (w ∷ zs))) (sym e) (among-first w zs)) n
  | inr later ↦
      not-both (is_among z (zs ++ x ∷ [])) later
      (behind-isnt zs x z (false_from_ne_true (is_among z zs) (λ u. not-both (is_among z (w ∷ zs)) (among-later z w zs u) n)) d)
])

-- a state is at or above another where it is the one or a child of it is at or above it
down-edges : (rs : List Record) → IsDag rs → (x y : StateId) → is_above rs x y ≡ (same_id x y || list_any (λ d. is_above rs d y) (children rs x))
down-edges rs dag x y = same_test (is_above rs x y) (same_id x y || by_child) forth back
  where
    by_child : Bool
    by_child = list_any (λ d. is_above rs d y) (children rs x)

    forth : IsTrue (is_above rs x y) → IsTrue (same_id x y || by_child)
    forth t = elim (cases_Bool (same_id x y)) [
      | inl same ↦ or_left (same_id x y) by_child same
      | inr n ↦
          let w = proper_goes_by_child rs dag x y t (λ e. not-both (same_id x y) (same_id_from x y e) n) in
          or_right (same_id x y) by_child (any-from (λ d. is_above rs d y) (children rs x) w.0 w.1 w.2)
    ]

    back : IsTrue (same_id x y || by_child) → IsTrue (is_above rs x y)
    back t = elim (or_cases (same_id x y) by_child t) [
      | inl same ↦ above-same rs x y (same_id-true x y same)
      | inr some ↦
          let w = any-witness (λ d. is_above rs d y) (children rs x) some in
          above-transitive rs dag x w.0 y (parent_is_above rs dag x w.0 w.1) w.2
    ]

-- ===== Marks

-- the slots of all states but these are marked where they are above this one
abbrev pub MarkedBut : Table → Slot → List StateId → List Bool → Type 0
MarkedBut table a xs marks = (s : Slot) (x : StateId) → id_at table s ≡ Some x → IsFalse (is_among x xs) → is_marked marks s ≡ is_slot_above table s a

module _ (table : Table) (rs : List Record) (ks : List StateId) (stands : Stands table rs ks) where
  -- the stand-in of a child arrived after all up to the state
  stand-in-behind : (i : ℕ) (x d : StateId) → slice_get (kept_states rs ks) i ≡ Some x → IsTrue (is_among d (children rs x)) →
      IsFalse (is_among (stand_in rs ks d) (take (i + 1) (kept_states rs ks)))
  stand-in-behind i x d got m = false_from_ne_true (is_among (stand_in rs ks d) (take (i + 1) (kept_states rs ks))) (λ t.
      let wells = well table rs ks stands in
      let known = child_is_known rs x d m in
      let kept = wells.kept d known in
      let above : IsTrue (is_above rs d (stand_in rs ks d)) = wells.tells d (stand_in rs ks d) known kept ∙ above-reflexive rs (stand_in rs ks d) in
      let no_later = taken-no_later (arrival rs) (kept_states rs ks) (kept-rise rs ks stands.dag) i x got (stand_in rs ks d)
      (subst (λ k. IsTrue (is_among (stand_in rs ks d) (take k (kept_states rs ks)))) (add-one i) t) in
      let child = child_arrives_later rs stands.dag x d m in
      elim (ancestors-arrive-earlier rs stands.dag d (stand_in rs ks d) above) [
        | inl same ↦ (let at = ap (arrival rs) same in omega arith)
        | inr less ↦ omega arith
      ])

  -- before the newest none is marked, and none need be
  pub none-but_all : (a : Slot) (n : ℕ) (marks : List Bool) → length (kept_states rs ks) ≤ n → MarkedBut table a (take n (kept_states rs ks)) marks
  none-but_all a n marks all s x named out = not-both (is_among x (kept_states rs ks)) (kept-is_listed rs ks x (slot-is_kept table rs ks stands s x named))
      (subst (λ xs. IsFalse (is_among x xs)) (take_all n (kept_states rs ks) all) out)

  -- at the end all are marked as they should be
  pub all-marked : (a : Slot) (marks : List Bool) → MarkedBut table a [] marks → (s : Slot) → IsTrue (is_slot table s) → is_marked marks s
      ≡ is_slot_above table s a
  all-marked a marks but s there = (let w = slot-names table s there in but s w.0 w.1 refl)

  module _ (a : Slot) (y : StateId) (named_a : id_at table a ≡ Some y) (marks : List Bool) (i : ℕ) (x : StateId)
      (got : slice_get (kept_states rs ks) i ≡ Some x) (but : MarkedBut table a (take (i + 1) (kept_states rs ks)) marks) where
    -- the marks of the stand-ins of children say which children are above
    children-marked : (cs : List Slot) (ds : List StateId) → map (id_at table) cs ≡ map (λ d. Some (stand_in rs ks d)) ds →
        ((d : StateId) → IsTrue (is_among d ds) → IsTrue (is_among d (children rs x))) → list_any (is_marked marks) cs ≡ list_any (λ d. is_above rs d y) ds
    children-marked [] [] e sub = refl
    children-marked [] (d ∷ ds) e sub = absurd (let bad : ⊥ = cc in bad)
    children-marked (c ∷ cs) [] e sub = absurd (let bad : ⊥ = cc in bad)
    children-marked (c ∷ cs) (d ∷ ds) e sub =
        let here : id_at table c ≡ Some (stand_in rs ks d) = cc in
        let rest : map (id_at table) cs ≡ map (λ z. Some (stand_in rs ks z)) ds = cc in
        let child = sub d (among-first d ds) in
        let mark = but c (stand_in rs ks d) here (stand-in-behind i x d got child) in
        let tells = (well table rs ks stands).tells d y (child_is_known rs x d child) (slot-is_kept table rs ks stands a y named_a) in
        ap₂ ◌||◌ (mark ∙ (slots-tell table rs ks stands c a (stand_in rs ks d) y here named_a ∙ sym tells))
        (children-marked cs ds rest (λ z m. sub z (among-later z d ds m)))

    -- so the state is above where it is the one, or a stand-in of a child is marked
    pub mark-is : (s : Slot) → id_at table s ≡ Some x → (cs : List Slot) → map (id_at table) cs ≡ map (λ d. Some (stand_in rs ks d)) (children rs x) →
        (eqb s.0 a.0 || list_any (is_marked marks) cs) ≡ is_slot_above table s a
    mark-is s named cs are =
        ap₂ ◌||◌ (same-slot table rs ks stands s a x y named named_a) (children-marked cs (children rs x) are (λ d m. m))
        ∙ (sym (down-edges rs stands.dag x y) ∙ sym (slots-tell table rs ks stands s a x y named named_a))

    -- with its mark, all but those before it are marked
    pub marked-next : (s : Slot) → id_at table s ≡ Some x → take (i + 1) (kept_states rs ks) ≡ take i (kept_states rs ks) ++ x ∷ [] →
        s.0 < length marks → (mark : Bool) → mark ≡ is_slot_above table s a → MarkedBut table a (take i (kept_states rs ks)) (set marks s.0 mark)
    marked-next s named next within mark is t z named_t out = elim (cases_Bool (eqb t.0 s.0)) [
      | inl same ↦
          let one = slot_from t s (eqb-true t.0 s.0 same) in
          subst (λ r. is_marked (set marks s.0 mark) r ≡ is_slot_above table r a) (sym one) (get_or-set_same marks s.0 mark false within ∙ is)
      | inr differ ↦
          let apart : IsFalse (same_id z x) = sym (same-slot table rs ks stands t s z x named_t named) ∙ differ in
          get_or-set_other marks s.0 t.0 mark false (λ e. not-both (eqb t.0 s.0) (eq-eqb t.0 s.0 e) differ)
          ∙ but t z named_t (subst (λ xs. IsFalse (is_among z xs)) (sym next) (behind-isnt (take i (kept_states rs ks)) x z out apart))
    ]

-- ===== Several states

module _ (table : Table) (ss : List Slot) (marks : Marks) (are : AreMarks table ss marks) where
  -- what is marked apart is apart
  pub part-marked : (s : Slot) → IsTrue (is_slot table s) → is_part_marked marks s ≡ is_slot_above_part table s ss
  part-marked s there = ap₂ (λ a b. a && not b) (are.one_is s there) (are.all_is s there)

  pub parts-marked : (cs : List Slot) → IsTrue (list_all (is_slot table) cs) → list_any (is_part_marked marks) cs ≡ list_any (λ c. is_slot_above_part table c ss) cs
  parts-marked [] all = refl
  parts-marked (c ∷ cs) all =
      let parts = and_parts (is_slot table c) (list_all (is_slot table) cs) all in
      ap₂ ◌||◌ (part-marked c parts.0) (parts-marked cs parts.1)
