-- What becomes of a key's versions when those of one state go to another, whichever of the two arrived first.
use Rattle.std.proofs.Common.{◌≡◌, ℕ, ◌<◌, ◌≤◌, Bool, true, false, ◌||◌, nat_lt, if◌then◌else◌, List, [], ◌∷◌, map, Option, Some, None, length, get_or, slice_set}
use Rattle.std.proofs.Common.{refl, sym, ◌∙◌, ap, ap₂, subst, inl, inr, arith}
use Rattle.std.specs.List.{list_all, remove}
use Rattle.std.proofs.lemmas.Bool.{and_parts, and_from, or_parts, or_cases, cases_Bool, both_ways, false_from_ne_true, lt-ltb, ltb-true, ltb-false, eq-eqb, cond-true, cond-false}
use Rattle.tardis_base.specs.declared.ids.Slot.{Slot}
use Rattle.version_list.specs.declared.histories.Version.{Version}
use Rattle.version_list.specs.Lists.{are_in_order}
use Rattle.version_list.specs.Versions.{same_slot, has_version_at}
use Rattle.version_list.specs.Promoted.{version_at, without_version, at_state, in_its_place, handed_on, promoted}
use Rattle.version_list.specs.Joined.{moved_from, taken_over, joined, IsNextIfNewer}
use Rattle.version_list.specs.Seats.{other_of}
use Rattle.version_list.proofs.Noted.{slots-from_same}
use Rattle.version_list.proofs.Orders.{all-at, order-parts}
use Rattle.version_list.proofs.Handed.{none-left, others-have, other-has}
use Rattle.version_list.proofs.Promotes.{promoted-none, has-without, without-none, none-behind, leaves, own-found, order-from, in_order-without, in_order-promoted}

same-self : (a : Slot) → same_slot a a ≡ true
same-self a = eq-eqb a.0 a.0 refl

gone-at : (slot : Slot) (vs : List Version) → has_version_at slot (without_version slot vs) ≡ false
gone-at slot [] = refl
gone-at slot (v ∷ vs) = elim (cases_Bool (same_slot v.slot slot)) [
  | inl t ↦ rw t (gone-at slot vs)
  | inr f ↦ rw (f, f) (gone-at slot vs)
]

-- ===== At which states there are versions

module _ (from to : Slot) (apart : same_slot from to ≡ false) (turned : same_slot to from ≡ false) where
  -- where none is at the one state all stay
  pub moved-none : (vs : List Version) → has_version_at from vs ≡ false → map (moved_from from to) vs ≡ vs
  moved-none [] none = refl
  moved-none (v ∷ vs) none =
      let parts = or_parts (same_slot v.slot from) (has_version_at from vs) none in
      rw parts.0 (ap (λ ws. v ∷ ws) (moved-none vs parts.1))

  left-moved : (vs : List Version) → has_version_at from (map (moved_from from to) vs) ≡ false
  left-moved [] = refl
  left-moved (v ∷ vs) = elim (cases_Bool (same_slot v.slot from)) [
    | inl t ↦ rw (t, turned) (left-moved vs)
    | inr f ↦ rw (f, f) (left-moved vs)
  ]

  others-moved : (q : Slot) → same_slot from q ≡ false → same_slot to q ≡ false → (vs : List Version) →
      has_version_at q (map (moved_from from to) vs) ≡ has_version_at q vs
  others-moved q not_from not_to [] = refl
  others-moved q not_from not_to (v ∷ vs) = elim (cases_Bool (same_slot v.slot from)) [
    | inl t ↦
        let here : same_slot v.slot q ≡ false = ap (λ s. same_slot s q) (slots-from_same v.slot from t) ∙ not_from in
        rw (t, not_to, here) (others-moved q not_from not_to vs)
    | inr f ↦ rw f (ap (λ b. same_slot v.slot q || b) (others-moved q not_from not_to vs))
  ]

  there-moved : (vs : List Version) → has_version_at from vs ≡ true → has_version_at to (map (moved_from from to) vs) ≡ true
  there-moved [] there = absurd (both_ways false refl there)
  there-moved (v ∷ vs) there = elim (cases_Bool (same_slot v.slot from)) [
    | inl t ↦ let own = same-self to in rw (t, own) refl
    | inr f ↦ rw f (either (same_slot v.slot to) (there-moved vs (rw f at there)))
  ]
    where
      either : (a : Bool) {b : Bool} → b ≡ true → (a || b) ≡ true
      either true e = refl
      either false e = e

  left-taken : (vs : List Version) → has_version_at from (taken_over from to vs) ≡ false
  left-taken vs = go (has_version_at from vs) refl
    where
      go : (b : Bool) → has_version_at from vs ≡ b → has_version_at from (if b then map (moved_from from to) (without_version to vs) else vs) ≡ false
      go true e = left-moved (without_version to vs)
      go false e = e

  pub none-taken : (vs : List Version) → has_version_at from vs ≡ false → taken_over from to vs ≡ vs
  none-taken vs none = cond-false (has_version_at from vs) (map (moved_from from to) (without_version to vs)) vs none

  others-taken : (vs : List Version) (q : Slot) → same_slot from q ≡ false → same_slot to q ≡ false → has_version_at q (taken_over from to vs)
      ≡ has_version_at q vs
  others-taken vs q not_from not_to = go (has_version_at from vs)
    where
      go : (b : Bool) → has_version_at q (if b then map (moved_from from to) (without_version to vs) else vs) ≡ has_version_at q vs
      go true = others-moved q not_from not_to (without_version to vs) ∙ has-without to q vs not_to
      go false = refl

  other-taken : (vs : List Version) → has_version_at to (taken_over from to vs) ≡ (has_version_at to vs || has_version_at from vs)
  other-taken vs = go (has_version_at from vs) refl
    where
      or-true : (a : Bool) → true ≡ (a || true)
      or-true true = refl
      or-true false = refl

      or-false : (a : Bool) → a ≡ (a || false)
      or-false true = refl
      or-false false = refl

      go : (b : Bool) → has_version_at from vs ≡ b → has_version_at to (if b then map (moved_from from to) (without_version to vs) else vs)
          ≡ (has_version_at to vs || b)
      go true e = there-moved (without_version to vs) (has-without to from vs turned ∙ e) ∙ or-true (has_version_at to vs)
      go false e = or-false (has_version_at to vs)

module _ (arrival : Slot → ℕ) (from to : Slot) (apart : same_slot from to ≡ false) (turned : same_slot to from ≡ false) where
  -- none is left at the one state
  pub left-joined : (vs : List Version) → has_version_at from (joined arrival from to vs) ≡ false
  left-joined vs = go (nat_lt (arrival to) (arrival from))
    where
      go : (b : Bool) → has_version_at from (if b then taken_over from to vs else promoted arrival from to vs) ≡ false
      go true = left-taken from to apart turned vs
      go false = none-left arrival from to vs apart turned

  -- where none was there nothing changes
  pub joined-none : (vs : List Version) → has_version_at from vs ≡ false → joined arrival from to vs ≡ vs
  joined-none vs none = go (nat_lt (arrival to) (arrival from))
    where
      go : (b : Bool) → (if b then taken_over from to vs else promoted arrival from to vs) ≡ vs
      go true = none-taken from to apart turned vs none
      go false = promoted-none arrival from to vs none

  -- other states have versions where they had
  pub others-joined : (vs : List Version) (q : Slot) → same_slot from q ≡ false → same_slot to q ≡ false → has_version_at q (joined arrival from to vs)
      ≡ has_version_at q vs
  others-joined vs q not_from not_to = go (nat_lt (arrival to) (arrival from))
    where
      go : (b : Bool) → has_version_at q (if b then taken_over from to vs else promoted arrival from to vs) ≡ has_version_at q vs
      go true = others-taken from to apart turned vs q not_from not_to
      go false = others-have arrival from to vs apart turned q not_from not_to

  -- the other has one where one of the two had
  pub other-joined : (vs : List Version) → has_version_at to (joined arrival from to vs) ≡ (has_version_at to vs || has_version_at from vs)
  other-joined vs = go (nat_lt (arrival to) (arrival from))
    where
      go : (b : Bool) → has_version_at to (if b then taken_over from to vs else promoted arrival from to vs) ≡ (has_version_at to vs || has_version_at from vs)
      go true = other-taken from to apart turned vs
      go false = other-has arrival from to vs apart turned

-- ===== By their places

map-remove : (f : Version → Version) (vs : List Version) (i : ℕ) → remove (map f vs) i ≡ map f (remove vs i)
map-remove f [] ℕ.zero = refl
map-remove f [] (ℕ.suc i) = refl
map-remove f (v ∷ vs) ℕ.zero = refl
map-remove f (v ∷ vs) (ℕ.suc i) = ap (λ ws. f v ∷ ws) (map-remove f vs i)

module _ (kept : Slot → Bool) (arrival : Slot → ℕ) (from to : Slot) (apart : same_slot from to ≡ false) (turned : same_slot to from ≡ false) where
  -- the version found by its place is the one that moves
  pub moved-at : (vs : List Version) (i : ℕ) (d : Version) → are_in_order kept arrival vs ≡ true → i < length vs → (get_or vs i d).slot ≡ from →
      map (moved_from from to) vs ≡ slice_set vs i (at_state to (get_or vs i d))
  moved-at [] i d ordered lt here = absurd (omega arith)
  moved-at (v ∷ vs) ℕ.zero d ordered lt here =
      let parts = order-parts kept arrival v vs ordered in
      let own : same_slot v.slot from ≡ true = eq-eqb v.slot.0 from.0 (ap (λ (s : Slot). s.0) here) in
      let same = ap arrival here in
      let none = none-behind kept arrival (arrival v.slot) from vs (omega (arith, same)) parts.1 in
      rw own (ap (λ ws. at_state to v ∷ ws) (moved-none from to apart turned vs none))
  moved-at (v ∷ vs) (ℕ.suc i) d ordered lt here =
      let parts = order-parts kept arrival v vs ordered in
      let first : nat_lt (arrival v.slot) (arrival (get_or vs i d).slot) ≡ true =
      all-at (λ (w : Version). nat_lt (arrival v.slot) (arrival w.slot)) vs i d parts.1 (omega arith) in
      let before = ltb-true (arrival v.slot) (arrival (get_or vs i d).slot) first in
      let same = ap arrival here in
      let other : same_slot v.slot from ≡ false = false_from_ne_true (same_slot v.slot from) (λ t.
      let e = ap arrival (slots-from_same v.slot from t) in omega (arith, e, before, same)) in
      rw other (ap (λ ws. v ∷ ws) (moved-at vs i d parts.2 (omega arith) here))

  module _ (vs : List Version) (i : ℕ) (d : Version) (ordered : are_in_order kept arrival vs ≡ true) (lt : i < length vs)
      (here : (get_or vs i d).slot ≡ from) where
    taken : taken_over from to vs ≡ map (moved_from from to) (without_version to vs)
    taken = cond-true (has_version_at from vs) (map (moved_from from to) (without_version to vs)) vs (own-found kept arrival from vs i d lt here)

    -- it takes the place of the one at the other place
    pub taken-both : (j : ℕ) → j < length vs → (get_or vs j d).slot ≡ to → remove (slice_set vs i (at_state to (get_or vs i d))) j ≡ taken_over from to vs
    taken-both j within there =
        ap (λ ws. remove ws j) (sym (moved-at vs i d ordered lt here))
        ∙ (map-remove (moved_from from to) vs j
        ∙ (ap (map (moved_from from to)) (sym (leaves kept arrival to vs j d ordered within there).0) ∙ sym taken))

    -- or has one of its own
    pub taken-alone : has_version_at to vs ≡ false → slice_set vs i (at_state to (get_or vs i d)) ≡ taken_over from to vs
    taken-alone none =
        sym (moved-at vs i d ordered lt here) ∙ (ap (map (moved_from from to)) (sym (without-none to vs none)) ∙ sym taken)

-- ===== Order

module _ (kept : Slot → Bool) (arrival : Slot → ℕ) (differ : (a b : Slot) → kept a ≡ true → kept b ≡ true → arrival a ≡ arrival b → a ≡ b)
    (from to : Slot) (here : kept to ≡ true) (later : arrival to < arrival from) (next : IsNextIfNewer kept arrival from to) where
  abbrev new_slot : Slot → Slot
  new_slot s = if same_slot s from then to else s

  moved-slot : (v : Version) → (moved_from from to v).slot ≡ new_slot v.slot
  moved-slot v = go (same_slot v.slot from)
    where
      go : (b : Bool) → (if b then at_state to v else v).slot ≡ (if b then to else v.slot)
      go true = refl
      go false = refl

  kept-moved : (s : Slot) → kept s ≡ true → kept (new_slot s) ≡ true
  kept-moved s k = go (same_slot s from)
    where
      go : (b : Bool) → kept (if b then to else s) ≡ true
      go true = here
      go false = k

  before-to : (s : Slot) → kept s ≡ true → same_slot s to ≡ false → arrival s < arrival from → arrival s < arrival to
  before-to s k other lt = elim (cases_Bool (nat_lt (arrival s) (arrival to))) [
    | inl t ↦ ltb-true (arrival s) (arrival to) t
    | inr f ↦
        let ge = ltb-false (arrival s) (arrival to) f in
        elim (cases_Bool (nat_lt (arrival to) (arrival s))) [
          | inl u ↦ let le = next later s k (ltb-true (arrival to) (arrival s) u) in absurd (omega (arith, le, lt))
          | inr g ↦
              let le = ltb-false (arrival to) (arrival s) g in
              let same : arrival s ≡ arrival to = omega (arith, ge, le) in
              let is = differ s to k here same in
              absurd (both_ways (same_slot s to) other (eq-eqb s.0 to.0 (ap (λ (x : Slot). x.0) is)))
        ]
  ]

  still-before : (a b : Slot) → kept a ≡ true → same_slot a to ≡ false → arrival a < arrival b → arrival (new_slot a) < arrival (new_slot b)
  still-before a b k other lt = elim (cases_Bool (same_slot a from)) [
    | inl t ↦
        let same = ap arrival (slots-from_same a from t) in
        elim (cases_Bool (same_slot b from)) [
          | inl u ↦ let also = ap arrival (slots-from_same b from u) in absurd (omega (arith, same, also, lt))
          | inr n ↦ rw (t, n) (omega (arith, same, lt, later))
        ]
    | inr m ↦ elim (cases_Bool (same_slot b from)) [
      | inl u ↦
          let also = ap arrival (slots-from_same b from u) in
          let less : arrival a < arrival from = omega (arith, also, lt) in
          rw (m, u) (before-to a k other less)
      | inr n ↦ rw (m, n) lt
    ]
  ]

  all-later : (a : Slot) (vs : List Version) → kept a ≡ true → same_slot a to ≡ false → list_all (λ w. nat_lt (arrival a) (arrival w.slot)) vs ≡ true →
      list_all (λ w. nat_lt (arrival (new_slot a)) (arrival w.slot)) (map (moved_from from to) vs) ≡ true
  all-later a [] k other all = refl
  all-later a (v ∷ vs) k other all =
      let parts = and_parts (nat_lt (arrival a) (arrival v.slot)) (list_all (λ (w : Version). nat_lt (arrival a) (arrival w.slot)) vs) all in
      let less : arrival (new_slot a) < arrival (new_slot v.slot) = still-before a v.slot k other (ltb-true (arrival a) (arrival v.slot) parts.0) in
      and_from (nat_lt (arrival (new_slot a)) (arrival (moved_from from to v).slot))
      (list_all (λ (w : Version). nat_lt (arrival (new_slot a)) (arrival w.slot)) (map (moved_from from to) vs))
      (ap (λ s. nat_lt (arrival (new_slot a)) (arrival s)) (moved-slot v) ∙ lt-ltb (arrival (new_slot a)) (arrival (new_slot v.slot)) less)
      (all-later a vs k other parts.1)

  in_order-moved : (vs : List Version) → has_version_at to vs ≡ false → are_in_order kept arrival vs ≡ true →
      are_in_order kept arrival (map (moved_from from to) vs) ≡ true
  in_order-moved [] none ordered = refl
  in_order-moved (v ∷ vs) none ordered =
      let parts = order-parts kept arrival v vs ordered in
      let others = or_parts (same_slot v.slot to) (has_version_at to vs) none in
      order-from kept arrival (moved_from from to v) (map (moved_from from to) vs)
      (ap kept (moved-slot v) ∙ kept-moved v.slot parts.0)
      (subst (λ s. list_all (λ (w : Version). nat_lt (arrival s) (arrival w.slot)) (map (moved_from from to) vs) ≡ true) (sym (moved-slot v))
      (all-later v.slot vs parts.0 others.0 parts.1))
      (in_order-moved vs others.1 parts.2)

  in_order-taken : (vs : List Version) → are_in_order kept arrival vs ≡ true → are_in_order kept arrival (taken_over from to vs) ≡ true
  in_order-taken vs ordered = go (has_version_at from vs)
    where
      go : (b : Bool) → are_in_order kept arrival (if b then map (moved_from from to) (without_version to vs) else vs) ≡ true
      go true = in_order-moved (without_version to vs) (gone-at to vs) (in_order-without kept arrival to vs ordered)
      go false = ordered

-- versions in order are in order once those of one state went to another
pub in_order-joined : (kept : Slot → Bool) (arrival : Slot → ℕ) → ((a b : Slot) → kept a ≡ true → kept b ≡ true → arrival a ≡ arrival b → a ≡ b) →
    (from to : Slot) (vs : List Version) → kept to ≡ true → IsNextIfNewer kept arrival from to → are_in_order kept arrival vs ≡ true →
    are_in_order kept arrival (joined arrival from to vs) ≡ true
in_order-joined kept arrival differ from to vs here next ordered = go (nat_lt (arrival to) (arrival from)) refl
  where
    go : (b : Bool) → nat_lt (arrival to) (arrival from) ≡ b → are_in_order kept arrival (if b then taken_over from to vs else promoted arrival from to vs) ≡ true
    go true e = in_order-taken kept arrival differ from to here (ltb-true (arrival to) (arrival from) e) next vs ordered
    go false e = in_order-promoted kept arrival differ from to vs here ordered

-- ===== Two states that exchange what they have

-- the version, at the other of two states where it is at one of them
abbrev pub exchanged : Slot → Slot → Version → Version
exchanged a b v = at_state (other_of a b v.slot) v

at-own : (s : Slot) (v : Version) → v.slot ≡ s → at_state s v ≡ v
at-own s v is = ap (λ t. at_state t v) (sym is)

module _ (kept : Slot → Bool) (arrival : Slot → ℕ) (differ : (a b : Slot) → kept a ≡ true → kept b ≡ true → arrival a ≡ arrival b → a ≡ b)
    (from to : Slot) (here : kept to ≡ true) (earlier : arrival from < arrival to)
    (next : (s : Slot) → kept s ≡ true → arrival from < arrival s → arrival to ≤ arrival s) where
  apart₂ : same_slot from to ≡ false
  apart₂ = false_from_ne_true (same_slot from to) (λ t. let same = ap arrival (slots-from_same from to t) in omega (arith, same, earlier))

  turned₂ : same_slot to from ≡ false
  turned₂ = false_from_ne_true (same_slot to from) (λ t. let same = ap arrival (slots-from_same to from t) in omega (arith, same, earlier))

  neither : (v : Version) → same_slot v.slot from ≡ false → same_slot v.slot to ≡ false → exchanged from to v ≡ v
  neither v f g = ap (λ s. at_state s v) (cond-false (same_slot v.slot from) to (if same_slot v.slot to then from else v.slot) f
      ∙ cond-false (same_slot v.slot to) from v.slot g)

  none-exchanged : (vs : List Version) → has_version_at from vs ≡ false → has_version_at to vs ≡ false → map (exchanged from to) vs ≡ vs
  none-exchanged [] f g = refl
  none-exchanged (v ∷ vs) f g =
      let one = or_parts (same_slot v.slot from) (has_version_at from vs) f in
      let two = or_parts (same_slot v.slot to) (has_version_at to vs) g in
      ap₂ (λ w ws. w ∷ ws) (neither v one.0 two.0) (none-exchanged vs one.1 two.1)

  -- one that went to the one state is then back at the other
  there-and_back : (vs : List Version) → has_version_at from vs ≡ false → map (exchanged from to) (map (moved_from to from) vs) ≡ vs
  there-and_back [] none = refl
  there-and_back (v ∷ vs) none =
      let one = or_parts (same_slot v.slot from) (has_version_at from vs) none in
      let rest = there-and_back vs one.1 in
      elim (cases_Bool (same_slot v.slot to)) [
        | inl t ↦
            let there = ap (exchanged from to) (cond-true (same_slot v.slot to) (at_state from v) v t) in
            let back = ap (λ s. at_state s v) (cond-true (same_slot from from) to (if same_slot from to then from else from) (same-self from)) in
            ap₂ (λ w ws. w ∷ ws) (there ∙ (back ∙ at-own to v (slots-from_same v.slot to t))) rest
        | inr f ↦
            ap₂ (λ w ws. w ∷ ws) (ap (exchanged from to) (cond-false (same_slot v.slot to) (at_state from v) v f) ∙ neither v one.0 f) rest
      ]

  handed-own : (vs : List Version) (o : Option Version) → has_version_at to vs ≡ true → handed_on arrival to vs o ≡ vs
  handed-own vs None own = refl
  handed-own vs (Some v) own = cond-true (has_version_at to vs) vs (in_its_place arrival (at_state to v) vs) own

  in-front : (v : Version) (vs : List Version) → v.slot ≡ to → has_version_at to vs ≡ false →
      list_all (λ w. nat_lt (arrival from) (arrival w.slot)) vs ≡ true → are_in_order kept arrival vs ≡ true → in_its_place arrival v vs ≡ v ∷ vs
  in-front v [] is none behind ordered = refl
  in-front v (w ∷ ws) is none behind ordered =
      let parts = order-parts kept arrival w ws ordered in
      let others = or_parts (same_slot w.slot to) (has_version_at to ws) none in
      let more = ltb-true (arrival from) (arrival w.slot)
      (and_parts (nat_lt (arrival from) (arrival w.slot)) (list_all (λ (x : Version). nat_lt (arrival from) (arrival x.slot)) ws) behind).0 in
      let le = next w.slot parts.0 more in
      let same = ap arrival is in
      let not_both : arrival w.slot ≡ arrival to → ⊥ = λ e. both_ways (same_slot w.slot to) others.0
      (eq-eqb w.slot.0 to.0 (ap (λ (x : Slot). x.0) (differ w.slot to parts.0 here e))) in
      let less : nat_lt (arrival v.slot) (arrival w.slot) ≡ true = elim (cases_Bool (nat_lt (arrival v.slot) (arrival w.slot))) [
        | inl t ↦ t
        | inr f ↦ let ge = ltb-false (arrival v.slot) (arrival w.slot) f in absurd (not_both (omega (arith, le, same, ge)))
      ] in
      rw less refl

  before-found : (v : Version) (vs : List Version) → list_all (λ w. nat_lt (arrival v.slot) (arrival w.slot)) vs ≡ true → has_version_at from vs ≡ true →
      arrival v.slot < arrival from
  before-found v [] all there = absurd (both_ways false refl there)
  before-found v (w ∷ ws) all there =
      let parts = and_parts (nat_lt (arrival v.slot) (arrival w.slot)) (list_all (λ (x : Version). nat_lt (arrival v.slot) (arrival x.slot)) ws) all in
      elim (or_cases (same_slot w.slot from) (has_version_at from ws) there) [
        | inl t ↦ subst (λ s. arrival v.slot < arrival s) (slots-from_same w.slot from t) (ltb-true (arrival v.slot) (arrival w.slot) parts.0)
        | inr u ↦ before-found v ws parts.1 u
      ]

  -- where the other has none of its own, exchanging is handing on
  handed-exchanged : (vs : List Version) → has_version_at to vs ≡ false → are_in_order kept arrival vs ≡ true →
      map (exchanged from to) vs ≡ promoted arrival from to vs
  handed-exchanged [] none ordered = refl
  handed-exchanged (v ∷ vs) none ordered =
      let parts = order-parts kept arrival v vs ordered in
      let others = or_parts (same_slot v.slot to) (has_version_at to vs) none in
      elim (cases_Bool (same_slot v.slot from)) [
        | inl t ↦
            let is = slots-from_same v.slot from t in
            let after = subst (λ s. list_all (λ (w : Version). nat_lt (arrival s) (arrival w.slot)) vs ≡ true) is parts.1 in
            let gone = none-behind kept arrival (arrival from) from vs (omega arith) after in
            let left = leaves kept arrival from (v ∷ vs) 0 v ordered (omega arith) is in
            ap₂ (λ w ws. w ∷ ws) (ap (λ s. at_state s v) (cond-true (same_slot v.slot from) to (if same_slot v.slot to then from else v.slot) t))
            (none-exchanged vs gone others.1)
            ∙ sym (ap₂ (λ ws o. handed_on arrival to ws o) left.0 left.1
            ∙ (cond-false (has_version_at to vs) vs (in_its_place arrival (at_state to v) vs) others.1
            ∙ in-front (at_state to v) vs refl others.1 after parts.2))
        | inr f ↦ elim (cases_Bool (has_version_at from vs)) [
          | inr g ↦
              none-exchanged (v ∷ vs) (ap₂ (λ a b. a || b) f g) none
              ∙ sym (promoted-none arrival from to (v ∷ vs) (ap₂ (λ a b. a || b) f g))
          | inl u ↦
              let less = before-found v vs parts.1 u in
              let behind : nat_lt (arrival to) (arrival v.slot) ≡ false =
              false_from_ne_true (nat_lt (arrival to) (arrival v.slot)) (λ t. let more = ltb-true (arrival to) (arrival v.slot) t in
              omega (arith, more, less, earlier)) in
              ap₂ (λ w ws. w ∷ ws) (neither v f others.0) (handed-exchanged vs others.1 parts.2)
              ∙ (front (version_at from vs) (has-without from to vs apart₂ ∙ others.1) behind others.0
              ∙ ap₂ (λ ws o. handed_on arrival to ws o) (sym (stays f)) (sym (elsewhere f)))
        ]
      ]
    where
      stays : same_slot v.slot from ≡ false → without_version from (v ∷ vs) ≡ v ∷ without_version from vs
      stays f = rw f refl

      elsewhere : same_slot v.slot from ≡ false → version_at from (v ∷ vs) ≡ version_at from vs
      elsewhere f = rw f refl

      front : (o : Option Version) → has_version_at to (without_version from vs) ≡ false → nat_lt (arrival to) (arrival v.slot) ≡ false →
          same_slot v.slot to ≡ false → v ∷ handed_on arrival to (without_version from vs) o ≡ handed_on arrival to (v ∷ without_version from vs) o
      front None left behind g = refl
      front (Some u) left behind g =
          let ws = without_version from vs in
          let w = at_state to u in
          ap (λ xs. v ∷ xs) (cond-false (has_version_at to ws) ws (in_its_place arrival w ws) left)
          ∙ sym (cond-false (has_version_at to (v ∷ ws)) (v ∷ ws) (in_its_place arrival w (v ∷ ws)) (ap₂ (λ a b. a || b) g left)
          ∙ cond-false (nat_lt (arrival to) (arrival v.slot)) (w ∷ v ∷ ws) (v ∷ in_its_place arrival w ws) behind)

  -- once the other's versions went to the one, and the two exchanged, those of the one were handed on to the other
  pub exchanged-joined : (vs : List Version) → are_in_order kept arrival vs ≡ true → map (exchanged from to) (joined arrival to from vs)
      ≡ promoted arrival from to vs
  exchanged-joined vs ordered =
      ap (λ b. map (exchanged from to) (if b then taken_over to from vs else promoted arrival to from vs)) (lt-ltb (arrival from) (arrival to) earlier)
      ∙ elim (cases_Bool (has_version_at to vs)) [
        | inl t ↦
            ap (λ b. map (exchanged from to) (if b then map (moved_from to from) (without_version from vs) else vs)) t
            ∙ there-and_back (without_version from vs) (gone-at from vs)
            ∙ sym (handed-own (without_version from vs) (version_at from vs) (has-without from to vs apart₂ ∙ t))
        | inr f ↦
            ap (λ b. map (exchanged from to) (if b then map (moved_from to from) (without_version from vs) else vs)) f
            ∙ handed-exchanged vs f ordered
      ]
