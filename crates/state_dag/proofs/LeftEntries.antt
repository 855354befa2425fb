-- Entries of which one has gone, and what the others became.
use Rattle.std.proofs.Common.{◌≡◌, ℕ, ◌<◌, ◌≤◌, Bool, true, false, not, ◌||◌, cond, eqb, ltb, List, [], ◌∷◌, ◌++◌, length, map, filter, find, Option, Some}
use Rattle.std.proofs.Common.{None, IsTrue, ◌⊎◌, inl, inr, refl, sym, ap, ap₂, subst, ◌∙◌, eqb-true, eq-eqb, arith}
use Rattle.std.specs.List.{list_all}
use Rattle.std.proofs.lemmas.Bool.{cases_Bool, and_parts, and_from, or_parts, both_ways, ltb-true, lt-ltb, ne_eqb, false_from_ne_true}
use Rattle.tardis_base.specs.declared.ids.StateId.{StateId}
use Rattle.tardis_base.specs.declared.ids.Slot.{Slot}
use Rattle.tardis_base.specs.Ids.{same_id, is_among}
use Rattle.fork_path.specs.Pairs.{are_ascending_pairs, without_pairs_of}
use Rattle.plain_dag.proofs.Ids.{same_id_turns, same_id-true, same_id_self}
use Rattle.state_dag.specs.Table.{Entry, arrive_in_order}
use Rattle.state_dag.specs.Views.{is_childless, slot_or, slot_of_id}
use Rattle.state_dag.specs.Grown.{is_slot_among}
use Rattle.state_dag.specs.Nodes.{AreDistinct}
use Rattle.state_dag.specs.Detached.{without_slot, passed_on}
use Rattle.state_dag.proofs.Places.{AllDiffer}
use Rattle.state_dag.proofs.Following.{Follow, childless_slots}
use Rattle.state_dag.proofs.KeptEntries.{slots_of}

-- what became of an entry: the children that stood in the slot that went stand where the heir is, and behind the one that
-- went the path has none of its branches
pub record Left (gone heir : Slot) (fork : Bool) (g old new : Entry) : Type 0 where
  pub slot_stays : new.slot ≡ old.slot
  pub id_stays : new.id ≡ old.id
  pub arrival_stays : new.arrival ≡ old.arrival
  pub parents_stay : new.parents ≡ old.parents
  pub children_stay : new.children ≡ old.children
  pub stand_ins : new.stand_ins ≡ map (passed_on gone heir) old.stand_ins
  pub ascending : IsTrue (are_ascending_pairs old.path) → IsTrue (are_ascending_pairs new.path)
  pub shorter : length new.path ≤ length old.path
  pub path : ((new.path ≡ old.path) × (old.arrival < g.arrival))
      ⊎ ((new.path ≡ cond fork (without_pairs_of gone.0 old.path) old.path) × (g.arrival < old.arrival))

-- ===== One entry among others

slot-same : (a b : Slot) → eqb a.0 b.0 ≡ true → a ≡ b
slot-same a b t = (let named : ℕ → Slot = λ n. record { 0 = n } in ap named (eqb-true a.0 b.0 t))

either : (a : Bool) {b : Bool} → b ≡ true → (a || b) ≡ true
either true t = refl
either false t = t

among-mid : (before : List Entry) (g : Entry) (behind : List Entry) → is_slot_among g.slot (slots_of (before ++ g ∷ behind)) ≡ true
among-mid [] g behind = rw (eq-eqb g.slot.0 g.slot.0 refl) refl
among-mid (b ∷ before) g behind = either (eqb b.slot.0 g.slot.0) (among-mid before g behind)

-- an earlier one has another slot
apart-mid : (b : Entry) (before : List Entry) (g : Entry) (behind : List Entry) → AreDistinct (slots_of (b ∷ before ++ g ∷ behind)) → eqb b.slot.0 g.slot.0
    ≡ false
apart-mid b before g behind d = false_from_ne_true (eqb b.slot.0 g.slot.0) (λ t.
    both_ways (is_slot_among b.slot (slots_of (before ++ g ∷ behind))) d.0
    (subst (λ s. is_slot_among s (slots_of (before ++ g ∷ behind)) ≡ true) (sym (slot-same b.slot g.slot t)) (among-mid before g behind)))

pub found-mid : (before : List Entry) (g : Entry) (behind : List Entry) → AreDistinct (slots_of (before ++ g ∷ behind)) →
    find (λ e. eqb e.slot.0 g.slot.0) (before ++ g ∷ behind) ≡ Some g
found-mid [] g behind d = rw (eq-eqb g.slot.0 g.slot.0 refl) refl
found-mid (b ∷ before) g behind d = rw (apart-mid b before g behind d) (found-mid before g behind d.1)

pub found-other : (before : List Entry) (g : Entry) (behind : List Entry) (k : ℕ) → eqb g.slot.0 k ≡ false →
    find (λ e. eqb e.slot.0 k) (before ++ g ∷ behind) ≡ find (λ e. eqb e.slot.0 k) (before ++ behind)
found-other [] g behind k other = rw other refl
found-other (b ∷ before) g behind k other = elim (cases_Bool (eqb b.slot.0 k)) [
  | inl t ↦ rw t refl
  | inr f ↦ rw f (found-other before g behind k other)
]

found-nowhere : (es : List Entry) (s : Slot) → is_slot_among s (slots_of es) ≡ false → find (λ e. eqb e.slot.0 s.0) es ≡ None
found-nowhere [] s out = refl
found-nowhere (e ∷ es) s out =
    let parts = or_parts (eqb e.slot.0 s.0) (is_slot_among s (slots_of es)) out in
    rw parts.0 (found-nowhere es s parts.1)

pub found-out : (before : List Entry) (g : Entry) (behind : List Entry) → AreDistinct (slots_of (before ++ g ∷ behind)) →
    find (λ e. eqb e.slot.0 g.slot.0) (before ++ behind) ≡ None
found-out [] g behind d = found-nowhere behind g.slot d.0
found-out (b ∷ before) g behind d = rw (apart-mid b before g behind d) (found-out before g behind d.1)

pub all-mid : (p : Entry → Bool) (before : List Entry) (g : Entry) (behind : List Entry) → list_all p (before ++ g ∷ behind) ≡ true →
    (list_all p (before ++ behind) ≡ true) × (p g ≡ true)
all-mid p [] g behind all = (let parts = and_parts (p g) (list_all p behind) all in (parts.1, parts.0))
all-mid p (b ∷ before) g behind all =
    let parts = and_parts (p b) (list_all p (before ++ g ∷ behind)) all in
    let rest = all-mid p before g behind parts.1 in
    (and_from (p b) (list_all p (before ++ behind)) parts.0 rest.0, rest.1)

-- ===== Their order

skipped : (a b : Entry) (es : List Entry) → ltb a.arrival b.arrival ≡ true → arrive_in_order (b ∷ es) ≡ true → arrive_in_order (a ∷ es) ≡ true
skipped a b [] less up = refl
skipped a b (e ∷ es) less up =
    let parts = and_parts (ltb b.arrival e.arrival) (arrive_in_order (e ∷ es)) up in
    let first = ltb-true a.arrival b.arrival less in
    let second = ltb-true b.arrival e.arrival parts.0 in
    and_from (ltb a.arrival e.arrival) (arrive_in_order (e ∷ es)) (lt-ltb a.arrival e.arrival (omega arith)) parts.1

-- what comes behind the first arrived after it
pub all-later : (a : Entry) (es : List Entry) → arrive_in_order (a ∷ es) ≡ true → list_all (λ e. ltb a.arrival e.arrival) es ≡ true
all-later a [] up = refl
all-later a (e ∷ es) up =
    let parts = and_parts (ltb a.arrival e.arrival) (arrive_in_order (e ∷ es)) up in
    and_from (ltb a.arrival e.arrival) (list_all (λ f. ltb a.arrival f.arrival) es) parts.0 (all-later a es (skipped a e es parts.0 parts.1))

rest-in_order : (a : Entry) (es : List Entry) → arrive_in_order (a ∷ es) ≡ true → arrive_in_order es ≡ true
rest-in_order a [] up = refl
rest-in_order a (e ∷ es) up = (and_parts (ltb a.arrival e.arrival) (arrive_in_order (e ∷ es)) up).1

in_order-first : (a : Entry) (es : List Entry) → list_all (λ e. ltb a.arrival e.arrival) es ≡ true → arrive_in_order es ≡ true → arrive_in_order (a ∷ es) ≡ true
in_order-first a [] later up = refl
in_order-first a (e ∷ es) later up = and_from (ltb a.arrival e.arrival) (arrive_in_order (e ∷ es))
    (and_parts (ltb a.arrival e.arrival) (list_all (λ f. ltb a.arrival f.arrival) es) later).0 up

pub order-mid : (before : List Entry) (g : Entry) (behind : List Entry) → arrive_in_order (before ++ g ∷ behind) ≡ true →
    arrive_in_order (before ++ behind) ≡ true
order-mid [] g behind up = rest-in_order g behind up
order-mid (b ∷ before) g behind up =
    in_order-first b (before ++ behind) (all-mid (λ e. ltb b.arrival e.arrival) before g behind (all-later b (before ++ g ∷ behind) up)).0
    (order-mid before g behind (rest-in_order b (before ++ g ∷ behind) up))

pub before-mid : (before : List Entry) (g : Entry) (behind : List Entry) → arrive_in_order (before ++ g ∷ behind) ≡ true →
    list_all (λ e. ltb e.arrival g.arrival) before ≡ true
before-mid [] g behind up = refl
before-mid (b ∷ before) g behind up =
    and_from (ltb b.arrival g.arrival) (list_all (λ e. ltb e.arrival g.arrival) before)
    (all-mid (λ e. ltb b.arrival e.arrival) before g behind (all-later b (before ++ g ∷ behind) up)).1
    (before-mid before g behind (rest-in_order b (before ++ g ∷ behind) up))

pub behind-mid : (before : List Entry) (g : Entry) (behind : List Entry) → arrive_in_order (before ++ g ∷ behind) ≡ true →
    list_all (λ e. ltb g.arrival e.arrival) behind ≡ true
behind-mid [] g behind up = all-later g behind up
behind-mid (b ∷ before) g behind up = behind-mid before g behind (rest-in_order b (before ++ g ∷ behind) up)

-- ===== Their ids and slots

all-kept : (x : StateId) (ys : List StateId) → is_among x ys ≡ false → filter (λ z. not (same_id z x)) ys ≡ ys
all-kept x [] out = refl
all-kept x (y ∷ ys) out =
    let parts = or_parts (same_id x y) (is_among x ys) out in
    rw (same_id_turns y x ∙ parts.0) (ap (λ zs. y ∷ zs) (all-kept x ys parts.1))

named-mid : (before : List Entry) (g : Entry) (behind : List Entry) → is_among g.id (map (λ e. e.id) (before ++ g ∷ behind)) ≡ true
named-mid [] g behind = rw (same_id_self g.id) refl
named-mid (b ∷ before) g behind = either (same_id g.id b.id) (named-mid before g behind)

differs-mid : (b : Entry) (before : List Entry) (g : Entry) (behind : List Entry) → AllDiffer (map (λ e. e.id) (b ∷ before ++ g ∷ behind)) →
    same_id b.id g.id ≡ false
differs-mid b before g behind d = false_from_ne_true (same_id b.id g.id) (λ t.
    both_ways (is_among b.id (map (λ (e : Entry). e.id) (before ++ g ∷ behind))) d.0
    (subst (λ z. is_among z (map (λ (e : Entry). e.id) (before ++ g ∷ behind)) ≡ true) (sym (same_id-true b.id g.id t)) (named-mid before g behind)))

pub ids-mid : (before : List Entry) (g : Entry) (behind : List Entry) → AllDiffer (map (λ e. e.id) (before ++ g ∷ behind)) →
    filter (λ z. not (same_id z g.id)) (map (λ e. e.id) (before ++ g ∷ behind)) ≡ map (λ e. e.id) (before ++ behind)
ids-mid [] g behind d = rw (same_id_self g.id) (all-kept g.id (map (λ e. e.id) behind) d.0)
ids-mid (b ∷ before) g behind d = rw (differs-mid b before g behind d) (ap (λ zs. b.id ∷ zs) (ids-mid before g behind d.1))

without-none : (s : Slot) (ss : List Slot) → is_slot_among s ss ≡ false → without_slot s ss ≡ ss
without-none s [] out = refl
without-none s (t ∷ ss) out =
    let parts = or_parts (eqb t.0 s.0) (is_slot_among s ss) out in
    rw (ne_eqb s.0 t.0 (λ e. both_ways (eqb t.0 s.0) parts.0 (eq-eqb t.0 s.0 (sym e)))) (ap (λ ts. t ∷ ts) (without-none s ss parts.1))

turned : (a b : ℕ) → eqb a b ≡ false → eqb b a ≡ false
turned a b f = ne_eqb b a (λ e. both_ways (eqb a b) f (eq-eqb a b (sym e)))

pub slots-mid : (before : List Entry) (g : Entry) (behind : List Entry) → AreDistinct (slots_of (before ++ g ∷ behind)) →
    without_slot g.slot (slots_of (before ++ g ∷ behind)) ≡ slots_of (before ++ behind)
slots-mid [] g behind d = rw (eq-eqb g.slot.0 g.slot.0 refl) (without-none g.slot (slots_of behind) d.0)
slots-mid (b ∷ before) g behind d = rw (turned b.slot.0 g.slot.0 (apart-mid b before g behind d)) (ap (λ ss. b.slot ∷ ss) (slots-mid before g behind d.1))

-- the slots without one are still distinct
distinct-less : (s g : Slot) (ss : List Slot) → is_slot_among s ss ≡ false → is_slot_among s (without_slot g ss) ≡ false
distinct-less s g [] out = refl
distinct-less s g (t ∷ ss) out =
    let parts = or_parts (eqb t.0 s.0) (is_slot_among s ss) out in
    elim (cases_Bool (eqb g.0 t.0)) [
      | inl same ↦ rw same (distinct-less s g ss parts.1)
      | inr other ↦ rw (other, parts.0) (distinct-less s g ss parts.1)
    ]

pub distinct-without : (g : Slot) (ss : List Slot) → AreDistinct ss → AreDistinct (without_slot g ss)
distinct-without g [] d = tt
distinct-without g (t ∷ ss) d = elim (cases_Bool (eqb g.0 t.0)) [
  | inl same ↦ rw same (distinct-without g ss d.1)
  | inr other ↦ rw other (distinct-less t g ss d.0, distinct-without g ss d.1)
]

-- a leaf's slot isn't the one that went, where slots are distinct
childless-out : (es : List Entry) (s : Slot) → is_slot_among s (slots_of es) ≡ false → is_slot_among s (childless_slots es) ≡ false
childless-out [] s out = refl
childless-out (e ∷ es) s out =
    let parts = or_parts (eqb e.slot.0 s.0) (is_slot_among s (slots_of es)) out in
    elim (cases_Bool (is_childless e)) [
      | inl t ↦ rw (t, parts.0) (childless-out es s parts.1)
      | inr f ↦ rw f (childless-out es s parts.1)
    ]

pub childless-mid : (before : List Entry) (g : Entry) (behind : List Entry) → AreDistinct (slots_of (before ++ g ∷ behind)) →
    without_slot g.slot (childless_slots (before ++ g ∷ behind)) ≡ childless_slots (before ++ behind)
childless-mid [] g behind d =
    let rest = without-none g.slot (childless_slots behind) (childless-out behind g.slot d.0) in
    elim (cases_Bool (is_childless g)) [
      | inl t ↦ rw t (rw (eq-eqb g.slot.0 g.slot.0 refl) rest)
      | inr f ↦ rw f rest
    ]
childless-mid (b ∷ before) g behind d =
    let rest = childless-mid before g behind d.1 in
    elim (cases_Bool (is_childless b)) [
      | inl t ↦ rw t (rw (turned b.slot.0 g.slot.0 (apart-mid b before g behind d)) (ap (λ ss. b.slot ∷ ss) rest))
      | inr f ↦ rw f rest
    ]

-- ===== Searches by id

searched-nowhere : (es : List Entry) (x : StateId) → is_among x (map (λ e. e.id) es) ≡ false → slot_of_id es x ≡ None
searched-nowhere [] x out = refl
searched-nowhere (e ∷ es) x out =
    let parts = or_parts (same_id x e.id) (is_among x (map (λ (f : Entry). f.id) es)) out in
    ap (λ o. slot_or o (cond (same_id x e.id) (Some e.slot) None)) (searched-nowhere es x parts.1) ∙ ap (λ b. cond b (Some e.slot) None) parts.0

-- the one that went is found no more, and each other one is found where it was
pub searched-mid : (before : List Entry) (g : Entry) (behind : List Entry) (x : StateId) → AllDiffer (map (λ e. e.id) (before ++ g ∷ behind)) →
    slot_of_id (before ++ behind) x ≡ cond (same_id x g.id) None (slot_of_id (before ++ g ∷ behind) x)
searched-mid [] g behind x d = elim (cases_Bool (same_id x g.id)) [
  | inl t ↦
      let none = searched-nowhere behind x (subst (λ z. is_among z (map (λ (e : Entry). e.id) behind) ≡ false) (sym (same_id-true x g.id t)) d.0) in
      rw t none
  | inr f ↦ rw f (go (slot_of_id behind x))
]
  where
    go : (o : Option Slot) → o ≡ slot_or o None
    go None = refl
    go (Some s) = refl
searched-mid (b ∷ before) g behind x d =
    ap (λ o. slot_or o (cond (same_id x b.id) (Some b.slot) None)) (searched-mid before g behind x d.1)
    ∙ elim (cases_Bool (same_id x g.id)) [
      | inl t ↦
          let other : same_id x b.id ≡ false =
          subst (λ z. same_id z b.id ≡ false) (sym (same_id-true x g.id t)) (same_id_turns g.id b.id ∙ differs-mid b before g behind d) in
          rw (t, other) refl
      | inr f ↦ rw f refl
    ]

-- ===== What followed

module _ (gone heir : Slot) (fork : Bool) (g : Entry) where
  pub ids-left : (os ns : List Entry) → Follow (Left gone heir fork g) os ns → map (λ e. e.id) ns ≡ map (λ e. e.id) os
  ids-left [] [] f = refl
  ids-left [] (n ∷ ns) f = absurd (f)
  ids-left (o ∷ os) [] f = absurd (f)
  ids-left (o ∷ os) (n ∷ ns) f = ap₂ (λ (i : StateId) (is : List StateId). i ∷ is) f.0.id_stays (ids-left os ns f.1)

  pub slots-left : (os ns : List Entry) → Follow (Left gone heir fork g) os ns → slots_of ns ≡ slots_of os
  slots-left [] [] f = refl
  slots-left [] (n ∷ ns) f = absurd (f)
  slots-left (o ∷ os) [] f = absurd (f)
  slots-left (o ∷ os) (n ∷ ns) f = ap₂ (λ (s : Slot) (ss : List Slot). s ∷ ss) f.0.slot_stays (slots-left os ns f.1)

  pub order-left : (os ns : List Entry) → Follow (Left gone heir fork g) os ns → arrive_in_order os ≡ true → arrive_in_order ns ≡ true
  order-left [] [] f up = refl
  order-left [] (n ∷ ns) f up = absurd (f)
  order-left (o ∷ os) [] f up = absurd (f)
  order-left (o ∷ []) (n ∷ []) f up = refl
  order-left (o ∷ []) (n ∷ m ∷ ns) f up = absurd (f.1)
  order-left (o ∷ p ∷ os) (n ∷ []) f up = absurd (f.1)
  order-left (o ∷ p ∷ os) (n ∷ m ∷ ns) f up =
      let parts = and_parts (ltb o.arrival p.arrival) (arrive_in_order (p ∷ os)) up in
      and_from (ltb n.arrival m.arrival) (arrive_in_order (m ∷ ns)) (ap₂ (λ a b. ltb a b) f.0.arrival_stays f.1.0.arrival_stays ∙ parts.0)
      (order-left (p ∷ os) (m ∷ ns) f.1 parts.1)

  pub childless-left : (os ns : List Entry) → Follow (Left gone heir fork g) os ns → childless_slots ns ≡ childless_slots os
  childless-left [] [] f = refl
  childless-left [] (n ∷ ns) f = absurd (f)
  childless-left (o ∷ os) [] f = absurd (f)
  childless-left (o ∷ os) (n ∷ ns) f =
      let same : is_childless n ≡ is_childless o = ap (λ (xs : List StateId). eqb (length xs) 0) f.0.children_stay in
      let rest = childless-left os ns f.1 in
      elim (cases_Bool (is_childless o)) [
        | inl t ↦ rw (t, same ∙ t) (ap₂ (λ (s : Slot) (ss : List Slot). s ∷ ss) f.0.slot_stays rest)
        | inr n ↦ rw (n, same ∙ n) rest
      ]

  pub searched-left : (x : StateId) (os ns : List Entry) → Follow (Left gone heir fork g) os ns → slot_of_id ns x ≡ slot_of_id os x
  searched-left x [] [] f = refl
  searched-left x [] (n ∷ ns) f = absurd (f)
  searched-left x (o ∷ os) [] f = absurd (f)
  searched-left x (o ∷ os) (n ∷ ns) f =
      ap₂ (λ (q : Option Slot) (i : StateId). slot_or q (cond (same_id x i) (Some n.slot) None)) (searched-left x os ns f.1) f.0.id_stays
      ∙ ap (λ s. slot_or (slot_of_id os x) (cond (same_id x o.id) (Some s) None)) f.0.slot_stays
