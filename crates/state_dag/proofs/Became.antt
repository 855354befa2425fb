-- What became of the entries of a table that grew, one for one.
use Rattle.std.proofs.Common.{◌≡◌, ℕ, ◌<◌, ◌≤◌, Bool, true, false, not, ◌&&◌, ◌||◌, cond, eqb, ltb, List, [], ◌∷◌, ◌++◌, length, find, get_or, Option, Some}
use Rattle.std.proofs.Common.{None, IsTrue, inl, inr, refl, sym, ap, ap₂, subst, ◌∙◌, arith}
use Rattle.std.specs.List.{list_all}
use Rattle.std.proofs.lemmas.Bool.{cases_Bool, and_parts, and_from, and_right, eq-eqb, ne_eqb, ltb-true, lt-ltb}
use Rattle.tardis_base.specs.declared.ids.StateId.{StateId}
use Rattle.tardis_base.specs.declared.ids.Slot.{Slot}
use Rattle.tardis_base.specs.Ids.{same_id}
use Rattle.fork_path.specs.Pairs.{are_ascending_pairs, has_pair}
use Rattle.state_dag.specs.declared.nodes.Node.{Node}
use Rattle.state_dag.specs.Table.{Entry, Table, arrive_in_order}
use Rattle.state_dag.specs.Views.{entry_of, entries_in, slot_or, slot_of_id}
use Rattle.state_dag.specs.Grown.{is_slot_among, is_first_branch, grown_length, only_if, KeepsPlaces, IsGrownEntry, AreGrownEntries}
use Rattle.state_dag.specs.Nodes.{AreDistinct, IsGrownNode}
use Rattle.state_dag.proofs.Following.{Follow, LosesLeaf}
use Rattle.state_dag.proofs.KeptEntries.{placed, entries-first}

-- ===== Lists that follow others

module _ (R : Entry → Entry → Type 0) where
  -- where what is related passes the tests, all pass
  pub follow-all : (p q : Entry → Bool) → ((o n : Entry) → R o n → p o ≡ true → q n ≡ true) → (os ns : List Entry) → Follow R os ns → list_all p os ≡ true
      → list_all q ns ≡ true
  follow-all p q keeps [] [] f all = refl
  follow-all p q keeps [] (n ∷ ns) f all = absurd (f)
  follow-all p q keeps (o ∷ os) [] f all = absurd (f)
  follow-all p q keeps (o ∷ os) (n ∷ ns) f all =
      let parts = and_parts (p o) (list_all p os) all in
      and_from (q n) (list_all q ns) (keeps o n f.0 parts.0) (follow-all p q keeps os ns f.1 parts.1)

  -- what is related is related otherwise too, where the old ones pass a test
  pub follow-with : (S : Entry → Entry → Type 0) (p : Entry → Bool) → ((o n : Entry) → R o n → p o ≡ true → S o n) → (os ns : List Entry) → Follow R os ns
      → list_all p os ≡ true → Follow S os ns
  follow-with S p turns [] [] f all = tt
  follow-with S p turns [] (n ∷ ns) f all = absurd (f)
  follow-with S p turns (o ∷ os) [] f all = absurd (f)
  follow-with S p turns (o ∷ os) (n ∷ ns) f all =
      let parts = and_parts (p o) (list_all p os) all in
      (turns o n f.0 parts.0, follow-with S p turns os ns f.1 parts.1)

  pub follow-as : (S : Entry → Entry → Type 0) → ((o n : Entry) → R o n → S o n) → (os ns : List Entry) → Follow R os ns → Follow S os ns
  follow-as S turns [] [] f = tt
  follow-as S turns [] (n ∷ ns) f = absurd (f)
  follow-as S turns (o ∷ os) [] f = absurd (f)
  follow-as S turns (o ∷ os) (n ∷ ns) f = (turns o n f.0, follow-as S turns os ns f.1)

  -- both are found and related, or neither is
  abbrev pub FoundBoth : Option Entry → Option Entry → Type 0
  FoundBoth None None = Unit {0}
  FoundBoth (Some o) (Some n) = R o n
  FoundBoth None (Some n) = ⊥
  FoundBoth (Some o) None = ⊥

  module _ (stays : (o n : Entry) → R o n → n.slot ≡ o.slot) where
    pub follow-found : (k : ℕ) (os ns : List Entry) → Follow R os ns → FoundBoth (find (λ e. eqb e.slot.0 k) os) (find (λ e. eqb e.slot.0 k) ns)
    follow-found k [] [] f = tt
    follow-found k [] (n ∷ ns) f = absurd (f)
    follow-found k (o ∷ os) [] f = absurd (f)
    follow-found k (o ∷ os) (n ∷ ns) f =
        let same = ap (λ (s : Slot). eqb s.0 k) (stays o n f.0) in
        elim (cases_Bool (eqb o.slot.0 k)) [
          | inl t ↦ rw (t, same ∙ t) f.0
          | inr g ↦ rw (g, same ∙ g) (follow-found k os ns f.1)
        ]

  -- the nodes in some slots
  pub follow-in : (ms ns : List Node) (d : Node) (slots : List Slot) → length ns ≡ length ms → placed ms slots ≡ true →
      ((k : ℕ) → k < length ms → is_slot_among (record { 0 = k }) slots ≡ true → R (entry_of k (get_or ms k d)) (entry_of k (get_or ns k d))) →
      Follow R (entries_in ms slots) (entries_in ns slots)
  follow-in ms ns d [] same all each = tt
  follow-in ms ns d (s ∷ slots) same all each =
      let parts = and_parts (ltb s.0 (length ms)) (placed ms slots) all in
      let lt = ltb-true s.0 (length ms) parts.0 in
      subst (λ es. Follow R es (entries_in ns (s ∷ slots))) (sym (entries-first ms d s slots lt))
      (subst (λ es. Follow R (entry_of s.0 (get_or ms s.0 d) ∷ entries_in ms slots) es) (sym (entries-first ns d s slots (omega arith))) (
        each s.0 lt (here s.0 (is_slot_among (record { 0 = s.0 }) slots)),
        follow-in ms ns d slots same parts.1 (λ k less there. each k less (later (eqb s.0 k) there)),
      ))
    where
      here : (k : ℕ) (b : Bool) → (eqb k k || b) ≡ true
      here k b = rw (eq-eqb k k refl) refl

      later : (b : Bool) {c : Bool} → c ≡ true → (b || c) ≡ true
      later true t = refl
      later false t = t

-- ===== What became of an entry

pub record Became (table : Table) (parents : List Slot) (x : StateId) (slot : Slot) (old new : Entry) : Type 0 where
  pub slot_stays : new.slot ≡ old.slot
  pub id_stays : new.id ≡ old.id
  pub arrival_stays : new.arrival ≡ old.arrival
  pub parents_stay : new.parents ≡ old.parents
  pub ascending : IsTrue (are_ascending_pairs old.path) → IsTrue (are_ascending_pairs new.path)
  pub pairs : (pair : ℕ × ℕ) → has_pair pair new.path ≡ (has_pair pair old.path || is_first_branch table parents old.slot pair)
  pub longer : length new.path ≤ grown_length table parents old
  pub child : AreDistinct parents → (new.children ≡ old.children ++ only_if (is_slot_among old.slot parents) x)
      × (new.stand_ins ≡ old.stand_ins ++ only_if (is_slot_among old.slot parents) slot)
  pub parent : IsTrue (is_slot_among old.slot parents) → 1 ≤ length new.children
  pub other : is_slot_among old.slot parents ≡ false → new.children ≡ old.children
  pub apart : is_slot_among old.slot parents ≡ false → new.stand_ins ≡ old.stand_ins
  pub slots : (test : Slot → Bool) → IsTrue (list_all test old.stand_ins) → IsTrue (test slot) → IsTrue (list_all test new.stand_ins)
  pub places : KeepsPlaces old.stand_ins new.stand_ins

and-true : (b : Bool) → (b && true) ≡ b
and-true true = refl
and-true false = refl

module _ (table : Table) (parents : List Slot) (x : StateId) (slot : Slot) where
  pub became : (k : ℕ) (o n : Node) → IsGrownNode table parents x slot k o n → Became table parents x slot (entry_of k o) (entry_of k n)
  became k o n h = record {
    slot_stays = refl;
    id_stays = h.id_stays;
    arrival_stays = h.arrival_stays;
    parents_stay = ap (λ v. v.items) h.parents_stay;
    ascending = h.ascending;
    pairs = h.pairs;
    longer = h.longer;
    child = λ distinct. (let child = h.child distinct in (child.children, child.stand_ins));
    parent = h.parent;
    other = h.other;
    apart = h.apart;
    slots = h.slots;
    places = h.places;
  }

  pub loses-leaf : (o n : Entry) → Became table parents x slot o n → LosesLeaf parents o n
  loses-leaf o n h = record {
    slot_stays = h.slot_stays;
    childless = elim (cases_Bool (is_slot_among o.slot parents)) [
      | inl t ↦
          let some = h.parent t in
          ne_eqb (length n.children) 0 (λ e. omega arith) ∙ sym (and_right (eqb (length o.children) 0) (not (is_slot_among o.slot parents)) (ap not t))
      | inr f ↦ ap (λ (xs : List StateId). eqb (length xs) 0) (h.other f)
          ∙ sym (ap (λ b. eqb (length o.children) 0 && not b) f ∙ and-true (eqb (length o.children) 0))
    ];
  }

  pub grown-entry : AreDistinct parents → (o n : Entry) → Became table parents x slot o n → are_ascending_pairs o.path ≡ true →
      IsGrownEntry table parents x slot o n
  grown-entry distinct o n h up =
      let child = h.child distinct in
      record {
        slot_stays = h.slot_stays;
        id_stays = h.id_stays;
        arrival_stays = h.arrival_stays;
        parents_stay = h.parents_stay;
        children = child.0;
        stand_ins = child.1;
        ascending = h.ascending up;
        path = h.pairs;
      }

  pub grown-each : (os ns : List Entry) → Follow (IsGrownEntry table parents x slot) os ns → AreGrownEntries table parents x slot os ns
  grown-each [] [] f = tt
  grown-each [] (n ∷ ns) f = absurd (f)
  grown-each (o ∷ os) [] f = absurd (f)
  grown-each (o ∷ os) (n ∷ ns) f = (f.0, grown-each os ns f.1)

  -- ===== What stays

  abbrev Follows : List Entry → List Entry → Type 0
  Follows os ns = Follow (Became table parents x slot) os ns

  pub slots-of_id : (os ns : List Entry) → Follows os ns → (y : StateId) → slot_of_id ns y ≡ slot_of_id os y
  slots-of_id [] [] f y = refl
  slots-of_id [] (n ∷ ns) f y = absurd (f)
  slots-of_id (o ∷ os) [] f y = absurd (f)
  slots-of_id (o ∷ os) (n ∷ ns) f y =
      ap₂ (λ (later : Option Slot) (here : Option Slot). slot_or later here) (slots-of_id os ns f.1 y)
      (ap₂ (λ (i : StateId) (s : Slot). cond (same_id y i) (Some s) None) f.0.id_stays f.0.slot_stays)

  -- entries in order stay so, with one more that arrived last
  pub order-last : (known : ℕ) (os ns : List Entry) (e : Entry) → Follows os ns → e.arrival ≡ known → list_all (λ m. ltb m.arrival known) os ≡ true →
      arrive_in_order os ≡ true → arrive_in_order (ns ++ e ∷ []) ≡ true
  order-last known [] [] e f last all up = refl
  order-last known [] (n ∷ ns) e f last all up = absurd (f)
  order-last known (o ∷ os) [] e f last all up = absurd (f)
  order-last known (o ∷ []) (n ∷ []) e f last all up =
      let before = ltb-true o.arrival known (and_parts (ltb o.arrival known) true all).0 in
      let here = f.0.arrival_stays in
      and_from (ltb n.arrival e.arrival) true (lt-ltb n.arrival e.arrival (omega arith)) refl
  order-last known (o ∷ []) (n ∷ m ∷ ns) e f last all up = absurd (f.1)
  order-last known (o ∷ p ∷ os) (n ∷ []) e f last all up = absurd (f.1)
  order-last known (o ∷ p ∷ os) (n ∷ m ∷ ns) e f last all up =
      let parts = and_parts (ltb o.arrival p.arrival) (arrive_in_order (p ∷ os)) up in
      let rest = and_parts (ltb o.arrival known) (list_all (λ z. ltb z.arrival known) (p ∷ os)) all in
      let lt = ltb-true o.arrival p.arrival parts.0 in
      let here = f.0.arrival_stays in
      let next = f.1.0.arrival_stays in
      and_from (ltb n.arrival m.arrival) (arrive_in_order (m ∷ ns ++ e ∷ [])) (lt-ltb n.arrival m.arrival (omega arith))
      (order-last known (p ∷ os) (m ∷ ns) e f.1 last rest.1 parts.1)

-- the id of one more entry is in its slot
pub slot-of_id-last : (es : List Entry) (e : Entry) (y : StateId) → slot_of_id (es ++ e ∷ []) y ≡ cond (same_id y e.id) (Some e.slot) (slot_of_id es y)
slot-of_id-last [] e y = refl
slot-of_id-last (f ∷ es) e y =
    let here : Option Slot = cond (same_id y f.id) (Some f.slot) None in
    ap (λ later. slot_or later here) (slot-of_id-last es e y) ∙ drawn (same_id y e.id) e.slot (slot_of_id es y) here
  where
    drawn : (b : Bool) (s : Slot) (later here : Option Slot) → slot_or (cond b (Some s) later) here ≡ cond b (Some s) (slot_or later here)
    drawn true s later here = refl
    drawn false s later here = refl
