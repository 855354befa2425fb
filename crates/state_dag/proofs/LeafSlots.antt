-- The slots of the kept states, and of the leaves among them.
use Rattle.std.proofs.Common.{◌≡◌, ℕ, suc, ◌<◌, ◌≤◌, Bool, true, not, eqb, ltb, List, [], ◌∷◌, length, map, filter, get_or, Some, is_some, inl, inr, refl}
use Rattle.std.proofs.Common.{sym, ap, ap₂, subst, ◌∙◌, arith}
use Rattle.std.specs.List.{list_all, list_any}
use Rattle.std.specs.Option.{option_map, option_map_or}
use Rattle.std.proofs.lemmas.Bool.{and_parts, ltb-true, lt-ltb, and_from, cases_Bool, both_ways, not_from_false, false_from_ne_true}
use Rattle.tardis_base.specs.declared.ids.StateId.{StateId}
use Rattle.tardis_base.specs.declared.records.Record.{Record}
use Rattle.tardis_base.specs.Ids.{is_among}
use Rattle.plain_dag.specs.States.{arrived, children}
use Rattle.plain_dag.specs.Forks.{is_leaf, leaves}
use Rattle.plain_dag.specs.Collection.{kept_states}
use Rattle.plain_dag.specs.Laws.{StandInsAreShared}
use Rattle.plain_dag.proofs.Leaves.{leaf-is-childless}
use Rattle.state_dag.specs.Table.{Entry, Table, entry_at, id_at, is_slot, arrival_at, arrive_in_order}
use Rattle.state_dag.specs.Nodes.{Rise}
use Rattle.state_dag.specs.Views.{is_childless}
use Rattle.state_dag.specs.Stands.{Stands}
use Rattle.state_dag.proofs.Following.{childless_slots}
use Rattle.state_dag.proofs.GrownCounts.{childless-is_leaf}

-- a test that passes nothing that another one fails may be made of what passes that one
filter-within : (p q : StateId → Bool) (xs : List StateId) → ((x : StateId) → p x ≡ true → q x ≡ true) → filter p (filter q xs) ≡ filter p xs
filter-within p q [] within = refl
filter-within p q (x ∷ xs) within = elim (cases_Bool (q x)) [
  | inl t ↦ elim (cases_Bool (p x)) [
    | inl u ↦ rw (t, u) (ap (λ ys. x ∷ ys) (filter-within p q xs within))
    | inr f ↦ rw (t, f) (filter-within p q xs within)
  ]
  | inr f ↦ elim (cases_Bool (p x)) [
    | inl u ↦ absurd (both_ways (q x) f (within x u))
    | inr g ↦ rw (f, g) (filter-within p q xs within)
  ]
]

-- the leaves are kept
pub leaves-are-kept : (rs : List Record) (ks : List StateId) → StandInsAreShared rs ks → filter (is_leaf rs) (kept_states rs ks) ≡ leaves rs
leaves-are-kept rs ks shared = filter-within (is_leaf rs) (λ x. not (is_among x ks)) (arrived rs) (λ x leaf.
    not_from_false (is_among x ks) (false_from_ne_true (is_among x ks) (λ gone.
    let none = leaf-is-childless rs x leaf in
    both_ways (list_any (λ c. true) (children rs x)) (ap (list_any (λ c. true)) none) (shared x gone).0)))

-- each entry is found at its slot
abbrev pub AreFound : Table → List Entry → Type 0
AreFound table es = (k : ℕ) (d : Entry) → k < length es → entry_at table (get_or es k d).slot ≡ Some (get_or es k d)

module _ (table : Table) where
  pub found-rest : (e : Entry) (es : List Entry) → AreFound table (e ∷ es) → AreFound table es
  found-rest e es found k d lt = found (suc k) d (omega arith)

  named-here : (e : Entry) → entry_at table e.slot ≡ Some e → id_at table e.slot ≡ Some e.id
  named-here e is = ap (option_map (λ (f : Entry). f.id)) is

  -- the slots of entries that are found name their ids
  pub slots-named : (es : List Entry) → AreFound table es → map (id_at table) (map (λ e. e.slot) es) ≡ map (λ x. Some x) (map (λ e. e.id) es)
  slots-named [] found = refl
  slots-named (e ∷ es) found = ap₂ (λ o os. o ∷ os) (named-here e (found 0 e (omega arith))) (slots-named es (found-rest e es found))

  pub slots-are : (es : List Entry) → AreFound table es → list_all (is_slot table) (map (λ e. e.slot) es) ≡ true
  slots-are [] found = refl
  slots-are (e ∷ es) found =
      and_from (is_slot table e.slot) (list_all (is_slot table) (map (λ (f : Entry). f.slot) es)) (ap is_some (found 0 e (omega arith)))
      (slots-are es (found-rest e es found))

  -- so are those of entries without children
  pub leaf-slots-are : (es : List Entry) → AreFound table es → list_all (is_slot table) (childless_slots es) ≡ true
  leaf-slots-are [] found = refl
  leaf-slots-are (e ∷ es) found =
      let rest = leaf-slots-are es (found-rest e es found) in
      elim (cases_Bool (is_childless e)) [
        | inl t ↦ rw t (and_from (is_slot table e.slot) (list_all (is_slot table) (childless_slots es)) (ap is_some (found 0 e (omega arith))) rest)
        | inr f ↦ rw f rest
      ]

  -- and they name the leaves
  leaf-slots-named : (rs : List Record) (ks : List StateId) → Stands table rs ks → (es : List Entry) → AreFound table es →
      map (id_at table) (childless_slots es) ≡ map (λ x. Some x) (filter (is_leaf rs) (map (λ e. e.id) es))
  leaf-slots-named rs ks stands [] found = refl
  leaf-slots-named rs ks stands (e ∷ es) found =
      let rest = leaf-slots-named rs ks stands es (found-rest e es found) in
      let here = found 0 e (omega arith) in
      let leaf : is_childless e ≡ is_leaf rs e.id = ap (λ xs. eqb (length xs) 0) (stands.shows e.slot e here).has_children ∙ childless-is_leaf rs e.id in
      elim (cases_Bool (is_childless e)) [
        | inl t ↦ rw (t, sym leaf ∙ t) (ap₂ (λ o os. o ∷ os) (named-here e here) rest)
        | inr f ↦ rw (f, sym leaf ∙ f) rest
      ]

  pub leaf-slots-name-leaves : (rs : List Record) (ks : List StateId) → Stands table rs ks → AreFound table table.entries →
      map (id_at table) (childless_slots table.entries) ≡ map (λ x. Some x) (leaves rs)
  leaf-slots-name-leaves rs ks stands found =
      leaf-slots-named rs ks stands table.entries found ∙ ap (λ xs. map (λ x. Some x) (filter (is_leaf rs) xs)) stands.ids
      ∙ ap (map (λ x. Some x)) (leaves-are-kept rs ks stands.shared)

  pub kept-slots-name : (rs : List Record) (ks : List StateId) → Stands table rs ks → AreFound table table.entries →
      map (id_at table) (map (λ e. e.slot) table.entries) ≡ map (λ x. Some x) (kept_states rs ks)
  kept-slots-name rs ks stands found = slots-named table.entries found ∙ ap (map (λ x. Some x)) stands.ids

pub few-leaves : (es : List Entry) → length (childless_slots es) ≤ length es
few-leaves [] = omega arith
few-leaves (e ∷ es) =
    let rest = few-leaves es in
    elim (cases_Bool (is_childless e)) [
      | inl t ↦ rw t (omega arith)
      | inr f ↦ rw f (omega arith)
    ]

-- ===== Their order

-- what comes behind an entry arrived later
leaves-later : (table : Table) (p : Entry) (es : List Entry) → AreFound table es → arrive_in_order (p ∷ es) ≡ true →
    list_all (λ s. ltb p.arrival (arrival_at table s)) (childless_slots es) ≡ true
leaves-later table p [] found up = refl
leaves-later table p (e ∷ es) found up =
    let parts = and_parts (ltb p.arrival e.arrival) (arrive_in_order (e ∷ es)) up in
    let here : arrival_at table e.slot ≡ e.arrival = ap (λ o. option_map_or (λ (f : Entry). f.arrival) o 0) (found 0 e (omega arith)) in
    let rest = leaves-later table p es (found-rest table e es found) (skips es parts.0 parts.1) in
    elim (cases_Bool (is_childless e)) [
      | inl t ↦
          rw t (and_from (ltb p.arrival (arrival_at table e.slot)) (list_all (λ s. ltb p.arrival (arrival_at table s)) (childless_slots es))
          (ap (ltb p.arrival) here ∙ parts.0) rest)
      | inr f ↦ rw f rest
    ]
  where
    skips : (fs : List Entry) → ltb p.arrival e.arrival ≡ true → arrive_in_order (e ∷ fs) ≡ true → arrive_in_order (p ∷ fs) ≡ true
    skips [] one two = refl
    skips (f ∷ fs) one two =
        let parts = and_parts (ltb e.arrival f.arrival) (arrive_in_order (f ∷ fs)) two in
        let first = ltb-true p.arrival e.arrival one in
        let second = ltb-true e.arrival f.arrival parts.0 in
        and_from (ltb p.arrival f.arrival) (arrive_in_order (f ∷ fs)) (lt-ltb p.arrival f.arrival (omega arith)) parts.1

-- the leaves' slots stand in arrival order
pub leaves-rise : (table : Table) (es : List Entry) → AreFound table es → arrive_in_order es ≡ true → Rise (arrival_at table) (childless_slots es)
leaves-rise table [] found up = tt
leaves-rise table (e ∷ es) found up =
    let here : arrival_at table e.slot ≡ e.arrival = ap (λ o. option_map_or (λ (f : Entry). f.arrival) o 0) (found 0 e (omega arith)) in
    let rest = leaves-rise table es (found-rest table e es found) (in-order es up) in
    elim (cases_Bool (is_childless e)) [
      | inl t ↦ rw t (
        subst (λ m. list_all (λ s. ltb m (arrival_at table s)) (childless_slots es) ≡ true) (sym here)
            (leaves-later table e es (found-rest table e es found) up),
        rest,
      )
      | inr f ↦ rw f rest
    ]
  where
    in-order : (fs : List Entry) → arrive_in_order (e ∷ fs) ≡ true → arrive_in_order fs ≡ true
    in-order [] u = refl
    in-order (f ∷ fs) u = (and_parts (ltb e.arrival f.arrival) (arrive_in_order (f ∷ fs)) u).1

-- so do those of all entries
slots-later : (table : Table) (p : Entry) (es : List Entry) → AreFound table es → arrive_in_order (p ∷ es) ≡ true →
    list_all (λ s. ltb p.arrival (arrival_at table s)) (map (λ e. e.slot) es) ≡ true
slots-later table p [] found up = refl
slots-later table p (e ∷ es) found up =
    let parts = and_parts (ltb p.arrival e.arrival) (arrive_in_order (e ∷ es)) up in
    let here : arrival_at table e.slot ≡ e.arrival = ap (λ o. option_map_or (λ (f : Entry). f.arrival) o 0) (found 0 e (omega arith)) in
    and_from (ltb p.arrival (arrival_at table e.slot)) (list_all (λ s. ltb p.arrival (arrival_at table s)) (map (λ (f : Entry). f.slot) es))
    (ap (ltb p.arrival) here ∙ parts.0)
    (slots-later table p es (found-rest table e es found) (skips es parts.0 parts.1))
  where
    skips : (fs : List Entry) → ltb p.arrival e.arrival ≡ true → arrive_in_order (e ∷ fs) ≡ true → arrive_in_order (p ∷ fs) ≡ true
    skips [] one two = refl
    skips (f ∷ fs) one two =
        let parts = and_parts (ltb e.arrival f.arrival) (arrive_in_order (f ∷ fs)) two in
        let first = ltb-true p.arrival e.arrival one in
        let second = ltb-true e.arrival f.arrival parts.0 in
        and_from (ltb p.arrival f.arrival) (arrive_in_order (f ∷ fs)) (lt-ltb p.arrival f.arrival (omega arith)) parts.1

pub slots-rise : (table : Table) (es : List Entry) → AreFound table es → arrive_in_order es ≡ true → Rise (arrival_at table) (map (λ e. e.slot) es)
slots-rise table [] found up = tt
slots-rise table (e ∷ es) found up =
    let here : arrival_at table e.slot ≡ e.arrival = ap (λ o. option_map_or (λ (f : Entry). f.arrival) o 0) (found 0 e (omega arith)) in (
      subst (λ m. list_all (λ s. ltb m (arrival_at table s)) (map (λ (f : Entry). f.slot) es) ≡ true) (sym here)
          (slots-later table e es (found-rest table e es found) up),
      slots-rise table es (found-rest table e es found) (in-order es up),
    )
  where
    in-order : (fs : List Entry) → arrive_in_order (e ∷ fs) ≡ true → arrive_in_order fs ≡ true
    in-order [] u = refl
    in-order (f ∷ fs) u = (and_parts (ltb e.arrival f.arrival) (arrive_in_order (f ∷ fs)) u).1
