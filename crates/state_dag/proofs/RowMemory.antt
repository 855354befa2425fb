-- The memory of a table in which another state has come in place of the last.
use Rattle.std.proofs.Common.{◌≡◌, ℕ, ◌+◌, ◌-◌, ◌<◌, ◌≤◌, Bool, true, false, cond, eqb, leb, ltb, List, [], ◌∷◌, ◌++◌, length, map, filter, find}
use Rattle.std.proofs.Common.{sum, take, get_or, set, Option, Some, None, is_some, IsTrue, inl, inr, refl, sym, ap, ap₂, subst, ◌∙◌, eqb-true, eq-eqb, arith}
use Rattle.std.specs.List.{list_all}
use Rattle.std.specs.Option.{option_map_or}
use Rattle.std.proofs.lemmas.Bool.{both_ways, cases_eq, or_from, or_parts, false_from_ne_true, and_parts, and_from, cases_Bool, cond-true, ltb-true}
use Rattle.std.proofs.lemmas.Bool.{leb-true, le-leb, lt-ltb}
use Rattle.std.proofs.lemmas.List.{length-set, get_or-set_same, get_or-set_other, map-append}
use Rattle.std.proofs.lemmas.List.Elements.{filter-append}
use Rattle.std.proofs.lemmas.Option.{none-some}
use Rattle.tardis_base.specs.declared.ids.StateId.{StateId}
use Rattle.tardis_base.specs.declared.ids.Slot.{Slot}
use Rattle.tardis_base.specs.Ids.{same_id, is_among}
use Rattle.tardis_base.specs.Valid.{are_limits}
use Rattle.fork_path.specs.Pairs.{are_ascending_pairs}
use Rattle.state_dag.specs.declared.StateDag.TheInside.{Inside}
use Rattle.state_dag.specs.declared.nodes.Node.{Node}
use Rattle.state_dag.specs.IdSlots.{slot_of_state}
use Rattle.state_dag.specs.Table.{Entry, Table, entry_at, is_slot, arrive_in_order, arrival_at}
use Rattle.state_dag.specs.Views.{entry_of, entries_in, is_childless, slot_of_id, is_counted, AllDiffer}
use Rattle.state_dag.specs.Held.{kept_of, seen, IsHeld}
use Rattle.state_dag.specs.Answers.{slot_after}
use Rattle.state_dag.specs.Grown.{is_slot_among}
use Rattle.state_dag.specs.Nodes.{with_node, AreDistinct}
use Rattle.state_dag.proofs.Following.{childless_slots}
use Rattle.state_dag.proofs.SameEntries.{all-last, sum-set, all-set}
use Rattle.state_dag.proofs.KeptEntries.{slots_of, placed, all-found, entries-put, entries-next}
use Rattle.state_dag.proofs.Memory.{kept-placed, kept-slots, kept-distinct, entries-apart}
use Rattle.state_dag.proofs.GrownSlots.{or_else, find-after}
use Rattle.state_dag.proofs.Became.{slot-of_id-last}
use Rattle.state_dag.proofs.Known.{differ-last}
use Rattle.state_dag.proofs.LeftEntries.{found-mid, found-other}
use Rattle.state_dag.proofs.RowTables.{same-ends}
use Rattle.plain_dag.proofs.Ids.{same_id-true, same_id_turns, among-append}

-- ===== Entries that end in one

-- the slot behind which there is none is that of the last
pub split-at : (es : List Entry) (s : Slot) → is_some (find (λ e. eqb e.slot.0 s.0) es) ≡ true → slot_after es (Some s) ≡ None →
    (front : List Entry) × (e : Entry) × (es ≡ front ++ e ∷ []) × (e.slot ≡ s)
split-at [] s there none = absurd (both_ways false refl there)
split-at (e ∷ []) s there none = elim (cases_Bool (eqb e.slot.0 s.0)) [
  | inl t ↦ ([], e, refl, (let named : ℕ → Slot = λ n. record { 0 = n } in ap named (eqb-true e.slot.0 s.0 t)))
  | inr f ↦ absurd (both_ways false refl (rw f at there))
]
split-at (e ∷ f ∷ es) s there none = elim (cases_Bool (eqb e.slot.0 s.0)) [
  | inl t ↦ absurd (none-some f.slot (sym (rw t at none)))
  | inr g ↦
      let w = split-at (f ∷ es) s (rw g at there) (rw g at none) in
      (e ∷ w.0, w.1, ap (λ fs. e ∷ fs) w.2, w.3)
]

all-ends : (p : Entry → Bool) (front : List Entry) (e : Entry) → list_all p (front ++ e ∷ []) ≡ true → (list_all p front ≡ true) × (p e ≡ true)
all-ends p [] e all = (refl, (and_parts (p e) true all).0)
all-ends p (f ∷ front) e all =
    let parts = and_parts (p f) (list_all p (front ++ e ∷ [])) all in
    let rest = all-ends p front e parts.1 in
    (and_from (p f) (list_all p front) parts.0 rest.0, rest.1)

all-weaker : {X : Type 0} (p q : X → Bool) → ((x : X) → p x ≡ true → q x ≡ true) → (xs : List X) → list_all p xs ≡ true → list_all q xs ≡ true
all-weaker p q turns [] all = refl
all-weaker p q turns (x ∷ xs) all =
    let parts = and_parts (p x) (list_all p xs) all in
    and_from (q x) (list_all q xs) (turns x parts.0) (all-weaker p q turns xs parts.1)

-- each before the last arrived before it
before-last : (front : List Entry) (e : Entry) → arrive_in_order (front ++ e ∷ []) ≡ true → list_all (λ f. ltb f.arrival e.arrival) front ≡ true
before-last [] e up = refl
before-last (f ∷ []) e up = up
before-last (f ∷ g ∷ front) e up =
    let parts = and_parts (ltb f.arrival g.arrival) (arrive_in_order (g ∷ front ++ e ∷ [])) up in
    let rest = before-last (g ∷ front) e parts.1 in
    let next = ltb-true g.arrival e.arrival (and_parts (ltb g.arrival e.arrival) (list_all (λ (h : Entry). ltb h.arrival e.arrival) front) rest).0 in
    let first = ltb-true f.arrival g.arrival parts.0 in
    and_from (ltb f.arrival e.arrival) (list_all (λ (h : Entry). ltb h.arrival e.arrival) (g ∷ front)) (lt-ltb f.arrival e.arrival (omega arith)) rest

order-ends : (front : List Entry) (e m : Entry) → e.arrival ≤ m.arrival → arrive_in_order (front ++ e ∷ []) ≡ true → arrive_in_order (front ++ m ∷ []) ≡ true
order-ends [] e m le up = refl
order-ends (f ∷ []) e m le up =
    let parts = and_parts (ltb f.arrival e.arrival) true up in
    let lt = ltb-true f.arrival e.arrival parts.0 in
    and_from (ltb f.arrival m.arrival) true (lt-ltb f.arrival m.arrival (omega arith)) refl
order-ends (f ∷ g ∷ front) e m le up =
    let parts = and_parts (ltb f.arrival g.arrival) (arrive_in_order (g ∷ front ++ e ∷ [])) up in
    and_from (ltb f.arrival g.arrival) (arrive_in_order (g ∷ front ++ m ∷ [])) parts.0 (order-ends (g ∷ front) e m le parts.1)

childless-ends : (front : List Entry) (e m : Entry) → m.slot ≡ e.slot → m.children ≡ e.children → childless_slots (front ++ m ∷ []) ≡ childless_slots (front ++ e ∷ [])
childless-ends front e m same leaf =
    let slot_of : Entry → Slot = λ f. f.slot in
    ap (map slot_of) (filter-append is_childless front (m ∷ []))
    ∙ (map-append slot_of (filter is_childless front) (filter is_childless (m ∷ []))
    ∙ (ap (λ ss. map slot_of (filter is_childless front) ++ ss) last
    ∙ sym (ap (map slot_of) (filter-append is_childless front (e ∷ [])) ∙ map-append slot_of (filter is_childless front) (filter is_childless (e ∷ [])))))
  where
    last : map (λ (f : Entry). f.slot) (filter is_childless (m ∷ [])) ≡ map (λ (f : Entry). f.slot) (filter is_childless (e ∷ []))
    last = elim (cases_Bool (is_childless e)) [
      | inl t ↦ rw (t, ap (λ (cs : List StateId). eqb (length cs) 0) leaf ∙ t) (ap (λ (s : Slot). s ∷ []) same)
      | inr f ↦ rw (f, ap (λ (cs : List StateId). eqb (length cs) 0) leaf ∙ f) refl
    ]

-- ===== Ids

differ-front : (xs : List StateId) (y : StateId) → AllDiffer (xs ++ y ∷ []) → AllDiffer xs
differ-front [] y d = tt
differ-front (x ∷ xs) y d = ((or_parts (is_among x xs) (is_among x (y ∷ [])) (sym (among-append x xs (y ∷ [])) ∙ d.0)).0, differ-front xs y d.1)

last-differs : (xs : List StateId) (y : StateId) → AllDiffer (xs ++ y ∷ []) → is_among y xs ≡ false
last-differs [] y d = refl
last-differs (x ∷ xs) y d =
    let apart : same_id x y ≡ false = (or_parts (same_id x y) false (or_parts (is_among x xs) (is_among x (y ∷ []))
    (sym (among-append x xs (y ∷ [])) ∙ d.0)).1).0 in
    or_from (same_id y x) (is_among y xs) (same_id_turns y x ∙ apart) (last-differs xs y d.1)

unlisted-none : (es : List Entry) (x : StateId) → is_among x (map (λ e. e.id) es) ≡ false → slot_of_id es x ≡ None
unlisted-none [] x out = refl
unlisted-none (e ∷ es) x out =
    let parts = or_parts (same_id x e.id) (is_among x (map (λ (f : Entry). f.id) es)) out in
    rw (unlisted-none es x parts.1) (rw parts.0 refl)

-- a number beyond those counted is none of these
uncounted-differs : (cs : List ℕ) (x : StateId) → get_or cs (x.site - 1) 0 < x.sequence → (es : List Entry) → list_all (λ e. is_counted cs e.id) es ≡ true →
    is_among x (map (λ e. e.id) es) ≡ false
uncounted-differs cs x beyond [] all = refl
uncounted-differs cs x beyond (e ∷ es) all =
    let parts = and_parts (is_counted cs e.id) (list_all (λ (f : Entry). is_counted cs f.id) es) all in
    or_from (same_id x e.id) (is_among x (map (λ (f : Entry). f.id) es))
    (false_from_ne_true (same_id x e.id) (λ t.
    let within = leb-true x.sequence (get_or cs (x.site - 1) 0) (subst (λ z. is_counted cs z ≡ true) (sym (same_id-true x e.id t)) parts.0) in
    omega arith))
    (uncounted-differs cs x beyond es parts.1)

-- what is counted is so with more
counted-still : (cs : List ℕ) (i c : ℕ) (x : StateId) → i < length cs → get_or cs i 0 ≤ c → is_counted cs x ≡ true → is_counted (set cs i c) x ≡ true
counted-still cs i c x inside more t =
    let within = leb-true x.sequence (get_or cs (x.site - 1) 0) t in
    elim (cases_eq (x.site - 1) i) [
      | inl e ↦
          let now = ap (λ (m : ℕ). get_or (set cs i c) m 0) e ∙ get_or-set_same cs i c 0 inside in
          let was = ap (λ (m : ℕ). get_or cs m 0) e in
          le-leb x.sequence (get_or (set cs i c) (x.site - 1) 0) (omega arith)
      | inr ne ↦
          let same = get_or-set_other cs i (x.site - 1) c 0 ne in
          le-leb x.sequence (get_or (set cs i c) (x.site - 1) 0) (omega arith)
    ]

-- ===== Another state in place of the last

-- the last of a table's entries is found at its slot
pub found-end : (a : Inside) → IsHeld a → (front : List Entry) (e : Entry) → (seen a).entries ≡ front ++ e ∷ [] → entry_at (seen a) e.slot ≡ Some e
found-end a held front e was = ap (find (λ f. eqb f.slot.0 e.slot.0)) was
    ∙ found-mid front e [] (subst (λ es. AreDistinct (slots_of es)) was (entries-apart a held))

-- each other slot's arrived before it
pub earlier-than-last : (a : Inside) → IsHeld a → (front : List Entry) (e : Entry) → (seen a).entries ≡ front ++ e ∷ [] → (s : Slot) →
    eqb e.slot.0 s.0 ≡ false → is_slot (seen a) s ≡ true → arrival_at (seen a) s < arrival_at (seen a) e.slot
earlier-than-last a held front e was s other there =
    let at_end = ap (λ o. option_map_or (λ (f : Entry). f.arrival) o 0) (found-end a held front e was) in
    let looked : entry_at (seen a) s ≡ or_else (find (λ f. eqb f.slot.0 s.0) front) None =
    ap (find (λ f. eqb f.slot.0 s.0)) was ∙ (find-after s.0 front e ∙ ap (λ b. or_else (find (λ f. eqb f.slot.0 s.0) front) (cond b (Some e) None)) other) in
    let here = go (find (λ f. eqb f.slot.0 s.0) front) refl looked in
    omega arith
  where
    early : list_all (λ f. ltb f.arrival e.arrival) front ≡ true
    early = before-last front e (subst (λ es. arrive_in_order es ≡ true) was held.in_order)

    go : (o : Option Entry) → find (λ f. eqb f.slot.0 s.0) front ≡ o → entry_at (seen a) s ≡ or_else o None → arrival_at (seen a) s < e.arrival
    go None is looked = absurd (both_ways (is_slot (seen a) s) (ap is_some looked) there)
    go (Some f) is looked =
        let lt = ltb-true f.arrival e.arrival (all-found (λ (g : Entry). ltb g.arrival e.arrival) front s.0 f is early) in
        let now = ap (λ o. option_map_or (λ (g : Entry). g.arrival) o 0) looked in
        omega arith

module _ (a b : Inside) (held : IsHeld a) (front : List Entry) (e : Entry) (was : (seen a).entries ≡ front ++ e ∷ []) (d : Node) (n : Node)
    (renames : entry_of e.slot.0 n ≡ record (entry_of e.slot.0 (get_or a.nodes.items e.slot.0 d)) { id = n.id; arrival = n.arrival; parents = n.parents.items })
    (nodes : b.nodes.items ≡ set a.nodes.items e.slot.0 n) (order : b.order ≡ a.order) (kept : b.kept ≡ a.kept) where
  slots : kept_of a ≡ slots_of front ++ e.slot ∷ []
  slots = sym (kept-slots a held) ∙ ap slots_of was ∙ map-append (λ f. f.slot) front (e ∷ [])

  all-placed : (placed a.nodes.items (slots_of front) ≡ true) × (e.slot.0 < length a.nodes.items)
  all-placed =
      let all : placed a.nodes.items (slots_of front ++ e.slot ∷ []) ≡ true = subst (λ ss. placed a.nodes.items ss ≡ true) slots (kept-placed a held) in
      split (slots_of front) all
    where
      split : (ss : List Slot) → placed a.nodes.items (ss ++ e.slot ∷ []) ≡ true → (placed a.nodes.items ss ≡ true) × (e.slot.0 < length a.nodes.items)
      split [] all = (refl, ltb-true e.slot.0 (length a.nodes.items) (and_parts (ltb e.slot.0 (length a.nodes.items)) true all).0)
      split (s ∷ ss) all =
          let parts = and_parts (ltb s.0 (length a.nodes.items)) (placed a.nodes.items (ss ++ e.slot ∷ [])) all in
          let rest = split ss parts.1 in
          (and_from (ltb s.0 (length a.nodes.items)) (placed a.nodes.items ss) parts.0 rest.0, rest.1)

  apart : is_slot_among e.slot (slots_of front) ≡ false
  apart = split (slots_of front) (subst AreDistinct slots (kept-distinct a held))
    where
      among-ends : (s : Slot) (ss : List Slot) → is_slot_among s (ss ++ e.slot ∷ []) ≡ false → (is_slot_among s ss ≡ false) × (eqb e.slot.0 s.0 ≡ false)
      among-ends s [] out = (refl, (or_parts (eqb e.slot.0 s.0) false out).0)
      among-ends s (t ∷ ss) out =
          let parts = or_parts (eqb t.0 s.0) (is_slot_among s (ss ++ e.slot ∷ [])) out in
          let rest = among-ends s ss parts.1 in
          (or_from (eqb t.0 s.0) (is_slot_among s ss) parts.0 rest.0, rest.1)

      split : (ss : List Slot) → AreDistinct (ss ++ e.slot ∷ []) → is_slot_among e.slot ss ≡ false
      split [] distinct = refl
      split (s ∷ ss) distinct =
          let other = (among-ends s ss distinct.0).1 in
          or_from (eqb s.0 e.slot.0) (is_slot_among e.slot ss)
          (false_from_ne_true (eqb s.0 e.slot.0) (λ t. both_ways (eqb e.slot.0 s.0) other (eq-eqb e.slot.0 s.0 (sym (eqb-true s.0 e.slot.0 t)))))
          (split ss distinct.1)

  -- the entries before the last are those of the slots before its, and it is that of its own
  entries-split : (entries_in a.nodes.items (slots_of front) ≡ front) × (entry_of e.slot.0 (get_or a.nodes.items e.slot.0 d) ≡ e)
  entries-split = same-ends (entries_in a.nodes.items (slots_of front)) front (entry_of e.slot.0 (get_or a.nodes.items e.slot.0 d)) e
      (sym (entries-put a.nodes.items d (slots_of front) e.slot all-placed.0 all-placed.1) ∙ ap (entries_in a.nodes.items) (sym slots) ∙ was)

  abbrev m : Entry
  m = record e { id = n.id; arrival = n.arrival; parents = n.parents.items }

  pub entries-moved : (seen b).entries ≡ front ++ m ∷ []
  entries-moved =
      let lt = all-placed.1 in
      let is : with_node a.nodes.items e.slot.0 n ≡ set a.nodes.items e.slot.0 n = cond-true (ltb e.slot.0 (length a.nodes.items))
      (set a.nodes.items e.slot.0 n) (a.nodes.items ++ n ∷ []) (lt-ltb e.slot.0 (length a.nodes.items) lt) in
      let listed : kept_of b ≡ slots_of front ++ e.slot ∷ [] = ap₂ (λ o (k : ℕ). take k o.items) order kept ∙ slots in
      let changed : Entry → Entry = λ f. record f { id = n.id; arrival = n.arrival; parents = n.parents.items } in
      ap₂ (λ (ns : List Node) (ss : List Slot). entries_in ns ss) (nodes ∙ sym is) listed
      ∙ (entries-next a.nodes.items n (slots_of front) e.slot all-placed.0 apart (omega arith)
      ∙ ap₂ (λ (es : List Entry) (f : Entry). es ++ f ∷ []) entries-split.0 (renames ∙ ap changed entries-split.1))

  -- ===== Slots

  distinct-old : AreDistinct (slots_of (front ++ e ∷ []))
  distinct-old = subst (λ es. AreDistinct (slots_of es)) was (entries-apart a held)

  distinct-new : AreDistinct (slots_of (front ++ m ∷ []))
  distinct-new = subst AreDistinct (map-append (λ f. f.slot) front (e ∷ []) ∙ sym (map-append (λ f. f.slot) front (m ∷ []))) distinct-old

  pub found-last : entry_at (seen b) e.slot ≡ Some m
  found-last = ap (find (λ f. eqb f.slot.0 e.slot.0)) entries-moved ∙ found-mid front m [] distinct-new

  found-before : entry_at (seen a) e.slot ≡ Some e
  found-before = found-end a held front e was

  pub found-other-than : (s : Slot) → eqb e.slot.0 s.0 ≡ false → entry_at (seen b) s ≡ entry_at (seen a) s
  found-other-than s other =
      ap (find (λ f. eqb f.slot.0 s.0)) entries-moved ∙ found-other front m [] s.0 other
      ∙ sym (ap (find (λ f. eqb f.slot.0 s.0)) was ∙ found-other front e [] s.0 other)

  at-last : (s : Slot) → eqb e.slot.0 s.0 ≡ true → s ≡ e.slot
  at-last s t = (let named : ℕ → Slot = λ k. record { 0 = k } in ap named (sym (eqb-true e.slot.0 s.0 t)))

  pub slots-same : (s : Slot) → is_slot (seen b) s ≡ is_slot (seen a) s
  slots-same s = elim (cases_Bool (eqb e.slot.0 s.0)) [
    | inl t ↦ subst (λ z. is_slot (seen b) z ≡ is_slot (seen a) z) (sym (at-last s t)) (ap is_some found-last ∙ sym (ap is_some found-before))
    | inr f ↦ ap is_some (found-other-than s f)
  ]

  module _ (later : e.arrival ≤ n.arrival) where
    arrives-no_sooner : (s : Slot) → arrival_at (seen a) s ≤ arrival_at (seen b) s
    arrives-no_sooner s = elim (cases_Bool (eqb e.slot.0 s.0)) [
      | inl t ↦
          let now = ap (λ o. option_map_or (λ (f : Entry). f.arrival) o 0) found-last in
          let then = ap (λ o. option_map_or (λ (f : Entry). f.arrival) o 0) found-before in
          subst (λ z. arrival_at (seen a) z ≤ arrival_at (seen b) z) (sym (at-last s t)) (omega arith)
      | inr f ↦ (let same = ap (λ o. option_map_or (λ (g : Entry). g.arrival) o 0) (found-other-than s f) in omega arith)
    ]

  -- nothing stands below the last
  pub no-stand_ins : e.stand_ins ≡ []
  no-stand_ins = go e.stand_ins (all-ends (λ f. list_all (is_slot (seen a)) f.stand_ins) front e
      (subst (λ es. list_all (λ (f : Entry). list_all (is_slot (seen a)) f.stand_ins) es ≡ true) was held.stand_ins)).1
      (all-ends (λ f. list_all (λ s. ltb f.arrival (arrival_at (seen a) s)) f.stand_ins) front e
      (subst (λ es. list_all (λ (f : Entry). list_all (λ (s : Slot). ltb f.arrival (arrival_at (seen a) s)) f.stand_ins) es ≡ true) was held.later)).1
    where
      latest : list_all (λ f. leb f.arrival e.arrival) (seen a).entries ≡ true
      latest = subst (λ es. list_all (λ (f : Entry). leb f.arrival e.arrival) es ≡ true) (sym was)
          (all-last (λ (f : Entry). leb f.arrival e.arrival) front e
          (all-weaker (λ (f : Entry). ltb f.arrival e.arrival) (λ (f : Entry). leb f.arrival e.arrival)
          (λ f t. (let lt = ltb-true f.arrival e.arrival t in le-leb f.arrival e.arrival (omega arith))) front
          (before-last front e (subst (λ es. arrive_in_order es ≡ true) was held.in_order)))
          (le-leb e.arrival e.arrival (omega arith)))

      within : (s : Slot) (o : Option Entry) → entry_at (seen a) s ≡ o → is_some o ≡ true → arrival_at (seen a) s ≤ e.arrival
      within s None is t = absurd (both_ways false refl t)
      within s (Some f) is t =
          let le = leb-true f.arrival e.arrival (all-found (λ (g : Entry). leb g.arrival e.arrival) (seen a).entries s.0 f is latest) in
          let here = ap (λ o. option_map_or (λ (g : Entry). g.arrival) o 0) is in
          omega arith

      go : (ss : List Slot) → list_all (is_slot (seen a)) ss ≡ true → list_all (λ s. ltb e.arrival (arrival_at (seen a) s)) ss ≡ true → ss ≡ []
      go [] there late = refl
      go (s ∷ ss) there late =
          let one = (and_parts (is_slot (seen a) s) (list_all (is_slot (seen a)) ss) there).0 in
          let two = ltb-true e.arrival (arrival_at (seen a) s)
          (and_parts (ltb e.arrival (arrival_at (seen a) s)) (list_all (λ (t : Slot). ltb e.arrival (arrival_at (seen a) t)) ss) late).0 in
          let le = within s (entry_at (seen a) s) refl one in
          absurd (omega arith)

  -- ===== All of it

  pub held-moved : (i c more : ℕ) → b.limits ≡ a.limits → b.leaves ≡ a.leaves → b.since ≡ a.since → b.known ≡ a.known + more →
      b.counts.items ≡ set a.counts.items i c → c ≡ get_or a.counts.items i 0 + more → 1 ≤ more → i < length a.counts.items → c < 4294967296 →
      i ≡ n.id.site - 1 → c ≡ n.id.sequence → n.arrival + 1 ≡ a.known + more →
      ((x : StateId) → slot_of_state b.slots x ≡ cond (same_id x e.id) None (cond (same_id x n.id) (Some e.slot) (slot_of_state a.slots x))) → IsHeld b
  held-moved i c more limits leaves since known counts is some inside fits at_site last arrives slots_now =
      let most = ap (λ l. l.max_kept) limits in
      let listed = ap (λ o. length o.items) order in
      let size : length b.nodes.items ≡ length a.nodes.items = ap length nodes ∙ length-set a.nodes.items e.slot.0 n in
      let arrived = all-ends (λ f. ltb f.arrival a.known) front e (subst (λ es. list_all (λ (f : Entry). ltb f.arrival a.known) es ≡ true) was held.arrived) in
      let before = ltb-true e.arrival a.known arrived.1 in
      let later : e.arrival ≤ n.arrival = omega arith in
      let here = ap (λ (k : ℕ). get_or a.counts.items k 0) at_site in
      let beyond : get_or a.counts.items (n.id.site - 1) 0 < n.id.sequence = omega arith in
      let counted = all-ends (λ f. is_counted a.counts.items f.id) front e
      (subst (λ es. list_all (λ (f : Entry). is_counted a.counts.items f.id) es ≡ true) was held.among_counted) in
      let fresh = uncounted-differs a.counts.items n.id beyond front counted.0 in
      let ids : AllDiffer (map (λ (f : Entry). f.id) front ++ e.id ∷ []) =
      subst AllDiffer (ap (map (λ (f : Entry). f.id)) was ∙ map-append (λ f. f.id) front (e ∷ [])) held.once in
      record {
        valid = subst (λ l. IsTrue (are_limits l)) (sym limits) held.valid;
        some = (let one = held.some in omega arith);
        within = (let one = held.within in omega arith);
        inside = (let one = held.inside in omega arith);
        used = ap (λ o. o.used) order ∙ held.used ∙ sym kept;
        all = (let one = held.all in omega arith);
        few = (let one = held.few in omega arith);
        placed = subst (λ o. list_all (λ (s : Slot). ltb s.0 (length b.nodes.items)) o.items ≡ true) (sym order)
            (subst (λ (k : ℕ). list_all (λ (s : Slot). ltb s.0 k) a.order.items ≡ true) (sym size) held.placed);
        distinct = subst (λ o. AreDistinct o.items) (sym order) held.distinct;
        in_order = subst (λ es. arrive_in_order es ≡ true) (sym entries-moved)
            (order-ends front e m later (subst (λ es. arrive_in_order es ≡ true) was held.in_order));
        arrived = subst (λ es. list_all (λ (f : Entry). ltb f.arrival b.known) es ≡ true) (sym entries-moved)
            (all-last (λ (f : Entry). ltb f.arrival b.known) front m
            (all-weaker (λ (f : Entry). ltb f.arrival a.known) (λ (f : Entry). ltb f.arrival b.known)
            (λ f t. (let lt = ltb-true f.arrival a.known t in lt-ltb f.arrival b.known (omega arith))) front arrived.0)
            (lt-ltb n.arrival b.known (omega arith)));
        ascending = subst (λ es. list_all (λ (f : Entry). are_ascending_pairs f.path) es ≡ true) (sym entries-moved)
            (let parts = all-ends (λ f. are_ascending_pairs f.path) front e
            (subst (λ es. list_all (λ (f : Entry). are_ascending_pairs f.path) es ≡ true) was held.ascending) in
            all-last (λ (f : Entry). are_ascending_pairs f.path) front m parts.0 parts.1);
        short = subst (λ es. list_all (λ (f : Entry). leb (length f.path) b.limits.max_path) es ≡ true) (sym entries-moved)
            (subst (λ l. list_all (λ (f : Entry). leb (length f.path) l.max_path) (front ++ m ∷ []) ≡ true) (sym limits)
            (let parts = all-ends (λ f. leb (length f.path) a.limits.max_path) front e
            (subst (λ es. list_all (λ (f : Entry). leb (length f.path) a.limits.max_path) es ≡ true) was held.short) in
            all-last (λ (f : Entry). leb (length f.path) a.limits.max_path) front m parts.0 parts.1));
        stand_ins = subst (λ es. list_all (λ (f : Entry). list_all (is_slot (seen b)) f.stand_ins) es ≡ true) (sym entries-moved)
            (let parts = all-ends (λ f. list_all (is_slot (seen a)) f.stand_ins) front e
            (subst (λ es. list_all (λ (f : Entry). list_all (is_slot (seen a)) f.stand_ins) es ≡ true) was held.stand_ins) in
            all-last (λ (f : Entry). list_all (is_slot (seen b)) f.stand_ins) front m
            (all-weaker (λ (f : Entry). list_all (is_slot (seen a)) f.stand_ins) (λ (f : Entry). list_all (is_slot (seen b)) f.stand_ins)
            (λ f t. all-weaker (is_slot (seen a)) (is_slot (seen b)) (λ s u. slots-same s ∙ u) f.stand_ins t) front parts.0)
            (ap (list_all (is_slot (seen b))) no-stand_ins));
        later = subst (λ es. list_all (λ (f : Entry). list_all (λ (s : Slot). ltb f.arrival (arrival_at (seen b) s)) f.stand_ins) es ≡ true) (sym entries-moved)
            (let parts = all-ends (λ f. list_all (λ s. ltb f.arrival (arrival_at (seen a) s)) f.stand_ins) front e
            (subst (λ es. list_all (λ (f : Entry). list_all (λ (s : Slot). ltb f.arrival (arrival_at (seen a) s)) f.stand_ins) es ≡ true) was held.later) in
            all-last (λ (f : Entry). list_all (λ (s : Slot). ltb f.arrival (arrival_at (seen b) s)) f.stand_ins) front m
            (all-weaker (λ (f : Entry). list_all (λ (s : Slot). ltb f.arrival (arrival_at (seen a) s)) f.stand_ins)
            (λ (f : Entry). list_all (λ (s : Slot). ltb f.arrival (arrival_at (seen b) s)) f.stand_ins)
            (λ f t. all-weaker (λ (s : Slot). ltb f.arrival (arrival_at (seen a) s)) (λ (s : Slot). ltb f.arrival (arrival_at (seen b) s)) (λ s u.
            (let lt = ltb-true f.arrival (arrival_at (seen a) s) u in let le = arrives-no_sooner later s in lt-ltb f.arrival (arrival_at (seen b) s) (omega arith)))
            f.stand_ins t) front parts.0)
            (ap (list_all (λ (s : Slot). ltb n.arrival (arrival_at (seen b) s))) no-stand_ins));
        childless = ap (λ v. v.items) leaves ∙ held.childless ∙ ap childless_slots was ∙ sym (ap childless_slots entries-moved ∙ childless-ends front e m refl refl);
        sites = ap length counts ∙ length-set a.counts.items i c ∙ held.sites ∙ sym (ap (λ l. l.sites) limits);
        fit = subst (λ cs. list_all (λ k. ltb k 4294967296) cs ≡ true) (sym counts)
            (all-set (λ k. ltb k 4294967296) a.counts.items i c held.fit (lt-ltb c 4294967296 fits));
        counted = (
            let whole = sum-set a.counts.items i c 0 inside in
            let then = held.counted in
            let sums = ap sum counts in
            omega arith
            );
        among_counted = subst (λ es. list_all (λ (f : Entry). is_counted b.counts.items f.id) es ≡ true) (sym entries-moved)
            (subst (λ cs. list_all (λ (f : Entry). is_counted cs f.id) (front ++ m ∷ []) ≡ true) (sym counts)
            (all-last (λ (f : Entry). is_counted (set a.counts.items i c) f.id) front m
            (all-weaker (λ (f : Entry). is_counted a.counts.items f.id) (λ (f : Entry). is_counted (set a.counts.items i c) f.id)
            (λ f t. counted-still a.counts.items i c f.id inside (omega arith) t) front counted.0)
            (let now = ap (λ (k : ℕ). get_or (set a.counts.items i c) k 0) (sym at_site) ∙ get_or-set_same a.counts.items i c 0 inside in
            le-leb n.id.sequence (get_or (set a.counts.items i c) (n.id.site - 1) 0) (omega arith))));
        once = subst (λ es. AllDiffer (map (λ (f : Entry). f.id) es)) (sym entries-moved)
            (subst AllDiffer (sym (map-append (λ f. f.id) front (m ∷ []))) (differ-last (map (λ f. f.id) front) n.id (differ-front (map (λ f. f.id) front) e.id ids) fresh));
        times = (let one = held.times in let same = ap (λ v. length v.items) since in omega arith);
        since = subst (λ es. list_all (λ (f : Entry). list_all (λ (s : Slot). leb (get_or b.since.items s.0 0) f.arrival) f.stand_ins) es ≡ true)
            (sym entries-moved)
            (subst (λ v. list_all (λ (f : Entry). list_all (λ (s : Slot). leb (get_or v.items s.0 0) f.arrival) f.stand_ins) (front ++ m ∷ []) ≡ true) (sym since)
            (let parts = all-ends (λ f. list_all (λ s. leb (get_or a.since.items s.0 0) f.arrival) f.stand_ins) front e
            (subst (λ es. list_all (λ (f : Entry). list_all (λ (s : Slot). leb (get_or a.since.items s.0 0) f.arrival) f.stand_ins) es ≡ true) was held.since) in
            all-last (λ (f : Entry). list_all (λ (s : Slot). leb (get_or a.since.items s.0 0) f.arrival) f.stand_ins) front m parts.0
            (ap (list_all (λ (s : Slot). leb (get_or a.since.items s.0 0) n.arrival)) no-stand_ins)));
        indexed = λ x.
            slots_now x ∙ (indexed-ends x (uncounted-apart beyond counted.1) (last-differs (map (λ f. f.id) front) e.id ids)
            ∙ sym (ap (λ es. slot_of_id es x) entries-moved ∙ slot-of_id-last front m x));
      }
    where
      uncounted-apart : get_or a.counts.items (n.id.site - 1) 0 < n.id.sequence → is_counted a.counts.items e.id ≡ true → same_id e.id n.id ≡ false
      uncounted-apart beyond t = false_from_ne_true (same_id e.id n.id) (λ same.
          let within = leb-true n.id.sequence (get_or a.counts.items (n.id.site - 1) 0)
          (subst (λ z. is_counted a.counts.items z ≡ true) (same_id-true e.id n.id same) t) in
          omega arith)

      indexed-ends : (x : StateId) → same_id e.id n.id ≡ false → is_among e.id (map (λ f. f.id) front) ≡ false →
          cond (same_id x e.id) None (cond (same_id x n.id) (Some e.slot) (slot_of_state a.slots x)) ≡ cond (same_id x n.id) (Some e.slot) (slot_of_id front x)
      indexed-ends x other out = elim (cases_Bool (same_id x e.id)) [
        | inl t ↦
            let is = same_id-true x e.id t in
            let apart_now : same_id x n.id ≡ false = ap (λ z. same_id z n.id) is ∙ other in
            let none : ◌≡◌ {A = Option Slot} (slot_of_id front x) None = ap (slot_of_id front) is ∙ unlisted-none front e.id out in
            rw (t, apart_now, none) refl
        | inr f ↦
            let known_slot : slot_of_state a.slots x ≡ slot_of_id front x =
            held.indexed x ∙ ap (λ es. slot_of_id es x) was ∙ slot-of_id-last front e x ∙ ap (λ b. cond b (Some e.slot) (slot_of_id front x)) f in
            rw f (ap (λ o. cond (same_id x n.id) (Some e.slot) o) known_slot)
      ]

-- the slot of the last of a table's entries
pub last-split : (a : Inside) (table : Table) → seen a ≡ table → (slot : Slot) → is_slot table slot ≡ true → slot_after table.entries (Some slot) ≡ None →
    (front : List Entry) × (e : Entry) × ((seen a).entries ≡ front ++ e ∷ []) × (e.slot ≡ slot)
last-split a table view slot there none =
    split-at (seen a).entries slot (subst (λ (t : Table). is_slot t slot ≡ true) (sym view) there)
    (subst (λ (t : Table). ◌≡◌ {A = Option Slot} (slot_after t.entries (Some slot)) None) (sym view) none)
