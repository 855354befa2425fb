-- What a table says of the history that it stands for.
use Rattle.std.proofs.Common.{◌≡◌, ℕ, true, false, ◌&&◌, eqb, leb, List, [], ◌∷◌, map, find, Option, Some, None, is_some, IsTrue, inl, inr, refl, sym, ap}
use Rattle.std.proofs.Common.{ap₂, subst, ◌∙◌, eqb-true, eq-eqb, arith}
use Rattle.std.specs.Option.{option_map, option_map_or}
use Rattle.std.proofs.lemmas.Bool.{and_parts, and_from, or_cases, or_left, or_right, cases_Bool, cond-true, cond-false, leb-true, le-leb}
use Rattle.std.proofs.lemmas.Option.{none-some, same_Some}
use Rattle.tardis_base.specs.declared.ids.StateId.{StateId}
use Rattle.tardis_base.specs.declared.ids.Slot.{Slot}
use Rattle.tardis_base.specs.declared.records.Record.{Record}
use Rattle.tardis_base.specs.Ids.{is_among}
use Rattle.fork_path.specs.Pairs.{is_same_pair, has_pair, has_pairs}
use Rattle.plain_dag.specs.States.{arrival}
use Rattle.plain_dag.specs.Above.{is_above}
use Rattle.plain_dag.specs.Collection.{is_kept}
use Rattle.plain_dag.specs.Paths.{is_fork, leads_to}
use Rattle.plain_dag.proofs.Ids.{same_test, not-both, among-first, among-later, among-cases}
use Rattle.plain_dag.proofs.Paths.{fork-paths-tell}
use Rattle.state_dag.specs.Table.{Entry, Table, entry_at, id_at, is_slot, is_entry_above, is_slot_above, arrival_at}
use Rattle.state_dag.specs.Stands.{is_taken, Shows, Stands}
use Rattle.state_dag.proofs.Known.{kept-is_listed, listed-is_kept}

-- ===== Pairs of two lists

same_pair-true : (a b : ℕ × ℕ) → is_same_pair a b ≡ true → a ≡ b
same_pair-true a b h =
    let p = and_parts (eqb a.0 b.0) (eqb a.1 b.1) h in
    let e = eqb-true a.0 b.0 p.0 in
    let f = eqb-true a.1 b.1 p.1 in
    let pair : ℕ → ℕ → ℕ × ℕ = λ x y. (x, y) in
    ap₂ pair e f

same_pair_self : (a : ℕ × ℕ) → is_same_pair a a ≡ true
same_pair_self a = and_from (eqb a.0 a.0) (eqb a.1 a.1) (eq-eqb a.0 a.0 refl) (eq-eqb a.1 a.1 refl)

-- what includes pairs has each of them
pub included-at : (ps qs : List (ℕ × ℕ)) (q : ℕ × ℕ) → has_pairs ps qs ≡ true → has_pair q qs ≡ true → has_pair q ps ≡ true
included-at ps [] q a h = not-both true refl (sym h)
included-at ps (x ∷ qs) q a h =
    let parts = and_parts (has_pair x ps) (has_pairs ps qs) a in
    elim (or_cases (is_same_pair q x) (has_pair q qs) h) [
      | inl e ↦ subst (λ z. has_pair z ps ≡ true) (sym (same_pair-true q x e)) parts.0
      | inr m ↦ included-at ps qs q parts.1 m
    ]

pub included-from : (ps qs : List (ℕ × ℕ)) → ((q : ℕ × ℕ) → has_pair q qs ≡ true → has_pair q ps ≡ true) → has_pairs ps qs ≡ true
included-from ps [] f = refl
included-from ps (x ∷ qs) f =
    and_from (has_pair x ps) (has_pairs ps qs) (f x (or_left (is_same_pair x x) (has_pair x qs) (same_pair_self x)))
    (included-from ps qs (λ q m. f q (or_right (is_same_pair q x) (has_pair q qs) m)))

-- ===== Entries

-- the entry that names a kept state
pub entry-of_id : (table : Table) (slot : Slot) (x : StateId) → id_at table slot ≡ Some x → (e : Entry) × (entry_at table slot ≡ Some e) × (e.id ≡ x)
entry-of_id table slot x h = go (entry_at table slot) refl
  where
    go : (o : Option Entry) → entry_at table slot ≡ o → (e : Entry) × (entry_at table slot ≡ Some e) × (e.id ≡ x)
    go None is = absurd (none-some x (sym (ap (option_map (λ (e : Entry). e.id)) is) ∙ h))
    go (Some e) is = (e, is, same_Some e.id x (sym (ap (option_map (λ (f : Entry). f.id)) is) ∙ h))

-- what is found has its id among these
pub found-is_named : (es : List Entry) (k : ℕ) (e : Entry) → find (λ f. eqb f.slot.0 k) es ≡ Some e → IsTrue (is_among e.id (map (λ f. f.id) es))
found-is_named [] k e h = absurd (none-some e h)
found-is_named (f ∷ es) k e h = elim (cases_Bool (eqb f.slot.0 k)) [
  | inl t ↦
      let same : f ≡ e = same_Some f e (sym (cond-true (eqb f.slot.0 k) (Some f) (find (λ g. eqb g.slot.0 k) es) t) ∙ h) in
      subst (λ z. IsTrue (is_among z (map (λ (g : Entry). g.id) (f ∷ es)))) (ap (λ (g : Entry). g.id) same) (among-first f.id (map (λ g. g.id) es))
  | inr n ↦ among-later e.id f.id (map (λ g. g.id) es) (found-is_named es k e (sym (cond-false (eqb f.slot.0 k) (Some f) (find (λ g. eqb g.slot.0 k) es) n)
      ∙ h))
]

slot-in : (name : Slot → Option StateId) (es : List Entry) (x : StateId) → map (λ e. name e.slot) es ≡ map (λ e. Some e.id) es →
    IsTrue (is_among x (map (λ e. e.id) es)) →
    (slot : Slot) × (name slot ≡ Some x)
slot-in name [] x same h = not-both true refl (sym h)
slot-in name (e ∷ es) x same h = elim (among-cases x e.id (map (λ f. f.id) es) h) [
  | inl is ↦ (let here : name e.slot ≡ Some e.id = cc in (e.slot, here ∙ ap (λ z. Some z) (sym is)))
  | inr m ↦ (let rest : map (λ (f : Entry). name f.slot) es ≡ map (λ (f : Entry). Some f.id) es = cc in slot-in name es x rest m)
]

-- whether one slot is above another is read off their entries
pub slots-above : (table : Table) (a b : Slot) (e f : Entry) → entry_at table a ≡ Some e → entry_at table b ≡ Some f → is_slot_above table a b
    ≡ is_entry_above e f
slots-above table a b e f is_a is_b =
    ap (λ o. option_map_or (λ (g : Entry). option_map_or (λ (h : Entry). is_entry_above g h) (entry_at table b) false) o false) is_a
    ∙ ap (λ o. option_map_or (λ (h : Entry). is_entry_above e h) o false) is_b

-- a slot is above itself
pub slot-above-itself : (table : Table) (a : Slot) → is_slot table a ≡ true → is_slot_above table a a ≡ true
slot-above-itself table a there = go (entry_at table a) refl there
  where
    itself : (e : Entry) → is_entry_above e e ≡ true
    itself e = and_from (leb e.arrival e.arrival) (has_pairs e.path e.path) (le-leb e.arrival e.arrival (omega arith)) (included-from e.path e.path (λ q h. h))

    go : (o : Option Entry) → entry_at table a ≡ o → is_some o ≡ true → is_slot_above table a a ≡ true
    go None is t = not-both true refl (sym t)
    go (Some e) is t = ap (λ o. option_map_or (λ (g : Entry). option_map_or (λ (h : Entry). is_entry_above g h) o false) o false) is ∙ itself e

module _ (table : Table) (rs : List Record) (ks : List StateId) (stands : Stands table rs ks) where
  -- what the entry of a state says
  pub shown : (slot : Slot) (e : Entry) (x : StateId) → entry_at table slot ≡ Some e → id_at table slot ≡ Some x → Shows table rs ks e x
  shown slot e x is named =
      let same : e.id ≡ x = same_Some e.id x (sym (ap (option_map (λ (f : Entry). f.id)) is) ∙ named) in
      subst (λ z. Shows table rs ks e z) same (stands.shows slot e is)

  -- a slot names a kept state
  pub entry-is_kept : (slot : Slot) (e : Entry) → entry_at table slot ≡ Some e → IsTrue (is_kept rs ks e.id)
  entry-is_kept slot e is = listed-is_kept rs ks e.id (subst (λ xs. IsTrue (is_among e.id xs)) stands.ids (found-is_named table.entries slot.0 e is))

  pub slot-is_kept : (slot : Slot) (x : StateId) → id_at table slot ≡ Some x → IsTrue (is_kept rs ks x)
  slot-is_kept slot x named =
      let w = entry-of_id table slot x named in
      subst (λ z. IsTrue (is_kept rs ks z)) w.2 (entry-is_kept slot w.0 w.1)

  -- each kept state has a slot
  pub kept-has_slot : (x : StateId) → IsTrue (is_kept rs ks x) → (slot : Slot) × (id_at table slot ≡ Some x)
  kept-has_slot x kept =
      slot-in (id_at table) table.entries x stands.slots (subst (λ xs. IsTrue (is_among x xs)) (sym stands.ids) (kept-is_listed rs ks x kept))

  -- ===== Arrival and ancestry

  pub slots-arrive : (slot : Slot) (x : StateId) → id_at table slot ≡ Some x → arrival_at table slot ≡ arrival rs x
  slots-arrive slot x named =
      let w = entry-of_id table slot x named in
      ap (λ o. option_map_or (λ (e : Entry). e.arrival) o 0) w.1 ∙ (shown slot w.0 x w.1 named).arrived

  -- a pair is taken where its slot names a fork whose branch leads there
  taken-at : (x p : StateId) (slot : Slot) (n : ℕ) → id_at table slot ≡ Some p → IsTrue (is_fork rs p) → leads_to rs x (p, n) ≡ is_taken table rs x (slot.0, n)
  taken-at x p slot n named fork =
      let pair : StateId × ℕ = (p, n) in
      sym (ap (λ o. option_map_or (λ q. is_fork rs q && leads_to rs x (q, n)) o false) named ∙ ap (λ b. b && leads_to rs x pair) fork)

  -- and what is taken is so
  taken-parts : (x : StateId) (q : ℕ × ℕ) → IsTrue (is_taken table rs x q) →
      (p : StateId) × (id_at table (record { 0 = q.0 }) ≡ Some p) × IsTrue (is_fork rs p) × IsTrue (leads_to rs x (p, q.1))
  taken-parts x q h = go (id_at table (record { 0 = q.0 })) refl h
    where
      go : (o : Option StateId) → id_at table (record { 0 = q.0 }) ≡ o → IsTrue (option_map_or (λ p. is_fork rs p && leads_to rs x (p, q.1)) o false) →
          (p : StateId) × (id_at table (record { 0 = q.0 }) ≡ Some p) × IsTrue (is_fork rs p) × IsTrue (leads_to rs x (p, q.1))
      go None is t = not-both true refl (sym t)
      go (Some p) is t =
          let parts = and_parts (is_fork rs p) (leads_to rs x (p, q.1)) t in
          (p, is, parts.0, parts.1)

  entries-tell : (a b : Entry) (x y : StateId) → Shows table rs ks a x → Shows table rs ks b y → IsTrue (is_kept rs ks x) → IsTrue (is_kept rs ks y) →
      is_entry_above a b ≡ is_above rs x y
  entries-tell a b x y shows_a shows_b kept_x kept_y = same_test (is_entry_above a b) (is_above rs x y) forth back
    where
      forth : IsTrue (is_entry_above a b) → IsTrue (is_above rs x y)
      forth h =
          let parts = and_parts (leb a.arrival b.arrival) (has_pairs b.path a.path) h in
          let le = leb-true a.arrival b.arrival parts.0 in
          let e = shows_a.arrived in
          let f = shows_b.arrived in
          (fork-paths-tell rs ks stands.dag stands.shared x y kept_x kept_y).1 (
            omega arith,
            λ p n kept fork leads.
                let s = kept-has_slot p kept in
                let pair : ℕ × ℕ = (s.0.0, n) in
                let one : has_pair pair a.path ≡ true = shows_a.has_path pair ∙ sym (taken-at x p s.0 n s.1 fork) ∙ leads in
                taken-at y p s.0 n s.1 fork ∙ sym (shows_b.has_path pair) ∙ included-at b.path a.path pair parts.1 one,
          )

      back : IsTrue (is_above rs x y) → IsTrue (is_entry_above a b)
      back h =
          let told = (fork-paths-tell rs ks stands.dag stands.shared x y kept_x kept_y).0 h in
          let le = told.0 in
          let e = shows_a.arrived in
          let f = shows_b.arrived in
          and_from (leb a.arrival b.arrival) (has_pairs b.path a.path) (le-leb a.arrival b.arrival (omega arith))
          (included-from b.path a.path (λ q has.
          let w = taken-parts x q (sym (shows_a.has_path q) ∙ has) in
          let kept = slot-is_kept (record { 0 = q.0 }) w.0 w.1 in
          shows_b.has_path q ∙ sym (taken-at y w.0 (record { 0 = q.0 }) q.1 w.1 w.2) ∙ told.1 w.0 q.1 kept w.2 w.3))

  -- one slot is above another exactly where its state is at or above the other's
  pub slots-tell : (a b : Slot) (x y : StateId) → id_at table a ≡ Some x → id_at table b ≡ Some y → is_slot_above table a b ≡ is_above rs x y
  slots-tell a b x y named_a named_b =
      let v = entry-of_id table a x named_a in
      let w = entry-of_id table b y named_b in
      slots-above table a b v.0 w.0 v.1 w.1
      ∙ entries-tell v.0 w.0 x y (shown a v.0 x v.1 named_a) (shown b w.0 y w.1 named_b) (slot-is_kept a x named_a) (slot-is_kept b y named_b)
