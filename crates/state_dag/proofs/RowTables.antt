-- A table in which a state below the newest one is kept in that one's place, for a history in which that one is collected.
use Rattle.std.proofs.Common.{◌≡◌, ℕ, ◌+◌, ◌-◌, ◌≤◌, Bool, true, false, cond, ◌&&◌, eqb, leb, List, [], ◌∷◌, ◌++◌, length, map, find, Option, Some, None}
use Rattle.std.proofs.Common.{slice_get, slice_set, not, IsTrue, inl, inr, refl, sym, ap, ap₂, subst, ◌∙◌, eqb-true, eq-eqb, arith, length-append}
use Rattle.std.specs.Prelude.{unwrap_or}
use Rattle.std.specs.List.{list_all, range_with_len}
use Rattle.std.specs.Option.{option_map, option_map_or}
use Rattle.std.proofs.lemmas.Bool.{and_parts, and_from, or_parts, cases_Bool, both_ways, ne_eqb, not-true, le-leb}
use Rattle.std.proofs.lemmas.List.{map-append}
use Rattle.std.proofs.lemmas.Option.{same_Some}
use Rattle.tardis_base.specs.declared.ids.StateId.{StateId}
use Rattle.tardis_base.specs.declared.ids.Slot.{Slot}
use Rattle.tardis_base.specs.declared.records.Record.{Record}
use Rattle.tardis_base.specs.declared.records.Limits.{Limits}
use Rattle.tardis_base.specs.Ids.{same_id, is_among}
use Rattle.tardis_base.specs.Valid.{are_limits}
use Rattle.plain_dag.specs.States.{is_known, children, count_of_site}
use Rattle.plain_dag.specs.Dag.{IsNext}
use Rattle.plain_dag.specs.Begin.{last_arrived}
use Rattle.plain_dag.specs.Collection.{is_kept, kept_states, stand_in}
use Rattle.plain_dag.specs.Paths.{is_fork, leads_to, fork_path}
use Rattle.plain_dag.proofs.Ids.{same_id_self, among-first, among-later}
use Rattle.plain_dag.proofs.Histories.{next-fits, next-is-dag, known-cases, known-isnt-newest, arrival-newest, arrival-before, parents-newest, parents-before}
use Rattle.plain_dag.proofs.States.{child_is_known, children-before}
use Rattle.state_dag.specs.Table.{Entry, Table, entry_at, id_at}
use Rattle.state_dag.specs.Stands.{is_taken, Shows, Stands}
use Rattle.state_dag.specs.Nodes.{AreDistinct}
use Rattle.state_dag.proofs.Known.{last-kept, record-parts}
use Rattle.state_dag.proofs.NextState.{leads-old, newest-is_childless}
use Rattle.state_dag.proofs.KeptEntries.{slots_of, found-at}
use Rattle.state_dag.proofs.LeafSlots.{AreFound, found-rest}
use Rattle.state_dag.proofs.Standing.{shown, slot-is_kept}
use Rattle.state_dag.proofs.ParentSlots.{same-slot}
use Rattle.state_dag.proofs.LeftEntries.{found-mid, found-other}
use Rattle.state_dag.proofs.GrownCounts.{new-site, counts-next}
use Rattle.state_dag.proofs.RowHistories.{last-childless, parent-is, fork-row, last-isnt_fork, newest-isnt_fork, leads-row, shared-row, collected-row}
use Rattle.state_dag.proofs.RowHistories.{stand_in-row, kept-row, path-known, path-newest}

-- ===== Lists

-- lists that end in one each are one where the longer ones are
pub same-ends : {A : Type 0} (xs ys : List A) (a b : A) → xs ++ a ∷ [] ≡ ys ++ b ∷ [] → (xs ≡ ys) × (a ≡ b)
same-ends [] [] a b same = (refl, cc)
same-ends [] (d ∷ ys) a b same = absurd (let long = ap length same in let more = length-append ys (b ∷ []) in omega arith)
same-ends (c ∷ xs) [] a b same = absurd (let long = ap length same in let more = length-append xs (a ∷ []) in omega arith)
same-ends {A} (c ∷ xs) (d ∷ ys) a b same =
    let first : c ≡ d = cc in
    let rest : xs ++ a ∷ [] ≡ ys ++ b ∷ [] = cc in
    let w = same-ends xs ys a b rest in
    (ap₂ (λ (i : A) (is : List A). i ∷ is) first w.0, w.1)

and-alike : (a b c d : Bool) → a ≡ b → (b ≡ true → c ≡ d) → (a && c) ≡ (b && d)
and-alike a true c d same rest = rw (same, rest refl) refl
and-alike a false c d same rest = rw same refl

names-each : (table : Table) (es : List Entry) → AreFound table es → map (λ e. id_at table e.slot) es ≡ map (λ e. Some e.id) es
names-each table [] found = refl
names-each table (e ∷ es) found =
    ap₂ (λ (i : Option StateId) (is : List (Option StateId)). i ∷ is) (ap (option_map (λ (z : Entry). z.id)) (found 0 e (omega arith)))
    (names-each table es (found-rest table e es found))

named-slot : (s t : Slot) → eqb s.0 t.0 ≡ true → s ≡ t
named-slot s t is = (let named : ℕ → Slot = λ n. record { 0 = n } in ap named (eqb-true s.0 t.0 is))

turned : (m n : ℕ) → eqb m n ≡ false → eqb n m ≡ false
turned m n other = ne_eqb n m (λ e. both_ways (eqb m n) other (eq-eqb m n (sym e)))

-- the entry of the state in place of that of the one before it
abbrev pub in_place : Entry → StateId → ℕ → Entry
in_place e id known = record e { id = id; arrival = known; parents = e.id ∷ [] }

module _ (old new : Table) (rs : List Record) (ks : List StateId) (r : Record) (front : List Entry) (e : Entry)
    (was : old.entries ≡ front ++ e ∷ []) (is : new.entries ≡ front ++ in_place e r.id old.known ∷ [])
    (distinct : AreDistinct (slots_of old.entries)) where
  abbrev newest : Entry
  newest = in_place e r.id old.known

  apart-old : AreDistinct (slots_of (front ++ e ∷ []))
  apart-old = subst (λ es. AreDistinct (slots_of es)) was distinct

  apart-new : AreDistinct (slots_of (front ++ newest ∷ []))
  apart-new = subst AreDistinct (map-append (λ f. f.slot) front (e ∷ []) ∙ sym (map-append (λ f. f.slot) front (newest ∷ []))) apart-old

  -- ===== Slots

  found-old : entry_at old e.slot ≡ Some e
  found-old = ap (find (λ f. eqb f.slot.0 e.slot.0)) was ∙ found-mid front e [] apart-old

  found-new : entry_at new e.slot ≡ Some newest
  found-new = ap (find (λ f. eqb f.slot.0 e.slot.0)) is ∙ found-mid front newest [] apart-new

  found-alike : (s : Slot) → eqb s.0 e.slot.0 ≡ false → entry_at new s ≡ entry_at old s
  found-alike s other =
      ap (find (λ f. eqb f.slot.0 s.0)) is
      ∙ found-other front newest [] s.0 (turned s.0 e.slot.0 other)
      ∙ sym (ap (find (λ f. eqb f.slot.0 s.0)) was ∙ found-other front e [] s.0 (turned s.0 e.slot.0 other))

  names-newest : (s : Slot) → eqb s.0 e.slot.0 ≡ true → id_at new s ≡ Some r.id
  names-newest s t = ap (id_at new) (named-slot s e.slot t) ∙ ap (option_map (λ (f : Entry). f.id)) found-new

  names-alike : (s : Slot) → eqb s.0 e.slot.0 ≡ false → id_at new s ≡ id_at old s
  names-alike s other = ap (option_map (λ (f : Entry). f.id)) (found-alike s other)

  module _ (stands : Stands old rs ks) (next : IsNext rs r) (below : r.parents ≡ last_arrived rs ∷ []) where
    abbrev x : StateId
    x = last_arrived rs

    ends : (kept_states rs ks ≡ map (λ f. f.id) front ++ x ∷ []) × (e.id ≡ x)
    ends =
        let w = last-kept rs ks stands.dag stands.shared in
        let all : map (λ (f : Entry). f.id) front ++ e.id ∷ [] ≡ w.0 ++ x ∷ [] =
        sym (map-append (λ f. f.id) front (e ∷ [])) ∙ ap (map (λ (f : Entry). f.id)) (sym was) ∙ stands.ids ∙ w.1 in
        let parts = same-ends (map (λ f. f.id) front) w.0 e.id x all in
        (w.1 ∙ ap (λ zs. zs ++ x ∷ []) (sym parts.0), parts.1)

    named : id_at old e.slot ≡ Some x
    named = ap (option_map (λ (f : Entry). f.id)) found-old ∙ ap (λ z. Some z) ends.1

    shows-last : Shows old rs ks e x
    shows-last = shown old rs ks stands e.slot e x found-old named

    childless : e.children ≡ []
    childless = shows-last.has_children ∙ last-childless rs stands.dag

    nothing-stands : (ss : List Slot) → map (id_at old) ss ≡ [] → ss ≡ []
    nothing-stands [] none = refl
    nothing-stands (s ∷ ss) none = absurd (let long = ap length none in omega arith)

    no-stand_ins : e.stand_ins ≡ []
    no-stand_ins = nothing-stands e.stand_ins
        (shows-last.has_stand_ins ∙ ap (map (λ c. Some (stand_in rs ks c))) (last-childless rs stands.dag))

    -- ===== Paths

    taken-alike : (y z : StateId) → ((p : StateId) (n : ℕ) → is_fork rs p ≡ true → leads_to (r ∷ rs) z (p, n) ≡ leads_to rs y (p, n)) → (pair : ℕ × ℕ) →
        is_taken new (r ∷ rs) z pair ≡ is_taken old rs y pair
    taken-alike y z leads pair =
        let slot : Slot = record { 0 = pair.0 } in
        let now : Option StateId → Bool = λ o. option_map_or (λ p. is_fork (r ∷ rs) p && leads_to (r ∷ rs) z (p, pair.1)) o false in
        let then : Option StateId → Bool = λ o. option_map_or (λ p. is_fork rs p && leads_to rs y (p, pair.1)) o false in
        elim (cases_Bool (eqb pair.0 e.slot.0)) [
          | inl t ↦
              let here : id_at old slot ≡ Some x = ap (id_at old) (named-slot slot e.slot t) ∙ named in
              ap now (names-newest slot t)
              ∙ ap (λ b. b && leads_to (r ∷ rs) z (r.id, pair.1)) (newest-isnt_fork rs r stands.dag next below)
              ∙ sym (ap then here ∙ ap (λ b. b && leads_to rs y (x, pair.1)) (last-isnt_fork rs r stands.dag next below))
          | inr f ↦ ap now (names-alike slot f) ∙ go (id_at old slot)
        ]
      where
        go : (o : Option StateId) → option_map_or (λ p. is_fork (r ∷ rs) p && leads_to (r ∷ rs) z (p, pair.1)) o false
            ≡ option_map_or (λ p. is_fork rs p && leads_to rs y (p, pair.1)) o false
        go None = refl
        go (Some p) = and-alike (is_fork (r ∷ rs) p) (is_fork rs p) (leads_to (r ∷ rs) z (p, pair.1)) (leads_to rs y (p, pair.1))
            (fork-row rs r stands.dag next below p) (leads p pair.1)

    -- ===== Entries

    stand_ins-alike : (ss : List Slot) (cs : List StateId) → ((c : StateId) → IsTrue (is_among c cs) → IsTrue (is_known rs c)) →
        map (id_at old) ss ≡ map (λ c. Some (stand_in rs ks c)) cs → map (id_at new) ss ≡ map (λ c. Some (stand_in (r ∷ rs) (x ∷ ks) c)) cs
    stand_ins-alike [] [] known same = refl
    stand_ins-alike [] (c ∷ cs) known same = absurd (let bad : ⊥ = cc in bad)
    stand_ins-alike (s ∷ ss) [] known same = absurd (let bad : ⊥ = cc in bad)
    stand_ins-alike (s ∷ ss) (c ∷ cs) known same =
        let y = stand_in rs ks c in
        let here : id_at old s ≡ Some y = cc in
        let rest : map (id_at old) ss ≡ map (λ d. Some (stand_in rs ks d)) cs = cc in
        let told = stand_in-row rs r stands.dag next below ks stands.shared stands.known_collected c (known c (among-first c cs)) in
        let alike : eqb s.0 e.slot.0 ≡ same_id y x = same-slot old rs ks stands s e.slot y x here named in
        let first : id_at new s ≡ Some (cond (same_id y x) r.id y) = elim (cases_Bool (eqb s.0 e.slot.0)) [
          | inl t ↦ names-newest s t ∙ ap (λ b. Some (cond b r.id y)) (sym (sym alike ∙ t))
          | inr f ↦ names-alike s f ∙ (here ∙ ap (λ b. Some (cond b r.id y)) (sym (sym alike ∙ f)))
        ] in
        ap₂ (λ (i : Option StateId) (is : List (Option StateId)). i ∷ is) (first ∙ ap (λ z. Some z) (sym told))
        (stand_ins-alike ss cs (λ d m. known d (among-later d c cs m)) rest)

    shows-newest : Shows new (r ∷ rs) (x ∷ ks) newest r.id
    shows-newest =
        let none = newest-is_childless rs r stands.dag next in
        record {
          named = refl;
          arrived = stands.known ∙ sym (arrival-newest rs r r.id (same_id_self r.id));
          has_parents = ap (λ (z : StateId). z ∷ []) ends.1 ∙ (sym below ∙ sym (parents-newest rs r r.id (same_id_self r.id)));
          has_children = childless ∙ sym none;
          has_stand_ins = ap (map (id_at new)) no-stand_ins ∙ sym (ap (map (λ c. Some (stand_in (r ∷ rs) (x ∷ ks) c))) none);
          ascending = shows-last.ascending;
          has_path = λ pair. shows-last.has_path pair ∙ sym (taken-alike x r.id (leads-row rs r stands.dag next below) pair);
        }

    shows-other : (s : Slot) (o : Entry) → entry_at old s ≡ Some o → eqb s.0 e.slot.0 ≡ false → Shows new (r ∷ rs) (x ∷ ks) o o.id
    shows-other s o there other =
        let shows = stands.shows s o there in
        let here : id_at old s ≡ Some o.id = ap (option_map (λ (f : Entry). f.id)) there in
        let known = (and_parts (is_known rs o.id) _ (slot-is_kept old rs ks stands s o.id here)).0 in
        let before = known-isnt-newest rs r o.id (next-fits rs r next) known in
        let no_parent : is_among o.id r.parents ≡ false = parent-is rs r stands.dag next below o.id
        ∙ (sym (same-slot old rs ks stands s e.slot o.id x here named) ∙ other) in
        let kept = children-before rs r o.id no_parent in
        record {
          named = refl;
          arrived = shows.arrived ∙ sym (arrival-before rs r o.id before);
          has_parents = shows.has_parents ∙ sym (parents-before rs r o.id before);
          has_children = shows.has_children ∙ sym kept;
          has_stand_ins = stand_ins-alike o.stand_ins (children rs o.id) (λ c m. child_is_known rs o.id c m) shows.has_stand_ins
              ∙ ap (map (λ c. Some (stand_in (r ∷ rs) (x ∷ ks) c))) (sym kept);
          ascending = shows.ascending;
          has_path = λ pair. shows.has_path pair ∙ sym (taken-alike o.id o.id (λ p n fork. leads-old rs r stands.dag next o.id known p n) pair);
        }

    shows-all : (s : Slot) (n : Entry) → entry_at new s ≡ Some n → Shows new (r ∷ rs) (x ∷ ks) n n.id
    shows-all s n there = elim (cases_Bool (eqb s.0 e.slot.0)) [
      | inl t ↦
          let same : newest ≡ n = same_Some newest n (sym found-new ∙ (ap (entry_at new) (sym (named-slot s e.slot t)) ∙ there)) in
          subst (λ f. Shows new (r ∷ rs) (x ∷ ks) f f.id) same shows-newest
      | inr f ↦ shows-other s n (sym (found-alike s f) ∙ there) f
    ]

    -- ===== All of it

    short-row : (y : StateId) → IsTrue (is_kept (r ∷ rs) (x ∷ ks) y) → length (fork_path (r ∷ rs) (x ∷ ks) y) ≤ old.limits.max_path
    short-row y kept =
        let parts = and_parts (is_known (r ∷ rs) y) _ kept in
        let zs = map (λ (f : Entry). f.id) front in
        elim (known-cases rs r y parts.0) [
          | inl new_one ↦
              let as_last = stands.short x (slot-is_kept old rs ks stands e.slot x named) in
              let same = ap length (path-newest rs r stands.dag next below ks stands.shared stands.known_collected zs ends.0) in
              subst (λ z. length (fork_path (r ∷ rs) (x ∷ ks) z) ≤ old.limits.max_path) (sym new_one) (omega arith)
          | inr known ↦
              let same = ap length (path-known rs r stands.dag next below ks stands.shared stands.known_collected zs ends.0 y known) in
              let still = and_from (is_known rs y) (not (is_among y ks)) known
              (ap not (or_parts (same_id y x) (is_among y ks) (not-true (is_among y (x ∷ ks)) parts.1)).1) in
              let before = stands.short y still in
              omega arith
        ]

    pub stands-row : r.id.site ≤ old.limits.sites → new.limits ≡ old.limits →
        new.counts ≡ slice_set old.counts (r.id.site - 1) (unwrap_or (slice_get old.counts (r.id.site - 1)) 0 + 1) →
        new.known ≡ old.known + 1 → Stands new (r ∷ rs) (x ∷ ks)
    stands-row site limits counts known = record {
      dag = next-is-dag rs r stands.dag next;
      known_collected = collected-row rs r stands.dag next below ks stands.shared stands.known_collected;
      shared = shared-row rs r stands.dag next below ks stands.shared stands.known_collected;
      valid = subst (λ l. IsTrue (are_limits l)) (sym limits) stands.valid;
      sites = subst (λ (l : Limits). IsTrue (list_all (λ q. leb q.id.site l.sites) (r ∷ rs))) (sym limits)
          (and_from (leb r.id.site old.limits.sites) (list_all (λ q. leb q.id.site old.limits.sites) rs) (le-leb r.id.site old.limits.sites site) stands.sites);
      within = subst (λ (l : Limits). length (kept_states (r ∷ rs) (x ∷ ks)) ≤ l.max_kept) (sym limits) (
          let zs = map (λ (f : Entry). f.id) front in
          let now = ap length (kept-row rs r stands.dag next below ks stands.shared stands.known_collected zs ends.0) in
          let before = ap length ends.0 in
          let one = length-append zs (r.id ∷ []) in
          let two = length-append zs (x ∷ []) in
          let most = stands.within in
          omega arith
          );
      short = λ y kept. subst (λ (l : Limits). length (fork_path (r ∷ rs) (x ∷ ks) y) ≤ l.max_path) (sym limits) (short-row y kept);
      counts = counts ∙ subst (λ (l : Limits). slice_set old.counts (r.id.site - 1) (unwrap_or (slice_get old.counts (r.id.site - 1)) 0 + 1)
          ≡ map (count_of_site (r ∷ rs)) (range_with_len 1 l.sites)) (sym limits)
          (counts-next rs r old.limits.sites old.counts (new-site r (record-parts r next.shape).id (record-parts r next.shape).isnt_root) site stands.counts);
      known = known ∙ (let before = stands.known in omega arith);
      ids = ap (map (λ (f : Entry). f.id)) is
          ∙ (map-append (λ f. f.id) front (newest ∷ [])
          ∙ sym (kept-row rs r stands.dag next below ks stands.shared stands.known_collected (map (λ f. f.id) front) ends.0));
      slots = names-each new new.entries (λ i d lt. found-at new.entries (subst (λ es. AreDistinct (slots_of es)) (sym is) apart-new) i d lt);
      shows = shows-all;
    }
