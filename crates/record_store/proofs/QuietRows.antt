-- A store after a row of states that write nothing.
use Rattle.std.proofs.Common.{◌≡◌, ℕ, ◌+◌, ◌<◌, Bool, false, cond, eqb, ◌||◌, ◌&&◌, not, List, [], ◌∷◌, ◌++◌, length, map, filter, replicate}
use Rattle.std.proofs.Common.{Option, Some, None, is_some, IsTrue, inl, inr, refl, sym, ap, ap₂, subst, ◌∙◌, arith}
use Rattle.std.specs.List.{list_any}
use Rattle.std.specs.Option.{option_map_or, option_and_then}
use Rattle.std.proofs.lemmas.Bool.{and_parts, and_from, and_left, or_right, both_ways, cases_Bool, cond-true, cond-false, not-true, eqb-true, eq-eqb}
use Rattle.std.proofs.lemmas.Option.{same_Some}
use Rattle.std.proofs.lemmas.List.{map-append}
use Rattle.tardis_base.specs.declared.ids.StateId.{StateId}
use Rattle.tardis_base.specs.declared.ids.Slot.{Slot}
use Rattle.tardis_base.specs.declared.records.Record.{Record}
use Rattle.tardis_base.specs.declared.records.Write.{Write}
use Rattle.tardis_base.specs.Ids.{same_id, is_among}
use Rattle.tardis_base.specs.Keys.{KeyWrite, has_key}
use Rattle.plain_dag.specs.States.{states, is_known, arrival, writes_key}
use Rattle.plain_dag.specs.Above.{is_above}
use Rattle.plain_dag.specs.Writers.{is_writer, writers, latest_writer, lowest, version_at, read}
use Rattle.plain_dag.specs.Dag.{IsNext, IsDag}
use Rattle.plain_dag.specs.Begin.{last_arrived}
use Rattle.plain_dag.specs.Collection.{is_kept, kept_states, stand_in}
use Rattle.plain_dag.specs.Laws.{StandInsAreShared}
use Rattle.plain_dag.specs.Rows.{next_below, lengthened, row_left}
use Rattle.plain_dag.proofs.Ids.{or-false, same_id-true, same_id_self, same_id_from, same_id_turns, among-first, among-later, among-append, any-agrees}
use Rattle.plain_dag.proofs.Histories.{Fits, next-fits, next-is-dag, dag-grows, known-stays, known-isnt-newest, arrival-newest}
use Rattle.plain_dag.proofs.Histories.{arrival_is_below}
use Rattle.plain_dag.proofs.Growth.{writes-before, writes-newest, latest-writer-stays, lowest-stays, old-reads-stay, new-state-is-below-parents}
use Rattle.plain_dag.proofs.Order.{arrivals-differ}
use Rattle.plain_dag.proofs.Searches.{filter-agrees, filter-without, filtered-passes}
use Rattle.plain_dag.proofs.StandIns.{stands-in-well}
use Rattle.state_dag.specs.Table.{Entry, Table, entry_at, id_at, is_slot, is_kept_at, arrival_at, arrive_in_order}
use Rattle.state_dag.specs.Stands.{Stands}
use Rattle.state_dag.proofs.Places.{AllDiffer}
use Rattle.state_dag.proofs.Known.{listed-is_kept, kept-differ, filter-last, last-kept}
use Rattle.state_dag.proofs.Standing.{entry-of_id, entry-is_kept, slot-is_kept, kept-has_slot, slots-arrive}
use Rattle.state_dag.proofs.ParentSlots.{slot_from, one-slot}
use Rattle.state_dag.proofs.RowHistories.{last-known, without-last, stand_in-row, kept-row, shared-row, collected-row}
use Rattle.version_list.specs.declared.histories.Version.{Version}
use Rattle.record_store.specs.Stands.{holds_key, shown_version}
use Rattle.record_store.proofs.Holders.{holders, holder-parts}
use Rattle.record_store.proofs.Reading.{read_with}

-- ===== One state of a row

module _ (rs : List Record) (ks : List StateId) (r : Record) (dag : IsDag rs) (next : IsNext rs r) (below : r.parents ≡ last_arrived rs ∷ [])
    (quiet : r.writes ≡ []) where
  abbrev upper : StateId
  upper = last_arrived rs

  fits : Fits rs r
  fits = next-fits rs r next

  writes-none : (k : List ℕ) → writes_key (r ∷ rs) k r.id ≡ false
  writes-none k = writes-newest rs r k r.id fits (same_id_self r.id) ∙ ap (has_key k) quiet

  -- ===== Reads

  writer-there : (k : List ℕ) (w : StateId) → IsTrue (is_known rs w) → is_writer (r ∷ rs) k r.id w ≡ is_writer rs k upper w
  writer-there k w known =
      ap₂ (λ a b. a && b) (writes-before rs r k w (known-isnt-newest rs r w fits known))
      ((new-state-is-below-parents rs r dag next w known).0 ∙ (ap (list_any (is_above rs w)) below ∙ or-false (is_above rs w upper)))

  latest-there : (k : List ℕ) → latest_writer (r ∷ rs) k r.id ≡ latest_writer rs k upper
  latest-there k =
      let test = is_writer (r ∷ rs) k r.id in
      ap (lowest (r ∷ rs)) (filter-without test r.id (states rs) (and_left (writes_key (r ∷ rs) k r.id) (is_above (r ∷ rs) r.id r.id) (writes-none k))
      ∙ filter-agrees test (is_writer rs k upper) (states rs) (λ w m. writer-there k w m))
      ∙ lowest-stays rs r fits (dag-grows rs dag) (writers rs k upper) (λ w m. (filtered-passes (is_writer rs k upper) (states rs) w m).0)

  -- at the new state is read what is read at the one before
  reads-there : (k : List ℕ) → read (r ∷ rs) k r.id ≡ read rs k upper
  reads-there k =
      ap (option_and_then (version_at (r ∷ rs) k)) (latest-there k ∙ sym (latest-writer-stays rs r fits (dag-grows rs dag) k upper (last-known rs dag)))
      ∙ old-reads-stay rs r dag next k upper (last-known rs dag)

  -- ===== Holders

  module _ (shared : StandInsAreShared rs ks) (collected : (y : StateId) → IsTrue (is_among y ks) → IsTrue (is_known rs y)) where
    stand_in-known : (w : StateId) → IsTrue (is_known rs w) → IsTrue (is_known rs (stand_in rs ks w))
    stand_in-known w known = (and_parts (is_known rs (stand_in rs ks w)) (not (is_among (stand_in rs ks w) ks))
        ((stands-in-well rs ks dag shared).kept w known)).0

    -- a state holds what another held, where it stands in then for what that one stood in for
    holds-as : (z y : StateId) → ((s : StateId) → IsTrue (is_known rs s) → same_id (cond (same_id s upper) r.id s) z ≡ same_id s y) → (k : List ℕ) →
        holds_key (r ∷ rs) (upper ∷ ks) k z ≡ holds_key rs ks k y
    holds-as z y same k =
        let test : StateId → Bool = λ w. writes_key (r ∷ rs) k w && same_id (stand_in (r ∷ rs) (upper ∷ ks) w) z in
        ap (λ b. b || list_any test (states rs))
        (and_left (writes_key (r ∷ rs) k r.id) (same_id (stand_in (r ∷ rs) (upper ∷ ks) r.id) z) (writes-none k))
        ∙ any-agrees test (λ w. writes_key rs k w && same_id (stand_in rs ks w) y) (states rs) (λ w m.
        ap₂ (λ a b. a && b) (writes-before rs r k w (known-isnt-newest rs r w fits m))
        (ap (λ s. same_id s z) (stand_in-row rs r dag next below ks shared collected w m) ∙ same (stand_in rs ks w) (stand_in-known w m)))

    holds-stays : (k : List ℕ) (y : StateId) → IsTrue (is_known rs y) → same_id y upper ≡ false → holds_key (r ∷ rs) (upper ∷ ks) k y ≡ holds_key rs ks k y
    holds-stays k y known other = holds-as y y (λ s here. elim (cases_Bool (same_id s upper)) [
      | inl t ↦
          ap (λ q. same_id q y) (cond-true (same_id s upper) r.id s t)
          ∙ (same_id_turns r.id y ∙ known-isnt-newest rs r y fits known)
          ∙ sym (ap (λ q. same_id q y) (same_id-true s upper t) ∙ (same_id_turns upper y ∙ other))
      | inr f ↦ ap (λ q. same_id q y) (cond-false (same_id s upper) r.id s f)
    ]) k

    holds-there : (k : List ℕ) → holds_key (r ∷ rs) (upper ∷ ks) k r.id ≡ holds_key rs ks k upper
    holds-there k = holds-as r.id upper (λ s here. elim (cases_Bool (same_id s upper)) [
      | inl t ↦ ap (λ q. same_id q r.id) (cond-true (same_id s upper) r.id s t) ∙ (same_id_self r.id ∙ sym t)
      | inr f ↦ ap (λ q. same_id q r.id) (cond-false (same_id s upper) r.id s f) ∙ (known-isnt-newest rs r s fits here ∙ sym f)
    ]) k

-- ===== A whole row

-- y where the state is x
abbrev pub moved : StateId → StateId → StateId → StateId
moved x y s = cond (same_id s x) y s

moved-none : (x s : StateId) → moved x x s ≡ s
moved-none x s = elim (cases_Bool (same_id s x)) [
  | inl t ↦ cond-true (same_id s x) x s t ∙ sym (same_id-true s x t)
  | inr f ↦ cond-false (same_id s x) x s f
]

-- the later history is the earlier one with states behind it that write nothing, each below the one before it, of which the
-- last alone is kept, in place of the one that had arrived last
pub record Follows (rs : List Record) (ks : List StateId) (qs : List Record) (js : List StateId) : Type 0 where
  pub dag : IsDag qs
  pub shared : StandInsAreShared qs js
  pub collected : (y : StateId) → IsTrue (is_among y js) → IsTrue (is_known qs y)
  pub known : (y : StateId) → IsTrue (is_known rs y) → IsTrue (is_known qs y)
  pub apart : (y : StateId) → IsTrue (is_known rs y) → same_id y (last_arrived rs) ≡ false → same_id y (last_arrived qs) ≡ false
  pub stand_ins : (z : StateId) → IsTrue (is_known rs z) → stand_in qs js z ≡ moved (last_arrived rs) (last_arrived qs) (stand_in rs ks z)
  pub kept : (zs : List StateId) → kept_states rs ks ≡ zs ++ last_arrived rs ∷ [] → kept_states qs js ≡ zs ++ last_arrived qs ∷ []
  pub holds : (k : List ℕ) (y : StateId) → IsTrue (is_known rs y) → same_id y (last_arrived rs) ≡ false → holds_key qs js k y ≡ holds_key rs ks k y
  pub holds_last : (k : List ℕ) → holds_key qs js k (last_arrived qs) ≡ holds_key rs ks k (last_arrived rs)
  pub reads : (k : List ℕ) (y : StateId) → IsTrue (is_known rs y) → read qs k y ≡ read rs k y
  pub reads_last : (k : List ℕ) → read qs k (last_arrived qs) ≡ read rs k (last_arrived rs)

module _ (rs : List Record) (ks : List StateId) (dag : IsDag rs) (shared : StandInsAreShared rs ks)
    (collected : (y : StateId) → IsTrue (is_among y ks) → IsTrue (is_known rs y)) where
  follows-itself : Follows rs ks rs ks
  follows-itself = record {
    dag = dag;
    shared = shared;
    collected = collected;
    known = λ y known. known;
    apart = λ y known other. other;
    stand_ins = λ z known. sym (moved-none (last_arrived rs) (stand_in rs ks z));
    kept = λ zs is. is;
    holds = λ k y known other. refl;
    holds_last = λ k. refl;
    reads = λ k y known. refl;
    reads_last = λ k. refl;
  }

  moved-on : (x y z s : StateId) → (same_id s x ≡ false → same_id s y ≡ false) → moved y z (moved x y s) ≡ moved x z s
  moved-on x y z s apart = elim (cases_Bool (same_id s x)) [
    | inl t ↦ ap (moved y z) (cond-true (same_id s x) y s t) ∙ (cond-true (same_id y y) z y (same_id_self y) ∙ sym (cond-true (same_id s x) z s t))
    | inr f ↦ ap (moved y z) (cond-false (same_id s x) y s f) ∙ (cond-false (same_id s y) z s (apart f) ∙ sym (cond-false (same_id s x) z s f))
  ]

  follows-next : (qs : List Record) (js : List StateId) (r : Record) → Follows rs ks qs js → IsNext qs r → r.parents ≡ last_arrived qs ∷ [] →
      r.writes ≡ [] → Follows rs ks (r ∷ qs) (last_arrived qs ∷ js)
  follows-next qs js r f next below quiet =
      let fitting = next-fits qs r next in
      let known_here : (z : StateId) → IsTrue (is_known rs z) → IsTrue (is_known rs (stand_in rs ks z)) = λ z known.
      (and_parts (is_known rs (stand_in rs ks z)) (not (is_among (stand_in rs ks z) ks)) ((stands-in-well rs ks dag shared).kept z known)).0 in
      record {
        dag = next-is-dag qs r f.dag next;
        shared = shared-row qs r f.dag next below js f.shared f.collected;
        collected = collected-row qs r f.dag next below js f.shared f.collected;
        known = λ y known. known-stays qs r y (f.known y known);
        apart = λ y known other. known-isnt-newest qs r y fitting (f.known y known);
        stand_ins = λ z known.
            stand_in-row qs r f.dag next below js f.shared f.collected z (f.known z known)
            ∙ (ap (moved (last_arrived qs) r.id) (f.stand_ins z known)
            ∙ moved-on (last_arrived rs) (last_arrived qs) r.id (stand_in rs ks z) (λ other. f.apart (stand_in rs ks z) (known_here z known) other));
        kept = λ zs is. kept-row qs r f.dag next below js f.shared f.collected zs (f.kept zs is);
        holds = λ k y known other.
            holds-stays qs js r f.dag next below quiet f.shared f.collected k y (f.known y known) (f.apart y known other)
            ∙ f.holds k y known other;
        holds_last = λ k. holds-there qs js r f.dag next below quiet f.shared f.collected k ∙ f.holds_last k;
        reads = λ k y known. old-reads-stay qs r f.dag next k y (f.known y known) ∙ f.reads k y known;
        reads_last = λ k. reads-there qs js r f.dag next below quiet k ∙ f.reads_last k;
      }

  grown-parts : (r : Record) (qs : List Record) → 0 < length qs → IsDag (r ∷ qs) → IsNext qs r × IsDag qs
  grown-parts r [] some grown = absurd (omega (arith, some))
  grown-parts r (s ∷ qs) some grown = grown

  some-records : (qs : List Record) → IsDag qs → 0 < length qs
  some-records [] none = absurd (none)
  some-records (r ∷ qs) some = omega arith

  row-some : (site : ℕ) (wss : List (List KeyWrite)) → 0 < length (lengthened rs site wss)
  row-some site [] = some-records rs dag
  row-some site (ws ∷ wss) = omega arith

  pub row-follows : (site n : ℕ) → IsDag (lengthened rs site (replicate n [])) →
      Follows rs ks (lengthened rs site (replicate n [])) (row_left rs ks site (replicate n []))
  row-follows site ℕ.zero grown = follows-itself
  row-follows site (ℕ.suc n) grown =
      let older = lengthened rs site (replicate n []) in
      let r = next_below older site [] in
      let parts = grown-parts r older (row-some site (replicate n [])) grown in
      follows-next older (row_left rs ks site (replicate n [])) r (row-follows site n parts.1) parts.0 refl refl

-- ===== The versions then

module _ (old new : Table) (rs : List Record) (ks : List StateId) (qs : List Record) (js : List StateId) (stands : Stands old rs ks)
    (follows : Follows rs ks qs js) (slot : Slot) (named : id_at old slot ≡ Some (last_arrived rs)) (named_now : id_at new slot ≡ Some (last_arrived qs))
    (names : (s : Slot) → (s ≡ slot → ⊥) → id_at new s ≡ id_at old s) where
  abbrev x : StateId
  x = last_arrived rs

  abbrev z : StateId
  z = last_arrived qs

  -- the slot of the state that had arrived last names the last one, and each other slot its state
  pub named-then : (s : Slot) (y : StateId) → id_at old s ≡ Some y → id_at new s ≡ Some (moved x z y)
  named-then s y here = elim (cases_Bool (same_id y x)) [
    | inl t ↦
        let is = same_id-true y x t in
        let there : s ≡ slot = one-slot old rs ks stands s slot x (here ∙ ap (λ (i : StateId). Some i) is) named in
        ap (id_at new) there ∙ (named_now ∙ ap (λ (i : StateId). Some i) (sym (cond-true (same_id y x) z y t)))
    | inr f ↦
        names s (λ e. both_ways (same_id y x) f (same_id_from y x (same_Some y x (sym here ∙ (ap (id_at old) e ∙ named)))))
        ∙ (here ∙ ap (λ (i : StateId). Some i) (sym (cond-false (same_id y x) z y f)))
  ]

  reads-then : (k : List ℕ) (y : StateId) → IsTrue (is_known rs y) → read qs k (moved x z y) ≡ read rs k y
  reads-then k y known = elim (cases_Bool (same_id y x)) [
    | inl t ↦ ap (read qs k) (cond-true (same_id y x) z y t) ∙ (follows.reads_last k ∙ ap (read rs k) (sym (same_id-true y x t)))
    | inr f ↦ ap (read qs k) (cond-false (same_id y x) z y f) ∙ follows.reads k y known
  ]

  shown-then : (k : List ℕ) (vs : List Version) (ys : List StateId) → ((y : StateId) → IsTrue (is_among y ys) → IsTrue (is_known rs y)) →
      map (shown_version old) vs ≡ map (read_with rs k) ys → map (shown_version new) vs ≡ map (read_with qs k) (map (moved x z) ys)
  shown-then k [] [] known e = refl
  shown-then k [] (y ∷ ys) known e = absurd (let bad : ⊥ = cc in bad)
  shown-then k (v ∷ vs) [] known e = absurd (let bad : ⊥ = cc in bad)
  shown-then k (v ∷ vs) (y ∷ ys) known e =
      let pair : Option StateId → Option (StateId × Write) → Option StateId × Option (StateId × Write) = λ a b. (a, b) in
      let here : shown_version old v ≡ read_with rs k y = cc in
      let rest : map (shown_version old) vs ≡ map (read_with rs k) ys = cc in
      let at = ap (λ (p : Option StateId × Option (StateId × Write)). p.0) here in
      let what = ap (λ (p : Option StateId × Option (StateId × Write)). p.1) here in
      ap₂ (λ p ps. p ∷ ps) (ap₂ pair (named-then v.slot y at) (what ∙ sym (reads-then k y (known y (among-first y ys)))))
      (shown-then k vs ys (λ i m. known i (among-later i y ys m)) rest)

  holders-among : (k : List ℕ) (ys : List StateId) → ((y : StateId) → IsTrue (is_among y ys) → IsTrue (is_known rs y) × (same_id y x ≡ false)) →
      filter (holds_key qs js k) ys ≡ map (moved x z) (filter (holds_key rs ks k) ys)
  holders-among k [] each = refl
  holders-among k (y ∷ ys) each =
      let now = filter (holds_key qs js k) ys in
      let before = filter (holds_key rs ks k) ys in
      let rest = holders-among k ys (λ i m. each i (among-later i y ys m)) in
      let parts = each y (among-first y ys) in
      let same = follows.holds k y parts.0 parts.1 in
      elim (cases_Bool (holds_key rs ks k y)) [
        | inl t ↦
            cond-true (holds_key qs js k y) (y ∷ now) now (same ∙ t)
            ∙ (ap₂ (λ (i : StateId) (is : List StateId). i ∷ is) (sym (cond-false (same_id y x) z y parts.1)) rest
            ∙ sym (ap (map (moved x z)) (cond-true (holds_key rs ks k y) (y ∷ before) before t)))
        | inr f ↦
            cond-false (holds_key qs js k y) (y ∷ now) now (same ∙ f)
            ∙ (rest ∙ sym (ap (map (moved x z)) (cond-false (holds_key rs ks k y) (y ∷ before) before f)))
      ]

  holder-last : (k : List ℕ) → filter (holds_key qs js k) (z ∷ []) ≡ map (moved x z) (filter (holds_key rs ks k) (x ∷ []))
  holder-last k = elim (cases_Bool (holds_key rs ks k x)) [
    | inl t ↦
        cond-true (holds_key qs js k z) (z ∷ []) [] (follows.holds_last k ∙ t)
        ∙ (ap (λ (i : StateId). i ∷ []) (sym (cond-true (same_id x x) z x (same_id_self x)))
        ∙ sym (ap (map (moved x z)) (cond-true (holds_key rs ks k x) (x ∷ []) [] t)))
    | inr f ↦
        cond-false (holds_key qs js k z) (z ∷ []) [] (follows.holds_last k ∙ f)
        ∙ sym (ap (map (moved x z)) (cond-false (holds_key rs ks k x) (x ∷ []) [] f))
  ]

  -- what is kept beside the one that arrived last is another
  before-last : (zs : List StateId) → kept_states rs ks ≡ zs ++ x ∷ [] → (y : StateId) → IsTrue (is_among y zs) →
      IsTrue (is_known rs y) × (same_id y x ≡ false)
  before-last zs is y m =
      let differ : AllDiffer (zs ++ x ∷ []) = subst AllDiffer is (kept-differ rs ks stands.dag) in
      let passes = filtered-passes (λ i. not (same_id i x)) (zs ++ x ∷ []) y
      (subst (λ (is : List StateId). IsTrue (is_among y is)) (sym (without-last zs x differ)) m) in
      let there = listed-is_kept rs ks y (subst (λ (is : List StateId). IsTrue (is_among y is)) (sym is) passes.0) in
      ((and_parts (is_known rs y) (not (is_among y ks)) there).0, not-true (same_id y x) passes.1)

  -- the holders are those before, with the last state in place of the one that had arrived last
  holders-then : (k : List ℕ) → holders qs js k ≡ map (moved x z) (holders rs ks k)
  holders-then k =
      let w = last-kept rs ks stands.dag stands.shared in
      let now = holds_key qs js k in
      let was = holds_key rs ks k in
      ap (filter now) (follows.kept w.0 w.1)
      ∙ (filter-last now w.0 z
      ∙ (ap₂ (λ (a b : List StateId). a ++ b) (holders-among k w.0 (before-last w.0 w.1)) (holder-last k)
      ∙ sym (ap (map (moved x z)) (ap (filter was) w.1 ∙ filter-last was w.0 x)
      ∙ map-append (moved x z) (filter was w.0) (filter was (x ∷ [])))))

  pub versions-then : (k : List ℕ) (vs : List Version) → map (shown_version old) vs ≡ map (read_with rs k) (holders rs ks k) →
      map (shown_version new) vs ≡ map (read_with qs k) (holders qs js k)
  versions-then k vs e =
      shown-then k vs (holders rs ks k) (λ y m. (and_parts (is_known rs y) (not (is_among y ks))
      (holder-parts rs ks stands.dag stands.shared k y m).0).0) e
      ∙ sym (ap (map (read_with qs k)) (holders-then k))

  -- so do stand-ins
  pub stand_ins-then : (i : StateId) (s : Slot) → IsTrue (is_known rs i) → id_at old s ≡ Some (stand_in rs ks i) → id_at new s ≡ Some (stand_in qs js i)
  stand_ins-then i s known here = named-then s (stand_in rs ks i) here ∙ ap (λ (y : StateId). Some y) (sym (follows.stand_ins i known))

  -- and what is read at them is what was read
  pub reads-stay : (k : List ℕ) (i : StateId) → IsTrue (is_known rs i) → read qs k (stand_in qs js i) ≡ read rs k (stand_in rs ks i)
  reads-stay k i known =
      let here = stand_in rs ks i in
      ap (read qs k) (follows.stand_ins i known)
      ∙ reads-then k here (and_parts (is_known rs here) (not (is_among here ks)) ((stands-in-well rs ks stands.dag stands.shared).kept i known)).0

-- ===== The slot of the state that arrived last

pub last-arrives : (rs : List Record) → IsDag rs → arrival rs (last_arrived rs) + 1 ≡ length rs
last-arrives [] dag = absurd (dag)
last-arrives (r ∷ rs) dag = (let is = arrival-newest rs r r.id (same_id_self r.id) in omega (arith, is))

last-is_kept : (rs : List Record) (ks : List StateId) → IsDag rs → StandInsAreShared rs ks → IsTrue (is_kept rs ks (last_arrived rs))
last-is_kept rs ks dag shared =
    let x = last_arrived rs in
    let w = last-kept rs ks dag shared in
    listed-is_kept rs ks x (subst (λ is. IsTrue (is_among x is)) (sym w.1)
    (among-append x w.0 (x ∷ []) ∙ or_right (is_among x w.0) (is_among x (x ∷ [])) (among-first x [])))

module _ (table : Table) (rs : List Record) (ks : List StateId) (stands : Stands table rs ks) (slot : Slot) where
  -- no kept state arrived after the last one
  none-after : arrival_at table slot < length rs
  none-after = go (entry_at table slot) refl
    where
      some : 0 < length rs
      some = let last = last-arrives rs stands.dag in omega (arith, last)

      go : (o : Option Entry) → entry_at table slot ≡ o → option_map_or (λ e. e.arrival) o 0 < length rs
      go None is = some
      go (Some e) is =
          let known = (and_parts (is_known rs e.id) (not (is_among e.id ks)) (entry-is_kept table rs ks stands slot e is)).0 in
          let less = arrival_is_below rs e.id known in
          let same = (stands.shows slot e is).arrived in
          omega (arith, less, same)

  -- the slot after whose state no other kept one arrived is that of the one that arrived last
  pub last-at : IsTrue (arrive_in_order table.entries) → ((s : Slot) → (s ≡ slot → ⊥) → IsTrue (is_kept_at table s) →
      arrival_at table s < arrival_at table slot) → id_at table slot ≡ Some (last_arrived rs)
  last-at in_order newest =
      let x = last_arrived rs in
      let w = kept-has_slot table rs ks stands x (last-is_kept rs ks stands.dag stands.shared) in
      let e = entry-of_id table w.0 x w.1 in
      let there : Slot = w.0 in
      elim (cases_Bool (eqb there.0 slot.0)) [
        | inl t ↦ ap (id_at table) (sym (slot_from there slot (eqb-true there.0 slot.0 t))) ∙ w.1
        | inr f ↦
            let kept = and_from (is_slot table there) (arrive_in_order table.entries) (ap is_some e.1) in_order in
            let before = newest there (λ same. both_ways (eqb there.0 slot.0) f (eq-eqb there.0 slot.0 (ap (λ (s : Slot). s.0) same))) kept in
            let arrived = slots-arrive table rs ks stands there x w.1 in
            let last = last-arrives rs stands.dag in
            let most = none-after in
            absurd (omega (arith, before, arrived, last, most))
      ]

  -- and so is the one at whose state all records had arrived
  pub last-named : (y : StateId) → id_at table slot ≡ Some y → arrival_at table slot + 1 ≡ length rs → id_at table slot ≡ Some (last_arrived rs)
  last-named y named arrived =
      let known = (and_parts (is_known rs y) (not (is_among y ks)) (slot-is_kept table rs ks stands slot y named)).0 in
      let here = slots-arrive table rs ks stands slot y named in
      let last = last-arrives rs stands.dag in
      named ∙ ap (λ (i : StateId). Some i) (arrivals-differ rs stands.dag y (last_arrived rs) known (last-known rs stands.dag)
      (omega (arith, here, last, arrived)))
