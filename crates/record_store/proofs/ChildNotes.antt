-- What is noted of the children of states, and what it is worth.
use Rattle.std.proofs.Common.{◌≡◌, ◌⊎◌, ℕ, ◌≤◌, Bool, true, false, cond, ◌&&◌, eqb, ltb, not, List, [], ◌∷◌, ◌++◌, length, map, take, Option, Some}
use Rattle.std.proofs.Common.{None, is_some, IsTrue, IsFalse, inl, inr, refl, sym, ap, ap₂, subst, ◌∙◌, eq-eqb, arith}
use Rattle.std.specs.List.{list_all}
use Rattle.std.specs.Option.{option_map, option_map_or, option_and_then}
use Rattle.std.proofs.lemmas.Bool.{cases_Bool, both_ways, and_parts, and_from, or_left, or_right, cond-true, cond-false, not_from_false, ne_eqb}
use Rattle.std.proofs.lemmas.Option.{none-some, same_Some}
use Rattle.std.proofs.lemmas.List.{length-map}
use Rattle.std.proofs.lemmas.List.Folds.{list_any-append}
use Rattle.tardis_base.specs.declared.ids.StateId.{StateId}
use Rattle.tardis_base.specs.declared.ids.Slot.{Slot}
use Rattle.tardis_base.specs.declared.records.Record.{Record}
use Rattle.tardis_base.specs.Ids.{same_id, is_among}
use Rattle.plain_dag.specs.States.{is_known, parents_of, children}
use Rattle.plain_dag.specs.Landing.{is_news}
use Rattle.plain_dag.specs.Collection.{is_kept, stand_in}
use Rattle.plain_dag.proofs.Ids.{same_id-true, among-first, among-later}
use Rattle.plain_dag.proofs.States.{child_is_known}
use Rattle.plain_dag.proofs.StandIns.{stands-in-well}
use Rattle.state_dag.specs.Table.{Entry, Table, entry_at, id_at, is_slot, arrive_in_order, only_of, only_parent_at, child_slots_at}
use Rattle.state_dag.specs.Grown.{KeepsPlaces}
use Rattle.state_dag.specs.Detached.{passed_on}
use Rattle.state_dag.specs.Answers.{KeepsSlots, GivesChild, LeavesChildren}
use Rattle.state_dag.proofs.Calls.{named-is_slot}
use Rattle.state_dag.proofs.Standing.{shown, slot-is_kept}
use Rattle.version_list.specs.declared.histories.Version.{Version}
use Rattle.version_list.specs.Versions.{Versions, versions_of, same_slot, has_version_at}
use Rattle.version_list.specs.Promoted.{version_at, without_version, at_state, in_its_place, handed_on, promoted}
use Rattle.record_store.specs.declared.child_notes.ChildNote.{ChildNote}
use Rattle.record_store.specs.Store.{Store}
use Rattle.record_store.specs.Stands.{StoreStands}
use Rattle.record_store.specs.ChildNotes.{note_for, is_child_with, IsTrueNote, AreTrueNotes, IsApart}
use Rattle.record_store.proofs.Holders.{child-news}
use Rattle.record_store.proofs.LatestHolders.{version-is_held}
use Rattle.record_store.proofs.Collecting.{slots-from_same, has-without}

-- ===== Notes

-- where one was put, it is found at its slot, and the others where they were
pub put-one : (slot q : Slot) (note n : ChildNote) (old new : Option ChildNote) → new ≡ cond (same_slot slot q) (Some note) old → new ≡ Some n →
    (old ≡ Some n) ⊎ ((q ≡ slot) × (n ≡ note))
put-one slot q note n old new e is = elim (cases_Bool (same_slot slot q)) [
  | inl t ↦ inr (sym (slots-from_same slot q t), same_Some n note (sym is ∙ (e ∙ cond-true (same_slot slot q) (Some note) old t)))
  | inr f ↦ inl (sym (e ∙ cond-false (same_slot slot q) (Some note) old f) ∙ is)
]

-- where one was taken, the others are found where they were
pub taken-one : (slot q : Slot) (n : ChildNote) (old new : Option ChildNote) → new ≡ cond (same_slot slot q) None old → new ≡ Some n →
    (q ≡ slot → ⊥) × (old ≡ Some n)
taken-one slot q n old new e is = elim (cases_Bool (same_slot slot q)) [
  | inl t ↦ absurd (none-some n (sym (e ∙ cond-true (same_slot slot q) None old t) ∙ is))
  | inr f ↦ (
    λ same. both_ways (same_slot slot q) f (eq-eqb slot.0 q.0 (ap (λ (s : Slot). s.0) (sym same))),
    sym (e ∙ cond-false (same_slot slot q) None old f) ∙ is,
  )
]

-- ===== Lists

all-turn : (p q : Slot → Bool) → ((c : Slot) → p c ≡ true → q c ≡ true) → (cs : List Slot) → list_all p cs ≡ true → list_all q cs ≡ true
all-turn p q turns [] all = refl
all-turn p q turns (c ∷ cs) all =
    let parts = and_parts (p c) (list_all p cs) all in
    and_from (q c) (list_all q cs) (turns c parts.0) (all-turn p q turns cs parts.1)

-- a list that keeps its places begins as it did
keeps-later : (o m : Slot) (old new : List Slot) → KeepsPlaces (o ∷ old) (m ∷ new) → KeepsPlaces old new
keeps-later o m old new keeps = λ i s is. keeps (ℕ.suc i) s is

begins-alike : (old new : List Slot) → KeepsPlaces old new → (n : ℕ) → n ≤ length old → (take n new ≡ take n old) × (n ≤ length new)
begins-alike old new keeps ℕ.zero le = (refl, omega arith)
begins-alike [] new keeps (ℕ.suc n) le = absurd (omega arith)
begins-alike (o ∷ old) [] keeps (ℕ.suc n) le = absurd (none-some o (keeps 0 o refl))
begins-alike (o ∷ old) (m ∷ new) keeps (ℕ.suc n) le =
    let rest = begins-alike old new (keeps-later o m old new keeps) n (omega arith) in
    let more = rest.1 in
    (ap₂ (λ (c : Slot) (cs : List Slot). c ∷ cs) (same_Some m o (keeps 0 o refl)) rest.0, omega arith)

-- slots of kept states stay so
pub slots-are_kept : (table old new : Table) → old ≡ table → KeepsSlots old new → (slots : List Slot) → IsTrue (list_all (is_slot table) slots) →
    IsTrue (list_all (is_slot new) slots)
slots-are_kept table old new same keeps slots all = all-turn (is_slot table) (is_slot new) one slots all
  where
    there : (c : Slot) (o : Option Entry) → entry_at old c ≡ o → is_some o ≡ true → is_slot new c ≡ true
    there c None is t = absurd (both_ways false refl t)
    there c (Some e) is t = named-is_slot new c e.id (keeps c e.id (ap (option_map (λ (f : Entry). f.id)) is))

    one : (c : Slot) → is_slot table c ≡ true → is_slot new c ≡ true
    one c h = there c (entry_at old c) refl (subst (λ t. is_slot t c ≡ true) (sym same) h)

-- ===== What is noted stays so

-- where nothing is noted all is so
pub none-true : (table : Table) (vs : Versions) → AreTrueNotes table vs []
none-true table vs = λ q n is. absurd (none-some n is)

-- a note of no child says nothing
none-noted : (table : Table) (vs : Versions) (slot : Slot) (n : ChildNote) → n.count ≡ 0 → IsTrueNote table vs slot n
none-noted table vs slot n none = record {
  within = omega (arith, none);
  holds = λ x named. subst (λ k. list_all (is_child_with table vs x n.key) (take k (child_slots_at table slot)) ≡ true) (sym none) refl;
}

module _ (old new : Table) (ovs nvs : Versions) where
  -- the state at a slot with a parent is kept
  parent-there : (c : Slot) (x : StateId) → option_map_or (same_id x) (only_parent_at old c) false ≡ true → is_slot old c ≡ true
  parent-there c x h = go (entry_at old c) h
    where
      go : (o : Option Entry) → option_map_or (same_id x) (option_and_then only_of (option_map (λ e. e.parents) o)) false ≡ true → is_some o ≡ true
      go None t = absurd (both_ways false refl t)
      go (Some e) t = refl

  -- where a state arrived
  pub notes-grow : (parents : List Slot) (slot : Slot) → GivesChild old new parents slot → KeepsSlots old new → (more : List ℕ → List Version) →
      ((k : List ℕ) → versions_of nvs k ≡ versions_of ovs k ++ more k) → (es : List (Slot × ChildNote)) → AreTrueNotes old ovs es → AreTrueNotes new nvs es
  notes-grow parents slot gives keeps more versions es so = λ q n is. go q n (so q n is) (entry_at old q) refl
    where
      still : (x : StateId) (k : List ℕ) (c : Slot) → is_child_with old ovs x k c ≡ true → is_child_with new nvs x k c ≡ true
      still x k c h =
          let parts = and_parts (option_map_or (same_id x) (only_parent_at old c) false) (has_version_at c (versions_of ovs k)) h in
          and_from (option_map_or (same_id x) (only_parent_at new c) false) (has_version_at c (versions_of nvs k))
          (ap (λ o. option_map_or (same_id x) (option_and_then only_of o) false) (gives.parents_stay c (parent-there c x parts.0)) ∙ parts.0)
          (ap (has_version_at c) (versions k) ∙ (list_any-append (λ (v : Version). same_slot v.slot c) (versions_of ovs k) (more k)
          ∙ or_left (has_version_at c (versions_of ovs k)) (has_version_at c (more k)) parts.1))

      go : (q : Slot) (n : ChildNote) → IsTrueNote old ovs q n → (o : Option Entry) → entry_at old q ≡ o → IsTrueNote new nvs q n
      go q n note None is =
          let few = subst (λ (o : Option Entry). n.count ≤ length (option_map_or (λ e. e.stand_ins) o [])) is note.within in
          none-noted new nvs q n (omega (arith, few))
      go q n note (Some e) is =
          let begins = begins-alike (child_slots_at old q) (child_slots_at new q) (gives.places q) n.count note.within in
          let named : id_at old q ≡ Some e.id = ap (option_map (λ (f : Entry). f.id)) is in
          record {
            within = begins.1;
            holds = λ x is_x.
                let same = same_Some e.id x (sym (keeps q e.id named) ∙ is_x) in
                subst (λ cs. list_all (is_child_with new nvs x n.key) cs ≡ true) (sym begins.0)
                (all-turn (is_child_with old ovs x n.key) (is_child_with new nvs x n.key) (still x n.key) (take n.count (child_slots_at old q))
                (note.holds x (named ∙ ap (λ z. Some z) same)));
          }

  -- where nothing but room changed
  pub notes-stay : new ≡ old → ((k : List ℕ) → versions_of nvs k ≡ versions_of ovs k) → (es : List (Slot × ChildNote)) → AreTrueNotes old ovs es →
      AreTrueNotes new nvs es
  notes-stay same versions es so = λ q n is.
      let note = so q n is in
      subst (λ t. IsTrueNote t nvs q n) (sym same) (record {
        within = note.within;
        holds = λ x named.
            all-turn (is_child_with old ovs x n.key) (is_child_with old nvs x n.key)
            (λ c h. ap (λ l. option_map_or (same_id x) (only_parent_at old c) false && has_version_at c l) (versions n.key) ∙ h)
            (take n.count (child_slots_at old q)) (note.holds x named);
      })

-- ===== Where a state leaves

-- another state's version stays
has-placed : (arrived : Slot → ℕ) (q : Slot) (v : Version) (ws : List Version) → has_version_at q ws ≡ true → has_version_at q (in_its_place arrived v ws) ≡ true
has-placed arrived q v [] h = absurd (both_ways false refl h)
has-placed arrived q v (w ∷ ws) h = elim (cases_Bool (ltb (arrived v.slot) (arrived w.slot))) [
  | inl t ↦ rw t (or_right (same_slot v.slot q) (has_version_at q (w ∷ ws)) h)
  | inr f ↦ elim (cases_Bool (same_slot w.slot q)) [
    | inl own ↦ rw f (or_left (same_slot w.slot q) (has_version_at q (in_its_place arrived v ws)) own)
    | inr other ↦ rw f (or_right (same_slot w.slot q) (has_version_at q (in_its_place arrived v ws)) (has-placed arrived q v ws (rw other at h)))
  ]
]

has-promoted : (arrived : Slot → ℕ) (from to q : Slot) (vs : List Version) → same_slot from q ≡ false → has_version_at q vs ≡ true →
    has_version_at q (promoted arrived from to vs) ≡ true
has-promoted arrived from to q vs differ h = go (version_at from vs)
  where
    ws : List Version
    ws = without_version from vs

    there : has_version_at q ws ≡ true
    there = has-without from q vs differ ∙ h

    go : (o : Option Version) → has_version_at q (handed_on arrived to ws o) ≡ true
    go None = there
    go (Some v) = elim (cases_Bool (has_version_at to ws)) [
      | inl t ↦ ap (has_version_at q) (cond-true (has_version_at to ws) ws (in_its_place arrived (at_state to v) ws) t) ∙ there
      | inr f ↦ ap (has_version_at q) (cond-false (has_version_at to ws) ws (in_its_place arrived (at_state to v) ws) f)
          ∙ has-placed arrived q (at_state to v) ws there
    ]

only-is : (x : StateId) (o : Option StateId) → option_map_or (same_id x) o false ≡ true → o ≡ Some x
only-is x None t = absurd (both_ways false refl t)
only-is x (Some y) t = ap (λ z. Some z) (sym (same_id-true x y t))

module _ (old new : Table) (ovs nvs : Versions) (gone heir : Slot) (leaves : LeavesChildren old new gone heir)
    (names : (s : Slot) → (s ≡ gone → ⊥) → id_at new s ≡ id_at old s) (arrived : Slot → ℕ)
    (versions : (k : List ℕ) → versions_of nvs k ≡ promoted arrived gone heir (versions_of ovs k)) where
  still-child : (x : StateId) (k : List ℕ) (c : Slot) → eqb c.0 gone.0 ≡ false → is_child_with old ovs x k c ≡ true → is_child_with new nvs x k c ≡ true
  still-child x k c other h =
      let parts = and_parts (option_map_or (same_id x) (only_parent_at old c) false) (has_version_at c (versions_of ovs k)) h in
      let differ : c ≡ gone → ⊥ = λ e. both_ways (eqb c.0 gone.0) other (eq-eqb c.0 gone.0 (ap (λ (s : Slot). s.0) e)) in
      and_from (option_map_or (same_id x) (only_parent_at new c) false) (has_version_at c (versions_of nvs k))
      (ap (λ o. option_map_or (same_id x) (option_and_then only_of o) false) (leaves.parents_stay c differ) ∙ parts.0)
      (ap (has_version_at c) (versions k) ∙ has-promoted arrived gone heir c (versions_of ovs k)
      (ne_eqb gone.0 c.0 (λ e. both_ways (eqb c.0 gone.0) other (eq-eqb c.0 gone.0 (sym e)))) parts.1)

  -- none of these children is the one that goes
  passed-alike : (x : StateId) (k : List ℕ) → (only_parent_at old gone ≡ Some x → ⊥) → (cs : List Slot) (n : ℕ) →
      list_all (is_child_with old ovs x k) (take n cs) ≡ true → list_all (is_child_with new nvs x k) (take n (map (passed_on gone heir) cs)) ≡ true
  passed-alike x k apart cs ℕ.zero all = refl
  passed-alike x k apart [] (ℕ.suc n) all = refl
  passed-alike x k apart (c ∷ cs) (ℕ.suc n) all =
      let parts = and_parts (is_child_with old ovs x k c) (list_all (is_child_with old ovs x k) (take n cs)) all in
      let rest = passed-alike x k apart cs n parts.1 in
      elim (cases_Bool (eqb c.0 gone.0)) [
        | inl t ↦
            let here = and_parts (option_map_or (same_id x) (only_parent_at old c) false) (has_version_at c (versions_of ovs k)) parts.0 in
            absurd (apart (subst (λ s. only_parent_at old s ≡ Some x) (slots-from_same c gone t) (only-is x (only_parent_at old c) here.0)))
        | inr f ↦
            let own : passed_on gone heir c ≡ c = cond-false (eqb c.0 gone.0) heir c f in
            and_from (is_child_with new nvs x k (passed_on gone heir c)) (list_all (is_child_with new nvs x k) (take n (map (passed_on gone heir) cs)))
            (subst (λ s. is_child_with new nvs x k s ≡ true) (sym own) (still-child x k c f parts.0)) rest
      ]

  -- what is noted of others than the one that goes and its parent
  pub notes-left : (es fs : List (Slot × ChildNote)) → ((q : Slot) (n : ChildNote) → note_for q fs ≡ Some n → IsApart old gone q × (note_for q es ≡ Some n)) →
      AreTrueNotes old ovs es → AreTrueNotes new nvs fs
  notes-left es fs left so = λ q n is.
      let apart = (left q n is).0 in
      let note = so q n (left q n is).1 in
      let children = leaves.children q apart.other in
      record {
        within = (
            let same = ap length children ∙ length-map (child_slots_at old q) (passed_on gone heir) in
            let few = note.within in
            omega (arith, same, few)
            );
        holds = λ x named.
            let at = sym (names q apart.other) ∙ named in
            subst (λ cs. list_all (is_child_with new nvs x n.key) (take n.count cs) ≡ true) (sym children)
            (passed-alike x n.key (λ lone. apart.no_parent x lone at) (child_slots_at old q) n.count (note.holds x at));
      }

-- ===== What a note is worth

only-lone : (ps : List StateId) (x : StateId) → only_of ps ≡ Some x → ps ≡ x ∷ []
only-lone [] x e = absurd (none-some x e)
only-lone (p ∷ []) x e = ap (λ z. z ∷ []) (same_Some p x e)
only-lone (p ∷ r ∷ ps) x e = absurd (none-some x e)

module _ (store : Store) (rs : List Record) (ks : List StateId) (stands : StoreStands store rs ks) (up : IsTrue (arrive_in_order store.table.entries))
    (slot : Slot) (x : StateId) (named : id_at store.table slot ≡ Some x) (k : List ℕ) where
  -- what is written at a child with no other parent is news
  one-is_news : (c : Slot) (y : StateId) → id_at store.table c ≡ Some y → is_child_with store.table store.versions x k c ≡ true → is_news rs x y k ≡ true
  one-is_news c y is h =
      let parts = and_parts (option_map_or (same_id x) (only_parent_at store.table c) false) (has_version_at c (versions_of store.versions k)) h in
      let lone = parent-is (entry_at store.table c) refl (only-is x (only_parent_at store.table c) parts.0) in
      sym (child-news rs ks stands.table.dag stands.table.shared k x y (slot-is_kept store.table rs ks stands.table slot x named)
      (slot-is_kept store.table rs ks stands.table c y is) lone)
      ∙ (sym (version-is_held store rs ks stands up c y is k) ∙ parts.1)
    where
      parent-is : (o : Option Entry) → entry_at store.table c ≡ o → option_and_then only_of (option_map (λ e. e.parents) o) ≡ Some x → parents_of rs y ≡ x ∷ []
      parent-is None there e = absurd (none-some x e)
      parent-is (Some f) there e = sym (shown store.table rs ks stands.table c f y there is).has_parents ∙ only-lone f.parents x e

  news-all : (slots : List Slot) (cs : List StateId) → ((c : StateId) → IsTrue (is_among c cs) → IsTrue (is_kept rs ks c)) →
      map (id_at store.table) slots ≡ map (λ c. Some (stand_in rs ks c)) cs → (n : ℕ) →
      list_all (is_child_with store.table store.versions x k) (take n slots) ≡ true → list_all (λ c. is_news rs x c k) (take n cs) ≡ true
  news-all slots cs kept e ℕ.zero all = refl
  news-all slots [] kept e (ℕ.suc n) all = refl
  news-all [] (c ∷ cs) kept e (ℕ.suc n) all = absurd (let bad : ⊥ = cc in bad)
  news-all (s ∷ slots) (c ∷ cs) kept e (ℕ.suc n) all =
      let here : id_at store.table s ≡ Some (stand_in rs ks c) = cc in
      let rest : map (id_at store.table) slots ≡ map (λ d. Some (stand_in rs ks d)) cs = cc in
      let itself = (stands-in-well rs ks stands.table.dag stands.table.shared).stays c (kept c (among-first c cs)) in
      let parts = and_parts (is_child_with store.table store.versions x k s) (list_all (is_child_with store.table store.versions x k) (take n slots)) all in
      and_from (is_news rs x c k) (list_all (λ d. is_news rs x d k) (take n cs))
      (one-is_news s c (here ∙ ap (λ z. Some z) itself) parts.0)
      (news-all slots cs (λ d m. kept d (among-later d c cs m)) rest n parts.1)

  pub noted-news : ((c : StateId) → IsTrue (is_among c (children rs x)) → IsFalse (is_among c ks)) → (n : ChildNote) →
      IsTrueNote store.table store.versions slot n → n.key ≡ k → IsTrue (list_all (λ c. is_news rs x c k) (take n.count (children rs x)))
  noted-news out n note same = go (entry_at store.table slot) refl named (subst (λ j. list_all (is_child_with store.table store.versions x j)
      (take n.count (child_slots_at store.table slot)) ≡ true) same (note.holds x named))
    where
      kept : (c : StateId) → IsTrue (is_among c (children rs x)) → IsTrue (is_kept rs ks c)
      kept c m = and_from (is_known rs c) (not (is_among c ks)) (child_is_known rs x c m) (not_from_false (is_among c ks) (out c m))

      go : (o : Option Entry) → entry_at store.table slot ≡ o → option_map (λ e. e.id) o ≡ Some x →
          list_all (is_child_with store.table store.versions x k) (take n.count (option_map_or (λ e. e.stand_ins) o [])) ≡ true →
          IsTrue (list_all (λ c. is_news rs x c k) (take n.count (children rs x)))
      go None there e all = absurd (none-some x e)
      go (Some f) there e all = news-all f.stand_ins (children rs x) kept (shown store.table rs ks stands.table slot f x there named).has_stand_ins n.count all
