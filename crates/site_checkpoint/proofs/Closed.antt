-- Which floors leave all that is collected closed, without a list of it.
use Rattle.std.proofs.Common.{◌≡◌, Bool, true, ◌&&◌, not, List, [], ◌∷◌, map, Option, Some, IsTrue, IsFalse, inl, inr, refl, sym, ap, ap₂, subst, ◌∙◌}
use Rattle.std.specs.List.{list_all}
use Rattle.std.proofs.lemmas.Bool.{and_parts, and_from, or_cases, or_left, or_right, cases_Bool, both_ways, not-true, not_from_false}
use Rattle.std.proofs.lemmas.Bool.{false_from_ne_true}
use Rattle.tardis_base.specs.declared.ids.StateId.{StateId}
use Rattle.tardis_base.specs.declared.ids.Slot.{Slot}
use Rattle.tardis_base.specs.declared.records.Record.{Record}
use Rattle.tardis_base.specs.Ids.{is_among}
use Rattle.plain_dag.specs.States.{is_known, parents_of}
use Rattle.plain_dag.specs.Above.{is_above, is_above_all, is_proper_ancestor}
use Rattle.plain_dag.specs.Collection.{is_kept, kept_states, stand_in}
use Rattle.plain_dag.specs.Dag.{IsDag}
use Rattle.plain_dag.specs.Floors.{Floor, is_closed}
use Rattle.plain_dag.specs.Laws.{StandInsAreShared, StandsInWell}
use Rattle.plain_dag.proofs.Ids.{same_test, not-both, same_id_self, all-at, all-from, among-first, among-later}
use Rattle.plain_dag.proofs.States.{Grows, dag-grows, children_know_parent, known-isnt-newest, parents-newest, parents-before, has-parent-is-known}
use Rattle.plain_dag.proofs.States.{parents-are-known}
use Rattle.plain_dag.proofs.Collected.{proper-parts, proper-from}
use Rattle.plain_dag.proofs.Known.{kept-is_listed}
use Rattle.plain_dag.proofs.StandIns.{moves-on, stays-put, stands-in-well}
use Rattle.state_dag.specs.Table.{Table, id_at}
use Rattle.state_dag.specs.Stands.{Stands}
use Rattle.state_dag.proofs.Known.{listed-is_kept}
use Rattle.state_dag.proofs.Standing.{slot-is_kept}
use Rattle.site_checkpoint.specs.Floors.{is_alone_or_above}

-- ===== States that stand in for others

-- a collected parent of the state
abbrev CollectedParent : List Record → List StateId → StateId → Type 0
CollectedParent rs ks s = (p : StateId) × IsTrue (is_among p (parents_of rs s)) × IsTrue (is_among p ks)

-- a kept state that stands in for a collected one has a collected parent
heir-parent : (rs : List Record) (ks : List StateId) → Grows rs → (x : StateId) → IsTrue (is_among x ks) → IsFalse (is_among (stand_in rs ks x) ks) →
    CollectedParent rs ks (stand_in rs ks x)
heir-parent [] ks g x gone out = not-both (is_among x ks) gone out
heir-parent (r ∷ rs) ks g x gone out =
    let here = stand_in rs ks x in
    elim (cases_Bool (is_among here ks && is_among here r.parents)) [
      | inl t ↦
          let parts = and_parts (is_among here ks) (is_among here r.parents) t in
          subst (CollectedParent (r ∷ rs) ks) (sym (moves-on ks rs r x parts.0 parts.1))
          (here, subst (λ (ps : List StateId). IsTrue (is_among here ps)) (sym (parents-newest rs r r.id (same_id_self r.id))) parts.1, parts.0)
      | inr f ↦
          let stays = stays-put ks rs r x f in
          let older = heir-parent rs ks g.1 x gone (subst (λ s. IsFalse (is_among s ks)) stays out) in
          let apart = known-isnt-newest rs r here g.0 (has-parent-is-known rs older.0 here older.1) in
          subst (CollectedParent (r ∷ rs) ks) (sym stays)
          (older.0, subst (λ (ps : List StateId). IsTrue (is_among older.0 ps)) (sym (parents-before rs r here apart)) older.1, older.2)
    ]

-- one of these for which the test doesn't hold
unheld : (p : StateId → Bool) (xs : List StateId) → IsFalse (list_all p xs) → (x : StateId) × IsTrue (is_among x xs) × IsFalse (p x)
unheld p [] f = not-both true refl f
unheld p (x ∷ xs) f = elim (cases_Bool (p x)) [
  | inl t ↦
      let rest : IsFalse (list_all p xs) = false_from_ne_true (list_all p xs) (λ u. both_ways (list_all p (x ∷ xs)) f (and_from (p x) (list_all p xs) t u)) in
      let there = unheld p xs rest in
      (there.0, among-later there.0 x xs there.1, there.2)
  | inr n ↦ (x, among-first x xs, n)
]

-- ===== The floors

-- slots that name states name kept ones
pub named-kept : (table : Table) (rs : List Record) (ks : List StateId) → Stands table rs ks → (ss : List Slot) (xs : List StateId) →
    map (id_at table) ss ≡ map (λ x. Some x) xs → IsTrue (list_all (is_kept rs ks) xs)
named-kept table rs ks stands [] [] e = refl
named-kept table rs ks stands [] (x ∷ xs) e = (cc)
named-kept table rs ks stands (s ∷ ss) [] e = (cc)
named-kept table rs ks stands (s ∷ ss) (x ∷ xs) e =
    and_from (is_kept rs ks x) (list_all (is_kept rs ks) xs)
    (slot-is_kept table rs ks stands s x (first (id_at table s) (map (id_at table) ss) (Some x) (map (λ y. Some y) xs) e))
    (named-kept table rs ks stands ss xs (rest (id_at table s) (map (id_at table) ss) (Some x) (map (λ y. Some y) xs) e))
  where
    first : (a : Option StateId) (as' : List (Option StateId)) (b : Option StateId) (bs : List (Option StateId)) → a ∷ as' ≡ b ∷ bs → a ≡ b
    first a as' b bs same = (cc)

    rest : (a : Option StateId) (as' : List (Option StateId)) (b : Option StateId) (bs : List (Option StateId)) → a ∷ as' ≡ b ∷ bs → as' ≡ bs
    rest a as' b bs same = (cc)

-- the states at which floors are
abbrev pub states_of : List Floor → List StateId
states_of fs = map (λ (f : Floor). f.state) fs

-- the floors named one by one
pub floors-named : (fs : List Floor) → map (λ (f : Floor). Some f.state) fs ≡ map (λ x. Some x) (states_of fs)
floors-named [] = refl
floors-named (f ∷ fs) = ap (λ os. Some f.state ∷ os) (floors-named fs)

module _ (rs : List Record) (ks : List StateId) (dag : IsDag rs) (known : (x : StateId) → IsTrue (is_among x ks) → IsTrue (is_known rs x)) (shared : StandInsAreShared rs ks) where
  well : StandsInWell rs ks
  well = stands-in-well rs ks dag shared

  uncollected : (x : StateId) → IsTrue (is_kept rs ks x) → IsFalse (is_among x ks)
  uncollected x kept = not-true (is_among x ks) (and_parts (is_known rs x) (not (is_among x ks)) kept).1

  -- a collected state is a proper ancestor of a kept one exactly where its stand-in is at or above it
  closed-here : (x y : StateId) → IsTrue (is_among x ks) → IsTrue (is_kept rs ks y) → is_proper_ancestor rs x y ≡ is_above rs (stand_in rs ks x) y
  closed-here x y gone kept =
      let tells = well.tells x y (known x gone) kept in
      same_test (is_proper_ancestor rs x y) (is_above rs (stand_in rs ks x) y)
      (λ t. sym tells ∙ (proper-parts rs x y t).0)
      (λ t. proper-from rs x y (tells ∙ t) (λ e. both_ways (is_among y ks) (uncollected y kept) (subst (λ z. IsTrue (is_among z ks)) e gone)))

  -- so it is closed exactly where its stand-in is at or above all floors
  closed-is : (fs : List Floor) → IsTrue (list_all (is_kept rs ks) (states_of fs)) → (x : StateId) → IsTrue (is_among x ks) →
      is_closed rs fs x ≡ is_above_all rs (stand_in rs ks x) (states_of fs)
  closed-is [] kept x gone = refl
  closed-is (f ∷ fs) kept x gone =
      let parts = and_parts (is_kept rs ks f.state) (list_all (is_kept rs ks) (states_of fs)) kept in
      ap₂ (λ a b. a && b) (closed-here x f.state gone parts.0) (closed-is fs parts.1 x gone)

  -- the child of a collected state stands where that does
  child-stands : (p s : StateId) → IsTrue (is_among p (parents_of rs s)) → IsTrue (is_among p ks) → IsTrue (is_kept rs ks s) → stand_in rs ks p ≡ s
  child-stands p s parent gone kept = sym ((shared p gone).1 s (children_know_parent rs dag p s ∙ parent)) ∙ well.stays s kept

  pub closed-told : (fs : List Floor) → IsTrue (list_all (is_kept rs ks) (states_of fs)) →
      list_all (is_alone_or_above rs ks (states_of fs)) (kept_states rs ks) ≡ list_all (is_closed rs fs) ks
  closed-told fs kept = same_test (list_all passes (kept_states rs ks)) (list_all (is_closed rs fs) ks) there back
    where
      passes : StateId → Bool
      passes = is_alone_or_above rs ks (states_of fs)

      there : IsTrue (list_all passes (kept_states rs ks)) → IsTrue (list_all (is_closed rs fs) ks)
      there all = all-from (is_closed rs fs) ks (λ x gone.
          let s = stand_in rs ks x in
          let stays = well.kept x (known x gone) in
          let pass = all-at passes (kept_states rs ks) s all (kept-is_listed rs ks s stays) in
          closed-is fs kept x gone ∙ elim (or_cases (list_all (is_kept rs ks) (parents_of rs s)) (is_above_all rs s (states_of fs)) pass) [
            | inl alone ↦
                let parent = heir-parent rs ks (dag-grows rs dag) x gone (uncollected s stays) in
                not-both (is_among parent.0 ks) parent.2 (uncollected parent.0 (all-at (is_kept rs ks) (parents_of rs s) parent.0 alone parent.1))
            | inr above ↦ above
          ])

      back : IsTrue (list_all (is_closed rs fs) ks) → IsTrue (list_all passes (kept_states rs ks))
      back all = all-from passes (kept_states rs ks) (λ s listed.
          let alone = list_all (is_kept rs ks) (parents_of rs s) in
          let above = is_above_all rs s (states_of fs) in
          elim (cases_Bool alone) [
            | inl t ↦ or_left alone above t
            | inr f ↦
                let stays = listed-is_kept rs ks s listed in
                let parent = unheld (is_kept rs ks) (parents_of rs s) f in
                let p = parent.0 in
                let gone : IsTrue (is_among p ks) = not-kept p (parents-are-known rs (dag-grows rs dag) p s parent.1) parent.2 in
                or_right alone above
                (subst (λ z. IsTrue (is_above_all rs z (states_of fs))) (child-stands p s parent.1 gone stays)
                (sym (closed-is fs kept p gone) ∙ all-at (is_closed rs fs) ks p all gone))
          ])
        where
          not-kept : (p : StateId) → IsTrue (is_known rs p) → IsFalse (is_kept rs ks p) → IsTrue (is_among p ks)
          not-kept p here out = elim (cases_Bool (is_among p ks)) [
            | inl t ↦ t
            | inr n ↦ not-both (is_kept rs ks p) (and_from (is_known rs p) (not (is_among p ks)) here (not_from_false (is_among p ks) n)) out
          ]
