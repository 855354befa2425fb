-- Collection is one walk from the newest state to the oldest.
use Rattle.std.proofs.Common.{◌≡◌, ℕ, zero, suc, ◌<◌, ◌≤◌, true, ◌&&◌, not, List, [], ◌∷◌, map, find, Option, Some, None, IsTrue, IsFalse, is_some, inl, inr}
use Rattle.std.proofs.Common.{refl, sym, ap, ap₂, subst, ◌∙◌, arith}
use Rattle.std.proofs.lemmas.Bool.{and_parts, and_from, and_right, or_parts, cases_Bool, both_ways, not-true, not_from_false, false_from_ne_true, cond-false}
use Rattle.std.proofs.Math.Nat.{eq-or-lt_of_le}
use Rattle.tardis_base.specs.declared.ids.StateId.{StateId}
use Rattle.tardis_base.specs.declared.records.Record.{Record}
use Rattle.tardis_base.specs.Ids.{same_id, is_among}
use Rattle.plain_dag.specs.States.{states, is_known, children, arrival}
use Rattle.plain_dag.specs.Floors.{Floor, is_closed}
use Rattle.plain_dag.specs.Collection.{stand_in, common, shared_stand_in, is_absorbed, is_collectable, tidied}
use Rattle.plain_dag.specs.Dag.{IsDag}
use Rattle.plain_dag.specs.Laws.{NoLaterCollectable, TidiesInOneWalk}
use Rattle.plain_dag.proofs.States.{Grows, dag-grows, not-both, same_id-true, same_id_self, same_id_from, among-first, among-later, arrival_is_below}
use Rattle.plain_dag.proofs.States.{arrival-newest, arrival-before, newest-is-known, known-stays, known-cases, known-isnt-newest, parent-is-known}
use Rattle.plain_dag.proofs.States.{child_is_known, child_arrives_later}
use Rattle.plain_dag.proofs.Order.{arrivals-differ}
use Rattle.plain_dag.proofs.Searches.{found-passes, finds-passing, option-cases}
use Rattle.plain_dag.proofs.Newest.{found-is-last}
use Rattle.plain_dag.proofs.StandIns.{moves-on, stays-put, unknown-stands-for-itself, absorbed-parts}
use Rattle.plain_dag.proofs.Joining.{stand-ins-move}

-- ===== No stand-in arrives earlier

-- the newest state stands for itself
newest-stands-for-itself : (rs : List Record) (ks : List StateId) (r : Record) → Grows (r ∷ rs) → stand_in (r ∷ rs) ks r.id ≡ r.id
newest-stands-for-itself rs ks r g =
    let itself = unknown-stands-for-itself ks rs g.1 r.id g.0.new in
    let childless : IsFalse (is_among r.id r.parents) = false_from_ne_true (is_among r.id r.parents)
    (λ m. both_ways (is_known rs r.id) g.0.new (parent-is-known rs r r.id g.0 m)) in
    stays-put ks rs r r.id (and_right (is_among (stand_in rs ks r.id) ks) (is_among (stand_in rs ks r.id) r.parents)
    (subst (λ z. IsFalse (is_among z r.parents)) (sym itself) childless)) ∙ itself

-- a stand-in is known, and arrived no earlier than what it stands for
record IsNoEarlier (rs : List Record) (z y : StateId) : Type 0 where
  known : IsTrue (is_known rs y)
  later : arrival rs z ≤ arrival rs y

stands-no-earlier : (rs : List Record) (ks : List StateId) → Grows rs → (z : StateId) → IsTrue (is_known rs z) → IsNoEarlier rs z (stand_in rs ks z)
stands-no-earlier [] ks g z known = not-both true refl (sym known)
stands-no-earlier (r ∷ rs) ks g z known = elim (known-cases rs r z known) [
  | inl new ↦
      let is : stand_in (r ∷ rs) ks z ≡ z = ap (stand_in (r ∷ rs) ks) new ∙ (newest-stands-for-itself rs ks r g ∙ sym new) in
      subst (IsNoEarlier (r ∷ rs) z) (sym is) (record { known = known; later = omega arith })
  | inr old ↦
      let here = stand_in rs ks z in
      let was = stands-no-earlier rs ks g.1 z old in
      let before = arrival-before rs r z (known-isnt-newest rs r z g.0 old) in
      elim (cases_Bool (is_among here ks && is_among here r.parents)) [
        | inl t ↦
            let goes = and_parts (is_among here ks) (is_among here r.parents) t in
            let newest = arrival-newest rs r r.id (same_id_self r.id) in
            let below = arrival_is_below rs z old in
            subst (IsNoEarlier (r ∷ rs) z) (sym (moves-on ks rs r z goes.0 goes.1)) (record { known = newest-is-known rs r; later = omega arith })
        | inr f ↦
            let there = arrival-before rs r here (known-isnt-newest rs r here g.0 was.known) in
            let no_later = was.later in
            subst (IsNoEarlier (r ∷ rs) z) (sym (stays-put ks rs r z f)) (record { known = known-stays rs r here was.known; later = omega arith })
      ]
]

-- ===== What the walk leaves behind

maps-agree : (f g : StateId → StateId) (cs : List StateId) → ((c : StateId) → IsTrue (is_among c cs) → f c ≡ g c) → map f cs ≡ map g cs
maps-agree f g [] same = refl
maps-agree f g (c ∷ cs) same = ap₂ (λ d ds. d ∷ ds) (same c (among-first c cs)) (maps-agree f g cs (λ d m. same d (among-later d c cs m)))

module _ (rs : List Record) (floors : List Floor) (ks : List StateId) (dag : IsDag rs) where
  -- where x joins, nothing changes of what the children of a state share that didn't arrive before x
  later-shares-still : (x y s : StateId) → IsFalse (is_among x ks) → shared_stand_in rs ks x ≡ Some s → arrival rs x ≤ arrival rs y →
      shared_stand_in rs (x ∷ ks) y ≡ shared_stand_in rs ks y
  later-shares-still x y s fresh shares no_earlier =
      ap (common same_id) (maps-agree (stand_in rs (x ∷ ks)) (stand_in rs ks) (children rs y) (λ c m.
      stand-ins-move rs ks dag x s fresh shares c ∙ cond-false (same_id (stand_in rs ks c) x) s (stand_in rs ks c) (other c m)))
    where
      other : (c : StateId) → IsTrue (is_among c (children rs y)) → IsFalse (same_id (stand_in rs ks c) x)
      other c m = false_from_ne_true (same_id (stand_in rs ks c) x) (λ t.
          let later = child_arrives_later rs dag y c m in
          let stands = (stands-no-earlier rs ks (dag-grows rs dag) c (child_is_known rs y c m)).later in
          let same = ap (arrival rs) (same_id-true (stand_in rs ks c) x t) in
          absurd (omega arith))

  -- what is collectable is fresh, closed, and its children share a stand-in
  collectable-parts : (x : StateId) → IsTrue (is_collectable rs floors ks x) → IsTrue (not (is_among x ks)) × IsTrue (is_closed rs floors x)
      × IsTrue (is_absorbed rs ks x)
  collectable-parts x collectable =
      let fits = and_parts (not (is_among x ks) && is_closed rs floors x) (is_absorbed rs ks x) collectable in
      let first = and_parts (not (is_among x ks)) (is_closed rs floors x) fits.0 in
      (first.0, first.1, fits.1)

  goes-on : (x y : StateId) → IsTrue (is_known rs x) → IsTrue (is_collectable rs floors ks x) → NoLaterCollectable rs floors ks x → IsTrue (is_known rs y)
      → arrival rs x ≤ arrival rs y →
      IsFalse (is_collectable rs floors (x ∷ ks) y)
  goes-on x y known collectable none known_y no_earlier = false_from_ne_true (is_collectable rs floors (x ∷ ks) y) (λ t.
      let old = collectable-parts x collectable in
      let share = absorbed-parts rs ks x old.2 in
      let fits = and_parts (not (is_among y (x ∷ ks)) && is_closed rs floors y) (is_absorbed rs (x ∷ ks) y) t in
      let first = and_parts (not (is_among y (x ∷ ks))) (is_closed rs floors y) fits.0 in
      let out = or_parts (same_id y x) (is_among y ks) (not-true (is_among y (x ∷ ks)) first.0) in
      let same = later-shares-still x y share.0 (not-true (is_among x ks) old.0) share.1 no_earlier in
      let was : IsTrue (is_collectable rs floors ks y) =
      and_from (not (is_among y ks) && is_closed rs floors y) (is_absorbed rs ks y)
      (and_from (not (is_among y ks)) (is_closed rs floors y) (not_from_false (is_among y ks) out.1) first.1)
      (sym (ap (λ o. is_some o) same) ∙ fits.1) in
      let differ : arrival rs x ≡ arrival rs y → ⊥ = λ e. both_ways (same_id y x) out.0 (same_id_from y x (sym (arrivals-differ rs dag x y known known_y e))) in
      both_ways (is_collectable rs floors ks y) (none y known_y (strictly (arrival rs x) (arrival rs y) no_earlier differ)) was)
    where
      strictly : (a b : ℕ) → a ≤ b → (a ≡ b → ⊥) → a < b
      strictly a b le other = elim (eq-or-lt_of_le le) [
        | inl e ↦ absurd (other e)
        | inr l ↦ l
      ]

  finds-newest : (x : StateId) → IsTrue (is_known rs x) → IsTrue (is_collectable rs floors ks x) → NoLaterCollectable rs floors ks x →
      find (is_collectable rs floors ks) (states rs) ≡ Some x
  finds-newest x known collectable none =
      let found = finds-passing (is_collectable rs floors ks) (states rs) x known collectable in
      let passes = found-passes (is_collectable rs floors ks) (states rs) found.0 found.1 in
      let last = found-is-last rs (dag-grows rs dag) (is_collectable rs floors ks) found.0 x found.1 known collectable in
      let no_later : arrival rs x < arrival rs found.0 → ⊥ = λ l. both_ways (is_collectable rs floors ks found.0) (none found.0 passes.0 l) passes.1 in
      found.1 ∙ ap (λ z. Some z) (sym (arrivals-differ rs dag x found.0 known passes.0 (equal (arrival rs x) (arrival rs found.0) last no_later)))
    where
      equal : (a b : ℕ) → a ≤ b → (a < b → ⊥) → a ≡ b
      equal a b le none = elim (eq-or-lt_of_le le) [
        | inl e ↦ e
        | inr l ↦ absurd (none l)
      ]

  joins : (n : ℕ) (x : StateId) → IsTrue (is_known rs x) → IsTrue (is_collectable rs floors ks x) → NoLaterCollectable rs floors ks x →
      tidied (suc n) rs floors ks ≡ tidied n rs floors (x ∷ ks)
  joins n x known collectable none =
      ap (λ (o : Option StateId). elim o as (λ u. List StateId) [ None ↦ ks | Some y ↦ tidied n rs floors (y ∷ ks) ]) (finds-newest x known collectable none)

  ends : (n : ℕ) → ((y : StateId) → IsTrue (is_known rs y) → IsFalse (is_collectable rs floors ks y)) → tidied n rs floors ks ≡ ks
  ends zero none = refl
  ends (suc n) none = elim (option-cases (find (is_collectable rs floors ks) (states rs))) [
    | inl found ↦
        let passes = found-passes (is_collectable rs floors ks) (states rs) found.0 found.1 in
        absurd (both_ways (is_collectable rs floors ks found.0) (none found.0 passes.0) passes.1)
    | inr nothing ↦ ap (λ (o : Option StateId). elim o as (λ u. List StateId) [ None ↦ ks | Some y ↦ tidied n rs floors (y ∷ ks) ]) nothing
  ]

  pub tidies-in-one-walk : TidiesInOneWalk rs floors ks
  tidies-in-one-walk = record { joins = joins; goes_on = goes-on; ends = ends }
