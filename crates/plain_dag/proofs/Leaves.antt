-- Leaves: they are admitted everywhere, and transactions that may begin anywhere begin at one.
use Rattle.std.proofs.Common.{◌≡◌, Bool, true, false, not, List, [], ◌∷◌, find, Some, IsTrue, IsFalse, unwrap_or, refl, sym, ap, subst, ◌∙◌, inl, inr}
use Rattle.std.proofs.lemmas.Bool.{or_cases, or_parts, or_from, and_parts, cases_Bool, both_ways, not-true, not_from_false, false_from_ne_true, cond-true}
use Rattle.std.proofs.lemmas.Bool.{cond-false}
use Rattle.std.specs.List.{list_any}
use Rattle.tardis_base.specs.declared.ids.StateId.{StateId}
use Rattle.tardis_base.specs.declared.records.Record.{Record}
use Rattle.tardis_base.specs.Ids.{same_id, is_among}
use Rattle.plain_dag.specs.States.{states, is_known, children}
use Rattle.plain_dag.specs.Above.{is_above, is_proper_ancestor}
use Rattle.plain_dag.specs.Forks.{is_leaf}
use Rattle.plain_dag.specs.Begin.{last_arrived, last_below}
use Rattle.plain_dag.specs.Dag.{IsDag}
use Rattle.plain_dag.specs.Laws.{LeavesAreAdmitted, BeginsAtLeaves}
use Rattle.plain_dag.proofs.Ids.{not-both, same_id-true, same_id_self, same_id_from}
use Rattle.plain_dag.proofs.Histories.{Grows, dag-grows, known-stays, known-before, known-isnt-newest, newest-is-known, parent-is-known}
use Rattle.plain_dag.proofs.Order.{above-same, above-before, above-by-parent}
use Rattle.plain_dag.proofs.States.{children-before, proper_goes_by_child}
use Rattle.plain_dag.proofs.Searches.{found-passes, find-agrees}

-- ===== Leaves are admitted

-- some record has the state as a parent
abbrev is_parent : List Record → StateId → Bool
is_parent rs x = list_any (λ r. is_among x r.parents) rs

-- a state that is no parent has no child
pub childless : (rs : List Record) (x : StateId) → IsFalse (is_parent rs x) → children rs x ≡ []
childless [] x f = refl
childless (r ∷ rs) x f =
    let parts = or_parts (is_among x r.parents) (is_parent rs x) f in
    children-before rs r x parts.0 ∙ childless rs x parts.1

pub leaf-is-childless : (rs : List Record) (x : StateId) → IsTrue (is_leaf rs x) → children rs x ≡ []
leaf-is-childless rs x leaf = childless rs x (not-true (is_parent rs x) leaf)

pub leaves-are-admitted : (rs : List Record) → IsDag rs → LeavesAreAdmitted rs
leaves-are-admitted rs dag x c known leaf =
    not_from_false (is_proper_ancestor rs x c) (false_from_ne_true (is_proper_ancestor rs x c) (λ proper.
    let parts = and_parts (is_above rs x c) (not (same_id x c)) proper in
    let w = proper_goes_by_child rs dag x c parts.0 (λ e. not-both (same_id x c) (same_id_from x c e) (not-true (same_id x c) parts.1)) in
    not-both false (subst (λ cs. IsTrue (is_among w.0 cs)) (leaf-is-childless rs x leaf) w.1) refl))

-- ===== Where transactions begin

-- a parent is known
parent-known : (rs : List Record) → Grows rs → (x : StateId) → IsTrue (is_parent rs x) → IsTrue (is_known rs x)
parent-known [] g x m = not-both true refl (sym m)
parent-known (r ∷ rs) g x m = elim (or_cases (is_among x r.parents) (is_parent rs x) m) [
  | inl here ↦ known-stays rs r x (parent-is-known rs r x g.0 here)
  | inr older ↦ known-stays rs r x (parent-known rs g.1 x older)
]

-- the newest state is a leaf
newest-is-leaf : (rs : List Record) (r : Record) → Grows (r ∷ rs) → IsTrue (is_leaf (r ∷ rs) r.id)
newest-is-leaf rs r g = not_from_false (is_parent (r ∷ rs) r.id) (or_from (is_among r.id r.parents) (is_parent rs r.id)
    (false_from_ne_true (is_among r.id r.parents) (λ m. both_ways (is_known rs r.id) g.0.new (parent-is-known rs r r.id g.0 m)))
    (false_from_ne_true (is_parent rs r.id) (λ m. both_ways (is_known rs r.id) g.0.new (parent-known rs g.1 r.id m))))

-- the leaf is the last-arrived state that this one is at or above
record IsLastLeaf (rs : List Record) (last x : StateId) : Type 0 where
  is : find (is_above rs last) (states rs) ≡ Some x
  leaf : IsTrue (is_leaf rs x)

-- a known state has such a leaf
last-leaf : (rs : List Record) → Grows rs → (last : StateId) → IsTrue (is_known rs last) → (x : StateId) × IsLastLeaf rs last x
last-leaf [] g last known = not-both true refl (sym known)
last-leaf (r ∷ rs) g last known = elim (cases_Bool (is_above (r ∷ rs) last r.id)) [
  | inl t ↦ (
    r.id,
    record {
      is = cond-true (is_above (r ∷ rs) last r.id) (Some r.id) (find (is_above (r ∷ rs) last) (states rs)) t;
      leaf = newest-is-leaf rs r g;
    },
  )
  | inr f ↦
      let older : IsTrue (is_known rs last) = known-before rs r last known (false_from_ne_true (same_id last r.id) (λ e.
      both_ways (is_above (r ∷ rs) last r.id) f (above-same (r ∷ rs) last r.id (same_id-true last r.id e)))) in
      let w = last-leaf rs g.1 last older in
      let above : IsTrue (is_above rs last w.0) = (found-passes (is_above rs last) (states rs) w.0 w.1.is).1 in
      let as_before = find-agrees (is_above (r ∷ rs) last) (is_above rs last) (states rs)
      (λ z m. above-before rs r last z (known-isnt-newest rs r z g.0 m)) in (
        w.0,
        record {
          is = cond-false (is_above (r ∷ rs) last r.id) (Some r.id) (find (is_above (r ∷ rs) last) (states rs)) f ∙ (as_before ∙ w.1.is);
          leaf = not_from_false (is_parent (r ∷ rs) w.0) (or_from (is_among w.0 r.parents) (is_parent rs w.0)
              (false_from_ne_true (is_among w.0 r.parents) (λ m. both_ways (is_above (r ∷ rs) last r.id) f
              (above-by-parent rs r last w.0 r.id (same_id_self r.id) m above)))
              (not-true (is_parent rs w.0) w.1.leaf));
        },
      )
]

last-arrived-leaf : (rs : List Record) → IsDag rs → IsTrue (is_known rs (last_arrived rs)) × IsTrue (is_leaf rs (last_arrived rs))
last-arrived-leaf [] dag = absurd (dag)
last-arrived-leaf (r ∷ rs) dag = (newest-is-known rs r, newest-is-leaf rs r (dag-grows (r ∷ rs) dag))

pub begins-at-leaves : (rs : List Record) → IsDag rs → BeginsAtLeaves rs
begins-at-leaves rs dag last known =
    let newest = last-arrived-leaf rs dag in
    let w = last-leaf rs (dag-grows rs dag) last known in
    let same : w.0 ≡ last_below rs last = sym (ap (λ o. unwrap_or o last) w.1.is) in
    let found = (found-passes (is_above rs last) (states rs) w.0 w.1.is).0 in
    (newest.0, newest.1, subst (λ z. IsTrue (is_known rs z)) same found, subst (λ z. IsTrue (is_leaf rs z)) same w.1.leaf)
