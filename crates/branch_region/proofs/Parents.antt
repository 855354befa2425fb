-- Above a stand-in there is a collected state.
use Rattle.std.proofs.Common.{◌≡◌, ◌&&◌, false, List, [], ◌∷◌, IsTrue, IsFalse, ◌⊎◌, inl, inr, refl, sym, subst, ◌∙◌}
use Rattle.std.proofs.lemmas.Bool.{and_parts, cases_Bool, cond-true, cond-false, both_ways, false_from_ne_true}
use Rattle.tardis_base.specs.declared.ids.StateId.{StateId}
use Rattle.tardis_base.specs.declared.records.Record.{Record}
use Rattle.tardis_base.specs.Ids.{same_id, is_among}
use Rattle.plain_dag.specs.States.{parents_of, is_known}
use Rattle.plain_dag.specs.Collection.{stand_in}
use Rattle.plain_dag.proofs.States.{Grows, known-stays, newest-is-known, same_id-true, same_id_self, not-both}

-- what has a parent is known
child-known : (rs : List Record) (y p : StateId) → IsTrue (is_among p (parents_of rs y)) → IsTrue (is_known rs y)
child-known [] y p m = not-both false m refl
child-known (r ∷ rs) y p m = elim (cases_Bool (same_id y r.id)) [
  | inl t ↦ subst (λ z. IsTrue (is_known (r ∷ rs) z)) (sym (same_id-true y r.id t)) (newest-is-known rs r)
  | inr n ↦ known-stays rs r y (child-known rs y p (subst (λ ps. IsTrue (is_among p ps)) (cond-false (same_id y r.id) r.parents (parents_of rs y) n) m))
]

-- a state stands for itself, or its stand-in has a collected parent
pub stand_in-parent : (rs : List Record) → Grows rs → (ks : List StateId) (x : StateId) →
    (stand_in rs ks x ≡ x) ⊎ ((p : StateId) × IsTrue (is_among p (parents_of rs (stand_in rs ks x))) × IsTrue (is_among p ks))
stand_in-parent [] g ks x = inl refl
stand_in-parent (r ∷ rs) g ks x =
    let here = stand_in rs ks x in
    let goes = is_among here ks && is_among here r.parents in
    elim (cases_Bool goes) [
      | inl t ↦
          let parts = and_parts (is_among here ks) (is_among here r.parents) t in
          let at : stand_in (r ∷ rs) ks x ≡ r.id = cond-true goes r.id here t in
          inr (
            here,
            subst (λ z. IsTrue (is_among here (parents_of (r ∷ rs) z))) (sym at)
                (subst (λ ps. IsTrue (is_among here ps)) (sym (cond-true (same_id r.id r.id) r.parents (parents_of rs r.id) (same_id_self r.id))) parts.1),
            parts.0,
          )
      | inr n ↦
          let at : stand_in (r ∷ rs) ks x ≡ here = cond-false goes r.id here n in
          elim (stand_in-parent rs g.1 ks x) [
            | inl same ↦ inl (at ∙ same)
            | inr w ↦
                let known = child-known rs here w.0 w.1 in
                let old : IsFalse (same_id here r.id) = false_from_ne_true (same_id here r.id)
                (λ u. both_ways (is_known rs r.id) g.0.new (subst (λ z. IsTrue (is_known rs z)) (same_id-true here r.id u) known)) in
                inr (
                  w.0,
                  subst (λ z. IsTrue (is_among w.0 (parents_of (r ∷ rs) z))) (sym at)
                      (subst (λ ps. IsTrue (is_among w.0 ps)) (sym (cond-false (same_id here r.id) r.parents (parents_of rs here) old)) w.1),
                  w.2,
                )
          ]
    ]
