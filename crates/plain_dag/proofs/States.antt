-- Children and parents of states. The lemmas that most proofs of this crate start from are passed on from here.
pub use Rattle.plain_dag.proofs.Ids.{same_test, not-both, same_id-true, same_id_self, same_id_from, same_id_symmetric, same_id_turns, among-first}
pub use Rattle.plain_dag.proofs.Ids.{among-later, among-cases, among-append, among-differs, any-witness, any-from, any-false-from, any-false-at, all-at}
pub use Rattle.plain_dag.proofs.Ids.{all-from, any-agrees, all-agrees, none-found}
pub use Rattle.plain_dag.proofs.Histories.{Fits, Grows, dag-grows, next-fits, next-is-dag, newest-is-known, known-stays, known-cases, known-before}
pub use Rattle.plain_dag.proofs.Histories.{known-isnt-newest, parent-is-known, arrival-newest, arrival-before, arrival_is_below, parents-newest}
pub use Rattle.plain_dag.proofs.Histories.{parents-before, has-parent-is-known, parents-are-known}
use Rattle.std.proofs.Common.{◌≡◌, ◌<◌, true, List, [], ◌∷◌, ◌++◌, IsTrue, IsFalse, ◌⊎◌, inl, inr, refl, sym, subst, ◌∙◌, arith}
use Rattle.std.proofs.lemmas.Bool.{or_cases, or_left, or_right, cases_Bool, cond-true, cond-false, false_from_ne_true}
use Rattle.std.specs.List.{list_any}
use Rattle.tardis_base.specs.declared.ids.StateId.{StateId}
use Rattle.tardis_base.specs.declared.records.Record.{Record}
use Rattle.tardis_base.specs.Ids.{same_id, is_among}
use Rattle.plain_dag.specs.States.{is_known, parents_of, arrival, children}
use Rattle.plain_dag.specs.Above.{is_above}
use Rattle.plain_dag.specs.Dag.{IsDag}
use Rattle.plain_dag.proofs.Order.{above-before, above-newest-cases, above-by-parent, above-reflexive, above-same, edges-above}

-- ===== One more record

pub children-of-parent : (rs : List Record) (r : Record) (x : StateId) → IsTrue (is_among x r.parents) → children (r ∷ rs) x ≡ children rs x ++ r.id ∷ []
children-of-parent rs r x t = cond-true (is_among x r.parents) (children rs x ++ r.id ∷ []) (children rs x) t

pub children-before : (rs : List Record) (r : Record) (x : StateId) → IsFalse (is_among x r.parents) → children (r ∷ rs) x ≡ children rs x
children-before rs r x f = cond-false (is_among x r.parents) (children rs x ++ r.id ∷ []) (children rs x) f

-- a child is the newest state, or was a child before
pub child-cases : (rs : List Record) (r : Record) (x c : StateId) → IsTrue (is_among c (children (r ∷ rs) x)) →
    ((c ≡ r.id) × IsTrue (is_among x r.parents)) ⊎ IsTrue (is_among c (children rs x))
child-cases rs r x c h = elim (cases_Bool (is_among x r.parents)) [
  | inl t ↦
      let m : IsTrue (is_among c (children rs x ++ r.id ∷ [])) = subst (λ cs. IsTrue (is_among c cs)) (children-of-parent rs r x t) h in
      elim (or_cases (is_among c (children rs x)) (is_among c (r.id ∷ [])) (sym (among-append c (children rs x) (r.id ∷ [])) ∙ m)) [
        | inl old ↦ inr old
        | inr new ↦ elim (among-cases c r.id [] new) [
          | inl e ↦ inl (e, t)
          | inr none ↦ not-both true refl (sym none)
        ]
      ]
  | inr f ↦ inr (subst (λ cs. IsTrue (is_among c cs)) (children-before rs r x f) h)
]

pub newest-is-child : (rs : List Record) (r : Record) (x : StateId) → IsTrue (is_among x r.parents) → IsTrue (is_among r.id (children (r ∷ rs) x))
newest-is-child rs r x t =
    subst (λ cs. IsTrue (is_among r.id cs)) (sym (children-of-parent rs r x t))
    (among-append r.id (children rs x) (r.id ∷ [])
    ∙ or_right (is_among r.id (children rs x)) (is_among r.id (r.id ∷ [])) (among-first r.id []))

pub child-stays : (rs : List Record) (r : Record) (x c : StateId) → IsTrue (is_among c (children rs x)) → IsTrue (is_among c (children (r ∷ rs) x))
child-stays rs r x c h = elim (cases_Bool (is_among x r.parents)) [
  | inl t ↦
      subst (λ cs. IsTrue (is_among c cs)) (sym (children-of-parent rs r x t))
      (among-append c (children rs x) (r.id ∷ []) ∙ or_left (is_among c (children rs x)) (is_among c (r.id ∷ [])) h)
  | inr f ↦ subst (λ cs. IsTrue (is_among c cs)) (sym (children-before rs r x f)) h
]

-- ===== Children

pub child_is_known : (rs : List Record) (x c : StateId) → IsTrue (is_among c (children rs x)) → IsTrue (is_known rs c)
child_is_known [] x c h = not-both true refl (sym h)
child_is_known (r ∷ rs) x c h = elim (child-cases rs r x c h) [
  | inl new ↦ subst (λ z. IsTrue (is_known (r ∷ rs) z)) (sym new.0) (newest-is-known rs r)
  | inr old ↦ known-stays rs r c (child_is_known rs x c old)
]

known-by-child : (rs : List Record) → Grows rs → (x c : StateId) → IsTrue (is_among c (children rs x)) → IsTrue (is_known rs x)
known-by-child [] g x c h = not-both true refl (sym h)
known-by-child (r ∷ rs) g x c h = elim (child-cases rs r x c h) [
  | inl new ↦ known-stays rs r x (parent-is-known rs r x g.0 new.1)
  | inr old ↦ known-stays rs r x (known-by-child rs g.1 x c old)
]

-- what has a child is known
pub has_child_is_known : (rs : List Record) → IsDag rs → (x c : StateId) → IsTrue (is_among c (children rs x)) → IsTrue (is_known rs x)
has_child_is_known rs dag = known-by-child rs (dag-grows rs dag)

later : (rs : List Record) → Grows rs → (x c : StateId) → IsTrue (is_among c (children rs x)) → arrival rs x < arrival rs c
later [] g x c h = not-both true refl (sym h)
later (r ∷ rs) g x c h = elim (child-cases rs r x c h) [
  | inl new ↦
      let k = parent-is-known rs r x g.0 new.1 in
      let l = arrival_is_below rs x k in
      let a = arrival-before rs r x (known-isnt-newest rs r x g.0 k) in
      let b = arrival-newest rs r c (same_id_from c r.id new.0) in
      omega arith
  | inr old ↦
      let l = later rs g.1 x c old in
      let a = arrival-before rs r x (known-isnt-newest rs r x g.0 (known-by-child rs g.1 x c old)) in
      let b = arrival-before rs r c (known-isnt-newest rs r c g.0 (child_is_known rs x c old)) in
      omega arith
]

pub child_arrives_later : (rs : List Record) → IsDag rs → (x c : StateId) → IsTrue (is_among c (children rs x)) → arrival rs x < arrival rs c
child_arrives_later rs dag = later rs (dag-grows rs dag)

child-has-parent : (rs : List Record) → Grows rs → (x c : StateId) → IsTrue (is_among c (children rs x)) → IsTrue (is_among x (parents_of rs c))
child-has-parent [] g x c h = not-both true refl (sym h)
child-has-parent (r ∷ rs) g x c h = elim (child-cases rs r x c h) [
  | inl new ↦ subst (λ ps. IsTrue (is_among x ps)) (sym (parents-newest rs r c (same_id_from c r.id new.0))) new.1
  | inr old ↦
      subst (λ ps. IsTrue (is_among x ps)) (sym (parents-before rs r c (known-isnt-newest rs r c g.0 (child_is_known rs x c old))))
      (child-has-parent rs g.1 x c old)
]

parent-has-child : (rs : List Record) (x c : StateId) → IsTrue (is_among x (parents_of rs c)) → IsTrue (is_among c (children rs x))
parent-has-child [] x c h = not-both true refl (sym h)
parent-has-child (r ∷ rs) x c h = elim (cases_Bool (same_id c r.id)) [
  | inl t ↦
      subst (λ z. IsTrue (is_among z (children (r ∷ rs) x))) (sym (same_id-true c r.id t))
      (newest-is-child rs r x (subst (λ ps. IsTrue (is_among x ps)) (parents-newest rs r c t) h))
  | inr f ↦ child-stays rs r x c (parent-has-child rs x c (subst (λ ps. IsTrue (is_among x ps)) (parents-before rs r c f) h))
]

-- c is a child of x exactly where x is a parent of c
pub children_know_parent : (rs : List Record) → IsDag rs → (x c : StateId) → is_among c (children rs x) ≡ is_among x (parents_of rs c)
children_know_parent rs dag x c =
    same_test (is_among c (children rs x)) (is_among x (parents_of rs c)) (child-has-parent rs (dag-grows rs dag) x c) (parent-has-child rs x c)

pub parent_is_above : (rs : List Record) → IsDag rs → (x c : StateId) → IsTrue (is_among c (children rs x)) → IsTrue (is_above rs x c)
parent_is_above rs dag x c h =
    edges-above rs (dag-grows rs dag) x c
    ∙ or_right (same_id x c) (list_any (is_above rs x) (parents_of rs c))
    (any-from (is_above rs x) (parents_of rs c) x (child-has-parent rs (dag-grows rs dag) x c h) (above-reflexive rs x))

by-child : (rs : List Record) → Grows rs → (x y : StateId) → IsTrue (is_above rs x y) → IsFalse (same_id x y) →
    (c : StateId) × IsTrue (is_among c (children rs x)) × IsTrue (is_above rs c y)
by-child [] g x y h n = not-both (same_id x y) h n
by-child (r ∷ rs) g x y h n = elim (cases_Bool (same_id y r.id)) [
  | inl t ↦ elim (above-newest-cases rs r x y t h) [
    | inl e ↦ not-both (same_id x y) (same_id_from x y e) n
    | inr w ↦ elim (cases_Bool (same_id x w.0)) [
      | inl s ↦ (
        r.id,
        newest-is-child rs r x (subst (λ z. IsTrue (is_among z r.parents)) (sym (same_id-true x w.0 s)) w.1),
        above-same (r ∷ rs) r.id y (sym (same_id-true y r.id t)),
      )
      | inr d ↦
          let c = by-child rs g.1 x w.0 w.2 d in
          (c.0, child-stays rs r x c.0 c.1, above-by-parent rs r c.0 w.0 y t w.1 c.2)
    ]
  ]
  | inr f ↦
      let c = by-child rs g.1 x y (sym (above-before rs r x y f) ∙ h) n in
      (c.0, child-stays rs r x c.0 c.1, above-before rs r c.0 y f ∙ c.2)
]

-- from x to a state below it the way goes by a child of x
pub proper_goes_by_child : (rs : List Record) → IsDag rs → (x y : StateId) → IsTrue (is_above rs x y) → (x ≡ y → ⊥) →
    (c : StateId) × IsTrue (is_among c (children rs x)) × IsTrue (is_above rs c y)
proper_goes_by_child rs dag x y h n = by-child rs (dag-grows rs dag) x y h (false_from_ne_true (same_id x y) (λ t. n (same_id-true x y t)))
