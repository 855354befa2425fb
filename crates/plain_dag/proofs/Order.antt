-- The order of states.
use Rattle.std.proofs.Common.{◌≡◌, true, ◌||◌, ◌&&◌, List, [], ◌∷◌, IsTrue, IsFalse, ◌⊎◌, inl, inr, refl, sym, ap, subst, ◌∙◌, arith, Option, Some, None}
use Rattle.std.proofs.Common.{is_none, find}
use Rattle.std.proofs.lemmas.Bool.{or_cases, or_parts, or_left, or_right, cases_Bool, cond-true, cond-false}
use Rattle.std.specs.List.{list_any}
use Rattle.tardis_base.specs.declared.ids.StateId.{StateId}
use Rattle.tardis_base.specs.declared.records.Record.{Record}
use Rattle.tardis_base.specs.Ids.{same_id, is_among}
use Rattle.plain_dag.specs.States.{is_known, parents_of}
use Rattle.plain_dag.specs.Above.{is_above, are_comparable, comparable_pair, are_apart}
use Rattle.plain_dag.specs.Way.{AtOrAbove}
use Rattle.plain_dag.specs.Dag.{IsDag}
use Rattle.plain_dag.specs.Laws.{AboveIsReflexive, AboveIsTransitive, AboveIsAntisymmetric, AncestorsArriveEarlier, AncestorsAreKnown, ArrivalsDiffer}
use Rattle.plain_dag.specs.Laws.{ApartMeansIncomparable, AboveGoesAlongEdges, AboveIsTheWay}
use Rattle.plain_dag.proofs.Ids.{or-false, not-both, same_id-true, same_id_self, any-witness, any-from, none-found, any-agrees}
use Rattle.plain_dag.proofs.Histories.{Fits, Grows, dag-grows, known-stays, known-before, known-isnt-newest, parent-is-known, arrival-newest, arrival-before}
use Rattle.plain_dag.proofs.Histories.{arrival_is_below, parents-newest, parents-before, has-parent-is-known, parents-are-known}

-- ===== One more record

-- the newest state is below itself and what its parents are below
pub above-newest : (rs : List Record) (r : Record) (x y : StateId) → IsTrue (same_id y r.id) →
    is_above (r ∷ rs) x y ≡ (same_id x y || list_any (is_above rs x) r.parents)
above-newest rs r x y t = cond-true (same_id y r.id) (same_id x y || list_any (is_above rs x) r.parents) (is_above rs x y) t

-- the others are below what they were below
pub above-before : (rs : List Record) (r : Record) (x y : StateId) → IsFalse (same_id y r.id) → is_above (r ∷ rs) x y ≡ is_above rs x y
above-before rs r x y f = cond-false (same_id y r.id) (same_id x y || list_any (is_above rs x) r.parents) (is_above rs x y) f

-- what is at or above the newest state is that one, or is at or above one of its parents
pub above-newest-cases : (rs : List Record) (r : Record) (x y : StateId) → IsTrue (same_id y r.id) → IsTrue (is_above (r ∷ rs) x y) →
    (x ≡ y) ⊎ ((p : StateId) × IsTrue (is_among p r.parents) × IsTrue (is_above rs x p))
above-newest-cases rs r x y t h =
    elim (or_cases (same_id x y) (list_any (is_above rs x) r.parents) (sym (above-newest rs r x y t) ∙ h)) [
      | inl e ↦ inl (same_id-true x y e)
      | inr m ↦ inr (any-witness (is_above rs x) r.parents m)
    ]

-- what is at or above a parent of the newest state is at or above that one
pub above-by-parent : (rs : List Record) (r : Record) (x p y : StateId) → IsTrue (same_id y r.id) → IsTrue (is_among p r.parents) →
    IsTrue (is_above rs x p) → IsTrue (is_above (r ∷ rs) x y)
above-by-parent rs r x p y t h a =
    above-newest rs r x y t
    ∙ or_right (same_id x y) (list_any (is_above rs x) r.parents) (any-from (is_above rs x) r.parents p h a)

-- ===== Reflexive

pub above-reflexive : (rs : List Record) → AboveIsReflexive rs
above-reflexive [] x = same_id_self x
above-reflexive (r ∷ rs) x = elim (cases_Bool (same_id x r.id)) [
  | inl t ↦ above-newest rs r x x t ∙ or_left (same_id x x) (list_any (is_above rs x) r.parents) (same_id_self x)
  | inr f ↦ above-before rs r x x f ∙ above-reflexive rs x
]

pub above-same : (rs : List Record) (x y : StateId) → x ≡ y → IsTrue (is_above rs x y)
above-same rs x y e = subst (λ z. IsTrue (is_above rs x z)) e (above-reflexive rs x)

-- ===== Known

pub known-above : (rs : List Record) → Grows rs → AncestorsAreKnown rs
known-above [] g x y k h = not-both true refl (sym k)
known-above (r ∷ rs) g x y k h = elim (cases_Bool (same_id y r.id)) [
  | inl t ↦ elim (above-newest-cases rs r x y t h) [
    | inl e ↦ subst (λ z. IsTrue (is_known (r ∷ rs) z)) (sym e) k
    | inr w ↦ known-stays rs r x (known-above rs g.1 x w.0 (parent-is-known rs r w.0 g.0 w.1) w.2)
  ]
  | inr f ↦ known-stays rs r x (known-above rs g.1 x y (known-before rs r y k f) (sym (above-before rs r x y f) ∙ h))
]

-- an unknown state is below itself alone
pub unknown-above : (rs : List Record) (x y : StateId) → IsFalse (is_known rs y) → is_above rs x y ≡ same_id x y
unknown-above [] x y n = refl
unknown-above (r ∷ rs) x y n =
    let parts = or_parts (same_id y r.id) (is_known rs y) n in
    above-before rs r x y parts.0 ∙ unknown-above rs x y parts.1

-- what is at or above a state that isn't the newest isn't the newest
pub above-isnt-newest : (rs : List Record) (r : Record) → Fits rs r → Grows rs → (x y : StateId) → IsFalse (same_id y r.id) → IsTrue (is_above rs x y) →
    IsFalse (same_id x r.id)
above-isnt-newest rs r f g x y n h = elim (cases_Bool (is_known rs y)) [
  | inl k ↦ known-isnt-newest rs r x f (known-above rs g x y k h)
  | inr u ↦ subst (λ z. IsFalse (same_id z r.id)) (sym (same_id-true x y (sym (unknown-above rs x y u) ∙ h))) n
]

-- what is at or above a parent of the newest state was known before
pub known-above-parent : (rs : List Record) (r : Record) → Fits rs r → Grows rs → (x p : StateId) → IsTrue (is_among p r.parents) →
    IsTrue (is_above rs x p) → IsTrue (is_known rs x)
known-above-parent rs r f g x p m h = known-above rs g x p (parent-is-known rs r p f m) h

-- ===== Transitive

pub above-through : (rs : List Record) → Grows rs → AboveIsTransitive rs
above-through [] g x y z h i = subst (λ w. IsTrue (same_id x w)) (same_id-true y z i) h
above-through (r ∷ rs) g x y z h i = elim (cases_Bool (same_id z r.id)) [
  | inl t ↦ elim (above-newest-cases rs r y z t i) [
    | inl e ↦ subst (λ w. IsTrue (is_above (r ∷ rs) x w)) e h
    | inr w ↦
        let n = known-isnt-newest rs r y g.0 (known-above-parent rs r g.0 g.1 y w.0 w.1 w.2) in
        above-by-parent rs r x w.0 z t w.1 (above-through rs g.1 x y w.0 (sym (above-before rs r x y n) ∙ h) w.2)
  ]
  | inr f ↦
      let j : IsTrue (is_above rs y z) = sym (above-before rs r y z f) ∙ i in
      let n = above-isnt-newest rs r g.0 g.1 y z f j in
      above-before rs r x z f ∙ above-through rs g.1 x y z (sym (above-before rs r x y n) ∙ h) j
]

-- ===== Arrival

pub above-arrives-earlier : (rs : List Record) → Grows rs → AncestorsArriveEarlier rs
above-arrives-earlier [] g x y h = inl (same_id-true x y h)
above-arrives-earlier (r ∷ rs) g x y h = elim (cases_Bool (same_id y r.id)) [
  | inl t ↦ elim (above-newest-cases rs r x y t h) [
    | inl e ↦ inl e
    | inr w ↦
        let k = known-above-parent rs r g.0 g.1 x w.0 w.1 w.2 in
        let l = arrival_is_below rs x k in
        let a = arrival-before rs r x (known-isnt-newest rs r x g.0 k) in
        let b = arrival-newest rs r y t in
        inr (omega arith)
  ]
  | inr f ↦
      let j : IsTrue (is_above rs x y) = sym (above-before rs r x y f) ∙ h in
      elim (above-arrives-earlier rs g.1 x y j) [
        | inl e ↦ inl e
        | inr l ↦
            let a = arrival-before rs r x (above-isnt-newest rs r g.0 g.1 x y f j) in
            let b = arrival-before rs r y f in
            inr (omega arith)
      ]
]

pub arrival-tells : (rs : List Record) → ArrivalsDiffer rs
arrival-tells [] x y k l e = not-both true refl (sym k)
arrival-tells (r ∷ rs) x y k l e = elim (cases_Bool (same_id x r.id)) [
  | inl t ↦ elim (cases_Bool (same_id y r.id)) [
    | inl u ↦ same_id-true x r.id t ∙ sym (same_id-true y r.id u)
    | inr f ↦
        let a = arrival-newest rs r x t in
        let b = arrival-before rs r y f in
        let c = arrival_is_below rs y (known-before rs r y l f) in
        absurd (omega arith)
  ]
  | inr f ↦ elim (cases_Bool (same_id y r.id)) [
    | inl u ↦
        let a = arrival-newest rs r y u in
        let b = arrival-before rs r x f in
        let c = arrival_is_below rs x (known-before rs r x k f) in
        absurd (omega arith)
    | inr n ↦
        arrival-tells rs x y (known-before rs r x k f) (known-before rs r y l n)
        (sym (arrival-before rs r x f) ∙ (e ∙ arrival-before rs r y n))
  ]
]

-- ===== Along edges

pub edges-above : (rs : List Record) → Grows rs → AboveGoesAlongEdges rs
edges-above [] g x y = sym (or-false (same_id x y))
edges-above (r ∷ rs) g x y = elim (cases_Bool (same_id y r.id)) [
  | inl t ↦
      above-newest rs r x y t
      ∙ ap (λ b. same_id x y || b) (ap (list_any (is_above rs x)) (sym (parents-newest rs r y t))
      ∙ as-before (λ p h. parent-is-known rs r p g.0 (subst (λ ps. IsTrue (is_among p ps)) (parents-newest rs r y t) h)))
  | inr f ↦
      above-before rs r x y f
      ∙ (edges-above rs g.1 x y
      ∙ ap (λ b. same_id x y || b) (ap (list_any (is_above rs x)) (sym (parents-before rs r y f))
      ∙ as-before (λ p h. parents-are-known rs g.1 p y (subst (λ ps. IsTrue (is_among p ps)) (parents-before rs r y f) h))))
]
  where
    as-before : ((p : StateId) → IsTrue (is_among p (parents_of (r ∷ rs) y)) → IsTrue (is_known rs p)) →
        list_any (is_above rs x) (parents_of (r ∷ rs) y) ≡ list_any (is_above (r ∷ rs) x) (parents_of (r ∷ rs) y)
    as-before k =
        any-agrees (is_above rs x) (is_above (r ∷ rs) x) (parents_of (r ∷ rs) y)
        (λ p h. sym (above-before rs r x p (known-isnt-newest rs r p g.0 (k p h))))

-- a way stays with one more record
pub way-stays : (rs : List Record) (r : Record) → Fits rs r → (x y : StateId) → AtOrAbove rs x y → AtOrAbove (r ∷ rs) x y
way-stays rs r f _ _ (AtOrAbove.same x) = AtOrAbove.same x
way-stays rs r f _ _ (AtOrAbove.through x p y h w) =
    let n = known-isnt-newest rs r y f (has-parent-is-known rs p y h) in
    AtOrAbove.through x p y (subst (λ ps. IsTrue (is_among p ps)) (sym (parents-before rs r y n)) h) (way-stays rs r f x p w)

pub way-from-above : (rs : List Record) → Grows rs → (x y : StateId) → IsTrue (is_above rs x y) → AtOrAbove rs x y
way-from-above [] g x y h = subst (λ z. AtOrAbove [] x z) (same_id-true x y h) (AtOrAbove.same x)
way-from-above (r ∷ rs) g x y h = elim (cases_Bool (same_id y r.id)) [
  | inl t ↦ elim (above-newest-cases rs r x y t h) [
    | inl e ↦ subst (λ z. AtOrAbove (r ∷ rs) x z) e (AtOrAbove.same x)
    | inr w ↦
        AtOrAbove.through x w.0 y (subst (λ ps. IsTrue (is_among w.0 ps)) (sym (parents-newest rs r y t)) w.1)
        (way-stays rs r g.0 x w.0 (way-from-above rs g.1 x w.0 w.2))
  ]
  | inr f ↦ way-stays rs r g.0 x y (way-from-above rs g.1 x y (sym (above-before rs r x y f) ∙ h))
]

pub above-from-way : (rs : List Record) → Grows rs → (x y : StateId) → AtOrAbove rs x y → IsTrue (is_above rs x y)
above-from-way rs g _ _ (AtOrAbove.same x) = above-reflexive rs x
above-from-way rs g _ _ (AtOrAbove.through x p y h w) =
    edges-above rs g x y
    ∙ or_right (same_id x y) (list_any (is_above rs x) (parents_of rs y)) (any-from (is_above rs x) (parents_of rs y) p h (above-from-way rs g x p w))

-- ===== The laws

pub above-transitive : (rs : List Record) → IsDag rs → AboveIsTransitive rs
above-transitive rs dag = above-through rs (dag-grows rs dag)

pub ancestors-arrive-earlier : (rs : List Record) → IsDag rs → AncestorsArriveEarlier rs
ancestors-arrive-earlier rs dag = above-arrives-earlier rs (dag-grows rs dag)

pub above-antisymmetric : (rs : List Record) → IsDag rs → AboveIsAntisymmetric rs
above-antisymmetric rs dag x y h i = elim (ancestors-arrive-earlier rs dag x y h) [
  | inl e ↦ e
  | inr l ↦ elim (ancestors-arrive-earlier rs dag y x i) [
    | inl e ↦ sym e
    | inr m ↦ absurd (omega arith)
  ]
]

pub ancestors-are-known : (rs : List Record) → IsDag rs → AncestorsAreKnown rs
ancestors-are-known rs dag = known-above rs (dag-grows rs dag)

pub arrivals-differ : (rs : List Record) → IsDag rs → ArrivalsDiffer rs
arrivals-differ rs dag = arrival-tells rs

pub above-along-edges : (rs : List Record) → IsDag rs → AboveGoesAlongEdges rs
above-along-edges rs dag = edges-above rs (dag-grows rs dag)

pub above-is-the-way : (rs : List Record) → IsDag rs → AboveIsTheWay rs
above-is-the-way rs dag x y = (way-from-above rs (dag-grows rs dag) x y, above-from-way rs (dag-grows rs dag) x y)

pub apart-means-incomparable : (rs : List Record) → ApartMeansIncomparable rs
apart-means-incomparable rs x ys =
    paired (find (are_comparable rs x) ys) ∙ ap (λ b. b && are_apart rs ys) (none-found (are_comparable rs x) ys)
  where
    paired : (o : Option StateId) →
        is_none (elim o as (λ _. Option (StateId × StateId)) [ Some y ↦ Some (x, y) | None ↦ comparable_pair rs ys ]) ≡ (is_none o && are_apart rs ys)
    paired (Some y) = refl
    paired None = refl
