-- Histories whose kept states have the same children and stand-ins go by the same ways.
use Rattle.std.proofs.Common.{◌≡◌, ℕ, zero, suc, ◌+◌, ◌≤◌, false, not, ◌&&◌, leb, List, [], ◌∷◌, length, Option, Some, None, slice_get}
use Rattle.std.proofs.Common.{IsTrue, inl, inr, refl, sym, ap, subst, ◌∙◌, arith}
use Rattle.std.specs.Option.{option_map_or}
use Rattle.std.proofs.lemmas.Bool.{and_parts, cases_Bool, both_ways}
use Rattle.std.proofs.lemmas.Option.{none-some, same_Some}
use Rattle.tardis_base.specs.declared.ids.StateId.{StateId}
use Rattle.tardis_base.specs.declared.records.Record.{Record}
use Rattle.tardis_base.specs.Ids.{same_id, is_among}
use Rattle.plain_dag.specs.States.{is_known, arrival, children}
use Rattle.plain_dag.specs.Above.{is_above}
use Rattle.plain_dag.specs.Dag.{IsDag}
use Rattle.plain_dag.specs.Collection.{is_kept, stand_in}
use Rattle.plain_dag.specs.Paths.{is_fork, leads_to}
use Rattle.plain_dag.specs.Laws.{StandInsAreShared, StandsInWell}
use Rattle.plain_dag.proofs.Ids.{same_test, same_id-true, same_id_self, among-first, among-later}
use Rattle.plain_dag.proofs.Histories.{arrival_is_below}
use Rattle.plain_dag.proofs.States.{child_is_known, child_arrives_later, parent_is_above, proper_goes_by_child}
use Rattle.plain_dag.proofs.Order.{above-reflexive, above-transitive, ancestors-arrive-earlier}
use Rattle.plain_dag.proofs.StandIns.{stands-in-well}

-- the records are a history, and the collected states leave shared stand-ins
pub record IsHistory (rs : List Record) (ks : List StateId) : Type 0 where
  pub dag : IsDag rs
  pub shared : StandInsAreShared rs ks

-- the same states are kept, each with the same children, for which the same states stand in
pub record HaveSameEdges (ra : List Record) (ka : List StateId) (rb : List Record) (kb : List StateId) : Type 0 where
  pub same_kept : (x : StateId) → is_kept ra ka x ≡ is_kept rb kb x
  pub same_children : (x : StateId) → IsTrue (is_kept ra ka x) → children ra x ≡ children rb x
  pub same_stand_ins : (x c : StateId) → IsTrue (is_kept ra ka x) → IsTrue (is_among c (children ra x)) → stand_in ra ka c ≡ stand_in rb kb c

well : (rs : List Record) (ks : List StateId) → IsHistory rs ks → StandsInWell rs ks
well rs ks h = stands-in-well rs ks h.dag h.shared

-- the other way round
turned : (ra : List Record) (ka : List StateId) (rb : List Record) (kb : List StateId) → HaveSameEdges ra ka rb kb → HaveSameEdges rb kb ra ka
turned ra ka rb kb same = record {
  same_kept = λ x. sym (same.same_kept x);
  same_children = λ x kept. sym (same.same_children x (same.same_kept x ∙ kept));
  same_stand_ins = λ x c kept m.
      let here = same.same_kept x ∙ kept in
      sym (same.same_stand_ins x c here (subst (λ cs. IsTrue (is_among c cs)) (sym (same.same_children x here)) m));
}

-- a state arrived no later than its stand-in
stand-in-is-later : (rs : List Record) (ks : List StateId) → IsHistory rs ks → (z : StateId) → IsTrue (is_known rs z) →
    arrival rs z ≤ arrival rs (stand_in rs ks z)
stand-in-is-later rs ks h z known =
    let w = well rs ks h in
    let kept = w.kept z known in
    elim (ancestors-arrive-earlier rs h.dag z (stand_in rs ks z) (w.tells z (stand_in rs ks z) known kept ∙ above-reflexive rs (stand_in rs ks z))) [
      | inl e ↦ (let same = ap (arrival rs) e in omega arith)
      | inr before ↦ omega arith
    ]

-- a way between kept states of the one is one of the other: it leaves a state by a child, whose stand-in is nearer to its end
above-there : (ra : List Record) (ka : List StateId) (rb : List Record) (kb : List StateId) → IsHistory ra ka → IsHistory rb kb → HaveSameEdges ra ka rb kb →
    (n : ℕ) (x y : StateId) → length ra ≤ arrival ra x + n → IsTrue (is_kept ra ka x) → IsTrue (is_kept ra ka y) → IsTrue (is_above ra x y) →
    IsTrue (is_above rb x y)
above-there ra ka rb kb ha hb same zero x y enough kept_x kept_y above =
    absurd (let within = arrival_is_below ra x (and_parts (is_known ra x) (not (is_among x ka)) kept_x).0 in omega arith)
above-there ra ka rb kb ha hb same (suc n) x y enough kept_x kept_y above = elim (cases_Bool (same_id x y)) [
  | inl t ↦ subst (λ z. IsTrue (is_above rb x z)) (same_id-true x y t) (above-reflexive rb x)
  | inr f ↦
      let way = proper_goes_by_child ra ha.dag x y above (λ e. both_ways (same_id x y) f (subst (λ z. IsTrue (same_id x z)) e (same_id_self x))) in
      let c = way.0 in
      let z = stand_in ra ka c in
      let known_a = child_is_known ra x c way.1 in
      let kept_z = (well ra ka ha).kept c known_a in
      let later = child_arrives_later ra ha.dag x c way.1 in
      let no_earlier = stand-in-is-later ra ka ha c known_a in
      let rest = above-there ra ka rb kb ha hb same n z y (omega arith) kept_z kept_y (sym ((well ra ka ha).tells c y known_a kept_y) ∙ way.2) in
      let child = subst (λ cs. IsTrue (is_among c cs)) (same.same_children x kept_x) way.1 in
      let below : IsTrue (is_above rb c y) =
      (well rb kb hb).tells c y (child_is_known rb x c child) (sym (same.same_kept y) ∙ kept_y)
      ∙ (ap (λ w. is_above rb w y) (sym (same.same_stand_ins x c kept_x way.1)) ∙ rest) in
      above-transitive rb hb.dag x c y (parent_is_above rb hb.dag x c child) below
]

module _ (ra : List Record) (ka : List StateId) (rb : List Record) (kb : List StateId) (ha : IsHistory ra ka) (hb : IsHistory rb kb)
    (same : HaveSameEdges ra ka rb kb) where
  there : (x : StateId) → IsTrue (is_kept ra ka x) → IsTrue (is_kept rb kb x)
  there x kept = sym (same.same_kept x) ∙ kept

  -- so of two kept states the one is at or above the other in both or in neither
  pub same-above : (x y : StateId) → IsTrue (is_kept ra ka x) → IsTrue (is_kept ra ka y) → is_above ra x y ≡ is_above rb x y
  same-above x y kept_x kept_y =
      same_test (is_above ra x y) (is_above rb x y) (λ h. above-there ra ka rb kb ha hb same (length ra) x y (omega arith) kept_x kept_y h)
      (λ h. above-there rb kb ra ka hb ha (turned ra ka rb kb same) (length rb) x y (omega arith) (there x kept_x) (there y kept_y) h)

  child-above : (p c x : StateId) → IsTrue (is_kept ra ka p) → IsTrue (is_among c (children ra p)) → IsTrue (is_kept ra ka x) → is_above ra c x
      ≡ is_above rb c x
  child-above p c x kept_p m kept =
      let known_a = child_is_known ra p c m in
      let known_b = child_is_known rb p c (subst (λ cs. IsTrue (is_among c cs)) (same.same_children p kept_p) m) in
      (well ra ka ha).tells c x known_a kept
      ∙ (same-above (stand_in ra ka c) x ((well ra ka ha).kept c known_a) kept
      ∙ (ap (λ z. is_above rb z x) (same.same_stand_ins p c kept_p m) ∙ sym ((well rb kb hb).tells c x known_b (there x kept))))

  -- what stands at a place is one of these
  got-is_among : (cs : List StateId) (n : ℕ) (c : StateId) → slice_get cs n ≡ Some c → IsTrue (is_among c cs)
  got-is_among [] n c e = absurd (none-some c e)
  got-is_among (d ∷ cs) zero c e = subst (λ z. IsTrue (is_among z (d ∷ cs))) (same_Some d c e) (among-first d cs)
  got-is_among (d ∷ cs) (suc n) c e = among-later c d cs (got-is_among cs n c e)

  -- the same branches lead to a kept state
  same-leads : (x p : StateId) (n : ℕ) → IsTrue (is_kept ra ka x) → IsTrue (is_kept ra ka p) → leads_to ra x (p, n) ≡ leads_to rb x (p, n)
  same-leads x p n kept kept_p =
      go (slice_get (children ra p) n) refl ∙ ap (λ cs. option_map_or (λ c. is_above rb c x) (slice_get cs n) false) (same.same_children p kept_p)
    where
      go : (o : Option StateId) → slice_get (children ra p) n ≡ o → leads_to ra x (p, n)
          ≡ option_map_or (λ c. is_above rb c x) (slice_get (children ra p) n) false
      go None e = ap (λ o. option_map_or (λ c. is_above ra c x) o false) e ∙ sym (ap (λ o. option_map_or (λ c. is_above rb c x) o false) e)
      go (Some c) e =
          ap (λ o. option_map_or (λ d. is_above ra d x) o false) e
          ∙ (child-above p c x kept_p (got-is_among (children ra p) n c e) kept ∙ sym (ap (λ o. option_map_or (λ d. is_above rb d x) o false) e))

  -- of the same forks
  pub same-branches : (x p : StateId) (n : ℕ) → IsTrue (is_kept ra ka x) → IsTrue (is_kept ra ka p) → (is_fork ra p && leads_to ra x (p, n))
      ≡ (is_fork rb p && leads_to rb x (p, n))
  same-branches x p n kept kept_p =
      ap (λ cs. leb 2 (length cs) && leads_to ra x (p, n)) (same.same_children p kept_p)
      ∙ ap (λ b. is_fork rb p && b) (same-leads x p n kept kept_p)
