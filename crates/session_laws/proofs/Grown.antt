-- Alike histories stay alike when the same record arrives.
use Rattle.std.proofs.Common.{◌≡◌, ℕ, Bool, true, not, cond, eqb, List, [], ◌∷◌, ◌++◌, length, Option, Some, None, IsTrue, IsFalse, ◌⊎◌, inl, inr, refl, sym}
use Rattle.std.proofs.Common.{ap, ap₂, subst, ◌∙◌}
use Rattle.std.proofs.lemmas.Bool.{and_parts, and_from, both_ways, not_from_false, false_from_ne_true}
use Rattle.tardis_base.specs.declared.ids.StateId.{StateId}
use Rattle.tardis_base.specs.declared.records.Record.{Record}
use Rattle.tardis_base.specs.declared.records.Limits.{Limits}
use Rattle.tardis_base.specs.declared.replies.Refusal.{Refusal}
use Rattle.tardis_base.specs.declared.replies.Refusal.TheVariants.{Full, PathFull}
use Rattle.std.specs.Option.{option_map}
use Rattle.tardis_base.specs.Ids.{is_among}
use Rattle.plain_dag.specs.States.{is_known, children}
use Rattle.plain_dag.specs.Above.{is_above}
use Rattle.plain_dag.specs.Dag.{IsNext}
use Rattle.plain_dag.specs.Collection.{is_kept, stand_in}
use Rattle.plain_dag.specs.Growth.{growth_refusal}
use Rattle.plain_dag.proofs.Ids.{not-both, any-agrees}
use Rattle.plain_dag.proofs.Histories.{next-fits, next-is-dag, known-stays, known-cases, parent-is-known}
use Rattle.plain_dag.proofs.Order.{above-reflexive, above-same}
use Rattle.plain_dag.proofs.Growth.{old-states-stay, new-state-is-below-parents}
use Rattle.plain_dag.proofs.States.{child_is_known, child-cases}
use Rattle.plain_dag.proofs.StandIns.{kept-stands-for-itself}
use Rattle.state_dag.specs.Grown.{only_if}
use Rattle.state_dag.proofs.Known.{kept-newest}
use Rattle.state_dag.proofs.NextState.{children-next, newest-is_childless, stand_in-stays, shared-next}
use Rattle.session_laws.proofs.Alike.{IsHistory, AreAlike, kept-there, long-path-alike}

-- the record may arrive, and none of its parents is collected
pub record Arrives (rs : List Record) (ks : List StateId) (r : Record) : Type 0 where
  pub next : IsNext rs r
  pub free : (p : StateId) → IsTrue (is_among p r.parents) → IsFalse (is_among p ks)

module _ (rs : List Record) (ks : List StateId) (r : Record) (history : IsHistory rs ks) (arrives : Arrives rs ks r) where
  -- the new state isn't collected
  pub new-isnt_collected : IsFalse (is_among r.id ks)
  new-isnt_collected = false_from_ne_true (is_among r.id ks) (λ gone. both_ways (is_known rs r.id) arrives.next.new (history.known_collected r.id gone))

  -- its parents are kept
  pub parent-is_kept : (p : StateId) → IsTrue (is_among p r.parents) → IsTrue (is_kept rs ks p)
  parent-is_kept p m =
      and_from (is_known rs p) (not (is_among p ks)) (parent-is-known rs r p (next-fits rs r arrives.next) m)
      (not_from_false (is_among p ks) (arrives.free p m))

  -- with it there is a history again
  pub grown-history : IsHistory (r ∷ rs) ks
  grown-history = record {
    dag = next-is-dag rs r history.dag arrives.next;
    known_collected = λ x m. known-stays rs r x (history.known_collected x m);
    shared = shared-next rs r history.dag arrives.next ks history.shared history.known_collected (λ p m. arrives.free p m);
  }

  -- a kept state is the new one, or was kept before
  pub kept-cases : (x : StateId) → IsTrue (is_kept (r ∷ rs) ks x) → (x ≡ r.id) ⊎ IsTrue (is_kept rs ks x)
  kept-cases x kept =
      let parts = and_parts (is_known (r ∷ rs) x) (not (is_among x ks)) kept in
      elim (known-cases rs r x parts.0) [ inl e ↦ inl e | inr old ↦ inr (and_from (is_known rs x) (not (is_among x ks)) old parts.1) ]

  -- a kept state is known
  pub kept-is_known : (x : StateId) → IsTrue (is_kept rs ks x) → IsTrue (is_known rs x)
  kept-is_known x kept = (and_parts (is_known rs x) (not (is_among x ks)) kept).0

  -- the new state stands for itself
  pub new-stands-for-itself : stand_in (r ∷ rs) ks r.id ≡ r.id
  new-stands-for-itself = kept-stands-for-itself ks (r ∷ rs) r.id new-isnt_collected

module _ (ra : List Record) (ka : List StateId) (rb : List Record) (kb : List StateId) (r : Record) (ha : IsHistory ra ka) (hb : IsHistory rb kb)
    (alike : AreAlike ra ka rb kb)
    (on_a : Arrives ra ka r) (on_b : Arrives rb kb r) where
  there : (x : StateId) → IsTrue (is_kept ra ka x) → IsTrue (is_kept rb kb x)
  there x kept = kept-there ra ka rb kb ha hb alike x kept

  grown-children : (x : StateId) → (x ≡ r.id) ⊎ IsTrue (is_kept ra ka x) → children (r ∷ ra) x ≡ children (r ∷ rb) x
  grown-children x (inl e) =
      subst (λ y. children (r ∷ ra) y ≡ children (r ∷ rb) y) (sym e)
      (newest-is_childless ra r ha.dag on_a.next ∙ sym (newest-is_childless rb r hb.dag on_b.next))
  grown-children x (inr old) =
      children-next ra r ha.dag on_a.next x
      ∙ (ap (λ cs. cs ++ only_if (is_among x r.parents) r.id) (alike.same_children x old) ∙ sym (children-next rb r hb.dag on_b.next x))

  grown-stand-ins : (x c : StateId) → (x ≡ r.id) ⊎ IsTrue (is_kept ra ka x) → IsTrue (is_among c (children (r ∷ ra) x)) → stand_in (r ∷ ra) ka c
      ≡ stand_in (r ∷ rb) kb c
  grown-stand-ins x c (inl e) m =
      let none : IsTrue (is_among c []) = subst (λ cs. IsTrue (is_among c cs)) (newest-is_childless ra r ha.dag on_a.next)
      (subst (λ y. IsTrue (is_among c (children (r ∷ ra) y))) e m) in
      not-both true refl (sym none)
  grown-stand-ins x c (inr old) m = elim (child-cases ra r x c m) [
    | inl new ↦
        ap (stand_in (r ∷ ra) ka) new.0
        ∙ (new-stands-for-itself ra ka r ha on_a ∙ (sym (new-stands-for-itself rb kb r hb on_b) ∙ sym (ap (stand_in (r ∷ rb) kb) new.0)))
    | inr before ↦
        let known_b = child_is_known rb x c (subst (λ cs. IsTrue (is_among c cs)) (alike.same_children x old) before) in
        stand_in-stays ra r ha.dag on_a.next ka ha.shared c (child_is_known ra x c before)
        ∙ (alike.same_stand_ins x c old before ∙ sym (stand_in-stays rb r hb.dag on_b.next kb hb.shared c known_b))
  ]

  known_a : (x : StateId) → IsTrue (is_kept ra ka x) → IsTrue (is_known ra x)
  known_a x kept = kept-is_known ra ka r ha on_a x kept

  known_b : (x : StateId) → IsTrue (is_kept ra ka x) → IsTrue (is_known rb x)
  known_b x kept = kept-is_known rb kb r hb on_b x (there x kept)

  grown-above : (x y : StateId) → (x ≡ r.id) ⊎ IsTrue (is_kept ra ka x) → (y ≡ r.id) ⊎ IsTrue (is_kept ra ka y) → is_above (r ∷ ra) x y ≡ is_above (r ∷ rb) x y
  grown-above x y (inl e) (inl f) = above-same (r ∷ ra) x y (e ∙ sym f) ∙ sym (above-same (r ∷ rb) x y (e ∙ sym f))
  grown-above x y (inl e) (inr old) =
      subst (λ z. is_above (r ∷ ra) z y ≡ is_above (r ∷ rb) z y) (sym e)
      ((new-state-is-below-parents ra r ha.dag on_a.next y (known_a y old)).1 ∙ sym ((new-state-is-below-parents rb r hb.dag on_b.next y (known_b y old)).1))
  grown-above x y (inr old) (inl f) =
      subst (λ z. is_above (r ∷ ra) x z ≡ is_above (r ∷ rb) x z) (sym f)
      ((new-state-is-below-parents ra r ha.dag on_a.next x (known_a x old)).0
      ∙ (any-agrees (is_above ra x) (is_above rb x) r.parents (λ p m. alike.same_above x p old (parent-is_kept ra ka r ha on_a p m))
      ∙ sym ((new-state-is-below-parents rb r hb.dag on_b.next x (known_b x old)).0)))
  grown-above x y (inr old) (inr older) =
      old-states-stay ra r ha.dag on_a.next x y (known_a y older)
      ∙ (alike.same_above x y old older ∙ sym (old-states-stay rb r hb.dag on_b.next x y (known_b y older)))

  -- the histories with it are alike too
  pub grown-alike : AreAlike (r ∷ ra) ka (r ∷ rb) kb
  grown-alike = record {
    same_kept =
        kept-newest ra ka r (new-isnt_collected ra ka r ha on_a)
        ∙ (ap (λ xs. xs ++ r.id ∷ []) alike.same_kept ∙ sym (kept-newest rb kb r (new-isnt_collected rb kb r hb on_b)));
    same_children = λ x kept. grown-children x (kept-cases ra ka r ha on_a x kept);
    same_stand_ins = λ x c kept m. grown-stand-ins x c (kept-cases ra ka r ha on_a x kept) m;
    same_above = λ x y kept_x kept_y. grown-above x y (kept-cases ra ka r ha on_a x kept_x) (kept-cases ra ka r ha on_a y kept_y);
  }

  -- both grow by the record, or neither does, for the same reason
  pub refusal-alike : (limits : Limits) → growth_refusal limits ka ra r ≡ growth_refusal limits kb rb r
  refusal-alike limits =
      let told : StateId × ℕ → Refusal = λ p. PathFull p.0 p.1 in
      let count = ap length alike.same_kept in
      let path = long-path-alike (r ∷ ra) ka (r ∷ rb) kb (grown-history ra ka r ha on_a) (grown-history rb kb r hb on_b) grown-alike limits.max_path in
      let answer : ℕ → Option (StateId × ℕ) → Option Refusal = λ n o. cond (eqb n limits.max_kept) (Some (Full n)) (option_map told o) in
      ap₂ answer count path
