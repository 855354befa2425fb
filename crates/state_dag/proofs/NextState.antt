-- What one more state changes: children, forks, branches and stand-ins.
use Rattle.std.proofs.Common.{◌≡◌, ℕ, zero, suc, Bool, true, false, cond, ◌||◌, ◌&&◌, not, eqb, List, [], ◌∷◌, ◌++◌, length, slice_get, Option, Some, None}
use Rattle.std.proofs.Common.{IsTrue, IsFalse, inl, inr, refl, sym, ap, subst, ◌∙◌, eqb-true, eq-eqb, arith, append-nil}
use Rattle.std.specs.List.{list_any}
use Rattle.std.specs.Option.{option_map_or}
use Rattle.std.proofs.lemmas.Bool.{and_parts, and_left, or_right, cases_Bool, both_ways, not-true, false_from_ne_true, cond-false}
use Rattle.tardis_base.specs.declared.ids.StateId.{StateId}
use Rattle.tardis_base.specs.declared.records.Record.{Record}
use Rattle.tardis_base.specs.Ids.{is_among}
use Rattle.plain_dag.specs.States.{is_known, children}
use Rattle.plain_dag.specs.Above.{is_above}
use Rattle.plain_dag.specs.Dag.{IsNext, IsDag}
use Rattle.plain_dag.specs.Collection.{stand_in}
use Rattle.plain_dag.specs.Paths.{leads_to}
use Rattle.plain_dag.specs.Laws.{StandInsAreShared}
use Rattle.plain_dag.proofs.Ids.{or-false, among-first, among-later}
use Rattle.plain_dag.proofs.Histories.{Fits, next-fits, parent-is-known}
use Rattle.plain_dag.proofs.Order.{above-same}
use Rattle.std.proofs.lemmas.Option.{none-some, same_Some, slice_get_past}
use Rattle.plain_dag.proofs.Growth.{old-states-stay, new-state-is-below-parents}
use Rattle.plain_dag.proofs.States.{children-of-parent, children-before, child_is_known, has_child_is_known}
use Rattle.plain_dag.proofs.StandIns.{stands-in-well}
use Rattle.state_dag.specs.Grown.{only_if}
use Rattle.state_dag.proofs.Counting.{any-never}

-- the item of that number is one of these
numbered-is_among : (cs : List StateId) (n : ℕ) (c : StateId) → slice_get cs n ≡ Some c → IsTrue (is_among c cs)
numbered-is_among [] n c e = absurd (none-some c e)
numbered-is_among (d ∷ cs) zero c e = subst (λ z. IsTrue (is_among z (d ∷ cs))) (same_Some d c e) (among-first d cs)
numbered-is_among (d ∷ cs) (suc n) c e = among-later c d cs (numbered-is_among cs n c e)

-- a list with one more item, by numbers
numbered-last : (cs : List StateId) (z : StateId) (n : ℕ) → slice_get (cs ++ z ∷ []) n ≡ cond (eqb n (length cs)) (Some z) (slice_get cs n)
numbered-last [] z zero = refl
numbered-last [] z (suc n) =
    let other : eqb (suc n) 0 ≡ false = false_from_ne_true (eqb (suc n) 0) (λ t. let e = eqb-true (suc n) 0 t in omega arith) in
    rw other refl
numbered-last (c ∷ cs) z zero =
    let other : eqb zero (length (c ∷ cs)) ≡ false = false_from_ne_true (eqb zero (length (c ∷ cs))) (λ t. let e = eqb-true zero (length (c ∷ cs)) t in
    omega arith) in
    rw other refl
numbered-last (c ∷ cs) z (suc n) = elim (cases_Bool (eqb n (length cs))) [
  | inl t ↦
      let here : eqb (suc n) (length (c ∷ cs)) ≡ true = eq-eqb (suc n) (length (c ∷ cs)) (let e = eqb-true n (length cs) t in omega arith) in
      rw here (subst (λ b. slice_get (cs ++ z ∷ []) n ≡ cond b (Some z) (slice_get cs n)) t (numbered-last cs z n))
  | inr f ↦
      let other : eqb (suc n) (length (c ∷ cs)) ≡ false = false_from_ne_true (eqb (suc n) (length (c ∷ cs)))
      (λ u. both_ways (eqb n (length cs)) f (eq-eqb n (length cs) (let e = eqb-true (suc n) (length (c ∷ cs)) u in omega arith))) in
      rw other (subst (λ b. slice_get (cs ++ z ∷ []) n ≡ cond b (Some z) (slice_get cs n)) f (numbered-last cs z n))
]

none-at_end : (cs : List StateId) → ◌≡◌ {A = Option StateId} (slice_get cs (length cs)) None
none-at_end cs = slice_get_past cs (length cs) (omega arith)

module _ (rs : List Record) (r : Record) (dag : IsDag rs) (next : IsNext rs r) where
  fits : Fits rs r
  fits = next-fits rs r next

  -- a parent has the new state as its last child
  pub children-next : (x : StateId) → children (r ∷ rs) x ≡ children rs x ++ only_if (is_among x r.parents) r.id
  children-next x = elim (cases_Bool (is_among x r.parents)) [
    | inl t ↦ children-of-parent rs r x t ∙ sym (ap (λ b. children rs x ++ only_if b r.id) t)
    | inr f ↦ children-before rs r x f ∙ sym (ap (λ b. children rs x ++ only_if b r.id) f ∙ append-nil (children rs x))
  ]

  pub newest-isnt_parent : IsFalse (is_among r.id r.parents)
  newest-isnt_parent = false_from_ne_true (is_among r.id r.parents) (λ m. both_ways (is_known rs r.id) next.new (parent-is-known rs r r.id fits m))

  unknown-is_childless : (x : StateId) → IsFalse (is_known rs x) → children rs x ≡ []
  unknown-is_childless x unknown = go (children rs x) (λ c m. both_ways (is_known rs x) unknown (has_child_is_known rs dag x c m))
    where
      go : (cs : List StateId) → ((c : StateId) → IsTrue (is_among c cs) → ⊥) → cs ≡ []
      go [] none = refl
      go (c ∷ cs) none = absurd (none c (among-first c cs))

  -- the new state has no child
  pub newest-is_childless : children (r ∷ rs) r.id ≡ []
  newest-is_childless = children-before rs r r.id newest-isnt_parent ∙ unknown-is_childless r.id next.new

  -- ===== Where branches lead

  -- to old states as before
  pub leads-old : (y : StateId) → IsTrue (is_known rs y) → (p : StateId) (n : ℕ) → leads_to (r ∷ rs) y (p, n) ≡ leads_to rs y (p, n)
  leads-old y known p n = elim (cases_Bool (is_among p r.parents)) [
    | inl t ↦
        ap (λ cs. option_map_or (λ c. is_above (r ∷ rs) c y) (slice_get cs n) false) (children-of-parent rs r p t)
        ∙ (ap (λ o. option_map_or (λ c. is_above (r ∷ rs) c y) o false) (numbered-last (children rs p) r.id n) ∙ last)
    | inr f ↦
        ap (λ cs. option_map_or (λ c. is_above (r ∷ rs) c y) (slice_get cs n) false) (children-before rs r p f)
        ∙ at (slice_get (children rs p) n)
  ]
    where
      at : (o : Option StateId) → option_map_or (λ c. is_above (r ∷ rs) c y) o false ≡ option_map_or (λ c. is_above rs c y) o false
      at None = refl
      at (Some c) = old-states-stay rs r dag next c y known

      last : option_map_or (λ c. is_above (r ∷ rs) c y) (cond (eqb n (length (children rs p))) (Some r.id) (slice_get (children rs p) n)) false
          ≡ leads_to rs y (p, n)
      last = elim (cases_Bool (eqb n (length (children rs p)))) [
        | inl t ↦
            let beyond : ◌≡◌ {A = Option StateId} (slice_get (children rs p) n) None =
            ap (slice_get (children rs p)) (eqb-true n (length (children rs p)) t) ∙ none-at_end (children rs p) in
            ap (λ b. option_map_or (λ c. is_above (r ∷ rs) c y) (cond b (Some r.id) (slice_get (children rs p) n)) false) t
            ∙ ((new-state-is-below-parents rs r dag next y known).1 ∙ sym (ap (λ o. option_map_or (λ c. is_above rs c y) o false) beyond))
        | inr f ↦
            ap (λ b. option_map_or (λ c. is_above (r ∷ rs) c y) (cond b (Some r.id) (slice_get (children rs p) n)) false) f
            ∙ at (slice_get (children rs p) n)
      ]

  -- to the new state: those that lead to a parent, and a parent's last one
  pub leads-new : (p : StateId) (n : ℕ) →
      leads_to (r ∷ rs) r.id (p, n) ≡ (list_any (λ q. leads_to rs q (p, n)) r.parents || (is_among p r.parents && eqb n (length (children rs p))))
  leads-new p n = elim (cases_Bool (is_among p r.parents)) [
    | inl t ↦
        ap (λ cs. option_map_or (λ c. is_above (r ∷ rs) c r.id) (slice_get cs n) false) (children-of-parent rs r p t)
        ∙ (ap (λ o. option_map_or (λ c. is_above (r ∷ rs) c r.id) o false) (numbered-last (children rs p) r.id n)
        ∙ (last ∙ sym (ap (λ b. older || (b && eqb n (length (children rs p)))) t)))
    | inr f ↦
        ap (λ cs. option_map_or (λ c. is_above (r ∷ rs) c r.id) (slice_get cs n) false) (children-before rs r p f)
        ∙ (at (slice_get (children rs p) n) refl ∙ sym (ap (λ b. older || (b && eqb n (length (children rs p)))) f ∙ or-false older))
  ]
    where
      older : Bool
      older = list_any (λ q. leads_to rs q (p, n)) r.parents

      at : (o : Option StateId) → slice_get (children rs p) n ≡ o → option_map_or (λ c. is_above (r ∷ rs) c r.id) o false
          ≡ list_any (λ q. leads_to rs q (p, n)) r.parents
      at None e = sym (ap (λ o. list_any (λ q. option_map_or (λ c. is_above rs c q) o false) r.parents) e ∙ any-never r.parents)
      at (Some c) e =
          (new-state-is-below-parents rs r dag next c (child_is_known rs p c (numbered-is_among (children rs p) n c e))).0
          ∙ sym (ap (λ o. list_any (λ q. option_map_or (λ d. is_above rs d q) o false) r.parents) e)

      last : option_map_or (λ c. is_above (r ∷ rs) c r.id) (cond (eqb n (length (children rs p))) (Some r.id) (slice_get (children rs p) n)) false
          ≡ (older || eqb n (length (children rs p)))
      last = elim (cases_Bool (eqb n (length (children rs p)))) [
        | inl t ↦
            ap (λ b. option_map_or (λ c. is_above (r ∷ rs) c r.id) (cond b (Some r.id) (slice_get (children rs p) n)) false) t
            ∙ (above-same (r ∷ rs) r.id r.id refl ∙ sym (or_right older (eqb n (length (children rs p))) t))
        | inr f ↦
            ap (λ b. option_map_or (λ c. is_above (r ∷ rs) c r.id) (cond b (Some r.id) (slice_get (children rs p) n)) false) f
            ∙ (at (slice_get (children rs p) n) refl ∙ sym (ap (λ b. older || b) f ∙ or-false older))
      ]

  -- ===== Stand-ins

  module _ (ks : List StateId) (shared : StandInsAreShared rs ks) where
    -- those of old states are as before
    pub stand_in-stays : (x : StateId) → IsTrue (is_known rs x) → stand_in (r ∷ rs) ks x ≡ stand_in rs ks x
    stand_in-stays x known =
        let kept = (stands-in-well rs ks dag shared).kept x known in
        let here = stand_in rs ks x in
        let out = not-true (is_among here ks) (and_parts (is_known rs here) (not (is_among here ks)) kept).1 in
        cond-false (is_among here ks && is_among here r.parents) r.id here (and_left (is_among here ks) (is_among here r.parents) out)

    -- where no parent is collected they are shared as before
    pub shared-next : ((x : StateId) → IsTrue (is_among x ks) → IsTrue (is_known rs x)) →
        ((p : StateId) → IsTrue (is_among p r.parents) → IsFalse (is_among p ks)) →
        StandInsAreShared (r ∷ rs) ks
    shared-next collected kept x gone =
        let no_parent : IsFalse (is_among x r.parents) = false_from_ne_true (is_among x r.parents) (λ m. both_ways (is_among x ks) (kept x m) gone) in
        let same = children-before rs r x no_parent in
        let old = shared x gone in (
          subst (λ cs. IsTrue (list_any (λ c. true) cs)) (sym same) old.0,
          λ c m.
              let child : IsTrue (is_among c (children rs x)) = subst (λ cs. IsTrue (is_among c cs)) same m in
              stand_in-stays c (child_is_known rs x c child) ∙ (old.1 c child ∙ sym (stand_in-stays x (collected x gone))),
        )
