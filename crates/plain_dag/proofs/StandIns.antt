-- Stand-ins: what a collected state leaves behind, and that nothing is lost by it.
use Rattle.std.proofs.Common.{◌≡◌, ℕ, zero, suc, ◌+◌, ◌≤◌, true, ◌&&◌, not, List, [], ◌∷◌, ◌++◌, length, map, Option, Some, None, is_some, IsTrue, IsFalse}
use Rattle.std.proofs.Common.{if◌then◌else◌, inl, inr, refl, sym, ap, subst, ◌∙◌, arith}
use Rattle.std.proofs.lemmas.Bool.{and_parts, and_from, and_left, and_right, cases_Bool, both_ways, not-true, not_from_false, false_from_ne_true, cond-true}
use Rattle.std.proofs.lemmas.Bool.{cond-false}
use Rattle.std.proofs.lemmas.Option.{none-some, same_Some}
use Rattle.std.specs.List.{list_any, list_all}
use Rattle.tardis_base.specs.declared.ids.StateId.{StateId}
use Rattle.tardis_base.specs.declared.records.Record.{Record}
use Rattle.tardis_base.specs.Ids.{same_id, is_among}
use Rattle.plain_dag.specs.States.{is_known, children, arrival}
use Rattle.plain_dag.specs.Above.{is_above}
use Rattle.plain_dag.specs.Floors.{Floor}
use Rattle.plain_dag.specs.Collection.{is_kept, stand_in, common, shared_stand_in, is_absorbed}
use Rattle.plain_dag.specs.Dag.{IsDag}
use Rattle.plain_dag.specs.Laws.{StandInsAreShared, CollectedShareStandIns, StandsInWell}
use Rattle.plain_dag.proofs.States.{Grows, dag-grows, same_test, not-both, same_id-true, same_id_from, among-first, among-later, among-cases, any-witness}
use Rattle.plain_dag.proofs.States.{arrival_is_below, parent-is-known, known-stays, children-of-parent, children-before, child_is_known, child_arrives_later}
use Rattle.plain_dag.proofs.States.{parent_is_above, proper_goes_by_child}
use Rattle.plain_dag.proofs.Order.{above-transitive}

-- ===== One state, and two

-- the only one of these
only : (x z : StateId) → IsTrue (is_among z (x ∷ [])) → z ≡ x
only x z h = elim (among-cases z x [] h) [
  | inl e ↦ e
  | inr none ↦ not-both true refl (sym none)
]

-- of two that differ there are two
pub two-of : (cs : List StateId) (c d : StateId) → IsTrue (is_among c cs) → IsTrue (is_among d cs) → (c ≡ d → ⊥) → 2 ≤ length cs
two-of [] c d m n other = not-both true refl (sym m)
two-of (x ∷ []) c d m n other = absurd (other (only x c m ∙ sym (only x d n)))
two-of (x ∷ y ∷ cs) c d m n other = omega arith

-- what the first of these gives, or x where there is none
abbrev pub by_first : (StateId → StateId) → StateId → List StateId → StateId
by_first f x [] = x
by_first f x (c ∷ cs) = f c

module _ (ks : List StateId) where
  -- ===== One more record

  -- where the stand-in is collected and has the new state as a child, the new state takes its place
  pub moves-on : (rs : List Record) (r : Record) (x : StateId) → IsTrue (is_among (stand_in rs ks x) ks) → IsTrue (is_among (stand_in rs ks x) r.parents) →
      stand_in (r ∷ rs) ks x ≡ r.id
  moves-on rs r x gone child =
      let here = stand_in rs ks x in
      cond-true (is_among here ks && is_among here r.parents) r.id here (and_from (is_among here ks) (is_among here r.parents) gone child)

  -- else it stays
  pub stays-put : (rs : List Record) (r : Record) (x : StateId) → IsFalse (is_among (stand_in rs ks x) ks && is_among (stand_in rs ks x) r.parents) →
      stand_in (r ∷ rs) ks x ≡ stand_in rs ks x
  stays-put rs r x f = let here = stand_in rs ks x in cond-false (is_among here ks && is_among here r.parents) r.id here f

  -- two states with one stand-in keep having one
  moves-together : (rs : List Record) (r : Record) (x y : StateId) → stand_in rs ks x ≡ stand_in rs ks y → stand_in (r ∷ rs) ks x ≡ stand_in (r ∷ rs) ks y
  moves-together rs r x y e = ap (λ here. if is_among here ks && is_among here r.parents then r.id else here) e

  -- a state that isn't collected stands for itself
  pub kept-stands-for-itself : (rs : List Record) (x : StateId) → IsFalse (is_among x ks) → stand_in rs ks x ≡ x
  kept-stands-for-itself [] x out = refl
  kept-stands-for-itself (r ∷ rs) x out =
      let here = kept-stands-for-itself rs x out in
      stays-put rs r x (and_left (is_among (stand_in rs ks x) ks) (is_among (stand_in rs ks x) r.parents)
      (subst (λ z. IsFalse (is_among z ks)) (sym here) out)) ∙ here

  -- so does one that isn't known
  pub unknown-stands-for-itself : (rs : List Record) → Grows rs → (x : StateId) → IsFalse (is_known rs x) → stand_in rs ks x ≡ x
  unknown-stands-for-itself [] g x out = refl
  unknown-stands-for-itself (r ∷ rs) g x out =
      let older = false_from_ne_true (is_known rs x) (λ k. both_ways (is_known (r ∷ rs) x) out (known-stays rs r x k)) in
      let here = unknown-stands-for-itself rs g.1 x older in
      stays-put rs r x (and_right (is_among (stand_in rs ks x) ks) (is_among (stand_in rs ks x) r.parents)
      (subst (λ z. IsFalse (is_among z r.parents)) (sym here)
      (false_from_ne_true (is_among x r.parents) (λ m. both_ways (is_known rs x) older (parent-is-known rs r x g.0 m))))) ∙ here

  -- ===== The first child

  -- a collected state's stand-in is that of its first child
  pub goes-by-first-child : (rs : List Record) → Grows rs → (x : StateId) → IsTrue (is_among x ks) → stand_in rs ks x
      ≡ by_first (stand_in rs ks) x (children rs x)
  goes-by-first-child [] g x gone = refl
  goes-by-first-child (r ∷ rs) g x gone = elim (cases_Bool (is_among x r.parents)) [
    | inl child ↦ subst (λ cs. stand_in (r ∷ rs) ks x ≡ by_first (stand_in (r ∷ rs) ks) x cs) (sym (children-of-parent rs r x child))
        (next (children rs x) (goes-by-first-child rs g.1 x gone) child)
    | inr none ↦ subst (λ cs. stand_in (r ∷ rs) ks x ≡ by_first (stand_in (r ∷ rs) ks) x cs) (sym (children-before rs r x none))
        (same (children rs x) (goes-by-first-child rs g.1 x gone) none)
  ]
    where
      next : (cs : List StateId) → stand_in rs ks x ≡ by_first (stand_in rs ks) x cs → IsTrue (is_among x r.parents) →
          stand_in (r ∷ rs) ks x ≡ by_first (stand_in (r ∷ rs) ks) x (cs ++ r.id ∷ [])
      next [] e child =
          let itself = unknown-stands-for-itself rs g.1 r.id g.0.new in
          moves-on rs r x (subst (λ z. IsTrue (is_among z ks)) (sym e) gone) (subst (λ z. IsTrue (is_among z r.parents)) (sym e) child)
          ∙ sym (stays-put rs r r.id (and_right (is_among (stand_in rs ks r.id) ks) (is_among (stand_in rs ks r.id) r.parents)
          (subst (λ z. IsFalse (is_among z r.parents)) (sym itself)
          (false_from_ne_true (is_among r.id r.parents) (λ m. both_ways (is_known rs r.id) g.0.new (parent-is-known rs r r.id g.0 m))))) ∙ itself)
      next (c ∷ cs) e child = moves-together rs r x c e

      same : (cs : List StateId) → stand_in rs ks x ≡ by_first (stand_in rs ks) x cs → IsFalse (is_among x r.parents) →
          stand_in (r ∷ rs) ks x ≡ by_first (stand_in (r ∷ rs) ks) x cs
      same [] e none = stays-put rs r x (and_right (is_among (stand_in rs ks x) ks) (is_among (stand_in rs ks x) r.parents)
          (subst (λ z. IsFalse (is_among z r.parents)) (sym e) none)) ∙ e
      same (c ∷ cs) e none = moves-together rs r x c e

-- ===== Shared stand-ins

module _ (f : StateId → StateId) where
  -- where all of these have one in common there are some, and each has it
  pub common-is : (cs : List StateId) (s : StateId) → common same_id (map f cs) ≡ Some s →
      IsTrue (list_any (λ c. true) cs) × ((c : StateId) → IsTrue (is_among c cs) → f c ≡ s)
  common-is [] s e = absurd (none-some s e)
  common-is (d ∷ ds) s e = elim (cases_Bool (list_all (λ y. same_id y (f d)) (map f ds))) [
    | inl t ↦
        let first : f d ≡ s = same_Some (f d) s (sym (cond-true (list_all (λ y. same_id y (f d)) (map f ds)) (Some (f d)) None t) ∙ e) in (
          refl,
          λ c m. elim (among-cases c d ds m) [
            | inl is ↦ ap f is ∙ first
            | inr later ↦ each ds c t later ∙ first
          ],
        )
    | inr n ↦ absurd (none-some s (sym (cond-false (list_all (λ y. same_id y (f d)) (map f ds)) (Some (f d)) None n) ∙ e))
  ]
    where
      each : (cs : List StateId) (c : StateId) → IsTrue (list_all (λ y. same_id y (f d)) (map f cs)) → IsTrue (is_among c cs) → f c ≡ f d
      each [] c t m = not-both true refl (sym m)
      each (b ∷ bs) c t m =
          let parts = and_parts (same_id (f b) (f d)) (list_all (λ y. same_id y (f d)) (map f bs)) t in
          elim (among-cases c b bs m) [
            | inl is ↦ ap f is ∙ same_id-true (f b) (f d) parts.0
            | inr later ↦ each bs c parts.1 later
          ]

  -- where there are some and each has s, they have it in common
  pub common-from : (cs : List StateId) (s : StateId) → IsTrue (list_any (λ c. true) cs) → ((c : StateId) → IsTrue (is_among c cs) → f c ≡ s) →
      common same_id (map f cs) ≡ Some s
  common-from [] s some each = not-both true refl (sym some)
  common-from (d ∷ ds) s some each =
      let first = each d (among-first d ds) in
      cond-true (list_all (λ y. same_id y (f d)) (map f ds)) (Some (f d)) None (all ds (λ c m. each c (among-later c d ds m) ∙ sym first))
      ∙ ap (λ z. Some z) first
    where
      all : (cs : List StateId) → ((c : StateId) → IsTrue (is_among c cs) → f c ≡ f d) → IsTrue (list_all (λ y. same_id y (f d)) (map f cs))
      all [] each = refl
      all (b ∷ bs) each =
          and_from (same_id (f b) (f d)) (list_all (λ y. same_id y (f d)) (map f bs)) (same_id_from (f b) (f d) (each b (among-first b bs)))
          (all bs (λ c m. each c (among-later c b bs m)))

-- what is there
pub some-there : (o : Option StateId) → IsTrue (is_some o) → (s : StateId) × (o ≡ Some s)
some-there (Some s) t = (s, refl)
some-there None t = not-both true refl (sym t)

-- an absorbed state has children, and they share one stand-in
pub absorbed-parts : (rs : List Record) (ks : List StateId) (x : StateId) → IsTrue (is_absorbed rs ks x) →
    (s : StateId) × (shared_stand_in rs ks x ≡ Some s) × IsTrue (list_any (λ c. true) (children rs x))
    × ((c : StateId) → IsTrue (is_among c (children rs x)) → stand_in rs ks c ≡ s)
absorbed-parts rs ks x absorbed =
    let there = some-there (shared_stand_in rs ks x) absorbed in
    let parts = common-is (stand_in rs ks) (children rs x) there.0 there.1 in
    (there.0, there.1, parts.0, parts.1)

-- a collected state's stand-in is the one that its children share
pub stands-in-shared : (rs : List Record) (ks : List StateId) → Grows rs → (x s : StateId) → IsTrue (is_among x ks) →
    IsTrue (list_any (λ c. true) (children rs x)) → ((c : StateId) → IsTrue (is_among c (children rs x)) → stand_in rs ks c ≡ s) → stand_in rs ks x ≡ s
stands-in-shared rs ks g x s gone some each = go (children rs x) (goes-by-first-child ks rs g x gone) some each
  where
    go : (cs : List StateId) → stand_in rs ks x ≡ by_first (stand_in rs ks) x cs → IsTrue (list_any (λ c. true) cs) →
        ((c : StateId) → IsTrue (is_among c cs) → stand_in rs ks c ≡ s) → stand_in rs ks x ≡ s
    go [] e some each = not-both true refl (sym some)
    go (d ∷ ds) e some each = e ∙ each d (among-first d ds)

-- an absorbed state that gets no child stays absorbed: what its children shared moves on as one
pub absorbed-before : (rs : List Record) (r : Record) (ks : List StateId) (x : StateId) → IsFalse (is_among x r.parents) → IsTrue (is_absorbed rs ks x) →
    IsTrue (is_absorbed (r ∷ rs) ks x)
absorbed-before rs r ks x childless absorbed =
    let was = absorbed-parts rs ks x absorbed in
    let s = was.0 in
    subst (λ cs. IsTrue (is_some (common same_id (map (stand_in (r ∷ rs) ks) cs)))) (sym (children-before rs r x childless))
    (ap is_some (common-from (stand_in (r ∷ rs) ks) (children rs x) (if is_among s ks && is_among s r.parents then r.id else s) was.2 (λ c m.
    ap (λ here. if is_among here ks && is_among here r.parents then r.id else here) (was.3 c m))))

pub collected-share-stand-ins : (rs : List Record) (floors : List Floor) (ks : List StateId) → IsDag rs → CollectedShareStandIns rs floors ks
collected-share-stand-ins rs floors ks dag collected x gone =
    let parts = absorbed-parts rs ks x (collected.absorbed x gone) in
    (parts.2, λ c m. parts.3 c m ∙ sym (stands-in-shared rs ks (dag-grows rs dag) x parts.0 gone parts.2 parts.3))

-- ===== Nothing is lost

-- the stand-in of z is kept, and z is at or above the same kept states as it
record IsWellStoodFor (rs : List Record) (ks : List StateId) (z : StateId) : Type 0 where
  kept : IsTrue (is_kept rs ks (stand_in rs ks z))
  tells : (x : StateId) → IsTrue (is_kept rs ks x) → is_above rs z x ≡ is_above rs (stand_in rs ks z) x

module _ (rs : List Record) (ks : List StateId) (dag : IsDag rs) (shared : StandInsAreShared rs ks) where
  -- a kept state isn't collected
  uncollected : (x : StateId) → IsTrue (is_kept rs ks x) → IsFalse (is_among x ks)
  uncollected x kept = not-true (is_among x ks) (and_parts (is_known rs x) (not (is_among x ks)) kept).1

  -- a kept state is well stood for by itself
  kept-is-well : (z : StateId) → IsTrue (is_known rs z) → IsFalse (is_among z ks) → IsWellStoodFor rs ks z
  kept-is-well z known out =
      let itself = kept-stands-for-itself ks rs z out in
      record {
        kept = subst (λ y. IsTrue (is_kept rs ks y)) (sym itself) (and_from (is_known rs z) (not (is_among z ks)) known (not_from_false (is_among z ks) out));
        tells = λ x kept. ap (λ y. is_above rs y x) (sym itself);
      }

  -- a collected one is where its children are
  collected-is-well : (z : StateId) → IsTrue (is_among z ks) → ((c : StateId) → IsTrue (is_among c (children rs z)) → IsWellStoodFor rs ks c) →
      IsWellStoodFor rs ks z
  collected-is-well z gone below = record {
    kept = subst (λ y. IsTrue (is_kept rs ks y)) (some_same) (below some.0 some.1).kept;
    tells = λ x kept. same_test (is_above rs z x) (is_above rs (stand_in rs ks z) x) (down x kept) (up x kept);
  }
    where
      some : (c : StateId) × IsTrue (is_among c (children rs z)) × IsTrue true
      some = any-witness (λ c. true) (children rs z) (shared z gone).0

      some_same : stand_in rs ks some.0 ≡ stand_in rs ks z
      some_same = (shared z gone).1 some.0 some.1

      down : (x : StateId) → IsTrue (is_kept rs ks x) → IsTrue (is_above rs z x) → IsTrue (is_above rs (stand_in rs ks z) x)
      down x kept above =
          let w = proper_goes_by_child rs dag z x above (λ e. both_ways (is_among x ks) (uncollected x kept) (subst (λ y. IsTrue (is_among y ks)) e gone)) in
          subst (λ y. IsTrue (is_above rs y x)) ((shared z gone).1 w.0 w.1) (sym ((below w.0 w.1).tells x kept) ∙ w.2)

      up : (x : StateId) → IsTrue (is_kept rs ks x) → IsTrue (is_above rs (stand_in rs ks z) x) → IsTrue (is_above rs z x)
      up x kept above =
          above-transitive rs dag z some.0 x (parent_is_above rs dag z some.0 some.1)
          ((below some.0 some.1).tells x kept ∙ subst (λ y. IsTrue (is_above rs y x)) (sym some_same) above)

  -- each known state is well stood for, by as many steps as states arrived later
  all-are-well : (n : ℕ) (z : StateId) → IsTrue (is_known rs z) → length rs ≤ arrival rs z + n → IsWellStoodFor rs ks z
  all-are-well zero z known enough = absurd (let within = arrival_is_below rs z known in omega arith)
  all-are-well (suc n) z known enough = elim (cases_Bool (is_among z ks)) [
    | inl gone ↦ collected-is-well z gone (λ c m. let later = child_arrives_later rs dag z c m in all-are-well n c (child_is_known rs z c m) (omega arith))
    | inr out ↦ kept-is-well z known out
  ]

  pub stands-in-well : StandsInWell rs ks
  stands-in-well = record {
    kept = λ z known. (all-are-well (length rs) z known (omega arith)).kept;
    stays = λ x kept. kept-stands-for-itself ks rs x (uncollected x kept);
    tells = λ z x known kept. (all-are-well (length rs) z known (omega arith)).tells x kept;
  }
