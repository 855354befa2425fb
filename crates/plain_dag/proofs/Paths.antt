-- Fork paths tell ancestry: where a way to a leaves the states above b, it leaves by a branch of a kept fork.
use Rattle.std.proofs.Common.{◌≡◌, ℕ, zero, suc, ◌+◌, ◌≤◌, true, false, ◌&&◌, not, List, [], ◌∷◌, length, Option, Some, None, slice_get, le-leb, IsTrue}
use Rattle.std.proofs.Common.{IsFalse, inl, inr, refl, sym, ap, subst, ◌∙◌, arith}
use Rattle.std.proofs.lemmas.Bool.{and_parts, and_from, cases_Bool, both_ways, not_from_false, false_from_ne_true}
use Rattle.std.specs.Option.{option_map_or}
use Rattle.tardis_base.specs.declared.ids.StateId.{StateId}
use Rattle.tardis_base.specs.declared.records.Record.{Record}
use Rattle.tardis_base.specs.Ids.{root, same_id, is_among}
use Rattle.tardis_base.specs.Valid.{is_id, are_parents, are_writes, is_record}
use Rattle.plain_dag.specs.States.{is_known, children, arrival}
use Rattle.plain_dag.specs.Above.{is_above}
use Rattle.plain_dag.specs.Floors.{Floor}
use Rattle.plain_dag.specs.Collection.{is_kept, stand_in}
use Rattle.plain_dag.specs.Paths.{is_fork, leads_to}
use Rattle.plain_dag.specs.Dag.{IsDag}
use Rattle.plain_dag.specs.Laws.{AreCollected, StandInsAreShared, ForkPathsTell}
use Rattle.plain_dag.proofs.States.{next-fits, known-cases, known-isnt-newest, not-both, same_id_from, among-first, among-cases, all-at, arrival_is_below}
use Rattle.plain_dag.proofs.States.{child_is_known, child_arrives_later, proper_goes_by_child}
use Rattle.plain_dag.proofs.Order.{above-before, above-by-parent, above-same, above-transitive, ancestors-arrive-earlier, ancestors-are-known}
use Rattle.plain_dag.proofs.StandIns.{two-of, collected-share-stand-ins, stands-in-well}

-- ===== The root

-- a record but the root's has parents
have-parents : (r : Record) → IsTrue (is_record r) → r.parents ≡ [] → ⊥
have-parents r shape e =
    let named = is_id r.id && not (same_id r.id root) in
    let parts = and_parts (named && are_parents r.parents) (are_writes r.writes) shape in
    not-both true refl (sym (subst (λ ps. IsTrue (are_parents ps)) e (and_parts named (are_parents r.parents) parts.0).1))

-- the root is at or above each known state
pub root-is-above : (rs : List Record) → IsDag rs → (x : StateId) → IsTrue (is_known rs x) → IsTrue (is_above rs root x)
root-is-above [] dag x known = absurd (dag)
root-is-above (r ∷ []) e x known = elim (known-cases [] r x known) [
  | inl new ↦ above-same (r ∷ []) root x (sym (new ∙ ap (λ q. q.id) e))
  | inr none ↦ not-both true refl (sym none)
]
root-is-above (r ∷ s ∷ rs) (next, dag) x known = elim (known-cases (s ∷ rs) r x known) [
  | inl new ↦ below_parents (root-is-above (s ∷ rs) dag) r.parents refl new
  | inr old ↦ above-before (s ∷ rs) r root x (known-isnt-newest (s ∷ rs) r x (next-fits (s ∷ rs) r next) old) ∙ root-is-above (s ∷ rs) dag x old
]
  where
    below_parents : ((p : StateId) → IsTrue (is_known (s ∷ rs) p) → IsTrue (is_above (s ∷ rs) root p)) →
        (ps : List StateId) → r.parents ≡ ps → x ≡ r.id → IsTrue (is_above (r ∷ s ∷ rs) root x)
    below_parents older [] e new = absurd (have-parents r next.shape e)
    below_parents older (p ∷ ps) e new =
        let m : IsTrue (is_among p r.parents) = subst (λ qs. IsTrue (is_among p qs)) (sym e) (among-first p ps) in
        above-by-parent (s ∷ rs) r root p x (same_id_from x r.id new) m (older p (all-at (is_known (s ∷ rs)) r.parents p next.parents m))

-- ===== Where two ways part

-- p is at or above both; of its children one is at or above a alone, and another at or above b
record Parting (rs : List Record) (a b : StateId) : Type 0 where
  p : StateId
  to_a : StateId
  known : IsTrue (is_known rs p)
  above_a : IsTrue (is_above rs p a)
  above_b : IsTrue (is_above rs p b)
  child : IsTrue (is_among to_a (children rs p))
  leads : IsTrue (is_above rs to_a a)
  leaves : IsFalse (is_above rs to_a b)

-- where a isn't at or above b, a way to a from a state above both has such a place
parts-below : (rs : List Record) → IsDag rs → (a b : StateId) → IsFalse (is_above rs a b) → (n : ℕ) (p : StateId) → IsTrue (is_known rs p) →
    length rs ≤ arrival rs p + n → IsTrue (is_above rs p a) → IsTrue (is_above rs p b) → Parting rs a b
parts-below rs dag a b apart zero p known enough above_a above_b = absurd (let within = arrival_is_below rs p known in omega arith)
parts-below rs dag a b apart (suc n) p known enough above_a above_b =
    let w = proper_goes_by_child rs dag p a above_a (λ e. both_ways (is_above rs a b) apart (subst (λ z. IsTrue (is_above rs z b)) e above_b)) in
    elim (cases_Bool (is_above rs w.0 b)) [
      | inl on ↦
          let later = child_arrives_later rs dag p w.0 w.1 in
          parts-below rs dag a b apart n w.0 (child_is_known rs p w.0 w.1) (omega arith) w.2 on
      | inr off ↦ record { p = p; to_a = w.0; known = known; above_a = above_a; above_b = above_b; child = w.1; leads = w.2; leaves = off }
    ]

parting : (rs : List Record) → IsDag rs → (a b : StateId) → IsTrue (is_known rs a) → IsTrue (is_known rs b) → IsFalse (is_above rs a b) → Parting rs a b
parting rs dag a b known_a known_b apart =
    parts-below rs dag a b apart (length rs) root (ancestors-are-known rs dag root a known_a (root-is-above rs dag a known_a)) (omega arith)
    (root-is-above rs dag a known_a) (root-is-above rs dag b known_b)

-- ===== Branches

-- each of these has a number
number-of : (cs : List StateId) (c : StateId) → IsTrue (is_among c cs) → (n : ℕ) × (slice_get cs n ≡ Some c)
number-of [] c m = not-both true refl (sym m)
number-of (d ∷ cs) c m = elim (among-cases c d cs m) [
  | inl e ↦ (zero, ap (λ z. Some z) (sym e))
  | inr later ↦ let w = number-of cs c later in (suc w.0, w.1)
]

-- the branch of that number leads to what its child is at or above
leads-where : (rs : List Record) (x p c : StateId) (n : ℕ) → slice_get (children rs p) n ≡ Some c → leads_to rs x (p, n) ≡ is_above rs c x
leads-where rs x p c n e = ap (λ o. option_map_or (λ d. is_above rs d x) o false) e

-- ===== Fork paths

-- a way keeps its branches as it goes on
keeps-branches : (rs : List Record) → IsDag rs → (a b p : StateId) (n : ℕ) → IsTrue (is_above rs a b) → IsTrue (leads_to rs a (p, n)) →
    IsTrue (leads_to rs b (p, n))
keeps-branches rs dag a b p n above leads = go (slice_get (children rs p) n) leads
  where
    go : (o : Option StateId) → IsTrue (option_map_or (λ c. is_above rs c a) o false) → IsTrue (option_map_or (λ c. is_above rs c b) o false)
    go None h = h
    go (Some c) h = above-transitive rs dag c a b h above

module _ (rs : List Record) (ks : List StateId) (dag : IsDag rs) (shared : StandInsAreShared rs ks) (a b : StateId) (kept_b : IsTrue (is_kept rs ks b)) where
  -- where two ways part the state is kept: else both its children would have its stand-in, and be above b both
  parts-at-kept : (p c d : StateId) → IsTrue (is_known rs p) → IsTrue (is_among c (children rs p)) → IsTrue (is_among d (children rs p)) →
      IsFalse (is_above rs c b) → IsTrue (is_above rs d b) → IsTrue (is_kept rs ks p)
  parts-at-kept p c d known m n off on =
      and_from (is_known rs p) (not (is_among p ks)) known (not_from_false (is_among p ks) (false_from_ne_true (is_among p ks) (λ gone.
      let well = stands-in-well rs ks dag shared in
      let one : stand_in rs ks c ≡ stand_in rs ks d = (shared p gone).1 c m ∙ sym ((shared p gone).1 d n) in
      let same : is_above rs c b ≡ is_above rs d b =
      well.tells c b (child_is_known rs p c m) kept_b ∙ (ap (λ z. is_above rs z b) one ∙ sym (well.tells d b (child_is_known rs p d n) kept_b)) in
      both_ways (is_above rs c b) off (same ∙ on))))

  -- so the branch that is taken there to a alone shows that a isn't at or above b
  branch-tells : arrival rs a ≤ arrival rs b → Parting rs a b →
      ((p : StateId) (n : ℕ) → IsTrue (is_kept rs ks p) → IsTrue (is_fork rs p) → IsTrue (leads_to rs a (p, n)) → IsTrue (leads_to rs b (p, n))) → ⊥
  branch-tells no_later parts taken =
      let w = proper_goes_by_child rs dag parts.p b parts.above_b (λ e. later e) in
      let n = number-of (children rs parts.p) parts.to_a parts.child in
      let kept = parts-at-kept parts.p parts.to_a w.0 parts.known parts.child w.1 parts.leaves w.2 in
      let fork = le-leb 2 (length (children rs parts.p)) (two-of (children rs parts.p) parts.to_a w.0 parts.child w.1 (λ e.
      both_ways (is_above rs parts.to_a b) parts.leaves (subst (λ z. IsTrue (is_above rs z b)) (sym e) w.2))) in
      both_ways (is_above rs parts.to_a b) parts.leaves
      (sym (leads-where rs b parts.p parts.to_a n.0 n.1) ∙ taken parts.p n.0 kept fork (leads-where rs a parts.p parts.to_a n.0 n.1 ∙ parts.leads))
    where
      later : parts.p ≡ b → ⊥
      later e = elim (ancestors-arrive-earlier rs dag b a (subst (λ z. IsTrue (is_above rs z a)) e parts.above_a)) [
        | inl same ↦ both_ways (is_above rs parts.to_a b) parts.leaves (subst (λ z. IsTrue (is_above rs parts.to_a z)) (sym same) parts.leads)
        | inr before ↦ omega arith
      ]

pub fork-paths-tell : (rs : List Record) (ks : List StateId) → IsDag rs → StandInsAreShared rs ks → ForkPathsTell rs ks
fork-paths-tell rs ks dag shared a b kept_a kept_b = (forth, back)
  where
    forth : IsTrue (is_above rs a b) → (arrival rs a ≤ arrival rs b)
        × ((p : StateId) (n : ℕ) → IsTrue (is_kept rs ks p) → IsTrue (is_fork rs p) → IsTrue (leads_to rs a (p, n)) → IsTrue (leads_to rs b (p, n)))
    forth above = (no_later, λ p n kept fork leads. keeps-branches rs dag a b p n above leads)
      where
        no_later : arrival rs a ≤ arrival rs b
        no_later = elim (ancestors-arrive-earlier rs dag a b above) [
          | inl e ↦ (let same = ap (arrival rs) e in omega arith)
          | inr before ↦ omega arith
        ]

    back : (arrival rs a ≤ arrival rs b)
        × ((p : StateId) (n : ℕ) → IsTrue (is_kept rs ks p) → IsTrue (is_fork rs p) → IsTrue (leads_to rs a (p, n)) → IsTrue (leads_to rs b (p, n))) →
        IsTrue (is_above rs a b)
    back told = elim (cases_Bool (is_above rs a b)) [
      | inl t ↦ t
      | inr apart ↦ absurd (branch-tells rs ks dag shared a b kept_b told.0 (parting rs dag a b (known a kept_a) (known b kept_b) apart) told.1)
    ]
      where
        known : (x : StateId) → IsTrue (is_kept rs ks x) → IsTrue (is_known rs x)
        known x kept = (and_parts (is_known rs x) (not (is_among x ks)) kept).0

-- with rightly collected states
pub fork-paths-tell-collected : (rs : List Record) (floors : List Floor) (ks : List StateId) → IsDag rs → AreCollected rs floors ks → ForkPathsTell rs ks
fork-paths-tell-collected rs floors ks dag collected = fork-paths-tell rs ks dag (collected-share-stand-ins rs floors ks dag collected)

-- with nothing collected
pub fork-paths-tell-all : (rs : List Record) → IsDag rs → ForkPathsTell rs []
fork-paths-tell-all rs dag = fork-paths-tell rs [] dag (λ x none. not-both true refl (sym none))
