-- Which ids are known, how many states each site has, and which states are kept.
use Rattle.std.proofs.Common.{◌≡◌, ℕ, ◌+◌, ◌≤◌, true, not, List, [], ◌∷◌, IsTrue, IsFalse, inl, inr, refl, sym, ap, subst, ◌∙◌, arith}
use Rattle.std.specs.Prelude.{◌==◌, ◌&&◌}
use Rattle.std.proofs.lemmas.Bool.{and_parts, or_cases, or_left, or_right, cond_both, cond-true, not-true, eq-eqb}
use Rattle.tardis_base.specs.declared.ids.StateId.{StateId}
use Rattle.tardis_base.specs.declared.records.Record.{Record}
use Rattle.tardis_base.specs.Ids.{root, same_id, is_among}
use Rattle.tardis_base.specs.Valid.{is_id, is_record, are_parents, are_writes}
use Rattle.plain_dag.specs.States.{arrived, is_known, count_of_site}
use Rattle.plain_dag.specs.Dag.{IsDag}
use Rattle.plain_dag.specs.Collection.{is_kept, kept_states}
use Rattle.plain_dag.proofs.Ids.{not-both, among-append, among-first, among-cases}
use Rattle.plain_dag.proofs.Histories.{known-stays, known-cases, newest-is-known}
use Rattle.plain_dag.proofs.Searches.{among-filter}

pub root-is-known : (rs : List Record) → IsDag rs → IsTrue (is_known rs root)
root-is-known [] dag = absurd (dag)
root-is-known (r ∷ []) dag = subst (λ q. IsTrue (is_known (q ∷ []) root)) (sym dag) refl
root-is-known (r ∷ s ∷ rs) dag = known-stays (s ∷ rs) r root (root-is-known (s ∷ rs) dag.1)

-- the parts of a record
pub record IsRecordOf (r : Record) : Type 0 where
  pub id : IsTrue (is_id r.id)
  pub isnt_root : IsFalse (same_id r.id root)
  pub parents : IsTrue (are_parents r.parents)
  pub writes : IsTrue (are_writes r.writes)

pub record-parts : (r : Record) → IsTrue (is_record r) → IsRecordOf r
record-parts r h =
    let other = not (same_id r.id root) in
    let parts = and_parts (is_id r.id && other && are_parents r.parents) (are_writes r.writes) h in
    let most = and_parts (is_id r.id && other) (are_parents r.parents) parts.0 in
    let first = and_parts (is_id r.id) other most.0 in
    record { id = first.0; isnt_root = not-true (same_id r.id root) first.1; parents = most.1; writes = parts.1 }

-- a known id is one
pub known-is_id : (rs : List Record) → IsDag rs → (x : StateId) → IsTrue (is_known rs x) → IsTrue (is_id x)
known-is_id [] dag x h = absurd (dag)
known-is_id (r ∷ []) dag x h = elim (known-cases [] r x h) [
  | inl e ↦ subst (λ z. IsTrue (is_id z)) (sym (e ∙ ap (λ (q : Record). q.id) dag)) refl
  | inr none ↦ not-both true refl (sym none)
]
known-is_id (r ∷ s ∷ rs) dag x h = elim (known-cases (s ∷ rs) r x h) [
  | inl e ↦ subst (λ z. IsTrue (is_id z)) (sym e) (record-parts r dag.0.shape).id
  | inr m ↦ known-is_id (s ∷ rs) dag.1 x m
]

pub count-newest : (rs : List Record) (r : Record) (n : ℕ) → r.id.site ≡ n → count_of_site (r ∷ rs) n ≡ count_of_site rs n + 1
count-newest rs r n e = cond-true (r.id.site == n) (count_of_site rs n + 1) (count_of_site rs n) (eq-eqb r.id.site n e)

-- counts grow
pub count-grows : (rs : List Record) (r : Record) (n : ℕ) → count_of_site rs n ≤ count_of_site (r ∷ rs) n
count-grows rs r n =
    cond_both (r.id.site == n) (count_of_site rs n + 1) (count_of_site rs n) (λ k. count_of_site rs n ≤ k) (λ t. omega arith) (λ f. omega arith)

-- a known state's sequence is at most its site's count
pub known-within-count : (rs : List Record) → IsDag rs → (x : StateId) → IsTrue (is_known rs x) → x.sequence ≤ count_of_site rs x.site
known-within-count [] dag x h = absurd (dag)
known-within-count (r ∷ []) dag x h = elim (known-cases [] r x h) [
  | inl e ↦
      let zero : x.sequence ≡ 0 = ap (λ (z : StateId). z.sequence) (e ∙ ap (λ (q : Record). q.id) dag) in
      omega arith
  | inr none ↦ not-both true refl (sym none)
]
known-within-count (r ∷ s ∷ rs) dag x h = elim (known-cases (s ∷ rs) r x h) [
  | inl e ↦
      let next = dag.0.in_sequence in
      let count = count-newest (s ∷ rs) r r.id.site refl in
      subst (λ (z : StateId). z.sequence ≤ count_of_site (r ∷ s ∷ rs) z.site) (sym e) (omega arith)
  | inr m ↦
      let old = known-within-count (s ∷ rs) dag.1 x m in
      let more = count-grows (s ∷ rs) r x.site in
      omega arith
]

-- a known state has arrived
pub known-is_arrived : (rs : List Record) (x : StateId) → IsTrue (is_known rs x) → IsTrue (is_among x (arrived rs))
known-is_arrived [] x h = h
known-is_arrived (r ∷ rs) x h =
    among-append x (arrived rs) (r.id ∷ [])
    ∙ elim (known-cases rs r x h) [
      | inl e ↦
          or_right (is_among x (arrived rs)) (is_among x (r.id ∷ [])) (subst (λ z. IsTrue (is_among x (z ∷ []))) e (among-first x []))
      | inr m ↦ or_left (is_among x (arrived rs)) (is_among x (r.id ∷ [])) (known-is_arrived rs x m)
    ]

-- a kept state is one of those that are kept
pub kept-is_listed : (rs : List Record) (ks : List StateId) (x : StateId) → IsTrue (is_kept rs ks x) → IsTrue (is_among x (kept_states rs ks))
kept-is_listed rs ks x h =
    let parts = and_parts (is_known rs x) (not (is_among x ks)) h in
    among-filter (λ z. not (is_among z ks)) (arrived rs) x (known-is_arrived rs x parts.0) parts.1

pub arrived-is_known : (rs : List Record) (x : StateId) → IsTrue (is_among x (arrived rs)) → IsTrue (is_known rs x)
arrived-is_known [] x h = h
arrived-is_known (r ∷ rs) x h = elim (or_cases (is_among x (arrived rs)) (is_among x (r.id ∷ [])) (sym (among-append x (arrived rs) (r.id ∷ [])) ∙ h)) [
  | inl old ↦ known-stays rs r x (arrived-is_known rs x old)
  | inr new ↦ elim (among-cases x r.id [] new) [
    | inl e ↦ subst (λ z. IsTrue (is_known (r ∷ rs) z)) (sym e) (newest-is-known rs r)
    | inr none ↦ not-both true refl (sym none)
  ]
]
