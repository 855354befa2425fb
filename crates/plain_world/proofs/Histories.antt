-- Histories that grow, and the records in them.
use Rattle.std.proofs.Common.{◌≡◌, ℕ, ◌≤◌, true, not, List, [], ◌∷◌, Option, Some, None, IsTrue, IsFalse, inl, inr, refl, sym, ap, subst, ◌∙◌, arith}
use Rattle.std.specs.Prelude.{◌&&◌}
use Rattle.std.proofs.lemmas.Bool.{or_cases, or_left, or_right, cases_Bool, cond-true, cond-false}
use Rattle.std.proofs.lemmas.Option.{none-some}
use Rattle.tardis_base.specs.declared.ids.StateId.{StateId}
use Rattle.tardis_base.specs.declared.records.Record.{Record}
use Rattle.tardis_base.specs.Ids.{root, same_id}
use Rattle.tardis_base.specs.Valid.{is_record}
use Rattle.plain_dag.specs.States.{record_at, is_known, count_of_site}
use Rattle.plain_dag.specs.Above.{is_above, is_proper_ancestor}
use Rattle.plain_dag.specs.Dag.{IsDag, IsNext}
use Rattle.plain_dag.proofs.Ids.{not-both, same_id-true, same_id_from}
use Rattle.plain_dag.proofs.Histories.{known-stays, known-isnt-newest, next-fits}
use Rattle.plain_dag.proofs.Growth.{old-states-stay}
use Rattle.plain_dag.proofs.Known.{count-grows}
use Rattle.plain_world.specs.Honest.{IsOneOf}

pub same-some : {A : Type 0} (a b : A) → Some a ≡ Some b → a ≡ b
same-some {A} a b e = ap (λ (o : Option A). elim o as (λ u. A) [ None ↦ a | Some c ↦ c ]) e

-- the record is its history's next
pub next-of-dag : (rs : List Record) (r : Record) → IsDag rs → IsDag (r ∷ rs) → IsNext rs r
next-of-dag [] r dag more = absurd (dag)
next-of-dag (s ∷ rs) r dag more = more.0

-- ===== Records of a history

pub one-is-known : (rs : List Record) (q : Record) → IsOneOf q rs → IsTrue (is_known rs q.id)
one-is-known [] q m = absurd (m)
one-is-known (r ∷ rs) q (inl e) = or_left (same_id q.id r.id) (is_known rs q.id) (same_id_from q.id r.id (ap (λ (s : Record). s.id) e))
one-is-known (r ∷ rs) q (inr m) = or_right (same_id q.id r.id) (is_known rs q.id) (one-is-known rs q m)

pub found-is-one : (rs : List Record) (x : StateId) (q : Record) → record_at rs x ≡ Some q → IsOneOf q rs × (x ≡ q.id)
found-is-one [] x q e = absurd (none-some q e)
found-is-one (r ∷ rs) x q e = elim (cases_Bool (same_id x r.id)) [
  | inl t ↦
      let same : r ≡ q = same-some r q (sym (cond-true (same_id x r.id) (Some r) (record_at rs x) t) ∙ e) in
      (inl (sym same), same_id-true x r.id t ∙ ap (λ (s : Record). s.id) same)
  | inr f ↦
      let older = found-is-one rs x q (sym (cond-false (same_id x r.id) (Some r) (record_at rs x) f) ∙ e) in
      (inr older.0, older.1)
]

pub known-is-found : (rs : List Record) (x : StateId) → IsTrue (is_known rs x) → (q : Record) × (record_at rs x ≡ Some q)
known-is-found [] x k = not-both true refl (sym k)
known-is-found (r ∷ rs) x k = elim (cases_Bool (same_id x r.id)) [
  | inl t ↦ (r, cond-true (same_id x r.id) (Some r) (record_at rs x) t)
  | inr f ↦
      let older = known-is-found rs x (elim (or_cases (same_id x r.id) (is_known rs x) k) [ inl t ↦ not-both (same_id x r.id) t f | inr m ↦ m ]) in
      (older.0, cond-false (same_id x r.id) (Some r) (record_at rs x) f ∙ older.1)
]

-- a record of a history is the one of its id
pub one-is-found : (rs : List Record) → IsDag rs → (q : Record) → IsOneOf q rs → record_at rs q.id ≡ Some q
one-is-found [] dag q m = absurd (m)
one-is-found (r ∷ []) dag q (inl e) = cond-true (same_id q.id r.id) (Some r) None (same_id_from q.id r.id (ap (λ (s : Record). s.id) e)) ∙ ap Some (sym e)
one-is-found (r ∷ []) dag q (inr none) = absurd (none)
one-is-found (r ∷ s ∷ rs) dag q (inl e) = cond-true (same_id q.id r.id) (Some r) (record_at (s ∷ rs) q.id)
    (same_id_from q.id r.id (ap (λ (t : Record). t.id) e)) ∙ ap Some (sym e)
one-is-found (r ∷ s ∷ rs) dag q (inr m) =
    let old = known-isnt-newest (s ∷ rs) r q.id (next-fits (s ∷ rs) r dag.0) (one-is-known (s ∷ rs) q m) in
    cond-false (same_id q.id r.id) (Some r) (record_at (s ∷ rs) q.id) old ∙ one-is-found (s ∷ rs) dag.1 q m

-- a record but the root's has its shape
pub one-is-record : (rs : List Record) → IsDag rs → (q : Record) → IsOneOf q rs → IsFalse (same_id q.id root) → IsTrue (is_record q)
one-is-record [] dag q m other = absurd (m)
one-is-record (r ∷ []) dag q (inl e) other = not-both (same_id q.id root) (same_id_from q.id root (ap (λ (s : Record). s.id) (e ∙ dag))) other
one-is-record (r ∷ []) dag q (inr none) other = absurd (none)
one-is-record (r ∷ s ∷ rs) dag q (inl e) other = subst (λ t. IsTrue (is_record t)) (sym e) dag.0.shape
one-is-record (r ∷ s ∷ rs) dag q (inr m) other = one-is-record (s ∷ rs) dag.1 q m other

-- ===== A history that grows

-- what is known stays, as it is
pub record Extends (rs new : List Record) : Type 0 where
  pub known : (x : StateId) → IsTrue (is_known rs x) → IsTrue (is_known new x)
  pub above : (x y : StateId) → IsTrue (is_known rs y) → is_above new x y ≡ is_above rs x y
  pub found : (x : StateId) (r : Record) → record_at rs x ≡ Some r → record_at new x ≡ Some r
  pub counts : (n : ℕ) → count_of_site rs n ≤ count_of_site new n

pub extends-same : (rs new : List Record) → new ≡ rs → Extends rs new
extends-same rs new e = subst (Extends rs) (sym e) (record {
  known = λ x k. k;
  above = λ x y k. refl;
  found = λ x r f. f;
  counts = λ n. omega arith;
})

pub extends-next : (rs : List Record) (r : Record) → IsDag rs → IsDag (r ∷ rs) → Extends rs (r ∷ rs)
extends-next rs r dag more =
    let next = next-of-dag rs r dag more in
    record {
      known = λ x k. known-stays rs r x k;
      above = old-states-stay rs r dag next;
      found = λ x q f.
          let one = found-is-one rs x q f in
          let known = subst (λ y. IsTrue (is_known rs y)) (sym one.1) (one-is-known rs q one.0) in
          cond-false (same_id x r.id) (Some r) (record_at rs x) (known-isnt-newest rs r x (next-fits rs r next) known) ∙ f;
      counts = λ n. count-grows rs r n;
    }

pub proper-extends : (rs new : List Record) → Extends rs new → (x y : StateId) → IsTrue (is_known rs y) → is_proper_ancestor new x y ≡ is_proper_ancestor rs x y
proper-extends rs new e x y k = ap (λ b. b && not (same_id x y)) (e.above x y k)
