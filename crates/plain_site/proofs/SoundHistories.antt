-- Ids, counts and lists of a history, as far as a step needs them.
use Rattle.std.proofs.Common.{◌≡◌, ℕ, suc, ◌+◌, ◌<◌, ◌≤◌, Bool, not, List, [], ◌∷◌, length, filter, find, is_none, None, IsTrue, IsFalse, inl, inr, refl, sym}
use Rattle.std.proofs.Common.{ap, ◌∙◌, arith, length-append}
use Rattle.std.specs.Prelude.{◌==◌, ◌&&◌, ◌||◌, ◌^◌, nat_le}
use Rattle.std.specs.List.{list_any}
use Rattle.std.proofs.lemmas.Bool.{and_parts, and_from, cases_Bool, cond_both, cond-true, false_from_ne_true, not-true, not_from_false, eqb-true, ltb-true}
use Rattle.std.proofs.lemmas.List.Elements.{filter-append}
use Rattle.tardis_base.specs.declared.ids.StateId.{StateId}
use Rattle.tardis_base.specs.declared.records.Record.{Record}
use Rattle.tardis_base.specs.Ids.{root, same_id, is_among}
use Rattle.tardis_base.specs.Valid.{is_u16, is_u32, is_id}
use Rattle.plain_dag.specs.States.{arrived, is_known, count_of_site, children}
use Rattle.plain_dag.specs.Above.{is_above, is_proper_ancestor}
use Rattle.plain_dag.specs.Dag.{IsDag}
use Rattle.plain_dag.specs.Floors.{Floor, is_closed}
use Rattle.plain_dag.specs.Collection.{kept_states}
pub use Rattle.plain_dag.proofs.Known.{root-is-known, record-parts, known-is_id, count-grows, known-within-count, known-is_arrived, kept-is_listed}
use Rattle.plain_dag.proofs.Ids.{any-false-at, none-found}
use Rattle.plain_dag.proofs.States.{children-of-parent, children-before, child-stays, newest-is-child}
use Rattle.plain_dag.proofs.Collected.{above-proper}

-- ===== Ids and counts

id-fits : (x : StateId) → IsTrue (is_id x) → x.sequence < 4294967296
id-fits x h =
    let named = same_id x root || nat_le 1 x.site && nat_le 1 x.sequence in
    let first = and_parts (is_u16 x.site && is_u32 x.sequence) named h in
    ltb-true x.sequence (2 ^ 32) (and_parts (is_u16 x.site) (is_u32 x.sequence) first.0).1

-- each count fits 32 bits
pub count-fits : (rs : List Record) → IsDag rs → (n : ℕ) → count_of_site rs n < 4294967296
count-fits [] dag n = absurd (dag)
count-fits (r ∷ []) dag n = cond_both (r.id.site == n) (0 + 1) 0 (λ k. k < 4294967296) (λ t. omega arith) (λ f. omega arith)
count-fits (r ∷ s ∷ rs) dag n =
    let older = count-fits (s ∷ rs) dag.1 n in
    let fits = id-fits r.id (record-parts r dag.0.shape).id in
    let next = dag.0.in_sequence in
    cond_both (r.id.site == n) (count_of_site (s ∷ rs) n + 1) (count_of_site (s ∷ rs) n) (λ k. k < 4294967296)
    (λ t.
    let same : count_of_site (s ∷ rs) r.id.site ≡ count_of_site (s ∷ rs) n = ap (count_of_site (s ∷ rs)) (eqb-true r.id.site n t) in
    omega arith)
    (λ f. older)

-- an id with the next sequence of its site is new
pub next-is_new : (rs : List Record) → IsDag rs → (x : StateId) → x.sequence ≡ count_of_site rs x.site + 1 → IsFalse (is_known rs x)
next-is_new rs dag x e = false_from_ne_true (is_known rs x) (λ h. let within = known-within-count rs dag x h in omega arith)

-- ===== Kept states

kept-length : (rs : List Record) (ks : List StateId) (r : Record) →
    length (kept_states (r ∷ rs) ks) ≡ length (kept_states rs ks) + length (filter (λ x. not (is_among x ks)) (r.id ∷ []))
kept-length rs ks r =
    let keep : StateId → Bool = λ x. not (is_among x ks) in
    ap length (filter-append keep (arrived rs) (r.id ∷ [])) ∙ length-append (kept_states rs ks) (filter keep (r.id ∷ []))

-- one record more makes at most one kept state more
pub kept-grows : (rs : List Record) (ks : List StateId) (r : Record) → length (kept_states (r ∷ rs) ks) ≤ suc (length (kept_states rs ks))
kept-grows rs ks r =
    let e = kept-length rs ks r in
    let one : length (filter (λ x. not (is_among x ks)) (r.id ∷ [])) ≤ 1 =
    cond_both (not (is_among r.id ks)) (r.id ∷ []) [] (λ (ys : List StateId). length ys ≤ 1) (λ t. omega arith) (λ f. omega arith) in
    omega arith

-- where no child of a state is collected, there are no more children than kept states
pub children-are_kept : (rs : List Record) (ks : List StateId) (x : StateId) → ((c : StateId) → IsTrue (is_among c (children rs x)) → IsFalse (is_among c ks)) →
    length (children rs x) ≤ length (kept_states rs ks)
children-are_kept [] ks x kept = omega arith
children-are_kept (r ∷ rs) ks x kept =
    let older = children-are_kept rs ks x (λ c h. kept c (child-stays rs r x c h)) in
    let e = kept-length rs ks r in
    elim (cases_Bool (is_among x r.parents)) [
      | inl t ↦
          let here : filter (λ y. not (is_among y ks)) (r.id ∷ []) ≡ r.id ∷ [] =
          cond-true (not (is_among r.id ks)) (r.id ∷ []) [] (not_from_false (is_among r.id ks) (kept r.id (newest-is-child rs r x t))) in
          let one : length (filter (λ y. not (is_among y ks)) (r.id ∷ [])) ≡ 1 = ap length here in
          let more : length (children (r ∷ rs) x) ≡ length (children rs x) + 1 =
          ap length (children-of-parent rs r x t) ∙ length-append (children rs x) (r.id ∷ []) in
          omega arith
      | inr f ↦
          let same : length (children (r ∷ rs) x) ≡ length (children rs x) = ap length (children-before rs r x f) in
          omega arith
    ]

-- what isn't found is nowhere
pub unfound-at : (p : StateId → Bool) (xs : List StateId) (x : StateId) → find p xs ≡ None → IsTrue (is_among x xs) → IsFalse (p x)
unfound-at p xs x e h =
    let none : IsTrue (not (list_any p xs)) = sym (none-found p xs) ∙ ap is_none e in
    any-false-at p xs x (not-true (list_any p xs) none) h

-- ===== Closed states

-- what is at or above a closed state is closed
pub above-closed : (rs : List Record) → IsDag rs → (floors : List Floor) (x c : StateId) → IsTrue (is_above rs x c) → IsTrue (is_closed rs floors c) →
    IsTrue (is_closed rs floors x)
above-closed rs dag [] x c h closed = refl
above-closed rs dag (f ∷ fs) x c h closed =
    let parts = and_parts (is_proper_ancestor rs c f.state) (is_closed rs fs c) closed in
    and_from (is_proper_ancestor rs x f.state) (is_closed rs fs x) (above-proper rs dag x c f.state h parts.0) (above-closed rs dag fs x c h parts.1)
