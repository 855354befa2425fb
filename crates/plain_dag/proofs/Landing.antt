-- Where transactions land.
use Rattle.std.proofs.Common.{◌≡◌, ℕ, zero, suc, ◌+◌, ◌≤◌, ◌<◌, Bool, true, ◌||◌, ◌&&◌, not, List, [], ◌∷◌, ◌++◌, length, Option, Some, None, IsTrue, IsFalse}
use Rattle.std.proofs.Common.{refl, sym, ap, subst, ◌∙◌, inl, inr, arith, bytes_eq, if◌then◌else◌}
use Rattle.std.proofs.lemmas.Bool.{or_cases, or_parts, or_left, or_right, and_parts, and_from, cases_Bool, not-true, not_from_false, cond-true}
use Rattle.std.specs.List.{list_any}
use Rattle.std.proofs.lemmas.Slice.Eq.{bytes_eq-Decides}
use Rattle.std.proofs.lemmas.List.Elements.{filter_agree}
use Rattle.std.proofs.lemmas.List.Folds.{list_any-append}
use Rattle.std.specs.Option.{option_map_or, option_and_then}
use Rattle.tardis_base.specs.declared.ids.StateId.{StateId}
use Rattle.tardis_base.specs.declared.records.Record.{Record}
use Rattle.tardis_base.specs.declared.requests.EndFlags.{EndFlags}
use Rattle.tardis_base.specs.Ids.{is_among}
use Rattle.tardis_base.specs.Keys.{is_key_among}
use Rattle.plain_dag.specs.States.{states, is_known, children, arrival, writes_key}
use Rattle.plain_dag.specs.Above.{is_above}
use Rattle.plain_dag.specs.Writers.{is_writer, lowest, version_at}
use Rattle.plain_dag.specs.Landing.{is_between, is_news, passes, first_passing, after_steps, landing, guarded, is_ser, is_si}
use Rattle.plain_dag.specs.Dag.{IsDag}
use Rattle.plain_dag.specs.Laws.{LandsByFirstChildren, LandsBelow, LandsWithoutNews, LandsWithSameReads, IsTrueCommit}
use Rattle.plain_dag.proofs.Ids.{same_test, not-both, any-false-at}
use Rattle.plain_dag.proofs.Histories.{arrival_is_below}
use Rattle.plain_dag.proofs.Order.{above-reflexive, above-transitive, ancestors-are-known}
use Rattle.plain_dag.proofs.States.{child_arrives_later, child_is_known, parent_is_above}
use Rattle.plain_dag.proofs.Searches.{found-passes}

-- ===== One step

-- a first child that passes is a child
passing-is-child : (rs : List Record) (keys : List (List ℕ)) (s c : StateId) → first_passing rs keys s ≡ Some c → IsTrue (is_among c (children rs s))
passing-is-child rs keys s c e = (found-passes (passes rs keys s) (children rs s) c e).0

-- where no child passes, no step goes on
stays-at : (rs : List Record) (keys : List (List ℕ)) (s : StateId) (n : ℕ) → first_passing rs keys s ≡ None → after_steps n rs keys s ≡ s
stays-at rs keys s zero e = refl
stays-at rs keys s (suc n) e = ap (λ o. option_map_or (after_steps n rs keys) o s) e

-- a step goes to the first child that passes
steps-to : (rs : List Record) (keys : List (List ℕ)) (s c : StateId) (n : ℕ) → first_passing rs keys s ≡ Some c → after_steps (suc n) rs keys s
    ≡ after_steps n rs keys c
steps-to rs keys s c n e = ap (λ o. option_map_or (after_steps n rs keys) o s) e

-- a first child that passes arrived later than s and is known, and s is at or above it
passing-arrives-later : (rs : List Record) → IsDag rs → (keys : List (List ℕ)) (s c : StateId) → first_passing rs keys s ≡ Some c →
    (arrival rs s < arrival rs c) × (arrival rs c < length rs) × IsTrue (is_known rs c) × IsTrue (is_above rs s c)
passing-arrives-later rs dag keys s c e =
    let child = passing-is-child rs keys s c e in
    let known = child_is_known rs s c child in
    (child_arrives_later rs dag s c child, arrival_is_below rs c known, known, parent_is_above rs dag s c child)

-- once as many steps are left as states arrived later, one more changes nothing
enough-steps : (rs : List Record) → IsDag rs → (keys : List (List ℕ)) (n : ℕ) (s : StateId) →
    length rs ≤ arrival rs s + suc n → after_steps n rs keys s ≡ after_steps (suc n) rs keys s
enough-steps rs dag keys zero s enough = go (first_passing rs keys s) refl
  where
    go : (o : Option StateId) → first_passing rs keys s ≡ o → after_steps zero rs keys s ≡ after_steps (suc zero) rs keys s
    go None e = sym (stays-at rs keys s (suc zero) e)
    go (Some c) e = let w = passing-arrives-later rs dag keys s c e in absurd (omega arith)
enough-steps rs dag keys (suc n) s enough = go (enough-steps rs dag keys n) (first_passing rs keys s) refl
  where
    go : ((c : StateId) → length rs ≤ arrival rs c + suc n → after_steps n rs keys c ≡ after_steps (suc n) rs keys c) →
        (o : Option StateId) → first_passing rs keys s ≡ o → after_steps (suc n) rs keys s ≡ after_steps (suc (suc n)) rs keys s
    go later None e = stays-at rs keys s (suc n) e ∙ sym (stays-at rs keys s (suc (suc n)) e)
    go later (Some c) e =
        let w = passing-arrives-later rs dag keys s c e in
        steps-to rs keys s c n e ∙ (later c (omega arith) ∙ sym (steps-to rs keys s c (suc n) e))

pub lands-by-first-children : (rs : List Record) (keys : List (List ℕ)) (s : StateId) → IsDag rs → IsTrue (is_known rs s) → LandsByFirstChildren rs keys s
lands-by-first-children rs keys s dag known = record {
  stays = λ e. stays-at rs keys s (length rs) e;
  goes_on = λ c e. goes_on (length rs) refl c e;
}
  where
    goes_on : (n : ℕ) → length rs ≡ n → (c : StateId) → first_passing rs keys s ≡ Some c → after_steps n rs keys s ≡ after_steps n rs keys c
    goes_on zero l c e = let w = passing-arrives-later rs dag keys s c e in absurd (omega arith)
    goes_on (suc n) l c e =
        let w = passing-arrives-later rs dag keys s c e in
        steps-to rs keys s c n e ∙ enough-steps rs dag keys n c (omega arith)

-- ===== Below the start

-- what holds of the start and goes from each state to the first child that passes holds after each number of steps
kept-by-steps : (rs : List Record) (keys : List (List ℕ)) (P : StateId → Type 0) →
    ((s c : StateId) → first_passing rs keys s ≡ Some c → P s → P c) → (n : ℕ) (s : StateId) → P s → P (after_steps n rs keys s)
kept-by-steps rs keys P goes zero s p = p
kept-by-steps rs keys P goes (suc n) s p = go (kept-by-steps rs keys P goes n) (first_passing rs keys s) refl
  where
    go : ((c : StateId) → P c → P (after_steps n rs keys c)) → (o : Option StateId) → first_passing rs keys s ≡ o → P (after_steps (suc n) rs keys s)
    go later None e = subst P (sym (stays-at rs keys s (suc n) e)) p
    go later (Some c) e = subst P (sym (steps-to rs keys s c n e)) (later c (goes s c e p))

pub lands-below : (rs : List Record) (keys : List (List ℕ)) (s : StateId) → IsDag rs → IsTrue (is_known rs s) → LandsBelow rs keys s
lands-below rs keys s dag known =
    kept-by-steps rs keys (λ x. IsTrue (is_known rs x) × IsTrue (is_above rs s x))
    (λ x c e p. let w = passing-arrives-later rs dag keys x c e in (w.2, above-transitive rs dag s x c p.1 w.3))
    (length rs) s (known, above-reflexive rs s)

-- ===== No news

-- each writer of the key at x is at or above s
abbrev HasNoNews : List Record → List ℕ → StateId → StateId → Type 0
HasNoNews rs k s x = (w : StateId) → IsTrue (is_writer rs k x w) → IsTrue (is_above rs w s)

-- a test that is true of none of these keys is true of no such key
no-key : (test : List ℕ → Bool) (keys : List (List ℕ)) (k : List ℕ) → IsFalse (list_any test keys) → IsTrue (is_key_among k keys) → IsFalse (test k)
no-key test [] k none m = not-both true refl (sym m)
no-key test (l ∷ keys) k none m =
    let parts = or_parts (test l) (list_any test keys) none in
    elim (or_cases (bytes_eq k l) (is_key_among k keys) m) [
      | inl e ↦ subst (λ z. IsFalse (test z)) (sym ((bytes_eq-Decides k l).0 e)) parts.0
      | inr n ↦ no-key test keys k parts.1 n
    ]

-- a child that passes brings no news of a guarded key
passes-without-news : (rs : List Record) → IsDag rs → (keys : List (List ℕ)) (x c : StateId) (k : List ℕ) → IsTrue (is_key_among k keys) →
    first_passing rs keys x ≡ Some c → HasNoNews rs k x c
passes-without-news rs dag keys x c k among e w writer =
    let parts = and_parts (writes_key rs k w) (is_above rs w c) writer in
    let passed = not-true (list_any (is_news rs x c) keys) (found-passes (passes rs keys x) (children rs x) c e).1 in
    let known = ancestors-are-known rs dag w c (passing-arrives-later rs dag keys x c e).2 parts.1 in
    let none = any-false-at (λ v. writes_key rs k v && is_between rs x c v) (states rs) w (no-key (is_news rs x c) keys k passed among) known in
    elim (cases_Bool (is_above rs w x)) [
      | inl t ↦ t
      | inr f ↦
          not-both (writes_key rs k w && is_between rs x c w)
          (and_from (writes_key rs k w) (is_between rs x c w) parts.0
          (and_from (is_above rs w c) (not (is_above rs w x)) parts.1 (not_from_false (is_above rs w x) f))) none
    ]

pub lands-without-news : (rs : List Record) (keys : List (List ℕ)) (s : StateId) → IsDag rs → LandsWithoutNews rs keys s
lands-without-news rs keys s dag k w among =
    kept-by-steps rs keys (HasNoNews rs k s)
    (λ x c e so_far v writer. so_far v (and_from (writes_key rs k v) (is_above rs v x) (and_parts (writes_key rs k v) (is_above rs v c) writer).0
    (passes-without-news rs dag keys x c k among e v writer)))
    (length rs) s (λ v writer. (and_parts (writes_key rs k v) (is_above rs v s) writer).1) w

-- ===== The same reads

-- a guarded key has the same writers at the landing as at the start
same-writers : (rs : List Record) (keys : List (List ℕ)) (s : StateId) → IsDag rs → IsTrue (is_known rs s) → (k : List ℕ) → IsTrue (is_key_among k keys) →
    (w : StateId) → is_writer rs k (landing rs keys s) w ≡ is_writer rs k s w
same-writers rs keys s dag known k among w =
    let there = landing rs keys s in
    same_test (is_writer rs k there w) (is_writer rs k s w)
    (λ t. and_from (writes_key rs k w) (is_above rs w s) (and_parts (writes_key rs k w) (is_above rs w there) t).0
    (lands-without-news rs keys s dag k w among t))
    (λ t. let parts = and_parts (writes_key rs k w) (is_above rs w s) t in
    and_from (writes_key rs k w) (is_above rs w there) parts.0 (above-transitive rs dag w s there parts.1 (lands-below rs keys s dag known).1))

pub lands-with-same-reads : (rs : List Record) (keys : List (List ℕ)) (s : StateId) → IsDag rs → IsTrue (is_known rs s) → LandsWithSameReads rs keys s
lands-with-same-reads rs keys s dag known k among =
    ap (λ ws. option_and_then (version_at rs k) (lowest rs ws))
    (filter_agree (is_writer rs k (landing rs keys s)) (is_writer rs k s) (same-writers rs keys s dag known k among) (states rs))

-- ===== True commits

-- a key is one of these and those where it is one of either
key-of-either : (k : List ℕ) (ks ls : List (List ℕ)) → is_key_among k (ks ++ ls) ≡ (is_key_among k ks || is_key_among k ls)
key-of-either k ks ls = list_any-append (bytes_eq k) ks ls

pub true-commit : (rs : List Record) (flags : EndFlags) (reads written : List (List ℕ)) (s : StateId) → IsDag rs → IsTrue (is_known rs s) →
    IsTrueCommit rs flags reads written s
true-commit rs flags reads written s dag known = record {
  same_reads = λ ser k read. lands-with-same-reads rs (guarded flags reads written) s dag known k (guards_reads ser k read);
  no_writes = λ si k w write. lands-without-news rs (guarded flags reads written) s dag k w (guards_written si k write);
}
  where
    guards_reads : IsTrue (is_ser flags) → (k : List ℕ) → IsTrue (is_key_among k reads) → IsTrue (is_key_among k (guarded flags reads written))
    guards_reads ser k read = key-of-either k (if is_ser flags then reads else []) (if is_si flags then written else [])
        ∙ or_left (is_key_among k (if is_ser flags then reads else [])) (is_key_among k (if is_si flags then written else []))
        (subst (λ ks. IsTrue (is_key_among k ks)) (sym (cond-true (is_ser flags) reads [] ser)) read)

    guards_written : IsTrue (is_si flags) → (k : List ℕ) → IsTrue (is_key_among k written) → IsTrue (is_key_among k (guarded flags reads written))
    guards_written si k write = key-of-either k (if is_ser flags then reads else []) (if is_si flags then written else [])
        ∙ or_right (is_key_among k (if is_ser flags then reads else [])) (is_key_among k (if is_si flags then written else []))
        (subst (λ ks. IsTrue (is_key_among k ks)) (sym (cond-true (is_si flags) written [] si)) write)
