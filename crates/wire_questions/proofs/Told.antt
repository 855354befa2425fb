-- What a sound site tells is valid.
use Rattle.std.proofs.Common.{◌≡◌, ℕ, ◌<◌, ◌≤◌, ◌-◌, ◌^◌, true, ◌&&◌, ◌||◌, ◌==◌, cond, IsTrue, IsFalse, List, [], ◌∷◌, length, map, filter, filter_map, take, min}
use Rattle.std.proofs.Common.{nat_le, Option, Some, None, is_some, refl, sym, ◌∙◌, ap, subst, inl, inr, arith, lt-ltb, le-leb, leb-true, eq-eqb}
use Rattle.std.proofs.lemmas.Bool.{and_parts, and_from, or_right, cases_Bool, cond-true, cond-false}
use Rattle.std.proofs.lemmas.List.{length-take}
use Rattle.std.specs.Prelude.{option_map}
use Rattle.std.specs.List.{list_all, cons_option}
use Rattle.std.specs.Option.{option_and_then}
use Rattle.tardis_base.specs.declared.ids.StateId.{StateId}
use Rattle.tardis_base.specs.declared.records.Write.{Write}
use Rattle.tardis_base.specs.declared.records.Write.TheVariants.{Put, Delete}
use Rattle.tardis_base.specs.declared.records.Record.{Record}
use Rattle.tardis_base.specs.Bytes.{value_of}
use Rattle.tardis_base.specs.Keys.{is_key_before, are_ascending_keys}
use Rattle.tardis_base.specs.Valid.{is_u32, is_id, is_key, is_value, is_write}
use Rattle.tardis_base.proofs.TestParts.{first, second}
use Rattle.wire_talk.specs.Valid.{is_reply, is_first_of}
use Rattle.plain_dag.specs.Writers.{read}
use Rattle.plain_dag.specs.Conflicts.{written_keys}
use Rattle.plain_dag.proofs.Keys.{written-keys-ascend}
use Rattle.plain_site.specs.Answers.{found}
use Rattle.plain_site.proofs.RepliesLists.{all-filter, all-take}
use Rattle.plain_site.proofs.RepliesHistory.{is_stored, written-are-keys, read-is-reply}
use Rattle.plain_questions.specs.declared.questions.Entry.{Entry}
use Rattle.plain_questions.specs.Contents.{value_at, has_value, entry_at, is_asked, keys_behind, entries_behind}
use Rattle.plain_questions.specs.Answer.{entry_length, entries_length, fitting, page_of_keys, page_of_entries, number_of}
use Rattle.plain_questions.specs.Valid.{is_found, is_entry, are_page_entries, is_some_of}
use Rattle.wire_questions.proofs.Lengths.{Fits, answer-fits, entry-most, entries-number}
use Rattle.wire_questions.proofs.Ordered.{keys-taken, keys-chosen}

-- ===== Numbers

-- a number that is told fits its bits
pub total-fits : {A : Type 0} (xs : List A) → IsTrue (is_u32 (number_of xs))
total-fits xs = let few : number_of xs < 2 ^ 32 = omega arith in lt-ltb (number_of xs) (2 ^ 32) few

-- the first 256 of some are as many as are told
pub first-are : {A : Type 0} (xs : List A) (number : ℕ) → number ≡ length (take 256 xs) → IsTrue (is_first_of (number_of xs) number)
first-are xs number e = eq-eqb number (min (number_of xs) 256) (omega (arith, e, length-take 256 xs))

-- ===== Reads

shown-valid : (x : StateId) (w : Write) → IsTrue (is_reply (found (Some (x, w)))) → IsTrue (is_found (Some (x, w)))
shown-valid x (Put value) h = h
shown-valid x Delete h = and_from (is_id x) true h refl

found-valid : (o : Option (StateId × Write)) → IsTrue (is_reply (found o)) → IsTrue (is_found o)
found-valid None h = refl
found-valid (Some v) h = shown-valid v.0 v.1 h

pub read-valid : (rs : List Record) (k : List ℕ) (x : StateId) → IsTrue (list_all is_stored rs) → IsTrue (is_found (read rs k x))
read-valid rs k x stored = found-valid (read rs k x) (read-is-reply rs k x stored)

value-valid : (rs : List Record) (x : StateId) (k v : List ℕ) → IsTrue (list_all is_stored rs) → value_at rs x k ≡ Some v → IsTrue (is_value v)
value-valid rs x k v stored e = go (read rs k x) (read-valid rs k x stored) e
  where
    same : (u : List ℕ) → Some u ≡ Some v → u ≡ v
    same u e = cc

    none : ◌≡◌ {A = Option (List ℕ)} None (Some v) → ⊥
    none e = cc

    put : (x : StateId) (w : Write) → IsTrue (is_id x && is_write w) → value_of w ≡ Some v → IsTrue (is_value v)
    put x (Put u) h e = subst (λ z. IsTrue (is_value z)) (same u e) (second (is_id x) (is_value u) h)
    put x Delete h e = absurd (none e)

    go : (o : Option (StateId × Write)) → IsTrue (is_found o) → option_and_then (λ (found : StateId × Write). value_of found.1) o ≡ Some v → IsTrue (is_value v)
    go None h e = absurd (none e)
    go (Some w) h e = put w.0 w.1 h e

-- ===== Pages

behind-are-keys : (rs : List Record) (x : StateId) (prefix after : List ℕ) → IsTrue (list_all is_stored rs) → IsTrue (list_all is_key (keys_behind rs x prefix after))
behind-are-keys rs x prefix after stored =
    all-filter is_key (λ k. is_asked prefix after k && has_value rs x k) (written_keys rs) (written-are-keys rs stored)

behind-ascend : (rs : List Record) (x : StateId) (prefix after : List ℕ) → IsTrue (are_ascending_keys (keys_behind rs x prefix after))
behind-ascend rs x prefix after = keys-chosen (λ k. is_asked prefix after k && has_value rs x k) (written_keys rs) (written-keys-ascend rs)

pub keys-fit : (ks : List (List ℕ)) → IsTrue (list_all is_key ks) → IsTrue (are_ascending_keys ks) → Fits (page_of_keys ks)
keys-fit ks h up =
    let total : ℕ = number_of ks in
    let page : List (List ℕ) = take 256 ks in
    answer-fits (page_of_keys ks) tt
    (and_from (is_u32 total && list_all is_key page && is_first_of total (length page)) (are_ascending_keys page)
    (and_from (is_u32 total && list_all is_key page) (is_first_of total (length page))
    (and_from (is_u32 total) (list_all is_key page) (total-fits ks) (all-take is_key 256 ks h)) (first-are ks (length page) refl))
    (keys-taken 256 ks up))

pub page-fits : (rs : List Record) (x : StateId) (prefix after : List ℕ) → IsTrue (list_all is_stored rs) → Fits (page_of_keys (keys_behind rs x prefix after))
page-fits rs x prefix after stored =
    keys-fit (keys_behind rs x prefix after) (behind-are-keys rs x prefix after stored) (behind-ascend rs x prefix after)

-- ===== Entries

entries-valid : (rs : List Record) (x : StateId) (ks : List (List ℕ)) → IsTrue (list_all is_stored rs) → IsTrue (list_all is_key ks) →
    IsTrue (list_all is_entry (filter_map (entry_at rs x) ks))
entries-valid rs x [] stored h = refl
entries-valid rs x (k ∷ ks) stored h = go (value_at rs x k) refl (entries-valid rs x ks stored (second (is_key k) (list_all is_key ks) h))
  where
    go : (o : Option (List ℕ)) → value_at rs x k ≡ o → IsTrue (list_all is_entry (filter_map (entry_at rs x) ks)) →
        IsTrue (list_all is_entry (cons_option (option_map (λ v. record { key = k; value = v }) o) (filter_map (entry_at rs x) ks)))
    go None e later = later
    go (Some v) e later =
        and_from (is_key k && is_value v) (list_all is_entry (filter_map (entry_at rs x) ks))
        (and_from (is_key k) (is_value v) (first (is_key k) (list_all is_key ks) h) (value-valid rs x k v stored e)) later

abbrev key_of_entry : Entry → List ℕ
key_of_entry e = e.key

-- the entries are of those of the keys that have a value
entries-of-keys : (rs : List Record) (x : StateId) (ks : List (List ℕ)) → map key_of_entry (filter_map (entry_at rs x) ks) ≡ filter (has_value rs x) ks
entries-of-keys rs x [] = refl
entries-of-keys rs x (k ∷ ks) =
    go (value_at rs x k) ∙ ap (λ (l : List (List ℕ)). cond (has_value rs x k) (k ∷ l) l) (entries-of-keys rs x ks)
  where
    go : (o : Option (List ℕ)) → map key_of_entry (cons_option (option_map (λ v. record { key = k; value = v }) o) (filter_map (entry_at rs x) ks))
        ≡ cond (is_some o) (k ∷ map key_of_entry (filter_map (entry_at rs x) ks)) (map key_of_entry (filter_map (entry_at rs x) ks))
    go None = refl
    go (Some v) = refl

with-first : (room : ℕ) (e : Entry) (es : List Entry) → IsTrue (nat_le (entry_length e) room) →
    fitting room (e ∷ es) ≡ e ∷ fitting (room - entry_length e) es
with-first room e es t = cond-true (nat_le (entry_length e) room) (e ∷ fitting (room - entry_length e) es) [] t

without-first : (room : ℕ) (e : Entry) (es : List Entry) → IsFalse (nat_le (entry_length e) room) → fitting room (e ∷ es) ≡ []
without-first room e es f = cond-false (nat_le (entry_length e) room) (e ∷ fitting (room - entry_length e) es) [] f

fitting-valid : (room : ℕ) (es : List Entry) → IsTrue (list_all is_entry es) → IsTrue (list_all is_entry (fitting room es))
fitting-valid room [] h = refl
fitting-valid room (e ∷ es) h =
    let parts = and_parts (is_entry e) (list_all is_entry es) h in
    elim (cases_Bool (nat_le (entry_length e) room)) [
      | inl t ↦
          subst (λ l. IsTrue (list_all is_entry l)) (sym (with-first room e es t))
          (and_from (is_entry e) (list_all is_entry (fitting (room - entry_length e) es)) parts.0 (fitting-valid (room - entry_length e) es parts.1))
      | inr f ↦ subst (λ l. IsTrue (list_all is_entry l)) (sym (without-first room e es f)) refl
    ]

fitting-length : (room : ℕ) (es : List Entry) → entries_length (fitting room es) ≤ room
fitting-length room [] = omega arith
fitting-length room (e ∷ es) = elim (cases_Bool (nat_le (entry_length e) room)) [
  | inl t ↦
      let same = ap entries_length (with-first room e es t) in
      let l = leb-true (entry_length e) room t in
      let later = fitting-length (room - entry_length e) es in
      omega (arith, same, l, later)
  | inr f ↦ let same = ap entries_length (without-first room e es f) in omega (arith, same)
]

fitting-ascends : (k : List ℕ) (room : ℕ) (es : List Entry) → IsTrue (are_ascending_keys (k ∷ map key_of_entry es)) →
    IsTrue (are_ascending_keys (k ∷ map key_of_entry (fitting room es)))
fitting-ascends k room [] h = refl
fitting-ascends k room (e ∷ es) h =
    let parts = and_parts (is_key_before k e.key) (are_ascending_keys (e.key ∷ map key_of_entry es)) h in
    elim (cases_Bool (nat_le (entry_length e) room)) [
      | inl t ↦
          subst (λ (l : List Entry). IsTrue (are_ascending_keys (k ∷ map key_of_entry l))) (sym (with-first room e es t))
          (and_from (is_key_before k e.key) (are_ascending_keys (e.key ∷ map key_of_entry (fitting (room - entry_length e) es))) parts.0
          (fitting-ascends e.key (room - entry_length e) es parts.1))
      | inr f ↦ subst (λ (l : List Entry). IsTrue (are_ascending_keys (k ∷ map key_of_entry l))) (sym (without-first room e es f)) refl
    ]

fitting-number : (room : ℕ) (es : List Entry) → length (fitting room es) ≤ length es
fitting-number room [] = omega arith
fitting-number room (e ∷ es) = elim (cases_Bool (nat_le (entry_length e) room)) [
  | inl t ↦ let same = ap length (with-first room e es t) in omega (arith, same, fitting-number (room - entry_length e) es)
  | inr f ↦ let same = ap length (without-first room e es f) in omega (arith, same)
]

pub entries-fit : (es : List Entry) → IsTrue (list_all is_entry es) → IsTrue (are_ascending_keys (map key_of_entry es)) → Fits (page_of_entries es)
entries-fit [] h up = answer-fits (page_of_entries []) tt refl
entries-fit (e ∷ es) h up =
    let parts = and_parts (is_entry e) (list_all is_entry es) h in
    let total : ℕ = number_of (e ∷ es) in
    let later : List Entry = fitting (65536 - entry_length e) es in
    let page : List Entry = e ∷ later in
    let sized : entries_length page ≤ 65536 = omega (arith, entry-most e parts.0, fitting-length (65536 - entry_length e) es) in
    let number : length page ≤ total = omega (arith, sized, entries-number page, fitting-number (65536 - entry_length e) es) in
    answer-fits (page_of_entries (e ∷ es)) tt
    (and_from (is_u32 total && are_page_entries page) (is_some_of total (length page))
    (and_from (is_u32 total) (are_page_entries page) (total-fits (e ∷ es))
    (and_from (list_all is_entry page && are_ascending_keys (map key_of_entry page)) (nat_le (entries_length page) 65536)
    (and_from (list_all is_entry page) (are_ascending_keys (map key_of_entry page))
    (and_from (is_entry e) (list_all is_entry later) parts.0 (fitting-valid (65536 - entry_length e) es parts.1))
    (fitting-ascends e.key (65536 - entry_length e) es up)) (le-leb (entries_length page) 65536 sized)))
    (and_from (nat_le (length page) total) (total == 0 || nat_le 1 (length page)) (le-leb (length page) total number)
    (or_right (total == 0) (nat_le 1 (length page)) (le-leb 1 (length page) (omega arith)))))

pub entries-page-fits : (rs : List Record) (x : StateId) (prefix after : List ℕ) → IsTrue (list_all is_stored rs) →
    Fits (page_of_entries (entries_behind rs x prefix after))
entries-page-fits rs x prefix after stored =
    let ks = keys_behind rs x prefix after in
    entries-fit (entries_behind rs x prefix after) (entries-valid rs x ks stored (behind-are-keys rs x prefix after stored))
    (subst (λ l. IsTrue (are_ascending_keys l)) (sym (entries-of-keys rs x ks)) (keys-chosen (has_value rs x) ks (behind-ascend rs x prefix after)))
