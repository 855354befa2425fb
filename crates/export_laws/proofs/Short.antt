-- A short export has few entries: at most 256 keys have one byte, and all other entries take five bytes or more.
use Rattle.std.proofs.Common.{◌≡◌, ℕ, ◌+◌, ◌*◌, ◌≤◌, ◌<◌, Bool, true, false, cond, List, [], ◌∷◌, length, flat_map, IsTrue, bytes_eq, inl, inr, refl, ap, ◌∙◌}
use Rattle.std.proofs.Common.{arith}
use Rattle.std.specs.Prelude.{◌==◌, nat_le, nat_lt}
use Rattle.std.specs.List.{list_all}
use Rattle.std.specs.Ordering.{is_lt, ordering_then}
use Rattle.std.specs.declared.cmp.Ordering.TheVariants.{Less, Equal, Greater}
use Rattle.std.proofs.lemmas.Bool.{cases_Bool, and_parts, or_left, or_right, both_ways, cond-true, cond-false, ltb-true, leb-true, eqb-false, ne_eqb}
use Rattle.std.proofs.lemmas.List.{length-append}
use Rattle.tardis_base.specs.Keys.{is_key_before, are_ascending_keys, is_key_among}
use Rattle.tardis_base.specs.Valid.{is_within, is_key, is_value}
use Rattle.tardis_base.specs.Bytes.{are_bytes}
use Rattle.tardis_base.proofs.KeyOrder.{ascending-parts, bytes_eq-itself}
use Rattle.wire_item.specs.Spellings.{u16_spelling, u64_spelling, key_spelling, value_spelling}
use Rattle.branch_export.specs.Exports.{Entry, is_entry, entry_spelling}
use Rattle.export_laws.specs.Laws.{ShortExportsAreScripted}
use Rattle.export_laws.proofs.Runs.{keys}
use Rattle.export_laws.proofs.Contents.{before-all}
use Rattle.export_laws.proofs.Laws.{entries-parts}

-- ===== Keys of one byte

abbrev is_one : Entry → ℕ
is_one e = cond (length e.0 == 1) 1 0

-- how many entries have such a key
abbrev ones : List Entry → ℕ
ones [] = 0
ones (e ∷ es) = is_one e + ones es

no-less : (same : Bool) → is_lt (ordering_then (cond same Equal Greater) Equal) ≡ false
no-less true = refl
no-less false = refl

-- of two keys of one byte the lesser byte is before
byte-before : (b c : ℕ) → IsTrue (is_key_before (b ∷ []) (c ∷ [])) → b < c
byte-before b c before = elim (cases_Bool (nat_lt b c)) [
  | inl t ↦ ltb-true b c t
  | inr f ↦
      absurd (both_ways (is_key_before (b ∷ []) (c ∷ []))
      (ap (λ o. is_lt (ordering_then o Equal)) (cond-false (nat_lt b c) Less (cond (b == c) Equal Greater) f) ∙ no-less (b == c)) before)
]

-- ascending keys of one byte, none of them less than this one, are at most as many as there are bytes from it on
few-ones : (es : List Entry) (least : ℕ) → least ≤ 256 → IsTrue (list_all is_entry es) → IsTrue (are_ascending_keys (keys es)) →
    ((c : ℕ) → IsTrue (is_key_among (c ∷ []) (keys es)) → least ≤ c) → ones es + least ≤ 256
few-ones [] least within each up from = omega arith
few-ones (([], v) ∷ es) least within each up from =
    let parts = and_parts (is_entry ([], v)) (list_all is_entry es) each in
    let rest =
    few-ones es least within parts.1 (ascending-parts [] (keys es) up).1
    (λ c among. from c (or_right (bytes_eq (c ∷ []) []) (is_key_among (c ∷ []) (keys es)) among)) in
    omega arith
few-ones ((b ∷ [], v) ∷ es) least within each up from =
    let parts = and_parts (is_entry (b ∷ [], v)) (list_all is_entry es) each in
    let key = and_parts (is_key (b ∷ [])) (is_value v) parts.0 in
    let bytes = and_parts (is_within 1 128 (length (b ∷ []))) (are_bytes (b ∷ [])) key.0 in
    let below : b < 256 = ltb-true b 256 (and_parts (nat_lt b 256) true bytes.1).0 in
    let reached = from b (or_left (bytes_eq (b ∷ []) (b ∷ [])) (is_key_among (b ∷ []) (keys es)) (bytes_eq-itself (b ∷ []))) in
    let rest =
    few-ones es (b + 1) (omega arith) parts.1 (ascending-parts (b ∷ []) (keys es) up).1
    (λ c among. let later = byte-before b c (before-all (b ∷ []) (c ∷ []) (keys es) up among) in omega arith) in
    omega arith
few-ones ((b ∷ d ∷ k, v) ∷ es) least within each up from =
    let parts = and_parts (is_entry (b ∷ d ∷ k, v)) (list_all is_entry es) each in
    let long = length (b ∷ d ∷ k) in
    let isnt : is_one (b ∷ d ∷ k, v) ≡ 0 = cond-false (long == 1) 1 0 (ne_eqb long 1 (λ e. omega arith)) in
    let rest =
    few-ones es least within parts.1 (ascending-parts (b ∷ d ∷ k) (keys es) up).1
    (λ c among. from c (or_right (bytes_eq (c ∷ []) (b ∷ d ∷ k)) (is_key_among (c ∷ []) (keys es)) among)) in
    omega arith

-- ===== Bytes

-- an entry takes five bytes or more, or four where its key has one byte
entry-takes : (e : Entry) → IsTrue (is_entry e) → 5 ≤ length (entry_spelling e) + is_one e
entry-takes e h =
    let key = and_parts (is_key e.0) (is_value e.1) h in
    let bytes = and_parts (is_within 1 128 (length e.0)) (are_bytes e.0) key.0 in
    let some = leb-true 1 (length e.0) (and_parts (nat_le 1 (length e.0)) (nat_le (length e.0) 128) bytes.0).0 in
    let both = length-append (key_spelling e.0) (value_spelling e.1) in
    let value = length-append (u16_spelling (length e.1)) e.1 in
    elim (cases_Bool (length e.0 == 1)) [
      | inl t ↦ let one : is_one e ≡ 1 = cond-true (length e.0 == 1) 1 0 t in omega arith
      | inr f ↦
          let more = eqb-false (length e.0) 1 f in
          let two : 2 ≤ length e.0 = longer (length e.0) some more in
          let none : is_one e ≡ 0 = cond-false (length e.0 == 1) 1 0 f in
          omega arith
    ]
  where
    longer : (n : ℕ) → 1 ≤ n → (n ≡ 1 → ⊥) → 2 ≤ n
    longer ℕ.zero some more = absurd (omega arith)
    longer (ℕ.suc ℕ.zero) some more = absurd (more refl)
    longer (ℕ.suc (ℕ.suc n)) some more = omega arith

entries-take : (es : List Entry) → IsTrue (list_all is_entry es) → 5 * length es ≤ length (flat_map entry_spelling es) + ones es
entries-take [] each = omega arith
entries-take (e ∷ es) each =
    let parts = and_parts (is_entry e) (list_all is_entry es) each in
    let first = entry-takes e parts.0 in
    let rest = entries-take es parts.1 in
    let joined = length-append (entry_spelling e) (flat_map entry_spelling es) in
    omega arith

pub short-is-scripted : ShortExportsAreScripted
short-is-scripted bytes es is_export short =
    let parts = entries-parts es is_export.0 in
    let few = few-ones es 0 (omega arith) parts.each parts.ascend (λ c among. omega arith) in
    let take = entries-take es parts.each in
    let whole = ap length is_export.1 in
    let joined = length-append (u64_spelling (length es)) (flat_map entry_spelling es) in
    omega arith
