-- Numbers, ids and byte lists are read as they are written.
use Rattle.std.proofs.Common.{◌≡◌, ℕ, zero, suc, ◌/◌, ◌%◌, ◌^◌, ◌<◌, Bool, true, false, not, ◌==◌, ◌&&◌, IsTrue, inl, inr, List, [], ◌∷◌, ◌++◌, slice_index}
use Rattle.std.proofs.Common.{nat_lt, Option, Some, None, Result, Ok, Err, ap, sym, ◌∙◌, subst, refl, arith, eqb-true, ltb-true, append_assoc, if◌then◌else◌}
use Rattle.std.proofs.Common.{unwrap_or}
use Rattle.std.proofs.lemmas.Bool.{and_parts, and_from, not-true, cases_lt}
use Rattle.std.proofs.lemmas.Fmt.{decimal_is_IsNumeral}
use Rattle.std.proofs.lemmas.Slice.Eq.{bytes_eq-Decides}
use Rattle.std.proofs.lemmas.Str.Parse.{digit_from_value}
use Rattle.std.specs.Bool.{then_some}
use Rattle.std.specs.List.{list_all}
use Rattle.std.specs.Prelude.{bytes_eq, option_and_then}
use Rattle.std.specs.Str.Parse.{AllDigits, digits_value}
use Rattle.hex.specs.Hex.{decode_of, encode_with, lower_digits}
use Rattle.hex.specs.declared.error.FromHexError.{FromHexError}
use Rattle.hex.proofs.HexLemmas.{decode_of-encode_lower, decode_of-ok}
use Rattle.tardis_base.specs.Valid.{is_u16, is_u32, is_u64, is_within, are_bytes, is_id}
use Rattle.tardis_base.proofs.TestParts.{first, within}
use Rattle.wire_item.specs.Fronts.{Front, whole}
use Rattle.wire_item.proofs.Laws.{spelled-whole, whole-spelled}
use Rattle.wire_item.proofs.Ways.{Reads, reads-both, reads-made, reads-only_if}
use Rattle.text_words.specs.Words.{Word, number_word, id_word, hex_word, are_printed, is_plain, byte_word}
use Rattle.text_words.specs.Texts.{parsed, number_of, number_until, id_until, bytes_from, hex_bytes, unless_plain, word_bytes}
use Rattle.text_words.specs.Laws.{AreRead, NumberWordsAreRead, IdWordsAreRead, HexWordsAreRead, ByteWordsAreRead}
use Rattle.text_words.proofs.Bytes.{lacks, all-within, lacks-below, printed-lacks-space, within-bytes, bytes-below, below-bytes}
use Rattle.text_words.proofs.Untils.{reads-parsed}

then_some-source : {A : Type 0} (t : Bool) (x a : A) → then_some t x ≡ Some a → (t ≡ true) × (x ≡ a)
then_some-source true x a e = (refl, ap (λ o. unwrap_or o x) e)
then_some-source false x a e = absurd (cc)

-- ---- numbers

digits-within : (ds : List ℕ) → AllDigits 10 ds → IsTrue (list_all (λ x. is_within 48 57 x) ds)
digits-within [] d = refl
digits-within (c ∷ cs) d =
    let r = digit_from_value c d.0 in
    and_from (is_within 48 57 c) (list_all (λ x. is_within 48 57 x) cs) (within 48 57 c r.0 r.1) (digits-within cs d.1)

pub number-within : (n : ℕ) → n < 2 ^ 64 → IsTrue (list_all (λ x. is_within 48 57 x) (number_word n))
number-within n small = digits-within (number_word n) (decimal_is_IsNumeral n small).0.1

pub number-back : (limit n : ℕ) → n < 2 ^ 64 → IsTrue (nat_lt n limit) → number_of limit (number_word n) ≡ Some n
number-back limit n small h =
    let e : digits_value 10 (number_word n) ≡ n = (decimal_is_IsNumeral n small).1 in
    ap (λ m. then_some (nat_lt m limit && bytes_eq (number_word m) (number_word n)) m) e
    ∙ ap (λ t. then_some t n) (and_from (nat_lt n limit) (bytes_eq (number_word n) (number_word n)) h
    ((bytes_eq-Decides (number_word n) (number_word n)).1 refl))

pub number-only : (limit : ℕ) (w : Word) (n : ℕ) → number_of limit w ≡ Some n → IsTrue (nat_lt n limit) × (w ≡ number_word n)
number-only limit w n e =
    let m : ℕ = digits_value 10 w in
    let x = then_some-source (nat_lt m limit && bytes_eq (number_word m) w) m n e in
    let parts = and_parts (nat_lt m limit) (bytes_eq (number_word m) w) x.0 in
    let same = (bytes_eq-Decides (number_word m) w).0 parts.1 in
    (subst (λ k. IsTrue (nat_lt k limit)) x.1 parts.0, sym same ∙ ap (λ k. number_word k) x.1)

-- the limit is one of those that numbers of 64 bits have, and no digit is the byte c
pub reads-number : (limit c : ℕ) → ((n : ℕ) → IsTrue (nat_lt n limit) → n < 2 ^ 64)
    → ((ds : List ℕ) → IsTrue (list_all (λ x. is_within 48 57 x) ds) → IsTrue (lacks c ds)) → IsTrue (are_bytes (c ∷ []))
    → Reads (λ n. nat_lt n limit) (λ n. number_word n ++ c ∷ []) (number_until limit c)
reads-number limit c small clean end = reads-parsed (record {
  back = λ n h. number-back limit n (small n h) h;
  only = λ w n e. number-only limit w n e;
  clean = λ n h. clean (number_word n) (number-within n (small n h));
  bytes = λ n h. within-bytes 48 57 (omega arith) (number_word n) (number-within n (small n h));
  end = end;
})

small-16 : (n : ℕ) → IsTrue (nat_lt n (2 ^ 16)) → n < 2 ^ 64
small-16 n h = let b = ltb-true n (2 ^ 16) h in omega arith

small-32 : (n : ℕ) → IsTrue (nat_lt n (2 ^ 32)) → n < 2 ^ 64
small-32 n h = let b = ltb-true n (2 ^ 32) h in omega arith

pub reads-u16-word : Reads is_u16 (λ n. number_word n ++ 32 ∷ []) (number_until (2 ^ 16) 32)
reads-u16-word = reads-number (2 ^ 16) 32 small-16 (lacks-below 48 57 32 (omega arith)) refl

pub reads-u32-word : Reads is_u32 (λ n. number_word n ++ 32 ∷ []) (number_until (2 ^ 32) 32)
reads-u32-word = reads-number (2 ^ 32) 32 small-32 (lacks-below 48 57 32 (omega arith)) refl

pub reads-u64-word : Reads is_u64 (λ n. number_word n ++ 32 ∷ []) (number_until (2 ^ 64) 32)
reads-u64-word = reads-number (2 ^ 64) 32 (λ n h. ltb-true n (2 ^ 64) h) (lacks-below 48 57 32 (omega arith)) refl

pub number-words : NumberWordsAreRead
number-words = record {
  back = λ n h. number-back (2 ^ 64) n (ltb-true n (2 ^ 64) h) h;
  only = λ w n e. number-only (2 ^ 64) w n e;
  printed = λ n h. all-within 48 57 33 126 (omega arith) (omega arith) (number_word n) (number-within n (ltb-true n (2 ^ 64) h));
}

-- ---- ids

id-spelled : (c : ℕ) (site sequence : List ℕ) → (site ++ 46 ∷ sequence) ++ c ∷ [] ≡ (site ++ 46 ∷ []) ++ (sequence ++ c ∷ [])
id-spelled c site sequence = append_assoc site (46 ∷ sequence) (c ∷ []) ∙ sym (append_assoc site (46 ∷ []) (sequence ++ c ∷ []))

pub reads-id-until : (c : ℕ) → ((ds : List ℕ) → IsTrue (list_all (λ x. is_within 48 57 x) ds) → IsTrue (lacks c ds)) → IsTrue (are_bytes (c ∷ []))
    → Reads is_id (λ x. id_word x ++ c ∷ []) (id_until c)
reads-id-until c clean end = reads-only_if is_id is_id (λ x h. (first (is_u16 x.site && is_u32 x.sequence) _ h, h)) (λ x v t. t)
    (reads-made (λ p. record { site = p.0; sequence = p.1 }) (λ x. (x.site, x.sequence)) (λ x. is_u16 x.site && is_u32 x.sequence) (λ x. id_word x ++ c ∷ [])
    (λ x h. refl) (λ p. refl) (λ p. id-spelled c (number_word p.0) (number_word p.1))
    (reads-both (reads-number (2 ^ 16) 46 small-16 (lacks-below 48 57 46 (omega arith)) refl) (reads-number (2 ^ 32) c small-32 clean end)))

pub reads-id-word : Reads is_id (λ x. id_word x ++ 32 ∷ []) (id_until 32)
reads-id-word = reads-id-until 32 (lacks-below 48 57 32 (omega arith)) refl

pub id-words : IdWordsAreRead
id-words = record {
  back = λ x rest h. ap (id_until 32) (sym (append_assoc (id_word x) (32 ∷ []) rest)) ∙ reads-id-word.back x rest h;
  only = λ text x rest e. let h = reads-id-word.only text x rest e in (h.0, h.1 ∙ append_assoc (id_word x) (32 ∷ []) rest);
}

-- ---- hexadecimal

abbrev are_glyphs : ℕ → Bool
are_glyphs zero = true
are_glyphs (suc n) = is_within 48 102 (slice_index lower_digits n) && are_glyphs n

glyph-at : (n k : ℕ) → are_glyphs n ≡ true → k < n → IsTrue (is_within 48 102 (slice_index lower_digits k))
glyph-at zero k h lt = absurd (omega arith)
glyph-at (suc n) k h lt =
    let parts = and_parts (is_within 48 102 (slice_index lower_digits n)) (are_glyphs n) h in
    elim (cases_lt k n) [
      | inl below ↦ glyph-at n k parts.1 below
      | inr top ↦
          let e : n ≡ k = omega arith in
          subst (λ z. IsTrue (is_within 48 102 (slice_index lower_digits z))) e parts.0
    ]

glyph : (d : ℕ) → d < 16 → IsTrue (is_within 48 102 (slice_index lower_digits d))
glyph d h = glyph-at 16 d refl h

pub hex-within : (bs : List ℕ) → IsTrue (are_bytes bs) → IsTrue (list_all (λ x. is_within 48 102 x) (encode_with lower_digits bs))
unfolding encode_with
hex-within [] h = refl
hex-within (b ∷ bs) h =
    let parts = and_parts (nat_lt b 256) (are_bytes bs) h in
    let small = ltb-true b 256 parts.0 in
    let rest : Bool = list_all (λ x. is_within 48 102 x) (encode_with lower_digits bs) in
    and_from (is_within 48 102 (slice_index lower_digits (b / 16))) (is_within 48 102 (slice_index lower_digits (b % 16)) && rest)
    (glyph (b / 16) (omega arith))
    (and_from (is_within 48 102 (slice_index lower_digits (b % 16))) rest (glyph (b % 16) (omega arith)) (hex-within bs parts.1))

pub hex-back : (bs : List ℕ) → IsTrue (are_bytes bs) → hex_bytes (hex_word bs) ≡ Some bs
hex-back bs h =
    ap (bytes_from (hex_word bs)) (decode_of-encode_lower bs (bytes-below bs h))
    ∙ ap (λ t. then_some t bs) ((bytes_eq-Decides (hex_word bs) (hex_word bs)).1 refl)

pub hex-only : (w : Word) (bs : List ℕ) → hex_bytes w ≡ Some bs → IsTrue (are_bytes bs) × (w ≡ hex_word bs)
hex-only w bs e = go (decode_of w) refl e
  where
    go : (r : Result (List ℕ) FromHexError) → decode_of w ≡ r → bytes_from w r ≡ Some bs → IsTrue (are_bytes bs) × (w ≡ hex_word bs)
    go (Ok read) is e =
        let x = then_some-source (bytes_eq (hex_word read) w) read bs e in
        let same = (bytes_eq-Decides (hex_word read) w).0 x.0 in
        subst (λ z. IsTrue (are_bytes z) × (w ≡ hex_word z)) x.1 (below-bytes read (decode_of-ok w read is).3, sym same)
    go (Err fault) is e = absurd (cc)

pub hex-words : HexWordsAreRead
hex-words = record {
  back = hex-back;
  only = hex-only;
  printed = λ bs h. all-within 48 102 33 126 (omega arith) (omega arith) (hex_word bs) (hex-within bs h);
}

-- ---- byte lists

plain-back : (bs : List ℕ) → is_plain bs ≡ true → word_bytes bs ≡ Some bs
plain-back [] h = absurd (cc)
plain-back (b ∷ bs) h =
    let parts = and_parts (not (b == 35)) (are_printed (b ∷ bs)) h in
    ap (λ t. if t then unless_plain (hex_bytes bs) else then_some (are_printed (b ∷ bs)) (b ∷ bs)) (not-true (b == 35) parts.0)
    ∙ ap (λ t. then_some t (b ∷ bs)) parts.1

plain-printed : (bs : List ℕ) → is_plain bs ≡ true → IsTrue (are_printed bs)
plain-printed [] h = refl
plain-printed (b ∷ bs) h = (and_parts (not (b == 35)) (are_printed (b ∷ bs)) h).1

pub byte-back : (bs : List ℕ) → IsTrue (are_bytes bs) → word_bytes (byte_word bs) ≡ Some bs
byte-back bs h = go (is_plain bs) refl
  where
    go : (t : Bool) → is_plain bs ≡ t → word_bytes (if t then bs else 35 ∷ hex_word bs) ≡ Some bs
    go true is = plain-back bs is
    go false is = ap unless_plain (hex-back bs h) ∙ ap (λ t. then_some (not t) bs) is

unless_plain-source : (o : Option (List ℕ)) (bs : List ℕ) → unless_plain o ≡ Some bs → (o ≡ Some bs) × (is_plain bs ≡ false)
unless_plain-source None bs e = absurd (cc)
unless_plain-source (Some read) bs e =
    let x = then_some-source (not (is_plain read)) read bs e in
    (ap Some x.1, ap is_plain (sym x.1) ∙ not-true (is_plain read) x.0)

pub byte-only : (w : Word) (bs : List ℕ) → word_bytes w ≡ Some bs → IsTrue (are_bytes bs) × (w ≡ byte_word bs)
byte-only [] bs e = absurd (cc)
byte-only (c ∷ w) bs e = go (c == 35) refl e
  where
    go : (t : Bool) → (c == 35) ≡ t → (if t then unless_plain (hex_bytes w) else then_some (are_printed (c ∷ w)) (c ∷ w)) ≡ Some bs → IsTrue (are_bytes bs)
        × (c ∷ w ≡ byte_word bs)
    go true is e =
        let x = unless_plain-source (hex_bytes w) bs e in
        let y = hex-only w bs x.0 in
        (y.0, ap (λ z. z ∷ w) (eqb-true c 35 is) ∙ ap (λ z. 35 ∷ z) y.1 ∙ ap (λ t. if t then bs else 35 ∷ hex_word bs) (sym x.1))
    go false is e =
        let x = then_some-source (are_printed (c ∷ w)) (c ∷ w) bs e in
        let plain : is_plain (c ∷ w) ≡ true = and_from (not (c == 35)) (are_printed (c ∷ w)) (ap not is) x.0 in
        let whole : c ∷ w ≡ byte_word (c ∷ w) = ap (λ t. if t then c ∷ w else 35 ∷ hex_word (c ∷ w)) (sym plain) in
        (subst (λ z. IsTrue (are_bytes z)) x.1 (within-bytes 33 126 (omega arith) (c ∷ w) x.0), whole ∙ ap byte_word x.1)

pub byte-printed : (bs : List ℕ) → IsTrue (are_bytes bs) → IsTrue (are_printed (byte_word bs))
byte-printed bs h = go (is_plain bs) refl
  where
    go : (t : Bool) → is_plain bs ≡ t → IsTrue (are_printed (if t then bs else 35 ∷ hex_word bs))
    go true is = plain-printed bs is
    go false is = all-within 48 102 33 126 (omega arith) (omega arith) (hex_word bs) (hex-within bs h)

pub byte-words : ByteWordsAreRead
byte-words = record { back = byte-back; only = byte-only; printed = byte-printed }

-- ---- as words behind which a space stands

pub reads-word : {A : Type 0} {valid : A → Bool} {word : A → Word} {parse : Word → Option A} → AreRead valid word parse
    → Reads valid (λ a. word a ++ 32 ∷ []) (parsed parse 32)
reads-word {A} {valid} {word} {parse} r = reads-parsed (record {
  back = r.back;
  only = r.only;
  clean = λ a h. printed-lacks-space (word a) (r.printed a h);
  bytes = λ a h. within-bytes 33 126 (omega arith) (word a) (r.printed a h);
  end = refl;
})

-- things whose spelling is written in hexadecimal
pub reads-spelled : {A : Type 0} {valid : A → Bool} {spelling : A → List ℕ} {front : Front A} → Reads valid spelling front
    → Reads valid (λ a. hex_word (spelling a) ++ 32 ∷ []) (parsed (λ word. option_and_then (whole front) (hex_bytes word)) 32)
reads-spelled {A} {valid} {spelling} {front} r = reads-parsed (record {
  back = λ a h. ap (option_and_then (whole front)) (hex-back (spelling a) (r.bytes a h)) ∙ spelled-whole r (spelling a) a (h, refl);
  only = λ w a e. go w (hex_bytes w) refl a e;
  clean = λ a h. printed-lacks-space (hex_word (spelling a)) (hex-words.printed (spelling a) (r.bytes a h));
  bytes = λ a h. within-bytes 33 126 (omega arith) (hex_word (spelling a)) (hex-words.printed (spelling a) (r.bytes a h));
  end = refl;
})
  where
    go : (w : Word) (o : Option (List ℕ)) → hex_bytes w ≡ o → (a : A) → option_and_then (whole front) o ≡ Some a → IsTrue (valid a)
        × (w ≡ hex_word (spelling a))
    go w None is a e = absurd (cc)
    go w (Some bs) is a e =
        let x = whole-spelled r bs a e in
        let y = hex-only w bs is in
        (x.0, y.1 ∙ ap (λ z. hex_word z) x.1)
