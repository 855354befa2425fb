-- The lines of how auto steps end.
use Rattle.std.proofs.Common.{◌≡◌, ℕ, ◌+◌, ◌^◌, ◌≤◌, ◌<◌, IsTrue, List, [], ◌++◌, length, Option, Some, None, nat_le, ap, ◌∙◌, arith, le-leb, leb-true}
use Rattle.std.proofs.Common.{length-append, codes}
use Rattle.std.proofs.lemmas.Bool.{and_parts}
use Rattle.std.proofs.lemmas.Fmt.{length-decimal-le}
use Rattle.std.specs.Bool.{then_some}
use Rattle.tardis_base.specs.declared.replies.Refusal.TheVariants.{OpenConflict}
use Rattle.tardis_base.specs.declared.replies.Reply.TheVariants.{Refused as RefusedWith}
use Rattle.tardis_base.specs.Sizes.{longest_frame}
use Rattle.tardis_base.specs.Valid.{is_within, are_bytes, is_key}
use Rattle.wire_talk.specs.Spellings.{reply_spelling}
use Rattle.text_words.specs.Words.{number_word, byte_word}
use Rattle.shell_text.specs.Laws.{ReplyLinesFit}
use Rattle.wire_item.proofs.Fronts.{some-parts}
use Rattle.text_words.specs.Puts.{putting, says, spaced, longest_line}
use Rattle.text_words.proofs.Putting.{says-twice}

line-of : (view : Option (List ℕ)) (out left line : List ℕ) → putting view out ≡ Some (left, line) → out ≡ line
line-of None out left line e = absurd (cc)
line-of (Some x) out left line e = (some-parts x left out line e).1

-- a text was written into an empty line that has room for it
pub said : (view : Option (List ℕ)) (out text : List ℕ) → putting view out ≡ says text (Some ([], [])) → length text ≤ longest_line → out ≡ text
said view out text e fits =
    let room : length {A = ℕ} [] + length text ≤ longest_line = omega (arith, fits) in
    line-of view out [] text (e ∙ ap (λ t. then_some t ([], text)) (le-leb (length {A = ℕ} [] + length text) longest_line room))

-- two texts were
pub said-both : (view : Option (List ℕ)) (out first second : List ℕ) → putting view out ≡ says second (says first (Some ([], []))) →
    length (first ++ second) ≤ longest_line → out ≡ first ++ second
said-both view out first second e fits = said view out (first ++ second) (e ∙ says-twice first second (Some ([], []))) fits

-- ===== How long they are

number-length : (n : ℕ) → n < 2 ^ 64 → length (number_word n) ≤ 20
number-length n h = length-decimal-le 20 n (omega arith) (omega arith) h

pub wide-fits : (keys : ℕ) → keys < 2 ^ 64 → length (codes "auto wide " ++ number_word keys) ≤ longest_line
wide-fits keys h = omega (arith, number-length keys h)

pub merged-fits : (site sequence : ℕ) → site < 2 ^ 64 → sequence < 2 ^ 64 →
    length ((codes "auto " ++ number_word site) ++ (codes "." ++ number_word sequence)) ≤ longest_line
merged-fits site sequence h i =
    omega (arith, length-append (codes "auto " ++ number_word site) (codes "." ++ number_word sequence), number-length site h, number-length sequence i)

-- the line of a key without a value is shorter than that of the refusal of an open conflict
pub unmerged-fits : (key : List ℕ) → IsTrue (is_key key) → ReplyLinesFit → length (codes "auto refused" ++ spaced (byte_word key)) ≤ longest_line
unmerged-fits key valid fit =
    let p = and_parts (is_within 1 128 (length key)) (are_bytes key) valid in
    let q = and_parts (nat_le 1 (length key)) (nat_le (length key) 128) p.0 in
    let short : length (reply_spelling (RefusedWith (OpenConflict key))) ≤ longest_frame = omega (arith, leb-true (length key) 128 q.1) in
    omega (arith, fit (RefusedWith (OpenConflict key)) valid short)
