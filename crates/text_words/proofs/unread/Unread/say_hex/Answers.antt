use Rattle.std.proofs.Common.{◌≡◌, ℕ, suc, ◌+◌, ◌<◌, List, [], ◌∷◌, ◌++◌, length, take, get_or, Result, Ok, Err, ap, sym, ◌∙◌, refl, arith, append-nil}
use Rattle.std.proofs.Common.{append_assoc}
use Rattle.std.specs.Prelude.{IsOk, OnOk}
use Rattle.std.proofs.Math.Seq.{take-suc}
use Rattle.hex.specs.Hex.{encode_with, lower_digits}
use Rattle.hex.specs.declared.error.FromHexError.{FromHexError}
use Rattle.text_words.specs.Words.{hex_word}
use Rattle.text_words.specs.Puts.{putting, says}
use Rattle.text_words.proofs.Putting.{says-twice}
use Rattle.text_words.proofs.unread.Unread.say_hex.Goals as goal

hex-append : (xs ys : List ℕ) → hex_word (xs ++ ys) ≡ hex_word xs ++ hex_word ys
unfolding encode_with
hex-append [] ys = refl
hex-append (x ∷ xs) ys = ap (λ z. Rattle.std.proofs.Common.slice_index lower_digits (Rattle.std.proofs.Common.◌/◌ x 16)
    ∷ Rattle.std.proofs.Common.slice_index lower_digits (Rattle.std.proofs.Common.◌%◌ x 16) ∷ z) (hex-append xs ys)

hex-step : (lead bytes : List ℕ) (i : ℕ) → i < length bytes → (lead ++ hex_word (take i bytes)) ++ hex_word (get_or bytes i 0 ∷ []) ≡ lead
    ++ hex_word (take (i + 1) bytes)
hex-step lead bytes i h =
    let next : i + 1 ≡ suc i = omega arith in
    append_assoc lead (hex_word (take i bytes)) (hex_word (get_or bytes i 0 ∷ []))
    ∙ ap (λ z. lead ++ z) (sym (hex-append (take i bytes) (get_or bytes i 0 ∷ []))
    ∙ ap (λ z. hex_word z) (sym (take-suc bytes i 0 h) ∙ ap (λ n. take n bytes) (sym next)))

hex-none : hex_word [] ≡ []
unfolding encode_with
hex-none = refl

on-ok : {A : Type 0} (r : Result A FromHexError) (P : Type 0) → IsOk r → OnOk r P → P
on-ok (Ok x) P i h = h
on-ok (Err e) P i h = cc i

pub loop-byte-init : goal.loop-byte-init
loop-byte-init c =
    c.say.ensures ∙ ap (λ z. says z (putting c.args.self.now c.args.out.now)) (sym (append-nil c.args.lead.now) ∙ ap (λ z. c.args.lead.now ++ z) (sym hex-none))

pub loop-byte-preserved : goal.loop-byte-preserved
loop-byte-preserved c =
    let s = putting c.args.self.now c.args.out.now in
    let written = on-ok c.encode_to_slice.result _ (c.encode_to_slice.ensures.fits.1 refl) c.encode_to_slice.ensures.written in
    c.say-in-loop-byte.ensures
    ∙ ap (says c.encode_to_slice.new.output) c.loop-byte.invariant
    ∙ says-twice (c.args.lead.now ++ hex_word (take c.loop-byte.byte-index c.args.bytes.now)) c.encode_to_slice.new.output s
    ∙ ap (λ z. says z s) (ap (λ d. (c.args.lead.now ++ hex_word (take c.loop-byte.byte-index c.args.bytes.now)) ++ d) written
    ∙ hex-step c.args.lead.now c.args.bytes.now c.loop-byte.byte-index (omega arith))
