-- Numbers and ids are printed.
use Rattle.std.proofs.Common.{ℕ, ◌<◌, ◌^◌, ◌&&◌, IsTrue, List, ◌∷◌, ◌++◌, ◌∙◌, arith, ltb-true}
use Rattle.std.proofs.lemmas.Bool.{and_from}
use Rattle.std.proofs.lemmas.List.Folds.{list_all-append}
use Rattle.tardis_base.specs.declared.ids.StateId.{StateId}
use Rattle.tardis_base.specs.Valid.{is_u16, is_u32, is_within, is_id}
use Rattle.tardis_base.proofs.TestParts.{first, second}
use Rattle.text_words.specs.Words.{number_word, id_word, are_printed}
use Rattle.text_words.proofs.Bytes.{all-within}
use Rattle.text_words.proofs.WordsRead.{number-within}

pub number-printed : (n : ℕ) → n < 2 ^ 64 → IsTrue (are_printed (number_word n))
number-printed n h = all-within 48 57 33 126 (omega arith) (omega arith) (number_word n) (number-within n h)

pub printed-append : (xs ys : List ℕ) → IsTrue (are_printed xs) → IsTrue (are_printed ys) → IsTrue (are_printed (xs ++ ys))
printed-append xs ys p q = list_all-append (λ b. is_within 33 126 b) xs ys ∙ and_from (are_printed xs) (are_printed ys) p q

pub id-printed : (x : StateId) → IsTrue (is_id x) → IsTrue (are_printed (id_word x))
id-printed x h =
    let both = first (is_u16 x.site && is_u32 x.sequence) _ h in
    let site = ltb-true x.site (2 ^ 16) (first (is_u16 x.site) (is_u32 x.sequence) both) in
    let sequence = ltb-true x.sequence (2 ^ 32) (second (is_u16 x.site) (is_u32 x.sequence) both) in
    printed-append (number_word x.site) (46 ∷ number_word x.sequence) (number-printed x.site (omega arith)) (number-printed x.sequence (omega arith))
