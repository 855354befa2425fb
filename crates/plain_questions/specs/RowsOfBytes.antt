-- Worked rows: questions and what is told, in bytes.
use Rattle.std.specs.Prelude.{◌≡◌, [], ◌∷◌, codes, None, Some}
use Rattle.plain_site.specs.RowWords.{site_after, lone_site, ◌·◌}
use Rattle.plain_site.specs.RowByteWords.{hex}
use Rattle.plain_questions.specs.declared.questions.Question.TheVariants.{Keys, Base}
use Rattle.plain_questions.specs.Readings.{question_of, answer_over_bytes}
use Rattle.plain_questions.specs.RowsOfReads.{parted}

-- what these bytes are answered is these bytes
abbrev pub AnswersBytes : Type 0
AnswersBytes =
    let site = site_after lone_site parted in
    -- d at 1.2, x at 1.3, y at 1.1, d at 1.4
    (answer_over_bytes site (hex "40 0001 00000002 01 64") ≡ hex "40 01 0001 00000002 01 0002 6263")
    × (answer_over_bytes site (hex "40 0001 00000003 01 78") ≡ hex "40 01 0001 00000003 00")
    × (answer_over_bytes site (hex "40 0001 00000001 01 79") ≡ hex "40 00")
    × (answer_over_bytes site (hex "40 0001 00000004 01 64") ≡ hex "15 09 0001 00000004")
    -- the keys of 1.1 behind d, and all entries of 1.3
    × (answer_over_bytes site (hex "41 0001 00000001 00 01 64") ≡ hex "41 00000001 0001 01 78")
    × (answer_over_bytes site (hex "42 0001 00000003 00 00") ≡ hex "42 00000001 0001 01 64 0002 6162")
    -- the record of 1.1
    × (answer_over_bytes site (hex "43 0001 00000001")
    ≡ hex "43 0000000000000001 01 0000 00000000 01 0000 00000000 00000002 0001 00000002 0001 00000003 02 01 64 01 78")
    -- d where 1.3 and 1.2 parted
    × (answer_over_bytes site (hex "44 02 0001 00000003 0001 00000002 01 64") ≡ hex "44 01 0001 00000001 01 0001 00000001 01 0001 62")
    -- the sessions behind 1, and the site
    × (answer_over_bytes site (hex "45 01 0001") ≡ hex "45 0000 00000000 00000001 0001 0002 00 0000 00000000 0001 00000003 00 01")
    × (answer_over_bytes site (hex "46") ≡ hex "46 0001 0001 00004000 00001000 0100 0000000040000000 0001 0000000000000004 00000004")

-- no question: an empty key, no state, nine states, a byte that is left over, a code of none, a request
abbrev pub OtherBytesAreMalformed : Type 0
OtherBytesAreMalformed =
    (question_of (hex "40 0001 00000002 00") ≡ None)
    × (question_of (hex "44 00 01 64") ≡ None)
    × (question_of
    (hex "44 09 0000 00000000 0000 00000000 0000 00000000 0000 00000000 0000 00000000 0000 00000000 0000 00000000 0000 00000000 0000 00000000 01 64") ≡ None)
    × (question_of (hex "46 00") ≡ None)
    × (question_of (hex "47") ≡ None)
    × (question_of (hex "10") ≡ None)
    × (question_of [] ≡ None)
    × (question_of (hex "41 0001 00000002 01 61 02 61 62") ≡ Some (Keys (1 · 2) (codes "a") (codes "ab")))
    × (question_of (hex "44 02 0001 00000003 0001 00000002 01 64") ≡ Some (Base (1 · 3 ∷ 1 · 2 ∷ []) (codes "d")))
    × (answer_over_bytes lone_site (hex "46 00") ≡ hex "15 01")
