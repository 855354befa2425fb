-- What a sound site tells can be spelled, and fits a frame.
use Rattle.std.proofs.Common.{◌≡◌, ℕ, true, ◌&&◌, List, [], ◌∷◌, length, Option, Some, None, IsTrue, refl}
use Rattle.std.proofs.lemmas.Bool.{and_from}
use Rattle.std.specs.List.{list_all}
use Rattle.std.specs.Option.{option_map_or}
use Rattle.tardis_base.specs.declared.ids.StateId.{StateId}
use Rattle.tardis_base.specs.Valid.{is_id, is_key, is_within}
use Rattle.tardis_base.proofs.TestParts.{first, second}
use Rattle.wire_talk.specs.Valid.{is_after}
use Rattle.plain_dag.specs.Writers.{read}
use Rattle.plain_site.specs.Site.{Site}
use Rattle.plain_site.specs.Sound.{IsSound}
use Rattle.plain_site.proofs.RepliesSound.{IsRanged, sound-ranged}
use Rattle.plain_questions.specs.declared.questions.Question.{Question}
use Rattle.plain_questions.specs.declared.questions.Question.TheVariants.{At, Keys, Scan, Record as RecordOf, Base, Sessions, Site as TheSite}
use Rattle.plain_questions.specs.declared.questions.Denial.TheVariants.{Malformed}
use Rattle.plain_questions.specs.declared.questions.Answered.TheVariants.{Read, Refused}
use Rattle.plain_questions.specs.Contents.{keys_behind, entries_behind}
use Rattle.plain_questions.specs.Answer.{page_of_keys, page_of_entries, record_told, answer}
use Rattle.plain_questions.specs.Valid.{are_asked, is_question}
use Rattle.plain_questions.specs.Readings.{question_of}
use Rattle.plain_questions.proofs.Spelled.{questions-have-one-spelling}
use Rattle.wire_questions.specs.Laws.{AnswersFit, AnswersToBytesFit, told_over_bytes}
use Rattle.wire_questions.proofs.Lengths.{Fits, answer-fits}
use Rattle.wire_questions.proofs.Told.{read-valid, page-fits, entries-page-fits}
use Rattle.wire_questions.proofs.History.{of-kept-fits, record-fits, base-fits, sessions-fit, site-fits}

one-id : (x : StateId) → IsTrue (is_id x) → IsTrue (list_all is_id (x ∷ []))
one-id x h = and_from (is_id x) true h refl

asked-page : (x : StateId) (prefix after : List ℕ) → IsTrue (is_id x && is_after prefix && is_after after) → IsTrue (is_id x)
asked-page x prefix after h = first (is_id x) (is_after prefix) (first (is_id x && is_after prefix) (is_after after) h)

answer-fits-frame : (site : Site) (q : Question) → IsTrue (is_question q) → IsSound site → IsRanged site → Fits (answer site q)
answer-fits-frame site (At x k) h sound ranged =
    of-kept-fits site (x ∷ []) (Read (read site.dag k x)) (one-id x (first (is_id x) (is_key k) h))
    (λ _. answer-fits (Read (read site.dag k x)) tt (read-valid site.dag k x ranged.stored))
answer-fits-frame site (Keys x prefix after) h sound ranged =
    of-kept-fits site (x ∷ []) (page_of_keys (keys_behind site.dag x prefix after)) (one-id x (asked-page x prefix after h))
    (λ _. page-fits site.dag x prefix after ranged.stored)
answer-fits-frame site (Scan x prefix after) h sound ranged =
    of-kept-fits site (x ∷ []) (page_of_entries (entries_behind site.dag x prefix after)) (one-id x (asked-page x prefix after h))
    (λ _. entries-page-fits site.dag x prefix after ranged.stored)
answer-fits-frame site (RecordOf x) h sound ranged =
    of-kept-fits site (x ∷ []) (record_told site x) (one-id x h) (λ _. record-fits site x sound ranged)
answer-fits-frame site (Base xs k) h sound ranged =
    base-fits site xs k sound ranged (second (is_within 1 8 (length xs)) (list_all is_id xs) (first (are_asked xs) (is_key k) h))
answer-fits-frame site (Sessions after) h sound ranged = sessions-fit site after sound ranged
answer-fits-frame site TheSite h sound ranged = site-fits site sound ranged

pub answers-fit : AnswersFit
answers-fit = record {
  valid = λ site q h sound. (answer-fits-frame site q h sound (sound-ranged site sound)).valid;
  short = λ site q h sound. (answer-fits-frame site q h sound (sound-ranged site sound)).short;
}

over-bytes : (site : Site) (bytes : List ℕ) → IsSound site → Fits (told_over_bytes site bytes)
over-bytes site bytes sound = go (question_of bytes) refl
  where
    go : (o : Option Question) → question_of bytes ≡ o → Fits (option_map_or (answer site) o (Refused Malformed))
    go None e = answer-fits (Refused Malformed) tt refl
    go (Some q) e = answer-fits-frame site q ((questions-have-one-spelling.some bytes q).0 e).0 sound (sound-ranged site sound)

pub answers-to-bytes-fit : AnswersToBytesFit
answers-to-bytes-fit = record { valid = λ site bytes sound. (over-bytes site bytes sound).valid; short = λ site bytes sound. (over-bytes site bytes sound).short }
