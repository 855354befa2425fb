-- How questions and answers are read back from bytes.
use Rattle.std.specs.Prelude.{ℕ, List, [], ◌∷◌, Option, Some, None, nat_lt}
use Rattle.std.specs.Option.{option_map_or}
use Rattle.tardis_base.specs.declared.ids.StateId.{StateId}
use Rattle.tardis_base.specs.declared.records.Write.{Write}
use Rattle.tardis_base.specs.declared.records.Limits.{Limits}
use Rattle.tardis_base.specs.Sizes.{most_parents}
use Rattle.wire_item.specs.Fronts.{Front, nothing_but, made, only_if, both, times, counted, by_code, whole}
use Rattle.wire_item.specs.Readings.{u8_front, u16_front, u32_front, u64_front, id_front, key_front, value_front, write_front}
use Rattle.wire_talk.specs.declared.reply_codes.TheConstants.{REFUSED}
use Rattle.wire_talk.specs.declared.refusal_codes.TheConstants.{MALFORMED, UNKNOWN, COLLECTED, TOO_MANY}
use Rattle.wire_talk.specs.RequestReadings.{flag_front, after_front}
use Rattle.wire_talk.specs.ReplyReadings.{first_keys_front, children_front}
use Rattle.plain_site.specs.Site.{Site}
use Rattle.plain_questions.specs.declared.question_codes.TheConstants.{AT, KEYS, SCAN, RECORD, BASE, SESSIONS, SITE}
use Rattle.plain_questions.specs.declared.answer_codes.TheConstants.{READ, KEYS as THE_KEYS, ENTRIES, RECORD as THE_RECORD, FORK_READS}
use Rattle.plain_questions.specs.declared.answer_codes.TheConstants.{SESSIONS as THE_SESSIONS, SITE as OF_SITE, FORK_POINTS}
use Rattle.plain_questions.specs.declared.questions.Question.{Question}
use Rattle.plain_questions.specs.declared.questions.Question.TheVariants.{At, Keys, Scan, Record as RecordOf, Base, Sessions, Site as TheSite}
use Rattle.plain_questions.specs.declared.questions.Entry.{Entry}
use Rattle.plain_questions.specs.declared.questions.ForkRead.{ForkRead}
use Rattle.plain_questions.specs.declared.questions.SessionLine.{SessionLine}
use Rattle.plain_questions.specs.declared.questions.Denial.{Denial}
use Rattle.plain_questions.specs.declared.questions.Denial.TheVariants.{Malformed, Unknown, Collected, ForkPoints}
use Rattle.plain_questions.specs.declared.questions.Answered.{Answered}
use Rattle.plain_questions.specs.declared.questions.Answered.TheVariants.{Read, Keys as TheKeys, Entries, Record as TheRecord, ForkReads, Sessions as TheSessions}
use Rattle.plain_questions.specs.declared.questions.Answered.TheVariants.{Site as OfSite, Refused}
use Rattle.plain_questions.specs.Answer.{answer}
use Rattle.plain_questions.specs.Spellings.{answer_spelling}
use Rattle.plain_questions.specs.Valid.{are_asked, are_first_entries, are_few, are_written, are_fork_reads, are_first_sessions, is_place}

-- ===== Questions

abbrev pub asked_front : Front (List StateId)
asked_front = only_if are_asked (counted u8_front (times id_front))

abbrev pub behind_rows : List (ℕ × Front (Option ℕ))
behind_rows = (0, nothing_but None) ∷ (1, made Some u16_front) ∷ []

abbrev pub behind_front : Front (Option ℕ)
behind_front = by_code behind_rows

-- a state, a prefix and what keys stand behind
abbrev pub page_front : Front ((StateId × List ℕ) × List ℕ)
page_front = both (both id_front after_front) after_front

-- each question's front beside its code
abbrev pub question_rows : List (ℕ × Front Question)
question_rows =
    (AT, made (λ p. At p.0 p.1) (both id_front key_front)) ∷
    (KEYS, made (λ p. Keys p.0.0 p.0.1 p.1) page_front) ∷
    (SCAN, made (λ p. Scan p.0.0 p.0.1 p.1) page_front) ∷
    (RECORD, made RecordOf id_front) ∷
    (BASE, made (λ p. Base p.0 p.1) (both asked_front key_front)) ∷
    (SESSIONS, made Sessions behind_front) ∷
    (SITE, nothing_but TheSite) ∷ []

abbrev pub question_front : Front Question
question_front = by_code question_rows

-- the question that the bytes spell
abbrev pub question_of : List ℕ → Option Question
question_of = whole question_front

-- ===== What is told

abbrev pub found_rows : List (ℕ × Front (Option (StateId × Write)))
found_rows = (0, nothing_but None) ∷ (1, made Some (both id_front write_front)) ∷ []

abbrev pub found_front : Front (Option (StateId × Write))
found_front = by_code found_rows

abbrev pub entry_front : Front Entry
entry_front = made (λ p. record { key = p.0; value = p.1 }) (both key_front value_front)

abbrev pub first_entries_front : Front (ℕ × List Entry)
first_entries_front = only_if (λ p. are_first_entries p.0 p.1) (both u32_front (counted u16_front (times entry_front)))

abbrev pub few_front : Front (List StateId)
few_front = only_if are_few (counted u8_front (times id_front))

abbrev pub written_front : Front (List (List ℕ))
written_front = only_if are_written (counted u8_front (times key_front))

abbrev pub fork_read_front : Front ForkRead
fork_read_front = made (λ p. record { fork_point = p.0; found = p.1 }) (both id_front found_front)

abbrev pub fork_reads_front : Front (List ForkRead)
fork_reads_front = only_if are_fork_reads (counted u8_front (times fork_read_front))

abbrev pub session_front : Front SessionLine
session_front =
    made
    (λ p. record { number = p.0.0.0.0.0; follow = p.0.0.0.0.1; ceiling = p.0.0.0.1; last = p.0.0.1; reads = p.0.1; holds = p.1 })
    (both (both (both (both (both u16_front flag_front) id_front) id_front) few_front) flag_front)

abbrev pub first_sessions_front : Front (ℕ × List SessionLine)
first_sessions_front = only_if (λ p. are_first_sessions p.0 p.1) (both u32_front (counted u16_front (times session_front)))

abbrev pub limits_front : Front Limits
limits_front =
    made
    (λ p. record { sites = p.0.0.0.0; max_kept = p.0.0.0.1; max_path = p.0.0.1; max_sessions = p.0.1; max_trail = p.1 })
    (both (both (both (both u16_front u32_front) u32_front) u16_front) u64_front)

-- limits, and the number of a site under them
abbrev pub place_front : Front (Limits × ℕ)
place_front = only_if (λ p. is_place p.0 p.1) (both limits_front u16_front)

-- too many fork points: more than 8
abbrev pub fork_points_rows : List (ℕ × Front ℕ)
fork_points_rows = (FORK_POINTS, made (λ n. n) (only_if (nat_lt most_parents) u32_front)) ∷ []

abbrev pub denial_rows : List (ℕ × Front Denial)
denial_rows =
    (MALFORMED, nothing_but Malformed) ∷
    (UNKNOWN, made Unknown id_front) ∷
    (COLLECTED, made Collected id_front) ∷
    (TOO_MANY, made ForkPoints (by_code fork_points_rows)) ∷ []

abbrev pub denial_front : Front Denial
denial_front = by_code denial_rows

-- each answer's front beside its code
abbrev pub answer_rows : List (ℕ × Front Answered)
answer_rows =
    (READ, made Read found_front) ∷
    (THE_KEYS, made (λ p. TheKeys p.0 p.1) first_keys_front) ∷
    (ENTRIES, made (λ p. Entries p.0 p.1) first_entries_front) ∷
    (THE_RECORD, made (λ p. TheRecord p.0.0.0.0 p.0.0.0.1 p.0.0.1 p.0.1 p.1) (both (both (both (both u64_front few_front) few_front) children_front) written_front)) ∷
    (FORK_READS, made ForkReads fork_reads_front) ∷
    (THE_SESSIONS, made (λ p. TheSessions p.0 p.1.0 p.1.1) (both id_front first_sessions_front)) ∷
    (OF_SITE, made (λ p. OfSite p.0.0.0 p.0.0.1.0 p.0.0.1.1 p.0.1 p.1) (both (both (both u16_front place_front) u64_front) u32_front)) ∷
    (REFUSED, made Refused denial_front) ∷ []

abbrev pub answer_front : Front Answered
answer_front = by_code answer_rows

-- the answer that the bytes spell
abbrev pub answer_of : List ℕ → Option Answered
answer_of = whole answer_front

-- ===== Answers over bytes

-- what bytes are told, in bytes; those that spell no question are malformed
abbrev pub answer_over_bytes : Site → List ℕ → List ℕ
answer_over_bytes site bytes = answer_spelling (option_map_or (answer site) (question_of bytes) (Refused Malformed))
