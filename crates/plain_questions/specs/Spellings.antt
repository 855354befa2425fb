-- How questions and what is told are spelled in bytes: a code, and then the fields.
use Rattle.std.specs.Prelude.{ℕ, List, [], ◌∷◌, ◌++◌, length, flat_map, Option, Some, None}
use Rattle.tardis_base.specs.declared.ids.StateId.{StateId}
use Rattle.tardis_base.specs.declared.records.Write.{Write}
use Rattle.tardis_base.specs.declared.records.Limits.{Limits}
use Rattle.wire_item.specs.Spellings.{u8_spelling, u16_spelling, u32_spelling, u64_spelling, id_spelling, key_spelling, value_spelling}
use Rattle.wire_item.specs.Spellings.{write_spelling, parents_spelling}
use Rattle.wire_talk.specs.declared.reply_codes.TheConstants.{REFUSED}
use Rattle.wire_talk.specs.declared.refusal_codes.TheConstants.{MALFORMED, UNKNOWN, COLLECTED, TOO_MANY}
use Rattle.wire_talk.specs.Spellings.{flag_spelling, after_spelling, first_keys_spelling, children_spelling}
use Rattle.plain_questions.specs.declared.question_codes.TheConstants.{AT, KEYS, SCAN, RECORD, BASE, SESSIONS, SITE}
use Rattle.plain_questions.specs.declared.answer_codes.TheConstants.{READ, KEYS as THE_KEYS, ENTRIES, RECORD as THE_RECORD, FORK_READS}
use Rattle.plain_questions.specs.declared.answer_codes.TheConstants.{SESSIONS as THE_SESSIONS, SITE as OF_SITE, FORK_POINTS}
use Rattle.plain_questions.specs.declared.questions.Question.{Question}
use Rattle.plain_questions.specs.declared.questions.Question.TheVariants.{At, Keys, Scan, Record as RecordOf, Base, Sessions, Site as TheSite}
use Rattle.plain_questions.specs.declared.questions.Entry.{Entry}
use Rattle.plain_questions.specs.declared.questions.ForkRead.{ForkRead}
use Rattle.plain_questions.specs.declared.questions.SessionLine.{SessionLine}
use Rattle.plain_questions.specs.declared.questions.Denial.{Denial}
use Rattle.plain_questions.specs.declared.questions.Denial.TheVariants.{Malformed, Unknown, Collected, ForkPoints}
use Rattle.plain_questions.specs.declared.questions.Answered.{Answered}
use Rattle.plain_questions.specs.declared.questions.Answered.TheVariants.{Read, Keys as TheKeys, Entries, Record as TheRecord, ForkReads, Sessions as TheSessions}
use Rattle.plain_questions.specs.declared.questions.Answered.TheVariants.{Site as OfSite, Refused}

-- ===== Questions

-- 0 for none, or 1 and the number
abbrev pub behind_spelling : Option ℕ → List ℕ
behind_spelling None = 0 ∷ []
behind_spelling (Some n) = 1 ∷ u16_spelling n

abbrev pub question_spelling : Question → List ℕ
question_spelling (At state key) = AT ∷ (id_spelling state ++ key_spelling key)
question_spelling (Keys state prefix after) = KEYS ∷ (id_spelling state ++ after_spelling prefix ++ after_spelling after)
question_spelling (Scan state prefix after) = SCAN ∷ (id_spelling state ++ after_spelling prefix ++ after_spelling after)
question_spelling (RecordOf state) = RECORD ∷ id_spelling state
question_spelling (Base states key) = BASE ∷ (parents_spelling states ++ key_spelling key)
question_spelling (Sessions after) = SESSIONS ∷ behind_spelling after
question_spelling TheSite = SITE ∷ []

-- ===== What is told

-- a state, and what it wrote
abbrev pub version_spelling : StateId × Write → List ℕ
version_spelling version = id_spelling version.0 ++ write_spelling version.1

-- 0 for nothing, or 1 and what is found
abbrev pub found_spelling : Option (StateId × Write) → List ℕ
found_spelling None = 0 ∷ []
found_spelling (Some version) = 1 ∷ version_spelling version

abbrev pub entry_spelling : Entry → List ℕ
entry_spelling e = key_spelling e.key ++ value_spelling e.value

-- a u32 for how many there are, a u16 for the number of those that follow, and these
abbrev pub first_entries_spelling : ℕ → List Entry → List ℕ
first_entries_spelling total first = u32_spelling total ++ (u16_spelling (length first) ++ flat_map entry_spelling first)

-- a u8 for the number of keys, and the keys
abbrev pub written_spelling : List (List ℕ) → List ℕ
written_spelling ks = u8_spelling (length ks) ++ flat_map key_spelling ks

-- the fork point, and what is found there
abbrev pub fork_read_spelling : ForkRead → List ℕ
fork_read_spelling r = id_spelling r.fork_point ++ found_spelling r.found

-- a u8 for the number of reads, and the reads
abbrev pub fork_reads_spelling : List ForkRead → List ℕ
fork_reads_spelling reads = u8_spelling (length reads) ++ flat_map fork_read_spelling reads

-- a u16 for the number, whether it follows, the ceiling, the last commit, the read states, whether it holds the floor
abbrev pub session_spelling : SessionLine → List ℕ
session_spelling s =
    u16_spelling s.number ++ flag_spelling s.follow ++ id_spelling s.ceiling ++ id_spelling s.last ++ parents_spelling s.reads ++ flag_spelling s.holds

-- a u32 for how many there are, a u16 for the number of those that follow, and these
abbrev pub first_sessions_spelling : ℕ → List SessionLine → List ℕ
first_sessions_spelling total first = u32_spelling total ++ (u16_spelling (length first) ++ flat_map session_spelling first)

-- a u16 for the sites, a u32 each for kept states and pairs, a u16 for the sessions, a u64 for the bytes of a trail
abbrev pub limits_spelling : Limits → List ℕ
limits_spelling l = u16_spelling l.sites ++ u32_spelling l.max_kept ++ u32_spelling l.max_path ++ u16_spelling l.max_sessions ++ u64_spelling l.max_trail

-- the limits, and a u16 for the own number
abbrev pub place_spelling : Limits → ℕ → List ℕ
place_spelling limits own = limits_spelling limits ++ u16_spelling own

-- as a refusal of its name is spelled; of fork points there are too many
abbrev pub denial_spelling : Denial → List ℕ
denial_spelling Malformed = MALFORMED ∷ []
denial_spelling (Unknown state) = UNKNOWN ∷ id_spelling state
denial_spelling (Collected state) = COLLECTED ∷ id_spelling state
denial_spelling (ForkPoints number) = TOO_MANY ∷ FORK_POINTS ∷ u32_spelling number

abbrev pub answer_spelling : Answered → List ℕ
answer_spelling (Read found) = READ ∷ found_spelling found
answer_spelling (TheKeys total first) = THE_KEYS ∷ first_keys_spelling total first
answer_spelling (Entries total first) = ENTRIES ∷ first_entries_spelling total first
answer_spelling (TheRecord arrival parents kept_parents kept_children keys) =
    THE_RECORD
    ∷ (u64_spelling arrival ++ parents_spelling parents ++ parents_spelling kept_parents ++ children_spelling kept_children ++ written_spelling keys)
answer_spelling (ForkReads reads) = FORK_READS ∷ fork_reads_spelling reads
answer_spelling (TheSessions floor total first) = THE_SESSIONS ∷ (id_spelling floor ++ first_sessions_spelling total first)
answer_spelling (OfSite version limits own known kept) =
    OF_SITE ∷ (u16_spelling version ++ place_spelling limits own ++ u64_spelling known ++ u32_spelling kept)
answer_spelling (Refused why) = REFUSED ∷ denial_spelling why
