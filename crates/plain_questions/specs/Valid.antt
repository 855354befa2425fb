-- Which questions and answers there are.
use Rattle.std.specs.Prelude.{ℕ, Bool, true, ◌==◌, ◌&&◌, ◌||◌, List, length, map, Option, Some, None, nat_lt, nat_le}
use Rattle.std.specs.List.{list_all}
use Rattle.tardis_base.specs.declared.ids.StateId.{StateId}
use Rattle.tardis_base.specs.declared.records.Write.{Write}
use Rattle.tardis_base.specs.declared.records.Limits.{Limits}
use Rattle.tardis_base.specs.Sizes.{most_parents, most_writes, piece}
use Rattle.tardis_base.specs.Ids.{are_ascending}
use Rattle.tardis_base.specs.Keys.{are_ascending_keys}
use Rattle.tardis_base.specs.Valid.{is_u16, is_u32, is_u64, is_within, is_id, is_key, is_value, is_write, are_limits}
use Rattle.wire_item.specs.Valid.{are_ascending_numbers}
use Rattle.wire_talk.specs.Valid.{is_after, is_first_of, are_first_keys, are_children}
use Rattle.plain_questions.specs.declared.questions.Question.{Question}
use Rattle.plain_questions.specs.declared.questions.Question.TheVariants.{At, Keys, Scan, Record as RecordOf, Base, Sessions, Site as TheSite}
use Rattle.plain_questions.specs.declared.questions.Entry.{Entry}
use Rattle.plain_questions.specs.declared.questions.ForkRead.{ForkRead}
use Rattle.plain_questions.specs.declared.questions.SessionLine.{SessionLine}
use Rattle.plain_questions.specs.declared.questions.Denial.{Denial}
use Rattle.plain_questions.specs.declared.questions.Denial.TheVariants.{Malformed, Unknown, Collected, ForkPoints}
use Rattle.plain_questions.specs.declared.questions.Answered.{Answered}
use Rattle.plain_questions.specs.declared.questions.Answered.TheVariants.{Read, Keys as TheKeys, Entries, Record as TheRecord, ForkReads, Sessions as TheSessions}
use Rattle.plain_questions.specs.declared.questions.Answered.TheVariants.{Site as OfSite, Refused}
use Rattle.plain_questions.specs.Answer.{entries_length}

-- ===== Questions

-- 1 to 8 states, in any order
abbrev pub are_asked : List StateId → Bool
are_asked xs = is_within 1 most_parents (length xs) && list_all is_id xs

-- none, or a number of a session
abbrev pub is_behind : Option ℕ → Bool
is_behind None = true
is_behind (Some n) = is_u16 n

-- a prefix has at most 128 bytes, and so has what keys stand behind
abbrev pub is_question : Question → Bool
is_question (At state key) = is_id state && is_key key
is_question (Keys state prefix after) = is_id state && is_after prefix && is_after after
is_question (Scan state prefix after) = is_id state && is_after prefix && is_after after
is_question (RecordOf state) = is_id state
is_question (Base states key) = are_asked states && is_key key
is_question (Sessions after) = is_behind after
is_question TheSite = true

-- ===== What is told

-- nothing, or a state and what it wrote
abbrev pub is_found : Option (StateId × Write) → Bool
is_found None = true
is_found (Some version) = is_id version.0 && is_write version.1

abbrev pub is_entry : Entry → Bool
is_entry e = is_key e.key && is_value e.value

-- entries of at most 65,536 bytes, their keys ascending
abbrev pub are_page_entries : List Entry → Bool
are_page_entries es = list_all is_entry es && are_ascending_keys (map (λ e. e.key) es) && nat_le (entries_length es) piece

-- so many of a number: at most all, and at least one where there is one
abbrev pub is_some_of : ℕ → ℕ → Bool
is_some_of total number = nat_le number total && (total == 0 || nat_le 1 number)

-- the first entries of so many
abbrev pub are_first_entries : ℕ → List Entry → Bool
are_first_entries total first = is_u32 total && are_page_entries first && is_some_of total (length first)

-- at most 8 states, ascending
abbrev pub are_few : List StateId → Bool
are_few xs = nat_le (length xs) most_parents && list_all is_id xs && are_ascending xs

-- at most 64 keys, ascending
abbrev pub are_written : List (List ℕ) → Bool
are_written ks = nat_le (length ks) most_writes && list_all is_key ks && are_ascending_keys ks

abbrev pub is_fork_read : ForkRead → Bool
is_fork_read r = is_id r.fork_point && is_found r.found

-- 1 to 8 reads
abbrev pub are_fork_reads : List ForkRead → Bool
are_fork_reads reads = is_within 1 most_parents (length reads) && list_all is_fork_read reads

abbrev pub is_session : SessionLine → Bool
is_session s = is_u16 s.number && is_id s.ceiling && is_id s.last && are_few s.reads

-- the first sessions of so many, their numbers ascending
abbrev pub are_first_sessions : ℕ → List SessionLine → Bool
are_first_sessions total first =
    is_u32 total && list_all is_session first && is_first_of total (length first) && are_ascending_numbers (map (λ s. s.number) first)

-- limits that a site may have, and a number of one of the sites
abbrev pub is_place : Limits → ℕ → Bool
is_place limits own = are_limits limits && is_within 1 limits.sites own

-- more fork points than 8
abbrev pub is_denial : Denial → Bool
is_denial Malformed = true
is_denial (Unknown state) = is_id state
is_denial (Collected state) = is_id state
is_denial (ForkPoints number) = is_u32 number && nat_lt most_parents number

abbrev pub is_answer : Answered → Bool
is_answer (Read found) = is_found found
is_answer (TheKeys total first) = are_first_keys total first
is_answer (Entries total first) = are_first_entries total first
is_answer (TheRecord arrival parents kept_parents kept_children keys) =
    is_u64 arrival && are_few parents && are_few kept_parents && are_children kept_children && are_written keys
is_answer (ForkReads reads) = are_fork_reads reads
is_answer (TheSessions floor total first) = is_id floor && are_first_sessions total first
is_answer (OfSite version limits own known kept) = is_u16 version && is_place limits own && is_u64 known && is_u32 kept
is_answer (Refused why) = is_denial why
