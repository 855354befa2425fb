-- Questions and answers are read as they are spelled.
use Rattle.std.proofs.Common.{◌≡◌, ℕ, ◌*◌, ◌<◌, ◌≤◌, min, false, Bool, true, ◌&&◌, IsTrue, List, [], ◌∷◌, ◌++◌, length, map, nat_le, nat_lt, Option, Some, None, refl, arith, leb-true, lt-ltb, eqb-true}
use Rattle.std.proofs.lemmas.Bool.{and_parts, and_from}
use Rattle.std.specs.List.{list_all}
use Rattle.tardis_base.specs.declared.ids.StateId.{StateId}
use Rattle.tardis_base.specs.declared.records.Write.{Write}
use Rattle.tardis_base.specs.declared.records.Limits.{Limits}
use Rattle.tardis_base.specs.Ids.{are_ascending}
use Rattle.tardis_base.specs.Keys.{are_ascending_keys}
use Rattle.tardis_base.specs.Valid.{is_u16, is_u32, is_u64, is_within, are_bytes, is_id, is_key, is_write, are_limits}
use Rattle.tardis_base.proofs.TestParts.{first, second}
use Rattle.wire_item.specs.Spellings.{u16_spelling, u32_spelling, u64_spelling, id_spelling, parents_spelling}
use Rattle.wire_item.specs.Valid.{is_u8, are_ascending_numbers}
use Rattle.wire_item.specs.Fronts.{only_if, both, by_code}
use Rattle.wire_item.specs.Readings.{u16_front, u32_front, u64_front, id_front, write_front}
use Rattle.wire_item.proofs.Ways.{Reads, reads-both, reads-made, reads-only_if, reads-counted, many-times, RowsRead, row-nothing_but, row-made, by_code-only}
use Rattle.wire_item.proofs.Ways.{made-back}
use Rattle.wire_item.proofs.Numbers.{reads-u8, reads-u16, reads-u32, reads-u64}
use Rattle.wire_item.proofs.Things.{fits, reads-id, reads-key, reads-value, reads-write}
use Rattle.wire_item.proofs.Laws.{one_spelling}
use Rattle.wire_talk.specs.Spellings.{after_spelling, children_spelling}
use Rattle.wire_talk.specs.ReplyReadings.{children_front}
use Rattle.wire_talk.specs.Valid.{is_after, is_first_of, are_children}
use Rattle.wire_talk.proofs.Requests.{reads-flag, reads-after}
use Rattle.wire_talk.proofs.Replies.{reads-first_keys, reads-children}
use Rattle.plain_questions.specs.declared.questions.Question.{Question}
use Rattle.plain_questions.specs.declared.questions.Question.TheVariants.{At, Keys, Scan, Record as RecordOf, Base, Sessions, Site as TheSite}
use Rattle.plain_questions.specs.declared.questions.Entry.{Entry}
use Rattle.plain_questions.specs.declared.questions.ForkRead.{ForkRead}
use Rattle.plain_questions.specs.declared.questions.SessionLine.{SessionLine}
use Rattle.plain_questions.specs.declared.questions.Denial.{Denial}
use Rattle.plain_questions.specs.declared.questions.Denial.TheVariants.{Malformed, Unknown, Collected, ForkPoints}
use Rattle.plain_questions.specs.declared.questions.Answered.{Answered}
use Rattle.plain_questions.specs.declared.questions.Answered.TheVariants.{Read, Keys as TheKeys, Entries, Record as TheRecord, ForkReads, Sessions as TheSessions}
use Rattle.plain_questions.specs.declared.questions.Answered.TheVariants.{Site as OfSite, Refused}
use Rattle.plain_questions.specs.Answer.{entries_length}
use Rattle.plain_questions.specs.Spellings.{behind_spelling, question_spelling, version_spelling, found_spelling, entry_spelling, first_entries_spelling}
use Rattle.plain_questions.specs.Spellings.{written_spelling, fork_read_spelling, fork_reads_spelling, session_spelling, first_sessions_spelling}
use Rattle.plain_questions.specs.Spellings.{limits_spelling, place_spelling, denial_spelling, answer_spelling}
use Rattle.plain_questions.specs.Valid.{are_asked, is_behind, is_question, is_found, is_entry, are_page_entries, is_some_of, are_first_entries, are_few, are_written}
use Rattle.plain_questions.specs.Valid.{is_fork_read, are_fork_reads, is_session, are_first_sessions, is_place, is_denial, is_answer}
use Rattle.plain_questions.specs.Readings.{asked_front, behind_rows, behind_front, page_front, question_rows, question_front, found_rows, found_front, entry_front}
use Rattle.plain_questions.specs.Readings.{first_entries_front, few_front, written_front, fork_read_front, fork_reads_front, session_front, first_sessions_front}
use Rattle.plain_questions.specs.Readings.{limits_front, place_front, fork_points_rows, denial_rows, denial_front, answer_rows, answer_front}
use Rattle.plain_questions.specs.Laws.{QuestionsHaveOneSpelling, AnswersHaveOneSpelling}

-- ===== Questions

asked_counted : (xs : List StateId) → IsTrue (are_asked xs) → IsTrue (is_u8 (length xs) && list_all is_id xs)
asked_counted xs h =
    let parts = and_parts (is_within 1 8 (length xs)) (list_all is_id xs) h in
    and_from (is_u8 (length xs)) (list_all is_id xs) (fits (length xs) 8 256 (second (nat_le 1 (length xs)) (nat_le (length xs) 8) parts.0) (omega arith))
    parts.1

reads-asked : Reads are_asked parents_spelling asked_front
reads-asked = reads-only_if are_asked are_asked (λ xs h. (asked_counted xs h, h)) (λ xs v t. t) (reads-counted reads-u8 (many-times reads-id))

reads-behind : Reads is_behind behind_spelling behind_front
reads-behind = record {
  back = back;
  only = by_code-only is_behind behind_spelling behind_rows
      (row-nothing_but is_behind behind_spelling 0 None refl refl, (row-made is_behind behind_spelling 1 Some reads-u16 (λ n h. h) (λ n. refl), tt));
  bytes = bytes;
}
  where
    back : (o : Option ℕ) (rest : List ℕ) → IsTrue (is_behind o) → behind_front (behind_spelling o ++ rest) ≡ Some (o, rest)
    back None rest h = refl
    back (Some n) rest h = made-back reads-u16 Some n rest h

    bytes : (o : Option ℕ) → IsTrue (is_behind o) → IsTrue (are_bytes (behind_spelling o))
    bytes None h = refl
    bytes (Some n) h = reads-u16.bytes n h

abbrev is_page : (StateId × List ℕ) × List ℕ → Bool
is_page p = is_id p.0.0 && is_after p.0.1 && is_after p.1

abbrev page_spelling : (StateId × List ℕ) × List ℕ → List ℕ
page_spelling p = id_spelling p.0.0 ++ after_spelling p.0.1 ++ after_spelling p.1

reads-page : Reads is_page page_spelling page_front
reads-page = reads-both (reads-both reads-id reads-after) reads-after

pub reads-question : Reads is_question question_spelling question_front
reads-question = record { back = back; only = by_code-only is_question question_spelling question_rows rows; bytes = bytes }
  where
    rows : RowsRead is_question question_spelling question_rows
    rows = (
      row-made is_question question_spelling 64 (λ p. At p.0 p.1) (reads-both reads-id reads-key) (λ a h. h) (λ a. refl),
      (
        row-made is_question question_spelling 65 (λ p. Keys p.0.0 p.0.1 p.1) reads-page (λ a h. h) (λ a. refl),
        (
          row-made is_question question_spelling 66 (λ p. Scan p.0.0 p.0.1 p.1) reads-page (λ a h. h) (λ a. refl),
          (
            row-made is_question question_spelling 67 RecordOf reads-id (λ a h. h) (λ a. refl),
            (
              row-made is_question question_spelling 68 (λ p. Base p.0 p.1) (reads-both reads-asked reads-key) (λ a h. h) (λ a. refl),
              (
                row-made is_question question_spelling 69 Sessions reads-behind (λ a h. h) (λ a. refl),
                (row-nothing_but is_question question_spelling 70 TheSite refl refl, tt),
              ),
            ),
          ),
        ),
      ),
    )

    back : (q : Question) (rest : List ℕ) → IsTrue (is_question q) → question_front (question_spelling q ++ rest) ≡ Some (q, rest)
    back (At state key) rest h = made-back (reads-both reads-id reads-key) (λ p. At p.0 p.1) (state, key) rest h
    back (Keys state prefix after) rest h = made-back reads-page (λ p. Keys p.0.0 p.0.1 p.1) ((state, prefix), after) rest h
    back (Scan state prefix after) rest h = made-back reads-page (λ p. Scan p.0.0 p.0.1 p.1) ((state, prefix), after) rest h
    back (RecordOf state) rest h = made-back reads-id RecordOf state rest h
    back (Base states key) rest h = made-back (reads-both reads-asked reads-key) (λ p. Base p.0 p.1) (states, key) rest h
    back (Sessions after) rest h = made-back reads-behind Sessions after rest h
    back TheSite rest h = refl

    bytes : (q : Question) → IsTrue (is_question q) → IsTrue (are_bytes (question_spelling q))
    bytes (At state key) h = (reads-both reads-id reads-key).bytes (state, key) h
    bytes (Keys state prefix after) h = reads-page.bytes ((state, prefix), after) h
    bytes (Scan state prefix after) h = reads-page.bytes ((state, prefix), after) h
    bytes (RecordOf state) h = reads-id.bytes state h
    bytes (Base states key) h = (reads-both reads-asked reads-key).bytes (states, key) h
    bytes (Sessions after) h = reads-behind.bytes after h
    bytes TheSite h = refl

-- ===== What is told

-- at most 256 fit 16 bits
number-fits : (total number : ℕ) → IsTrue (is_first_of total number) → IsTrue (is_u16 number)
number-fits total number h = lt-ltb number 65536 (omega (arith, eqb-true number (min total 256) h))

abbrev is_version : StateId × Write → Bool
is_version version = is_id version.0 && is_write version.1

reads-version : Reads is_version version_spelling (both id_front write_front)
reads-version = reads-both reads-id reads-write

reads-found : Reads is_found found_spelling found_front
reads-found = record {
  back = back;
  only = by_code-only is_found found_spelling found_rows
      (row-nothing_but is_found found_spelling 0 None refl refl, (row-made is_found found_spelling 1 Some reads-version (λ v h. h) (λ v. refl), tt));
  bytes = bytes;
}
  where
    back : (o : Option (StateId × Write)) (rest : List ℕ) → IsTrue (is_found o) → found_front (found_spelling o ++ rest) ≡ Some (o, rest)
    back None rest h = refl
    back (Some version) rest h = made-back reads-version Some version rest h

    bytes : (o : Option (StateId × Write)) → IsTrue (is_found o) → IsTrue (are_bytes (found_spelling o))
    bytes None h = refl
    bytes (Some version) h = reads-version.bytes version h

reads-entry : Reads is_entry entry_spelling entry_front
reads-entry = reads-made (λ p. record { key = p.0; value = p.1 }) (λ e. (e.key, e.value)) is_entry entry_spelling
    (λ e h. refl) (λ p. refl) (λ p. refl) (reads-both reads-key reads-value)

first_entries_fit : (p : ℕ × List Entry) → IsTrue (are_first_entries p.0 p.1) → IsTrue (is_u32 p.0 && (is_u16 (length p.1) && list_all is_entry p.1))
first_entries_fit p h =
    let es = p.1 in
    let some = and_parts (is_u32 p.0 && are_page_entries es) (is_some_of p.0 (length es)) h in
    let parts = and_parts (is_u32 p.0) (are_page_entries es) some.0 in
    let sized = and_parts (list_all is_entry es && are_ascending_keys (map (λ e. e.key) es)) (nat_le (entries_length es) 65536) parts.1 in
    let ordered = and_parts (list_all is_entry es) (are_ascending_keys (map (λ e. e.key) es)) sized.0 in
    and_from (is_u32 p.0) (is_u16 (length es) && list_all is_entry es) parts.0
    (and_from (is_u16 (length es)) (list_all is_entry es) (few es sized.1) ordered.0)
  where
    three : (es : List Entry) → 3 * length es ≤ entries_length es
    three [] = omega arith
    three (e ∷ es) = omega (arith, three es)

    few : (es : List Entry) → IsTrue (nat_le (entries_length es) 65536) → IsTrue (is_u16 (length es))
    few es h = lt-ltb (length es) 65536 (omega (arith, three es, leb-true (entries_length es) 65536 h))

reads-first_entries : Reads {A = ℕ × List Entry} (λ p. are_first_entries p.0 p.1) (λ p. first_entries_spelling p.0 p.1) first_entries_front
reads-first_entries = reads-only_if (λ p. are_first_entries p.0 p.1) (λ p. are_first_entries p.0 p.1) (λ p h. (first_entries_fit p h, h)) (λ p v t. t)
    (reads-both reads-u32 (reads-counted reads-u16 (many-times reads-entry)))

few_counted : (xs : List StateId) → IsTrue (are_few xs) → IsTrue (is_u8 (length xs) && list_all is_id xs)
few_counted xs h =
    let parts = and_parts (nat_le (length xs) 8) (list_all is_id xs) (first (nat_le (length xs) 8 && list_all is_id xs) (are_ascending xs) h) in
    and_from (is_u8 (length xs)) (list_all is_id xs) (fits (length xs) 8 256 parts.0 (omega arith)) parts.1

reads-few : Reads are_few parents_spelling few_front
reads-few = reads-only_if are_few are_few (λ xs h. (few_counted xs h, h)) (λ xs v t. t) (reads-counted reads-u8 (many-times reads-id))

written_counted : (ks : List (List ℕ)) → IsTrue (are_written ks) → IsTrue (is_u8 (length ks) && list_all is_key ks)
written_counted ks h =
    let parts = and_parts (nat_le (length ks) 64) (list_all is_key ks) (first (nat_le (length ks) 64 && list_all is_key ks) (are_ascending_keys ks) h) in
    and_from (is_u8 (length ks)) (list_all is_key ks) (fits (length ks) 64 256 parts.0 (omega arith)) parts.1

reads-written : Reads are_written written_spelling written_front
reads-written = reads-only_if are_written are_written (λ ks h. (written_counted ks h, h)) (λ ks v t. t) (reads-counted reads-u8 (many-times reads-key))

reads-fork_read : Reads is_fork_read fork_read_spelling fork_read_front
reads-fork_read = reads-made (λ p. record { fork_point = p.0; found = p.1 }) (λ r. (r.fork_point, r.found)) is_fork_read fork_read_spelling
    (λ r h. refl) (λ p. refl) (λ p. refl) (reads-both reads-id reads-found)

fork_reads_counted : (reads : List ForkRead) → IsTrue (are_fork_reads reads) → IsTrue (is_u8 (length reads) && list_all is_fork_read reads)
fork_reads_counted reads h =
    let parts = and_parts (is_within 1 8 (length reads)) (list_all is_fork_read reads) h in
    and_from (is_u8 (length reads)) (list_all is_fork_read reads)
    (fits (length reads) 8 256 (second (nat_le 1 (length reads)) (nat_le (length reads) 8) parts.0) (omega arith)) parts.1

reads-fork_reads : Reads are_fork_reads fork_reads_spelling fork_reads_front
reads-fork_reads = reads-only_if are_fork_reads are_fork_reads (λ reads h. (fork_reads_counted reads h, h)) (λ reads v t. t)
    (reads-counted reads-u8 (many-times reads-fork_read))

-- the parts of a session, as they are read
abbrev SessionParts : Type 0
SessionParts = ((((ℕ × Bool) × StateId) × StateId) × List StateId) × Bool

abbrev are_session_parts : SessionParts → Bool
are_session_parts p = is_u16 p.0.0.0.0.0 && true && is_id p.0.0.0.1 && is_id p.0.0.1 && are_few p.0.1 && true

session-parts : (p : SessionParts) → is_session (record { number = p.0.0.0.0.0; follow = p.0.0.0.0.1; ceiling = p.0.0.0.1; last = p.0.0.1; reads = p.0.1; holds = p.1 })
    ≡ are_session_parts p
session-parts p = and-true-parts (is_u16 p.0.0.0.0.0) (is_id p.0.0.0.1) (is_id p.0.0.1) (are_few p.0.1)
  where
    and-true-parts : (a b c d : Bool) → (a && b && c && d) ≡ (a && true && b && c && d && true)
    and-true-parts true true true true = refl
    and-true-parts true true true false = refl
    and-true-parts true true false d = refl
    and-true-parts true false c d = refl
    and-true-parts false b c d = refl

reads-session : Reads is_session session_spelling session_front
reads-session = reads-made
    (λ (p : SessionParts). record { number = p.0.0.0.0.0; follow = p.0.0.0.0.1; ceiling = p.0.0.0.1; last = p.0.0.1; reads = p.0.1; holds = p.1 })
    (λ (s : SessionLine). (((((s.number, s.follow), s.ceiling), s.last), s.reads), s.holds)) is_session session_spelling
    (λ s h. refl) session-parts (λ p. refl)
    (reads-both (reads-both (reads-both (reads-both (reads-both reads-u16 reads-flag) reads-id) reads-id) reads-few) reads-flag)

first_sessions_fit : (p : ℕ × List SessionLine) → IsTrue (are_first_sessions p.0 p.1) →
    IsTrue (is_u32 p.0 && (is_u16 (length p.1) && list_all is_session p.1))
first_sessions_fit p h =
    let ordered = and_parts (is_u32 p.0 && list_all is_session p.1 && is_first_of p.0 (length p.1)) (are_ascending_numbers (map (λ s. s.number) p.1)) h in
    let number = and_parts (is_u32 p.0 && list_all is_session p.1) (is_first_of p.0 (length p.1)) ordered.0 in
    let parts = and_parts (is_u32 p.0) (list_all is_session p.1) number.0 in
    and_from (is_u32 p.0) (is_u16 (length p.1) && list_all is_session p.1) parts.0
    (and_from (is_u16 (length p.1)) (list_all is_session p.1) (number-fits p.0 (length p.1) number.1) parts.1)

reads-first_sessions : Reads {A = ℕ × List SessionLine} (λ p. are_first_sessions p.0 p.1) (λ p. first_sessions_spelling p.0 p.1) first_sessions_front
reads-first_sessions = reads-only_if (λ p. are_first_sessions p.0 p.1) (λ p. are_first_sessions p.0 p.1) (λ p h. (first_sessions_fit p h, h)) (λ p v t. t)
    (reads-both reads-u32 (reads-counted reads-u16 (many-times reads-session)))

-- numbers of the widths of limits
abbrev fit_limits : Limits → Bool
fit_limits l = is_u16 l.sites && is_u32 l.max_kept && is_u32 l.max_path && is_u16 l.max_sessions && is_u64 l.max_trail

reads-limits : Reads fit_limits limits_spelling limits_front
reads-limits = reads-made
    (λ p. record { sites = p.0.0.0.0; max_kept = p.0.0.0.1; max_path = p.0.0.1; max_sessions = p.0.1; max_trail = p.1 })
    (λ l. ((((l.sites, l.max_kept), l.max_path), l.max_sessions), l.max_trail)) fit_limits limits_spelling
    (λ l h. refl) (λ p. refl) (λ p. refl) (reads-both (reads-both (reads-both (reads-both reads-u16 reads-u32) reads-u32) reads-u16) reads-u64)

-- limits that a site may have fit their widths
pub limits-fit : (l : Limits) → IsTrue (are_limits l) → IsTrue (fit_limits l)
limits-fit l h =
    let sites = is_within 1 16 l.sites in
    let kept = is_within 1 65000 l.max_kept in
    let pairs = is_within 1 65000 l.max_path in
    let sessions = is_within 1 4096 l.max_sessions in
    let a = and_parts (sites && kept && pairs && sessions) (nat_le l.max_trail 1073741824) h in
    let b = and_parts (sites && kept && pairs) sessions a.0 in
    let c = and_parts (sites && kept) pairs b.0 in
    let d = and_parts sites kept c.0 in
    and_from (is_u16 l.sites && is_u32 l.max_kept && is_u32 l.max_path && is_u16 l.max_sessions) (is_u64 l.max_trail)
    (and_from (is_u16 l.sites && is_u32 l.max_kept && is_u32 l.max_path) (is_u16 l.max_sessions)
    (and_from (is_u16 l.sites && is_u32 l.max_kept) (is_u32 l.max_path)
    (and_from (is_u16 l.sites) (is_u32 l.max_kept) (most l.sites 16 65536 d.0 (omega arith)) (most l.max_kept 65000 4294967296 d.1 (omega arith)))
    (most l.max_path 65000 4294967296 c.1 (omega arith)))
    (most l.max_sessions 4096 65536 b.1 (omega arith)))
    (fits l.max_trail 1073741824 18446744073709551616 a.1 (omega arith))
  where
    most : (n top bound : ℕ) → IsTrue (is_within 1 top n) → top < bound → IsTrue (nat_lt n bound)
    most n top bound h below = fits n top bound (second (nat_le 1 n) (nat_le n top) h) below

place_fits : (p : Limits × ℕ) → IsTrue (is_place p.0 p.1) → IsTrue (fit_limits p.0 && is_u16 p.1)
place_fits p h =
    let parts = and_parts (are_limits p.0) (is_within 1 p.0.sites p.1) h in
    let sites = limits-fit p.0 parts.0 in
    and_from (fit_limits p.0) (is_u16 p.1) sites (below p.0 p.1 parts.0 (second (nat_le 1 p.1) (nat_le p.1 p.0.sites) parts.1))
  where
    below : (l : Limits) (own : ℕ) → IsTrue (are_limits l) → IsTrue (nat_le own l.sites) → IsTrue (is_u16 own)
    below l own h few =
        let sites = is_within 1 16 l.sites in
        let kept = is_within 1 65000 l.max_kept in
        let pairs = is_within 1 65000 l.max_path in
        let sessions = is_within 1 4096 l.max_sessions in
        let a = first (sites && kept && pairs && sessions) (nat_le l.max_trail 1073741824) h in
        let d = first sites kept (first (sites && kept) pairs (first (sites && kept && pairs) sessions a)) in
        lt-ltb own 65536 (omega (arith, leb-true own l.sites few, leb-true l.sites 16 (second (nat_le 1 l.sites) (nat_le l.sites 16) d)))

reads-place : Reads {A = Limits × ℕ} (λ p. is_place p.0 p.1) (λ p. place_spelling p.0 p.1) place_front
reads-place = reads-only_if (λ p. is_place p.0 p.1) (λ p. is_place p.0 p.1) (λ p h. (place_fits p h, h)) (λ p v t. t) (reads-both reads-limits reads-u16)

-- ===== Refusals

abbrev is_many : ℕ → Bool
is_many n = is_u32 n && nat_lt 8 n

abbrev many_spelling : ℕ → List ℕ
many_spelling n = 4 ∷ u32_spelling n

reads-more : Reads is_many u32_spelling (only_if (nat_lt 8) u32_front)
reads-more = reads-only_if (nat_lt 8) is_many (λ n h. and_parts (is_u32 n) (nat_lt 8 n) h) (λ n h t. and_from (is_u32 n) (nat_lt 8 n) h t) reads-u32

reads-many : Reads is_many many_spelling (by_code fork_points_rows)
reads-many = record {
  back = λ n rest h. made-back reads-more (λ m. m) n rest h;
  only = by_code-only is_many many_spelling fork_points_rows (row-made is_many many_spelling 4 (λ m. m) reads-more (λ n h. h) (λ n. refl), tt);
  bytes = reads-more.bytes;
}

reads-denial : Reads is_denial denial_spelling denial_front
reads-denial = record { back = back; only = by_code-only is_denial denial_spelling denial_rows rows; bytes = bytes }
  where
    rows : RowsRead is_denial denial_spelling denial_rows
    rows = (
      row-nothing_but is_denial denial_spelling 1 Malformed refl refl,
      (
        row-made is_denial denial_spelling 9 Unknown reads-id (λ a h. h) (λ a. refl),
        (
          row-made is_denial denial_spelling 19 Collected reads-id (λ a h. h) (λ a. refl),
          (row-made is_denial denial_spelling 8 ForkPoints reads-many (λ a h. h) (λ a. refl), tt),
        ),
      ),
    )

    back : (d : Denial) (rest : List ℕ) → IsTrue (is_denial d) → denial_front (denial_spelling d ++ rest) ≡ Some (d, rest)
    back Malformed rest h = refl
    back (Unknown state) rest h = made-back reads-id Unknown state rest h
    back (Collected state) rest h = made-back reads-id Collected state rest h
    back (ForkPoints n) rest h = made-back reads-many ForkPoints n rest h

    bytes : (d : Denial) → IsTrue (is_denial d) → IsTrue (are_bytes (denial_spelling d))
    bytes Malformed h = refl
    bytes (Unknown state) h = reads-id.bytes state h
    bytes (Collected state) h = reads-id.bytes state h
    bytes (ForkPoints n) h = reads-many.bytes n h

-- ===== Answers

-- the fields of a record, as they are read
abbrev RecordParts : Type 0
RecordParts = (((ℕ × List StateId) × List StateId) × List StateId) × List (List ℕ)

abbrev are_record_parts : RecordParts → Bool
are_record_parts p = is_u64 p.0.0.0.0 && are_few p.0.0.0.1 && are_few p.0.0.1 && are_children p.0.1 && are_written p.1

abbrev record_parts_spelling : RecordParts → List ℕ
record_parts_spelling p =
    u64_spelling p.0.0.0.0 ++ parents_spelling p.0.0.0.1 ++ parents_spelling p.0.0.1 ++ children_spelling p.0.1 ++ written_spelling p.1

reads-record_parts : Reads are_record_parts record_parts_spelling (both (both (both (both u64_front few_front) few_front) children_front) written_front)
reads-record_parts = reads-both (reads-both (reads-both (reads-both reads-u64 reads-few) reads-few) reads-children) reads-written

-- those of a site
abbrev SiteParts : Type 0
SiteParts = ((ℕ × (Limits × ℕ)) × ℕ) × ℕ

abbrev are_site_parts : SiteParts → Bool
are_site_parts p = is_u16 p.0.0.0 && is_place p.0.0.1.0 p.0.0.1.1 && is_u64 p.0.1 && is_u32 p.1

abbrev site_parts_spelling : SiteParts → List ℕ
site_parts_spelling p = u16_spelling p.0.0.0 ++ place_spelling p.0.0.1.0 p.0.0.1.1 ++ u64_spelling p.0.1 ++ u32_spelling p.1

reads-site_parts : Reads are_site_parts site_parts_spelling (both (both (both u16_front place_front) u64_front) u32_front)
reads-site_parts = reads-both (reads-both (reads-both reads-u16 reads-place) reads-u64) reads-u32

abbrev SessionsParts : Type 0
SessionsParts = StateId × (ℕ × List SessionLine)

abbrev are_sessions_parts : SessionsParts → Bool
are_sessions_parts p = is_id p.0 && are_first_sessions p.1.0 p.1.1

abbrev sessions_parts_spelling : SessionsParts → List ℕ
sessions_parts_spelling p = id_spelling p.0 ++ first_sessions_spelling p.1.0 p.1.1

reads-sessions_parts : Reads are_sessions_parts sessions_parts_spelling (both id_front first_sessions_front)
reads-sessions_parts = reads-both reads-id reads-first_sessions

pub reads-answer : Reads is_answer answer_spelling answer_front
reads-answer = record { back = back; only = by_code-only is_answer answer_spelling answer_rows rows; bytes = bytes }
  where
    rows : RowsRead is_answer answer_spelling answer_rows
    rows = (
      row-made is_answer answer_spelling 64 Read reads-found (λ a h. h) (λ a. refl),
      (
        row-made is_answer answer_spelling 65 (λ p. TheKeys p.0 p.1) reads-first_keys (λ a h. h) (λ a. refl),
        (
          row-made is_answer answer_spelling 66 (λ p. Entries p.0 p.1) reads-first_entries (λ a h. h) (λ a. refl),
          (
            row-made is_answer answer_spelling 67 (λ p. TheRecord p.0.0.0.0 p.0.0.0.1 p.0.0.1 p.0.1 p.1) reads-record_parts (λ a h. h) (λ a. refl),
            (
              row-made is_answer answer_spelling 68 ForkReads reads-fork_reads (λ a h. h) (λ a. refl),
              (
                row-made is_answer answer_spelling 69 (λ p. TheSessions p.0 p.1.0 p.1.1) reads-sessions_parts (λ a h. h) (λ a. refl),
                (
                  row-made is_answer answer_spelling 70 (λ p. OfSite p.0.0.0 p.0.0.1.0 p.0.0.1.1 p.0.1 p.1) reads-site_parts (λ a h. h) (λ a. refl),
                  (row-made is_answer answer_spelling 21 Refused reads-denial (λ a h. h) (λ a. refl), tt),
                ),
              ),
            ),
          ),
        ),
      ),
    )

    back : (a : Answered) (rest : List ℕ) → IsTrue (is_answer a) → answer_front (answer_spelling a ++ rest) ≡ Some (a, rest)
    back (Read found) rest h = made-back reads-found Read found rest h
    back (TheKeys total some) rest h = made-back reads-first_keys (λ p. TheKeys p.0 p.1) (total, some) rest h
    back (Entries total some) rest h = made-back reads-first_entries (λ p. Entries p.0 p.1) (total, some) rest h
    back (TheRecord arrival parents kept_parents kept_children keys) rest h =
        made-back reads-record_parts (λ p. TheRecord p.0.0.0.0 p.0.0.0.1 p.0.0.1 p.0.1 p.1) ((((arrival, parents), kept_parents), kept_children), keys) rest h
    back (ForkReads reads) rest h = made-back reads-fork_reads ForkReads reads rest h
    back (TheSessions floor total some) rest h = made-back reads-sessions_parts (λ p. TheSessions p.0 p.1.0 p.1.1) (floor, (total, some)) rest h
    back (OfSite version limits own known kept) rest h =
        made-back reads-site_parts (λ p. OfSite p.0.0.0 p.0.0.1.0 p.0.0.1.1 p.0.1 p.1) (((version, (limits, own)), known), kept) rest h
    back (Refused why) rest h = made-back reads-denial Refused why rest h

    bytes : (a : Answered) → IsTrue (is_answer a) → IsTrue (are_bytes (answer_spelling a))
    bytes (Read found) h = reads-found.bytes found h
    bytes (TheKeys total some) h = reads-first_keys.bytes (total, some) h
    bytes (Entries total some) h = reads-first_entries.bytes (total, some) h
    bytes (TheRecord arrival parents kept_parents kept_children keys) h =
        reads-record_parts.bytes ((((arrival, parents), kept_parents), kept_children), keys) h
    bytes (ForkReads reads) h = reads-fork_reads.bytes reads h
    bytes (TheSessions floor total some) h = reads-sessions_parts.bytes (floor, (total, some)) h
    bytes (OfSite version limits own known kept) h = reads-site_parts.bytes (((version, (limits, own)), known), kept) h
    bytes (Refused why) h = reads-denial.bytes why h

-- ===== The laws

pub questions-have-one-spelling : QuestionsHaveOneSpelling
questions-have-one-spelling = one_spelling reads-question

pub answers-have-one-spelling : AnswersHaveOneSpelling
answers-have-one-spelling = one_spelling reads-answer
