-- How many bytes answers are spelled in, and which answers fit a frame.
use Rattle.std.proofs.Common.{◌≡◌, ℕ, ◌*◌, ◌≤◌, ◌<◌, ◌&&◌, List, [], ◌∷◌, ◌++◌, length, map, nat_le, IsTrue, Option, Some, None, refl, arith}
use Rattle.std.proofs.Common.{leb-true, eqb-true, length-append}
use Rattle.std.proofs.lemmas.Bool.{and_parts}
use Rattle.std.specs.Prelude.{flat_map, min}
use Rattle.std.specs.List.{list_all}
use Rattle.tardis_base.specs.declared.ids.StateId.{StateId}
use Rattle.tardis_base.specs.declared.records.Write.{Write}
use Rattle.tardis_base.specs.declared.records.Write.TheVariants.{Put, Delete}
use Rattle.tardis_base.specs.Ids.{are_ascending}
use Rattle.tardis_base.specs.Keys.{are_ascending_keys}
use Rattle.tardis_base.specs.Valid.{is_u16, is_u32, is_u64, is_within, are_bytes, is_id, is_key, is_value, is_write}
use Rattle.tardis_base.proofs.TestParts.{first, second}
use Rattle.wire_item.specs.Spellings.{id_spelling, key_spelling, value_spelling, parents_spelling}
use Rattle.wire_item.proofs.Lengths.{ids-length}
use Rattle.wire_talk.specs.Spellings.{children_spelling, flag_spelling}
use Rattle.wire_talk.specs.Valid.{is_first_of, are_children}
use Rattle.wire_item.specs.Valid.{are_ascending_numbers}
use Rattle.plain_questions.specs.declared.questions.Entry.{Entry}
use Rattle.plain_questions.specs.declared.questions.ForkRead.{ForkRead}
use Rattle.plain_questions.specs.declared.questions.SessionLine.{SessionLine}
use Rattle.plain_questions.specs.declared.questions.Denial.{Denial}
use Rattle.plain_questions.specs.declared.questions.Denial.TheVariants.{Malformed, Unknown, Collected, ForkPoints}
use Rattle.plain_questions.specs.declared.questions.Answered.{Answered}
use Rattle.plain_questions.specs.declared.questions.Answered.TheVariants.{Read, Keys as TheKeys, Entries, Record as TheRecord, ForkReads, Sessions as TheSessions}
use Rattle.plain_questions.specs.declared.questions.Answered.TheVariants.{Site as OfSite, Refused}
use Rattle.plain_questions.specs.Answer.{entry_length, entries_length}
use Rattle.plain_questions.specs.Spellings.{found_spelling, entry_spelling, written_spelling, fork_read_spelling, session_spelling, answer_spelling}
use Rattle.plain_questions.specs.Valid.{is_found, is_entry, are_page_entries, is_some_of, are_first_entries, are_few, are_written, is_fork_read, is_session, is_answer}

-- ===== Parts

key-length : (k : List ℕ) → IsTrue (is_key k) → length k ≤ 128
key-length k h =
    let within = first (is_within 1 128 (length k)) (are_bytes k) h in
    leb-true (length k) 128 (second (nat_le 1 (length k)) (nat_le (length k) 128) within)

value-length : (v : List ℕ) → IsTrue (is_value v) → length v ≤ 4096
value-length v h = leb-true (length v) 4096 (first (nat_le (length v) 4096) (are_bytes v) h)

keys-length : (ks : List (List ℕ)) → IsTrue (list_all is_key ks) → length (flat_map key_spelling ks) ≤ 129 * length ks
keys-length [] h = omega arith
keys-length (k ∷ ks) h =
    let parts = and_parts (is_key k) (list_all is_key ks) h in
    omega (arith, length-append (key_spelling k) (flat_map key_spelling ks), key-length k parts.0, keys-length ks parts.1)

first-length : (total number : ℕ) → IsTrue (is_first_of total number) → number ≤ 256
first-length total number h = let e = eqb-true number (min total 256) h in omega arith

few-length : (xs : List StateId) → IsTrue (are_few xs) → length xs ≤ 8
few-length xs h =
    leb-true (length xs) 8
    (first (nat_le (length xs) 8) (list_all is_id xs) (first (nat_le (length xs) 8 && list_all is_id xs) (are_ascending xs) h))

-- a key and its value are at most so long
pub entry-most : (e : Entry) → IsTrue (is_entry e) → entry_length e ≤ 4227
entry-most e h =
    let parts = and_parts (is_key e.key) (is_value e.value) h in
    omega (arith, key-length e.key parts.0, value-length e.value parts.1)

-- each entry takes three bytes at least
pub entries-number : (es : List Entry) → 3 * length es ≤ entries_length es
entries-number [] = omega arith
entries-number (e ∷ es) = omega (arith, entries-number es)

-- so the first entries of so many are fewer than 65,536
pub entries-few : (total : ℕ) (es : List Entry) → IsTrue (are_first_entries total es) → length es < 65536
entries-few total es h =
    let page = second (is_u32 total) (are_page_entries es) (first (is_u32 total && are_page_entries es) (is_some_of total (length es)) h) in
    let sized = second (list_all is_entry es && are_ascending_keys (map (λ e. e.key) es)) (nat_le (entries_length es) 65536) page in
    omega (arith, entries-number es, leb-true (entries_length es) 65536 sized)

entries-spelled : (es : List Entry) → length (flat_map entry_spelling es) ≡ entries_length es
entries-spelled [] = refl
entries-spelled (e ∷ es) =
    omega (
      arith,
      length-append (entry_spelling e) (flat_map entry_spelling es),
      length-append (key_spelling e.key) (value_spelling e.value),
      entries-spelled es,
    )

found-length : (o : Option (StateId × Write)) → IsTrue (is_found o) → length (found_spelling o) ≤ 4106
found-length None h = omega arith
found-length (Some v) h = go v.1 (second (is_id v.0) (is_write v.1) h)
  where
    go : (w : Write) → IsTrue (is_write w) → length (found_spelling (Some (v.0, w))) ≤ 4106
    go (Put value) h = omega (arith, value-length value h)
    go Delete h = omega arith

reads-length : (rs : List ForkRead) → IsTrue (list_all is_fork_read rs) → length (flat_map fork_read_spelling rs) ≤ 4112 * length rs
reads-length [] h = omega arith
reads-length (r ∷ rs) h =
    let parts = and_parts (is_fork_read r) (list_all is_fork_read rs) h in
    omega (
      arith,
      length-append (fork_read_spelling r) (flat_map fork_read_spelling rs),
      found-length r.found (second (is_id r.fork_point) (is_found r.found) parts.0),
      reads-length rs parts.1,
    )

session-length : (s : SessionLine) → IsTrue (is_session s) → length (session_spelling s) ≤ 65
session-length s h =
    let few = few-length s.reads (second (is_u16 s.number && is_id s.ceiling && is_id s.last) (are_few s.reads) h) in
    omega (arith, length-append (flat_map id_spelling s.reads) (flag_spelling s.holds), ids-length s.reads)

sessions-length : (ls : List SessionLine) → IsTrue (list_all is_session ls) → length (flat_map session_spelling ls) ≤ 65 * length ls
sessions-length [] h = omega arith
sessions-length (l ∷ ls) h =
    let parts = and_parts (is_session l) (list_all is_session ls) h in
    omega (arith, length-append (session_spelling l) (flat_map session_spelling ls), session-length l parts.0, sessions-length ls parts.1)

denial-length : (why : Denial) → length (answer_spelling (Refused why)) ≤ 100
denial-length Malformed = omega arith
denial-length (Unknown state) = omega arith
denial-length (Collected state) = omega arith
denial-length (ForkPoints number) = omega arith

-- ===== Answers

-- no more children are told than a site may keep states
abbrev pub HasFewChildren : Answered → Type 0
HasFewChildren (TheRecord arrival parents kept_parents kept_children keys) = length kept_children ≤ 65000
HasFewChildren _ = Unit {0}

record-length : (arrival : ℕ) (parents kept_parents kept_children : List StateId) (keys : List (List ℕ)) → IsTrue (are_few parents) → IsTrue (are_few kept_parents)
    → length kept_children ≤ 65000 → IsTrue (are_written keys)
    → length (answer_spelling (TheRecord arrival parents kept_parents kept_children keys)) ≤ 1048576
record-length arrival parents kept_parents kept_children keys p q few k =
    let counted = first (nat_le (length keys) 64 && list_all is_key keys) (are_ascending_keys keys) k in
    let number = leb-true (length keys) 64 (first (nat_le (length keys) 64) (list_all is_key keys) counted) in
    let each = keys-length keys (second (nat_le (length keys) 64) (list_all is_key keys) counted) in
    let a = parents_spelling parents in
    let b = parents_spelling kept_parents in
    let c = children_spelling kept_children in
    omega (
      arith,
      length-append (a ++ b ++ c) (written_spelling keys),
      length-append (a ++ b) c,
      length-append a b,
      ids-length parents,
      ids-length kept_parents,
      ids-length kept_children,
      few-length parents p,
      few-length kept_parents q,
    )

answer-length : (a : Answered) → HasFewChildren a → IsTrue (is_answer a) → length (answer_spelling a) ≤ 1048576
answer-length (Read found) few h = omega (arith, found-length found h)
answer-length (TheKeys total some) few h =
    let front = first (is_u32 total && list_all is_key some && is_first_of total (length some)) (are_ascending_keys some) h in
    let parts = and_parts (is_u32 total && list_all is_key some) (is_first_of total (length some)) front in
    omega (arith, first-length total (length some) parts.1, keys-length some (second (is_u32 total) (list_all is_key some) parts.0))
answer-length (Entries total some) few h =
    let page = second (is_u32 total) (are_page_entries some) (first (is_u32 total && are_page_entries some) (is_some_of total (length some)) h) in
    let sized = second (list_all is_entry some && are_ascending_keys (map (λ e. e.key) some)) (nat_le (entries_length some) 65536) page in
    omega (arith, entries-spelled some, leb-true (entries_length some) 65536 sized)
answer-length (TheRecord arrival parents kept_parents kept_children keys) few h =
    let a = and_parts (is_u64 arrival && are_few parents && are_few kept_parents && are_children kept_children) (are_written keys) h in
    let b = first (is_u64 arrival && are_few parents && are_few kept_parents) (are_children kept_children) a.0 in
    let c = and_parts (is_u64 arrival && are_few parents) (are_few kept_parents) b in
    record-length arrival parents kept_parents kept_children keys (second (is_u64 arrival) (are_few parents) c.0) c.1 few a.1
answer-length (ForkReads reads) few h =
    let parts = and_parts (is_within 1 8 (length reads)) (list_all is_fork_read reads) h in
    omega (arith, reads-length reads parts.1, leb-true (length reads) 8 (second (nat_le 1 (length reads)) (nat_le (length reads) 8) parts.0))
answer-length (TheSessions floor total some) few h =
    let lines = second (is_id floor) (is_u32 total && list_all is_session some && is_first_of total (length some) && are_ascending_numbers (map (λ s. s.number) some)) h in
    let front = first (is_u32 total && list_all is_session some && is_first_of total (length some)) (are_ascending_numbers (map (λ s. s.number) some)) lines in
    let parts = and_parts (is_u32 total && list_all is_session some) (is_first_of total (length some)) front in
    omega (arith, first-length total (length some) parts.1, sessions-length some (second (is_u32 total) (list_all is_session some) parts.0))
answer-length (OfSite version limits own known kept) few h = omega arith
answer-length (Refused why) few h = omega (arith, denial-length why)

-- the answer is one that can be spelled, and its bytes fit a frame
pub record Fits (a : Answered) : Type 0 where
  pub valid : IsTrue (is_answer a)
  pub short : length (answer_spelling a) ≤ 1048576

pub answer-fits : (a : Answered) → HasFewChildren a → IsTrue (is_answer a) → Fits a
answer-fits a few h = record { valid = h; short = answer-length a few h }
