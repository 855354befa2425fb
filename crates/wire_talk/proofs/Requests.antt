-- Requests are read as they are spelled.
use Rattle.std.proofs.Common.{◌≡◌, ℕ, suc, ◌<◌, ◌≤◌, Bool, true, false, ◌==◌, ◌&&◌, IsTrue, List, [], ◌∷◌, ◌++◌, length, nat_le, nat_lt, bit_and}
use Rattle.std.proofs.Common.{if◌then◌else◌, Option, Some, ap, sym, ◌∙◌, refl, arith}
use Rattle.std.proofs.lemmas.Bool.{and_parts, and_from}
use Rattle.std.proofs.lemmas.Bool.Decides.{nat_tests}
use Rattle.std.specs.List.{list_all}
use Rattle.tardis_base.specs.declared.ids.StateId.{StateId}
use Rattle.tardis_base.specs.declared.requests.Begin.{Begin}
use Rattle.tardis_base.specs.declared.requests.Begin.TheVariants.{Any, Ancestor, Parent, At}
use Rattle.tardis_base.specs.declared.requests.MergeOf.{MergeOf}
use Rattle.tardis_base.specs.declared.requests.MergeOf.TheVariants.{Leaves as AllLeaves, States as TheseStates}
use Rattle.tardis_base.specs.declared.requests.Request.{Request}
use Rattle.tardis_base.specs.declared.requests.Request.TheVariants.{Open, Begin as BeginAt, Get, Put, Delete, Commit, Abort, BeginMerge, ForkPoints}
use Rattle.tardis_base.specs.declared.requests.Request.TheVariants.{Conflicts, GetFor, Ceiling, Raise, RaiseAuto, Tidy, Stat, Show, Leaves, Pull, Deliver}
use Rattle.tardis_base.specs.declared.requests.Request.TheVariants.{Close, Settle}
use Rattle.tardis_base.specs.Valid.{is_u16, is_u32, is_within, are_bytes, is_id}
use Rattle.wire_item.specs.Spellings.{u8_spelling, u16_spelling}
use Rattle.wire_item.specs.Valid.{is_u8}
use Rattle.wire_item.proofs.Ways.{Reads, reads-both, reads-made, reads-only_if, reads-counted, many-times, many-bytes, RowsRead, row-nothing_but, row-made}
use Rattle.wire_item.proofs.Ways.{by_code-only, made-back}
use Rattle.wire_item.proofs.Numbers.{reads-u8, reads-u16, reads-u32}
use Rattle.tardis_base.proofs.TestParts.{first, second}
use Rattle.wire_item.proofs.Things.{fits, reads-id, reads-key, reads-value, reads-item}
use Rattle.wire_talk.specs.Spellings.{flag_spelling, begin_spelling, merge_of_spelling, after_spelling, counts_spelling, request_spelling}
use Rattle.wire_talk.specs.Valid.{is_begin, is_commit, is_merge_of, is_after, are_counts, is_request}
use Rattle.wire_talk.specs.RequestReadings.{flag_rows, flag_front, begin_rows, begin_front, merge_of, merge_of_front, after_front, counts_front, commit_front}
use Rattle.wire_talk.specs.RequestReadings.{request_rows, request_front}

pub reads-flag : Reads (λ flag. true) flag_spelling flag_front
reads-flag = record { back = back; only = by_code-only (λ flag. true) flag_spelling flag_rows rows; bytes = bytes }
  where
    rows : RowsRead (λ flag. true) flag_spelling flag_rows
    rows = (row-nothing_but (λ flag. true) flag_spelling 0 false refl refl, (row-nothing_but (λ flag. true) flag_spelling 1 true refl refl, tt))

    back : (flag : Bool) (rest : List ℕ) → IsTrue true → flag_front (flag_spelling flag ++ rest) ≡ Some (flag, rest)
    back true rest h = refl
    back false rest h = refl

    bytes : (flag : Bool) → IsTrue true → IsTrue (are_bytes (flag_spelling flag))
    bytes true h = refl
    bytes false h = refl

pub reads-begin : Reads is_begin begin_spelling begin_front
reads-begin = record { back = back; only = by_code-only is_begin begin_spelling begin_rows rows; bytes = bytes }
  where
    rows : RowsRead is_begin begin_spelling begin_rows
    rows = (
      row-nothing_but is_begin begin_spelling 0 Any refl refl,
      (
        row-nothing_but is_begin begin_spelling 1 Ancestor refl refl,
        (
          row-nothing_but is_begin begin_spelling 2 Parent refl refl,
          (row-made is_begin begin_spelling 3 At reads-id (λ a h. h) (λ a. refl), tt),
        ),
      ),
    )

    back : (x : Begin) (rest : List ℕ) → IsTrue (is_begin x) → begin_front (begin_spelling x ++ rest) ≡ Some (x, rest)
    back Any rest h = refl
    back Ancestor rest h = refl
    back Parent rest h = refl
    back (At state) rest h = made-back reads-id At state rest h

    bytes : (x : Begin) → IsTrue (is_begin x) → IsTrue (are_bytes (begin_spelling x))
    bytes Any h = refl
    bytes Ancestor h = refl
    bytes Parent h = refl
    bytes (At state) h = reads-id.bytes state h

some_fit : (n : ℕ) → is_within 1 255 (suc n) ≡ is_u8 (suc n)
some_fit n = grind (arith, nat_tests)

merge_of-valid : (xs : List StateId) → is_merge_of (merge_of xs) ≡ (is_u8 (length xs) && list_all is_id xs)
merge_of-valid [] = refl
merge_of-valid (x ∷ xs) = ap (λ t. t && list_all is_id (x ∷ xs)) (some_fit (length xs))

merge_of-spelling : (xs : List StateId) → merge_of_spelling (merge_of xs) ≡ u8_spelling (length xs)
    ++ Rattle.std.specs.Prelude.flat_map Rattle.wire_item.specs.Spellings.id_spelling xs
merge_of-spelling [] = refl
merge_of-spelling (x ∷ xs) = refl

states_of : MergeOf → List StateId
states_of AllLeaves = []
states_of (TheseStates xs) = xs

states_of-again : (of : MergeOf) → IsTrue (is_merge_of of) → merge_of (states_of of) ≡ of
unfolding states_of
states_of-again AllLeaves h = refl
states_of-again (TheseStates []) h = absurd (cc)
states_of-again (TheseStates (x ∷ xs)) h = refl

pub reads-merge_of : Reads is_merge_of merge_of_spelling merge_of_front
reads-merge_of = reads-made merge_of states_of is_merge_of merge_of_spelling states_of-again merge_of-valid merge_of-spelling
    (reads-counted reads-u8 (many-times reads-id))

after_counted : (bytes : List ℕ) → IsTrue (is_after bytes) → IsTrue (is_u8 (length bytes) && are_bytes bytes)
after_counted bytes h =
    let parts = and_parts (nat_le (length bytes) 128) (are_bytes bytes) h in
    and_from (is_u8 (length bytes)) (are_bytes bytes) (fits (length bytes) 128 256 parts.0 (omega arith)) parts.1

pub reads-after : Reads is_after after_spelling after_front
reads-after = reads-only_if is_after is_after (λ bytes h. (after_counted bytes h, h)) (λ bytes v t. t) (reads-counted reads-u8 many-bytes)

counts_counted : (counts : List ℕ) → IsTrue (are_counts counts) → IsTrue (is_u8 (length counts) && list_all is_u32 counts)
counts_counted counts h =
    let parts = and_parts (is_within 1 16 (length counts)) (list_all is_u32 counts) h in
    and_from (is_u8 (length counts)) (list_all is_u32 counts)
    (fits (length counts) 16 256 (second (nat_le 1 (length counts)) (nat_le (length counts) 16) parts.0) (omega arith)) parts.1

pub reads-counts : Reads are_counts counts_spelling counts_front
reads-counts = reads-only_if are_counts are_counts (λ counts h. (counts_counted counts h, h)) (λ counts v t. t) (reads-counted reads-u8 (many-times reads-u32))

-- four flags and the number of branches
abbrev pub is_pair_of_commit : ℕ × ℕ → Bool
is_pair_of_commit p = is_commit (record { 0 = p.0 }) p.1

commit_fits : (p : ℕ × ℕ) → IsTrue (is_pair_of_commit p) → IsTrue (is_u8 p.0 && is_u16 p.1)
commit_fits p h =
    let parts = and_parts (nat_lt p.0 16) (is_u16 p.1) (first (nat_lt p.0 16 && is_u16 p.1) _ h) in
    and_from (is_u8 p.0) (is_u16 p.1) (Rattle.std.proofs.Common.lt-ltb p.0 256 (omega (arith, Rattle.std.proofs.Common.ltb-true p.0 16 parts.0))) parts.1

pub reads-commit : Reads is_pair_of_commit (λ p. u8_spelling p.0 ++ u16_spelling p.1) commit_front
reads-commit = reads-only_if is_pair_of_commit is_pair_of_commit (λ p h. (commit_fits p h, h)) (λ p v t. t) (reads-both reads-u8 reads-u16)

pub reads-request : Reads is_request request_spelling request_front
reads-request = record { back = back; only = by_code-only is_request request_spelling request_rows rows; bytes = bytes }
  where
    rows : RowsRead is_request request_spelling request_rows
    rows = (
      row-made is_request request_spelling 1 Open reads-flag (λ a h. h) (λ a. refl),
      (
        row-made is_request request_spelling 2 BeginAt reads-begin (λ a h. h) (λ a. refl),
        (
          row-made is_request request_spelling 3 Get reads-key (λ a h. h) (λ a. refl),
          (
            row-made is_request request_spelling 4 (λ p. Put p.0 p.1) (reads-both reads-key reads-value) (λ a h. h) (λ a. refl),
            (
              row-made is_request request_spelling 5 Delete reads-key (λ a h. h) (λ a. refl),
              (
                row-made is_request request_spelling 6 (λ p. Commit (record { 0 = p.0 }) p.1) reads-commit (λ a h. h) (λ a. refl),
                (
                  row-nothing_but is_request request_spelling 7 Abort refl refl,
                  (
                    row-made is_request request_spelling 8 BeginMerge reads-merge_of (λ a h. h) (λ a. refl),
                    (
                      row-nothing_but is_request request_spelling 9 ForkPoints refl refl,
                      (
                        row-made is_request request_spelling 10 Conflicts reads-after (λ a h. h) (λ a. refl),
                        (
                          row-made is_request request_spelling 11 (λ p. GetFor p.0 p.1) (reads-both reads-key reads-id) (λ a h. h) (λ a. refl),
                          (
                            row-made is_request request_spelling 12 Ceiling reads-id (λ a h. h) (λ a. refl),
                            (
                              row-made is_request request_spelling 13 Raise reads-id (λ a h. h) (λ a. refl),
                              (
                                row-nothing_but is_request request_spelling 14 RaiseAuto refl refl,
                                (
                                  row-made is_request request_spelling 15 Tidy reads-u16 (λ a h. h) (λ a. refl),
                                  (
                                    row-nothing_but is_request request_spelling 16 Stat refl refl,
                                    (
                                      row-made is_request request_spelling 17 Show reads-id (λ a h. h) (λ a. refl),
                                      (
                                        row-nothing_but is_request request_spelling 18 Leaves refl refl,
                                        (
                                          row-made is_request request_spelling 19 Pull reads-counts (λ a h. h) (λ a. refl),
                                          (
                                            row-made is_request request_spelling 20 Deliver reads-item (λ a h. h) (λ a. refl),
                                            (
                                              row-nothing_but is_request request_spelling 21 Close refl refl,
                                              (row-nothing_but is_request request_spelling 22 Settle refl refl, tt),
                                            ),
                                          ),
                                        ),
                                      ),
                                    ),
                                  ),
                                ),
                              ),
                            ),
                          ),
                        ),
                      ),
                    ),
                  ),
                ),
              ),
            ),
          ),
        ),
      ),
    )

    back : (x : Request) (rest : List ℕ) → IsTrue (is_request x) → request_front (request_spelling x ++ rest) ≡ Some (x, rest)
    back (Open follow) rest h = made-back reads-flag Open follow rest h
    back (BeginAt begin) rest h = made-back reads-begin BeginAt begin rest h
    back (Get key) rest h = made-back reads-key Get key rest h
    back (Put key value) rest h = made-back (reads-both reads-key reads-value) (λ p. Put p.0 p.1) (key, value) rest h
    back (Delete key) rest h = made-back reads-key Delete key rest h
    back (Commit flags k) rest h = made-back reads-commit (λ p. Commit (record { 0 = p.0 }) p.1) (flags.0, k) rest h
    back Abort rest h = refl
    back (BeginMerge of) rest h = made-back reads-merge_of BeginMerge of rest h
    back ForkPoints rest h = refl
    back (Conflicts after) rest h = made-back reads-after Conflicts after rest h
    back (GetFor key state) rest h = made-back (reads-both reads-key reads-id) (λ p. GetFor p.0 p.1) (key, state) rest h
    back (Ceiling state) rest h = made-back reads-id Ceiling state rest h
    back (Raise state) rest h = made-back reads-id Raise state rest h
    back RaiseAuto rest h = refl
    back (Tidy n) rest h = made-back reads-u16 Tidy n rest h
    back Stat rest h = refl
    back (Show state) rest h = made-back reads-id Show state rest h
    back Leaves rest h = refl
    back (Pull counts) rest h = made-back reads-counts Pull counts rest h
    back (Deliver item) rest h = made-back reads-item Deliver item rest h
    back Close rest h = refl
    back Settle rest h = refl

    bytes : (x : Request) → IsTrue (is_request x) → IsTrue (are_bytes (request_spelling x))
    bytes (Open follow) h = reads-flag.bytes follow h
    bytes (BeginAt begin) h = reads-begin.bytes begin h
    bytes (Get key) h = reads-key.bytes key h
    bytes (Put key value) h = (reads-both reads-key reads-value).bytes (key, value) h
    bytes (Delete key) h = reads-key.bytes key h
    bytes (Commit flags k) h = reads-commit.bytes (flags.0, k) h
    bytes Abort h = refl
    bytes (BeginMerge of) h = reads-merge_of.bytes of h
    bytes ForkPoints h = refl
    bytes (Conflicts after) h = reads-after.bytes after h
    bytes (GetFor key state) h = (reads-both reads-key reads-id).bytes (key, state) h
    bytes (Ceiling state) h = reads-id.bytes state h
    bytes (Raise state) h = reads-id.bytes state h
    bytes RaiseAuto h = refl
    bytes (Tidy n) h = reads-u16.bytes n h
    bytes Stat h = refl
    bytes (Show state) h = reads-id.bytes state h
    bytes Leaves h = refl
    bytes (Pull counts) h = reads-counts.bytes counts h
    bytes (Deliver item) h = reads-item.bytes item h
    bytes Close h = refl
    bytes Settle h = refl
