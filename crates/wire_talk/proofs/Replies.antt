-- Refusals and replies are read as they are spelled.
use Rattle.std.proofs.Common.{◌≡◌, ℕ, Bool, true, ◌^◌, inl, inr, ◌==◌, ◌&&◌, IsTrue, List, ◌++◌, length, min, nat_le, Some, refl, arith, lt-ltb, eqb-true}
use Rattle.std.proofs.lemmas.Bool.{and_parts, and_from, or_cases}
use Rattle.std.specs.List.{list_all}
use Rattle.tardis_base.specs.declared.ids.StateId.{StateId}
use Rattle.tardis_base.specs.declared.replies.SiteLine.{SiteLine}
use Rattle.tardis_base.specs.declared.replies.Excess.{Excess}
use Rattle.tardis_base.specs.declared.replies.Excess.TheVariants.{WrittenKeys, ReadKeys, MergedStates}
use Rattle.tardis_base.specs.declared.replies.Refusal.{Refusal}
use Rattle.tardis_base.specs.declared.replies.Refusal.TheVariants.{Malformed, NotOpen, AlreadyOpen, SessionsFull, TxnOpen, NoTxn, WrongMode, TooMany, Unknown}
use Rattle.tardis_base.specs.declared.replies.Refusal.TheVariants.{Below, Comparable, NotRead, ConflictKey, OpenConflict, Branches, CeilingBack, FloorBack}
use Rattle.tardis_base.specs.declared.replies.Refusal.TheVariants.{Held, Collected, Full, PathFull, SeqEnd, BadSite, ClosedParent, OwnItem, TrailFull}
use Rattle.tardis_base.specs.declared.replies.Refusal.TheVariants.{Unsupported, NoSuchItem, BagFull}
use Rattle.tardis_base.specs.declared.replies.Reply.{Reply}
use Rattle.tardis_base.specs.declared.replies.Reply.TheVariants.{Opened, Begun, Merging, Value, Deleted, Absent, Done, Committed, Ended, States, Keys, Raised}
use Rattle.tardis_base.specs.declared.replies.Reply.TheVariants.{Tidied, Stat as Statistics, Shown, Batch, Applied, Known, Early, Closed, Refused, NoMemory}
use Rattle.tardis_base.specs.Keys.{are_ascending_keys}
use Rattle.tardis_base.specs.Valid.{is_u16, is_u32, is_within, are_bytes, is_id, is_key}
use Rattle.wire_item.specs.Spellings.{u8_spelling}
use Rattle.wire_item.specs.Valid.{is_u8}
use Rattle.wire_item.specs.Fronts.{only_if}
use Rattle.wire_item.specs.Readings.{u8_front}
use Rattle.wire_item.proofs.Ways.{Reads, reads-both, reads-made, reads-only_if, reads-counted, many-times, RowsRead, row-nothing_but, row-made, by_code-only}
use Rattle.wire_item.proofs.Ways.{made-back}
use Rattle.wire_item.proofs.Numbers.{reads-u8, reads-u16, reads-u32, reads-u64}
use Rattle.tardis_base.proofs.TestParts.{first, second}
use Rattle.wire_item.proofs.Things.{fits, reads-id, reads-key, reads-value, reads-parents, reads-batch}
use Rattle.wire_talk.specs.Spellings.{excess_spelling, refusal_spelling, first_ids_spelling, first_keys_spelling, site_line_spelling, site_lines_spelling, children_spelling}
use Rattle.wire_talk.specs.Spellings.{path_spelling, reply_spelling}
use Rattle.wire_talk.specs.Valid.{is_constraint, is_refusal, is_first_of, are_first_ids, are_first_keys, is_site_line, are_site_lines, are_children}
use Rattle.wire_talk.specs.Valid.{is_path, is_reply}
use Rattle.wire_talk.specs.ReplyReadings.{excess_rows, excess_front, refusal_rows, refusal_front, first_ids_front, first_keys_front, site_line_front, site_lines_front, children_front}
use Rattle.wire_talk.specs.ReplyReadings.{path_front, reply_rows, reply_front}

abbrev pub is_any : Excess → Bool
is_any what = true

pub reads-excess : Reads is_any excess_spelling excess_front
reads-excess = record { back = back; only = by_code-only is_any excess_spelling excess_rows rows; bytes = bytes }
  where
    rows : RowsRead is_any excess_spelling excess_rows
    rows = (
      row-nothing_but is_any excess_spelling 1 WrittenKeys refl refl,
      (row-nothing_but is_any excess_spelling 2 ReadKeys refl refl, (row-nothing_but is_any excess_spelling 3 MergedStates refl refl, tt)),
    )

    back : (x : Excess) (rest : List ℕ) → IsTrue (is_any x) → excess_front (excess_spelling x ++ rest) ≡ Some (x, rest)
    back WrittenKeys rest h = refl
    back ReadKeys rest h = refl
    back MergedStates rest h = refl

    bytes : (x : Excess) → IsTrue (is_any x) → IsTrue (are_bytes (excess_spelling x))
    bytes WrittenKeys h = refl
    bytes ReadKeys h = refl
    bytes MergedStates h = refl

constraint_fits : (constraint : ℕ) → IsTrue (is_constraint constraint) → IsTrue (is_u8 constraint)
constraint_fits constraint h =
    elim (or_cases (constraint == 4) (constraint == 8) h) as (λ _. IsTrue (is_u8 constraint)) [
      | inl e ↦ lt-ltb constraint 256 (omega (arith, eqb-true constraint 4 e))
      | inr e ↦ lt-ltb constraint 256 (omega (arith, eqb-true constraint 8 e))
    ]

pub reads-constraint : Reads is_constraint u8_spelling (only_if is_constraint u8_front)
reads-constraint = reads-only_if is_constraint is_constraint (λ constraint h. (constraint_fits constraint h, h)) (λ constraint v t. t) reads-u8

pub reads-refusal : Reads is_refusal refusal_spelling refusal_front
reads-refusal = record { back = back; only = by_code-only is_refusal refusal_spelling refusal_rows rows; bytes = bytes }
  where
    rows : RowsRead is_refusal refusal_spelling refusal_rows
    rows = (
      row-nothing_but is_refusal refusal_spelling 1 Malformed refl refl,
      (
        row-nothing_but is_refusal refusal_spelling 2 NotOpen refl refl,
        (
          row-nothing_but is_refusal refusal_spelling 3 AlreadyOpen refl refl,
          (
            row-made is_refusal refusal_spelling 4 SessionsFull reads-u16 (λ a h. h) (λ a. refl),
            (
              row-nothing_but is_refusal refusal_spelling 5 TxnOpen refl refl,
              (
                row-nothing_but is_refusal refusal_spelling 6 NoTxn refl refl,
                (
                  row-nothing_but is_refusal refusal_spelling 7 WrongMode refl refl,
                  (
                    row-made is_refusal refusal_spelling 8 (λ p. TooMany p.0 p.1) (reads-both reads-excess reads-u32) (λ a h. h) (λ a. refl),
                    (
                      row-made is_refusal refusal_spelling 9 Unknown reads-id (λ a h. h) (λ a. refl),
                      (
                        row-made is_refusal refusal_spelling 10 (λ p. Below p.0 p.1) (reads-both reads-id reads-id) (λ a h. h) (λ a. refl),
                        (
                          row-made is_refusal refusal_spelling 11 (λ p. Comparable p.0 p.1) (reads-both reads-id reads-id) (λ a h. h) (λ a. refl),
                          (
                            row-made is_refusal refusal_spelling 12 NotRead reads-id (λ a h. h) (λ a. refl),
                            (
                              row-made is_refusal refusal_spelling 13 ConflictKey reads-key (λ a h. h) (λ a. refl),
                              (
                                row-made is_refusal refusal_spelling 14 OpenConflict reads-key (λ a h. h) (λ a. refl),
                                (
                                  row-made is_refusal refusal_spelling 15 (λ p. Branches p.0.0 p.0.1 p.1)
                                      (reads-both (reads-both reads-constraint reads-id) reads-u32) (λ a h. h) (λ a. refl),
                                  (
                                    row-made is_refusal refusal_spelling 16 CeilingBack reads-id (λ a h. h) (λ a. refl),
                                    (
                                      row-made is_refusal refusal_spelling 17 FloorBack reads-id (λ a h. h) (λ a. refl),
                                      (
                                        row-made is_refusal refusal_spelling 18 (λ p. Held p.0 p.1) (reads-both reads-u16 reads-id) (λ a h. h) (λ a. refl),
                                        (
                                          row-made is_refusal refusal_spelling 19 Collected reads-id (λ a h. h) (λ a. refl),
                                          (
                                            row-made is_refusal refusal_spelling 20 Full reads-u32 (λ a h. h) (λ a. refl),
                                            (
                                              row-made is_refusal refusal_spelling 21 (λ p. PathFull p.0 p.1) (reads-both reads-id reads-u32) (λ a h. h)
                                                  (λ a. refl),
                                              (
                                                row-nothing_but is_refusal refusal_spelling 22 SeqEnd refl refl,
                                                (
                                                  row-made is_refusal refusal_spelling 23 BadSite reads-u16 (λ a h. h) (λ a. refl),
                                                  (
                                                    row-made is_refusal refusal_spelling 24 ClosedParent reads-id (λ a h. h) (λ a. refl),
                                                    (
                                                      row-made is_refusal refusal_spelling 25 (λ p. OwnItem p.0 p.1) (reads-both reads-u16 reads-u32)
                                                          (λ a h. h) (λ a. refl),
                                                      (
                                                        row-made is_refusal refusal_spelling 26 TrailFull reads-u64 (λ a h. h) (λ a. refl),
                                                        (
                                                          row-made is_refusal refusal_spelling 27 Unsupported reads-u8 (λ a h. h) (λ a. refl),
                                                          (
                                                            row-made is_refusal refusal_spelling 28 NoSuchItem reads-u32 (λ a h. h) (λ a. refl),
                                                            (row-made is_refusal refusal_spelling 29 BagFull reads-u32 (λ a h. h) (λ a. refl), tt),
                                                          ),
                                                        ),
                                                      ),
                                                    ),
                                                  ),
                                                ),
                                              ),
                                            ),
                                          ),
                                        ),
                                      ),
                                    ),
                                  ),
                                ),
                              ),
                            ),
                          ),
                        ),
                      ),
                    ),
                  ),
                ),
              ),
            ),
          ),
        ),
      ),
    )

    back : (x : Refusal) (rest : List ℕ) → IsTrue (is_refusal x) → refusal_front (refusal_spelling x ++ rest) ≡ Some (x, rest)
    back Malformed rest h = refl
    back NotOpen rest h = refl
    back AlreadyOpen rest h = refl
    back (SessionsFull n) rest h = made-back reads-u16 SessionsFull n rest h
    back TxnOpen rest h = refl
    back NoTxn rest h = refl
    back WrongMode rest h = refl
    back (TooMany what n) rest h = made-back (reads-both reads-excess reads-u32) (λ p. TooMany p.0 p.1) (what, n) rest h
    back (Unknown state) rest h = made-back reads-id Unknown state rest h
    back (Below state ceiling) rest h = made-back (reads-both reads-id reads-id) (λ p. Below p.0 p.1) (state, ceiling) rest h
    back (Comparable a b) rest h = made-back (reads-both reads-id reads-id) (λ p. Comparable p.0 p.1) (a, b) rest h
    back (NotRead state) rest h = made-back reads-id NotRead state rest h
    back (ConflictKey key) rest h = made-back reads-key ConflictKey key rest h
    back (OpenConflict key) rest h = made-back reads-key OpenConflict key rest h
    back (Branches constraint state children) rest h = made-back (reads-both (reads-both reads-constraint reads-id) reads-u32)
        (λ p. Branches p.0.0 p.0.1 p.1) ((constraint, state), children) rest h
    back (CeilingBack ceiling) rest h = made-back reads-id CeilingBack ceiling rest h
    back (FloorBack floor) rest h = made-back reads-id FloorBack floor rest h
    back (Held session ceiling) rest h = made-back (reads-both reads-u16 reads-id) (λ p. Held p.0 p.1) (session, ceiling) rest h
    back (Collected state) rest h = made-back reads-id Collected state rest h
    back (Full kept) rest h = made-back reads-u32 Full kept rest h
    back (PathFull state pairs) rest h = made-back (reads-both reads-id reads-u32) (λ p. PathFull p.0 p.1) (state, pairs) rest h
    back SeqEnd rest h = refl
    back (BadSite site) rest h = made-back reads-u16 BadSite site rest h
    back (ClosedParent state) rest h = made-back reads-id ClosedParent state rest h
    back (OwnItem site number) rest h = made-back (reads-both reads-u16 reads-u32) (λ p. OwnItem p.0 p.1) (site, number) rest h
    back (TrailFull size) rest h = made-back reads-u64 TrailFull size rest h
    back (Unsupported op) rest h = made-back reads-u8 Unsupported op rest h
    back (NoSuchItem batches) rest h = made-back reads-u32 NoSuchItem batches rest h
    back (BagFull batches) rest h = made-back reads-u32 BagFull batches rest h

    bytes : (x : Refusal) → IsTrue (is_refusal x) → IsTrue (are_bytes (refusal_spelling x))
    bytes Malformed h = refl
    bytes NotOpen h = refl
    bytes AlreadyOpen h = refl
    bytes (SessionsFull n) h = reads-u16.bytes n h
    bytes TxnOpen h = refl
    bytes NoTxn h = refl
    bytes WrongMode h = refl
    bytes (TooMany what n) h = (reads-both reads-excess reads-u32).bytes (what, n) h
    bytes (Unknown state) h = reads-id.bytes state h
    bytes (Below state ceiling) h = (reads-both reads-id reads-id).bytes (state, ceiling) h
    bytes (Comparable a b) h = (reads-both reads-id reads-id).bytes (a, b) h
    bytes (NotRead state) h = reads-id.bytes state h
    bytes (ConflictKey key) h = reads-key.bytes key h
    bytes (OpenConflict key) h = reads-key.bytes key h
    bytes (Branches constraint state children) h = (reads-both (reads-both reads-constraint reads-id) reads-u32).bytes ((constraint, state), children) h
    bytes (CeilingBack ceiling) h = reads-id.bytes ceiling h
    bytes (FloorBack floor) h = reads-id.bytes floor h
    bytes (Held session ceiling) h = (reads-both reads-u16 reads-id).bytes (session, ceiling) h
    bytes (Collected state) h = reads-id.bytes state h
    bytes (Full kept) h = reads-u32.bytes kept h
    bytes (PathFull state pairs) h = (reads-both reads-id reads-u32).bytes (state, pairs) h
    bytes SeqEnd h = refl
    bytes (BadSite site) h = reads-u16.bytes site h
    bytes (ClosedParent state) h = reads-id.bytes state h
    bytes (OwnItem site number) h = (reads-both reads-u16 reads-u32).bytes (site, number) h
    bytes (TrailFull size) h = reads-u64.bytes size h
    bytes (Unsupported op) h = reads-u8.bytes op h
    bytes (NoSuchItem batches) h = reads-u32.bytes batches h
    bytes (BagFull batches) h = reads-u32.bytes batches h

-- the first 256 have a number that a u16 tells
few : (total number : ℕ) → IsTrue (is_first_of total number) → IsTrue (is_u16 number)
few total number h = lt-ltb number (2 ^ 16) (omega (arith, eqb-true number (min total 256) h))

first_ids_fit : (p : ℕ × List StateId) → IsTrue (are_first_ids p.0 p.1) → IsTrue (is_u32 p.0 && (is_u16 (length p.1) && list_all is_id p.1))
first_ids_fit p h =
    let number = and_parts (is_u32 p.0 && list_all is_id p.1) (is_first_of p.0 (length p.1)) h in
    let parts = and_parts (is_u32 p.0) (list_all is_id p.1) number.0 in
    and_from (is_u32 p.0) (is_u16 (length p.1) && list_all is_id p.1) parts.0
    (and_from (is_u16 (length p.1)) (list_all is_id p.1) (few p.0 (length p.1) number.1) parts.1)

pub reads-first_ids : Reads {A = ℕ × List StateId} (λ p. are_first_ids p.0 p.1) (λ p. first_ids_spelling p.0 p.1) first_ids_front
reads-first_ids = reads-only_if (λ p. are_first_ids p.0 p.1) (λ p. are_first_ids p.0 p.1) (λ p h. (first_ids_fit p h, h)) (λ p v t. t)
    (reads-both reads-u32 (reads-counted reads-u16 (many-times reads-id)))

first_keys_fit : (p : ℕ × List (List ℕ)) → IsTrue (are_first_keys p.0 p.1) → IsTrue (is_u32 p.0 && (is_u16 (length p.1) && list_all is_key p.1))
first_keys_fit p h =
    let ordered = and_parts (is_u32 p.0 && list_all is_key p.1 && is_first_of p.0 (length p.1)) (are_ascending_keys p.1) h in
    let number = and_parts (is_u32 p.0 && list_all is_key p.1) (is_first_of p.0 (length p.1)) ordered.0 in
    let parts = and_parts (is_u32 p.0) (list_all is_key p.1) number.0 in
    and_from (is_u32 p.0) (is_u16 (length p.1) && list_all is_key p.1) parts.0
    (and_from (is_u16 (length p.1)) (list_all is_key p.1) (few p.0 (length p.1) number.1) parts.1)

pub reads-first_keys : Reads {A = ℕ × List (List ℕ)} (λ p. are_first_keys p.0 p.1) (λ p. first_keys_spelling p.0 p.1) first_keys_front
reads-first_keys = reads-only_if (λ p. are_first_keys p.0 p.1) (λ p. are_first_keys p.0 p.1) (λ p h. (first_keys_fit p h, h)) (λ p v t. t)
    (reads-both reads-u32 (reads-counted reads-u16 (many-times reads-key)))

pub reads-site_line : Reads is_site_line site_line_spelling site_line_front
reads-site_line = reads-made (λ p. record { count = p.0.0; floor = p.0.1; number = p.1 }) (λ line. ((line.count, line.floor), line.number)) is_site_line
    site_line_spelling
    (λ line h. refl) (λ p. refl) (λ p. refl) (reads-both (reads-both reads-u32 reads-id) reads-u32)

site_lines_counted : (lines : List SiteLine) → IsTrue (are_site_lines lines) → IsTrue (is_u8 (length lines) && list_all is_site_line lines)
site_lines_counted lines h =
    let parts = and_parts (is_within 1 16 (length lines)) (list_all is_site_line lines) h in
    and_from (is_u8 (length lines)) (list_all is_site_line lines)
    (fits (length lines) 16 256 (second (nat_le 1 (length lines)) (nat_le (length lines) 16) parts.0) (omega arith)) parts.1

pub reads-site_lines : Reads are_site_lines site_lines_spelling site_lines_front
reads-site_lines = reads-only_if are_site_lines are_site_lines (λ lines h. (site_lines_counted lines h, h)) (λ lines v t. t)
    (reads-counted reads-u8 (many-times reads-site_line))

pub reads-children : Reads are_children children_spelling children_front
reads-children = reads-counted reads-u32 (many-times reads-id)

pub reads-path : Reads is_path path_spelling path_front
reads-path = reads-counted reads-u32 (many-times (reads-both reads-id reads-u32))

pub reads-reply : Reads is_reply reply_spelling reply_front
reads-reply = record { back = back; only = by_code-only is_reply reply_spelling reply_rows rows; bytes = bytes }
  where
    rows : RowsRead is_reply reply_spelling reply_rows
    rows = (
      row-made is_reply reply_spelling 1 Opened reads-id (λ a h. h) (λ a. refl),
      (
        row-made is_reply reply_spelling 2 Begun reads-id (λ a h. h) (λ a. refl),
        (
          row-made is_reply reply_spelling 3 Merging reads-parents (λ a h. h) (λ a. refl),
          (
            row-made is_reply reply_spelling 4 (λ p. Value p.0 p.1) (reads-both reads-id reads-value) (λ a h. h) (λ a. refl),
            (
              row-made is_reply reply_spelling 5 Deleted reads-id (λ a h. h) (λ a. refl),
              (
                row-nothing_but is_reply reply_spelling 6 Absent refl refl,
                (
                  row-nothing_but is_reply reply_spelling 7 Done refl refl,
                  (
                    row-made is_reply reply_spelling 8 (λ p. Committed p.0 p.1) (reads-both reads-id reads-parents) (λ a h. h) (λ a. refl),
                    (
                      row-made is_reply reply_spelling 9 Ended reads-id (λ a h. h) (λ a. refl),
                      (
                        row-made is_reply reply_spelling 10 (λ p. States p.0 p.1) reads-first_ids (λ a h. h) (λ a. refl),
                        (
                          row-made is_reply reply_spelling 11 (λ p. Keys p.0 p.1) reads-first_keys (λ a h. h) (λ a. refl),
                          (
                            row-made is_reply reply_spelling 12 (λ p. Raised p.0 p.1) (reads-both reads-id reads-u32) (λ a h. h) (λ a. refl),
                            (
                              row-made is_reply reply_spelling 13 Tidied reads-u32 (λ a h. h) (λ a. refl),
                              (
                                row-made is_reply reply_spelling 14 (λ p. Statistics p.0.0.0.0 p.0.0.0.1 p.0.0.1 p.0.1 p.1)
                                    (reads-both (reads-both (reads-both (reads-both reads-u64 reads-u32) reads-u32) reads-u16) reads-site_lines) (λ a h. h)
                                    (λ a. refl),
                                (
                                  row-made is_reply reply_spelling 15 (λ p. Shown p.0.0 p.0.1 p.1)
                                      (reads-both (reads-both reads-u64 reads-children) reads-path) (λ a h. h) (λ a. refl),
                                  (
                                    row-made is_reply reply_spelling 16 Batch reads-batch (λ a h. h) (λ a. refl),
                                    (
                                      row-nothing_but is_reply reply_spelling 17 Applied refl refl,
                                      (
                                        row-nothing_but is_reply reply_spelling 18 Known refl refl,
                                        (
                                          row-made is_reply reply_spelling 19 Early reads-u32 (λ a h. h) (λ a. refl),
                                          (
                                            row-nothing_but is_reply reply_spelling 20 Closed refl refl,
                                            (
                                              row-made is_reply reply_spelling 21 Refused reads-refusal (λ a h. h) (λ a. refl),
                                              (row-nothing_but is_reply reply_spelling 22 NoMemory refl refl, tt),
                                            ),
                                          ),
                                        ),
                                      ),
                                    ),
                                  ),
                                ),
                              ),
                            ),
                          ),
                        ),
                      ),
                    ),
                  ),
                ),
              ),
            ),
          ),
        ),
      ),
    )

    back : (x : Reply) (rest : List ℕ) → IsTrue (is_reply x) → reply_front (reply_spelling x ++ rest) ≡ Some (x, rest)
    back (Opened ceiling) rest h = made-back reads-id Opened ceiling rest h
    back (Begun state) rest h = made-back reads-id Begun state rest h
    back (Merging states) rest h = made-back reads-parents Merging states rest h
    back (Value writer value) rest h = made-back (reads-both reads-id reads-value) (λ p. Value p.0 p.1) (writer, value) rest h
    back (Deleted writer) rest h = made-back reads-id Deleted writer rest h
    back Absent rest h = refl
    back Done rest h = refl
    back (Committed id parents) rest h = made-back (reads-both reads-id reads-parents) (λ p. Committed p.0 p.1) (id, parents) rest h
    back (Ended state) rest h = made-back reads-id Ended state rest h
    back (States total first) rest h = made-back reads-first_ids (λ p. States p.0 p.1) (total, first) rest h
    back (Keys total first) rest h = made-back reads-first_keys (λ p. Keys p.0 p.1) (total, first) rest h
    back (Raised floor number) rest h = made-back (reads-both reads-id reads-u32) (λ p. Raised p.0 p.1) (floor, number) rest h
    back (Tidied collected) rest h = made-back reads-u32 Tidied collected rest h
    back (Statistics known kept leaves sessions sites) rest h =
        made-back (reads-both (reads-both (reads-both (reads-both reads-u64 reads-u32) reads-u32) reads-u16) reads-site_lines)
        (λ p. Statistics p.0.0.0.0 p.0.0.0.1 p.0.0.1 p.0.1 p.1) ((((known, kept), leaves), sessions), sites) rest h
    back (Shown arrival children path) rest h = made-back (reads-both (reads-both reads-u64 reads-children) reads-path) (λ p. Shown p.0.0 p.0.1 p.1)
        ((arrival, children), path) rest h
    back (Batch batch) rest h = made-back reads-batch Batch batch rest h
    back Applied rest h = refl
    back Known rest h = refl
    back (Early have) rest h = made-back reads-u32 Early have rest h
    back Closed rest h = refl
    back (Refused refusal) rest h = made-back reads-refusal Refused refusal rest h
    back NoMemory rest h = refl

    bytes : (x : Reply) → IsTrue (is_reply x) → IsTrue (are_bytes (reply_spelling x))
    bytes (Opened ceiling) h = reads-id.bytes ceiling h
    bytes (Begun state) h = reads-id.bytes state h
    bytes (Merging states) h = reads-parents.bytes states h
    bytes (Value writer value) h = (reads-both reads-id reads-value).bytes (writer, value) h
    bytes (Deleted writer) h = reads-id.bytes writer h
    bytes Absent h = refl
    bytes Done h = refl
    bytes (Committed id parents) h = (reads-both reads-id reads-parents).bytes (id, parents) h
    bytes (Ended state) h = reads-id.bytes state h
    bytes (States total first) h = reads-first_ids.bytes (total, first) h
    bytes (Keys total first) h = reads-first_keys.bytes (total, first) h
    bytes (Raised floor number) h = (reads-both reads-id reads-u32).bytes (floor, number) h
    bytes (Tidied collected) h = reads-u32.bytes collected h
    bytes (Statistics known kept leaves sessions sites) h = (reads-both (reads-both (reads-both (reads-both reads-u64 reads-u32) reads-u32) reads-u16)
        reads-site_lines).bytes ((((known, kept), leaves), sessions), sites) h
    bytes (Shown arrival children path) h = (reads-both (reads-both reads-u64 reads-children) reads-path).bytes ((arrival, children), path) h
    bytes (Batch batch) h = reads-batch.bytes batch h
    bytes Applied h = refl
    bytes Known h = refl
    bytes (Early have) h = reads-u32.bytes have h
    bytes Closed h = refl
    bytes (Refused refusal) h = reads-refusal.bytes refusal h
    bytes NoMemory h = refl
