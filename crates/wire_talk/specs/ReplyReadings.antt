-- How refusals and replies are read back from bytes.
use Rattle.std.specs.Prelude.{ℕ, List, [], ◌∷◌, Option}
use Rattle.tardis_base.specs.declared.ids.StateId.{StateId}
use Rattle.tardis_base.specs.declared.replies.SiteLine.{SiteLine}
use Rattle.tardis_base.specs.declared.replies.Excess.{Excess}
use Rattle.tardis_base.specs.declared.replies.Excess.TheVariants.{WrittenKeys, ReadKeys, MergedStates}
use Rattle.tardis_base.specs.declared.replies.Refusal.{Refusal}
use Rattle.tardis_base.specs.declared.replies.Refusal.TheVariants.{Malformed, NotOpen, AlreadyOpen, SessionsFull, TxnOpen, NoTxn, WrongMode}
use Rattle.tardis_base.specs.declared.replies.Refusal.TheVariants.{TooMany, Unknown, Below, Comparable, NotRead, ConflictKey, OpenConflict}
use Rattle.tardis_base.specs.declared.replies.Refusal.TheVariants.{Branches, CeilingBack, FloorBack, Held, Collected, Full, PathFull}
use Rattle.tardis_base.specs.declared.replies.Refusal.TheVariants.{SeqEnd, BadSite, ClosedParent, OwnItem, TrailFull, Unsupported}
use Rattle.tardis_base.specs.declared.replies.Refusal.TheVariants.{NoSuchItem, BagFull}
use Rattle.tardis_base.specs.declared.replies.Reply.{Reply}
use Rattle.tardis_base.specs.declared.replies.Reply.TheVariants.{Opened, Begun, Merging, Value, Deleted, Absent, Done, Committed, Ended}
use Rattle.tardis_base.specs.declared.replies.Reply.TheVariants.{States, Keys, Raised, Tidied, Stat as Statistics, Shown, Batch, Applied}
use Rattle.tardis_base.specs.declared.replies.Reply.TheVariants.{Known, Early, Closed, Refused, NoMemory}
use Rattle.wire_item.specs.Fronts.{Front, nothing_but, made, only_if, both, times, counted, by_code, whole}
use Rattle.wire_item.specs.Readings.{u8_front, u16_front, u32_front, u64_front, id_front, key_front, value_front, parents_front, batch_front}
use Rattle.wire_talk.specs.Valid.{is_constraint, are_first_ids, are_first_keys, are_site_lines}
use Rattle.wire_talk.specs.declared.reply_codes.TheConstants.{OPENED, BEGUN, MERGING, VALUE, DELETED, ABSENT, DONE, COMMITTED, ENDED, STATES, KEYS}
use Rattle.wire_talk.specs.declared.reply_codes.TheConstants.{RAISED, TIDIED, STAT, SHOWN, BATCH, APPLIED, KNOWN, EARLY, CLOSED, REFUSED, NO_MEMORY}
use Rattle.wire_talk.specs.declared.refusal_codes.TheConstants.{MALFORMED, NOT_OPEN, ALREADY_OPEN, SESSIONS_FULL, TXN_OPEN, NO_TXN, WRONG_MODE, TOO_MANY, UNKNOWN, BELOW, COMPARABLE}
use Rattle.wire_talk.specs.declared.refusal_codes.TheConstants.{NOT_READ, CONFLICT_KEY, OPEN_CONFLICT, BRANCHES, CEILING_BACK, FLOOR_BACK, HELD, COLLECTED, FULL, PATH_FULL, SEQ_END}
use Rattle.wire_talk.specs.declared.refusal_codes.TheConstants.{BAD_SITE, CLOSED_PARENT, OWN_ITEM, TRAIL_FULL, UNSUPPORTED, NO_SUCH_ITEM, BAG_FULL}

abbrev pub excess_rows : List (ℕ × Front Excess)
excess_rows = (1, nothing_but WrittenKeys) ∷ (2, nothing_but ReadKeys) ∷ (3, nothing_but MergedStates) ∷ []

abbrev pub excess_front : Front Excess
excess_front = by_code excess_rows

-- each refusal's front beside its code
abbrev pub refusal_rows : List (ℕ × Front Refusal)
refusal_rows =
    (MALFORMED, nothing_but Malformed) ∷
    (NOT_OPEN, nothing_but NotOpen) ∷
    (ALREADY_OPEN, nothing_but AlreadyOpen) ∷
    (SESSIONS_FULL, made SessionsFull u16_front) ∷
    (TXN_OPEN, nothing_but TxnOpen) ∷
    (NO_TXN, nothing_but NoTxn) ∷
    (WRONG_MODE, nothing_but WrongMode) ∷
    (TOO_MANY, made (λ p. TooMany p.0 p.1) (both excess_front u32_front)) ∷
    (UNKNOWN, made Unknown id_front) ∷
    (BELOW, made (λ p. Below p.0 p.1) (both id_front id_front)) ∷
    (COMPARABLE, made (λ p. Comparable p.0 p.1) (both id_front id_front)) ∷
    (NOT_READ, made NotRead id_front) ∷
    (CONFLICT_KEY, made ConflictKey key_front) ∷
    (OPEN_CONFLICT, made OpenConflict key_front) ∷
    (BRANCHES, made (λ p. Branches p.0.0 p.0.1 p.1) (both (both (only_if is_constraint u8_front) id_front) u32_front)) ∷
    (CEILING_BACK, made CeilingBack id_front) ∷
    (FLOOR_BACK, made FloorBack id_front) ∷
    (HELD, made (λ p. Held p.0 p.1) (both u16_front id_front)) ∷
    (COLLECTED, made Collected id_front) ∷
    (FULL, made Full u32_front) ∷
    (PATH_FULL, made (λ p. PathFull p.0 p.1) (both id_front u32_front)) ∷
    (SEQ_END, nothing_but SeqEnd) ∷
    (BAD_SITE, made BadSite u16_front) ∷
    (CLOSED_PARENT, made ClosedParent id_front) ∷
    (OWN_ITEM, made (λ p. OwnItem p.0 p.1) (both u16_front u32_front)) ∷
    (TRAIL_FULL, made TrailFull u64_front) ∷
    (UNSUPPORTED, made Unsupported u8_front) ∷
    (NO_SUCH_ITEM, made NoSuchItem u32_front) ∷
    (BAG_FULL, made BagFull u32_front) ∷ []

abbrev pub refusal_front : Front Refusal
refusal_front = by_code refusal_rows

abbrev pub first_ids_front : Front (ℕ × List StateId)
first_ids_front = only_if (λ p. are_first_ids p.0 p.1) (both u32_front (counted u16_front (times id_front)))

abbrev pub first_keys_front : Front (ℕ × List (List ℕ))
first_keys_front = only_if (λ p. are_first_keys p.0 p.1) (both u32_front (counted u16_front (times key_front)))

abbrev pub site_line_front : Front SiteLine
site_line_front = made (λ p. record { count = p.0.0; floor = p.0.1; number = p.1 }) (both (both u32_front id_front) u32_front)

abbrev pub site_lines_front : Front (List SiteLine)
site_lines_front = only_if are_site_lines (counted u8_front (times site_line_front))

abbrev pub children_front : Front (List StateId)
children_front = counted u32_front (times id_front)

abbrev pub path_front : Front (List (StateId × ℕ))
path_front = counted u32_front (times (both id_front u32_front))

-- each reply's front beside its code
abbrev pub reply_rows : List (ℕ × Front Reply)
reply_rows =
    (OPENED, made Opened id_front) ∷
    (BEGUN, made Begun id_front) ∷
    (MERGING, made Merging parents_front) ∷
    (VALUE, made (λ p. Value p.0 p.1) (both id_front value_front)) ∷
    (DELETED, made Deleted id_front) ∷
    (ABSENT, nothing_but Absent) ∷
    (DONE, nothing_but Done) ∷
    (COMMITTED, made (λ p. Committed p.0 p.1) (both id_front parents_front)) ∷
    (ENDED, made Ended id_front) ∷
    (STATES, made (λ p. States p.0 p.1) first_ids_front) ∷
    (KEYS, made (λ p. Keys p.0 p.1) first_keys_front) ∷
    (RAISED, made (λ p. Raised p.0 p.1) (both id_front u32_front)) ∷
    (TIDIED, made Tidied u32_front) ∷
    (STAT, made (λ p. Statistics p.0.0.0.0 p.0.0.0.1 p.0.0.1 p.0.1 p.1) (both (both (both (both u64_front u32_front) u32_front) u16_front) site_lines_front)) ∷
    (SHOWN, made (λ p. Shown p.0.0 p.0.1 p.1) (both (both u64_front children_front) path_front)) ∷
    (BATCH, made Batch batch_front) ∷
    (APPLIED, nothing_but Applied) ∷
    (KNOWN, nothing_but Known) ∷
    (EARLY, made Early u32_front) ∷
    (CLOSED, nothing_but Closed) ∷
    (REFUSED, made Refused refusal_front) ∷
    (NO_MEMORY, nothing_but NoMemory) ∷ []

abbrev pub reply_front : Front Reply
reply_front = by_code reply_rows

-- the reply that the bytes spell
abbrev pub reply_of : List ℕ → Option Reply
reply_of = whole reply_front
