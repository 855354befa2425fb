-- How the lines of replies are read back, with a space behind each word.
use Rattle.std.specs.Prelude.{ℕ, ◌^◌, List, [], ◌∷◌, ◌++◌, Option, codes, option_and_then}
use Rattle.tardis_base.specs.declared.ids.StateId.{StateId}
use Rattle.tardis_base.specs.declared.records.Batch.{Batch as BatchOf}
use Rattle.tardis_base.specs.declared.replies.SiteLine.{SiteLine}
use Rattle.tardis_base.specs.declared.replies.Refusal.{Refusal}
use Rattle.tardis_base.specs.declared.replies.Excess.TheVariants.{WrittenKeys, ReadKeys, MergedStates}
use Rattle.tardis_base.specs.declared.replies.Refusal.TheVariants.{Malformed, NotOpen, AlreadyOpen, SessionsFull, TxnOpen, NoTxn, WrongMode, TooMany, Unknown}
use Rattle.tardis_base.specs.declared.replies.Refusal.TheVariants.{Below, Comparable, NotRead, ConflictKey, OpenConflict, Branches, CeilingBack, FloorBack}
use Rattle.tardis_base.specs.declared.replies.Refusal.TheVariants.{Held, Collected, Full, PathFull, SeqEnd, BadSite, ClosedParent, OwnItem, TrailFull}
use Rattle.tardis_base.specs.declared.replies.Refusal.TheVariants.{Unsupported, NoSuchItem, BagFull}
use Rattle.tardis_base.specs.declared.replies.Reply.{Reply}
use Rattle.tardis_base.specs.declared.replies.Reply.TheVariants.{Opened, Begun, Merging, Value, Deleted, Absent, Done, Committed, Ended, States, Keys, Raised}
use Rattle.tardis_base.specs.declared.replies.Reply.TheVariants.{Tidied, Stat as Statistics, Shown, Batch, Applied, Known, Early, Closed, Refused, NoMemory}
use Rattle.tardis_base.specs.Valid.{are_parents}
use Rattle.wire_item.specs.Fronts.{Front, nothing_but, made, only_if, both, times, counted, whole}
use Rattle.wire_item.specs.Readings.{batch_of}
use Rattle.wire_talk.specs.Valid.{are_first_ids, are_first_keys, are_site_lines}
use Rattle.text_words.specs.Words.{Word}
use Rattle.text_words.specs.Texts.{parsed, number_until, id_until, hex_bytes, rest_of, by_prefix}
use Rattle.shell_text.specs.RequestTexts.{key_text, value_text}

abbrev pub u8_text : Front ℕ
u8_text = number_until 256 32

abbrev pub u16_text : Front ℕ
u16_text = number_until (2 ^ 16) 32

abbrev pub u32_text : Front ℕ
u32_text = number_until (2 ^ 32) 32

abbrev pub u64_text : Front ℕ
u64_text = number_until (2 ^ 64) 32

abbrev pub id_text : Front StateId
id_text = id_until 32

-- what stands behind each refusal's name
abbrev pub refusal_text_rows : List (List ℕ × Front Refusal)
refusal_text_rows =
    (codes "malformed ", nothing_but Malformed) ∷
    (codes "notopen ", nothing_but NotOpen) ∷
    (codes "alreadyopen ", nothing_but AlreadyOpen) ∷
    (codes "sessionsfull ", made SessionsFull u16_text) ∷
    (codes "txnopen ", nothing_but TxnOpen) ∷
    (codes "notxn ", nothing_but NoTxn) ∷
    (codes "wrongmode ", nothing_but WrongMode) ∷
    (codes "toomany writes ", made (λ n. TooMany WrittenKeys n) u32_text) ∷
    (codes "toomany reads ", made (λ n. TooMany ReadKeys n) u32_text) ∷
    (codes "toomany states ", made (λ n. TooMany MergedStates n) u32_text) ∷
    (codes "unknown ", made Unknown id_text) ∷
    (codes "below ", made (λ p. Below p.0 p.1) (both id_text id_text)) ∷
    (codes "comparable ", made (λ p. Comparable p.0 p.1) (both id_text id_text)) ∷
    (codes "notread ", made NotRead id_text) ∷
    (codes "conflictkey ", made ConflictKey key_text) ∷
    (codes "openconflict ", made OpenConflict key_text) ∷
    (codes "branches nb ", made (λ p. Branches 4 p.0 p.1) (both id_text u32_text)) ∷
    (codes "branches kb ", made (λ p. Branches 8 p.0 p.1) (both id_text u32_text)) ∷
    (codes "ceilingback ", made CeilingBack id_text) ∷
    (codes "floorback ", made FloorBack id_text) ∷
    (codes "held ", made (λ p. Held p.0 p.1) (both u16_text id_text)) ∷
    (codes "collected ", made Collected id_text) ∷
    (codes "full ", made Full u32_text) ∷
    (codes "pathfull ", made (λ p. PathFull p.0 p.1) (both id_text u32_text)) ∷
    (codes "seqend ", nothing_but SeqEnd) ∷
    (codes "badsite ", made BadSite u16_text) ∷
    (codes "closedparent ", made ClosedParent id_text) ∷
    (codes "ownitem ", made (λ p. OwnItem p.0 p.1) (both u16_text u32_text)) ∷
    (codes "trailfull ", made TrailFull u64_text) ∷
    (codes "unsupported ", made Unsupported u8_text) ∷
    (codes "nosuchitem ", made NoSuchItem u32_text) ∷
    (codes "bagfull ", made BagFull u32_text) ∷ []

abbrev pub refusal_text : Front Refusal
refusal_text = by_prefix refusal_text_rows

abbrev pub parents_text : Front (List StateId)
parents_text = only_if are_parents (rest_of id_text)

abbrev pub from_rows : List (List ℕ × Front (List StateId))
from_rows = (codes "from ", parents_text) ∷ []

abbrev pub first_ids_text : Front (ℕ × List StateId)
first_ids_text = only_if (λ p. are_first_ids p.0 p.1) (both u32_text (rest_of id_text))

abbrev pub first_keys_text : Front (ℕ × List (List ℕ))
first_keys_text = only_if (λ p. are_first_keys p.0 p.1) (both u32_text (rest_of key_text))

-- what stands behind a name
abbrev pub named : {A : Type 0} → List ℕ → Front A → Front A
named name front = by_prefix ((name, front) ∷ [])

abbrev pub site_line_text : Front SiteLine
site_line_text =
    made (λ p. record { count = p.0.0; floor = p.0.1; number = p.1 }) (both (both (number_until (2 ^ 32) 58) (id_until 58)) u32_text)

abbrev pub site_lines_text : Front (List SiteLine)
site_lines_text = only_if are_site_lines (counted u32_text (times site_line_text))

abbrev pub statistics_text : Front (ℕ × (ℕ × (ℕ × (ℕ × List SiteLine))))
statistics_text =
    both u64_text
    (both (named (codes "kept ") u32_text)
    (both (named (codes "leaves ") u32_text) (both (named (codes "sessions ") u16_text) (named (codes "sites ") site_lines_text))))

abbrev pub pair_text : Front (StateId × ℕ)
pair_text = both (id_until 58) u32_text

abbrev pub shown_text : Front (ℕ × (List StateId × List (StateId × ℕ)))
shown_text = both u64_text (both (named (codes "children ") (counted u32_text (times id_text))) (named (codes "path ") (counted u32_text (times pair_text))))

-- the batch of which the word has the spelling in hexadecimal
abbrev pub batch_from : Word → Option BatchOf
batch_from word = option_and_then batch_of (hex_bytes word)

-- what stands behind each reply's name
abbrev pub reply_text_rows : List (List ℕ × Front Reply)
reply_text_rows =
    (codes "opened ", made Opened id_text) ∷
    (codes "begun ", made Begun id_text) ∷
    (codes "merging ", made Merging parents_text) ∷
    (codes "value ", made (λ p. Value p.0 p.1) (both id_text value_text)) ∷
    (codes "deleted ", made Deleted id_text) ∷
    (codes "absent ", nothing_but Absent) ∷
    (codes "done ", nothing_but Done) ∷
    (codes "committed ", made (λ p. Committed p.0 p.1) (both id_text (by_prefix from_rows))) ∷
    (codes "ended ", made Ended id_text) ∷
    (codes "states ", made (λ p. States p.0 p.1) first_ids_text) ∷
    (codes "keys ", made (λ p. Keys p.0 p.1) first_keys_text) ∷
    (codes "raised ", made (λ p. Raised p.0 p.1) (both id_text u32_text)) ∷
    (codes "tidied ", made Tidied u32_text) ∷
    (codes "stat known ", made (λ p. Statistics p.0 p.1.0 p.1.1.0 p.1.1.1.0 p.1.1.1.1) statistics_text) ∷
    (codes "shown ", made (λ p. Shown p.0 p.1.0 p.1.1) shown_text) ∷
    (codes "batch ", made Batch (parsed batch_from 32)) ∷
    (codes "applied ", nothing_but Applied) ∷
    (codes "known ", nothing_but Known) ∷
    (codes "early ", made Early u32_text) ∷
    (codes "closed ", nothing_but Closed) ∷
    (codes "refused ", made Refused refusal_text) ∷
    (codes "nomemory ", nothing_but NoMemory) ∷ []

abbrev pub reply_text : Front Reply
reply_text = by_prefix reply_text_rows

-- the reply whose line this is
abbrev pub line_reply_of : List ℕ → Option Reply
line_reply_of bytes = whole reply_text (bytes ++ 32 ∷ [])
