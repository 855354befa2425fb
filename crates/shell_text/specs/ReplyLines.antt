-- How replies are written as lines.
use Rattle.std.specs.Prelude.{ℕ, ◌==◌, List, [], ◌∷◌, ◌++◌, codes, length, map, if◌then◌else◌}
use Rattle.tardis_base.specs.declared.ids.StateId.{StateId}
use Rattle.tardis_base.specs.declared.replies.SiteLine.{SiteLine}
use Rattle.tardis_base.specs.declared.replies.Excess.{Excess}
use Rattle.tardis_base.specs.declared.replies.Excess.TheVariants.{WrittenKeys, ReadKeys, MergedStates}
use Rattle.tardis_base.specs.declared.replies.Refusal.{Refusal}
use Rattle.tardis_base.specs.declared.replies.Refusal.TheVariants.{Malformed, NotOpen, AlreadyOpen, SessionsFull, TxnOpen, NoTxn, WrongMode, TooMany, Unknown}
use Rattle.tardis_base.specs.declared.replies.Refusal.TheVariants.{Below, Comparable, NotRead, ConflictKey, OpenConflict, Branches, CeilingBack, FloorBack}
use Rattle.tardis_base.specs.declared.replies.Refusal.TheVariants.{Held, Collected, Full, PathFull, SeqEnd, BadSite, ClosedParent, OwnItem, TrailFull}
use Rattle.tardis_base.specs.declared.replies.Refusal.TheVariants.{Unsupported, NoSuchItem, BagFull}
use Rattle.tardis_base.specs.declared.replies.Reply.{Reply}
use Rattle.tardis_base.specs.declared.replies.Reply.TheVariants.{Opened, Begun, Merging, Value, Deleted, Absent, Done, Committed, Ended, States, Keys, Raised}
use Rattle.tardis_base.specs.declared.replies.Reply.TheVariants.{Tidied, Stat as Statistics, Shown, Batch, Applied, Known, Early, Closed, Refused, NoMemory}
use Rattle.wire_item.specs.Spellings.{batch_spelling}
use Rattle.text_words.specs.Words.{Word, line, number_word, id_word, hex_word, byte_word}

-- what there would be too many of
abbrev pub excess_word : Excess → Word
excess_word WrittenKeys = codes "writes"
excess_word ReadKeys = codes "reads"
excess_word MergedStates = codes "states"

-- the flag 4, for no branch, or 8, for so many branches
abbrev pub constraint_word : ℕ → Word
constraint_word constraint = if constraint == 4 then codes "nb" else codes "kb"

abbrev pub refusal_words : Refusal → List Word
refusal_words Malformed = codes "malformed" ∷ []
refusal_words NotOpen = codes "notopen" ∷ []
refusal_words AlreadyOpen = codes "alreadyopen" ∷ []
refusal_words (SessionsFull n) = codes "sessionsfull" ∷ number_word n ∷ []
refusal_words TxnOpen = codes "txnopen" ∷ []
refusal_words NoTxn = codes "notxn" ∷ []
refusal_words WrongMode = codes "wrongmode" ∷ []
refusal_words (TooMany what n) = codes "toomany" ∷ excess_word what ∷ number_word n ∷ []
refusal_words (Unknown state) = codes "unknown" ∷ id_word state ∷ []
refusal_words (Below state ceiling) = codes "below" ∷ id_word state ∷ id_word ceiling ∷ []
refusal_words (Comparable a b) = codes "comparable" ∷ id_word a ∷ id_word b ∷ []
refusal_words (NotRead state) = codes "notread" ∷ id_word state ∷ []
refusal_words (ConflictKey key) = codes "conflictkey" ∷ byte_word key ∷ []
refusal_words (OpenConflict key) = codes "openconflict" ∷ byte_word key ∷ []
refusal_words (Branches constraint state children) = codes "branches" ∷ constraint_word constraint ∷ id_word state ∷ number_word children ∷ []
refusal_words (CeilingBack ceiling) = codes "ceilingback" ∷ id_word ceiling ∷ []
refusal_words (FloorBack floor) = codes "floorback" ∷ id_word floor ∷ []
refusal_words (Held session ceiling) = codes "held" ∷ number_word session ∷ id_word ceiling ∷ []
refusal_words (Collected state) = codes "collected" ∷ id_word state ∷ []
refusal_words (Full kept) = codes "full" ∷ number_word kept ∷ []
refusal_words (PathFull state pairs) = codes "pathfull" ∷ id_word state ∷ number_word pairs ∷ []
refusal_words SeqEnd = codes "seqend" ∷ []
refusal_words (BadSite site) = codes "badsite" ∷ number_word site ∷ []
refusal_words (ClosedParent state) = codes "closedparent" ∷ id_word state ∷ []
refusal_words (OwnItem site number) = codes "ownitem" ∷ number_word site ∷ number_word number ∷ []
refusal_words (TrailFull bytes) = codes "trailfull" ∷ number_word bytes ∷ []
refusal_words (Unsupported op) = codes "unsupported" ∷ number_word op ∷ []
refusal_words (NoSuchItem batches) = codes "nosuchitem" ∷ number_word batches ∷ []
refusal_words (BagFull batches) = codes "bagfull" ∷ number_word batches ∷ []

-- count, floor and the consent's number, joined by colons
abbrev pub site_line_word : SiteLine → Word
site_line_word line = number_word line.count ++ 58 ∷ (id_word line.floor ++ 58 ∷ number_word line.number)

-- a fork and a branch, joined by a colon
abbrev pub pair_word : StateId × ℕ → Word
pair_word pair = id_word pair.0 ++ 58 ∷ number_word pair.1

-- a name, how many there are, and these
abbrev pub counted_words : {A : Type 0} → Word → (A → Word) → List A → List Word
counted_words name word things = name ∷ number_word (length things) ∷ map word things

abbrev pub reply_words : Reply → List Word
reply_words (Opened ceiling) = codes "opened" ∷ id_word ceiling ∷ []
reply_words (Begun state) = codes "begun" ∷ id_word state ∷ []
reply_words (Merging states) = codes "merging" ∷ map id_word states
reply_words (Value writer value) = codes "value" ∷ id_word writer ∷ byte_word value ∷ []
reply_words (Deleted writer) = codes "deleted" ∷ id_word writer ∷ []
reply_words Absent = codes "absent" ∷ []
reply_words Done = codes "done" ∷ []
reply_words (Committed id parents) = codes "committed" ∷ id_word id ∷ codes "from" ∷ map id_word parents
reply_words (Ended state) = codes "ended" ∷ id_word state ∷ []
reply_words (States total first) = codes "states" ∷ number_word total ∷ map id_word first
reply_words (Keys total first) = codes "keys" ∷ number_word total ∷ map byte_word first
reply_words (Raised floor number) = codes "raised" ∷ id_word floor ∷ number_word number ∷ []
reply_words (Tidied collected) = codes "tidied" ∷ number_word collected ∷ []
reply_words (Statistics known kept leaves sessions sites) =
    codes "stat" ∷ codes "known" ∷ number_word known ∷ codes "kept" ∷ number_word kept ∷ codes "leaves" ∷ number_word leaves
    ∷ codes "sessions" ∷ number_word sessions ∷ counted_words (codes "sites") site_line_word sites
reply_words (Shown arrival children path) =
    codes "shown" ∷ number_word arrival ∷ (counted_words (codes "children") id_word children ++ counted_words (codes "path") pair_word path)
reply_words (Batch batch) = codes "batch" ∷ hex_word (batch_spelling batch) ∷ []
reply_words Applied = codes "applied" ∷ []
reply_words Known = codes "known" ∷ []
reply_words (Early have) = codes "early" ∷ number_word have ∷ []
reply_words Closed = codes "closed" ∷ []
reply_words (Refused refusal) = codes "refused" ∷ refusal_words refusal
reply_words NoMemory = codes "nomemory" ∷ []

-- the line of a reply, without its line feed
abbrev pub reply_line : Reply → List ℕ
reply_line reply = line (reply_words reply)
