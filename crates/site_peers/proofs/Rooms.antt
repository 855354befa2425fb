-- Which replies say that there is no room, by their bytes.
use Rattle.std.proofs.Common.{◌≡◌, ◌∙◌, ℕ, false, List, [], ◌∷◌, refl, ap}
use Rattle.std.specs.Prelude.{◌==◌, ◌&&◌, ◌||◌}
use Rattle.tardis_base.specs.declared.replies.Refusal.{Refusal}
use Rattle.tardis_base.specs.declared.replies.Refusal.TheVariants.{Malformed, NotOpen, AlreadyOpen, SessionsFull, TxnOpen, NoTxn, WrongMode, TooMany, Unknown, Below, Comparable, NotRead, ConflictKey, OpenConflict, Branches, CeilingBack, FloorBack, Held, Collected, Full, PathFull, SeqEnd, BadSite, ClosedParent, OwnItem, TrailFull, Unsupported, NoSuchItem, BagFull}
use Rattle.tardis_base.specs.declared.replies.Reply.{Reply}
use Rattle.tardis_base.specs.declared.replies.Reply.TheVariants.{Opened, Begun, Merging, Value, Deleted, Absent, Done, Committed, Ended, States, Keys, Raised, Tidied, Stat as Statistics, Shown, Batch, Applied, Known, Early, Closed, Refused, NoMemory}
use Rattle.wire_talk.specs.Spellings.{refusal_spelling, reply_spelling}
use Rattle.site_peers.specs.Asking.{is_no_room, lacks_room, RoomIsRead}
use Rattle.wire_talk.specs.declared.reply_codes.TheConstants.{REFUSED}

-- bytes that begin with another code
other_code : (code : ℕ) (bytes : List ℕ) → (code == REFUSED) ≡ false → lacks_room (code ∷ bytes) ≡ false
other_code code [] other = refl
other_code code (why ∷ bytes) other = ap (λ b. b && ((why == 20) || (why == 21))) other

refusals : (refusal : Refusal) → lacks_room (REFUSED ∷ refusal_spelling refusal) ≡ is_no_room (Refused refusal)
refusals Malformed = refl
refusals NotOpen = refl
refusals AlreadyOpen = refl
refusals (SessionsFull n) = refl
refusals TxnOpen = refl
refusals NoTxn = refl
refusals WrongMode = refl
refusals (TooMany what n) = refl
refusals (Unknown state) = refl
refusals (Below state ceiling) = refl
refusals (Comparable a b) = refl
refusals (NotRead state) = refl
refusals (ConflictKey key) = refl
refusals (OpenConflict key) = refl
refusals (Branches constraint state children) = refl
refusals (CeilingBack ceiling) = refl
refusals (FloorBack floor) = refl
refusals (Held session ceiling) = refl
refusals (Collected state) = refl
refusals (Full kept) = refl
refusals (PathFull state pairs) = refl
refusals SeqEnd = refl
refusals (BadSite site) = refl
refusals (ClosedParent state) = refl
refusals (OwnItem site number) = refl
refusals (TrailFull bytes) = refl
refusals (Unsupported op) = refl
refusals (NoSuchItem batches) = refl
refusals (BagFull batches) = refl

-- the bytes of a reply, without its code
abbrev behind_code : List ℕ → List ℕ
behind_code [] = []
behind_code (code ∷ bytes) = bytes

replies : (reply : Reply) → lacks_room (reply_spelling reply) ≡ is_no_room reply
replies (Opened ceiling) = other_code 1 (behind_code (reply_spelling (Opened ceiling))) refl
replies (Begun state) = other_code 2 (behind_code (reply_spelling (Begun state))) refl
replies (Merging states) = other_code 3 (behind_code (reply_spelling (Merging states))) refl
replies (Value writer value) = other_code 4 (behind_code (reply_spelling (Value writer value))) refl
replies (Deleted writer) = other_code 5 (behind_code (reply_spelling (Deleted writer))) refl
replies Absent = other_code 6 (behind_code (reply_spelling Absent)) refl
replies Done = other_code 7 (behind_code (reply_spelling Done)) refl
replies (Committed id parents) = other_code 8 (behind_code (reply_spelling (Committed id parents))) refl
replies (Ended state) = other_code 9 (behind_code (reply_spelling (Ended state))) refl
replies (States total first) = other_code 10 (behind_code (reply_spelling (States total first))) refl
replies (Keys total first) = other_code 11 (behind_code (reply_spelling (Keys total first))) refl
replies (Raised floor number) = other_code 12 (behind_code (reply_spelling (Raised floor number))) refl
replies (Tidied collected) = other_code 13 (behind_code (reply_spelling (Tidied collected))) refl
replies (Statistics known kept leaves sessions sites) = other_code 14 (behind_code (reply_spelling (Statistics known kept leaves sessions sites))) refl
replies (Shown arrival children path) = other_code 15 (behind_code (reply_spelling (Shown arrival children path))) refl
replies (Batch batch) = other_code 16 (behind_code (reply_spelling (Batch batch))) refl
replies Applied = other_code 17 (behind_code (reply_spelling Applied)) refl
replies Known = other_code 18 (behind_code (reply_spelling Known)) refl
replies (Early have) = other_code 19 (behind_code (reply_spelling (Early have))) refl
replies Closed = other_code 20 (behind_code (reply_spelling Closed)) refl
replies (Refused refusal) = refusals refusal
replies NoMemory = other_code 22 (behind_code (reply_spelling NoMemory)) refl

pub room_is_read : RoomIsRead
room_is_read bytes reply spelled = ap lacks_room spelled.1 ∙ replies reply
