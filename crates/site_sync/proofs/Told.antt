-- Reading statistics takes no memory.
use Rattle.std.proofs.Common.{◌≡◌, ◌↔◌, List, ℕ, IsTrue, Option, Some, None, Result, Err, refl}
use Rattle.tardis_base.specs.declared.faults.ReadFault.{ReadFault}
use Rattle.tardis_base.specs.declared.faults.ReadFault.TheVariants.{Malformed, NoMemory as OutOfMemory}
use Rattle.tardis_base.specs.declared.replies.SiteLine.{SiteLine}
use Rattle.tardis_base.specs.declared.replies.Reply.{Reply}
use Rattle.tardis_base.specs.declared.replies.Reply.TheVariants.{Opened, Begun, Merging, Value, Deleted, Absent, Done, Committed, Ended, States, Keys, Raised}
use Rattle.tardis_base.specs.declared.replies.Reply.TheVariants.{Tidied, Stat as Statistics, Shown, Batch, Applied, Known, Early, Closed, Refused, NoMemory}
use Rattle.wire_talk.specs.Memory.{reply_takes_no_memory}
use Rattle.wire_talk.specs.ReplyReadings.{reply_of}
use Rattle.site_sync.specs.Asking.{StatesLines}

takes_none : (told : Reply) (lines : List SiteLine) → StatesLines told lines → IsTrue (reply_takes_no_memory told)
takes_none (Statistics known kept leaves sessions sites) lines e = refl
takes_none (Opened ceiling) lines e = absurd e
takes_none (Begun state) lines e = absurd e
takes_none (Merging states) lines e = absurd e
takes_none (Value writer value) lines e = absurd e
takes_none (Deleted writer) lines e = absurd e
takes_none Absent lines e = absurd e
takes_none Done lines e = absurd e
takes_none (Committed id parents) lines e = absurd e
takes_none (Ended state) lines e = absurd e
takes_none (States total first) lines e = absurd e
takes_none (Keys total first) lines e = absurd e
takes_none (Raised floor number) lines e = absurd e
takes_none (Tidied collected) lines e = absurd e
takes_none (Shown arrival children path) lines e = absurd e
takes_none (Batch batch) lines e = absurd e
takes_none Applied lines e = absurd e
takes_none Known lines e = absurd e
takes_none (Early have) lines e = absurd e
takes_none Closed lines e = absurd e
takes_none (Refused refusal) lines e = absurd e
takes_none NoMemory lines e = absurd e

none_some : (told : Reply) (o : Option Reply) → o ≡ None → o ≡ Some told → ⊥
none_some told o none some = absurd (cc)

pub no_fault : (bytes : List ℕ) (told : Reply) (lines : List SiteLine) (result : Result Reply ReadFault) (fault : ReadFault) → reply_of bytes ≡ Some told →
    StatesLines told lines
    → ((result ≡ Err Malformed) ↔ (reply_of bytes ≡ None)) →
    ((reply : Reply) → reply_of bytes ≡ Some reply → IsTrue (reply_takes_no_memory reply) → result ≡ Err OutOfMemory → ⊥) → result ≡ Err fault → ⊥
no_fault bytes told lines result Malformed some states malformed sure is = none_some told (reply_of bytes) (malformed.0 is) some
no_fault bytes told lines result OutOfMemory some states malformed sure is = sure told some (takes_none told lines states) is
