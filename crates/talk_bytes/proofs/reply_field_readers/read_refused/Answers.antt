use Rattle.std.proofs.Common.{◌≡◌, Option, Some, None, Result, Ok, Err, refl}
use Rattle.std.specs.Prelude.{OnErr, IsErr}
use Rattle.tardis_base.specs.declared.faults.NoMemory.{NoMemory}
use Rattle.tardis_base.specs.declared.replies.Refusal.{Refusal}
use Rattle.tardis_base.specs.declared.replies.Reply.{Reply}
use Rattle.tardis_base.specs.declared.replies.Reply.TheVariants.{Refused}
use Rattle.wire_item.specs.Fronts.{made}
use Rattle.wire_talk.specs.ReplyReadings.{refusal_front}
use Rattle.wire_item.proofs.Fronts.{made-read}
use Rattle.wire_item.proofs.Takings.{making, unmade, makes, makes-none, made-none}
use Rattle.talk_bytes.proofs.reply_field_readers.read_refused.Goals as goal

none-is : (r : Option (Result Reply NoMemory)) (e : NoMemory) → r ≡ None → r ≡ Some (Err e) → ⊥
none-is r e none is = absurd (cc)

-- a fault of the reply is that of its refusal
same-fault : (x : Result Refusal NoMemory) (r : Result Reply NoMemory) (e : NoMemory) → OnErr r (IsErr x) → Some r ≡ Some (Err e) → Some x ≡ Some (Err e)
same-fault (Err fault) r e same is = refl
same-fault (Ok x) (Ok r) e same is = absurd (cc)
same-fault (Ok x) (Err r) e same is = absurd (cc)

pub returns-in_err-refusal-clause-makes : goal.returns-in_err-refusal-clause-makes
returns-in_err-refusal-clause-makes c =
    let none = unmade refusal_front c.args.reader.now c.refusal.new.reader c.in_err-refusal.ensures.makes in
    makes-none (made Refused refusal_front) c.args.reader.now c.refusal.new.reader c.from_residual.result c.from_residual.ensures
    (made-none Refused refusal_front c.args.reader.now none)

pub returns-clause-makes : goal.returns-clause-makes
returns-clause-makes c =
    let read = making refusal_front c.args.reader.now c.refusal.new.reader c.in_ok-refusal.refusal c.in_ok-refusal.ensures.makes in
    makes (made Refused refusal_front) c.args.reader.now c.refusal.new.reader c.refused.result (Refused read.0)
    (made-read Refused refusal_front c.args.reader.now read.0 c.refusal.new.reader read.1) (c.refused.ensures.made read.0 read.2)

pub returns-in_err-refusal-clause-sure : goal.returns-in_err-refusal-clause-sure
returns-in_err-refusal-clause-sure c = λ x rest e read sure is. none-is c.from_residual.result e c.from_residual.ensures is

pub returns-clause-sure : goal.returns-clause-sure
returns-clause-sure c = λ x rest e read sure is.
    c.in_ok-refusal.ensures.sure x rest e read sure (same-fault c.in_ok-refusal.refusal c.refused.result e c.refused.ensures.same is)
