use Rattle.std.proofs.Common.{None, refl, ap, arith, ◌≡◌}
use Rattle.tardis_base.specs.declared.replies.Reply.TheVariants.{Merging, Value, Absent, Done, Committed, States, Keys}
use Rattle.wire_item.specs.Fronts.{both, front_of_code}
use Rattle.wire_item.specs.Readings.{id_front, parents_front, value_front}
use Rattle.wire_item.proofs.Takings.{makes-none}
use Rattle.wire_talk.specs.Memory.{reply_takes_no_memory}
use Rattle.wire_talk.specs.ReplyReadings.{first_ids_front, first_keys_front, reply_rows}
use Rattle.wire_talk.proofs.Arms.{arm-plain, arm-sure, sure-free, sure-makes}
use Rattle.talk_bytes.proofs.reply_readers.low_reply.Goals as goal

pub returns-in-1-clause-read : goal.returns-in-1-clause-read
returns-in-1-clause-read c =
    sure-makes (front_of_code c.args.code reply_rows) c.args.reader.now c.read_with_id.new.reader c.read_with_id.result c.sure.result c.sure.ensures c.read_with_id.ensures

pub returns-in-1-clause-sure : goal.returns-in-1-clause-sure
returns-in-1-clause-sure c = λ r rest e read sure is. sure-free c.read_with_id.result c.sure.result e c.sure.ensures is

pub returns-in-6-clause-read : goal.returns-in-6-clause-read
returns-in-6-clause-read c = arm-plain reply_rows 6 c.args.code Absent c.args.reader.now c.in-6.is refl

pub returns-in-7-clause-read : goal.returns-in-7-clause-read
returns-in-7-clause-read c = arm-plain reply_rows 7 c.args.code Done c.args.reader.now c.in-7.is refl

pub returns-in-3-clause-sure : goal.returns-in-3-clause-sure
returns-in-3-clause-sure c = λ r rest e read sure is.
    absurd (arm-sure reply_rows 3 c.args.code Merging parents_front reply_takes_no_memory (λ x. refl) c.args.reader.now r rest c.in-3.is refl read sure)

pub returns-in-4-clause-sure : goal.returns-in-4-clause-sure
returns-in-4-clause-sure c = λ r rest e read sure is.
    absurd (arm-sure reply_rows 4 c.args.code (λ p. Value p.0 p.1) (both id_front value_front) reply_takes_no_memory (λ x. refl) c.args.reader.now r rest
    c.in-4.is refl read sure)

pub returns-in-8-clause-sure : goal.returns-in-8-clause-sure
returns-in-8-clause-sure c = λ r rest e read sure is.
    absurd (arm-sure reply_rows 8 c.args.code (λ p. Committed p.0 p.1) (both id_front parents_front) reply_takes_no_memory (λ x. refl) c.args.reader.now r
    rest c.in-8.is refl read sure)

pub returns-in-10-clause-sure : goal.returns-in-10-clause-sure
returns-in-10-clause-sure c = λ r rest e read sure is.
    absurd (arm-sure reply_rows 10 c.args.code (λ p. States p.0 p.1) first_ids_front reply_takes_no_memory (λ x. refl) c.args.reader.now r rest c.in-10.is
    refl read sure)

pub returns-in-11-clause-sure : goal.returns-in-11-clause-sure
returns-in-11-clause-sure c = λ r rest e read sure is.
    absurd (arm-sure reply_rows 11 c.args.code (λ p. Keys p.0 p.1) first_keys_front reply_takes_no_memory (λ x. refl) c.args.reader.now r rest c.in-11.is
    refl read sure)

pub returns-in_default-clause-read : goal.returns-in_default-clause-read
returns-in_default-clause-read c =
    let zero : c.args.code ≡ 0 = grind arith in
    makes-none (front_of_code c.args.code reply_rows) c.args.reader.now c.args.reader.now None refl
    (ap (λ k. front_of_code k reply_rows c.args.reader.now) zero)
