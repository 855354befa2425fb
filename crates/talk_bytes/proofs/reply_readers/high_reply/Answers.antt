use Rattle.std.proofs.Common.{None, refl, sym, subst, arith, ◌≤◌, IsTrue}
use Rattle.tardis_base.specs.declared.replies.Reply.TheVariants.{Stat as Statistics, Shown, Batch, Applied, Known, Closed, Refused}
use Rattle.tardis_base.specs.declared.replies.Reply.TheVariants.{NoMemory}
use Rattle.wire_item.specs.Fronts.{both, front_of_code, made}
use Rattle.wire_item.specs.Readings.{batch_front, u16_front, u32_front, u64_front}
use Rattle.wire_item.proofs.Takings.{makes-none}
use Rattle.wire_talk.specs.Memory.{reply_takes_no_memory}
use Rattle.wire_talk.specs.ReplyReadings.{children_front, path_front, refusal_front, reply_rows, site_lines_front}
use Rattle.wire_talk.proofs.Arms.{front-beyond, arm-plain, arm-sure, arm-source, sure-arm, sure-free, sure-makes}
use Rattle.talk_bytes.proofs.reply_readers.high_reply.Goals as goal

pub returns-in-12-clause-read : goal.returns-in-12-clause-read
returns-in-12-clause-read c =
    sure-arm reply_rows 12 c.args.code (front_of_code 12 reply_rows) c.args.reader.now c.read_raised.new.reader c.read_raised.result c.sure.result c.in-12.is
    refl c.sure.ensures c.read_raised.ensures

pub returns-in-12-clause-sure : goal.returns-in-12-clause-sure
returns-in-12-clause-sure c = λ r rest e read sure is. sure-free c.read_raised.result c.sure.result e c.sure.ensures is

pub returns-in-13-clause-read : goal.returns-in-13-clause-read
returns-in-13-clause-read c =
    sure-makes (front_of_code c.args.code reply_rows) c.args.reader.now c.read_with_count.new.reader c.read_with_count.result c.sure-in-13.result c.sure-in-13.ensures c.read_with_count.ensures

pub returns-in-13-clause-sure : goal.returns-in-13-clause-sure
returns-in-13-clause-sure c = λ r rest e read sure is. sure-free c.read_with_count.result c.sure-in-13.result e c.sure-in-13.ensures is

pub returns-in-14-clause-read : goal.returns-in-14-clause-read
returns-in-14-clause-read c =
    sure-arm reply_rows 14 c.args.code (made (λ p. Statistics p.0.0.0.0 p.0.0.0.1 p.0.0.1 p.0.1 p.1)
    (both (both (both (both u64_front u32_front) u32_front) u16_front) site_lines_front)) c.args.reader.now c.read_statistics.new.reader
    c.read_statistics.result c.sure-in-14.result c.in-14.is refl c.sure-in-14.ensures c.read_statistics.ensures

pub returns-in-14-clause-sure : goal.returns-in-14-clause-sure
returns-in-14-clause-sure c = λ r rest e read sure is. sure-free c.read_statistics.result c.sure-in-14.result e c.sure-in-14.ensures is

pub returns-in-17-clause-read : goal.returns-in-17-clause-read
returns-in-17-clause-read c = arm-plain reply_rows 17 c.args.code Applied c.args.reader.now c.in-17.is refl

pub returns-in-18-clause-read : goal.returns-in-18-clause-read
returns-in-18-clause-read c = arm-plain reply_rows 18 c.args.code Known c.args.reader.now c.in-18.is refl

pub returns-in-20-clause-read : goal.returns-in-20-clause-read
returns-in-20-clause-read c = arm-plain reply_rows 20 c.args.code Closed c.args.reader.now c.in-20.is refl

pub returns-in-22-clause-read : goal.returns-in-22-clause-read
returns-in-22-clause-read c = arm-plain reply_rows 22 c.args.code NoMemory c.args.reader.now c.in-22.is refl

pub returns-in-15-clause-sure : goal.returns-in-15-clause-sure
returns-in-15-clause-sure c = λ r rest e read sure is.
    absurd (arm-sure reply_rows 15 c.args.code (λ p. Shown p.0.0 p.0.1 p.1) (both (both u64_front children_front) path_front) reply_takes_no_memory
    (λ x. refl) c.args.reader.now r rest c.in-15.is refl read sure)

pub returns-in-16-clause-sure : goal.returns-in-16-clause-sure
returns-in-16-clause-sure c = λ r rest e read sure is.
    absurd (arm-sure reply_rows 16 c.args.code Batch batch_front reply_takes_no_memory (λ x. refl) c.args.reader.now r rest c.in-16.is refl read sure)

pub returns-in-21-clause-sure : goal.returns-in-21-clause-sure
returns-in-21-clause-sure c = λ r rest e read sure is.
    let m = arm-source reply_rows 21 c.args.code Refused refusal_front c.args.reader.now r rest c.in-21.is refl read in
    c.read_refused.ensures.sure m.source rest e m.reads (subst (λ x. IsTrue (reply_takes_no_memory x)) (sym m.is) sure) is

pub returns-in_default-clause-read : goal.returns-in_default-clause-read
returns-in_default-clause-read c =
    let great : 23 ≤ c.args.code = grind arith in
    makes-none (front_of_code c.args.code reply_rows) c.args.reader.now c.args.reader.now None refl
    (front-beyond 23 reply_rows c.args.code c.args.reader.now refl great)
