use Rattle.std.proofs.Common.{refl, None, Ok, ap, arith}
use Rattle.tardis_base.specs.declared.requests.Request.TheVariants.{Open, Abort, ForkPoints, RaiseAuto, Tidy, Stat, Leaves, Close, Settle}
use Rattle.wire_item.specs.Fronts.{made, front_of_code}
use Rattle.wire_item.specs.Readings.{u16_front}
use Rattle.wire_item.proofs.Takings.{makes, makes-none}
use Rattle.wire_talk.specs.RequestReadings.{flag_front, request_rows}
use Rattle.wire_talk.proofs.Arms.{sure-arm, sure-free, sure-makes}
use Rattle.wire_talk.proofs.RequestFields.{rows-other}
use Rattle.talk_bytes.proofs.request_readers.fields.Goals as goal

pub returns-in-1-clause-read : goal.returns-in-1-clause-read
returns-in-1-clause-read c =
    sure-arm request_rows 1 c.args.code (made Open flag_front) c.args.reader.now c.read_open.new.reader c.read_open.result c.sure.result c.in-1.is refl
    c.sure.ensures c.read_open.ensures

pub returns-in-1-clause-sure : goal.returns-in-1-clause-sure
returns-in-1-clause-sure c = λ q e code free is. sure-free c.read_open.result c.sure.result e c.sure.ensures is

pub returns-in-15-clause-read : goal.returns-in-15-clause-read
returns-in-15-clause-read c =
    sure-arm request_rows 15 c.args.code (made Tidy u16_front) c.args.reader.now c.read_tidy.new.reader c.read_tidy.result c.sure-in-15.result c.in-15.is refl
    c.sure-in-15.ensures c.read_tidy.ensures

pub returns-in-15-clause-sure : goal.returns-in-15-clause-sure
returns-in-15-clause-sure c = λ q e code free is. sure-free c.read_tidy.result c.sure-in-15.result e c.sure-in-15.ensures is

pub returns-in-12-clause-read : goal.returns-in-12-clause-read
returns-in-12-clause-read c =
    sure-makes (front_of_code c.args.code request_rows) c.args.reader.now c.read_with_id.new.reader c.read_with_id.result c.sure-in-12.result c.sure-in-12.ensures
    c.read_with_id.ensures

pub returns-in-12-clause-sure : goal.returns-in-12-clause-sure
returns-in-12-clause-sure c = λ q e code free is. sure-free c.read_with_id.result c.sure-in-12.result e c.sure-in-12.ensures is

pub returns-in-7-clause-read : goal.returns-in-7-clause-read
returns-in-7-clause-read c =
    makes (front_of_code c.args.code request_rows) c.args.reader.now c.args.reader.now (Ok Abort) Abort
    (ap (λ k. front_of_code k request_rows c.args.reader.now) c.in-7.is) refl

pub returns-in-9-clause-read : goal.returns-in-9-clause-read
returns-in-9-clause-read c =
    makes (front_of_code c.args.code request_rows) c.args.reader.now c.args.reader.now (Ok ForkPoints) ForkPoints
    (ap (λ k. front_of_code k request_rows c.args.reader.now) c.in-9.is) refl

pub returns-in-14-clause-read : goal.returns-in-14-clause-read
returns-in-14-clause-read c =
    makes (front_of_code c.args.code request_rows) c.args.reader.now c.args.reader.now (Ok RaiseAuto) RaiseAuto
    (ap (λ k. front_of_code k request_rows c.args.reader.now) c.in-14.is) refl

pub returns-in-16-clause-read : goal.returns-in-16-clause-read
returns-in-16-clause-read c =
    makes (front_of_code c.args.code request_rows) c.args.reader.now c.args.reader.now (Ok Stat) Stat
    (ap (λ k. front_of_code k request_rows c.args.reader.now) c.in-16.is) refl

pub returns-in-18-clause-read : goal.returns-in-18-clause-read
returns-in-18-clause-read c =
    makes (front_of_code c.args.code request_rows) c.args.reader.now c.args.reader.now (Ok Leaves) Leaves
    (ap (λ k. front_of_code k request_rows c.args.reader.now) c.in-18.is) refl

pub returns-in-21-clause-read : goal.returns-in-21-clause-read
returns-in-21-clause-read c =
    makes (front_of_code c.args.code request_rows) c.args.reader.now c.args.reader.now (Ok Close) Close
    (ap (λ k. front_of_code k request_rows c.args.reader.now) c.in-21.is) refl

pub returns-in-22-clause-read : goal.returns-in-22-clause-read
returns-in-22-clause-read c =
    makes (front_of_code c.args.code request_rows) c.args.reader.now c.args.reader.now (Ok Settle) Settle
    (ap (λ k. front_of_code k request_rows c.args.reader.now) c.in-22.is) refl

pub returns-in_default-clause-read : goal.returns-in_default-clause-read
returns-in_default-clause-read c =
    makes-none (front_of_code c.args.code request_rows) c.args.reader.now c.args.reader.now None refl
    (rows-other request_rows 1 22 c.args.code c.args.reader.now refl (λ m low high e. grind (arith, low, high, e)))
