use Rattle.std.proofs.Common.{refl, None, arith}
use Rattle.tardis_base.specs.declared.replies.Refusal.TheVariants.{Malformed, NotOpen, AlreadyOpen, TxnOpen, NoTxn, WrongMode, SeqEnd}
use Rattle.wire_item.specs.Fronts.{front_of_code}
use Rattle.wire_item.proofs.Takings.{takes-none}
use Rattle.wire_talk.specs.ReplyReadings.{refusal_rows}
use Rattle.wire_talk.proofs.Arms.{arm-bare, arm-behind}
use Rattle.wire_talk.proofs.RequestFields.{rows-other}
use Rattle.talk_bytes.proofs.refusal_readers.plain_refusal.Goals as goal

pub returns-in-1 : goal.returns-in-1
returns-in-1 c = arm-bare refusal_rows 1 c.args.code Malformed c.args.reader.now c.in-1.is refl

pub returns-in-2 : goal.returns-in-2
returns-in-2 c = arm-bare refusal_rows 2 c.args.code NotOpen c.args.reader.now c.in-2.is refl

pub returns-in-3 : goal.returns-in-3
returns-in-3 c = arm-bare refusal_rows 3 c.args.code AlreadyOpen c.args.reader.now c.in-3.is refl

pub returns-in-5 : goal.returns-in-5
returns-in-5 c = arm-bare refusal_rows 5 c.args.code TxnOpen c.args.reader.now c.in-5.is refl

pub returns-in-6 : goal.returns-in-6
returns-in-6 c = arm-bare refusal_rows 6 c.args.code NoTxn c.args.reader.now c.in-6.is refl

pub returns-in-7 : goal.returns-in-7
returns-in-7 c = arm-bare refusal_rows 7 c.args.code WrongMode c.args.reader.now c.in-7.is refl

pub returns-in-22 : goal.returns-in-22
returns-in-22 c = arm-bare refusal_rows 22 c.args.code SeqEnd c.args.reader.now c.in-22.is refl

pub returns-in-8 : goal.returns-in-8
returns-in-8 c = arm-behind refusal_rows 8 c.args.code c.args.reader.now c.read_too_many.result c.read_too_many.new.reader c.in-8.is c.read_too_many.ensures

pub returns-in-15 : goal.returns-in-15
returns-in-15 c = arm-behind refusal_rows 15 c.args.code c.args.reader.now c.read_branches.result c.read_branches.new.reader c.in-15.is c.read_branches.ensures

pub returns-in-18 : goal.returns-in-18
returns-in-18 c = arm-behind refusal_rows 18 c.args.code c.args.reader.now c.read_held.result c.read_held.new.reader c.in-18.is c.read_held.ensures

pub returns-in-21 : goal.returns-in-21
returns-in-21 c = arm-behind refusal_rows 21 c.args.code c.args.reader.now c.read_path_full.result c.read_path_full.new.reader c.in-21.is c.read_path_full.ensures

pub returns-in-25 : goal.returns-in-25
returns-in-25 c = arm-behind refusal_rows 25 c.args.code c.args.reader.now c.read_own_item.result c.read_own_item.new.reader c.in-25.is c.read_own_item.ensures

pub returns-in-26 : goal.returns-in-26
returns-in-26 c = arm-behind refusal_rows 26 c.args.code c.args.reader.now c.read_trail_full.result c.read_trail_full.new.reader c.in-26.is c.read_trail_full.ensures

pub returns-in-27 : goal.returns-in-27
returns-in-27 c = arm-behind refusal_rows 27 c.args.code c.args.reader.now c.read_unsupported.result c.read_unsupported.new.reader c.in-27.is c.read_unsupported.ensures

pub returns-in-4 : goal.returns-in-4
returns-in-4 c = c.read_with_u16.ensures

pub returns-in-20 : goal.returns-in-20
returns-in-20 c = c.read_with_u32.ensures

pub returns-in-9 : goal.returns-in-9
returns-in-9 c = c.read_with_id.ensures

pub returns-in-10 : goal.returns-in-10
returns-in-10 c = c.read_with_two_ids.ensures

pub returns-in_default : goal.returns-in_default
returns-in_default c =
    takes-none (front_of_code c.args.code refusal_rows) c.args.reader.now c.args.reader.now None refl
    (rows-other refusal_rows 1 29 c.args.code c.args.reader.now refl (λ m low high e. grind (arith, low, high, e, c.requires)))
