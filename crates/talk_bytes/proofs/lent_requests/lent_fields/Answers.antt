use Rattle.std.specs.Prelude.{option_map}
use Rattle.std.proofs.Common.{refl, arith}
use Rattle.tardis_base.specs.declared.requests.Request.TheVariants.{Begin, Get, Put, Delete, Commit}
use Rattle.wire_item.specs.Fronts.{both}
use Rattle.wire_item.specs.Readings.{key_front, value_front}
use Rattle.talk_bytes.specs.Lent.{request_lent}
use Rattle.wire_talk.specs.RequestReadings.{begin_front, commit_front}
use Rattle.talk_bytes.proofs.Lending.{arm-lent, arm-other}
use Rattle.talk_bytes.proofs.lent_requests.lent_fields.Goals as goal

pub returns-in-2 : goal.returns-in-2
returns-in-2 c =
    arm-lent 2 c.args.code Begin begin_front c.args.reader.now (option_map request_lent c.read_begin.result) c.read_begin.new.reader c.in-2.is refl
    (λ a. refl) c.read_begin.ensures

pub returns-in-3 : goal.returns-in-3
returns-in-3 c =
    arm-lent 3 c.args.code Get key_front c.args.reader.now (option_map request_lent c.read_get.result) c.read_get.new.reader c.in-3.is refl
    (λ a. refl) c.read_get.ensures

pub returns-in-4 : goal.returns-in-4
returns-in-4 c =
    arm-lent 4 c.args.code (λ p. Put p.0 p.1) (both key_front value_front) c.args.reader.now (option_map request_lent c.read_put.result)
    c.read_put.new.reader c.in-4.is refl (λ a. refl) c.read_put.ensures

pub returns-in-5 : goal.returns-in-5
returns-in-5 c =
    arm-lent 5 c.args.code Delete key_front c.args.reader.now (option_map request_lent c.read_delete.result) c.read_delete.new.reader c.in-5.is refl
    (λ a. refl) c.read_delete.ensures

pub returns-in-6 : goal.returns-in-6
returns-in-6 c =
    arm-lent 6 c.args.code (λ p. Commit (record { 0 = p.0 }) p.1) commit_front c.args.reader.now (option_map request_lent c.read_commit.result)
    c.read_commit.new.reader c.in-6.is refl (λ a. refl)
    c.read_commit.ensures

pub returns-in_default : goal.returns-in_default
returns-in_default c = arm-other c.args.code c.args.reader.now c.args.reader.now (λ m low high e. omega (arith, low, high, e))
