use Rattle.std.proofs.Common.{None, Some, sym, subst, ◌∙◌}
use Rattle.wire_item.specs.Readings.{u8_front}
use Rattle.wire_item.specs.Takings.{Takes}
use Rattle.talk_bytes.specs.Lent.{request_lent}
use Rattle.talk_bytes.proofs.Lending.{no-code, no-fields, all-read, left-over}
use Rattle.talk_bytes.proofs.lent_requests.read_lent.Goals as goal

pub returns-in_err-code-clause-all : goal.returns-in_err-code-clause-all
returns-in_err-code-clause-all c = λ q spelled lendable.
    let code = subst (λ b. Takes u8_front b None c.u8.new.self) c.new-reader.ensures c.in_err-code.ensures in
    absurd (no-code c.args.bytes.now c.u8.new.self q code spelled lendable)

pub returns-in_err-lent-clause-all : goal.returns-in_err-lent-clause-all
returns-in_err-lent-clause-all c = λ q spelled lendable.
    let code = subst (λ b. Takes u8_front b (Some c.in_ok-code.code) c.u8.new.self) c.new-reader.ensures c.in_ok-code.ensures in
    absurd (no-fields c.args.bytes.now c.u8.new.self c.lent_fields.new.reader c.in_ok-code.code q code c.in_err-lent.ensures spelled lendable)

pub returns-then-is_done-clause-lent : goal.returns-then-is_done-clause-lent
returns-then-is_done-clause-lent c =
    let code = subst (λ b. Takes u8_front b (Some c.in_ok-code.code) c.u8.new.self) c.new-reader.ensures c.in_ok-code.ensures in
    all-read c.args.bytes.now c.u8.new.self c.lent_fields.new.reader c.in_ok-code.code (request_lent c.in_ok-lent.lent) code c.in_ok-lent.ensures
    (sym c.is_done.ensures ∙ c.if-is_done.true)

pub returns-else-is_done-clause-all : goal.returns-else-is_done-clause-all
returns-else-is_done-clause-all c = λ q spelled lendable.
    let code = subst (λ b. Takes u8_front b (Some c.in_ok-code.code) c.u8.new.self) c.new-reader.ensures c.in_ok-code.ensures in
    absurd (left-over c.args.bytes.now c.u8.new.self c.lent_fields.new.reader c.in_ok-code.code q (request_lent c.in_ok-lent.lent) code c.in_ok-lent.ensures
    (sym c.is_done.ensures ∙ c.if-is_done.false) spelled lendable)
