use Rattle.std.proofs.Common.{refl, None, Ok, ◌∙◌, ap}
use Rattle.tardis_base.specs.declared.records.Write.TheVariants.{Put, Delete}
use Rattle.wire_item.specs.Fronts.{nothing_but, made, front_of_code}
use Rattle.wire_item.specs.Readings.{u8_front, value_front, write_rows, write_front}
use Rattle.wire_item.proofs.Fronts.{made-read}
use Rattle.wire_item.proofs.Takings.{taken, untaken, makes, makes-none, made-none}
use Rattle.wire_item.proofs.Codes.{code-none, code-read, code-other}
use Rattle.item_bytes.proofs.readers.Reader.write.Goals as goal

pub returns-in_err-kind : goal.returns-in_err-kind
returns-in_err-kind c =
    let none = untaken u8_front c.args.self.now c.u8.new.self c.in_err-kind.ensures in
    makes-none write_front c.args.self.now c.u8.new.self c.from_residual.result c.from_residual.ensures (code-none write_rows c.args.self.now refl none)

pub returns-then-kind-eq0 : goal.returns-then-kind-eq0
returns-then-kind-eq0 c =
    let kind = taken u8_front c.args.self.now c.u8.new.self c.in_ok-kind.kind c.in_ok-kind.ensures in
    makes write_front c.args.self.now c.u8.new.self (Ok Delete) Delete
    (code-read write_rows c.args.self.now c.in_ok-kind.kind c.u8.new.self kind ∙ ap (λ k. front_of_code k write_rows c.u8.new.self) c.if-kind-eq0.true) refl

pub returns-then-kind-ne1 : goal.returns-then-kind-ne1
returns-then-kind-ne1 c =
    let kind = taken u8_front c.args.self.now c.u8.new.self c.in_ok-kind.kind c.in_ok-kind.ensures in
    makes-none write_front c.args.self.now c.u8.new.self None refl
    (code-read write_rows c.args.self.now c.in_ok-kind.kind c.u8.new.self kind
    ∙ code-other (nothing_but Delete) (made Put value_front) 0 1 c.in_ok-kind.kind c.u8.new.self c.if-kind-eq0.false c.if-kind-ne1.true)

pub returns-in_err-value : goal.returns-in_err-value
returns-in_err-value c =
    let kind = taken u8_front c.args.self.now c.u8.new.self c.in_ok-kind.kind c.in_ok-kind.ensures in
    let none = untaken value_front c.u8.new.self c.value.new.self c.in_err-value.ensures in
    makes-none write_front c.args.self.now c.value.new.self c.from_residual-in_err-value.result c.from_residual-in_err-value.ensures
    (code-read write_rows c.args.self.now c.in_ok-kind.kind c.u8.new.self kind ∙ ap (λ k. front_of_code k write_rows c.u8.new.self) c.if-kind-ne1.false
    ∙ made-none Put value_front c.u8.new.self none)

pub returns : goal.returns
returns c =
    let kind = taken u8_front c.args.self.now c.u8.new.self c.in_ok-kind.kind c.in_ok-kind.ensures in
    let value = taken value_front c.u8.new.self c.value.new.self c.in_ok-value.value.now c.in_ok-value.ensures in
    makes write_front c.args.self.now c.value.new.self c.put.result (Put c.in_ok-value.value.now)
    (code-read write_rows c.args.self.now c.in_ok-kind.kind c.u8.new.self kind ∙ ap (λ k. front_of_code k write_rows c.u8.new.self) c.if-kind-ne1.false
    ∙ made-read Put value_front c.u8.new.self c.in_ok-value.value.now c.value.new.self value)
    c.put.ensures
