use Rattle.std.proofs.Common.{refl, None, Ok, ◌∙◌, ap}
use Rattle.tardis_base.specs.declared.records.Item.TheVariants.{State, Promise}
use Rattle.wire_item.specs.Fronts.{made, front_of_code}
use Rattle.wire_item.specs.Readings.{u8_front, record_front, consent_front, item_rows, item_front}
use Rattle.wire_item.proofs.Fronts.{made-read}
use Rattle.wire_item.proofs.Takings.{taken, untaken, making, unmade, makes, makes-none, made-none}
use Rattle.wire_item.proofs.Codes.{code-none, code-read, code-other}
use Rattle.item_bytes.proofs.readers.Reader.item.Goals as goal

pub returns-in_err-kind : goal.returns-in_err-kind
returns-in_err-kind c =
    let none = untaken u8_front c.args.self.now c.u8.new.self c.in_err-kind.ensures in
    makes-none item_front c.args.self.now c.u8.new.self c.from_residual.result c.from_residual.ensures (code-none item_rows c.args.self.now refl none)

pub returns-in_err-record : goal.returns-in_err-record
returns-in_err-record c =
    let kind = taken u8_front c.args.self.now c.u8.new.self c.in_ok-kind.kind c.in_ok-kind.ensures in
    let none = unmade record_front c.u8.new.self c.record.new.self c.in_err-record.ensures in
    makes-none item_front c.args.self.now c.record.new.self c.from_residual-in_err-record.result c.from_residual-in_err-record.ensures
    (code-read item_rows c.args.self.now c.in_ok-kind.kind c.u8.new.self kind ∙ ap (λ k. front_of_code k item_rows c.u8.new.self) c.if-kind-eq1.true
    ∙ made-none State record_front c.u8.new.self none)

pub returns-then-kind-eq1 : goal.returns-then-kind-eq1
returns-then-kind-eq1 c =
    let kind = taken u8_front c.args.self.now c.u8.new.self c.in_ok-kind.kind c.in_ok-kind.ensures in
    let read = making record_front c.u8.new.self c.record.new.self c.in_ok-record.record c.in_ok-record.ensures in
    makes item_front c.args.self.now c.record.new.self c.state_item.result (State read.0)
    (code-read item_rows c.args.self.now c.in_ok-kind.kind c.u8.new.self kind ∙ ap (λ k. front_of_code k item_rows c.u8.new.self) c.if-kind-eq1.true
    ∙ made-read State record_front c.u8.new.self read.0 c.record.new.self read.1)
    (c.state_item.ensures read.0 read.2)

pub returns-then-kind-ne2 : goal.returns-then-kind-ne2
returns-then-kind-ne2 c =
    let kind = taken u8_front c.args.self.now c.u8.new.self c.in_ok-kind.kind c.in_ok-kind.ensures in
    makes-none item_front c.args.self.now c.u8.new.self None refl
    (code-read item_rows c.args.self.now c.in_ok-kind.kind c.u8.new.self kind
    ∙ code-other (made State record_front) (made Promise consent_front) 1 2 c.in_ok-kind.kind c.u8.new.self c.if-kind-eq1.false c.if-kind-ne2.true)

pub returns-in_err-consent : goal.returns-in_err-consent
returns-in_err-consent c =
    let kind = taken u8_front c.args.self.now c.u8.new.self c.in_ok-kind.kind c.in_ok-kind.ensures in
    let none = untaken consent_front c.u8.new.self c.consent.new.self c.in_err-consent.ensures in
    makes-none item_front c.args.self.now c.consent.new.self c.from_residual-in_err-consent.result c.from_residual-in_err-consent.ensures
    (code-read item_rows c.args.self.now c.in_ok-kind.kind c.u8.new.self kind ∙ ap (λ k. front_of_code k item_rows c.u8.new.self) c.if-kind-ne2.false
    ∙ made-none Promise consent_front c.u8.new.self none)

pub returns : goal.returns
returns c =
    let kind = taken u8_front c.args.self.now c.u8.new.self c.in_ok-kind.kind c.in_ok-kind.ensures in
    let read = taken consent_front c.u8.new.self c.consent.new.self c.in_ok-consent.consent c.in_ok-consent.ensures in
    makes item_front c.args.self.now c.consent.new.self (Ok (Promise c.in_ok-consent.consent)) (Promise c.in_ok-consent.consent)
    (code-read item_rows c.args.self.now c.in_ok-kind.kind c.u8.new.self kind ∙ ap (λ k. front_of_code k item_rows c.u8.new.self) c.if-kind-ne2.false
    ∙ made-read Promise consent_front c.u8.new.self c.in_ok-consent.consent c.consent.new.self read) refl
