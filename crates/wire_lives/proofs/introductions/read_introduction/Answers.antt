use Rattle.std.proofs.Common.{sym, ap, ◌∙◌}
use Rattle.wire_item.specs.Readings.{u8_front}
use Rattle.wire_item.proofs.Takings.{taken, untaken}
use Rattle.wire_lives.specs.Readings.{behind_code, introduction_of}
use Rattle.wire_lives.proofs.Read.{no-code, other-code, none-behind, some-behind, alone-done, alone-left}
use Rattle.wire_lives.proofs.introductions.read_introduction.Goals as goal

pub returns-in_err-code : goal.returns-in_err-code
returns-in_err-code c =
    let bytes = c.new-reader.result in
    c.from_residual.ensures
    ∙ (sym (no-code bytes (untaken u8_front bytes c.u8.new.self c.in_err-code.ensures)) ∙ ap introduction_of c.new-reader.ensures)

pub returns-then-code-ne-LIFE : goal.returns-then-code-ne-LIFE
returns-then-code-ne-LIFE c =
    let bytes = c.new-reader.result in
    sym (other-code bytes c.u8.new.self c.in_ok-code.code (taken u8_front bytes c.u8.new.self c.in_ok-code.code c.in_ok-code.ensures) c.if-code-ne-LIFE.true)
    ∙ ap introduction_of c.new-reader.ensures

pub returns-in_err-introduction : goal.returns-in_err-introduction
returns-in_err-introduction c =
    let bytes = c.new-reader.result in
    let left = c.u8.new.self in
    let code = taken u8_front bytes left c.in_ok-code.code c.in_ok-code.ensures in
    c.from_residual-in_err-introduction.ensures
    ∙ (sym (none-behind bytes left c.in_ok-code.code code c.if-code-ne-LIFE.false (untaken behind_code left c.fields.new.reader c.in_err-introduction.ensures))
    ∙ ap introduction_of c.new-reader.ensures)

pub returns-then-is_done : goal.returns-then-is_done
returns-then-is_done c =
    let bytes = c.new-reader.result in
    let left = c.u8.new.self in
    let i = c.in_ok-introduction.introduction in
    let code = taken u8_front bytes left c.in_ok-code.code c.in_ok-code.ensures in
    sym (some-behind bytes left c.in_ok-code.code code c.if-code-ne-LIFE.false i c.fields.new.reader
    (taken behind_code left c.fields.new.reader i c.in_ok-introduction.ensures)
    ∙ alone-done i c.fields.new.reader (sym c.is_done.ensures ∙ c.if-is_done.true))
    ∙ ap introduction_of c.new-reader.ensures

pub returns-else-is_done : goal.returns-else-is_done
returns-else-is_done c =
    let bytes = c.new-reader.result in
    let left = c.u8.new.self in
    let i = c.in_ok-introduction.introduction in
    let code = taken u8_front bytes left c.in_ok-code.code c.in_ok-code.ensures in
    sym (some-behind bytes left c.in_ok-code.code code c.if-code-ne-LIFE.false i c.fields.new.reader
    (taken behind_code left c.fields.new.reader i c.in_ok-introduction.ensures)
    ∙ alone-left i c.fields.new.reader (sym c.is_done.ensures ∙ c.if-is_done.false))
    ∙ ap introduction_of c.new-reader.ensures
