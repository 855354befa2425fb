use Rattle.std.proofs.Common.{sym, ◌∙◌}
use Rattle.shell_text.proofs.LineReads.{value-read}
use Rattle.shell_text.proofs.line_field_readers.value_into.Goals as goal

pub returns-then-is_value_length-clause-bytes : goal.returns-then-is_value_length-clause-bytes
returns-then-is_value_length-clause-bytes c =
    let read = c.in-Some-read_bytes.ensures.bytes in (
      read.0,
      value-read c.args.words.now c.in-Some.word.now c.in-Some.left c.read_bytes.new.room c.in-Some-read_bytes.count c.in-Some.ensures read.0 read.1
          (sym c.is_value_length.ensures ∙ c.if-is_value_length.true),
    )
