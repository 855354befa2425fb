use Rattle.std.proofs.Common.{sym, ◌∙◌}
use Rattle.shell_text.proofs.LineReads.{key-read}
use Rattle.shell_text.proofs.line_field_readers.key_into.Goals as goal

pub returns-then-is_key_length-clause-bytes : goal.returns-then-is_key_length-clause-bytes
returns-then-is_key_length-clause-bytes c =
    let read = c.in-Some-read_bytes.ensures.bytes in (
      read.0,
      key-read c.args.words.now c.in-Some.word.now c.in-Some.left c.read_bytes.new.room c.in-Some-read_bytes.count c.in-Some.ensures read.0 read.1
          (sym c.is_key_length.ensures ∙ c.if-is_key_length.true),
    )
