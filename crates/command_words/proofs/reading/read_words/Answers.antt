use Rattle.std.proofs.Common.{map, subst, arith}
use Rattle.std.specs.String.{string_bytes}
use Rattle.command_words.specs.Forms.{form}
use Rattle.command_words.specs.Readings.{IsReading}
use Rattle.command_words.proofs.Readings.{form_split, read-form, read-place, read-usage, read-memory}
use Rattle.command_words.proofs.reading.read_words.Goals as goal

read : (c : goal.After-read_command) → IsReading (form (map (λ w. string_bytes w) c.args.words.now)) c.read_command.result
read c =
    subst (λ said. IsReading said c.read_command.result)
    (form_split c.args.words.now c.as_str.result.now c.command-item.result (omega arith) c.as_str.ensures.value c.command-item.is) c.read_command.ensures

pub returns-clause-form : goal.returns-clause-form
returns-clause-form c = read-form (form (map (λ w. string_bytes w) c.args.words.now)) c.read_command.result (read c)

pub returns-clause-place : goal.returns-clause-place
returns-clause-place c = read-place (form (map (λ w. string_bytes w) c.args.words.now)) c.read_command.result (read c)

pub returns-clause-usage : goal.returns-clause-usage
returns-clause-usage c = read-usage (form (map (λ w. string_bytes w) c.args.words.now)) c.read_command.result (read c)

pub returns-clause-memory : goal.returns-clause-memory
returns-clause-memory c = read-memory (form (map (λ w. string_bytes w) c.args.words.now)) c.read_command.result (read c)
