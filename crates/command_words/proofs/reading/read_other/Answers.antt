use Rattle.std.proofs.Common.{rules}
use Rattle.command_words.proofs.reading.read_other.Goals as goal

pub returns-in_default-clause-form : goal.returns-in_default-clause-form
returns-in_default-clause-form c = λ serve auto durable.
    c.read_rest.ensures.form serve auto durable (search rules) (search rules) (search rules)
