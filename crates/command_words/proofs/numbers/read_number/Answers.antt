use Rattle.std.proofs.Common.{◌≡◌, true, arith, rules}
use Rattle.command_words.specs.Values.{is_numeral}
use Rattle.command_words.proofs.Numerals.{not_read}
use Rattle.command_words.proofs.numbers.read_number.Goals as goal

pub returns-in_default-clause-number : goal.returns-in_default-clause-number
returns-in_default-clause-number c =
    let is : is_numeral c.args.word.now ≡ true = search rules in
    not_read c.in_default.field-0 c.args.least c.args.most c.args.word.now c.in_default.ensures.value.0 is (omega (arith, c.ranges.most.fits))
