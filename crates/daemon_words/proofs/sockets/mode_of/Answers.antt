use Rattle.std.proofs.Common.{◌≡◌, true, rules, arith}
use Rattle.std.specs.Str.Parse.{digits_value}
use Rattle.daemon_words.specs.Sockets.{is_mode}
use Rattle.daemon_words.proofs.Modes.{mode_small, mode_read}
use Rattle.daemon_words.proofs.sockets.mode_of.Goals as goal

pub returns-in-Ok-clause-bits : goal.returns-in-Ok-clause-bits
returns-in-Ok-clause-bits c =
    let is : is_mode c.args.word.now ≡ true = search rules in
    let read = mode_read c.args.word.now c.from_str_radix.result c.from_str_radix.ensures.value is in
    let given = c.in-Ok.is in
    let same : c.in-Ok.mode ≡ digits_value 8 c.args.word.now = cc in
    omega (arith, same, mode_small c.args.word.now is)

pub returns-in-Err-clause-mode : goal.returns-in-Err-clause-mode
returns-in-Err-clause-mode c =
    let is : is_mode c.args.word.now ≡ true = search rules in
    let read = mode_read c.args.word.now c.from_str_radix.result c.from_str_radix.ensures.value is in
    let err = c.in-Err.is in absurd (cc)
