use Rattle.std.proofs.Common.{rules, ◌≡◌, true, map, sym}
use Rattle.std.specs.String.{string_bytes}
use Rattle.command_words.specs.Settings.{settings}
use Rattle.command_words.specs.Values.{is_address}
use Rattle.command_words.proofs.Copies.{durable_copied}
use Rattle.command_words.proofs.placed.read_durable.Goals as goal

pub returns-in-Err : goal.returns-in-Err
returns-in-Err c =
    let has : is_address c.in-Some.word.now ≡ true = search rules in
    durable_copied (settings (map (λ w. string_bytes w) c.args.words.now)) c.in-Some.place c.in-Some.word.now (sym c.in-Some.ensures.form) has
