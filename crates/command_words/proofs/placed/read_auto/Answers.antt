use Rattle.std.proofs.Common.{map, sym}
use Rattle.std.specs.String.{string_bytes}
use Rattle.command_words.specs.Settings.{settings}
use Rattle.command_words.proofs.Copies.{auto_copied}
use Rattle.command_words.proofs.placed.read_auto.Goals as goal

pub returns-in-Err-NoMemory : goal.returns-in-Err-NoMemory
returns-in-Err-NoMemory c =
    auto_copied (settings (map (λ w. string_bytes w) c.args.words.now)) c.in-Some.place c.in-Some.text.now (sym c.in-Some.ensures.form)
    (λ none.
    let malformed = c.in-Err-NoMemory.ensures.form.1 none in
    let short = c.in-Err-NoMemory.field-0-is in absurd (cc))
