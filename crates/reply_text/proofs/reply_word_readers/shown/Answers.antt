use Rattle.std.proofs.Common.{Err, Ok, refl, ap}
use Rattle.std.specs.Prelude.{option_map}
use Rattle.tardis_base.specs.declared.replies.Reply.TheVariants.{Shown}
use Rattle.wire_talk.specs.Memory.{reply_takes_no_memory}
use Rattle.shell_text.proofs.LineReads.{kept-fault}
use Rattle.reply_text.proofs.PartReads.{result-same}
use Rattle.reply_text.proofs.reply_word_readers.shown.Goals as goal

pub returns-in-Err : goal.returns-in-Err
returns-in-Err c = λ xs read _ is.
    kept-fault reply_takes_no_memory (λ ps. Shown c.args.arrival xs ps) read c.in-Err.fault (λ _. refl)
    (result-same read c.args.path (Err c.in-Err.fault) c.in-Err.is is)

pub returns-in-Err-children : goal.returns-in-Err-children
returns-in-Err-children c = λ xs read _ is.
    let path = result-same read c.args.path (Ok c.in-Ok.path) c.in-Ok.is is in
    (Shown c.args.arrival xs c.in-Ok.path, ap (option_map (λ ps. Shown c.args.arrival xs ps)) path, refl)
