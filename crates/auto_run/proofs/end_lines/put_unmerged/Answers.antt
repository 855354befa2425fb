use Rattle.std.proofs.Common.{ap, ap₂, ◌∙◌, codes}
use Rattle.text_words.specs.Puts.{putting, says, spaced}
use Rattle.text_words.specs.Words.{byte_word}
use Rattle.auto_run.proofs.Ends.{said-both, unmerged-fits}
use Rattle.auto_run.proofs.end_lines.put_unmerged.Goals as goal

pub returns : goal.returns
returns c =
    said-both c.say_bytes.new.self c.say_bytes.new.out (codes "auto refused") (spaced (byte_word c.args.key.now))
    (c.say_bytes.ensures ∙ ap (λ k. says (spaced (byte_word k)) (putting c.say.new.self c.say.new.out)) c.as_slice.ensures.same
    ∙ ap (says (spaced (byte_word c.args.key.now))) (c.say.ensures
    ∙ ap₂ (λ v o. says (codes "auto refused") (putting v o)) c.new-unread.ensures c.clear.ensures))
    (unmerged-fits c.args.key.now c.as_slice.ensures.valid c.lines_fit_their_room.ensures.reply)
