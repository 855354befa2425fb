use Rattle.std.proofs.Common.{[], ◌++◌, ap, ◌∙◌}
use Rattle.std.specs.Option.{option_map_or}
use Rattle.tardis_base.specs.declared.replies.Reply.TheVariants.{Refused}
use Rattle.wire_talk.specs.Spellings.{reply_spelling}
use Rattle.shell_text.specs.ReplyLines.{reply_line}
use Rattle.shell_text.specs.Spelled.{reply_line_of}
use Rattle.auto_run.proofs.end_lines.put_refused.Goals as goal

pub returns : goal.returns
returns c =
    c.put_reply_line.ensures ∙ ap reply_line_of (c.bytes.ensures.same ∙ c.write_reply.ensures
    ∙ ap (λ z. z ++ reply_spelling (Refused c.args.refusal)) c.clear.ensures)
    ∙ ap (λ o. option_map_or reply_line o []) (c.talk_has_one_spelling.ensures.reply.read_back (Refused c.args.refusal) c.requires)
