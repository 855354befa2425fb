use Rattle.std.proofs.Common.{[], ap}
use Rattle.std.specs.Option.{option_map_or}
use Rattle.shell_text.specs.ReplyLines.{reply_line}
use Rattle.plain_site.specs.Step.{step_over_bytes}
use Rattle.tardis_main.proofs.laws.replies_have_lines.Goals as goal

pub returns : goal.returns
returns c = λ site event sound.
    let reply = (step_over_bytes site event).1 in
    let valid = c.replies_fit_a_frame.ensures.bytes.valid site event sound in
    ap (λ read. option_map_or reply_line read []) (c.talk_has_one_spelling.ensures.reply.read_back reply valid)
