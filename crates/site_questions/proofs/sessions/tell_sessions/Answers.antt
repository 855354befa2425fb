use Rattle.std.proofs.Common.{◌∙◌, ap}
use Rattle.std.specs.Prelude.{min}
use Rattle.site_questions.proofs.Lines.{sessions-are}
use Rattle.plain_questions.specs.declared.questions.Answered.TheVariants.{Sessions as TheSessions}
use Rattle.site_questions.proofs.sessions.tell_sessions.Goals as goal

pub returns : goal.returns
returns c = λ plain stands.
    let floor = c.floor_of-floor.ensures plain stands in
    ap (TheSessions c.floor_of-floor.result c.number_of-total.result) (c.from_vec.ensures ∙ c.truncate.ensures.items)
    ∙ sessions-are plain c.args.after c.floor_of-floor.result c.in_ok-lines.lines.items c.number_of-total.result floor
    (c.in_ok-lines.ensures plain stands.0 floor) (c.number_of-total.ensures ∙ ap (λ n. min n 4294967295) (c.len.ensures ∙ c.in_ok-lines.lines.ok.0))
