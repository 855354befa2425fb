use Rattle.site_run.proofs.FormLaws.{lines_are_lawful}
use Rattle.site_run.proofs.Ends.{line_end}
use Rattle.site_run.proofs.runs.answer_lines.Goals as goal

pub answer_bodies-requires : goal.answer_bodies-requires
answer_bodies-requires g c = lines_are_lawful

pub returns-clause-status : goal.returns-clause-status
returns-clause-status g c = line_end c.answer_bodies.result c.answer_bodies.ensures.status
