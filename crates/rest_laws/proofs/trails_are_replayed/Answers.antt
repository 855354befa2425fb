use Rattle.rest_laws.proofs.Trails.{trails-are-replayed, openings-are-replayed, answers-are-replayed, kept-fronts-are-of-fronts}
use Rattle.rest_laws.proofs.Wrong.{told-floors-break-trails, told-floors-break-openings}
use Rattle.rest_laws.proofs.Wrong.{undone-breaks, twice-breaks, made-up-breaks}
use Rattle.rest_laws.proofs.Seeing.{is-kept-as-seen}
use Rattle.rest_laws.proofs.Wrong.{undone-breaks-sight}
use Rattle.rest_laws.proofs.trails_are_replayed.Goals as goal

pub returns-clause-trails : goal.returns-clause-trails
returns-clause-trails c = trails-are-replayed

pub returns-clause-openings : goal.returns-clause-openings
returns-clause-openings c = openings-are-replayed

pub returns-clause-answers : goal.returns-clause-answers
returns-clause-answers c = answers-are-replayed

pub returns-clause-fronts : goal.returns-clause-fronts
returns-clause-fronts c = kept-fronts-are-of-fronts

pub returns-clause-told_breaks : goal.returns-clause-told_breaks
returns-clause-told_breaks c = told-floors-break-trails

pub returns-clause-told_breaks_openings : goal.returns-clause-told_breaks_openings
returns-clause-told_breaks_openings c = told-floors-break-openings

pub returns-clause-undone_breaks : goal.returns-clause-undone_breaks
returns-clause-undone_breaks c = undone-breaks

pub returns-clause-twice_breaks : goal.returns-clause-twice_breaks
returns-clause-twice_breaks c = twice-breaks

pub returns-clause-made_up_breaks : goal.returns-clause-made_up_breaks
returns-clause-made_up_breaks c = made-up-breaks

pub returns-clause-seen : goal.returns-clause-seen
returns-clause-seen c = is-kept-as-seen c.talk_has_one_spelling.ensures.request

pub returns-clause-undone_breaks_sight : goal.returns-clause-undone_breaks_sight
returns-clause-undone_breaks_sight c = undone-breaks-sight
