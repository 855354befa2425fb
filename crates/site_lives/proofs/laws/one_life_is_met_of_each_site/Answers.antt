use Rattle.site_lives.proofs.Trails.{lives-stay}
use Rattle.site_lives.proofs.Once.{refused-meetings-change-nothing, one-life-each}
use Rattle.site_lives.proofs.laws.one_life_is_met_of_each_site.Goals as goal

pub returns-clause-stay : goal.returns-clause-stay
returns-clause-stay c = lives-stay

pub returns-clause-refused : goal.returns-clause-refused
returns-clause-refused c = refused-meetings-change-nothing

pub returns-clause-one : goal.returns-clause-one
returns-clause-one c = λ m. one-life-each m c.introductions_have_one_spelling.ensures.one
