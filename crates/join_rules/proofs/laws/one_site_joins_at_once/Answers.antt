use Rattle.join_rules.proofs.RankLaws.{one-site-joins-at-once, some-site-joins-at-once}
use Rattle.join_rules.proofs.laws.one_site_joins_at_once.Goals as goal

pub returns-clause-one : goal.returns-clause-one
returns-clause-one c = one-site-joins-at-once

pub returns-clause-some : goal.returns-clause-some
returns-clause-some c = some-site-joins-at-once
