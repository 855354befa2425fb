use Rattle.command_words.proofs.Runs.{runs_at_a_site, shells_at_a_site, audits_at_a_site, serves_at_a_site, autos_at_a_site, durables_at_a_site}
use Rattle.command_words.proofs.Runs.{exports_at_a_site}
use Rattle.command_words.proofs.laws.commands_are_at_a_site.Goals as goal

pub returns-clause-run : goal.returns-clause-run
returns-clause-run c = runs_at_a_site

pub returns-clause-shell : goal.returns-clause-shell
returns-clause-shell c = shells_at_a_site

pub returns-clause-audit : goal.returns-clause-audit
returns-clause-audit c = audits_at_a_site

pub returns-clause-serve : goal.returns-clause-serve
returns-clause-serve c = serves_at_a_site

pub returns-clause-auto : goal.returns-clause-auto
returns-clause-auto c = autos_at_a_site

pub returns-clause-durable : goal.returns-clause-durable
returns-clause-durable c = durables_at_a_site

pub returns-clause-export : goal.returns-clause-export
returns-clause-export c = exports_at_a_site
