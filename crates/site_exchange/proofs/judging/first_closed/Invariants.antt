use Rattle.std.proofs.Common.{◌≡◌, find, take, drop, IsTrue}
use Rattle.std.specs.List.{list_all}
use Rattle.plain_dag.specs.States.{is_known}
use Rattle.plain_dag.specs.Floors.{is_closed}
use Rattle.state_dag.specs.Stands.{Stands}
use Rattle.state_dag.specs.Table.{is_listed}
use Rattle.plain_site.specs.Site.{Site}
use Rattle.site_exchange.specs.Stands.{BookStands}
use Rattle.site_exchange.proofs.judging.first_closed.Given as goal

abbrev pub invariant-loop-state : goal.invariant-loop-state
invariant-loop-state l = record {
  listed : IsTrue (list_all (is_listed l.dag) (take l.state-index l.states));
  closed : (site : Site) → Stands l.dag site.dag site.collected → BookStands l.dag l.book site → IsTrue (list_all (is_known site.dag) l.states) →
      find (is_closed site.dag site.floors) l.states ≡ find (is_closed site.dag site.floors) (drop l.state-index l.states);
}
