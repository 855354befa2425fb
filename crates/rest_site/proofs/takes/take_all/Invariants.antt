use Rattle.std.proofs.Common.{◌≡◌, ◌+◌, ◌≤◌, true, length}
use Rattle.session_core.specs.Machine.{opened_with}
use Rattle.session_core.specs.Rests.{is_quiet}
use Rattle.rest_site.specs.Stands.{held_site, StandsForSome}
use Rattle.rest_site.specs.Takings.{Leads}
use Rattle.rest_site.proofs.takes.take_all.Given as goal

abbrev pub invariant-loop-place : goal.invariant-loop-place
invariant-loop-place l = record {
  leads : Leads (held_site l.fn.core l.fn.lives l.fn.loading) (held_site l.core l.lives l.loading) l.bytes l.reader;
  quiet : is_quiet l.core ≡ true;
  stands : StandsForSome l.core l.loading;
  shorter : length l.reader + l._place ≤ length l.bytes;
  opening : opened_with l.core ≡ opened_with l.fn.core;
}
