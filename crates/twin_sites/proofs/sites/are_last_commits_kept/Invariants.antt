use Rattle.std.proofs.Common.{◌≡◌, IsTrue}
use Rattle.std.specs.List.{list_all}
use Rattle.std.specs.Map.{values_of}
use Rattle.twin_sites.specs.Twins.{is_last_kept}
use Rattle.twin_sites.proofs.Sessions.{have_last_slots}
use Rattle.twin_sites.proofs.sites.are_last_commits_kept.Given as goal

abbrev pub invariant-loop-session : goal.invariant-loop-session
invariant-loop-session l = record {
  next : (goal.iterator-loop-session).can_next l.session-iterator;
  finite : (goal.iterator-loop-session).is_finite l.session-iterator;
  slots : IsTrue (have_last_slots l.dag l.session-iterator);
  kept : list_all (is_last_kept l.dag) (values_of l.session-iterator) ≡ list_all (is_last_kept l.dag) (values_of l.book.sessions);
}
