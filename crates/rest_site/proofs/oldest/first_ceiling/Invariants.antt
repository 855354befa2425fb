use Rattle.std.proofs.Common.{◌≡◌, List, None, IsTrue}
use Rattle.tardis_base.specs.declared.ids.StateId.{StateId}
use Rattle.tardis_base.specs.declared.records.Record.{Record}
use Rattle.state_dag.specs.Table.{is_slot}
use Rattle.state_dag.specs.Stands.{Stands}
use Rattle.ceiling_book.specs.Book.{sessions_of}
use Rattle.ceiling_book.specs.Floors.{each_ceiling}
use Rattle.ceiling_book.specs.Places.{ArePlaced}
use Rattle.rest_site.specs.Oldest.{ceilings}
use Rattle.rest_site.specs.Ceilings.{kept_behind}
use Rattle.rest_site.proofs.Firsts.{AreAt, plain_sessions}
use Rattle.rest_site.proofs.oldest.first_ceiling.Given as goal

abbrev pub invariant-loop-number : goal.invariant-loop-number
invariant-loop-number l = record {
  next : (goal.iterator-loop-number).can_next l.number-iterator;
  finite : (goal.iterator-loop-number).is_finite l.number-iterator;
  slots : IsTrue (each_ceiling (is_slot l.dag) l.number-iterator);
  kept : (rs : List Record) (ks : List StateId) → Stands l.dag rs ks → ArePlaced l.book l.dag rs ks →
      AreAt l.dag l.number-iterator
      × (kept_behind l.first (ceilings rs (plain_sessions l.number-iterator)) ≡ kept_behind None (ceilings rs (sessions_of l.book)));
}
