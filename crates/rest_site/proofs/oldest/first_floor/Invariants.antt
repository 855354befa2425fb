use Rattle.std.proofs.Common.{◌≡◌, ◌+◌, length, List}
use Rattle.tardis_base.specs.declared.ids.StateId.{StateId}
use Rattle.tardis_base.specs.declared.records.Record.{Record}
use Rattle.state_dag.specs.Stands.{Stands}
use Rattle.ceiling_book.specs.Book.{floors_of}
use Rattle.ceiling_book.specs.Places.{ArePlaced}
use Rattle.rest_site.specs.Oldest.{floors_of_others}
use Rattle.rest_site.specs.Ceilings.{kept_behind}
use Rattle.rest_site.proofs.Firsts.{floors_from}
use Rattle.rest_site.proofs.oldest.first_floor.Given as goal

abbrev pub invariant-loop-site : goal.invariant-loop-site
invariant-loop-site l = record {
  kept : (rs : List Record) (ks : List StateId) → Stands l.dag rs ks → ArePlaced l.book l.dag rs ks →
      kept_behind l.first (floors_from rs l.book.own (floors_of l.book) l.site (length (floors_of l.book) + 1))
      ≡ kept_behind l.fn.ceiling (floors_of_others rs l.book.own (floors_of l.book));
}
