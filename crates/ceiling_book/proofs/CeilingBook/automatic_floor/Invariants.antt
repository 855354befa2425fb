use Rattle.std.proofs.Common.{◌≡◌, List, find, take, IsTrue}
use Rattle.tardis_base.specs.declared.ids.StateId.{StateId}
use Rattle.tardis_base.specs.declared.records.Record.{Record}
use Rattle.tardis_base.specs.Ids.{is_among}
use Rattle.plain_dag.specs.States.{states}
use Rattle.plain_dag.specs.Above.{is_proper_ancestor}
use Rattle.plain_dag.specs.Collection.{kept_states}
use Rattle.state_dag.specs.Stands.{Stands}
use Rattle.ceiling_book.specs.Book.{sessions_of, own_floor}
use Rattle.ceiling_book.specs.Places.{ArePlaced}
use Rattle.ceiling_book.proofs.Newest.{fits, last_passing}
use Rattle.ceiling_book.proofs.CeilingBook.automatic_floor.Given as goal

abbrev pub invariant-loop-place : goal.invariant-loop-place
invariant-loop-place l = (rs : List Record) (ks : List StateId) → Stands l.dag rs ks → ArePlaced l.self l.dag rs ks →
    ((x : StateId) → IsTrue (is_among x ks) → IsTrue (is_proper_ancestor rs x (own_floor l.self).state)) →
    find (fits rs (own_floor l.self).state (sessions_of l.self)) (states rs) ≡ last_passing (fits rs (own_floor l.self).state (sessions_of l.self))
    (take l.place (kept_states rs ks))
