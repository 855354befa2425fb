use Rattle.std.proofs.Common.{IsTrue, refl, sym, subst}
use Rattle.std.specs.List.{list_all}
use Rattle.tardis_base.specs.Valid.{is_record}
use Rattle.session_core.specs.Txns.{has_slots}
use Rattle.session_core.proofs.Opening.{none-held}
use Rattle.session_core.proofs.Together.{together-slots, together-floors, together-stand}
use Rattle.session_core.proofs.Parts.resting.Goals as goal

pub invariant_of-result : goal.invariant_of-result
invariant_of-result c =
    let store = c.args.store in
    let book = c.args.book in
    let site = c.requires.0 in
    record {
      places = together-slots store book site c.requires.1;
      slots = none-held (λ n held. IsTrue (has_slots store.table held)) c.new-txns.result c.new-txns.ensures;
      floors = together-floors store book site c.requires.1;
      room = subst (λ room. IsTrue (list_all is_record room)) (sym c.in-Ok.ensures) refl;
    }

pub returns-in-Ok-clause-stands : goal.returns-in-Ok-clause-stands
returns-in-Ok-clause-stands c = λ site t.
    together-stand c.args.store c.args.book site t c.new-txns.result c.in-Ok.waiting c.new-txns.ensures c.in-Ok.ensures
