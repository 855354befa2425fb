use Rattle.std.proofs.Common.{not, None, sym, refl}
use Rattle.tardis_base.specs.Ids.{is_before, are_ascending}
use Rattle.wire_item.specs.Fronts.{made, both}
use Rattle.wire_item.specs.Readings.{id_front, parents_front, writes_front, record_front}
use Rattle.wire_item.proofs.Takings.{taken, untaken, making, unmade, makes-none}
use Rattle.shell_text.proofs.Passings.{lacking, if-passes}
use Rattle.shell_text.proofs.passing.pass_record.Goals as goal

pub returns-in-None : goal.returns-in-None
returns-in-None c =
    let none = untaken id_front c.args.reader.now c.id.new.self c.in-None.ensures in
    makes-none record_front c.args.reader.now c.id.new.self None refl (rw none refl)

pub returns-then-not-pass_parents : goal.returns-then-not-pass_parents
returns-then-not-pass_parents c =
    let id = taken id_front c.args.reader.now c.id.new.self c.in-Some.id c.in-Some.ensures in
    let none = unmade parents_front c.id.new.self c.pass_parents.new.reader c.if-not-pass_parents.ensures in
    makes-none record_front c.args.reader.now c.pass_parents.new.reader None refl (rw (id, none) refl)

pub returns-then-not-pass_writes : goal.returns-then-not-pass_writes
returns-then-not-pass_writes c =
    let id = taken id_front c.args.reader.now c.id.new.self c.in-Some.id c.in-Some.ensures in
    let parents = making parents_front c.id.new.self c.pass_parents.new.reader lacking c.if-not-pass_parents.ensures in
    let read = parents.1 in
    let none = unmade writes_front c.pass_parents.new.reader c.pass_writes.new.reader c.if-not-pass_writes.ensures in
    makes-none record_front c.args.reader.now c.pass_writes.new.reader None refl (rw (id, read, none) refl)

pub returns : goal.returns
returns c =
    let id = taken id_front c.args.reader.now c.id.new.self c.in-Some.id c.in-Some.ensures in
    let parents = making parents_front c.id.new.self c.pass_parents.new.reader lacking c.if-not-pass_parents.ensures in
    let writes = making writes_front c.pass_parents.new.reader c.pass_writes.new.reader lacking c.if-not-pass_writes.ensures in
    let p = parents.1 in
    let w = writes.1 in
    if-passes (λ (r : Rattle.tardis_base.specs.declared.records.Record.Record). not
    (Rattle.tardis_base.specs.Ids.same_id r.id Rattle.tardis_base.specs.Ids.root))
    (made (λ p. record { id = p.0.0; parents = p.0.1; writes = p.1 }) (both (both id_front parents_front) writes_front))
    c.args.reader.now c.pass_writes.new.reader (record { id = c.in-Some.id; parents = parents.0; writes = writes.0 }) c.is_other.result
    (rw (id, p, w) refl) (sym c.is_other.ensures)
