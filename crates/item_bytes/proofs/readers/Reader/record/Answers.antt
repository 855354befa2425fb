use Rattle.std.proofs.Common.{◌≡◌, ℕ, true, List, Option, None, Some, refl, sym}
use Rattle.tardis_base.specs.declared.ids.StateId.{StateId}
use Rattle.tardis_base.specs.Ids.{root, same_id}
use Rattle.tardis_base.specs.Keys.{KeyWrite}
use Rattle.wire_item.specs.Readings.{id_front, parents_front, writes_front, record_front}
use Rattle.wire_item.proofs.Takings.{taken, untaken, making, unmade, makes, makes-none}
use Rattle.item_bytes.proofs.readers.Reader.record.Goals as goal

-- no record is of the root
record-of_root : (old : List ℕ) (id : StateId) (mid : List ℕ) → id_front old ≡ Some (id, mid) → same_id id root ≡ true → record_front old ≡ None
record-of_root old id mid e is = go (parents_front mid) refl
  where
    with : (parents : List StateId) (later : List ℕ) (o : Option (List KeyWrite × List ℕ)) → parents_front mid ≡ Some (parents, later) → writes_front later ≡ o
        → record_front old ≡ None
    with parents later None p w = rw (e, p, w) refl
    with parents later (Some writes) p w = rw (e, p, w, is) refl

    go : (o : Option (List StateId × List ℕ)) → parents_front mid ≡ o → record_front old ≡ None
    go None p = rw (e, p) refl
    go (Some parents) p = with parents.0 parents.1 (writes_front parents.1) p refl

pub returns-in_err-id : goal.returns-in_err-id
returns-in_err-id c =
    let none = untaken id_front c.args.self.now c.id.new.self c.in_err-id.ensures in
    makes-none record_front c.args.self.now c.id.new.self c.from_residual.result c.from_residual.ensures (rw none refl)

pub returns-in_err-parents : goal.returns-in_err-parents
returns-in_err-parents c =
    let id = taken id_front c.args.self.now c.id.new.self c.in_ok-id.id c.in_ok-id.ensures in
    let none = unmade parents_front c.id.new.self c.parents.new.self c.in_err-parents.ensures in
    makes-none record_front c.args.self.now c.parents.new.self c.from_residual-in_err-parents.result c.from_residual-in_err-parents.ensures (rw (id, none) refl)

pub returns-in_err-writes : goal.returns-in_err-writes
returns-in_err-writes c =
    let id = taken id_front c.args.self.now c.id.new.self c.in_ok-id.id c.in_ok-id.ensures in
    let parents = making parents_front c.id.new.self c.parents.new.self c.in_ok-parents.parents c.in_ok-parents.ensures in
    let read = parents.1 in
    let none = unmade writes_front c.parents.new.self c.writes.new.self c.in_err-writes.ensures in
    makes-none record_front c.args.self.now c.writes.new.self c.from_residual-in_err-writes.result c.from_residual-in_err-writes.ensures
    (rw (id, read, none) refl)

pub returns-then-is_root : goal.returns-then-is_root
returns-then-is_root c =
    let id = taken id_front c.args.self.now c.id.new.self c.in_ok-id.id c.in_ok-id.ensures in
    makes-none record_front c.args.self.now c.id.new.self None refl (record-of_root c.args.self.now c.in_ok-id.id c.id.new.self id (sym c.if-is_root.ensures))

pub returns : goal.returns
returns c =
    let id = taken id_front c.args.self.now c.id.new.self c.in_ok-id.id c.in_ok-id.ensures in
    let parents = making parents_front c.id.new.self c.parents.new.self c.in_ok-parents.parents c.in_ok-parents.ensures in
    let writes = making writes_front c.parents.new.self c.writes.new.self c.in_ok-writes.writes c.in_ok-writes.ensures in
    let p = parents.1 in
    let w = writes.1 in
    let is_root = sym c.if-is_root.ensures in
    makes record_front c.args.self.now c.writes.new.self c.record_of_parts.result (record { id = c.in_ok-id.id; parents = parents.0; writes = writes.0 })
    (rw (id, p, w, is_root) refl) (c.record_of_parts.ensures parents.0 writes.0 parents.2 writes.2)
