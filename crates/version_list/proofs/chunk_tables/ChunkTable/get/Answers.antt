use Rattle.std.proofs.Common.{◌≡◌, ◌-◌, ◌<◌, ◌≤◌, [], nat_lt, nat_le, length, Some, sym, ap, ◌∙◌, arith}
use Rattle.std.specs.Map.{lookup}
use Rattle.std.proofs.lemmas.Bool.{and_parts, ltb-true, leb-true}
use Rattle.std.proofs.lemmas.Option.{slice_get-get_or}
use Rattle.version_list.specs.Notes.{Table, same_slot, entries_in, is_in_row}
use Rattle.version_list.proofs.Rows.{row-found, passed-found, out-of_row}
use Rattle.version_list.proofs.chunk_tables.ChunkTable.get.Goals as goal

pub returns-then-is_in_row : goal.returns-then-is_in_row
returns-then-is_in_row c =
    let slot = c.args.slot in
    let row = c.self.inside.row.items in
    let es = c.self.inside.others.entries in
    let parts = and_parts (nat_lt 0 slot.0) (nat_le slot.0 (length c.args.self.now.row)) (sym c.is_in_row.ensures ∙ c.if-is_in_row.true) in
    let some : 0 < slot.0 = ltb-true 0 slot.0 parts.0 in
    let within : slot.0 ≤ length c.args.self.now.row = leb-true slot.0 (length c.args.self.now.row) parts.1 in
    let same : length row ≡ length c.args.self.now.row = ap (λ (t : Table). length t.row) c.self.view_is in
    let at = slice_get-get_or row (slot.0 - 1) c.index.result.now (omega (arith, some, within, same)) ∙ ap Some (sym c.index.ensures) in
    sym (row-found slot [] es 1 (slot.0 - 1) row c.index.result.now (omega (arith, some)) at)
    ∙ ap (λ (t : Table). lookup (same_slot slot) (entries_in t)) c.self.view_is

pub returns-else-is_in_row : goal.returns-else-is_in_row
returns-else-is_in_row c =
    let slot = c.args.slot in
    let row = c.self.inside.row.items in
    let es = c.self.inside.others.entries in
    let out = out-of_row slot row (ap (λ (t : Table). is_in_row slot t.row) c.self.view_is ∙ (sym c.is_in_row.ensures ∙ c.if-is_in_row.false)) in
    c.get.ensures.value
    ∙ sym (passed-found slot 1 row es out)
    ∙ ap (λ (t : Table). lookup (same_slot slot) (entries_in t)) c.self.view_is
