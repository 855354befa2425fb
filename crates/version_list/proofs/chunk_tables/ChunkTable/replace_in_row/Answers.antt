use Rattle.std.proofs.Common.{◌≡◌, ◌-◌, ◌<◌, ◌≤◌, ◌++◌, nat_lt, nat_le, length, slice_set, Some, sym, ap, ◌∙◌, arith}
use Rattle.std.specs.Map.{lookup, set_value}
use Rattle.std.proofs.lemmas.Bool.{and_parts, ltb-true, leb-true}
use Rattle.std.proofs.lemmas.Option.{slice_get-get_or}
use Rattle.version_list.specs.Notes.{Chunks, Table, same_slot, entries_in, in_a_row}
use Rattle.version_list.proofs.Rows.{row-found, row-set}
use Rattle.version_list.proofs.chunk_tables.ChunkTable.replace_in_row.Goals as goal

pub returns-clause-old : goal.returns-clause-old
returns-clause-old c =
    let slot = c.args.slot in
    let row = c.self.inside.row.items in
    let es = c.self.inside.others.entries in
    let parts = and_parts (nat_lt 0 slot.0) (nat_le slot.0 (length c.args.self.now.row)) c.requires in
    let some : 0 < slot.0 = ltb-true 0 slot.0 parts.0 in
    let within : slot.0 ≤ length c.args.self.now.row = leb-true slot.0 (length c.args.self.now.row) parts.1 in
    let same : length row ≡ length c.args.self.now.row = ap (λ (t : Table). length t.row) c.self.view_is in
    let at = slice_get-get_or row (slot.0 - 1) c.index_mut.result.now (omega (arith, some, within, same)) ∙ ap Some (sym c.index_mut.ensures.value)
    ∙ ap Some (sym c.replace.ensures.value) in
    sym (row-found slot c.args.chunks es 1 (slot.0 - 1) row c.replace.result (omega (arith, some)) at)
    ∙ ap (λ (t : Table). lookup (same_slot slot) (entries_in t)) c.self.view_is

pub returns-clause-new : goal.returns-clause-new
returns-clause-new c =
    let slot = c.args.slot in
    let row = c.self.inside.row.items in
    let es = c.self.inside.others.entries in
    let parts = and_parts (nat_lt 0 slot.0) (nat_le slot.0 (length c.args.self.now.row)) c.requires in
    let some : 0 < slot.0 = ltb-true 0 slot.0 parts.0 in
    let within : slot.0 ≤ length c.args.self.now.row = leb-true slot.0 (length c.args.self.now.row) parts.1 in
    let same : length row ≡ length c.args.self.now.row = ap (λ (t : Table). length t.row) c.self.view_is in
    ap (λ (cs : Chunks). in_a_row 1 (slice_set row (slot.0 - 1) cs) ++ es) c.replace.ensures.after
    ∙ row-set slot c.args.chunks es 1 (slot.0 - 1) row (omega (arith, some)) (omega (arith, some, within, same))
    ∙ ap (λ (t : Table). set_value (same_slot slot) (entries_in t) c.args.chunks) c.self.view_is
