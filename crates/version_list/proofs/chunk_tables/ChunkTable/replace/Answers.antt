use Rattle.std.proofs.Common.{◌≡◌, ◌++◌, List, Some, sym, ◌∙◌, ap}
use Rattle.std.specs.Map.{lookup, set_value}
use Rattle.tardis_base.specs.declared.ids.Slot.{Slot}
use Rattle.version_list.specs.declared.chunk_tables.ChunkTable.TheInside.{Inside}
use Rattle.version_list.specs.Notes.{Chunks, Table, same_slot, entries_in, in_a_row, is_in_row}
use Rattle.version_list.proofs.Rows.{passed-found, passed-set, out-of_row, unset}
use Rattle.version_list.proofs.chunk_tables.ChunkTable.replace.Goals as goal
use Rattle.version_list.proofs.chunk_tables.ChunkTable.replace.Goals.{in-Some, in-None}

pub returns-after-get_mut-clause-old : goal.returns-after-get_mut-clause-old
returns-after-get_mut-clause-old c =
    let slot = c.args.slot in
    let row = c.self.inside.row.items in
    let es = c.self.inside.others.entries in
    let out = out-of_row slot row (ap (λ (t : Table). is_in_row slot t.row) c.self.view_is ∙ (sym c.is_in_row.ensures ∙ c.if-is_in_row.false)) in
    let whole : lookup (same_slot slot) es ≡ lookup (same_slot slot) (entries_in c.args.self.now) = sym (passed-found slot 1 row es out)
    ∙ ap (λ (t : Table). lookup (same_slot slot) (entries_in t)) c.self.view_is in
    elim c.match-get_mut.branch [
      | in-Some w ↦ w.result-is ∙ ap Some w.replace.ensures.value ∙ w.in-Some.ensures.value ∙ whole
      | in-None w ↦ w.result-is ∙ w.in-None.ensures.value ∙ whole
    ]

pub returns-after-get_mut-clause-new : goal.returns-after-get_mut-clause-new
returns-after-get_mut-clause-new c =
    let slot = c.args.slot in
    let row = c.self.inside.row.items in
    let es = c.self.inside.others.entries in
    let out = out-of_row slot row (ap (λ (t : Table). is_in_row slot t.row) c.self.view_is ∙ (sym c.is_in_row.ensures ∙ c.if-is_in_row.false)) in
    let set = passed-set slot c.args.chunks 1 row es out ∙ ap (λ (t : Table). set_value (same_slot slot) (entries_in t) c.args.chunks) c.self.view_is in
    elim c.match-get_mut.branch [
      | in-Some w ↦
          ap (λ (s : Inside). in_a_row 1 s.row.items ++ s.others.entries) w.self-inside-is
          ∙ ap (λ (xs : List (Slot × Chunks)). in_a_row 1 row ++ xs) (c.get_mut.follows.holds w.replace.new.dest).0
          ∙ ap (λ (cs : Chunks). in_a_row 1 row ++ set_value (same_slot slot) es cs) w.replace.ensures.after
          ∙ set
      | in-None w ↦
          ap (λ (s : Inside). in_a_row 1 s.row.items ++ s.others.entries) w.self-inside-is
          ∙ ap (λ m. in_a_row 1 row ++ m.entries) c.get_mut.follows.holds-at-none
          ∙ ap (λ (xs : List (Slot × Chunks)). in_a_row 1 row ++ xs) (sym (unset slot c.args.chunks es (sym w.in-None.ensures.value)))
          ∙ set
    ]
