use Rattle.std.proofs.Common.{◌≡◌, ◌≤◌, ◌+◌, cond, List, Some, length, sym, ◌∙◌, ap, subst}
use Rattle.std.specs.Map.{lookup}
use Rattle.indexmap.specs.IndexMap.{insert_entry}
use Rattle.tardis_base.specs.declared.ids.Slot.{Slot}
use Rattle.version_list.specs.Notes.{Chunks, Table, same_slot, chunks_in, are_all_full}
use Rattle.version_list.proofs.Chunks.{count-inserted, full-inserted}
use Rattle.version_list.proofs.chunk_tables.ChunkTable.put_aside.Goals as goal

pub returns-clause-count : goal.returns-clause-count
returns-clause-count c =
    let seen : c.self.inside.others.entries ≡ c.args.self.now.others = ap (λ (t : Table). t.others) c.self.view_is in
    subst (λ (es : List (Slot × Chunks)). chunks_in es ≤ chunks_in c.args.self.now.others + length c.args.chunks) (sym c.in-Ok.ensures.entries)
    (subst (λ (es : List (Slot × Chunks)). chunks_in (insert_entry same_slot c.self.inside.others.entries c.args.slot c.args.chunks) ≤ chunks_in es + length c.args.chunks)
    seen (count-inserted same_slot c.self.inside.others.entries c.args.slot c.args.chunks))

pub returns-clause-full : goal.returns-clause-full
returns-clause-full c = λ own all.
    let seen : c.self.inside.others.entries ≡ c.args.self.now.others = ap (λ (t : Table). t.others) c.self.view_is in
    ap are_all_full c.in-Ok.ensures.entries
    ∙ full-inserted same_slot c.self.inside.others.entries c.args.slot c.args.chunks own (ap are_all_full seen ∙ all)

pub returns-clause-found : goal.returns-clause-found
returns-clause-found c = λ q.
    c.in-Ok.ensures.updates.0 q
    ∙ ap (λ (t : Table). cond (same_slot c.args.slot q) (Some c.args.chunks) (lookup (same_slot q) t.others)) c.self.view_is
