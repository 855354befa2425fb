use Rattle.std.proofs.Common.{◌≡◌, ◌+◌, ◌++◌, ◌∷◌, ◌&&◌, cond, List, length, Some, sym, ap, ◌∙◌, arith}
use Rattle.std.specs.Map.{lookup}
use Rattle.std.proofs.lemmas.Bool.{and_parts, and_from}
use Rattle.version_list.specs.Notes.{Chunks, Table, same_slot, chunks_in, are_full, are_all_full, entries_in, in_a_row}
use Rattle.version_list.proofs.Chunks.{count-set, full-set}
use Rattle.version_list.proofs.Rows.{row-pushed, passed-more, first-found, found-in_set, out-of_row, count-both, full-all}
use Rattle.version_list.proofs.chunk_tables.ChunkTable.put.Goals as goal

pub returns-then-is_in_row-clause-found : goal.returns-then-is_in_row-clause-found
returns-then-is_in_row-clause-found c = λ q.
    ap (lookup (same_slot q)) c.replace_in_row.ensures.new
    ∙ found-in_set c.args.slot c.args.chunks q (entries_in c.args.self.now) c.replace_in_row.result (sym c.replace_in_row.ensures.old)

pub returns-then-is_in_row-clause-count : goal.returns-then-is_in_row-clause-count
returns-then-is_in_row-clause-count c =
    let one = count-set c.args.slot c.args.chunks (entries_in c.args.self.now) c.replace_in_row.result (sym c.replace_in_row.ensures.old) in
    let is = ap chunks_in c.replace_in_row.ensures.new in
    omega (arith, one, is)

pub returns-then-is_in_row-clause-full : goal.returns-then-is_in_row-clause-full
returns-then-is_in_row-clause-full c = λ own all.
    ap are_all_full c.replace_in_row.ensures.new ∙ full-set c.args.slot c.args.chunks (entries_in c.args.self.now) own all

pub returns-then-slot-len-clause-found : goal.returns-then-slot-len-clause-found
returns-then-slot-len-clause-found c = λ q.
    let row = c.self.inside.row.items in
    let es = c.self.inside.others.entries in
    let at : c.args.slot.0 ≡ 1 + length row = omega (arith, c.if-slot-len.true, c.len.ensures) in
    ap (λ (cs : List Chunks). lookup (same_slot q) (in_a_row 1 cs ++ es)) c.push_reserved.ensures.items
    ∙ ap (lookup (same_slot q)) (row-pushed 1 row c.args.slot c.args.chunks es at)
    ∙ passed-more c.args.slot c.args.chunks q 1 row es ((c.args.slot, c.args.chunks) ∷ es) (λ le. omega (arith, at)) (first-found c.args.slot c.args.chunks q es)
    ∙ ap (λ (t : Table). cond (same_slot c.args.slot q) (Some c.args.chunks) (lookup (same_slot q) (entries_in t))) c.self.view_is

pub returns-then-slot-len-clause-count : goal.returns-then-slot-len-clause-count
returns-then-slot-len-clause-count c =
    let row = c.self.inside.row.items in
    let es = c.self.inside.others.entries in
    let at : c.args.slot.0 ≡ 1 + length row = omega (arith, c.if-slot-len.true, c.len.ensures) in
    let is = ap (λ (cs : List Chunks). chunks_in (in_a_row 1 cs ++ es)) c.push_reserved.ensures.items
    ∙ ap chunks_in (row-pushed 1 row c.args.slot c.args.chunks es at) in
    let new = count-both (in_a_row 1 row) ((c.args.slot, c.args.chunks) ∷ es) in
    let old = count-both (in_a_row 1 row) es in
    let view = ap (λ (t : Table). chunks_in (entries_in t)) c.self.view_is in
    omega (arith, is, new, old, view)

pub returns-then-slot-len-clause-full : goal.returns-then-slot-len-clause-full
returns-then-slot-len-clause-full c = λ own all.
    let row = c.self.inside.row.items in
    let es = c.self.inside.others.entries in
    let at : c.args.slot.0 ≡ 1 + length row = omega (arith, c.if-slot-len.true, c.len.ensures) in
    let parts = and_parts (are_all_full (in_a_row 1 row)) (are_all_full es)
    (sym (full-all (in_a_row 1 row) es) ∙ ap (λ (t : Table). are_all_full (entries_in t)) c.self.view_is ∙ all) in
    ap (λ (cs : List Chunks). are_all_full (in_a_row 1 cs ++ es)) c.push_reserved.ensures.items
    ∙ ap are_all_full (row-pushed 1 row c.args.slot c.args.chunks es at)
    ∙ full-all (in_a_row 1 row) ((c.args.slot, c.args.chunks) ∷ es)
    ∙ and_from (are_all_full (in_a_row 1 row)) (are_full c.args.chunks && are_all_full es) parts.0
    (and_from (are_full c.args.chunks) (are_all_full es) own parts.1)

pub returns-else-slot-len-clause-found : goal.returns-else-slot-len-clause-found
returns-else-slot-len-clause-found c = λ q.
    let t = c.args.self.now in
    let new = c.put_aside.new.self in
    ap (λ (cs : List Chunks). lookup (same_slot q) (in_a_row 1 cs ++ new.others)) c.put_aside.ensures.row
    ∙ passed-more c.args.slot c.args.chunks q 1 t.row t.others new.others (out-of_row c.args.slot t.row (sym c.is_in_row.ensures ∙ c.if-is_in_row.false))
    (c.put_aside.ensures.found q)

pub returns-else-slot-len-clause-count : goal.returns-else-slot-len-clause-count
returns-else-slot-len-clause-count c =
    let t = c.args.self.now in
    let new = c.put_aside.new.self in
    let is = ap (λ (cs : List Chunks). chunks_in (in_a_row 1 cs ++ new.others)) c.put_aside.ensures.row in
    let more = count-both (in_a_row 1 t.row) new.others in
    let old = count-both (in_a_row 1 t.row) t.others in
    let few = c.put_aside.ensures.count in
    omega (arith, is, more, old, few)

pub returns-else-slot-len-clause-full : goal.returns-else-slot-len-clause-full
returns-else-slot-len-clause-full c = λ own all.
    let t = c.args.self.now in
    let new = c.put_aside.new.self in
    let parts = and_parts (are_all_full (in_a_row 1 t.row)) (are_all_full t.others) (sym (full-all (in_a_row 1 t.row) t.others) ∙ all) in
    ap (λ (cs : List Chunks). are_all_full (in_a_row 1 cs ++ new.others)) c.put_aside.ensures.row
    ∙ full-all (in_a_row 1 t.row) new.others
    ∙ and_from (are_all_full (in_a_row 1 t.row)) (are_all_full new.others) parts.0 (c.put_aside.ensures.full own parts.1)
