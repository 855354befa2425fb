use Rattle.std.proofs.Common.{◌<◌, [], ◌∷◌, ◌∙◌, ap, length, sym, subst, List, arith, length-append}
use Rattle.memory_disks.specs.Memory.{Call, Recorded, fresh, known_after, with_written, with_call, used_of}
use Rattle.memory_disks.proofs.Calls.{with_none, quiet_used, quiet_reads, reads_more, used_more, length_with, view_call}
use Rattle.memory_disks.proofs.histories.History.note.Goals as goal

pub push_call-requires : goal.push_call-requires
push_call-requires c =
    let old : List Call = with_written c.self.inside.calls.items c.self.inside.written.items in
    let room : length old < c.self.inside.room = subst (λ (r : Recorded). length r.calls < r.room) (sym c.self.view_is) c.requires.room in
    let n = length_with c.self.inside.calls.items c.self.inside.written.items in
    omega (arith, c.self.invariant.5)

pub invariant_of-self : goal.invariant_of-self
invariant_of-self c =
    let old : List Call = with_written c.self.inside.calls.items c.self.inside.written.items in
    let room : length old < c.self.inside.room = subst (λ (r : Recorded). length r.calls < r.room) (sym c.self.view_is) c.requires.room in
    let inv = c.self.invariant in
    let is = ap (λ ks. with_written ks c.self.inside.written.items) c.push_call.ensures.items
    ∙ with_none c.self.inside.calls.items c.args.kept c.self.inside.written.items inv.1 (quiet_used c.args.kept c.requires.quiet) in
    let n = length_with c.self.inside.calls.items c.self.inside.written.items in (
      reads_more c.self.inside.first.items old (with_written c.push_call.new.calls.items c.self.inside.written.items)
          (c.args.kept, []) c.self.inside.bytes.items is (inv.0
          ∙ quiet_reads (known_after (fresh c.self.inside.first.items) old) c.args.kept [] c.requires.quiet),
      omega (arith, ap used_of c.push_call.ensures.items, used_more c.self.inside.calls.items (c.args.kept), inv.1, quiet_used c.args.kept c.requires.quiet),
      omega (arith, inv.2),
      omega (arith, inv.3),
      omega (arith, inv.4),
      omega (arith, inv.5, c.push_call.ensures.room),
      omega (arith, inv.6),
      omega (arith, ap length c.push_call.ensures.items, length-append c.self.inside.calls.items ((c.args.kept) ∷ []), room, n),
    )

pub returns : goal.returns
returns c =
    let old : List Call = with_written c.self.inside.calls.items c.self.inside.written.items in
    let inv = c.self.invariant in
    let is = ap (λ ks. with_written ks c.self.inside.written.items) c.push_call.ensures.items
    ∙ with_none c.self.inside.calls.items c.args.kept c.self.inside.written.items inv.1 (quiet_used c.args.kept c.requires.quiet) in
    view_call c.self.inside.first.items old (with_written c.push_call.new.calls.items c.self.inside.written.items) (length c.self.inside.written.items)
    (length c.self.inside.written.items) c.self.inside.room (c.args.kept) [] is (omega (arith))
    ∙ ap (λ (r : Recorded). with_call r (c.args.kept) []) c.self.view_is
