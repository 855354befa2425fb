use Rattle.std.proofs.Common.{◌≡◌, ◌<◌, [], ◌∷◌, ◌++◌, ◌∙◌, ap, length, sym, subst, refl, List, arith, length-append}
use Rattle.memory_disks.specs.Memory.{Call, Recorded, with_written, with_call, used_of}
use Rattle.memory_disks.specs.declared.histories.Kept.TheVariants.{Replaced}
use Rattle.memory_disks.proofs.Calls.{with_more, reads_more, used_more, length_with, view_call}
use Rattle.memory_disks.proofs.histories.History.replace.Goals as goal

pub push_call-requires : goal.push_call-requires
push_call-requires c =
    let old : List Call = with_written c.self.inside.calls.items c.self.inside.written.items in
    let room : length old < c.self.inside.room = subst (λ (r : Recorded). length r.calls < r.room) (sym c.self.view_is) c.requires.room in
    let n = length_with c.self.inside.calls.items c.self.inside.written.items in
    omega (arith, c.self.invariant.5)

pub invariant_of-self : goal.invariant_of-self
invariant_of-self c =
    let old : List Call = with_written c.self.inside.calls.items c.self.inside.written.items in
    let room : length old < c.self.inside.room = subst (λ (r : Recorded). length r.calls < r.room) (sym c.self.view_is) c.requires.room in
    let inv = c.self.invariant in
    let is = (λ i. with_written (c.push_call.ensures.items i) (c.push_bytes-2.ensures.items i))
    ∙ with_more c.self.inside.calls.items (Replaced (length c.args.bytes.now)) c.self.inside.written.items c.args.bytes.now inv.1 refl in
    let these : c.push_bytes.new.written.items ≡ c.args.bytes.now =
    c.push_bytes.ensures.items ∙ ap (λ z. z ++ c.args.bytes.now) c.truncate.ensures.items in
    let n = length_with c.self.inside.calls.items c.self.inside.written.items in (
      reads_more c.self.inside.first.items old (with_written c.push_call.new.calls.items c.push_bytes-2.new.written.items)
          (Replaced (length c.args.bytes.now), c.args.bytes.now) c.push_bytes.new.written.items is these,
      omega (
        arith,
        ap used_of c.push_call.ensures.items,
        used_more c.self.inside.calls.items (Replaced (length c.args.bytes.now)),
        inv.1,
        ap length c.push_bytes-2.ensures.items,
        length-append c.self.inside.written.items c.args.bytes.now,
      ),
      omega (arith, ap length these, ap length c.push_bytes-2.ensures.items, length-append c.self.inside.written.items c.args.bytes.now),
      omega (arith, inv.3, c.truncate.ensures.capacity, c.push_bytes.ensures.room),
      omega (arith, inv.4, c.push_bytes-2.ensures.room),
      omega (arith, inv.5, c.push_call.ensures.room),
      omega (
        arith,
        inv.6,
        ap length c.push_bytes-2.ensures.items,
        length-append c.self.inside.written.items c.args.bytes.now,
        c.requires.bytes,
        ap (λ (r : Recorded). r.written) c.self.view_is,
        ap (λ (r : Recorded). r.room) c.self.view_is,
      ),
      omega (arith, ap length c.push_call.ensures.items, length-append c.self.inside.calls.items ((Replaced (length c.args.bytes.now)) ∷ []), room, n),
    )

pub returns : goal.returns
returns c =
    let old : List Call = with_written c.self.inside.calls.items c.self.inside.written.items in
    let inv = c.self.invariant in
    let is = (λ i. with_written (c.push_call.ensures.items i) (c.push_bytes-2.ensures.items i))
    ∙ with_more c.self.inside.calls.items (Replaced (length c.args.bytes.now)) c.self.inside.written.items c.args.bytes.now inv.1 refl in
    view_call c.self.inside.first.items old (with_written c.push_call.new.calls.items c.push_bytes-2.new.written.items) (length c.self.inside.written.items)
    (length c.push_bytes-2.new.written.items) c.self.inside.room (Replaced (length c.args.bytes.now)) c.args.bytes.now is
    (omega (arith, ap length c.push_bytes-2.ensures.items, length-append c.self.inside.written.items c.args.bytes.now))
    ∙ ap (λ (r : Recorded). with_call r (Replaced (length c.args.bytes.now)) c.args.bytes.now) c.self.view_is
