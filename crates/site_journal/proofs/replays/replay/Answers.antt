use Rattle.std.proofs.Common.{◌≡◌, ◌+◌, ◌<◌, ◌≤◌, ◌++◌, [], ◌∷◌, ℕ, List, Some, IfSome, length, take, drop, subst, length-take-le, arith}
use Rattle.tardis_base.specs.Plain.{Event}
use Rattle.site_journal.specs.Replays.{IsNextEntry}
use Rattle.site_journal.proofs.Times.{read_then}
use Rattle.site_journal.proofs.Replaying.{more, moved}
use Rattle.tardis_base.specs.Sizes.{longest_frame}
use Rattle.site_journal.proofs.replays.replay.Goals as goal

pub loop-count-preserved : goal.loop-count-preserved
loop-count-preserved g c =
    let M = g.M.Machine in
    let K = g.K.Disk in
    let inv = c.loop-count.invariant in
    let n : ℕ = c.in-Ok-Some.count in
    let entry : List ℕ = take n c.next_entry.new.body in
    let e : Event = (c.event-actor.result.0, c.event-actor.result.1.now) in
    let some : c.in-Ok-Some.field-0 ≡ Some n = cc in
    let fits : (2 ≤ n) × (n ≤ longest_frame) × (c.loop-count.place + 5 + n < c.in-Ok.size) =
    subst (λ o. IfSome o (λ k. (2 ≤ k) × (k ≤ longest_frame) × (c.loop-count.place + 5 + k < c.in-Ok.size))) some c.in-Ok-Some.ensures.fits in
    let long : length entry ≡ n = length-take-le n c.next_entry.new.body (omega (arith, c.next_entry.ensures.room, inv.room, fits.1)) in
    let next = more M K c.args.machine.now c.loop-count.machine c.act.new.self c.loop-count.disk
    c.loop-count.entries c.loop-count.place c.in-Ok.size inv.progress.0 entry n e inv.progress.1
    fits.0 fits.1 fits.2 long c.event-actor.ensures c.in-Ok-act.ensures.step c.in-Ok-act.ensures.opening
    (λ h. subst (IsNextEntry (drop c.loop-count.place (K.reads c.loop-count.disk)) c.next_entry.new.body) some (c.in-Ok-Some.ensures.next h)) in
    record {
      progress = (
        inv.progress.0 ++ entry ∷ [],
        moved M K c.args.machine.now c.act.new.self c.loop-count.disk c.next_entry.new.disk
            (c.loop-count.entries + 1) (c.loop-count.place + (5 + n)) c.in-Ok.size (inv.progress.0 ++ entry ∷ []) next
            c.next_entry.ensures.honest.1 (λ h. (c.next_entry.ensures.read h).same),
      );
      read = λ h. read_then K c.args.disk.now c.loop-count.disk c.next_entry.new.disk (inv.read h)
          (c.next_entry.ensures.read (inv.honest.0 h));
      honest = (λ h. c.next_entry.ensures.honest.0 (inv.honest.0 h), λ h. inv.honest.1 (c.next_entry.ensures.honest.1 h));
      later = omega (arith, inv.later, c.next_entry.ensures.cause.later);
      within = omega (arith, fits.2);
      room = omega (arith, c.next_entry.ensures.room, inv.room);
    }
