use Rattle.std.proofs.Common.{ℕ, ◌+◌, ◌≤◌, length, get_or, sym, subst, refl}
use Rattle.std.specs.Prelude.{flat_map}
use Rattle.tardis_base.specs.declared.ids.StateId.{StateId}
use Rattle.tardis_base.specs.Ids.{root}
use Rattle.tardis_base.specs.Sizes.{longest_frame}
use Rattle.wire_item.proofs.Written.{each-room}
use Rattle.wire_talk.specs.Spellings.{pair_spelling}
use Rattle.talk_bytes.proofs.reply_writers.write_each_pair.Goals as goal

pub write_pair-requires : goal.write_pair-requires
write_pair-requires c =
    let pairs = c.as_slice-fork-items.result.now in
    let index = c.loop-fork.fork-index in
    let none : StateId × ℕ = (root, 0) in
    let room = subst (λ xs. length c.args.out.now + length (flat_map pair_spelling xs) ≤ longest_frame) (sym c.as_slice-fork-items.ensures) c.requires.fits in
    each-room pair_spelling pairs index none (get_or pairs index none) c.args.out.now c.loop-fork.out c.loop-fork-test.true c.loop-fork.invariant refl room
