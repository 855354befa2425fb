use Rattle.std.proofs.Common.{◌+◌, ◌≤◌, length, get_or, sym, subst, refl}
use Rattle.std.specs.Prelude.{flat_map}
use Rattle.tardis_base.specs.declared.replies.SiteLine.{SiteLine}
use Rattle.tardis_base.specs.Ids.{root}
use Rattle.tardis_base.specs.Sizes.{longest_frame}
use Rattle.wire_item.proofs.Written.{each-room}
use Rattle.wire_talk.specs.Spellings.{site_line_spelling}
use Rattle.talk_bytes.proofs.reply_writers.write_each_site_line.Goals as goal

pub write_site_line-requires : goal.write_site_line-requires
write_site_line-requires c =
    let lines = c.as_slice-line-items.result.now in
    let index = c.loop-line.line-index in
    let none : SiteLine = record { count = 0; floor = root; number = 0 } in
    let room = subst (λ xs. length c.args.out.now + length (flat_map site_line_spelling xs) ≤ longest_frame) (sym c.as_slice-line-items.ensures)
    c.requires.fits in
    each-room site_line_spelling lines index none (get_or lines index none) c.args.out.now c.loop-line.out c.loop-line-test.true c.loop-line.invariant refl room
