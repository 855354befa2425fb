use Rattle.std.proofs.Common.{ℕ, ◌*◌, ◌+◌, ◌≤◌, length, subst, sym}
use Rattle.std.proofs.lemmas.List.{length-replicate}
use Rattle.shell_text.proofs.line_field_readers.deliver_without_room.Goals as goal

pub slice_bounds-deliver_in-end : goal.slice_bounds-deliver_in-end
slice_bounds-deliver_in-end c = sym (length-replicate {A = ℕ} 270649 0)

pub deliver_in-requires : goal.deliver_in-requires
deliver_in-requires c = subst (λ size. length c.args.word.now ≤ 2 * size + 1) (sym (length-replicate {A = ℕ} 270649 0)) c.requires
