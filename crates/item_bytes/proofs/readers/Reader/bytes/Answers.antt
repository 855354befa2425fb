use Rattle.std.proofs.Common.{refl, sym, ◌∙◌, subst, IsTrue, length, None, ◌<◌, ◌≤◌}
use Rattle.tardis_base.specs.Valid.{are_bytes}
use Rattle.wire_item.specs.Fronts.{bytes_front}
use Rattle.wire_item.proofs.Takings.{takes, takes-none, bytes-short, bytes-split}
use Rattle.item_bytes.proofs.readers.Reader.bytes.Goals as goal

pub returns-then-self-count : goal.returns-then-self-count
returns-then-self-count c =
    takes-none (bytes_front c.args.count) c.args.self.now c.args.self.now None refl
    (bytes-short c.args.count c.args.self.now (subst (λ xs. length xs < c.args.count) c.self.view_is c.if-self-count.true))

pub returns : goal.returns
returns c =
    takes (bytes_front c.args.count) c.args.self.now _ c.split_at.result.0.now
    (bytes-split c.args.count c.args.self.now c.checked_bytes.result.now c.split_at.result.0.now c.split_at.result.1.now
    (c.checked_bytes.ensures.same ∙ c.self.view_is) (subst (λ xs. c.args.count ≤ length xs) (sym c.checked_bytes.ensures.same) c.if-self-count.false)
    (subst (λ xs. IsTrue (are_bytes xs)) (sym c.checked_bytes.ensures.same) c.checked_bytes.ensures.bytes) c.split_at.ensures.front c.split_at.ensures.back)
