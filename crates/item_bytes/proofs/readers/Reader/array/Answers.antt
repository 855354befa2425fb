use Rattle.std.proofs.Common.{sym, ◌∙◌, subst, IsTrue, length, ◌<◌, arith}
use Rattle.tardis_base.specs.Valid.{are_bytes}
use Rattle.wire_item.specs.Fronts.{bytes_front}
use Rattle.wire_item.proofs.Takings.{takes, takes-none, bytes-short, bytes-split}
use Rattle.item_bytes.proofs.readers.Reader.array.Goals as goal

pub returns-in_err-taken : goal.returns-in_err-taken
returns-in_err-taken g c =
    let short = c.in_err-taken.ensures.cases in
    takes-none (bytes_front g.row.N) c.args.self.now _ c.from_residual.result c.from_residual.ensures
    (bytes-short g.row.N c.args.self.now (subst (λ xs. length xs < g.row.N) (c.checked_bytes.ensures.same ∙ c.self.view_is) short))

pub returns : goal.returns
returns g c =
    let e = c.in_ok-taken.ensures.cases in
    takes (bytes_front g.row.N) c.args.self.now _ c.in_ok-taken.taken.now
    (bytes-split g.row.N c.args.self.now c.checked_bytes.result.now c.in_ok-taken.taken.now c.in_ok-taken.left.now
    (c.checked_bytes.ensures.same ∙ c.self.view_is) (omega (arith, e.2))
    (subst (λ xs. IsTrue (are_bytes xs)) (sym c.checked_bytes.ensures.same) c.checked_bytes.ensures.bytes) e.0 e.1)
