use Rattle.std.proofs.Common.{◌≡◌, ◌∙◌, ◌+◌, sum, eqb, sym, ap}
use Rattle.twin_stores.proofs.Compared.{number-decides, same-limits, same-lists}
use Rattle.twin_stores.proofs.TwinTables.{twins-by_entries}
use Rattle.twin_stores.proofs.tables.are_twin_tables.Goals as goal

pub returns : goal.returns
returns c = λ rs rs' ks ks' sa sb.
    let one = c.args.one.now in
    let other = c.args.other.now in
    let limits : one.limits ≡ other.limits =
    sym c.limits.ensures ∙ (same-limits c.limits.result.now c.limits-2.result.now c.ne.result c.ne.ensures c.if-ne.false ∙ c.limits-2.ensures) in
    let counts : one.counts ≡ other.counts =
    sym c.counts.ensures.is
    ∙ (same-lists eqb number-decides c.counts.result.now c.counts-2.result.now c.ne-2.result c.ne-2.ensures c.if-ne-2.false ∙ c.counts-2.ensures.is) in
    let known : one.known ≡ other.known = c.counts.ensures.table.counted ∙ (ap (λ ns. sum ns + 1) counts ∙ sym c.counts-2.ensures.table.counted) in
    (λ t. twins-by_entries one other rs rs' ks ks' sa sb limits counts known (c.say_the_same.ensures.0 t), λ twins. c.say_the_same.ensures.1 twins.entries)
