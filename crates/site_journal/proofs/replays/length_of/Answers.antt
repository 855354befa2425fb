use Rattle.std.proofs.Common.{◌∙◌, ap, arith, take_all}
use Rattle.std.specs.Int.{w32, from_be_bytes}
use Rattle.std.proofs.lemmas.Nat.{be_bytes_4}
use Rattle.site_journal.proofs.replays.length_of.Goals as goal

pub returns : goal.returns
returns c =
    let whole = take_all 4 c.args.head.now (omega arith) in
    be_bytes_4 c.args.head.now c.from_be_bytes.result c.requires (λ i. omega (arith, c.type_inv.head i))
    (c.from_be_bytes.ensures ∙ ap (from_be_bytes w32) (c.in-Some.ensures.cases.same ∙ whole))
