use Rattle.std.proofs.Common.{◌<◌, ◌^◌, rules, eqb-true, eq-eqb}
use Rattle.std.specs.Int.Bits.{bit_and}
use Rattle.std.proofs.lemmas.Bool.{both_ways}
use Rattle.std.specs.Prelude.{◌==◌}
use Rattle.fork_path.proofs.TileBits.{within-inside, within-outside}
use Rattle.fork_path.proofs.tiles.Tile.is_within.Goals as goal

pub returns-clause-inside : goal.returns-clause-inside
returns-clause-inside c = λ t.
    within-inside c.args.self c.args.other c.requires (eqb-true (bit_and c.args.self.bits c.args.other.bits) c.args.self.bits t)

pub returns-clause-outside : goal.returns-clause-outside
returns-clause-outside c = λ f.
    let fits : c.args.self.bits < 2 ^ 64 = search rules in
    let all = bit_and c.args.self.bits c.args.other.bits in
    within-outside c.args.self c.args.other c.requires fits (λ e. both_ways (all == c.args.self.bits) f (eq-eqb all c.args.self.bits e))
