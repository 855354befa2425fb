use Rattle.std.proofs.Common.{arith, map, codes}
use Rattle.std.specs.String.{string_bytes}
use Rattle.command_words.specs.Settings.{settings, values}
use Rattle.daemon_words.proofs.Givens.{fewer}
use Rattle.daemon_words.proofs.fetching.are_peers.Goals as goal

pub returns-then-count_of-le-MOST_PEERS-clause-few : goal.returns-then-count_of-le-MOST_PEERS-clause-few
returns-then-count_of-le-MOST_PEERS-clause-few c = λ is.
    omega (arith, fewer (values (codes "--peer") (settings (map (λ w. string_bytes w) c.args.words.now))), c.count_of.ensures, c.if-count_of-le-MOST_PEERS.true)
