use Rattle.std.proofs.Common.{◌+◌, ◌*◌}
use Rattle.serve_pool.proofs.pools.+links.Given as goal

abbrev pub decreases-serve_from : goal.decreases-serve_from
decreases-serve_from g l = 4 * l.links + 1

abbrev pub decreases-serve_beside : goal.decreases-serve_beside
decreases-serve_beside g l = 4 * l.links

abbrev pub decreases-serve_beside-join_mut+arg3 : goal.decreases-serve_beside-join_mut+arg3
decreases-serve_beside-join_mut+arg3 g l = 4 * l.left + 2
