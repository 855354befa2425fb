use Rattle.std.proofs.Common.{◌≤◌, ap, sym, slice_get, subst}
use Rattle.std.specs.Prelude.{option_and_then}
use Rattle.std.proofs.lemmas.Option.{slice_get_past}
use Rattle.wire_item.specs.Valid.{is_batch}
use Rattle.plain_world.specs.Worlds.{items}
use Rattle.world_core.proofs.Lists.{list_all_get}
use Rattle.world_core.proofs.bags.kept_at.Goals as goal

pub returns-then-place-len-clause-valid : goal.returns-then-place-len-clause-valid
returns-then-place-len-clause-valid c = c.kept_in.ensures.valid (list_all_get is_batch c.args.bag.now c.args.batch c.at.result.now c.at.ensures c.requires)

pub returns-else-place-len-clause-item : goal.returns-else-place-len-clause-item
returns-else-place-len-clause-item c =
    sym (ap (option_and_then (λ b. slice_get (items b) c.args.item))
    (slice_get_past c.args.bag.now c.args.batch (subst (λ n. n ≤ c.args.batch) c.len.ensures c.if-place-len.false)))
