use Rattle.std.proofs.Common.{◌++◌, ◌∷◌, [], ap, arith, refl, ◌∙◌}
use Rattle.wire_item.specs.Valid.{is_batch}
use Rattle.world_core.proofs.Lists.{on_ok, all_grown, one_longer}
use Rattle.world_core.proofs.bags.keep.Goals as goal

pub returns-in-Ok-clause-kept : goal.returns-in-Ok-clause-kept
returns-in-Ok-clause-kept c =
    on_ok c.push.result
    (λ added. λ batch is valid. added ∙ ap (λ b. c.args.bag.now ++ b ∷ [])
    (c.things_have_one_spelling.ensures.batch.one_thing c.args.spelled.now c.in-Ok.batch batch c.in-Ok.ensures.spelled (valid, is)))
    c.push.ensures.added

pub returns-in-Ok-clause-same : goal.returns-in-Ok-clause-same
returns-in-Ok-clause-same c = c.push.ensures.same

pub returns-in-Ok-clause-valid : goal.returns-in-Ok-clause-valid
returns-in-Ok-clause-valid c =
    all_grown is_batch c.push.result c.args.bag.now c.push.new.self c.in-Ok.batch c.in-Ok.ensures.spelled.0 c.push.ensures.added c.push.ensures.same

pub returns-in-Ok-clause-more : goal.returns-in-Ok-clause-more
returns-in-Ok-clause-more c = one_longer c.push.result c.args.bag.now c.push.new.self c.in-Ok.batch c.push.ensures.added c.push.ensures.same

pub returns-in-Err-clause-kept : goal.returns-in-Err-clause-kept
returns-in-Err-clause-kept c = tt

pub returns-in-Err-clause-same : goal.returns-in-Err-clause-same
returns-in-Err-clause-same c = refl

pub returns-in-Err-clause-valid : goal.returns-in-Err-clause-valid
returns-in-Err-clause-valid c = λ all. all

pub returns-in-Err-clause-more : goal.returns-in-Err-clause-more
returns-in-Err-clause-more c = omega arith
