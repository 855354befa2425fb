use Rattle.std.proofs.Common.{◌∙◌, ◌&&◌, sym, ap}
use Rattle.std.proofs.lemmas.Bool.{and_left}
use Rattle.tardis_base.specs.Keys.{is_key_before}
use Rattle.plain_dag.specs.Conflicts.{is_conflict_key}
use Rattle.conflict_keys.proofs.pages.is_behind.Goals as goal

pub returns-then-is_after : goal.returns-then-is_after
returns-then-is_after c = λ rs ks stands xs are.
    c.is_conflict.ensures rs ks stands xs are ∙ sym (ap (λ b. b && is_conflict_key rs xs c.args.key.now) (sym c.is_after.ensures ∙ c.if-is_after.true))

pub returns-else-is_after : goal.returns-else-is_after
returns-else-is_after c = λ rs ks stands xs are.
    c.if-is_after.false ∙ sym (and_left (is_key_before c.args.after.now c.args.key.now) (is_conflict_key rs xs c.args.key.now)
    (sym c.is_after.ensures ∙ c.if-is_after.false))
