use Rattle.std.proofs.Common.{Some, ap, sym, ◌∙◌, subst, arith}
use Rattle.tardis_base.specs.Keys.{with_write}
use Rattle.join_rules.specs.Valued.{value_of}
use Rattle.join_rules.proofs.ValueLaws.{SoFar, so-far-first, so-far-next, so-far-fails, so-far-ends}
use Rattle.join_rules.proofs.settling.values_of.Goals as goal

pub loop-key-init : goal.loop-key-init
loop-key-init c = λ rs ks stands x y ea eb parts ascend.
    let value = value_of c.args.rules.now rs x y in
    subst (λ ws. SoFar value c.args.keys.now 0 ws) (sym c.new-writes.ensures) (so-far-first value c.args.keys.now)

pub value_of-requires-clause-parting : goal.value_of-requires-clause-parting
value_of-requires-clause-parting c = c.requires.parting

pub value_of-requires-clause-a : goal.value_of-requires-clause-a
value_of-requires-clause-a c = c.requires.a

pub value_of-requires-clause-b : goal.value_of-requires-clause-b
value_of-requires-clause-b c = c.requires.b

pub returns-in-None : goal.returns-in-None
returns-in-None c = λ rs ks stands x y ea eb parts ascend.
    so-far-fails (value_of c.args.rules.now rs x y) c.args.keys.now c.loop-key.key-index c.key-item.result c.loop-key-test.true c.key-item.is
    c.loop-key.writes
    (c.loop-key.invariant rs ks stands x y ea eb parts ascend) (sym (c.in_ok-write.ensures rs ks stands x y ea eb parts) ∙ c.in-None.is)
    ∙ ap (λ k. Some k) (sym c.in_ok-own.ensures)

pub loop-key-preserved : goal.loop-key-preserved
loop-key-preserved c = λ rs ks stands x y ea eb parts ascend.
    so-far-next (value_of c.args.rules.now rs x y) c.args.keys.now c.loop-key.key-index c.key-item.result c.loop-key-test.true c.key-item.is
    c.loop-key.writes c.insert.new.self c.in-Some.write
    (c.loop-key.invariant rs ks stands x y ea eb parts ascend) (sym (c.in_ok-write.ensures rs ks stands x y ea eb parts) ∙ c.in-Some.is) ascend
    (c.in_ok-insert-in-Some.ensures.added ∙ ap (λ z. with_write z c.in-Some.write c.loop-key.writes) c.in_ok-own.ensures)

pub returns : goal.returns
returns c = λ rs ks stands x y ea eb parts ascend.
    so-far-ends (value_of c.args.rules.now rs x y) c.args.keys.now c.loop-key.key-index c.loop-key.writes
    (c.loop-key.invariant rs ks stands x y ea eb parts ascend) (omega (arith, c.loop-key-test.false))
