use Rattle.std.proofs.Common.{subst}
use Rattle.join_rules.specs.Settlings.{SettledAs}
use Rattle.join_rules.proofs.ReasonLaws.{wide-reason, key-reason, no-reason}
use Rattle.join_rules.proofs.open_forks.reason_of.Goals as goal

pub returns-in-Wide : goal.returns-in-Wide
returns-in-Wide c = λ rs ks stands x y ea eb may.
    wide-reason c.args.rules.now rs x y c.in-Wide.keys
    (subst (SettledAs c.args.rules.now rs x y) c.in-Wide.is (c.in_ok-keys.ensures rs ks stands x y ea eb may))

pub returns-in-Unmerged : goal.returns-in-Unmerged
returns-in-Unmerged c = λ rs ks stands x y ea eb may.
    key-reason c.args.rules.now rs x y c.in-Unmerged.key c.in_ok-cause-in-Unmerged.cause
    (subst (SettledAs c.args.rules.now rs x y) c.in-Unmerged.is (c.in_ok-keys.ensures rs ks stands x y ea eb may))
    (c.in_ok-cause-in-Unmerged.ensures rs ks stands x y ea eb may.forks)

pub returns : goal.returns
returns c = λ rs ks stands x y ea eb may.
    no-reason c.args.rules.now rs x y c.in-Values.field-0
    (subst (SettledAs c.args.rules.now rs x y) c.in-Values.is (c.in_ok-keys.ensures rs ks stands x y ea eb may))
