use Rattle.std.proofs.Common.{append-nil}
use Rattle.conflict_keys.proofs.Noted.{full-front, whole-front}
use Rattle.std.proofs.Common.{◌∙◌, ◌++◌, sym, ap}
use Rattle.conflict_keys.proofs.pages.first_of.Goals as goal

pub returns-then-len-eq-MAX_NAMED : goal.returns-then-len-eq-MAX_NAMED
returns-then-len-eq-MAX_NAMED c = full-front c.loop-key.first c.loop-key.key-iterator c.args.keys.now.keys c.loop-key.invariant.all
    (sym c.len.ensures ∙ c.if-len-eq-MAX_NAMED.true)

pub returns : goal.returns
returns c =
    whole-front c.loop-key.first c.args.keys.now.keys
    (sym (append-nil c.loop-key.first) ∙ (ap (λ zs. c.loop-key.first ++ zs) (sym c.in-None.ensures.steps.0) ∙ c.loop-key.invariant.all))
    c.loop-key.invariant.few
