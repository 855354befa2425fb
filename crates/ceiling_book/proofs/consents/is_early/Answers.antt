use Rattle.std.proofs.Common.{◌≡◌, ◌∙◌, ◌||◌, not, ℕ, Bool, true, ltb, sym, ap}
use Rattle.std.proofs.lemmas.Bool.{lt-ltb}
use Rattle.plain_dag.specs.States.{is_known}
use Rattle.ceiling_book.proofs.consents.is_early.Goals as goal

pub returns-then-have-promise : goal.returns-then-have-promise
returns-then-have-promise c = λ rs ks stands is.
    let promise = c.args.promise.now in
    let less : ltb c.args.have promise.count ≡ true = lt-ltb c.args.have promise.count c.if-have-promise.true in
    less ∙ sym (ap (λ (t : Bool). t || not (is_known rs promise.floor)) (ap (λ (n : ℕ). ltb n promise.count) (sym is) ∙ less))
