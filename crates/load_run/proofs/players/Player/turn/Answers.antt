use Rattle.std.proofs.Common.{◌∙◌, ◌+◌, ◌%◌, sym}
use Rattle.load_run.specs.Scripts.{turn_of}
use Rattle.load_run.proofs.Playing.{then_drawn, turn_commits, turn_begins}
use Rattle.load_run.proofs.players.Player.turn.Goals as goal

pub returns-then-has_txn-clause-does : goal.returns-then-has_txn-clause-does
returns-then-has_txn-clause-does g c =
    then_drawn g.A.AnySite.stands c.args.self.now c.word.new.self c.commit.new.self c.commit.result c.word.result (λ w. turn_of c.args.i (1 + w % 8)) c.word.ensures.drew
    (turn_commits g.A.AnySite.stands c.word.new.self c.commit.new.self c.commit.result c.args.i (1 + c.word.result % 8)
    (λ play h. sym c.if-has_txn.true ∙ c.has_txn.ensures play h) c.commit.ensures.does)

pub returns-else-has_txn-clause-does : goal.returns-else-has_txn-clause-does
returns-else-has_txn-clause-does g c =
    then_drawn g.A.AnySite.stands c.args.self.now c.word.new.self c.begin.new.self c.begin.result c.word.result (λ w. turn_of c.args.i (1 + w % 8)) c.word.ensures.drew
    (turn_begins g.A.AnySite.stands c.word.new.self c.begin.new.self c.begin.result c.args.i (1 + c.word.result % 8)
    (λ play h. sym c.if-has_txn.false ∙ c.has_txn.ensures play h) c.begin.ensures.does)
