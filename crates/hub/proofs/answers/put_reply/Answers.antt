use Rattle.std.proofs.Common.{arith}
use Rattle.hub.proofs.Serving.{one_longer}
use Rattle.hub.proofs.answers.put_reply.Goals as goal

pub returns-clause-counted : goal.returns-clause-counted
returns-clause-counted c = c.note.ensures.noted (omega (arith, c.requires.counts, c.requires.few))

pub returns-clause-counts : goal.returns-clause-counts
returns-clause-counts c =
    let longer = one_longer c.args.waiting.now c.put.new.self c.args.reply.now c.put.ensures in
    omega (arith, longer, c.note.ensures.most, c.requires.counts)
