use Rattle.std.proofs.Common.{◌≡◌}
use Rattle.plain_dag.specs.Entries.{entry_of}
use Rattle.txn_book.specs.Lending.{Leaves}
use Rattle.session_core.proofs.Written.{of-place, of-lent, is-committed}
use Rattle.session_core.proofs.transactions.commit_open.Goals as goal

pub returns-in-Some : goal.returns-in-Some
returns-in-Some c =
    let n = c.args.session in
    let now = c.args.txns.now in
    let left = c.commit_at.new.place in
    let after = c.place.follows.lender left in
    let there = of-place (λ place. place.now ≡ entry_of n now) c.place.result c.in-Some.place c.in-Some.is c.place.ensures.there in
    is-committed n now after c.in-Some.place.now left there
    (of-lent (Leaves now after n left) c.place.result c.in-Some.place c.in-Some.is (c.place.follows.holds left)) c.args.store.now c.commit_at.new.store
    c.args.id c.args.below.now c.commit_at.result c.commit_at.ensures
