use Rattle.std.proofs.Common.{◌≡◌, ◌∙◌, Option, None, refl, sym}
use Rattle.plain_dag.specs.Entries.{entry_of}
use Rattle.merge_txn.specs.declared.Txn.{Txn}
use Rattle.txn_book.specs.Lending.{Leaves}
use Rattle.session_core.proofs.Written.{of-place, of-lent, of-none, none-read, is-read}
use Rattle.session_core.proofs.transactions.read_noted.Goals as goal

pub read_at-requires : goal.read_at-requires
read_at-requires c = λ t was.
    let there = of-place (λ place. place.now ≡ entry_of c.args.session c.args.txns.now) c.place.result c.in-Some.place c.in-Some.is c.place.ensures.there in
    c.requires t (sym there ∙ was)

pub returns-in-Some : goal.returns-in-Some
returns-in-Some c =
    let n = c.args.session in
    let now = c.args.txns.now in
    let left = c.read_at.new.place in
    let after = c.place.follows.lender left in
    let there = of-place (λ place. place.now ≡ entry_of n now) c.place.result c.in-Some.place c.in-Some.is c.place.ensures.there in
    is-read n now after c.in-Some.place.now left there
    (of-lent (Leaves now after n left) c.place.result c.in-Some.place c.in-Some.is (c.place.follows.holds left)) c.args.store.now c.args.key c.read_at.result
    c.read_at.ensures

pub returns-in-None : goal.returns-in-None
returns-in-None c =
    let n = c.args.session in
    let now = c.args.txns.now in
    let none = of-none (◌≡◌ {A = Option Txn} (entry_of n now) None) c.place.result c.in-None.is c.place.ensures.none in
    none-read c.args.store.now n c.args.key c.args.key now c.place.follows.lender-at-none none c.place.follows.holds-at-none refl
