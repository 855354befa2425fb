use Rattle.std.proofs.Common.{Some, sym, subst}
use Rattle.plain_site.specs.Answers.{with_txn}
use Rattle.plain_site.specs.Reads.{set_key}
use Rattle.session_core.specs.Gives.{Stops}
use Rattle.session_core.specs.Held.{seen}
use Rattle.session_core.specs.Stands.{CoreStands}
use Rattle.txn_book.specs.Txns.{PutAs}
use Rattle.session_core.proofs.Memory.{put-held}
use Rattle.session_core.proofs.Writing.{put-done, put-stops}
use Rattle.session_core.proofs.Parts.put.Goals as goal

pub invariant_of-self : goal.invariant_of-self
invariant_of-self c = put-held c.self.inside c.self.invariant c.args.actor c.args.key c.args.write c.put.new.self c.put.result c.put.ensures

pub returns-in-Some-Ok : goal.returns-in-Some-Ok
returns-in-Some-Ok c = λ site stands sound.
    let here = subst (λ v. CoreStands v site) (sym c.self.view_is) stands in
    let put = subst (λ z. PutAs c.self.inside.txns c.put.new.self c.args.actor c.args.key c.args.write (Some z)) c.in-Some-Ok.field-0-is c.in-Some-Ok.ensures in
    put-done (seen c.self.inside) site here sound c.args.actor c.args.key c.args.write c.put.new.self c.in-Some-Ok.field-0-0 put

pub returns-in-Some-Err : goal.returns-in-Some-Err
returns-in-Some-Err c = λ site stands sound.
    let here = subst (λ v. CoreStands v site) (sym c.self.view_is) stands in
    let put = subst (λ z. PutAs c.self.inside.txns c.put.new.self c.args.actor c.args.key c.args.write (Some z)) c.in-Some-Err.field-0-is
    c.in-Some-Err.ensures in
    let n = c.args.actor in
    subst (Stops (CoreStands (record (seen c.self.inside) { txns = c.put.new.self })) (with_txn site n (λ s t. set_key site n t c.args.key c.args.write))
    site) (sym c.from.ensures)
    (put-stops (seen c.self.inside) site here sound n c.args.key c.args.write c.put.new.self c.in-Some-Err.fault put)
