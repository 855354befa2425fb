use Rattle.std.proofs.Common.{◌≡◌, sym, ap, subst}
use Rattle.tardis_base.specs.declared.requests.Request.TheVariants.{Get}
use Rattle.version_list.specs.Reads.{found as found_write}
use Rattle.plain_site.specs.Answers.{Answer, found}
use Rattle.wire_talk.specs.Spellings.{reply_spelling}
use Rattle.session_core.specs.Gives.{Stops}
use Rattle.session_core.specs.Machine.{reading}
use Rattle.session_core.specs.Held.{seen}
use Rattle.session_core.specs.Stands.{CoreStands}
use Rattle.session_core.proofs.Getting.{reply-told}
use Rattle.session_core.proofs.Memory.{read-held}
use Rattle.session_core.proofs.Reading.{read-found, read-fault}
use Rattle.session_core.proofs.Parts.get_into.Goals as goal

pub give_found-requires-clause-valid : goal.give_found-requires-clause-valid
give_found-requires-clause-valid c =
    let n = c.args.actor in
    let k = c.args.key in
    (reply-told c.args.self.now n (Get k) c.requires.key c.requires.stands (found (found_write c.in-Found.found))
    (λ site stands sound.
    ap (λ (a : Answer). a.1) (read-found (seen c.self.inside) site (subst (λ v. CoreStands v site) (sym c.self.view_is) stands) sound n k c.read_noted.new.txns
    c.in-Found.found c.in-Found.ensures).0)).valid

pub give_found-requires-clause-short : goal.give_found-requires-clause-short
give_found-requires-clause-short c =
    let n = c.args.actor in
    let k = c.args.key in
    (reply-told c.args.self.now n (Get k) c.requires.key c.requires.stands (found (found_write c.in-Found.found))
    (λ site stands sound.
    ap (λ (a : Answer). a.1) (read-found (seen c.self.inside) site (subst (λ v. CoreStands v site) (sym c.self.view_is) stands) sound n k c.read_noted.new.txns
    c.in-Found.found c.in-Found.ensures).0)).short

pub invariant_of-self : goal.invariant_of-self
invariant_of-self c = read-held c.self.inside c.self.invariant c.self.inside.store c.args.actor c.args.key c.read_noted.new.txns c.read_noted.result c.read_noted.ensures

pub returns-in-Found : goal.returns-in-Found
returns-in-Found c = λ site stands sound.
    let core = seen c.self.inside in
    let here = subst (λ v. CoreStands v site) (sym c.self.view_is) stands in
    let got = read-found core site here sound c.args.actor c.args.key c.read_noted.new.txns c.in-Found.found c.in-Found.ensures in
    subst (λ (a : Answer). CoreStands (record core { txns = c.read_noted.new.txns }) a.0 × (c.give_found.new.out ≡ reply_spelling a.1)) (sym got.0)
    (got.1, c.give_found.ensures)

pub returns-in-Fault : goal.returns-in-Fault
returns-in-Fault c = λ site stands sound.
    let core = seen c.self.inside in
    let here = subst (λ v. CoreStands v site) (sym c.self.view_is) stands in (
      subst (Stops (CoreStands (record core { txns = c.read_noted.new.txns })) (reading site c.args.actor c.args.key) site) (sym c.from.ensures)
          (read-fault core site here sound c.args.actor c.args.key c.read_noted.new.txns c.in-Fault.fault c.in-Fault.ensures),
      c.requires.empty,
    )
