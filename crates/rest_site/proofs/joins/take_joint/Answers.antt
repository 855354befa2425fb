use Rattle.std.proofs.Common.{List, IsTrue, sym, subst}
use Rattle.tardis_base.specs.declared.ids.StateId.{StateId}
use Rattle.tardis_base.specs.declared.records.Item.TheVariants.{State}
use Rattle.tardis_base.specs.Valid.{is_record}
use Rattle.plain_site.specs.Rest.{News}
use Rattle.session_core.specs.Rests.{TakenBy}
use Rattle.rest_site.proofs.Joined.{with_parents, valid-record, took-joint, past-the-end}
use Rattle.rest_site.proofs.joins.take_joint.Goals as goal

pub returns-in_default-clause-joins : goal.returns-in_default-clause-joins
returns-in_default-clause-joins c = λ s stands. past-the-end s c.args.joint (c.in_default.ensures.next s stands) c.args.core.now stands

pub take_record-requires : goal.take_record-requires
take_record-requires c =
    subst (λ (xs : List StateId). IsTrue (is_record (with_parents c.in-Some.id xs c.args.joint))) (sym c.in-Ok.ensures)
    (valid-record c.in-Some.id c.args.joint c.in-Some.ensures.valid c.requires.may)

pub returns-in-Ok-clause-joins : goal.returns-in-Ok-clause-joins
returns-in-Ok-clause-joins c = λ s stands.
    let id = c.in-Some.id in
    let joint = c.args.joint in
    let new = c.take_record.new.self in
    let taken = c.take_record.result in
    took-joint s joint new id (c.in-Some.ensures.next s stands) (valid-record id joint c.in-Some.ensures.valid c.requires.may) taken
    (subst (λ (xs : List StateId). TakenBy new (News (State (with_parents id xs joint))) s taken) c.in-Ok.ensures (c.take_record.ensures.taken s stands))
    c.code_of.result c.code_of.ensures
