use Rattle.std.proofs.Common.{inl, inr, ap}
use Rattle.std.specs.List.{list_all}
use Rattle.state_dag.specs.Table.{is_slot}
use Rattle.state_dag.specs.Images.{entry_of_parts}
use Rattle.tardis_base.specs.Ids.{same_id}
use Rattle.twin_stores.specs.Tables.{Outline}
use Rattle.twin_stores.proofs.Places.{same-ids, other-ids, id-decides}
use Rattle.twin_stores.proofs.Compared.{same-lists, other-lists, all-got, parts-say, place-says, says-in_place, place-differs}
use Rattle.twin_stores.proofs.tables.is_same_outline.Goals as goal

pub returns-then-ne : goal.returns-then-ne
returns-then-ne c =
    let one = c.args.one.now in
    let other = c.args.other.now in
    let p = entry_of_parts c.entry-first.result in
    let q = entry_of_parts c.entry-second.result in
    place-differs one other c.args.place p q c.entry-first.ensures.entry c.entry-second.ensures.entry (λ same. elim c.then-ne.either [
      | inl t ↦ other-ids p.id q.id c.ne.result c.ne.ensures t (ap (λ (o : Outline). o.id) same)
      | inr both ↦ both.1 (ap (λ (o : Outline). o.arrival) same)
    ])

pub returns-then-ne-2 : goal.returns-then-ne-2
returns-then-ne-2 c =
    let p = entry_of_parts c.entry-first.result in
    let q = entry_of_parts c.entry-second.result in
    place-differs c.args.one.now c.args.other.now c.args.place p q c.entry-first.ensures.entry c.entry-second.ensures.entry
    (λ same. other-lists same_id id-decides p.parents q.parents c.ne-2.result c.ne-2.ensures c.if-ne-2.true (ap (λ (o : Outline). o.parents) same))

pub returns-then-ne-3 : goal.returns-then-ne-3
returns-then-ne-3 c =
    let p = entry_of_parts c.entry-first.result in
    let q = entry_of_parts c.entry-second.result in
    place-differs c.args.one.now c.args.other.now c.args.place p q c.entry-first.ensures.entry c.entry-second.ensures.entry
    (λ same. other-lists same_id id-decides p.children q.children c.ne-3.result c.ne-3.ensures c.if-ne-3.true (ap (λ (o : Outline). o.children) same))

pub name_the_same-requires-clause-slots : goal.name_the_same-requires-clause-slots
name_the_same-requires-clause-slots c =
    all-got (λ e. list_all (is_slot c.args.one.now) e.stand_ins) c.args.one.now.entries c.requires.one.stand_ins c.args.place
    (entry_of_parts c.entry-first.result) c.entry-first.ensures.entry

pub name_the_same-requires-clause-others : goal.name_the_same-requires-clause-others
name_the_same-requires-clause-others c =
    all-got (λ e. list_all (is_slot c.args.other.now) e.stand_ins) c.args.other.now.entries c.requires.other.stand_ins c.args.place
    (entry_of_parts c.entry-second.result) c.entry-second.ensures.entry

pub returns : goal.returns
returns c =
    let one = c.args.one.now in
    let other = c.args.other.now in
    let p = entry_of_parts c.entry-first.result in
    let q = entry_of_parts c.entry-second.result in
    let id = same-ids p.id q.id c.ne.result c.ne.ensures c.if-ne.false in
    let parents = same-lists same_id id-decides p.parents q.parents c.ne-2.result c.ne-2.ensures c.if-ne-2.false in
    let children = same-lists same_id id-decides p.children q.children c.ne-3.result c.ne-3.ensures c.if-ne-3.false in (
      λ t. says-in_place one other c.args.place p q c.entry-first.ensures.entry c.entry-second.ensures.entry
          (parts-say one other p q id c.if-first-second.false parents children (c.name_the_same.ensures.0 t)),
      λ same. c.name_the_same.ensures.1 (ap (λ (o : Outline). o.stand_ins)
          (place-says one other c.args.place p q c.entry-first.ensures.entry c.entry-second.ensures.entry same)),
    )
