use Rattle.std.proofs.Common.{length, ◌≡◌, ◌≤◌, Some, sym, subst, ◌-◌, slice_get, arith}
use Rattle.std.specs.List.{list_all}
use Rattle.std.proofs.lemmas.Bool.{and_parts}
use Rattle.tardis_base.specs.Valid.{is_u16, is_record}
use Rattle.wire_item.specs.Valid.{are_records, are_consents, is_consent}
use Rattle.world_core.proofs.Lists.{list_all_get}
use Rattle.world_core.proofs.Items.{promise_at, none_at, consents_of}
use Rattle.world_core.proofs.bags.kept_in.Goals as goal

pub returns-then-item-records-clause-valid : goal.returns-then-item-records-clause-valid
returns-then-item-records-clause-valid c = λ valid.
    let b = c.args.batch.now in
    list_all_get is_record b.records c.args.item c.at.result.now c.at.ensures
    (and_parts (is_u16 (length b.records)) (list_all is_record b.records) (and_parts (are_records b.records) (are_consents b.consents) valid).0).1

pub returns-then-place-len-clause-item : goal.returns-then-place-len-clause-item
returns-then-place-len-clause-item c =
    let b = c.args.batch.now in
    sym (promise_at b.records b.consents c.args.item c.at-then-place-len.result.now (subst (λ n. n ≤ c.args.item) c.len-records.ensures c.if-item-records.false)
    (subst (λ n. slice_get b.consents (c.args.item - n) ≡ Some c.at-then-place-len.result.now) c.len-records.ensures c.at-then-place-len.ensures))

pub returns-then-place-len-clause-valid : goal.returns-then-place-len-clause-valid
returns-then-place-len-clause-valid c = λ valid.
    let b = c.args.batch.now in
    list_all_get is_consent b.consents (c.args.item - c.len-records.result) c.at-then-place-len.result.now c.at-then-place-len.ensures
    (consents_of b.consents (and_parts (are_records b.records) (are_consents b.consents) valid).1)

pub returns-else-place-len-clause-item : goal.returns-else-place-len-clause-item
returns-else-place-len-clause-item c =
    let b = c.args.batch.now in
    sym (none_at b.records b.consents c.args.item (omega (arith, c.len-records.ensures, c.len.ensures, c.if-item-records.false, c.if-place-len.false)))
