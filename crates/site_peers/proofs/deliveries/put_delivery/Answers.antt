use Rattle.std.proofs.Common.{◌≡◌, ◌∙◌, ◌-◌, ◌≤◌, Some, ap, slice_get, subst}
use Rattle.tardis_base.specs.Valid.{is_record}
use Rattle.tardis_base.specs.declared.records.Item.TheVariants.{State, Promise}
use Rattle.wire_item.specs.Valid.{is_consent}
use Rattle.site_peers.specs.Asking.{items_of, delivery}
use Rattle.site_peers.proofs.Items.{list_all_get, records_valid, consents_valid, same_some, record_at, promise_at}
use Rattle.site_peers.proofs.deliveries.put_delivery.Goals as goal

pub put_record-requires : goal.put_record-requires
put_record-requires c = list_all_get is_record c.args.batch.now.records c.args.place c.at.result.now c.at.ensures
    (records_valid c.args.batch.now c.requires.valid)

pub put_consent-requires : goal.put_consent-requires
put_consent-requires c = list_all_get is_consent c.args.batch.now.consents (c.args.place - c.len-records.result) c.at-else-place-records.result.now
    c.at-else-place-records.ensures (consents_valid c.args.batch.now c.requires.valid)

pub returns-then-place-records : goal.returns-then-place-records
returns-then-place-records c = λ item at.
    let b = c.args.batch.now in
    c.put_record.ensures ∙ ap delivery
    (same_some (State c.at.result.now) item (slice_get (items_of b) c.args.place)
    (record_at b.records b.consents c.args.place c.at.result.now c.at.ensures) at)

pub returns-else-place-records : goal.returns-else-place-records
returns-else-place-records c = λ item at.
    let b = c.args.batch.now in
    let promise = c.at-else-place-records.result.now in
    c.put_consent.ensures
    ∙ ap delivery (same_some (Promise promise) item (slice_get (items_of b) c.args.place)
    (promise_at b.records b.consents c.args.place promise (subst (λ n. n ≤ c.args.place) c.len-records.ensures c.if-place-records.false)
    (subst (λ n. slice_get b.consents (c.args.place - n) ≡ Some promise) c.len-records.ensures c.at-else-place-records.ensures)) at)
