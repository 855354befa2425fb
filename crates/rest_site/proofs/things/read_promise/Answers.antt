use Rattle.std.proofs.Common.{refl}
use Rattle.tardis_base.specs.declared.records.Item.TheVariants.{Promise}
use Rattle.wire_item.specs.Readings.{consent_front}
use Rattle.wire_item.proofs.Fronts.{made-read}
use Rattle.wire_item.proofs.Takings.{taken, untaken, made-none}
use Rattle.plain_site.specs.Rest.{News}
use Rattle.site_lives.specs.Things.{OfSite}
use Rattle.rest_site.specs.Takings.{promise_front}
use Rattle.rest_site.proofs.Taken.{read-none}
use Rattle.rest_site.proofs.things.read_promise.Goals as goal

pub returns-in_err-promise : goal.returns-in_err-promise
returns-in_err-promise c =
    read-none (promise_front c.args.reader.now) c.from_residual.result c.consent.new.self c.from_residual.ensures
    (made-none (λ p. OfSite (News (Promise p))) consent_front c.args.reader.now (untaken consent_front c.args.reader.now c.consent.new.self c.in_err-promise.ensures))

pub returns : goal.returns
returns c =
    let read = taken consent_front c.args.reader.now c.consent.new.self c.in_ok-promise.promise c.in_ok-promise.ensures in (
      OfSite (News (Promise c.in_ok-promise.promise)),
      made-read (λ p. OfSite (News (Promise p))) consent_front c.args.reader.now c.in_ok-promise.promise c.consent.new.self read,
      refl,
    )
