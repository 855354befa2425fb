use Rattle.std.proofs.Common.{◌≤◌, IsTrue, inl, inr, refl, sym, subst}
use Rattle.tardis_base.specs.declared.records.Limits.{Limits}
use Rattle.tardis_base.specs.Valid.{are_limits}
use Rattle.plain_site.specs.Site.{opening}
use Rattle.site_lives.specs.Acquainted.{unacquainted}
use Rattle.rest_site.specs.Stands.{AcquaintedStands}
use Rattle.site_log.specs.declared.ends.OpenEnd.TheVariants.{BadFront, NoMemory}
use Rattle.tardisd_main.proofs.Checking.{are_widest, no_place, tells_spoiled}
use Rattle.tardisd_main.proofs.checks.check_log.Goals as goal

pub returns-then-not-is_place : goal.returns-then-not-is_place
returns-then-not-is_place c =
    tells_spoiled c.args.bytes.now BadFront c.end_of.result c.end_of.ensures (inr (
      c.args.front.now,
      (c.requires.front, inl (no_place c.is_place.result c.args.front.now c.is_place.ensures.1 c.if-not-is_place.true, refl)),
    ))

pub new-requires-clause-limits : goal.new-requires-clause-limits
new-requires-clause-limits c =
    let place = c.is_place.ensures.0 c.if-not-is_place.false in
    subst (λ (l : Limits). IsTrue (are_limits l)) (sym c.widest_limits.ensures) (are_widest c.args.front.now.sites place.some place.most)

pub new-requires-clause-first : goal.new-requires-clause-first
new-requires-clause-first c =
    let place = c.is_place.ensures.0 c.if-not-is_place.false in place.first

pub new-requires-clause-last : goal.new-requires-clause-last
new-requires-clause-last c =
    let place = c.is_place.ensures.0 c.if-not-is_place.false in
    subst (λ (l : Limits). c.args.front.now.own ≤ l.sites) (sym c.widest_limits.ensures) place.last

pub take_log-requires-clause-place : goal.take_log-requires-clause-place
take_log-requires-clause-place c = c.is_place.ensures.0 c.if-not-is_place.false

pub take_log-requires-clause-opens : goal.take_log-requires-clause-opens
take_log-requires-clause-opens c =
    subst (λ (l : Limits). AcquaintedStands c.in-Ok.site (unacquainted (opening l c.args.front.now.own))) c.widest_limits.ensures c.in-Ok.ensures.stands

pub returns-in-Err : goal.returns-in-Err
returns-in-Err c = tells_spoiled c.args.bytes.now NoMemory _ refl (inl tt)
