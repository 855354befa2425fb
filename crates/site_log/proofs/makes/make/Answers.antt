use Rattle.std.proofs.Common.{◌≡◌, ◌⊎◌, inl, ℕ, [], length, max, subst, arith}
use Rattle.site_log.specs.Images.{HoldsBodies}
use Rattle.site_log.specs.Files.{IsAtRest}
use Rattle.site_log.specs.News.{first_room, IsNew}
use Rattle.site_log.proofs.Appending.{on_ok, leaves_more}
use Rattle.site_log.proofs.Leaving.{chained}
use Rattle.site_log.proofs.makes.make.Goals as goal

pub returns-in_err-clear-clause-any_moment : goal.returns-in_err-clear-clause-any_moment
returns-in_err-clear-clause-any_moment g c = λ h front is_front is new durable.
    leaves_more g.K.Disk c.args.disk.now c.clear.new.disk IsNew (λ image. IsNew image ⊎ HoldsBodies front [] image)
    (c.clear.ensures.any_moment h new durable) (λ image n. inl n)

pub returns-clause-made : goal.returns-clause-made
returns-clause-made g c = λ h front is_front is new durable.
    let K = g.K.Disk in
    let mid = c.clear.new.disk in
    let now = c.write_front.new.disk in
    let text = c.args.text.now in
    let size = max (length (K.reads c.args.disk.now)) first_room in
    let many : length (K.reads mid) ≡ size = c.in_ok-clear.ensures.room h in
    on_ok c.write_front.result (IsAtRest K now front [] (length text) (length (K.reads mid))) (IsAtRest K now front [] (length text) size)
    (c.write_front.ensures.made (c.clear.ensures.honest.0 h) front is_front is (c.in_ok-clear.ensures.cleared h new).0 (omega (arith, many)))
    (λ rest. subst (λ (n : ℕ). IsAtRest K now front [] (length text) n) many rest)

pub returns-clause-any_moment : goal.returns-clause-any_moment
returns-clause-any_moment g c = λ h front is_front is new durable.
    let K = g.K.Disk in
    let mid = c.clear.new.disk in
    let after = c.in_ok-clear.ensures.cleared h new in
    chained K c.args.disk.now mid c.write_front.new.disk (λ image. IsNew image ⊎ HoldsBodies front [] image)
    (leaves_more K c.args.disk.now mid IsNew (λ image. IsNew image ⊎ HoldsBodies front [] image) (c.clear.ensures.any_moment h new durable) (λ image n. inl n))
    (c.write_front.ensures.any_moment (c.clear.ensures.honest.0 h) front is_front is after.0 (omega (arith, c.in_ok-clear.ensures.room h)) after.1)
