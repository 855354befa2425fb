use Rattle.std.proofs.Common.{◌≡◌, ◌+◌, ℕ, sym, subst, rules}
use Rattle.std.specs.Prelude.{min}
use Rattle.site_journal.specs.Texts.{HasEntries}
use Rattle.site_journal.specs.Moments.{IsTorn}
use Rattle.site_journal.proofs.Mending.{leaves_then}
use Rattle.site_journal.proofs.mends.mend.Goals as goal

pub returns-clause-any_moment : goal.returns-clause-any_moment
returns-clause-any_moment g c = λ h entries t.
    let least : c.min.result ≡ min c.args.size (c.args.place + 1) = search rules in
    let now = subst (λ (n : ℕ). IsTorn g.K.Disk c.cut_rest.new.disk entries c.args.place n) (sym least)
    (c.in_ok-cut_rest.ensures.torn h entries t) in
    leaves_then g.K.Disk c.args.disk.now c.cut_rest.new.disk c.end_rest.new.disk (HasEntries entries)
    (c.cut_rest.ensures.any_moment h entries t)
    (c.end_rest.ensures.any_moment (c.cut_rest.ensures.honest.0 h) entries now)
