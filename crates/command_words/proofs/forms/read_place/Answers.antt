use Rattle.std.proofs.Common.{arith, map, ◌∙◌}
use Rattle.std.specs.String.{string_bytes}
use Rattle.command_words.specs.Settings.{settings}
use Rattle.command_words.proofs.Places.{place-whole, place-none}
use Rattle.command_words.proofs.forms.read_place.Goals as goal

pub returns-clause-place : goal.returns-clause-place
returns-clause-place c =
    let sites = c.in_ok-sites.ensures in
    let site = c.in_ok-site.ensures in
    record {
      some = omega (arith, sites.from, sites.to);
      most = omega (arith, sites.from, sites.to);
      first = omega (arith, site.from, site.to, sites.to);
      last = omega (arith, site.from, site.to, sites.to);
    }

pub returns-in_err-site-clause-form : goal.returns-in_err-site-clause-form
returns-in_err-site-clause-form c =
    c.from_residual-in_err-site.ensures ∙ place-none (settings (map (λ w. string_bytes w) c.args.words.now)) c.in_ok-sites.sites
    c.in_ok-sites.ensures.number c.in_err-site.ensures.number

pub returns-clause-form : goal.returns-clause-form
returns-clause-form c =
    place-whole (settings (map (λ w. string_bytes w) c.args.words.now)) c.in_ok-sites.sites c.in_ok-site.site c.in_ok-sites.ensures.number
    c.in_ok-site.ensures.number
