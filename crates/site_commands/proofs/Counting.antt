-- A site answers Stat by statistics.
use Rattle.std.proofs.Common.{◌≡◌, List, [], ◌∷◌, IsTrue, refl, sym, ap, subst}
use Rattle.std.specs.List.{AllByRecursion, list_all}
use Rattle.std.proofs.lemmas.Bool.{and_from, lt-ltb}
use Rattle.tardis_base.specs.declared.requests.Request.TheVariants.{Stat}
use Rattle.tardis_base.specs.declared.replies.Refusal.TheVariants.{Malformed}
use Rattle.tardis_base.specs.Plain.{Event, state_after}
use Rattle.tardis_base.specs.Valid.{is_u16}
use Rattle.wire_talk.specs.Laws.{RequestsHaveOneSpelling}
use Rattle.trail_log.specs.Frames.{IsEntry}
use Rattle.site_sync.specs.Asking.{stat as stat_event, StatesLines}
use Rattle.plain_site.specs.Site.{Site, opening}
use Rattle.plain_site.specs.Answers.{Answer, refused, given}
use Rattle.plain_site.specs.Shows.{stat, site_lines}
use Rattle.plain_site.specs.Step.{step, step_over_bytes, site_machine}
use Rattle.plain_site.specs.Laws.{OpeningIsSound, RunsKeepSound, RepliesToBytesFit}
use Rattle.site_commands.specs.Counts.{SitesTellCounts}

-- the actors of a trail have 16 bits
actors : (trail : List Event) → AllByRecursion IsEntry trail → IsTrue (list_all (λ event. is_u16 event.0) trail)
actors [] each = refl
actors (e ∷ es) each = and_from (is_u16 e.0) (list_all (λ event. is_u16 event.0) es) (lt-ltb e.0 65536 each.0.0) (actors es each.1)

stat_answer : RequestsHaveOneSpelling → (site : Site) → step_over_bytes site stat_event ≡ stat site
stat_answer one site = ap (λ read. given read (refused site Malformed) (step site 0)) (one.read_back Stat refl)

stat_lines : (site : Site) (a : Answer) → a ≡ stat site → StatesLines a.1 (site_lines site.dag 1 site.floors)
stat_lines site a is = subst (λ b. StatesLines b.1 (site_lines site.dag 1 site.floors)) (sym is) refl

pub sites_tell : OpeningIsSound → RunsKeepSound → RepliesToBytesFit → RequestsHaveOneSpelling → SitesTellCounts
sites_tell opens keeps fits one limits own limited is_site trail each =
    let site = state_after site_machine (opening limits own) trail in
    let sound = keeps (opening limits own) trail (actors trail each) (opens limits own limited is_site) in (
      site_lines site.dag 1 site.floors,
      record {
        told = (step_over_bytes site stat_event).1;
        spelled = (fits.valid site stat_event sound, refl);
        states = stat_lines site (step_over_bytes site stat_event) (stat_answer one site);
      },
    )
