-- What leads on from a site that opens under some limits leads on under larger ones.
use Rattle.std.proofs.Common.{◌≡◌, ℕ, List, [], ◌∷◌, refl, sym, ap, subst}
use Rattle.tardis_base.specs.declared.records.Limits.{Limits}
use Rattle.plain_site.specs.Site.{opening}
use Rattle.plain_site.proofs.SoundOpening.{opening-is-sound}
use Rattle.rest_laws.specs.LimitLaws.{AreWithin}
use Rattle.site_lives.specs.Acquainted.{Acquainted, unacquainted}
use Rattle.site_lives.specs.RestLaws.{all_under, IsAllSound, UntoldIsSound, LargerLimitsTakeBytes, BytesKeepSound}
use Rattle.site_log.specs.Kept.{TakesAll}
use Rattle.site_doors.specs.Kept.{resting}
use Rattle.site_doors.specs.Larger.{FilesOpenUnderLargerLimits}

all-taken : LargerLimitsTakeBytes → BytesKeepSound → (larger : Limits) (a b : Acquainted) (bodies : List (List ℕ)) → IsAllSound a →
    AreWithin a.site.limits larger → TakesAll resting a bodies b → TakesAll resting (all_under larger a) bodies (all_under larger b)
all-taken takes keeps larger a b [] sound within is = ap (all_under larger) is
all-taken takes keeps larger a b (body ∷ bodies) sound within (between, (back, more)) =
    let kept = keeps a between body sound back in
    let within_next = subst (λ (m : Limits). AreWithin m larger) (sym kept.1) within in
    (all_under larger between, (takes a between larger body sound within back, all-taken takes keeps larger between b bodies kept.0 within_next more))

opens-under : (limits larger : Limits) (own : ℕ) → limits.sites ≡ larger.sites →
    all_under larger (unacquainted (opening limits own)) ≡ unacquainted (opening larger own)
opens-under limits larger own sites =
    subst (λ (n : ℕ). all_under larger (unacquainted (opening limits own)) ≡ all_under larger (unacquainted (opening (record limits { sites = n }) own)))
    sites refl

pub files-open-under-larger-limits : LargerLimitsTakeBytes → UntoldIsSound → BytesKeepSound → FilesOpenUnderLargerLimits
files-open-under-larger-limits takes untold keeps limits larger own bodies site valid of_a_site within back =
    let first : Acquainted = unacquainted (opening limits own) in
    subst (λ (a : Acquainted). TakesAll resting a bodies (all_under larger site)) (opens-under limits larger own within.sites)
    (all-taken takes keeps larger first site bodies (untold first (opening-is-sound limits own valid of_a_site) refl) within back)
