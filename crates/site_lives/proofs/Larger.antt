-- What a site takes back under some limits, it takes back under larger ones, and what it takes back leaves all sound.
use Rattle.std.proofs.Common.{◌≡◌, ℕ, Bool, true, List, [], ◌∷◌, IsTrue, refl, sym, ap, subst, ◌∙◌}
use Rattle.std.specs.Prelude.{◌&&◌}
use Rattle.std.proofs.lemmas.Bool.{and_parts, and_from}
use Rattle.tardis_base.specs.declared.records.Limits.{Limits}
use Rattle.plain_site.specs.Site.{Site}
use Rattle.plain_site.specs.Rest.{at_rest, fits}
use Rattle.plain_site.specs.RestSpellings.{is_lasting}
use Rattle.plain_rows.specs.Rows.{fits_row}
use Rattle.plain_rows.proofs.Sound.{rows-keep-sound}
use Rattle.plain_checkpoint.specs.Checkpoints.{Told, fits_floors}
use Rattle.plain_checkpoint.specs.Laws.{IsToldWell}
use Rattle.plain_checkpoint.proofs.Sites.{untold-is-told-well, parts-keep-told-well, told-sites-are-sound}
use Rattle.plain_checkpoint.proofs.Larger.{larger-limits-fit, floors-go-by-sites}
use Rattle.rest_laws.specs.LimitLaws.{under, AreWithin}
use Rattle.rest_laws.proofs.Fitting.{rests-still, what-fits-keeps-sound}
use Rattle.rest_laws.proofs.Larger.{limits-stay, lasting-larger, larger-limits-take-back}
use Rattle.site_lives.specs.Lives.{fits_life}
use Rattle.site_lives.specs.Acquainted.{Acquainted}
use Rattle.site_lives.specs.Things.{LastingThing, OfSite, OfLives, OfRow, OfCheckpoint, OfEnd, all_at_rest, with_thing, is_blank, fits_thing, replay_things}
use Rattle.site_lives.specs.Things.{all_things_fit, is_thing, are_things}
use Rattle.site_lives.specs.RestLaws.{all_under, IsAllSound, UntoldIsSound, LargerLimitsTakeBytes, BytesKeepSound}

pub untold-is-sound : UntoldIsSound
untold-is-sound a sound none = record {
  site = sound;
  told = subst (λ (t : Told). IsToldWell a.site.limits t) (sym none) (untold-is-told-well a.site.limits sound.limits);
}

-- ===== One thing

one : (p : Bool) → IsTrue p → IsTrue (p && true)
one p h = and_from p true h refl

fits-larger : (a : Acquainted) (larger : Limits) (t : LastingThing) → IsAllSound (all_at_rest a) → AreWithin a.site.limits larger → IsTrue (is_thing t) →
    IsTrue (fits_thing (all_at_rest a) t) → IsTrue (fits_thing (all_under larger (all_at_rest a)) t)
fits-larger a larger (OfSite l) sound within valid fit =
    let taken = larger-limits-take-back a.site larger (l ∷ []) sound.site within (one (is_lasting l) valid) (one (fits (at_rest a.site) l) fit) in
    (and_parts (fits (under larger (at_rest a.site)) l) true taken.0).0
fits-larger a larger (OfLives new) sound within valid fit =
    subst (λ (n : ℕ). IsTrue (fits_life a.site.own n a.lives new)) within.sites fit
fits-larger a larger (OfRow n count) sound within valid fit =
    subst (λ (sites : ℕ). IsTrue (fits_row (under (record larger { sites = sites }) (at_rest a.site)) n count)) within.sites fit
fits-larger a larger (OfCheckpoint p) sound within valid fit =
    larger-limits-fit a.site.limits larger a.told p within.sites within.kept within.path sound.told fit
fits-larger a larger (OfEnd floors) sound within valid fit =
    let here = fits_floors a.site.limits a.told floors in
    let there = fits_floors larger a.told floors in
    let parts = and_parts (is_blank (at_rest a.site)) here fit in
    and_from (is_blank (at_rest a.site)) there parts.0 (sym (floors-go-by-sites a.site.limits larger a.told floors within.sites) ∙ parts.1)

thing-larger : (a : Acquainted) (larger : Limits) (t : LastingThing) → with_thing t (all_under larger a) ≡ all_under larger (with_thing t a)
thing-larger a larger (OfSite l) = ap (λ (s : Site). record a { site = s }) (lasting-larger a.site larger l)
thing-larger a larger (OfLives new) = refl
thing-larger a larger (OfRow n count) = refl
thing-larger a larger (OfCheckpoint p) = refl
thing-larger a larger (OfEnd floors) = refl

pub thing-keeps-sound : (a : Acquainted) (t : LastingThing) → IsAllSound (all_at_rest a) → IsTrue (is_thing t) → IsTrue (fits_thing (all_at_rest a) t) →
    IsAllSound (with_thing t (all_at_rest a))
thing-keeps-sound a (OfSite l) sound valid fit = record {
  site = what-fits-keeps-sound a.site (l ∷ []) sound.site (one (is_lasting l) valid) (one (fits (at_rest a.site) l) fit);
  told = subst (λ (limits : Limits). IsToldWell limits a.told) (limits-stay (at_rest a.site) l) sound.told;
}
thing-keeps-sound a (OfLives new) sound valid fit = record { site = sound.site; told = sound.told }
thing-keeps-sound a (OfRow n count) sound valid fit = record {
  site = rows-keep-sound (at_rest a.site) n count sound.site fit;
  told = sound.told;
}
thing-keeps-sound a (OfCheckpoint p) sound valid fit = record {
  site = sound.site;
  told = parts-keep-told-well a.site.limits a.told p sound.site.limits sound.told fit;
}
thing-keeps-sound a (OfEnd floors) sound valid fit =
    let floors_fit = (and_parts (is_blank (at_rest a.site)) (fits_floors a.site.limits a.told floors) fit).1 in
    record {
      site = told-sites-are-sound a.site.limits a.site.own a.told floors sound.site.limits sound.site.own sound.told floors_fit;
      told = untold-is-told-well a.site.limits sound.site.limits;
    }

thing-keeps-limits : (a : Acquainted) (t : LastingThing) → a.site.limits ≡ (with_thing t a).site.limits
thing-keeps-limits a (OfSite l) = limits-stay a.site l
thing-keeps-limits a (OfLives new) = refl
thing-keeps-limits a (OfRow n count) = refl
thing-keeps-limits a (OfCheckpoint p) = refl
thing-keeps-limits a (OfEnd floors) = refl

pub all-rest-still : (a : Acquainted) (t : LastingThing) → with_thing t (all_at_rest a) ≡ all_at_rest (with_thing t (all_at_rest a))
all-rest-still a (OfSite l) = ap (λ (s : Site). record a { site = s }) (rests-still a.site l)
all-rest-still a (OfLives new) = refl
all-rest-still a (OfRow n count) = refl
all-rest-still a (OfCheckpoint p) = refl
all-rest-still a (OfEnd floors) = refl

-- ===== Several things

-- they fit under larger limits, and make the same of the site
abbrev Taken : Acquainted → Limits → List LastingThing → Type 0
Taken a larger ts = IsTrue (all_things_fit (all_under larger a) ts) × (replay_things ts (all_under larger a) ≡ all_under larger (replay_things ts a))

one-more : (a : Acquainted) (larger : Limits) (t : LastingThing) (later : List LastingThing) → IsTrue (fits_thing (all_under larger a) t) →
    Taken (with_thing t a) larger later → Taken a larger (t ∷ later)
one-more a larger t later fit taken =
    let same = sym (thing-larger a larger t) in (
      and_from (fits_thing (all_under larger a) t) (all_things_fit (with_thing t (all_under larger a)) later) fit
          (subst (λ (s : Acquainted). IsTrue (all_things_fit s later)) same taken.0),
      subst (λ (s : Acquainted). replay_things later s ≡ all_under larger (replay_things later (with_thing t a))) same taken.1,
    )

things-taken : (a : Acquainted) (larger : Limits) (ts : List LastingThing) → IsAllSound (all_at_rest a) → AreWithin a.site.limits larger →
    IsTrue (are_things ts) → IsTrue (all_things_fit (all_at_rest a) ts) → Taken (all_at_rest a) larger ts
things-taken a larger [] sound within valid fit = (refl, refl)
things-taken a larger (t ∷ later) sound within valid fit =
    let next = with_thing t (all_at_rest a) in
    let valid_parts = and_parts (is_thing t) (are_things later) valid in
    let fit_parts = and_parts (fits_thing (all_at_rest a) t) (all_things_fit next later) fit in
    let still = all-rest-still a t in
    let is_sound = thing-keeps-sound a t sound valid_parts.0 fit_parts.0 in
    let within_next = subst (λ (m : Limits). AreWithin m larger) (thing-keeps-limits (all_at_rest a) t) within in
    one-more (all_at_rest a) larger t later (fits-larger a larger t sound within valid_parts.0 fit_parts.0)
    (subst (λ (s : Acquainted). Taken s larger later) (sym still)
    (things-taken next larger later (subst IsAllSound still is_sound) within_next valid_parts.1
    (subst (λ (s : Acquainted). IsTrue (all_things_fit s later)) still fit_parts.1)))

-- all is sound behind them, under the same limits
abbrev IsKept : Acquainted → Limits → Type 0
IsKept behind limits = IsAllSound behind × (behind.site.limits ≡ limits)

things-keep : (a : Acquainted) (ts : List LastingThing) → IsAllSound (all_at_rest a) → IsTrue (are_things ts) → IsTrue (all_things_fit (all_at_rest a) ts) →
    IsKept (replay_things ts (all_at_rest a)) a.site.limits
things-keep a [] sound valid fit = (sound, refl)
things-keep a (t ∷ later) sound valid fit =
    let next = with_thing t (all_at_rest a) in
    let valid_parts = and_parts (is_thing t) (are_things later) valid in
    let fit_parts = and_parts (fits_thing (all_at_rest a) t) (all_things_fit next later) fit in
    let still = all-rest-still a t in
    let is_sound = thing-keeps-sound a t sound valid_parts.0 fit_parts.0 in
    let kept : IsKept (replay_things later (all_at_rest next)) next.site.limits =
    things-keep next later (subst IsAllSound still is_sound) valid_parts.1
    (subst (λ (s : Acquainted). IsTrue (all_things_fit s later)) still fit_parts.1) in
    let here = subst (λ (s : Acquainted). IsKept (replay_things later s) next.site.limits) (sym still) kept in
    (here.0, here.1 ∙ sym (thing-keeps-limits (all_at_rest a) t))

-- ===== Bytes

pub larger-limits-take-bytes : LargerLimitsTakeBytes
larger-limits-take-bytes a behind larger bytes sound within takes =
    let same = takes.rests in
    let fit = subst (λ (s : Acquainted). IsTrue (all_things_fit s takes.things)) (sym same) takes.fit in
    let at_rest_sound = subst IsAllSound (sym same) sound in
    let taken = subst (λ (s : Acquainted). Taken s larger takes.things) same (things-taken a larger takes.things at_rest_sound within takes.are fit) in
    record {
      things = takes.things;
      are = takes.are;
      spelled = takes.spelled;
      rests = ap (all_under larger) same;
      fit = taken.0;
      replayed = ap (all_under larger) takes.replayed ∙ sym taken.1;
    }

pub bytes-keep-sound : BytesKeepSound
bytes-keep-sound a behind bytes sound takes =
    let same = takes.rests in
    let fit = subst (λ (s : Acquainted). IsTrue (all_things_fit s takes.things)) (sym same) takes.fit in
    let at_rest_sound = subst IsAllSound (sym same) sound in
    let kept = subst (λ (s : Acquainted). IsKept (replay_things takes.things s) a.site.limits) same
    (things-keep a takes.things at_rest_sound takes.are fit) in
    subst (λ (s : Acquainted). IsKept s a.site.limits) (sym takes.replayed) kept
