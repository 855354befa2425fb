-- What is loaded of a checkpoint, beside a site that goes on.
use Rattle.std.proofs.Common.{◌≡◌, ◌≤◌, ℕ, Bool, true, false, ◌==◌, ◌&&◌, List, length, Option, Some, None, Result, Ok, Err, IsTrue, IsFalse}
use Rattle.std.proofs.Common.{refl, sym, ap, subst, ◌∙◌}
use Rattle.std.specs.Prelude.{IfOk, IfSome, OnErr, IsErr}
use Rattle.std.specs.List.{list_all}
use Rattle.std.proofs.lemmas.Bool.{and_from, and_left, and_right, both_ways}
use Rattle.std.proofs.lemmas.List.Folds.{list_all-map}
use Rattle.tardis_base.specs.declared.faults.NoMemory.{NoMemory}
use Rattle.tardis_base.specs.declared.records.Limits.{Limits}
use Rattle.tardis_base.specs.Valid.{are_limits}
use Rattle.plain_dag.specs.Floors.{Floor}
use Rattle.plain_site.specs.Site.{Site, opening}
use Rattle.plain_checkpoint.specs.Checkpoints.{Told, untold, Part, fits_floors}
use Rattle.ceiling_book.specs.declared.parts.KnownFloor.{KnownFloor}
use Rattle.ceiling_book.specs.Book.{floors_of, known_floor}
use Rattle.session_core.specs.Core.{Core}
use Rattle.session_core.specs.Stands.{StandsForSite}
use Rattle.session_core.specs.Machine.{SiteStands, opened_with}
use Rattle.site_checkpoint.specs.declared.ends.ToldFloor.{ToldFloor}
use Rattle.site_checkpoint.specs.Loaded.{Loaded}
use Rattle.site_checkpoint.specs.Stands.{LoadedStands}
use Rattle.site_checkpoint.specs.Takes.{TakenUnder}
use Rattle.site_checkpoint.specs.Takes.{TakesPart as TakesPartThere}
use Rattle.site_checkpoint.specs.Ends.{floors_told, EndedAs, EndsAs}
use Rattle.site_lives.specs.Things.{is_blank}
use Rattle.rest_site.specs.Stands.{LoadingStands, StandsForSome}
use Rattle.rest_site.specs.LoadedAlike.{under-same}
use Rattle.rest_site.specs.Takings.{PartTakenBy, TakesPart, EndTakenBy}

-- a site that opened as another one did has the same limits
pub same-limits : (old new : Core) (s t : Site) → SiteStands old s → SiteStands new t → opened_with new ≡ opened_with old → s.limits ≡ t.limits
same-limits old new s t before behind same =
    sym before.0.limits ∙ (sym (ap (λ (site : Site). site.limits) same) ∙ behind.0.limits)

-- so what is loaded beside it stands on
pub goes-on-loading : (old new : Core) (s t : Site) (loading : Option Loaded) (told : Told) → SiteStands old s → SiteStands new t →
    opened_with new ≡ opened_with old → LoadingStands s.limits loading told → LoadingStands t.limits loading told
goes-on-loading old new s t loading told before behind same loads =
    under-same s.limits t.limits loading told (same-limits old new s t before behind same) loads

-- the site in memory alone
pub some-site : (core : Core) (loading : Option Loaded) → StandsForSome core loading → StandsForSite core
some-site core loading some = record { site = some.site; stands = some.stands.0; sound = some.stands.1 }

-- the site goes on to one that opened alike
pub some-goes-on : (old new : Core) (loading : Option Loaded) → StandsForSome old loading → StandsForSite new → opened_with new ≡ opened_with old →
    StandsForSome new loading
some-goes-on old new loading some behind same = record {
  site = behind.site;
  told = some.told;
  stands = (behind.stands, behind.sound);
  loads = goes-on-loading old new some.site behind.site loading some.told some.stands (behind.stands, behind.sound) same some.loads;
}

-- its limits are such as a site may have, and its number is one of the sites
pub some-limits : (core : Core) (loading : Option Loaded) → StandsForSome core loading → IsTrue (are_limits core.store.table.limits)
some-limits core loading some = subst (λ (l : Limits). IsTrue (are_limits l)) (sym some.stands.0.limits) some.stands.1.limits

-- under the limits of the site in memory
pub under-core : (core : Core) (loading : Option Loaded) (some : StandsForSome core loading) → LoadingStands core.store.table.limits loading some.told
under-core core loading some = under-same some.site.limits core.store.table.limits loading some.told (sym some.stands.0.limits) some.loads

-- ===== Taken out

-- what is loaded is taken out
pub taken-out : (limits : Limits) (old : Option Loaded) (loaded : Loaded) (t : Told) → old ≡ Some loaded → LoadingStands limits old t →
    LoadingStands limits (Some loaded) t
taken-out limits old loaded t is stands = subst (λ (l : Option Loaded). LoadingStands limits l t) is stands

-- where nothing is loaded a checkpoint begins
pub begins : (limits : Limits) (old : Option Loaded) (result : Result Loaded NoMemory) → old ≡ None → IfOk result (λ loaded. LoadedStands loaded untold) →
    IfOk result (λ loaded. loaded.store.table.limits ≡ limits) →
    IfOk result (λ loaded. (t : Told) → LoadingStands limits old t → LoadingStands limits (Some loaded) t)
begins limits old (Ok loaded) none stands same = λ t h.
    let is : t ≡ untold = subst (λ (l : Option Loaded). LoadingStands limits l t) none h in
    (subst (LoadedStands loaded) (sym is) stands, same)
begins limits old (Err fault) none stands same = tt

-- and if there was no memory for one, nothing was loaded
pub none-left : (old : Option Loaded) (result : Result Loaded NoMemory) → old ≡ None → OnErr result (old ≡ None)
none-left old (Ok loaded) none = tt
none-left old (Err fault) none = none

-- ===== Parts

-- there was no memory to begin a checkpoint
pub not-begun : (limits : Limits) (old new : Option Loaded) (p : Part) (result : Result Bool NoMemory) → old ≡ None → new ≡ None → IsErr result →
    TakesPart limits old new p result
not-begun limits old new p (Ok taken) before behind is t loads = absurd (both_ways false refl is)
not-begun limits old new p (Err fault) before behind is t loads = subst (λ (l : Option Loaded). LoadingStands limits l t) (before ∙ sym behind) loads

-- the part was told to the checkpoint that was taken out, which was put back then
pub part-loaded : (limits : Limits) (old left : Option Loaded) (between new : Loaded) (p : Part) (result : Result Bool NoMemory) →
    ((t : Told) → LoadingStands limits old t → LoadingStands limits (Some between) t) →
    new.store.table.limits ≡ between.store.table.limits → TakesPartThere between new p result → left ≡ Some new → TakesPart limits old left p result
part-loaded limits old left between new p result stands same took put = subst (λ (l : Option Loaded). TakesPart limits old l p result) (sym put) put-back
  where
    go : new.store.table.limits ≡ limits → (t : Told) → (taken : Result Bool NoMemory) → TakenUnder limits new t p taken → PartTakenBy limits (Some new) p t taken
    go is t (Ok true) h = (h.0, (h.1, is))
    go is t (Ok false) h = (h.0, (h.1, is))
    go is t (Err fault) h = (h, is)

    put-back : TakesPart limits old (Some new) p result
    put-back t loads =
        let there = stands t loads in
        go (same ∙ there.1) t result (subst (λ (l : Limits). TakenUnder l new t p result) there.1 (took t there.0))

-- ===== The end

-- the site's number is one of as many as what is loaded has
pub last-site : (core : Core) (loading : Option Loaded) (loaded : Loaded) (own : ℕ) → StandsForSome core loading →
    ((t : Told) → LoadingStands core.store.table.limits loading t → LoadingStands core.store.table.limits (Some loaded) t) →
    own ≤ length (floors_of core.book) → own ≤ loaded.store.table.limits.sites
last-site core loading loaded own some stands within =
    let same = (stands some.told (under-core core loading some)).1 in
    let many = ap length some.stands.0.floors
    ∙ (some.stands.1.one_floor_each ∙ ap (λ (l : Limits). l.sites) (sym some.stands.0.limits ∙ sym same)) in
    subst (λ n. own ≤ n) many within

-- there was no memory
pub unended : (core : Core) (loading : Option Loaded) (floors : List Floor) (result : Result Bool NoMemory) → IsErr result → (site : Site) (t : Told) →
    SiteStands core site → LoadingStands site.limits loading t → EndTakenBy core floors site t result
unended core loading floors (Ok taken) is site t here loads = absurd (both_ways false refl is)
unended core loading floors (Err fault) is site t here loads = here

-- the site isn't blank
pub not-blank : (core : Core) (loading : Option Loaded) (floors : List Floor) → ((site : Site) → SiteStands core site → IsFalse (is_blank site)) →
    (site : Site) (t : Told) → SiteStands core site → LoadingStands site.limits loading t → EndTakenBy core floors site t (Ok false)
not-blank core loading floors blank site t here loads = (and_left (is_blank site) (fits_floors site.limits t floors) (blank site here), here)

-- how it ended with the same floors
pub ended-so : (loaded : Loaded) (own : ℕ) (given floors : List ToldFloor) (end is : Option Core) → given ≡ floors → end ≡ is →
    EndsAs loaded own (floors_told given) (Ok end) → EndsAs loaded own (floors_told floors) (Ok is)
ended-so loaded own given floors end is same so ended =
    subst (λ (fs : List ToldFloor). EndsAs loaded own (floors_told fs) (Ok is)) same
    (subst (λ (o : Option Core). EndsAs loaded own (floors_told given) (Ok o)) so ended)

-- how the site opens that was told
pub opened-so : (end : Option Core) (new : Core) (site : Site) → end ≡ Some new → IfSome end (λ core. opened_with core ≡ site) → opened_with new ≡ site
opened-so end new site so opened = subst (λ (o : Option Core). IfSome o (λ core. opened_with core ≡ site)) so opened

module _ (core : Core) (loading : Option Loaded) (loaded : Loaded) (own : ℕ) (floors : List Floor) (number : own ≡ core.book.own)
    (stands : (t : Told) → LoadingStands core.store.table.limits loading t → LoadingStands core.store.table.limits (Some loaded) t) where
  -- what is loaded, under the site's limits
  loaded-there : (site : Site) (t : Told) → SiteStands core site → LoadingStands site.limits loading t → LoadingStands site.limits (Some loaded) t
  loaded-there site t here loads =
      under-same core.store.table.limits site.limits (Some loaded) t here.0.limits
      (stands t (under-same site.limits core.store.table.limits loading t (sym here.0.limits) loads))

  -- how the checkpoint ended, under the site's limits and number
  ended-there : (end : Option Core) → EndsAs loaded own floors (Ok end) → (site : Site) (t : Told) → SiteStands core site →
      LoadingStands site.limits loading t → EndedAs site.limits site.own t floors (Ok end)
  ended-there end ended site t here loads =
      let there = loaded-there site t here loads in
      subst (λ n. EndedAs site.limits n t floors (Ok end)) (number ∙ here.0.own)
      (subst (λ (l : Limits). EndedAs l own t floors (Ok end)) there.1 (ended t there.0))

  -- the floors fit, and the site that was told takes the place of the one that is blank
  pub ends : (new : Core) → EndsAs loaded own floors (Ok (Some new)) → ((site : Site) → SiteStands core site → IsTrue (is_blank site)) →
      (site : Site) (t : Told) → SiteStands core site → LoadingStands site.limits loading t → EndTakenBy new floors site t (Ok true)
  ends new ended blank site t here loads =
      let there = ended-there (Some new) ended site t here loads in
      (and_from (is_blank site) (fits_floors site.limits t floors) (blank site here) there.0, there.1)

  -- they don't fit
  pub floors-unfit : EndsAs loaded own floors (Ok None) → (site : Site) (t : Told) → SiteStands core site → LoadingStands site.limits loading t →
      EndTakenBy core floors site t (Ok false)
  floors-unfit ended site t here loads =
      (and_right (is_blank site) (fits_floors site.limits t floors) (ended-there None ended site t here loads), here)

  -- it opens as the site did
  pub ends-opening : (new : Core) → StandsForSome core loading → opened_with new ≡ opening loaded.store.table.limits own → opened_with new ≡ opened_with core
  ends-opening new some is =
      let same = (stands some.told (under-core core loading some)).1 in
      is ∙ (ap (λ (l : Limits). opening l own) same ∙ ap (opening core.store.table.limits) number)

-- ===== Blank

-- the root alone is known, and none of the floors was promised
pub blank-there : (core : Core) (site : Site) (known : ℕ) (unpromised : Bool) → SiteStands core site → known ≡ length site.dag →
    unpromised ≡ list_all (λ (f : KnownFloor). f.number == 0) core.book.floors → (known == 1 && unpromised) ≡ is_blank site
blank-there core site known unpromised here same is =
    let p : Floor → Bool = λ f. f.number == 0 in
    let all = is ∙ (sym (list_all-map p known_floor core.book.floors) ∙ ap (list_all p) here.0.floors) in
    ap (λ n. n == 1 && unpromised) same ∙ ap (λ b. length site.dag == 1 && b) all
