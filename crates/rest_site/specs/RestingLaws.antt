-- Why the site is a machine that starts again: the proofs of the laws of one, which its `impl` names. They need no belief.
use Rattle.std.specs.Prelude.{◌≡◌, ℕ, ◌<◌, ◌==◌, Bool, true, false, List, [], ◌∷◌, ◌++◌, Option, None, option_map, option_to_list, IsTrue, IsFalse, refl, if◌then◌else◌}
use Rattle.std.proofs.Common.{inl, inr, sym, subst, ◌∙◌}
use Rattle.std.proofs.lemmas.Bool.{both_ways, or_cases, eqb-true, false_from_ne_true, lt-ltb}
use Rattle.std.proofs.lemmas.Slice.Eq.{bytes_eq-Decides}
use Rattle.tardis_base.specs.Plain.{Event}
use Rattle.tardis_base.specs.Valid.{is_u16}
use Rattle.wire_talk.proofs.Laws.{requests}
use Rattle.wire_lives.proofs.Laws.{one-spelling}
use Rattle.plain_site.specs.Site.{Site}
use Rattle.plain_site.specs.Step.{site_machine}
use Rattle.plain_site.specs.Sound.{IsSound}
use Rattle.join_rules.specs.Joins.{is_join, lasting_of_join}
use Rattle.join_rules.specs.Laws.{behind_join}
use Rattle.join_rules.proofs.JoinLaws.{joins-add-what-lasts, what-lasts-of-joins-fits}
use Rattle.site_lives.specs.Lives.{is_of_lives}
use Rattle.site_lives.specs.Acquainted.{Acquainted, about_lives, with_news}
use Rattle.site_lives.specs.Things.{LastingThing, OfSite, all_at_rest, thing_of_event, all_spellings}
use Rattle.site_lives.specs.Bytes.{TakesBack}
use Rattle.site_lives.specs.RestLaws.{OwnCameFirst}
use Rattle.site_lives.proofs.Onward.{bytes-leave-at-rest, bytes-go-on, bytes-keep-order, additions-go-on, events-go-on}
use Rattle.twin_sites.proofs.Rests.{sites-of-one-core-rest-alike}
use Rattle.rest_site.specs.declared.oldest_codes.TheConstants.{OLDEST}
use Rattle.rest_site.specs.Oldest.{asks_oldest}
use Rattle.rest_site.specs.Stands.{HeldSite, AcquaintedStands, opened_alone}
use Rattle.rest_site.specs.LoadedAlike.{under-same, loading-alike}
use Rattle.rest_site.specs.Ruled.{ruled_machine, ruled_thing, ruled_bytes}

-- ===== No request is two of these

-- one about lives isn't one to join leaves
pub lives_dont_join : (bytes : List ℕ) → IsTrue (is_of_lives bytes) → IsFalse (is_join bytes)
lives_dont_join [] t = refl
lives_dont_join (code ∷ fields) t = elim (or_cases (code == 72) (code == 73) t) [
  | inl meet ↦ subst (λ (c : ℕ). (c == 74) ≡ false) (sym (eqb-true code 72 meet)) refl
  | inr begin ↦ subst (λ (c : ℕ). (c == 74) ≡ false) (sym (eqb-true code 73 begin)) refl
]

-- nor that for the oldest promise
pub lives_tell_no_ceiling : (bytes : List ℕ) → IsTrue (is_of_lives bytes) → IsFalse (asks_oldest bytes)
lives_tell_no_ceiling bytes t = false_from_ne_true (asks_oldest bytes) (λ asks.
    let is : bytes ≡ OLDEST ∷ [] = (bytes_eq-Decides bytes (OLDEST ∷ [])).0 asks in
    both_ways (is_of_lives bytes) (subst (λ (b : List ℕ). is_of_lives b ≡ false) (sym is) refl) t)

-- ===== What lasts goes on

-- a site at rest takes back nothing
nothing : (a : Acquainted) → all_at_rest a ≡ a → TakesBack a [] a
nothing a rests = record { things = []; are = refl; spelled = refl; rests = rests; fit = refl; replayed = refl }

pub an_opening_rests : (held : HeldSite) → TakesBack (opened_alone held) [] (opened_alone held)
an_opening_rests held = nothing (opened_alone held) refl

pub what_was_taken_rests : (a : Acquainted) (bytes : List ℕ) (b : Acquainted) → TakesBack a bytes b → TakesBack b [] b × (all_at_rest b ≡ b)
what_was_taken_rests a bytes b took = let still = bytes-leave-at-rest a b bytes took in (nothing b still, still)

pub more_is_taken : (a : Acquainted) (bytes : List ℕ) (b : Acquainted) (more : List ℕ) (c : Acquainted) → TakesBack a bytes b → TakesBack b more c →
    TakesBack a (bytes ++ more) c
more_is_taken a bytes b more c took later = bytes-go-on a b c bytes more took later

module _ (a : Acquainted) (e : Event) where
  -- the site at rest takes this back, if it is there, and becomes the next one at rest
  abbrev GoesOn : Option LastingThing → Acquainted → Type 0
  GoesOn o next = TakesBack (all_at_rest a) (all_spellings (option_to_list o)) (all_at_rest next)

  abbrev moved : Site → Acquainted
  moved site = record a { site = site }

  abbrev joined : Option LastingThing
  joined = option_map OfSite (lasting_of_join a.site e.1)

  abbrev met : Acquainted
  met = with_news (about_lives a e.1).1 a

  -- whatever the request is about
  each_goes_on : (lives oldest joins : Bool) → (IsTrue lives → IsFalse oldest) → (IsTrue lives → IsFalse joins) → GoesOn None a →
      GoesOn joined (moved (behind_join a.site e.1)) → GoesOn (thing_of_event a e) (if lives then met else moved (site_machine.step a.site e)) →
      GoesOn (if oldest then None else if joins then joined else thing_of_event a e)
      (if lives then met else moved (if oldest then a.site else if joins then behind_join a.site e.1 else site_machine.step a.site e))
  each_goes_on true true joins no_ceiling no_join none join other = absurd (both_ways true (no_ceiling refl) refl)
  each_goes_on true false true no_ceiling no_join none join other = absurd (both_ways true (no_join refl) refl)
  each_goes_on true false false no_ceiling no_join none join other = other
  each_goes_on false true joins no_ceiling no_join none join other = none
  each_goes_on false false true no_ceiling no_join none join other = join
  each_goes_on false false false no_ceiling no_join none join other = other

  what_lasts_is_taken : IsTrue (is_u16 e.0) → IsSound a.site → OwnCameFirst a → GoesOn (ruled_thing a e) (ruled_machine.step a e)
  what_lasts_is_taken small sound ordered =
      each_goes_on (is_of_lives e.1) (asks_oldest e.1) (is_join e.1) (lives_tell_no_ceiling e.1) (lives_dont_join e.1) (nothing (all_at_rest a) refl)
      (additions-go-on a (behind_join a.site e.1) (lasting_of_join a.site e.1) (what-lasts-of-joins-fits a.site e.1) (joins-add-what-lasts a.site e.1))
      (events-go-on requests one-spelling a e small sound ordered)

-- nothing was known of lives when it opened: so behind what it took back the own life came first
pub events_last : (held : HeldSite) (bytes : List ℕ) (a : Acquainted) (e : Event) → AcquaintedStands held a → e.0 < 65536 →
    TakesBack (opened_alone held) bytes (all_at_rest a) → TakesBack (all_at_rest a) (ruled_bytes a e) (all_at_rest (ruled_machine.step a e))
events_last held bytes a e stands small took =
    what_lasts_is_taken a e (lt-ltb e.0 65536 small) stands.0.1 (bytes-keep-order (opened_alone held) (all_at_rest a) bytes (λ none. refl) took)

-- ===== Alike at rest

pub machines_rest_alike : (m n : HeldSite) (a b : Acquainted) → AcquaintedStands m a → AcquaintedStands m b → AcquaintedStands n (all_at_rest b) →
    AcquaintedStands n (all_at_rest a)
machines_rest_alike m n a b one other rests =
    let same = sym other.0.0.limits ∙ one.0.0.limits in (
      sites-of-one-core-rest-alike m.core n.core a.site b.site one.0 other.0 rests.0,
      rests.1 ∙ (sym other.1 ∙ one.1),
      loading-alike a.site.limits m.loading n.loading a.told b.told one.2 (under-same b.site.limits a.site.limits m.loading b.told same other.2)
          (under-same b.site.limits a.site.limits n.loading b.told same rests.2),
    )
