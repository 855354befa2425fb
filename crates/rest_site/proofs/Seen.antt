-- Each event leads to a site that follows, and what lasts of it is seen between the two.
use Rattle.std.proofs.Common.{◌≡◌, ℕ, if◌then◌else◌, List, [], Option, Some, None, IsTrue, IsFalse, refl, sym, ap, subst, ◌∙◌}
use Rattle.std.specs.Prelude.{option_to_list, option_map, OnOk, OnErr, Result, Ok, Err}
use Rattle.std.specs.Option.{option_and_then}
use Rattle.std.proofs.lemmas.Bool.{cond-true, cond-false}
use Rattle.std.proofs.lemmas.Option.{none-some}
use Rattle.tardis_base.specs.declared.faults.NoMemory.{NoMemory}
use Rattle.tardis_base.specs.declared.requests.Request.{Request}
use Rattle.tardis_base.specs.declared.replies.Refusal.TheVariants.{Malformed}
use Rattle.tardis_base.specs.Plain.{Event}
use Rattle.tardis_base.specs.Valid.{is_u16}
use Rattle.wire_talk.specs.Laws.{RequestsHaveOneSpelling}
use Rattle.wire_talk.specs.RequestReadings.{request_of}
use Rattle.plain_site.specs.Site.{Site}
use Rattle.plain_site.specs.Answers.{refused, given}
use Rattle.plain_site.specs.Step.{step, site_machine}
use Rattle.plain_site.specs.Sound.{IsSound}
use Rattle.plain_site.specs.Rest.{Lasting, at_rest, replay, lasting_of, lasting_of_event, lasting_between}
use Rattle.plain_site.specs.RestSpellings.{is_lasting, all_spelling}
use Rattle.site_lives.specs.Lives.{is_of_lives}
use Rattle.site_lives.specs.Acquainted.{Acquainted, about_lives}
use Rattle.site_lives.specs.Things.{LastingThing, OfSite, OfLives, thing_of_event, all_spellings}
use Rattle.join_rules.specs.Joins.{is_join, lasting_of_join}
use Rattle.join_rules.specs.Laws.{behind_join, WhatLastsOfJoinsIsSeen, JoinsAddWhatLasts, WhatLastsOfJoinsFits}
use Rattle.rest_laws.proofs.Adds.{requests-add-what-lasts}
use Rattle.rest_laws.proofs.Seen.{nothing-between, what-lasts-is-seen}
use Rattle.rest_laws.proofs.Valid.{what-lasts-is-spelled}
use Rattle.session_core.specs.Core.{Core}
use Rattle.session_core.specs.Stands.{StandsForSite}
use Rattle.session_core.specs.Machine.{SiteStands}
use Rattle.rest_site.specs.Notes.{Follows}
use Rattle.rest_site.specs.Oldest.{asks_oldest}
use Rattle.rest_site.specs.Ruled.{ruled_bytes}
use Rattle.rest_site.specs.RestingLaws.{lives_dont_join, lives_tell_no_ceiling}

-- the site follows by this, if by anything
pub record FollowsBy (before behind : Site) (o : Option Lasting) : Type 0 where
  pub follows : Follows before behind
  pub seen : o ≡ lasting_between before behind

follows-by : (before behind : Site) (o : Option Lasting) → IsSound before → o ≡ lasting_between before behind →
    replay (option_to_list o) (at_rest before) ≡ at_rest behind → ((l : Lasting) → o ≡ Some l → IsTrue (is_lasting l)) → FollowsBy before behind o
follows-by before behind o sound seen adds spelled = record {
  follows = record {
    sound = sound;
    adds = subst (λ (p : Option Lasting). replay (option_to_list p) (at_rest before) ≡ at_rest behind) seen adds;
    spelled = λ l e. spelled l (seen ∙ e);
  };
  seen = seen;
}

pub event-follows : RequestsHaveOneSpelling → (site : Site) (event : Event) → IsTrue (is_u16 event.0) → IsSound site →
    FollowsBy site (site_machine.step site event) (lasting_of_event site event)
event-follows read site (n, bytes) small sound = go (request_of bytes) refl
  where
    go : (o : Option Request) → request_of bytes ≡ o →
        FollowsBy site (given o (refused site Malformed) (step site n)).0 (option_and_then (λ (q : Request). lasting_of q (step site n q)) o)
    go None is = follows-by site site None sound (sym (nothing-between site)) refl (λ l e. absurd (none-some l e))
    go (Some q) is =
        let valid = ((read.some bytes q).0 is).0 in
        follows-by site (step site n q).0 (lasting_of q (step site n q)) sound (what-lasts-is-seen site n q valid sound)
        (requests-add-what-lasts site n q) (λ l e. what-lasts-is-spelled site n q l small valid sound e)

-- so does a request to join leaves
pub join-follows : WhatLastsOfJoinsIsSeen → JoinsAddWhatLasts → WhatLastsOfJoinsFits → (site : Site) (bytes : List ℕ) → IsSound site →
    FollowsBy site (behind_join site bytes) (lasting_of_join site bytes)
join-follows seen adds fits site bytes sound =
    follows-by site (behind_join site bytes) (lasting_of_join site bytes) sound (seen site bytes) (adds site bytes) (λ l e. (fits site bytes l e).0)

-- whether it was done or not, the site in memory stands for a sound one
pub stands-after : (old new : Core) (next : Site → Site) (result : Result (Unit {0}) NoMemory) → StandsForSite old →
    OnOk result ((s : Site) → SiteStands old s → SiteStands new (next s)) → OnErr result ((s : Site) → SiteStands old s → SiteStands new s) →
    StandsForSite new
stands-after old new next (Ok done) before step same =
    let now = step before.site (before.stands, before.sound) in
    record { site = next before.site; stands = now.0; sound = now.1 }
stands-after old new next (Err fault) before step same =
    let now = same before.site (before.stands, before.sound) in
    record { site = before.site; stands = now.0; sound = now.1 }

pub stands-behind : (old new : Core) (event : Event) (result : Result (Unit {0}) NoMemory) → StandsForSite old →
    OnOk result ((s : Site) → SiteStands old s → SiteStands new (site_machine.step s event)) → OnErr result ((s : Site) → SiteStands old s → SiteStands new s) →
    StandsForSite new
stands-behind old new event result = stands-after old new (λ s. site_machine.step s event) result

-- what is said where a call answers Ok, said another way
pub on-ok : {T E : Type 0} (r : Result T E) (P Q : Type 0) → OnOk r P → (P → Q) → OnOk r Q
on-ok (Ok t) P Q p f = f p
on-ok (Err e) P Q p f = p

-- what lasts of the site, as a thing
same-bytes : (o : Option Lasting) → all_spelling (option_to_list o) ≡ all_spellings (option_to_list (option_map OfSite o))
same-bytes None = refl
same-bytes (Some l) = refl

-- a thing, or none, in bytes
abbrev bytes_of : Option LastingThing → List ℕ
bytes_of o = all_spellings (option_to_list o)

module _ (a : Acquainted) (event : Event) where
  abbrev of-join : Option LastingThing
  of-join = option_map OfSite (lasting_of_join a.site event.1)

  abbrev of-others : Option LastingThing
  of-others = if is_join event.1 then of-join else thing_of_event a event

  -- nothing lasts of the request for the oldest promise
  pub oldest-bytes : IsTrue (asks_oldest event.1) → [] ≡ ruled_bytes a event
  oldest-bytes t = ap bytes_of (sym (cond-true (asks_oldest event.1) None of-others t))

  of-others-bytes : IsFalse (asks_oldest event.1) → bytes_of of-others ≡ ruled_bytes a event
  of-others-bytes o = ap bytes_of (sym (cond-false (asks_oldest event.1) None of-others o))

  -- what lasts of a request to join leaves
  pub join-bytes : IsFalse (asks_oldest event.1) → IsTrue (is_join event.1) →
      all_spelling (option_to_list (lasting_of_join a.site event.1)) ≡ ruled_bytes a event
  join-bytes o t =
      same-bytes (lasting_of_join a.site event.1)
      ∙ (ap bytes_of (sym (cond-true (is_join event.1) of-join (thing_of_event a event) t)) ∙ of-others-bytes o)

  -- of all others
  pub other-bytes : IsFalse (asks_oldest event.1) → IsFalse (is_join event.1) → bytes_of (thing_of_event a event) ≡ ruled_bytes a event
  other-bytes o f = ap bytes_of (sym (cond-false (is_join event.1) of-join (thing_of_event a event) f)) ∙ of-others-bytes o

  -- of one that is neither to join leaves nor about lives
  pub site-bytes : IsFalse (is_of_lives event.1) → IsFalse (asks_oldest event.1) → IsFalse (is_join event.1) →
      all_spelling (option_to_list (lasting_of_event a.site event)) ≡ ruled_bytes a event
  site-bytes f o g =
      same-bytes (lasting_of_event a.site event)
      ∙ (ap bytes_of
      (sym (cond-false (is_of_lives event.1) (option_map OfLives (about_lives a event.1).1) (option_map OfSite (lasting_of_event a.site event)) f))
      ∙ other-bytes o g)

  -- of one about lives
  pub lives-bytes : IsTrue (is_of_lives event.1) → bytes_of (option_map OfLives (about_lives a event.1).1) ≡ ruled_bytes a event
  lives-bytes t =
      ap bytes_of
      (sym (cond-true (is_of_lives event.1) (option_map OfLives (about_lives a event.1).1) (option_map OfSite (lasting_of_event a.site event)) t))
      ∙ other-bytes (lives_tell_no_ceiling event.1 t) (lives_dont_join event.1 t)
