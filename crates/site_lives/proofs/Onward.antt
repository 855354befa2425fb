-- What is taken back leaves a site at rest, and more may be taken back behind it; so may what lasts of one more event.
use Rattle.std.proofs.Common.{◌≡◌, ℕ, ◌-◌, ◌==◌, List, [], ◌∷◌, ◌++◌, Option, Some, None, IsTrue, IsFalse, inl, inr, refl, sym, ap, subst, ◌∙◌, append_assoc, if◌then◌else◌}
use Rattle.std.specs.Prelude.{true, ◌&&◌, get_or, set, option_to_list, option_map, is_none, is_some}
use Rattle.std.specs.List.{list_all}
use Rattle.std.proofs.lemmas.Bool.{both_ways, cases_Bool, cond-false, and_parts, and_from, eqb-true, eqb-false}
use Rattle.std.proofs.lemmas.Option.{none-some, same_Some}
use Rattle.std.proofs.lemmas.List.{get_or-set_same, get_or-set_other}
use Rattle.std.proofs.lemmas.List.Folds.{list_all-append}
use Rattle.tardis_base.specs.Valid.{is_within}
use Rattle.tardis_base.specs.declared.records.Item.TheVariants.{State, Promise}
use Rattle.wire_talk.specs.Laws.{RequestsHaveOneSpelling}
use Rattle.wire_lives.specs.Laws.{IntroductionsHaveOneSpelling}
use Rattle.plain_site.specs.Site.{Site}
use Rattle.plain_site.specs.Rest.{Lasting, News, Collection, at_rest, replay, fits}
use Rattle.plain_site.specs.RestSpellings.{is_lasting}
use Rattle.site_lives.specs.declared.lives.NewLife.{NewLife}
use Rattle.site_lives.specs.Lives.{Life, Lives, life_of, with_life, fits_life}
use Rattle.site_lives.specs.Acquainted.{Acquainted, acquainted_machine}
use Rattle.site_lives.specs.Things.{LastingThing, OfSite, OfLives, OfRow, OfCheckpoint, OfEnd, all_at_rest, thing_of_event, with_thing, fits_thing, replay_things, all_things_fit}
use Rattle.site_lives.specs.Things.{thing_spelling, is_thing, are_things, all_spellings}
use Rattle.site_lives.specs.Bytes.{TakesBack}
use Rattle.site_lives.specs.RestLaws.{OwnCameFirst, BytesLeaveAtRest, BytesGoOn, BytesKeepOrder, AdditionsGoOn, EventsGoOn}
use Rattle.site_lives.proofs.Stays.{is-within}
use Rattle.site_lives.proofs.Lasting.{replay-appended, thing-adds}
use Rattle.site_lives.proofs.Larger.{all-rest-still}
use Rattle.site_lives.proofs.Fitting.{IsOrdered, begun-ordered, thing-fits}

-- ===== At rest

things-leave-at-rest : (a : Acquainted) (ts : List LastingThing) → all_at_rest a ≡ a → all_at_rest (replay_things ts a) ≡ replay_things ts a
things-leave-at-rest a [] rests = rests
things-leave-at-rest a (t ∷ later) rests =
    let still : with_thing t a ≡ all_at_rest (with_thing t a) =
    subst (λ (b : Acquainted). with_thing t b ≡ all_at_rest (with_thing t b)) rests (all-rest-still a t) in
    things-leave-at-rest (with_thing t a) later (sym still)

pub bytes-leave-at-rest : BytesLeaveAtRest
bytes-leave-at-rest a behind bytes took =
    subst (λ (b : Acquainted). all_at_rest b ≡ b) (sym took.replayed) (things-leave-at-rest a took.things took.rests)

-- ===== One after another

all-fit-appended : (a : Acquainted) (first more : List LastingThing) → IsTrue (all_things_fit a first) →
    IsTrue (all_things_fit (replay_things first a) more) → IsTrue (all_things_fit a (first ++ more))
all-fit-appended a [] more here there = there
all-fit-appended a (t ∷ first) more here there =
    let next = with_thing t a in
    let parts = and_parts (fits_thing a t) (all_things_fit next first) here in
    and_from (fits_thing a t) (all_things_fit next (first ++ more)) parts.0 (all-fit-appended next first more parts.1 there)

spelled-appended : (first more : List LastingThing) → all_spellings first ++ all_spellings more ≡ all_spellings (first ++ more)
spelled-appended [] more = refl
spelled-appended (t ∷ first) more =
    append_assoc (thing_spelling t) (all_spellings first) (all_spellings more)
    ∙ ap (λ (bytes : List ℕ). thing_spelling t ++ bytes) (spelled-appended first more)

pub bytes-go-on : BytesGoOn
bytes-go-on a between behind bytes more took after = record {
  things = took.things ++ after.things;
  are = list_all-append is_thing took.things after.things ∙ and_from (are_things took.things) (are_things after.things) took.are after.are;
  spelled =
      ap (λ (bs : List ℕ). bs ++ more) took.spelled
      ∙ (ap (λ (bs : List ℕ). all_spellings took.things ++ bs) after.spelled ∙ spelled-appended took.things after.things);
  rests = took.rests;
  fit =
      all-fit-appended a took.things after.things took.fit
      (subst (λ (b : Acquainted). IsTrue (all_things_fit b after.things)) took.replayed after.fit);
  replayed =
      after.replayed ∙ (ap (replay_things after.things) took.replayed ∙ sym (replay-appended took.things after.things a));
}

-- ===== The own life comes first

known-stays : (lives : Lives) (at number : ℕ) (put life : Life) → life_of lives number ≡ Some life →
    IsFalse (is_none (life_of (with_life at put lives) number))
known-stays lives at number put life known =
    elim (cases_Bool (at - 1 == number - 1)) [
      | inl t ↦
          subst (λ (i : ℕ). IsFalse (is_none (get_or (set lives i (Some put)) (number - 1) None))) (sym (eqb-true (at - 1) (number - 1) t))
          (ap is_none (get_or-set_same lives (number - 1) (Some put) None (is-within lives number life known)))
      | inr f ↦
          ap is_none
          (get_or-set_other lives (at - 1) (number - 1) (Some put) None (λ e. eqb-false (at - 1) (number - 1) f (sym e)) ∙ known)
    ]

-- behind the own one, and each other one that is known with it
life-keeps-order : (own sites : ℕ) (lives : Lives) (new : NewLife) → IsTrue (fits_life own sites lives new) → IsOrdered own lives →
    IsOrdered own (with_life new.number new.life lives)
life-keeps-order own sites lives new fit ordered =
    elim (cases_Bool (new.number == own)) [
      | inl t ↦
          subst (λ (n : ℕ). IsOrdered own (with_life n new.life lives)) (sym (eqb-true new.number own t)) (begun-ordered own lives new.life ordered)
      | inr f ↦
          let first = is_within 1 sites new.number && is_none (life_of lives new.number) in
          let rest = if new.number == own then list_all is_none lives else is_some (life_of lives own) in
          let known = sym (cond-false (new.number == own) (list_all is_none lives) (is_some (life_of lives own)) f) ∙ (and_parts first rest fit).1 in
          go (life_of lives own) refl known
    ]
  where
    go : (o : Option Life) → life_of lives own ≡ o → IsTrue (is_some o) → IsOrdered own (with_life new.number new.life lives)
    go None is t none = absurd (both_ways (is_some {T = Life} None) refl t)
    go (Some life) is t none =
        absurd (both_ways (is_none (life_of (with_life new.number new.life lives) own)) (known-stays lives new.number own new.life life is) none)

thing-keeps-order : (a : Acquainted) (t : LastingThing) → IsTrue (fits_thing a t) → OwnCameFirst a → OwnCameFirst (with_thing t a)
thing-keeps-order a (OfSite (News (State r))) fit ordered = ordered
thing-keeps-order a (OfSite (News (Promise c))) fit ordered = ordered
thing-keeps-order a (OfSite (Collection count)) fit ordered = ordered
thing-keeps-order a (OfLives new) fit ordered = life-keeps-order a.site.own a.site.limits.sites a.lives new fit ordered
thing-keeps-order a (OfRow n count) fit ordered = ordered
thing-keeps-order a (OfCheckpoint p) fit ordered = ordered
thing-keeps-order a (OfEnd floors) fit ordered = ordered

things-keep-order : (a : Acquainted) (ts : List LastingThing) → IsTrue (all_things_fit a ts) → OwnCameFirst a → OwnCameFirst (replay_things ts a)
things-keep-order a [] fit ordered = ordered
things-keep-order a (t ∷ later) fit ordered =
    let next = with_thing t a in
    let parts = and_parts (fits_thing a t) (all_things_fit next later) fit in
    things-keep-order next later parts.1 (thing-keeps-order a t parts.0 ordered)

pub bytes-keep-order : BytesKeepOrder
bytes-keep-order a behind bytes ordered took =
    subst (λ (b : Acquainted). OwnCameFirst b) (sym took.replayed) (things-keep-order a took.things took.fit ordered)

-- ===== One more event

-- a thing that fits, if there is one, is taken back
one-taken : (a next : Acquainted) (o : Option LastingThing) →
    ((t : LastingThing) → o ≡ Some t → IsTrue (is_thing t) × IsTrue (fits_thing (all_at_rest a) t)) →
    replay_things (option_to_list o) (all_at_rest a) ≡ all_at_rest next → TakesBack (all_at_rest a) (all_spellings (option_to_list o)) (all_at_rest next)
one-taken a next o each adds = record {
  things = option_to_list o;
  are = (both o each).0;
  spelled = refl;
  rests = refl;
  fit = (both o each).1;
  replayed = sym adds;
}
  where
    both : (o : Option LastingThing) → ((t : LastingThing) → o ≡ Some t → IsTrue (is_thing t) × IsTrue (fits_thing (all_at_rest a) t)) →
        IsTrue (are_things (option_to_list o)) × IsTrue (all_things_fit (all_at_rest a) (option_to_list o))
    both None each = (refl, refl)
    both (Some t) each =
        let fit = each t refl in
        (and_from (is_thing t) true fit.0 refl, and_from (fits_thing (all_at_rest a) t) true fit.1 refl)

pub additions-go-on : AdditionsGoOn
additions-go-on a next o each adds =
    one-taken a (record a { site = next }) (option_map OfSite o) (thing o each)
    (added o adds)
  where
    thing : (o : Option Lasting) → ((l : Lasting) → o ≡ Some l → IsTrue (is_lasting l) × IsTrue (fits (at_rest a.site) l)) →
        (t : LastingThing) → option_map OfSite o ≡ Some t → IsTrue (is_thing t) × IsTrue (fits_thing (all_at_rest a) t)
    thing None each t e = absurd (none-some t e)
    thing (Some l) each t e =
        subst (λ (k : LastingThing). IsTrue (is_thing k) × IsTrue (fits_thing (all_at_rest a) k)) (same_Some (OfSite l) t e) (each l refl)

    added : (o : Option Lasting) → replay (option_to_list o) (at_rest a.site) ≡ at_rest next →
        replay_things (option_to_list (option_map OfSite o)) (all_at_rest a) ≡ all_at_rest (record a { site = next })
    added None adds = ap (λ (s : Site). record a { site = s }) adds
    added (Some l) adds = ap (λ (s : Site). record a { site = s }) adds

pub events-go-on : RequestsHaveOneSpelling → IntroductionsHaveOneSpelling → EventsGoOn
events-go-on read one a e small sound ordered =
    one-taken a (acquainted_machine.step a e) (thing_of_event a e) (λ t is. thing-fits read one a e t small sound ordered is) (thing-adds a e)
