-- Trails are replayed by what lasts of them.
use Rattle.std.proofs.Common.{◌≡◌, ℕ, false, List, [], ◌∷◌, ◌++◌, Option, Some, None, IsTrue, IsFalse, inl, inr, refl, sym, ap, subst, ◌∙◌, bytes_eq}
use Rattle.std.specs.Prelude.{option_to_list}
use Rattle.std.specs.Option.{option_and_then}
use Rattle.std.proofs.lemmas.Bool.{cond-true, cond-false, false_from_ne_true}
use Rattle.std.proofs.lemmas.Slice.Eq.{bytes_eq-Decides}
use Rattle.tardis_base.specs.declared.requests.Request.{Request}
use Rattle.tardis_base.specs.declared.replies.Refusal.TheVariants.{Malformed}
use Rattle.tardis_base.specs.Plain.{Event, Answers, no_memory}
use Rattle.wire_talk.specs.RequestReadings.{request_of}
use Rattle.plain_site.specs.Site.{Site, opening}
use Rattle.plain_site.specs.Answers.{refused, given}
use Rattle.plain_site.specs.Step.{step, site_machine}
use Rattle.plain_site.specs.Rest.{at_rest, Lasting, lasting_of, lasting_of_event, with_lasting, replay}
use Rattle.plain_site.proofs.RepliesMemory.{never-wants-memory}
use Rattle.rest_laws.specs.Trails.{after, all_lasting, TrailsAreReplayed, OpeningsAreReplayed, lasting_of_answers, AnswersAreReplayed, LedTo}
use Rattle.rest_laws.specs.Trails.{KeptFrontsAreOfFronts}
use Rattle.rest_laws.proofs.Adds.{requests-add-what-lasts}

pub replay-appended : (first more : List Lasting) (site : Site) → replay (first ++ more) site ≡ replay more (replay first site)
replay-appended [] more site = refl
replay-appended (l ∷ first) more site = replay-appended first more (with_lasting l site)

-- one more request in front
one-more : (o : Option Lasting) (later : List Lasting) (rest next last : Site) → replay (option_to_list o) rest ≡ next → replay later next ≡ last →
    replay (option_to_list o ++ later) rest ≡ last
one-more o later rest next last e more = replay-appended (option_to_list o) later rest ∙ (ap (replay later) e ∙ more)

pub trails-are-replayed : TrailsAreReplayed step
trails-are-replayed site [] = refl
trails-are-replayed site (e ∷ later) =
    let answer = step site e.0 e.1 in
    one-more (lasting_of e.1 answer) (all_lasting step answer.0 later) (at_rest site) (at_rest answer.0) (at_rest (after step answer.0 later))
    (requests-add-what-lasts site e.0 e.1) (trails-are-replayed answer.0 later)

pub openings-are-replayed : OpeningsAreReplayed step
openings-are-replayed limits own asked = trails-are-replayed (opening limits own) asked

-- ===== Events

pub event-adds : (site : Site) (event : Event) → replay (option_to_list (lasting_of_event site event)) (at_rest site) ≡ at_rest (site_machine.step site event)
event-adds site (n, bytes) = go (request_of bytes)
  where
    go : (o : Option Request) → replay (option_to_list (option_and_then (λ (q : Request). lasting_of q (step site n q)) o)) (at_rest site)
        ≡ at_rest (given o (refused site Malformed) (step site n)).0
    go None = refl
    go (Some q) = requests-add-what-lasts site n q

-- what lasts where memory was wanting, and where it wasn't
pub undone-lasts : (site : Site) (event : Event) (events : List Event) (reply : List ℕ) (replies : List (List ℕ)) → reply ≡ no_memory →
    lasting_of_answers site (event ∷ events) (reply ∷ replies) ≡ lasting_of_answers site events replies
undone-lasts site event events reply replies e =
    cond-true (bytes_eq reply no_memory) (lasting_of_answers site events replies)
    (option_to_list (lasting_of_event site event) ++ lasting_of_answers (site_machine.step site event) events replies)
    (subst (λ bytes. IsTrue (bytes_eq bytes no_memory)) (sym e) refl)

pub done-lasts : (site : Site) (event : Event) (events : List Event) (reply : List ℕ) (replies : List (List ℕ)) → reply ≡ site_machine.reply site event →
    lasting_of_answers site (event ∷ events) (reply ∷ replies)
    ≡ option_to_list (lasting_of_event site event) ++ lasting_of_answers (site_machine.step site event) events replies
done-lasts site event events reply replies e =
    let other : IsFalse (bytes_eq reply no_memory) = false_from_ne_true (bytes_eq reply no_memory) (λ t.
    never-wants-memory.spelled site event (sym e ∙ (bytes_eq-Decides reply no_memory).0 t)) in
    cond-false (bytes_eq reply no_memory) (lasting_of_answers site events replies)
    (option_to_list (lasting_of_event site event) ++ lasting_of_answers (site_machine.step site event) events replies) other

pub answers-are-replayed : AnswersAreReplayed lasting_of_answers
answers-are-replayed site last [] [] h = ap at_rest (sym h)
answers-are-replayed site last [] (reply ∷ replies) h = absurd (h)
answers-are-replayed site last (event ∷ events) [] h = absurd (h)
answers-are-replayed site last (event ∷ events) (reply ∷ replies) (inl (e, more)) =
    let next = site_machine.step site event in
    ap (λ ls. replay ls (at_rest site)) (done-lasts site event events reply replies e)
    ∙ one-more (lasting_of_event site event) (lasting_of_answers next events replies) (at_rest site) (at_rest next) (at_rest last) (event-adds site event)
    (answers-are-replayed next last events replies more)
answers-are-replayed site last (event ∷ events) (reply ∷ replies) (inr (e, sure, more)) =
    ap (λ ls. replay ls (at_rest site)) (undone-lasts site event events reply replies e) ∙ answers-are-replayed site last events replies more

-- ===== Fronts

-- nothing was done
nothing-done : (site : Site) (events : List Event) (replies : List (List ℕ)) → LedTo site events replies (at_rest site)
nothing-done site events replies = record {
  done = [];
  undone = events;
  done_replies = [];
  undone_replies = replies;
  state = site;
  events_are = refl;
  replies_are = refl;
  answered = refl;
  rests = refl;
}

-- one more event, that was answered or for which memory was wanting
one-done : (site : Site) (event : Event) (events : List Event) (reply : List ℕ) (replies : List (List ℕ)) (rest : Site) →
    reply ≡ site_machine.reply site event → LedTo (site_machine.step site event) events replies rest →
    LedTo site (event ∷ events) (reply ∷ replies) rest
one-done site event events reply replies rest e led = record {
  done = event ∷ led.done;
  undone = led.undone;
  done_replies = reply ∷ led.done_replies;
  undone_replies = led.undone_replies;
  state = led.state;
  events_are = ap (λ es. event ∷ es) led.events_are;
  replies_are = ap (λ ys. reply ∷ ys) led.replies_are;
  answered = inl (e, led.answered);
  rests = led.rests;
}

one-wanting : (site : Site) (event : Event) (events : List Event) (reply : List ℕ) (replies : List (List ℕ)) (rest : Site) →
    reply ≡ no_memory → site_machine.is_sure event ≡ false → LedTo site events replies rest →
    LedTo site (event ∷ events) (reply ∷ replies) rest
one-wanting site event events reply replies rest e sure led = record {
  done = event ∷ led.done;
  undone = led.undone;
  done_replies = reply ∷ led.done_replies;
  undone_replies = led.undone_replies;
  state = led.state;
  events_are = ap (λ es. event ∷ es) led.events_are;
  replies_are = ap (λ ys. reply ∷ ys) led.replies_are;
  answered = inr (e, sure, led.answered);
  rests = led.rests;
}

pub same-heads : (l k : Lasting) (ls ks : List Lasting) → l ∷ ls ≡ k ∷ ks → (l ≡ k) × (ls ≡ ks)
same-heads l k ls ks e = (first, rest)
  where
    first : l ≡ k
    first = cc

    rest : ls ≡ ks
    rest = cc

kept-front : (site last : Site) (events : List Event) (replies : List (List ℕ)) (kept lost : List Lasting) → Answers site_machine site events replies last →
    lasting_of_answers site events replies ≡ kept ++ lost → LedTo site events replies (replay kept (at_rest site))
kept-front site last events replies [] lost h e = nothing-done site events replies
kept-front site last [] replies (k ∷ kept) lost h e = absurd (cc)
kept-front site last (event ∷ events) [] (k ∷ kept) lost h e = absurd (h)
kept-front site last (event ∷ events) (reply ∷ replies) (k ∷ kept) lost (inr (is, sure, more)) e =
    one-wanting site event events reply replies (replay (k ∷ kept) (at_rest site)) is sure
    (kept-front site last events replies (k ∷ kept) lost more (sym (undone-lasts site event events reply replies is) ∙ e))
kept-front site last (event ∷ events) (reply ∷ replies) (k ∷ kept) lost (inl (is, more)) e =
    one-done site event events reply replies (replay (k ∷ kept) (at_rest site)) is
    (go (lasting_of_event site event) (event-adds site event) (sym (done-lasts site event events reply replies is) ∙ e)
    (λ d. kept-front (site_machine.step site event) last events replies (k ∷ kept) lost more d)
    (λ d. kept-front (site_machine.step site event) last events replies kept lost more d))
  where
    next : Site
    next = site_machine.step site event

    go : (o : Option Lasting) → replay (option_to_list o) (at_rest site) ≡ at_rest next →
        option_to_list o ++ lasting_of_answers next events replies ≡ k ∷ kept ++ lost →
        (lasting_of_answers next events replies ≡ k ∷ kept ++ lost → LedTo next events replies (replay (k ∷ kept) (at_rest next))) →
        (lasting_of_answers next events replies ≡ kept ++ lost → LedTo next events replies (replay kept (at_rest next))) →
        LedTo next events replies (replay (k ∷ kept) (at_rest site))
    go None adds d all fewer =
        subst (λ s. LedTo next events replies (replay (k ∷ kept) s)) (sym adds) (all d)
    go (Some l) adds d all fewer =
        let same = same-heads l k (lasting_of_answers next events replies) (kept ++ lost) d in
        let led = fewer same.1 in
        subst (λ s. LedTo next events replies (replay kept s)) (sym adds ∙ ap (λ m. with_lasting m (at_rest site)) same.0) led

pub kept-fronts-are-of-fronts : KeptFrontsAreOfFronts lasting_of_answers
kept-fronts-are-of-fronts site between last older newer older_replies newer_replies kept lost before behind e =
    let all = lasting_of_answers site older older_replies in
    let old = answers-are-replayed site between older older_replies before in
    let same : replay kept (at_rest between) ≡ replay (all ++ kept) (at_rest site) = ap (replay kept) (sym old) ∙ sym (replay-appended all kept (at_rest site)) in
    subst (LedTo between newer newer_replies) same (kept-front between last newer newer_replies kept lost behind e)
