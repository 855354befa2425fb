-- Wrong steps and wrong ways to start again break the laws.
use Rattle.std.proofs.Common.{◌≡◌, ℕ, true, false, List, [], ◌∷◌, ◌++◌, length, inl, inr, Option, Some, None, IsTrue, refl, sym, ap, ◌∙◌}
use Rattle.tardis_base.specs.declared.records.Item.TheVariants.{State}
use Rattle.std.specs.Prelude.{◌&&◌, codes}
use Rattle.std.specs.List.{list_all}
use Rattle.std.proofs.lemmas.Bool.{and_parts}
use Rattle.tardis_base.specs.declared.requests.Request.TheVariants.{Raise, RaiseAuto, Stat, Leaves, Deliver, Settle}
use Rattle.tardis_base.specs.declared.replies.Refusal.TheVariants.{NoTxn}
use Rattle.tardis_base.specs.declared.replies.Reply.TheVariants.{Opened, Begun, Done, Committed, Refused, States}
use Rattle.tardis_base.specs.Ids.{root}
use Rattle.tardis_base.specs.Plain.{Event, Answers, no_memory}
use Rattle.tardis_base.specs.Valid.{is_u16}
use Rattle.wire_talk.specs.Valid.{is_request}
use Rattle.plain_dag.specs.Floors.{Session}
use Rattle.plain_site.specs.Site.{Site, Single, own_floor}
use Rattle.plain_site.specs.Commits.{with_record}
use Rattle.plain_site.specs.Step.{step, site_machine}
use Rattle.plain_site.specs.Sound.{IsSound}
use Rattle.plain_site.specs.RowWords.{lone_site, program_limits, ◌·◌, ◌asks◌=>◌, opens, opens_following, begin_any, put, none, commit, value}
use Rattle.plain_site.specs.ClientRuns.{IsRun}
use Rattle.plain_site.specs.ClientLaws.{DoneCommit}
use Rattle.plain_site.specs.RowByteWords.{hex}
use Rattle.plain_site.specs.WrongSteps.{IsBrokenBy, first_site, of_second_site, forgets_collected, forgets_settled, written_again, collected}
use Rattle.plain_site.specs.Rest.{at_rest, Lasting, News, own_promise}
use Rattle.plain_site.proofs.SoundOpening.{opening-is-sound}
use Rattle.plain_site.proofs.SoundRequests.{request-keeps-sound}
use Rattle.rest_laws.specs.Laws.{RequestsAddWhatLasts, OthersAddNothing, NothingLastsOfOthers, WhatLastsIsSeen, RestIsSound, RestIsRest, SiteIsShownAsBefore}
use Rattle.rest_laws.specs.Laws.{StatIsAsBefore, ReadsAreAsBefore, without_sessions}
use Rattle.rest_laws.specs.SpellingLaws.{WhatLastsIsSpelled}
use Rattle.rest_laws.specs.Lives.{LivesAreOneRun, CommitsOutliveTheSite}
use Rattle.rest_laws.specs.FitLaws.{WhatLastsFits, KeptFits}
use Rattle.rest_laws.specs.Trails.{AnswersAreReplayed, IsKeptAsSeen, KeptFrontsAreOfFronts, Asked, after, TrailsAreReplayed, OpeningsAreReplayed}
use Rattle.rest_laws.specs.WrongSteps.{IsBrokenByKeeping, keeps_undone, keeps_twice, makes_up, raises_past_end, keeps_closed, tells_floors, raises_unseen, IsBrokenAt, keeps_txns, raises_at_rest, loses_newest, keeps_sessions}

-- the number of the own floor
abbrev number : Site → ℕ
number site = (own_floor site).number

-- such requests keep a sound site sound
asked-keep-sound : (site : Site) (asked : Asked) → IsTrue (list_all (λ e. is_u16 e.0 && is_request e.1) asked) → IsSound site → IsSound (after step site asked)
asked-keep-sound site [] valid sound = sound
asked-keep-sound site (e ∷ later) valid sound =
    let parts = and_parts (is_u16 e.0 && is_request e.1) (list_all (λ d. is_u16 d.0 && is_request d.1) later) valid in
    let both = and_parts (is_u16 e.0) (is_request e.1) parts.0 in
    asked-keep-sound (step site e.0 e.1).0 later parts.1 (request-keeps-sound e.1 site e.0 both.0 both.1 sound)

-- ===== Steps

pub told-floors-break : IsBrokenBy RequestsAddWhatLasts tells_floors
told-floors-break law = let same : ◌≡◌ {A = ℕ} 1 0 = ap number (law lone_site 0 (Raise root)) in absurd (cc)

pub told-floors-break-trails : IsBrokenBy TrailsAreReplayed tells_floors
told-floors-break-trails law = let same : ◌≡◌ {A = ℕ} 1 0 = ap number (law lone_site ((0, Raise root) ∷ [])) in absurd (cc)

pub told-floors-break-openings : IsBrokenBy OpeningsAreReplayed tells_floors
told-floors-break-openings law = let same : ◌≡◌ {A = ℕ} 1 0 = ap number (law (program_limits 1) 1 ((0, Raise root) ∷ [])) in absurd (cc)

pub unseen-floors-break : IsBrokenBy OthersAddNothing raises_unseen
unseen-floors-break law = let same : ◌≡◌ {A = ℕ} 1 0 = ap number (law lone_site 0 Stat refl) in absurd (cc)

pub unseen-floors-break-others : IsBrokenBy NothingLastsOfOthers raises_unseen
unseen-floors-break-others law = let same : ◌≡◌ {A = ℕ} 1 0 = ap number (law lone_site 0 Stat refl).1 in absurd (cc)

-- the only site is sound
lone-is-sound : IsSound lone_site
lone-is-sound = opening-is-sound (program_limits 1) 1 refl refl

some-isnt-none : {A : Type 0} (a : A) → None ≡ Some a → ⊥
some-isnt-none a e = absurd (cc)

pub unseen-floors-break-sight : IsBrokenBy WhatLastsIsSeen raises_unseen
unseen-floors-break-sight law = some-isnt-none (own_promise lone_site root 1) (law lone_site 0 Stat refl lone-is-sound)

-- the only site, whose floor has the last number
abbrev at_end : Site
at_end = record lone_site { floors = record { state = root; number = 4294967295; stated = 0 } ∷ [] }

end-is-sound : IsSound at_end
end-is-sound = record {
  limits = refl;
  own = refl;
  dag = lone-is-sound.dag;
  of_the_sites = refl;
  few_kept = lone-is-sound.few_kept;
  short_paths = lone-is-sound.short_paths;
  few_children = lone-is-sound.few_children;
  few_sessions = lone-is-sound.few_sessions;
  session_numbers = refl;
  each_session = refl;
  txn_numbers = refl;
  each_txn = lone-is-sound.each_txn;
  one_floor_each = refl;
  each_floor = refl;
  under_floor = refl;
  collected = record {
    known = λ x among. absurd (cc);
    closed = λ x among. absurd (cc);
    absorbed = λ x among. absurd (cc);
  };
  collected_once = refl;
  waiting = lone-is-sound.waiting;
}

pub past-end-breaks : IsBrokenBy WhatLastsIsSpelled raises_past_end
past-end-breaks law =
    let spelled : false ≡ true = law at_end 0 RaiseAuto (own_promise at_end root 4294967296) refl refl end-is-sound refl in
    absurd (cc)

-- where a record arrived and is told once more, it is known
pub settled-again-breaks : IsBrokenBy WhatLastsFits forgets_settled
settled-again-breaks law =
    let site = after step first_site ((0, Deliver (State of_second_site)) ∷ []) in
    let first = opening-is-sound (program_limits 2) 1 refl refl in
    let sound = asked-keep-sound first_site ((0, Deliver (State of_second_site)) ∷ []) refl first in
    let fit : false ≡ true = law site 0 Settle (News (State of_second_site)) refl refl sound refl in
    absurd (cc)

-- a session opens, and stays open through what is put to rest
opened-lines : IsRun keeps_closed lone_site (1 asks opens => Opened root ∷ [])
opened-lines = record { limits = refl; own = refl; opens = refl; answered = (refl, inl refl, tt) }

pub kept-closed-breaks : IsBrokenBy LivesAreOneRun keeps_closed
kept-closed-breaks law =
    let same : ◌≡◌ {A = ℕ} 1 0 = ap (λ (s : Site). length s.sessions) (law lone_site (1 asks opens => Opened root ∷ []) [] opened-lines tt).1 in
    absurd (cc)

-- 1.1 is committed, and 1.2 below it
twice-committed : IsRun forgets_collected lone_site (1 asks commit none => Committed (1 · 2) (1 · 1 ∷ []) ∷ written_again)
twice-committed = record {
  limits = refl;
  own = refl;
  opens = refl;
  answered = (refl, inl refl, (refl, inl refl, (refl, inl refl, (refl, inl refl, (refl, inl refl, (refl, inl refl, (refl, inl refl, tt)))))));
}

abbrev first_commit : DoneCommit
first_commit = record { actor = 1; flags = record { 0 = none }; k = 0; state = 1 · 1; parents = 0 · 0 ∷ [] }

-- in the next life 1.1 is collected, and so forgotten
pub forgotten-records-break : IsBrokenBy CommitsOutliveTheSite forgets_collected
forgotten-records-break law =
    let newer = 1 asks commit none => Committed (1 · 2) (1 · 1 ∷ []) ∷ 1 asks put "x" "2" => Done ∷ 1 asks begin_any => Begun (1 · 1) ∷ [] in
    let older = 1 asks put "x" "1" => Done ∷ 1 asks begin_any => Begun (0 · 0) ∷ 1 asks opens_following => Opened (0 · 0) ∷ [] in
    let kept = law lone_site newer older collected first_commit twice-committed (refl, inl refl, (refl, inl refl, tt)) in
    some-isnt-none (record { id = 1 · 1; parents = 0 · 0 ∷ []; writes = kept.0.writes }) kept.2

-- ===== Ways to keep what lasts

-- the record of another site is delivered
abbrev delivery : Event
delivery = (0, hex "14 01 0002 00000001 01 0000 00000000 00")

-- and it is applied
abbrev applied : Site
applied = with_record of_second_site first_site

pub undone-breaks : IsBrokenByKeeping AnswersAreReplayed keeps_undone
undone-breaks law =
    let same : ◌≡◌ {A = ℕ} 2 1 =
    ap (λ (s : Site). length s.dag) (law first_site first_site (delivery ∷ []) (no_memory ∷ []) (inr (refl, refl, refl))) in
    absurd (cc)

pub twice-breaks : IsBrokenByKeeping AnswersAreReplayed keeps_twice
twice-breaks law =
    let same : ◌≡◌ {A = ℕ} 3 2 =
    ap (λ (s : Site). length s.dag) (law first_site applied (delivery ∷ []) ((17 ∷ []) ∷ []) (inl (refl, refl))) in
    absurd (cc)

pub undone-breaks-sight : IsBrokenByKeeping IsKeptAsSeen keeps_undone
undone-breaks-sight law =
    let first = opening-is-sound (program_limits 2) 1 refl refl in
    let same : ◌≡◌ {A = List Lasting} (News (State of_second_site) ∷ []) [] = law.one first_site first_site delivery no_memory first (inr (refl, refl, refl)) in
    absurd (cc)

pub twice-breaks-fits : IsBrokenByKeeping KeptFits keeps_twice
twice-breaks-fits law =
    let first = opening-is-sound (program_limits 2) 1 refl refl in
    let twice = News (State of_second_site) ∷ News (State of_second_site) ∷ [] in
    let fit : false ≡ true = (law first_site applied (delivery ∷ []) ((17 ∷ []) ∷ []) twice [] refl first (inl (refl, refl)) refl).1 in
    absurd (cc)

-- nothing that was answered led to more records
nothing-led : (done : List Event) (undone : List Event) (replies : List (List ℕ)) (state : Site) → [] ≡ done ++ undone →
    Answers site_machine first_site done replies state → state ≡ first_site
nothing-led [] undone [] state e h = h
nothing-led [] undone (reply ∷ replies) state e h = absurd (h)
nothing-led (event ∷ done) undone replies state e h = absurd (cc)

pub made-up-breaks : IsBrokenByKeeping KeptFrontsAreOfFronts makes_up
made-up-breaks law =
    let led = law first_site first_site first_site [] [] [] [] (News (State of_second_site) ∷ []) [] refl refl refl in
    let none = ap at_rest (nothing-led led.done led.undone led.done_replies led.state led.events_are led.answered) in
    let same : ◌≡◌ {A = ℕ} 3 1 = ap (λ (s : Site). length s.dag) (sym led.rests ∙ none) in
    absurd (cc)

-- ===== Ways to start again

-- a session begins
abbrev begun : Asked
begun = (1, opens) ∷ (1, begin_any) ∷ []

-- and writes x, and commits
abbrev written : Asked
written = (1, opens) ∷ (1, begin_any) ∷ (1, put "x" "1") ∷ (1, commit none) ∷ []

no-session : (o : Option Session) → o ≡ None → (s : Session) → o ≡ Some s → ⊥
no-session o e s is = some-isnt-none s (sym e ∙ is)

pub kept-txns-break : IsBrokenAt RestIsSound keeps_txns
kept-txns-break law =
    let site = after step lone_site begun in
    let sound = law site (asked-keep-sound lone_site begun refl lone-is-sound) in
    let t = Single (record { state = root; reads = []; writes = [] }) in
    let found = sound.each_txn 1 t refl in
    no-session None refl found.0 found.1

pub raised-floors-break : IsBrokenAt RestIsRest raises_at_rest
raised-floors-break law = let same : ◌≡◌ {A = ℕ} 2 1 = ap number (law lone_site) in absurd (cc)

pub lost-records-break : IsBrokenAt (SiteIsShownAsBefore step) loses_newest
lost-records-break law = let same : States 0 [] ≡ States 1 (root ∷ []) = law lone_site 0 Leaves refl in absurd (cc)

pub kept-sessions-break : IsBrokenAt (StatIsAsBefore step) keeps_sessions
kept-sessions-break law = absurd (differs (law (after step lone_site begun) 0))
  where
    differs : (step (keeps_sessions (after step lone_site begun)) 0 Stat).1
        ≡ without_sessions (step (after step lone_site begun) 0 Stat).1 → ⊥
    differs e = absurd (cc)

pub lost-records-break-reads : IsBrokenAt (ReadsAreAsBefore step) loses_newest
lost-records-break-reads law =
    let site = after step lone_site written in
    let same : Refused NoTxn ≡ value (1 · 1) "1" =
    law site 2 (1 · 1) (codes "x") (asked-keep-sound lone_site written refl lone-is-sound) refl refl in
    absurd (cc)
