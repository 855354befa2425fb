-- What lasts of a request is seen from the site before and behind it.
use Rattle.std.proofs.Common.{◌≡◌, ℕ, zero, suc, ◌+◌, ◌-◌, ◌<◌, ◌≤◌, not, List, [], ◌∷◌, ◌++◌, length, set, get_or, find, Option, Some, None, IsTrue, IsFalse}
use Rattle.std.proofs.Common.{refl, sym, ap, subst, ◌∙◌, arith, unwrap_or}
use Rattle.std.specs.Prelude.{◌==◌, ◌&&◌, ◌||◌, nat_lt, nat_le, option_to_list}
use Rattle.std.specs.Option.{option_or}
use Rattle.std.proofs.lemmas.Bool.{and_parts, not-false, cond-true, cond-false, cond_both, false_from_ne_true, ltb-true, ltb-false, lt-ltb, leb-true, leb-false}
use Rattle.std.proofs.lemmas.Option.{none-some, same_Some, unwrap_or-slice_get}
use Rattle.tardis_base.specs.declared.ids.StateId.{StateId}
use Rattle.tardis_base.specs.declared.records.Record.{Record}
use Rattle.tardis_base.specs.declared.records.Consent.{Consent}
use Rattle.tardis_base.specs.declared.records.Item.TheVariants.{State, Promise}
use Rattle.tardis_base.specs.declared.requests.EndFlags.{EndFlags}
use Rattle.tardis_base.specs.declared.requests.Request.{Request}
use Rattle.tardis_base.specs.declared.requests.Request.TheVariants.{Commit, Raise, RaiseAuto, Tidy, Deliver, Settle, Get}
use Rattle.tardis_base.specs.declared.replies.Refusal.TheVariants.{BadSite, OwnItem, FloorBack, Held, SeqEnd, Unknown}
use Rattle.tardis_base.specs.declared.replies.Reply.{Reply}
use Rattle.tardis_base.specs.declared.replies.Reply.TheVariants.{Applied, Known, Early, Committed, Refused}
use Rattle.tardis_base.specs.Valid.{is_u16, is_u32, is_id}
use Rattle.wire_item.specs.Valid.{is_consent}
use Rattle.wire_talk.specs.Valid.{is_request}
use Rattle.plain_dag.specs.States.{states, is_known, count_of_site}
use Rattle.plain_dag.proofs.Order.{above-reflexive}
use Rattle.plain_dag.proofs.Searches.{found-passes}
use Rattle.plain_dag.specs.Above.{is_above}
use Rattle.plain_dag.specs.Floors.{Floor, Session, opening_floor, floor_of, with_floor, consented, holding_session, automatic_floor, is_above_ceilings}
use Rattle.plain_dag.specs.Collection.{tidied}
use Rattle.plain_site.specs.Site.{Site, own_floor}
use Rattle.plain_site.specs.Answers.{Answer, when, refuse, refuse_found, unless}
use Rattle.plain_site.specs.FloorSteps.{raised, raise_to, raise, raise_auto, tidy}
use Rattle.plain_site.specs.Exchange.{consent_judgements, deliver_consent}
use Rattle.plain_site.specs.Step.{step}
use Rattle.plain_site.specs.Sound.{IsSound}
use Rattle.plain_site.specs.Rest.{at_rest, Lasting, News, Collection, newest, own_promise, what_lasts, collection, lasting_of, with_promise, with_lasting, replay}
use Rattle.plain_site.specs.Rest.{promise_of, promise_between, lasting_between}
use Rattle.plain_site.proofs.SoundAnswers.{AreNone, when-none, none-parts, none-appended}
use Rattle.plain_site.proofs.SoundBooks.{own-is_site}
use Rattle.rest_laws.specs.Laws.{WhatLastsIsSeen}
use Rattle.rest_laws.proofs.Adds.{AreQuiet, refuse-quiet, found-quiet, both-quiet, consent-quiet, tidied-again}
use Rattle.rest_laws.proofs.Adds.{requests-add-what-lasts}

-- ===== Sites that are the same

no-less : (n : ℕ) → IsFalse (nat_lt n n)
no-less n = false_from_ne_true (nat_lt n n) (λ t. omega (arith, ltb-true n n t))

none-between : (n : ℕ) (fs : List Floor) → promise_between n fs fs ≡ None
none-between n [] = refl
none-between n (f ∷ fs) =
    cond-false (nat_lt f.number f.number) (Some (promise_of n f)) (promise_between (n + 1) fs fs) (no-less f.number) ∙ none-between (n + 1) fs

nothing-collected : (m : ℕ) → collection (m - m) ≡ None
nothing-collected m = let none : m - m ≡ 0 = omega arith in ap collection none

pub nothing-between : (site : Site) → lasting_between site site ≡ None
nothing-between site =
    let n = length site.dag in
    cond-false (nat_lt n n) (newest site.dag)
    (option_or (promise_between 1 site.floors site.floors) (collection (length site.collected - length site.collected))) (no-less n)
    ∙ (ap (λ o. option_or o (collection (length site.collected - length site.collected))) (none-between 1 site.floors)
    ∙ nothing-collected (length site.collected))

-- ===== One thing more

promise-set : (n : ℕ) (fs : List Floor) (i : ℕ) (g : Floor) → i < length fs → (get_or fs i opening_floor).number < g.number →
    promise_between n fs (set fs i g) ≡ Some (promise_of (n + i) g)
promise-set n [] i g l more = absurd (omega (arith, l))
promise-set n (f ∷ fs) zero g l more =
    let here : n + 0 ≡ n = omega arith in
    cond-true (nat_lt f.number g.number) (Some (promise_of n g)) (promise_between (n + 1) fs fs) (lt-ltb f.number g.number more)
    ∙ ap (λ m. Some (promise_of m g)) (sym here)
promise-set n (f ∷ fs) (suc i) g l more =
    let there : n + 1 + i ≡ n + suc i = omega arith in
    cond-false (nat_lt f.number f.number) (Some (promise_of n f)) (promise_between (n + 1) fs (set fs i g)) (no-less f.number)
    ∙ (promise-set (n + 1) fs i g (omega (arith, l)) more ∙ ap (λ m. Some (promise_of m g)) there)

-- what is new to a site, so that it is seen behind it: any record; the promise of one of the sites, whose number is higher, of a state that the old floor is at or above; so
-- many states, all of which are there to be collected
abbrev pub IsNew : Site → Lasting → Type 0
IsNew site (News (State r)) = Unit {0}
IsNew site (News (Promise c)) =
    (1 ≤ c.site) × (c.site ≤ length site.floors) × ((floor_of site.floors c.site).number < c.number)
    × IsTrue (is_above site.dag (floor_of site.floors c.site).state c.floor)
IsNew site (Collection count) =
    (collection count ≡ Some (Collection count)) × (length (tidied count site.dag site.floors site.collected) - length site.collected ≡ count)

pub new-is-seen : (site : Site) (l : Lasting) → IsNew site l → lasting_between site (with_lasting l site) ≡ Some l
new-is-seen site (News (State r)) new =
    let n = length site.dag in
    cond-true (nat_lt n (suc n)) (Some (News (State r)))
    (option_or (promise_between 1 site.floors site.floors) (collection (length site.collected - length site.collected))) (lt-ltb n (suc n) (omega arith))
new-is-seen site (News (Promise c)) new =
    let n = length site.dag in
    let g = consented c in
    let rest = collection (length site.collected - length site.collected) in
    let behind = with_floor site.floors c.site g in
    let l : c.site - 1 < length site.floors = omega (arith, new.0, new.1) in
    let same : 1 + (c.site - 1) ≡ c.site = omega (arith, new.0) in
    let more : (get_or site.floors (c.site - 1) opening_floor).number < g.number =
    subst (λ (f : Floor). f.number < g.number) (unwrap_or-slice_get site.floors (c.site - 1) opening_floor) new.2 in
    cond-false (nat_lt n n) (newest site.dag) (option_or (promise_between 1 site.floors behind) rest) (no-less n)
    ∙ (ap (λ o. option_or o rest) (promise-set 1 site.floors (c.site - 1) g l more) ∙ ap (λ m. Some (promise_of m g)) same)
new-is-seen site (Collection count) new =
    let n = length site.dag in
    let all = tidied count site.dag site.floors site.collected in
    let many = length all - length site.collected in
    cond-false (nat_lt n n) (newest site.dag) (option_or (promise_between 1 site.floors site.floors) (collection many)) (no-less n)
    ∙ (ap (λ o. option_or o (collection many)) (none-between 1 site.floors) ∙ (ap collection new.1 ∙ new.0))

-- ===== What lasts is new

abbrev pub LastsNew : Site → Request → Answer → Type 0
LastsNew site q answer = (l : Lasting) → lasting_of q answer ≡ Some l → IsNew site l

quiet-new : (site : Site) (q : Request) (next : Site) (reply : Reply) → what_lasts q reply next ≡ None → LastsNew site q (next, reply)
quiet-new site q next reply quiet l e = absurd (none-some l (sym quiet ∙ e))

unless-new : (site : Site) (q : Request) (replies : List (Option Reply)) (answer : Answer) → AreQuiet q replies →
    (AreNone replies → LastsNew site q answer) → LastsNew site q (unless site replies answer)
unless-new site q [] answer quiet new = new refl
unless-new site q (None ∷ more) answer quiet new = unless-new site q more answer quiet new
unless-new site q (Some reply ∷ more) answer quiet new = quiet-new site q site reply (quiet.0 site)

-- the own promise of a state that the own floor is at or above is new
own-new : (site : Site) (x : StateId) → IsSound site → IsTrue (is_above site.dag (own_floor site).state x) →
    IsNew site (own_promise site x ((own_floor site).number + 1))
own-new site x sound down =
    let own = own-is_site site sound in
    let all = sound.one_floor_each in
    (own.0, omega (arith, own.1, all), omega arith, down)

raised-new : (site : Site) (q : Request) (x : StateId) → IsSound site → IsTrue (is_above site.dag (own_floor site).state x) →
    what_lasts q (raised site x).1 (raised site x).0 ≡ Some (own_promise site x ((own_floor site).number + 1)) → LastsNew site q (raised site x)
raised-new site q x sound down told l e =
    subst (IsNew site) (same_Some (own_promise site x ((own_floor site).number + 1)) l (sym told ∙ e)) (own-new site x sound down)

raise_to-new : (site : Site) (q : Request) (x : StateId) (refusals : List (Option Reply)) → AreQuiet q refusals →
    (AreNone refusals → LastsNew site q (raised site x)) → LastsNew site q (raise_to site x refusals)
raise_to-new site q x refusals quiet h =
    let over = (own_floor site).number == 4294967295 in
    unless-new site q (refusals ++ refuse over SeqEnd ∷ []) (raised site x)
    (both-quiet q refusals (refuse over SeqEnd ∷ []) quiet (refuse-quiet q over SeqEnd [] tt))
    (λ none. h (none-appended refusals (refuse over SeqEnd ∷ []) none).0)

raise-new : (site : Site) (x : StateId) → IsSound site → LastsNew site (Raise x) (raise site x)
raise-new site x sound =
    let q = Raise x in
    let floor = (own_floor site).state in
    let unknown = not (is_known site.dag x) in
    let above = is_above site.dag floor x in
    let holding = holding_session site.dag site.sessions x in
    let third : List (Option Reply) = refuse_found (λ (s : ℕ × Session). Held s.0 s.1.ceiling) holding ∷ [] in
    let second : List (Option Reply) = refuse (not above) (FloorBack floor) ∷ third in
    raise_to-new site q x (refuse unknown (Unknown x) ∷ second)
    (refuse-quiet q unknown (Unknown x) second
    (refuse-quiet q (not above) (FloorBack floor) third (found-quiet q (λ (s : ℕ × Session). Held s.0 s.1.ceiling) holding [] tt)))
    (λ none.
    let first = none-parts (refuse unknown (Unknown x)) second none in
    let back = none-parts (refuse (not above) (FloorBack floor)) third first.1 in
    raised-new site q x sound (not-false above (when-none (not above) (Refused (FloorBack floor)) back.0)) refl)

automatic-is-below : (site : Site) → IsTrue (is_above site.dag (own_floor site).state (automatic_floor site.dag (own_floor site).state site.sessions))
automatic-is-below site = go (find (λ x. is_above site.dag (own_floor site).state x && is_above_ceilings site.dag site.sessions x) (states site.dag)) refl
  where
    go : (o : Option StateId) → find (λ x. is_above site.dag (own_floor site).state x && is_above_ceilings site.dag site.sessions x) (states site.dag) ≡ o →
        IsTrue (is_above site.dag (own_floor site).state (unwrap_or o (own_floor site).state))
    go None e = above-reflexive site.dag (own_floor site).state
    go (Some x) e =
        let own = (own_floor site).state in
        let found = found-passes (λ y. is_above site.dag own y && is_above_ceilings site.dag site.sessions y) (states site.dag) x e in
        (and_parts (is_above site.dag own x) (is_above_ceilings site.dag site.sessions x) found.1).0

raise_auto-new : (site : Site) → IsSound site → LastsNew site RaiseAuto (raise_auto site)
raise_auto-new site sound =
    let x = automatic_floor site.dag (own_floor site).state site.sessions in
    raise_to-new site RaiseAuto x [] tt (λ none. raised-new site RaiseAuto x sound (automatic-is-below site) refl)

same-count : (m n : ℕ) → ◌≡◌ {A = Lasting} (Collection m) (Collection n) → m ≡ n
same-count m n e = cc

-- so many as were collected are there to be collected
tidy-new : (site : Site) (count : ℕ) → LastsNew site (Tidy count) (tidy site count)
tidy-new site count l e =
    let all = tidied count site.dag site.floors site.collected in
    let many = length all - length site.collected in
    let again : length (tidied many site.dag site.floors site.collected) - length site.collected ≡ many =
    ap (λ (ks : List StateId). length ks - length site.collected) (tidied-again site.dag site.floors count site.collected) in
    cond_both (many == 0) None (Some (Collection many)) (λ (o : Option Lasting). collection many ≡ o → o ≡ Some l → IsNew site l)
    (λ t same d. absurd (none-some l d))
    (λ f same d. subst (IsNew site) (same_Some (Collection many) l d) (same, again)) refl e

pub consent-site : (c : Consent) → IsTrue (is_consent c) → 1 ≤ c.site
consent-site c h =
    leb-true 1 c.site
    (and_parts (nat_le 1 c.site) (nat_le 1 c.number)
    (and_parts (is_u16 c.site && is_u32 c.number && is_id c.floor && is_u32 c.count) (nat_le 1 c.site && nat_le 1 c.number) h).1).0

consent-new : (site : Site) (c : Consent) → IsSound site → IsTrue (is_consent c) → LastsNew site (Deliver (Promise c)) (deliver_consent site c)
consent-new site c sound valid =
    let f = floor_of site.floors c.site in
    let count = count_of_site site.dag c.site in
    let ahead = nat_lt count c.count || not (is_known site.dag c.floor) in
    let above = is_above site.dag f.state c.floor in
    let fifth : List (Option Reply) = refuse (not above) (FloorBack f.state) ∷ [] in
    let fourth : List (Option Reply) = when ahead (Early count) ∷ fifth in
    let third : List (Option Reply) = refuse (c.site == site.own) (OwnItem c.site c.number) ∷ fourth in
    let second : List (Option Reply) = when (nat_le c.number f.number) Known ∷ third in
    unless-new site (Deliver (Promise c)) (consent_judgements site c) (with_promise c site, Applied) (consent-quiet site c)
    (λ none l e.
    let first = none-parts (refuse (nat_lt site.limits.sites c.site) (BadSite c.site)) second none in
    let more = none-parts (when (nat_le c.number f.number) Known) third first.1 in
    let other = none-parts (refuse (c.site == site.own) (OwnItem c.site c.number)) fourth more.1 in
    let early = none-parts (when ahead (Early count)) fifth other.1 in
    let back = none-parts (refuse (not above) (FloorBack f.state)) [] early.1 in
    let a_site = ltb-false site.limits.sites c.site (when-none (nat_lt site.limits.sites c.site) (Refused (BadSite c.site)) first.0) in
    let higher = leb-false c.number f.number (when-none (nat_le c.number f.number) Known more.0) in
    let all = sound.one_floor_each in
    let least = consent-site c valid in
    let down = not-false above (when-none (not above) (Refused (FloorBack f.state)) back.0) in
    subst (IsNew site) (same_Some (News (Promise c)) l e) (least, omega (arith, a_site, all), higher, down))

-- a record is always new
newest-new : (site : Site) (rs : List Record) (l : Lasting) → newest rs ≡ Some l → IsNew site l
newest-new site [] l e = absurd (none-some l e)
newest-new site (r ∷ rs) l e = subst (IsNew site) (same_Some (News (State r)) l e) tt

commit-new : (site : Site) (flags : EndFlags) (k : ℕ) (reply : Reply) (next : Site) →
    LastsNew site (Commit flags k) (next, reply)
commit-new site flags k (Committed x parents) next l e = newest-new site next.dag l e
commit-new site flags k reply next l e = absurd (none-some l e)

settle-new : (site : Site) (reply : Reply) (next : Site) → LastsNew site Settle (next, reply)
settle-new site Applied next l e = newest-new site next.dag l e
settle-new site reply next l e = absurd (none-some l e)

record-new : (site : Site) (r : Record) (reply : Reply) (next : Site) → LastsNew site (Deliver (State r)) (next, reply)
record-new site r Applied next l e = subst (IsNew site) (same_Some (News (State r)) l e) tt
record-new site r reply next l e = absurd (none-some l e)

pub lasts-new : (site : Site) (n : ℕ) (q : Request) → IsTrue (is_request q) → IsSound site → LastsNew site q (step site n q)
lasts-new site n (Commit flags k) valid sound = let answer = step site n (Commit flags k) in commit-new site flags k answer.1 answer.0
lasts-new site n (Raise x) valid sound = raise-new site x sound
lasts-new site n RaiseAuto valid sound = raise_auto-new site sound
lasts-new site n (Tidy count) valid sound = tidy-new site count
lasts-new site n (Deliver (State r)) valid sound = let answer = step site n (Deliver (State r)) in record-new site r answer.1 answer.0
lasts-new site n (Deliver (Promise c)) valid sound = consent-new site c sound valid
lasts-new site n Settle valid sound = let answer = step site n Settle in settle-new site answer.1 answer.0
lasts-new site n (Get k) valid sound = λ l e. absurd (none-some l e)
lasts-new site n q valid sound = λ l e. absurd (none-some l e)

-- ===== So it is seen

seen-by : (site next : Site) (o : Option Lasting) → replay (option_to_list o) (at_rest site) ≡ at_rest next → ((l : Lasting) → o ≡ Some l → IsNew site l) →
    o ≡ lasting_between site next
seen-by site next None adds new =
    sym (nothing-between (at_rest site)) ∙ ap (lasting_between (at_rest site)) adds
seen-by site next (Some l) adds new =
    let same : IsNew (at_rest site) l = rest-new site l (new l refl) in
    sym (new-is-seen (at_rest site) l same) ∙ ap (lasting_between (at_rest site)) adds
  where
    rest-new : (site : Site) (l : Lasting) → IsNew site l → IsNew (at_rest site) l
    rest-new site (News (State r)) h = h
    rest-new site (News (Promise c)) h = h
    rest-new site (Collection count) h = h

pub what-lasts-is-seen : WhatLastsIsSeen step
what-lasts-is-seen site n q valid sound =
    let answer = step site n q in
    seen-by site answer.0 (lasting_of q answer) (requests-add-what-lasts site n q) (lasts-new site n q valid sound)
