-- What lasts of a request to a sound site can be spelled, and is short.
use Rattle.std.proofs.Common.{◌≡◌, ℕ, zero, suc, ◌+◌, ◌-◌, ◌<◌, ◌≤◌, List, [], ◌∷◌, length, set, find, Option, Some, None, IsTrue}
use Rattle.std.proofs.Common.{sym, ap, subst, ◌∙◌, arith}
use Rattle.std.specs.Prelude.{◌==◌, ◌&&◌, ◌^◌, nat_le, option_to_list}
use Rattle.std.proofs.lemmas.Bool.{and_from, cond_both, le-leb, lt-ltb, ltb-true}
use Rattle.std.proofs.lemmas.List.{get_or-set_same}
use Rattle.std.proofs.lemmas.Option.{none-some, same_Some, unwrap_or-slice_get}
use Rattle.tardis_base.specs.declared.ids.StateId.{StateId}
use Rattle.tardis_base.specs.declared.records.Record.{Record}
use Rattle.tardis_base.specs.declared.records.Consent.{Consent}
use Rattle.tardis_base.specs.declared.records.Item.{Item}
use Rattle.tardis_base.specs.declared.records.Item.TheVariants.{State, Promise}
use Rattle.tardis_base.specs.declared.requests.EndFlags.{EndFlags}
use Rattle.tardis_base.specs.declared.requests.Request.{Request}
use Rattle.tardis_base.specs.declared.requests.Request.TheVariants.{Commit, Raise, RaiseAuto, Tidy, Deliver, Settle, Get}
use Rattle.tardis_base.specs.declared.replies.Reply.{Reply}
use Rattle.tardis_base.specs.declared.replies.Reply.TheVariants.{Committed, Raised, Applied}
use Rattle.tardis_base.specs.Valid.{is_u16, is_u32, is_id, is_record}
use Rattle.wire_item.specs.Valid.{is_consent}
use Rattle.wire_talk.specs.Valid.{is_request}
use Rattle.plain_dag.specs.States.{states}
use Rattle.plain_dag.specs.Dag.{IsDag}
use Rattle.plain_dag.specs.Floors.{Floor, opening_floor, floor_of, with_floor, consented}
use Rattle.plain_dag.specs.Collection.{is_collectable, tidied}
use Rattle.plain_site.specs.Site.{Site}
use Rattle.plain_site.specs.FloorSteps.{tidy}
use Rattle.plain_site.specs.Step.{step}
use Rattle.plain_site.specs.Sound.{IsSound}
use Rattle.plain_site.specs.Rest.{at_rest, Lasting, News, Collection, newest, own_promise, collection, what_lasts, lasting_of, with_lasting, replay}
use Rattle.plain_site.specs.RestSpellings.{is_lasting}
use Rattle.plain_site.proofs.RepliesSound.{sound-ranged, floor-ranged}
use Rattle.plain_site.proofs.SoundRequests.{request-keeps-sound}
use Rattle.wire_item.specs.Laws.{RecordsHaveTheirLength, RecordsAreBounded, ConsentsHaveSixteenBytes}
use Rattle.rest_laws.specs.SpellingLaws.{WhatLastsIsSpelled, LastingIsShort}
use Rattle.rest_laws.proofs.Adds.{requests-add-what-lasts}
use Rattle.rest_laws.proofs.Seen.{IsNew, lasts-new}

-- ===== Counts

-- no more states are collected than are asked for
tidied-few : (n : ℕ) (rs : List Record) (floors : List Floor) (ks : List StateId) → length (tidied n rs floors ks) ≤ length ks + n
tidied-few zero rs floors ks = omega arith
tidied-few (suc n) rs floors ks = go (find (is_collectable rs floors ks) (states rs)) (λ x. omega (arith, tidied-few n rs floors (x ∷ ks)))
  where
    go : (o : Option StateId) → ((x : StateId) → length (tidied n rs floors (x ∷ ks)) ≤ length ks + suc n) →
        length {A = StateId} (elim o [ None ↦ ks | Some x ↦ tidied n rs floors (x ∷ ks) ]) ≤ length ks + suc n
    go None more = omega arith
    go (Some x) more = more x

-- a count has 32 bits
abbrev HasCount : Lasting → Type 0
HasCount (News item) = Unit {0}
HasCount (Collection count) = count < 2 ^ 32

newest-counts : (rs : List Record) (l : Lasting) → newest rs ≡ Some l → HasCount l
newest-counts [] l e = absurd (none-some l e)
newest-counts (r ∷ rs) l e = subst HasCount (same_Some (News (State r)) l e) tt

commit-counts : (flags : EndFlags) (k : ℕ) (reply : Reply) (next : Site) (l : Lasting) → what_lasts (Commit flags k) reply next ≡ Some l → HasCount l
commit-counts flags k (Committed x parents) next l e = newest-counts next.dag l e
commit-counts flags k reply next l e = absurd (none-some l e)

item-counts : (item : Item) (reply : Reply) (next : Site) (l : Lasting) → what_lasts (Deliver item) reply next ≡ Some l → HasCount l
item-counts item Applied next l e = subst HasCount (same_Some (News item) l e) tt
item-counts item reply next l e = absurd (none-some l e)

settle-counts : (reply : Reply) (next : Site) (l : Lasting) → what_lasts Settle reply next ≡ Some l → HasCount l
settle-counts Applied next l e = newest-counts next.dag l e
settle-counts reply next l e = absurd (none-some l e)

raise-counts : (x : StateId) (reply : Reply) (next : Site) (l : Lasting) → what_lasts (Raise x) reply next ≡ Some l → HasCount l
raise-counts x (Raised floor number) next l e = subst HasCount (same_Some (own_promise next floor number) l e) tt
raise-counts x reply next l e = absurd (none-some l e)

raise-auto-counts : (reply : Reply) (next : Site) (l : Lasting) → what_lasts RaiseAuto reply next ≡ Some l → HasCount l
raise-auto-counts (Raised floor number) next l e = subst HasCount (same_Some (own_promise next floor number) l e) tt
raise-auto-counts reply next l e = absurd (none-some l e)

collected-counts : (count : ℕ) (l : Lasting) → count < 2 ^ 32 → collection count ≡ Some l → HasCount l
collected-counts count l few e =
    cond_both (count == 0) None (Some (Collection count)) (λ (o : Option Lasting). o ≡ Some l → HasCount l) (λ t d. absurd (none-some l d))
    (λ f d. subst HasCount (same_Some (Collection count) l d) few) e

tidy-counts : (site : Site) (n : ℕ) (l : Lasting) → IsTrue (is_u16 n) → lasting_of (Tidy n) (tidy site n) ≡ Some l → HasCount l
tidy-counts site n l h e =
    let many = length (tidied n site.dag site.floors site.collected) - length site.collected in
    let small = ltb-true n (2 ^ 16) h in
    let few : many < 2 ^ 32 = omega (arith, tidied-few n site.dag site.floors site.collected, small) in
    collected-counts many l few e

counts-fit : (site : Site) (n : ℕ) (q : Request) (l : Lasting) → IsTrue (is_request q) → lasting_of q (step site n q) ≡ Some l → HasCount l
counts-fit site n (Commit flags k) l h e = let a = step site n (Commit flags k) in commit-counts flags k a.1 a.0 l e
counts-fit site n (Deliver item) l h e = let a = step site n (Deliver item) in item-counts item a.1 a.0 l e
counts-fit site n Settle l h e = let a = step site n Settle in settle-counts a.1 a.0 l e
counts-fit site n (Raise x) l h e = let a = step site n (Raise x) in raise-counts x a.1 a.0 l e
counts-fit site n RaiseAuto l h e = let a = step site n RaiseAuto in raise-auto-counts a.1 a.0 l e
counts-fit site n (Tidy count) l h e = tidy-counts site count l h e
counts-fit site n (Get k) l h e = absurd (none-some l e)
counts-fit site n q l h e = absurd (none-some l e)

-- ===== News

newest-is-record : (r : Record) (rs : List Record) → IsDag rs → IsDag (r ∷ rs) → IsTrue (is_record r)
newest-is-record r [] old dag = absurd (old)
newest-is-record r (s ∷ rs) old dag = dag.0.shape

pub set-floor : (floors : List Floor) (n : ℕ) (f : Floor) → 1 ≤ n → n ≤ length floors → floor_of (with_floor floors n f) n ≡ f
set-floor floors n f least most =
    unwrap_or-slice_get (set floors (n - 1) f) (n - 1) opening_floor ∙ get_or-set_same floors (n - 1) f opening_floor (omega (arith, least, most))

promise-is-consent : (site next : Site) (c : Consent) → IsSound site → IsSound next → with_floor site.floors c.site (consented c) ≡ next.floors →
    IsNew site (News (Promise c)) → IsTrue (is_consent c)
promise-is-consent site next c sound after same new =
    let ranged = sound-ranged next after in
    let here = floor-ranged next c.site ranged in
    let is : floor_of next.floors c.site ≡ consented c =
    ap (λ (floors : List Floor). floor_of floors c.site) (sym same) ∙ set-floor site.floors c.site (consented c) new.0 new.1 in
    let most = sound.one_floor_each in
    let few = (sound-ranged site sound).limits.sites.1 in
    let is_site : c.site < 2 ^ 16 = omega (arith, new.1, most, few) in
    let least : 1 ≤ c.number = omega (arith, new.2) in
    let number : IsTrue (is_u32 c.number) = subst (λ (f : Floor). IsTrue (is_u32 f.number)) is here.number in
    let floor : IsTrue (is_id c.floor) = subst (λ (f : Floor). IsTrue (is_id f.state)) is here.state in
    let count : IsTrue (is_u32 c.count) = subst (λ (f : Floor). IsTrue (is_u32 f.stated)) is here.stated in
    and_from (is_u16 c.site && is_u32 c.number && is_id c.floor && is_u32 c.count) (nat_le 1 c.site && nat_le 1 c.number)
    (and_from (is_u16 c.site && is_u32 c.number && is_id c.floor) (is_u32 c.count)
    (and_from (is_u16 c.site && is_u32 c.number) (is_id c.floor)
    (and_from (is_u16 c.site) (is_u32 c.number) (lt-ltb c.site (2 ^ 16) is_site) number) floor) count)
    (and_from (nat_le 1 c.site) (nat_le 1 c.number) (le-leb 1 c.site new.0) (le-leb 1 c.number least))

pub some-count : (count : ℕ) → collection count ≡ Some (Collection count) → 1 ≤ count
some-count zero e = absurd (none-some (Collection zero) e)
some-count (suc n) e = omega arith

is-spelled : (site next : Site) (l : Lasting) → IsSound site → IsSound next → with_lasting l (at_rest site) ≡ at_rest next → IsNew site l → HasCount l →
    IsTrue (is_lasting l)
is-spelled site next (News (State r)) sound after same new few =
    newest-is-record r site.dag sound.dag (subst IsDag (sym (ap (λ (s : Site). s.dag) same)) after.dag)
is-spelled site next (News (Promise c)) sound after same new few = promise-is-consent site next c sound after (ap (λ (s : Site). s.floors) same) new
is-spelled site next (Collection count) sound after same new few =
    and_from (is_u32 count) (nat_le 1 count) (lt-ltb count (2 ^ 32) few) (le-leb 1 count (some-count count new.0))

pub what-lasts-is-spelled : WhatLastsIsSpelled step
what-lasts-is-spelled site n q l small valid sound e =
    let answer = step site n q in
    let same = ap (λ (o : Option Lasting). replay (option_to_list o) (at_rest site)) (sym e) ∙ requests-add-what-lasts site n q in
    is-spelled site answer.0 l sound (request-keeps-sound q site n small valid sound) same (lasts-new site n q valid sound l e) (counts-fit site n q l valid e)

-- ===== Lengths

pub lasting-is-short : RecordsHaveTheirLength → RecordsAreBounded → ConsentsHaveSixteenBytes → LastingIsShort
lasting-is-short lengths bound sixteen (News (State r)) h = let e = lengths r in let few = bound r h in omega (arith, e, few)
lasting-is-short lengths bound sixteen (News (Promise c)) h = let e = sixteen c in omega (arith, e)
lasting-is-short lengths bound sixteen (Collection n) h = omega arith
