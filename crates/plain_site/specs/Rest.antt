-- What lasts of a site that ends and starts again, and what each request adds to that.
use Rattle.std.specs.Prelude.{ℕ, Bool, true, ◌==◌, ◌+◌, ◌-◌, ◌&&◌, nat_lt, nat_le, List, [], ◌∷◌, ◌++◌, length, Option, Some, None, is_none, if◌then◌else◌}
use Rattle.std.specs.List.{list_all}
use Rattle.std.specs.Option.{option_or, option_and_then}
use Rattle.tardis_base.specs.declared.ids.StateId.{StateId}
use Rattle.tardis_base.specs.declared.records.Record.{Record}
use Rattle.tardis_base.specs.declared.records.Consent.{Consent}
use Rattle.tardis_base.specs.declared.records.Item.{Item}
use Rattle.tardis_base.specs.declared.records.Item.TheVariants.{State, Promise}
use Rattle.tardis_base.specs.declared.requests.Request.{Request}
use Rattle.tardis_base.specs.declared.requests.Request.TheVariants.{Commit, Raise, RaiseAuto, Tidy, Deliver, Settle}
use Rattle.tardis_base.specs.declared.replies.Reply.{Reply}
use Rattle.tardis_base.specs.declared.replies.Reply.TheVariants.{Committed, Raised, Tidied, Applied}
use Rattle.tardis_base.specs.Plain.{Event}
use Rattle.wire_talk.specs.RequestReadings.{request_of}
use Rattle.plain_dag.specs.Floors.{Floor, with_floor, consented}
use Rattle.plain_dag.specs.Collection.{tidied}
use Rattle.plain_site.specs.Site.{Site, own_count}
use Rattle.plain_site.specs.Answers.{Answer}
use Rattle.plain_site.specs.Commits.{with_record, growth_refusals}
use Rattle.plain_site.specs.FloorSteps.{tidy}
use Rattle.plain_site.specs.Exchange.{judgements, consent_judgements}
use Rattle.plain_site.specs.Step.{step}

-- ===== At rest

-- A site that ended and starts again: no session is open, so no transaction is, and nothing waits, for other sites send
-- again. Its limits and its number, its history, what it knows of floors and what it collected are as they were.
abbrev pub at_rest : Site → Site
at_rest site = record site { sessions = []; txns = []; waiting = [] }

-- ===== What lasts

-- What a request adds to a site at rest: news, as other sites are told it, be it a record that arrived or the promise of a
-- floor; or that so many states were collected.
pub data Lasting : Type 0 where
  News : (item : Item) → Lasting
  Collection : (count : ℕ) → Lasting

-- the record that arrived last
abbrev pub newest : List Record → Option Lasting
newest [] = None
newest (r ∷ rs) = Some (News (State r))

-- the promise of the own floor with this number; it states the own count
abbrev pub own_promise : Site → StateId → ℕ → Lasting
own_promise site floor number = News (Promise (record { site = site.own; number = number; floor = floor; count = own_count site }))

-- so many states were collected, if any were
abbrev pub collection : ℕ → Option Lasting
collection count = if count == 0 then None else Some (Collection count)

-- What lasts of a request with this reply, which led to this site: of a commit that made a state, and of a Settle that took a
-- record, the record; of what was delivered and applied, that; of a floor that was raised, the promise; and how many states
-- were collected. Of everything else nothing lasts.
abbrev pub what_lasts : Request → Reply → Site → Option Lasting
what_lasts (Commit flags k) (Committed x parents) site = newest site.dag
what_lasts (Deliver item) Applied site = Some (News item)
what_lasts Settle Applied site = newest site.dag
what_lasts (Raise x) (Raised floor number) site = Some (own_promise site floor number)
what_lasts RaiseAuto (Raised floor number) site = Some (own_promise site floor number)
what_lasts (Tidy n) (Tidied count) site = collection count
what_lasts _ _ site = None

-- what lasts of a request that was answered so
abbrev pub lasting_of : Request → Answer → Option Lasting
lasting_of q answer = what_lasts q answer.1 answer.0

-- what lasts of an event in bytes; of bytes that spell no request nothing does
abbrev pub lasting_of_event : Site → Event → Option Lasting
lasting_of_event site (n, bytes) = option_and_then (λ q. lasting_of q (step site n q)) (request_of bytes)

-- ===== Replay

-- the site with this promise
abbrev pub with_promise : Consent → Site → Site
with_promise c site = record site { floors = with_floor site.floors c.site (consented c) }

-- the site with what lasted of one more request
abbrev pub with_lasting : Lasting → Site → Site
with_lasting (News (State r)) site = with_record r site
with_lasting (News (Promise c)) site = with_promise c site
with_lasting (Collection count) site = (tidy site count).0

-- the site with what lasted of several requests, oldest first
abbrev pub replay : List Lasting → Site → Site
replay [] site = site
replay (l ∷ later) site = replay later (with_lasting l site)

-- ===== What a site may take back

-- the site under no number, so that nothing is its own
abbrev pub nameless : Site → Site
nameless site = record site { own = 0 }

-- how many states are collected where so many are asked for
abbrev pub collected_by : ℕ → Site → ℕ
collected_by count site = length (tidied count site.dag site.floors site.collected) - length site.collected

-- The site may take this back: a record or a promise, own ones too, where nothing would speak against its delivery to a site
-- of another number; and a collection where so many states are there to be collected.
abbrev pub fits : Site → Lasting → Bool
fits site (News (State r)) = list_all is_none (judgements (nameless site) r ++ growth_refusals site r)
fits site (News (Promise c)) = list_all is_none (consent_judgements (nameless site) c)
fits site (Collection count) = nat_le 1 count && collected_by count site == count

-- each of these, oldest first, where those before it were taken
abbrev pub all_fit : Site → List Lasting → Bool
all_fit site [] = true
all_fit site (l ∷ later) =
    let others = all_fit (with_lasting l site) later in
    fits site l && others

-- ===== What lasts, read back from the sites before and behind a request

-- the promise of a site's floor
abbrev pub promise_of : ℕ → Floor → Lasting
promise_of n f = News (Promise (record { site = n; number = f.number; floor = f.state; count = f.stated }))

-- of the sites from this one on: the promise of the first whose floor has a higher number behind than before
abbrev pub promise_between : ℕ → (before behind : List Floor) → Option Lasting
promise_between n (f ∷ fs) (g ∷ gs) =
    let later = promise_between (n + 1) fs gs in
    if nat_lt f.number g.number then Some (promise_of n g) else later
promise_between n _ _ = None

-- the newest record, where there is one more; else the promise whose number rose; else how many more states are collected
abbrev pub lasting_between : (before behind : Site) → Option Lasting
lasting_between before behind =
    if nat_lt (length before.dag) (length behind.dag)
    then newest behind.dag
    else option_or (promise_between 1 before.floors behind.floors) (collection (length behind.collected - length before.collected))
