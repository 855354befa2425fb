-- Wrong steps, wrong ways to keep what lasts, and wrong ways to start again.
use Rattle.std.specs.Prelude.{[], ◌∷◌, ◌++◌, drop, flat_map, option_to_list}
use Rattle.tardis_base.specs.declared.records.Item.TheVariants.{State}
use Rattle.tardis_base.specs.declared.requests.Request.TheVariants.{Raise, RaiseAuto, Stat, Close}
use Rattle.plain_site.specs.Site.{own_floor}
use Rattle.plain_site.specs.FloorSteps.{raised}
use Rattle.plain_site.specs.Step.{step, site_machine}
use Rattle.plain_site.specs.ClientRuns.{Service}
use Rattle.plain_site.specs.WrongSteps.{of_second_site}
use Rattle.plain_site.specs.Rest.{at_rest, News, lasting_of_event}
use Rattle.rest_laws.specs.Laws.{Restart}
use Rattle.rest_laws.specs.Trails.{Keeping, lasting_of_answers}

-- a floor is told as raised, and stays where it was
abbrev pub tells_floors : Service
tells_floors site n (Raise x) = (site, (step site n (Raise x)).1)
tells_floors site n q = step site n q

-- a Stat raises the floor, and doesn't tell
abbrev pub raises_unseen : Service
raises_unseen site n Stat = ((step site n RaiseAuto).0, (step site n Stat).1)
raises_unseen site n q = step site n q

-- the floor is raised though the numbers have come to their end
abbrev pub raises_past_end : Service
raises_past_end site n RaiseAuto = raised site (own_floor site).state
raises_past_end site n q = step site n q

-- a session is told as closed, and stays open
abbrev pub keeps_closed : Service
keeps_closed site n Close = (site, (step site n Close).1)
keeps_closed site n q = step site n q

-- ===== Wrong ways to keep what lasts

-- the way to keep breaks the law
abbrev pub IsBrokenByKeeping : (Keeping → Type 0) → Keeping → Type 0
IsBrokenByKeeping Law keeping = Law keeping → ⊥

-- what lasts of an event is kept, though memory was wanting and nothing was done
abbrev pub keeps_undone : Keeping
keeps_undone site (event ∷ events) (reply ∷ replies) =
    option_to_list (lasting_of_event site event) ++ keeps_undone (site_machine.step site event) events replies
keeps_undone site _ _ = []

-- what lasts of an event is kept twice
abbrev pub keeps_twice : Keeping
keeps_twice site events replies = flat_map (λ l. l ∷ l ∷ []) (lasting_of_answers site events replies)

-- the record of another site, of which nothing was told, is kept with the rest
abbrev pub makes_up : Keeping
makes_up site events replies = News (State of_second_site) ∷ lasting_of_answers site events replies

-- ===== Wrong ways to start again

-- the way to start again breaks the law
abbrev pub IsBrokenAt : (Restart → Type 0) → Restart → Type 0
IsBrokenAt Law restart = Law restart → ⊥

-- transactions stay without their sessions
abbrev pub keeps_txns : Restart
keeps_txns site = record site { sessions = []; waiting = [] }

-- the floor is raised whenever the site starts
abbrev pub raises_at_rest : Restart
raises_at_rest site = (step (at_rest site) 0 RaiseAuto).0

-- the record that arrived last is lost
abbrev pub loses_newest : Restart
loses_newest site = record (at_rest site) { dag = drop 1 site.dag }

-- how many sessions were open is remembered
abbrev pub keeps_sessions : Restart
keeps_sessions site = record site { txns = []; waiting = [] }
