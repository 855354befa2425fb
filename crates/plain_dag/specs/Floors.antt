-- Sessions and their ceilings, sites and their floors, and which states are closed.
use Rattle.std.specs.Prelude.{ℕ, Bool, ◌-◌, ◌==◌, ◌&&◌, not, List, find, Option, unwrap_or, slice_get, slice_set, if◌then◌else◌}
use Rattle.std.specs.List.{list_all}
use Rattle.tardis_base.specs.declared.ids.StateId.{StateId}
use Rattle.tardis_base.specs.declared.records.Consent.{Consent}
use Rattle.tardis_base.specs.declared.records.Record.{Record}
use Rattle.tardis_base.specs.Ids.{root}
use Rattle.plain_dag.specs.States.{states}
use Rattle.plain_dag.specs.Above.{is_above, is_proper_ancestor}

-- an open session, without its transaction
pub record Session : Type 0 where
  pub follow : Bool
  pub ceiling : StateId
  pub last : StateId

-- the open sessions, by their numbers
abbrev pub Sessions : Type 0
Sessions = List (ℕ × Session)

-- a session that opens under this ceiling
abbrev pub opening_session : Bool → StateId → Session
opening_session follow ceiling = record { follow = follow; ceiling = ceiling; last = root }

-- the session after its commit of x: where it follows and its ceiling is at or above x, x is its ceiling too
abbrev pub after_commit : List Record → StateId → Session → Session
after_commit rs x s =
    record { follow = s.follow; last = x; ceiling = if s.follow && is_above rs s.ceiling x then x else s.ceiling }

-- the session under another ceiling
abbrev pub with_ceiling : StateId → Session → Session
with_ceiling x s = record { follow = s.follow; last = s.last; ceiling = x }

-- the state is at or above the ceiling of each open session
abbrev pub is_above_ceilings : List Record → Sessions → StateId → Bool
is_above_ceilings rs sessions x = list_all (λ s. is_above rs x s.1.ceiling) sessions

-- the least session whose ceiling the state isn't at or above
abbrev pub holding_session : List Record → Sessions → StateId → Option (ℕ × Session)
holding_session rs sessions x = find (λ s. not (is_above rs x s.1.ceiling)) sessions

-- what is known here of a site's promise: its floor, the number of the consent, and the count stated with it
pub record Floor : Type 0 where
  pub state : StateId
  pub number : ℕ
  pub stated : ℕ

-- a floor at the state, before any promise of its site
abbrev pub unpromised : StateId → Floor
unpromised x = record { state = x; number = 0; stated = 0 }

-- before any consent
abbrev pub opening_floor : Floor
opening_floor = record { state = root; number = 0; stated = 0 }

-- the floor of a site; sites are numbered from 1
abbrev pub floor_of : List Floor → ℕ → Floor
floor_of floors site = unwrap_or (slice_get floors (site - 1)) opening_floor

-- what a consent says of its site's floor
abbrev pub consented : Consent → Floor
consented c = record { state = c.floor; number = c.number; stated = c.count }

-- the floors with another one of this site
abbrev pub with_floor : List Floor → ℕ → Floor → List Floor
with_floor floors site f = slice_set floors (site - 1) f

-- the state is closed: it is a proper ancestor of every floor
abbrev pub is_closed : List Record → List Floor → StateId → Bool
is_closed rs floors x = list_all (λ f. is_proper_ancestor rs x f.state) floors

-- the state is at or above every floor
abbrev pub is_above_floors : List Record → List Floor → StateId → Bool
is_above_floors rs floors x = list_all (λ f. is_above rs x f.state) floors

-- no promise of the floor's site was met, and it is at or above the state
abbrev pub is_unpromised_above : List Record → StateId → Floor → Bool
is_unpromised_above rs x f = f.number == 0 && is_above rs f.state x

-- no site has promised anything, and each floor is at or above the state
abbrev pub are_unpromised_above : List Record → List Floor → StateId → Bool
are_unpromised_above rs floors x = list_all (is_unpromised_above rs x) floors

-- the automatic floor: the last-arrived state that the floor is at or above and that is at or above every ceiling
abbrev pub automatic_floor : List Record → StateId → Sessions → StateId
automatic_floor rs floor sessions = unwrap_or (find (λ x. is_above rs floor x && is_above_ceilings rs sessions x) (states rs)) floor
