-- How much a server has room for, by its words.
use Rattle.std.specs.Prelude.{ℕ, ◌≤◌, List, Option, codes, option_map, option_and_then}
use Rattle.tardis_base.specs.Sizes.{most_kept, usual_kept, most_sessions, usual_sessions}
use Rattle.daemon_words.specs.declared.capacity.Capacity.{Capacity}
use Rattle.daemon_words.specs.declared.capacity.TheConstants.{MOST_CONNECTIONS, USUAL_CONNECTIONS}
use Rattle.command_words.specs.Settings.{Setting}
use Rattle.command_words.specs.Values.{number_or}
use Rattle.command_words.specs.Forms.{of}

-- the most connections for which there may be room
abbrev pub most_connections : ℕ
most_connections = MOST_CONNECTIONS

-- for so many there is room, where nothing else is said
abbrev pub usual_connections : ℕ
usual_connections = USUAL_CONNECTIONS

-- `--states N`, from 1 to 65,000, and `--sessions N` and `--connections N`, each from 1 to 4,096; 16,384, 256 and 256 where they are left out
abbrev pub capacity : List Setting → Option Capacity
capacity found =
    option_and_then (λ states. option_and_then (λ sessions. option_map
    (λ connections. record { states = states; sessions = sessions; connections = connections })
    (number_or usual_connections 1 most_connections (of found (codes "--connections"))))
    (number_or usual_sessions 1 most_sessions (of found (codes "--sessions"))))
    (number_or usual_kept 1 most_kept (of found (codes "--states")))

-- room for 1 to 65,000 states, 1 to 4,096 sessions and 1 to 4,096 connections
pub record IsCapacity (c : Capacity) : Type 0 where
  pub some_states : 1 ≤ c.states
  pub most_states : c.states ≤ most_kept
  pub some_sessions : 1 ≤ c.sessions
  pub most_sessions : c.sessions ≤ most_sessions
  pub some_connections : 1 ≤ c.connections
  pub most_connections : c.connections ≤ most_connections
