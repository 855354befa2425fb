-- The words of the server `tardisd`, and what they say.
use Rattle.std.specs.Prelude.{ℕ, Bool, List, [], ◌∷◌, Option, None, codes, map, filter_map, option_map, option_and_then, if◌then◌else◌}
use Rattle.tardis_base.specs.declared.records.Limits.{Limits}
use Rattle.tardis_base.specs.Sizes.{most_pairs, longest_trail}
use Rattle.command_words.specs.declared.commands.Place.{Place}
use Rattle.daemon_words.specs.declared.capacity.Capacity.{Capacity}
use Rattle.daemon_words.specs.declared.daemons.DaemonAsked.{DaemonAsked}
use Rattle.daemon_words.specs.declared.daemons.DaemonPlan.{DaemonPlan}
use Rattle.command_words.specs.Settings.{Setting, are_only}
use Rattle.command_words.specs.Forms.{of, place}
use Rattle.daemon_words.specs.Values.{address_or_none}
use Rattle.daemon_words.specs.Doors.{DoorAt, doors, door_of, door_at}
use Rattle.daemon_words.specs.Sockets.{mode, idle}
use Rattle.daemon_words.specs.Fetching.{peers, peer_addresses, every}
use Rattle.daemon_words.specs.Capacity.{capacity}
use Rattle.daemon_words.specs.Ruling.{rules, join_after}
use Rattle.daemon_words.specs.Collecting.{collects}

-- What the words of `tardisd` say: a site and its doors; the mode of those that are Unix sockets, and after how many seconds a connection
-- ends that asks nothing; for how much there is room; from which sites it fetches, and after how many seconds again; whether it collects;
-- where it is kept; by which rules it joins leaves; and after how many seconds it joins two that another site should have joined.
pub record Daemon : Type 0 where
  pub place : Place
  pub doors : List DoorAt
  pub mode : ℕ
  pub idle : Option ℕ
  pub capacity : Capacity
  pub peers : List (List ℕ)
  pub every : ℕ
  pub tidy : Bool
  pub file : Option (List ℕ)
  pub rules : Option (List ℕ)
  pub join_after : ℕ

-- the options beside the place, the doors and the peers
abbrev pub daemon_with : List Setting → Place → List DoorAt → List (List ℕ) → Option Daemon
daemon_with found place doors peers =
    option_and_then (λ mode. option_and_then (λ idle. option_and_then (λ capacity. option_and_then (λ every. option_and_then (λ tidy. option_and_then
    (λ file. option_and_then (λ rules. option_map (λ join_after. record {
      place = place;
      doors = doors;
      mode = mode;
      idle = idle;
      capacity = capacity;
      peers = peers;
      every = every;
      tidy = tidy;
      file = file;
      rules = rules;
      join_after = join_after;
    })
    (join_after found))
    (rules found))
    (address_or_none (of found (codes "--file"))))
    (collects found))
    (every found))
    (capacity found))
    (idle found))
    (mode found)

-- the options beside the place
abbrev pub daemon_at : List Setting → Place → Option Daemon
daemon_at found place = option_and_then (λ doors. option_and_then (daemon_with found place doors) (peers found)) (doors found)

-- a place; `--listen ADDR`, `--clients ADDR` and `--peers ADDR`, each any number of times, 1 to 8 in all; `--mode MODE`, `--idle SECONDS`,
-- `--states N`, `--sessions N`, `--connections N`, `--every SECONDS`, each or not; `--peer ADDR`, up to 15 times; `--tidy` or
-- `--keep-history` or neither; `--file PATH` or not; and `--rules RULES` or not, with `--join-after SECONDS` or without
abbrev pub daemon : List Setting → Option Daemon
daemon found =
    if are_only (codes "--sites" ∷ codes "--site" ∷ codes "--listen" ∷ codes "--clients" ∷ codes "--peers" ∷ codes "--mode" ∷ codes "--idle"
    ∷ codes "--states" ∷ codes "--sessions" ∷ codes "--connections" ∷ codes "--peer" ∷ codes "--every" ∷ codes "--tidy" ∷ codes "--file"
    ∷ codes "--rules" ∷ codes "--keep-history" ∷ codes "--join-after" ∷ []) found
    then option_and_then (daemon_at found) (place found) else None

-- what a plan says, without its texts as values of the program
abbrev pub daemon_of : DaemonPlan → Daemon
daemon_of plan = record {
  place = plan.place;
  doors = map door_at plan.doors.items;
  mode = plan.mode;
  idle = plan.idle;
  capacity = plan.capacity;
  peers = map (λ word. word.now) plan.peers.items;
  every = plan.every;
  tidy = plan.tidy;
  file = option_map (λ word. word.now) plan.file;
  rules = option_map (λ word. word.now) plan.rules;
  join_after = plan.join_after;
}

-- what is asked for beside doors and peers, with those that the options ask for
abbrev pub daemon_by : List Setting → DaemonAsked → Daemon
daemon_by found asked = record {
  place = asked.place;
  doors = filter_map door_of found;
  mode = asked.mode;
  idle = asked.idle;
  capacity = asked.capacity;
  peers = peer_addresses found;
  every = asked.every;
  tidy = asked.tidy;
  file = option_map (λ word. word.now) asked.file;
  rules = option_map (λ word. word.now) asked.rules;
  join_after = asked.join_after;
}

-- the limits of the site that is asked for
abbrev pub daemon_limits : Daemon → Limits
daemon_limits asked = record {
  sites = asked.place.sites;
  max_kept = asked.capacity.states;
  max_path = most_pairs;
  max_sessions = asked.capacity.sessions;
  max_trail = longest_trail;
}
