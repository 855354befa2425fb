-- What keeps states from being collected, the request for it, and a site as a machine that is asked it too.
use Rattle.std.specs.Prelude.{ℕ, Bool, ◌-◌, ◌==◌, ◌||◌, not, nat_le, nat_lt, bytes_eq, find, filter, filter_map, length, List, [], ◌∷◌, ◌++◌, Option, Some, None, if◌then◌else◌}
use Rattle.std.specs.List.{list_all, range_with_len}
use Rattle.tardis_base.specs.declared.ids.StateId.{StateId}
use Rattle.tardis_base.specs.declared.records.Record.{Record}
use Rattle.tardis_base.specs.Plain.{PlainMachine}
use Rattle.wire_item.specs.Spellings.{u16_spelling, u32_spelling}
use Rattle.plain_dag.specs.States.{arrival, children}
use Rattle.plain_dag.specs.Forks.{leaves}
use Rattle.plain_dag.specs.Floors.{Sessions, Floor, floor_of}
use Rattle.plain_dag.specs.Collection.{kept_states}
use Rattle.plain_site.specs.Site.{Site}
use Rattle.rest_site.specs.declared.oldest.Holder.{Holder}
use Rattle.rest_site.specs.declared.oldest.Holder.TheVariants.{Nobody, Session, OtherSite, Leaves}
use Rattle.rest_site.specs.declared.oldest.Promise.{Promise}
use Rattle.rest_site.specs.declared.oldest_codes.TheConstants.{OLDEST, NOBODY, SESSION, OTHER_SITE, LEAVES}

-- ===== Promises that can move

-- A promise that names this state. It is as far down as it can be where the state has no child: not this promise holds then what arrived since,
-- but that nothing was joined to the branch.
abbrev pub promise_of : List Record → Holder → StateId → Option Promise
promise_of rs holder x = if length (children rs x) == 0 then None else Some (record { holder = holder; arrival = arrival rs x })

-- the ceilings of the open sessions that can move
abbrev pub ceilings : List Record → Sessions → List Promise
ceilings rs sessions = filter_map (λ s. promise_of rs (Session s.0) s.1.ceiling) sessions

-- the numbers of all sites but this one
abbrev pub others : ℕ → ℕ → List ℕ
others own sites = filter (λ n. not (n == own)) (range_with_len 1 sites)

-- their floors that can move, as they are known here
abbrev pub floors_of_others : List Record → ℕ → List Floor → List Promise
floors_of_others rs own floors = filter_map (λ n. promise_of rs (OtherSite n) (floor_of floors n).state) (others own (length floors))

-- it arrived no later than each of these
abbrev pub is_first : List Promise → Promise → Bool
is_first ps p = list_all (λ q. nat_le p.arrival q.arrival) ps

-- the first one that did
abbrev pub first_of : List Promise → Option Promise
first_of ps = find (is_first ps) ps

-- ===== Who holds

-- At least half of the kept states arrived no earlier than that of the promise. None of those is collected before the promise moves, and none
-- was: what is collected is a proper ancestor of each floor, the own floor is at or above each ceiling, and ancestors arrive before.
abbrev pub holds_most : List Record → List StateId → Promise → Bool
holds_most rs ks p =
    let since = length rs - p.arrival in
    nat_le (length (kept_states rs ks) - since) since

-- the leaves, where there are several; else nobody
abbrev pub unjoined : List Record → Holder
unjoined rs = if nat_lt 1 (length (leaves rs)) then Leaves (length (leaves rs)) else Nobody

-- whose the oldest promise is that can move, if it holds most; else leaves that nobody joined
abbrev pub holder_of : List Record → List StateId → Option Promise → Holder
holder_of rs ks None = unjoined rs
holder_of rs ks (Some p) = if holds_most rs ks p then p.holder else unjoined rs

-- the same in a site; where a session's ceiling and another site's floor arrived together, it is the session
abbrev pub what_holds : Site → Holder
what_holds site = holder_of site.dag site.collected (first_of (ceilings site.dag site.sessions ++ floors_of_others site.dag site.own site.floors))

-- ===== As a request

-- the request for it: its code alone
abbrev pub asks_oldest : List ℕ → Bool
asks_oldest bytes = bytes_eq bytes (OLDEST ∷ [])

-- what is told: the code, what kind it is, and which session, which site, or how many leaves
abbrev pub oldest_told : Holder → List ℕ
oldest_told Nobody = OLDEST ∷ NOBODY ∷ []
oldest_told (Session n) = OLDEST ∷ SESSION ∷ u16_spelling n
oldest_told (OtherSite n) = OLDEST ∷ OTHER_SITE ∷ u16_spelling n
oldest_told (Leaves n) = OLDEST ∷ LEAVES ∷ u32_spelling n

-- A machine of sites that is asked this too: nothing changes by it, and memory doesn't fail it.
abbrev pub telling : PlainMachine Site → PlainMachine Site
telling m = record {
  step = λ site e. if asks_oldest e.1 then site else m.step site e;
  reply = λ site e. if asks_oldest e.1 then oldest_told (what_holds site) else m.reply site e;
  is_sure = λ e. asks_oldest e.1 || m.is_sure e;
}
