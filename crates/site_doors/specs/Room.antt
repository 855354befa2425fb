-- How many states a site may keep where its clients commit.
use Rattle.std.specs.Prelude.{ℕ, Bool, ◌-◌, ◌/◌, ◌==◌, max, not, nat_lt, nat_le, length, Option, Some, None, if◌then◌else◌}
use Rattle.std.specs.Option.{option_and_then}
use Rattle.tardis_base.specs.declared.records.Limits.{Limits}
use Rattle.tardis_base.specs.declared.requests.EndFlags.{EndFlags}
use Rattle.tardis_base.specs.declared.requests.Request.{Request}
use Rattle.tardis_base.specs.declared.requests.Request.TheVariants.{Commit}
use Rattle.tardis_base.specs.Plain.{Event}
use Rattle.wire_talk.specs.RequestReadings.{request_of}
use Rattle.plain_dag.specs.Collection.{kept_states}
use Rattle.plain_dag.specs.Entries.{entry_of}
use Rattle.plain_site.specs.Site.{Site, Txn, Single, Merge, read_states}

-- So many states may be kept where a client commits below one state: of each site's part of the room again the part of one site, and two
-- states at least. What other sites bring has all the room.
abbrev pub share : Limits → ℕ
share limits = max (limits.max_kept / limits.sites / limits.sites) 2

-- and so many where a client joins several states
abbrev pub merge_share : Limits → ℕ
merge_share limits = limits.max_kept - share limits / 2

-- so many where the transaction commits
abbrev pub bound_of : Limits → Txn → ℕ
bound_of limits t = if nat_lt 1 (length (read_states t)) then merge_share limits else share limits

-- A commit with these flags may make a state: of a single transaction where it wrote something, and of a merge where there is no end
-- constraint. Each other commit makes none.
abbrev pub may_make_a_state : EndFlags → Txn → Bool
may_make_a_state flags (Single t) = not (length t.writes == 0)
may_make_a_state flags (Merge t) = flags.0 == 0

-- the flags of a Commit
abbrev pub commit_flags : Request → Option EndFlags
commit_flags (Commit flags k) = Some flags
commit_flags _ = None

abbrev pub txn_bound : Limits → EndFlags → Txn → Option ℕ
txn_bound limits flags t = if may_make_a_state flags t then Some (bound_of limits t) else None

-- The bound for what the actor asks: there is one where the bytes spell a Commit, by which the actor's open transaction may make a state.
abbrev pub bound_for : Site → Event → Option ℕ
bound_for site event =
    option_and_then (λ flags. option_and_then (txn_bound site.limits flags) (entry_of event.0 site.txns))
    (option_and_then commit_flags (request_of event.1))

-- how many states the site keeps
abbrev pub number_kept : Site → ℕ
number_kept site = length (kept_states site.dag site.collected)

-- the bound, where as many states are kept
abbrev pub where_kept : ℕ → ℕ → Option ℕ
where_kept kept bound = if nat_le bound kept then Some bound else None

-- The bound that is reached, so that the commit isn't let in. A site that is the only one has all its room.
abbrev pub bound_reached : Site → Event → Option ℕ
bound_reached site event = if nat_le site.limits.sites 1 then None else option_and_then (where_kept (number_kept site)) (bound_for site event)
