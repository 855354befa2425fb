-- Collected states are left alone: no transaction reads at one, and no record comes below one.
use Rattle.std.specs.Prelude.{◌≡◌, ◌≢◌, ℕ, ◌==◌, nat_lt, nat_le, Some, IsTrue, IsFalse}
use Rattle.tardis_base.specs.declared.ids.StateId.{StateId}
use Rattle.tardis_base.specs.declared.records.Record.{Record}
use Rattle.tardis_base.specs.declared.replies.Refusal.TheVariants.{ClosedParent}
use Rattle.tardis_base.specs.declared.replies.Reply.TheVariants.{Applied, Refused}
use Rattle.tardis_base.specs.Ids.{is_among}
use Rattle.plain_dag.specs.States.{count_of_site}
use Rattle.plain_dag.specs.Entries.{entry_of}
use Rattle.plain_dag.specs.Floors.{Session}
use Rattle.plain_dag.specs.Begin.{is_admitted}
use Rattle.plain_site.specs.Site.{Site}
use Rattle.plain_site.specs.Exchange.{is_early, deliver_record}
use Rattle.plain_site.specs.Sound.{IsSound}

-- a collected state is admitted under no open session's ceiling
abbrev pub CollectedAreNeverAdmitted : Type 0
CollectedAreNeverAdmitted = (site : Site) (n : ℕ) (s : Session) (x : StateId) → IsSound site → entry_of n site.sessions ≡ Some s →
    IsTrue (is_among x site.collected) → IsFalse (is_admitted site.dag s.ceiling x)

-- the record isn't applied; where its site is one of the sites and another one, and it is neither known nor early, it is
-- refused, and a parent of it is named
pub record IsTurnedAway (site : Site) (r : Record) : Type 0 where
  pub never : (deliver_record site r).1 ≢ Applied
  pub named : IsFalse (nat_lt site.limits.sites r.id.site) → IsFalse (nat_le r.id.sequence (count_of_site site.dag r.id.site)) →
      IsFalse (r.id.site == site.own) → IsFalse (is_early site r) →
      (q : StateId) × IsTrue (is_among q r.parents) × ((deliver_record site r).1 ≡ Refused (ClosedParent q))

-- a record below a collected state is turned away
abbrev pub BelowCollectedIsTurnedAway : Type 0
BelowCollectedIsTurnedAway = (site : Site) (r : Record) (p : StateId) → IsSound site → IsTrue (is_among p r.parents) →
    IsTrue (is_among p site.collected) → IsTurnedAway site r
