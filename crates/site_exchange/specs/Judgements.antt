-- How a record is judged, as far as it concerns neither its writes nor room.
use Rattle.std.specs.Prelude.{◌≡◌, ℕ, ◌≤◌, ◌+◌, ◌-◌, List, [], ◌∷◌, take, find, Option, Some, None, slice_get, unwrap_or, IsTrue}
use Rattle.std.specs.List.{list_all}
use Rattle.tardis_base.specs.declared.ids.StateId.{StateId}
use Rattle.tardis_base.specs.declared.records.Record.{Record}
use Rattle.tardis_base.specs.declared.replies.Refusal.TheVariants.{ClosedParent, Comparable}
use Rattle.tardis_base.specs.declared.replies.Reply.{Reply}
use Rattle.tardis_base.specs.declared.replies.Reply.TheVariants.{Refused as IsRefused, Known as IsKnown, Early as IsEarly}
use Rattle.plain_dag.specs.Above.{comparable_pair}
use Rattle.plain_dag.specs.Floors.{is_closed}
use Rattle.state_dag.specs.Table.{Table}
use Rattle.state_dag.specs.Table.{is_listed}
use Rattle.plain_site.specs.Site.{Site}
use Rattle.plain_site.specs.Answers.{refuse_found}
use Rattle.plain_site.specs.Exchange.{judgements}
use Rattle.site_exchange.specs.declared.judging.Judged.{Judged}
use Rattle.site_exchange.specs.declared.judging.Judged.TheVariants.{Fit, Known, Early, Refused}

-- the reply to a record that isn't fit
abbrev pub reply_of : Judged → Option Reply
reply_of Fit = None
reply_of Known = Some IsKnown
reply_of (Early have) = Some (IsEarly have)
reply_of (Refused refusal) = Some (IsRefused refusal)

-- the first reply of these, if there is one
abbrev pub first_reply : List (Option Reply) → Option Reply
first_reply [] = None
first_reply (None ∷ more) = first_reply more
first_reply (Some reply ∷ more) = Some reply

-- all judgements of the record but the last, whether it writes each conflict key of its parents
abbrev pub first_judgements : Site → Record → List (Option Reply)
first_judgements site r = take 6 (judgements site r)

-- the site under this number
abbrev pub numbered : ℕ → Site → Site
numbered own site = record site { own = own }

-- those that concern its parents
abbrev pub parent_judgements : Site → List StateId → List (Option Reply)
parent_judgements site xs =
    refuse_found ClosedParent (find (is_closed site.dag site.floors) xs)
    ∷ refuse_found (λ pair. Comparable pair.0 pair.1) (comparable_pair site.dag xs)
    ∷ []

-- what a store asks of a record that it adds: it is the next of one of the sites, and its parents are kept
pub record IsAddable (table : Table) (r : Record) : Type 0 where
  pub last : r.id.site ≤ table.limits.sites
  pub next : r.id.sequence ≡ unwrap_or (slice_get table.counts (r.id.site - 1)) 0 + 1
  pub parents : IsTrue (list_all (is_listed table) r.parents)
