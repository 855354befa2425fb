-- What deliveries answer, and how it is told of the records that wait.
use Rattle.std.specs.Prelude.{◌≡◌, ◌<◌, ℕ, length, Option, Some, None, Result, IfOk, slice_get}
use Rattle.std.specs.Option.{option_map}
use Rattle.tardis_base.specs.declared.faults.NoMemory.{NoMemory as OutOfMemory}
use Rattle.tardis_base.specs.declared.records.Record.{Record}
use Rattle.tardis_base.specs.declared.replies.Reply.{Reply}
use Rattle.tardis_base.specs.declared.replies.Reply.TheVariants.{Applied as IsApplied}
use Rattle.record_store.specs.Answers.{MayArrive}
use Rattle.site_exchange.specs.declared.judging.Judged.{Judged}
use Rattle.site_exchange.specs.Judgements.{reply_of, first_reply, IsAddable}
use Rattle.plain_site.specs.Site.{Site}
use Rattle.plain_site.specs.Sound.{IsSound}
use Rattle.plain_site.specs.Answers.{unless}
use Rattle.plain_site.specs.Commits.{with_record, growth_refusals}
use Rattle.plain_site.specs.Exchange.{judgements, first_fit_record, settle_record}
use Rattle.session_core.specs.Core.{Core}
use Rattle.session_core.specs.Stands.{CoreStands}
use Rattle.session_core.specs.Gives.{GivesOrStops}
use Rattle.site_answers.specs.declared.stops.Stop.{Stop}

-- the record is judged as each sound site judges it for which this stands; or there was no memory
abbrev pub JudgedAs : Core → Record → Result Judged OutOfMemory → Type 0
JudgedAs core r result = (site : Site) → CoreStands core site → IsSound site → IfOk result (λ judged. reply_of judged ≡ first_reply (judgements site r))

-- a record that may arrive does, where the site may grow by it
abbrev pub ArrivesAs : Core → Core → Record → Result Reply Stop → Type 0
ArrivesAs old new r result =
    (site : Site) → CoreStands old site → IsSound site → MayArrive site.limits.sites site.dag site.collected r →
    GivesOrStops (CoreStands new) (unless site (growth_refusals site r) (with_record r site, IsApplied)) site result

-- a record waits at this place, and the store may take it
pub record MaySettle (core : Core) (place : ℕ) : Type 0 where
  pub within : place < length core.waiting
  pub addable : (r : Record) → slice_get core.waiting place ≡ Some r → IsAddable core.store.table r

-- the first fit record waits at this place; or none is fit; or there was no memory
abbrev pub FindsFit : Core → Result (Option ℕ) OutOfMemory → Type 0
FindsFit core result =
    (site : Site) → CoreStands core site → IsSound site → IfOk result (λ found. option_map (λ fit. fit.0) (first_fit_record site) ≡ found)

-- the fit record at this place is settled
abbrev pub SettlesAt : Core → Core → ℕ → Result Reply Stop → Type 0
SettlesAt old new place result =
    (site : Site) → CoreStands old site → IsSound site → (r : Record) → slice_get site.waiting place ≡ Some r → first_reply (judgements site r) ≡ None →
    GivesOrStops (CoreStands new) (settle_record site (place, r)) site result
