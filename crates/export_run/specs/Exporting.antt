-- How an export over frames ends.
use Rattle.std.specs.Prelude.{◌≡◌, ◌≢◌, ℕ, ◌+◌, ◌<◌, ◌≤◌, true, false, List, [], ◌++◌, length, map, Option}
use Rattle.tardis_base.specs.declared.ids.StateId.{StateId}
use Rattle.tardis_base.specs.Plain.{Event, Answers, state_after}
use Rattle.tardis_base.specs.Sizes.{longest_frame}
use Rattle.tardis_io.specs.declared.statuses.Status.{Status}
use Rattle.tardis_io.specs.declared.statuses.Status.TheVariants.{Ok, ReadFault, WriteFault, Cut, LongFrame, NoMemory, Spent, NoState}
use Rattle.tardis_io.specs.Told.{WhileTold}
use Rattle.frame_cut.specs.Frames.{Cuts, IsCut, IsPartial, IsLong}
use Rattle.frame_cut.specs.Events.{event_of}
use Rattle.site_run.specs.Endings.{most_taken, Ends, AnswersAll}
use Rattle.plain_dag.specs.Collection.{is_kept}
use Rattle.plain_site.specs.Site.{Site}
use Rattle.plain_site.specs.Step.{site_machine}
use Rattle.branch_export.specs.Exports.{export_of}
use Rattle.branch_export.specs.Exported.{IsFrontGiven}

-- the plain site after the events; with NoMemory, some of them found no memory and changed nothing
abbrev pub Leads : Status → Site → List Event → Site → Type 0
Leads NoMemory s es t = (replies : List (List ℕ)) × Answers site_machine s es replies t
Leads _ s es t = t ≡ state_after site_machine s es

-- What was given, by the status: the export of the state where it is kept in the plain site after the events; a front of it
-- where writing failed; else nothing.
abbrev pub GivesExport : Status → StateId → Site → Option (List ℕ) → Option (List ℕ) → Type 0
GivesExport Ok x t old new = (is_kept t.dag t.collected x ≡ true) × WhileTold old new (λ before after. after ≡ before ++ export_of t.dag x)
GivesExport WriteFault x t old new = (is_kept t.dag t.collected x ≡ true) × WhileTold old new (λ before after. IsFrontGiven before after (export_of t.dag x))
GivesExport (NoState y) x t old new = (y ≡ x) × (is_kept t.dag t.collected x ≡ false) × (new ≡ old)
GivesExport _ x t old new = new ≡ old

-- How reading ended, by the status of the whole. Ok, WriteFault and NoState come once the input was read to its end.
abbrev pub reading_end : Status → Status
reading_end WriteFault = Ok
reading_end (NoState x) = Ok
reading_end status = status

-- what was left of the input at first and is left now, and what was taken behind the last whole frame
abbrev pub ReadTo : Status → List ℕ → List (List ℕ) → List ℕ → List ℕ → Type 0
ReadTo NoMemory first bodies held left = length first ≤ most_taken + length left
ReadTo status first bodies held left = Ends status first bodies held left

-- from s the events led to a site for which the value stands, and this was given
pub record Exports (status : Status) (x : StateId) (to : Site → Type 0) (old new : Option (List ℕ)) (s : Site) (events : List Event) : Type 0 where
  pub site : Site
  pub leads : Leads status s events site
  pub stands : to site
  pub given : GivesExport status x site old new

-- What an export did: it cut these bodies from the front of what was left at first, and asked their events; they are a front of
-- the bodies of the one cut, and all of them where nothing failed.
pub record ExportOutcome (status : Status) (x : StateId) (from to : Site → Type 0) (old new : Option (List ℕ)) (first left : List ℕ) : Type 0 where
  pub bodies : List (List ℕ)
  pub held : List ℕ
  pub read : Cuts first bodies (held ++ left)
  pub exported : (s : Site) → from s → Exports status x to old new s (map event_of bodies)
  pub ends : ReadTo (reading_end status) first bodies held left
  pub front : (all : List (List ℕ)) (rest : List ℕ) → IsCut first all rest → (more : List (List ℕ)) × (all ≡ bodies ++ more)
  pub whole : (all : List (List ℕ)) (rest : List ℕ) → IsCut first all rest → AnswersAll (reading_end status) bodies all rest

-- how an export ends where no fault came and few enough bytes were there
abbrev pub ExportEndsAs : StateId → List ℕ → Status → Type 0
ExportEndsAs x rest Ok = rest ≡ []
ExportEndsAs x rest (NoState y) = (rest ≡ []) × (y ≡ x)
ExportEndsAs x rest Cut = (rest ≢ []) × IsPartial rest
ExportEndsAs x rest (LongFrame len) = IsLong rest len
ExportEndsAs x rest NoMemory = Unit {0}
ExportEndsAs x rest _ = ⊥

-- the ends that an export may have: a frame that is too long is told by a length above the longest
abbrev pub IsExportEnd : StateId → Status → Type 0
IsExportEnd x Ok = Unit {0}
IsExportEnd x Cut = Unit {0}
IsExportEnd x (LongFrame len) = longest_frame < len
IsExportEnd x ReadFault = Unit {0}
IsExportEnd x WriteFault = Unit {0}
IsExportEnd x NoMemory = Unit {0}
IsExportEnd x Spent = Unit {0}
IsExportEnd x (NoState y) = y ≡ x
IsExportEnd x _ = ⊥
