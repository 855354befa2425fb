-- What a request gives.
use Rattle.std.specs.Prelude.{◌≡◌, ⊤, ℕ, Some, Result, Ok, Err}
use Rattle.tardis_base.specs.declared.replies.Reply.{Reply}
use Rattle.plain_dag.specs.Entries.{entry_of}
use Rattle.plain_dag.specs.Floors.{Session}
use Rattle.plain_site.specs.Site.{Site}
use Rattle.plain_site.specs.Answers.{Answer, refused}
use Rattle.plain_site.specs.Sound.{IsSound}
pub use Rattle.stored_site.specs.Gives.{IsGiven, Gives}
use Rattle.session_core.specs.Core.{Core}
use Rattle.session_core.specs.Stands.{CoreStands}
use Rattle.site_answers.specs.declared.stops.Stop.{Stop}
use Rattle.site_answers.specs.declared.stops.Stop.TheVariants.{Refused, NoMemory}

-- what a stop leaves: what stands for the site as it was; and the plain answer is the refusal, where it is one
abbrev pub Stops : (Site → Type 0) → Answer → Site → Stop → Type 0
Stops stands answer old (Refused refusal) = stands old × (answer ≡ refused old refusal)
Stops stands answer old NoMemory = stands old

-- the plain answer, or a stop
abbrev pub GivesOrStops : (Site → Type 0) → Answer → Site → Result Reply Stop → Type 0
GivesOrStops stands answer old (Ok reply) = IsGiven stands answer reply
GivesOrStops stands answer old (Err stop) = Stops stands answer old stop

-- the plain answer, whose reply is made of what was done; or a stop
abbrev pub DoesOrStops : {A : Type 0} → (A → Reply) → (Site → Type 0) → Answer → Site → Result A Stop → Type 0
DoesOrStops reply stands answer old (Ok done) = IsGiven stands answer (reply done)
DoesOrStops reply stands answer old (Err stop) = Stops stands answer old stop

-- for each sound site that it stood for, it does what the plain answer says, or stops
abbrev pub Does : {A : Type 0} → (A → Reply) → Core → Core → Result A Stop → (Site → Answer) → Type 0
Does reply old new result answer = (site : Site) → CoreStands old site → IsSound site → DoesOrStops reply (CoreStands new) (answer site) site result

-- for each sound site that it stood for, it gives the plain answer, or stops
abbrev pub Answers : Core → Core → Result Reply Stop → (Site → Answer) → Type 0
Answers old new result answer = (site : Site) → CoreStands old site → IsSound site → GivesOrStops (CoreStands new) (answer site) site result

-- so for its open session
abbrev pub AnswersIn : Core → Core → ℕ → Result Reply Stop → (Site → Session → Answer) → Type 0
AnswersIn old new n result answer =
    (site : Site) → CoreStands old site → IsSound site
    → (s : Session) → entry_of n site.sessions ≡ Some s
    → GivesOrStops (CoreStands new) (answer site s) site result

-- it isn't memory that is wanting
abbrev pub NeedsNoMemory : {A : Type 0} → Result A Stop → Type 0
NeedsNoMemory (Ok reply) = ⊤
NeedsNoMemory (Err (Refused refusal)) = ⊤
NeedsNoMemory (Err NoMemory) = ⊥
