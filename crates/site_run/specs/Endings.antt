-- How a run ends.
use Rattle.std.specs.Prelude.{◌≡◌, ◌≢◌, ℕ, ◌+◌, ◌<◌, ◌≤◌, ◌⊎◌, List, [], ◌++◌, length}
use Rattle.tardis_base.specs.Sizes.{longest_frame, longest_framed}
use Rattle.tardis_io.specs.declared.statuses.Status.{Status}
use Rattle.tardis_io.specs.declared.statuses.Status.TheVariants.{Ok, ReadFault, WriteFault, Cut, LongFrame, NoMemory, Spent}
use Rattle.frame_cut.specs.Frames.{IsPartial, IsLong, Cuts, IsCut}
use Rattle.site_run.specs.Responses.{Whole, Front}
use Rattle.site_run.specs.Forms.{Form, frame_form, line_form, longer}

-- as many bytes as a run takes
abbrev pub most_taken : ℕ
most_taken = 1099511627776

-- only a sink that failed was given less than all, and lacks at most what was gathered for the write that failed
abbrev pub shape_within : ℕ → Status → List ℕ → List ℕ → List ℕ → Type 0
shape_within most WriteFault = Front most
shape_within most _ = Whole

-- the same of a machine's replies, of which less than a mebibyte and one frame are gathered
abbrev pub shape_of : Status → List ℕ → List ℕ → List ℕ → Type 0
shape_of = shape_within (longest_frame + longest_framed)

-- where as many bytes were taken as may be, only a fault in writing or a body that is too long ends the run before it is spent
abbrev pub EndsSpent : Status → Type 0
EndsSpent Spent = Unit {0}
EndsSpent WriteFault = Unit {0}
EndsSpent (LongFrame len) = Unit {0}
EndsSpent _ = ⊥

-- What was left at first, the bodies that were cut and answered, what was taken and not cut, the body that the end of the
-- input ended, if it was answered too, and what is left now. Each end says what it was that ended the run, and that no more
-- bytes were taken than may be.
abbrev pub RunEnds : Form → Status → List ℕ → List (List ℕ) → List ℕ → List (List ℕ) → List ℕ → Type 0
RunEnds F Ok first cut held last left = F.IsEnd held × (last ≡ F.last held) × (left ≡ []) × (length first < most_taken)
RunEnds F Cut first cut held last left = F.IsCutOff held × (last ≡ []) × (left ≡ []) × (length first < most_taken)
RunEnds F (LongFrame len) first cut held last left = F.IsLong held len × (last ≡ []) × (length first ≤ most_taken + length left)
RunEnds F ReadFault first cut held last left = F.IsPart held × (last ≡ []) × (length first < most_taken + length left)
RunEnds F WriteFault first cut held last left =
    ((last ≡ []) ⊎ (F.IsEnd held × (last ≡ F.last held) × (left ≡ []))) × (length first ≤ most_taken + length left)
RunEnds F Spent first cut held last left = F.IsPart held × (last ≡ []) × (length first ≡ most_taken + length left)
RunEnds F NoMemory first cut held last left = (cut ≡ []) × (last ≡ []) × (held ≡ []) × (left ≡ first)
RunEnds F _ first cut held last left = ⊥

-- the bodies that were answered, and the one cut of what was left at first: where nothing failed, they are all
abbrev pub AnswersAllOf : Form → Status → List (List ℕ) → List (List ℕ) → List ℕ → Type 0
AnswersAllOf F Ok bodies all rest = (bodies ≡ F.all all rest) × F.IsEnd rest
AnswersAllOf F Cut bodies all rest = (bodies ≡ all) × F.IsCutOff rest
AnswersAllOf F (LongFrame len) bodies all rest = (bodies ≡ all) × F.IsLong rest len
AnswersAllOf F _ bodies all rest = Unit {0}

-- How a run ends where no fault came and few enough bytes were there: what stands behind the last whole body decides,
-- unless there was no memory.
abbrev pub RunEndsAs : Form → List ℕ → Status → Type 0
RunEndsAs F rest Ok = F.IsEnd rest
RunEndsAs F rest Cut = F.IsCutOff rest
RunEndsAs F rest (LongFrame len) = F.IsLong rest len
RunEndsAs F rest NoMemory = Unit {0}
RunEndsAs F rest _ = ⊥

-- the ends that a run may have, whatever its devices tell: a cut and a length only where some bytes end so
abbrev pub IsEndOf : Form → Status → Type 0
IsEndOf F Ok = Unit {0}
IsEndOf F Cut = (rest : List ℕ) × F.IsCutOff rest
IsEndOf F (LongFrame len) = (rest : List ℕ) × F.IsLong rest len
IsEndOf F ReadFault = Unit {0}
IsEndOf F WriteFault = Unit {0}
IsEndOf F NoMemory = Unit {0}
IsEndOf F Spent = Unit {0}
IsEndOf F _ = ⊥

-- What a run did: it cut these bodies from the front of what was left at first, answered them, and maybe the body that the end
-- of the input ended, and ended so. They are a front of the bodies of the input.
pub record RunOutcome (F : Form) {S : Type 0} (status : Status) (from : S → Type 0) (Answered : S → List (List ℕ) → Type 0) (first left : List ℕ) : Type 0 where
  pub cut : List (List ℕ)
  pub last : List (List ℕ)
  pub held : List ℕ
  pub read : F.Cuts first cut (held ++ left)
  pub answered : (s : S) → from s → Answered s (cut ++ last)
  pub ends : RunEnds F status first cut held last left
  pub spent : length first ≡ most_taken + length left → EndsSpent status
  pub front : (all : List (List ℕ)) (rest : List ℕ) → F.IsCut first all rest → (more : List (List ℕ)) × (F.all all rest ≡ (cut ++ last) ++ more)
  pub whole : (all : List (List ℕ)) (rest : List ℕ) → F.IsCut first all rest → AnswersAllOf F status (cut ++ last) all rest

-- ===== Runs over frames

-- the ends that a run over frames may have, whatever its devices tell
abbrev pub IsRunEnd : Status → Type 0
IsRunEnd Ok = Unit {0}
IsRunEnd Cut = Unit {0}
IsRunEnd (LongFrame len) = longest_frame < len
IsRunEnd ReadFault = Unit {0}
IsRunEnd WriteFault = Unit {0}
IsRunEnd NoMemory = Unit {0}
IsRunEnd Spent = Unit {0}
IsRunEnd _ = ⊥

-- how a run over frames ends: the end of the input ends no body
abbrev pub Ends : Status → List ℕ → List (List ℕ) → List ℕ → List ℕ → Type 0
Ends Ok first bodies held left = (held ≡ []) × (left ≡ []) × (length first < most_taken)
Ends Cut first bodies held left = (held ≢ []) × IsPartial held × (left ≡ []) × (length first < most_taken)
Ends (LongFrame len) first bodies held left = IsLong held len × (length first ≤ most_taken + length left)
Ends ReadFault first bodies held left = IsPartial held × (length first < most_taken + length left)
Ends WriteFault first bodies held left = length first ≤ most_taken + length left
Ends Spent first bodies held left = IsPartial held × (length first ≡ most_taken + length left)
Ends NoMemory first bodies held left = (bodies ≡ []) × (held ≡ []) × (left ≡ first)
Ends _ first bodies held left = ⊥

abbrev pub AnswersAll : Status → List (List ℕ) → List (List ℕ) → List ℕ → Type 0
AnswersAll = AnswersAllOf frame_form

abbrev pub EndsAs : List ℕ → Status → Type 0
EndsAs = RunEndsAs frame_form

-- What a run over frames did: it cut these bodies from the front of what was left at first, answered them, and ended so. They
-- are a front of the bodies of the one cut.
pub record Outcome {S : Type 0} (status : Status) (from : S → Type 0) (Answered : S → List (List ℕ) → Type 0) (first left : List ℕ) : Type 0 where
  pub bodies : List (List ℕ)
  pub held : List ℕ
  pub read : Cuts first bodies (held ++ left)
  pub answered : (s : S) → from s → Answered s bodies
  pub ends : Ends status first bodies held left
  pub spent : length first ≡ most_taken + length left → EndsSpent status
  pub front : (all : List (List ℕ)) (rest : List ℕ) → IsCut first all rest → (more : List (List ℕ)) × (all ≡ bodies ++ more)
  pub whole : (all : List (List ℕ)) (rest : List ℕ) → IsCut first all rest → AnswersAll status bodies all rest

-- ===== Runs over lines

-- the ends that a run over lines may have, whatever its devices tell
abbrev pub IsLineEnd : Status → Type 0
IsLineEnd Ok = Unit {0}
IsLineEnd (LongFrame len) = len ≡ longer
IsLineEnd ReadFault = Unit {0}
IsLineEnd WriteFault = Unit {0}
IsLineEnd NoMemory = Unit {0}
IsLineEnd Spent = Unit {0}
IsLineEnd _ = ⊥

abbrev pub LinesEndAs : List ℕ → Status → Type 0
LinesEndAs = RunEndsAs line_form

-- what a run over lines did
abbrev pub LineOutcome : {S : Type 0} → Status → (S → Type 0) → (S → List (List ℕ) → Type 0) → List ℕ → List ℕ → Type 0
LineOutcome status from Answered first left = RunOutcome line_form status from Answered first left
