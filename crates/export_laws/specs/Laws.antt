-- What comes of the script of an export: a fresh site carries it out, and then has the contents that were exported.
use Rattle.std.specs.Prelude.{◌≡◌, ℕ, ◌*◌, ◌<◌, ◌≤◌, nat_le, Bool, true, false, ◌&&◌, List, [], ◌∷◌, length, map, slice_get, bytes_eq, IsTrue, IsFalse}
use Rattle.std.specs.List.{list_any}
use Rattle.std.specs.Option.{option_map}
use Rattle.tardis_base.specs.declared.ids.StateId.{StateId}
use Rattle.tardis_base.specs.declared.requests.Request.{Request}
use Rattle.tardis_base.specs.declared.replies.Reply.{Reply}
use Rattle.tardis_base.specs.declared.replies.Reply.TheVariants.{Refused}
use Rattle.tardis_base.specs.Ids.{root}
use Rattle.tardis_base.specs.Plain.{Event, Answers, no_memory, state_after, reply_at}
use Rattle.wire_talk.specs.Spellings.{reply_spelling}
use Rattle.frame_cut.specs.Frames.{IsCut}
use Rattle.frame_cut.specs.Events.{event_of}
use Rattle.plain_dag.specs.Begin.{last_arrived}
use Rattle.plain_dag.specs.Collection.{is_kept, kept_states}
use Rattle.plain_site.specs.Site.{Site}
use Rattle.plain_site.specs.Step.{step, site_machine}
use Rattle.plain_site.specs.RowWords.{lone_site, ◌·◌}
use Rattle.plain_site.specs.ClientRuns.{Service}
use Rattle.branch_export.specs.Exports.{Entry, are_entries, IsExport, contents, export_of}
use Rattle.branch_export.specs.Scripts.{groups, script, body, script_frames}

-- ===== A site is asked

-- the replies to these requests of actor 1, asked one after another
abbrev pub replies : Service → Site → List Request → List Reply
replies service site [] = []
replies service site (q ∷ qs) = (service site 1 q).1 ∷ replies service (service site 1 q).0 qs

-- the site after them
abbrev pub site_after : Service → Site → List Request → Site
site_after service site [] = site
site_after service site (q ∷ qs) = site_after service (service site 1 q).0 qs

abbrev pub is_refusal : Reply → Bool
is_refusal (Refused refusal) = true
is_refusal _ = false

-- some request of these is refused
abbrev pub refuses : Service → Site → List Request → Bool
refuses service site qs = list_any is_refusal (replies service site qs)

-- ===== The laws

-- 64 for each sequence number: 274,877,906,880
abbrev pub most_entries : ℕ
most_entries = 64 * 4294967295

-- the entries of an export, not more than the states of one site can bring
abbrev pub AreScripted : List Entry → Type 0
AreScripted es = IsTrue (are_entries es) × (length es ≤ most_entries)

-- the only site, under the program's limits, after it opened and was asked the script
abbrev pub scripted_site : Service → List Entry → Site
scripted_site service es = site_after service lone_site (script es)

-- the state that arrived last at it
abbrev pub scripted_state : Service → List Entry → StateId
scripted_state service es = last_arrived (scripted_site service es).dag

-- no request of the script is refused
abbrev pub ScriptsAreCarriedOut : Service → Type 0
ScriptsAreCarriedOut service = (es : List Entry) → AreScripted es → IsFalse (refuses service lone_site (script es))

-- the state that arrived last has the contents that were exported
abbrev pub ContentsComeBack : Service → Type 0
ContentsComeBack service = (es : List Entry) → AreScripted es → contents (scripted_site service es).dag (scripted_state service es) ≡ es

-- and its export is the one that the script came from
abbrev pub ExportsComeBack : Service → Type 0
ExportsComeBack service = (bytes : List ℕ) (es : List Entry) → IsExport bytes es → length es ≤ most_entries →
    export_of (scripted_site service es).dag (scripted_state service es) ≡ bytes

-- an export of fewer bytes than a run takes is of no more entries than that
abbrev pub ShortExportsAreScripted : Type 0
ShortExportsAreScripted = (bytes : List ℕ) (es : List Entry) → IsExport bytes es → length bytes < 1099511627776 → length es ≤ most_entries

-- the state that arrived last is kept, so that it can be exported
abbrev pub ScriptedStateIsKept : Service → Type 0
ScriptedStateIsKept service = (es : List Entry) → AreScripted es →
    let site = scripted_site service es in
    IsTrue (is_kept site.dag site.collected (scripted_state service es))

-- the site keeps at most two states
abbrev pub keeps_few : Site → Bool
keeps_few site = nat_le (length (kept_states site.dag site.collected)) 2

-- so it is with the site, and with each to which these requests lead it one after another
abbrev pub all_keep_few : Service → Site → List Request → Bool
all_keep_few service site [] = keeps_few site
all_keep_few service site (q ∷ qs) = keeps_few site && all_keep_few service (service site 1 q).0 qs

-- however many entries there are, never more than two states are kept
abbrev pub FewStatesAreKept : Service → Type 0
FewStatesAreKept service = (es : List Entry) → AreScripted es → IsTrue (all_keep_few service lone_site (script es))

-- the name of the state of so many groups
abbrev pub numbered : ℕ → StateId
numbered ℕ.zero = root
numbered (ℕ.suc n) = 1 · ℕ.suc n

-- each group makes one state, so that the last one is named by how many there are
abbrev pub StatesAreNumbered : Service → Type 0
StatesAreNumbered service = (es : List Entry) → AreScripted es → scripted_state service es ≡ numbered (length (groups es))

-- ===== In bytes

-- what the frames of the script ask
abbrev pub script_events : List Entry → List Event
script_events es = map event_of (map body (script es))

-- the frames are cut into the bodies of the script's requests, with nothing behind; a site that is sent these comes to the same
-- state, and its reply to each is the spelling of the reply to the request; so it is however a run answers them, as long as no
-- reply says that memory is wanting
pub record FramesAsk (es : List Entry) : Type 0 where
  pub cut : IsCut (script_frames es) (map body (script es)) []
  pub site : state_after site_machine lone_site (script_events es) ≡ scripted_site step es
  pub answers : (place : ℕ) →
      reply_at site_machine lone_site (script_events es) place ≡ option_map reply_spelling (slice_get (replies step lone_site (script es)) place)
  pub runs : (told : List (List ℕ)) (last : Site) → Answers site_machine lone_site (script_events es) told last →
      IsFalse (list_any (bytes_eq no_memory) told) → (told ≡ map reply_spelling (replies step lone_site (script es))) × (last ≡ scripted_site step es)

-- so a run over the frames of a script is what the laws speak of
abbrev pub FramesAskTheScript : Type 0
FramesAskTheScript = (es : List Entry) → IsTrue (are_entries es) → FramesAsk es
