-- Words for worked rows: lines of requests and replies, as a shell would show them.
use Rattle.std.specs.Prelude.{◌≡◌, ℕ, true, false, ◌+◌, List, [], ◌∷◌, map, codes}
use Prim.Native.String.{String}
use Rattle.tardis_base.specs.declared.ids.StateId.{StateId}
use Rattle.tardis_base.specs.declared.records.Limits.{Limits}
use Rattle.tardis_base.specs.declared.requests.Begin.TheVariants.{Any, Ancestor, Parent, At}
use Rattle.tardis_base.specs.declared.requests.MergeOf.TheVariants.{Leaves as AllLeaves, States as TheseStates}
use Rattle.tardis_base.specs.declared.requests.Request.{Request}
use Rattle.tardis_base.specs.declared.requests.Request.TheVariants.{Open, Begin, Get, Put, Commit, BeginMerge, Conflicts, GetFor}
use Rattle.tardis_base.specs.declared.replies.Reply.{Reply}
use Rattle.tardis_base.specs.declared.replies.Reply.TheVariants.{Value, Keys}
use Rattle.plain_site.specs.Site.{Site, opening}
use Rattle.plain_site.specs.Step.{step}

infix 90 ◌·◌
infix 80 ◌asks◌=>◌
-- ===== Lines

-- the state of a site with this sequence
abbrev pub ◌·◌ : ℕ → ℕ → StateId
site · sequence = record { site = site; sequence = sequence }

-- what an actor asks, and the reply
pub record Line : Type 0 where
  pub actor : ℕ
  pub request : Request
  pub reply : Reply

abbrev pub ◌asks◌=>◌ : ℕ → Request → Reply → Line
actor asks request => reply = record { actor = actor; request = request; reply = reply }

-- the replies to the requests of these lines, one after another
abbrev pub replies : Site → List Line → List Reply
replies site [] = []
replies site (line ∷ lines) =
    let answer = step site line.actor line.request in
    answer.1 ∷ replies answer.0 lines

-- the site after the requests of these lines
abbrev pub site_after : Site → List Line → Site
site_after site [] = site
site_after site (line ∷ lines) = site_after (step site line.actor line.request).0 lines

-- each line has the reply to its request, at the site after the lines before it
abbrev pub Talk : Site → List Line → Type 0
Talk site lines = replies site lines ≡ map (λ line. line.reply) lines

-- ===== Sites

-- the limits of the program, with so many sites
abbrev pub program_limits : ℕ → Limits
program_limits sites = record { sites = sites; max_kept = 16384; max_path = 4096; max_sessions = 256; max_trail = 1073741824 }

-- the only site, as it opens
abbrev pub lone_site : Site
lone_site = opening (program_limits 1) 1

-- ===== Requests

abbrev pub opens : Request
opens = Open false

abbrev pub opens_following : Request
opens_following = Open true

abbrev pub begin_any : Request
begin_any = Begin Any

abbrev pub begin_ancestor : Request
begin_ancestor = Begin Ancestor

abbrev pub begin_parent : Request
begin_parent = Begin Parent

abbrev pub begin_at : StateId → Request
begin_at x = Begin (At x)

abbrev pub get : String → Request
get key = Get (codes key)

abbrev pub put : String → String → Request
put key value = Put (codes key) (codes value)

-- the bits of the end constraints
abbrev pub none : ℕ
none = 0

abbrev pub ser : ℕ
ser = 1

abbrev pub si : ℕ
si = 2

abbrev pub nb : ℕ
nb = 4

abbrev pub kb : ℕ
kb = 8

-- commit with these end constraints, KB not among them
abbrev pub commit : ℕ → Request
commit flags = Commit (record { 0 = flags }) 0

-- commit with these end constraints and KB with so many branches
abbrev pub commit_kb : ℕ → ℕ → Request
commit_kb flags branches = Commit (record { 0 = flags + kb }) branches

abbrev pub merge_leaves : Request
merge_leaves = BeginMerge AllLeaves

abbrev pub merge : List StateId → Request
merge states = BeginMerge (TheseStates states)

abbrev pub conflicts : Request
conflicts = Conflicts []

abbrev pub get_for : String → StateId → Request
get_for key x = GetFor (codes key) x

-- ===== Replies

abbrev pub value : StateId → String → Reply
value writer bytes = Value writer (codes bytes)

abbrev pub one_key : String → Reply
one_key key = Keys 1 (codes key ∷ [])
