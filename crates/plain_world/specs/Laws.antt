-- What follows while the sites are honest, as statements. The functions of this crate have them as contracts.
use Rattle.std.specs.Prelude.{◌≡◌, ℕ, Bool, true, false, ◌==◌, ◌+◌, ◌&&◌, not, List, length, Some, IsTrue, IsFalse}
use Rattle.std.specs.List.{list_all}
use Rattle.std.specs.Option.{option_map_or}
use Rattle.tardis_base.specs.declared.ids.StateId.{StateId}
use Rattle.tardis_base.specs.declared.records.Limits.{Limits}
use Rattle.tardis_base.specs.declared.records.Record.{Record}
use Rattle.tardis_base.specs.declared.requests.Request.{Request}
use Rattle.tardis_base.specs.declared.requests.Request.TheVariants.{Deliver, Settle}
use Rattle.tardis_base.specs.declared.replies.Refusal.TheVariants.{Full, PathFull, BadSite, NoSuchItem}
use Rattle.tardis_base.specs.declared.replies.Reply.{Reply}
use Rattle.tardis_base.specs.declared.replies.Reply.TheVariants.{Done, Applied, Known, Early, Refused}
use Rattle.tardis_base.specs.Plain.{Event, Answers}
use Rattle.tardis_base.specs.Valid.{is_u16, is_within, are_limits}
use Rattle.wire_talk.specs.Valid.{is_request}
use Rattle.plain_dag.specs.States.{is_known, record_at, count_of_site}
use Rattle.plain_dag.specs.Floors.{is_closed}
use Rattle.plain_dag.specs.Writers.{read}
use Rattle.plain_site.specs.Site.{Site}
use Rattle.plain_site.specs.Exchange.{is_fit}
use Rattle.plain_world.specs.Worlds.{World, site_at, opening_world}
use Rattle.plain_world.specs.Bodies.{Body, StepAt, CarryTo, body_of}
use Rattle.plain_world.specs.Steps.{WorldAnswer, step_at, world_machine}
use Rattle.plain_world.specs.Honest.{IsHonest, IsOneOf}

-- ===== Honest worlds stay honest

-- a world that opens is honest
abbrev pub OpeningIsHonest : Type 0
OpeningIsHonest = (limits : Limits) → IsTrue (are_limits limits) → IsHonest (opening_world limits)

-- what a world does at a request of an actor at a site, and at a carry
abbrev pub Steps : Type 0
Steps = World → ℕ → ℕ → Request → WorldAnswer

abbrev pub Carries : Type 0
Carries = World → ℕ → ℕ → ℕ → WorldAnswer

-- a client delivers something, as no site does
abbrev pub is_delivery : Request → Bool
is_delivery (Deliver item) = true
is_delivery _ = false

-- each other step keeps the world honest
abbrev pub StepsKeepHonest : Steps → Type 0
StepsKeepHonest steps = (world : World) (n actor : ℕ) (q : Request) → IsTrue (is_u16 actor) → IsTrue (is_request q) → IsFalse (is_delivery q) → IsHonest world →
    IsHonest (steps world n actor q).0

-- and so does each carry: again, in any order, or never
abbrev pub CarriesKeepHonest : Carries → Type 0
CarriesKeepHonest carries = (world : World) (n batch item : ℕ) → IsHonest world → IsHonest (carries world n batch item).0

-- the bytes spell a delivery of a client
abbrev pub body_delivers : Body → Bool
body_delivers (StepAt site actor request) = is_delivery request
body_delivers (CarryTo site batch item) = false

abbrev pub is_forged : Event → Bool
is_forged event = option_map_or body_delivers (body_of event.1) false

-- so, whatever bodies are answered, memory's wants included
abbrev pub RunsStayHonest : Type 0
RunsStayHonest = (world after : World) (events : List Event) (replies : List (List ℕ)) → IsTrue (list_all (λ event. not (is_forged event)) events) →
    Answers world_machine world events replies after → IsHonest world → IsHonest after

-- ===== What a carry is answered

-- how an honest carry to site n, of so many, is answered
abbrev pub is_carry_reply : ℕ → ℕ → Reply → Bool
is_carry_reply sites n Applied = true
is_carry_reply sites n Known = true
is_carry_reply sites n (Early have) = true
is_carry_reply sites n (Refused (Full kept)) = true
is_carry_reply sites n (Refused (PathFull x pairs)) = true
is_carry_reply sites n (Refused (NoSuchItem batches)) = true
is_carry_reply sites n (Refused (BadSite m)) = m == n && not (is_within 1 sites n)
is_carry_reply sites n _ = false

-- a carry is answered so, and never that its item is a lie
abbrev pub CarriesAreTaken : Carries → Type 0
CarriesAreTaken carries = (world : World) (n batch item : ℕ) → IsHonest world →
    IsTrue (is_carry_reply (length world.sites) n (carries world n batch item).1)

-- ===== What the sites agree on

-- a state that is closed at one site is known at every site
abbrev pub ClosedAreKnown : World → Type 0
ClosedAreKnown world = (m n : ℕ) (a b : Site) (x : StateId) → site_at world.sites m ≡ Some a → site_at world.sites n ≡ Some b →
    IsTrue (is_closed a.dag a.floors x) → IsTrue (is_known b.dag x)

-- one id names one record
abbrev pub IdsNameOneRecord : World → Type 0
IdsNameOneRecord world = (m n : ℕ) (a b : Site) (x : StateId) (r s : Record) → site_at world.sites m ≡ Some a → site_at world.sites n ≡ Some b →
    record_at a.dag x ≡ Some r → record_at b.dag x ≡ Some s → r ≡ s

-- two sites with equal counts know the same states
abbrev pub EqualCountsKnowTheSame : World → Type 0
EqualCountsKnowTheSame world = (m n : ℕ) (a b : Site) → site_at world.sites m ≡ Some a → site_at world.sites n ≡ Some b →
    ((k : ℕ) → IsTrue (is_within 1 (length world.sites) k) → count_of_site a.dag k ≡ count_of_site b.dag k) →
    (x : StateId) → is_known a.dag x ≡ is_known b.dag x

-- a key is read the same at a state, wherever the state is known
abbrev pub ReadsAreTheSame : World → Type 0
ReadsAreTheSame world = (m n : ℕ) (a b : Site) (k : List ℕ) (x : StateId) → site_at world.sites m ≡ Some a → site_at world.sites n ≡ Some b →
    IsTrue (is_known a.dag x) → IsTrue (is_known b.dag x) → read a.dag k x ≡ read b.dag k x

-- ===== What waits

-- a record that waits is fit as soon as it is its site's next and its parents are known
abbrev pub NextOnesAreFit : World → Type 0
NextOnesAreFit world = (m : ℕ) (a : Site) (r : Record) → site_at world.sites m ≡ Some a → IsOneOf r a.waiting →
    r.id.sequence ≡ count_of_site a.dag r.id.site + 1 → IsTrue (list_all (is_known a.dag) r.parents) → IsTrue (is_fit a r)

-- how Settle is answered
abbrev pub is_settle_reply : Reply → Bool
is_settle_reply Applied = true
is_settle_reply Done = true
is_settle_reply (Refused (Full kept)) = true
is_settle_reply (Refused (PathFull x pairs)) = true
is_settle_reply _ = false

abbrev pub SettlesAreAnswered : World → Type 0
SettlesAreAnswered world = (n actor : ℕ) → IsTrue (is_within 1 (length world.sites) n) → IsTrue (is_settle_reply (step_at world n actor Settle).1)

-- all of that
pub record SitesAgree (world : World) : Type 0 where
  pub closed : ClosedAreKnown world
  pub records : IdsNameOneRecord world
  pub states : EqualCountsKnowTheSame world
  pub reads : ReadsAreTheSame world
