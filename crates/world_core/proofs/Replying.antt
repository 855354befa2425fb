-- What becomes of the world when one of its sites answered.
use Rattle.std.proofs.Common.{◌≡◌, ℕ, ◌+◌, Bool, true, false, ◌==◌, IsTrue, IsOk, ◌⊎◌, inl, inr, List, [], ◌∷◌, ◌++◌, length, slice_get, slice_set, Option}
use Rattle.std.proofs.Common.{Some, None, Result, Ok, Err, refl, ap, sym, ◌∙◌, subst, if◌then◌else◌}
use Rattle.std.specs.Option.{option_map_or}
use Rattle.std.specs.Prelude.{option_map}
use Rattle.tardis_base.specs.declared.faults.NoMemory.{NoMemory}
use Rattle.tardis_base.specs.declared.records.Batch.{Batch}
use Rattle.tardis_base.specs.declared.records.Item.{Item}
use Rattle.tardis_base.specs.declared.requests.Request.{Request}
use Rattle.tardis_base.specs.declared.requests.Request.TheVariants.{Open, Begin, Get, Put, Delete, Commit, Abort, BeginMerge, ForkPoints, Conflicts, GetFor}
use Rattle.tardis_base.specs.declared.requests.Request.TheVariants.{Ceiling, Raise, RaiseAuto, Tidy, Stat, Show, Leaves, Pull, Deliver, Settle, Close}
use Rattle.tardis_base.specs.declared.replies.Refusal.TheVariants.{Malformed, BadSite, BagFull, NoSuchItem}
use Rattle.tardis_base.specs.declared.replies.Reply.{Reply}
use Rattle.tardis_base.specs.declared.replies.Reply.TheVariants.{Opened, Begun, Merging, Value as ValueIs, Deleted, Absent, Done, Committed, Ended, States}
use Rattle.tardis_base.specs.declared.replies.Reply.TheVariants.{Keys, Raised, Tidied, Stat as Statistics, Shown, Batch as BatchIs, Applied, Known, Early}
use Rattle.tardis_base.specs.declared.replies.Reply.TheVariants.{Closed, Refused, NoMemory as Wanting}
use Rattle.wire_item.specs.Valid.{is_batch}
use Rattle.wire_talk.specs.Memory.{takes_no_memory}
use Rattle.wire_talk.specs.RequestReadings.{request_of}
use Rattle.wire_talk.specs.Spellings.{reply_spelling}
use Rattle.wire_talk.specs.Valid.{is_reply}
use Rattle.plain_site.specs.Site.{Site}
use Rattle.plain_site.specs.Answers.{Answer, refused, given}
use Rattle.plain_site.specs.Sound.{IsSound}
use Rattle.plain_site.specs.Step.{step, step_over_bytes, is_sure}
use Rattle.plain_site.specs.Laws.{RepliesToBytesFit}
use Rattle.plain_world.specs.Worlds.{World, site_at, with_site, most_batches, item_at}
use Rattle.plain_world.specs.Bodies.{StepAt, CarryTo, body_of, is_sure_body}
use Rattle.plain_world.specs.Steps.{WorldAnswer, declined, answered, ask, step_at, carry, carry_to, world_step, step_over_body}
use Rattle.world_core.specs.Asked.{step_over_bytes_at}
use Rattle.world_core.specs.Held.{AllStand, WorldStands}
use Rattle.world_core.specs.Gives.{WorldGives, is_batch_reply, Joined, JoinedWhere}
use Rattle.world_core.proofs.Lists.{false_is_not_true}
use Rattle.world_core.proofs.Batches.{judged}
use Rattle.world_core.proofs.Standing.{all_set, set_same, site_there, set_there}

-- a reply is a batch or none
batch_or_none : (reply : Reply) → (is_batch_reply reply ≡ false) ⊎ ((b : Batch) × (reply ≡ BatchIs b))
batch_or_none (Opened ceiling) = inl refl
batch_or_none (Begun state) = inl refl
batch_or_none (Merging states) = inl refl
batch_or_none (ValueIs writer value) = inl refl
batch_or_none (Deleted writer) = inl refl
batch_or_none Absent = inl refl
batch_or_none Done = inl refl
batch_or_none (Committed id parents) = inl refl
batch_or_none (Ended state) = inl refl
batch_or_none (States total first) = inl refl
batch_or_none (Keys total first) = inl refl
batch_or_none (Raised floor number) = inl refl
batch_or_none (Tidied collected) = inl refl
batch_or_none (Statistics known kept leaves sessions sites) = inl refl
batch_or_none (Shown arrival children path) = inl refl
batch_or_none (BatchIs batch) = inr (batch, refl)
batch_or_none Applied = inl refl
batch_or_none Known = inl refl
batch_or_none (Early have) = inl refl
batch_or_none Closed = inl refl
batch_or_none (Refused refusal) = inl refl
batch_or_none Wanting = inl refl

answered_other : (world : World) (n : ℕ) (site : Site) (reply : Reply) → is_batch_reply reply ≡ false → answered world n site reply
    ≡ (record world { sites = with_site world.sites n site }, reply)
answered_other world n site (Opened ceiling) e = refl
answered_other world n site (Begun state) e = refl
answered_other world n site (Merging states) e = refl
answered_other world n site (ValueIs writer value) e = refl
answered_other world n site (Deleted writer) e = refl
answered_other world n site Absent e = refl
answered_other world n site Done e = refl
answered_other world n site (Committed id parents) e = refl
answered_other world n site (Ended state) e = refl
answered_other world n site (States total first) e = refl
answered_other world n site (Keys total first) e = refl
answered_other world n site (Raised floor number) e = refl
answered_other world n site (Tidied collected) e = refl
answered_other world n site (Statistics known kept leaves sessions sites) e = refl
answered_other world n site (Shown arrival children path) e = refl
answered_other world n site (BatchIs batch) e = absurd (cc)
answered_other world n site Applied e = refl
answered_other world n site Known e = refl
answered_other world n site (Early have) e = refl
answered_other world n site Closed e = refl
answered_other world n site (Refused refusal) e = refl
answered_other world n site Wanting e = refl

-- ===== Steps

step_given : (world : World) (i actor : ℕ) (site : Site) → slice_get world.sites i ≡ Some site → (o : Option Request)
    → option_map_or (step_at world (i + 1) actor) o (declined world Malformed)
    ≡ answered world (i + 1) (given o (refused site Malformed) (step site actor)).0 (given o (refused site Malformed) (step site actor)).1
step_given world i actor site there None = ap (λ s. (record world { sites = s }, Refused Malformed))
    (sym (set_there world.sites i site ∙ set_same world.sites i site there))
step_given world i actor site there (Some q) = ap (λ o. option_map_or (ask world (i + 1) actor q) o (declined world (BadSite (i + 1))))
    (site_there world.sites i ∙ there)

step_is : (world : World) (i actor : ℕ) (bytes : List ℕ) (site : Site) → slice_get world.sites i ≡ Some site
    → step_over_bytes_at world (i + 1) actor bytes ≡ answered world (i + 1) (step_over_bytes site (actor, bytes)).0 (step_over_bytes site (actor, bytes)).1
step_is world i actor bytes site there = step_given world i actor site there (request_of bytes)

-- ===== What is gathered

-- what gathering does to a reply
pub record Gathers (old new : List Batch) (result : Result (Unit {0}) NoMemory) (told out : List ℕ) : Type 0 where
  pub other : (reply : Reply) → told ≡ reply_spelling reply → is_batch_reply reply ≡ false → IsOk result × (new ≡ old) × (out ≡ told)
  pub batch : (batch : Batch) → told ≡ reply_spelling (BatchIs batch) → IsTrue (is_batch batch) → Joined old new batch result out

-- a request that memory can't fail is gathered
pub surely_gathered : (old new : List Batch) (actor : ℕ) (bytes : List ℕ) (site : Site) (result : Result (Unit {0}) NoMemory) (told out : List ℕ)
    → told ≡ reply_spelling (step_over_bytes site (actor, bytes)).1 → Gathers old new result told out → option_map_or is_sure (request_of bytes) false
    ≡ true → IsOk result
surely_gathered old new actor bytes site result told out is gathers sure =
    (gathers.other (step_over_bytes site (actor, bytes)).1 is ((judged site actor bytes).other sure)).0

-- ===== What is held

module _ {S : Type 0} (stands : S → Site → Type 0) where
  -- a site took a step, or none
  pub stepped : (cores : List S) (bag : List Batch) (world : World) (i : ℕ) (core : S) (site : Site) →
      WorldStands stands (record { sites = cores; bag = bag }) world → stands core site
      → (new : List Batch) (all : List Batch) → new ≡ all → WorldStands stands (record { sites = slice_set cores i core; bag = new })
      (record { sites = with_site world.sites (i + 1) site; bag = all })
  stepped cores bag world i core site held one new all e = record {
    sites = subst (λ s. AllStand stands (slice_set cores i core) s) (sym (set_there world.sites i site)) (all_set stands cores world.sites i core site held.sites one);
    bag = e;
  }

  pub unchanged : (cores : List S) (bag : List Batch) (world : World) (i : ℕ) (core : S) (site : Site) →
      WorldStands stands (record { sites = cores; bag = bag }) world → slice_get world.sites i ≡ Some site → stands core site
      → (new : List Batch) → new ≡ bag → WorldStands stands (record { sites = slice_set cores i core; bag = new }) world
  unchanged cores bag world i core site held there one new e = record {
    sites = subst (λ s. AllStand stands (slice_set cores i core) s) (set_same world.sites i site there) (all_set stands cores world.sites i core site held.sites one);
    bag = e ∙ held.bag;
  }

  other_gives : (cores : List S) (old new : List Batch) (world : World) (i : ℕ) (core : S) (answer : Answer) (result : Result (Unit {0}) NoMemory)
      (told out : List ℕ)
      → WorldStands stands (record { sites = cores; bag = old }) world → stands core answer.0 → told ≡ reply_spelling answer.1 → IsOk result × (new ≡ old)
      × (out ≡ told)
      → WorldGives (WorldStands stands (record { sites = slice_set cores i core; bag = new })) (
        record world { sites = with_site world.sites (i + 1) answer.0 },
        answer.1,
      ) world result out
  other_gives cores old new world i core answer (Ok done) told out held one is r =
      (stepped cores old world i core answer.0 held one new world.bag (r.1 ∙ held.bag), r.2 ∙ is)
  other_gives cores old new world i core answer (Err e) told out held one is r = absurd (false_is_not_true r.0)

  joined_gives : (cores : List S) (old new : List Batch) (world : World) (i : ℕ) (core : S) (site next : Site) (b : Batch) (out : List ℕ) (t : Bool)
      → WorldStands stands (record { sites = cores; bag = old }) world → slice_get world.sites i ≡ Some site → stands core next → next ≡ site →
      JoinedWhere t world.bag new b out
      → WorldGives {E = NoMemory} (WorldStands stands (record { sites = slice_set cores i core; bag = new }))
      (if t then declined world (BagFull (length world.bag)) else (
        record { sites = with_site world.sites (i + 1) next; bag = world.bag ++ b ∷ [] },
        BatchIs b,
      )) world (Ok tt) out
  joined_gives cores old new world i core site next b out true held there one same j =
      (unchanged cores old world i core site held there (subst (λ s. stands core s) same one) new (j.0 ∙ sym held.bag), j.1)
  joined_gives cores old new world i core site next b out false held there one same j =
      (stepped cores old world i core next held one new (world.bag ++ b ∷ []) j.0, j.1)

  batch_gives : (cores : List S) (old new : List Batch) (world : World) (i : ℕ) (core : S) (site next : Site) (b : Batch)
      (result : Result (Unit {0}) NoMemory) (out : List ℕ)
      → WorldStands stands (record { sites = cores; bag = old }) world → slice_get world.sites i ≡ Some site → stands core next → next ≡ site →
      Joined old new b result out
      → WorldGives (WorldStands stands (record { sites = slice_set cores i core; bag = new })) (answered world (i + 1) next (BatchIs b)) world result out
  batch_gives cores old new world i core site next b (Ok done) out held there one same j =
      joined_gives cores old new world i core site next b out (length world.bag == most_batches) held there one same
      (subst (λ bag. JoinedWhere (length bag == most_batches) bag new b out) held.bag j)
  batch_gives cores old new world i core site next b (Err e) out held there one same j =
      (unchanged cores old world i core site held there (subst (λ s. stands core s) same one) new j.0, j.1)

  -- the answer of a site that is there, and what was gathered of it
  pub acted : (cores : List S) (old new : List Batch) (world : World) (i actor : ℕ) (bytes : List ℕ) (core : S) (site : Site)
      (result : Result (Unit {0}) NoMemory) (told out : List ℕ)
      → WorldStands stands (record { sites = cores; bag = old }) world → slice_get world.sites i ≡ Some site → IsSound site → RepliesToBytesFit
      → stands core (step_over_bytes site (actor, bytes)).0 → told ≡ reply_spelling (step_over_bytes site (actor, bytes)).1 → Gathers old new result told out
      → WorldGives (WorldStands stands (record { sites = slice_set cores i core; bag = new })) (step_over_bytes_at world (i + 1) actor bytes) world result out
  acted cores old new world i actor bytes core site result told out held there sound fit one is gathers =
      subst (λ a. WorldGives (WorldStands stands (record { sites = slice_set cores i core; bag = new })) a world result out)
      (sym (step_is world i actor bytes site there))
      (by-reply (step_over_bytes site (actor, bytes)).1 refl (batch_or_none (step_over_bytes site (actor, bytes)).1))
    where
      by-reply : (reply : Reply) → (step_over_bytes site (actor, bytes)).1 ≡ reply → (is_batch_reply reply ≡ false) ⊎ ((b : Batch) × (reply ≡ BatchIs b))
          → WorldGives (WorldStands stands (record { sites = slice_set cores i core; bag = new }))
          (answered world (i + 1) (step_over_bytes site (actor, bytes)).0 (step_over_bytes site (actor, bytes)).1) world result out
      by-reply reply e (inl none) =
          let no : is_batch_reply (step_over_bytes site (actor, bytes)).1 ≡ false = ap is_batch_reply e ∙ none in
          subst (λ a. WorldGives (WorldStands stands (record { sites = slice_set cores i core; bag = new })) a world result out)
          (sym (answered_other world (i + 1) (step_over_bytes site (actor, bytes)).0 (step_over_bytes site (actor, bytes)).1 no))
          (other_gives cores old new world i core (step_over_bytes site (actor, bytes)) result told out held one is
          (gathers.other (step_over_bytes site (actor, bytes)).1 is no))
      by-reply reply e (inr some) =
          let f = e ∙ some.1 in
          subst (λ r. WorldGives (WorldStands stands (record { sites = slice_set cores i core; bag = new }))
          (answered world (i + 1) (step_over_bytes site (actor, bytes)).0 r) world result out) (sym f)
          (batch_gives cores old new world i core site (step_over_bytes site (actor, bytes)).0 some.0 result out held there one
          ((judged site actor bytes).leaves (ap is_batch_reply f))
          (gathers.batch some.0 (is ∙ ap reply_spelling f) (subst (λ r. IsTrue (is_reply r)) f (fit.valid site (actor, bytes) sound))))

-- ===== Sites that aren't there

pub no_request : (world : World) (n actor : ℕ) (bytes : List ℕ) → request_of bytes ≡ None → step_over_bytes_at world n actor bytes ≡ declined world Malformed
no_request world n actor bytes e = ap (λ o. option_map_or (step_at world n actor) o (declined world Malformed)) e

pub bad_site : (world : World) (n actor : ℕ) (bytes : List ℕ) (q : Request) → request_of bytes ≡ Some q → site_at world.sites n ≡ None →
    step_over_bytes_at world n actor bytes ≡ declined world (BadSite n)
bad_site world n actor bytes q e none =
    ap (λ o. option_map_or (step_at world n actor) o (declined world Malformed)) e
    ∙ ap (λ o. option_map_or (ask world n actor q) o (declined world (BadSite n))) none

sure_takes_none : (q : Request) → is_sure q ≡ true → IsTrue (takes_no_memory q)
sure_takes_none (Open follow) e = refl
sure_takes_none (Begin b) e = refl
sure_takes_none (Get k) e = absurd (cc)
sure_takes_none (Put k v) e = absurd (cc)
sure_takes_none (Delete k) e = absurd (cc)
sure_takes_none (Commit flags k) e = refl
sure_takes_none Abort e = refl
sure_takes_none (BeginMerge of) e = absurd (cc)
sure_takes_none ForkPoints e = refl
sure_takes_none (Conflicts after) e = absurd (cc)
sure_takes_none (GetFor k x) e = absurd (cc)
sure_takes_none (Ceiling x) e = refl
sure_takes_none (Raise x) e = refl
sure_takes_none RaiseAuto e = refl
sure_takes_none (Tidy count) e = refl
sure_takes_none Stat e = refl
sure_takes_none (Show x) e = refl
sure_takes_none Leaves e = refl
sure_takes_none (Pull counts) e = absurd (cc)
sure_takes_none (Deliver item) e = absurd (cc)
sure_takes_none Settle e = refl
sure_takes_none Close e = refl

-- a request that memory can't fail is read
pub surely_read : {P : Type 0} (bytes : List ℕ) → option_map_or is_sure (request_of bytes) false ≡ true →
    ((q : Request) → request_of bytes ≡ Some q → IsTrue (takes_no_memory q) → ⊥) → P
surely_read {P} bytes sure none = go (request_of bytes) refl sure
  where
    go : (o : Option Request) → request_of bytes ≡ o → option_map_or is_sure o false ≡ true → P
    go None e s = absurd (cc)
    go (Some q) e s = absurd (none q e (sure_takes_none q s))

-- ===== Carries

pub carry_none : (world : World) (n batch item : ℕ) → site_at world.sites n ≡ None → carry_to world n batch item ≡ declined world (BadSite n)
carry_none world n batch item e = ap (λ o. option_map_or (carry world n batch item) o (declined world (BadSite n))) e

pub carry_is : (world : World) (n batch item : ℕ) (bytes : List ℕ) (x : Item) → request_of bytes ≡ Some (Deliver x) → item_at world.bag batch item ≡ Some x
    → step_over_bytes_at world n 0 bytes ≡ carry_to world n batch item
carry_is world n batch item bytes x e there = ap (λ o. option_map_or (step_at world n 0) o (declined world Malformed)) e ∙ by-site (site_at world.sites n)
  where
    by-site : (o : Option Site) → option_map_or (ask world n 0 (Deliver x)) o (declined world (BadSite n))
        ≡ option_map_or (carry world n batch item) o (declined world (BadSite n))
    by-site None = refl
    by-site (Some site) = sym (ap (λ i. option_map_or (λ y. ask world n 0 (Deliver y) site) i (declined world (NoSuchItem (length world.bag)))) there)

pub carry_missing : (world : World) (i batch item : ℕ) (site : Site) → slice_get world.sites i ≡ Some site → item_at world.bag batch item ≡ None →
    carry_to world (i + 1) batch item ≡ declined world (NoSuchItem (length world.bag))
carry_missing world i batch item site there none =
    ap (λ o. option_map_or (carry world (i + 1) batch item) o (declined world (BadSite (i + 1)))) (site_there world.sites i ∙ there)
    ∙ ap (λ o. option_map_or (λ y. ask world (i + 1) 0 (Deliver y) site) o (declined world (NoSuchItem (length world.bag)))) none

-- ===== Bodies

pub step_body : (world : World) (n actor : ℕ) (o : Option Request) →
    option_map_or (world_step world) (option_map (StepAt n actor) o) (declined world Malformed)
    ≡ option_map_or (step_at world n actor) o (declined world Malformed)
step_body world n actor None = refl
step_body world n actor (Some q) = refl

pub sure_body : (n actor : ℕ) (o : Option Request) → option_map_or is_sure_body (option_map (StepAt n actor) o) false ≡ option_map_or is_sure o false
sure_body n actor None = refl
sure_body n actor (Some q) = refl

pub body_step : (world : World) (body bytes : List ℕ) (n actor : ℕ) → body_of body ≡ option_map (StepAt n actor) (request_of bytes) →
    step_over_body world body ≡ step_over_bytes_at world n actor bytes
body_step world body bytes n actor e = ap (λ o. option_map_or (world_step world) o (declined world Malformed)) e ∙ step_body world n actor (request_of bytes)

pub body_carry : (world : World) (body : List ℕ) (n batch item : ℕ) → body_of body ≡ Some (CarryTo n batch item) → step_over_body world body
    ≡ carry_to world n batch item
body_carry world body n batch item e = ap (λ o. option_map_or (world_step world) o (declined world Malformed)) e

pub body_none : (world : World) (body : List ℕ) → body_of body ≡ None → step_over_body world body ≡ declined world Malformed
body_none world body e = ap (λ o. option_map_or (world_step world) o (declined world Malformed)) e

pub body_sure : (body bytes : List ℕ) (n actor : ℕ) → body_of body ≡ option_map (StepAt n actor) (request_of bytes) →
    option_map_or is_sure_body (body_of body) false ≡ option_map_or is_sure (request_of bytes) false
body_sure body bytes n actor e = ap (λ o. option_map_or is_sure_body o false) e ∙ sure_body n actor (request_of bytes)

-- ===== Weaker

pub gives_weaker : {E : Type 0} (P Q : World → Type 0) (answer : WorldAnswer) (old : World) (result : Result (Unit {0}) E) (out : List ℕ) →
    ((w : World) → P w → Q w) → WorldGives P answer old result out → WorldGives Q answer old result out
gives_weaker P Q answer old (Ok done) out f g = (f answer.0 g.0, g.1)
gives_weaker P Q answer old (Err e) out f g = (f old g.0, g.1)
