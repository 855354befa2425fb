-- What a world answers: each body is a step of one site, and each batch that a site gives joins the bag.
use Rattle.std.specs.Prelude.{ℕ, false, ◌==◌, List, [], ◌∷◌, ◌++◌, length, if◌then◌else◌}
use Rattle.std.specs.Option.{option_map_or}
use Rattle.tardis_base.specs.declared.requests.Request.{Request}
use Rattle.tardis_base.specs.declared.requests.Request.TheVariants.{Deliver}
use Rattle.tardis_base.specs.declared.replies.Refusal.{Refusal}
use Rattle.tardis_base.specs.declared.replies.Refusal.TheVariants.{Malformed, BadSite, NoSuchItem, BagFull}
use Rattle.tardis_base.specs.declared.replies.Reply.{Reply}
use Rattle.tardis_base.specs.declared.replies.Reply.TheVariants.{Batch as BatchIs, Refused}
use Rattle.tardis_base.specs.Plain.{PlainMachine}
use Rattle.wire_talk.specs.Spellings.{reply_spelling}
use Rattle.plain_site.specs.Site.{Site}
use Rattle.plain_site.specs.Answers.{Answer}
use Rattle.plain_site.specs.Step.{step}
use Rattle.plain_world.specs.Worlds.{World, site_at, with_site, most_batches, item_at}
use Rattle.plain_world.specs.Bodies.{Body, StepAt, CarryTo, body_of, is_sure_body}

-- the world after a body, and the reply
abbrev pub WorldAnswer : Type 0
WorldAnswer = World × Reply

-- a refusal, which leaves the world as it is
abbrev pub declined : World → Refusal → WorldAnswer
declined world refusal = (world, Refused refusal)

-- what one site does at a request of an actor
abbrev pub site_step : Site → ℕ → Request → Answer
site_step = step

-- the site with this number is now this one, and the reply is its own; a batch joins the bag, unless the bag is full
abbrev pub answered : World → ℕ → Site → Reply → WorldAnswer
answered world n site (BatchIs batch) =
    let batches = length world.bag in
    if batches == most_batches then declined world (BagFull batches)
    else (record { sites = with_site world.sites n site; bag = world.bag ++ batch ∷ [] }, BatchIs batch)
answered world n site reply = (record world { sites = with_site world.sites n site }, reply)

-- a request of an actor at a site
abbrev pub ask : World → ℕ → ℕ → Request → Site → WorldAnswer
ask world n actor q site =
    let answer = site_step site actor q in
    answered world n answer.0 answer.1

-- a step at the site with this number, if there is one
abbrev pub step_at : World → ℕ → ℕ → Request → WorldAnswer
step_at world n actor q = option_map_or (ask world n actor q) (site_at world.sites n) (declined world (BadSite n))

-- an item that is carried to a site is delivered there by actor 0
abbrev pub carry : World → ℕ → ℕ → ℕ → Site → WorldAnswer
carry world n batch item site =
    option_map_or (λ i. ask world n 0 (Deliver i) site) (item_at world.bag batch item) (declined world (NoSuchItem (length world.bag)))

-- a carry to the site with this number, if there is one
abbrev pub carry_to : World → ℕ → ℕ → ℕ → WorldAnswer
carry_to world n batch item = option_map_or (carry world n batch item) (site_at world.sites n) (declined world (BadSite n))

-- ===== Bodies

abbrev pub world_step : World → Body → WorldAnswer
world_step world (StepAt n actor q) = step_at world n actor q
world_step world (CarryTo n batch item) = carry_to world n batch item

-- bytes that spell neither are malformed
abbrev pub step_over_body : World → List ℕ → WorldAnswer
step_over_body world body = option_map_or (world_step world) (body_of body) (declined world Malformed)

-- the world as a machine over bodies; its events have no actor of their own
abbrev pub world_machine : PlainMachine World
world_machine =
    record {
      step = λ world event. (step_over_body world event.1).0;
      reply = λ world event. reply_spelling (step_over_body world event.1).1;
      is_sure = λ event. option_map_or is_sure_body (body_of event.1) false;
    }
