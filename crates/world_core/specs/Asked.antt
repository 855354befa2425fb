-- What bodies ask, with requests in bytes.
use Rattle.std.specs.Prelude.{ℕ, List, Option, Some, option_map}
use Rattle.std.specs.Option.{option_map_or}
use Rattle.tardis_base.specs.declared.replies.Refusal.TheVariants.{Malformed}
use Rattle.wire_talk.specs.RequestReadings.{request_of}
use Rattle.plain_world.specs.Worlds.{World}
use Rattle.plain_world.specs.Bodies.{Body, StepAt, CarryTo}
use Rattle.plain_world.specs.Steps.{WorldAnswer, declined, step_at}
use Rattle.world_core.specs.declared.bodies.Asked.{Asked}
use Rattle.world_core.specs.declared.bodies.Asked.TheVariants.{Step, Carry}

-- the body that asks so, where its request is one
abbrev pub body_asked : Asked → Option Body
body_asked (Step site actor request) = option_map (StepAt site actor) (request_of request.now)
body_asked (Carry to batch item) = Some (CarryTo to batch item)

-- a step at the site with this number; bytes that spell no request are malformed, also where there is no such site
abbrev pub step_over_bytes_at : World → ℕ → ℕ → List ℕ → WorldAnswer
step_over_bytes_at world n actor bytes = option_map_or (step_at world n actor) (request_of bytes) (declined world Malformed)
