-- What a world is asked, as things and as bytes.
use Rattle.std.specs.Prelude.{ℕ, Bool, false, List, [], ◌∷◌, Option}
use Rattle.tardis_base.specs.declared.requests.Request.{Request}
use Rattle.wire_item.specs.Fronts.{Front, made, both, by_code, whole}
use Rattle.wire_item.specs.Readings.{u16_front, u32_front}
use Rattle.wire_talk.specs.RequestReadings.{request_front}
use Rattle.plain_site.specs.Step.{is_sure}

-- a request of an actor at a site; or an item of a batch that is carried to a site
pub data Body : Type 0 where
  StepAt : (site actor : ℕ) (request : Request) → Body
  CarryTo : (site batch item : ℕ) → Body

-- a u16 for the site, a u16 for the actor, and the request
abbrev pub step_front : Front Body
step_front = made (λ p. StepAt p.0 p.1.0 p.1.1) (both u16_front (both u16_front request_front))

-- a u16 for the site, a u32 for the batch, a u32 for the item
abbrev pub carry_front : Front Body
carry_front = made (λ p. CarryTo p.0 p.1.0 p.1.1) (both u16_front (both u32_front u32_front))

-- 1 stands before a step, 2 before a carry
abbrev pub body_rows : List (ℕ × Front Body)
body_rows = (1, step_front) ∷ (2, carry_front) ∷ []

-- what the bytes spell
abbrev pub body_of : List ℕ → Option Body
body_of bytes = whole (by_code body_rows) bytes

-- a request that memory can't fail
abbrev pub is_sure_body : Body → Bool
is_sure_body (StepAt site actor request) = is_sure request
is_sure_body (CarryTo site batch item) = false
