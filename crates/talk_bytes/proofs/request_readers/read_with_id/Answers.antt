use Rattle.std.proofs.Common.{◌≡◌, ◌≢◌, ◌⊎◌, ℕ, refl, inl, inr, arith}
use Rattle.tardis_base.specs.declared.requests.Request.TheVariants.{Ceiling, Raise, Show}
use Rattle.wire_item.specs.Fronts.{front_of_code}
use Rattle.wire_item.specs.Takings.{Takes}
use Rattle.wire_item.specs.Readings.{id_front}
use Rattle.wire_talk.specs.RequestReadings.{request_rows}
use Rattle.wire_talk.proofs.Arms.{arm-read, arm-lost}
use Rattle.talk_bytes.proofs.request_readers.read_with_id.Goals as goal

none-left : (code : ℕ) → (code ≡ 12) ⊎ ((code ≡ 13) ⊎ (code ≡ 17)) → (code ≢ 12) × ((code ≢ 13) × (code ≢ 17)) → ⊥
none-left code (inl e) n = n.0 e
none-left code (inr (inl e)) n = n.1.0 e
none-left code (inr (inr e)) n = n.1.1 e

pub returns-in_err-state : goal.returns-in_err-state
returns-in_err-state c =
    let r = c.from_residual.result in
    let none = c.from_residual.ensures in
    elim c.requires as (λ _. Takes (front_of_code c.args.code request_rows) c.args.reader.now r c.id.new.self) [
      | inl e ↦ arm-lost request_rows 12 c.args.code Ceiling id_front c.args.reader.now c.id.new.self r e refl none c.in_err-state.ensures
      | inr x ↦ elim x as (λ _. Takes (front_of_code c.args.code request_rows) c.args.reader.now r c.id.new.self) [
        | inl e ↦ arm-lost request_rows 13 c.args.code Raise id_front c.args.reader.now c.id.new.self r e refl none c.in_err-state.ensures
        | inr e ↦ arm-lost request_rows 17 c.args.code Show id_front c.args.reader.now c.id.new.self r e refl none c.in_err-state.ensures
      ]
    ]

pub returns-in-12 : goal.returns-in-12
returns-in-12 c =
    arm-read request_rows 12 c.args.code Ceiling id_front c.args.reader.now c.in_ok-state.state c.id.new.self c.in-12.is refl c.in_ok-state.ensures

pub returns-in-13 : goal.returns-in-13
returns-in-13 c =
    arm-read request_rows 13 c.args.code Raise id_front c.args.reader.now c.in_ok-state.state c.id.new.self c.in-13.is refl c.in_ok-state.ensures

pub returns-in-17 : goal.returns-in-17
returns-in-17 c =
    arm-read request_rows 17 c.args.code Show id_front c.args.reader.now c.in_ok-state.state c.id.new.self c.in-17.is refl c.in_ok-state.ensures

pub returns-in_default : goal.returns-in_default
returns-in_default c = absurd (none-left c.args.code c.requires (λ e. omega (arith, e), (λ e. omega (arith, e), λ e. omega (arith, e))))
