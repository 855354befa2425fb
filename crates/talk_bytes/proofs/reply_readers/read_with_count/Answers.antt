use Rattle.std.proofs.Common.{◌≡◌, ◌≢◌, ◌⊎◌, ℕ, refl, inl, inr, arith}
use Rattle.tardis_base.specs.declared.replies.Reply.TheVariants.{Tidied, Early}
use Rattle.wire_item.specs.Fronts.{front_of_code}
use Rattle.wire_item.specs.Takings.{Takes}
use Rattle.wire_item.specs.Readings.{u32_front}
use Rattle.wire_talk.specs.ReplyReadings.{reply_rows}
use Rattle.wire_talk.proofs.Arms.{arm-read, arm-lost}
use Rattle.talk_bytes.proofs.reply_readers.read_with_count.Goals as goal

none-left : (code : ℕ) → (code ≡ 13) ⊎ (code ≡ 19) → (code ≢ 13) × (code ≢ 19) → ⊥
none-left code (inl e) n = n.0 e
none-left code (inr e) n = n.1 e

pub returns-in_err-count : goal.returns-in_err-count
returns-in_err-count c =
    let r = c.from_residual.result in
    let none = c.from_residual.ensures in
    elim c.requires as (λ _. Takes (front_of_code c.args.code reply_rows) c.args.reader.now r c.u32.new.self) [
      | inl e ↦ arm-lost reply_rows 13 c.args.code Tidied u32_front c.args.reader.now c.u32.new.self r e refl none c.in_err-count.ensures
      | inr e ↦ arm-lost reply_rows 19 c.args.code Early u32_front c.args.reader.now c.u32.new.self r e refl none c.in_err-count.ensures
    ]

pub returns-in-13 : goal.returns-in-13
returns-in-13 c = arm-read reply_rows 13 c.args.code Tidied u32_front c.args.reader.now c.in_ok-count.count c.u32.new.self c.in-13.is refl c.in_ok-count.ensures

pub returns-in-19 : goal.returns-in-19
returns-in-19 c = arm-read reply_rows 19 c.args.code Early u32_front c.args.reader.now c.in_ok-count.count c.u32.new.self c.in-19.is refl c.in_ok-count.ensures

pub returns-in_default : goal.returns-in_default
returns-in_default c = absurd (none-left c.args.code c.requires (λ e. omega (arith, e), λ e. omega (arith, e)))
