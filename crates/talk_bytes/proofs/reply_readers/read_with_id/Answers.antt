use Rattle.std.proofs.Common.{◌≡◌, ◌≢◌, ◌⊎◌, ℕ, refl, inl, inr, arith}
use Rattle.tardis_base.specs.declared.replies.Reply.TheVariants.{Opened, Begun, Deleted, Ended}
use Rattle.wire_item.specs.Fronts.{front_of_code}
use Rattle.wire_item.specs.Takings.{Takes}
use Rattle.wire_item.specs.Readings.{id_front}
use Rattle.wire_talk.specs.ReplyReadings.{reply_rows}
use Rattle.wire_talk.proofs.Arms.{arm-read, arm-lost}
use Rattle.talk_bytes.proofs.reply_readers.read_with_id.Goals as goal

none-left : (code : ℕ) → (code ≡ 1) ⊎ ((code ≡ 2) ⊎ ((code ≡ 5) ⊎ (code ≡ 9))) → (code ≢ 1) × ((code ≢ 2) × ((code ≢ 5) × (code ≢ 9))) → ⊥
none-left code (inl e) n = n.0 e
none-left code (inr (inl e)) n = n.1.0 e
none-left code (inr (inr (inl e))) n = n.1.1.0 e
none-left code (inr (inr (inr e))) n = n.1.1.1 e

pub returns-in_err-id : goal.returns-in_err-id
returns-in_err-id c =
    let r = c.from_residual.result in
    let none = c.from_residual.ensures in
    elim c.requires as (λ _. Takes (front_of_code c.args.code reply_rows) c.args.reader.now r c.id.new.self) [
      | inl e ↦ arm-lost reply_rows 1 c.args.code Opened id_front c.args.reader.now c.id.new.self r e refl none c.in_err-id.ensures
      | inr x ↦ elim x as (λ _. Takes (front_of_code c.args.code reply_rows) c.args.reader.now r c.id.new.self) [
        | inl e ↦ arm-lost reply_rows 2 c.args.code Begun id_front c.args.reader.now c.id.new.self r e refl none c.in_err-id.ensures
        | inr y ↦ elim y as (λ _. Takes (front_of_code c.args.code reply_rows) c.args.reader.now r c.id.new.self) [
          | inl e ↦ arm-lost reply_rows 5 c.args.code Deleted id_front c.args.reader.now c.id.new.self r e refl none c.in_err-id.ensures
          | inr e ↦ arm-lost reply_rows 9 c.args.code Ended id_front c.args.reader.now c.id.new.self r e refl none c.in_err-id.ensures
        ]
      ]
    ]

pub returns-in-1 : goal.returns-in-1
returns-in-1 c = arm-read reply_rows 1 c.args.code Opened id_front c.args.reader.now c.in_ok-id.id c.id.new.self c.in-1.is refl c.in_ok-id.ensures

pub returns-in-2 : goal.returns-in-2
returns-in-2 c = arm-read reply_rows 2 c.args.code Begun id_front c.args.reader.now c.in_ok-id.id c.id.new.self c.in-2.is refl c.in_ok-id.ensures

pub returns-in-5 : goal.returns-in-5
returns-in-5 c = arm-read reply_rows 5 c.args.code Deleted id_front c.args.reader.now c.in_ok-id.id c.id.new.self c.in-5.is refl c.in_ok-id.ensures

pub returns-in-9 : goal.returns-in-9
returns-in-9 c = arm-read reply_rows 9 c.args.code Ended id_front c.args.reader.now c.in_ok-id.id c.id.new.self c.in-9.is refl c.in_ok-id.ensures

pub returns-in_default : goal.returns-in_default
returns-in_default c =
    absurd (none-left c.args.code c.requires (λ e. omega (arith, e), (λ e. omega (arith, e), (λ e. omega (arith, e), λ e. omega (arith, e)))))
