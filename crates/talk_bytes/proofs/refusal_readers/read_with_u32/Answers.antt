use Rattle.std.proofs.Common.{◌≡◌, ◌≢◌, ◌⊎◌, ℕ, List, Option, None, refl, inl, inr, arith}
use Rattle.tardis_base.specs.declared.replies.Refusal.TheVariants.{Full, NoSuchItem, BagFull}
use Rattle.tardis_base.specs.declared.replies.Refusal.{Refusal}
use Rattle.wire_item.specs.Fronts.{front_of_code}
use Rattle.wire_item.specs.Takings.{Takes}
use Rattle.wire_item.specs.Readings.{u32_front}
use Rattle.wire_talk.specs.ReplyReadings.{refusal_rows}
use Rattle.wire_talk.proofs.Arms.{arm-read, arm-lost}
use Rattle.talk_bytes.proofs.refusal_readers.read_with_u32.Goals as goal

-- where the fields are not there
lost : (code : ℕ) (old new : List ℕ) (r : Option Refusal) → (code ≡ 20) ⊎ ((code ≡ 28) ⊎ (code ≡ 29))
    → r ≡ None → Takes u32_front old None new → Takes (front_of_code code refusal_rows) old r new
lost code old new r (inl e) none h = arm-lost refusal_rows 20 code Full u32_front old new r e refl none h
lost code old new r (inr (inl e)) none h = arm-lost refusal_rows 28 code NoSuchItem u32_front old new r e refl none h
lost code old new r (inr (inr e)) none h = arm-lost refusal_rows 29 code BagFull u32_front old new r e refl none h

none-left : (code : ℕ) → (code ≡ 20) ⊎ ((code ≡ 28) ⊎ (code ≡ 29)) → (code ≢ 20) × ((code ≢ 28) × (code ≢ 29)) → ⊥
none-left code (inl e) n = n.0 e
none-left code (inr (inl e)) n = n.1.0 e
none-left code (inr (inr e)) n = n.1.1 e

pub returns-in_err-number : goal.returns-in_err-number
returns-in_err-number c = lost c.args.code c.args.reader.now c.u32.new.self c.from_residual.result c.requires c.from_residual.ensures c.in_err-number.ensures

pub returns-in-20 : goal.returns-in-20
returns-in-20 c =
    arm-read refusal_rows 20 c.args.code Full u32_front c.args.reader.now c.in_ok-number.number c.u32.new.self c.in-20.is refl c.in_ok-number.ensures

pub returns-in-28 : goal.returns-in-28
returns-in-28 c =
    arm-read refusal_rows 28 c.args.code NoSuchItem u32_front c.args.reader.now c.in_ok-number.number c.u32.new.self c.in-28.is refl c.in_ok-number.ensures

pub returns-in-29 : goal.returns-in-29
returns-in-29 c =
    arm-read refusal_rows 29 c.args.code BagFull u32_front c.args.reader.now c.in_ok-number.number c.u32.new.self c.in-29.is refl c.in_ok-number.ensures

pub returns-in_default : goal.returns-in_default
returns-in_default c = absurd (none-left c.args.code c.requires ((λ e. omega (arith, e)), ((λ e. omega (arith, e)), λ e. omega (arith, e))))
