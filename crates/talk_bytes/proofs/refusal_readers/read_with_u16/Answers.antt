use Rattle.std.proofs.Common.{◌≡◌, ◌≢◌, ◌⊎◌, ℕ, List, Option, None, refl, inl, inr, arith}
use Rattle.tardis_base.specs.declared.replies.Refusal.TheVariants.{SessionsFull, BadSite}
use Rattle.tardis_base.specs.declared.replies.Refusal.{Refusal}
use Rattle.wire_item.specs.Fronts.{front_of_code}
use Rattle.wire_item.specs.Takings.{Takes}
use Rattle.wire_item.specs.Readings.{u16_front}
use Rattle.wire_talk.specs.ReplyReadings.{refusal_rows}
use Rattle.wire_talk.proofs.Arms.{arm-read, arm-lost}
use Rattle.talk_bytes.proofs.refusal_readers.read_with_u16.Goals as goal

-- where the fields are not there
lost : (code : ℕ) (old new : List ℕ) (r : Option Refusal) → (code ≡ 4) ⊎ (code ≡ 23)
    → r ≡ None → Takes u16_front old None new → Takes (front_of_code code refusal_rows) old r new
lost code old new r (inl e) none h = arm-lost refusal_rows 4 code SessionsFull u16_front old new r e refl none h
lost code old new r (inr e) none h = arm-lost refusal_rows 23 code BadSite u16_front old new r e refl none h

none-left : (code : ℕ) → (code ≡ 4) ⊎ (code ≡ 23) → (code ≢ 4) × (code ≢ 23) → ⊥
none-left code (inl e) n = n.0 e
none-left code (inr e) n = n.1 e

pub returns-in_err-number : goal.returns-in_err-number
returns-in_err-number c = lost c.args.code c.args.reader.now c.u16.new.self c.from_residual.result c.requires c.from_residual.ensures c.in_err-number.ensures

pub returns-in-4 : goal.returns-in-4
returns-in-4 c =
    arm-read refusal_rows 4 c.args.code SessionsFull u16_front c.args.reader.now c.in_ok-number.number c.u16.new.self c.in-4.is refl c.in_ok-number.ensures

pub returns-in-23 : goal.returns-in-23
returns-in-23 c =
    arm-read refusal_rows 23 c.args.code BadSite u16_front c.args.reader.now c.in_ok-number.number c.u16.new.self c.in-23.is refl c.in_ok-number.ensures

pub returns-in_default : goal.returns-in_default
returns-in_default c = absurd (none-left c.args.code c.requires ((λ e. omega (arith, e)), λ e. omega (arith, e)))
