use Rattle.std.proofs.Common.{◌≡◌, ◌≢◌, ◌⊎◌, ℕ, List, Option, None, refl, inl, inr, arith}
use Rattle.tardis_base.specs.declared.replies.Refusal.TheVariants.{Unknown, NotRead, CeilingBack, FloorBack, Collected, ClosedParent}
use Rattle.tardis_base.specs.declared.replies.Refusal.{Refusal}
use Rattle.wire_item.specs.Fronts.{front_of_code}
use Rattle.wire_item.specs.Takings.{Takes}
use Rattle.wire_item.specs.Readings.{id_front}
use Rattle.wire_talk.specs.ReplyReadings.{refusal_rows}
use Rattle.wire_talk.proofs.Arms.{arm-read, arm-lost}
use Rattle.talk_bytes.proofs.refusal_readers.read_with_id.Goals as goal

-- where the fields are not there
lost : (code : ℕ) (old new : List ℕ) (r : Option Refusal) → (code ≡ 9) ⊎ ((code ≡ 12) ⊎ ((code ≡ 16) ⊎ ((code ≡ 17) ⊎ ((code ≡ 19) ⊎ (code ≡ 24)))))
    → r ≡ None → Takes id_front old None new → Takes (front_of_code code refusal_rows) old r new
lost code old new r (inl e) none h = arm-lost refusal_rows 9 code Unknown id_front old new r e refl none h
lost code old new r (inr (inl e)) none h = arm-lost refusal_rows 12 code NotRead id_front old new r e refl none h
lost code old new r (inr (inr (inl e))) none h = arm-lost refusal_rows 16 code CeilingBack id_front old new r e refl none h
lost code old new r (inr (inr (inr (inl e)))) none h = arm-lost refusal_rows 17 code FloorBack id_front old new r e refl none h
lost code old new r (inr (inr (inr (inr (inl e))))) none h = arm-lost refusal_rows 19 code Collected id_front old new r e refl none h
lost code old new r (inr (inr (inr (inr (inr e))))) none h = arm-lost refusal_rows 24 code ClosedParent id_front old new r e refl none h

none-left : (code : ℕ) → (code ≡ 9) ⊎ ((code ≡ 12) ⊎ ((code ≡ 16) ⊎ ((code ≡ 17) ⊎ ((code ≡ 19) ⊎ (code ≡ 24))))) → (code ≢ 9) × ((code ≢ 12) × ((code ≢ 16) × ((code ≢ 17) × ((code ≢ 19) × (code ≢ 24))))) → ⊥
none-left code (inl e) n = n.0 e
none-left code (inr (inl e)) n = n.1.0 e
none-left code (inr (inr (inl e))) n = n.1.1.0 e
none-left code (inr (inr (inr (inl e)))) n = n.1.1.1.0 e
none-left code (inr (inr (inr (inr (inl e))))) n = n.1.1.1.1.0 e
none-left code (inr (inr (inr (inr (inr e))))) n = n.1.1.1.1.1 e

pub returns-in_err-id : goal.returns-in_err-id
returns-in_err-id c = lost c.args.code c.args.reader.now c.id.new.self c.from_residual.result c.requires c.from_residual.ensures c.in_err-id.ensures

pub returns-in-9 : goal.returns-in-9
returns-in-9 c =
    arm-read refusal_rows 9 c.args.code Unknown id_front c.args.reader.now c.in_ok-id.id c.id.new.self c.in-9.is refl c.in_ok-id.ensures

pub returns-in-12 : goal.returns-in-12
returns-in-12 c =
    arm-read refusal_rows 12 c.args.code NotRead id_front c.args.reader.now c.in_ok-id.id c.id.new.self c.in-12.is refl c.in_ok-id.ensures

pub returns-in-16 : goal.returns-in-16
returns-in-16 c =
    arm-read refusal_rows 16 c.args.code CeilingBack id_front c.args.reader.now c.in_ok-id.id c.id.new.self c.in-16.is refl c.in_ok-id.ensures

pub returns-in-17 : goal.returns-in-17
returns-in-17 c =
    arm-read refusal_rows 17 c.args.code FloorBack id_front c.args.reader.now c.in_ok-id.id c.id.new.self c.in-17.is refl c.in_ok-id.ensures

pub returns-in-19 : goal.returns-in-19
returns-in-19 c =
    arm-read refusal_rows 19 c.args.code Collected id_front c.args.reader.now c.in_ok-id.id c.id.new.self c.in-19.is refl c.in_ok-id.ensures

pub returns-in-24 : goal.returns-in-24
returns-in-24 c =
    arm-read refusal_rows 24 c.args.code ClosedParent id_front c.args.reader.now c.in_ok-id.id c.id.new.self c.in-24.is refl c.in_ok-id.ensures

pub returns-in_default : goal.returns-in_default
returns-in_default c = absurd (none-left c.args.code c.requires ((λ e. omega (arith, e)), ((λ e. omega (arith, e)), ((λ e. omega (arith, e)), ((λ e. omega (arith, e)), ((λ e. omega (arith, e)), λ e. omega (arith, e)))))))
