use Rattle.std.proofs.Common.{◌≡◌, ◌≢◌, ◌⊎◌, ℕ, List, Option, None, refl, inl, inr, arith}
use Rattle.tardis_base.specs.declared.replies.Refusal.TheVariants.{Below, Comparable}
use Rattle.tardis_base.specs.declared.replies.Refusal.{Refusal}
use Rattle.wire_item.specs.Fronts.{both, front_of_code}
use Rattle.wire_item.specs.Takings.{Takes}
use Rattle.wire_item.specs.Readings.{id_front}
use Rattle.wire_talk.specs.ReplyReadings.{refusal_rows}
use Rattle.wire_talk.proofs.Arms.{arm-read, arm-lost, both-lost, both-lost-later, both-read}
use Rattle.talk_bytes.proofs.refusal_readers.read_with_two_ids.Goals as goal

-- where the fields are not there
lost : (code : ℕ) (old new : List ℕ) (r : Option Refusal) → (code ≡ 10) ⊎ (code ≡ 11)
    → r ≡ None → Takes (both id_front id_front) old None new → Takes (front_of_code code refusal_rows) old r new
lost code old new r (inl e) none h = arm-lost refusal_rows 10 code (λ p. Below p.0 p.1) (both id_front id_front) old new r e refl none h
lost code old new r (inr e) none h = arm-lost refusal_rows 11 code (λ p. Comparable p.0 p.1) (both id_front id_front) old new r e refl none h

none-left : (code : ℕ) → (code ≡ 10) ⊎ (code ≡ 11) → (code ≢ 10) × (code ≢ 11) → ⊥
none-left code (inl e) n = n.0 e
none-left code (inr e) n = n.1 e

pub returns-in_err-a : goal.returns-in_err-a
returns-in_err-a c =
    lost c.args.code c.args.reader.now c.id.new.self c.from_residual.result c.requires c.from_residual.ensures
    (both-lost id_front id_front c.args.reader.now c.id.new.self c.in_err-a.ensures)

pub returns-in_err-b : goal.returns-in_err-b
returns-in_err-b c =
    lost c.args.code c.args.reader.now c.id-2.new.self c.from_residual-in_err-b.result c.requires c.from_residual-in_err-b.ensures
    (both-lost-later id_front id_front c.args.reader.now c.in_ok-a.a c.id.new.self c.id-2.new.self c.in_ok-a.ensures c.in_err-b.ensures)

pub returns-in-10 : goal.returns-in-10
returns-in-10 c =
    arm-read refusal_rows 10 c.args.code (λ p. Below p.0 p.1) (both id_front id_front) c.args.reader.now (c.in_ok-a.a, c.in_ok-b.b) c.id-2.new.self c.in-10.is refl
    (both-read id_front id_front c.args.reader.now c.in_ok-a.a c.id.new.self c.in_ok-b.b c.id-2.new.self c.in_ok-a.ensures c.in_ok-b.ensures)

pub returns-in-11 : goal.returns-in-11
returns-in-11 c =
    arm-read refusal_rows 11 c.args.code (λ p. Comparable p.0 p.1) (both id_front id_front) c.args.reader.now (c.in_ok-a.a, c.in_ok-b.b) c.id-2.new.self c.in-11.is refl
    (both-read id_front id_front c.args.reader.now c.in_ok-a.a c.id.new.self c.in_ok-b.b c.id-2.new.self c.in_ok-a.ensures c.in_ok-b.ensures)

pub returns-in_default : goal.returns-in_default
returns-in_default c = absurd (none-left c.args.code c.requires ((λ e. omega (arith, e)), λ e. omega (arith, e)))
