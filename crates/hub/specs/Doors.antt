-- Doors before a machine: what each lets in, and what it answers to everything else.
use Rattle.std.specs.Prelude.{◌≡◌, ℕ, Bool, true, false, ◌||◌, List, ◌⊎◌, refl, if◌then◌else◌}
use Rattle.std.proofs.Common.{inl, inr}
use Rattle.tardis_base.specs.Plain.{Event, PlainMachine}

-- Which requests are let in through a door from a state; what one is answered there that isn't; and which requests memory can't fail at
-- the door, whatever the state, beside those that it can't fail the machine.
pub record DoorRules (S : Type 0) : Type 0 where
  pub lets_in : ℕ → S → Event → Bool
  pub answer : ℕ → S → Event → List ℕ
  pub is_sure : ℕ → Event → Bool

-- the machine as it is seen through a door: a request that isn't let in is answered there, and changes nothing
abbrev pub seen_through : {S : Type 0} → PlainMachine S → DoorRules S → ℕ → PlainMachine S
seen_through m rules door = record {
  step = λ s e. if rules.lets_in door s e then m.step s e else s;
  reply = λ s e. if rules.lets_in door s e then m.reply s e else rules.answer door s e;
  is_sure = λ e. m.is_sure e || rules.is_sure door e;
}

step_or_none : {S : Type 0} (let_in : Bool) (next s : S) → ((if let_in then next else s) ≡ next) ⊎ ((if let_in then next else s) ≡ s)
step_or_none true next s = inl refl
step_or_none false next s = inr refl

-- it makes the machine's step, or none
pub seen_guards : {S : Type 0} (m : PlainMachine S) (rules : DoorRules S) (door : ℕ) (s : S) (e : Event) →
    ((seen_through m rules door).step s e ≡ m.step s e) ⊎ ((seen_through m rules door).step s e ≡ s)
seen_guards m rules door s e = step_or_none (rules.lets_in door s e) (m.step s e) s
