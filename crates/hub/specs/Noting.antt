-- A machine whose replies are counted.
use Rattle.std.specs.Prelude.{ℕ, [], ◌∷◌, None}
use Rattle.tardis_base.specs.Plain.{PlainMachine}
use Rattle.hub.specs.Upkeeps.{TallyState, first_tally, noted}

-- the state of the machine, what is counted of its replies; and by which names the program holds both
pub record Noted (S : Type 0) : Type 0 where
  pub state : S
  pub tally : TallyState
  pub machine : ℕ
  pub counter : ℕ

-- with nothing counted
abbrev pub unnoted : {S : Type 0} → S → (machine counter : ℕ) → Noted S
unnoted state machine counter = record { state = state; tally = first_tally None; machine = machine; counter = counter }

-- the machine, each of whose replies is counted
abbrev pub noting : {S : Type 0} → PlainMachine S → PlainMachine (Noted S)
noting m = record {
  step = λ n e. record { state = m.step n.state e; tally = noted n.tally (m.reply n.state e ∷ []); machine = n.machine; counter = n.counter };
  reply = λ n e. m.reply n.state e;
  is_sure = m.is_sure;
}
