-- A machine that keeps what lasts of its events.
use Rattle.std.specs.Prelude.{◌≡◌, ℕ, List, [], ◌∷◌, ◌++◌, length}
use Rattle.tardis_base.specs.Plain.{PlainMachine}
use Rattle.log_groups.specs.declared.fronts.LogFront.{LogFront}
use Rattle.rest_machine.specs.declared.resting.Resting.{Ghosts as AResting}

-- a state; what lasted of its events so far, oldest first; and how many things that were whenever all were settled, the newest
-- time first
pub record Kept (S : Type 0) : Type 0 where
  pub state : S
  pub things : List (List ℕ)
  pub settles : List ℕ

-- the things, and one more where it has bytes
abbrev pub with_thing : List (List ℕ) → List ℕ → List (List ℕ)
with_thing things [] = things
with_thing things (byte ∷ bytes) = things ++ (byte ∷ bytes) ∷ []

-- all things are settled
abbrev pub IsSettled : {S : Type 0} → Kept S → Type 0
IsSettled kept = (older : List ℕ) × (kept.settles ≡ length kept.things ∷ older)

-- now all are settled
abbrev pub with_settle : {S : Type 0} → Kept S → Kept S
with_settle kept = record { state = kept.state; things = kept.things; settles = length kept.things ∷ kept.settles }

-- a state of which these things lasted, all of them settled
abbrev pub starts : {S : Type 0} → S → List (List ℕ) → Kept S
starts state things = record { state = state; things = things; settles = length things ∷ [] }

-- the state with which a machine opened, and what its log says first, as one value: both stay as they are
abbrev pub opens_with : {S : Type 0} → LogFront → S → Kept S
opens_with front state = record {
  state = state;
  things = front.life ∷ [];
  settles = front.sites ∷ front.own ∷ front.max_kept ∷ front.max_path ∷ front.max_sessions ∷ [];
}

module _ {M : Type 0} (m : AResting M) where
  -- the machine, and what lasts of its events
  abbrev pub logged : PlainMachine (Kept m.Plain)
  logged = record {
    step = λ kept e. record {
      state = m.plain.step kept.state e;
      things = with_thing kept.things (m.lasting kept.state e);
      settles = kept.settles;
    };
    reply = λ kept e. m.plain.reply kept.state e;
    is_sure = m.plain.is_sure;
  }

  -- from s it takes back these bodies, one after another, and becomes t
  abbrev pub TakesAll : m.Plain → List (List ℕ) → m.Plain → Type 0
  TakesAll s [] t = t ≡ s
  TakesAll s (body ∷ bodies) t = (between : m.Plain) × (m.takes_back s body between × TakesAll between bodies t)
