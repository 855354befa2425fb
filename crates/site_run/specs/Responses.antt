-- Bodies that were cut from bytes and answered, and what became of the answers.
use Rattle.std.specs.Prelude.{◌≡◌, ℕ, ◌≤◌, List, [], ◌∷◌, ◌++◌, length, Option}
use Rattle.std.specs.List.{concat}
use Rattle.tardis_io.specs.Told.{WhileTold}
use Rattle.site_run.specs.Forms.{Form}

-- what was given before, what was given after, and the bytes that were to be given: all of them were
abbrev pub Whole : List ℕ → List ℕ → List ℕ → Type 0
Whole old new bytes = new ≡ old ++ bytes

-- or a front of them, that lacks at most so many
abbrev pub Front : ℕ → List ℕ → List ℕ → List ℕ → Type 0
Front most old new bytes = (lost : List ℕ) × ((new ++ lost ≡ old ++ bytes) × (length lost ≤ most))

-- from s the bodies are answered in turn, by one answer each, and lead to t
abbrev pub InTurn : {S : Type 0} → (S → List ℕ → List ℕ → S → Type 0) → S → List (List ℕ) → List (List ℕ) → S → Type 0
InTurn may s [] [] t = t ≡ s
InTurn may s (body ∷ bodies) (answer ∷ answers) t = (u : _) × (may s body answer u × InTurn may u bodies answers t)
InTurn may s [] (answer ∷ answers) t = ⊥
InTurn may s (body ∷ bodies) [] t = ⊥

-- at s a body was answered by bytes that it may be answered by, which stand behind the old ones
pub record Responded {S : Type 0} (may : S → List ℕ → List ℕ → S → Type 0) (to : S → Type 0) (s : S) (body old new : List ℕ) : Type 0 where
  pub answer : List ℕ
  pub state : S
  pub allowed : may s body answer state
  pub stands : to state
  pub put : new ≡ old ++ answer

-- From s the bodies were answered. Of what was gathered before and the answers, the sink was given what the shape says;
-- the rest is gathered after.
pub record AnsweredBy {S : Type 0} (may : S → List ℕ → List ℕ → S → Type 0) (shape : List ℕ → List ℕ → List ℕ → Type 0) (to : S → Type 0)
    (old new : Option (List ℕ)) (before after : List ℕ) (s : S) (bodies : List (List ℕ)) : Type 0 where
  pub answers : List (List ℕ)
  pub state : S
  pub each : InTurn may s bodies answers state
  pub stands : to state
  pub given : WhileTold old new (λ y z. shape (y ++ before) (z ++ after) (concat answers))

-- bodies were cut from the front of the bytes and answered
pub record Serves (F : Form) {S : Type 0} (may : S → List ℕ → List ℕ → S → Type 0) (shape : List ℕ → List ℕ → List ℕ → Type 0) (from to : S → Type 0)
    (old new : Option (List ℕ)) (before after bytes rest : List ℕ) : Type 0 where
  pub bodies : List (List ℕ)
  pub read : F.Cuts bytes bodies rest
  pub answered : (s : S) → from s → AnsweredBy may shape to old new before after s bodies
