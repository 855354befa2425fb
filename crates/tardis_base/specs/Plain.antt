-- Machines without memory or layout, and replies that answer events.
use Rattle.std.specs.Prelude.{◌≡◌, ℕ, Bool, false, List, [], ◌∷◌, Option, Some, None, ◌⊎◌}

-- an actor and the bytes of a request
abbrev pub Event : Type 0
Event = ℕ × List ℕ

-- what a state and an event lead to, what is replied, and which requests memory can't fail
pub record PlainMachine (S : Type 0) : Type 0 where
  pub step : S → Event → S
  pub reply : S → Event → List ℕ
  pub is_sure : Event → Bool

-- the bytes of the reply that memory is wanting
abbrev pub no_memory : List ℕ
no_memory = 22 ∷ []

-- the state after these events
abbrev pub state_after : {S : Type 0} → PlainMachine S → S → List Event → S
state_after m s [] = s
state_after m s (e ∷ es) = state_after m (m.step s e) es

-- the reply to the event at this place, after the events before it
abbrev pub reply_at : {S : Type 0} → PlainMachine S → S → List Event → ℕ → Option (List ℕ)
reply_at m s [] place = None
reply_at m s (e ∷ es) ℕ.zero = Some (m.reply s e)
reply_at m s (e ∷ es) (ℕ.suc place) = reply_at m (m.step s e) es place

-- From s these replies answer these events, and lead to t. Each reply is the plain one, and then the state is the next;
-- or it says that memory is wanting, which no sure request is answered, and then the state is as before.
abbrev pub Answers : {S : Type 0} → PlainMachine S → S → List Event → List (List ℕ) → S → Type 0
Answers m s [] [] t = t ≡ s
Answers m s (e ∷ es) (y ∷ ys) t =
    ((y ≡ m.reply s e) × Answers m (m.step s e) es ys t)
    ⊎ ((y ≡ no_memory) × (m.is_sure e ≡ false) × Answers m s es ys t)
Answers m s [] (y ∷ ys) t = ⊥
Answers m s (e ∷ es) [] t = ⊥
