-- Replies and states at the end of a trail.
use Rattle.std.proofs.Common.{◌≡◌, ◌+◌, List, [], ◌∷◌, ◌++◌, length, Some, refl, arith}
use Rattle.tardis_base.specs.Plain.{Event, PlainMachine, state_after, reply_at}
use Rattle.trail_log.specs.Trail.{bytes_of}

pub bytes_more : (trail : List Event) (e : Event) → bytes_of (trail ++ e ∷ []) ≡ bytes_of trail + (length e.1 + 6)
bytes_more [] e = omega arith
bytes_more (x ∷ xs) e = omega (arith, bytes_more xs e)

-- the state after one more entry
pub state_more : {S : Type 0} (m : PlainMachine S) (s : S) (trail : List Event) (e : Event) → state_after m s (trail ++ e ∷ [])
    ≡ m.step (state_after m s trail) e
state_more m s [] e = refl
state_more m s (x ∷ xs) e = state_more m (m.step s x) xs e

-- the reply at the last place is the one to the last entry, at the state before it
pub reply_last : {S : Type 0} (m : PlainMachine S) (s : S) (trail : List Event) (e : Event) → reply_at m s (trail ++ e ∷ []) (length trail)
    ≡ Some (m.reply (state_after m s trail) e)
reply_last m s [] e = refl
reply_last m s (x ∷ xs) e = reply_last m (m.step s x) xs e
