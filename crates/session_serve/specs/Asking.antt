-- What asks the lock for a session.
use Rattle.std.specs.Prelude.{◌≡◌, ℕ, List, Option, Some, None}
use Rattle.tardis_base.specs.Plain.{PlainMachine}
use Rattle.frame_cut.specs.Frames.{frame}
use Rattle.trail_log.specs.Trail.{Kept}
use Rattle.trail_log.specs.declared.acted.Acted.{Acted}
use Rattle.dag_lock.specs.Known.{Known}
use Rattle.dag_lock.specs.Steps.{Ended, Keeps}
use Rattle.session_serve.specs.Replies.{request_in, reply_without}

-- the machine with which the lock was made, the session, its pass at first, and the pass now
pub record Asking (M : Type 0) : Type 0 where
  pub start : Kept M
  pub session : ℕ
  pub first : Known
  pub pass : Known

-- the pass, where it is there
abbrev pub known_or : Known → Option Known → Known
known_or first None = first
known_or first (Some pass) = pass

module _ {M : Type 0} where
  -- all but the pass
  abbrev pub at_first : Asking M → Asking M
  at_first s = record { start = s.start; session = s.session; first = s.first; pass = s.first }

  -- the pass made one step of the lock
  pub record AsksOnce {P : Type 0} (opening : M → P) (m : PlainMachine P) (s : Asking M) (request : List ℕ) (acted : Acted) (out : List ℕ)
      (t : Asking M) : Type 0 where
    pub same : at_first t ≡ at_first s
    pub keeps : Keeps s.pass t.pass
    pub ended : Ended opening m s.start s.pass (s.session, request) out t.pass acted

-- a body's request was asked once, and answered by the frame of the reply
abbrev pub Asked : {A : Type 0} → (A → List ℕ → Acted → List ℕ → A → Type 0) → A → List ℕ → List ℕ → A → Type 0
Asked asks s body answer t = (acted : Acted) × (reply : List ℕ) × asks s (request_in body) acted reply t × (answer ≡ frame (reply_without acted reply))
