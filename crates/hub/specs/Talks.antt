-- What one connection has of a run.
use Rattle.std.specs.Prelude.{◌≡◌, ℕ, ◌<◌, List, [], ◌++◌, length, drop, ◌⊎◌}
use Rattle.tardis_base.specs.Sizes.{piece}
use Rattle.frame_cut.specs.Frames.{frames, Cuts, IsEnd}

-- the door through which it came; what came of it and what was written to it, its requests and their replies
pub record Talk : Type 0 where
  pub door : ℕ
  pub came : List ℕ
  pub wrote : List ℕ
  pub bodies : List (List ℕ)
  pub replies : List (List ℕ)

-- nothing yet
abbrev pub no_talk : ℕ → Talk
no_talk door = record { door = door; came = []; wrote = []; bodies = []; replies = [] }

-- more of each
abbrev pub more_talk : Talk → List ℕ → List ℕ → List (List ℕ) → List (List ℕ) → Talk
more_talk t came wrote bodies replies = record {
  door = t.door;
  came = t.came ++ came;
  wrote = t.wrote ++ wrote;
  bodies = t.bodies ++ bodies;
  replies = t.replies ++ replies;
}

-- the bytes that came behind the last request
abbrev pub held : Talk → List ℕ
held t = drop (length (frames t.bodies)) t.came

-- the bytes of its replies that weren't written yet
abbrev pub waits : Talk → List ℕ
waits t = drop (length t.wrote) (frames t.replies)

-- Its requests are the frames that came of it, each once and in order; what was written to it and what waits are the
-- frames of their replies, in order; and all that came is answered, unless more than 65,536 bytes wait.
pub record IsTalk (t : Talk) : Type 0 where
  pub asked : Cuts t.came t.bodies (held t)
  pub given : t.wrote ++ waits t ≡ frames t.replies
  pub prompt : IsEnd (held t) ⊎ (piece < length (waits t))
