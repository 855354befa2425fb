-- Links that were taken.
use Rattle.std.specs.Prelude.{◌≡◌, ℕ, ◌+◌, List, [], ◌∷◌, ◌++◌, Option, Some, None}
use Rattle.tardis_io.specs.Links.{ToldGate}
use Rattle.dag_lock.specs.Known.{merged}
use Rattle.session_serve.specs.declared.ends.SessionEnd.{SessionEnd}
use Rattle.session_serve.specs.declared.ends.SessionEnd.TheVariants.{NoMemory}

-- A link as it was handed out and as it was put back, and its session: how it ended, how many entries had been seen when
-- it began, and the places of its own entries.
pub record Taken (L : Type 0) : Type 0 where
  pub handed : L
  pub back : L
  pub end : SessionEnd
  pub from : ℕ
  pub places : List ℕ

-- 1 where there was no memory for a session's buffers
abbrev pub wanting : SessionEnd → ℕ
wanting NoMemory = 1
wanting _ = 0

module _ {L : Type 0} where
  -- for how many there was no memory
  abbrev pub unserved_in : List (Taken L) → ℕ
  unserved_in [] = 0
  unserved_in (t ∷ ts) = wanting t.end + unserved_in ts

  -- the links in the order in which they were handed out
  abbrev pub links_of : List (Taken L) → List L
  links_of [] = []
  links_of (t ∷ ts) = t.handed ∷ links_of ts

  -- The links in the order in which they are put back, with the numbers of their sessions, which go up from `first`. The
  -- one that was taken last is put back first.
  abbrev pub backs_from : ℕ → List (Taken L) → List (ℕ × L)
  backs_from first [] = []
  backs_from first (t ∷ ts) = backs_from (first + 1) ts ++ ((first, t.back) ∷ [])

  -- these places and those of the links' sessions, in order
  abbrev pub places_with : List ℕ → List (Taken L) → List ℕ
  places_with owned [] = owned
  places_with owned (t ∷ ts) = merged (places_with owned ts) t.places

  -- Where a gate tells its links, these were handed out and put back, each with its session's number, and no others.
  abbrev pub HandsBack : ℕ → List (Taken L) → Option (ToldGate L) → Option (ToldGate L) → Type 0
  HandsBack first ts None None = Unit {0}
  HandsBack first ts (Some old) (Some new) = (old.left ≡ links_of ts ++ new.left) × (new.back ≡ old.back ++ backs_from first ts) × (new.out ≡ old.out)
  HandsBack first ts None (Some new) = ⊥
  HandsBack first ts (Some old) None = ⊥

  -- no link is left, where they are told
  abbrev pub HasNone : Option (ToldGate L) → Type 0
  HasNone None = Unit {0}
  HasNone (Some t) = t.left ≡ []
