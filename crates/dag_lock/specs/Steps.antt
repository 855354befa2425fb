-- What a step of a lock does.
use Rattle.std.specs.Prelude.{◌≡◌, ◌≢◌, ℕ, ◌+◌, ◌⊎◌, List, [], ◌∷◌, ◌++◌, length, Some}
use Rattle.tardis_base.specs.Plain.{Event, PlainMachine, reply_at}
use Rattle.trail_log.specs.Trail.{Kept, bytes_of}
use Rattle.std.specs.List.{AllByRecursion}
use Rattle.trail_log.specs.Ends.{trail_with, IsFullAt}
use Rattle.trail_log.specs.Frames.{IsEntry}
use Rattle.trail_log.specs.declared.acted.Acted.{Acted}
use Rattle.trail_log.specs.declared.acted.Acted.TheVariants.{Done, TrailFull, NoMemory}
use Rattle.dag_lock.specs.Known.{Known, Begins}

-- the pass is of the same lock and has as many pieces
abbrev pub Keeps : Known → Known → Type 0
Keeps p q = (q.lock ≡ p.lock) × (q.pieces ≡ p.pieces)

-- it has seen what it had seen, and perhaps more, and owns what it owned
abbrev pub Stays : Known → Known → Type 0
Stays p q = Begins p.seen q.seen × (q.owned ≡ p.owned)

-- one list is a front of the other, and the result is the longer
abbrev pub IsLonger : List Event → List Event → List Event → Type 0
IsLonger xs ys zs = (Begins xs ys × (zs ≡ ys)) ⊎ (Begins ys xs × (zs ≡ xs))

module _ {M P : Type 0} (opening : M → P) (plain : PlainMachine P) where
  -- a machine of the opening state and the size with which the lock was made
  abbrev pub IsOfLock : Kept M → Kept M → Type 0
  IsOfLock z x = (opening x.machine ≡ opening z.machine) × (x.max_trail ≡ z.max_trail)

  -- the machine x was asked and became y
  pub record Acts (e : Event) (r : Acted) (out : List ℕ) (x y : Kept M) : Type 0 where
    pub opening_is : opening y.machine ≡ opening x.machine
    pub most : y.max_trail ≡ x.max_trail
    pub trail : y.trail ≡ trail_with r x.trail e
    pub reply : r ≡ Done → reply_at plain (opening x.machine) y.trail (length x.trail) ≡ Some out
    pub full : IsFullAt r (bytes_of x.trail) (length e.1 + 6) x.max_trail
    pub empty : r ≢ Done → out ≡ []
    pub each : AllByRecursion IsEntry y.trail

  -- The pass has seen some more entries and then its own, which stands at a place of its own. The reply is that of this
  -- place. The trail had room for the entry.
  abbrev pub Steps : Kept M → Known → Event → List ℕ → Known → Type 0
  Steps z p e out q =
      (before : List Event) × Begins p.seen before × (q.seen ≡ before ++ e ∷ []) × (q.owned ≡ p.owned ++ length before ∷ [])
      × (reply_at plain (opening z.machine) q.seen (length before) ≡ Some out)
      × IsFullAt Done (bytes_of before) (length e.1 + 6) z.max_trail

  -- How a step ends. Where it isn't answered no entry is added, and it is full exactly by the bytes of all that was seen.
  abbrev pub Ended : Kept M → Known → Event → List ℕ → Known → Acted → Type 0
  Ended z p e out q Done = Steps z p e out q
  Ended z p e out q (TrailFull bytes) = Stays p q × (out ≡ []) × IsFullAt (TrailFull bytes) (bytes_of q.seen) (length e.1 + 6) z.max_trail
  Ended z p e out q NoMemory = Stays p q × (out ≡ []) × IsFullAt NoMemory (bytes_of q.seen) (length e.1 + 6) z.max_trail
