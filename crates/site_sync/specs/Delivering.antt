-- What becomes of the items of a batch.
use Rattle.std.specs.Prelude.{◌≡◌, ℕ, ◌+◌, List, [], ◌∷◌, ◌++◌, map}
use Rattle.tardis_base.specs.declared.records.Item.{Item}
use Rattle.tardis_base.specs.Plain.{PlainMachine}
use Rattle.trail_log.specs.Trail.{Kept}
use Rattle.trail_log.specs.declared.acted.Acted.{Acted}
use Rattle.trail_log.specs.declared.acted.Acted.TheVariants.{TrailFull as TrailIsFull, NoMemory as OutOfMemory}
use Rattle.dag_lock.specs.Known.{Known}
use Rattle.wire_talk.specs.declared.reply_codes.TheConstants.{APPLIED, KNOWN, EARLY, REFUSED}
use Rattle.site_sync.specs.Asking.{delivery, one_if, how_many}
use Rattle.site_sync.specs.Steps.{StepsOnce, Asks}
use Rattle.site_sync.specs.declared.tallies.Tally.{Tally}
use Rattle.site_sync.specs.declared.ends.SyncEnd.{SyncEnd}
use Rattle.site_sync.specs.declared.ends.SyncEnd.TheVariants.{Done, TrailFull, NoMemory}

-- how many replies are Applied, Known, Early and Refused
abbrev pub tally_of : List (List ℕ) → Tally
tally_of replies = record { applied = how_many APPLIED replies; known = how_many KNOWN replies; early = how_many EARLY replies; refused = how_many REFUSED replies }

-- one reply more
abbrev pub tally_with : Tally → List ℕ → Tally
tally_with t reply =
    record {
      applied = t.applied + one_if APPLIED reply;
      known = t.known + one_if KNOWN reply;
      early = t.early + one_if EARLY reply;
      refused = t.refused + one_if REFUSED reply;
    }

module _ {M P : Type 0} (opening : M → P) (m : PlainMachine P) (z : Kept M) where
  -- each item was delivered, in order, and the numbers count the replies
  pub record DeliversAll (items : List Item) (p q : Known) (tally : Tally) : Type 0 where
    pub replies : List (List ℕ)
    pub asked : Asks opening m z p (map delivery items) replies q
    pub counted : tally ≡ tally_of replies

  -- the first items were delivered, in order, and the step of the next one came to this
  pub record StopsAt (items : List Item) (p q : Known) (acted : Acted) : Type 0 where
    pub delivered : List Item
    pub next : Item
    pub others : List Item
    pub replies : List (List ℕ)
    pub mid : Known
    pub first : items ≡ delivered ++ next ∷ others
    pub asked : Asks opening m z p (map delivery delivered) replies mid
    pub stopped : StepsOnce opening m z mid (delivery next) [] q acted

  -- how delivering these items ends
  abbrev pub Delivers : List Item → Known → Known → SyncEnd → Type 0
  Delivers items p q (Done applied known early refused) = DeliversAll items p q (record { applied = applied; known = known; early = early; refused = refused })
  Delivers items p q (TrailFull bytes) = StopsAt items p q (TrailIsFull bytes)
  Delivers items p q NoMemory = StopsAt items p q OutOfMemory
  Delivers items p q _ = ⊥
