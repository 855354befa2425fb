-- An exchange with a peer, from the call to the putting back.
use Rattle.std.specs.Prelude.{◌≡◌, ℕ, ◌≤◌, ◌⊎◌, List, [], ◌∷◌, ◌++◌, Option, Some, None, Result, Ok, Err}
use Rattle.tardis_base.specs.declared.records.Batch.{Batch}
use Rattle.tardis_base.specs.declared.replies.SiteLine.{SiteLine}
use Rattle.tardis_base.specs.Plain.{PlainMachine}
use Rattle.tardis_io.specs.Told.{WhileTold}
use Rattle.tardis_io.specs.Faults.{Rose}
use Rattle.tardis_io.specs.declared.faults.Failed.{Failed}
use Rattle.tardis_io.specs.Links.{ToldDial, AsksFor, HandsCalled}
use Rattle.tardis_base.specs.declared.replies.Reply.TheVariants.{Batch as BatchIs}
use Rattle.frame_cut.specs.Frames.{frame, IsBody}
use Rattle.wire_talk.specs.Spelled.{SpellsReply}
use Rattle.trail_log.specs.Trail.{Kept}
use Rattle.trail_log.specs.declared.acted.Acted.{Acted}
use Rattle.trail_log.specs.declared.acted.Acted.TheVariants.{Done as Answered, TrailFull as TrailIsFull, NoMemory as OutOfMemory}
use Rattle.dag_lock.specs.Known.{Known}
use Rattle.site_sync.specs.Asking.{stat, items, AreStatistics, pull_frame}
use Rattle.site_sync.specs.Steps.{StepsOnce, GoesOn}
use Rattle.site_sync.specs.Fetching.{Gave, Fetched}
use Rattle.site_sync.specs.Delivering.{Delivers}
use Rattle.site_sync.specs.declared.ends.SyncEnd.{SyncEnd}
use Rattle.site_sync.specs.declared.ends.SyncEnd.TheVariants.{Done, DialFault, ReadFault, WriteFault, TrailFull, NoMemory}

-- the end of an exchange at a step that wasn't answered
abbrev pub IsEndOf : Acted → SyncEnd → Type 0
IsEndOf (TrailIsFull bytes) end = end ≡ TrailFull bytes
IsEndOf OutOfMemory end = end ≡ NoMemory
IsEndOf Answered end = ⊥

-- every item was delivered, or the trail or memory had no room
abbrev pub EndsWell : SyncEnd → Type 0
EndsWell (Done applied known early refused) = Unit {0}
EndsWell (TrailFull bytes) = Unit {0}
EndsWell NoMemory = Unit {0}
EndsWell _ = ⊥

-- where neither count rose and the frame of a batch is first, the exchange ends well
abbrev pub BatchIsTaken : Type 0 → Type 0 → SyncEnd → List ℕ → List ℕ → Type 0
BatchIsTaken TakesRose GivesRose end first left =
    (body rest : List ℕ) (batch : Batch) → IsBody body → first ≡ frame body ++ rest → SpellsReply body (BatchIs batch) → (TakesRose → ⊥)
    → (GivesRose → ⊥) → EndsWell end

-- the address was asked for, the first link that was left was had, and stands as it is now behind those that were put back
abbrev pub CallsBack : {L : Type 0} → List ℕ → L → L → Option (ToldDial L) → Option (ToldDial L) → Type 0
CallsBack address handed back None None = Unit {0}
CallsBack address handed back (Some old) (Some new) = (old.left ≡ handed ∷ new.left) × (new.back ≡ old.back ++ back ∷ []) × (new.out ≡ old.out)
    × AsksFor old.asked new.asked address
CallsBack address handed back None (Some new) = ⊥
CallsBack address handed back (Some old) None = ⊥

module _ {M P : Type 0} (opening : M → P) (m : PlainMachine P) (z : Kept M) where
  -- what becomes of the answer that was fetched: its items are delivered, or there are none
  abbrev pub Uses : Result Batch SyncEnd → Known → Known → SyncEnd → Type 0
  Uses (Ok batch) p q end = Delivers opening m z (items batch) p q end
  Uses (Err why) p q end = (q ≡ p) × (end ≡ why)

  module _ {L : Type 0} (left given : L → Option (List ℕ)) (take_faults faults : L → ℕ) where
    -- Stat wasn't answered, and the link was neither given nor asked anything
    pub record Unasked (p q : Known) (handed back : L) (end : SyncEnd) : Type 0 where
      pub acted : Acted
      pub stopped : StepsOnce opening m z p stat [] q acted
      pub end_is : IsEndOf acted end
      pub left_is : left back ≡ left handed
      pub given_is : given back ≡ given handed

    -- Stat was answered, the peer was asked for what is above its counts, its answer was read and used
    pub record Asked (p q : Known) (handed back : L) (end : SyncEnd) : Type 0 where
      pub statistics : List ℕ
      pub lines : List SiteLine
      pub are_statistics : AreStatistics statistics lines
      pub mid : Known
      pub told : StepsOnce opening m z p stat statistics mid Answered
      pub answer : Result Batch SyncEnd
      pub gave : WhileTold (given handed) (given back) (λ before after. Gave answer before after (pull_frame lines))
      pub read : WhileTold (left handed) (left back) (Fetched answer)
      pub used : Uses answer mid q end

    -- An exchange over a link, from its handing out to its putting back. A fault has its cause.
    pub record Exchange (p q : Known) (handed back : L) (end : SyncEnd) : Type 0 where
      pub way : Unasked p q handed back end ⊎ Asked p q handed back end
      pub read_later : take_faults handed ≤ take_faults back
      pub write_later : faults handed ≤ faults back
      pub read_fault : end ≡ ReadFault → Rose (take_faults handed) (take_faults back)
      pub write_fault : end ≡ WriteFault → Rose (faults handed) (faults back)
      pub no_dial_fault : end ≡ DialFault → ⊥
      pub exact : WhileTold (left handed) (left back) (BatchIsTaken (Rose (take_faults handed) (take_faults back)) (Rose (faults handed) (faults back)) end)

    module _ {D : Type 0} (told : D → Option (ToldDial L)) (dial_faults : D → ℕ) where
      -- the dial was asked for the address and failed
      abbrev pub IsNotReached : List ℕ → D → D → Type 0
      IsNotReached address d e = Rose (dial_faults d) (dial_faults e) × ((failed : Failed) × HandsCalled (told d) (told e) address (Err failed))

      -- no link was had: the dial failed, or it wasn't called because there was no memory
      pub record NoLink (address : List ℕ) (p q : Known) (d e : D) (end : SyncEnd) : Type 0 where
        pub pass : q ≡ p
        pub dial : ((end ≡ DialFault) × IsNotReached address d e) ⊎ ((end ≡ NoMemory) × (e ≡ d))

      -- a link was had, and was put back
      pub record OneLink (address : List ℕ) (p q : Known) (d e : D) (end : SyncEnd) : Type 0 where
        pub handed : L
        pub back : L
        pub exchange : Exchange p q handed back end
        pub dial : CallsBack address handed back (told d) (told e)

      -- one exchange with the peer at this address, from the pass p and the dial d to q and e
      pub record Syncs (address : List ℕ) (p q : Known) (d e : D) (end : SyncEnd) : Type 0 where
        pub goes_on : GoesOn p q
        pub link : NoLink address p q d e end ⊎ OneLink address p q d e end
        pub later : dial_faults d ≤ dial_faults e
        pub cause : end ≡ DialFault → Rose (dial_faults d) (dial_faults e)
