-- Worked spellings.
use Rattle.std.specs.Prelude.{◌≡◌, [], ◌∷◌, Some, None}
use Rattle.tardis_base.specs.declared.requests.Begin.TheVariants.{At}
use Rattle.tardis_base.specs.declared.requests.MergeOf.TheVariants.{Leaves}
use Rattle.tardis_base.specs.declared.requests.Request.TheVariants.{Begin, Put, Commit, BeginMerge, Deliver}
use Rattle.tardis_base.specs.declared.records.Write.TheVariants.{Put as PutValue}
use Rattle.tardis_base.specs.declared.records.Item.TheVariants.{State}
use Rattle.wire_talk.specs.RequestReadings.{request_of}

-- SER
abbrev pub CommitIsRead : Type 0
CommitIsRead = request_of (6 ∷ 1 ∷ 0 ∷ 0 ∷ []) ≡ Some (Commit (record { 0 = 1 }) 0)

-- SER and KB with 258 branches
abbrev pub CommitWithNumberIsRead : Type 0
CommitWithNumberIsRead = request_of (6 ∷ 9 ∷ 1 ∷ 2 ∷ []) ≡ Some (Commit (record { 0 = 9 }) 258)

-- a number that counts for nothing
abbrev pub NumberWithoutFlagIsNone : Type 0
NumberWithoutFlagIsNone = request_of (6 ∷ 1 ∷ 0 ∷ 1 ∷ []) ≡ None

-- no such kind
abbrev pub FourthKindIsNone : Type 0
FourthKindIsNone = request_of (2 ∷ 4 ∷ []) ≡ None

-- a byte is left over
abbrev pub LongBeginIsNone : Type 0
LongBeginIsNone = request_of (2 ∷ 1 ∷ 0 ∷ []) ≡ None

abbrev pub BeginAtIsRead : Type 0
BeginAtIsRead = request_of (2 ∷ 3 ∷ 0 ∷ 1 ∷ 0 ∷ 0 ∷ 1 ∷ 2 ∷ []) ≡ Some (Begin (At (record { site = 1; sequence = 258 })))

abbrev pub PutIsRead : Type 0
PutIsRead = request_of (4 ∷ 1 ∷ 120 ∷ 0 ∷ 1 ∷ 49 ∷ []) ≡ Some (Put (120 ∷ []) (49 ∷ []))

abbrev pub EmptyKeyIsNone : Type 0
EmptyKeyIsNone = request_of (3 ∷ 0 ∷ []) ≡ None

abbrev pub MergeOfLeavesIsRead : Type 0
MergeOfLeavesIsRead = request_of (8 ∷ 0 ∷ []) ≡ Some (BeginMerge Leaves)

-- the record 2.1 below the root, which puts 1 to the key a
abbrev pub DeliverIsRead : Type 0
DeliverIsRead =
    request_of (20 ∷ 1 ∷ 0 ∷ 2 ∷ 0 ∷ 0 ∷ 0 ∷ 1 ∷ 1 ∷ 0 ∷ 0 ∷ 0 ∷ 0 ∷ 0 ∷ 0 ∷ 1 ∷ 1 ∷ 97 ∷ 1 ∷ 0 ∷ 1 ∷ 49 ∷ [])
    ≡ Some
    (Deliver
    (State
    (record {
      id = record { site = 2; sequence = 1 };
      parents = record { site = 0; sequence = 0 } ∷ [];
      writes = (97 ∷ [], PutValue (49 ∷ [])) ∷ [];
    })))
