-- The model of a disk: what a read gives, and the images that a crash may leave.
use Rattle.std.specs.Prelude.{◌≡◌, ◌⊎◌, ℕ, ◌+◌, ◌-◌, ◌<◌, ◌≤◌, List, ◌++◌, length, take, drop, slice_index, max, min}

-- the longest that a disk may be: 2^63 bytes
abbrev pub longest_disk : ℕ
longest_disk = 9223372036854775808

-- the bytes, with these in the place of those that stood there
abbrev pub with_bytes : List ℕ → ℕ → List ℕ → List ℕ
with_bytes old place bytes = take place old ++ bytes ++ drop (place + length bytes) old

-- What a write of so many bytes at a place may make of an image while it isn't synced: any bytes in its range and past the
-- old end, the same elsewhere, and a length between the old one and the end of the range.
pub record Torn (place count : ℕ) (old new : List ℕ) : Type 0 where
  pub before : take (min place (length old)) new ≡ take place old
  pub after : drop (place + count) new ≡ drop (place + count) old
  pub no_shorter : length old ≤ length new
  pub no_longer : length new ≤ max (length old) (place + count)

-- What a write of these bytes at a place may make of an image while it isn't synced, where it is made bytewise: of each byte in
-- its range the old one or the new one, the same elsewhere, and a length between the old one and the end of the range. A byte past
-- the old end counts as 0.
pub record Bytewise (place : ℕ) (bytes old new : List ℕ) : Type 0 where
  pub each : (n : ℕ) → n < length new
      → (slice_index new n ≡ slice_index old n) ⊎ ((place ≤ n) × (n < place + length bytes) × (slice_index new n ≡ slice_index bytes (n - place)))
  pub no_shorter : length old ≤ length new
  pub no_longer : length new ≤ max (length old) (place + length bytes)

-- what a cut to a length may make of an image while it isn't synced: a front of it, of some length between
pub record Shortened (len : ℕ) (old new : List ℕ) : Type 0 where
  pub no_shorter : min len (length old) ≤ length new
  pub front : new ≡ take (length new) old

-- each image that may be left now comes by this step from one that might have been left before
abbrev pub Follows : (List ℕ → List ℕ → Type 0) → (List ℕ → Type 0) → (List ℕ → Type 0) → Type 0
Follows step old new = (image : List ℕ) → new image → (was : List ℕ) × old was × step was image

-- no image may be left now that might not have been left before
abbrev pub NoMore : (List ℕ → Type 0) → (List ℕ → Type 0) → Type 0
NoMore old new = (image : List ℕ) → new image → old image

-- each image that may be left now might have been left before, or has these bytes and no others
abbrev pub Replaced : List ℕ → (List ℕ → Type 0) → (List ℕ → Type 0) → Type 0
Replaced bytes old new = (image : List ℕ) → new image → old image ⊎ (image ≡ bytes)

-- a crash leaves these bytes and nothing else
abbrev pub Only : List ℕ → (List ℕ → Type 0) → Type 0
Only bytes images = (image : List ℕ) → images image → image ≡ bytes

-- Time went on: a crash since t might have left what it might have left before, or what it may leave now.
pub record Elapses (before now : ℕ) (past since : ℕ → List ℕ → Type 0) (may_leave : List ℕ → Type 0) : Type 0 where
  pub later : before ≤ now
  pub nothing_else : (t : ℕ) (image : List ℕ) → t ≤ before → since t image → past t image ⊎ may_leave image
  pub keeps : (t : ℕ) (image : List ℕ) → t ≤ before → past t image → since t image

-- a crash at any moment from that of old on leaves an image that has P; the third is for a run that began earlier
pub record LeavesOnly {D : Type 0} (moment : D → ℕ) (left_since : D → ℕ → List ℕ → Type 0) (old new : D) (P : List ℕ → Type 0) : Type 0 where
  pub later : moment old ≤ moment new
  pub each : (image : List ℕ) → left_since new (moment old) image → P image
  pub before : (t : ℕ) (image : List ℕ) → t ≤ moment old → left_since new t image → left_since old t image ⊎ P image

-- the one is honest where the other is
abbrev pub AsHonest : {D : Type 0} → (D → Type 0) → D → D → Type 0
AsHonest honest old new = (honest old → honest new) × (honest new → honest old)
