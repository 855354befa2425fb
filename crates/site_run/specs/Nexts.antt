-- What a cutter answers, and what stands behind the bodies that were answered.
use Rattle.std.specs.Prelude.{◌≡◌, ℕ, ◌<◌, ◌≤◌, List, [], ◌∷◌, length}
use Rattle.tardis_base.specs.Sizes.{longest_frame}
use Rattle.site_run.specs.declared.cutting.Next.{Next}
use Rattle.site_run.specs.declared.cutting.Next.TheVariants.{Body, Part, Long}
use Rattle.site_run.specs.declared.cutting.Last.{Last}
use Rattle.site_run.specs.declared.cutting.Last.TheVariants.{Nothing, OneMore, CutOff}
use Rattle.site_run.specs.declared.answers.Behind.{Behind}
use Rattle.site_run.specs.declared.answers.Behind.TheVariants.{Part as PartOfBody, Long as LongBody}
use Rattle.site_run.specs.Forms.{Form}

-- what is next in these bytes
abbrev pub IsNext : Form → List ℕ → Next → Type 0
IsNext F bytes (Body body) = length body.now ≤ longest_frame
IsNext F bytes Part = F.IsPart bytes
IsNext F bytes (Long len) = F.IsLong bytes len

-- a body that was handed out is gone, and all else is as before
abbrev pub Leaves : Form → List ℕ → Next → List ℕ → Type 0
Leaves F old (Body body) new = F.Cuts old (body.now ∷ []) new × (length new < length old)
Leaves F old Part new = new ≡ old
Leaves F old (Long len) new = new ≡ old

-- what a part is where the input ends
abbrev pub IsLast : Form → List ℕ → Last → Type 0
IsLast F held Nothing = F.IsEnd held × (F.last held ≡ [])
IsLast F held (OneMore body) = F.IsEnd held × (F.last held ≡ body.now ∷ []) × (length body.now ≤ longest_frame)
IsLast F held CutOff = F.IsCutOff held

-- these bytes are what the answer says of them
abbrev pub IsBehind : Form → Behind → List ℕ → Type 0
IsBehind F PartOfBody rest = F.IsPart rest
IsBehind F (LongBody len) rest = F.IsLong rest len
