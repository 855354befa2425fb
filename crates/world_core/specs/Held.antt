-- What a world in memory holds, and when it stands for a plain one.
use Rattle.std.specs.Prelude.{◌≡◌, List, [], ◌∷◌}
use Rattle.tardis_base.specs.declared.records.Batch.{Batch}
use Rattle.plain_site.specs.Site.{Site}
use Rattle.plain_world.specs.Worlds.{World}

-- the sites in the order of their numbers, and the batches that were given
pub record Held (S : Type 0) : Type 0 where
  pub sites : List S
  pub bag : List Batch

-- as many of both, and each stands for the one at its place
abbrev pub AllStand : {S : Type 0} → (S → Site → Type 0) → List S → List Site → Type 0
AllStand stands [] [] = Unit {0}
AllStand stands (core ∷ cores) (site ∷ sites) = stands core site × AllStand stands cores sites
AllStand stands [] (site ∷ sites) = ⊥
AllStand stands (core ∷ cores) [] = ⊥

pub record WorldStands {S : Type 0} (stands : S → Site → Type 0) (held : Held S) (world : World) : Type 0 where
  pub sites : AllStand stands held.sites world.sites
  pub bag : held.bag ≡ world.bag
