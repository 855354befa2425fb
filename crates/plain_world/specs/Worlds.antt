-- Several sites, and the bag of the batches that they gave.
use Rattle.std.specs.Prelude.{ℕ, ◌+◌, ◌-◌, List, [], ◌∷◌, ◌++◌, map, Option, None, slice_get, slice_set}
use Rattle.std.specs.Option.{option_and_then}
use Rattle.tardis_base.specs.declared.records.Limits.{Limits}
use Rattle.tardis_base.specs.declared.records.Batch.{Batch}
use Rattle.tardis_base.specs.declared.records.Item.{Item}
use Rattle.tardis_base.specs.declared.records.Item.TheVariants.{State, Promise}
use Rattle.plain_site.specs.Site.{Site, opening}

-- the sites, in the order of their numbers, from 1 on; and all batches that were given, in order
pub record World : Type 0 where
  pub sites : List Site
  pub bag : List Batch

-- the site with this number
abbrev pub site_at : List Site → ℕ → Option Site
site_at sites ℕ.zero = None
site_at sites (ℕ.suc n) = slice_get sites n

-- the sites with another one of this number
abbrev pub with_site : List Site → ℕ → Site → List Site
with_site sites n site = slice_set sites (n - 1) site

-- ===== A world that opens

-- so many sites that open, numbered from this number on
abbrev pub opening_sites : Limits → ℕ → ℕ → List Site
opening_sites limits n ℕ.zero = []
opening_sites limits n (ℕ.suc more) = opening limits n ∷ opening_sites limits (n + 1) more

-- as many sites as the limits say, each as it opens, and an empty bag
abbrev pub opening_world : Limits → World
opening_world limits = record { sites = opening_sites limits 1 limits.sites; bag = [] }

-- the limits of each site where there are so many
abbrev pub world_limits : ℕ → Limits
world_limits sites = record { sites = sites; max_kept = 1024; max_path = 4096; max_sessions = 256; max_trail = 1073741824 }

-- ===== The bag

-- the most batches that the bag holds
abbrev pub most_batches : ℕ
most_batches = 1024

-- the items of a batch: its records, then its consents
abbrev pub items : Batch → List Item
items batch = map State batch.records ++ map Promise batch.consents

-- an item of a batch; both are counted from 0
abbrev pub item_at : List Batch → ℕ → ℕ → Option Item
item_at bag batch item = option_and_then (λ b. slice_get (items b) item) (slice_get bag batch)
