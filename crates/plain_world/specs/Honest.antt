-- What holds of a world as long as no site is told what no site said.
use Rattle.std.specs.Prelude.{◌≡◌, ◌⊎◌, ℕ, ◌≤◌, ◌<◌, List, [], ◌∷◌, length, Some, IsTrue, IsFalse}
use Rattle.tardis_base.specs.declared.ids.StateId.{StateId}
use Rattle.tardis_base.specs.declared.records.Record.{Record}
use Rattle.tardis_base.specs.declared.records.Consent.{Consent}
use Rattle.tardis_base.specs.declared.records.Batch.{Batch}
use Rattle.tardis_base.specs.Ids.{root, same_id, is_among}
use Rattle.tardis_base.specs.Valid.{is_within}
use Rattle.wire_item.specs.Valid.{is_batch}
use Rattle.plain_dag.specs.States.{record_at, is_known}
use Rattle.plain_dag.specs.Above.{is_above, is_proper_ancestor}
use Rattle.plain_dag.specs.Floors.{Floor, floor_of}
use Rattle.plain_site.specs.Site.{Site, own_floor, own_count}
use Rattle.plain_site.specs.Sound.{IsSound}
use Rattle.plain_world.specs.Worlds.{World, site_at}

-- it is one of these
abbrev pub IsOneOf : {A : Type 0} → A → List A → Type 0
IsOneOf a [] = ⊥
IsOneOf a (b ∷ bs) = (a ≡ b) ⊎ IsOneOf a bs

-- the record is in the world: a site has it in its history, the root's aside, or in its waiting room, or a batch has it
pub data HasRecord (world : World) (r : Record) : Type 0 where
  in_history : (m : ℕ) (site : Site) → site_at world.sites m ≡ Some site → IsOneOf r site.dag → IsFalse (same_id r.id root) → HasRecord world r
  in_room : (m : ℕ) (site : Site) → site_at world.sites m ≡ Some site → IsOneOf r site.waiting → HasRecord world r
  in_bag : (batch : Batch) → IsOneOf batch world.bag → IsOneOf r batch.records → HasRecord world r

-- what a consent says: a floor with its number, and a count
abbrev pub said : Consent → Floor
said c = record { state = c.floor; number = c.number; stated = c.count }

-- this consent of site n is in the world, the one with number 0 included: a site has taken it, or a batch has it
pub data HasConsent (world : World) (n : ℕ) (f : Floor) : Type 0 where
  at_site : (m : ℕ) (site : Site) → site_at world.sites m ≡ Some site → IsTrue (is_within 1 (length world.sites) n) → floor_of site.floors n ≡ f
      → HasConsent world n f
  in_bag : (batch : Batch) (c : Consent) → IsOneOf batch world.bag → IsOneOf c batch.consents → c.site ≡ n → said c ≡ f → HasConsent world n f

-- the record's own site has it
abbrev pub IsOfItsSite : World → Record → Type 0
IsOfItsSite world r = (home : Site) × (site_at world.sites r.id.site ≡ Some home) × (record_at home.dag r.id ≡ Some r)

-- Site n stands by the consent. It knows its floor, which is at or above the own floor; neither its number nor its count is
-- above the own ones; and no state that it made after so many has a parent that is a proper ancestor of that floor.
pub record StandsBy (n : ℕ) (home : Site) (f : Floor) : Type 0 where
  pub known : IsTrue (is_known home.dag f.state)
  pub under : IsTrue (is_above home.dag f.state (own_floor home).state)
  pub number : f.number ≤ (own_floor home).number
  pub stated : f.stated ≤ own_count home
  pub kept : (r : Record) (p : StateId) → IsOneOf r home.dag → r.id.site ≡ n → f.stated < r.id.sequence → IsTrue (is_among p r.parents) →
      IsFalse (is_proper_ancestor home.dag p f.state)

-- the site is sound, has this number, and knows how many sites there are
pub record IsSite (sites : ℕ) (n : ℕ) (site : Site) : Type 0 where
  pub sound : IsSound site
  pub own : site.own ≡ n
  pub all : site.limits.sites ≡ sites

pub record IsHonest (world : World) : Type 0 where
  pub sites : (n : ℕ) (site : Site) → site_at world.sites n ≡ Some site → IsSite (length world.sites) n site
  -- each batch is one that bytes can spell
  pub bag : (batch : Batch) → IsOneOf batch world.bag → IsTrue (is_batch batch)
  -- each record is one that its own site has
  pub records : (r : Record) → HasRecord world r → IsOfItsSite world r
  -- each consent is one that its own site stands by
  pub consents : (n : ℕ) (f : Floor) → HasConsent world n f → (home : Site) × (site_at world.sites n ≡ Some home) × StandsBy n home f
  -- a site has one consent of each number, and its floors go down
  pub one_each : (n : ℕ) (f g : Floor) → HasConsent world n f → HasConsent world n g → f.number ≡ g.number → f ≡ g
  pub in_order : (n : ℕ) (f g : Floor) (home : Site) → HasConsent world n f → HasConsent world n g → f.number < g.number →
      site_at world.sites n ≡ Some home → IsTrue (is_above home.dag f.state g.state)
