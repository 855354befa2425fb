-- What is noted of a site before a request, and how the site behind it follows.
use Rattle.std.specs.Prelude.{◌≡◌, ◌+◌, ◌<◌, ℕ, Some, length, get_or, option_to_list, IsTrue}
use Rattle.plain_dag.specs.Collection.{kept_states}
use Rattle.plain_dag.specs.Floors.{floor_of}
use Rattle.plain_site.specs.Site.{Site}
use Rattle.plain_site.specs.Sound.{IsSound}
use Rattle.plain_site.specs.Rest.{Lasting, at_rest, replay, lasting_between}
use Rattle.plain_site.specs.RestSpellings.{is_lasting}
use Rattle.session_core.specs.Core.{Core}
use Rattle.session_core.specs.Machine.{SiteStands}
use Rattle.rest_site.specs.declared.notes.Noted.{Noted}

-- this was noted of the site: how many states are known and kept, and the number of each site's floor
pub record IsNoted (noted : Noted) (site : Site) : Type 0 where
  pub known : noted.known ≡ length site.dag
  pub kept : noted.kept ≡ length (kept_states site.dag site.collected)
  pub numbers : (i : ℕ) → i < length site.floors → get_or noted.numbers i 0 ≡ (floor_of site.floors (i + 1)).number

-- The site behind follows the one before, which is sound, by one thing at most: what is seen between them can be spelled, and is
-- all that the one behind has more at rest.
pub record Follows (before behind : Site) : Type 0 where
  pub sound : IsSound before
  pub adds : replay (option_to_list (lasting_between before behind)) (at_rest before) ≡ at_rest behind
  pub spelled : (l : Lasting) → lasting_between before behind ≡ Some l → IsTrue (is_lasting l)

-- it stands for a site that follows one of which this was noted
pub record HasActed (noted : Noted) (core : Core) : Type 0 where
  pub before : Site
  pub behind : Site
  pub is_noted : IsNoted noted before
  pub stands : SiteStands core behind
  pub follows : Follows before behind
