use Rattle.std.proofs.Common.{◌≡◌, length, take}
use Rattle.plain_site.specs.Site.{Site}
use Rattle.plain_site.specs.Shows.{site_lines}
use Rattle.session_core.specs.Stands.{CoreStands}
use Rattle.session_core.proofs.Parts.site_lines.Given as goal

abbrev pub invariant-loop-place : goal.invariant-loop-place
invariant-loop-place l = record {
  number : length l.lines ≡ l.place;
  so_far : (site : Site) → CoreStands l.self site → l.lines ≡ take l.place (site_lines site.dag 1 site.floors);
}
