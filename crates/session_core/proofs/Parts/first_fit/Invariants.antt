use Rattle.std.proofs.Common.{◌≡◌, ℕ, Option, None, take}
use Rattle.tardis_base.specs.declared.records.Record.{Record}
use Rattle.plain_site.specs.Site.{Site}
use Rattle.plain_site.specs.Sound.{IsSound}
use Rattle.plain_site.specs.WaitingRoom.{first_fit}
use Rattle.plain_site.specs.Exchange.{is_fit}
use Rattle.session_core.specs.Stands.{CoreStands}
use Rattle.session_core.proofs.Parts.first_fit.Given as goal

abbrev pub invariant-loop-place : goal.invariant-loop-place
invariant-loop-place l =
    (site : Site) → CoreStands l.self site → IsSound site → ◌≡◌ {A = Option (ℕ × Record)} (first_fit (is_fit site) (take l.place site.waiting)) None
