use Rattle.std.proofs.Common.{◌≡◌, ◌+◌, length, drop}
use Rattle.plain_site.specs.Site.{Site}
use Rattle.plain_site.specs.Rest.{promise_between}
use Rattle.session_core.specs.Machine.{SiteStands}
use Rattle.rest_site.specs.Notes.{IsNoted}
use Rattle.rest_site.proofs.notes.raised.Given as goal

abbrev pub invariant-loop-place : goal.invariant-loop-place
invariant-loop-place l = record {
  so_far : (old behind : Site) → IsNoted l.before old → SiteStands l.core behind → length old.floors ≡ length behind.floors →
      promise_between 1 old.floors behind.floors ≡ promise_between (l.place + 1) (drop l.place old.floors) (drop l.place behind.floors);
}
