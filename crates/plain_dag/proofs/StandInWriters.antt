-- The latest writer at a writer's stand-in.
use Rattle.std.proofs.Common.{◌≡◌, true, List, Option, Some, None, IsTrue, IsSome, refl, sym, ◌∙◌}
use Rattle.std.proofs.lemmas.Bool.{and_parts, and_from}
use Rattle.tardis_base.specs.declared.ids.StateId.{StateId}
use Rattle.tardis_base.specs.declared.records.Record.{Record}
use Rattle.plain_dag.specs.States.{is_known, writes_key}
use Rattle.plain_dag.specs.Above.{is_above}
use Rattle.plain_dag.specs.Writers.{latest_writer}
use Rattle.plain_dag.specs.Collection.{stand_in}
use Rattle.plain_dag.specs.Dag.{IsDag}
use Rattle.plain_dag.specs.Laws.{StandInsAreShared, LatestWritersStandInThere}
use Rattle.plain_dag.proofs.States.{not-both}
use Rattle.plain_dag.proofs.Growth.{writer-is-known}
use Rattle.plain_dag.proofs.Order.{above-reflexive, above-transitive, above-antisymmetric}
use Rattle.plain_dag.proofs.LatestWriter.{one-latest-writer}
use Rattle.plain_dag.proofs.StandIns.{stands-in-well}

the-one : (o : Option StateId) → IsSome o → (v : StateId) × (o ≡ Some v)
the-one (Some v) some = (v, refl)
the-one None some = not-both true refl (sym some)

-- w is at or above the latest writer v, which is at or above x, where w stands in; so v's stand-in is at or above x, and x at or above it
pub latest-writers-stand-in-there : (rs : List Record) (ks : List StateId) → IsDag rs → StandInsAreShared rs ks → LatestWritersStandInThere rs ks
latest-writers-stand-in-there rs ks dag shared k w writes =
    let well = stands-in-well rs ks dag shared in
    let x = stand_in rs ks w in
    let known = writer-is-known rs k w writes in
    let kept = well.kept w known in
    let here = (and_parts (is_known rs x) _ kept).0 in
    let above : IsTrue (is_above rs w x) = well.tells w x known kept ∙ above-reflexive rs x in
    let one = one-latest-writer rs dag k x here in
    let is_writer_here = and_from (writes_key rs k w) (is_above rs w x) writes above in
    let latest = the-one (latest_writer rs k x) (one.found w is_writer_here) in
    let v = latest.0 in
    let is_latest = one.is_latest v latest.1 in
    let parts = and_parts (writes_key rs k v) (is_above rs v x) is_latest.writes in
    let known_too = writer-is-known rs k v parts.0 in
    let place = stand_in rs ks v in
    let kept_too = well.kept v known_too in
    let down : IsTrue (is_above rs place x) = sym (well.tells v x known_too kept) ∙ parts.1 in
    let under : IsTrue (is_above rs v place) = well.tells v place known_too kept_too ∙ above-reflexive rs place in
    let through = above-transitive rs dag w v place (is_latest.below w is_writer_here) under in
    let up : IsTrue (is_above rs x place) = sym (well.tells w place known kept_too) ∙ through in
    (v, latest.1, above-antisymmetric rs dag place x down up)
