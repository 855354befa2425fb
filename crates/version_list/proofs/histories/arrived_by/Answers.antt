use Rattle.std.proofs.Common.{◌≡◌, ◌+◌, ◌-◌, ◌/◌, ◌<◌, ◌≤◌, get_or, nat_le, ℕ, IsTrue, take, length, ap, subst, arith}
use Rattle.std.proofs.lemmas.Bool.{leb-true}
use Rattle.std.specs.List.{list_all}
use Rattle.tardis_base.specs.declared.ids.Slot.{Slot}
use Rattle.version_list.specs.declared.histories.Version.{Version}
use Rattle.version_list.proofs.Orders.{kept-at, none-later, all-earlier}
use Rattle.version_list.proofs.histories.arrived_by.Goals as goal

pub arrival-requires : goal.arrival-requires
arrival-requires g c =
    let versions = c.args.versions.now in
    let lt : length versions - 1 < length versions = omega arith in
    kept-at (g.A.Above.is_kept c.args.dag.now) (g.A.Above.arrival_of c.args.dag.now) versions (length versions - 1) c.index-versions-count.result
    c.requires.order lt

pub arrival-requires-in-loop-low : goal.arrival-requires-in-loop-low
arrival-requires-in-loop-low g c =
    let middle = c.loop-low.low + (c.loop-low.high - c.loop-low.low) / 2 in
    let bound = c.loop-low.invariant.bound in
    let lt : middle < length c.args.versions.now = omega arith in
    kept-at (g.A.Above.is_kept c.args.dag.now) (g.A.Above.arrival_of c.args.dag.now) c.args.versions.now middle c.index-versions-middle.result
    c.requires.order lt

pub loop-low-preserved-then-arrival-2 : goal.loop-low-preserved-then-arrival-2
loop-low-preserved-then-arrival-2 g c =
    let dag = c.args.dag.now in
    let versions = c.args.versions.now in
    let middle = c.loop-low.low + (c.loop-low.high - c.loop-low.low) / 2 in
    let bound = c.loop-low.invariant.bound in
    let lt : middle < length versions = omega arith in
    let at = g.A.Above.arrival_of dag c.args.at in
    let later : at < g.A.Above.arrival_of dag (get_or versions middle c.index-versions-middle.result).slot =
    omega (arith, c.arrival-in-loop-low.ensures, c.arrival-arrival.ensures, c.if-arrival-2.true) in
    record {
      order = omega arith;
      bound = omega arith;
      early = c.loop-low.invariant.early;
      late =
          none-later (g.A.Above.is_kept dag) (g.A.Above.arrival_of dag) (λ (a : Slot). nat_le (g.A.Above.arrival_of dag a) at) at
          (λ (a : Slot) e. leb-true (g.A.Above.arrival_of dag a) at e)
          versions middle c.index-versions-middle.result c.requires.order lt later;
      behind =
          none-later (g.A.Above.is_kept dag) (g.A.Above.arrival_of dag) (λ (a : Slot). g.A.Above.is_above dag a c.args.at) at
          (λ (a : Slot). g.met.A.Above.above_came_first dag a c.args.at)
          versions middle c.index-versions-middle.result c.requires.order lt later;
    }

pub returns-then-arrival-clause-early : goal.returns-then-arrival-clause-early
returns-then-arrival-clause-early g c =
    let arrival = g.A.Above.arrival_of c.args.dag.now in
    let versions = c.args.versions.now in
    let lt : length versions - 1 < length versions = omega arith in
    let last : ℕ.suc (length versions - 1) ≡ length versions = omega arith in
    let found = ap (λ (v : Version). arrival v.slot) c.index-versions-count.is in
    let le : arrival (get_or versions (length versions - 1) c.index-versions-count.result).slot ≤ arrival c.args.at =
    omega (arith, found, c.arrival.ensures, c.arrival-arrival.ensures, c.if-arrival.true) in
    subst (λ n. IsTrue (list_all (λ (v : Version). nat_le (arrival v.slot) (arrival c.args.at)) (take n versions))) last
    (all-earlier (g.A.Above.is_kept c.args.dag.now) arrival (arrival c.args.at) versions (length versions - 1) c.index-versions-count.result
    c.requires.order lt le)

pub loop-low-preserved : goal.loop-low-preserved
loop-low-preserved g c =
    let arrival = g.A.Above.arrival_of c.args.dag.now in
    let versions = c.args.versions.now in
    let middle = c.loop-low.low + (c.loop-low.high - c.loop-low.low) / 2 in
    let bound = c.loop-low.invariant.bound in
    let lt : middle < length versions = omega arith in
    let more : ℕ.suc middle ≡ middle + 1 = omega arith in
    let found = ap (λ (v : Version). arrival v.slot) c.index-versions-middle.is in
    let le : arrival (get_or versions middle c.index-versions-middle.result).slot ≤ arrival c.args.at =
    omega (arith, found, c.arrival-in-loop-low.ensures, c.arrival-arrival.ensures, c.if-arrival-2.false) in
    record {
      order = omega arith;
      bound = bound;
      behind = c.loop-low.invariant.behind;
      early =
          subst (λ n. IsTrue (list_all (λ (v : Version). nat_le (arrival v.slot) (arrival c.args.at)) (take n versions))) more
          (all-earlier (g.A.Above.is_kept c.args.dag.now) arrival (arrival c.args.at) versions middle c.index-versions-middle.result c.requires.order lt le);
      late = c.loop-low.invariant.late;
    }
