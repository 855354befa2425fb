use Rattle.std.proofs.Common.{◌≡◌, ℕ, ◌-◌, ◌<◌, true, false, Some, IsTrue, length, drop, sym, ◌∙◌, ap, subst, arith}
use Rattle.std.specs.List.{list_any}
use Rattle.version_list.specs.declared.histories.Version.{Version}
use Rattle.version_list.specs.Reads.{last_arrived}
use Rattle.version_list.proofs.Orders.{kept-at, last-found, filter-none}
use Rattle.version_list.proofs.histories.latest.Goals as goal

pub loop-place-init : goal.loop-place-init
loop-place-init g c = c.arrived_by-place.ensures.behind

pub above-requires-clause-first : goal.above-requires-clause-first
above-requires-clause-first g c =
    let lt : c.loop-place.place - 1 < length c.args.versions.now = omega arith in
    subst (λ (v : Version). IsTrue (g.A.Above.is_kept c.args.dag.now v.slot)) (sym c.index-versions-place.is)
    (kept-at (g.A.Above.is_kept c.args.dag.now) (g.A.Above.arrival_of c.args.dag.now) c.args.versions.now
    (c.loop-place.place - 1) c.index-versions-place.result c.requires.order lt)

pub returns-then-above : goal.returns-then-above
returns-then-above g c =
    let lt : c.loop-place.place - 1 < length c.args.versions.now = omega arith in
    let last : c.loop-place.place ≡ ℕ.suc (c.loop-place.place - 1) = omega arith in
    let there = subst (λ (v : Version). g.A.Above.is_above c.args.dag.now v.slot c.args.at ≡ true) c.index-versions-place.is
    (sym c.above.ensures ∙ c.if-above.true) in
    let none = subst (λ n. list_any (λ (v : Version). g.A.Above.is_above c.args.dag.now v.slot c.args.at) (drop n c.args.versions.now) ≡ false) last
    c.loop-place.invariant in
    ap Some c.index-versions-place.is
    ∙ sym (last-found (g.A.Above.is_kept c.args.dag.now) (g.A.Above.arrival_of c.args.dag.now)
    (λ (v : Version). g.A.Above.is_above c.args.dag.now v.slot c.args.at)
    c.args.versions.now (c.loop-place.place - 1) c.index-versions-place.result c.requires.order lt there none)

pub returns : goal.returns
returns g c =
    let ended : c.loop-place.place ≡ 0 = omega arith in
    let none = subst (λ n. list_any (λ (v : Version). g.A.Above.is_above c.args.dag.now v.slot c.args.at) (drop n c.args.versions.now) ≡ false) ended
    c.loop-place.invariant in
    sym (ap (last_arrived (g.A.Above.arrival_of c.args.dag.now))
    (filter-none (λ (v : Version). g.A.Above.is_above c.args.dag.now v.slot c.args.at) c.args.versions.now none))
