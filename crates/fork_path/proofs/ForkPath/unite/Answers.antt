use Rattle.std.proofs.Common.{◌≡◌, ◌∙◌, length, ◌||◌, ap, ap₂, sym, arith, eqb-true, vec_len}
use Rattle.fork_path.specs.Tiles.{some_holds}
use Rattle.fork_path.proofs.TileViews.{ascending-pairs_of}
use Rattle.fork_path.proofs.TilePaths.{seen-ascending, united-pairs, united-first, copied-first, filled-same}
use Rattle.fork_path.proofs.ForkPath.unite.Goals as goal

pub returns-in_err-reserve_exact-clause-ascending : goal.returns-in_err-reserve_exact-clause-ascending
returns-in_err-reserve_exact-clause-ascending c = ascending-pairs_of c.reserve_exact.new.self.items

pub returns-in_err-extend_from_slice-clause-ascending : goal.returns-in_err-extend_from_slice-clause-ascending
returns-in_err-extend_from_slice-clause-ascending c = ascending-pairs_of c.extend_from_slice.new.self.items

pub returns-then-is_empty-clause-pairs : goal.returns-then-is_empty-clause-pairs
returns-then-is_empty-clause-pairs c =
    let own = c.self.inside.tiles.items in
    let others = c.other.inside.tiles.items in
    let none = eqb-true (vec_len c.self.inside.tiles) 0 (sym c.is_empty.ensures ∙ c.if-is_empty.true) in
    let is : c.extend_from_slice.new.self.items ≡ others =
    copied-first own others c.reserve_exact.new.self.items c.as_slice-others.result.now c.extend_from_slice.new.self.items
    (omega (arith, none)) c.reserve_exact.ensures.items c.as_slice-others.ensures.value c.in_ok-extend_from_slice.ensures.items in
    united-pairs own others c.extend_from_slice.new.self.items c.args.self.now.pairs c.args.other.now.pairs
    (ap (λ v. v.pairs) c.self.view_is) (ap (λ v. v.pairs) c.other.view_is) (united-first own others c.extend_from_slice.new.self.items (omega (arith, none)) is)

pub returns-then-is_empty-clause-ascending : goal.returns-then-is_empty-clause-ascending
returns-then-is_empty-clause-ascending c = ascending-pairs_of c.extend_from_slice.new.self.items

pub returns-then-is_empty-2-clause-ascending : goal.returns-then-is_empty-2-clause-ascending
returns-then-is_empty-2-clause-ascending c = seen-ascending c.self.inside.tiles.items c.args.self.now.pairs (ap (λ v. v.pairs) c.self.view_is)

pub returns-in_err-tiles-clause-ascending : goal.returns-in_err-tiles-clause-ascending
returns-in_err-tiles-clause-ascending c = seen-ascending c.self.inside.tiles.items c.args.self.now.pairs (ap (λ v. v.pairs) c.self.view_is)

pub returns-then-len-gt-MOST_TILES-clause-ascending : goal.returns-then-len-gt-MOST_TILES-clause-ascending
returns-then-len-gt-MOST_TILES-clause-ascending c = seen-ascending c.self.inside.tiles.items c.args.self.now.pairs (ap (λ v. v.pairs) c.self.view_is)

pub returns-clause-pairs : goal.returns-clause-pairs
returns-clause-pairs c =
    united-pairs c.self.inside.tiles.items c.other.inside.tiles.items c.in_ok-tiles.tiles.items c.args.self.now.pairs c.args.other.now.pairs
    (ap (λ v. v.pairs) c.self.view_is) (ap (λ v. v.pairs) c.other.view_is)
    (λ p. c.in_ok-tiles.ensures.pairs p ∙ ap₂ (λ xs ys. some_holds xs p || some_holds ys p) c.as_slice-2.ensures.value c.as_slice.ensures.value)

pub returns-clause-ascending : goal.returns-clause-ascending
returns-clause-ascending c = ascending-pairs_of c.in_ok-tiles.tiles.items

pub invariant_of-self-then-is_empty : goal.invariant_of-self-then-is_empty
invariant_of-self-then-is_empty c =
    let others = c.other.inside.tiles.items in
    let none = eqb-true (vec_len c.self.inside.tiles) 0 (sym c.is_empty.ensures ∙ c.if-is_empty.true) in
    let is : c.extend_from_slice.new.self.items ≡ others =
    copied-first c.self.inside.tiles.items others c.reserve_exact.new.self.items c.as_slice-others.result.now c.extend_from_slice.new.self.items
    (omega (arith, none)) c.reserve_exact.ensures.items c.as_slice-others.ensures.value c.in_ok-extend_from_slice.ensures.items in
    let whole = filled-same c.extend_from_slice.new.self.items others is (c.other.invariant.0, c.other.invariant.1) in
    (whole.0, whole.1, omega (arith, ap length is, c.other.inside.tiles.ok.0, c.extend_from_slice.new.self.ok.0, c.other.invariant.2))

pub invariant_of-self-2 : goal.invariant_of-self-2
invariant_of-self-2 c =
    let own = filled-same c.as_slice.result.now c.self.inside.tiles.items c.as_slice.ensures.value (c.self.invariant.0, c.self.invariant.1) in
    let others = filled-same c.as_slice-2.result.now c.other.inside.tiles.items c.as_slice-2.ensures.value (c.other.invariant.0, c.other.invariant.1) in
    (c.in_ok-tiles.ensures.ascending own.0 others.0, c.in_ok-tiles.ensures.filled own.1 others.1, omega arith)
