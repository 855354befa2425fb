use Rattle.std.proofs.Common.{ℕ, ◌≡◌, ◌-◌, ◌^◌, ◌∙◌, min, vec_len, vec_capacity, ap, sym, refl, arith}
use Rattle.fork_path.proofs.PairOrder.{same_pair_self}
use Rattle.fork_path.proofs.PairSets.{grown}
use Rattle.fork_path.proofs.TileViews.{ascending-pairs_of}
use Rattle.fork_path.proofs.TilePaths.{seen-ascending, put-pairs, whole-room}
use Rattle.fork_path.specs.Tiles.{pairs_of}
use Rattle.fork_path.proofs.ForkPath.with_pair.Goals as goal

pub returns-clause-added : goal.returns-clause-added
returns-clause-added c =
    let pair : ℕ × ℕ = (c.args.fork, c.args.branch) in
    put-pairs c.self.inside.tiles.items c.put_tile.new.tiles.items c.of.result pair c.args.self.now.pairs (ap (λ v. v.pairs) c.self.view_is) c.of.ensures
    c.put_tile.ensures.pairs

pub returns-clause-ascending : goal.returns-clause-ascending
returns-clause-ascending c = ascending-pairs_of c.put_tile.new.tiles.items

pub returns-clause-pairs : goal.returns-clause-pairs
returns-clause-pairs c =
    let pair : ℕ × ℕ = (c.args.fork, c.args.branch) in
    let seen = ap (λ v. v.pairs) c.self.view_is in
    let added = put-pairs c.self.inside.tiles.items c.put_tile.new.tiles.items c.of.result pair c.args.self.now.pairs seen c.of.ensures
    c.put_tile.ensures.pairs in
    (grown pair c.args.self.now.pairs (pairs_of c.put_tile.new.tiles.items) (seen-ascending c.self.inside.tiles.items c.args.self.now.pairs seen) added).pairs

pub returns-clause-count : goal.returns-clause-count
returns-clause-count c =
    let pair : ℕ × ℕ = (c.args.fork, c.args.branch) in
    let seen = ap (λ v. v.pairs) c.self.view_is in
    let added = put-pairs c.self.inside.tiles.items c.put_tile.new.tiles.items c.of.result pair c.args.self.now.pairs seen c.of.ensures
    c.put_tile.ensures.pairs in
    (grown pair c.args.self.now.pairs (pairs_of c.put_tile.new.tiles.items) (seen-ascending c.self.inside.tiles.items c.args.self.now.pairs seen) added).count

pub invariant_of-self : goal.invariant_of-self
invariant_of-self c =
    let made = c.put_tile.ensures in
    let pair : ℕ × ℕ = (c.args.fork, c.args.branch) in
    let room : c.args.self.now.room ≡ min (vec_capacity c.self.inside.tiles) (2 ^ 57) - vec_len c.self.inside.tiles = sym (ap (λ v. v.room) c.self.view_is) in
    (made.ascending c.self.invariant.0, made.filled (pair, c.of.ensures pair ∙ same_pair_self pair) c.self.invariant.1, omega (arith, room))

pub returns-clause-exact : goal.returns-clause-exact
returns-clause-exact c =
    let after = invariant_of-self c in
    whole-room c.put_tile.new.tiles _ after.0 after.1 after.2 refl
    ∙ ap (λ n. min n (2 ^ 57)) c.put_tile.ensures.capacity
    ∙ sym (whole-room c.self.inside.tiles c.args.self.now c.self.invariant.0 c.self.invariant.1 c.self.invariant.2 c.self.view_is)
