use Rattle.std.proofs.Common.{◌≡◌, ◌∙◌, ◌<◌, ◌||◌, ◌++◌, [], List, ℕ, length, drop, refl, sym, ap, arith}
use Rattle.std.proofs.lemmas.List.{map-append, drop_all}
use Rattle.std.proofs.lemmas.List.Elements.{All-same, All-append}
use Rattle.fork_path.specs.declared.tiles.Tile.{Tile}
use Rattle.fork_path.specs.Pairs.{with_each}
use Rattle.fork_path.specs.Tiles.{key_of, keys_of, some_holds, HoldsPair}
use Rattle.fork_path.proofs.TileLists.{keys-length, some-append}
use Rattle.fork_path.proofs.TileMerges.{tile_merging-more}
use Rattle.fork_path.proofs.tile_lists.add_merged.Goals as goal

pub loop-tile-init : goal.loop-tile-init
loop-tile-init c = record {
  keys = λ up more. record { ascending = up; whole = refl };
  pairs = λ p. refl;
  filled = λ base own others. (base, own);
}

pub loop-tile-preserved : goal.loop-tile-preserved
loop-tile-preserved c =
    let others = c.args.others.now in
    let lt : c.loop-tile.tile-index < length others = omega arith in
    tile_merging-more c.args.tiles.now.items c.args.own.now others c.loop-tile.tiles.items c.loop-tile.rest.now c.around.result.0.now c.around.result.2.now
    c.extend_from_slice.new.self.items c.push.new.self.items
    _ c.around.result.1 c.loop-tile.tile-index lt c.loop-tile.invariant c.around.ensures.key c.around.ensures.keys c.around.ensures.pairs
    c.around.ensures.filled c.in_ok-extend_from_slice.ensures.items c.in_ok-push.ensures.items

pub returns-clause-filled : goal.returns-clause-filled
returns-clause-filled c = λ base own others.
    let so_far = c.loop-tile.invariant.filled base own others in
    All-same HoldsPair c.extend_from_slice-2.new.self.items (c.loop-tile.tiles.items ++ c.loop-tile.rest.now) c.in_ok-extend_from_slice-2.ensures.items
    (All-append HoldsPair c.loop-tile.tiles.items c.loop-tile.rest.now so_far.0 so_far.1)

pub returns-clause-keys : goal.returns-clause-keys
returns-clause-keys c = λ up more.
    let i = c.loop-tile.tile-index in
    let others = keys_of c.args.others.now in
    let out = c.loop-tile.tiles.items in
    let rest = c.loop-tile.rest.now in
    let long : length others ≡ length c.args.others.now = keys-length c.args.others.now in
    let none : drop i others ≡ [] = drop_all i others (omega arith) in
    ap keys_of c.in_ok-extend_from_slice-2.ensures.items ∙ map-append key_of out rest
    ∙ ap (λ (ps : List (ℕ × ℕ)). keys_of out ++ with_each ps (keys_of rest)) (sym none) ∙ sym (c.loop-tile.invariant.keys up more).whole

pub returns-clause-pairs : goal.returns-clause-pairs
returns-clause-pairs c = λ p.
    let i = c.loop-tile.tile-index in
    let others = c.args.others.now in
    let out = c.loop-tile.tiles.items in
    let rest = c.loop-tile.rest.now in
    let none : drop i others ≡ [] = drop_all i others (omega arith) in
    ap (λ (ts : List Tile). some_holds ts p) c.in_ok-extend_from_slice-2.ensures.items ∙ some-append out rest p
    ∙ ap (λ (ts : List Tile). some_holds out p || (some_holds ts p || some_holds rest p)) (sym none) ∙ sym (c.loop-tile.invariant.pairs p)
