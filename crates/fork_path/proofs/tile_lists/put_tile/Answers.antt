use Rattle.std.proofs.Common.{◌≡◌, ◌<◌, ◌≤◌, ◌∙◌, ◌||◌, true, false, length, get_or, IsTrue, sym, ap, subst}
use Rattle.std.specs.List.{insert}
use Rattle.std.specs.List.Sorted.{IsPartitionPoint}
use Rattle.std.specs.Result.{is_ok}
use Rattle.std.proofs.lemmas.Bool.{cond-true}
use Rattle.std.proofs.lemmas.List.Elements.{All-same, All-set}
use Rattle.fork_path.specs.Pairs.{is_pair_before, is_same_pair, are_ascending_pairs}
use Rattle.fork_path.specs.Tiles.{key_of, keys_of, holds, some_holds, HoldsPair}
use Rattle.fork_path.proofs.TileLists.{keys-set, some-set, some-insert, inserted-keys, filled-joined, filled-insert}
use Rattle.fork_path.proofs.tile_lists.put_tile.Goals as goal

pub returns-then-is_at-clause-ascending : goal.returns-then-is_at-clause-ascending
returns-then-is_at-clause-ascending c = λ up.
    let tiles = c.args.tiles.now.items in
    let place = c.place_of-place.result in
    let here = c.is_at.ensures.here c.if-is_at.true in
    let lt : place < length tiles = subst (λ ts. place < length ts) c.as_slice-2.ensures.value here.0 in
    subst (λ ks. are_ascending_pairs ks ≡ true)
    (sym (keys-set c.joined.result tiles place c.index.result.now lt (c.joined.ensures.key ∙ ap key_of c.index.ensures))) up

pub returns-then-is_at-clause-pairs : goal.returns-then-is_at-clause-pairs
returns-then-is_at-clause-pairs c = λ p.
    let tiles = c.args.tiles.now.items in
    let place = c.place_of-place.result in
    let here = c.is_at.ensures.here c.if-is_at.true in
    let lt : place < length tiles = subst (λ ts. place < length ts) c.as_slice-2.ensures.value here.0 in
    some-set c.args.tile c.joined.result tiles place c.index.result.now p lt
    (c.joined.ensures.pairs p ∙ ap (λ t. holds t p || holds c.args.tile p) c.index.ensures)

pub returns-else-is_at-clause-ascending : goal.returns-else-is_at-clause-ascending
returns-else-is_at-clause-ascending c = λ up.
    let tile = c.args.tile in
    let tiles = c.args.tiles.now.items in
    let place = c.place_of-place.result in
    let made : c.insert.new.self.items ≡ insert tiles place tile = c.insert.ensures.items
    ∙ cond-true (is_ok c.insert.result) (insert tiles place tile) tiles (c.insert.ensures.succeeds c.requires) in
    let bound : place ≤ length tiles = subst (λ ts. place ≤ length ts) c.as_slice.ensures.value c.place_of-place.ensures.bound in
    let parts : IsTrue (are_ascending_pairs (keys_of tiles)) →
    IsPartitionPoint (λ k. is_pair_before k (key_of tile) ≡ true) (λ k. is_pair_before k (key_of tile) ≡ false) (keys_of tiles) place =
    subst (λ ts. IsTrue (are_ascending_pairs (keys_of ts)) →
    IsPartitionPoint (λ k. is_pair_before k (key_of tile) ≡ true) (λ k. is_pair_before k (key_of tile) ≡ false) (keys_of ts) place)
    c.as_slice.ensures.value c.place_of-place.ensures.place in
    let missing : place < length tiles → is_same_pair (key_of tile) (key_of (get_or tiles place tile)) ≡ false =
    subst (λ ts. place < length ts → is_same_pair (key_of tile) (key_of (get_or ts place tile)) ≡ false) c.as_slice-2.ensures.value
    (c.is_at.ensures.not_here c.if-is_at.false) in
    subst (λ ts. are_ascending_pairs (keys_of ts) ≡ true) (sym made) (inserted-keys tile tiles place up bound parts missing)

pub returns-else-is_at-clause-pairs : goal.returns-else-is_at-clause-pairs
returns-else-is_at-clause-pairs c = λ p.
    let tile = c.args.tile in
    let tiles = c.args.tiles.now.items in
    let place = c.place_of-place.result in
    let made : c.insert.new.self.items ≡ insert tiles place tile = c.insert.ensures.items
    ∙ cond-true (is_ok c.insert.result) (insert tiles place tile) tiles (c.insert.ensures.succeeds c.requires) in
    ap (λ ts. some_holds ts p) made ∙ some-insert tile tiles place p

pub returns-then-is_at-clause-filled : goal.returns-then-is_at-clause-filled
returns-then-is_at-clause-filled c = λ some all.
    All-set HoldsPair c.args.tiles.now.items c.place_of-place.result c.joined.result
    (filled-joined c.index.result.now c.args.tile c.joined.result c.joined.ensures.pairs some) all

pub returns-else-is_at-clause-filled : goal.returns-else-is_at-clause-filled
returns-else-is_at-clause-filled c = λ some all.
    let tile = c.args.tile in
    let tiles = c.args.tiles.now.items in
    let place = c.place_of-place.result in
    let made : c.insert.new.self.items ≡ insert tiles place tile = c.insert.ensures.items
    ∙ cond-true (is_ok c.insert.result) (insert tiles place tile) tiles (c.insert.ensures.succeeds c.requires) in
    All-same HoldsPair c.insert.new.self.items (insert tiles place tile) made (filled-insert tile tiles place some all)
