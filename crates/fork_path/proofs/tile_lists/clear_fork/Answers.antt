use Rattle.std.proofs.Common.{◌∙◌, ◌==◌, ◌/◌, get_or, sym, ap, eq-eqb, arith}
use Rattle.std.proofs.lemmas.Bool.{both_ways}
use Rattle.std.proofs.lemmas.List.{get_or_default}
use Rattle.fork_path.specs.declared.tiles.Tile.{Tile}
use Rattle.fork_path.specs.Tiles.{key_of}
use Rattle.fork_path.proofs.PairOrder.{same_pair_self}
use Rattle.fork_path.proofs.TileBits.{holds-key}
use Rattle.fork_path.proofs.TileLists.{cleared-keys, cleared-filled, row_cleared-pairs, clear-next}
use Rattle.fork_path.proofs.tile_lists.clear_fork.Goals as goal
use Rattle.fork_path.proofs.tile_lists.clear_fork.Goals.{then-is_empty, else-is_empty}

abbrev none : Tile
none = record { forks = 0; branches = 0; bits = 0 }

pub returns-then-not-is_of-clause-keys : goal.returns-then-not-is_of-clause-keys
returns-then-not-is_of-clause-keys c =
    cleared-keys c.args.fork c.args.tiles.now c.loop-place.tiles c.place_of-first.result c.loop-place.place c.loop-place.is_one_empty (omega arith)
    c.loop-place.invariant

pub returns-then-not-is_of-clause-filled : goal.returns-then-not-is_of-clause-filled
returns-then-not-is_of-clause-filled c = λ e.
    cleared-filled c.args.fork c.args.tiles.now c.loop-place.tiles c.place_of-first.result c.loop-place.place c.loop-place.is_one_empty (omega arith)
    c.loop-place.invariant e

pub returns-then-not-is_of-clause-pairs : goal.returns-then-not-is_of-clause-pairs
returns-then-not-is_of-clause-pairs c = λ up.
    let tiles = c.loop-place.tiles in
    let i = c.loop-place.place in
    let fork = c.args.fork in
    row_cleared-pairs fork (key_of c.of.result) c.args.tiles.now tiles c.place_of-first.result i c.loop-place.is_one_empty
    (holds-key c.of.result (fork, 0) (c.of.ensures (fork, 0) ∙ same_pair_self (fork, 0))) (omega arith) (omega arith) c.place_of-first.ensures.place
    c.loop-place.invariant
    (λ d lt same. both_ways ((get_or tiles i none).forks == fork / 32) (sym c.is_of.ensures ∙ c.if-not-is_of.true)
    (eq-eqb (get_or tiles i none).forks (fork / 32) (ap (λ (t : Tile). t.forks) (get_or_default tiles i none d (omega arith)) ∙ same))) up

pub returns-clause-keys : goal.returns-clause-keys
returns-clause-keys c =
    cleared-keys c.args.fork c.args.tiles.now c.loop-place.tiles c.place_of-first.result c.loop-place.place c.loop-place.is_one_empty (omega arith)
    c.loop-place.invariant

pub returns-clause-filled : goal.returns-clause-filled
returns-clause-filled c = λ e.
    cleared-filled c.args.fork c.args.tiles.now c.loop-place.tiles c.place_of-first.result c.loop-place.place c.loop-place.is_one_empty (omega arith)
    c.loop-place.invariant e

pub returns-clause-pairs : goal.returns-clause-pairs
returns-clause-pairs c = λ up.
    let fork = c.args.fork in
    row_cleared-pairs fork (key_of c.of.result) c.args.tiles.now c.loop-place.tiles c.place_of-first.result c.loop-place.place c.loop-place.is_one_empty
    (holds-key c.of.result (fork, 0) (c.of.ensures (fork, 0) ∙ same_pair_self (fork, 0))) (omega arith) (omega arith) c.place_of-first.ensures.place
    c.loop-place.invariant (λ d lt. absurd (omega arith)) up

pub loop-place-preserved : goal.loop-place-preserved
loop-place-preserved c =
    let tiles = c.loop-place.tiles in
    let i = c.loop-place.place in
    clear-next c.args.fork c.args.tiles.now tiles c.place_of-first.result i c.loop-place.is_one_empty c.if-is_empty.is_one_empty (get_or tiles i none)
    c.without-left.result (omega arith) (omega arith) (omega arith) (λ d. get_or_default tiles i d none (omega arith))
    (record { key = c.without-left.ensures.key; pairs = c.without-left.ensures.pairs }) (λ e. elim c.if-is_empty.branch [
      | then-is_empty w ↦ absurd (both_ways c.if-is_empty.is_one_empty e w.is_one_empty-is)
      | else-is_empty w ↦ (sym w.is_one_empty-is ∙ e, c.is_empty.ensures.some w.if-is_empty.false)
    ]) c.loop-place.invariant
