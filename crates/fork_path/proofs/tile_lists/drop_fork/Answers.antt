use Rattle.std.proofs.Common.{◌≡◌, ◌∙◌, ◌==◌, ◌&&◌, ◌++◌, true, not, length, take, drop, filter, subst, sym, ap, rules}
use Rattle.std.proofs.lemmas.Fn.{filter_same, All-from_retain}
use Rattle.std.specs.List.{All}
use Rattle.fork_path.specs.declared.tiles.Tile.{Tile}
use Rattle.fork_path.specs.Pairs.{are_ascending_pairs}
use Rattle.fork_path.specs.Tiles.{keys_of, some_holds, HoldsPair}
use Rattle.fork_path.proofs.TileBits.{left_out-holds}
use Rattle.fork_path.proofs.TileLists.{kept-keys, kept-pairs, written}
use Rattle.fork_path.proofs.tile_lists.drop_fork.Goals as goal

pub returns-then-not-clear_fork-clause-ascending : goal.returns-then-not-clear_fork-clause-ascending
returns-then-not-clear_fork-clause-ascending c = λ up.
    let new = c.clear_fork.new.tiles in
    let old = c.args.tiles.now.items in
    let whole : take c.args.tiles.now.len (new ++ drop (length new) old) ≡ new = written new old c.args.tiles.now.len (search rules) (search rules) in
    let keys : keys_of new ≡ keys_of old = c.clear_fork.ensures.keys ∙ ap keys_of c.as_mut_slice.ensures.value in
    subst (λ ts. are_ascending_pairs (keys_of ts) ≡ true) (sym whole) (subst (λ ks. are_ascending_pairs ks ≡ true) (sym keys) up)

pub returns-then-not-clear_fork-clause-pairs : goal.returns-then-not-clear_fork-clause-pairs
returns-then-not-clear_fork-clause-pairs c = λ up p.
    let new = c.clear_fork.new.tiles in
    let old = c.args.tiles.now.items in
    let whole : take c.args.tiles.now.len (new ++ drop (length new) old) ≡ new = written new old c.args.tiles.now.len (search rules) (search rules) in
    ap (λ ts. some_holds ts p) whole
    ∙ c.clear_fork.ensures.pairs (subst (λ ts. are_ascending_pairs (keys_of ts) ≡ true) (sym c.as_mut_slice.ensures.value) up) p
    ∙ ap (λ ts. not (p.0 == c.args.fork) && some_holds ts p) c.as_mut_slice.ensures.value

pub returns-then-not-clear_fork-clause-filled : goal.returns-then-not-clear_fork-clause-filled
returns-then-not-clear_fork-clause-filled c = λ all.
    let new = c.clear_fork.new.tiles in
    let old = c.args.tiles.now.items in
    let whole : take c.args.tiles.now.len (new ++ drop (length new) old) ≡ new = written new old c.args.tiles.now.len (search rules) (search rules) in
    subst (All HoldsPair) (sym whole) (c.clear_fork.ensures.filled c.if-not-clear_fork.true (subst (All HoldsPair) (sym c.as_mut_slice.ensures.value) all))

pub returns-clause-ascending : goal.returns-clause-ascending
returns-clause-ascending c = λ up.
    let keep = λ (t : Tile). not (t.bits == 0) in
    let new = c.clear_fork.new.tiles in
    let old = c.args.tiles.now.items in
    let whole : take c.args.tiles.now.len (new ++ drop (length new) old) ≡ new = written new old c.args.tiles.now.len (search rules) (search rules) in
    let kept : c.retain.new.self.items ≡ filter keep (take c.args.tiles.now.len (new ++ drop (length new) old)) =
    filter_same _ _ _ (λ x b f' k. search rules) _ _ c.retain.ensures.filtered in
    let keys : keys_of new ≡ keys_of old = c.clear_fork.ensures.keys ∙ ap keys_of c.as_mut_slice.ensures.value in
    subst (λ ts. are_ascending_pairs (keys_of ts) ≡ true) (sym (kept ∙ ap (filter keep) whole))
    (kept-keys keep new (subst (λ ks. are_ascending_pairs ks ≡ true) (sym keys) up))

pub returns-clause-pairs : goal.returns-clause-pairs
returns-clause-pairs c = λ up p.
    let keep = λ (t : Tile). not (t.bits == 0) in
    let new = c.clear_fork.new.tiles in
    let old = c.args.tiles.now.items in
    let whole : take c.args.tiles.now.len (new ++ drop (length new) old) ≡ new = written new old c.args.tiles.now.len (search rules) (search rules) in
    let kept : c.retain.new.self.items ≡ filter keep (take c.args.tiles.now.len (new ++ drop (length new) old)) =
    filter_same _ _ _ (λ x b f' k. search rules) _ _ c.retain.ensures.filtered in
    ap (λ ts. some_holds ts p) (kept ∙ ap (filter keep) whole) ∙ kept-pairs keep new p (λ t n. left_out-holds t p n)
    ∙ c.clear_fork.ensures.pairs (subst (λ ts. are_ascending_pairs (keys_of ts) ≡ true) (sym c.as_mut_slice.ensures.value) up) p
    ∙ ap (λ ts. not (p.0 == c.args.fork) && some_holds ts p) c.as_mut_slice.ensures.value

pub returns-clause-filled : goal.returns-clause-filled
returns-clause-filled c = λ all. All-from_retain _ HoldsPair _ (λ x b f' k. (λ t. search rules, search rules)) _ _ c.retain.ensures.filtered
