use Rattle.std.proofs.Common.{◌≡◌, ◌++◌, [], ◌∷◌, true, ◌||◌, sym, ◌∙◌, ap, subst, arith}
use Rattle.std.proofs.lemmas.List.{append-nil}
use Rattle.tardis_base.specs.Keys.{KeyWrite, are_ascending_keys, is_key_among, has_key, keys_of, write_of}
use Rattle.version_list.specs.Lists.{versions_in, have_room_in, version_by, are_in_order}
use Rattle.version_list.proofs.Adds.{nothing_left, last-differs, ascending-front, added-step, room-step, in_order-version_by}
use Rattle.version_list.proofs.Noted.{noted-step}
use Rattle.version_list.proofs.histories.KeyLists.add.Goals as goal

pub loop-key-preserved : goal.loop-key-preserved
loop-key-preserved g c =
    let w : KeyWrite = (c.in-Some.key, c.in-Some.write) in
    let ws = c.pop.new.self.items in
    let old = c.loop-key.self in
    let new = c.add_version.new.self in
    let popped : c.loop-key.rest.items ≡ ws ++ w ∷ [] = c.in-Some.ensures.items in
    let up = subst (λ vs. are_ascending_keys (keys_of vs) ≡ true) popped c.loop-key.invariant.ascending in
    let room = subst (λ vs. have_room_in old vs ≡ true) popped c.loop-key.invariant.room in
    let other = last-differs ws w up in
    record {
      added = λ k.
          added-step old new w c.add_version.ensures.others c.args.slot c.args.writer ws k
          (versions_in c.args.self.now k ++ version_by c.args.slot c.args.writer (write_of k c.args.writes)) other c.add_version.ensures.added
          (subst (λ vs. versions_in old k ++ version_by c.args.slot c.args.writer (write_of k vs) ≡ versions_in c.args.self.now k
          ++ version_by c.args.slot c.args.writer (write_of k c.args.writes)) popped (c.loop-key.invariant.added k));
      room = room-step old new w c.add_version.ensures.others ws other room;
      ascending = ascending-front ws w up;
      keys = c.add_version.ensures.keys ∙ c.loop-key.invariant.keys;
      space = omega (arith, c.loop-key.invariant.space, c.in-Ok.ensures.len, c.in-Ok.ensures.capacity, c.in-Some.ensures.cases);
      written = λ k.
          ap (λ ks. is_key_among k ks || has_key k ws) c.in-Ok.ensures.items
          ∙ noted-step c.loop-key.keys.items ws w k
          ∙ ap (λ vs. is_key_among k c.loop-key.keys.items || has_key k vs) (sym popped)
          ∙ c.loop-key.invariant.written k;
    }

pub returns-clause-order : goal.returns-clause-order
returns-clause-order g c = λ k.
    let left : c.loop-key.rest.items ≡ [] = nothing_left c.loop-key.rest.items (sym c.loop-key.rest.ok.0 ∙ c.in_default.ensures.cases.0) in
    let all = sym (append-nil (versions_in c.loop-key.self k))
    ∙ subst (λ vs. versions_in c.loop-key.self k ++ version_by c.args.slot c.args.writer (write_of k vs) ≡ versions_in c.args.self.now k
    ++ version_by c.args.slot c.args.writer (write_of k c.args.writes)) left (c.loop-key.invariant.added k) in
    subst (λ vs. are_in_order (g.A.Above.is_kept c.args.dag.now) (g.A.Above.arrival_of c.args.dag.now) vs ≡ true) (sym all)
    (in_order-version_by (g.A.Above.is_kept c.args.dag.now) (g.A.Above.arrival_of c.args.dag.now) (versions_in c.args.self.now k) c.args.slot c.args.writer
    (write_of k c.args.writes)
    (c.requires.order k) (c.requires.newest k) c.requires.kept)
