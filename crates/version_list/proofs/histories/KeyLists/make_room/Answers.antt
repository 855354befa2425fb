use Rattle.std.proofs.Common.{◌≡◌, ◌++◌, true, false, nat_lt, IsTrue, length, take, get_or, sym, ◌∙◌, ap, subst, refl, arith}
use Rattle.std.specs.Option.{option_map_or}
use Rattle.std.proofs.lemmas.List.{take_more, take_all, length-map}
use Rattle.std.proofs.lemmas.Slice.Eq.{bytes_eq-Decides}
use Rattle.tardis_base.specs.Keys.{KeyWrite, are_ascending_keys, is_key_among, keys_of}
use Rattle.version_list.specs.Lists.{Listed, keys_in, has_room_in, have_room_in, new_keys}
use Rattle.version_list.proofs.Rooms.{all-push, all-weaken}
use Rattle.version_list.proofs.Listing.{listed-more, new-unused, taken_back, room-listed}
use Rattle.version_list.proofs.histories.KeyLists.make_room.Goals as goal

pub withdraw-requires : goal.withdraw-requires
withdraw-requires c =
    let old = c.args.self.now in
    let count : c.len-keys.result ≡ length (keys_in old) = c.len-keys.ensures.len ∙ sym (length-map c.self.inside.lists.entries (λ l. l.0))
    ∙ ap (λ v. length (keys_in v)) c.self.view_is in
    new-unused old c.make_room_for.new.self (take c.loop-key.key-index c.as_slice-key-items.result.now) c.len-keys.result (λ k j. (bytes_eq-Decides k j).0)
    (c.in-Err.ensures.not_listed ∙ c.loop-key.invariant.listed) count (λ k. c.make_room_for.ensures.same k ∙ c.loop-key.invariant.same k)

pub returns-in-Err-clause-kept : goal.returns-in-Err-clause-kept
returns-in-Err-clause-kept c = λ k h.
    let old = c.args.self.now in
    let count : c.len-keys.result ≡ length (keys_in old) = c.len-keys.ensures.len ∙ sym (length-map c.self.inside.lists.entries (λ l. l.0))
    ∙ ap (λ v. length (keys_in v)) c.self.view_is in
    let back = taken_back old c.make_room_for.new.self (take c.loop-key.key-index c.as_slice-key-items.result.now) c.len-keys.result
    (λ k j. (bytes_eq-Decides k j).0)
    (c.in-Err.ensures.not_listed ∙ c.loop-key.invariant.listed) count in
    let there = subst (λ ks. is_key_among k ks ≡ true) (sym back) (room-listed old k h) in
    subst (λ o. option_map_or (λ (l : Listed). nat_lt 0 l.room) o false ≡ true) (sym (c.withdraw.ensures.kept k there))
    (c.make_room_for.ensures.kept k (c.loop-key.invariant.kept k h))

pub loop-key-preserved : goal.loop-key-preserved
loop-key-preserved c =
    let items = c.as_slice-key-items.result.now in
    let new = c.make_room_for.new.self in
    let old = c.loop-key.self in
    let w = c.loop-key-item.result in
    let up = subst (λ ws. are_ascending_keys (keys_of ws) ≡ true) (sym c.as_slice-key-items.ensures.same) c.as_slice-key-items.ensures.ascending in
    let done = all-weaken (λ (v : KeyWrite). has_room_in old v.0) (λ (v : KeyWrite). has_room_in new v.0) (take c.loop-key.key-index items)
    (λ v. c.make_room_for.ensures.kept v.0) c.loop-key.invariant.room in
    let here = subst (λ (v : KeyWrite). IsTrue (has_room_in new v.0)) c.loop-key-item.is c.in-Ok.ensures.room in
    record {
      room = subst (λ ws. IsTrue (have_room_in new ws)) (sym (take_more items c.loop-key.key-index w c.loop-key-test.true))
          (all-push (λ (v : KeyWrite). has_room_in new v.0) (take c.loop-key.key-index items) (get_or items c.loop-key.key-index w) done here);
      listed =
          c.in-Ok.ensures.listed
          ∙ listed-more (keys_in c.args.self.now) (keys_in old) items c.loop-key.key-index w up c.loop-key-test.true c.loop-key-item.is
          c.loop-key.invariant.listed;
      same = λ k. c.make_room_for.ensures.same k ∙ c.loop-key.invariant.same k;
      kept = λ k h. c.make_room_for.ensures.kept k (c.loop-key.invariant.kept k h);
    }

pub returns-clause-unused : goal.returns-clause-unused
returns-clause-unused c =
    let items = c.as_slice-key-items.result.now in
    let old = c.args.self.now in
    let whole = ap (λ ws. keys_in old ++ new_keys (keys_in old) ws) (take_all c.loop-key.key-index items (omega arith)) in
    new-unused old c.loop-key.self items (length (keys_in old)) (λ k j. (bytes_eq-Decides k j).0) (c.loop-key.invariant.listed ∙ whole) refl
    c.loop-key.invariant.same
