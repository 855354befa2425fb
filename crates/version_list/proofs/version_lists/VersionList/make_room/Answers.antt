use Rattle.std.proofs.Common.{◌≤◌, ◌∙◌, ◌&&◌, ◌++◌, ℕ, List, IsTrue, length, drop, map, nat_lt, nat_le, sym, ap, subst, arith}
use Rattle.std.specs.Vec.{vec_capacity}
use Rattle.std.proofs.lemmas.Bool.{and_from, lt-ltb, le-leb}
use Rattle.std.proofs.lemmas.Result.{on_ok_weaker, on_err_weaker}
use Rattle.tardis_base.specs.Keys.{is_key_among}
use Rattle.version_list.specs.Lists.{keys_in, versions_in, new_keys, have_room_in}
use Rattle.version_list.specs.Notes.{is_noted_in}
use Rattle.version_list.specs.Seats.{seat_of, seen_version, seen_lists}
use Rattle.version_list.proofs.Seated.{listed-is, versions-are, room-is, noted-is, seen-keys, seen-versions, seen-room, seen-rooms, seen-noted, seen-again, paired-again}
use Rattle.version_list.proofs.version_lists.VersionList.make_room.Goals as goal

pub returns-clause-listed : goal.returns-clause-listed
returns-clause-listed c =
    let a = c.self.inside in
    on_ok_weaker c.make_room-2.result (λ e. seen-keys c.cover.new.self c.make_room-2.new.self.lists ∙ e
    ∙ ap (λ ks. ks ++ new_keys ks c.args.writes.now) (sym (listed-is c.args.self.now a.seats a.lists a.notes _ c.self.view_is))) c.make_room-2.ensures.listed

pub returns-clause-unused : goal.returns-clause-unused
returns-clause-unused c =
    let a = c.self.inside in
    let u = c.cover.new.self in
    let lists = c.make_room-2.new.self in
    let listed = listed-is c.args.self.now a.seats a.lists a.notes _ c.self.view_is in
    on_ok_weaker c.make_room-2.result (λ unused k among. seen-versions u lists k ∙ ap (map (seen_version u)) (unused k
    (subst (λ (ks : List (List ℕ)). IsTrue (is_key_among k (drop (length ks) (keys_in lists)))) listed
    (subst (λ (ks : List (List ℕ)). IsTrue (is_key_among k (drop (length (keys_in c.args.self.now.lists)) ks))) (seen-keys u lists.lists) among))))
    c.make_room-2.ensures.unused

pub returns-clause-not_listed : goal.returns-clause-not_listed
returns-clause-not_listed c =
    let a = c.self.inside in
    on_err_weaker c.make_room-2.result (λ e. seen-keys c.cover.new.self c.make_room-2.new.self.lists ∙ e
    ∙ sym (listed-is c.args.self.now a.seats a.lists a.notes _ c.self.view_is)) c.make_room-2.ensures.not_listed

pub returns-clause-same : goal.returns-clause-same
returns-clause-same c = λ k.
    let a = c.self.inside in
    let u = c.cover.new.self in
    seen-versions u c.make_room-2.new.self k
    ∙ ap (map (seen_version u)) (c.make_room-2.ensures.same k)
    ∙ seen-again a.seats u c.cover.ensures.slots (versions_in a.lists k)
    ∙ sym (versions-are c.args.self.now a.seats a.lists a.notes _ c.self.view_is k)

pub returns-clause-kept : goal.returns-clause-kept
returns-clause-kept c = λ k room.
    let a = c.self.inside in
    seen-room c.cover.new.self c.make_room-2.new.self k
    ∙ c.make_room-2.ensures.kept k (sym (room-is c.args.self.now a.seats a.lists a.notes _ c.self.view_is k) ∙ room)

pub returns-clause-noted : goal.returns-clause-noted
returns-clause-noted c = λ s.
    let a = c.self.inside in
    let u = c.cover.new.self in
    let paired = c.self.invariant.2 in
    seen-noted u (paired-again a.seats u paired c.cover.ensures.seats c.cover.ensures.slots) s c.make_room.new.self
    ∙ ap (is_noted_in (seat_of u s)) c.make_room.ensures.same
    ∙ ap (λ q. is_noted_in q a.notes.by_slot) (c.cover.ensures.seats s)
    ∙ sym (noted-is c.args.self.now a.seats a.lists a.notes _ c.self.view_is paired s)

pub returns-clause-room : goal.returns-clause-room
returns-clause-room c =
    let u = c.cover.new.self in
    let lists = c.make_room-2.new.self in
    let ws = c.args.writes.now in
    let states = c.make_room.new.self.states in
    let chunks = c.make_room.new.self.chunks in
    let keys = vec_capacity c.reserve_exact.new.self in
    let fits : length ws ≤ keys = omega (arith, c.in_ok-reserve_exact.ensures.ok, c.len.ensures.count) in
    let some = and_from (nat_lt 0 states) (nat_lt 0 chunks) (lt-ltb 0 states c.in_ok-make_room.ensures.states) (lt-ltb 0 chunks c.in_ok-make_room.ensures.chunk) in
    let all = and_from (nat_lt 0 states && nat_lt 0 chunks) (nat_le (length ws) keys) some (le-leb (length ws) keys fits) in
    on_ok_weaker c.make_room-2.result (λ room. and_from (nat_lt 0 states && nat_lt 0 chunks && nat_le (length ws) keys) (have_room_in (seen_lists u lists) ws) all
    (seen-rooms u lists ws ∙ room)) c.make_room-2.ensures.room
