use Rattle.std.proofs.Common.{◌≡◌, ◌||◌, ◌&&◌, ◌++◌, Bool, true, false, IsTrue, Option, Some, cond, is_some, map, nat_lt, nat_le, length, sym, ◌∙◌, ap, ap₂, subst, refl}
use Rattle.std.specs.Map.{lookup}
use Rattle.std.proofs.lemmas.Bool.{and_parts}
use Rattle.tardis_base.specs.Keys.{is_key_among, has_key, write_of}
use Rattle.version_list.specs.Lists.{versions_in, have_room_in, version_by, AllBefore}
use Rattle.version_list.specs.Notes.{Chunks, same_slot, chunks_of}
use Rattle.version_list.specs.Versions.{IsInOrder, IsBefore}
use Rattle.version_list.specs.Seats.{slot_of, seat_of, is_seated, seen_version}
use Rattle.version_list.proofs.Noted.{noted-added}
use Rattle.version_list.proofs.Seated.{listed-is, versions-are, rooms-are, noted-is, ordered-by_seats, ordered-by_slots, before-by_seats, seated-at, seen-keys}
use Rattle.version_list.proofs.Seated.{seen-versions, seen-more, seen-by, seen-noted, same-seat}
use Rattle.version_list.proofs.version_lists.VersionList.add.Goals as goal

pub add-requires-clause-order : goal.add-requires-clause-order
add-requires-clause-order g c =
    let a = c.self.inside in
    let kept = g.A.Above.is_kept c.args.dag.now in
    let arrival = g.A.Above.arrival_of c.args.dag.now in
    ordered-by_seats a.seats c.self.invariant.2 kept arrival a.lists (subst (IsInOrder kept arrival) (sym c.self.view_is) c.requires.order)

pub add-requires-clause-room : goal.add-requires-clause-room
add-requires-clause-room g c =
    let a = c.self.inside in
    let vs = c.args.self.now in
    let ws = c.args.writes in
    sym (rooms-are c.args.self.now a.seats a.lists a.notes _ c.self.view_is ws)
    ∙ (and_parts (nat_lt 0 vs.notes.states && nat_lt 0 vs.notes.chunks && nat_le (length ws) vs.keys) (have_room_in vs.lists ws) c.requires.room).1

pub add-requires-clause-kept : goal.add-requires-clause-kept
add-requires-clause-kept g c =
    let a = c.self.inside in
    let kept = g.A.Above.is_kept c.args.dag.now in
    subst (λ s. IsTrue (is_seated a.seats kept s)) (sym c.seat-seat.ensures) (seated-at a.seats c.self.invariant.2 kept c.args.slot c.requires.kept)

pub add-requires-clause-newest : goal.add-requires-clause-newest
add-requires-clause-newest g c =
    let a = c.self.inside in
    let arrival = g.A.Above.arrival_of c.args.dag.now in
    subst (λ s. AllBefore (λ q. arrival (slot_of a.seats q)) s a.lists) (sym c.seat-seat.ensures)
    (before-by_seats a.seats c.self.invariant.2 arrival c.args.slot a.lists (subst (IsBefore arrival c.args.slot) (sym c.self.view_is) c.requires.newest))

pub invariant_of-self : goal.invariant_of-self
invariant_of-self g c =
    let a = c.self.inside in
    let arrival = g.A.Above.arrival_of c.args.dag.now in (
      ap (λ v. v.items) c.replace-keys.ensures.after ∙ c.new.ensures.items,
      noted-added (λ q. arrival (slot_of a.seats q)) a.lists c.add.new.self a.notes.by_slot c.put.new.self.by_slot c.seat-seat.result c.args.writer c.args.writes
          c.from_vec.result
          c.self.invariant.1
          c.add.ensures.added
          (λ k.
          ap (λ ks. is_key_among k ks) (c.from_vec.ensures ∙ ap (λ v. v.items) c.replace-keys.ensures.value)
          ∙ c.add.ensures.written k
          ∙ ap (λ ks. is_key_among k ks || has_key k c.args.writes) c.self.invariant.0)
          (subst (λ s. AllBefore (λ q. arrival (slot_of a.seats q)) s a.lists) (sym c.seat-seat.ensures)
          (before-by_seats a.seats c.self.invariant.2 arrival c.args.slot a.lists (subst (IsBefore arrival c.args.slot) (sym c.self.view_is) c.requires.newest)))
          c.put.ensures,
      c.self.invariant.2,
    )

pub returns-clause-added : goal.returns-clause-added
returns-clause-added g c = λ k.
    let a = c.self.inside in
    let t = a.seats in
    let o = write_of k c.args.writes in
    seen-versions t c.add.new.self k
    ∙ ap (map (seen_version t)) (c.add.ensures.added k)
    ∙ seen-more t (versions_in a.lists k) (version_by c.seat-seat.result c.args.writer o)
    ∙ ap₂ (λ vs ws. vs ++ ws) (sym (versions-are c.args.self.now t a.lists a.notes _ c.self.view_is k))
    (ap (λ s. map (seen_version t) (version_by s c.args.writer o)) c.seat-seat.ensures ∙ seen-by t c.self.invariant.2 c.args.slot c.args.writer o)

pub returns-clause-keys : goal.returns-clause-keys
returns-clause-keys g c =
    let a = c.self.inside in
    seen-keys a.seats c.add.new.self.lists ∙ c.add.ensures.keys ∙ sym (listed-is c.args.self.now a.seats a.lists a.notes _ c.self.view_is)

pub returns-clause-order : goal.returns-clause-order
returns-clause-order g c =
    let a = c.self.inside in
    ordered-by_slots a.seats c.self.invariant.2 (g.A.Above.is_kept c.args.dag.now) (g.A.Above.arrival_of c.args.dag.now) c.add.new.self c.add.ensures.order

one-more : (b : Bool) (cs : Chunks) (o : Option Chunks) → is_some (cond b (Some cs) o) ≡ (b || is_some o)
one-more true cs o = refl
one-more false cs o = refl

pub returns-clause-noted : goal.returns-clause-noted
returns-clause-noted g c = λ s.
    let a = c.self.inside in
    let t = a.seats in
    let paired = c.self.invariant.2 in
    let q = seat_of t s in
    let same : same_slot c.seat-seat.result q ≡ same_slot c.args.slot s =
    ap (λ p. same_slot p q) c.seat-seat.ensures ∙ sym (same-seat t paired (seat_of t c.args.slot) s) ∙ ap (λ p. same_slot p s) (paired.seats c.args.slot) in
    seen-noted t paired s c.put.new.self
    ∙ ap is_some (c.put.ensures q)
    ∙ one-more (same_slot c.seat-seat.result q) (chunks_of c.from_vec.result) (lookup (same_slot q) a.notes.by_slot)
    ∙ ap₂ (λ x y. x || y) same (sym (noted-is c.args.self.now t a.lists a.notes _ c.self.view_is paired s))
