use Rattle.std.proofs.Common.{List, Option, IsTrue, sym, ap, subst, ◌∙◌}
use Rattle.std.specs.Option.{option_map}
use Rattle.tardis_base.specs.declared.ids.Slot.{Slot}
use Rattle.version_list.specs.declared.histories.Version.{Version}
use Rattle.version_list.specs.Lists.{versions_in, are_in_order}
use Rattle.version_list.specs.Versions.{IsInOrder}
use Rattle.version_list.specs.Reads.{latest_version}
use Rattle.version_list.specs.Seats.{slot_of, is_seated}
use Rattle.version_list.proofs.Seated.{versions-are, ordered-by_seats, seated-at, latest-slot}
use Rattle.version_list.proofs.version_lists.VersionList.holder.Goals as goal

pub latest-version-requires-clause-order : goal.latest-version-requires-clause-order
latest-version-requires-clause-order g c =
    let a = c.self.inside in
    let kept = g.A.Above.is_kept c.args.dag.now in
    let arrival = g.A.Above.arrival_of c.args.dag.now in
    subst (λ (vs : List Version). IsTrue (are_in_order (is_seated a.seats kept) (λ s. arrival (slot_of a.seats s)) vs)) (sym c.versions.ensures)
    (ordered-by_seats a.seats c.self.invariant.2 kept arrival a.lists (subst (IsInOrder kept arrival) (sym c.self.view_is) c.requires.order) c.args.key.now)

pub latest-version-requires-clause-kept : goal.latest-version-requires-clause-kept
latest-version-requires-clause-kept g c =
    let a = c.self.inside in
    let kept = g.A.Above.is_kept c.args.dag.now in
    subst (λ s. IsTrue (is_seated a.seats kept s)) (sym c.seat.ensures) (seated-at a.seats c.self.invariant.2 kept c.args.at c.requires.kept)

pub returns : goal.returns
returns g c =
    let a = c.self.inside in
    let t = a.seats in
    let above = g.A.Above.is_above c.args.dag.now in
    let arrival = g.A.Above.arrival_of c.args.dag.now in
    let vs = versions_in a.lists c.args.key.now in
    let at_slot : Option Version → Option Slot = λ o. option_map (λ (v : Version). slot_of t v.slot) o in
    let by_seats : List Version → Slot → Option Version = λ ws s. latest_version (λ p q. above (slot_of t p) (slot_of t q)) (λ p. arrival (slot_of t p)) ws s in
    c.found_at.ensures
    ∙ ap at_slot c.latest-version.ensures
    ∙ ap (λ (ws : List Version). at_slot (by_seats ws c.seat.result)) c.versions.ensures
    ∙ ap (λ s. at_slot (by_seats vs s)) c.seat.ensures
    ∙ sym (latest-slot t c.self.invariant.2 above arrival vs c.args.at)
    ∙ ap (λ (ws : List Version). option_map (λ (v : Version). v.slot) (latest_version above arrival ws c.args.at))
    (sym (versions-are c.args.self.now t a.lists a.notes _ c.self.view_is c.args.key.now))
