use Rattle.std.proofs.Common.{ℕ, List, IsTrue, sym, ap, subst, map, take, drop, ◌∙◌, nat_lt, false}
use Rattle.std.specs.Option.{option_map_or}
use Rattle.tardis_base.specs.Keys.{is_key_among}
use Rattle.version_list.specs.Lists.{Listed, versions_in}
use Rattle.version_list.specs.Seats.{seen_version}
use Rattle.version_list.proofs.Seated.{listed-is, versions-are, room-is, nothing-seen, seen-keys, seen-versions, seen-room}
use Rattle.version_list.proofs.version_lists.VersionList.withdraw.Goals as goal

pub withdraw-requires : goal.withdraw-requires
withdraw-requires c = λ k among.
    let a = c.self.inside in
    let listed = listed-is c.args.self.now a.seats a.lists a.notes _ c.self.view_is in
    nothing-seen (seen_version a.seats) (versions_in a.lists k)
    (sym (versions-are c.args.self.now a.seats a.lists a.notes _ c.self.view_is k)
    ∙ c.requires k (subst (λ (ks : List (List ℕ)). IsTrue (is_key_among k (drop c.args.place ks))) (sym listed) among))

pub returns-clause-listed : goal.returns-clause-listed
returns-clause-listed c =
    let a = c.self.inside in
    seen-keys a.seats c.withdraw.new.self.lists ∙ c.withdraw.ensures.listed
    ∙ ap (take c.args.place) (sym (listed-is c.args.self.now a.seats a.lists a.notes _ c.self.view_is))

pub returns-clause-same : goal.returns-clause-same
returns-clause-same c = λ k.
    let a = c.self.inside in
    seen-versions a.seats c.withdraw.new.self k ∙ ap (map (seen_version a.seats)) (c.withdraw.ensures.same k)
    ∙ sym (versions-are c.args.self.now a.seats a.lists a.notes _ c.self.view_is k)

pub returns-clause-kept : goal.returns-clause-kept
returns-clause-kept c = λ k among.
    let a = c.self.inside in
    let listed = listed-is c.args.self.now a.seats a.lists a.notes _ c.self.view_is in
    seen-room a.seats c.withdraw.new.self k
    ∙ ap (λ o. option_map_or (λ (l : Listed). nat_lt 0 l.room) o false)
    (c.withdraw.ensures.kept k (subst (λ (ks : List (List ℕ)). IsTrue (is_key_among k (take c.args.place ks))) listed among))
    ∙ sym (room-is c.args.self.now a.seats a.lists a.notes _ c.self.view_is k)
