use Rattle.std.proofs.Common.{◌≡◌, ℕ, List, Some, true, false, cond, is_some, bytes_eq, sym, ap, ap₂, subst, ◌∙◌}
use Rattle.tardis_base.specs.Keys.{is_key_among}
use Rattle.version_list.specs.Lists.{Lists, keys_in, listed_in, versions_in, has_room_in, with_listed}
use Rattle.version_list.proofs.Listing.{on_ok, listed_of, listed-stays, inserted-listed}
use Rattle.version_list.proofs.Places.{some-listed, begun-room, begun-same, begun-kept}
use Rattle.version_list.proofs.histories.KeyLists.make_room_for.Goals as goal

pub returns-in-Some-clause-listed : goal.returns-in-Some-clause-listed
returns-in-Some-clause-listed c =
    let key = c.args.key.now in
    let there : is_key_among key (keys_in c.args.self.now) ≡ true =
    some-listed key c.args.self.now.lists (sym c.listed_at.ensures.listed ∙ ap is_some c.in-Some.is) in
    on_ok c.reserve_at.result (keys_in c.reserve_at.new.self ≡ with_listed key (keys_in c.args.self.now))
    (c.reserve_at.ensures.keys ∙ ap keys_in c.self.view_is ∙ sym (listed-stays key (keys_in c.args.self.now) there))

pub returns-clause-listed : goal.returns-clause-listed
returns-clause-listed c =
    ap listed_of c.in_ok-insert.ensures.entries
    ∙ inserted-listed c.in_ok-copy.field-0 c.in_ok-history.history c.self.inside.lists.entries
    ∙ ap₂ with_listed c.in_ok-copy.ensures (ap keys_in c.self.view_is)

pub returns-in-Some-clause-same : goal.returns-in-Some-clause-same
returns-in-Some-clause-same c = λ k. c.reserve_at.ensures.same k ∙ ap (λ ls. versions_in ls k) c.self.view_is

pub returns-in-Some-clause-kept : goal.returns-in-Some-clause-kept
returns-in-Some-clause-kept c = λ k had. c.reserve_at.ensures.kept k (ap (λ ls. has_room_in ls k) c.self.view_is ∙ had)

pub returns-clause-room : goal.returns-clause-room
returns-clause-room c =
    let k = c.in_ok-copy.field-0 in
    let l = c.in_ok-history.history in
    let old = c.args.self.now in
    let new : Lists = record { lists = c.insert.new.self.entries } in
    let none = sym c.listed_at.ensures.listed ∙ ap is_some c.in_default.is in
    let own = subst (λ j. is_some (listed_in old j) ≡ false) (sym c.in_ok-copy.ensures) none in
    let put = λ (q : List ℕ). c.in_ok-insert.ensures.updates.0 q ∙ ap (λ ls. cond (bytes_eq k q) (Some l) (listed_in ls q)) c.self.view_is in
    subst (λ j. has_room_in new j ≡ true) c.in_ok-copy.ensures (begun-room old new k l own c.in_ok-history.ensures.empty c.in_ok-history.ensures.room put)

pub returns-clause-same : goal.returns-clause-same
returns-clause-same c =
    let k = c.in_ok-copy.field-0 in
    let l = c.in_ok-history.history in
    let old = c.args.self.now in
    let new : Lists = record { lists = c.insert.new.self.entries } in
    let none = sym c.listed_at.ensures.listed ∙ ap is_some c.in_default.is in
    let own = subst (λ j. is_some (listed_in old j) ≡ false) (sym c.in_ok-copy.ensures) none in
    let put = λ (q : List ℕ). c.in_ok-insert.ensures.updates.0 q ∙ ap (λ ls. cond (bytes_eq k q) (Some l) (listed_in ls q)) c.self.view_is in
    begun-same old new k l own c.in_ok-history.ensures.empty c.in_ok-history.ensures.room put

pub returns-clause-kept : goal.returns-clause-kept
returns-clause-kept c =
    let k = c.in_ok-copy.field-0 in
    let l = c.in_ok-history.history in
    let old = c.args.self.now in
    let new : Lists = record { lists = c.insert.new.self.entries } in
    let none = sym c.listed_at.ensures.listed ∙ ap is_some c.in_default.is in
    let own = subst (λ j. is_some (listed_in old j) ≡ false) (sym c.in_ok-copy.ensures) none in
    let put = λ (q : List ℕ). c.in_ok-insert.ensures.updates.0 q ∙ ap (λ ls. cond (bytes_eq k q) (Some l) (listed_in ls q)) c.self.view_is in
    begun-kept old new k l own c.in_ok-history.ensures.empty c.in_ok-history.ensures.room put
