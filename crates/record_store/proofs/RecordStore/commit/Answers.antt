use Rattle.std.proofs.Common.{◌++◌, ◌||◌, ℕ, List, IsTrue, take, drop, refl, sym, ap, ap₂, subst, ◌∙◌, Err}
use Rattle.std.proofs.Math.Seq.{take-append_seam}
use Rattle.tardis_base.specs.Keys.{KeyWrite, is_key_among, write_of}
use Rattle.state_dag.specs.Table.{is_kept_at, arrival_at}
use Rattle.version_list.specs.declared.histories.Version.{Version}
use Rattle.version_list.specs.Versions.{listed_keys, new_keys, versions_of, version_by, are_in_order, same_slot}
use Rattle.record_store.specs.Store.{Store}
use Rattle.record_store.specs.Answers.{IsSameStore}
use Rattle.record_store.proofs.Adding.{order-stays, all-came_before}
use Rattle.record_store.proofs.Holding.{still-held, held-grown, short-of_memory, refused-by_table, added-to_both}
use Rattle.record_store.proofs.ChildNotes.{notes-grow, slots-are_kept}
use Rattle.record_store.proofs.RecordStore.commit.Goals as goal

pub invariant_of-self : goal.invariant_of-self
invariant_of-self c = still-held c.self.inside c.args.self.now c.self.view_is c.self.inside.dag c.make_room.new.self c.self.invariant refl
    c.make_room.ensures.same c.make_room.ensures.noted

pub returns-in_err-make_room-clause-added : goal.returns-in_err-make_room-clause-added
returns-in_err-make_room-clause-added c = λ rs ks r stands _ _ _.
    short-of_memory c.self.inside c.args.self.now c.self.view_is c.make_room.new.self c.make_room.ensures.same c.in_err-make_room.ensures.not_listed
    c.from_residual.result c.from_residual.ensures.1 rs ks r stands

pub invariant_of-self-in-Err : goal.invariant_of-self-in-Err
invariant_of-self-in-Err c =
    still-held c.self.inside c.args.self.now c.self.view_is c.add.new.self c.withdraw.new.self c.self.invariant c.in-Err.ensures.same
    (λ k. c.withdraw.ensures.same k ∙ c.make_room.ensures.same k)
    (λ s. c.withdraw.ensures.noted s ∙ c.make_room.ensures.noted s)

pub withdraw-requires : goal.withdraw-requires
withdraw-requires c = λ k among.
    c.in_ok-make_room.ensures.unused k
    (subst (λ (n : ℕ). IsTrue (is_key_among k (drop n (listed_keys c.make_room.new.self)))) c.keys-listed.ensures.count among)

pub returns-in-Err-clause-same : goal.returns-in-Err-clause-same
returns-in-Err-clause-same c =
    let old = listed_keys c.self.inside.versions in
    let more = new_keys old c.args.writes.now in
    let listed =
    c.withdraw.ensures.listed ∙ ap₂ take c.keys-listed.ensures.count c.in_ok-make_room.ensures.listed ∙ take-append_seam old more in
    let new : Store = record { table = c.add.new.self; versions = c.withdraw.new.self } in
    subst (λ (s : Store). IsSameStore s new) c.self.view_is
    (record { table = c.in-Err.ensures.same; versions = λ k. c.withdraw.ensures.same k ∙ c.make_room.ensures.same k; listed = listed })

pub returns-in-Err-clause-added : goal.returns-in-Err-clause-added
returns-in-Err-clause-added c = λ rs ks r stands id_is _ may.
    let old = listed_keys c.self.inside.versions in
    let more = new_keys old c.args.writes.now in
    let listed =
    c.withdraw.ensures.listed ∙ ap₂ take c.keys-listed.ensures.count c.in_ok-make_room.ensures.listed ∙ take-append_seam old more in
    refused-by_table c.self.inside c.args.self.now c.self.view_is c.add.new.self c.withdraw.new.self c.args.parents.now c.in-Err.fault c.in-Err.ensures.same
    (λ k. c.withdraw.ensures.same k ∙ c.make_room.ensures.same k) listed (Err c.in-Err.fault) refl rs ks r stands may
    (λ held allowed. c.in-Err.ensures.added rs ks r held id_is allowed)

pub add-requires-in-Ok-clause-order : goal.add-requires-in-Ok-clause-order
add-requires-in-Ok-clause-order c = λ k.
    order-stays c.self.inside.dag c.add.new.self c.add.ensures.kept (versions_of c.make_room.new.self k)
    (subst (λ (vs : List Version). IsTrue (are_in_order (is_kept_at c.self.inside.dag) (arrival_at c.self.inside.dag) vs))
    (sym (c.make_room.ensures.same k)) (c.self.invariant.versions k))

pub add-requires-in-Ok-clause-newest : goal.add-requires-in-Ok-clause-newest
add-requires-in-Ok-clause-newest c = λ k.
    all-came_before c.self.inside.dag c.add.new.self c.add.ensures.kept c.in-Ok.slot c.in-Ok.ensures.newest (versions_of c.make_room.new.self k)
    (subst (λ (vs : List Version). IsTrue (are_in_order (is_kept_at c.self.inside.dag) (arrival_at c.self.inside.dag) vs))
    (sym (c.make_room.ensures.same k)) (c.self.invariant.versions k))

pub returns-in-Ok-clause-added : goal.returns-in-Ok-clause-added
returns-in-Ok-clause-added c = λ rs ks r stands id_is writes_is may.
    added-to_both c.self.inside c.args.self.now c.self.view_is c.add.new.self c.add-in-Ok.new.self c.args.id c.args.writes.now c.args.parents.now
    c.in-Ok.slot c.in-Ok.ensures.slot c.add.ensures.keeps
    (λ k. c.add-in-Ok.ensures.added k ∙ ap₂ (λ (vs : List Version) (ws : List KeyWrite). vs ++ version_by c.in-Ok.slot c.args.id (write_of k ws))
    (c.make_room.ensures.same k) c.replace-moved.ensures.value)
    rs ks r stands id_is writes_is may (λ held allowed. c.in-Ok.ensures.added rs ks r held id_is allowed)

pub invariant_of-self-in-Ok : goal.invariant_of-self-in-Ok
invariant_of-self-in-Ok c =
    held-grown c.self.inside c.args.self.now c.self.view_is c.add.new.self c.add-in-Ok.new.self c.self.invariant c.in-Ok.slot c.add.ensures.kept c.in-Ok.ensures.arrived.0
    c.in-Ok.ensures.newest c.in-Ok.ensures.others c.add-in-Ok.ensures.order
    (λ s. c.add-in-Ok.ensures.noted s ∙ ap (λ b. same_slot c.in-Ok.slot s || b) (c.make_room.ensures.noted s)) c.note_children.new.notes c.note_children.ensures

pub note_children-requires-clause-so : goal.note_children-requires-clause-so
note_children-requires-clause-so c =
    notes-grow c.self.inside.dag c.add.new.self c.self.inside.versions c.add-in-Ok.new.self c.args.parents.now c.in-Ok.slot c.in-Ok.ensures.child c.add.ensures.keeps
    (λ k. version_by c.in-Ok.slot c.args.id (write_of k c.replace-moved.result))
    (λ k. c.add-in-Ok.ensures.added k ∙ ap (λ (vs : List Version). vs ++ version_by c.in-Ok.slot c.args.id (write_of k c.replace-moved.result))
    (c.make_room.ensures.same k))
    c.self.inside.notes c.self.invariant.children

pub note_children-requires-clause-slots : goal.note_children-requires-clause-slots
note_children-requires-clause-slots c = slots-are_kept c.args.self.now.table c.self.inside.dag c.add.new.self (ap (λ (s : Store). s.table) c.self.view_is)
    c.add.ensures.keeps c.args.parents.now c.requires.slots
