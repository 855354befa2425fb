use Rattle.std.proofs.Common.{◌≡◌, true, List, Some, Ok, IsTrue, length, map, take, sym, subst}
use Rattle.std.specs.List.{list_all}
use Rattle.tardis_base.specs.declared.ids.StateId.{StateId}
use Rattle.state_dag.specs.Table.{id_at, is_slot}
use Rattle.record_store.proofs.Records.{named-are_slots}
use Rattle.plain_checkpoint.specs.Checkpoints.{ToldState}
use Rattle.site_checkpoint.specs.Loaded.{Loaded}
use Rattle.site_checkpoint.specs.Held.{seen}
use Rattle.site_checkpoint.specs.Takes.{TakesPart}
use Rattle.site_checkpoint.specs.Arrivals.{IsWelcomeTo}
use Rattle.site_checkpoint.proofs.Parts.{taken-held}
use Rattle.site_checkpoint.proofs.Arriving.{state-takes, state-misses}
use Rattle.site_checkpoint.proofs.Checkpoint.add.Goals as goal

pub commit-requires-clause-slots : goal.commit-requires-clause-slots
commit-requires-clause-slots c =
    let table = c.self.inside.store.table in
    let ps = c.args.rec.parents in
    let named = subst (λ (xs : List StateId). map (id_at table) (take (length xs) c.slots_of-slots.result) ≡ map (λ x. Some x) xs) c.as_slice.ensures
    c.slots_of-slots.ensures in
    subst (λ n. IsTrue (list_all (is_slot table) (take n c.slots_of-slots.result))) (sym c.len.ensures)
    (named-are_slots table (take (length ps) c.slots_of-slots.result) ps named)

pub invariant_of-self : goal.invariant_of-self
invariant_of-self c =
    let old : Loaded = seen c.self.inside in
    let table = c.self.inside.store.table in
    let r = c.args.rec in
    let told = subst (λ (xs : List StateId). map (id_at table) (take (length xs) c.slots_of-slots.result) ≡ map (λ x. Some x) xs) c.as_slice.ensures
    c.slots_of-slots.ensures in
    let named = subst (λ n. map (id_at table) (take n c.slots_of-slots.result) ≡ map (λ x. Some x) r.parents) (sym c.len.ensures) told in
    let welcome = subst (λ v. IsWelcomeTo v r) (sym c.self.view_is) c.requires.welcome in
    taken-held old (record { store = c.commit.new.self; root = c.self.inside.root }) (ToldState r) (Ok true)
    (state-takes old r (take c.len.result c.slots_of-slots.result) c.commit.new.self c.in-Ok.field-0 welcome named c.in-Ok.ensures.added c.commit.ensures.keeps
    c.commit.ensures.limits) c.self.invariant

pub returns-in-Ok-clause-taken : goal.returns-in-Ok-clause-taken
returns-in-Ok-clause-taken c =
    let old : Loaded = seen c.self.inside in
    let new : Loaded = record { store = c.commit.new.self; root = c.self.inside.root } in
    let table = c.self.inside.store.table in
    let r = c.args.rec in
    let told = subst (λ (xs : List StateId). map (id_at table) (take (length xs) c.slots_of-slots.result) ≡ map (λ x. Some x) xs) c.as_slice.ensures
    c.slots_of-slots.ensures in
    let named = subst (λ n. map (id_at table) (take n c.slots_of-slots.result) ≡ map (λ x. Some x) r.parents) (sym c.len.ensures) told in
    let welcome = subst (λ v. IsWelcomeTo v r) (sym c.self.view_is) c.requires.welcome in
    subst (λ v. TakesPart v new (ToldState r) (Ok true)) c.self.view_is
    (state-takes old r (take c.len.result c.slots_of-slots.result) c.commit.new.self c.in-Ok.field-0 welcome named c.in-Ok.ensures.added c.commit.ensures.keeps
    c.commit.ensures.limits)

pub invariant_of-self-2 : goal.invariant_of-self-2
invariant_of-self-2 c =
    let old : Loaded = seen c.self.inside in
    let table = c.self.inside.store.table in
    let r = c.args.rec in
    let told = subst (λ (xs : List StateId). map (id_at table) (take (length xs) c.slots_of-slots.result) ≡ map (λ x. Some x) xs) c.as_slice.ensures
    c.slots_of-slots.ensures in
    let named = subst (λ n. map (id_at table) (take n c.slots_of-slots.result) ≡ map (λ x. Some x) r.parents) (sym c.len.ensures) told in
    let welcome = subst (λ v. IsWelcomeTo v r) (sym c.self.view_is) c.requires.welcome in
    taken-held old (record { store = c.commit.new.self; root = c.self.inside.root }) (ToldState r) c.unadded.result
    (state-misses old r (take c.len.result c.slots_of-slots.result) c.commit.new.self c.in-Err.fault c.unadded.result welcome named c.in-Err.ensures.added
    c.in-Err.ensures.same c.unadded.ensures) c.self.invariant

pub returns-clause-taken : goal.returns-clause-taken
returns-clause-taken c =
    let old : Loaded = seen c.self.inside in
    let new : Loaded = record { store = c.commit.new.self; root = c.self.inside.root } in
    let table = c.self.inside.store.table in
    let r = c.args.rec in
    let told = subst (λ (xs : List StateId). map (id_at table) (take (length xs) c.slots_of-slots.result) ≡ map (λ x. Some x) xs) c.as_slice.ensures
    c.slots_of-slots.ensures in
    let named = subst (λ n. map (id_at table) (take n c.slots_of-slots.result) ≡ map (λ x. Some x) r.parents) (sym c.len.ensures) told in
    let welcome = subst (λ v. IsWelcomeTo v r) (sym c.self.view_is) c.requires.welcome in
    subst (λ v. TakesPart v new (ToldState r) c.unadded.result) c.self.view_is
    (state-misses old r (take c.len.result c.slots_of-slots.result) c.commit.new.self c.in-Err.fault c.unadded.result welcome named c.in-Err.ensures.added
    c.in-Err.ensures.same c.unadded.ensures)
