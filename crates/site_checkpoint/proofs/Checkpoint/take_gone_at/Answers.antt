use Rattle.std.proofs.Common.{◌≡◌, true, Some, Ok, sym, subst}
use Rattle.tardis_base.specs.declared.ids.Slot.{Slot}
use Rattle.state_dag.specs.Table.{id_at}
use Rattle.plain_checkpoint.specs.Checkpoints.{ToldGone}
use Rattle.site_checkpoint.specs.Loaded.{Loaded}
use Rattle.site_checkpoint.specs.Held.{seen}
use Rattle.site_checkpoint.specs.Takes.{TakesPart}
use Rattle.site_checkpoint.proofs.Parts.{taken-held, gone-takes}
use Rattle.site_checkpoint.proofs.Checkpoint.take_gone_at.Goals as goal

pub invariant_of-self : goal.invariant_of-self
invariant_of-self c =
    let old : Loaded = seen c.self.inside in
    let store = c.collect-heir.new.self in
    let named = subst (λ v. id_at v.store.table c.args.slot ≡ Some c.args.id) (sym c.self.view_is) c.requires.named in
    let only = subst (λ v. (s : Slot) → id_at v.store.table s ≡ Some c.args.id → s ≡ c.args.slot) (sym c.self.view_is) c.requires.only in
    let told = c.collect-heir.ensures in
    taken-held old (record { store = store; root = c.passed_on-self-inside.result }) (ToldGone c.args.id) (Ok true)
    (subst (λ s. TakesPart old (record { store = store; root = s }) (ToldGone c.args.id) (Ok true)) (sym c.passed_on-self-inside.ensures)
    (gone-takes old c.args.id c.args.slot c.collect-heir.result store named only told.limits told.collected told.shared told.gone told.names told.others
    told.stays)) c.self.invariant

pub returns-clause-taken : goal.returns-clause-taken
returns-clause-taken c =
    let old : Loaded = seen c.self.inside in
    let store = c.collect-heir.new.self in
    let new : Loaded = record { store = store; root = c.passed_on-self-inside.result } in
    let named = subst (λ v. id_at v.store.table c.args.slot ≡ Some c.args.id) (sym c.self.view_is) c.requires.named in
    let only = subst (λ v. (s : Slot) → id_at v.store.table s ≡ Some c.args.id → s ≡ c.args.slot) (sym c.self.view_is) c.requires.only in
    let told = c.collect-heir.ensures in
    subst (λ v. TakesPart v new (ToldGone c.args.id) (Ok true)) c.self.view_is
    (subst (λ s. TakesPart old (record { store = store; root = s }) (ToldGone c.args.id) (Ok true)) (sym c.passed_on-self-inside.ensures)
    (gone-takes old c.args.id c.args.slot c.collect-heir.result store named only told.limits told.collected told.shared told.gone told.names told.others
    told.stays))
