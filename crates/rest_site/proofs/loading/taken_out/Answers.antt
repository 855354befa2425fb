use Rattle.std.proofs.Common.{◌≡◌, IfOk, sym, ap, subst, ◌∙◌}
use Rattle.tardis_base.specs.declared.records.Limits.{Limits}
use Rattle.state_dag.specs.Table.{Table}
use Rattle.record_store.specs.Store.{Store}
use Rattle.site_checkpoint.specs.Loaded.{Loaded}
use Rattle.rest_site.proofs.Loads.{taken-out, begins, none-left}
use Rattle.rest_site.proofs.loading.taken_out.Goals as goal

pub returns-in-Some-clause-stands : goal.returns-in-Some-clause-stands
returns-in-Some-clause-stands c = λ t stands.
    taken-out c.args.core.now.store.table.limits c.args.loading.now c.in-Some.checkpoint t (sym c.take.ensures.value ∙ c.in-Some.is) stands

pub returns-in-None-clause-stands : goal.returns-in-None-clause-stands
returns-in-None-clause-stands c =
    let limits = c.limits.ensures ∙ ap (λ (t : Table). t.limits) (c.dag.ensures ∙ ap (λ (s : Store). s.table) c.store.ensures.is) in
    begins c.args.core.now.store.table.limits c.args.loading.now c.new.result (sym c.take.ensures.value ∙ c.in-None.is) c.new.ensures.untold
    (subst (λ (l : Limits). IfOk c.new.result (λ (loaded : Loaded). loaded.store.table.limits ≡ l)) limits c.new.ensures.limits)

pub returns-in-None-clause-none : goal.returns-in-None-clause-none
returns-in-None-clause-none c = none-left c.args.loading.now c.new.result (sym c.take.ensures.value ∙ c.in-None.is)
