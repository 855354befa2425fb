use Rattle.std.proofs.Common.{◌≡◌, ◌∙◌, true, map, ap, subst}
use Rattle.state_dag.specs.Table.{Entry, Table, arrive_in_order}
use Rattle.state_dag.specs.Views.{slot_of_id, AllDiffer}
use Rattle.state_dag.proofs.Calls.{entries-found, searched-names, searched-only, searched-is_kept, searched-unlisted, searched-none}
use Rattle.state_dag.proofs.StateDag.slot_of.Goals as goal

searched : (c : goal.After-get) → c.get.result ≡ slot_of_id c.args.self.now.entries c.args.id
searched c = c.get.ensures ∙ c.self.invariant.indexed c.args.id ∙ ap (λ (t : Table). slot_of_id t.entries c.args.id) c.self.view_is

pub returns-clause-found : goal.returns-clause-found
returns-clause-found c = searched-names c.args.self.now c.args.id c.get.result
    (entries-found c.self.inside c.args.self.now c.self.invariant c.self.view_is) (searched c)

pub returns-clause-kept : goal.returns-clause-kept
returns-clause-kept c =
    searched-is_kept c.args.self.now c.args.id c.get.result (entries-found c.self.inside c.args.self.now c.self.invariant c.self.view_is)
    (subst (λ (t : Table). arrive_in_order t.entries ≡ true) c.self.view_is c.self.invariant.in_order) (searched c)

pub returns-clause-unlisted : goal.returns-clause-unlisted
returns-clause-unlisted c = λ none. searched-unlisted c.args.self.now c.args.id c.get.result (searched c) none

pub returns-clause-none : goal.returns-clause-none
returns-clause-none c = λ none rs ks stands. searched-none c.args.self.now rs ks c.args.id c.get.result stands (searched c) none

pub returns-clause-only : goal.returns-clause-only
returns-clause-only c = λ s named.
    searched c ∙ searched-only c.args.id c.args.self.now.entries s
    (subst (λ (t : Table). AllDiffer (map (λ (e : Entry). e.id) t.entries)) c.self.view_is c.self.invariant.once) named
