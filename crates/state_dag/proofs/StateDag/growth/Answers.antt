use Rattle.std.proofs.Common.{◌≡◌, ◌∙◌, true, List, ltb, length, map, None, Result, Err, refl, sym, ap, subst, arith}
use Rattle.std.specs.Prelude.{⊤, MatchResult}
use Rattle.std.specs.List.{list_all}
use Rattle.std.proofs.lemmas.Result.{err_from_is_err_and}
use Rattle.tardis_base.specs.declared.ids.Slot.{Slot}
use Rattle.tardis_base.specs.declared.faults.AddFault.{AddFault}
use Rattle.tardis_base.specs.declared.faults.AddFault.TheVariants.{NoMemory}
use Rattle.state_dag.specs.declared.nodes.Node.{Node}
use Rattle.state_dag.specs.Table.{Table}
use Rattle.state_dag.specs.Views.{entry_of}
use Rattle.state_dag.specs.Answers.{AddedTo}
use Rattle.state_dag.specs.Grown.{too_long}
use Rattle.state_dag.specs.Nodes.{all_gains}
use Rattle.state_dag.specs.Held.{seen}
use Rattle.state_dag.proofs.Memory.{entries-long, found-all, kept-placed, kept-now, kept-slots}
use Rattle.state_dag.proofs.Calls.{slots-ascend}
use Rattle.state_dag.proofs.LongPaths.{short-told, long-told, own-told}
use Rattle.state_dag.proofs.Added.{full}
use Rattle.state_dag.proofs.AddSteps.{parents-placed, short-kept, gains-seen, none-seen, long-seen, entry-seen, fault-answered}
use Rattle.state_dag.proofs.StateDag.growth.Goals as goal

-- what is told of a fault that was passed on
passed_on : {A : Type 0} (P : AddFault → Type 0) (r : Result A AddFault) (passed fault : AddFault) → r ≡ Err passed → passed ≡ fault → P fault →
    MatchResult r (λ a. ⊤) P
passed_on {A} P r passed fault is same holds = subst (λ (z : Result A AddFault). MatchResult z (λ a. ⊤) P) (sym is) (subst P (sym same) holds)

pub new_node-requires : goal.new_node-requires
new_node-requires c =
    subst (λ (ns : List Node). list_all (λ (s : Slot). ltb s.0 (length ns)) c.args.parents.now ≡ true) (sym c.as_slice-nodes.ensures.value)
    (parents-placed c.self.inside c.self.invariant c.args.self.now c.self.view_is c.args.parents.now c.requires)

pub gains-requires-clause-places : goal.gains-requires-clause-places
gains-requires-clause-places c =
    subst (λ (ns : List Node). list_all (λ (s : Slot). ltb s.0 (length ns)) c.kept-kept.result.now ≡ true) (sym c.as_slice-nodes.ensures.value)
    (subst (λ (ss : List Slot). list_all (λ (s : Slot). ltb s.0 (length c.self.inside.nodes.items)) ss ≡ true)
    (sym (c.kept-kept.ensures ∙ kept-now c.self.inside c.self.invariant)) (kept-placed c.self.inside c.self.invariant))

pub gains-requires-clause-in_order : goal.gains-requires-clause-in_order
gains-requires-clause-in_order c = slots-ascend c.self.inside c.self.invariant c.as_slice-nodes.result.now c.kept-kept.result.now
    c.as_slice-nodes.ensures.value (c.kept-kept.ensures ∙ kept-now c.self.inside c.self.invariant)

pub gains-requires-clause-short : goal.gains-requires-clause-short
gains-requires-clause-short c = short-kept c.self.inside c.self.invariant c.args.self.now c.self.view_is c.args.parents.now c.requires
    c.as_slice-nodes.result.now c.kept-kept.result.now c.as_slice-nodes.ensures.value (c.kept-kept.ensures ∙ kept-now c.self.inside c.self.invariant)

pub returns-then-self-clause-refused : goal.returns-then-self-clause-refused
returns-then-self-clause-refused c = λ rs ks r stands is may.
    let a = c.self.inside in
    let old = c.args.self.now in
    let is_full = c.if-self.true in
    let equal : a.kept ≡ a.limits.max_kept = omega arith in
    full old old rs ks r c.args.parents.now stands a.kept (sym (entries-long a c.self.invariant) ∙ ap (λ (t : Table). length t.entries) c.self.view_is)
    (equal ∙ ap (λ (t : Table). t.limits.max_kept) c.self.view_is) refl

pub returns-in_err-node-clause-refused : goal.returns-in_err-node-clause-refused
returns-in_err-node-clause-refused c = λ rs ks r stands is may.
    let old = c.args.self.now in
    let p = err_from_is_err_and c.from_residual.result c.from_residual.ensures.1 in
    passed_on (λ f. AddedTo old old rs ks r (Err f)) c.from_residual.result _ NoMemory p.1 p.2 refl

pub returns-in_err-gains-clause-refused : goal.returns-in_err-gains-clause-refused
returns-in_err-gains-clause-refused c = λ rs ks r stands is may.
    let a = c.self.inside in
    let old = c.args.self.now in
    let parents = c.args.parents.now in
    let n = c.in_ok-node.node in
    let fault = c.in_err-gains.field-0.0 in
    let p = err_from_is_err_and c.from_residual-in_err-gains.result c.from_residual-in_err-gains.ensures.1 in
    let has_room = c.if-self.false in
    passed_on (λ f. AddedTo old old rs ks r (Err f)) c.from_residual-in_err-gains.result _ fault p.1 p.2
    (fault-answered a c.self.invariant old parents n c.args.id c.self.view_is
    (entry-seen c.self.inside c.self.invariant c.args.self.now c.self.view_is c.args.parents.now c.requires c.as_slice-nodes.result.now c.args.id
    (record { 0 = 0 }) (entry_of 0 c.in_ok-node.node) c.as_slice-nodes.ensures.value (c.in_ok-node.ensures 0)) (λ e. omega arith) fault
    (long-told (seen a) parents n.id (length n.path.pairs) (found-all a c.self.invariant) fault
    (long-seen c.self.inside c.self.invariant c.args.self.now c.self.view_is c.args.parents.now c.requires c.as_slice-nodes.result.now
    c.kept-kept.result.now c.as_slice-nodes.ensures.value (c.kept-kept.ensures ∙ kept-now c.self.inside c.self.invariant) fault
    c.in_err-gains.ensures.long)) rs ks r stands is may)

pub returns-in_err-check_path-clause-refused : goal.returns-in_err-check_path-clause-refused
returns-in_err-check_path-clause-refused c = λ rs ks r stands is may.
    let a = c.self.inside in
    let old = c.args.self.now in
    let parents = c.args.parents.now in
    let n = c.in_ok-node.node in
    let fault = c.in_err-check_path.field-0.0 in
    let p = err_from_is_err_and c.from_residual-in_err-check_path.result c.from_residual-in_err-check_path.ensures.1 in
    let has_room = c.if-self.false in
    passed_on (λ f. AddedTo old old rs ks r (Err f)) c.from_residual-in_err-check_path.result _ fault p.1 p.2
    (fault-answered a c.self.invariant old parents n c.args.id c.self.view_is
    (entry-seen c.self.inside c.self.invariant c.args.self.now c.self.view_is c.args.parents.now c.requires c.as_slice-nodes.result.now c.args.id
    (record { 0 = 0 }) (entry_of 0 c.in_ok-node.node) c.as_slice-nodes.ensures.value (c.in_ok-node.ensures 0)) (λ e. omega arith) fault
    (own-told (seen a) parents n.id (length n.path.pairs) (found-all a c.self.invariant) fault
    (none-seen c.self.inside c.self.invariant c.args.self.now c.self.view_is c.args.parents.now c.requires c.as_slice-nodes.result.now
    c.kept-kept.result.now c.as_slice-nodes.ensures.value (c.kept-kept.ensures ∙ kept-now c.self.inside c.self.invariant)
    c.in_ok-gains.ensures.long) c.in_err-check_path.ensures) rs ks r stands is may)

pub returns-clause-room : goal.returns-clause-room
returns-clause-room c =
    let a = c.self.inside in
    let within = c.self.invariant.within in
    let has_room = c.if-self.false in
    let count : a.kept ≡ length c.args.self.now.entries = sym (entries-long a c.self.invariant) ∙ ap (λ (t : Table). length t.entries) c.self.view_is in
    let most = ap (λ (t : Table). t.limits.max_kept) c.self.view_is in
    omega arith

pub returns-clause-node : goal.returns-clause-node
returns-clause-node c = λ place.
    entry-seen c.self.inside c.self.invariant c.args.self.now c.self.view_is c.args.parents.now c.requires c.as_slice-nodes.result.now c.args.id
    (record { 0 = place }) (entry_of place c.in_ok-node.node) c.as_slice-nodes.ensures.value (c.in_ok-node.ensures place)

pub returns-clause-gains : goal.returns-clause-gains
returns-clause-gains c =
    let a = c.self.inside in
    gains-seen a c.self.invariant c.args.self.now c.self.view_is c.args.parents.now c.requires c.as_slice-nodes.result.now c.kept-kept.result.now
    c.as_slice-nodes.ensures.value (c.kept-kept.ensures ∙ kept-now a c.self.invariant) c.in_ok-gains.gains.items c.in_ok-gains.ensures.gains
    ∙ ap (all_gains (seen a) c.args.parents.now) (sym (kept-slots a c.self.invariant))
    ∙ ap (λ (t : Table). all_gains t c.args.parents.now (map (λ e. e.slot) t.entries)) c.self.view_is

pub returns-clause-short : goal.returns-clause-short
returns-clause-short c =
    let a = c.self.inside in
    let n = c.in_ok-node.node in
    subst (λ (t : Table). too_long t c.args.parents.now ≡ None) c.self.view_is
    (short-told (seen a) c.args.parents.now n.id (length n.path.pairs) (found-all a c.self.invariant)
    (none-seen a c.self.invariant c.args.self.now c.self.view_is c.args.parents.now c.requires c.as_slice-nodes.result.now c.kept-kept.result.now
    c.as_slice-nodes.ensures.value (c.kept-kept.ensures ∙ kept-now a c.self.invariant) c.in_ok-gains.ensures.long))
