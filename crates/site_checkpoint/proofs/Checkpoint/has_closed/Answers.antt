use Rattle.std.proofs.Common.{◌≡◌, ◌∙◌, ◌+◌, ◌&&◌, Some, map, drop, sym, ap, subst, arith}
use Rattle.std.specs.List.{list_all}
use Rattle.std.proofs.lemmas.List.{drop_all}
use Rattle.plain_dag.specs.Collection.{kept_states}
use Rattle.plain_dag.specs.Floors.{Floor}
use Rattle.state_dag.specs.Table.{Table, id_at}
use Rattle.state_dag.specs.Stands.{Stands}
use Rattle.begin_rule.proofs.NamedStates.{named-next, named-length}
use Rattle.site_checkpoint.specs.Stands.{LoadedStands}
use Rattle.site_checkpoint.specs.Floors.{is_alone_or_above}
use Rattle.site_checkpoint.proofs.Closed.{states_of, floors-named, named-kept, closed-told}
use Rattle.site_checkpoint.proofs.Checkpoint.has_closed.Goals as goal

pub returns-then-not-is_alone_or_above : goal.returns-then-not-is_alone_or_above
returns-then-not-is_alone_or_above c = λ t stands fs are.
    let here = subst (λ v. LoadedStands v t) (sym c.self.view_is) stands in
    let rs = t.dag in
    let ks = t.collected in
    let xs = states_of fs in
    let zs = kept_states rs ks in
    let p = is_alone_or_above rs ks xs in
    let i = c.loop-slot.slot-index in
    let named = subst (λ v. map (id_at v.store.table) c.args.floors.now ≡ map (λ (f : Floor). Some f.state) fs) (sym c.self.view_is) are ∙ floors-named fs in
    let kept = named-kept c.self.inside.store.table rs ks here.store.table c.args.floors.now xs named in
    let table = subst (λ (d : Table). Stands d rs ks) (sym c.dag-dag.ensures) here.store.table in
    let n = named-next (id_at c.dag-dag.result.now) c.kept_slots-slot-items.result.now zs i (record { 0 = 0 }) (c.kept_slots-slot-items.ensures.kept rs ks table)
    c.loop-slot-test.true in
    let told = c.is_alone_or_above.ensures rs ks table n.state n.named xs
    (subst (λ (d : Table). map (id_at d) c.args.floors.now ≡ map (λ x. Some x) xs) (sym c.dag-dag.ensures) named) in
    sym (sym (closed-told rs ks here.store.table.dag here.store.table.known_collected here.store.table.shared fs kept)
    ∙ (c.loop-slot.invariant t stands xs (are ∙ floors-named fs)
    ∙ (ap (list_all p) n.next ∙ ap (λ b. b && list_all p (drop (i + 1) zs)) (sym told ∙ c.if-not-is_alone_or_above.true))))

pub loop-slot-preserved : goal.loop-slot-preserved
loop-slot-preserved c = λ t stands xs are.
    let here = subst (λ v. LoadedStands v t) (sym c.self.view_is) stands in
    let rs = t.dag in
    let ks = t.collected in
    let zs = kept_states rs ks in
    let p = is_alone_or_above rs ks xs in
    let i = c.loop-slot.slot-index in
    let named = subst (λ v. map (id_at v.store.table) c.args.floors.now ≡ map (λ x. Some x) xs) (sym c.self.view_is) are in
    let table = subst (λ (d : Table). Stands d rs ks) (sym c.dag-dag.ensures) here.store.table in
    let n = named-next (id_at c.dag-dag.result.now) c.kept_slots-slot-items.result.now zs i (record { 0 = 0 }) (c.kept_slots-slot-items.ensures.kept rs ks table)
    c.loop-slot-test.true in
    let told = c.is_alone_or_above.ensures rs ks table n.state n.named xs
    (subst (λ (d : Table). map (id_at d) c.args.floors.now ≡ map (λ x. Some x) xs) (sym c.dag-dag.ensures) named) in
    c.loop-slot.invariant t stands xs are
    ∙ (ap (list_all p) n.next ∙ ap (λ b. b && list_all p (drop (i + 1) zs)) (sym told ∙ c.if-not-is_alone_or_above.false))

pub returns : goal.returns
returns c = λ t stands fs are.
    let here = subst (λ v. LoadedStands v t) (sym c.self.view_is) stands in
    let rs = t.dag in
    let ks = t.collected in
    let xs = states_of fs in
    let zs = kept_states rs ks in
    let p = is_alone_or_above rs ks xs in
    let i = c.loop-slot.slot-index in
    let named = subst (λ v. map (id_at v.store.table) c.args.floors.now ≡ map (λ (f : Floor). Some f.state) fs) (sym c.self.view_is) are ∙ floors-named fs in
    let kept = named-kept c.self.inside.store.table rs ks here.store.table c.args.floors.now xs named in
    let table = subst (λ (d : Table). Stands d rs ks) (sym c.dag-dag.ensures) here.store.table in
    let many = named-length (id_at c.dag-dag.result.now) c.kept_slots-slot-items.result.now zs (c.kept_slots-slot-items.ensures.kept rs ks table) in
    let past = c.loop-slot-test.false in
    sym (sym (closed-told rs ks here.store.table.dag here.store.table.known_collected here.store.table.shared fs kept)
    ∙ (c.loop-slot.invariant t stands xs (are ∙ floors-named fs) ∙ ap (list_all p) (drop_all i zs (omega arith))))
