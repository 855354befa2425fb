use Rattle.std.proofs.Common.{◌≡◌, ◌∙◌, ◌+◌, ◌-◌, ◌≤◌, IsTrue, [], map, ◌∷◌, Some, sym, ap, subst}
use Rattle.std.specs.Prelude.{slice_get, unwrap_or}
use Rattle.std.specs.List.{list_all}
use Rattle.state_dag.specs.Table.{Table, id_at, is_slot}
use Rattle.state_dag.specs.Stands.{Stands}
use Rattle.ceiling_book.specs.Places.{AreSlots, ArePlaced}
use Rattle.ceiling_book.proofs.Growth.{slots-grow, placed-grow}
use Rattle.session_core.specs.Adds.{CommitsIn}
use Rattle.tardis_base.specs.declared.ids.StateId.{StateId}
use Rattle.plain_site.specs.Site.{writes_of, next_record}
use Rattle.plain_site.specs.Commits.{commit_below}
use Rattle.session_core.specs.Gives.{Stops}
use Rattle.session_core.specs.Held.{seen}
use Rattle.session_core.specs.Stands.{CoreStands}
use Rattle.site_answers.specs.Stops.{add_stop}
use Rattle.session_core.proofs.Committing.{grown-held, commit-gives, commit-stops, may-commit, writes-as, told-parents}
use Rattle.session_core.proofs.Parts.commit_below.Goals as goal

pub commit_open-requires-clause-first : goal.commit_open-requires-clause-first
commit_open-requires-clause-first c = c.own_site-own.ensures.first

pub commit_open-requires-clause-last : goal.commit_open-requires-clause-last
commit_open-requires-clause-last c = subst (λ n. c.own_site-own.result ≤ n) c.self.invariant.floors c.own_site-own.ensures.last

pub commit_open-requires-clause-next : goal.commit_open-requires-clause-next
commit_open-requires-clause-next c =
    ap (λ n. n + 1) (c.count-count.ensures.is ∙ ap (λ (t : Table). unwrap_or (slice_get t.counts (c.own_site-own.result - 1)) 0) c.dag.ensures)

pub commit_open-requires-clause-slots : goal.commit_open-requires-clause-slots
commit_open-requires-clause-slots c = subst (λ v. IsTrue (list_all (is_slot v.store.table) c.args.below.now)) (sym c.self.view_is) c.requires.slots

pub committed-requires-clause-slots : goal.committed-requires-clause-slots
committed-requires-clause-slots c =
    let id : StateId = record { site = c.own_site-own.result; sequence = c.count-count.result + 1 } in
    let done = subst (λ r. CommitsIn c.self.inside.store c.commit_open.new.store c.self.inside.txns c.commit_open.new.txns c.args.actor id c.args.below.now (Some r))
    c.in-Ok.is c.in-Some.ensures in
    subst (λ t. AreSlots c.self.inside.book t) (sym c.dag-in-Ok.ensures)
    (slots-grow c.self.inside.book c.self.inside.store.table c.commit_open.new.store.table done.2.keeps c.self.invariant.places)

pub invariant_of-self-in-Ok : goal.invariant_of-self-in-Ok
invariant_of-self-in-Ok c =
    let id : StateId = record { site = c.own_site-own.result; sequence = c.count-count.result + 1 } in
    let done = subst (λ r. CommitsIn c.self.inside.store c.commit_open.new.store c.self.inside.txns c.commit_open.new.txns c.args.actor id c.args.below.now (Some r))
    c.in-Ok.is c.in-Some.ensures in
    grown-held c.self.inside c.commit_open.new.store c.committed.new.self c.args.actor c.commit_open.new.txns c.self.invariant done.2.keeps
    done.2.limits c.committed.ensures.rest
    (subst (λ t. AreSlots c.committed.new.self t) c.dag-in-Ok.ensures c.committed.ensures.slots) done.3

pub returns-in-Err : goal.returns-in-Err
returns-in-Err c = λ site stands t xs found named_now arrives.
    let here = subst (λ v. CoreStands v site) (sym c.self.view_is) stands in
    let core = seen c.self.inside in
    let n = c.args.actor in
    let named = subst (λ v. map (id_at v.store.table) c.args.below.now ≡ map (λ x. Some x) xs) (sym c.self.view_is) named_now in
    let may =
    may-commit core site here c.dag.result.now c.dag.ensures c.own_site-own.result c.count-count.result c.own_site-own.ensures.is
    c.count-count.ensures.count c.if-count.false c.args.below.now xs (writes_of t) named arrives in
    let r = next_record site xs (writes_of t) in
    let id : StateId = record { site = c.own_site-own.result; sequence = c.count-count.result + 1 } in
    let done = subst (λ r. CommitsIn c.self.inside.store c.commit_open.new.store c.self.inside.txns c.commit_open.new.txns c.args.actor id c.args.below.now (Some r))
    c.in-Err.is c.in-Some.ensures in
    let fault = c.in-Err.fault in
    let writes = sym (writes-as core site here n t found done.0 done.1) in
    let added = done.2.added site.dag site.collected r here.store (sym may.named) writes may.added in
    let stops = commit-stops core site here n xs (writes_of t) c.commit_open.new.store fault may.more added done.2.same.table in
    subst (Stops (CoreStands (record core { store = c.commit_open.new.store; txns = c.commit_open.new.txns })) (commit_below site n xs (writes_of t) []) site)
    (sym c.from.ensures)
    (subst (λ es. Stops (CoreStands (record core { store = c.commit_open.new.store; txns = es })) (commit_below site n xs (writes_of t) []) site
    (add_stop fault)) (sym done.3) stops)

pub returns-in-Ok : goal.returns-in-Ok
returns-in-Ok c = λ site stands t xs found named_now arrives.
    let here = subst (λ v. CoreStands v site) (sym c.self.view_is) stands in
    let core = seen c.self.inside in
    let n = c.args.actor in
    let named = subst (λ v. map (id_at v.store.table) c.args.below.now ≡ map (λ x. Some x) xs) (sym c.self.view_is) named_now in
    let may =
    may-commit core site here c.dag.result.now c.dag.ensures c.own_site-own.result c.count-count.result c.own_site-own.ensures.is
    c.count-count.ensures.count c.if-count.false c.args.below.now xs (writes_of t) named arrives in
    let r = next_record site xs (writes_of t) in
    let id : StateId = record { site = c.own_site-own.result; sequence = c.count-count.result + 1 } in
    let done = subst (λ r. CommitsIn c.self.inside.store c.commit_open.new.store c.self.inside.txns c.commit_open.new.txns c.args.actor id c.args.below.now (Some r))
    c.in-Ok.is c.in-Some.ensures in
    let writes = sym (writes-as core site here n t found done.0 done.1) in
    let added = done.2.added site.dag site.collected r here.store (sym may.named) writes may.added in
    let stands_new = subst (λ z. Stands z (r ∷ site.dag) site.collected) (sym c.dag-in-Ok.ensures) added.1.table in
    let placed =
    subst (λ z. ArePlaced c.self.inside.book z (r ∷ site.dag) site.collected) (sym c.dag-in-Ok.ensures)
    (placed-grow c.self.inside.book c.self.inside.store.table c.commit_open.new.store.table site.dag site.collected r here.store.table done.2.keeps
    here.placed) in
    let named_new = subst (λ z. id_at z c.in-Ok.slot ≡ Some r.id) (sym c.dag-in-Ok.ensures) (done.2.slot.1 ∙ ap (λ y. Some y) may.named) in
    commit-gives core site here n xs (writes_of t) c.commit_open.new.store c.committed.new.self c.commit_open.new.txns
    id c.in_ok-parents.parents may.more may.named
    (told-parents c.dag-2.result.now c.self.inside.store.table c.dag-2.ensures c.args.below.now xs c.in_ok-parents.parents c.in_ok-parents.ensures.states named)
    added done.2.keeps done.2.limits c.committed.ensures.rest
    (c.committed.ensures.sessions (r ∷ site.dag) site.collected stands_new placed r.id named_new)
    (subst (λ z. ArePlaced c.committed.new.self z (r ∷ site.dag) site.collected) c.dag-in-Ok.ensures
    (c.committed.ensures.placed (r ∷ site.dag) site.collected stands_new placed)) done.3
