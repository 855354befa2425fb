use Rattle.std.proofs.Common.{◌≡◌, List, Some, map, refl, sym, subst, IsTrue}
use Rattle.std.specs.List.{list_all}
use Rattle.tardis_base.specs.declared.ids.StateId.{StateId}
use Rattle.state_dag.specs.Table.{id_at, is_slot}
use Rattle.plain_site.specs.Site.{Site}
use Rattle.session_core.specs.Core.{Core}
use Rattle.session_core.specs.Gives.{Gives}
use Rattle.session_core.specs.Joins.{merge_in_one, MayBeMerged}
use Rattle.session_core.specs.Machine.{SiteStands, opened_with}
use Rattle.session_core.proofs.JoiningInOne.{have-names, merge-end, merge-told, merge-stands, merge-opening}
use Rattle.session_core.proofs.SiteCore.commit_merge.Goals as goal

pub invariant_of-self : goal.invariant_of-self
invariant_of-self c =
    let old = c.self.inside.parts in
    let may = subst (λ (v : Core). (site : Site) → SiteStands v site → (xs : List StateId) → map (id_at v.store.table) c.args.below.now
    ≡ map (λ x. Some x) xs → MayBeMerged site xs c.args.writes) (sym c.self.view_is) c.requires.merges in
    let names = have-names old.store.table c.args.below.now (subst (λ v. IsTrue (list_all (is_slot v.store.table) c.args.below.now))
    (sym c.self.view_is) c.requires.slots) in
    merge-stands old c.commit_merge.new.self c.args.actor names.states c.args.writes c.commit_merge.result
    (λ site stands sound m. c.commit_merge.ensures site stands sound names.states names.named m) c.commit_merge.result refl
    c.self.invariant (may c.self.invariant.site (c.self.invariant.stands, c.self.invariant.sound) names.states names.named)

pub returns-clause-given : goal.returns-clause-given
returns-clause-given c =
    subst (λ (v : Core). (site : Site) → SiteStands v site → (xs : List StateId) → map (id_at v.store.table) c.args.below.now ≡ map (λ x. Some x) xs →
    Gives (SiteStands c.commit_merge.new.self) (merge_in_one site c.args.actor xs c.args.writes) site c.told.result) c.self.view_is
    (λ site at xs named.
    let old = c.self.inside.parts in
    let may = subst (λ (v : Core). (site : Site) → SiteStands v site → (xs : List StateId) → map (id_at v.store.table) c.args.below.now
    ≡ map (λ x. Some x) xs → MayBeMerged site xs c.args.writes) (sym c.self.view_is) c.requires.merges in
    merge-told old c.commit_merge.new.self c.args.actor xs c.args.writes c.commit_merge.result
    (λ site stands sound m. c.commit_merge.ensures site stands sound xs named m) c.commit_merge.result refl
    c.told.result c.told.ensures site at (may site at xs named))

pub returns-clause-opening : goal.returns-clause-opening
returns-clause-opening c =
    let old = c.self.inside.parts in
    let may = subst (λ (v : Core). (site : Site) → SiteStands v site → (xs : List StateId) → map (id_at v.store.table) c.args.below.now
    ≡ map (λ x. Some x) xs → MayBeMerged site xs c.args.writes) (sym c.self.view_is) c.requires.merges in
    let names = have-names old.store.table c.args.below.now (subst (λ v. IsTrue (list_all (is_slot v.store.table) c.args.below.now))
    (sym c.self.view_is) c.requires.slots) in
    subst (λ v. opened_with c.commit_merge.new.self ≡ opened_with v) c.self.view_is
    (merge-opening old c.commit_merge.new.self c.args.actor names.states c.args.writes c.commit_merge.result
    (λ site stands sound m. c.commit_merge.ensures site stands sound names.states names.named m) c.commit_merge.result refl
    c.self.invariant (may c.self.invariant.site (c.self.invariant.stands, c.self.invariant.sound) names.states names.named))

pub returns-clause-end : goal.returns-clause-end
returns-clause-end c =
    let old = c.self.inside.parts in
    let site = c.self.invariant.site in
    let at : SiteStands old site = (c.self.invariant.stands, c.self.invariant.sound) in
    let may = subst (λ (v : Core). (site : Site) → SiteStands v site → (xs : List StateId) → map (id_at v.store.table) c.args.below.now
    ≡ map (λ x. Some x) xs → MayBeMerged site xs c.args.writes) (sym c.self.view_is) c.requires.merges in
    let names = have-names old.store.table c.args.below.now (subst (λ v. IsTrue (list_all (is_slot v.store.table) c.args.below.now))
    (sym c.self.view_is) c.requires.slots) in
    merge-end (SiteStands c.commit_merge.new.self) site c.args.actor names.states c.args.writes c.told.result
    (merge-told old c.commit_merge.new.self c.args.actor names.states c.args.writes c.commit_merge.result
    (λ site stands sound m. c.commit_merge.ensures site stands sound names.states names.named m) c.commit_merge.result refl
    c.told.result c.told.ensures site at (may site at names.states names.named))
