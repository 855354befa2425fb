use Rattle.std.proofs.Common.{[], IsTrue, sym, subst}
use Rattle.std.specs.Option.{option_map_or}
use Rattle.version_list.specs.Lists.{Lists, Listed, versions_in, are_in_order}
use Rattle.version_list.proofs.histories.KeyLists.hand_on.Goals as goal

pub join-requires-clause-order : goal.join-requires-clause-order
join-requires-clause-order g c =
    let kept = g.A.Above.is_kept c.args.dag.now in
    let arrival = g.A.Above.arrival_of c.args.dag.now in
    let own = subst (λ (ls : Lists). IsTrue (are_in_order kept arrival (versions_in ls c.args.key.now))) (sym c.self.view_is) c.requires.order in
    subst (λ o. IsTrue (are_in_order kept arrival (option_map_or (λ (l : Listed). l.versions) o []))) (sym c.in-Some.ensures.value) own
