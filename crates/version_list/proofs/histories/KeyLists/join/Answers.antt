use Rattle.std.proofs.Common.{List, ℕ, [], bytes_eq, IsTrue, inl, inr, sym, subst}
use Rattle.std.specs.Option.{option_map_or}
use Rattle.std.proofs.lemmas.Bool.{cases_Bool}
use Rattle.std.proofs.lemmas.Slice.Eq.{bytes_eq-Decides}
use Rattle.version_list.specs.declared.histories.Version.{Version}
use Rattle.version_list.specs.Lists.{Listed, versions_in, are_in_order}
use Rattle.version_list.proofs.Joins.{in_order-joined}
use Rattle.version_list.proofs.histories.KeyLists.join.Goals as goal

pub returns-clause-order : goal.returns-clause-order
returns-clause-order g c = λ k.
    let kept = g.A.Above.is_kept c.args.dag.now in
    let arrival = g.A.Above.arrival_of c.args.dag.now in
    let key = c.args.key.now in
    let old = c.args.self.now in
    let new = c.hand_on.new.self in
    elim (cases_Bool (bytes_eq key k)) [
      | inl t ↦
          let own = in_order-joined kept arrival (λ a b. g.met.A.Above.arrivals_differ c.args.dag.now a b) c.args.from c.args.to
          (versions_in old key) c.requires.to c.requires.next (c.requires.order key) in
          let here = subst (λ (vs : List Version). IsTrue (are_in_order kept arrival vs)) (sym c.hand_on.ensures.joined) own in
          subst (λ (j : List ℕ). IsTrue (are_in_order kept arrival (versions_in new j))) ((bytes_eq-Decides key k).0 t) here
      | inr f ↦ subst (λ o. IsTrue (are_in_order kept arrival (option_map_or (λ (l : Listed). l.versions) o []))) (sym (c.hand_on.ensures.others k f))
          (c.requires.order k)
    ]
