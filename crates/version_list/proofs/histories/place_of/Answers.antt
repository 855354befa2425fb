use Rattle.std.proofs.Common.{◌≡◌, ◌-◌, get_or, ap, subst, ◌∙◌, arith}
use Rattle.std.proofs.lemmas.Bool.{both_ways, eq-eqb}
use Rattle.tardis_base.specs.declared.ids.Slot.{Slot}
use Rattle.version_list.proofs.Promotes.{own-none, any_version}
use Rattle.version_list.proofs.histories.place_of.Goals as goal
use Rattle.version_list.proofs.histories.place_of.Goals.{else-end-gt0-via-then-end-gt0+else-eq, else-end-gt0-via-else-end-gt0}

pub returns-else-end-gt0-clause-none : goal.returns-else-end-gt0-clause-none
returns-else-end-gt0-clause-none g c = λ is.
    let kept = g.A.Above.is_kept c.args.dag.now in
    let arrival = g.A.Above.arrival_of c.args.dag.now in
    let versions = c.args.versions.now in
    let end = c.arrived_by-end.result in
    let arrived = c.arrived_by-end.ensures in
    elim c.else-end-gt0.branch [
      | else-end-gt0-via-then-end-gt0+else-eq w ↦
          let found = w.index-versions-end.result in
          own-none kept arrival c.args.at versions end found c.requires.order arrived.bound arrived.early arrived.late
          (λ j e here.
          let last : j ≡ end - 1 = omega (arith, e) in
          let there = subst (λ n. (get_or versions n found).slot ≡ c.args.at) last here in
          both_ways w.eq.result w.if-eq.false (w.eq.ensures ∙ eq-eqb (get_or versions (end - 1) found).slot.0 c.args.at.0 (ap (λ (s : Slot). s.0) there)))
      | else-end-gt0-via-else-end-gt0 w ↦
          own-none kept arrival c.args.at versions end any_version c.requires.order arrived.bound arrived.early arrived.late
          (λ j e here. omega (arith, e, w.if-end-gt0.false))
    ]
