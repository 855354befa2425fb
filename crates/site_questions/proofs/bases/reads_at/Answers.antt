use Rattle.std.proofs.Common.{◌++◌, ◌∷◌, [], map, get_or, take_all, sym, ap, ap₂, ◌∙◌}
use Rattle.std.proofs.lemmas.Bool.{both_ways}
use Rattle.std.proofs.lemmas.List.{map_more}
use Rattle.tardis_base.specs.Ids.{root}
use Rattle.plain_dag.specs.Collection.{is_kept}
use Rattle.state_dag.proofs.Passing.{all-at}
use Rattle.plain_questions.specs.Answer.{fork_read}
use Rattle.site_questions.proofs.Kept.{table-stands, table-names, slot-found}
use Rattle.site_questions.proofs.bases.reads_at.Goals as goal
use Rattle.site_questions.proofs.bases.reads_at.Goals.{in-Some+in_ok-version_of+in_ok-push, in_default}

pub loop-point-preserved : goal.loop-point-preserved
loop-point-preserved c = λ rs ks stands all.
    let store = c.args.store.now in
    let points = c.args.points.now in
    let k = c.args.key.now in
    let i = c.loop-point.point-index in
    let p = get_or points i root in
    let before = c.loop-point.invariant rs ks stands all in
    let kept = all-at (is_kept rs ks) points i root all c.loop-point-test.true in
    elim c.match-slot_of.branch [
      | in-Some+in_ok-version_of+in_ok-push w ↦
          let named = table-names store c.dag.result.now w.in-Some.slot p c.dag.ensures
          (slot-found c.dag.result.now c.slot_of.result w.in-Some.slot p w.in-Some.is c.slot_of.ensures.found) in
          let is = w.in_ok-version_of.ensures ∙ w.read_at.ensures rs ks stands p named in
          w.reads-is ∙ (w.in_ok-push.ensures.added
          ∙ (ap₂ (λ zs z. zs ++ record { fork_point = p; found = z } ∷ []) before is
          ∙ sym (map_more (fork_read rs k) points i root c.loop-point-test.true)))
      | in_default w ↦
          absurd (both_ways (is_kept rs ks p)
          (c.slot_of.ensures.none w.in_default.is rs ks (table-stands store c.dag.result.now rs ks c.dag.ensures stands)) kept)
    ]

pub returns : goal.returns
returns c = λ rs ks stands all.
    c.loop-point.invariant rs ks stands all
    ∙ ap (map (fork_read rs c.args.key.now)) (take_all c.loop-point.point-index c.args.points.now c.loop-point-test.false)
