use Rattle.std.proofs.Common.{[], ◌∷◌, ap₂}
use Rattle.state_dag.specs.Table.{id_at}
use Rattle.stored_site.specs.Joins.{merge_in_one, MayBeMerged}
use Rattle.merge_rules.specs.Auto.{ended_as}
use Rattle.merge_rules.proofs.StepLaws.{ended-short, two-named}
use Rattle.merge_rules.proofs.steps.join.Goals as goal

pub commit_merge-requires-clause-merges : goal.commit_merge-requires-clause-merges
commit_merge-requires-clause-merges g c = λ site stands xs named.
    let table = (g.A.StoredSite.kept c.args.core.now).table in
    two-named (id_at table c.args.a) (id_at table c.args.b) xs named (λ zs. MayBeMerged site zs c.args.writes)
    (λ x y ea eb. c.requires.merges site stands x y ea eb c.as_slice.ensures.valid)

pub returns-in_err-reply-clause-joined : goal.returns-in_err-reply-clause-joined
returns-in_err-reply-clause-joined g c = λ site stands x y ea eb.
    ended-short (g.A.AnySite.stands c.commit_merge.new.self) site (ended_as (merge_in_one site c.args.actor (x ∷ y ∷ []) c.args.writes)) c.in_err-reply.field-0.0
    c.from_residual.result c.from_residual.ensures.1
    (c.in_err-reply.ensures.given site stands (x ∷ y ∷ []) (ap₂ (λ o p. o ∷ p ∷ []) ea eb))
