use Rattle.std.proofs.Common.{ap, refl, sym, subst, IsOk, Err}
use Rattle.world_core.proofs.Replying.{surely_read}
use Rattle.world_core.proofs.worlds.refuse_site.Goals.{in-Ok, in-Err-Malformed, in-Err-NoMemory}
use Rattle.world_core.proofs.worlds.refuse_site.Goals as goal

pub returns-clause-sure : goal.returns-clause-sure
returns-clause-sure c = λ sure. elim c.match-read_request.branch as (λ _. IsOk c.match-read_request.result) [
  | in-Ok w ↦ subst IsOk (sym w.result-is) refl
  | in-Err-Malformed w ↦ subst IsOk (sym w.result-is) refl
  | in-Err-NoMemory w ↦ surely_read c.args.request.now sure (λ q e t. w.in-Err-NoMemory.ensures.sure q e t (ap (λ f. Err f) w.in-Err-NoMemory.field-0-is))
]
