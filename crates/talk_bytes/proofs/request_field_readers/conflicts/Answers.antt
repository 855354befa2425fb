use Rattle.std.proofs.Common.{◌≡◌, ap, ◌∙◌}
use Rattle.std.specs.Prelude.{Result, Ok, Err, IfOk, IsErr}
use Rattle.tardis_base.specs.declared.requests.Request.{Request}
use Rattle.tardis_base.specs.declared.requests.Request.TheVariants.{Conflicts}
use Rattle.tardis_base.specs.declared.faults.NoMemory.{NoMemory}
use Rattle.talk_bytes.proofs.request_field_readers.conflicts.Goals as goal

not_ok : (q : Request) (r : Result Request NoMemory) → IsErr r → IfOk r (λ x. x ≡ q)
not_ok q (Ok x) h = absurd (cc)
not_ok q (Err e) h = _

pub returns : goal.returns
returns c = ap Conflicts (c.from_vec-after.ensures ∙ c.in_ok-from_slice.ensures.items)

pub returns-in_err-from_slice : goal.returns-in_err-from_slice
returns-in_err-from_slice c = not_ok (Conflicts c.args.after.now) c.from_residual.result c.from_residual.ensures.0
