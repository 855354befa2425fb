use Rattle.std.proofs.Common.{◌≡◌, Bool, true, false, IsTrue, refl, ap, ap₂, sym, ◌∙◌}
use Rattle.std.specs.Prelude.{Result, Ok, Err, IfOk, IsErr}
use Rattle.tardis_base.specs.declared.faults.NoMemory.{NoMemory}
use Rattle.tardis_base.specs.declared.requests.Request.{Request}
use Rattle.tardis_base.specs.declared.requests.Request.TheVariants.{Get, Put, Delete}
use Rattle.talk_bytes.specs.declared.lent_requests.LentRequest.{LentRequest}
use Rattle.talk_bytes.specs.Lent.{request_lent}
use Rattle.wire_talk.specs.Memory.{takes_no_memory}
use Rattle.talk_bytes.proofs.lent_requests.owned.Goals as goal

clash : (b : Bool) → b ≡ true → b ≡ false → ⊥
clash b t f = absurd (cc)

-- a request that takes memory
taking : (x y : LentRequest) → x ≡ y → takes_no_memory (request_lent y) ≡ false → IsTrue (takes_no_memory (request_lent x)) → ⊥
taking x y e f free = clash (takes_no_memory (request_lent x)) free (ap (λ z. takes_no_memory (request_lent z)) e ∙ f)

pub returns-in_err-key-in-Get-clause-sure : goal.returns-in_err-key-in-Get-clause-sure
returns-in_err-key-in-Get-clause-sure c = λ e free is. taking _ _ c.in-Get.is refl free

pub returns-in_err-key-in-Put-clause-sure : goal.returns-in_err-key-in-Put-clause-sure
returns-in_err-key-in-Put-clause-sure c = λ e free is. taking _ _ c.in-Put.is refl free

pub returns-in_err-value-in-Put-clause-sure : goal.returns-in_err-value-in-Put-clause-sure
returns-in_err-value-in-Put-clause-sure c = λ e free is. taking _ _ c.in-Put.is refl free

pub returns-in_err-key-in-Delete-clause-sure : goal.returns-in_err-key-in-Delete-clause-sure
returns-in_err-key-in-Delete-clause-sure c = λ e free is. taking _ _ c.in-Delete.is refl free

not_ok : (q : Request) (r : Result Request NoMemory) → IsErr r → IfOk r (λ x. x ≡ q)
not_ok q (Ok x) h = absurd (cc)
not_ok q (Err e) h = _

pub returns-in_err-key-in-Get-clause-request : goal.returns-in_err-key-in-Get-clause-request
returns-in_err-key-in-Get-clause-request c = not_ok (request_lent c.args.lent) c.from_residual.result c.from_residual.ensures.0

pub returns-in_ok-key-in-Get-clause-request : goal.returns-in_ok-key-in-Get-clause-request
returns-in_ok-key-in-Get-clause-request c = ap Get c.in_ok-key-in-Get.ensures ∙ ap request_lent (sym c.in-Get.is)

pub returns-in_err-key-in-Put-clause-request : goal.returns-in_err-key-in-Put-clause-request
returns-in_err-key-in-Put-clause-request c =
    not_ok (request_lent c.args.lent) c.from_residual-in_err-key-in-Put.result c.from_residual-in_err-key-in-Put.ensures.0

pub returns-in_err-value-in-Put-clause-request : goal.returns-in_err-value-in-Put-clause-request
returns-in_err-value-in-Put-clause-request c =
    not_ok (request_lent c.args.lent) c.from_residual-in_err-value-in-Put.result c.from_residual-in_err-value-in-Put.ensures.0

pub returns-in_ok-value-in-Put-clause-request : goal.returns-in_ok-value-in-Put-clause-request
returns-in_ok-value-in-Put-clause-request c =
    ap₂ Put c.in_ok-key-in-Put.ensures c.in_ok-value-in-Put.ensures ∙ ap request_lent (sym c.in-Put.is)

pub returns-in_err-key-in-Delete-clause-request : goal.returns-in_err-key-in-Delete-clause-request
returns-in_err-key-in-Delete-clause-request c =
    not_ok (request_lent c.args.lent) c.from_residual-in_err-key-in-Delete.result c.from_residual-in_err-key-in-Delete.ensures.0

pub returns-in_ok-key-in-Delete-clause-request : goal.returns-in_ok-key-in-Delete-clause-request
returns-in_ok-key-in-Delete-clause-request c = ap Delete c.in_ok-key-in-Delete.ensures ∙ ap request_lent (sym c.in-Delete.is)
