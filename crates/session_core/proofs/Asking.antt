-- Requests for which memory may be wanting.
use Rattle.std.proofs.Common.{◌≡◌, ℕ, List, false, true, Some, IsTrue, subst}
use Rattle.std.specs.Option.{option_map_or}
use Rattle.tardis_base.specs.declared.requests.Request.{Request}
use Rattle.wire_talk.specs.RequestReadings.{request_of}
use Rattle.talk_bytes.specs.Lent.{request_lent}
use Rattle.talk_bytes.specs.declared.lent_requests.LentRequest.{LentRequest}
use Rattle.talk_bytes.specs.declared.lent_requests.LentRequest.TheVariants.{Begin, Get, Put, Delete, Commit}
use Rattle.plain_site.specs.Step.{is_sure}

pub asked-sure : (bytes : List ℕ) (q : Request) → request_of bytes ≡ Some q → option_map_or is_sure (request_of bytes) false ≡ true → IsTrue (is_sure q)
asked-sure bytes q is sure = subst (λ o. option_map_or is_sure o false ≡ true) is sure

-- memory may be wanting for each of them
pub lent-unsure : (lent : LentRequest) → IsTrue (is_sure (request_lent lent)) → ⊥
lent-unsure (Begin b) sure = absurd (cc)
lent-unsure (Get k) sure = absurd (cc)
lent-unsure (Put k v) sure = absurd (cc)
lent-unsure (Delete k) sure = absurd (cc)
lent-unsure (Commit flags k) sure = absurd (cc)
