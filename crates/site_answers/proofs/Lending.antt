-- Requests that are lent from their bytes.
use Rattle.std.proofs.Common.{ℕ, List, Option, Some, None, IfSome}
use Rattle.wire_talk.specs.Laws.{RequestsHaveOneSpelling}
use Rattle.talk_bytes.specs.Lent.{request_lent}
use Rattle.wire_talk.specs.Spelled.{SpellsRequest}
use Rattle.talk_bytes.specs.declared.lent_requests.LentRequest.{LentRequest}
use Rattle.site_answers.specs.Asks.{AsksFor}
use Rattle.site_answers.proofs.Asking.{asks-for}

-- the bytes ask for what is lent from them
pub lent-asked : (bytes : List ℕ) (o : Option LentRequest) → RequestsHaveOneSpelling
    → IfSome o (λ lent. SpellsRequest bytes (request_lent lent)) → IfSome o (λ lent. AsksFor bytes (Some (request_lent lent)))
lent-asked bytes None law spelled = spelled
lent-asked bytes (Some lent) law spelled = asks-for bytes (request_lent lent) law ((law.some bytes (request_lent lent)).1 spelled)
