-- The requests that are lent from their bytes.
use Rattle.std.specs.Prelude.{Bool, true, false}
use Rattle.tardis_base.specs.declared.requests.Request.{Request}
use Rattle.tardis_base.specs.declared.requests.Request.TheVariants.{Begin as BeginAt, Get, Put, Delete, Commit}
use Rattle.talk_bytes.specs.declared.lent_requests.LentRequest.{LentRequest}
use Rattle.talk_bytes.specs.declared.lent_requests.LentRequest.TheVariants.{Begin as LentBegin, Get as LentGet}
use Rattle.talk_bytes.specs.declared.lent_requests.LentRequest.TheVariants.{Put as LentPut, Delete as LentDelete, Commit as LentCommit}

-- the request that is lent
abbrev pub request_lent : LentRequest → Request
request_lent (LentBegin b) = BeginAt b
request_lent (LentGet k) = Get k.now
request_lent (LentPut k v) = Put k.now v.now
request_lent (LentDelete k) = Delete k.now
request_lent (LentCommit flags k) = Commit flags k

-- the request begins a transaction, reads, writes or commits
abbrev pub is_lendable : Request → Bool
is_lendable (BeginAt begin) = true
is_lendable (Get key) = true
is_lendable (Put key value) = true
is_lendable (Delete key) = true
is_lendable (Commit flags k) = true
is_lendable _ = false
