-- What is told, by how a request ended.
use Rattle.std.specs.Prelude.{◌≡◌, ⊤, Bool, true, false, List, Result, Ok, Err}
use Rattle.tardis_base.specs.declared.faults.NoMemory.{NoMemory as OutOfMemory}
use Rattle.tardis_base.specs.declared.ids.StateId.{StateId}
use Rattle.tardis_base.specs.declared.replies.Reply.{Reply}
use Rattle.tardis_base.specs.declared.replies.Reply.TheVariants.{Refused as RefusedWith, Committed as CommittedAs, Ended as EndedAt}
use Rattle.tardis_base.specs.declared.replies.Reply.TheVariants.{Applied as IsApplied, Known as IsKnown, Early as IsEarly}
use Rattle.state_dag.specs.declared.rows.RowFault.{RowFault}
use Rattle.state_dag.specs.declared.rows.RowFault.TheVariants.{NoMemory as RowNoMemory}
use Rattle.ceiling_book.specs.declared.consents.ConsentEnd.{ConsentEnd}
use Rattle.ceiling_book.specs.declared.consents.ConsentEnd.TheVariants.{Applied, Known, Early, Refused as RefusedThere}
use Rattle.site_answers.specs.declared.gives.CommitEnd.{CommitEnd}
use Rattle.site_answers.specs.declared.gives.CommitEnd.TheVariants.{Committed, Ended}
use Rattle.site_answers.specs.declared.stops.Stop.{Stop}
use Rattle.site_answers.specs.declared.stops.Stop.TheVariants.{Refused, NoMemory}

-- the reply to a commit, by how the transaction ended
abbrev pub commit_reply : CommitEnd → Reply
commit_reply (Committed id parents) = CommittedAs id parents
commit_reply (Ended state) = EndedAt state

-- the parents that are told at the end, or else those that were told before
abbrev pub parents_told : CommitEnd → List StateId → List StateId
parents_told (Committed id parents) before = parents
parents_told (Ended state) before = before

-- what is told: the reply, or the refusal as one; or that there was no memory
abbrev pub ToldAs : Result Reply Stop → Result Reply OutOfMemory → Type 0
ToldAs (Ok reply) told = told ≡ Ok reply
ToldAs (Err (Refused refusal)) told = told ≡ Ok (RefusedWith refusal)
ToldAs (Err NoMemory) (Ok reply) = ⊥
ToldAs (Err NoMemory) (Err fault) = ⊤

-- what is answered to a consent, by what became of it
abbrev pub consent_reply : ConsentEnd → Result Reply Stop
consent_reply Applied = Ok IsApplied
consent_reply Known = Ok IsKnown
consent_reply (Early have) = Ok (IsEarly have)
consent_reply (RefusedThere refusal) = Err (Refused refusal)

-- what came of a record that is welcome: it was taken, or there is no room; or there was no memory
abbrev pub TakenAs : Result Reply Stop → Result Bool OutOfMemory → Type 0
TakenAs (Ok reply) taken = taken ≡ Ok true
TakenAs (Err (Refused refusal)) taken = taken ≡ Ok false
TakenAs (Err NoMemory) (Ok answer) = ⊥
TakenAs (Err NoMemory) (Err fault) = ⊤

-- the consent was taken
abbrev pub is_applied : ConsentEnd → Bool
is_applied Applied = true
is_applied end = false

-- what is told of a row that did not arrive: there was no memory, or else it doesn't fit
abbrev pub UntakenAs : RowFault → Result Bool OutOfMemory → Type 0
UntakenAs RowNoMemory (Ok answer) = ⊥
UntakenAs RowNoMemory (Err fault) = ⊤
UntakenAs fault result = result ≡ Ok false
