-- What a request gives.
use Rattle.std.specs.Prelude.{◌≡◌, ◌≤◌, length, Result, Ok, Err, IsTrue}
use Rattle.tardis_base.specs.Sizes.{longest_frame}
use Rattle.tardis_base.specs.declared.faults.NoMemory.{NoMemory as OutOfMemory}
use Rattle.tardis_base.specs.declared.replies.Reply.{Reply}
use Rattle.tardis_base.specs.declared.replies.Reply.TheVariants.{NoMemory}
use Rattle.wire_talk.specs.Spellings.{reply_spelling}
use Rattle.wire_talk.specs.Valid.{is_reply}
use Rattle.plain_site.specs.Site.{Site}
use Rattle.plain_site.specs.Answers.{Answer}

-- the plain answer: its reply, and what stands for its site
abbrev pub IsGiven : (Site → Type 0) → Answer → Reply → Type 0
IsGiven stands answer reply = stands answer.0 × (reply ≡ answer.1)

-- the plain answer; or there was no memory, and what stands for the site as it was
abbrev pub Gives : (Site → Type 0) → Answer → Site → Result Reply OutOfMemory → Type 0
Gives stands answer old (Ok reply) = IsGiven stands answer reply
Gives stands answer old (Err fault) = stands old

-- the reply can be spelled, it fits a frame, and it doesn't say that memory is wanting
pub record IsTold (reply : Reply) : Type 0 where
  pub valid : IsTrue (is_reply reply)
  pub short : length (reply_spelling reply) ≤ longest_frame
  pub other : reply ≡ NoMemory → ⊥
