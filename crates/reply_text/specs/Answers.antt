-- What is answered for the line of a reply, and for the words of a refusal in it.
use Rattle.std.specs.Prelude.{ℕ, Bool, List, [], ◌∷◌, ◌++◌, Option, Result, codes, is_some}
use Rattle.tardis_base.specs.declared.faults.ReadFault.{ReadFault}
use Rattle.tardis_base.specs.declared.replies.Refusal.{Refusal}
use Rattle.tardis_base.specs.declared.replies.Reply.{Reply}
use Rattle.wire_talk.specs.Memory.{refusal_takes_no_memory, reply_takes_no_memory}
use Rattle.text_words.specs.Texts.{behind}
use Rattle.shell_text.specs.Answers.{IsAnswerWhere}

abbrev pub IsReply : Option Reply → Result Reply ReadFault → Type 0
IsReply = IsAnswerWhere reply_takes_no_memory

abbrev pub IsRefusal : Option Refusal → Result Refusal ReadFault → Type 0
IsRefusal = IsAnswerWhere refusal_takes_no_memory

-- the line's first word is batch
abbrev pub is_batch_line : List ℕ → Bool
is_batch_line bytes = is_some (behind (codes "batch ") (bytes ++ 32 ∷ []))
