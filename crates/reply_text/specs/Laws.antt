-- Where the lines of requests and replies end.
use Rattle.std.specs.Prelude.{◌≡◌, ℕ, Bool, List, [], ◌∷◌, ◌++◌, IsTrue}
use Rattle.std.specs.List.{list_all}
use Rattle.tardis_base.specs.Valid.{is_within}
use Rattle.wire_item.specs.Spelled.{Spells}
use Rattle.wire_talk.specs.Valid.{is_reply}
use Rattle.shell_text.specs.RequestLines.{request_line}
use Rattle.shell_text.specs.ReplyLines.{reply_line}
use Rattle.shell_text.specs.Spelled.{is_asked}

-- each line is one line of text, and the line feed behind it tells where it ends
pub record EndsAtItsLineFeed {A : Type 0} (valid : A → Bool) (written : A → List ℕ) : Type 0 where
  -- a line is printed characters and spaces alone: no line feed is among them
  pub printed : (a : A) → IsTrue (valid a) → IsTrue (list_all (λ b. is_within 32 126 b) (written a))
  -- no line with its line feed is a front of another with its line feed
  pub no_front : (bytes more : List ℕ) (a b : A) → Spells valid (λ x. written x ++ 10 ∷ []) bytes a
      → Spells valid (λ x. written x ++ 10 ∷ []) (bytes ++ more) b → more ≡ []

abbrev pub RequestLinesEnd : Type 0
RequestLinesEnd = EndsAtItsLineFeed is_asked request_line

abbrev pub ReplyLinesEnd : Type 0
ReplyLinesEnd = EndsAtItsLineFeed is_reply reply_line
