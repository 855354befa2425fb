-- Words for worked rows over bytes: a line is an actor, the bytes of its request and those of the reply.
use Rattle.std.specs.Prelude.{◌≡◌, ℕ, ◌==◌, ◌+◌, ◌-◌, ◌*◌, not, nat_lt, List, [], ◌∷◌, map, filter, codes, if◌then◌else◌}
use Prim.Native.String.{String}
use Rattle.wire_talk.specs.Spellings.{reply_spelling}
use Rattle.plain_site.specs.Site.{Site}
use Rattle.plain_site.specs.Step.{step_over_bytes}

infix 80 ◌sends◌=>◌
-- the number that the code of a hexadecimal digit tells: 0 to 9 are 48 to 57, a to f are 97 to 102
abbrev pub digit : ℕ → ℕ
digit code = if nat_lt code 58 then code - 48 else code - 87

-- the bytes of pairs of digits
abbrev pub bytes_of_digits : List ℕ → List ℕ
bytes_of_digits [] = []
bytes_of_digits (a ∷ []) = []
bytes_of_digits (a ∷ b ∷ rest) = (digit a * 16 + digit b) ∷ bytes_of_digits rest

-- bytes in hexadecimal; spaces say nothing
abbrev pub hex : String → List ℕ
hex text = bytes_of_digits (filter (λ code. not (code == 32)) (codes text))

pub record ByteLine : Type 0 where
  pub actor : ℕ
  pub request : List ℕ
  pub reply : List ℕ

abbrev pub ◌sends◌=>◌ : ℕ → List ℕ → List ℕ → ByteLine
actor sends request => reply = record { actor = actor; request = request; reply = reply }

-- the replies to the requests of these lines, one after another
abbrev pub byte_replies : Site → List ByteLine → List (List ℕ)
byte_replies site [] = []
byte_replies site (line ∷ lines) =
    let answer = step_over_bytes site (line.actor, line.request) in
    reply_spelling answer.1 ∷ byte_replies answer.0 lines

-- each line has the reply to its request, at the site after the lines before it
abbrev pub TalkInBytes : Site → List ByteLine → Type 0
TalkInBytes site lines = byte_replies site lines ≡ map (λ line. line.reply) lines
