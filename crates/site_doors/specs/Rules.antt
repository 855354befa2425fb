-- What a site lets in through each of its doors, and what it answers there itself.
use Rattle.std.specs.Prelude.{ℕ, Bool, true, false, ◌==◌, ◌&&◌, not, is_none, nat_lt, nat_le, bytes_eq, List, [], ◌∷◌, if◌then◌else◌}
use Rattle.std.specs.List.{list_any}
use Rattle.std.specs.Option.{option_map_or}
use Rattle.tardis_base.specs.declared.replies.Refusal.TheVariants.{Unsupported, Full}
use Rattle.tardis_base.specs.declared.replies.Reply.TheVariants.{Refused}
use Rattle.wire_talk.specs.declared.request_codes.TheConstants.{OPEN, BEGIN, GET, PUT, DELETE, COMMIT, ABORT, BEGIN_MERGE, FORK_POINTS, CONFLICTS, GET_FOR}
use Rattle.wire_talk.specs.declared.request_codes.TheConstants.{CEILING, STAT, SHOW, LEAVES, PULL, CLOSE}
use Rattle.wire_talk.specs.Spellings.{reply_spelling}
use Rattle.wire_lives.specs.declared.life_codes.TheConstants.{LIFE}
use Rattle.wire_lives.specs.Spellings.{introduction_spelling}
use Rattle.site_lives.specs.Lives.{introduction}
use Rattle.site_lives.specs.Acquainted.{Acquainted}
use Rattle.plain_questions.specs.declared.question_codes.TheConstants.{AT, KEYS, SCAN, RECORD, BASE, SITE}
use Rattle.plain_questions.specs.Readings.{question_of, answer_over_bytes}
use Rattle.site_questions.specs.Sure.{is_sure_question}
use Rattle.hub.specs.Doors.{DoorRules}
use Rattle.site_doors.specs.Room.{bound_reached}
use Rattle.site_doors.specs.declared.passages.TheConstants.{FOR_ALL, FOR_CLIENTS, FOR_PEERS}

-- ===== What each door is for

-- of clients: sessions, transactions, merges, reads, and what the site shows
abbrev pub client_requests : List ℕ
client_requests =
    OPEN ∷ CLOSE ∷ CEILING ∷ BEGIN ∷ GET ∷ PUT ∷ DELETE ∷ COMMIT ∷ ABORT ∷
    BEGIN_MERGE ∷ FORK_POINTS ∷ CONFLICTS ∷ GET_FOR ∷ STAT ∷ SHOW ∷ LEAVES ∷ []

abbrev pub client_questions : List ℕ
client_questions = AT ∷ KEYS ∷ SCAN ∷ RECORD ∷ BASE ∷ SITE ∷ LIFE ∷ []

-- of other sites: how much is known, news, and who the site is
abbrev pub peer_requests : List ℕ
peer_requests = STAT ∷ PULL ∷ []

abbrev pub peer_questions : List ℕ
peer_questions = RECORD ∷ SITE ∷ LIFE ∷ []

abbrev pub is_one_of : List ℕ → ℕ → Bool
is_one_of codes code = list_any (λ c. c == code) codes

-- A request with this code comes in through the door: through the one for all each that is no question, through those for
-- clients and for peers what is listed, and through any other nothing.
abbrev pub is_request_at : ℕ → ℕ → Bool
is_request_at door code =
    if door == FOR_ALL then nat_lt code AT else
    if door == FOR_CLIENTS then is_one_of client_requests code else
    if door == FOR_PEERS then is_one_of peer_requests code else false

-- a question with this code is answered at the door
abbrev pub is_question_at : ℕ → ℕ → Bool
is_question_at door code =
    if door == FOR_ALL then nat_le AT code else
    if door == FOR_CLIENTS then is_one_of client_questions code else
    if door == FOR_PEERS then is_one_of peer_questions code else false

-- ===== Bodies

-- the first byte
abbrev pub code_of : List ℕ → ℕ
code_of [] = 0
code_of (code ∷ fields) = code

-- an empty body comes in everywhere
abbrev pub is_let_in : ℕ → List ℕ → Bool
is_let_in door [] = true
is_let_in door (code ∷ fields) = is_request_at door code

-- who asks who the site is, is told its introduction; before its life began that is unsupported
abbrev pub told_of_life : Acquainted → List ℕ
told_of_life a =
    option_map_or introduction_spelling (introduction a.site.own a.site.limits.sites a.lives) (reply_spelling (Refused (Unsupported LIFE)))

-- what the bytes are told that are a question, or spell none
abbrev pub told : Acquainted → List ℕ → List ℕ
told a bytes = if bytes_eq bytes (LIFE ∷ []) then told_of_life a else answer_over_bytes a.site bytes

-- a question is told what the site tells, and everything else is refused as unsupported
abbrev pub told_at : ℕ → Acquainted → List ℕ → List ℕ
told_at door a bytes =
    if is_question_at door (code_of bytes) then told a bytes else reply_spelling (Refused (Unsupported (code_of bytes)))

-- memory fails no refusal, be it of what is no question, and no question that takes none
abbrev pub is_sure_body : List ℕ → Bool
is_sure_body bytes = option_map_or is_sure_question (question_of bytes) true

abbrev pub is_sure_at : ℕ → List ℕ → Bool
is_sure_at door bytes = if is_question_at door (code_of bytes) then is_sure_body bytes else true

-- a site whose room is reached refuses the commit, and names the bound
abbrev pub told_full : ℕ → List ℕ
told_full bound = reply_spelling (Refused (Full bound))

-- ===== The rules

-- A request with such a code comes in, unless it is a client's commit where as many states are kept as may be then. That is told the bound
-- which is reached; and what doesn't come in by its code is told at the door. Memory fails no answer that is sure of what has another code.
abbrev pub site_doors : DoorRules Acquainted
site_doors = record {
  lets_in = λ door a event. is_let_in door event.1 && is_none (bound_reached a.site event);
  answer = λ door a event. if is_let_in door event.1 then option_map_or told_full (bound_reached a.site event) [] else told_at door a event.1;
  is_sure = λ door event. not (is_let_in door event.1) && is_sure_at door event.1;
}
