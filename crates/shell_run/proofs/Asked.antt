-- What lines ask, and how a machine over lines answers it.
use Rattle.std.proofs.Common.{◌≡◌, ℕ, Bool, true, false, ◌&&◌, IsTrue, List, [], ◌∷◌, ◌++◌, Option, Some, None, Result, Ok, Err, refl, sym, ap, ◌∙◌, subst, inr}
use Rattle.std.proofs.lemmas.Bool.{and_parts, false_from_ne_true}
use Rattle.std.specs.Prelude.{option_map}
use Rattle.std.specs.Option.{option_map_or}
use Rattle.tardis_base.specs.declared.faults.ReadFault.{ReadFault}
use Rattle.tardis_base.specs.declared.faults.ReadFault.TheVariants.{NoMemory as OutOfMemory}
use Rattle.tardis_base.specs.declared.requests.Request.{Request}
use Rattle.tardis_base.specs.Plain.{Event, PlainMachine, Answers, no_memory}
use Rattle.tardis_base.specs.Valid.{is_u16}
use Rattle.frame_cut.specs.Events.{event_of}
use Rattle.site_run.specs.Responses.{Responded}
use Rattle.wire_talk.specs.Laws.{RequestsHaveOneSpelling}
use Rattle.wire_talk.specs.Memory.{takes_no_memory}
use Rattle.wire_talk.specs.Spellings.{request_spelling}
use Rattle.wire_talk.specs.Valid.{is_request}
use Rattle.shell_text.specs.RequestTexts.{asked_of}
use Rattle.shell_text.specs.Laws.{RequestsHaveOneLine}
use Rattle.shell_text.specs.Spelled.{reply_line_of}
use Rattle.shell_run.specs.Answers.{over_lines, is_read_without_memory, event_of_line, malformed, told_line, AskedMay, ShellMay, AuditMay}
use Rattle.shell_run.specs.Wanting.{WantsMemory}

-- the event of a line that was read
pub event_asked : (line : List ℕ) (actor : ℕ) (q : Request) (spelled : List ℕ) → asked_of line ≡ Some (actor, q) → spelled ≡ request_spelling q →
    event_of_line line ≡ Some (actor, spelled)
event_asked line actor q spelled asked is = ap (λ o. option_map (λ a. (a.0, request_spelling a.1)) o) asked ∙ ap (λ b. Some (actor, b)) (sym is)

pub none_asked : (line : List ℕ) → asked_of line ≡ None → event_of_line line ≡ None
none_asked line none = ap (λ o. option_map (λ a. (a.0, request_spelling a.1)) o) none

-- false is not true
abbrev is_no : Bool → Type 0
is_no true = ⊥
is_no false = Unit {0}

pub false_is_not_true : false ≡ true → ⊥
false_is_not_true e = subst is_no e tt

abbrev fault_of : {A : Type 0} → Result A ReadFault → ReadFault
fault_of (Ok a) = OutOfMemory
fault_of (Err fault) = fault

-- the same fault, whatever the result would have been
pub same_fault : {A B : Type 0} (e f : ReadFault) → ◌≡◌ {A = Result A ReadFault} (Err e) (Err f) → ◌≡◌ {A = Result B ReadFault} (Err e) (Err f)
same_fault {A} {B} e f is = ap (λ g. Err g) (ap (λ r. fault_of r) is)

-- the machine found no memory for what a line asks
pub wanting : {S : Type 0} (m : PlainMachine S) (s : S) (line : List ℕ) (event : Event) → event_of_line line ≡ Some event → (m.is_sure event ≡ true → ⊥) →
    AskedMay (over_lines m) s (event_of_line line) no_memory s
wanting m s line event asked unsure =
    let sure : m.is_sure event ≡ false = false_from_ne_true (m.is_sure event) unsure in
    subst (λ o. AskedMay (over_lines m) s o no_memory s) (sym asked) (inr (refl, ap (λ b. b && is_read_without_memory event.1) sure, refl))

and_false : (a b : Bool) → b ≡ false → (a && b) ≡ false
and_false true b e = e
and_false false b e = refl

-- there was no memory to read what a line asks
pub wanting_to_read : {S : Type 0} (m : PlainMachine S) (s : S) (line : List ℕ) → WantsMemory line → AskedMay (over_lines m) s (event_of_line line) no_memory s
wanting_to_read m s line w =
    subst (λ o. AskedMay (over_lines m) s o no_memory s) (sym w.asked)
    (inr (refl, and_false (m.is_sure w.event) (is_read_without_memory w.event.1) w.wants, refl))

-- a line asks nothing
pub refused : {S : Type 0} (m : PlainMachine S) (s : S) (line : List ℕ) → event_of_line line ≡ None → AskedMay (over_lines m) s (event_of_line line) malformed s
refused m s line none = subst (λ o. AskedMay (over_lines m) s o malformed s) (sym none) (refl, refl)

-- the line of a reply was put
pub responded : {S : Type 0} (m : PlainMachine S) (to : S → Type 0) (s t : S) (line old new reply : List ℕ)
    → AskedMay m s (event_of_line line) reply t → to t → new ≡ old ++ (reply_line_of reply ++ 10 ∷ []) → Responded (ShellMay m) to s line old new
responded m to s t line old new reply may stands put = record {
  answer = reply_line_of reply ++ 10 ∷ [];
  state = t;
  allowed =
      (reply, (refl, may));
  stands = stands;
  put = put;
}

-- a line that tells an event and its reply was put
pub told : {S : Type 0} (m : PlainMachine S) (to : S → Type 0) (s t : S) (body old new : List ℕ) (actor : ℕ) (request reply : List ℕ)
    → (actor, request) ≡ event_of body → Answers m s ((actor, request) ∷ []) (reply ∷ []) t → to t → new ≡ old ++ (told_line actor request reply ++ 10 ∷ [])
    → Responded (AuditMay m) to s body old new
told m to s t body old new actor request reply is answers stands put = record {
  answer = told_line actor request reply ++ 10 ∷ [];
  state = t;
  allowed = subst (λ e. (r : List ℕ) × ((told_line actor request reply ++ 10 ∷ [] ≡ told_line e.0 e.1 r ++ 10 ∷ []) × Answers m s (e ∷ []) (r ∷ []) t)) is
      (reply, (refl, answers));
  stands = stands;
  put = put;
}

-- what is asked was there, and wants memory
wants_of : (line : List ℕ) (o : Option (ℕ × Request)) → asked_of line ≡ o → (asked_of line ≡ None → ⊥) →
    ((asked : ℕ × Request) → asked_of line ≡ Some asked → IsTrue (takes_no_memory asked.1) → ⊥)
    → RequestsHaveOneLine → RequestsHaveOneSpelling → WantsMemory line
wants_of line None e some takes lines spellings = absurd (some e)
wants_of line (Some asked) e some takes lines spellings =
    let valid : IsTrue (is_request asked.1) = (and_parts (is_u16 asked.0) (is_request asked.1) ((lines.some line asked).0 e).0).1 in
    record {
      event = (asked.0, request_spelling asked.1);
      asked = event_asked line asked.0 asked.1 (request_spelling asked.1) e refl;
      wants = ap (λ o. option_map_or takes_no_memory o false) (spellings.read_back asked.1 valid)
          ∙ false_from_ne_true (takes_no_memory asked.1) (takes asked e);
    }

pub wants : (line : List ℕ) → (asked_of line ≡ None → ⊥) → ((asked : ℕ × Request) → asked_of line ≡ Some asked → IsTrue (takes_no_memory asked.1) → ⊥) →
    RequestsHaveOneLine → RequestsHaveOneSpelling → WantsMemory line
wants line some takes lines spellings = wants_of line (asked_of line) refl some takes lines spellings
