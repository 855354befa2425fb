-- What a reading says where it gives a command, and where it gives none.
use Rattle.std.proofs.Common.{◌≡◌, ℕ, ◌≤◌, ◌-◌, ◌∙◌, ap, arith, List, [], ◌∷◌, length, get_or, take, drop, map, take_all, Option, Some, None, String, Global}
use Rattle.std.specs.String.{string_bytes}
use Rattle.std.specs.Prelude.{Result, Ok, Err, IfOk}
use Rattle.command_words.specs.declared.commands.Command.{Command}
use Rattle.command_words.specs.declared.commands.WordsFault.{WordsFault}
use Rattle.command_words.specs.declared.commands.WordsFault.TheVariants.{Usage, NoMemory}
use Rattle.command_words.specs.Commands.{form_of}
use Rattle.command_words.specs.Forms.{Form, form, form_behind}
use Rattle.command_words.specs.Places.{HasPlace}
use Rattle.command_words.specs.Readings.{IsCopied, IsReading}
use Rattle.command_words.specs.Settings.{settings}

pub read-form : (said : Option Form) (r : Result Command WordsFault) → IsReading said r → IfOk r (λ command. said ≡ Some (form_of command))
read-form said (Ok command) read = read.0
read-form said (Err fault) read = tt

pub read-place : (said : Option Form) (r : Result Command WordsFault) → IsReading said r → IfOk r (λ command. HasPlace command)
read-place said (Ok command) read = read.1
read-place said (Err fault) read = tt

pub read-usage : (said : Option Form) (r : Result Command WordsFault) → IsReading said r → r ≡ Err Usage → said ≡ None
read-usage said (Ok command) read is = absurd (cc)
read-usage said (Err Usage) read is = read
read-usage said (Err NoMemory) read is = absurd (cc)

pub read-memory : (said : Option Form) (r : Result Command WordsFault) → IsReading said r → r ≡ Err NoMemory →
    (form : Form) × ((said ≡ Some form) × IsCopied form)
read-memory said (Ok command) read is = absurd (cc)
read-memory said (Err Usage) read is = absurd (cc)
read-memory said (Err NoMemory) read is = read

-- what the words say, by the first and those behind it
pub form_split : (words : List (String Global)) (command : List ℕ) (first : String Global)
    → 1 ≤ length words → command ≡ string_bytes first → first ≡ get_or words 0 first
    → form_behind command (settings (map (λ w. string_bytes w) (take (length words - 1) (drop 1 words)))) ≡ form (map (λ w. string_bytes w) words)
form_split [] command first some e is = absurd (omega arith)
form_split (word ∷ rest) command first some e is =
    ap (λ c. form_behind c (settings (map (λ w. string_bytes w) (take (length (word ∷ rest) - 1) rest)))) (e ∙ ap (λ w. string_bytes w) is)
    ∙ ap (λ r. form_behind (string_bytes word) (settings (map (λ w. string_bytes w) r))) (take_all (length (word ∷ rest) - 1) rest (omega arith))
