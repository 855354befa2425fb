-- The forms of a command: its words, and what they say.
use Rattle.std.specs.Prelude.{ℕ, Bool, List, [], ◌∷◌, Option, None, codes, bytes_eq, option_map, option_and_then, if◌then◌else◌}
use Rattle.std.specs.Bool.{then_some}
use Rattle.tardis_base.specs.declared.ids.StateId.{StateId}
use Rattle.tardis_base.specs.Sizes.{most_sites}
use Rattle.rule_list.specs.declared.rules.PrefixRule.{PrefixRule}
use Rattle.rule_list.specs.RuleTexts.{rules_of}
use Rattle.command_words.specs.declared.commands.Place.{Place}
use Rattle.command_words.specs.Settings.{Setting, settings, values, are_only}
use Rattle.command_words.specs.Values.{needed, number_or, flag, address, addresses, once, is_address, id_of}

-- what the words of `serve` say
pub record Serving : Type 0 where
  pub place : Place
  pub listen : List ℕ
  pub links : ℕ
  pub peers : List (List ℕ)
  pub rounds : ℕ
  pub tidy : Bool

-- what the words of a command say
pub data Form : Type 0 where
  AsRun : Place → Form
  AsShell : Place → Form
  AsAudit : Place → Form
  AsWorld : ℕ → Form
  AsServe : Serving → Form
  AsLoad : ℕ → ℕ → Form
  AsAuto : Place → List PrefixRule → Form
  AsDurable : Place → List ℕ → Form
  AsExport : Place → StateId → Form
  AsImport : Form

-- the values of an option
abbrev pub of : List Setting → List ℕ → List (Option (List ℕ))
of found name = values name found

-- `--sites M`, from 1 to 16, and `--site N`, from 1 to M; each is 1 where it is left out
abbrev pub place : List Setting → Option Place
place found =
    option_and_then (λ sites. option_map (λ site. record { sites = sites; site = site }) (number_or 1 1 sites (of found (codes "--site"))))
    (number_or 1 1 most_sites (of found (codes "--sites")))

-- a place, and nothing else
abbrev pub place_alone : List Setting → Option Place
place_alone found = if are_only (codes "--sites" ∷ codes "--site" ∷ []) found then place found else None

-- `--sites M`, from 1 to 16
abbrev pub world : List Setting → Option ℕ
world found = if are_only (codes "--sites" ∷ []) found then needed 1 most_sites (of found (codes "--sites")) else None

-- the options of `serve` beside its place
abbrev pub serving_at : List Setting → Place → Option Serving
serving_at found place =
    option_and_then (λ listen. option_and_then (λ links. option_and_then (λ peers. option_and_then (λ rounds. option_map
    (λ tidy. record { place = place; listen = listen; links = links; peers = peers; rounds = rounds; tidy = tidy })
    (flag (of found (codes "--tidy"))))
    (number_or 0 0 1000000 (of found (codes "--rounds"))))
    (addresses (of found (codes "--peer"))))
    (needed 1 64 (of found (codes "--links"))))
    (address (of found (codes "--listen")))

-- a place, `--listen ADDR`, `--links N` from 1 to 64, at most 15 times `--peer ADDR`, `--rounds R` to 1,000,000, which is 0
-- where it is left out, and `--tidy` or not
abbrev pub serving : List Setting → Option Serving
serving found =
    if are_only (codes "--sites" ∷ codes "--site" ∷ codes "--listen" ∷ codes "--links" ∷ codes "--peer" ∷ codes "--rounds" ∷ codes "--tidy" ∷ []) found
    then option_and_then (serving_at found) (place found) else None

-- `--start S`, of 32 bits, and `--steps N`, to 10,000
abbrev pub load : List Setting → Option Form
load found =
    if are_only (codes "--start" ∷ codes "--steps" ∷ []) found
    then option_and_then (λ start. option_map (λ steps. AsLoad start steps) (needed 0 10000 (of found (codes "--steps"))))
    (needed 0 4294967295 (of found (codes "--start")))
    else None

-- a place, and the value of one more option, which must be there
abbrev pub placed : List ℕ → List Setting → Option (Place × List ℕ)
placed name found =
    if are_only (codes "--sites" ∷ codes "--site" ∷ name ∷ []) found
    then option_and_then (λ place. option_map (λ word. (place, word)) (once (of found name))) (place found) else None

-- a place, and `--rules RULES`
abbrev pub auto : List Setting → Option Form
auto found = option_and_then (λ p. option_map (λ rules. AsAuto p.0 rules) (rules_of p.1)) (placed (codes "--rules") found)

-- a place, and `--file PATH`, which has the form of an address
abbrev pub durable : List Setting → Option Form
durable found = option_and_then (λ p. then_some (is_address p.1) (AsDurable p.0 p.1)) (placed (codes "--file") found)

-- a place, and `--at ID`
abbrev pub export : List Setting → Option Form
export found = option_and_then (λ p. option_map (λ state. AsExport p.0 state) (id_of p.1)) (placed (codes "--at") found)

-- no options
abbrev pub import : List Setting → Option Form
import found = then_some (are_only [] found) AsImport

-- the form of the options of a command
abbrev pub form_behind : List ℕ → List Setting → Option Form
form_behind command found =
    if bytes_eq command (codes "serve") then option_map AsServe (serving found) else
    (if bytes_eq command (codes "run") then option_map AsRun (place_alone found) else
    (if bytes_eq command (codes "shell") then option_map AsShell (place_alone found) else
    (if bytes_eq command (codes "audit") then option_map AsAudit (place_alone found) else
    (if bytes_eq command (codes "world") then option_map AsWorld (world found) else
    (if bytes_eq command (codes "load") then load found else
    (if bytes_eq command (codes "auto") then auto found else
    (if bytes_eq command (codes "durable") then durable found else
    (if bytes_eq command (codes "export") then export found else
    (if bytes_eq command (codes "import") then import found else None)))))))))

-- what the bytes of the words say, where they have a form
abbrev pub form : List (List ℕ) → Option Form
form [] = None
form (command ∷ rest) = form_behind command (settings rest)
