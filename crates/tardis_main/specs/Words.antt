-- The words of a command that is carried out.
use Rattle.std.specs.Prelude.{◌≡◌, ℕ, List, Some}
use Rattle.command_words.specs.declared.commands.Place.{Place}
use Rattle.command_words.specs.Forms.{Form, form, AsRun, AsShell, AsAudit, AsWorld, AsServe, AsLoad, AsAuto, AsDurable, AsExport, AsImport, Serving}
use Rattle.tardis_base.specs.declared.ids.StateId.{StateId}
use Rattle.rule_list.specs.declared.rules.PrefixRule.{PrefixRule}

-- the words are a form of `run` at this place
abbrev pub AreRun : List (List ℕ) → Place → Type 0
AreRun words place = form words ≡ Some (AsRun place)

-- the words are a form of `shell` at this place
abbrev pub AreShell : List (List ℕ) → Place → Type 0
AreShell words place = form words ≡ Some (AsShell place)

-- the words are a form of `audit` at this place
abbrev pub AreAudit : List (List ℕ) → Place → Type 0
AreAudit words place = form words ≡ Some (AsAudit place)

-- the words are a form of `world` with so many sites
abbrev pub AreWorld : List (List ℕ) → ℕ → Type 0
AreWorld words sites = form words ≡ Some (AsWorld sites)

-- the words are a form of `load` with this start and so many steps
abbrev pub AreLoad : List (List ℕ) → ℕ → ℕ → Type 0
AreLoad words start steps = form words ≡ Some (AsLoad start steps)

-- the words are a form of `serve` with this plan
abbrev pub AreServe : List (List ℕ) → Serving → Type 0
AreServe words plan = form words ≡ Some (AsServe plan)

-- the words are a form of `auto` at this place, with these rules
abbrev pub AreAuto : List (List ℕ) → Place → List PrefixRule → Type 0
AreAuto words place rules = form words ≡ Some (AsAuto place rules)

-- the words are a form of `export` at this place, of this state
abbrev pub AreExport : List (List ℕ) → Place → StateId → Type 0
AreExport words place state = form words ≡ Some (AsExport place state)

-- the words are those of `import`
abbrev pub AreImport : List (List ℕ) → Type 0
AreImport words = form words ≡ Some AsImport

-- the words are a form of `durable` at this place, with this path
abbrev pub AreDurable : List (List ℕ) → Place → List ℕ → Type 0
AreDurable words place path = form words ≡ Some (AsDurable place path)

-- the words have no form
abbrev pub AreUnknown : List (List ℕ) → Type 0
AreUnknown words = (f : Form) → form words ≡ Some f → ⊥
