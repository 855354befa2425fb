-- What holds of all forms.
use Rattle.std.specs.Prelude.{◌≡◌, ℕ, ◌≤◌, List, length, Some}
use Rattle.tardis_base.specs.declared.ids.StateId.{StateId}
use Rattle.rule_list.specs.declared.rules.PrefixRule.{PrefixRule}
use Rattle.command_words.specs.declared.commands.Place.{Place}
use Rattle.command_words.specs.Forms.{Serving, form, AsRun, AsShell, AsAudit, AsServe, AsAuto, AsDurable, AsExport}
use Rattle.command_words.specs.Places.{IsPlace}

-- the place of a form of `run` is a site of 1 to 16 sites
abbrev pub RunsAtASite : Type 0
RunsAtASite = (words : List (List ℕ)) (place : Place) → form words ≡ Some (AsRun place) → IsPlace place

-- and so is that of a form of `shell`
abbrev pub ShellsAtASite : Type 0
ShellsAtASite = (words : List (List ℕ)) (place : Place) → form words ≡ Some (AsShell place) → IsPlace place

-- and of `audit`
abbrev pub AuditsAtASite : Type 0
AuditsAtASite = (words : List (List ℕ)) (place : Place) → form words ≡ Some (AsAudit place) → IsPlace place

-- and of `auto`
abbrev pub AutosAtASite : Type 0
AutosAtASite = (words : List (List ℕ)) (place : Place) (rules : List PrefixRule) → form words ≡ Some (AsAuto place rules) → IsPlace place

-- and of `durable`
abbrev pub DurablesAtASite : Type 0
DurablesAtASite = (words : List (List ℕ)) (place : Place) (path : List ℕ) → form words ≡ Some (AsDurable place path) → IsPlace place

-- and of `export`
abbrev pub ExportsAtASite : Type 0
ExportsAtASite = (words : List (List ℕ)) (place : Place) (state : StateId) → form words ≡ Some (AsExport place state) → IsPlace place

-- what `serve` may be asked for: a site of 1 to 16 sites, at most 64 links, 15 peers and 1,000,000 rounds
pub record IsServing (plan : Serving) : Type 0 where
  pub place : IsPlace plan.place
  pub links : plan.links ≤ 64
  pub peers : length plan.peers ≤ 15
  pub rounds : plan.rounds ≤ 1000000

-- a form of `serve` asks for no more
abbrev pub ServesAtASite : Type 0
ServesAtASite = (words : List (List ℕ)) (plan : Serving) → form words ≡ Some (AsServe plan) → IsServing plan
