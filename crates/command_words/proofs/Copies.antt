-- Forms that are read into memory of their own.
use Rattle.std.proofs.Common.{◌≡◌, ◌∙◌, ℕ, Bool, true, List, Option, Some, None, codes, option_map, option_and_then, refl, ap}
use Rattle.std.specs.Bool.{then_some}
use Rattle.rule_list.specs.declared.rules.PrefixRule.{PrefixRule}
use Rattle.rule_list.specs.RuleTexts.{rules_of}
use Rattle.command_words.specs.declared.commands.Place.{Place}
use Rattle.command_words.specs.Settings.{Setting}
use Rattle.command_words.specs.Values.{is_address}
use Rattle.command_words.specs.Forms.{Form, AsAuto, AsDurable, placed, auto, durable}
use Rattle.command_words.specs.Readings.{IsCopied}

-- what isn't nothing is something
some_unless_none : {A : Type 0} (o : Option A) → (o ≡ None → ⊥) → (a : A) × (o ≡ Some a)
some_unless_none None other = absurd (other refl)
some_unless_none (Some a) other = (a, refl)

pub auto_copied : (found : List Setting) (place : Place) (text : List ℕ) → placed (codes "--rules") found ≡ Some (place, text) → (rules_of text ≡ None → ⊥)
    → (form : Form) × ((auto found ≡ Some form) × IsCopied form)
auto_copied found place text is other =
    let read = some_unless_none (rules_of text) other in (
      AsAuto place read.0,
      (
        ap (option_and_then (λ (p : Place × List ℕ). option_map (λ (rules : List PrefixRule). AsAuto p.0 rules) (rules_of p.1))) is
            ∙ ap (option_map (λ (rules : List PrefixRule). AsAuto place rules)) read.1,
        tt,
      ),
    )

pub durable_copied : (found : List Setting) (place : Place) (word : List ℕ) → placed (codes "--file") found ≡ Some (place, word) → is_address word ≡ true
    → (form : Form) × ((durable found ≡ Some form) × IsCopied form)
durable_copied found place word is has = (
  AsDurable place word,
  (
    ap (option_and_then (λ (p : Place × List ℕ). then_some (is_address p.1) (AsDurable p.0 p.1))) is
        ∙ ap (λ (b : Bool). then_some b (AsDurable place word)) has,
    tt,
  ),
)
