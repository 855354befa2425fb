-- Help: words that ask for it are no command, and what is told where there was no memory.
use Rattle.std.proofs.Common.{◌≡◌, ◌↔◌, ◌⊎◌, refl, sym, subst, ℕ, List, Option, Some, inl, inr, arith}
use Rattle.tardis_io.specs.declared.statuses.Status.{Status}
use Rattle.tardis_io.specs.declared.statuses.Status.TheVariants.{Ok, WriteFault, NoMemory}
use Rattle.tardis_io.specs.Told.{WhileTold}
use Rattle.tardis_io.proofs.Told.{same}
use Rattle.command_words.specs.declared.helps.Help.{Help}
use Rattle.command_words.specs.declared.helps.Help.TheVariants.{Usage, Version}
use Rattle.command_words.specs.Forms.{Form, form}
use Rattle.command_words.specs.Helps.{AskUsage, AskVersion}
use Rattle.tardis_main.specs.Helps.{Tells}
use Rattle.tardis_main.proofs.Carrying.{none_is_no_form}

pub told_nothing : (text : List ℕ) (given : Option (List ℕ)) → WhileTold given given (Tells text NoMemory)
told_nothing text given = same given (Tells text NoMemory) (λ x. (text, (refl, omega arith)))

-- words that ask for help have no form of a command
pub helps_have_no_form : (words : List (List ℕ)) (help : Help) → ((Some help ≡ Some Usage) ↔ AskUsage words) → ((Some help ≡ Some Version) ↔ AskVersion words)
    → (f : Form) → form words ≡ Some f → ⊥
helps_have_no_form words Usage usage version f is = none_is_no_form f (subst (λ w. form w ≡ Some f) (usage.0 refl) is)
helps_have_no_form words Version usage version f is = none_is_no_form f (subst (λ w. form w ≡ Some f) (version.0 refl) is)

-- the ends of telling
abbrev pub IsTold : Status → Type 0
IsTold Ok = Unit {0}
IsTold WriteFault = Unit {0}
IsTold _ = ⊥

pub told_so : (status : Status) → (status ≡ Ok) ⊎ (status ≡ WriteFault) → IsTold status
told_so status (inl is) = subst IsTold (sym is) tt
told_so status (inr is) = subst IsTold (sym is) tt
