-- What is read of a log, step by step.
use Rattle.std.proofs.Common.{◌≡◌, ℕ, Result, List, drop, sym, ap, ◌∙◌, subst, inr, Some}
use Rattle.std.specs.Prelude.{IfOk}
use Rattle.std.proofs.lemmas.Result.{IfOk-weaker}
use Rattle.tardis_base.specs.declared.faults.NoMemory.{NoMemory}
use Rattle.log_text.specs.Fronts.{IsNext}
use Rattle.log_groups.specs.declared.fronts.LogFront.{LogFront}
use Rattle.log_groups.specs.declared.groups.Ending.TheVariants.{Damaged}
use Rattle.log_groups.specs.declared.readers.FirstItem.{FirstItem}
use Rattle.log_groups.specs.Items.{IsFront, front_item, group}
use Rattle.log_groups.specs.Logs.{Ends}
use Rattle.log_groups.specs.Fields.{front_of}
use Rattle.log_groups.specs.Steps.{IsItemFirst, IsFirst}
use Rattle.log_groups.proofs.Parts.{front_is, SameEntry}
use Rattle.log_groups.proofs.Readings.{other_ends}

pub first_of : (bytes item : List ℕ) (size : ℕ) (r : Result FirstItem NoMemory) → IsNext bytes item (Some size) → IfOk r (λ first. IsItemFirst item size first)
    → IfOk r (λ first. IsFirst bytes first)
first_of bytes item size r n i =
    IfOk-weaker r (λ first. IsItemFirst item size first) (λ first. IsFirst bytes first) (λ first h. inr (item, (size, (n.0, n.1, n.2, h)))) i

-- an item is no front where it isn't what its fields spell
pub no_front : (item wanted : List ℕ) (front : LogFront) → front ≡ front_of item → wanted ≡ front_item front → (wanted ≡ item → ⊥)
    → (f : LogFront) → IsFront f → item ≡ front_item f → ⊥
no_front item wanted front a b other f is e =
    let same : front ≡ f = a ∙ (ap front_of e ∙ front_is f is) in
    other (b ∙ (ap front_item same ∙ sym e))

-- where the entry that is next is not the group's
pub not_group : SameEntry → (life : List ℕ) (number : ℕ) (bytes item : List ℕ) (size : ℕ) → IsNext bytes item (Some size)
    → (item ≡ group life number (drop 16 item) → ⊥) → Ends life number bytes Damaged
not_group same life number bytes item size n other =
    subst (λ l. Ends life number l Damaged) (sym n.2) (other_ends same life number item (drop size bytes) n.0 other)
