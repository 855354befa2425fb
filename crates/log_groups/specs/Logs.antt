-- What the bytes of a log's file hold.
use Rattle.std.specs.Prelude.{◌≡◌, ℕ, ◌+◌, ◌*◌, List, [], ◌∷◌, ◌++◌, length, drop, if◌then◌else◌, nat_eq}
use Rattle.std.specs.List.{AllByRecursion}
use Rattle.tardis_base.specs.Sizes.{longest_frame}
use Rattle.log_text.specs.Texts.{entry, log_text, IsZeros, HasNoEntry}
use Rattle.log_groups.specs.declared.fronts.LogFront.{LogFront}
use Rattle.log_groups.specs.declared.groups.Ending.{Ending}
use Rattle.log_groups.specs.declared.groups.Ending.TheVariants.{Whole, Torn, Damaged}
use Rattle.log_groups.specs.Items.{IsFront, IsBody, group, log_items}

-- the most bytes of an entry
abbrev pub longest_entry : ℕ
longest_entry = 2 * longest_frame + 1

-- what stands behind the first byte that ends an entry
abbrev pub behind_end : List ℕ → List ℕ
behind_end [] = []
behind_end (byte ∷ bytes) = if nat_eq byte 247 then bytes else behind_end bytes

-- what a crash may leave behind the whole entries while one entry is written over zeros
pub record IsTorn (rest : List ℕ) : Type 0 where
  pub none : HasNoEntry rest
  pub last : IsZeros (behind_end rest)
  pub few : IsZeros (drop longest_entry rest)

-- the group of this number is not next
abbrev pub HasNoGroup : List ℕ → ℕ → List ℕ → Type 0
HasNoGroup life number rest = (body more : List ℕ) → IsBody body → rest ≡ entry (group life number body) ++ more → ⊥

-- how a log ends where the group of this number would stand: only zeros are there; or what a crash leaves; or neither that nor
-- the group
abbrev pub Ends : List ℕ → ℕ → List ℕ → Ending → Type 0
Ends life number rest Whole = IsZeros rest
Ends life number rest Torn = IsTorn rest × (IsZeros rest → ⊥)
Ends life number rest Damaged = HasNoGroup life number rest × (IsTorn rest → ⊥)

-- bytes hold the log of this front and these bodies, up to this rest, which ends it so
pub record Holds (bytes : List ℕ) (front : LogFront) (bodies : List (List ℕ)) (rest : List ℕ) (ending : Ending) : Type 0 where
  pub whole : bytes ≡ log_text (log_items front bodies) ++ rest
  pub is_front : IsFront front
  pub each : AllByRecursion IsBody bodies
  pub ends : Ends front.life (length bodies) rest ending
