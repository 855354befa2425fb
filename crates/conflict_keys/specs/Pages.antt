-- What a page of keys holds.
use Rattle.std.specs.Prelude.{◌≡◌, ℕ, Bool, ◌&&◌, List, length, take, min, IsTrue}
use Rattle.tardis_base.specs.declared.ids.StateId.{StateId}
use Rattle.tardis_base.specs.declared.records.Record.{Record}
use Rattle.tardis_base.specs.Sizes.{most_named}
use Rattle.tardis_base.specs.Keys.{is_key_before, are_ascending_keys, is_key_among}
use Rattle.plain_dag.specs.Conflicts.{is_conflict_key}
use Rattle.conflict_keys.specs.declared.pages.KeyPage.{KeyPage}

-- how many these keys are, as far as 32 bits tell, and the first 256 of them
abbrev pub IsPageOf : List (List ℕ) → KeyPage → Type 0
IsPageOf ks page = (page.total ≡ min (length ks) 4294967295) × (page.first ≡ take most_named ks)

-- the key is behind these bytes, and a conflict key of these states
abbrev pub is_conflict_behind : List Record → List StateId → List ℕ → List ℕ → Bool
is_conflict_behind rs xs after k = is_key_before after k && is_conflict_key rs xs k

-- these keys ascend and pass, and each that was met and passes is one of them
pub record AreNoted (passes met : List ℕ → Bool) (ks : List (List ℕ)) : Type 0 where
  pub ascend : IsTrue (are_ascending_keys ks)
  pub pass : (k : List ℕ) → IsTrue (is_key_among k ks) → IsTrue (passes k)
  pub complete : (k : List ℕ) → IsTrue (met k) → IsTrue (passes k) → IsTrue (is_key_among k ks)
