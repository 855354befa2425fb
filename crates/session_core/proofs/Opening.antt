-- A site in memory that opens.
use Rattle.std.proofs.Common.{◌≡◌, ◌≤◌, ℕ, List, [], Some, IsTrue, refl, sym, subst, leb}
use Rattle.std.specs.Option.{option_map}
use Rattle.std.proofs.lemmas.Bool.{and_from, le-leb}
use Rattle.std.proofs.lemmas.Option.{none-some}
use Rattle.tardis_base.specs.declared.records.Limits.{Limits}
use Rattle.tardis_base.specs.Valid.{are_limits, is_within}
use Rattle.plain_dag.specs.Entries.{entry_of}
use Rattle.merge_txn.specs.declared.Txn.{Txn as Kept}
use Rattle.plain_site.specs.Site.{opening}
use Rattle.plain_site.specs.Sound.{IsSound}
use Rattle.plain_site.proofs.SoundOpening.{opening-is-sound}
use Rattle.session_core.specs.Stands.{txn_of}

-- there is no transaction among none
pub none-held : (P : ℕ → Kept → Type 0) (txns : List (ℕ × Kept)) → txns ≡ [] → (n : ℕ) (held : Kept) → entry_of n txns ≡ Some held → P n held
none-held P txns none n held e = absurd (none-some held (subst (λ t. entry_of n t ≡ Some held) none e))

-- no transaction is kept for none
pub none-kept : (txns : List (ℕ × Kept)) → txns ≡ [] → (n : ℕ) → option_map txn_of (entry_of n txns) ≡ entry_of n []
none-kept txns none n = subst (λ t. option_map txn_of (entry_of n t) ≡ entry_of n []) (sym none) refl

within : (low high n : ℕ) → low ≤ n → n ≤ high → IsTrue (is_within low high n)
within low high n from to = and_from (leb low n) (leb n high) (le-leb low n from) (le-leb n high to)

-- a site that opens is sound
pub opens-sound : (limits : Limits) (own : ℕ) → IsTrue (are_limits limits) → 1 ≤ own → own ≤ limits.sites → IsSound (opening limits own)
opens-sound limits own valid first last = opening-is-sound limits own valid (within 1 limits.sites own first last)
