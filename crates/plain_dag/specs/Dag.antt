-- Which lists of records, newest first, are the history of a site.
use Rattle.std.specs.Prelude.{◌≡◌, ℕ, ◌+◌, List, [], ◌∷◌, IsTrue, IsFalse}
use Rattle.std.specs.List.{list_all}
use Rattle.tardis_base.specs.declared.records.Record.{Record}
use Rattle.tardis_base.specs.Keys.{has_key}
use Rattle.tardis_base.specs.Valid.{is_record}
use Rattle.plain_dag.specs.States.{root_record, is_known, count_of_site}
use Rattle.plain_dag.specs.Above.{are_apart}
use Rattle.plain_dag.specs.Conflicts.{is_conflict_key}

-- the record may arrive after these: it is new, next of its site, its parents are known and apart, and it writes each
-- conflict key of them
pub record IsNext (rs : List Record) (r : Record) : Type 0 where
  pub shape : IsTrue (is_record r)
  pub new : IsFalse (is_known rs r.id)
  pub in_sequence : r.id.sequence ≡ count_of_site rs r.id.site + 1
  pub parents : IsTrue (list_all (is_known rs) r.parents)
  pub apart : IsTrue (are_apart rs r.parents)
  pub merges : (k : List ℕ) → IsTrue (is_conflict_key rs r.parents k) → IsTrue (has_key k r.writes)

-- the root arrived first, and each record after it could arrive when it did
abbrev pub IsDag : List Record → Type 0
IsDag [] = ⊥
IsDag (r ∷ []) = r ≡ root_record
IsDag (r ∷ s ∷ rs) = IsNext (s ∷ rs) r × IsDag (s ∷ rs)
