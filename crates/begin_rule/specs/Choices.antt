-- What a choice of a read state answers.
use Rattle.std.specs.Prelude.{◌≡◌, List, map, Some, None, Result, Ok, Err, IsTrue, IsFalse}
use Rattle.tardis_base.specs.declared.ids.StateId.{StateId}
use Rattle.tardis_base.specs.declared.ids.Slot.{Slot}
use Rattle.tardis_base.specs.declared.records.Record.{Record}
use Rattle.plain_dag.specs.States.{is_known}
use Rattle.plain_dag.specs.Above.{comparable_pair}
use Rattle.plain_dag.specs.Begin.{is_admitted, first_unknown, first_below}
use Rattle.state_dag.specs.Table.{Table, id_at}
use Rattle.begin_rule.specs.declared.BeginFault.{BeginFault}
use Rattle.begin_rule.specs.declared.BeginFault.TheVariants.{Unknown, Below}
use Rattle.begin_rule.specs.declared.merges.MergeFault.{MergeFault}
use Rattle.begin_rule.specs.declared.merges.MergeFault.TheVariants.{Unknown as OneUnknown, Below as OneBelow, Comparable, NoMemory}

-- x is chosen where it is known and admitted under the ceiling c; else it is unknown, or below c
abbrev pub ChosenAs : Table → List Record → StateId → StateId → Result Slot BeginFault → Type 0
ChosenAs table rs c x (Ok slot) = (id_at table slot ≡ Some x) × IsTrue (is_known rs x) × IsTrue (is_admitted rs c x)
ChosenAs table rs c x (Err (Unknown y)) = (y ≡ x) × IsFalse (is_known rs x)
ChosenAs table rs c x (Err (Below y d)) = (y ≡ x) × (d ≡ c) × IsTrue (is_known rs x) × IsFalse (is_admitted rs c x)

-- all are known, admitted under the ceiling c and apart, and these are their slots; or else what is told is the first
-- unknown one, or the first that isn't admitted, or the first comparable pair, each where there is none of the former; or
-- there was no memory, where all are known and admitted
abbrev pub ChosenAllAs : Table → List Record → StateId → List StateId → Result (List Slot) MergeFault → Type 0
ChosenAllAs table rs c xs (Ok slots) =
    (first_unknown rs xs ≡ None) × (first_below rs c xs ≡ None) × (comparable_pair rs xs ≡ None) × (map (id_at table) slots ≡ map (λ x. Some x) xs)
ChosenAllAs table rs c xs (Err (OneUnknown y)) = first_unknown rs xs ≡ Some y
ChosenAllAs table rs c xs (Err (OneBelow y d)) = (first_unknown rs xs ≡ None) × (first_below rs c xs ≡ Some y) × (d ≡ c)
ChosenAllAs table rs c xs (Err (Comparable y z)) = (first_unknown rs xs ≡ None) × (first_below rs c xs ≡ None) × (comparable_pair rs xs ≡ Some (y, z))
ChosenAllAs table rs c xs (Err NoMemory) = (first_unknown rs xs ≡ None) × (first_below rs c xs ≡ None)

-- all are admitted under the ceiling c; or else what is told is the first that isn't, with the ceiling
abbrev pub AdmittedAllAs : List Record → StateId → List StateId → Result Unit BeginFault → Type 0
AdmittedAllAs rs c xs (Ok done) = first_below rs c xs ≡ None
AdmittedAllAs rs c xs (Err (Unknown y)) = ⊥
AdmittedAllAs rs c xs (Err (Below y d)) = (first_below rs c xs ≡ Some y) × (d ≡ c)
