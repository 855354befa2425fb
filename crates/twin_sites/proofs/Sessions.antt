-- What a walk over the open sessions keeps.
use Rattle.std.proofs.Common.{ℕ, Bool, List, [], ◌∷◌, IsTrue, refl}
use Rattle.std.specs.List.{All, list_all}
use Rattle.std.specs.Map.{values_of}
use Rattle.std.proofs.lemmas.Bool.{and_from}
use Rattle.std.proofs.lemmas.List.Elements.{All-head, All-tail}
use Rattle.state_dag.specs.Table.{Table, is_slot}
use Rattle.ceiling_book.specs.declared.parts.OpenSession.{OpenSession}
use Rattle.ceiling_book.specs.Places.{IsSlotOf}

-- the last commit of each has a slot of the table
abbrev pub have_last_slots : Table → List (ℕ × OpenSession) → Bool
have_last_slots table es = list_all (λ (e : ℕ × OpenSession). is_slot table e.1.last.slot) es

pub last-slots : (table : Table) (es : List (ℕ × OpenSession)) → All (λ (s : OpenSession). IsSlotOf table s.last) (values_of es) →
    IsTrue (have_last_slots table es)
last-slots table [] at = refl
last-slots table (e ∷ es) at =
    and_from (is_slot table e.1.last.slot) (have_last_slots table es) (All-head (λ (s : OpenSession). IsSlotOf table s.last) e.1 (values_of es) at)
    (last-slots table es (All-tail (λ (s : OpenSession). IsSlotOf table s.last) e.1 (values_of es) at))
