-- Whether a path gets too long, by the slots.
use Rattle.std.proofs.Common.{◌≡◌, ℕ, ◌+◌, ◌≤◌, Bool, ltb, List, [], ◌∷◌, length, map, filter, find, Option, Some, None, Err, inl, inr, refl, sym, ap, ap₂}
use Rattle.std.proofs.Common.{◌∙◌, arith}
use Rattle.std.specs.Option.{option_map, option_map_or}
use Rattle.std.proofs.lemmas.Bool.{cases_Bool, le-ltb, lt-ltb, cond-true, cond-false}
use Rattle.std.proofs.lemmas.Option.{none-some, same_Some}
use Rattle.tardis_base.specs.declared.ids.StateId.{StateId}
use Rattle.tardis_base.specs.declared.ids.Slot.{Slot}
use Rattle.tardis_base.specs.declared.faults.AddFault.{AddFault}
use Rattle.tardis_base.specs.declared.faults.AddFault.TheVariants.{Full, PathFull, NoMemory}
use Rattle.tardis_base.specs.declared.replies.Refusal.{Refusal}
use Rattle.tardis_base.specs.declared.replies.Refusal.TheVariants.{PathFull as IsPathFull}
use Rattle.state_dag.specs.Table.{Entry, Table, entry_at, id_at}
use Rattle.state_dag.specs.Grown.{leads_first, grown_length, too_long}
use Rattle.state_dag.specs.Nodes.{length_after, is_long, TellsLong, TellsOwn, first_refusal, path_refusal, TellsRefusal}
use Rattle.state_dag.proofs.LeafSlots.{AreFound, found-rest}

pub none-from_map : {X Y : Type 0} (f : X → Y) (o : Option X) → option_map f o ≡ None → o ≡ None
none-from_map f None e = refl
none-from_map f (Some x) e = absurd (none-some (f x) (sym e))

module _ (table : Table) (parents : List Slot) (most : ℕ) where
  abbrev long-entry : Entry → Bool
  long-entry e = ltb most (grown_length table parents e)

  same-length : (e : Entry) → entry_at table e.slot ≡ Some e → length_after table parents e.slot ≡ grown_length table parents e
  same-length e is = ap (λ o. length (option_map_or (λ (f : Entry). f.path) o []) + length (filter (leads_first table e.slot) parents)) is

  -- what is found among the slots stands for what is found among the entries
  abbrev Matches : Option Slot → Option Entry → Type 0
  Matches None None = Unit {0}
  Matches (Some s) (Some e) = (e.slot ≡ s) × (entry_at table s ≡ Some e)
  Matches None (Some e) = ⊥
  Matches (Some s) None = ⊥

  matched : (es : List Entry) → AreFound table es → Matches (find (is_long table most parents) (map (λ e. e.slot) es)) (find long-entry es)
  matched [] found = tt
  matched (e ∷ es) found =
      let here = found 0 e (omega arith) in
      let same = ap (ltb most) (same-length e here) in
      elim (cases_Bool (long-entry e)) [
        | inl t ↦ rw (t, same ∙ t) (refl, here)
        | inr f ↦ rw (f, same ∙ f) (matched es (found-rest table e es found))
      ]

  none-matched : (o : Option Slot) (p : Option Entry) → Matches o p → o ≡ None → p ≡ None
  none-matched None None m e = refl
  none-matched None (Some q) m e = absurd (m)
  none-matched (Some s) p m e = absurd (none-some s (sym e))

  some-matched : (s : Slot) (o : Option Slot) (p : Option Entry) → Matches o p → o ≡ Some s → (x : StateId) (n : ℕ) → id_at table s ≡ Some x →
      length_after table parents s ≡ n →
      option_map {U = StateId × ℕ} (λ e. (e.id, grown_length table parents e)) p ≡ Some (x, n)
  some-matched s None None m e x n named is = absurd (none-some s e)
  some-matched s None (Some q) m e x n named is = absurd (m)
  some-matched s (Some t) None m e x n named is = absurd (m)
  some-matched s (Some t) (Some q) m e x n named is =
      let same : t ≡ s = same_Some t s e in
      let here : entry_at table s ≡ Some q = ap (entry_at table) (sym same) ∙ m.1 in
      let told : StateId → ℕ → Option (StateId × ℕ) = λ y k. Some (y, k) in
      let id : q.id ≡ x = same_Some q.id x (sym (ap (option_map (λ (f : Entry). f.id)) here) ∙ named) in
      let long : grown_length table parents q ≡ n = sym (same-length q (ap (entry_at table) m.0 ∙ m.1)) ∙ ap (length_after table parents) (m.0 ∙ same) ∙ is in
      ap₂ told id long

module _ (table : Table) (parents : List Slot) (x : StateId) (pairs : ℕ) (found : AreFound table table.entries) where
  abbrev pub slots : List Slot
  slots = map (λ (e : Entry). e.slot) table.entries

  matches : Matches table parents table.limits.max_path (find (is_long table table.limits.max_path parents) slots)
      (find (long-entry table parents table.limits.max_path) table.entries)
  matches = matched table parents table.limits.max_path table.entries found

  -- no path of a kept state is too long
  pub short-told : find (is_long table table.limits.max_path parents) slots ≡ None → too_long table parents ≡ None
  short-told none =
      ap (option_map {U = StateId × ℕ} (λ e. (e.id, grown_length table parents e)))
      (none-matched table parents table.limits.max_path (find (is_long table table.limits.max_path parents) slots)
      (find (long-entry table parents table.limits.max_path) table.entries) matches none)

  -- a fault that tells a kept state
  pub long-told : (fault : AddFault) → TellsLong table parents (find (is_long table table.limits.max_path parents) slots) fault →
      TellsRefusal (path_refusal table x parents pairs) (Err fault)
  long-told (Full kept) told = absurd (told)
  long-told (PathFull y n) told =
      ap (first_refusal x table.limits.max_path pairs)
      (some-matched table parents table.limits.max_path told.0 (find (is_long table table.limits.max_path parents) slots)
      (find (long-entry table parents table.limits.max_path) table.entries) matches told.1 y n told.2 told.3)
  long-told NoMemory told = tt

  -- or the new state
  pub own-told : (fault : AddFault) → find (is_long table table.limits.max_path parents) slots ≡ None → TellsOwn x pairs table.limits.max_path (Err fault)
      → TellsRefusal (path_refusal table x parents pairs) (Err fault)
  own-told (Full kept) none told = absurd (told)
  own-told (PathFull y n) none told =
      let refusal : StateId → ℕ → Option Refusal = λ z m. Some (IsPathFull z m) in
      ap (first_refusal x table.limits.max_path pairs) (short-told none)
      ∙ cond-true (ltb table.limits.max_path pairs) (refusal x pairs) None (lt-ltb table.limits.max_path pairs told.2) ∙ ap₂ refusal (sym told.0) (sym told.1)
  own-told NoMemory none told = tt

-- nothing is refused where no path is too long
pub nothing-told : (table : Table) (parents : List Slot) (x : StateId) (pairs : ℕ) → too_long table parents ≡ None → pairs ≤ table.limits.max_path →
    path_refusal table x parents pairs ≡ None
nothing-told table parents x pairs none le =
    ap (first_refusal x table.limits.max_path pairs) none ∙ cond-false (ltb table.limits.max_path pairs) (Some (IsPathFull x pairs)) None
    (le-ltb table.limits.max_path pairs le)
