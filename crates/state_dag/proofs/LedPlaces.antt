-- Slots to which no first branch leads, since an earlier state isn't below a later one.
use Rattle.std.proofs.Common.{◌≡◌, ℕ, ◌+◌, ◌<◌, ◌≤◌, true, false, leb, List, [], ◌∷◌, ◌++◌, length, map, filter, find, take, get_or, Option, Some, None, refl}
use Rattle.std.proofs.Common.{ap, ap₂, ◌∙◌, arith}
use Rattle.std.specs.List.{list_all, flat_map}
use Rattle.std.specs.Option.{option_map_or}
use Rattle.std.proofs.lemmas.Bool.{and_parts, leb-true, le-ltb, false_from_ne_true, cond-false}
use Rattle.std.proofs.lemmas.List.{length-map}
use Rattle.std.proofs.lemmas.List.Elements.{filter_more}
use Rattle.tardis_base.specs.declared.ids.Slot.{Slot}
use Rattle.fork_path.specs.Pairs.{has_pairs}
use Rattle.state_dag.specs.declared.nodes.Node.{Node}
use Rattle.state_dag.specs.declared.leads.Gain.{Gain}
use Rattle.state_dag.specs.Table.{Entry, Table, entry_at, is_entry_above, arrival_at}
use Rattle.state_dag.specs.Views.{entry_of}
use Rattle.state_dag.specs.Grown.{path_at, leads_first}
use Rattle.state_dag.specs.Nodes.{gains_at, is_child_above, length_after, is_long}

-- a later child isn't above an earlier state
pub later-isnt_above : (table : Table) (at : Slot) (child : Node) → arrival_at table at < child.arrival → is_child_above table at (Some child) ≡ false
later-isnt_above table at child later = go (entry_at table at) later
  where
    go : (o : Option Entry) → option_map_or (λ e. e.arrival) o 0 < child.arrival → option_map_or (λ e. is_entry_above (entry_of 0 child) e) o false ≡ false
    go None lt = refl
    go (Some e) lt =
        false_from_ne_true (is_entry_above (entry_of 0 child) e)
        (λ t. let le = leb-true child.arrival e.arrival (and_parts (leb child.arrival e.arrival) (has_pairs e.path child.path.pairs) t).0 in omega arith)

-- one more parent that doesn't lead to a state
pub led-more : (table : Table) (parents : List Slot) (i : ℕ) (d at : Slot) → i < length parents → filter (leads_first table at) (take i parents) ≡ [] →
    leads_first table at (get_or parents i d) ≡ false →
    filter (leads_first table at) (take (i + 1) parents) ≡ []
led-more table parents i d at lt before here =
    let both : List Slot → List Slot → List Slot = λ a b. a ++ b in
    filter_more (leads_first table at) parents i d lt ∙ ap₂ both before
    (cond-false (leads_first table at (get_or parents i d)) (get_or parents i d ∷ []) [] here)

module _ (table : Table) (parents : List Slot) where
  -- nothing is gained at slots to which no first branch leads
  pub none-gained_before : (slots : List Slot) (n : ℕ) → ((k : ℕ) (d : Slot) → k < n → filter (leads_first table (get_or slots k d)) parents ≡ []) →
      n ≤ length slots → flat_map (gains_at table parents) (take n slots) ≡ []
  none-gained_before [] ℕ.zero none le = refl
  none-gained_before [] (ℕ.suc n) none le = absurd (omega arith)
  none-gained_before (s ∷ slots) ℕ.zero none le = refl
  none-gained_before (s ∷ slots) (ℕ.suc n) none le =
      let gain : Slot → Gain = λ q. record { at = s; fork = q } in
      ap₂ (λ (a b : List Gain). a ++ b) (ap (map gain) (none 0 s (omega arith)))
      (none-gained_before slots n (λ k d lt. none (ℕ.suc k) d (omega arith)) (omega arith))

  -- and no path gets too long there
  pub none-long_before : (most : ℕ) (slots : List Slot) (n : ℕ) → list_all (λ s. leb (length (path_at table s)) most) slots ≡ true →
      ((k : ℕ) (d : Slot) → k < n → filter (leads_first table (get_or slots k d)) parents ≡ []) →
      n ≤ length slots → find (is_long table most parents) (take n slots) ≡ None
  none-long_before most [] ℕ.zero short none le = refl
  none-long_before most [] (ℕ.suc n) short none le = absurd (omega arith)
  none-long_before most (s ∷ slots) ℕ.zero short none le = refl
  none-long_before most (s ∷ slots) (ℕ.suc n) short none le =
      let parts = and_parts (leb (length (path_at table s)) most) (list_all (λ t. leb (length (path_at table t)) most) slots) short in
      let within = leb-true (length (path_at table s)) most parts.0 in
      let same = ap length (none 0 s (omega arith)) in
      cond-false (is_long table most parents s) (Some s) (find (is_long table most parents) (take n slots))
      (le-ltb most (length_after table parents s) (omega arith))
      ∙ none-long_before most slots n parts.1 (λ k d lt. none (ℕ.suc k) d (omega arith)) (omega arith)

  pub gains-length : (slot : Slot) → length (gains_at table parents slot) ≡ length (filter (leads_first table slot) parents)
  gains-length slot = (let gain : Slot → Gain = λ q. record { at = slot; fork = q } in length-map (filter (leads_first table slot) parents) gain)
