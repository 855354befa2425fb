-- What all gains are at one slot.
use Rattle.std.proofs.Common.{◌≡◌, ℕ, ◌+◌, ◌≤◌, Bool, true, false, ◌&&◌, ◌||◌, eqb, ltb, List, [], ◌∷◌, ◌++◌, length, map, filter, inl, inr, refl, sym, ap}
use Rattle.std.proofs.Common.{ap₂, subst, ◌∙◌, eq-eqb, eqb-true, length-append, arith}
use Rattle.std.specs.List.{list_any, list_all}
use Rattle.std.proofs.lemmas.Bool.{cases_Bool, and_parts, both_ways, or_parts, and_from}
use Rattle.std.proofs.lemmas.List.Elements.{filter-append}
use Rattle.std.proofs.lemmas.List.Folds.{list_any-append, list_all-append}
use Rattle.tardis_base.specs.declared.ids.Slot.{Slot}
use Rattle.fork_path.specs.Pairs.{is_same_pair, has_pair}
use Rattle.std.proofs.lemmas.List.Sums.{length-filter, count_by-le-length}
use Rattle.tardis_base.specs.declared.ids.StateId.{StateId}
use Rattle.state_dag.specs.declared.nodes.Node.{Node}
use Rattle.state_dag.specs.declared.leads.Gain.{Gain}
use Rattle.state_dag.specs.Table.{Table}
use Rattle.state_dag.specs.Grown.{is_slot_among, leads_first, is_first_branch}
use Rattle.state_dag.specs.Nodes.{have_places, is_gaining, gains_at, all_gains, gains_of, is_gain, AreDistinct, HasGrown, IsGrownNode}

later : (a b : Bool) → a ≡ false → (a || b) ≡ true → b ≡ true
later true b f t = absurd (both_ways true f refl)
later false b f t = t

-- ===== Those of one state

own-count : (k : ℕ) (slot : Slot) (ps : List Slot) → slot.0 ≡ k → gains_of k (map (λ p. record { at = slot; fork = p }) ps) ≡ length ps
own-count k slot [] is = refl
own-count k slot (p ∷ ps) is = rw (eq-eqb slot.0 k is) (ap (λ n. ℕ.suc n) (own-count k slot ps is))

other-count : (k : ℕ) (slot : Slot) (ps : List Slot) → eqb slot.0 k ≡ false → gains_of k (map (λ p. record { at = slot; fork = p }) ps) ≡ 0
other-count k slot [] other = refl
other-count k slot (p ∷ ps) other = rw other (other-count k slot ps other)

own-gain : (k : ℕ) (slot : Slot) (leads : Slot → Bool) (pair : ℕ × ℕ) (ps : List Slot) → slot.0 ≡ k →
    is_gain k (map (λ p. record { at = slot; fork = p }) (filter leads ps)) pair ≡ list_any (λ p. is_same_pair pair (p.0, 0) && leads p) ps
own-gain k slot leads pair [] is = refl
own-gain k slot leads pair (p ∷ ps) is = elim (cases_Bool (leads p)) [
  | inl t ↦ rw (t, eq-eqb slot.0 k is) (ap₂ (λ a b. a || b) (sym (anded (is_same_pair pair (p.0, 0)))) (own-gain k slot leads pair ps is))
  | inr f ↦ rw f (own-gain k slot leads pair ps is ∙ ap (λ b. b || list_any (λ q. is_same_pair pair (q.0, 0) && leads q) ps)
      (sym (none (is_same_pair pair (p.0, 0)))))
]
  where
    anded : (b : Bool) → (b && true) ≡ b
    anded true = refl
    anded false = refl

    none : (b : Bool) → (b && false) ≡ false
    none true = refl
    none false = refl

other-gain : (k : ℕ) (slot : Slot) (pair : ℕ × ℕ) (ps : List Slot) → eqb slot.0 k ≡ false → is_gain k (map (λ p. record { at = slot; fork = p }) ps) pair
    ≡ false
other-gain k slot pair [] other = refl
other-gain k slot pair (p ∷ ps) other = rw other (other-gain k slot pair ps other)

own-places : (n : ℕ) (slot : Slot) (ps : List Slot) → ltb slot.0 n ≡ true →
    list_all (λ (g : Gain). ltb g.at.0 n) (map (λ p. record { at = slot; fork = p }) ps) ≡ true
own-places n slot [] lt = refl
own-places n slot (p ∷ ps) lt = and_from (ltb slot.0 n) (list_all (λ (g : Gain). ltb g.at.0 n) (map (λ p. record { at = slot; fork = p }) ps)) lt
    (own-places n slot ps lt)

-- ===== All

module _ (table : Table) (parents : List Slot) where
  count-parts : (k : ℕ) (xs ys : List Gain) → gains_of k (xs ++ ys) ≡ gains_of k xs + gains_of k ys
  count-parts k xs ys = ap length (filter-append (λ (g : Gain). eqb g.at.0 k) xs ys)
      ∙ length-append (filter (λ (g : Gain). eqb g.at.0 k) xs) (filter (λ (g : Gain). eqb g.at.0 k) ys)

  -- none at a slot that isn't one of these
  none-out : (slots : List Slot) (k : ℕ) → is_slot_among (record { 0 = k }) slots ≡ false → gains_of k (all_gains table parents slots) ≡ 0
  none-out [] k out = refl
  none-out (s ∷ slots) k out =
      let parts = or_parts (eqb s.0 k) (is_slot_among (record { 0 = k }) slots) out in
      let here = other-count k s (filter (leads_first table s) parents) parts.0 in
      let rest = none-out slots k parts.1 in
      count-parts k (gains_at table parents s) (all_gains table parents slots) ∙ omega arith

  -- as many at a slot as parents lead there
  count-at : (slots : List Slot) (k : ℕ) → AreDistinct slots → is_slot_among (record { 0 = k }) slots ≡ true → gains_of k (all_gains table parents slots)
      ≡ length (filter (leads_first table (record { 0 = k })) parents)
  count-at [] k distinct there = absurd (both_ways false refl there)
  count-at (s ∷ slots) k distinct there = elim (cases_Bool (eqb s.0 k)) [
    | inl t ↦
        let same = eqb-true s.0 k t in
        let here = own-count k s (filter (leads_first table s) parents) same in
        let rest = none-out slots k (subst (λ (m : ℕ). is_slot_among (record { 0 = m }) slots ≡ false) same distinct.0) in
        let moved = ap (λ (m : ℕ). length (filter (leads_first table (record { 0 = m })) parents)) same in
        count-parts k (gains_at table parents s) (all_gains table parents slots) ∙ omega arith
    | inr f ↦
        let here = other-count k s (filter (leads_first table s) parents) f in
        let rest = count-at slots k distinct.1 (later (eqb s.0 k) (is_slot_among (record { 0 = k }) slots) f there) in
        count-parts k (gains_at table parents s) (all_gains table parents slots) ∙ omega arith
  ]

  gain-out : (slots : List Slot) (k : ℕ) (pair : ℕ × ℕ) → is_slot_among (record { 0 = k }) slots ≡ false → is_gain k (all_gains table parents slots) pair
      ≡ false
  gain-out [] k pair out = refl
  gain-out (s ∷ slots) k pair out =
      let parts = or_parts (eqb s.0 k) (is_slot_among (record { 0 = k }) slots) out in
      list_any-append (λ (g : Gain). eqb g.at.0 k && is_same_pair pair (g.fork.0, 0)) (gains_at table parents s) (all_gains table parents slots)
      ∙ ap₂ (λ a b. a || b) (other-gain k s pair (filter (leads_first table s) parents) parts.0) (gain-out slots k pair parts.1)

  -- the gains at a slot are the first branches that lead there
  gain-at : (slots : List Slot) (k : ℕ) (pair : ℕ × ℕ) → AreDistinct slots → is_slot_among (record { 0 = k }) slots ≡ true →
      is_gain k (all_gains table parents slots) pair ≡ is_first_branch table parents (record { 0 = k }) pair
  gain-at [] k pair distinct there = absurd (both_ways false refl there)
  gain-at (s ∷ slots) k pair distinct there = elim (cases_Bool (eqb s.0 k)) [
    | inl t ↦
        let same = eqb-true s.0 k t in
        list_any-append (λ (g : Gain). eqb g.at.0 k && is_same_pair pair (g.fork.0, 0)) (gains_at table parents s) (all_gains table parents slots)
        ∙ ap₂ (λ a b. a || b) (own-gain k s (leads_first table s) pair parents same)
        (gain-out slots k pair (subst (λ (m : ℕ). is_slot_among (record { 0 = m }) slots ≡ false) same distinct.0))
        ∙ orred (is_first_branch table parents s pair)
        ∙ ap (λ (m : ℕ). is_first_branch table parents (record { 0 = m }) pair) same
    | inr f ↦
        list_any-append (λ (g : Gain). eqb g.at.0 k && is_same_pair pair (g.fork.0, 0)) (gains_at table parents s) (all_gains table parents slots)
        ∙ ap₂ (λ a b. a || b) (other-gain k s pair (filter (leads_first table s) parents) f)
        (gain-at slots k pair distinct.1 (later (eqb s.0 k) (is_slot_among (record { 0 = k }) slots) f there))
  ]
    where
      orred : (b : Bool) → (b || false) ≡ b
      orred true = refl
      orred false = refl

  all-placed : (slots : List Slot) (n : ℕ) → list_all (λ (s : Slot). ltb s.0 n) slots ≡ true →
      list_all (λ (g : Gain). ltb g.at.0 n) (all_gains table parents slots) ≡ true
  all-placed [] n all = refl
  all-placed (s ∷ slots) n all =
      let parts = and_parts (ltb s.0 n) (list_all (λ (t : Slot). ltb t.0 n) slots) all in
      list_all-append (λ (g : Gain). ltb g.at.0 n) (gains_at table parents s) (all_gains table parents slots)
      ∙ and_from (list_all (λ (g : Gain). ltb g.at.0 n) (gains_at table parents s)) (list_all (λ (g : Gain). ltb g.at.0 n) (all_gains table parents slots))
      (own-places n s (filter (leads_first table s) parents) parts.0) (all-placed slots n parts.1)

module _ (table : Table) (parents slots : List Slot) (gains : List Gain) (is : gains ≡ all_gains table parents slots) where
  pub gains-counted : (k : ℕ) → AreDistinct slots → is_slot_among (record { 0 = k }) slots ≡ true → gains_of k gains
      ≡ length (filter (leads_first table (record { 0 = k })) parents)
  gains-counted k distinct there = ap (gains_of k) is ∙ count-at table parents slots k distinct there

  pub gains-told : (k : ℕ) (pair : ℕ × ℕ) → AreDistinct slots → is_slot_among (record { 0 = k }) slots ≡ true → is_gain k gains pair
      ≡ is_first_branch table parents (record { 0 = k }) pair
  gains-told k pair distinct there = ap (λ gs. is_gain k gs pair) is ∙ gain-at table parents slots k pair distinct there

  pub gains-placed : (ns : List Node) → list_all (λ (s : Slot). ltb s.0 (length ns)) slots ≡ true → have_places ns gains ≡ true
  gains-placed ns placed = ap (have_places ns) is ∙ all-placed table parents slots (length ns) placed

  -- no more than there are parents
  pub gains-few : AreDistinct slots → (k : ℕ) → gains_of k gains ≤ length parents
  gains-few distinct k = elim (cases_Bool (is_slot_among (record { 0 = k }) slots)) [
    | inl t ↦
        let counted = gains-counted k distinct t in
        let as_count = length-filter (leads_first table (record { 0 = k })) parents in
        let few = count_by-le-length (leads_first table (record { 0 = k })) parents in
        omega arith
    | inr f ↦ (let none = ap (gains_of k) is ∙ none-out table parents slots k f in omega arith)
  ]

  -- what became of a node with these gains became of it in a table that grew
  pub grown-as : (x : StateId) (slot : Slot) (k : ℕ) (old new : Node) → AreDistinct slots → is_slot_among (record { 0 = k }) slots ≡ true →
      HasGrown gains parents x slot k old new → IsGrownNode table parents x slot k old new
  grown-as x slot k old new distinct there h = record {
    id_stays = h.id_stays;
    arrival_stays = h.arrival_stays;
    parents_stay = h.parents_stay;
    ascending = h.ascending;
    pairs = λ pair.
        h.pairs pair ∙ ap (λ b. b || has_pair pair old.path.pairs) (gains-told k pair distinct there)
        ∙ or-turn (is_first_branch table parents (record { 0 = k }) pair) (has_pair pair old.path.pairs);
    longer = (let longer = h.longer in let counted = gains-counted k distinct there in omega arith);
    child = h.child;
    parent = h.parent;
    other = h.other;
    apart = h.apart;
    slots = h.slots;
    places = h.places;
  }
    where
      or-turn : (a b : Bool) → (a || b) ≡ (b || a)
      or-turn true true = refl
      or-turn true false = refl
      or-turn false true = refl
      or-turn false false = refl

-- where a path gains nothing there are no gains
pub none-gained : (k : ℕ) (gains : List Gain) → is_gaining k gains ≡ false → gains_of k gains ≡ 0
none-gained k [] none = refl
none-gained k (g ∷ gains) none =
    let parts = or_parts (eqb g.at.0 k) (is_gaining k gains) none in
    rw parts.0 (none-gained k gains parts.1)
