-- What two tables tell alike where they have the same entries at some slots.
use Rattle.std.proofs.Common.{◌≡◌, ℕ, ◌+◌, Bool, true, false, ◌||◌, ◌&&◌, eqb, leb, ltb, List, [], ◌∷◌, ◌++◌, length, map, filter, find, slice_get, Option}
use Rattle.std.proofs.Common.{Some, None, inl, inr, refl, sym, ap, ap₂, subst, ◌∙◌}
use Rattle.std.specs.List.{list_any, list_all}
use Rattle.std.specs.Option.{option_map, option_map_or, option_and_then}
use Rattle.std.proofs.lemmas.Bool.{and_parts, cases_Bool, cond-true, cond-false}
use Rattle.std.proofs.lemmas.Option.{none-some, same_Some}
use Rattle.tardis_base.specs.declared.ids.StateId.{StateId}
use Rattle.tardis_base.specs.declared.ids.Slot.{Slot}
use Rattle.tardis_base.specs.declared.faults.AddFault.{AddFault}
use Rattle.tardis_base.specs.declared.faults.AddFault.TheVariants.{Full, PathFull, NoMemory}
use Rattle.fork_path.specs.Pairs.{is_same_pair, has_pair}
use Rattle.state_dag.specs.declared.leads.Gain.{Gain}
use Rattle.state_dag.specs.Table.{Entry, Table, entry_at, id_at, is_slot_above, is_entry_above}
use Rattle.state_dag.specs.Grown.{path_at, number_of_children, leads_first, is_first_branch, is_last_branch, is_new_pair, IsNewPath, IsNewEntry}
use Rattle.state_dag.specs.Nodes.{length_after, is_long, all_gains, TellsLong}

-- ===== Tests that agree on what passes another

module _ {X : Type 0} (keeps : X → Bool) where
  any-on : (p q : X → Bool) (xs : List X) → ((x : X) → keeps x ≡ true → p x ≡ q x) → list_all keeps xs ≡ true → list_any p xs ≡ list_any q xs
  any-on p q [] same all = refl
  any-on p q (x ∷ xs) same all =
      let parts = and_parts (keeps x) (list_all keeps xs) all in
      ap₂ (λ a b. a || b) (same x parts.0) (any-on p q xs same parts.1)

  filter-on : (p q : X → Bool) (xs : List X) → ((x : X) → keeps x ≡ true → p x ≡ q x) → list_all keeps xs ≡ true → filter p xs ≡ filter q xs
  filter-on p q [] same all = refl
  filter-on p q (x ∷ xs) same all =
      let parts = and_parts (keeps x) (list_all keeps xs) all in
      let here = same x parts.0 in
      let rest = filter-on p q xs same parts.1 in
      elim (cases_Bool (q x)) [
        | inl t ↦ rw (here ∙ t, t) (ap (λ ys. x ∷ ys) rest)
        | inr f ↦ rw (here ∙ f, f) rest
      ]

  find-on : (p q : X → Bool) (xs : List X) → ((x : X) → keeps x ≡ true → p x ≡ q x) → list_all keeps xs ≡ true → find p xs ≡ find q xs
  find-on p q [] same all = refl
  find-on p q (x ∷ xs) same all =
      let parts = and_parts (keeps x) (list_all keeps xs) all in
      let here = same x parts.0 in
      elim (cases_Bool (q x)) [
        | inl t ↦ rw (here ∙ t, t) refl
        | inr f ↦ rw (here ∙ f, f) (find-on p q xs same parts.1)
      ]

  find-keeps : (p : X → Bool) (xs : List X) (x : X) → list_all keeps xs ≡ true → find p xs ≡ Some x → keeps x ≡ true
  find-keeps p [] x all is = absurd (none-some x is)
  find-keeps p (y ∷ xs) x all is =
      let parts = and_parts (keeps y) (list_all keeps xs) all in
      elim (cases_Bool (p y)) [
        | inl t ↦ subst (λ z. keeps z ≡ true) (same_Some y x (sym (cond-true (p y) (Some y) (find p xs) t) ∙ is)) parts.0
        | inr f ↦ find-keeps p xs x parts.1 (sym (cond-false (p y) (Some y) (find p xs) f) ∙ is)
      ]

-- ===== Tables that agree at some slots, in which the stand-ins of the children of these slots' states stand too

module _ (t u : Table) (keeps : Slot → Bool) (agree : (s : Slot) → keeps s ≡ true → entry_at t s ≡ entry_at u s)
    (closed : (s : Slot) (e : Entry) → keeps s ≡ true → entry_at u s ≡ Some e → list_all keeps e.stand_ins ≡ true) where
  path-alike : (s : Slot) → keeps s ≡ true → path_at t s ≡ path_at u s
  path-alike s k = ap (λ o. option_map_or (λ (e : Entry). e.path) o []) (agree s k)

  pub id-alike : (s : Slot) → keeps s ≡ true → id_at t s ≡ id_at u s
  id-alike s k = ap (option_map (λ (e : Entry). e.id)) (agree s k)

  children-alike : (s : Slot) → keeps s ≡ true → number_of_children t s ≡ number_of_children u s
  children-alike s k = ap (λ o. option_map_or (λ (e : Entry). length e.children) o 0) (agree s k)

  above-alike : (a b : Slot) → keeps a ≡ true → keeps b ≡ true → is_slot_above t a b ≡ is_slot_above u a b
  above-alike a b ka kb = ap₂ (λ o p. option_map_or (λ (e : Entry). option_map_or (λ f. is_entry_above e f) p false) o false) (agree a ka) (agree b kb)

  pub leads-alike : (s p : Slot) → keeps s ≡ true → keeps p ≡ true → leads_first t s p ≡ leads_first u s p
  leads-alike s p ks kp =
      ap₂ (λ n o. eqb n 1 && option_map_or (λ c. is_slot_above t c s) (option_and_then (λ (e : Entry). slice_get e.stand_ins 0) o) false)
      (children-alike p kp) (agree p kp)
      ∙ ap (λ b. eqb (number_of_children u p) 1 && b) (go (entry_at u p) refl)
    where
      at : (ss : List Slot) → list_all keeps ss ≡ true → option_map_or (λ c. is_slot_above t c s) (slice_get ss 0) false
          ≡ option_map_or (λ c. is_slot_above u c s) (slice_get ss 0) false
      at [] all = refl
      at (c ∷ ss) all = above-alike c s (and_parts (keeps c) (list_all keeps ss) all).0 ks

      go : (o : Option Entry) → entry_at u p ≡ o →
          option_map_or (λ c. is_slot_above t c s) (option_and_then (λ (e : Entry). slice_get e.stand_ins 0) o) false
          ≡ option_map_or (λ c. is_slot_above u c s) (option_and_then (λ (e : Entry). slice_get e.stand_ins 0) o) false
      go None is = refl
      go (Some e) is = at e.stand_ins (closed p e kp is)

  module _ (parents : List Slot) (all : list_all keeps parents ≡ true) where
    leading-alike : (s : Slot) → keeps s ≡ true → filter (leads_first t s) parents ≡ filter (leads_first u s) parents
    leading-alike s ks = filter-on keeps (leads_first t s) (leads_first u s) parents (λ p kp. leads-alike s p ks kp) all

    first-alike : (s : Slot) (pair : ℕ × ℕ) → keeps s ≡ true → is_first_branch t parents s pair ≡ is_first_branch u parents s pair
    first-alike s pair ks = any-on keeps (λ p. is_same_pair pair (p.0, 0) && leads_first t s p) (λ p. is_same_pair pair (p.0, 0) && leads_first u s p) parents
        (λ p kp. ap (λ b. is_same_pair pair (p.0, 0) && b) (leads-alike s p ks kp)) all

    last-alike : (pair : ℕ × ℕ) → is_last_branch t parents pair ≡ is_last_branch u parents pair
    last-alike pair = any-on keeps (λ p. is_same_pair pair (p.0, number_of_children t p) && leb 1 (number_of_children t p))
        (λ p. is_same_pair pair (p.0, number_of_children u p) && leb 1 (number_of_children u p)) parents
        (λ p kp. ap (λ n. is_same_pair pair (p.0, n) && leb 1 n) (children-alike p kp)) all

    new-alike : (pair : ℕ × ℕ) → is_new_pair t parents pair ≡ is_new_pair u parents pair
    new-alike pair = ap₂ (λ a b. a || b)
        (any-on keeps (λ p. has_pair pair (path_at t p) || is_first_branch t parents p pair)
        (λ p. has_pair pair (path_at u p) || is_first_branch u parents p pair) parents
        (λ p kp. ap₂ (λ ps b. has_pair pair ps || b) (path-alike p kp) (first-alike p pair kp)) all) (last-alike pair)

    pub path-moves : (path : List (ℕ × ℕ)) → IsNewPath t parents path → IsNewPath u parents path
    path-moves path h = record { ascending = h.ascending; pairs = λ pair. h.pairs pair ∙ new-alike pair }

    ids-alike : (ps : List Slot) → list_all keeps ps ≡ true → map (id_at t) ps ≡ map (id_at u) ps
    ids-alike [] k = refl
    ids-alike (p ∷ ps) k = (let parts = and_parts (keeps p) (list_all keeps ps) k in
        ap₂ (λ (i : Option StateId) (is : List (Option StateId)). i ∷ is) (id-alike p parts.0) (ids-alike ps parts.1))

    pub entry-moves : (x : StateId) (slot : Slot) (e : Entry) → t.known ≡ u.known → IsNewEntry t parents x slot e → IsNewEntry u parents x slot e
    entry-moves x slot e known h = record {
      slot_is = h.slot_is;
      id_is = h.id_is;
      arrival_is = h.arrival_is ∙ known;
      has_parents = h.has_parents ∙ ids-alike parents all;
      no_children = h.no_children;
      no_stand_ins = h.no_stand_ins;
      path = path-moves e.path h.path;
    }

    pub gains-alike : (slots : List Slot) → list_all keeps slots ≡ true → all_gains t parents slots ≡ all_gains u parents slots
    gains-alike [] k = refl
    gains-alike (s ∷ slots) k =
        let parts = and_parts (keeps s) (list_all keeps slots) k in
        ap₂ (λ (xs ys : List Gain). xs ++ ys) (ap (map (λ p. record { at = s; fork = p })) (leading-alike s parts.0)) (gains-alike slots parts.1)

    length-alike : (s : Slot) → keeps s ≡ true → length_after t parents s ≡ length_after u parents s
    length-alike s ks = ap₂ (λ (ps : List (ℕ × ℕ)) (qs : List Slot). length ps + length qs) (path-alike s ks) (leading-alike s ks)

    pub long-alike : (most : ℕ) (slots : List Slot) → list_all keeps slots ≡ true → find (is_long t most parents) slots ≡ find (is_long u most parents) slots
    long-alike most slots k = find-on keeps (is_long t most parents) (is_long u most parents) slots (λ s ks. ap (ltb most) (length-alike s ks)) k

    pub told-alike : (most : ℕ) (slots : List Slot) (fault : AddFault) → list_all keeps slots ≡ true →
        TellsLong t parents (find (is_long t most parents) slots) fault → TellsLong u parents (find (is_long u most parents) slots) fault
    told-alike most slots (Full kept) k told = told
    told-alike most slots (PathFull x n) k told =
        let ks = find-keeps keeps (is_long t most parents) slots told.0 k told.1 in
        (told.0, sym (long-alike most slots k) ∙ told.1, sym (id-alike told.0 ks) ∙ told.2, sym (length-alike told.0 ks) ∙ told.3)
    told-alike most slots NoMemory k told = tt
