-- Lists of versions in the order of their arrival, and walks over them from the newest on.
use Rattle.std.proofs.Common.{◌≡◌, ℕ, ◌<◌, ◌≤◌, Bool, true, false, ◌&&◌, List, [], ◌∷◌, ◌++◌, Some, length, get_or, take, drop, filter, nat_lt, nat_le, refl}
use Rattle.std.proofs.Common.{inl, inr, arith}
use Rattle.std.specs.List.{list_all, list_any}
use Rattle.std.proofs.lemmas.Bool.{and_parts, and_from, or_parts, or_left, or_right, cases_Bool, false_from_ne_true, ltb-true, le-leb}
use Rattle.tardis_base.specs.declared.ids.Slot.{Slot}
use Rattle.version_list.specs.declared.histories.Version.{Version}
use Rattle.version_list.specs.Lists.{are_in_order, have_come_before}
use Rattle.version_list.specs.Reads.{last_arrived}
use Rattle.version_list.proofs.Rooms.{all-push}

module _ {X : Type 0} (p : X → Bool) where
  pub all-at : (xs : List X) (i : ℕ) (d : X) → list_all p xs ≡ true → i < length xs → p (get_or xs i d) ≡ true
  all-at [] i d all lt = absurd (omega arith)
  all-at (x ∷ xs) ℕ.zero d all lt = (and_parts (p x) (list_all p xs) all).0
  all-at (x ∷ xs) (ℕ.suc i) d all lt = all-at xs i d (and_parts (p x) (list_all p xs) all).1 (omega arith)

  pub any-at : (xs : List X) (i : ℕ) (d : X) → i < length xs → p (get_or xs i d) ≡ true → list_any p xs ≡ true
  any-at [] i d lt e = absurd (omega arith)
  any-at (x ∷ xs) ℕ.zero d lt e = or_left (p x) (list_any p xs) e
  any-at (x ∷ xs) (ℕ.suc i) d lt e = or_right (p x) (list_any p xs) (any-at xs i d (omega arith) e)

  -- one more that doesn't pass, in front of those that don't
  pub none-before : (xs : List X) (i : ℕ) (d : X) → i < length xs → p (get_or xs i d) ≡ false → list_any p (drop (ℕ.suc i) xs) ≡ false →
      list_any p (drop i xs) ≡ false
  none-before [] i d lt e none = absurd (omega arith)
  none-before (x ∷ xs) ℕ.zero d lt e none = rw (e, none) refl
  none-before (x ∷ xs) (ℕ.suc i) d lt e none = none-before xs i d (omega arith) e none

  pub none-at_end : (xs : List X) → list_any p (drop (length xs) xs) ≡ false
  none-at_end [] = refl
  none-at_end (x ∷ xs) = none-at_end xs

  pub filter-none : (xs : List X) → list_any p xs ≡ false → filter p xs ≡ []
  filter-none [] none = refl
  filter-none (x ∷ xs) none =
      let parts = or_parts (p x) (list_any p xs) none in
      rw parts.0 (filter-none xs parts.1)

module _ (kept : Slot → Bool) (arrival : Slot → ℕ) where
  pub order-parts : (v : Version) (vs : List Version) → are_in_order kept arrival (v ∷ vs) ≡ true → (kept v.slot ≡ true)
      × (list_all (λ w. nat_lt (arrival v.slot) (arrival w.slot)) vs ≡ true) × (are_in_order kept arrival vs ≡ true)
  order-parts v vs ordered =
      let before = list_all (λ (w : Version). nat_lt (arrival v.slot) (arrival w.slot)) vs in
      let outer = and_parts (kept v.slot && before) (are_in_order kept arrival vs) ordered in
      let inner = and_parts (kept v.slot) before outer.0 in
      (inner.0, inner.1, outer.1)

  -- a version in order is at a kept state
  pub kept-at : (vs : List Version) (i : ℕ) (d : Version) → are_in_order kept arrival vs ≡ true → i < length vs → kept (get_or vs i d).slot ≡ true
  kept-at [] i d ordered lt = absurd (omega arith)
  kept-at (v ∷ vs) ℕ.zero d ordered lt = (order-parts v vs ordered).0
  kept-at (v ∷ vs) (ℕ.suc i) d ordered lt = kept-at vs i d (order-parts v vs ordered).2 (omega arith)

  -- of versions in order the last that passes is the one that arrived last of those that do
  pub last-found : (p : Version → Bool) (vs : List Version) (i : ℕ) (d : Version) → are_in_order kept arrival vs ≡ true → i < length vs → p (get_or vs i d)
      ≡ true → list_any p (drop (ℕ.suc i) vs) ≡ false → last_arrived arrival (filter p vs) ≡ Some (get_or vs i d)
  last-found p [] i d ordered lt e none = absurd (omega arith)
  last-found p (v ∷ vs) ℕ.zero d ordered lt e none = rw (e, filter-none p vs none) refl
  last-found p (v ∷ vs) (ℕ.suc i) d ordered lt e none =
      let parts = order-parts v vs ordered in
      let rest = last-found p vs i d parts.2 (omega arith) e none in
      let before : nat_lt (arrival v.slot) (arrival (get_or vs i d).slot) ≡ true =
      all-at (λ (w : Version). nat_lt (arrival v.slot) (arrival w.slot)) vs i d parts.1 (omega arith) in
      elim (cases_Bool (p v)) [
        | inl t ↦ rw (t, rest, before) refl
        | inr f ↦ rw f rest
      ]

  -- versions in order with a later one behind them are in order
  pub in_order-push : (vs : List Version) (v : Version) → are_in_order kept arrival vs ≡ true → have_come_before arrival v.slot vs ≡ true →
      kept v.slot ≡ true → are_in_order kept arrival (vs ++ v ∷ []) ≡ true
  in_order-push [] v ordered before e = rw e refl
  in_order-push (w ∷ vs) v ordered before e =
      let parts = order-parts w vs ordered in
      let come = and_parts (nat_lt (arrival w.slot) (arrival v.slot)) (have_come_before arrival v.slot vs) before in
      let later = all-push (λ (x : Version). nat_lt (arrival w.slot) (arrival x.slot)) vs v parts.1 come.0 in
      let rest = in_order-push vs v parts.2 come.1 e in
      rw (parts.0, later, rest) refl

  -- of versions in order none from one on that arrived after a state is above it
  pub none-later : (above : Slot → Bool) (by : ℕ) → ((a : Slot) → above a ≡ true → arrival a ≤ by) → (vs : List Version) (i : ℕ) (d : Version) →
      are_in_order kept arrival vs ≡ true → i < length vs → by < arrival (get_or vs i d).slot → list_any (λ v. above v.slot) (drop i vs) ≡ false
  none-later above by early [] i d ordered lt later = absurd (omega arith)
  none-later above by early (v ∷ vs) ℕ.zero d ordered lt later =
      rw (none v.slot later) (rest vs (order-parts v vs ordered).1)
    where
      none : (a : Slot) → by < arrival a → above a ≡ false
      none a l = false_from_ne_true (above a) (λ h. let le = early a h in omega arith)

      rest : (ws : List Version) → list_all (λ w. nat_lt (arrival v.slot) (arrival w.slot)) ws ≡ true → list_any (λ w. above w.slot) ws ≡ false
      rest [] a = refl
      rest (w ∷ ws) a =
          let parts = and_parts (nat_lt (arrival v.slot) (arrival w.slot)) (list_all (λ w. nat_lt (arrival v.slot) (arrival w.slot)) ws) a in
          let l = ltb-true (arrival v.slot) (arrival w.slot) parts.0 in
          rw (none w.slot (omega arith)) (rest ws parts.1)
  none-later above by early (v ∷ vs) (ℕ.suc i) d ordered lt later = none-later above by early vs i d (order-parts v vs ordered).2 (omega arith) later

  -- of versions in order those up to one that arrived by then arrived by then
  pub all-earlier : (by : ℕ) (vs : List Version) (i : ℕ) (d : Version) → are_in_order kept arrival vs ≡ true → i < length vs → arrival (get_or vs i d).slot
      ≤ by → list_all (λ v. nat_le (arrival v.slot) by) (take (ℕ.suc i) vs) ≡ true
  all-earlier by [] i d ordered lt le = absurd (omega arith)
  all-earlier by (v ∷ vs) ℕ.zero d ordered lt le = rw (le-leb (arrival v.slot) by le) refl
  all-earlier by (v ∷ vs) (ℕ.suc i) d ordered lt le =
      let parts = order-parts v vs ordered in
      let first : nat_lt (arrival v.slot) (arrival (get_or vs i d).slot) ≡ true =
      all-at (λ (w : Version). nat_lt (arrival v.slot) (arrival w.slot)) vs i d parts.1 (omega arith) in
      let before = ltb-true (arrival v.slot) (arrival (get_or vs i d).slot) first in
      let here : arrival v.slot ≤ by = omega (arith, before, le) in
      and_from (nat_le (arrival v.slot) by) (list_all (λ w. nat_le (arrival w.slot) by) (take (ℕ.suc i) vs)) (le-leb (arrival v.slot) by here)
      (all-earlier by vs i d parts.2 (omega arith) le)
