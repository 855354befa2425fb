-- What is kept by seats, as it is seen by slots.
use Rattle.std.proofs.Common.{◌≡◌, ℕ, ◌<◌, ◌≤◌, Bool, true, false, ◌&&◌, ◌||◌, nat_lt, if◌then◌else◌, List, [], ◌∷◌, ◌++◌, map, filter, Option, Some, None, is_some}
use Rattle.std.proofs.Common.{IsTrue, refl, sym, ◌∙◌, ap, ap₂, subst, inl, inr, bytes_eq, length, arith}
use Rattle.std.specs.List.{list_all}
use Rattle.std.specs.Map.{lookup}
use Rattle.std.specs.Option.{option_map, option_map_or}
use Rattle.std.proofs.lemmas.Bool.{cases_Bool, both_ways, eqb-true, eq-eqb, false_from_ne_true, cond-true, cond-false}
use Rattle.std.proofs.lemmas.List.{map-append}
use Rattle.tardis_base.specs.declared.ids.Slot.{Slot}
use Rattle.tardis_base.specs.declared.ids.StateId.{StateId}
use Rattle.tardis_base.specs.declared.records.Write.{Write}
use Rattle.tardis_base.specs.Keys.{KeyWrite}
use Rattle.version_list.specs.declared.histories.Version.{Version}
use Rattle.version_list.specs.Lists.{Lists, Listed, keys_in, listed_in, versions_in, has_room_in, have_room_in, version_by, are_in_order, have_come_before, AllInOrder, AllBefore}
use Rattle.version_list.specs.Notes.{Noted, Chunks, same_slot, is_noted_in, chunks_for}
use Rattle.version_list.specs.Versions.{Versions, listed_keys, versions_of, has_room, is_noted, has_version_at}
use Rattle.version_list.specs.Reads.{later_of, last_arrived, latest_version, written}
use Rattle.version_list.specs.Promoted.{version_at, without_version, at_state, in_its_place, handed_on, promoted}
use Rattle.version_list.specs.Joined.{moved_from, taken_over, joined, IsNextIfNewer}
use Rattle.version_list.specs.Seats.{Seating, no_seats, seat_of, slot_of, IsPaired, other_of, seen_version, seen_listed, seen_lists, seen_notes, is_seated}
use Rattle.version_list.proofs.Joins.{exchanged}

same-from : (a b : Slot) → same_slot a b ≡ true → a ≡ b
same-from a b e = ap (λ n. let s : Slot = record { 0 = n } in s) (eqb-true a.0 b.0 e)

-- ===== Lists

module _ (t : Seating) where
  pub seen-keys : (ls : List (List ℕ × Listed)) → map (λ (l : List ℕ × Listed). l.0) (map (λ (l : List ℕ × Listed). (l.0, seen_listed t l.1)) ls) ≡ map (λ (l : List ℕ × Listed). l.0) ls
  seen-keys [] = refl
  seen-keys (l ∷ ls) = ap (λ ks. l.0 ∷ ks) (seen-keys ls)

  seen-found : (k : List ℕ) (ls : List (List ℕ × Listed)) → lookup (bytes_eq k) (map (λ (l : List ℕ × Listed). (l.0, seen_listed t l.1)) ls)
      ≡ option_map (seen_listed t) (lookup (bytes_eq k) ls)
  seen-found k [] = refl
  seen-found k (l ∷ ls) = elim (cases_Bool (bytes_eq k l.0)) [
    | inl e ↦ rw e refl
    | inr f ↦ rw f (seen-found k ls)
  ]

  pub seen-listed : (ls : Lists) (k : List ℕ) → listed_in (seen_lists t ls) k ≡ option_map (seen_listed t) (listed_in ls k)
  seen-listed ls k = seen-found k ls.lists

  pub seen-versions : (ls : Lists) (k : List ℕ) → versions_in (seen_lists t ls) k ≡ map (seen_version t) (versions_in ls k)
  seen-versions ls k = ap (λ o. option_map_or (λ (l : Listed). l.versions) o []) (seen-listed ls k) ∙ go (listed_in ls k)
    where
      go : (o : Option Listed) → option_map_or (λ (l : Listed). l.versions) (option_map (seen_listed t) o) []
          ≡ map (seen_version t) (option_map_or (λ (l : Listed). l.versions) o [])
      go None = refl
      go (Some l) = refl

  pub seen-room : (ls : Lists) (k : List ℕ) → has_room_in (seen_lists t ls) k ≡ has_room_in ls k
  seen-room ls k = ap (λ o. option_map_or (λ (l : Listed). nat_lt 0 l.room) o false) (seen-listed ls k) ∙ go (listed_in ls k)
    where
      go : (o : Option Listed) → option_map_or (λ (l : Listed). nat_lt 0 l.room) (option_map (seen_listed t) o) false
          ≡ option_map_or (λ (l : Listed). nat_lt 0 l.room) o false
      go None = refl
      go (Some l) = refl

  pub seen-rooms : (ls : Lists) (ws : List KeyWrite) → have_room_in (seen_lists t ls) ws ≡ have_room_in ls ws
  seen-rooms ls [] = refl
  seen-rooms ls (w ∷ ws) = ap₂ (λ a b. a && b) (seen-room ls w.0) (seen-rooms ls ws)

  -- one more version
  pub seen-more : (vs ws : List Version) → map (seen_version t) (vs ++ ws) ≡ map (seen_version t) vs ++ map (seen_version t) ws
  seen-more vs ws = map-append (seen_version t) vs ws

  -- ===== What is read

  seen-later : (arrival : Slot → ℕ) (v : Version) (o : Option Version) → later_of arrival (seen_version t v) (option_map (seen_version t) o)
      ≡ seen_version t (later_of (λ s. arrival (slot_of t s)) v o)
  seen-later arrival v None = refl
  seen-later arrival v (Some w) = go (nat_lt (arrival (slot_of t v.slot)) (arrival (slot_of t w.slot)))
    where
      go : (b : Bool) → (if b then seen_version t w else seen_version t v) ≡ seen_version t (if b then w else v)
      go true = refl
      go false = refl

  seen-last : (above : Slot → Bool) (arrival : Slot → ℕ) (vs : List Version) →
      last_arrived arrival (filter (λ v. above v.slot) (map (seen_version t) vs))
      ≡ option_map (seen_version t) (last_arrived (λ s. arrival (slot_of t s)) (filter (λ v. above (slot_of t v.slot)) vs))
  seen-last above arrival [] = refl
  seen-last above arrival (v ∷ vs) = elim (cases_Bool (above (slot_of t v.slot))) [
    | inl e ↦ rw e (ap (λ o. Some (later_of arrival (seen_version t v) o)) (seen-last above arrival vs)
        ∙ ap (λ (w : Version). Some w) (seen-later arrival v (last_arrived (λ s. arrival (slot_of t s)) (filter (λ w. above (slot_of t w.slot)) vs))))
    | inr f ↦ rw f (seen-last above arrival vs)
  ]

  seen-written : (o : Option Version) → option_map written (option_map (seen_version t) o) ≡ option_map written o
  seen-written None = refl
  seen-written (Some v) = refl

  seen-slot : (o : Option Version) → option_map (λ (v : Version). v.slot) (option_map (seen_version t) o) ≡ option_map (λ (v : Version). slot_of t v.slot) o
  seen-slot None = refl
  seen-slot (Some v) = refl

  module _ (paired : IsPaired t) (above : Slot → Slot → Bool) (arrival : Slot → ℕ) (vs : List Version) (at : Slot) where
    seen-latest : latest_version above arrival (map (seen_version t) vs) at
        ≡ option_map (seen_version t) (latest_version (λ a b. above (slot_of t a) (slot_of t b)) (λ s. arrival (slot_of t s)) vs (seat_of t at))
    seen-latest =
        seen-last (λ s. above s at) arrival vs
        ∙ ap (λ q. option_map (seen_version t) (last_arrived (λ s. arrival (slot_of t s)) (filter (λ (v : Version). above (slot_of t v.slot) q) vs)))
        (sym (paired.seats at))

    pub latest-written : option_map written (latest_version above arrival (map (seen_version t) vs) at)
        ≡ option_map written (latest_version (λ a b. above (slot_of t a) (slot_of t b)) (λ s. arrival (slot_of t s)) vs (seat_of t at))
    latest-written = ap (option_map written) seen-latest
        ∙ seen-written (latest_version (λ a b. above (slot_of t a) (slot_of t b)) (λ s. arrival (slot_of t s)) vs (seat_of t at))

    pub latest-slot : option_map (λ (v : Version). v.slot) (latest_version above arrival (map (seen_version t) vs) at)
        ≡ option_map (λ (v : Version). slot_of t v.slot)
        (latest_version (λ a b. above (slot_of t a) (slot_of t b)) (λ s. arrival (slot_of t s)) vs (seat_of t at))
    latest-slot = ap (option_map (λ (v : Version). v.slot)) seen-latest
        ∙ seen-slot (latest_version (λ a b. above (slot_of t a) (slot_of t b)) (λ s. arrival (slot_of t s)) vs (seat_of t at))

  -- ===== States

  module _ (paired : IsPaired t) where
    -- a state's seat is that of its slot
    pub same-seat : (seat slot : Slot) → same_slot (slot_of t seat) slot ≡ same_slot seat (seat_of t slot)
    same-seat seat slot = elim (cases_Bool (same_slot seat (seat_of t slot))) [
      | inl e ↦
          let is : slot_of t seat ≡ slot = ap (slot_of t) (same-from seat (seat_of t slot) e) ∙ paired.seats slot in
          eq-eqb (slot_of t seat).0 slot.0 (ap (λ (s : Slot). s.0) is) ∙ sym e
      | inr f ↦
          false_from_ne_true (same_slot (slot_of t seat) slot) (λ e.
          let is : seat ≡ seat_of t slot = sym (paired.slots seat) ∙ ap (seat_of t) (same-from (slot_of t seat) slot e) in
          both_ways (same_slot seat (seat_of t slot)) f (eq-eqb seat.0 (seat_of t slot).0 (ap (λ (s : Slot). s.0) is)))
          ∙ sym f
    ]

    same-itself : (s : Slot) → same_slot s s ≡ true
    same-itself s = eq-eqb s.0 s.0 refl

    -- where a state is kept at the slot, its seat is one
    pub seated : (kept : Slot → Bool) (seat : Slot) → is_seated t kept seat ≡ kept (slot_of t seat)
    seated kept seat = ap (λ s. kept (slot_of t seat) && same_slot s seat) (paired.slots seat) ∙ (ap (λ b. kept (slot_of t seat) && b) (same-itself seat)
        ∙ and-true (kept (slot_of t seat)))
      where
        and-true : (b : Bool) → (b && true) ≡ b
        and-true true = refl
        and-true false = refl

    pub seated-at : (kept : Slot → Bool) (slot : Slot) → IsTrue (kept slot) → IsTrue (is_seated t kept (seat_of t slot))
    seated-at kept slot here = seated kept (seat_of t slot) ∙ (ap kept (paired.seats slot) ∙ here)

    pub seen-has : (slot : Slot) (vs : List Version) → has_version_at slot (map (seen_version t) vs) ≡ has_version_at (seat_of t slot) vs
    seen-has slot [] = refl
    seen-has slot (v ∷ vs) = ap₂ (λ a b. a || b) (same-seat v.slot slot) (seen-has slot vs)

    seen-noted-in : (slot : Slot) (es : List (Slot × Chunks)) → is_noted_in slot (map (λ (e : Slot × Chunks). (slot_of t e.0, e.1)) es)
        ≡ is_noted_in (seat_of t slot) es
    seen-noted-in slot [] = refl
    seen-noted-in slot (e ∷ es) =
        let same : same_slot slot (slot_of t e.0) ≡ same_slot (seat_of t slot) e.0 =
        turned slot (slot_of t e.0) ∙ same-seat e.0 slot ∙ turned e.0 (seat_of t slot) in
        elim (cases_Bool (same_slot (seat_of t slot) e.0)) [
          | inl u ↦ (let also = same ∙ u in rw (also, u) refl)
          | inr f ↦ (let also = same ∙ f in rw (also, f) (seen-noted-in slot es))
        ]
      where
        turned : (a b : Slot) → same_slot a b ≡ same_slot b a
        turned a b = elim (cases_Bool (same_slot b a)) [
          | inl u ↦ eq-eqb a.0 b.0 (sym (eqb-true b.0 a.0 u)) ∙ sym u
          | inr f ↦ false_from_ne_true (same_slot a b) (λ e. both_ways (same_slot b a) f (eq-eqb b.0 a.0 (sym (eqb-true a.0 b.0 e)))) ∙ sym f
        ]

    pub seen-noted : (slot : Slot) (n : Noted) → is_noted_in slot (seen_notes t n).by_slot ≡ is_noted_in (seat_of t slot) n.by_slot
    seen-noted slot n = seen-noted-in slot n.by_slot

    -- ===== Order

    seen-all : (arrival : Slot → ℕ) (n : ℕ) (vs : List Version) → list_all (λ w. nat_lt n (arrival w.slot)) (map (seen_version t) vs)
        ≡ list_all (λ w. nat_lt n (arrival (slot_of t w.slot))) vs
    seen-all arrival n [] = refl
    seen-all arrival n (v ∷ vs) = ap (λ b. nat_lt n (arrival (slot_of t v.slot)) && b) (seen-all arrival n vs)

    pub seen-in_order : (kept : Slot → Bool) (arrival : Slot → ℕ) (vs : List Version) → are_in_order kept arrival (map (seen_version t) vs)
        ≡ are_in_order (is_seated t kept) (λ s. arrival (slot_of t s)) vs
    seen-in_order kept arrival [] = refl
    seen-in_order kept arrival (v ∷ vs) =
        ap₂ (λ a b. a && b) (ap₂ (λ a b. a && b) (sym (seated kept v.slot)) (seen-all arrival (arrival (slot_of t v.slot)) vs)) (seen-in_order kept arrival vs)

    pub seen-before : (arrival : Slot → ℕ) (slot : Slot) (vs : List Version) → have_come_before arrival slot (map (seen_version t) vs)
        ≡ have_come_before (λ s. arrival (slot_of t s)) (seat_of t slot) vs
    seen-before arrival slot [] = refl
    seen-before arrival slot (v ∷ vs) =
        ap₂ (λ a b. a && b) (ap (λ s. nat_lt (arrival (slot_of t v.slot)) (arrival s)) (sym (paired.seats slot))) (seen-before arrival slot vs)

    -- so it is in all lists
    pub ordered-by_seats : (kept : Slot → Bool) (arrival : Slot → ℕ) (ls : Lists) → AllInOrder kept arrival (seen_lists t ls) →
        AllInOrder (is_seated t kept) (λ s. arrival (slot_of t s)) ls
    ordered-by_seats kept arrival ls all = λ k. sym (seen-in_order kept arrival (versions_in ls k)) ∙ (ap (are_in_order kept arrival) (sym (seen-versions ls k)) ∙ all k)

    pub ordered-by_slots : (kept : Slot → Bool) (arrival : Slot → ℕ) (ls : Lists) → AllInOrder (is_seated t kept) (λ s. arrival (slot_of t s)) ls →
        AllInOrder kept arrival (seen_lists t ls)
    ordered-by_slots kept arrival ls all = λ k. ap (are_in_order kept arrival) (seen-versions ls k) ∙ (seen-in_order kept arrival (versions_in ls k) ∙ all k)

    pub before-by_seats : (arrival : Slot → ℕ) (slot : Slot) (ls : Lists) → AllBefore arrival slot (seen_lists t ls) →
        AllBefore (λ s. arrival (slot_of t s)) (seat_of t slot) ls
    before-by_seats arrival slot ls all = λ k. sym (seen-before arrival slot (versions_in ls k)) ∙ (ap (have_come_before arrival slot) (sym (seen-versions ls k)) ∙ all k)

    -- what a state wrote
    pub seen-by : (slot : Slot) (writer : StateId) (o : Option Write) → map (seen_version t) (version_by (seat_of t slot) writer o) ≡ version_by slot writer o
    seen-by slot writer None = refl
    seen-by slot writer (Some w) = ap (λ s. let v : Version = record { slot = s; writer = writer; write = w } in v ∷ []) (paired.seats slot)

    -- ===== What goes from one state to another

    seen-without : (slot : Slot) (vs : List Version) → map (seen_version t) (without_version (seat_of t slot) vs)
        ≡ without_version slot (map (seen_version t) vs)
    seen-without slot [] = refl
    seen-without slot (v ∷ vs) =
        let same = same-seat v.slot slot in
        elim (cases_Bool (same_slot v.slot (seat_of t slot))) [
          | inl e ↦ (let also = same ∙ e in rw (e, also) (seen-without slot vs))
          | inr f ↦ (let also = same ∙ f in rw (f, also) (ap (λ ws. seen_version t v ∷ ws) (seen-without slot vs)))
        ]

    seen-at : (slot : Slot) (vs : List Version) → version_at slot (map (seen_version t) vs) ≡ option_map (seen_version t) (version_at (seat_of t slot) vs)
    seen-at slot [] = refl
    seen-at slot (v ∷ vs) =
        let same = same-seat v.slot slot in
        elim (cases_Bool (same_slot v.slot (seat_of t slot))) [
          | inl e ↦ (let also = same ∙ e in rw (e, also) refl)
          | inr f ↦ (let also = same ∙ f in rw (f, also) (seen-at slot vs))
        ]

    seen-moved : (from to : Slot) (vs : List Version) → map (seen_version t) (map (moved_from (seat_of t from) (seat_of t to)) vs)
        ≡ map (moved_from from to) (map (seen_version t) vs)
    seen-moved from to [] = refl
    seen-moved from to (v ∷ vs) =
        let same = same-seat v.slot from in
        elim (cases_Bool (same_slot v.slot (seat_of t from))) [
          | inl e ↦
              let also = same ∙ e in
              rw (e, also) (ap₂ (λ w ws. w ∷ ws) (ap (λ s. at_state s v) (paired.seats to)) (seen-moved from to vs))
          | inr f ↦ (let also = same ∙ f in rw (f, also) (ap (λ ws. seen_version t v ∷ ws) (seen-moved from to vs)))
        ]

    seen-placed : (arrival : Slot → ℕ) (v : Version) (vs : List Version) → map (seen_version t) (in_its_place (λ s. arrival (slot_of t s)) v vs)
        ≡ in_its_place arrival (seen_version t v) (map (seen_version t) vs)
    seen-placed arrival v [] = refl
    seen-placed arrival v (w ∷ ws) = elim (cases_Bool (nat_lt (arrival (slot_of t v.slot)) (arrival (slot_of t w.slot)))) [
      | inl e ↦ rw e refl
      | inr f ↦ rw f (ap (λ xs. seen_version t w ∷ xs) (seen-placed arrival v ws))
    ]

    module _ (arrival : Slot → ℕ) (from to : Slot) where
      seen-handed : (vs : List Version) (o : Option Version) → map (seen_version t) (handed_on (λ s. arrival (slot_of t s)) (seat_of t to) vs o)
          ≡ handed_on arrival to (map (seen_version t) vs) (option_map (seen_version t) o)
      seen-handed vs None = refl
      seen-handed vs (Some v) =
          let same = seen-has to vs in
          elim (cases_Bool (has_version_at (seat_of t to) vs)) [
            | inl e ↦ (let also = same ∙ e in rw (e, also) refl)
            | inr f ↦
                let also = same ∙ f in
                rw (f, also) (seen-placed arrival (at_state (seat_of t to) v) vs
                ∙ ap (λ s. in_its_place arrival (at_state s v) (map (seen_version t) vs)) (paired.seats to))
          ]

      seen-promoted : (vs : List Version) → map (seen_version t) (promoted (λ s. arrival (slot_of t s)) (seat_of t from) (seat_of t to) vs)
          ≡ promoted arrival from to (map (seen_version t) vs)
      seen-promoted vs =
          seen-handed (without_version (seat_of t from) vs) (version_at (seat_of t from) vs)
          ∙ ap₂ (λ ws o. handed_on arrival to ws o) (seen-without from vs) (sym (seen-at from vs))

      seen-taken : (vs : List Version) → map (seen_version t) (taken_over (seat_of t from) (seat_of t to) vs) ≡ taken_over from to (map (seen_version t) vs)
      seen-taken vs =
          let same = seen-has from vs in
          elim (cases_Bool (has_version_at (seat_of t from) vs)) [
            | inl e ↦
                let also = same ∙ e in
                rw (e, also) (seen-moved from to (without_version (seat_of t to) vs) ∙ ap (map (moved_from from to)) (seen-without to vs))
            | inr f ↦ (let also = same ∙ f in rw (f, also) refl)
          ]

      pub seen-joined : (vs : List Version) → map (seen_version t) (joined (λ s. arrival (slot_of t s)) (seat_of t from) (seat_of t to) vs)
          ≡ joined arrival from to (map (seen_version t) vs)
      seen-joined vs =
          ap₂ (λ a b. map (seen_version t) (if nat_lt (arrival a) (arrival b) then taken_over (seat_of t from) (seat_of t to) vs
          else promoted (λ s. arrival (slot_of t s)) (seat_of t from) (seat_of t to) vs)) (paired.seats to) (paired.seats from)
          ∙ go (nat_lt (arrival to) (arrival from))
        where
          go : (b : Bool) → map (seen_version t) (if b then taken_over (seat_of t from) (seat_of t to) vs
              else promoted (λ s. arrival (slot_of t s)) (seat_of t from) (seat_of t to) vs)
              ≡ (if b then taken_over from to (map (seen_version t) vs) else promoted arrival from to (map (seen_version t) vs))
          go true = seen-taken vs
          go false = seen-promoted vs

-- two states by their seats
module _ (t : Seating) (paired : IsPaired t) (kept : Slot → Bool) (arrival : Slot → ℕ) (a b p q : Slot) (first : p ≡ seat_of t a) (second : q ≡ seat_of t b) where
  first-arrival : arrival (slot_of t p) ≡ arrival a
  first-arrival = ap (λ s. arrival (slot_of t s)) first ∙ ap arrival (paired.seats a)

  second-arrival : arrival (slot_of t q) ≡ arrival b
  second-arrival = ap (λ s. arrival (slot_of t s)) second ∙ ap arrival (paired.seats b)

  pub first-kept : IsTrue (kept a) → IsTrue (is_seated t kept p)
  first-kept here = subst (λ s. IsTrue (is_seated t kept s)) (sym first) (seated-at t paired kept a here)

  pub second-kept : IsTrue (kept b) → IsTrue (is_seated t kept q)
  second-kept here = subst (λ s. IsTrue (is_seated t kept s)) (sym second) (seated-at t paired kept b here)

  pub apart-by_seats : (arrival a ≡ arrival b → ⊥) → arrival (slot_of t p) ≡ arrival (slot_of t q) → ⊥
  apart-by_seats differ e = differ (sym first-arrival ∙ (e ∙ second-arrival))

  pub next-by_seats : IsNextIfNewer kept arrival a b → IsNextIfNewer (is_seated t kept) (λ s. arrival (slot_of t s)) p q
  next-by_seats next newer s here later =
      subst (λ n. n ≤ arrival (slot_of t s)) (sym first-arrival)
      (next (subst (λ n. n < arrival a) second-arrival (subst (λ n. arrival (slot_of t q) < n) first-arrival newer)) (slot_of t s)
      (sym (seated t paired kept s) ∙ here)
      (subst (λ n. n < arrival (slot_of t s)) second-arrival later))

  pub joined-by_seats : (vs : List Version) → map (seen_version t) (joined (λ s. arrival (slot_of t s)) p q vs) ≡ joined arrival a b (map (seen_version t) vs)
  joined-by_seats vs =
      ap₂ (λ x y. map (seen_version t) (joined (λ s. arrival (slot_of t s)) x y vs)) first second ∙ seen-joined t paired arrival a b vs

-- what has chunks of keys is noted
pub chunks-noted : (slot : Slot) (es : List (Slot × Chunks)) (n : ℕ) → n < length (chunks_for slot es) → is_noted_in slot es ≡ true
chunks-noted slot es n some = go (lookup (same_slot slot) es) some
  where
    go : (o : Option Chunks) → n < length (option_map_or (λ (cs : Chunks). cs) o []) → is_some o ≡ true
    go None few = absurd (omega (arith, few))
    go (Some cs) more = refl

-- ===== Other seats

module _ (t u : Seating) where
  -- where each seat has the same slot the same is seen
  pub seen-again : ((s : Slot) → slot_of u s ≡ slot_of t s) → (vs : List Version) → map (seen_version u) vs ≡ map (seen_version t) vs
  seen-again same [] = refl
  seen-again same (v ∷ vs) = ap₂ (λ s ws. at_state s v ∷ ws) (same v.slot) (seen-again same vs)

  -- where two slots exchanged their seats, their versions are exchanged
  pub seen-exchanged : (a b : Slot) → ((s : Slot) → slot_of u s ≡ other_of a b (slot_of t s)) → (vs : List Version) → map (seen_version u) vs
      ≡ map (exchanged a b) (map (seen_version t) vs)
  seen-exchanged a b other [] = refl
  seen-exchanged a b other (v ∷ vs) = ap₂ (λ s ws. at_state s v ∷ ws) (other v.slot) (seen-exchanged a b other vs)

  pub paired-again : IsPaired t → ((s : Slot) → seat_of u s ≡ seat_of t s) → ((s : Slot) → slot_of u s ≡ slot_of t s) → IsPaired u
  paired-again paired seats slots = record {
    seats = λ s. slots (seat_of u s) ∙ (ap (slot_of t) (seats s) ∙ paired.seats s);
    slots = λ s. seats (slot_of u s) ∙ (ap (seat_of t) (slots s) ∙ paired.slots s);
  }

-- of two the other of the other is itself
pub other-again : (a b s : Slot) → other_of a b (other_of a b s) ≡ s
other-again a b s = elim (cases_Bool (same_slot s a)) [
  | inl e ↦
      let is = same-from s a e in
      ap (other_of a b) (cond-true (same_slot s a) b (if same_slot s b then a else s) e)
      ∙ elim (cases_Bool (same_slot b a)) [
        | inl f ↦ cond-true (same_slot b a) b (if same_slot b b then a else b) f ∙ (same-from b a f ∙ sym is)
        | inr n ↦
            cond-false (same_slot b a) b (if same_slot b b then a else b) n
            ∙ (cond-true (same_slot b b) a b (eq-eqb b.0 b.0 refl) ∙ sym is)
      ]
  | inr n ↦ elim (cases_Bool (same_slot s b)) [
    | inl e ↦
        ap (other_of a b) (cond-false (same_slot s a) b (if same_slot s b then a else s) n ∙ cond-true (same_slot s b) a s e)
        ∙ (cond-true (same_slot a a) b (if same_slot a b then a else a) (eq-eqb a.0 a.0 refl) ∙ sym (same-from s b e))
    | inr f ↦
        let is : other_of a b s ≡ s = cond-false (same_slot s a) b (if same_slot s b then a else s) n ∙ cond-false (same_slot s b) a s f in
        ap (other_of a b) is ∙ is
  ]
]

pub paired-exchanged : (t u : Seating) (a b : Slot) → IsPaired t → ((s : Slot) → seat_of u s ≡ seat_of t (other_of a b s)) →
    ((s : Slot) → slot_of u s ≡ other_of a b (slot_of t s)) → IsPaired u
paired-exchanged t u a b paired seats slots = record {
  seats = λ s. slots (seat_of u s) ∙ (ap (λ q. other_of a b (slot_of t q)) (seats s) ∙ (ap (other_of a b) (paired.seats (other_of a b s)) ∙ other-again a b s));
  slots = λ s. seats (slot_of u s) ∙ (ap (λ q. seat_of t (other_of a b q)) (slots s) ∙ (ap (seat_of t) (other-again a b (slot_of t s)) ∙ paired.slots s));
}

-- each slot has the seat of its own number at first
pub paired-none : (t : Seating) → t ≡ no_seats → IsPaired t
paired-none t is = subst IsPaired (sym is) (record { seats = λ s. refl; slots = λ s. refl })

-- where both of two are noted, it is all one which of them is asked
pub noted-other : (noted : Slot → Bool) (a b : Slot) → noted a ≡ true → noted b ≡ true → (s : Slot) → noted (other_of a b s) ≡ noted s
noted-other noted a b one two s = elim (cases_Bool (same_slot s a)) [
  | inl e ↦ ap noted (cond-true (same_slot s a) b (if same_slot s b then a else s) e) ∙ (two ∙ sym (ap noted (same-from s a e) ∙ one))
  | inr n ↦ elim (cases_Bool (same_slot s b)) [
    | inl e ↦
        ap noted (cond-false (same_slot s a) b (if same_slot s b then a else s) n ∙ cond-true (same_slot s b) a s e)
        ∙ (one ∙ sym (ap noted (same-from s b e) ∙ two))
    | inr f ↦ ap noted (cond-false (same_slot s a) b (if same_slot s b then a else s) n ∙ cond-false (same_slot s b) a s f)
  ]
]

pub nothing-seen : (f : Version → Version) (vs : List Version) → map f vs ≡ [] → vs ≡ []
nothing-seen f [] e = refl
nothing-seen f (v ∷ vs) e = absurd (let bad : ⊥ = cc in bad)

-- ===== A list of versions that is seen

abbrev pub seen_list : Seating → Lists → Noted → ℕ → Versions
seen_list t ls n keys = record { lists = seen_lists t ls; notes = seen_notes t n; keys = keys }

module _ (now : Versions) (t : Seating) (ls : Lists) (n : Noted) (keys : ℕ) (view : seen_list t ls n keys ≡ now) where
  pub listed-is : listed_keys now ≡ keys_in ls
  listed-is = sym (ap listed_keys view) ∙ seen-keys t ls.lists

  pub versions-are : (k : List ℕ) → versions_of now k ≡ map (seen_version t) (versions_in ls k)
  versions-are k = sym (ap (λ (vs : Versions). versions_of vs k) view) ∙ seen-versions t ls k

  pub room-is : (k : List ℕ) → has_room now k ≡ has_room_in ls k
  room-is k = sym (ap (λ (vs : Versions). has_room vs k) view) ∙ seen-room t ls k

  pub rooms-are : (ws : List KeyWrite) → have_room_in now.lists ws ≡ have_room_in ls ws
  rooms-are ws = sym (ap (λ (vs : Versions). have_room_in vs.lists ws) view) ∙ seen-rooms t ls ws

  pub noted-is : IsPaired t → (slot : Slot) → is_noted now slot ≡ is_noted_in (seat_of t slot) n.by_slot
  noted-is paired slot = sym (ap (λ (vs : Versions). is_noted vs slot) view) ∙ seen-noted t paired slot n
