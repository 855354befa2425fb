-- Lists added for the last of ascending writes, and so for all of them in turn.
use Rattle.std.proofs.Common.{◌≡◌, ◌<◌, ℕ, map, Bool, true, false, not, nat_lt, List, [], ◌∷◌, ◌++◌, Option, Some, None, length, refl, sym, ◌∙◌, ap, subst}
use Rattle.std.proofs.Common.{inl, inr, arith}
use Rattle.std.specs.List.{list_all}
use Rattle.std.specs.Map.{lookup}
use Rattle.std.specs.Option.{option_map_or}
use Rattle.std.specs.Str.{bytes_eq}
use Rattle.std.proofs.lemmas.Bool.{and_parts, and_from, or_parts, cases_Bool, both_ways, lt-ltb, ltb-true}
use Rattle.std.proofs.lemmas.Cmp.{nat_list_eq_equiv}
use Rattle.std.proofs.lemmas.List.{append-nil, map-append}
use Rattle.std.proofs.lemmas.Slice.Eq.{bytes_eq-Decides}
use Rattle.tardis_base.specs.declared.ids.Slot.{Slot}
use Rattle.tardis_base.specs.declared.ids.StateId.{StateId}
use Rattle.tardis_base.specs.declared.records.Write.{Write}
use Rattle.tardis_base.specs.Keys.{KeyWrite, are_ascending_keys, is_key_before, is_key_among, keys_of, write_of}
use Rattle.tardis_base.proofs.KeyOrder.{ascending-parts, bytes_eq-after}
use Rattle.tardis_base.proofs.KeySets.{before-last}
use Rattle.tardis_base.proofs.WriteSets.{write_of-there}
use Rattle.version_list.specs.declared.histories.Version.{Version}
use Rattle.version_list.specs.Lists.{Lists, Listed, keys_in, listed_in, versions_in, has_room_in, have_room_in, version_by, are_in_order, have_come_before}
use Rattle.version_list.proofs.Orders.{in_order-push}

pub nothing_left : {X : Type 0} (xs : List X) → length xs ≡ 0 → xs ≡ []
nothing_left [] e = refl
nothing_left (x ∷ xs) e = absurd (omega (arith, e))

-- the key is none of those written
abbrev pub differs : List ℕ → List KeyWrite → Bool
differs k ws = list_all (λ w. not (bytes_eq k w.0)) ws

keys_of-push : (ws : List KeyWrite) (w : KeyWrite) → keys_of (ws ++ w ∷ []) ≡ keys_of ws ++ w.0 ∷ []
keys_of-push ws w = map-append (λ (v : KeyWrite). v.0) ws (w ∷ [])

front : (ks : List (List ℕ)) (k : List ℕ) → are_ascending_keys (ks ++ k ∷ []) ≡ true → are_ascending_keys ks ≡ true
front [] k up = refl
front (j ∷ []) k up = refl
front (j ∷ i ∷ ks) k up =
    let parts = and_parts (is_key_before j i) (are_ascending_keys (i ∷ ks ++ k ∷ [])) up in
    and_from (is_key_before j i) (are_ascending_keys (i ∷ ks)) parts.0 (front (i ∷ ks) k parts.1)

-- without their last, ascending writes ascend
pub ascending-front : (ws : List KeyWrite) (w : KeyWrite) → are_ascending_keys (keys_of (ws ++ w ∷ [])) ≡ true → are_ascending_keys (keys_of ws) ≡ true
ascending-front ws w up = front (keys_of ws) w.0 (subst (λ ks. are_ascending_keys ks ≡ true) (keys_of-push ws w) up)

-- the last of ascending writes is to another key than the rest
pub last-differs : (ws : List KeyWrite) (w : KeyWrite) → are_ascending_keys (keys_of (ws ++ w ∷ [])) ≡ true → differs w.0 ws ≡ true
last-differs [] w up = refl
last-differs (v ∷ vs) w up =
    let ascending = subst (λ ks. are_ascending_keys (v.0 ∷ ks) ≡ true) (keys_of-push vs w) up in
    let other = bytes_eq-after w.0 v.0 (before-last v.0 (keys_of vs) w.0 ascending) in
    and_from (not (bytes_eq w.0 v.0)) (differs w.0 vs) (ap not other)
    (last-differs vs w (ascending-parts v.0 (keys_of (vs ++ w ∷ [])) up).1)

other-from_differs : (k l : List ℕ) → not (bytes_eq k l) ≡ true → bytes_eq k l ≡ false
other-from_differs k l e =
    elim (cases_Bool (bytes_eq k l)) [
      | inl t ↦ absurd (both_ways (not (bytes_eq k l)) (ap not t) e)
      | inr f ↦ f
    ]

write_of-none : (k : List ℕ) (ws : List KeyWrite) → differs k ws ≡ true → write_of k ws ≡ None
write_of-none k [] e = refl
write_of-none k (v ∷ vs) e =
    let parts = and_parts (not (bytes_eq k v.0)) (differs k vs) e in
    write_of-there k v vs (other-from_differs k v.0 parts.0) ∙ write_of-none k vs parts.1

write_of-last : (ws : List KeyWrite) (w : KeyWrite) → differs w.0 ws ≡ true → write_of w.0 (ws ++ w ∷ []) ≡ Some w.1
write_of-last [] w e = let here = (bytes_eq-Decides w.0 w.0).1 refl in rw here refl
write_of-last (v ∷ vs) w e =
    let parts = and_parts (not (bytes_eq w.0 v.0)) (differs w.0 vs) e in
    write_of-there w.0 v (vs ++ w ∷ []) (other-from_differs w.0 v.0 parts.0) ∙ write_of-last vs w parts.1

write_of-others : (k : List ℕ) (ws : List KeyWrite) (w : KeyWrite) → bytes_eq k w.0 ≡ false → write_of k (ws ++ w ∷ []) ≡ write_of k ws
write_of-others k [] w e = rw e refl
write_of-others k (v ∷ vs) w e =
    elim (cases_Bool (bytes_eq k v.0)) [
      | inl t ↦ rw t refl
      | inr f ↦ rw f (write_of-others k vs w e)
    ]

module _ (old new : Lists) (w : KeyWrite) (others : (k : List ℕ) → bytes_eq w.0 k ≡ false → listed_in new k ≡ listed_in old k) where
  -- what is still to be added, after the last of the writes was
  pub added-step : (slot : Slot) (writer : StateId) (ws : List KeyWrite) (k : List ℕ) (all : List Version)
      → differs w.0 ws ≡ true
      → versions_in new w.0 ≡ versions_in old w.0 ++ record { slot = slot; writer = writer; write = w.1 } ∷ []
      → versions_in old k ++ version_by slot writer (write_of k (ws ++ w ∷ [])) ≡ all
      → versions_in new k ++ version_by slot writer (write_of k ws) ≡ all
  added-step slot writer ws k all other added all_is =
      elim (cases_Bool (bytes_eq w.0 k)) [
        | inl t ↦ subst (λ j. versions_in old j ++ version_by slot writer (write_of j (ws ++ w ∷ [])) ≡ all → versions_in new j
            ++ version_by slot writer (write_of j ws) ≡ all)
            ((bytes_eq-Decides w.0 k).0 t)
            (λ here.
            ap (λ o. versions_in new w.0 ++ version_by slot writer o) (write_of-none w.0 ws other)
            ∙ append-nil (versions_in new w.0)
            ∙ added
            ∙ ap (λ o. versions_in old w.0 ++ version_by slot writer o) (sym (write_of-last ws w other))
            ∙ here)
            all_is
        | inr f ↦
            ap (λ o. option_map_or (λ (l : Listed). l.versions) o [] ++ version_by slot writer (write_of k ws)) (others k f)
            ∙ ap (λ o. versions_in old k ++ version_by slot writer o) (sym (write_of-others k ws w (nat_list_eq_equiv.symm k w.0 ∙ f)))
            ∙ all_is
      ]

  -- the room for the other writes stays
  pub room-step : (ws : List KeyWrite) → differs w.0 ws ≡ true → have_room_in old (ws ++ w ∷ []) ≡ true → have_room_in new ws ≡ true
  room-step [] other room = refl
  room-step (v ∷ vs) other room =
      let apart = and_parts (not (bytes_eq w.0 v.0)) (differs w.0 vs) other in
      let parts = and_parts (has_room_in old v.0) (have_room_in old (vs ++ w ∷ [])) room in
      let same = ap (λ o. option_map_or (λ (l : Listed). nat_lt 0 l.room) o false) (others v.0 (other-from_differs w.0 v.0 apart.0)) in
      and_from (has_room_in new v.0) (have_room_in new vs) (same ∙ parts.0) (room-step vs apart.1 parts.1)

-- versions in order stay so when a later state's is added, or none
pub in_order-version_by : (kept : Slot → Bool) (arrival : Slot → ℕ) (vs : List Version) (slot : Slot) (writer : StateId) (o : Option Write)
    → are_in_order kept arrival vs ≡ true → have_come_before arrival slot vs ≡ true → kept slot ≡ true →
    are_in_order kept arrival (vs ++ version_by slot writer o) ≡ true
in_order-version_by kept arrival vs slot writer None ordered before here = subst (λ xs. are_in_order kept arrival xs ≡ true) (sym (append-nil vs)) ordered
in_order-version_by kept arrival vs slot writer (Some w) ordered before here =
    in_order-push kept arrival vs (record { slot = slot; writer = writer; write = w }) ordered before here

-- versions before a state, and its own, are before each later state
pub before-added : (arrival : Slot → ℕ) (vs : List Version) (slot next : Slot) (writer : StateId) (o : Option Write)
    → have_come_before arrival slot vs ≡ true → arrival slot < arrival next → have_come_before arrival next (vs ++ version_by slot writer o) ≡ true
before-added arrival [] slot next writer None before later = refl
before-added arrival [] slot next writer (Some w) before later =
    and_from (nat_lt (arrival slot) (arrival next)) true (lt-ltb (arrival slot) (arrival next) later) refl
before-added arrival (v ∷ vs) slot next writer o before later =
    let parts = and_parts (nat_lt (arrival v.slot) (arrival slot)) (have_come_before arrival slot vs) before in
    let earlier : arrival v.slot < arrival slot = ltb-true (arrival v.slot) (arrival slot) parts.0 in
    and_from (nat_lt (arrival v.slot) (arrival next)) (have_come_before arrival next (vs ++ version_by slot writer o))
    (lt-ltb (arrival v.slot) (arrival next) (omega arith))
    (before-added arrival vs slot next writer o parts.1 later)

-- a key that isn't among those listed has no versions
pub listed-none : (vs : Lists) (k : List ℕ) → is_key_among k (keys_in vs) ≡ false → versions_in vs k ≡ []
listed-none vs k e = go vs.lists e
  where
    go : (ls : List (List ℕ × Listed)) → is_key_among k (map (λ l. l.0) ls) ≡ false →
        option_map_or (λ (l : Listed). l.versions) (lookup (bytes_eq k) ls) [] ≡ []
    go [] e = refl
    go (l ∷ ls) e =
        let parts = or_parts (bytes_eq k l.0) (is_key_among k (map (λ l. l.0) ls)) e in
        rw parts.0 (go ls parts.1)
