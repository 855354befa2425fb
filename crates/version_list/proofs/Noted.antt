-- The keys that are noted for each state.
use Rattle.std.proofs.Common.{◌≡◌, ◌<◌, ℕ, Bool, true, false, ◌||◌, cond, nat_lt, List, [], ◌∷◌, ◌++◌, Option, Some, None, is_some, bytes_eq, refl, sym, ◌∙◌}
use Rattle.std.proofs.Common.{ap, subst, inl, inr, arith}
use Rattle.std.specs.List.{list_any}
use Rattle.std.specs.Map.{lookup}
use Rattle.std.specs.Option.{option_map_or}
use Rattle.std.proofs.lemmas.Bool.{and_parts, cases_Bool, ltb-true, eqb-true, eq-eqb}
use Rattle.tardis_base.specs.declared.ids.Slot.{Slot}
use Rattle.tardis_base.specs.declared.ids.StateId.{StateId}
use Rattle.tardis_base.specs.declared.records.Write.{Write}
use Rattle.tardis_base.specs.Keys.{KeyWrite, is_key_among, has_key, write_of}
use Rattle.tardis_base.proofs.WriteSets.{has_key-write_of}
use Rattle.version_list.specs.declared.histories.Version.{Version}
use Rattle.version_list.specs.Lists.{Lists, versions_in, version_by, have_come_before, AllBefore}
use Rattle.version_list.specs.Versions.{Chunks, same_slot, is_key_in, has_version_at, AreNoted}
use Rattle.version_list.specs.Notes.{chunks_of}
use Rattle.version_list.proofs.Chunks.{in-one}

pub any-push : {X : Type 0} (p : X → Bool) (xs ys : List X) → list_any p (xs ++ ys) ≡ (list_any p xs || list_any p ys)
any-push p [] ys = refl
any-push p (x ∷ xs) ys =
    elim (cases_Bool (p x)) [
      | inl t ↦ rw t refl
      | inr f ↦ rw f (any-push p xs ys)
    ]

pub or-false : (a : Bool) → (a || false) ≡ a
or-false true = refl
or-false false = refl

-- one more key is noted, and one fewer left
pub noted-step : (keys : List (List ℕ)) (ws : List KeyWrite) (w : KeyWrite) (k : List ℕ) → (is_key_among k (keys ++ w.0 ∷ []) || has_key k ws)
    ≡ (is_key_among k keys || has_key k (ws ++ w ∷ []))
noted-step keys ws w k =
    let before = any-push (bytes_eq k) keys (w.0 ∷ []) in
    let after = any-push (λ (v : KeyWrite). bytes_eq k v.0) ws (w ∷ []) in
    ap (λ b. b || has_key k ws) before ∙ go (is_key_among k keys) (bytes_eq k w.0) (has_key k ws) ∙ ap (λ b. is_key_among k keys || b) (sym after)
  where
    go : (a e b : Bool) → ((a || (e || false)) || b) ≡ (a || (b || (e || false)))
    go true e b = refl
    go false true true = refl
    go false true false = refl
    go false false true = refl
    go false false false = refl

pub slots-from_same : (a b : Slot) → same_slot a b ≡ true → a ≡ b
slots-from_same a b e = ap (λ n. let s : Slot = record { 0 = n } in s) (eqb-true a.0 b.0 e)

-- no version before a state is at it
none-at_new : (arrival : Slot → ℕ) (slot : Slot) (vs : List Version) → have_come_before arrival slot vs ≡ true → has_version_at slot vs ≡ false
none-at_new arrival slot [] before = refl
none-at_new arrival slot (v ∷ vs) before =
    let parts = and_parts (nat_lt (arrival v.slot) (arrival slot)) (have_come_before arrival slot vs) before in
    let earlier : arrival v.slot < arrival slot = ltb-true (arrival v.slot) (arrival slot) parts.0 in
    elim (cases_Bool (same_slot v.slot slot)) [
      | inl t ↦ let same = ap arrival (slots-from_same v.slot slot t) in absurd (omega (arith, same))
      | inr f ↦ rw f (none-at_new arrival slot vs parts.1)
    ]

at-own : (slot : Slot) (writer : StateId) (o : Option Write) → has_version_at slot (version_by slot writer o) ≡ is_some o
at-own slot writer None = refl
at-own slot writer (Some w) = let here = eq-eqb slot.0 slot.0 refl in rw here refl

at-other : (slot q : Slot) (writer : StateId) (o : Option Write) → same_slot slot q ≡ false → has_version_at q (version_by slot writer o) ≡ false
at-other slot q writer None e = refl
at-other slot q writer (Some w) e = rw e refl

pub noted-same : (old new : Lists) (es : List (Slot × Chunks)) → ((k : List ℕ) → versions_in new k ≡ versions_in old k) → AreNoted old es → AreNoted new es
noted-same old new es same noted = λ slot k. noted slot k ∙ ap (λ vs. has_version_at slot vs) (sym (same k))

module _ (arrival : Slot → ℕ) (old new : Lists) (es fs : List (Slot × Chunks)) (slot : Slot) (writer : StateId) (ws : List KeyWrite)
    (keys : List (List ℕ)) where
  -- the keys that a new state wrote are noted for it
  pub noted-added : AreNoted old es
      → ((k : List ℕ) → versions_in new k ≡ versions_in old k ++ version_by slot writer (write_of k ws))
      → ((k : List ℕ) → is_key_among k keys ≡ has_key k ws)
      → AllBefore arrival slot old
      → ((q : Slot) → lookup (same_slot q) fs ≡ cond (same_slot slot q) (Some (chunks_of keys)) (lookup (same_slot q) es))
      → AreNoted new fs
  noted-added noted added written before inserted = λ q k.
      let all = any-push (λ (v : Version). same_slot v.slot q) (versions_in old k) (version_by slot writer (write_of k ws)) in
      let now = ap (λ vs. has_version_at q vs) (added k) ∙ all in
      elim (cases_Bool (same_slot slot q)) [
        | inl t ↦
            let fresh = ap (λ o. option_map_or (λ (cs : Chunks). cs) o []) (inserted q ∙ ap (λ b. cond b (Some (chunks_of keys)) (lookup (same_slot q) es)) t) in
            let none = subst (λ s. has_version_at s (versions_in old k) ≡ false) (slots-from_same slot q t)
            (none-at_new arrival slot (versions_in old k) (before k)) in
            let own = subst (λ s. has_version_at s (version_by slot writer (write_of k ws)) ≡ is_some (write_of k ws)) (slots-from_same slot q t)
            (at-own slot writer (write_of k ws)) in
            ap (is_key_in k) fresh ∙ in-one k keys ∙ written k ∙ has_key-write_of k ws ∙ sym own
            ∙ ap (λ b. b || has_version_at q (version_by slot writer (write_of k ws))) (sym none) ∙ sym now
        | inr f ↦
            let stays = ap (λ o. option_map_or (λ (cs : Chunks). cs) o []) (inserted q ∙ ap (λ b. cond b (Some (chunks_of keys)) (lookup (same_slot q) es)) f) in
            let none = at-other slot q writer (write_of k ws) f in
            ap (is_key_in k) stays ∙ noted q k ∙ sym (or-false (has_version_at q (versions_in old k)))
            ∙ ap (λ b. has_version_at q (versions_in old k) || b) (sym none) ∙ sym now
      ]
