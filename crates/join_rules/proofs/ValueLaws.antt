-- The values of keys, key by key.
use Rattle.std.proofs.Common.{◌≡◌, ℕ, suc, ◌+◌, ◌<◌, ◌≤◌, true, List, [], ◌∷◌, ◌++◌, length, drop, get_or, Option, Some, None, is_none, ap, sym, ◌∙◌, subst}
use Rattle.std.proofs.Common.{refl, arith, append_assoc}
use Rattle.std.proofs.Math.Seq.{drop-cons}
use Rattle.std.proofs.lemmas.Bool.{and_parts, and_from}
use Rattle.std.proofs.lemmas.List.{append-nil}
use Rattle.std.specs.List.{cons_option}
use Rattle.std.specs.Option.{option_map}
use Rattle.std.specs.Prelude.{if◌then◌else◌}
use Rattle.tardis_base.specs.declared.records.Write.{Write}
use Rattle.tardis_base.specs.Keys.{KeyWrite, is_key_before, are_ascending_keys, keys_of, with_write}
use Rattle.tardis_base.proofs.WriteSets.{with_write-last}
use Rattle.join_rules.specs.Valued.{unmerged, values}

-- a front of ascending keys ascends
ascending-front : (xs ys : List (List ℕ)) → are_ascending_keys (xs ++ ys) ≡ true → are_ascending_keys xs ≡ true
ascending-front [] ys h = refl
ascending-front (x ∷ []) ys h = refl
ascending-front (x ∷ z ∷ zs) ys h =
    let p = and_parts (is_key_before x z) (are_ascending_keys (z ∷ (zs ++ ys))) h in
    and_from (is_key_before x z) (are_ascending_keys (z ∷ zs)) p.0 (ascending-front (z ∷ zs) ys p.1)

keys_of-append : (ws vs : List KeyWrite) → keys_of (ws ++ vs) ≡ keys_of ws ++ keys_of vs
keys_of-append [] vs = refl
keys_of-append (w ∷ ws) vs = ap (λ ks. w.0 ∷ ks) (keys_of-append ws vs)

drop-over : (i : ℕ) (xs : List (List ℕ)) → length xs ≤ i → drop i xs ≡ []
drop-over ℕ.zero [] h = refl
drop-over (suc i) [] h = refl
drop-over ℕ.zero (x ∷ xs) h = absurd (omega (arith, h))
drop-over (suc i) (x ∷ xs) h = drop-over i xs (omega (arith, h))

-- the first of the keys have these values, and what is left decides
pub record SoFar (value : List ℕ → Option Write) (keys : List (List ℕ)) (i : ℕ) (ws : List KeyWrite) : Type 0 where
  pub none : unmerged value keys ≡ unmerged value (drop i keys)
  pub valued : values value keys ≡ ws ++ values value (drop i keys)
  pub written : keys ≡ keys_of ws ++ drop i keys

module _ (value : List ℕ → Option Write) (keys : List (List ℕ)) where
  pub so-far-first : SoFar value keys 0 []
  so-far-first = record { none = refl; valued = refl; written = refl }

  pub so-far-ends : (i : ℕ) (ws : List KeyWrite) → SoFar value keys i ws → length keys ≤ i → (unmerged value keys ≡ None) × (ws ≡ values value keys)
  so-far-ends i ws so over =
      let over_all = drop-over i keys over in (
        so.none ∙ ap (unmerged value) over_all,
        sym (so.valued ∙ ap (λ ks. ws ++ values value ks) over_all ∙ append-nil ws),
      )

  module _ (i : ℕ) (k : List ℕ) (inside : i < length keys) (is : k ≡ get_or keys i k) where
    left : drop i keys ≡ k ∷ drop (i + 1) keys
    left =
        let next : suc i ≡ i + 1 = omega arith in
        drop-cons keys i k inside ∙ ap (λ z. z ∷ drop (suc i) keys) (sym is) ∙ ap (λ j. k ∷ drop j keys) next

    pub so-far-fails : (ws : List KeyWrite) → SoFar value keys i ws → value k ≡ None → unmerged value keys ≡ Some k
    so-far-fails ws so none =
        so.none ∙ ap (unmerged value) left ∙ ap (λ (o : Option Write). if is_none o then Some k else unmerged value (drop (i + 1) keys)) none

    pub so-far-next : (ws new : List KeyWrite) (w : Write) → SoFar value keys i ws → value k ≡ Some w → are_ascending_keys keys ≡ true →
        new ≡ with_write k w ws → SoFar value keys (i + 1) new
    so-far-next ws new w so some ascend put =
        let rest = drop (i + 1) keys in
        let all : keys ≡ keys_of (ws ++ (k, w) ∷ []) ++ rest =
        so.written ∙ ap (λ ks. keys_of ws ++ ks) left ∙ sym (append_assoc (keys_of ws) (k ∷ []) rest)
        ∙ ap (λ ks. ks ++ rest) (sym (keys_of-append ws ((k, w) ∷ []))) in
        let last : new ≡ ws ++ (k, w) ∷ [] =
        put ∙ with_write-last ws k w (ascending-front (keys_of (ws ++ (k, w) ∷ [])) rest (ap are_ascending_keys (sym all) ∙ ascend)) in
        subst (λ vs. SoFar value keys (i + 1) vs) (sym last)
        (record {
          none = so.none ∙ ap (unmerged value) left ∙ ap (λ (o : Option Write). if is_none o then Some k else unmerged value rest) some;
          valued =
              so.valued ∙ ap (λ ks. ws ++ values value ks) left
              ∙ ap (λ (o : Option Write). ws ++ cons_option (option_map (λ v. (k, v)) o) (values value rest)) some
              ∙ sym (append_assoc ws ((k, w) ∷ []) (values value rest));
          written = all;
        })
