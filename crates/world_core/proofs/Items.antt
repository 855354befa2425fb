-- The items of batches, by their numbers.
use Rattle.std.proofs.Common.{◌≡◌, ℕ, ◌+◌, ◌-◌, ◌≤◌, IsTrue, List, [], ◌∷◌, ◌++◌, length, map, slice_get, Some, None, refl, ap, sym, ◌∙◌, subst, arith}
use Rattle.std.proofs.Common.{length-append, nat_le, ◌&&◌}
use Rattle.std.proofs.lemmas.Bool.{and_parts}
use Rattle.std.proofs.lemmas.Option.{slice_get-map, slice_get_past}
use Rattle.std.specs.Prelude.{option_map}
use Rattle.std.specs.List.{list_all}
use Rattle.tardis_base.specs.Sizes.{most_sites}
use Rattle.tardis_base.specs.declared.records.Record.{Record}
use Rattle.tardis_base.specs.declared.records.Consent.{Consent}
use Rattle.tardis_base.specs.declared.records.Item.TheVariants.{State, Promise}
use Rattle.wire_item.specs.Valid.{are_consents, is_consent, are_ascending_numbers}
use Rattle.world_core.proofs.Lists.{get_behind}

length_map : {X Y : Type 0} (f : X → Y) (xs : List X) → length (map f xs) ≡ length xs
length_map f [] = refl
length_map f (x ∷ xs) = omega (arith, length_map f xs)

-- behind the records come the consents
pub promise_at : (rs : List Record) (cs : List Consent) (i : ℕ) (c : Consent) → length rs ≤ i → slice_get cs (i - length rs) ≡ Some c →
    slice_get (map State rs ++ map Promise cs) i ≡ Some (Promise c)
promise_at rs cs i c h e =
    get_behind (map State rs) (map Promise cs) i (subst (λ n. n ≤ i) (sym (length_map State rs)) h)
    ∙ ap (λ n. slice_get (map Promise cs) (i - n)) (length_map State rs)
    ∙ slice_get-map Promise cs (i - length rs)
    ∙ ap (option_map Promise) e

pub none_at : (rs : List Record) (cs : List Consent) (i : ℕ) → length rs + length cs ≤ i → slice_get (map State rs ++ map Promise cs) i ≡ None
none_at rs cs i h = slice_get_past (map State rs ++ map Promise cs) i
    (omega (arith, h, length-append (map State rs) (map Promise cs), length_map State rs, length_map Promise cs))

pub consents_of : (cs : List Consent) → IsTrue (are_consents cs) → IsTrue (list_all is_consent cs)
consents_of cs valid =
    (and_parts (nat_le (length cs) most_sites) (list_all is_consent cs)
    (and_parts (nat_le (length cs) most_sites && list_all is_consent cs) (are_ascending_numbers (map (λ c. c.site) cs)) valid).0).1
