-- The orders of ids, of writes and of consents, and the tests of their lists.
use Rattle.std.proofs.Common.{◌≡◌, ℕ, Bool, true, false, ◌&&◌, IsTrue, List, length, map, nat_le, nat_lt, Some, ap, ◌∙◌, refl}
use Rattle.std.specs.List.{list_all}
use Rattle.tardis_base.specs.declared.ids.StateId.{StateId}
use Rattle.tardis_base.specs.declared.records.Consent.{Consent}
use Rattle.tardis_base.specs.Ids.{is_before, are_ascending}
use Rattle.tardis_base.specs.Keys.{KeyWrite, keys_of, is_key_before, are_ascending_keys}
use Rattle.tardis_base.specs.Valid.{is_within, is_id, is_key, is_write, are_parents, are_writes}
use Rattle.wire_item.specs.Valid.{is_consent, are_ascending_numbers, are_consents}
use Rattle.wire_item.specs.Fronts.{both, times}
use Rattle.wire_item.specs.Readings.{id_front, key_front, write_front, consent_front}
use Rattle.wire_item.proofs.Ways.{many-times, reads-both}
use Rattle.wire_item.proofs.Things.{reads-id, reads-key, reads-write, reads-consent}
use Rattle.wire_item.proofs.Progress.{IsOrder}

pub ids-order : IsOrder (λ (x : StateId). x) is_before are_ascending
ids-order = record { none = refl; one = λ x. refl; two = λ x y ys. refl }

pub writes-order : IsOrder {A = KeyWrite} (λ w. w.0) is_key_before (λ ws. are_ascending_keys (keys_of ws))
writes-order = record { none = refl; one = λ x. refl; two = λ x y ys. refl }

pub consents-order : IsOrder {A = Consent} (λ c. c.site) nat_lt (λ cs. are_ascending_numbers (map (λ c. c.site) cs))
consents-order = record { none = refl; one = λ x. refl; two = λ x y ys. refl }

middle : (a b c : Bool) → IsTrue b → (a && b && c) ≡ (a && c)
middle true b c h = ap (λ t. t && c) h
middle false b c h = refl

pub parents-tested : (n : ℕ) (mid : List ℕ) (xs : List StateId) (rest : List ℕ) → times id_front n mid ≡ Some (xs, rest) → are_parents xs
    ≡ (is_within 1 8 n && are_ascending xs)
parents-tested n mid xs rest e =
    let h = (many-times reads-id).only n mid xs rest e in
    middle (is_within 1 8 (length xs)) (list_all is_id xs) (are_ascending xs) h.1 ∙ ap (λ k. is_within 1 8 k && are_ascending xs) h.0

pub writes-tested : (n : ℕ) (mid : List ℕ) (ws : List KeyWrite) (rest : List ℕ) → times (both key_front write_front) n mid ≡ Some (ws, rest)
    → are_writes ws ≡ (nat_le n 64 && are_ascending_keys (keys_of ws))
writes-tested n mid ws rest e =
    let h = (many-times (reads-both reads-key reads-write)).only n mid ws rest e in
    middle (nat_le (length ws) 64) (list_all (λ w. is_key w.0 && is_write w.1) ws) (are_ascending_keys (keys_of ws)) h.1
    ∙ ap (λ k. nat_le k 64 && are_ascending_keys (keys_of ws)) h.0

pub consents-tested : (n : ℕ) (mid : List ℕ) (cs : List Consent) (rest : List ℕ) → times consent_front n mid ≡ Some (cs, rest)
    → are_consents cs ≡ (nat_le n 16 && are_ascending_numbers (map (λ c. c.site) cs))
consents-tested n mid cs rest e =
    let h = (many-times reads-consent).only n mid cs rest e in
    middle (nat_le (length cs) 16) (list_all is_consent cs) (are_ascending_numbers (map (λ c. c.site) cs)) h.1
    ∙ ap (λ k. nat_le k 16 && are_ascending_numbers (map (λ c. c.site) cs)) h.0
