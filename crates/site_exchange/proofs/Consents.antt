-- The consents that a batch gives, floor by floor.
use Rattle.std.proofs.Common.{◌≡◌, ℕ, ◌+◌, ◌-◌, ◌<◌, ◌==◌, List, [], ◌∷◌, ◌++◌, length, drop, IsTrue, IsFalse, sym, ap, ◌∙◌, append_assoc}
use Rattle.std.proofs.Common.{arith}
use Rattle.std.specs.Prelude.{slice_get}
use Rattle.std.specs.Option.{unwrap_or}
use Rattle.std.proofs.lemmas.Bool.{cond-true, cond-false}
use Rattle.std.proofs.lemmas.List.{drop_more}
use Rattle.std.proofs.lemmas.Option.{unwrap_or-slice_get}
use Rattle.tardis_base.specs.declared.ids.StateId.{StateId}
use Rattle.tardis_base.specs.declared.records.Consent.{Consent}
use Rattle.plain_dag.specs.Floors.{Floor, opening_floor, floor_of}
use Rattle.plain_site.specs.Exchange.{consents_from}

-- the floor at a place, and those behind it
pub floor-next : (fs : List Floor) (i : ℕ) → i < length fs → drop i fs ≡ floor_of fs (i + 1) ∷ drop (i + 1) fs
floor-next fs i within =
    let back : i + 1 - 1 ≡ i = omega arith in
    drop_more fs i opening_floor within
    ∙ ap (λ f. f ∷ drop (i + 1) fs) (sym (ap (λ k. unwrap_or (slice_get fs k) opening_floor) back ∙ unwrap_or-slice_get fs i opening_floor))

module _ (all cs : List Consent) (n : ℕ) (f : Floor) (fs : List Floor) (so_far : all ≡ cs ++ consents_from n (f ∷ fs)) where
  abbrev told : Consent
  told = record { site = n; number = f.number; floor = f.state; count = f.stated }

  -- there was no consent of this site
  pub consent-passed : IsTrue (f.number == 0) → all ≡ cs ++ consents_from (n + 1) fs
  consent-passed t = so_far ∙ ap (λ z. cs ++ z) (cond-true (f.number == 0) (consents_from (n + 1) fs) (told ∷ consents_from (n + 1) fs) t)

  -- the consent is told
  pub consent-told : IsFalse (f.number == 0) → (c : Consent) → c ≡ told → all ≡ (cs ++ c ∷ []) ++ consents_from (n + 1) fs
  consent-told t c is =
      so_far
      ∙ (ap (λ z. cs ++ z) (cond-false (f.number == 0) (consents_from (n + 1) fs) (told ∷ consents_from (n + 1) fs) t)
      ∙ (sym (append_assoc cs (told ∷ []) (consents_from (n + 1) fs))
      ∙ ap (λ d. (cs ++ d ∷ []) ++ consents_from (n + 1) fs) (sym is)))

-- a consent that says of a floor what is known of it
pub consent-same : (n : ℕ) (f : Floor) (number : ℕ) (x : StateId) (count : ℕ) → number ≡ f.number → x ≡ f.state → count ≡ f.stated →
    ◌≡◌ {A = Consent} (record { site = n; number = number; floor = x; count = count })
    (record { site = n; number = f.number; floor = f.state; count = f.stated })
consent-same n f number x count a b d =
    let one : ℕ → StateId → ℕ → Consent = λ m y k. record { site = n; number = m; floor = y; count = k } in
    ap (λ m. one m x count) a ∙ (ap (λ y. one f.number y count) b ∙ ap (λ k. one f.number f.state k) d)
