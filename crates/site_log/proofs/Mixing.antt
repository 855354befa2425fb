-- From a bytewise write to what is mixed of old and new bytes.
use Rattle.std.proofs.Common.{◌≡◌, ◌⊎◌, inl, inr, ⊎_elim, ℕ, ◌+◌, ◌-◌, ◌<◌, ◌≤◌, List, [], ◌∷◌, ◌++◌, length, take, drop, get_or, replicate, refl, sym, ap, ◌∙◌, arith}
use Rattle.std.proofs.Common.{length-append, length-drop, take-append-drop, get_or-drop, get_or-append-add, get_or-take, ext_get_or, length-take-le, append_assoc, append-nil}
use Rattle.std.proofs.lemmas.List.{length-replicate, get_or-replicate, get_or_append_left, take_at, drop_all, take_all}
use Rattle.disk_store.specs.Disks.{with_bytes, Bytewise}
use Rattle.log_text.specs.Texts.{IsZeros, Mixed}

-- of each byte the old one or the new one
pub mixed_at : (old new image : List ℕ) → length old ≡ length image → length new ≡ length image
    → ((n : ℕ) → n < length image → (get_or image n 0 ≡ get_or old n 0) ⊎ (get_or image n 0 ≡ get_or new n 0)) → Mixed old new image
mixed_at [] [] [] o w each = tt
mixed_at (a ∷ old) (b ∷ new) (c ∷ image) o w each =
    (each 0 (omega arith), mixed_at old new image (omega (arith, o)) (omega (arith, w)) (λ n less. each (ℕ.suc n) (omega (arith, less))))
mixed_at [] [] (c ∷ image) o w each = absurd (omega (arith, o))
mixed_at [] (b ∷ new) [] o w each = absurd (omega (arith, w))
mixed_at [] (b ∷ new) (c ∷ image) o w each = absurd (omega (arith, o))
mixed_at (a ∷ old) [] [] o w each = absurd (omega (arith, o))
mixed_at (a ∷ old) [] (c ∷ image) o w each = absurd (omega (arith, w))
mixed_at (a ∷ old) (b ∷ new) [] o w each = absurd (omega (arith, o))

pub zeros_at : (bytes : List ℕ) → ((n : ℕ) → n < length bytes → get_or bytes n 0 ≡ 0) → IsZeros bytes
zeros_at [] each = tt
zeros_at (a ∷ bytes) each = (each 0 (omega arith), zeros_at bytes (λ n less. each (ℕ.suc n) (omega (arith, less))))

pub zero_of : (bytes : List ℕ) → IsZeros bytes → (n : ℕ) → get_or bytes n 0 ≡ 0
zero_of [] z n = refl
zero_of (a ∷ bytes) z ℕ.zero = z.0
zero_of (a ∷ bytes) z (ℕ.suc n) = zero_of bytes z.1 n

-- so many zeros
pub zeros_of : (n : ℕ) → IsZeros (replicate n 0)
zeros_of n = zeros_at (replicate n 0) (λ i less. get_or-replicate n i 0 0 (omega (arith, less, length-replicate {A = ℕ} n 0)))

pub zeros_more : (xs ys : List ℕ) → IsZeros xs → IsZeros ys → IsZeros (xs ++ ys)
zeros_more [] ys p q = q
zeros_more (x ∷ xs) ys p q = (p.0, zeros_more xs ys p.1 q)

pub zeros_behind : (n : ℕ) (bytes : List ℕ) → IsZeros bytes → IsZeros (drop n bytes)
zeros_behind ℕ.zero bytes p = p
zeros_behind (ℕ.suc n) [] p = p
zeros_behind (ℕ.suc n) (b ∷ bytes) p = zeros_behind n bytes p.1

module _ (T zs bytes image : List ℕ) (place : ℕ) (w : Bytewise place bytes (T ++ zs) image) (behind : length T ≤ place) where
  abbrev rest : List ℕ
  rest = drop (length T) image

  long : length T ≤ length image
  long = omega (arith, w.no_shorter, length-append T zs)

  same_front : (n : ℕ) → n < length T → get_or image n 0 ≡ get_or T n 0
  same_front n less =
      ⊎_elim (λ old. old ∙ get_or_append_left T zs 0 n less) (λ new. absurd (omega (arith, new.0, less, behind)))
      (w.each n (omega (arith, less, long)))

  front : take (length T) image ≡ T
  front =
      ext_get_or 0 (take (length T) image) T (length-take-le (length T) image long)
      (λ i less. let small : i < length T = omega (arith, less, length-take-le (length T) image long) in
      get_or-take (length T) image i 0 small ∙ same_front i small)

  pub whole : image ≡ T ++ drop (length T) image
  whole = sym (take-append-drop (length T) image) ∙ ap (λ z. z ++ rest) front

  -- zeros over zeros, or behind them, leave zeros
  pub only_zeros : IsZeros zs → IsZeros bytes → IsZeros (drop (length T) image)
  only_zeros old new =
      zeros_at rest
      (λ n less. get_or-drop (length T) image n 0
      ∙ ⊎_elim (λ was. was ∙ (get_or-append-add T zs n 0 ∙ zero_of zs old n)) (λ is. is.2 ∙ zero_of bytes new (length T + n - place))
      (w.each (length T + n) (omega (arith, less, length-drop (length T) image))))

  -- a write that begins behind T, in the room that is there, leaves what is mixed
  pub is_mixed : place ≡ length T → length bytes ≤ length zs → Mixed zs (bytes ++ drop (length bytes) zs) (drop (length T) image)
  is_mixed at room =
      let many : length rest ≡ length zs = omega (arith, length-drop (length T) image, w.no_shorter, w.no_longer, length-append T zs, at, room) in
      let all : length (bytes ++ drop (length bytes) zs) ≡ length zs =
      omega (arith, length-append bytes (drop (length bytes) zs), length-drop (length bytes) zs, room) in
      mixed_at zs (bytes ++ drop (length bytes) zs) rest (sym many) (all ∙ sym many)
      (λ n less. let at_n = get_or-drop (length T) image n 0 in
      ⊎_elim (λ was. inl (at_n ∙ (was ∙ get_or-append-add T zs n 0)))
      (λ is. let small : n < length bytes = omega (arith, is.1, at) in
      let same : length T + n - place ≡ n = omega (arith, at) in
      inr (at_n ∙ (is.2 ∙ (ap (λ k. get_or bytes k 0) same ∙ sym (get_or_append_left bytes (drop (length bytes) zs) 0 n small)))))
      (w.each (length T + n) (omega (arith, less, length-drop (length T) image))))

drop_past : (T zs : List ℕ) (n : ℕ) → drop (length T + n) (T ++ zs) ≡ drop n zs
drop_past [] zs n = let same : 0 + n ≡ n = omega arith in ap (λ k. drop k zs) same
drop_past (t ∷ T) zs n =
    let same : length (t ∷ T) + n ≡ ℕ.suc (length T + n) = omega arith in
    ap (λ k. drop k (t ∷ (T ++ zs))) same ∙ drop_past T zs n

-- what a write within the zeros gives
pub written_within : (T zs bytes : List ℕ) (place : ℕ) → place ≡ length T → with_bytes (T ++ zs) place bytes ≡ T ++ (bytes ++ drop (length bytes) zs)
written_within T zs bytes place at =
    ap (λ z. (z ++ bytes) ++ drop (place + length bytes) (T ++ zs)) (take_at T zs place (sym at))
    ∙ (append_assoc T bytes (drop (place + length bytes) (T ++ zs))
    ∙ ap (λ z. T ++ (bytes ++ z)) (ap (λ k. drop (k + length bytes) (T ++ zs)) at ∙ drop_past T zs (length bytes)))

-- what a write at the end gives
pub written_at_end : (T zs bytes : List ℕ) (place : ℕ) → place ≡ length (T ++ zs) → with_bytes (T ++ zs) place bytes ≡ T ++ (zs ++ bytes)
written_at_end T zs bytes place at =
    ap (λ z. (z ++ bytes) ++ drop (place + length bytes) (T ++ zs)) (take_all place (T ++ zs) (omega (arith, at)))
    ∙ (ap (λ z. ((T ++ zs) ++ bytes) ++ z) (drop_all (place + length bytes) (T ++ zs) (omega (arith, at)))
    ∙ (append-nil ((T ++ zs) ++ bytes) ∙ append_assoc T zs bytes))
