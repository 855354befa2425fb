-- All bytes have one cut.
use Rattle.std.proofs.Common.{◌≡◌, ℕ, ◌+◌, ◌<◌, ◌≤◌, List, [], ◌∷◌, ◌++◌, length, take, drop, get_or, refl, sym, ap, ◌∙◌, subst, inl, inr, arith, append_assoc}
use Rattle.std.specs.List.{AllByRecursion}
use Rattle.std.proofs.lemmas.Bool.{cases_lt}
use Rattle.std.proofs.lemmas.List.{length-append, length-take-le}
use Rattle.frame_cut.specs.Frames.{frame, frames, word, IsBody, IsEnd, IsCut}
use Rattle.frame_cut.proofs.Words.{length-frame, word-frame, same_frame, whole_frame, small_rest, length_behind}

-- where a frame stands, bytes don't end
pub not_end : (body rest : List ℕ) → IsBody body → IsEnd (frame body ++ rest) → ⊥
not_end body rest fits ends =
    let says : word (frame body ++ rest) ≡ length body = word-frame body rest fits in
    let long : length (frame body ++ rest) ≡ 4 + length body + length rest = length-append (frame body) rest ∙ ap (λ n. n + length rest) (length-frame body) in
    elim ends [
      | inl partial ↦ elim partial [
        | inl few ↦ absurd (omega arith)
        | inr less ↦ absurd (omega (arith, less.1))
      ]
      | inr above ↦ absurd (omega (arith, above.1.1, above.1.2, fits))
    ]

-- two cuts of the same bytes are one
pub one : (bytes : List ℕ) (bodies others : List (List ℕ)) (rest left : List ℕ) → bytes ≡ frames bodies ++ rest → AllByRecursion IsBody bodies → IsEnd rest
    → bytes ≡ frames others ++ left → AllByRecursion IsBody others → IsEnd left → (bodies ≡ others) × (rest ≡ left)
one bytes [] [] rest left p a e q b f = (refl, sym p ∙ q)
one bytes [] (other ∷ others) rest left p a e q b f =
    absurd (not_end other (frames others ++ left) b.0 (subst IsEnd (sym p ∙ (q ∙ append_assoc (frame other) (frames others) left)) e))
one bytes (body ∷ bodies) [] rest left p a e q b f =
    absurd (not_end body (frames bodies ++ rest) a.0 (subst IsEnd (sym q ∙ (p ∙ append_assoc (frame body) (frames bodies) rest)) f))
one bytes (body ∷ bodies) (other ∷ others) rest left p a e q b f =
    let same : frame body ++ (frames bodies ++ rest) ≡ frame other ++ (frames others ++ left) = sym (append_assoc (frame body) (frames bodies) rest)
    ∙ (sym p ∙ (q ∙ append_assoc (frame other) (frames others) left)) in
    let first = same_frame body other (frames bodies ++ rest) (frames others ++ left) a.0 b.0 same in
    let more = one (frames bodies ++ rest) bodies others rest left refl a.1 e first.1 b.1 f in
    (λ i. first.0 i ∷ more.0 i, more.1)

-- a frame in front of a cut
front_cut : (bytes body rest : List ℕ) → bytes ≡ frame body ++ rest → IsBody body → (bodies : List (List ℕ)) (left : List ℕ) → IsCut rest bodies left →
    IsCut bytes (body ∷ bodies) left
front_cut bytes body rest is fits bodies left c = record {
  cuts = record {
    whole = is ∙ (ap (λ z. frame body ++ z) c.cuts.whole ∙ sym (append_assoc (frame body) (frames bodies) left));
    each = (fits, c.cuts.each);
  };
  ends = c.ends;
}

-- what is left of the bytes is less than before
pub cut_within : (fuel : ℕ) (bytes : List ℕ) → length bytes ≤ fuel → ((place : ℕ) → get_or bytes place 0 < 256) → (bodies : List (List ℕ))
    × ((rest : List ℕ) × IsCut bytes bodies rest)
cut_within ℕ.zero bytes within small = ([], (bytes, record { cuts = record { whole = refl; each = tt }; ends = inl (inl (omega arith)) }))
cut_within (ℕ.suc fuel) bytes within small =
    elim (cases_lt (length bytes) 4) [
      | inl few ↦ ([], (bytes, record { cuts = record { whole = refl; each = tt }; ends = inl (inl few) }))
      | inr four ↦ elim (cases_lt 1048576 (word bytes)) [
        | inl above ↦ ([], (bytes, record { cuts = record { whole = refl; each = tt }; ends = inr (word bytes, (four, refl, above)) }))
        | inr fits ↦ elim (cases_lt (length bytes) (4 + word bytes)) [
          | inl less ↦ ([], (bytes, record { cuts = record { whole = refl; each = tt }; ends = inl (inr (fits, less)) }))
          | inr enough ↦
              let n : ℕ = word bytes in
              let is = whole_frame bytes n small refl enough in
              let behind = length_behind bytes 4 four in
              let count : length (take n (drop 4 bytes)) ≡ n = length-take-le n (drop 4 bytes) (omega (arith, behind, enough)) in
              let fits' : IsBody (take n (drop 4 bytes)) = omega (arith, count, fits) in
              let later = length_behind bytes (4 + n) enough in
              let more = cut_within fuel (drop (4 + n) bytes) (omega (arith, later, within)) (small_rest bytes (4 + n) small) in
              (take n (drop 4 bytes) ∷ more.0, (more.1.0, front_cut bytes (take n (drop 4 bytes)) (drop (4 + n) bytes) is fits' more.0 more.1.0 more.1.1))
        ]
      ]
    ]

-- bodies that were cut from the front of the bytes are a front of those of their cut
pub front_of : (bytes : List ℕ) (bodies all : List (List ℕ)) (tail rest : List ℕ) → bytes ≡ frames bodies ++ tail → AllByRecursion IsBody bodies →
    bytes ≡ frames all ++ rest → AllByRecursion IsBody all → IsEnd rest → (more : List (List ℕ)) × (all ≡ bodies ++ more)
front_of bytes [] all tail rest p a q b e = (all, refl)
front_of bytes (body ∷ bodies) [] tail rest p a q b e =
    absurd (not_end body (frames bodies ++ tail) a.0 (subst IsEnd (sym q ∙ (p ∙ append_assoc (frame body) (frames bodies) tail)) e))
front_of bytes (body ∷ bodies) (other ∷ all) tail rest p a q b e =
    let same : frame body ++ (frames bodies ++ tail) ≡ frame other ++ (frames all ++ rest) = sym (append_assoc (frame body) (frames bodies) tail)
    ∙ (sym p ∙ (q ∙ append_assoc (frame other) (frames all) rest)) in
    let first = same_frame body other (frames bodies ++ tail) (frames all ++ rest) a.0 b.0 same in
    let more = front_of (frames bodies ++ tail) bodies all tail rest refl a.1 first.1 b.1 e in
    (more.0, λ i. sym first.0 i ∷ more.1 i)
