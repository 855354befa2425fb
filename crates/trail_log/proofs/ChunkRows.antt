-- Bytes in chunks.
use Rattle.std.proofs.Common.{◌≡◌, ℕ, ◌+◌, ◌-◌, ◌<◌, List, [], ◌∷◌, ◌++◌, length, get_or, set, take, drop, refl, sym, ap, ◌∙◌, subst, arith, append_assoc}
use Rattle.std.proofs.Common.{append-nil, add-one}
use Rattle.std.specs.List.{concat}
use Rattle.tardis_base.specs.Sizes.{longest_framed}
use Rattle.trail_log.specs.Frames.{room_behind}

-- a new chunk adds no bytes, and has all its room
pub concat_new : (chunks : List (List ℕ)) → concat (chunks ++ [] ∷ []) ≡ concat chunks
concat_new [] = refl
concat_new (c ∷ cs) = ap (λ t. c ++ t) (concat_new cs)

pub room_new : (chunks : List (List ℕ)) → room_behind (chunks ++ [] ∷ []) ≡ longest_framed
room_new [] = refl
room_new (c ∷ []) = refl
room_new (c ∷ d ∷ cs) = room_new (d ∷ cs)

pub some_chunk : (chunks : List (List ℕ)) → 0 < room_behind chunks → 0 < length chunks
some_chunk [] room = room
some_chunk (c ∷ cs) room = omega arith

-- the room is that of the last chunk
pub room_last : (chunks : List (List ℕ)) (k : ℕ) (x : List ℕ) → length chunks ≡ ℕ.suc k → x ≡ get_or chunks k x → room_behind chunks ≡ longest_framed - length x
room_last [] k x long is = absurd (omega arith)
room_last (c ∷ []) ℕ.zero x long is = ap (λ y. longest_framed - length y) (sym is)
room_last (c ∷ []) (ℕ.suc k) x long is = absurd (omega arith)
room_last (c ∷ b ∷ cs) ℕ.zero x long is = absurd (omega arith)
room_last (c ∷ b ∷ cs) (ℕ.suc k) x long is = room_last (b ∷ cs) k x (omega arith) is

-- more bytes in the last chunk are behind all others
pub concat_last : (chunks : List (List ℕ)) (k : ℕ) (x more : List ℕ) → length chunks ≡ ℕ.suc k → x ≡ get_or chunks k x → concat (set chunks k (x ++ more))
    ≡ concat chunks ++ more
concat_last [] k x more long is = absurd (omega arith)
concat_last (c ∷ []) ℕ.zero x more long is = append-nil (x ++ more) ∙ ap (λ t. t ++ more) (is ∙ sym (append-nil c))
concat_last (c ∷ []) (ℕ.suc k) x more long is = absurd (omega arith)
concat_last (c ∷ b ∷ cs) ℕ.zero x more long is = absurd (omega arith)
concat_last (c ∷ b ∷ cs) (ℕ.suc k) x more long is = ap (λ t. c ++ t) (concat_last (b ∷ cs) k x more (omega arith) is)
    ∙ sym (append_assoc c (concat (b ∷ cs)) more)

pub room_set : (chunks : List (List ℕ)) (k : ℕ) (x : List ℕ) → length chunks ≡ ℕ.suc k → room_behind (set chunks k x) ≡ longest_framed - length x
room_set [] k x long = absurd (omega arith)
room_set (c ∷ []) ℕ.zero x long = refl
room_set (c ∷ []) (ℕ.suc k) x long = absurd (omega arith)
room_set (c ∷ b ∷ cs) ℕ.zero x long = absurd (omega arith)
room_set (c ∷ b ∷ []) (ℕ.suc ℕ.zero) x long = refl
room_set (c ∷ b ∷ []) (ℕ.suc (ℕ.suc k)) x long = absurd (omega arith)
room_set (c ∷ b ∷ a ∷ cs) (ℕ.suc ℕ.zero) x long = absurd (omega arith)
room_set (c ∷ b ∷ a ∷ cs) (ℕ.suc (ℕ.suc k)) x long = room_set (b ∷ a ∷ cs) (ℕ.suc k) x (omega arith)

-- the chunks before one, that one, and those behind it
pub concat_at : (chunks : List (List ℕ)) (i : ℕ) (x : List ℕ) → i < length chunks → x ≡ get_or chunks i x → concat (take i chunks)
    ++ (x ++ concat (drop (ℕ.suc i) chunks)) ≡ concat chunks
concat_at [] i x within is = absurd (omega arith)
concat_at (c ∷ cs) ℕ.zero x within is = ap (λ t. t ++ concat cs) is
concat_at (c ∷ cs) (ℕ.suc i) x within is = append_assoc c (concat (take i cs)) (x ++ concat (drop (ℕ.suc i) cs))
    ∙ ap (λ t. c ++ t) (concat_at cs i x (omega arith) is)

pub concat_next : (chunks : List (List ℕ)) (i : ℕ) (x : List ℕ) → i < length chunks → x ≡ get_or chunks i x → concat (take (ℕ.suc i) chunks)
    ≡ concat (take i chunks) ++ x
concat_next [] i x within is = absurd (omega arith)
concat_next (c ∷ cs) ℕ.zero x within is = append-nil c ∙ sym is
concat_next (c ∷ cs) (ℕ.suc i) x within is = ap (λ t. c ++ t) (concat_next cs i x (omega arith) is) ∙ sym (append_assoc c (concat (take i cs)) x)

-- what was given with one chunk more
pub given_next : (before now after : List ℕ) (chunks : List (List ℕ)) (i : ℕ) (x : List ℕ) → i < length chunks → x ≡ get_or chunks i x
    → now ≡ before ++ concat (take i chunks) → after ≡ now ++ x → after ≡ before ++ concat (take (i + 1) chunks)
given_next before now after chunks i x within is was more =
    subst (λ k. after ≡ before ++ concat (take k chunks)) (sym (add-one i))
    (more ∙ (ap (λ t. t ++ x) was ∙ (append_assoc before (concat (take i chunks)) x ∙ ap (λ t. before ++ t) (sym (concat_next chunks i x within is)))))

-- what was given where a chunk was given in part
pub given_part : (before now after bytes : List ℕ) (chunks : List (List ℕ)) (i : ℕ) (x : List ℕ) → i < length chunks → x ≡ get_or chunks i x →
    concat chunks ≡ bytes
    → now ≡ before ++ concat (take i chunks) → (lost : List ℕ) × (after ++ lost ≡ now ++ x) → (lost : List ℕ) × (after ++ lost ≡ before ++ bytes)
given_part before now after bytes chunks i x within is all was (lost, part) =
    let rest = concat (drop (ℕ.suc i) chunks) in (
      lost ++ rest,
      sym (append_assoc after lost rest) ∙ (ap (λ t. t ++ rest) (part ∙ ap (λ t. t ++ x) was)
          ∙ (append_assoc (before ++ concat (take i chunks)) x rest ∙ (append_assoc before (concat (take i chunks)) (x ++ rest)
          ∙ ap (λ t. before ++ t) (concat_at chunks i x within is ∙ all)))),
    )
