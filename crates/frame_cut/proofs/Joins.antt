-- Cuts that are joined.
use Rattle.std.proofs.Common.{◌≡◌, ℕ, List, [], ◌∷◌, ◌++◌, refl, sym, ap, ◌∙◌, append_assoc}
use Rattle.std.specs.List.{AllByRecursion}
use Rattle.frame_cut.specs.Frames.{frame, frames, IsBody, Cuts}

-- the frames of two lists of bodies
pub frames-append : (bodies others : List (List ℕ)) → frames (bodies ++ others) ≡ frames bodies ++ frames others
frames-append [] others = refl
frames-append (body ∷ bodies) others =
    ap (λ z. frame body ++ z) (frames-append bodies others) ∙ sym (append_assoc (frame body) (frames bodies) (frames others))

pub all_bodies : (bodies others : List (List ℕ)) → AllByRecursion IsBody bodies → AllByRecursion IsBody others → AllByRecursion IsBody (bodies ++ others)
all_bodies [] others p q = q
all_bodies (body ∷ bodies) others p q = (p.0, all_bodies bodies others p.1 q)

-- more bytes come behind the rest
pub more_bytes : (bytes more : List ℕ) (bodies : List (List ℕ)) (rest : List ℕ) → Cuts bytes bodies rest → Cuts (bytes ++ more) bodies (rest ++ more)
more_bytes bytes more bodies rest c = record {
  whole = ap (λ z. z ++ more) c.whole ∙ append_assoc (frames bodies) rest more;
  each = c.each;
}

-- more bodies are cut from the rest
pub more_bodies : (bytes : List ℕ) (bodies others : List (List ℕ)) (rest left : List ℕ) → Cuts bytes bodies rest → Cuts rest others left →
    Cuts bytes (bodies ++ others) left
more_bodies bytes bodies others rest left c d = record {
  whole = c.whole ∙ (ap (λ z. frames bodies ++ z) d.whole ∙ (sym (append_assoc (frames bodies) (frames others) left)
      ∙ ap (λ z. z ++ left) (sym (frames-append bodies others))));
  each = all_bodies bodies others c.each d.each;
}
