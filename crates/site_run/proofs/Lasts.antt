-- The body that the end of the input ends.
use Rattle.std.proofs.Common.{◌≡◌, ℕ, ◌≤◌, List, [], ◌∷◌, ◌++◌, length, Option, sym, subst}
use Rattle.tardis_io.specs.Told.{WhileTold}
use Rattle.site_run.specs.Responses.{Whole, Front, AnsweredBy}
use Rattle.site_run.proofs.Turns.{answered_none}
use Rattle.site_run.proofs.Serving.{written, lost}

-- no body was answered
pub last_none : {S : Type 0} (may : S → List ℕ → List ℕ → S → Type 0) (from : S → Type 0) (g : Option (List ℕ)) (last : List (List ℕ)) → last ≡ []
    → (s : S) → from s → AnsweredBy may Whole from g g [] [] s last
last_none may from g last none s f = subst (λ z. AnsweredBy may Whole from g g [] [] s z) (sym none) (answered_none may from g [] s f)

-- its answer was written
pub last_written : {S : Type 0} (may : S → List ℕ → List ℕ → S → Type 0) (from to : S → Type 0) (g h k : Option (List ℕ)) (p q r body : List ℕ)
    (last : List (List ℕ)) → last ≡ body ∷ [] → p ≡ [] → r ≡ [] → WhileTold h k (λ y z. z ≡ y ++ q) →
    ((s : S) → from s → AnsweredBy may Whole to g h p q s (body ∷ [])) → (s : S) → from s → AnsweredBy may Whole to g k [] [] s last
last_written may from to g h k p q r body last is none empty w a s f =
    subst (λ e. AnsweredBy may Whole to g k e [] s last) none
    (subst (λ e. AnsweredBy may Whole to g k p e s last) empty
    (subst (λ z. AnsweredBy may Whole to g k p r s z) (sym is) (written may to g h k p q r s (body ∷ []) (a s f) w empty)))

-- or a front of it
pub last_lost : {S : Type 0} (may : S → List ℕ → List ℕ → S → Type 0) (from to : S → Type 0) (g h k : Option (List ℕ)) (p q body : List ℕ) (most : ℕ)
    (last : List (List ℕ)) → last ≡ body ∷ [] → p ≡ [] → length q ≤ most →
    WhileTold h k (λ y z. (lost : List ℕ) × ((z ++ lost ≡ y ++ q) × (length lost ≤ length q))) →
    ((s : S) → from s → AnsweredBy may Whole to g h p q s (body ∷ [])) → (s : S) → from s → AnsweredBy may (Front most) to g k [] [] s last
last_lost may from to g h k p q body most last is none few w a s f =
    subst (λ e. AnsweredBy may (Front most) to g k e [] s last) none
    (subst (λ z. AnsweredBy may (Front most) to g k p [] s z) (sym is) (lost may to g h k p q most s (body ∷ []) few (a s f) w))

-- a front of it was given already
pub last_broken : {S : Type 0} (may : S → List ℕ → List ℕ → S → Type 0) (from to : S → Type 0) (g h : Option (List ℕ)) (p body : List ℕ) (most : ℕ)
    (last : List (List ℕ)) → last ≡ body ∷ [] → p ≡ [] → ((s : S) → from s → AnsweredBy may (Front most) to g h p [] s (body ∷ []))
    → (s : S) → from s → AnsweredBy may (Front most) to g h [] [] s last
last_broken may from to g h p body most last is none a s f =
    subst (λ e. AnsweredBy may (Front most) to g h e [] s last) none
    (subst (λ z. AnsweredBy may (Front most) to g h p [] s z) (sym is) (a s f))
