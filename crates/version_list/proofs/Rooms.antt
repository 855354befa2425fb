-- Room for writes.
use Rattle.std.proofs.Common.{◌≡◌, Bool, true, List, [], ◌∷◌, ◌++◌, refl}
use Rattle.std.specs.List.{list_all}
use Rattle.std.proofs.lemmas.Bool.{and_parts, and_from}

-- what passes one test passes another that all pass which pass the first
pub all-weaken : {X : Type 0} (p q : X → Bool) (xs : List X) → ((x : X) → p x ≡ true → q x ≡ true) → list_all p xs ≡ true → list_all q xs ≡ true
all-weaken p q [] weaker all = refl
all-weaken p q (x ∷ xs) weaker all =
    let parts = and_parts (p x) (list_all p xs) all in
    and_from (q x) (list_all q xs) (weaker x parts.0) (all-weaken p q xs weaker parts.1)

pub all-push : {X : Type 0} (p : X → Bool) (xs : List X) (x : X) → list_all p xs ≡ true → p x ≡ true → list_all p (xs ++ x ∷ []) ≡ true
all-push p [] x all e = and_from (p x) true e refl
all-push p (y ∷ xs) x all e =
    let parts = and_parts (p y) (list_all p xs) all in
    and_from (p y) (list_all p (xs ++ x ∷ [])) parts.0 (all-push p xs x parts.1 e)
