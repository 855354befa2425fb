-- Laws of bytes that may be told.
use Rattle.std.proofs.Common.{ℕ, List, Option, Some, None}
use Rattle.tardis_io.specs.Told.{WhileTold}

pub weaker : (a b : Option (List ℕ)) (P Q : List ℕ → List ℕ → Type 0) → WhileTold a b P → ((x y : List ℕ) → P x y → Q x y) → WhileTold a b Q
weaker None None P Q p f = tt
weaker (Some x) (Some y) P Q p f = f x y p
weaker None (Some y) P Q p f = p
weaker (Some x) None P Q p f = p

pub same : (a : Option (List ℕ)) (P : List ℕ → List ℕ → Type 0) → ((x : List ℕ) → P x x) → WhileTold a a P
same None P f = tt
same (Some x) P f = f x

pub then : (a b c : Option (List ℕ)) (P Q R : List ℕ → List ℕ → Type 0) → WhileTold a b P → WhileTold b c Q → ((x y z : List ℕ) → P x y → Q y z → R x z) →
    WhileTold a c R
then None None None P Q R p q f = tt
then (Some x) (Some y) (Some z) P Q R p q f = f x y z p q
then None None (Some z) P Q R p q f = q
then (Some x) (Some y) None P Q R p q f = q
then None (Some y) c P Q R p q f = absurd p
then (Some x) None c P Q R p q f = absurd p
