-- What an edge told, and then more.
use Rattle.std.proofs.Common.{ℕ, List, [], ◌∷◌, ◌++◌, Option, Some, None, map, sym, ap, ◌∙◌, subst, append_assoc}
use Rattle.std.proofs.lemmas.List.{append-nil, map-append}
use Rattle.hub.specs.declared.ports.Seen.{Seen}
use Rattle.hub.specs.declared.ports.Seen.TheVariants.{NotedReply}
use Rattle.hub.specs.Telling.{Tells, own_replies}

-- nothing more was told
pub tells_none : (o : Option (List Seen)) → Tells o o []
tells_none None = tt
tells_none (Some seen) = sym (append-nil seen)

-- what was told, and then more
pub tells_then : (a b c : Option (List Seen)) (xs ys : List Seen) → Tells a b xs → Tells b c ys → Tells a c (xs ++ ys)
tells_then None None None xs ys p q = tt
tells_then None None (Some z) xs ys p q = q
tells_then None (Some y) c xs ys p q = absurd p
tells_then (Some x) None None xs ys p q = tt
tells_then (Some x) None (Some z) xs ys p q = absurd q
tells_then (Some x) (Some y) None xs ys p q = tt
tells_then (Some x) (Some y) (Some z) xs ys p q = q ∙ (ap (λ w. w ++ ys) p ∙ append_assoc x xs ys)

-- so with replies to what the hub asked itself
pub replies_then : (a b c : Option (List Seen)) (xs ys : List (List ℕ)) → Tells a b (own_replies xs) → Tells b c (own_replies ys) → Tells a c (own_replies (xs ++ ys))
replies_then a b c xs ys p q =
    subst (λ calls. Tells a c calls) (sym (map-append (λ (reply : List ℕ). NotedReply reply) xs ys)) (tells_then a b c (own_replies xs) (own_replies ys) p q)
