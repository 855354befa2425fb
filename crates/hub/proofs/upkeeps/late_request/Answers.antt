use Rattle.std.proofs.Common.{◌≡◌, ◌∙◌, ◌<◌, ◌≤◌, ◌-◌, ℕ, List, length, map, Option, Some, None, inl, inr, sym, subst, ap, arith}
use Rattle.std.specs.Prelude.{slice_get}
use Rattle.std.specs.Option.{MatchOption, option_map, option_copied}
use Rattle.std.specs.List.{HoldsAt}
use Rattle.std.proofs.lemmas.Option.{slice_get_cases, slice_get-get_or, slice_get-map}
use denote.Bor.{Bor}
use Rattle.hub.specs.Upkeeps.{rule_of}
use Rattle.hub.proofs.Serving.{late_at}
use Rattle.hub.proofs.upkeeps.late_request.Goals as goal

none_beyond : (late : List (Bor (List ℕ))) (k : ℕ) → length late ≤ k → slice_get late k ≡ None
none_beyond late k past = elim (slice_get_cases late k).1 [
  | inl found ↦ absurd (omega (arith, past, found.1))
  | inr beyond ↦ beyond.1
]

late_found : (late : List (Bor (List ℕ))) (k : ℕ) (r : Option (Bor (Bor (List ℕ)))) →
    MatchOption r (length late ≤ k) (λ x. (k < length late) × HoldsAt (λ y. x.now ≡ y) late k) →
    option_map (λ (b : Bor (List ℕ)). b.now) (option_copied r) ≡ slice_get (map (λ (b : Bor (List ℕ)). b.now) late) k
late_found late k None past = sym (subst (λ o. slice_get (map (λ (b : Bor (List ℕ)). b.now) late) k ≡ option_map (λ (b : Bor (List ℕ)). b.now) o)
    (none_beyond late k past) (slice_get-map (λ (b : Bor (List ℕ)). b.now) late k))
late_found late k (Some x) is = ap (λ (b : Bor (List ℕ)). Some b.now) (is.1 x.now)
    ∙ sym (slice_get-map (λ (b : Bor (List ℕ)). b.now) late k ∙ ap (λ o. option_map (λ (b : Bor (List ℕ)). b.now) o) (slice_get-get_or late k x.now is.0))

pub returns : goal.returns
returns c = ap (λ o. option_map (λ (b : Bor (List ℕ)). b.now) o) c.copied.ensures
    ∙ (late_found c.args.upkeep.late.now (c.args.waited - 1) c.get.result c.get.ensures.lookup.3
    ∙ late_at (rule_of c.args.upkeep) c.args.waited c.if-waited-eq0.false)
