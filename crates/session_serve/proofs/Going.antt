-- Passes that go on.
use Rattle.std.proofs.Common.{◌≡◌, ◌≤◌, ℕ, List, [], ◌∷◌, ◌++◌, length, drop, Option, Some, refl, sym, ap, ◌∙◌, subst, append_assoc, append-nil}
use Rattle.std.specs.List.{AllByRecursion, slice_get}
use Rattle.std.proofs.Math.Seq.{drop-append_seam}
use Rattle.std.proofs.lemmas.Option.{slice_get_within}
use Rattle.tardis_base.specs.Plain.{Event, PlainMachine}
use Rattle.trail_log.specs.declared.acted.Acted.{Acted}
use Rattle.trail_log.specs.declared.acted.Acted.TheVariants.{Done, TrailFull, NoMemory}
use Rattle.dag_lock.specs.Known.{Known, Begins, Ascends}
use Rattle.trail_log.specs.Trail.{Kept}
use Rattle.dag_lock.specs.Steps.{Keeps, Ended}
use Rattle.session_serve.specs.Turns.{place_with}
use Rattle.session_serve.specs.Passes.{Goes, IsAskedBy, new_places}
use Rattle.session_serve.proofs.Fronts.{at_front, begins_then, begins_length}
use Rattle.session_serve.proofs.Turning.{ascends_below, ascends_then}
use Rattle.session_serve.proofs.Stepping.{Stepped, stepped}
use Rattle.session_serve.specs.Replies.{reply_without}
use Rattle.session_serve.specs.Asking.{known_or}

-- the places behind those that were owned
pub places_behind : (p q : Known) (ps : List ℕ) → q.owned ≡ p.owned ++ ps → new_places p q ≡ ps
places_behind p q ps e = ap (drop (length p.owned)) e ∙ drop-append_seam p.owned ps

asked_on : (actor : ℕ) (seen longer : List Event) (ps : List ℕ) → Begins seen longer → AllByRecursion (IsAskedBy actor seen) ps →
    AllByRecursion (IsAskedBy actor longer) ps
asked_on actor seen longer [] b h = tt
asked_on actor seen longer (p ∷ ps) (rest, q) h = (
  (h.0.0, subst (λ l. slice_get l p ≡ Some (actor, h.0.0)) (sym q) (at_front seen rest p (actor, h.0.0) h.0.1)),
  asked_on actor seen longer ps (rest, q) h.1,
)

asked_then : (actor : ℕ) (seen : List Event) (ps : List ℕ) (p : ℕ) → AllByRecursion (IsAskedBy actor seen) ps → IsAskedBy actor seen p →
    AllByRecursion (IsAskedBy actor seen) (ps ++ p ∷ [])
asked_then actor seen [] p h one = (one, tt)
asked_then actor seen (q ∷ qs) p h one = (h.0, asked_then actor seen qs p h.1 one)

pub goes_nowhere : (actor : ℕ) (p : Known) → Goes actor p p
goes_nowhere actor p =
    let none : new_places p p ≡ [] = places_behind p p [] (sym (append-nil p.owned)) in
    record {
      keeps = (refl, refl);
      seen = ([], sym (append-nil p.seen));
      owned = sym (ap (λ z. p.owned ++ z) none ∙ append-nil p.owned);
      ascend = subst (λ z. Ascends (length p.seen) (length p.seen) z) (sym none) tt;
      each = subst (λ z. AllByRecursion (IsAskedBy actor p.seen) z) (sym none) tt;
    }

-- new places and one that may have come
record More (actor : ℕ) (a : ℕ) (longer : List Event) (ps : List ℕ) : Type 0 where
  ascend : Ascends a (length longer) ps
  each : AllByRecursion (IsAskedBy actor longer) ps

more : (actor a found : ℕ) (seen longer : List Event) (request : List ℕ) (ps : List ℕ) (r : Acted) → Begins seen longer → a ≤ length seen →
    length seen ≤ found → (r ≡ Done → slice_get longer found ≡ Some (actor, request)) → Ascends a (length seen) ps →
    AllByRecursion (IsAskedBy actor seen) ps → More actor a longer (ps ++ place_with found r)
more actor a found seen longer request ps Done b low later entry up each = record {
  ascend = ascends_then a (length seen) (length longer) found ps low up later (slice_get_within longer found (actor, request) (entry refl));
  each = asked_then actor longer ps found (asked_on actor seen longer ps b each) (request, entry refl);
}
more actor a found seen longer request ps (TrailFull bytes) b low later entry up each = subst (λ z. More actor a longer z) (sym (append-nil ps)) (record {
  ascend = ascends_below a (length seen) (length longer) ps (begins_length seen longer b) up;
  each = asked_on actor seen longer ps b each;
})
more actor a found seen longer request ps NoMemory b low later entry up each = subst (λ z. More actor a longer z) (sym (append-nil ps)) (record {
  ascend = ascends_below a (length seen) (length longer) ps (begins_length seen longer b) up;
  each = asked_on actor seen longer ps b each;
})

-- a pass that went on makes a step
pub goes_on : {P : Type 0} (m : PlainMachine P) (start : P) (most actor : ℕ) (first p q : Known) (request reply : List ℕ) (r : Acted) → Goes actor first p
    → Keeps p q → Stepped m start most p q (actor, request) reply r → Goes actor first q
goes_on m start most actor first p q request reply r g k s =
    let owned : q.owned ≡ first.owned ++ (new_places first p ++ place_with s.found r) = s.owned
    ∙ (ap (λ z. z ++ place_with s.found r) g.owned ∙ append_assoc first.owned (new_places first p) (place_with s.found r)) in
    let new : new_places first q ≡ new_places first p ++ place_with s.found r = places_behind first q (new_places first p ++ place_with s.found r) owned in
    let all = more actor (length first.seen) s.found p.seen q.seen request (new_places first p) r s.seen (begins_length first.seen p.seen g.seen) s.later
    s.is_turn.entry g.ascend g.each in
    record {
      keeps = (k.0 ∙ g.keeps.0, k.1 ∙ g.keeps.1);
      seen = begins_then first.seen p.seen q.seen g.seen s.seen;
      owned = owned ∙ ap (λ z. first.owned ++ z) (sym new);
      ascend = subst (λ z. Ascends (length first.seen) (length q.seen) z) (sym new) all.ascend;
      each = subst (λ z. AllByRecursion (IsAskedBy actor q.seen) z) (sym new) all.each;
    }

same_pass : (o : Option Known) (p q : Known) → o ≡ Some p → o ≡ Some q → p ≡ q
same_pass o p q a b = ap (known_or p) (sym a ∙ b)

-- the pass of what asks the lock, after a step
pub asker_goes : {M P : Type 0} (opening : M → P) (m : PlainMachine P) (z : Kept M) (actor : ℕ) (o : Option Known) (first was p q : Known)
    (request out : List ℕ) (r : Acted)
    → o ≡ Some was → o ≡ Some p → Goes actor first was → Keeps p q → Ended opening m z p (actor, request) out q r
    → (q.lock ≡ was.lock) × Goes actor first q
asker_goes opening m z actor o first was p q request out r a b g k ended =
    let e : was ≡ p = same_pass o was p a b in (
      k.0 ∙ ap (λ (s : Known). s.lock) (sym e),
      goes_on m (opening z.machine) z.max_trail actor first p q request (reply_without r out) r (subst (λ s. Goes actor first s) e g) k
          (stepped opening m z p q (actor, request) out r ended),
    )
