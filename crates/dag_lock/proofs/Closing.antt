-- The lock when it is made, and when it is closed by a whole pass.
use Rattle.std.proofs.Common.{◌≡◌, ◌≢◌, ℕ, ◌<◌, Bool, true, false, nat_lt, List, [], ◌∷◌, length, refl, sym, ap, ◌∙◌, subst, inl, inr, arith, if◌then◌else◌}
use mathlib.Core.Logic.{dite}
use mathlib.Core.Option.{Option, some, some-injective, some-ne-none}
use native.Mathlib.Decide.{ℕ_discrete}
use lib.ListN.{get_elem?, set}
use Rattle.std.specs.List.{range_with_len}
use Rattle.std.proofs.lemmas.Bool.{lt-ltb, ltb-true, cases_lt}
use Rattle.tardis_base.specs.Plain.{Event}
use Rattle.atomic_table.specs.Table.{State, opening, Final, Seen}
use Rattle.atomic_table.proofs.Lists.{set_else}
use Rattle.trail_log.specs.Trail.{Kept}
use Rattle.dag_lock.specs.declared.views.View.{View}
use Rattle.dag_lock.specs.declared.views.Stage.TheVariants.{Idle, Takes}
use Rattle.dag_lock.specs.Turns.{knows, total, times, times_in, pieces_in, once_below, spent_view, Fits, Turns}
use Rattle.dag_lock.proofs.Fronts.{begins_whole}
use Rattle.dag_lock.proofs.Places.{total_set, total_at, times_high, all_places}
use Rattle.dag_lock.proofs.Keeping.{one_there}

total_none : (f : View → ℕ) (l : List View) → ((j : ℕ) (u : View) → get_elem? l j ≡ some u → f u ≡ 0) → total f l ≡ 0
total_none f [] each = refl
total_none f (x ∷ xs) each = omega (arith, each 0 x refl, total_none f xs (λ j u e. each (ℕ.suc j) u e))

once_none : (p : ℕ) (b : Bool) → nat_lt p 0 ≡ b → ℕ.zero ≡ (if b then 1 else 0)
once_none p true is = let less : p < 0 = ltb-true p 0 is in absurd (omega arith)
once_none p false is = refl

-- where all others count nothing, the sum is that of one view
total_one : (f : View → ℕ) (l : List View) (i : ℕ) (v : View) → get_elem? l i ≡ some v → ((j : ℕ) (u : View) → j ≢ i → get_elem? l j ≡ some u → f u ≡ 0) →
    total f l ≡ f v
total_one f [] i v at others = absurd (some-ne-none v (sym at))
total_one f (x ∷ xs) ℕ.zero v at others =
    let here : f x ≡ f v = ap f (some-injective x v at) in
    omega (arith, total_none f xs (λ j u e. others (ℕ.suc j) u (λ z. omega arith) e))
total_one f (x ∷ xs) (ℕ.suc i) v at others =
    omega (arith, others 0 x (λ z. omega arith) refl, total_one f xs i v at (λ j u ne e. others (ℕ.suc j) u (λ z. ne (omega arith)) e))

module _ {M : Type 0} (IsOf : Kept M → Type 0) (pieces : ℕ) where
  first_view : (homes : List (Option (Kept M))) (j : ℕ) (u : View) → 0 < pieces → get_elem? (knows Idle [] [] pieces ∷ []) j ≡ some u →
      Fits IsOf pieces homes 0 0 (λ t. 0) [] j u
  first_view homes ℕ.zero u some_pieces e = subst (Fits IsOf pieces homes 0 0 (λ t. 0) [] 0) (some-injective (knows Idle [] [] pieces) u e) record {
    turn = tt;
    seen = ([], refl);
    beside = ([], refl);
    owned = tt;
    spent = λ empty. absurd (omega arith);
  }
  first_view homes (ℕ.suc j) u some_pieces e = absurd (some-ne-none u (sym e))

  -- the lock when it is made
  pub opens : (x : Kept M) → x.trail ≡ [] → IsOf x → 0 < pieces → Turns IsOf pieces (opening (0 ∷ 0 ∷ []) (x ∷ []) (knows Idle [] [] pieces))
  opens x empty is some_pieces = record {
    ticket = 0;
    serving = 0;
    history = [];
    owner = λ t. 0;
    words = refl;
    order = omega arith;
    low = omega arith;
    each = λ j u e. first_view (some x ∷ []) j u some_pieces e;
    queue = λ t from below. absurd (omega arith);
    home = inl (x, refl, empty, is);
    places = λ p. once_none p (nat_lt p 0) refl;
    whole = omega arith;
  }

  -- The whole pass knows all: no other pass is live, the machine is at home, and its trail is what the pass has seen and
  -- owns.
  pub record Closes (seen : List Event) (owned : List ℕ) (s : State (Kept M) View) : Type 0 where
    pub machine : Kept M
    pub home : s.homes ≡ some machine ∷ []
    pub trail : machine.trail ≡ seen
    pub is_of : IsOf machine
    pub places : owned ≡ range_with_len 0 (length seen)

  pub closes : (s : State (Kept M) View) (k : Turns IsOf pieces s) (id : ℕ) (v : View) → get_elem? s.views id ≡ some v → v.stage ≡ Idle → v.pieces ≡ pieces
      → Closes v.seen v.owned s
  closes s k id v at idle all =
      let own = k.each id v at in
      let without = total_set pieces_in s.views id v spent_view at in
      let spent : (j : ℕ) (u : View) → j ≢ id → get_elem? s.views j ≡ some u → u ≡ spent_view = λ j u ne there.
      (k.each j u there).spent (let little = total_at pieces_in (set s.views id spent_view) j u (set_else s.views id j spent_view ne ∙ there) in
      omega (arith, k.whole)) in
      let once : (p : ℕ) → times p v.owned ≡ once_below p (length k.history) = λ p.
      sym (total_one (times_in p) s.views id v at (λ j u ne there. ap (times_in p) (spent j u ne there))) ∙ k.places p in
      let seen : v.seen ≡ k.history = begins_whole v.seen k.history own.seen (elim (cases_lt (length v.seen) (length k.history)) [
        | inl less ↦
            let far : times (length v.seen) v.owned ≡ 0 = times_high (length v.seen) 0 (length v.seen) v.owned own.owned (omega arith) in
            let in_all : nat_lt (length v.seen) (length k.history) ≡ true = lt-ltb (length v.seen) (length k.history) less in
            let one : times (length v.seen) v.owned ≡ 1 = once (length v.seen) ∙ ap (λ (b : Bool). if b then 1 else 0) in_all in
            absurd (omega arith)
        | inr long ↦ long
      ]) in
      let machine : (x : Kept M) × (s.homes ≡ some x ∷ []) × (x.trail ≡ k.history) × IsOf x = elim k.home [
        | inl here ↦ here
        | inr away ↦
            let holder = away.1 in
            dite (ℕ_discrete holder.0 id)
            (λ e. let both : Idle ≡ Takes k.serving = sym idle
            ∙ (ap (λ (u : View). u.stage) (one_there s.views id holder.0 v holder.1 at holder.2 (sym e)) ∙ holder.3) in cc)
            (λ ne. let both : Idle ≡ Takes k.serving = sym (ap (λ (u : View). u.stage) (spent holder.0 holder.1 ne holder.2)) ∙ holder.3 in cc)
      ] in record {
        machine = machine.0;
        home = machine.1;
        trail = machine.2 ∙ sym seen;
        is_of = machine.3;
        places = all_places 0 (length v.seen) (length v.seen) v.owned (omega arith) own.owned
            (λ p from below.
            let in_all : nat_lt p (length k.history) ≡ true = lt-ltb p (length k.history) (omega (arith, ap length seen)) in
            once p ∙ ap (λ (b : Bool). if b then 1 else 0) in_all);
      }

  -- what is taken out of the lock when the whole pass closes it
  pub closed : (id : ℕ) (v : View) (words : List ℕ) (slots : List (Kept M)) (x : Kept M) → Final (Seen (Turns IsOf pieces) id v) words slots →
      v.stage ≡ Idle → v.pieces ≡ pieces → get_elem? slots 0 ≡ some x
      → (x.trail ≡ v.seen) × IsOf x × (v.owned ≡ range_with_len 0 (length x.trail))
  closed id v words slots x final idle all first =
      let s = final.0 in
      let k = final.1.0 in
      let end = closes s k id v final.1.1 idle all in
      let there : get_elem? slots 0 ≡ some end.machine = final.4 0 end.machine (ap (λ (homes : List (Option (Kept M))). get_elem? homes 0) end.home) in
      let same : end.machine ≡ x = some-injective end.machine x (sym there ∙ first) in (
        subst (λ (y : Kept M). y.trail ≡ v.seen) same end.trail,
        subst IsOf same end.is_of,
        end.places ∙ ap (λ (seen : List Event). range_with_len 0 (length seen)) (sym end.trail ∙ ap (λ (y : Kept M). y.trail) same),
      )
