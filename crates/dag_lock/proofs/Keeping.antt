-- How a step that changes one view keeps the rule.
use Rattle.std.proofs.Common.{◌≡◌, ◌≢◌, ℕ, ◌+◌, ◌<◌, ◌≤◌, ◌⊎◌, List, [], ◌∷◌, length, get_or, set, refl, sym, ap, ◌∙◌, subst, inl, inr, arith}
use mathlib.Core.Logic.{dite}
use mathlib.Core.Option.{Option, some, some-injective, some-ne-none}
use native.Mathlib.Decide.{ℕ_discrete}
use lib.ListN.{get_elem?}
use Rattle.tardis_base.specs.Plain.{Event}
use Rattle.atomic_table.specs.Table.{State, keeps, stepped}
use Rattle.atomic_table.proofs.Lists.{at_set, set_else, set_again}
use Rattle.trail_log.specs.Trail.{Kept}
use Rattle.dag_lock.specs.declared.views.View.{View}
use Rattle.dag_lock.specs.Turns.{times_in, once_below, pieces_in, ticket_of, Queue, Fits, Home, Turns}
use Rattle.dag_lock.proofs.Places.{total_set}

pub set_there : {A : Type 0} (l : List A) (i : ℕ) (a b : A) → get_elem? l i ≡ some a → get_elem? (set l i b) i ≡ some b
set_there [] i a b e = absurd (some-ne-none a (sym e))
set_there (x ∷ xs) ℕ.zero a b e = refl
set_there (x ∷ xs) (ℕ.suc i) a b e = set_there xs i a b e

set_same : (l : List ℕ) (i : ℕ) → set l i (get_or l i 0) ≡ l
set_same [] i = refl
set_same (x ∷ xs) ℕ.zero = refl
set_same (x ∷ xs) (ℕ.suc i) = ap (λ t. x ∷ t) (set_same xs i)

-- one place of a list has one element
pub one_there : {A : Type 0} (l : List A) (i j : ℕ) (a b : A) → get_elem? l i ≡ some a → get_elem? l j ≡ some b → i ≡ j → a ≡ b
one_there l i j a b p q e = some-injective a b (sym p ∙ (ap (get_elem? l) e ∙ q))

-- a queue where one view changes: each ticket is held by that view, or by another as before
pub queue_set : (views : List View) (id : ℕ) (v w : View) (ticket serving next served : ℕ) (owner keeper : ℕ → ℕ)
    → get_elem? views id ≡ some v → Queue views ticket serving owner
    → ((t : ℕ) → served ≤ t → t < next → ((keeper t ≡ id) × (ticket_of w.stage ≡ some t))
    ⊎ ((keeper t ≡ owner t) × (serving ≤ t) × (t < ticket) × (ticket_of v.stage ≢ some t)))
    → Queue (set views id w) next served keeper
queue_set views id v w ticket serving next served owner keeper at queue each t from below =
    elim (each t from below) [
      | inl mine ↦ (w, subst (λ j. get_elem? (set views id w) j ≡ some w) (sym mine.0) (set_there views id v w at), mine.1)
      | inr other ↦
          let old = queue t other.1 other.2 in
          let ne : owner t ≢ id = λ e. other.3 (ap (λ (u : View). ticket_of u.stage) (one_there views id (owner t) v old.0 at old.1 (sym e)) ∙ old.2) in
          (old.0, ap (get_elem? (set views id w)) other.0 ∙ (set_else views id (owner t) w ne ∙ old.1), old.2)
    ]

-- a queue where one view changes that keeps its ticket
pub queue_same : (views : List View) (id : ℕ) (v w : View) (ticket serving : ℕ) (owner : ℕ → ℕ)
    → get_elem? views id ≡ some v → ticket_of w.stage ≡ ticket_of v.stage → Queue views ticket serving owner → Queue (set views id w) ticket serving owner
queue_same views id v w ticket serving owner at same queue t from below =
    let old = queue t from below in
    dite (ℕ_discrete (owner t) id)
    (λ e. (
      w,
      subst (λ j. get_elem? (set views id w) j ≡ some w) (sym e) (set_there views id v w at),
      same ∙ (ap (λ (u : View). ticket_of u.stage) (one_there views id (owner t) v old.0 at old.1 (sym e)) ∙ old.2),
    ))
    (λ ne. (old.0, set_else views id (owner t) w ne ∙ old.1, old.2))

module _ {M : Type 0} (IsOf : Kept M → Type 0) (pieces : ℕ) where
  -- the machine's home where one view changes that keeps its stage
  pub home_set : (homes : List (Option (Kept M))) (views : List View) (serving : ℕ) (history : List Event) (id : ℕ) (v w : View)
      → get_elem? views id ≡ some v → w.stage ≡ v.stage → Home IsOf pieces homes views serving history → Home IsOf pieces homes (set views id w) serving history
  home_set homes views serving history id v w at same home =
      elim home [
        | inl here ↦ inl here
        | inr away ↦ inr (
          away.0,
          (
              let holder = away.1 in
              dite (ℕ_discrete holder.0 id)
              (λ e. (
                id,
                w,
                set_there views id v w at,
                same ∙ (ap (λ (u : View). u.stage) (one_there views id holder.0 v holder.1 at holder.2 (sym e)) ∙ holder.3),
              ))
              (λ ne. (holder.0, holder.1, set_else views id holder.0 w ne ∙ holder.2, holder.3))
              ),
        )
      ]

  -- one view and all else that it may change
  pub keeps_rule : (s : State (Kept M) View) (k : Turns IsOf pieces s) (id : ℕ) (v w : View) → get_elem? s.views id ≡ some v
      → (words : List ℕ) (homes : List (Option (Kept M))) (ticket serving : ℕ) (history : List Event) (owner : ℕ → ℕ)
      → words ≡ ticket ∷ serving ∷ [] → serving ≤ ticket → ticket < 18446744073709551616
      → ((j : ℕ) (u : View) → j ≢ id → get_elem? s.views j ≡ some u → Fits IsOf pieces s.homes k.ticket k.serving k.owner k.history j u →
      Fits IsOf pieces homes ticket serving owner history j u)
      → Fits IsOf pieces homes ticket serving owner history id w
      → Queue (set s.views id w) ticket serving owner
      → Home IsOf pieces homes (set s.views id w) serving history
      → ((p : ℕ) → times_in p w + once_below p (length k.history) ≡ times_in p v + once_below p (length history))
      → w.pieces ≡ v.pieces
      → Turns IsOf pieces record { words = words; homes = homes; views = set s.views id w }
  keeps_rule s k id v w at words homes ticket serving history owner words_are order low others own queue home places same = record {
    ticket = ticket;
    serving = serving;
    history = history;
    owner = owner;
    words = words_are;
    order = order;
    low = low;
    each = λ j u e. elim (at_set s.views id j w u e) [
      | inl here ↦ subst (λ x. Fits IsOf pieces homes ticket serving owner history x u) (sym here.0)
          (subst (Fits IsOf pieces homes ticket serving owner history id) here.1 own)
      | inr there ↦ others j u there.0 there.1 (k.each j u there.1)
    ];
    queue = queue;
    home = home;
    places = λ p. omega (arith, total_set (times_in p) s.views id v w at, k.places p, places p);
    whole = omega (arith, total_set pieces_in s.views id v w at, k.whole, same);
  }

  -- a step that changes nothing
  pub unchanged : (s : State (Kept M) View) (k : Turns IsOf pieces s) (i id : ℕ) (v : View) (carried : List (ℕ × Kept M)) → get_elem? s.views id ≡ some v
      → Turns IsOf pieces (stepped s i (get_or s.words i 0) id carried v keeps)
  unchanged s k i id v carried at =
      subst (λ (words : List ℕ). Turns IsOf pieces record { words = words; homes = s.homes; views = set s.views id v }) (sym (set_same s.words i))
      (subst (λ (views : List View). Turns IsOf pieces record { words = s.words; homes = s.homes; views = views }) (sym (set_again s.views id v at)) k)
