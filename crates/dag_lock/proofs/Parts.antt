-- Splits and joins of passes keep the rule.
use Rattle.std.proofs.Common.{◌≡◌, ℕ, ◌+◌, ◌<◌, ◌≤◌, Bool, true, false, nat_lt, List, [], ◌∷◌, ◌++◌, length, get_or, set, refl, sym, ap, ◌∙◌, subst, inl, inr}
use Rattle.std.proofs.Common.{arith, if◌then◌else◌}
use mathlib.Core.Option.{Option, none, some}
use lib.ListN.{get_elem?}
use Rattle.std.proofs.lemmas.Bool.{ltb-true}
use Rattle.std.proofs.lemmas.Bool.Decides.{nat_tests}
use Rattle.tardis_base.specs.Plain.{Event}
use Rattle.atomic_table.specs.Table.{State, Me, step, keeps, Allows, Splits, Joins}
use Rattle.atomic_table.proofs.Lists.{at_set, set_else, at_snoc, at_longer}
use Rattle.trail_log.specs.Trail.{Kept}
use Rattle.dag_lock.specs.declared.views.View.{View}
use Rattle.dag_lock.specs.declared.views.Stage.TheVariants.{Idle}
use Rattle.dag_lock.specs.Known.{Begins, Ascends}
use Rattle.dag_lock.specs.Turns.{knows, times, times_in, pieces_in, once_below, spent_view, kept_view, given_view, longer, shorter, joined_view, ticket_of}
use Rattle.dag_lock.specs.Turns.{Queue, InTurn, Fits, Home, Turns}
use Rattle.dag_lock.specs.Told.{settled}
use Rattle.dag_lock.proofs.Fronts.{begins_two}
use Rattle.dag_lock.proofs.Places.{total_set, total_snoc, total_at, ascends_more, ascends_merged, times_merged}
use Rattle.dag_lock.proofs.Keeping.{queue_same, home_set, keeps_rule}

longer_by : (xs ys hs : List Event) (b : Bool) → nat_lt (length xs) (length ys) ≡ b → Begins xs hs → Begins ys hs
    → Begins (if b then ys else xs) hs × Begins (if b then xs else ys) hs × (length xs ≤ length (if b then ys else xs))
    × (length ys ≤ length (if b then ys else xs)) × (length (if b then xs else ys) ≤ length (if b then ys else xs))
longer_by xs ys hs true is a b = let less : length xs < length ys = ltb-true (length xs) (length ys) is in (b, a, omega arith, omega arith, omega arith)
longer_by xs ys hs false is a b = let high : length ys ≤ length xs = grind (arith, nat_tests) in (a, b, omega arith, omega arith, omega arith)

-- two lists that were seen
pub both_lists : (xs ys hs : List Event) → Begins xs hs → Begins ys hs
    → Begins (longer xs ys) hs × Begins (shorter xs ys) hs × (length xs ≤ length (longer xs ys)) × (length ys ≤ length (longer xs ys))
    × (length (shorter xs ys) ≤ length (longer xs ys))
both_lists xs ys hs a b = longer_by xs ys hs (nat_lt (length xs) (length ys)) refl a b

shorter_by : (xs ys : List Event) (b : Bool) → nat_lt (length xs) (length ys) ≡ b → length (if b then xs else ys) ≤ length (if b then ys else xs)
shorter_by xs ys true is = let less : length xs < length ys = ltb-true (length xs) (length ys) is in omega arith
shorter_by xs ys false is = grind (arith, nat_tests)

pub shorter_is : (xs ys : List Event) → length (shorter xs ys) ≤ length (longer xs ys)
shorter_is xs ys = shorter_by xs ys (nat_lt (length xs) (length ys)) refl

once_at_most : (b : Bool) → (if b then 1 else 0) ≤ 1
once_at_most true = omega arith
once_at_most false = omega arith

module _ {M : Type 0} (IsOf : Kept M → Type 0) (pieces : ℕ) where
  -- a view that is new at the end doesn't take the machine away
  home_longer : (homes : List (Option (Kept M))) (views : List View) (serving : ℕ) (history : List Event) (w : View) →
      Home IsOf pieces homes views serving history → Home IsOf pieces homes (views ++ w ∷ []) serving history
  home_longer homes views serving history w home =
      elim home [
        | inl here ↦ inl here
        | inr away ↦ let holder = away.1 in inr (away.0, (holder.0, holder.1, at_longer views (w ∷ []) holder.0 holder.1 holder.2, holder.3))
      ]

  queue_longer : (views : List View) (ticket serving : ℕ) (owner : ℕ → ℕ) (w : View) → Queue views ticket serving owner →
      Queue (views ++ w ∷ []) ticket serving owner
  queue_longer views ticket serving owner w queue t from below = let old = queue t from below in (old.0, at_longer views (w ∷ []) (owner t) old.0 old.1, old.2)

  -- a pass without a ticket gives some of its pieces to a new one
  pub splits : (id : ℕ) (v : View) (n : ℕ) → v.stage ≡ Idle → 0 < n → n < v.pieces → Splits (Turns IsOf pieces) id v (kept_view n v) (given_view n v)
  splits id v n idle some_given some_left s k at =
      let own = k.each id v at in
      let w : View = kept_view n v in
      let new : View = given_view n v in
      let views = set s.views id w in record {
        ticket = k.ticket;
        serving = k.serving;
        history = k.history;
        owner = k.owner;
        words = k.words;
        order = k.order;
        low = k.low;
        each = λ j u e. elim (at_snoc views new u j e) [
          | inl old ↦ elim (at_set s.views id j w u old) [
            | inl here ↦ subst (λ x. Fits IsOf pieces s.homes k.ticket k.serving k.owner k.history x u) (sym here.0)
                (subst (Fits IsOf pieces s.homes k.ticket k.serving k.owner k.history id) here.1 record {
                  turn = own.turn;
                  seen = own.seen;
                  beside = (k.history, refl);
                  owned = own.owned;
                  spent = λ empty. absurd (omega arith);
                })
            | inr there ↦ k.each j u there.1
          ]
          | inr last ↦ subst (Fits IsOf pieces s.homes k.ticket k.serving k.owner k.history j) last record {
            turn = tt;
            seen = own.seen;
            beside = (k.history, refl);
            owned = tt;
            spent = λ empty. absurd (omega arith);
          }
        ];
        queue = queue_longer views k.ticket k.serving k.owner new (queue_same s.views id v w k.ticket k.serving k.owner at refl k.queue);
        home = home_longer s.homes views k.serving k.history new (home_set IsOf pieces s.homes s.views k.serving k.history id v w at refl k.home);
        places = λ p. omega (arith, total_snoc (times_in p) views new, total_set (times_in p) s.views id v w at, k.places p);
        whole = omega (arith, total_snoc pieces_in views new, total_set pieces_in s.views id v w at, k.whole);
      }

  -- no place is owned by two passes
  apart : (s : State (Kept M) View) (k : Turns IsOf pieces s) (id other : ℕ) (v w : View) → get_elem? s.views id ≡ some v → get_elem? s.views other
      ≡ some w → ¬ (other ≡ id) → (p : ℕ) → times p v.owned + times p w.owned ≤ 1
  apart s k id other v w at there ne p =
      let without = total_set (times_in p) s.views id v spent_view at in
      let others = total_at (times_in p) (set s.views id spent_view) other w (set_else s.views id other spent_view ne ∙ there) in
      let once : once_below p (length k.history) ≤ 1 = once_at_most (nat_lt p (length k.history)) in
      omega (arith, k.places p)

  -- a pass takes in another
  pub joins : (id other : ℕ) (v w : View) → v.stage ≡ Idle → w.stage ≡ Idle → 0 < v.pieces → Joins (Turns IsOf pieces) id v other w (joined_view v w) spent_view
  joins id other v w idle idle' some_pieces s k at ne there =
      let own = k.each id v at in
      let both : View = joined_view v w in
      let there' : get_elem? s.views other ≡ some w = sym (set_else s.views id other both ne) ∙ there in
      let theirs = k.each other w there' in
      let lists = both_lists v.seen w.seen k.history own.seen theirs.seen in
      let views = set s.views id both in
      let owned : Ascends 0 (length both.seen) both.owned = ascends_merged 0 (length both.seen) v.owned w.owned
      (ascends_more 0 (length v.seen) (length both.seen) v.owned own.owned lists.2)
      (ascends_more 0 (length w.seen) (length both.seen) w.owned theirs.owned lists.3)
      (apart s k id other v w at there' ne) in record {
        ticket = k.ticket;
        serving = k.serving;
        history = k.history;
        owner = k.owner;
        words = k.words;
        order = k.order;
        low = k.low;
        each = λ j u e. elim (at_set views other j spent_view u e) [
          | inl last ↦ subst (Fits IsOf pieces s.homes k.ticket k.serving k.owner k.history j) last.1 record {
            turn = tt;
            seen = (k.history, refl);
            beside = (k.history, refl);
            owned = tt;
            spent = λ empty. refl;
          }
          | inr old ↦ elim (at_set s.views id j both u old.1) [
            | inl here ↦ subst (Fits IsOf pieces s.homes k.ticket k.serving k.owner k.history j) here.1 record {
              turn = subst (InTurn IsOf pieces s.homes k.ticket k.serving k.owner k.history j both.seen) (sym idle) tt;
              seen = lists.0;
              beside = lists.1;
              owned = owned;
              spent = λ empty. absurd (omega arith);
            }
            | inr far ↦ k.each j u far.1
          ]
        ];
        queue = queue_same views other w spent_view k.ticket k.serving k.owner there (sym (ap ticket_of idle'))
            (queue_same s.views id v both k.ticket k.serving k.owner at refl k.queue);
        home = home_set IsOf pieces s.homes views k.serving k.history other w spent_view there (sym idle')
            (home_set IsOf pieces s.homes s.views k.serving k.history id v both at refl k.home);
        places = λ p. omega (
          arith,
          total_set (times_in p) views other w spent_view there,
          total_set (times_in p) s.views id v both at,
          k.places p,
          times_merged p v.owned w.owned,
        );
        whole = omega (arith, total_set pieces_in views other w spent_view there, total_set pieces_in s.views id v both at, k.whole);
      }

  -- a pass that was joined compares the two lists
  pub settles : (slots id : ℕ) (m : Me (Kept M) View) → m.0.stage ≡ Idle → 0 < m.0.pieces → length m.0.beside ≤ length m.0.seen →
      Allows (Turns IsOf pieces) slots id m 0 (λ n. n) (settled (step slots 0 0 0 none) m)
  settles slots id m idle some_pieces short s k long at range =
      let own = k.each id m.0 at in
      let w : View = knows Idle m.0.seen m.0.owned m.0.pieces in (
        w,
        keeps,
        tt,
        keeps_rule IsOf pieces s k id m.0 w at (set s.words 0 (get_or s.words 0 0)) s.homes k.ticket k.serving k.history k.owner
            (ap (λ ws. set ws 0 (get_or ws 0 0)) k.words) k.order k.low (λ j u ne there old. old)
            record {
              turn = tt;
              seen = own.seen;
              beside = (k.history, refl);
              owned = own.owned;
              spent = λ empty. absurd (omega arith);
            }
            (queue_same s.views id m.0 w k.ticket k.serving k.owner at (sym (ap ticket_of idle)) k.queue)
            (home_set IsOf pieces s.homes s.views k.serving k.history id m.0 w at (sym idle) k.home)
            (λ p. refl) refl,
        (refl, begins_two m.0.beside m.0.seen k.history own.beside own.seen short, own.owned),
      )
