-- The steps of a turn keep the rule.
use Rattle.std.proofs.Common.{◌≡◌, ◌≢◌, ℕ, ◌+◌, ◌%◌, ◌^◌, ◌<◌, ◌≤◌, ◌==◌, List, [], ◌∷◌, ◌++◌, length, get_or, set, refl, sym, ap, ◌∙◌, subst, inl, inr}
use Rattle.std.proofs.Common.{arith, length-append, if◌then◌else◌, eq-eqb, ne_eqb}
use mathlib.Core.Logic.{dite}
use mathlib.Core.Option.{Option, none, some, some-injective, some-ne-none}
use native.Mathlib.Decide.{ℕ_discrete}
use prog.Atomic.{either}
use lib.ListN.{get_elem?}
use Rattle.tardis_base.specs.Plain.{Event}
use Rattle.atomic_table.specs.Table.{State, Me, Act, step, keeps, takes, gives, Valid, Allows, stepped, carried_after, put_back, rest}
use Rattle.atomic_table.proofs.Lists.{exchanged, set_else}
use Rattle.trail_log.specs.Trail.{Kept}
use Rattle.dag_lock.specs.declared.views.View.{View}
use Rattle.dag_lock.specs.declared.views.Stage.{Stage}
use Rattle.dag_lock.specs.declared.views.Stage.TheVariants.{Idle, Waits, Takes}
use Rattle.dag_lock.specs.Known.{Begins, Ascends}
use Rattle.dag_lock.specs.Turns.{knows, spent_view, times, once_below, ticket_of, InTurn, Home, Turns}
use Rattle.dag_lock.specs.Told.{drawn, looked, kept, added, trail_held}
use Rattle.dag_lock.proofs.Fronts.{begins_same, begins_is, begins_then, begins_length}
use Rattle.dag_lock.proofs.Places.{ascends_more, ascends_snoc, times_snoc, once_more}
use Rattle.dag_lock.proofs.Keeping.{set_there, one_there, queue_set, queue_same, keeps_rule, unchanged}

-- a pass at another stage isn't spent
pub not_spent : (v : View) (t : ℕ) → v.stage ≡ Waits t → (v.pieces ≡ 0 → v ≡ spent_view) → v.pieces ≢ 0
not_spent v t at spent empty = let idle : Waits t ≡ Idle = sym at ∙ ap (λ (u : View). u.stage) (spent empty) in cc

pub not_spent_taken : (v : View) (t : ℕ) → v.stage ≡ Takes t → (v.pieces ≡ 0 → v ≡ spent_view) → v.pieces ≢ 0
not_spent_taken v t at spent empty = let idle : Takes t ≡ Idle = sym at ∙ ap (λ (u : View). u.stage) (spent empty) in cc

next_is : (n : ℕ) → n < 18446744073709551615 → (n + 1) % 18446744073709551616 ≡ n + 1
next_is n low = omega arith

module _ {M : Type 0} (IsOf : Kept M → Type 0) (pieces : ℕ) where
  -- the machine's home where a view changes that doesn't have it
  home_other : (homes : List (Option (Kept M))) (views : List View) (serving : ℕ) (history : List Event) (id : ℕ) (v w : View)
      → get_elem? views id ≡ some v → (v.stage ≢ Takes serving) → Home IsOf pieces homes views serving history →
      Home IsOf pieces homes (set views id w) serving history
  home_other homes views serving history id v w at apart home =
      elim home [
        | inl here ↦ inl here
        | inr away ↦
            let holder = away.1 in
            let ne : holder.0 ≢ id = λ e. apart (ap (λ (u : View). u.stage) (one_there views id holder.0 v holder.1 at holder.2 (sym e)) ∙ holder.3) in
            inr (away.0, (holder.0, holder.1, set_else views id holder.0 w ne ∙ holder.2, holder.3))
      ]

  -- where a ticket more is drawn, others stand as before
  draws_other : (homes : List (Option (Kept M))) (ticket serving id : ℕ) (owner keeper : ℕ → ℕ) (history seen : List Event) (j : ℕ) (stage : Stage)
      → ((t : ℕ) → t < ticket → keeper t ≡ owner t) → InTurn IsOf pieces homes ticket serving owner history j seen stage →
      InTurn IsOf pieces homes (ticket + 1) serving keeper history j seen stage
  draws_other homes ticket serving id owner keeper history seen j Idle same turn = tt
  draws_other homes ticket serving id owner keeper history seen j (Waits t) same turn = (turn.0, omega (arith, turn.1), same t turn.1 ∙ turn.2)
  draws_other homes ticket serving id owner keeper history seen j (Takes t) same turn = (turn.0, omega (arith, turn.1), same t turn.1 ∙ turn.2, turn.3, turn.4)

  -- the owner of a ticket that was drawn, and of those before it
  abbrev given_to : ℕ → ℕ → (ℕ → ℕ) → ℕ → ℕ
  given_to ticket id owner t = if t == ticket then id else owner t

  given_here : (ticket id : ℕ) (owner : ℕ → ℕ) (t : ℕ) → t ≡ ticket → given_to ticket id owner t ≡ id
  given_here ticket id owner t e = rw (eq-eqb t ticket e) refl

  given_else : (ticket id : ℕ) (owner : ℕ → ℕ) (t : ℕ) → t ≢ ticket → given_to ticket id owner t ≡ owner t
  given_else ticket id owner t ne = rw (ne_eqb t ticket ne) refl

  -- a pass without a ticket draws the next one
  draws_one : (s : State (Kept M) View) (k : Turns IsOf pieces s) (id : ℕ) (v : View) → get_elem? s.views id ≡ some v → v.stage ≡ Idle → 0 < v.pieces →
      k.ticket < 18446744073709551615
      → Turns IsOf pieces record {
        words = set s.words 0 (k.ticket + 1);
        homes = s.homes;
        views =
            set s.views id (knows (Waits k.ticket) v.seen v.owned v.pieces);
      }
  draws_one s k id v at idle some_pieces low =
      let own = k.each id v at in
      let keeper = given_to k.ticket id k.owner in
      let w : View = knows (Waits k.ticket) v.seen v.owned v.pieces in
      keeps_rule IsOf pieces s k id v w at (set s.words 0 (k.ticket + 1)) s.homes (k.ticket + 1) k.serving k.history keeper
      (ap (λ ws. set ws 0 (k.ticket + 1)) k.words) (omega (arith, k.order)) (omega arith)
      (λ j u ne there old. record {
        turn = draws_other s.homes k.ticket k.serving id k.owner keeper k.history u.seen j u.stage
            (λ t below. given_else k.ticket id k.owner t (λ e. omega arith)) old.turn;
        seen = old.seen;
        beside = old.beside;
        owned = old.owned;
        spent = old.spent;
      })
      record {
        turn = (k.order, omega arith, given_here k.ticket id k.owner k.ticket refl);
        seen = own.seen;
        beside = (k.history, refl);
        owned = own.owned;
        spent = λ empty. absurd (omega arith);
      }
      (queue_set s.views id v w k.ticket k.serving (k.ticket + 1) k.serving k.owner keeper at k.queue
      (λ t from below.
      dite (ℕ_discrete t k.ticket)
      (λ e. inl (given_here k.ticket id k.owner t e, ap some (sym e)))
      (λ ne. inr (
        given_else k.ticket id k.owner t ne,
        from,
        omega arith,
        λ held. some-ne-none t (sym held ∙ ap ticket_of idle),
      ))))
      (home_other s.homes s.views k.serving k.history id v w at (λ taken. let both : Idle ≡ Takes k.serving = sym idle ∙ taken in cc) k.home)
      (λ p. refl) refl

  -- the ticket that a pass saw is drawn where it is still the next one
  pub draws : (slots id : ℕ) (m : Me (Kept M) View) (old : ℕ) → old < 18446744073709551615 → m.0.stage ≡ Idle → 0 < m.0.pieces
      → Allows (Turns IsOf pieces) slots id m 0 (λ n. either (n == old) (old + 1) n) (drawn (step slots 0 old (old + 1) none) m)
  draws slots id m old low idle some_pieces s k long at range =
      let next : get_or s.words 0 0 ≡ k.ticket = ap (λ ws. get_or ws 0 0) k.words in
      exchanged (get_or s.words 0 0) old (old + 1)
      (λ x. (w : View) × (a : Act (Kept M)) × Valid s.homes m.1 a × Turns IsOf pieces (stepped s 0 x id m.1 w a)
      × drawn (step slots 0 old (old + 1) none) m (get_or s.words 0 0) (w, carried_after m.1 a))
      (λ hit.
      let same : old ≡ k.ticket = sym hit ∙ next in (
        knows (Waits (get_or s.words 0 0)) m.0.seen m.0.owned m.0.pieces,
        keeps,
        tt,
        subst (λ n. Turns IsOf pieces record {
          words = set s.words 0 (old + 1);
          homes = s.homes;
          views =
              set s.views id (knows (Waits n) m.0.seen m.0.owned m.0.pieces);
        }) (sym next)
            (subst (λ n. Turns IsOf pieces record {
              words = set s.words 0 (n + 1);
              homes = s.homes;
              views =
                  set s.views id (knows (Waits k.ticket) m.0.seen m.0.owned m.0.pieces);
            }) (sym same)
            (draws_one s k id m.0 at idle some_pieces (omega arith))),
        ((λ _. refl), λ miss. absurd (miss hit)),
      ))
      (λ miss. (m.0, keeps, tt, unchanged IsOf pieces s k 0 id m.0 m.1 at, ((λ hit. absurd (miss hit)), λ _. refl)))

  -- where the served pass takes the machine, others stand as before
  looks_other : (homes : List (Option (Kept M))) (ticket serving id : ℕ) (owner : ℕ → ℕ) (history seen : List Event) (j : ℕ) (stage : Stage)
      → owner serving ≡ id → j ≢ id → InTurn IsOf pieces homes ticket serving owner history j seen stage →
      InTurn IsOf pieces (none ∷ []) ticket serving owner history j seen stage
  looks_other homes ticket serving id owner history seen j Idle mine ne turn = tt
  looks_other homes ticket serving id owner history seen j (Waits t) mine ne turn = turn
  looks_other homes ticket serving id owner history seen j (Takes t) mine ne turn = absurd (ne (sym turn.2 ∙ (ap owner turn.0 ∙ mine)))

  -- the pass whose ticket is served takes the machine
  takes_it : (s : State (Kept M) View) (k : Turns IsOf pieces s) (id : ℕ) (v : View) (x : Kept M) (t : ℕ) → get_elem? s.views id ≡ some v →
      v.stage ≡ Waits t → t ≡ k.serving
      → s.homes ≡ some x ∷ [] → x.trail ≡ k.history
      → Turns IsOf pieces record {
        words = set s.words 1 (get_or s.words 1 0);
        homes = set s.homes 0 none;
        views =
            set s.views id (knows (Takes t) x.trail v.owned v.pieces);
      }
  takes_it s k id v x t at waits served home trail =
      let own = k.each id v at in
      let turn : (k.serving ≤ t) × (t < k.ticket) × (k.owner t ≡ id) =
      subst (InTurn IsOf pieces s.homes k.ticket k.serving k.owner k.history id v.seen) waits own.turn in
      let mine : k.owner k.serving ≡ id = ap k.owner (sym served) ∙ turn.2 in
      let gone : set s.homes 0 none ≡ none ∷ [] = ap (λ hs. set hs 0 none) home in
      let w : View = knows (Takes t) x.trail v.owned v.pieces in
      subst (λ hs. Turns IsOf pieces record { words = set s.words 1 (get_or s.words 1 0); homes = hs; views = set s.views id w }) (sym gone)
      (keeps_rule IsOf pieces s k id v w at (set s.words 1 (get_or s.words 1 0)) (none ∷ []) k.ticket k.serving k.history k.owner
      (ap (λ ws. set ws 1 (get_or ws 1 0)) k.words) k.order k.low
      (λ j u ne there old. record {
        turn = looks_other s.homes k.ticket k.serving id k.owner k.history u.seen j u.stage mine ne old.turn;
        seen = old.seen;
        beside = old.beside;
        owned = old.owned;
        spent = old.spent;
      })
      record {
        turn = (served, turn.1, turn.2, trail, refl);
        seen = begins_is x.trail k.history trail;
        beside = (k.history, refl);
        owned = ascends_more 0 (length v.seen) (length x.trail) v.owned own.owned (omega (arith, begins_length v.seen k.history own.seen, ap length trail));
        spent = λ empty. absurd (not_spent v t waits own.spent empty);
      }
      (queue_same s.views id v w k.ticket k.serving k.owner at (sym (ap ticket_of waits)) k.queue)
      (inr (refl, (id, w, set_there s.views id v w at, ap Takes served)))
      (λ p. refl) refl)

  -- a pass that waits looks whether its ticket is served
  pub looks : (Z : Kept M → Type 0) → ((x : Kept M) → IsOf x → Z x) → (slots id : ℕ) (m : Me (Kept M) View) (t : ℕ) → m.0.stage ≡ Waits t
      → Allows (Turns IsOf pieces) slots id m 1 (λ n. n) (looked Z (step slots 1 0 0 none) m)
  looks Z kin slots id m t waits s k long at range =
      let found : get_or s.words 1 0 ≡ k.serving = ap (λ ws. get_or ws 1 0) k.words in
      let own = k.each id m.0 at in
      let turn : (k.serving ≤ t) × (t < k.ticket) × (k.owner t ≡ id) =
      subst (InTurn IsOf pieces s.homes k.ticket k.serving k.owner k.history id m.0.seen) waits own.turn in
      dite (ℕ_discrete t (get_or s.words 1 0))
      (λ hit.
      let served : t ≡ k.serving = hit ∙ found in
      elim k.home [
        | inl here ↦
            let x = here.0 in (
              knows (Takes (get_or s.words 1 0)) x.trail m.0.owned m.0.pieces,
              takes 0 x,
              ap (λ hs. get_elem? hs 0) here.1,
              subst (λ n. Turns IsOf pieces record {
                words = set s.words 1 (get_or s.words 1 0);
                homes = set s.homes 0 none;
                views =
                    set s.views id (knows (Takes n) x.trail m.0.owned m.0.pieces);
              }) hit
                  (takes_it s k id m.0 x t at waits served here.1 here.2),
              (
                (λ _. (x, refl, subst (Begins m.0.seen) (sym here.2) own.seen, kin x here.3)),
                λ miss. absurd (miss (waits ∙ ap Waits hit)),
              ),
            )
        | inr away ↦
            let holder = away.1 in
            let held = (k.each holder.0 holder.1 holder.2).turn in
            let taken : (k.serving ≡ k.serving) × (k.serving < k.ticket) × (k.owner k.serving ≡ holder.0) × (holder.1.seen ≡ k.history)
            × (s.homes ≡ none ∷ []) = subst (InTurn IsOf pieces s.homes k.ticket k.serving k.owner k.history holder.0 holder.1.seen) holder.3 held in
            let me : id ≡ holder.0 = sym turn.2 ∙ (ap k.owner served ∙ taken.2) in
            let both : Waits t ≡ Takes k.serving = sym waits
            ∙ (ap (λ (u : View). u.stage) (one_there s.views id holder.0 m.0 holder.1 at holder.2 me) ∙ holder.3) in
            cc
      ])
      (λ miss. (
        m.0,
        keeps,
        tt,
        unchanged IsOf pieces s k 1 id m.0 m.1 at,
        ((λ hit. let both : Waits t ≡ Waits (get_or s.words 1 0) = sym waits ∙ hit in absurd (miss (cc))), λ _. refl),
      ))

  -- where the turn is passed on, those that wait still do
  passes_other : (homes after : List (Option (Kept M))) (ticket serving id : ℕ) (owner : ℕ → ℕ) (history later seen : List Event) (j : ℕ) (stage : Stage)
      → owner serving ≡ id → j ≢ id → InTurn IsOf pieces homes ticket serving owner history j seen stage →
      InTurn IsOf pieces after ticket (serving + 1) owner later j seen stage
  passes_other homes after ticket serving id owner history later seen j Idle mine ne turn = tt
  passes_other homes after ticket serving id owner history later seen j (Waits t) mine ne turn =
      let other : t ≢ serving = λ e. ne (sym turn.2 ∙ (ap owner e ∙ mine)) in
      (omega (arith, turn.0), turn.1, turn.2)
  passes_other homes after ticket serving id owner history later seen j (Takes t) mine ne turn = absurd (ne (sym turn.2 ∙ (ap owner turn.0 ∙ mine)))

  -- The pass that has the machine puts it back and passes the turn on. The trail may have grown, by places that the pass
  -- then owns.
  hands_on : (s : State (Kept M) View) (k : Turns IsOf pieces s) (id : ℕ) (v : View) (y : Kept M) (t : ℕ) (owned : List ℕ) → get_elem? s.views id ≡ some v
      → v.stage ≡ Takes t
      → IsOf y → Begins v.seen y.trail → Ascends 0 (length y.trail) owned →
      ((p : ℕ) → times p owned + once_below p (length v.seen) ≡ times p v.owned + once_below p (length y.trail))
      → Turns IsOf pieces record {
        words = set s.words 1 ((get_or s.words 1 0 + 1) % 18446744073709551616);
        homes = set s.homes 0 (some y);
        views =
            set s.views id (knows Idle y.trail owned v.pieces);
      }
  hands_on s k id v y t owned at taken is grown up places =
      let own = k.each id v at in
      let turn : (t ≡ k.serving) × (t < k.ticket) × (k.owner t ≡ id) × (v.seen ≡ k.history) × (s.homes ≡ none ∷ []) =
      subst (InTurn IsOf pieces s.homes k.ticket k.serving k.owner k.history id v.seen) taken own.turn in
      let mine : k.owner k.serving ≡ id = ap k.owner (sym turn.0) ∙ turn.2 in
      let found : get_or s.words 1 0 ≡ k.serving = ap (λ ws. get_or ws 1 0) k.words in
      let later : Begins k.history y.trail = subst (λ h. Begins h y.trail) turn.3 grown in
      let next : (get_or s.words 1 0 + 1) % 18446744073709551616 ≡ k.serving + 1 = ap (λ n. (n + 1) % 18446744073709551616) found
      ∙ next_is k.serving (omega (arith, turn.0, turn.1, k.low)) in
      let back : set s.homes 0 (some y) ≡ some y ∷ [] = ap (λ hs. set hs 0 (some y)) turn.4 in
      let w : View = knows Idle y.trail owned v.pieces in
      subst (λ hs. Turns IsOf pieces record {
        words = set s.words 1 ((get_or s.words 1 0 + 1) % 18446744073709551616);
        homes = hs;
        views =
            set s.views id w;
      }) (sym back)
      (keeps_rule IsOf pieces s k id v w at (set s.words 1 ((get_or s.words 1 0 + 1) % 18446744073709551616)) (some y ∷ []) k.ticket
      (k.serving + 1) y.trail k.owner
      (ap (λ n. set s.words 1 n) next ∙ ap (λ ws. set ws 1 (k.serving + 1)) k.words) (omega (arith, turn.0, turn.1)) k.low
      (λ j u ne there old. record {
        turn = passes_other s.homes (some y ∷ []) k.ticket k.serving id k.owner k.history y.trail u.seen j u.stage mine ne old.turn;
        seen = begins_then u.seen k.history y.trail old.seen later;
        beside = begins_then u.beside k.history y.trail old.beside later;
        owned = old.owned;
        spent = old.spent;
      })
      record {
        turn = tt;
        seen = begins_same y.trail;
        beside = (y.trail, refl);
        owned = up;
        spent = λ empty. absurd (not_spent_taken v t taken own.spent empty);
      }
      (queue_set s.views id v w k.ticket k.serving k.ticket (k.serving + 1) k.owner k.owner at k.queue
      (λ u from below. inr (
        refl,
        omega arith,
        below,
        λ held. let same : some t ≡ some u = sym (ap ticket_of taken) ∙ held in let is : t ≡ u = some-injective t u same in absurd (omega (arith, turn.0)),
      )))
      (inl (y, refl, refl, is))
      (λ p. omega (arith, places p, ap (λ h. once_below p (length h)) turn.3)) refl)

  -- the machine goes back as it was taken, or with the same trail
  pub passes_kept : (slots id : ℕ) (m : Me (Kept M) View) (y : Kept M) (t : ℕ) → m.0.stage ≡ Takes t → m.1 ≡ (0, y) ∷ [] → IsOf y → y.trail ≡ m.0.seen
      → Allows (Turns IsOf pieces) slots id m 1 (λ n. (n + 1) % 2 ^ 64) (kept (step slots 1 1 0 none) m)
  passes_kept slots id m y t taken is of same s k long at range =
      let own = k.each id m.0 at in
      let next : ℕ = (get_or s.words 1 0 + 1) % 18446744073709551616 in
      let w : View = knows Idle m.0.seen m.0.owned m.0.pieces in (
        w,
        gives,
        tt,
        subst (λ (c : List (ℕ × Kept M)). Turns IsOf pieces record { words = set s.words 1 next; homes = put_back s.homes c; views = set s.views id w })
            (sym is)
            (subst (λ seen. Turns IsOf pieces record {
              words = set s.words 1 next;
              homes = set s.homes 0 (some y);
              views =
                  set s.views id (knows Idle seen m.0.owned m.0.pieces);
            }) same
            (hands_on s k id m.0 y t m.0.owned at taken of (begins_is m.0.seen y.trail (sym same))
            (subst (λ seen. Ascends 0 (length seen) m.0.owned) (sym same) own.owned)
            (λ p. ap (λ seen. times p m.0.owned + once_below p (length seen)) (sym same)))),
        ap (λ (c : List (ℕ × Kept M)). (w, rest c)) is,
      )

  -- the machine goes back with an entry more
  pub passes_added : (slots id : ℕ) (m : Me (Kept M) View) (y : Kept M) (t : ℕ) (e : Event) → m.0.stage ≡ Takes t → m.1 ≡ (0, y) ∷ [] → IsOf y →
      y.trail ≡ m.0.seen ++ e ∷ []
      → Allows (Turns IsOf pieces) slots id m 1 (λ n. (n + 1) % 2 ^ 64) (added (step slots 1 1 0 none) m)
  passes_added slots id m y t e taken is of more s k long at range =
      let own = k.each id m.0 at in
      let next : ℕ = (get_or s.words 1 0 + 1) % 18446744073709551616 in
      let count : length y.trail ≡ length m.0.seen + 1 = ap length more ∙ omega (arith, length-append m.0.seen (e ∷ [])) in
      let owned : List ℕ = m.0.owned ++ length m.0.seen ∷ [] in
      let w : View = knows Idle (trail_held m.1) owned m.0.pieces in
      let trail : trail_held m.1 ≡ y.trail = ap trail_held is in (
        w,
        gives,
        tt,
        subst (λ (c : List (ℕ × Kept M)). Turns IsOf pieces record { words = set s.words 1 next; homes = put_back s.homes c; views = set s.views id w })
            (sym is)
            (subst (λ seen. Turns IsOf pieces record {
              words = set s.words 1 next;
              homes = set s.homes 0 (some y);
              views =
                  set s.views id (knows Idle seen owned m.0.pieces);
            }) (sym trail)
            (hands_on s k id m.0 y t owned at taken of (e ∷ [], more)
            (subst (λ n. Ascends 0 n owned) (sym count) (ascends_snoc 0 (length m.0.seen) m.0.owned own.owned (omega arith)))
            (λ p. omega (arith, times_snoc p m.0.owned (length m.0.seen), once_more p (length m.0.seen), ap (once_below p) count)))),
        ap (λ (c : List (ℕ × Kept M)). (w, rest c)) is,
      )
