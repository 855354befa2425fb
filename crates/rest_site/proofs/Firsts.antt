-- Of promises that are seen one behind another the first that arrived no later than any other is kept; and whose it is is what the site tells.
use Rattle.std.proofs.Common.{◌≡◌, ℕ, ◌+◌, ◌-◌, ◌==◌, ◌<◌, ◌≤◌, Bool, true, false, ◌&&◌, not, length, List, [], ◌∷◌, ◌++◌, map, filter, Option, Some, None, IsTrue, IsFalse, ◌⊎◌, inl, inr, refl, sym, ap, subst, ◌∙◌, arith, if◌then◌else◌}
use Rattle.std.specs.Prelude.{nat_le, nat_lt, find, filter_map}
use Rattle.std.specs.List.{All, range_with_len, cons_option}
use Rattle.std.specs.Map.{values_of}
use Rattle.std.proofs.lemmas.List.Elements.{All-head, All-tail}
use Rattle.tardis_base.specs.declared.ids.StateId.{StateId}
use Rattle.tardis_base.specs.declared.records.Record.{Record}
use Rattle.plain_dag.specs.Floors.{Session, Sessions, Floor, floor_of}
use Rattle.state_dag.specs.Table.{Table, id_at, is_slot}
use Rattle.state_dag.specs.Stands.{Stands}
use Rattle.ceiling_book.specs.declared.parts.OpenSession.{OpenSession}
use Rattle.ceiling_book.specs.Book.{Book, session_of, sessions_of, floors_of}
use Rattle.ceiling_book.specs.Places.{IsAt, IsSlotOf, AreSlots, ArePlaced}
use Rattle.ceiling_book.specs.Floors.{each_ceiling}
use Rattle.std.proofs.lemmas.Bool.{cases_Bool, cond-true, cond-false, and_parts, and_from, false_from_ne_true, both_ways, leb-true, le-leb, ltb-true, ltb-false, eqb-true, eq-eqb}
use Rattle.plain_site.specs.Site.{Site}
use Rattle.session_core.specs.Core.{Core}
use Rattle.session_core.specs.Stands.{CoreStands}
use Rattle.rest_site.specs.declared.oldest.Holder.{Holder}
use Rattle.rest_site.specs.declared.oldest.Holder.TheVariants.{OtherSite, Session as Open}
use Rattle.rest_site.specs.declared.oldest.Promise.{Promise}
use Rattle.rest_site.specs.Oldest.{promise_of, ceilings, floors_of_others, is_first, first_of, holder_of, what_holds}
use Rattle.rest_site.specs.Ceilings.{earlier, seen, kept_behind, first_in_book}

-- ===== Promises, one behind another

find-alike : (p q : Promise → Bool) → ((c : Promise) → p c ≡ q c) → (cs : List Promise) → find p cs ≡ find q cs
find-alike p q alike [] = refl
find-alike p q alike (c ∷ cs) = let here = alike c in let rest = find-alike p q alike cs in rw here rw rest refl

-- what follows from the next needn't be asked
swallowed : (p q r : Bool) → (q ≡ true → p ≡ true) → (p && (q && r)) ≡ (q && r)
swallowed true q r follows = refl
swallowed false false r follows = refl
swallowed false true r follows = absurd (both_ways false refl (follows refl))

passed : (p q r : Bool) → (p ≡ true → q ≡ true) → (p && (q && r)) ≡ (p && r)
passed true true r follows = refl
passed true false r follows = absurd (both_ways false refl (follows refl))
passed false q r follows = refl

-- what is first behind a later one is first behind an earlier one
first-before : (c d : Promise) → c.arrival ≤ d.arrival → (cs : List Promise) → IsTrue (is_first cs d) → IsTrue (is_first cs c)
first-before c d le [] first = refl
first-before c d le (e ∷ cs) first =
    let parts = and_parts (nat_le d.arrival e.arrival) (is_first cs d) first in
    let here = leb-true d.arrival e.arrival parts.0 in
    and_from (nat_le c.arrival e.arrival) (is_first cs c) (le-leb c.arrival e.arrival (omega (arith, here, le))) (first-before c d le cs parts.1)

-- one that arrived behind the next is no longer looked at
passed-over : (c d : Promise) (cs : List Promise) → IsTrue (nat_lt d.arrival c.arrival) → first_of (d ∷ cs) ≡ first_of (c ∷ d ∷ cs)
passed-over c d cs later =
    let lt = ltb-true d.arrival c.arrival later in
    let all = is_first (c ∷ d ∷ cs) in
    let isnt : IsFalse (all c) = false_from_ne_true (all c) (λ t.
    let le = leb-true c.arrival d.arrival (and_parts (nat_le c.arrival d.arrival) (is_first cs c) (and_parts (nat_le c.arrival c.arrival) (is_first (d ∷ cs) c) t).1).0 in
    let bad : ⊥ = omega (arith, le, lt) in bad) in
    sym (cond-false (all c) (Some c) (find all (d ∷ cs)) isnt
    ∙ find-alike all (is_first (d ∷ cs)) (λ e. swallowed (nat_le e.arrival c.arrival) (nat_le e.arrival d.arrival) (is_first cs e) (λ t.
    le-leb e.arrival c.arrival (let le = leb-true e.arrival d.arrival t in omega (arith, le, lt)))) (d ∷ cs))

-- one that arrived no later than the next stays
stays : (c d : Promise) (cs : List Promise) → IsFalse (nat_lt d.arrival c.arrival) → first_of (c ∷ cs) ≡ first_of (c ∷ d ∷ cs)
stays c d cs isnt =
    sym (find-alike (is_first (c ∷ d ∷ cs)) few
    (λ e. passed (nat_le e.arrival c.arrival) (nat_le e.arrival d.arrival) (is_first cs e) (λ t.
    le-leb e.arrival d.arrival (let before = leb-true e.arrival c.arrival t in omega (arith, before, le)))) (c ∷ d ∷ cs)
    ∙ skipped (cases_Bool (few c)))
  where
    few : Promise → Bool
    few = is_first (c ∷ cs)

    le : c.arrival ≤ d.arrival
    le = ltb-false d.arrival c.arrival isnt

    -- of two that arrived together the former is found
    neither : few c ≡ false → few d ≡ false
    neither f = false_from_ne_true (few d) (λ t. both_ways (few c) f
        (and_from (nat_le c.arrival c.arrival) (is_first cs c) (le-leb c.arrival c.arrival (omega arith))
        (first-before c d le cs (and_parts (nat_le d.arrival c.arrival) (is_first cs d) t).1)))

    skipped : (few c ≡ true) ⊎ (few c ≡ false) → find few (c ∷ d ∷ cs) ≡ find few (c ∷ cs)
    skipped (inl t) = cond-true (few c) (Some c) (find few (d ∷ cs)) t ∙ sym (cond-true (few c) (Some c) (find few cs) t)
    skipped (inr f) =
        cond-false (few c) (Some c) (find few (d ∷ cs)) f
        ∙ (cond-false (few d) (Some d) (find few cs) (neither f) ∙ sym (cond-false (few c) (Some c) (find few cs) f))

pub kept-is_first : (c : Promise) (cs : List Promise) → kept_behind (Some c) cs ≡ first_of (c ∷ cs)
kept-is_first c [] = sym (cond-true (is_first (c ∷ []) c) (Some c) None (and_from (nat_le c.arrival c.arrival) true (le-leb c.arrival c.arrival (omega arith)) refl))
kept-is_first c (d ∷ cs) = elim (cases_Bool (nat_lt d.arrival c.arrival)) [
  | inl t ↦ ap (λ (k : Promise). kept_behind (Some k) cs) (cond-true (nat_lt d.arrival c.arrival) d c t) ∙ (kept-is_first d cs ∙ passed-over c d cs t)
  | inr f ↦ ap (λ (k : Promise). kept_behind (Some k) cs) (cond-false (nat_lt d.arrival c.arrival) d c f) ∙ (kept-is_first c cs ∙ stays c d cs f)
]

pub all-kept : (cs : List Promise) → kept_behind None cs ≡ first_of cs
all-kept [] = refl
all-kept (c ∷ cs) = kept-is_first c cs

kept-append : (kept : Option Promise) (ps qs : List Promise) → kept_behind kept (ps ++ qs) ≡ kept_behind (kept_behind kept ps) qs
kept-append kept [] qs = refl
kept-append kept (p ∷ ps) qs = kept-append (Some (earlier kept p)) ps qs

-- ===== Promises that can move

-- the next is looked at: of what is one promise or none of each
pub next-seen : {A : Type 0} (f : A → Option Promise) (kept : Option Promise) (x : A) (xs : List A) (next : Option Promise) → next ≡ seen kept (f x) →
    kept_behind next (filter_map f xs) ≡ kept_behind kept (filter_map f (x ∷ xs))
next-seen f kept x xs next is = ap (λ (o : Option Promise). kept_behind o (filter_map f xs)) is ∙ go (f x)
  where
    go : (o : Option Promise) → kept_behind (seen kept o) (filter_map f xs) ≡ kept_behind kept (cons_option o (filter_map f xs))
    go None = refl
    go (Some p) = refl

-- ===== Of sessions

-- each ceiling has a slot of the table
slots-each : (table : Table) (es : List (ℕ × OpenSession)) → All (λ (s : OpenSession). IsSlotOf table s.ceiling) (values_of es) →
    IsTrue (each_ceiling (is_slot table) es)
slots-each table [] at = refl
slots-each table (e ∷ es) at =
    and_from (is_slot table e.1.ceiling.slot) (each_ceiling (is_slot table) es)
    (All-head (λ (s : OpenSession). IsSlotOf table s.ceiling) e.1 (values_of es) at)
    (slots-each table es (All-tail (λ (s : OpenSession). IsSlotOf table s.ceiling) e.1 (values_of es) at))

pub each-has_slot : (book : Book) (table : Table) → AreSlots book table → IsTrue (each_ceiling (is_slot table) book.sessions)
each-has_slot book table slots = slots-each table book.sessions slots.ceilings

-- a session's ceiling, as a promise
abbrev pub ceiling_of : List Record → ℕ × Session → Option Promise
ceiling_of rs s = promise_of rs (Open s.0) s.1.ceiling

-- sessions as they are kept
abbrev pub plain_sessions : List (ℕ × OpenSession) → Sessions
plain_sessions es = map (λ (e : ℕ × OpenSession). (e.0, session_of e.1)) es

-- their ceilings are kept at their slots
abbrev pub AreAt : Table → List (ℕ × OpenSession) → Type 0
AreAt table es = All (λ (s : OpenSession). IsAt table s.ceiling) (values_of es)

module _ (table : Table) (all es : List (ℕ × OpenSession)) (n : ℕ) (s : OpenSession) (is : all ≡ (n, s) ∷ es) where
  -- so has the next, and each behind it
  both : IsTrue (each_ceiling (is_slot table) all) → IsTrue (is_slot table s.ceiling.slot) × IsTrue (each_ceiling (is_slot table) es)
  both h = and_parts (is_slot table s.ceiling.slot) (each_ceiling (is_slot table) es) (subst (λ (z : List (ℕ × OpenSession)). IsTrue (each_ceiling (is_slot table) z)) is h)

  pub next-has_slot : IsTrue (each_ceiling (is_slot table) all) → IsTrue (is_slot table s.ceiling.slot)
  next-has_slot h = (both h).0

  pub rest-has_slots : IsTrue (each_ceiling (is_slot table) all) → IsTrue (each_ceiling (is_slot table) es)
  rest-has_slots h = (both h).1

  next-at : AreAt table all → AreAt table ((n, s) ∷ es)
  next-at at = subst (λ (z : List (ℕ × OpenSession)). AreAt table z) is at

  -- the next ceiling is looked at, and those behind it are at their slots
  pub next-ceiling : (rs : List Record) (kept told next whole : Option Promise) → next ≡ seen kept told →
      ((x : StateId) → id_at table s.ceiling.slot ≡ Some x → told ≡ promise_of rs (Open n) x) →
      AreAt table all × (kept_behind kept (ceilings rs (plain_sessions all)) ≡ whole) →
      AreAt table es × (kept_behind next (ceilings rs (plain_sessions es)) ≡ whole)
  next-ceiling rs kept told next whole moved tells h =
      let here = All-head (λ (z : OpenSession). IsAt table z.ceiling) s (values_of es) (next-at h.0) in (
        All-tail (λ (z : OpenSession). IsAt table z.ceiling) s (values_of es) (next-at h.0),
        next-seen (ceiling_of rs) kept (n, session_of s) (plain_sessions es) next
            (moved ∙ ap (seen kept) (tells s.ceiling.state here))
            ∙ (sym (ap (λ (z : List (ℕ × OpenSession)). kept_behind kept (ceilings rs (plain_sessions z))) is) ∙ h.1),
      )

-- ===== The floors of others

module _ (rs : List Record) (own : ℕ) (floors : List Floor) where
  -- the floor of a site, as a promise
  abbrev pub floor_promise : ℕ → Option Promise
  floor_promise n = promise_of rs (OtherSite n) (floor_of floors n).state

  -- the numbers of others from a site on, up to another
  abbrev pub others_from : ℕ → ℕ → List ℕ
  others_from n end = filter (λ m. not (m == own)) (range_with_len n (end - n))

  -- their floors
  abbrev pub floors_from : ℕ → ℕ → List Promise
  floors_from n end = filter_map floor_promise (others_from n end)

  -- those from the first on, up to the one behind the last, are all
  pub all-others : (kept : Option Promise) → kept_behind kept (floors_from 1 (length floors + 1)) ≡ kept_behind kept (floors_of_others rs own floors)
  all-others kept =
      let e : length floors + 1 - 1 ≡ length floors = omega arith in
      ap (λ (k : ℕ). kept_behind kept (filter_map floor_promise (filter (λ m. not (m == own)) (range_with_len 1 k)))) e

  next-others : (n end : ℕ) (b : Bool) → n < end → (n == own) ≡ b → others_from n end ≡ (if not b then n ∷ others_from (n + 1) end else others_from (n + 1) end)
  next-others n end b less is =
      let e : end - n ≡ ℕ.suc (end - (n + 1)) = omega (arith, less) in
      ap (λ (k : ℕ). filter (λ m. not (m == own)) (range_with_len n k)) e
      ∙ ap (λ (c : Bool). if not c then n ∷ others_from (n + 1) end else others_from (n + 1) end) is

  -- the next one is looked at
  pub next-other : (n end : ℕ) (kept told next whole : Option Promise) → n < end → (n ≡ own → ⊥) → next ≡ seen kept told →
      told ≡ floor_promise n → kept_behind kept (floors_from n end) ≡ whole → kept_behind next (floors_from (n + 1) end) ≡ whole
  next-other n end kept told next whole less other moved tells same =
      next-seen floor_promise kept n (others_from (n + 1) end) next (moved ∙ ap (seen kept) tells)
      ∙ (sym (ap (λ (ns : List ℕ). kept_behind kept (filter_map floor_promise ns)) (next-others n end false less
      (false_from_ne_true (n == own) (λ t. other (eqb-true n own t))))) ∙ same)

  -- the own one isn't
  pub next-own : (n end : ℕ) (kept next whole : Option Promise) → n < end → n ≡ own → next ≡ kept →
      kept_behind kept (floors_from n end) ≡ whole → kept_behind next (floors_from (n + 1) end) ≡ whole
  next-own n end kept next whole less is moved same =
      ap (λ (o : Option Promise). kept_behind o (floors_from (n + 1) end)) moved
      ∙ (sym (ap (λ (ns : List ℕ). kept_behind kept (filter_map floor_promise ns)) (next-others n end true less (eq-eqb n own is))) ∙ same)

  -- none is left
  pub none-other : (n end : ℕ) (kept whole : Option Promise) → end ≤ n → kept_behind kept (floors_from n end) ≡ whole → kept ≡ whole
  none-other n end kept whole end_le same =
      let e : end - n ≡ 0 = omega (arith, end_le) in
      sym (ap (λ (k : ℕ). kept_behind kept (filter_map floor_promise (filter (λ m. not (m == own)) (range_with_len n k)))) e) ∙ same

-- ===== In a book, and in a site

pub book-tells : (book : Book) (rs : List Record) (o p : Option Promise) → o ≡ kept_behind None (ceilings rs (sessions_of book)) →
    p ≡ kept_behind o (floors_of_others rs book.own (floors_of book)) → p ≡ first_in_book rs book
book-tells book rs o p first is =
    let floors = floors_of_others rs book.own (floors_of book) in
    is ∙ (ap (λ (z : Option Promise). kept_behind z floors) first
    ∙ (sym (kept-append None (ceilings rs (sessions_of book)) floors) ∙ all-kept (ceilings rs (sessions_of book) ++ floors)))

module _ (core : Core) (site : Site) (stands : CoreStands core site) where
  site-first : first_in_book site.dag core.book ≡ first_of (ceilings site.dag site.sessions ++ floors_of_others site.dag site.own site.floors)
  site-first =
      ap (λ (ss : Sessions). first_of (ceilings site.dag ss ++ floors_of_others site.dag core.book.own (floors_of core.book))) stands.sessions
      ∙ (ap (λ (n : ℕ). first_of (ceilings site.dag site.sessions ++ floors_of_others site.dag n (floors_of core.book))) stands.own
      ∙ ap (λ (fs : List Floor). first_of (ceilings site.dag site.sessions ++ floors_of_others site.dag site.own fs)) stands.floors)

  pub site-tells : (book : Book) (table : Table) → book ≡ core.book → table ≡ core.store.table → (o : Option Promise) →
      ((rs : List Record) (ks : List StateId) → Stands table rs ks → ArePlaced book table rs ks → o ≡ first_in_book rs book) →
      (h : Holder) → ((rs : List Record) (ks : List StateId) → Stands table rs ks → h ≡ holder_of rs ks o) → h ≡ what_holds site
  site-tells book table book-is table-is o first h is =
      let at = subst (λ (t : Table). Stands t site.dag site.collected) (sym table-is) stands.store.table in
      let placed = subst (λ (t : Table). ArePlaced book t site.dag site.collected) (sym table-is)
      (subst (λ (b : Book). ArePlaced b core.store.table site.dag site.collected) (sym book-is) stands.placed) in
      is site.dag site.collected at
      ∙ ap (holder_of site.dag site.collected)
      (first site.dag site.collected at placed ∙ (ap (first_in_book site.dag) book-is ∙ site-first))
