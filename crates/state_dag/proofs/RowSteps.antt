-- A table after a row of states stands for the history with the row in front.
use Rattle.std.proofs.Common.{◌≡◌, ℕ, ◌+◌, ◌-◌, ◌<◌, ◌≤◌, true, false, cond, ◌||◌, eqb, leb, ltb, List, [], ◌∷◌, ◌++◌, length, set, None}
use Rattle.std.proofs.Common.{inl, inr, refl, sym, ap, subst, ◌∙◌, eq-eqb, arith}
use Rattle.std.specs.List.{list_all}
use Rattle.std.proofs.lemmas.Bool.{and_parts, or_parts, cases_Bool, both_ways, ne_eqb, ltb-false, leb-false, cond-false}
use Rattle.std.proofs.lemmas.Option.{none-some, unwrap_or-slice_get}
use Rattle.std.proofs.lemmas.List.{get_or-set_same, set-set}
use Rattle.std.proofs.lemmas.List.FromFn.{length-map-range_with_len}
use Rattle.tardis_base.specs.declared.ids.StateId.{StateId}
use Rattle.tardis_base.specs.declared.ids.Slot.{Slot}
use Rattle.tardis_base.specs.declared.records.Record.{Record}
use Rattle.tardis_base.specs.Keys.{KeyWrite}
use Rattle.tardis_base.specs.Valid.{are_writes}
use Rattle.plain_dag.specs.States.{count_of_site}
use Rattle.plain_dag.specs.Rows.{next_below, lengthened, row_left}
use Rattle.state_dag.specs.declared.rows.RowFault.TheVariants.{BadSite, Empty, SeqEnd}
use Rattle.state_dag.specs.Table.{Entry, Table}
use Rattle.state_dag.specs.Stands.{Stands}
use Rattle.state_dag.specs.Nodes.{AreDistinct}
use Rattle.state_dag.specs.Rows.{count_at, further, moved_on, with_last, advanced, row_fault}
use Rattle.state_dag.proofs.Known.{limits-parts}
use Rattle.state_dag.proofs.Calls.{counted}
use Rattle.state_dag.proofs.KeptEntries.{slots_of}
use Rattle.state_dag.proofs.RowHistories.{next-is_next}
use Rattle.state_dag.proofs.RowTables.{in_place, stands-row}

-- ===== What may arrive

-- a row that arrives
pub record IsAllowed (table : Table) (site n : ℕ) : Type 0 where
  pub first : 1 ≤ site
  pub last : site ≤ table.limits.sites
  pub some : 1 ≤ n
  pub fits : count_at table site + n < 4294967296

pub allowed : (table : Table) (site n : ℕ) → row_fault table site n ≡ None → IsAllowed table site n
allowed table site n none = elim (cases_Bool (eqb site 0 || ltb table.limits.sites site)) [
  | inl t ↦ absurd (none-some BadSite (sym (rw t at none)))
  | inr f ↦
      let numbers = or_parts (eqb site 0) (ltb table.limits.sites site) f in
      elim (cases_Bool (eqb n 0)) [
        | inl t ↦ absurd (none-some Empty (sym (rw (f, t) at none)))
        | inr g ↦ elim (cases_Bool (leb 4294967296 (count_at table site + n))) [
          | inl t ↦ absurd (none-some SeqEnd (sym (rw (f, g, t) at none)))
          | inr h ↦ (
              let last = ltb-false table.limits.sites site numbers.1 in
              let less = leb-false 4294967296 (count_at table site + n) h in
              let first : site ≡ 0 → ⊥ = λ e. both_ways (eqb site 0) numbers.0 (eq-eqb site 0 e) in
              let some : n ≡ 0 → ⊥ = λ e. both_ways (eqb n 0) g (eq-eqb n 0 e) in
              record {
                first = omega arith;
                last = last;
                some = omega arith;
                fits = less;
              }
              )
        ]
      ]
]

-- ===== The last entry

pub split-last : (es : List Entry) → 0 < length es → (front : List Entry) × (e : Entry) × (es ≡ front ++ e ∷ [])
split-last [] some = absurd (omega arith)
split-last (e ∷ []) some = ([], e, refl)
split-last (e ∷ f ∷ es) some =
    let w = split-last (f ∷ es) (omega arith) in
    (e ∷ w.0, w.1, ap (λ fs. e ∷ fs) w.2)

pub with_last-at : (change : Entry → Entry) (front : List Entry) (e : Entry) → with_last change (front ++ e ∷ []) ≡ front ++ change e ∷ []
with_last-at change [] e = refl
with_last-at change (f ∷ []) e = refl
with_last-at change (f ∷ g ∷ front) e = ap (λ es. f ∷ es) (with_last-at change (g ∷ front) e)

with_last-slots : (change : Entry → Entry) → ((e : Entry) → (change e).slot ≡ e.slot) → (es : List Entry) → slots_of (with_last change es) ≡ slots_of es
with_last-slots change same [] = refl
with_last-slots change same (e ∷ []) = ap (λ (s : Slot). s ∷ []) (same e)
with_last-slots change same (e ∷ f ∷ es) = ap (λ (ss : List Slot). e.slot ∷ ss) (with_last-slots change same (f ∷ es))

with_last-long : (change : Entry → Entry) (es : List Entry) → length (with_last change es) ≡ length es
with_last-long change [] = refl
with_last-long change (e ∷ []) = refl
with_last-long change (e ∷ f ∷ es) = (let rest = with_last-long change (f ∷ es) in omega arith)

-- the entry as that of another state
abbrev pub renamed : Entry → StateId → ℕ → StateId → Entry
renamed e id arrival before = record e { id = id; arrival = arrival; parents = before ∷ [] }

renamed-alike : (e : Entry) (id jd : StateId) (m n : ℕ) (p q : StateId) → id ≡ jd → m ≡ n → p ≡ q → renamed e id m p ≡ renamed e jd n q
renamed-alike e id jd m n p q one two three =
    ap (λ i. renamed e i m p) one ∙ ap (λ k. renamed e jd k p) two ∙ ap (λ b. renamed e jd n b) three

abbrev number : ℕ → ℕ → StateId
number site n = record { site = site; sequence = n }

-- ===== One after another

module _ (table : Table) (site m : ℕ) (inside : site - 1 < length table.counts) where
  pub count-after : count_at (advanced table site m) site ≡ count_at table site + m
  count-after =
      let cs = set table.counts (site - 1) (count_at table site + m) in
      unwrap_or-slice_get cs (site - 1) 0 ∙ get_or-set_same table.counts (site - 1) (count_at table site + m) 0 inside

  moved-again : 1 ≤ m → (e : Entry) → moved_on (advanced table site m) site 1 (moved_on table site m e) ≡ moved_on table site (m + 1) e
  moved-again some e =
      let more = count-after in
      let other : eqb (m + 1) 1 ≡ false = ne_eqb (m + 1) 1 (λ same. omega arith) in
      let back : (m + 1) - 1 ≡ m = omega arith in
      renamed-alike e (further (advanced table site m) site 1) (further table site (m + 1)) (table.known + m + 1 - 1) (table.known + (m + 1) - 1)
      (further table site m) (cond (eqb (m + 1) 1) e.id (further table site ((m + 1) - 1)))
      (ap (number site) (omega arith)) (omega arith)
      (sym (cond-false (eqb (m + 1) 1) e.id (further table site ((m + 1) - 1)) other ∙ ap (further table site) back))

  pub advanced-again : 1 ≤ m → 0 < length table.entries → advanced (advanced table site m) site 1 ≡ advanced table site (m + 1)
  advanced-again some kept =
      let w = split-last table.entries kept in
      let once = moved_on table site m in
      let again = moved_on (advanced table site m) site 1 in
      let whole = moved_on table site (m + 1) in
      let more = count-after in
      let sum : count_at (advanced table site m) site + 1 ≡ count_at table site + (m + 1) = omega arith in
      let entries : with_last again (with_last once table.entries) ≡ with_last whole table.entries =
      ap (λ es. with_last again (with_last once es)) w.2
      ∙ (ap (with_last again) (with_last-at once w.0 w.1)
      ∙ (with_last-at again w.0 (once w.1)
      ∙ (ap (λ (e : Entry). w.0 ++ e ∷ []) (moved-again some w.1)
      ∙ sym (ap (with_last whole) w.2 ∙ with_last-at whole w.0 w.1)))) in
      let counts = set-set table.counts (site - 1) (count_at table site + m) (count_at (advanced table site m) site + 1)
      ∙ ap (set table.counts (site - 1)) sum in
      let known : table.known + m + 1 ≡ table.known + (m + 1) = omega arith in
      let made : List ℕ → ℕ → List Entry → Table = λ cs k es. record { limits = table.limits; counts = cs; known = k; entries = es } in
      ap (λ cs. made cs (table.known + m + 1) (with_last again (with_last once table.entries))) counts
      ∙ ap (λ k. made (set table.counts (site - 1) (count_at table site + (m + 1))) k (with_last again (with_last once table.entries))) known
      ∙ ap (made (set table.counts (site - 1) (count_at table site + (m + 1))) (table.known + (m + 1))) entries

-- ===== Histories

module _ (site : ℕ) (some : 1 ≤ site) where
  counts-cover : (table : Table) (rs : List Record) (ks : List StateId) → Stands table rs ks → site ≤ table.limits.sites → site - 1 < length table.counts
  counts-cover table rs ks stands within =
      let long = ap length stands.counts in
      let sites = length-map-range_with_len (count_of_site rs) 1 table.limits.sites in
      omega arith

  one-more : (table : Table) (rs : List Record) (ks : List StateId) (ws : List KeyWrite) → Stands table rs ks → AreDistinct (slots_of table.entries) →
      0 < length table.entries → site ≤ table.limits.sites → count_at table site + 1 < 4294967296 → are_writes ws ≡ true →
      Stands (advanced table site 1) (lengthened rs site (ws ∷ [])) (row_left rs ks site (ws ∷ []))
  one-more table rs ks ws stands distinct kept within fits writes =
      let w = split-last table.entries kept in
      let few = (limits-parts table.limits stands.valid).sites in
      let count : count_at table site ≡ count_of_site rs site = unwrap_or-slice_get table.counts (site - 1) 0
      ∙ counted table rs ks stands site table.counts 0 refl some within in
      let r = next_below rs site ws in
      let next = next-is_next rs site ws stands.dag some (omega arith) (omega arith) writes in
      let back : table.known + 1 - 1 ≡ table.known = omega arith in
      let same : moved_on table site 1 w.1 ≡ in_place w.1 r.id table.known = renamed-alike w.1 (further table site 1) r.id (table.known + 1 - 1) table.known
      w.1.id w.1.id (ap (λ n. number site (n + 1)) count) back refl in
      stands-row table (advanced table site 1) rs ks r w.0 w.1 w.2
      (ap (with_last (moved_on table site 1)) w.2 ∙ (with_last-at (moved_on table site 1) w.0 w.1 ∙ ap (λ (e : Entry). w.0 ++ e ∷ []) same)) distinct
      stands next refl within refl refl refl

  pub row-stands : (table : Table) (rs : List Record) (ks : List StateId) (wss : List (List KeyWrite)) → Stands table rs ks →
      AreDistinct (slots_of table.entries) → 0 < length table.entries → site ≤ table.limits.sites → 1 ≤ length wss →
      count_at table site + length wss < 4294967296 → list_all are_writes wss ≡ true →
      Stands (advanced table site (length wss)) (lengthened rs site wss) (row_left rs ks site wss)
  row-stands table rs ks [] stands distinct kept within any fits writes = absurd (omega arith)
  row-stands table rs ks (ws ∷ []) stands distinct kept within any fits writes =
      one-more table rs ks ws stands distinct kept within fits (and_parts (are_writes ws) true writes).0
  row-stands table rs ks (ws ∷ vs ∷ wss) stands distinct kept within any fits writes =
      let m = length (vs ∷ wss) in
      let parts = and_parts (are_writes ws) (list_all are_writes (vs ∷ wss)) writes in
      let before = row-stands table rs ks (vs ∷ wss) stands distinct kept within (omega arith) (omega arith) parts.1 in
      let change = moved_on table site m in
      let inside = counts-cover table rs ks stands within in
      let count = count-after table site m inside in
      let long = with_last-long change table.entries in
      let one = one-more (advanced table site m) (lengthened rs site (vs ∷ wss)) (row_left rs ks site (vs ∷ wss)) ws before
      (subst AreDistinct (sym (with_last-slots change (λ e. refl) table.entries)) distinct) (omega arith) within (omega arith) parts.0 in
      let next : m + 1 ≡ length (ws ∷ vs ∷ wss) = omega arith in
      subst (λ t. Stands t (lengthened rs site (ws ∷ vs ∷ wss)) (row_left rs ks site (ws ∷ vs ∷ wss)))
      (advanced-again table site m inside (omega arith) kept ∙ ap (advanced table site) next) one
