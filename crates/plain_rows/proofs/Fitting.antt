-- The parts of the test whether a row may arrive, and what it counts.
use Rattle.std.proofs.Common.{◌≡◌, ℕ, zero, suc, ◌+◌, ◌<◌, ◌≤◌, ◌≢◌, Bool, false, List, [], ◌∷◌, length, map, IsTrue, refl, sym, ap, ap₂, ◌∙◌, arith}
use Rattle.std.specs.Prelude.{◌==◌, ◌&&◌, ◌^◌, nat_lt, nat_le, replicate}
use Rattle.std.specs.List.{list_all}
use Rattle.std.proofs.lemmas.Bool.{and_parts, and_from, cond-false, false_from_ne_true, eqb-true, eq-eqb, leb-true, le-leb, ltb-true, lt-ltb}
use Rattle.tardis_base.specs.declared.ids.StateId.{StateId}
use Rattle.tardis_base.specs.declared.records.Record.{Record}
use Rattle.tardis_base.specs.declared.records.Limits.{Limits}
use Rattle.tardis_base.specs.Ids.{root}
use Rattle.tardis_base.specs.Valid.{is_within}
use Rattle.plain_dag.specs.States.{root_record, count_of_site}
use Rattle.plain_dag.specs.Above.{is_above}
use Rattle.plain_dag.specs.Begin.{last_arrived}
use Rattle.plain_dag.specs.Floors.{Floor, Sessions, opening_floor, unpromised, is_unpromised_above, are_unpromised_above}
use Rattle.plain_dag.specs.Rows.{next_below}
use Rattle.plain_dag.proofs.Ids.{same_test}
use Rattle.plain_dag.proofs.Known.{count-newest}
use Rattle.plain_dag.proofs.Order.{above-reflexive}
use Rattle.plain_site.specs.Site.{Site, opening}
use Rattle.plain_rows.specs.Rows.{row_of, with_row, fits_row}
use Rattle.plain_rows.specs.Laws.{RowsRaiseCounts, RowsLeavePromises, JoinedRowsFit, RowsOfOthersFit, RowsFitAtFirst}

-- ===== Counts

module _ (rs : List Record) (n : ℕ) where
  pub counts-own : (c : ℕ) → count_of_site (row_of rs n c) n ≡ count_of_site rs n + c
  counts-own zero = omega arith
  counts-own (suc c) =
      let older = counts-own c in
      let newest = count-newest (row_of rs n c) (next_below (row_of rs n c) n []) n refl in
      omega arith

  counts-others : (m : ℕ) → m ≢ n → (c : ℕ) → count_of_site (row_of rs n c) m ≡ count_of_site rs m
  counts-others m other zero = refl
  counts-others m other (suc c) =
      let older = row_of rs n c in
      let apart : (n == m) ≡ false = false_from_ne_true (n == m) (λ t. other (sym (eqb-true n m t))) in
      cond-false (n == m) (count_of_site older m + 1) (count_of_site older m) apart ∙ counts-others m other c

  counts-all : (c : ℕ) → length (row_of rs n c) ≡ length rs + c
  counts-all zero = omega arith
  counts-all (suc c) = let older = counts-all c in omega arith

pub rows-raise-counts : RowsRaiseCounts with_row
rows-raise-counts site n count = record {
  of_the_site = counts-own site.dag n count;
  of_others = λ m other. counts-others site.dag n m other count;
  of_all = counts-all site.dag n count;
}

-- ===== The test

pub record RowFits (site : Site) (n count : ℕ) : Type 0 where
  pub some : 1 ≤ n
  pub most : n ≤ site.limits.sites
  pub bits : count_of_site site.dag n + count < 4294967296
  pub sessions : site.sessions ≡ []
  pub floors : IsTrue (are_unpromised_above site.dag site.floors (last_arrived site.dag))

none-of : {A : Type 0} (xs : List A) → IsTrue (length xs == 0) → xs ≡ []
none-of [] t = refl
none-of (x ∷ xs) t = absurd (let e = eqb-true (length (x ∷ xs)) 0 t in omega arith)

module _ (site : Site) (n count : ℕ) where
  abbrev named : Bool
  named = is_within 1 site.limits.sites n

  abbrev bits : Bool
  bits = nat_lt (count_of_site site.dag n + count) (2 ^ 32)

  abbrev alone : Bool
  alone = length site.sessions == 0

  abbrev free : Bool
  free = are_unpromised_above site.dag site.floors (last_arrived site.dag)

  pub fits-parts : IsTrue (fits_row site n count) → RowFits site n count
  fits-parts t =
      let third = and_parts (named && bits && alone) free t in
      let second = and_parts (named && bits) alone third.0 in
      let first = and_parts named bits second.0 in
      let within = and_parts (nat_le 1 n) (nat_le n site.limits.sites) first.0 in
      record {
        some = leb-true 1 n within.0;
        most = leb-true n site.limits.sites within.1;
        bits = ltb-true (count_of_site site.dag n + count) (2 ^ 32) first.1;
        sessions = none-of site.sessions second.1;
        floors = third.1;
      }

  pub fits-from : RowFits site n count → IsTrue (fits_row site n count)
  fits-from fits =
      and_from (named && bits && alone) free
      (and_from (named && bits) alone
      (and_from named bits
      (and_from (nat_le 1 n) (nat_le n site.limits.sites) (le-leb 1 n fits.some) (le-leb n site.limits.sites fits.most))
      (lt-ltb (count_of_site site.dag n + count) (2 ^ 32) fits.bits))
      (eq-eqb (length site.sessions) 0 (ap (λ (ss : Sessions). length ss) fits.sessions))) fits.floors

-- ===== Floors behind a row

-- floors at the state that arrived last are free
pub all-free : (rs : List Record) (fs : List Floor) → IsTrue (are_unpromised_above rs (map (λ f. unpromised (last_arrived rs)) fs) (last_arrived rs))
all-free rs [] = refl
all-free rs (f ∷ fs) =
    and_from (is_unpromised_above rs (last_arrived rs) (unpromised (last_arrived rs))) (are_unpromised_above rs (map (λ f. unpromised (last_arrived rs)) fs) (last_arrived rs))
    (above-reflexive rs (last_arrived rs)) (all-free rs fs)

free-numbers : (rs : List Record) (x : StateId) (fs : List Floor) → IsTrue (are_unpromised_above rs fs (last_arrived rs)) →
    map (λ (f : Floor). f.number) (map (λ (f : Floor). unpromised x) fs) ≡ map (λ (f : Floor). f.number) fs
free-numbers rs x [] h = refl
free-numbers rs x (f ∷ fs) h =
    let parts = and_parts (is_unpromised_above rs (last_arrived rs) f) (are_unpromised_above rs fs (last_arrived rs)) h in
    let number = eqb-true f.number 0 (and_parts (f.number == 0) (is_above rs f.state (last_arrived rs)) parts.0).0 in
    ap₂ (λ (k : ℕ) (ks : List ℕ). k ∷ ks) (sym number) (free-numbers rs x fs parts.1)

pub rows-leave-promises : RowsLeavePromises with_row fits_row
rows-leave-promises site n count may =
    free-numbers site.dag (last_arrived (row_of site.dag n count)) site.floors (fits-parts site n count may).floors

-- ===== Rows that are joined

module _ (site : Site) (n a b : ℕ) where
  joined-parts : IsTrue (fits_row site n (a + b)) → IsTrue (fits_row site n a && fits_row (with_row n a site) n b)
  joined-parts t =
      let fits = fits-parts site n (a + b) t in
      let all = fits.bits in
      let own = counts-own site.dag n a in
      and_from (fits_row site n a) (fits_row (with_row n a site) n b)
      (fits-from site n a
      (record { some = fits.some; most = fits.most; bits = omega arith; sessions = fits.sessions; floors = fits.floors }))
      (fits-from (with_row n a site) n b
      (record {
        some = fits.some;
        most = fits.most;
        bits = omega arith;
        sessions = fits.sessions;
        floors = all-free (row_of site.dag n a) site.floors;
      }))

  joined-from : IsTrue (fits_row site n a && fits_row (with_row n a site) n b) → IsTrue (fits_row site n (a + b))
  joined-from t =
      let both = and_parts (fits_row site n a) (fits_row (with_row n a site) n b) t in
      let first = fits-parts site n a both.0 in
      let second = (fits-parts (with_row n a site) n b both.1).bits in
      let own = counts-own site.dag n a in
      fits-from site n (a + b)
      (record { some = first.some; most = first.most; bits = omega arith; sessions = first.sessions; floors = first.floors })

pub joined-rows-fit : JoinedRowsFit with_row fits_row
joined-rows-fit site n a b =
    same_test (fits_row site n (a + b)) (fits_row site n a && fits_row (with_row n a site) n b) (joined-parts site n a b) (joined-from site n a b)

-- ===== Rows of other sites, and at a site that opens

module _ (site : Site) (n m a b : ℕ) (other : m ≢ n) (may : IsTrue (fits_row site n a)) where
  others-before : IsTrue (fits_row (with_row n a site) m b) → IsTrue (fits_row site m b)
  others-before t =
      let fits = fits-parts (with_row n a site) m b t in
      let count = counts-others site.dag n m other a in
      let bits = fits.bits in
      fits-from site m b
      (record {
        some = fits.some;
        most = fits.most;
        bits = omega arith;
        sessions = fits.sessions;
        floors = (fits-parts site n a may).floors;
      })

  others-behind : IsTrue (fits_row site m b) → IsTrue (fits_row (with_row n a site) m b)
  others-behind t =
      let fits = fits-parts site m b t in
      let count = counts-others site.dag n m other a in
      let bits = fits.bits in
      fits-from (with_row n a site) m b
      (record {
        some = fits.some;
        most = fits.most;
        bits = omega arith;
        sessions = fits.sessions;
        floors = all-free (row_of site.dag n a) site.floors;
      })

pub rows-of-others-fit : RowsOfOthersFit with_row fits_row
rows-of-others-fit site n m a b other may =
    same_test (fits_row (with_row n a site) m b) (fits_row site m b) (others-before site n m a b other may) (others-behind site n m a b other may)

first-free : (sites : ℕ) → IsTrue (list_all (is_unpromised_above (root_record ∷ []) root) (replicate sites opening_floor))
first-free zero = refl
first-free (suc sites) = first-free sites

module _ (limits : Limits) (own n count : ℕ) where
  abbrev told : Bool
  told = is_within 1 limits.sites n

  first-parts : IsTrue (fits_row (opening limits own) n count) → IsTrue (told && nat_lt count (2 ^ 32))
  first-parts t =
      let fits = fits-parts (opening limits own) n count t in
      let bits = fits.bits in
      and_from told (nat_lt count (2 ^ 32))
      (and_from (nat_le 1 n) (nat_le n limits.sites) (le-leb 1 n fits.some) (le-leb n limits.sites fits.most))
      (lt-ltb count (2 ^ 32) (omega arith))

  first-from : IsTrue (told && nat_lt count (2 ^ 32)) → IsTrue (fits_row (opening limits own) n count)
  first-from t =
      let parts = and_parts told (nat_lt count (2 ^ 32)) t in
      let within = and_parts (nat_le 1 n) (nat_le n limits.sites) parts.0 in
      let some = leb-true 1 n within.0 in
      let bits = ltb-true count (2 ^ 32) parts.1 in
      let apart : (0 == n) ≡ false = false_from_ne_true (0 == n) (λ e. let zero = eqb-true 0 n e in omega arith) in
      let none : count_of_site (root_record ∷ []) n ≡ 0 = cond-false (0 == n) (0 + 1) 0 apart in
      fits-from (opening limits own) n count
      (record {
        some = some;
        most = leb-true n limits.sites within.1;
        bits = omega arith;
        sessions = refl;
        floors = first-free limits.sites;
      })

pub rows-fit-at-first : RowsFitAtFirst fits_row
rows-fit-at-first limits own n count =
    same_test (fits_row (opening limits own) n count) (told limits own n count && nat_lt count (2 ^ 32)) (first-parts limits own n count)
    (first-from limits own n count)
