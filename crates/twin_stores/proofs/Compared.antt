-- What a comparison of entries tells.
use Rattle.std.proofs.Common.{◌≡◌, ◌∙◌, ◌↔◌, ℕ, zero, suc, Bool, true, false, not, ◌&&◌, List, [], ◌∷◌, map, slice_get, Some, IsTrue, refl, sym, ap, subst, eqb}
use Rattle.std.specs.Bool.{Decides}
use Rattle.std.specs.List.{list_all}
use Rattle.std.specs.Cmp.Lexicographic.{pointwise}
use Rattle.std.proofs.lemmas.Bool.{and_parts, both_ways, eqb-true, eq-eqb}
use Rattle.std.proofs.lemmas.Option.{none-some, same_Some}
use Rattle.std.proofs.lemmas.Slice.Eq.{slice_eq-Decides}
use Rattle.tardis_base.specs.declared.records.Limits.{Limits}
use Rattle.state_dag.specs.Table.{Entry, Table, id_at}
use Rattle.twin_stores.specs.Tables.{Outline, outline}
use Rattle.twin_stores.proofs.Places.{mapped-got, refused}

-- lists that were compared
module _ {A : Type 0} (E : A → A → Bool) (decides : (a b : A) → Decides (E a b) (a ≡ b)) (xs ys : List A) (r : Bool) (is : r ≡ not (pointwise E xs ys)) where
  pub same-lists : r ≡ false → xs ≡ ys
  same-lists f = (slice_eq-Decides decides xs ys (pointwise E xs ys) refl).0 (turned (pointwise E xs ys) (sym is ∙ f))
    where
      turned : (t : Bool) → not t ≡ false → t ≡ true
      turned true e = refl
      turned false e = absurd (both_ways true e refl)

  pub other-lists : r ≡ true → xs ≡ ys → ⊥
  other-lists t same =
      both_ways (not (pointwise E xs ys)) (ap not ((slice_eq-Decides decides xs ys (pointwise E xs ys) refl).1 same)) (sym is ∙ t)

-- what is so of all entries is so of one
pub all-got : (p : Entry → Bool) (es : List Entry) → IsTrue (list_all p es) → (i : ℕ) (e : Entry) → slice_get es i ≡ Some e → IsTrue (p e)
all-got p [] all i e is = absurd (none-some e is)
all-got p (f ∷ es) all zero e is = subst (λ g. IsTrue (p g)) (same_Some f e is) (and_parts (p f) (list_all p es) all).0
all-got p (f ∷ es) all (suc i) e is = all-got p es (and_parts (p f) (list_all p es) all).1 i e is

-- entries with the same parts say the same
pub parts-say : (one other : Table) (p q : Entry) → p.id ≡ q.id → p.arrival ≡ q.arrival → p.parents ≡ q.parents → p.children ≡ q.children →
    map (id_at one) p.stand_ins ≡ map (id_at other) q.stand_ins → outline one p ≡ outline other q
parts-say one other p q id arrival parents children stand_ins = rw (id, arrival, parents, children, stand_ins) refl

module _ (one other : Table) (i : ℕ) (p q : Entry) (first : slice_get one.entries i ≡ Some p) (second : slice_get other.entries i ≡ Some q) where
  -- the outlines in a place are those of its entries
  pub place-says : slice_get (map (outline one) one.entries) i ≡ slice_get (map (outline other) other.entries) i → outline one p ≡ outline other q
  place-says same =
      same_Some (outline one p) (outline other q)
      (sym (mapped-got (outline one) one.entries i p first) ∙ (same ∙ mapped-got (outline other) other.entries i q second))

  pub says-in_place : outline one p ≡ outline other q → slice_get (map (outline one) one.entries) i ≡ slice_get (map (outline other) other.entries) i
  says-in_place same =
      mapped-got (outline one) one.entries i p first
      ∙ (ap (λ (o : Outline). Some o) same ∙ sym (mapped-got (outline other) other.entries i q second))

  pub place-differs : (outline one p ≡ outline other q → ⊥) → IsTrue false
      ↔ (slice_get (map (outline one) one.entries) i ≡ slice_get (map (outline other) other.entries) i)
  place-differs differ = refused (λ same. differ (place-says same))

-- ===== Limits and counts

pub number-decides : (a b : ℕ) → Decides (eqb a b) (a ≡ b)
number-decides a b = (eqb-true a b, eq-eqb a b)

pub same-limits : (a b : Limits) (r : Bool) → r ≡ not (eqb a.sites b.sites && (eqb a.max_kept b.max_kept && (eqb a.max_path b.max_path
    && (eqb a.max_sessions b.max_sessions && eqb a.max_trail b.max_trail)))) → r ≡ false → a ≡ b
same-limits a b r is f =
    let rest3 = eqb a.max_sessions b.max_sessions && eqb a.max_trail b.max_trail in
    let rest2 = eqb a.max_path b.max_path && rest3 in
    let rest1 = eqb a.max_kept b.max_kept && rest2 in
    let p = and_parts (eqb a.sites b.sites) rest1 (turned (eqb a.sites b.sites && rest1) (sym is ∙ f)) in
    let q = and_parts (eqb a.max_kept b.max_kept) rest2 p.1 in
    let s = and_parts (eqb a.max_path b.max_path) rest3 q.1 in
    let t = and_parts (eqb a.max_sessions b.max_sessions) (eqb a.max_trail b.max_trail) s.1 in
    made a b (eqb-true a.sites b.sites p.0) (eqb-true a.max_kept b.max_kept q.0) (eqb-true a.max_path b.max_path s.0)
    (eqb-true a.max_sessions b.max_sessions t.0) (eqb-true a.max_trail b.max_trail t.1)
  where
    turned : (t : Bool) → not t ≡ false → t ≡ true
    turned true e = refl
    turned false e = absurd (both_ways true e refl)

    made : (a b : Limits) → a.sites ≡ b.sites → a.max_kept ≡ b.max_kept → a.max_path ≡ b.max_path → a.max_sessions ≡ b.max_sessions →
        a.max_trail ≡ b.max_trail → a ≡ b
    made a b sites kept path sessions trail =
        subst (λ n. a ≡ record { sites = n; max_kept = b.max_kept; max_path = b.max_path; max_sessions = b.max_sessions; max_trail = b.max_trail }) sites
        (subst (λ n. a ≡ record { sites = a.sites; max_kept = n; max_path = b.max_path; max_sessions = b.max_sessions; max_trail = b.max_trail }) kept
        (subst (λ n. a ≡ record { sites = a.sites; max_kept = a.max_kept; max_path = n; max_sessions = b.max_sessions; max_trail = b.max_trail }) path
        (subst (λ n. a ≡ record { sites = a.sites; max_kept = a.max_kept; max_path = a.max_path; max_sessions = n; max_trail = b.max_trail }) sessions
        (subst (λ n. a ≡ record { sites = a.sites; max_kept = a.max_kept; max_path = a.max_path; max_sessions = a.max_sessions; max_trail = n }) trail refl))))
