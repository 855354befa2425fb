-- The slots as one of those in use goes behind all others.
use Rattle.std.proofs.Common.{◌≡◌, ℕ, suc, ◌+◌, ◌<◌, ◌≤◌, Bool, true, false, eqb, List, [], ◌∷◌, ◌++◌, length, take, drop, get_or, Option, Some, None, inl}
use Rattle.std.proofs.Common.{inr, refl, sym, ap, ap₂, subst, ◌∙◌, length-append, eqb-true, eq-eqb, arith}
use Rattle.std.specs.List.{list_all, cons_option}
use Rattle.std.specs.Option.{option_map}
use Rattle.std.specs.Prelude.{slice_get}
use Rattle.std.proofs.lemmas.Bool.{cases_Bool, and_parts, and_from, or_parts, or_from, both_ways, ne_eqb}
use Rattle.std.proofs.lemmas.List.{append_assoc, take-append-drop}
use Rattle.tardis_base.specs.declared.ids.Slot.{Slot}
use Rattle.state_dag.specs.declared.nodes.Node.{Node}
use Rattle.state_dag.specs.Table.{Entry}
use Rattle.state_dag.specs.Views.{entry_of, entries_in}
use Rattle.state_dag.specs.Grown.{is_slot_among}
use Rattle.state_dag.specs.Nodes.{AreDistinct}

drop-none : (ys : List Slot) → drop 0 ys ≡ ys
drop-none [] = refl
drop-none (y ∷ ys) = refl

-- the slot at a place of those in use, those before and behind it, and those that aren't in use
pub record Parted (order : List Slot) (p k : ℕ) (s : Slot) : Type 0 where
  pub xs : List Slot
  pub zs : List Slot
  pub rest : List Slot
  pub whole : order ≡ xs ++ s ∷ (zs ++ rest)
  pub used : take k order ≡ xs ++ s ∷ zs
  pub before : take p (take k order) ≡ xs
  pub behind : drop (p + 1) (take k order) ≡ zs
  pub first : take p order ≡ xs
  pub last : drop (p + 1) order ≡ zs ++ rest
  pub count : length xs + (1 + length zs) ≡ k

pub parted : (order : List Slot) (p k : ℕ) (s : Slot) → p < k → k ≤ length order → get_or order p s ≡ s → Parted order p k s
parted [] p k s lt le is = absurd (omega arith)
parted (o ∷ order) p ℕ.zero s lt le is = absurd (omega arith)
parted (o ∷ order) ℕ.zero (ℕ.suc k) s lt le is =
    let long = length-taken order k (omega arith) in
    record {
      xs = [];
      zs = take k order;
      rest = drop k order;
      whole = ap₂ (λ (t : Slot) (ts : List Slot). t ∷ ts) is (sym (take-append-drop k order));
      used = ap (λ (t : Slot). t ∷ take k order) is;
      before = refl;
      behind = drop-none (take k order);
      first = refl;
      last = drop-none order ∙ sym (take-append-drop k order);
      count = omega arith;
    }
  where
    length-taken : (ys : List Slot) (j : ℕ) → j ≤ length ys → length (take j ys) ≡ j
    length-taken [] ℕ.zero le = refl
    length-taken [] (ℕ.suc j) le = absurd (omega arith)
    length-taken (y ∷ ys) ℕ.zero le = refl
    length-taken (y ∷ ys) (ℕ.suc j) le = (let rest = length-taken ys j (omega arith) in omega arith)
parted (o ∷ order) (ℕ.suc p) (ℕ.suc k) s lt le is =
    let w = parted order p k s (omega arith) (omega arith) is in
    let next : suc p + 1 ≡ suc (p + 1) = omega arith in
    record {
      xs = o ∷ w.xs;
      zs = w.zs;
      rest = w.rest;
      whole = ap (λ ss. o ∷ ss) w.whole;
      used = ap (λ ss. o ∷ ss) w.used;
      before = ap (λ ss. o ∷ ss) w.before;
      behind = ap (λ (n : ℕ). drop n (o ∷ take k order)) next ∙ w.behind;
      first = ap (λ ss. o ∷ ss) w.first;
      last = ap (λ (n : ℕ). drop n (o ∷ order)) next ∙ w.last;
      count = (let count = w.count in omega arith);
    }

take-length : (xs ys : List Slot) (n : ℕ) → n ≡ length xs → take n (xs ++ ys) ≡ xs
take-length [] ys ℕ.zero is = none ys
  where
    none : (zs : List Slot) → take 0 zs ≡ []
    none [] = refl
    none (z ∷ zs) = refl
take-length [] ys (ℕ.suc n) is = absurd (omega arith)
take-length (x ∷ xs) ys ℕ.zero is = absurd (omega arith)
take-length (x ∷ xs) ys (ℕ.suc n) is = ap (λ zs. x ∷ zs) (take-length xs ys n (omega arith))

-- those in use afterwards
pub used-after : (xs zs rest : List Slot) (s : Slot) (n : ℕ) → n ≡ length xs + length zs → take n (xs ++ ((zs ++ rest) ++ s ∷ [])) ≡ xs ++ zs
used-after xs zs rest s n is =
    let long = length-append xs zs in
    ap (λ ss. take n (xs ++ ss)) (append_assoc zs rest (s ∷ [])) ∙ ap (take n) (sym (append_assoc xs zs (rest ++ s ∷ [])))
    ∙ take-length (xs ++ zs) (rest ++ s ∷ []) n (omega arith)

-- ===== What holds of all slots still does

pub all-append : (p : Slot → Bool) (xs ys : List Slot) → list_all p xs ≡ true → list_all p ys ≡ true → list_all p (xs ++ ys) ≡ true
all-append p [] ys all also = also
all-append p (x ∷ xs) ys all also =
    let parts = and_parts (p x) (list_all p xs) all in
    and_from (p x) (list_all p (xs ++ ys)) parts.0 (all-append p xs ys parts.1 also)

pub all-moved : (p : Slot → Bool) (xs : List Slot) (s : Slot) (ys : List Slot) → list_all p (xs ++ s ∷ ys) ≡ true → list_all p (xs ++ (ys ++ s ∷ [])) ≡ true
all-moved p [] s ys all = (let parts = and_parts (p s) (list_all p ys) all in all-append p ys (s ∷ []) parts.1 (and_from (p s) true parts.0 refl))
all-moved p (x ∷ xs) s ys all =
    let parts = and_parts (p x) (list_all p (xs ++ s ∷ ys)) all in
    and_from (p x) (list_all p (xs ++ (ys ++ s ∷ []))) parts.0 (all-moved p xs s ys parts.1)

pub all-less : (p : Slot → Bool) (xs : List Slot) (s : Slot) (ys : List Slot) → list_all p (xs ++ s ∷ ys) ≡ true → list_all p (xs ++ ys) ≡ true
all-less p [] s ys all = (and_parts (p s) (list_all p ys) all).1
all-less p (x ∷ xs) s ys all =
    let parts = and_parts (p x) (list_all p (xs ++ s ∷ ys)) all in
    and_from (p x) (list_all p (xs ++ ys)) parts.0 (all-less p xs s ys parts.1)

out-append : (s : Slot) (xs ys : List Slot) → is_slot_among s xs ≡ false → is_slot_among s ys ≡ false → is_slot_among s (xs ++ ys) ≡ false
out-append s [] ys out also = also
out-append s (x ∷ xs) ys out also =
    let parts = or_parts (eqb x.0 s.0) (is_slot_among s xs) out in
    or_from (eqb x.0 s.0) (is_slot_among s (xs ++ ys)) parts.0 (out-append s xs ys parts.1 also)

out-moved : (t : Slot) (xs : List Slot) (s : Slot) (ys : List Slot) → is_slot_among t (xs ++ s ∷ ys) ≡ false → is_slot_among t (xs ++ (ys ++ s ∷ [])) ≡ false
out-moved t [] s ys out =
    let parts = or_parts (eqb s.0 t.0) (is_slot_among t ys) out in
    out-append t ys (s ∷ []) parts.1 (or_from (eqb s.0 t.0) false parts.0 refl)
out-moved t (x ∷ xs) s ys out =
    let parts = or_parts (eqb x.0 t.0) (is_slot_among t (xs ++ s ∷ ys)) out in
    or_from (eqb x.0 t.0) (is_slot_among t (xs ++ (ys ++ s ∷ []))) parts.0 (out-moved t xs s ys parts.1)

distinct-behind : (ys : List Slot) (s : Slot) → AreDistinct ys → is_slot_among s ys ≡ false → AreDistinct (ys ++ s ∷ [])
distinct-behind [] s d out = (refl, tt)
distinct-behind (y ∷ ys) s d out =
    let parts = or_parts (eqb y.0 s.0) (is_slot_among s ys) out in (
      out-append y ys (s ∷ []) d.0 (or_from (eqb s.0 y.0) false (ne_eqb s.0 y.0 (λ e. both_ways (eqb y.0 s.0) parts.0 (eq-eqb y.0 s.0 (sym e)))) refl),
      distinct-behind ys s d.1 parts.1,
    )

pub distinct-moved : (xs : List Slot) (s : Slot) (ys : List Slot) → AreDistinct (xs ++ s ∷ ys) → AreDistinct (xs ++ (ys ++ s ∷ []))
distinct-moved [] s ys d = distinct-behind ys s d.1 d.0
distinct-moved (x ∷ xs) s ys d = (out-moved x xs s ys d.0, distinct-moved xs s ys d.1)

out-parts : (s : Slot) (xs ys : List Slot) → is_slot_among s (xs ++ ys) ≡ false → is_slot_among s ys ≡ false
out-parts s [] ys out = out
out-parts s (x ∷ xs) ys out = out-parts s xs ys (or_parts (eqb x.0 s.0) (is_slot_among s (xs ++ ys)) out).1

-- of distinct slots one that is before isn't behind
pub distinct-sides : (k : ℕ) (xs : List Slot) (s : Slot) (ys : List Slot) → AreDistinct (xs ++ s ∷ ys) → is_slot_among (record { 0 = k }) xs ≡ true →
    is_slot_among (record { 0 = k }) ys ≡ false
distinct-sides k [] s ys d there = absurd (both_ways false refl there)
distinct-sides k (x ∷ xs) s ys d there = elim (cases_Bool (eqb x.0 k)) [
  | inl t ↦
      let named : ℕ → Slot = λ n. record { 0 = n } in
      let out = out-parts x xs (s ∷ ys) d.0 in
      subst (λ (z : Slot). is_slot_among z ys ≡ false) (ap named (eqb-true x.0 k t)) (or_parts (eqb s.0 x.0) (is_slot_among x ys) out).1
  | inr f ↦ distinct-sides k xs s ys d.1 (rw f at there)
]

pub among-either : (k : ℕ) (xs ys : List Slot) → is_slot_among (record { 0 = k }) (xs ++ ys) ≡ true → is_slot_among (record { 0 = k }) xs ≡ false →
    is_slot_among (record { 0 = k }) ys ≡ true
among-either k [] ys there out = there
among-either k (x ∷ xs) ys there out =
    let parts = or_parts (eqb x.0 k) (is_slot_among (record { 0 = k }) xs) out in
    among-either k xs ys (rw parts.0 at there) parts.1

pub among-some : (s : Slot) (xs : List Slot) → is_slot_among s xs ≡ true → 0 < length xs
among-some s [] there = absurd (both_ways false refl there)
among-some s (x ∷ xs) there = omega arith

-- ===== Their entries

pub entries-append : (ns : List Node) (xs ys : List Slot) → entries_in ns (xs ++ ys) ≡ entries_in ns xs ++ entries_in ns ys
entries-append ns [] ys = refl
entries-append ns (x ∷ xs) ys = ap (cons_option (option_map (entry_of x.0) (slice_get ns x.0))) (entries-append ns xs ys)
    ∙ go (option_map (entry_of x.0) (slice_get ns x.0))
  where
    go : (o : Option Entry) → cons_option o (entries_in ns xs ++ entries_in ns ys) ≡ cons_option o (entries_in ns xs) ++ entries_in ns ys
    go None = refl
    go (Some e) = refl
