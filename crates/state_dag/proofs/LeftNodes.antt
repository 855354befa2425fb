-- What the nodes become as a state leaves the table.
use Rattle.std.proofs.Common.{◌≡◌, ℕ, ◌+◌, ◌<◌, Bool, true, false, not, ◌||◌, cond, eqb, List, [], ◌∷◌, length, map, take, drop, get_or, inl, inr, refl, sym}
use Rattle.std.proofs.Common.{ap, ap₂, ◌∙◌, eq-eqb}
use Rattle.std.specs.List.{list_all}
use Rattle.std.proofs.lemmas.Bool.{cases_Bool, and_parts, ne_eqb}
use Rattle.std.proofs.lemmas.List.Folds.{list_any_more}
use Rattle.tardis_base.specs.declared.ids.Slot.{Slot}
use Rattle.state_dag.specs.Table.{Entry}
use Rattle.state_dag.specs.Grown.{is_slot_among}
use Rattle.state_dag.specs.Detached.{passed_on, passing_on, forgetting, changed_at}
use Rattle.fork_path.specs.Pairs.{without_pairs_of}

-- ===== Changes that say the same a second time

passed-twice : (gone heir s : Slot) → passed_on gone heir (passed_on gone heir s) ≡ passed_on gone heir s
passed-twice gone heir s = elim (cases_Bool (eqb s.0 gone.0)) [
  | inl t ↦ rw t (go (eqb heir.0 gone.0))
  | inr f ↦ rw f (rw f refl)
]
  where
    go : (b : Bool) → cond b heir heir ≡ heir
    go true = refl
    go false = refl

all-passed-twice : (gone heir : Slot) (ss : List Slot) → map (passed_on gone heir) (map (passed_on gone heir) ss) ≡ map (passed_on gone heir) ss
all-passed-twice gone heir [] = refl
all-passed-twice gone heir (s ∷ ss) = ap₂ (λ (t : Slot) (ts : List Slot). t ∷ ts) (passed-twice gone heir s) (all-passed-twice gone heir ss)

pub passing-twice : (gone heir : Slot) (e : Entry) → passing_on gone heir (passing_on gone heir e) ≡ passing_on gone heir e
passing-twice gone heir e = ap (λ (ss : List Slot). record e { stand_ins = ss }) (all-passed-twice gone heir e.stand_ins)

without-twice : (n : ℕ) (ps : List (ℕ × ℕ)) → without_pairs_of n (without_pairs_of n ps) ≡ without_pairs_of n ps
without-twice n [] = refl
without-twice n (p ∷ ps) = elim (cases_Bool (not (eqb p.0 n))) [
  | inl t ↦ rw t (rw t (ap (λ qs. p ∷ qs) (without-twice n ps)))
  | inr f ↦ rw f (without-twice n ps)
]

pub forgetting-twice : (gone : Slot) (e : Entry) → forgetting gone true (forgetting gone true e) ≡ forgetting gone true e
forgetting-twice gone e = ap (λ (ps : List (ℕ × ℕ)). record e { path = ps }) (without-twice gone.0 e.path)

-- ===== One change more

module _ (change : Entry → Entry) (twice : (e : Entry) → change (change e) ≡ change e) (stays : (e : Entry) → (change e).slot ≡ e.slot) (slots : List Slot)
    (i : ℕ) (d : Slot) (lt : i < length slots) where
  more : (s : Slot) → is_slot_among s (take (i + 1) slots) ≡ (is_slot_among s (take i slots) || eqb (get_or slots i d).0 s.0)
  more s = list_any_more (λ (t : Slot). eqb t.0 s.0) slots i d lt

  pub changed-own : (old mid new : Entry) → (get_or slots i d).0 ≡ old.slot.0 → mid ≡ changed_at change (take i slots) old → new ≡ change mid →
      new ≡ changed_at change (take (i + 1) slots) old
  changed-own old mid new here before is =
      is ∙ ap change before
      ∙ go (is_slot_among old.slot (take i slots))
      ∙ sym (ap (λ b. cond b (change old) old) (more old.slot
      ∙ ap (λ b. is_slot_among old.slot (take i slots) || b) (eq-eqb (get_or slots i d).0 old.slot.0 here)))
    where
      go : (b : Bool) → change (cond b (change old) old) ≡ cond (b || true) (change old) old
      go true = twice old
      go false = refl

  pub changed-other : (old mid : Entry) → ((get_or slots i d).0 ≡ old.slot.0 → ⊥) → mid ≡ changed_at change (take i slots) old →
      mid ≡ changed_at change (take (i + 1) slots) old
  changed-other old mid other before =
      before ∙ sym (ap (λ b. cond b (change old) old) (more old.slot
      ∙ ap (λ b. is_slot_among old.slot (take i slots) || b) (ne_eqb (get_or slots i d).0 old.slot.0 other)
      ∙ go (is_slot_among old.slot (take i slots))))
    where
      go : (b : Bool) → (b || false) ≡ b
      go true = refl
      go false = refl

-- ===== Parts of the slots

pub drop-all : (test : Slot → Bool) (k : ℕ) (xs : List Slot) → list_all test xs ≡ true → list_all test (drop k xs) ≡ true
drop-all test ℕ.zero [] all = refl
drop-all test ℕ.zero (x ∷ xs) all = all
drop-all test (ℕ.suc k) [] all = refl
drop-all test (ℕ.suc k) (x ∷ xs) all = drop-all test k xs (and_parts (test x) (list_all test xs) all).1
