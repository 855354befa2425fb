-- Entries by numbers: what holds of each.
use Rattle.std.proofs.Common.{◌≡◌, ℕ, not, List, [], ◌∷◌, Option, Some, None, inl, inr, refl, sym, ap, subst, ◌∙◌}
use Rattle.std.specs.Option.{option_map}
use Rattle.std.specs.Prelude.{◌==◌}
use Rattle.std.proofs.lemmas.Bool.{cases_Bool, cond-true}
use Rattle.std.proofs.lemmas.Option.{none-some, same_Some}
use Rattle.plain_dag.specs.Entries.{entry_of, with_entry, changed, without_entry}
use Rattle.plain_site.proofs.SoundEntries.{entry-here, entry-later, entry-changed, entry-changed_other, entry-with_entry}
use Rattle.plain_site.proofs.SoundEntries.{entry-with_entry_other, entry-without_entry, entry-without_entry_other}
use Rattle.plain_site.proofs.SoundBooks.{at-each}

module _ {A : Type 0} where
  -- ===== No such entry

  -- where there is no such entry, none is taken away
  pub without-none : (n : ℕ) (es : List (ℕ × A)) → ◌≡◌ {A = Option A} (entry_of n es) None → es ≡ without_entry n es
  without-none n [] none = refl
  without-none n (e ∷ es) none = elim (cases_Bool (n == e.0)) [
    | inl t ↦ absurd (none-some e.1 (sym none ∙ entry-here n e es t))
    | inr o ↦
        ap (λ (ds : List (ℕ × A)). e ∷ ds) (without-none n es (sym (entry-later n e es o) ∙ none))
        ∙ sym (cond-true (not (n == e.0)) (e ∷ without_entry n es) (without_entry n es) (ap not o))
  ]

  -- ===== What holds of each

  module _ (P : A → Type 0) where
    -- it holds of each entry
    abbrev pub Each : List (ℕ × A) → Type 0
    Each es = (n : ℕ) (a : A) → entry_of n es ≡ Some a → P a

    pub each-with : (n : ℕ) (a : A) (es : List (ℕ × A)) → Each es → P a → Each (with_entry n a es)
    each-with n a es each p =
        at-each (λ m. (b : A) → entry_of m (with_entry n a es) ≡ Some b → P b) n (λ b e. subst P (same_Some a b (sym (entry-with_entry n a es) ∙ e)) p)
        (λ m differ b e. each m b (sym (entry-with_entry_other n m a es differ) ∙ e))

    pub each-without : (n : ℕ) (es : List (ℕ × A)) → Each es → Each (without_entry n es)
    each-without n es each =
        at-each (λ m. (b : A) → entry_of m (without_entry n es) ≡ Some b → P b) n (λ b e. absurd (none-some b (sym (entry-without_entry n es) ∙ e)))
        (λ m differ b e. each m b (sym (entry-without_entry_other n m es differ) ∙ e))

    mapped-holds : (f : A → A) (o : Option A) (b : A) → ((a : A) → P a → P (f a)) → ((a : A) → o ≡ Some a → P a) → option_map f o ≡ Some b → P b
    mapped-holds f None b keeps each e = absurd (none-some b e)
    mapped-holds f (Some a) b keeps each e = subst P (same_Some (f a) b e) (keeps a (each a refl))

    pub each-changed : (n : ℕ) (f : A → A) (es : List (ℕ × A)) → ((a : A) → P a → P (f a)) → Each es → Each (changed n f es)
    each-changed n f es keeps each =
        at-each (λ m. (b : A) → entry_of m (changed n f es) ≡ Some b → P b) n
        (λ b e. mapped-holds f (entry_of n es) b keeps (each n) (sym (entry-changed n f es) ∙ e))
        (λ m differ b e. each m b (sym (entry-changed_other n m f es differ) ∙ e))
