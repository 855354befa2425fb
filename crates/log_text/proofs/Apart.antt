-- Entries at the front of bytes are told apart, and have no zero.
use Rattle.std.proofs.Common.{◌≡◌, ℕ, ◌≤◌, ◌≢◌, ◌⊎◌, List, [], ◌∷◌, ◌++◌, length, drop, refl, sym, ap, ◌∙◌, inl, append_assoc, arith}
use Rattle.std.proofs.lemmas.List.{length-append}
use Rattle.std.specs.List.{AllByRecursion}
use Rattle.log_text.specs.Texts.{spelled, coded, entry, log_text, HasNoZero}
use Rattle.log_text.proofs.Spelling.{has_none, same_byte, no_end}

-- what holds of the bytes of two lists holds of both together
pub all_joined : {X : Type 0} (P : X → Type 0) (a b : List X) → AllByRecursion P a → AllByRecursion P b → AllByRecursion P (a ++ b)
all_joined P [] b p q = q
all_joined P (x ∷ a) b p q = (p.0, all_joined P a b p.1 q)

pub coded_has_none : (v : ℕ) → (v ≡ 0) ⊎ (v ≡ 247) → (item : List ℕ) → AllByRecursion (λ b. b ≢ v) (coded item)
coded_has_none v which [] = tt
coded_has_none v which (byte ∷ item) = all_joined (λ b. b ≢ v) (spelled byte) (coded item) (has_none v byte which) (coded_has_none v which item)

pub entry_has_no_zero : (item : List ℕ) → HasNoZero (entry item)
entry_has_no_zero item = all_joined (λ b. b ≢ 0) (coded item) (247 ∷ []) (coded_has_none 0 (inl refl) item) ((λ e. omega (arith, e)), tt)

pub text_has_no_zero : (items : List (List ℕ)) → HasNoZero (log_text items)
text_has_no_zero [] = tt
text_has_no_zero (item ∷ items) = all_joined (λ b. b ≢ 0) (entry item) (log_text items) (entry_has_no_zero item) (text_has_no_zero items)

-- an entry has a byte
pub entry_is_some : (item : List ℕ) → 1 ≤ length (entry item)
entry_is_some item = let both = length-append (coded item) (247 ∷ []) in omega (arith, both)

-- an entry whose item has a first byte begins with this, spelled
pub entry_begins : (byte : ℕ) (item more : List ℕ) → entry (byte ∷ item) ++ more ≡ spelled byte ++ (entry item ++ more)
entry_begins byte item more =
    ap (λ l. l ++ more) (append_assoc (spelled byte) (coded item) (247 ∷ [])) ∙ append_assoc (spelled byte) (entry item) more

-- two entries at the front of the same bytes are one
pub same_entry : (a b x y : List ℕ) → entry a ++ x ≡ entry b ++ y → (a ≡ b) × (x ≡ y)
same_entry [] [] x y e = (refl, ap (drop 1) e)
same_entry [] (b ∷ bs) x y e = absurd (no_end b x (entry bs ++ y) (e ∙ entry_begins b bs y))
same_entry (a ∷ later) [] x y e = absurd (no_end a y (entry later ++ x) (sym e ∙ entry_begins a later x))
same_entry (a ∷ later) (b ∷ bs) x y e =
    let first = same_byte a b (entry later ++ x) (entry bs ++ y) (sym (entry_begins a later x) ∙ (e ∙ entry_begins b bs y)) in
    let more = same_entry later bs x y first.1 in
    ((λ i. first.0 i ∷ more.0 i), more.1)
