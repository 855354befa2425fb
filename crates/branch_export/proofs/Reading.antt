-- What was read of an input.
use Rattle.std.proofs.Common.{◌≡◌, ℕ, ◌<◌, ◌≤◌, List, [], ◌++◌, length, take, Option, refl, sym, ap, subst, ◌∙◌, append_assoc, append-nil, inl, inr, arith}
use Rattle.tardis_io.specs.Faults.{Rose}
use Rattle.std.specs.Prelude.{Ok, Err}
use Rattle.tardis_io.specs.Told.{WhileTold}
use Rattle.tardis_io.proofs.Told.{same, then, weaker}
use Rattle.site_run.specs.Endings.{most_taken}
use Rattle.branch_export.specs.declared.inputs.InputFault.TheVariants.{ReadFault, NoMemory, Spent}
use Rattle.branch_export.specs.Imported.{IsRead, ImportsAs}
use Rattle.tardis_io.specs.declared.statuses.Status.{Status}

-- a count that rose since later rose since before
pub rose-before : (a b c : ℕ) → a ≤ b → Rose b c → Rose a c
rose-before a b c h (inl up) = inl (omega (arith, h, up))
rose-before a b c h (inr end) = inr end

pub read-first : (old : Option (List ℕ)) (items : List ℕ) → items ≡ [] → WhileTold old old (λ first left. first ≡ items ++ left)
read-first old items none = same old (λ first left. first ≡ items ++ left) (λ x. sym (ap (λ z. z ++ x) none))

pub read-more : (old mid new : Option (List ℕ)) (items put buf : List ℕ) (n : ℕ) → WhileTold old mid (λ first left. first ≡ items ++ left)
    → WhileTold mid new (λ before after. (before ≡ take n buf ++ after) × (n ≡ 0 → before ≡ [])) → put ≡ items ++ take n buf →
    WhileTold old new (λ first left. first ≡ put ++ left)
read-more old mid new items put buf n told took e =
    then old mid new (λ first left. first ≡ items ++ left) (λ before after. (before ≡ take n buf ++ after) × (n ≡ 0 → before ≡ []))
    (λ first left. first ≡ put ++ left) told took
    (λ x y z p q. p ∙ ap (λ s. items ++ s) q.0 ∙ sym (append_assoc items (take n buf) z) ∙ ap (λ s. s ++ z) (sym e))

module _ {V : Type 0} (shown : V → List ℕ) where
  pub read-end : (old mid new : Option (List ℕ)) (bytes : V) (buf : List ℕ) (n : ℕ) → WhileTold old mid (λ first left. first ≡ shown bytes ++ left)
      → WhileTold mid new (λ before after. (before ≡ take n buf ++ after) × (n ≡ 0 → before ≡ [])) → n ≡ 0 → length (shown bytes) < most_taken →
      WhileTold old new (IsRead shown (Ok bytes))
  read-end old mid new bytes buf n told took zero few =
      then old mid new (λ first left. first ≡ shown bytes ++ left) (λ before after. (before ≡ take n buf ++ after) × (n ≡ 0 → before ≡ []))
      (IsRead shown (Ok bytes)) told took
      (λ x y z p q.
      let all : y ≡ z = subst (λ k. y ≡ take k buf ++ z) zero q.0 in
      (shown bytes, p ∙ ap (λ s. shown bytes ++ s) all, (refl, sym all ∙ q.1 zero, few)))

  pub read-failed : (old mid new : Option (List ℕ)) (items : List ℕ) → WhileTold old mid (λ first left. first ≡ items ++ left) →
      WhileTold mid new (λ before after. after ≡ before)
      → length items < most_taken → WhileTold old new (IsRead shown (Err ReadFault))
  read-failed old mid new items told took few =
      then old mid new (λ first left. first ≡ items ++ left) (λ before after. after ≡ before) (IsRead shown (Err ReadFault)) told took
      (λ x y z p q. (items, p ∙ ap (λ s. items ++ s) (sym q), few))

  pub read-unkept : (old mid new : Option (List ℕ)) (items buf : List ℕ) (n : ℕ) → WhileTold old mid (λ first left. first ≡ items ++ left)
      → WhileTold mid new (λ before after. (before ≡ take n buf ++ after) × (n ≡ 0 → before ≡ [])) → WhileTold old new (IsRead shown (Err NoMemory))
  read-unkept old mid new items buf n told took =
      then old mid new (λ first left. first ≡ items ++ left) (λ before after. (before ≡ take n buf ++ after) × (n ≡ 0 → before ≡ []))
      (IsRead shown (Err NoMemory)) told took
      (λ x y z p q. (items ++ take n buf, p ∙ ap (λ s. items ++ s) q.0 ∙ sym (append_assoc items (take n buf) z), tt))

  pub read-spent : (old now : Option (List ℕ)) (items : List ℕ) → WhileTold old now (λ first left. first ≡ items ++ left) → length items ≡ most_taken →
      WhileTold old now (IsRead shown (Err Spent))
  read-spent old now items told all = weaker old now (λ first left. first ≡ items ++ left) (IsRead shown (Err Spent)) told (λ x y p. (items, p, all))

  -- an input that was read to its end is its bytes
  pub read-is : (old now : Option (List ℕ)) (bytes : V) (slice : List ℕ) (status : Status) (A B : Type 0) → WhileTold old now (IsRead shown (Ok bytes)) →
      slice ≡ shown bytes → (B → ImportsAs slice status)
      → WhileTold old now (λ first left. length first < most_taken → A → B → ImportsAs first status)
  read-is old now bytes slice status A B read is judged =
      weaker old now (IsRead shown (Ok bytes)) (λ first left. length first < most_taken → A → B → ImportsAs first status) read
      (λ x y p. λ few a b.
      let same : slice ≡ x = is ∙ sym p.2.0 ∙ sym (append-nil p.0) ∙ ap (λ s. p.0 ++ s) (sym p.2.1) ∙ sym p.1 in
      subst (λ z. ImportsAs z status) same (judged b))
