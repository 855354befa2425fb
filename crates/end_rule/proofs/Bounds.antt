-- Which constraint is broken, after the tests of both.
use Rattle.std.proofs.Common.{◌≡◌, ◌∙◌, ℕ, ◌<◌, ◌≤◌, ◌&&◌, ◌⊎◌, Bool, true, false, Some, None, nat_le, inl, inr, sym, ap, if◌then◌else◌, IsTrue}
use Rattle.std.proofs.lemmas.Bool.{and_from, cond-true, cond-false, le-leb, lt-leb}
use Rattle.tardis_base.specs.declared.requests.EndFlags.{EndFlags}
use Rattle.plain_dag.specs.Landing.{is_nb, is_kb, broken}

-- so many children don't break the bound n of a flag
abbrev pub IsUnbroken : Bool → ℕ → ℕ → Type 0
IsUnbroken flag n children = ((flag ≡ true) × (children < n)) ⊎ (flag ≡ false)

not-broken : (flag : Bool) (n children : ℕ) → IsUnbroken flag n children → (flag && nat_le n children) ≡ false
not-broken flag n children (inl few) = ap (λ b. b && nat_le n children) few.0 ∙ lt-leb n children few.1
not-broken flag n children (inr off) = ap (λ b. b && nat_le n children) off

module _ (flags : EndFlags) (k children : ℕ) where
  abbrev nb : Bool
  nb = is_nb flags && nat_le 1 children

  abbrev kb : Bool
  kb = is_kb flags && nat_le k children

  pub breaks-kb : IsUnbroken (is_nb flags) 1 children → IsTrue (is_kb flags) → k ≤ children → Some 8 ≡ broken flags k children
  breaks-kb unbroken set many =
      sym (cond-false nb (Some 4) (if kb then Some 8 else None) (not-broken (is_nb flags) 1 children unbroken)
      ∙ cond-true kb (Some 8) None (and_from (is_kb flags) (nat_le k children) set (le-leb k children many)))

  pub breaks-none : IsUnbroken (is_nb flags) 1 children → IsUnbroken (is_kb flags) k children → None ≡ broken flags k children
  breaks-none first second =
      sym (cond-false nb (Some 4) (if kb then Some 8 else None) (not-broken (is_nb flags) 1 children first)
      ∙ cond-false kb (Some 8) None (not-broken (is_kb flags) k children second))
