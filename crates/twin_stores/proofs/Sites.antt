-- The sites of a history's records are those of which it counts states.
use Rattle.std.proofs.Common.{◌≡◌, ℕ, zero, suc, ◌+◌, ◌<◌, ◌≤◌, Bool, eqb, List, [], ◌∷◌, map, IsTrue, IsFalse, inl, inr, refl, sym, ap₂}
use Rattle.std.proofs.Common.{◌∙◌, arith}
use Rattle.std.specs.Prelude.{nat_le}
use Rattle.std.specs.List.{list_all, range_with_len}
use Rattle.std.proofs.lemmas.Bool.{and_parts, and_from, cases_Bool, cases_lt, leb-true, le-leb, eqb-true, false_from_ne_true}
use Rattle.tardis_base.specs.declared.ids.StateId.{StateId}
use Rattle.tardis_base.specs.declared.records.Record.{Record}
use Rattle.plain_dag.specs.States.{count_of_site}
use Rattle.state_dag.specs.Table.{Table}
use Rattle.state_dag.specs.Stands.{Stands}
use Rattle.state_dag.proofs.Calls.{counted}
use Rattle.state_dag.proofs.Known.{count-newest, count-other}

-- no record is of a site beyond these
abbrev pub are_within : ℕ → List Record → Bool
are_within sites rs = list_all (λ r. nat_le r.id.site sites) rs

-- none is counted of a site beyond
pub none-beyond : (sites : ℕ) (rs : List Record) → IsTrue (are_within sites rs) → (n : ℕ) → sites < n → count_of_site rs n ≡ 0
none-beyond sites [] within n lt = refl
none-beyond sites (r ∷ rs) within n lt =
    let parts = and_parts (nat_le r.id.site sites) (are_within sites rs) within in
    let here = leb-true r.id.site sites parts.0 in
    count-other rs r n (false_from_ne_true (eqb r.id.site n) (λ t. let e = eqb-true r.id.site n t in omega arith))
    ∙ none-beyond sites rs parts.1 n lt

count-step : (rs : List Record) (r : Record) (n : ℕ) → count_of_site (r ∷ rs) n ≡ 0 → (count_of_site rs n ≡ 0) × IsFalse (eqb r.id.site n)
count-step rs r n none = elim (cases_Bool (eqb r.id.site n)) [
  | inl t ↦ (let more = count-newest rs r n (eqb-true r.id.site n t) in absurd (omega arith))
  | inr f ↦ (sym (count-other rs r n f) ∙ none, f)
]

-- where none is counted of the sites beyond, no record is of one
pub within-where_counted : (sites : ℕ) (rs : List Record) → ((n : ℕ) → sites < n → count_of_site rs n ≡ 0) → IsTrue (are_within sites rs)
within-where_counted sites [] none = refl
within-where_counted sites (r ∷ rs) none =
    and_from (nat_le r.id.site sites) (are_within sites rs) here (within-where_counted sites rs (λ n lt. (count-step rs r n (none n lt)).0))
  where
    here : IsTrue (nat_le r.id.site sites)
    here = elim (cases_lt sites r.id.site) [
      | inl beyond ↦
          let more = count-newest rs r r.id.site refl in
          let zero_there = none r.id.site beyond in
          absurd (omega arith)
      | inr le ↦ le-leb r.id.site sites le
    ]

-- counts that are alike from a number on are alike in a list
pub counts-alike : (f g : ℕ → ℕ) (length from : ℕ) → 1 ≤ from → ((n : ℕ) → 1 ≤ n → f n ≡ g n) → map f (range_with_len from length) ≡ map g (range_with_len from length)
counts-alike f g zero from some same = refl
counts-alike f g (suc length) from some same =
    ap₂ (λ (n : ℕ) (ns : List ℕ). n ∷ ns) (same from some) (counts-alike f g length (from + 1) (omega arith) same)

-- of each site two histories with one table have as many states
pub site-alike : (table : Table) (ra : List Record) (ka : List StateId) (rb : List Record) (kb : List StateId) → Stands table ra ka → Stands table rb kb →
    (n : ℕ) → 1 ≤ n → count_of_site ra n ≡ count_of_site rb n
site-alike table ra ka rb kb sa sb n some = elim (cases_lt table.limits.sites n) [
  | inl beyond ↦ none-beyond table.limits.sites ra sa.sites n beyond ∙ sym (none-beyond table.limits.sites rb sb.sites n beyond)
  | inr within ↦ sym (counted table ra ka sa n table.counts 0 refl some within) ∙ counted table rb kb sb n table.counts 0 refl some within
]
