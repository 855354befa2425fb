-- Which of a merge's states are admitted.
use Rattle.std.proofs.Common.{◌≡◌, ◌∙◌, ℕ, ◌+◌, ◌<◌, ◌==◌, Bool, not, List, ◌∷◌, [], length, map, find, get_or, drop, Some, None, Result, Ok, Err, IsTrue}
use Rattle.std.proofs.Common.{IsFalse, inl, inr, sym, ap, subst}
use Rattle.std.specs.Result.{IsErrAnd}
use Rattle.std.specs.Option.{option_map}
use Rattle.std.proofs.lemmas.Bool.{cases_Bool, not_from_false, cond-true, cond-false}
use Rattle.std.proofs.lemmas.Option.{none-some, same_Some}
use Rattle.std.proofs.lemmas.List.{drop_more}
use Rattle.tardis_base.specs.declared.ids.StateId.{StateId}
use Rattle.tardis_base.specs.declared.ids.Slot.{Slot}
use Rattle.tardis_base.specs.declared.records.Record.{Record}
use Rattle.tardis_base.specs.Ids.{is_among}
use Rattle.plain_dag.specs.States.{is_known}
use Rattle.plain_dag.specs.Begin.{is_admitted}
use Rattle.plain_dag.proofs.Ids.{not-both, among-first, among-later}
use Rattle.state_dag.specs.Table.{Entry, Table, id_at}
use Rattle.begin_rule.specs.declared.BeginFault.{BeginFault}
use Rattle.begin_rule.specs.declared.BeginFault.TheVariants.{Unknown, Below}
use Rattle.begin_rule.specs.Choices.{ChosenAs, AdmittedAllAs}
use Rattle.plain_dag.specs.Begin.{first_unknown, first_below}
use Rattle.state_dag.specs.Table.{is_listed}
use Rattle.begin_rule.proofs.NamedStates.{found-here, found-behind, none-passes}

-- a state that a slot names is listed
pub named-is_listed : (table : Table) (slot : Slot) (x : StateId) → id_at table slot ≡ Some x → IsTrue (is_listed table x)
named-is_listed table slot x named = go table.entries named
  where
    here : (e : Entry) → Bool
    here e = e.slot.0 == slot.0

    go : (es : List Entry) → option_map (λ e. e.id) (find here es) ≡ Some x → IsTrue (is_among x (map (λ e. e.id) es))
    go [] is = absurd (none-some x is)
    go (e ∷ es) is = elim (cases_Bool (here e)) [
      | inl t ↦
          let same = same_Some e.id x (sym (ap (option_map (λ (f : Entry). f.id)) (cond-true (here e) (Some e) (find here es) t)) ∙ is) in
          subst (λ y. IsTrue (is_among x (y ∷ map (λ f. f.id) es))) (sym same) (among-first x (map (λ f. f.id) es))
      | inr f ↦ among-later x e.id (map (λ f. f.id) es) (go es (sym (ap (option_map (λ (f : Entry). f.id)) (cond-false (here e) (Some e) (find here es) f))
          ∙ is))
    ]

-- where none is unknown, each is known
pub known-at : (rs : List Record) (xs : List StateId) (i : ℕ) (d : StateId) → first_unknown rs xs ≡ None → i < length xs → IsTrue (is_known rs (get_or xs i d))
known-at rs xs i d none lt = elim (cases_Bool (is_known rs (get_or xs i d))) [
  | inl t ↦ t
  | inr f ↦ not-both (not (is_known rs (get_or xs i d))) (not_from_false (is_known rs (get_or xs i d)) f)
      (none-passes (λ x. not (is_known rs x)) xs i d none lt)
]

module _ (table : Table) (rs : List Record) (c : StateId) (xs : List StateId) (i : ℕ) (d : StateId) (lt : i < length xs)
    (met : first_below rs c xs ≡ first_below rs c (drop i xs)) where
  abbrev x : StateId
  x = get_or xs i d

  abbrev is_below : StateId → Bool
  is_below y = not (is_admitted rs c y)

  -- the first that isn't admitted is told
  pub refusal-told : (fault : BeginFault) (r : Result Unit BeginFault) → IsTrue (is_known rs x) → ChosenAs table rs c x (Err fault) →
      IsErrAnd r (λ told. told ≡ fault) → AdmittedAllAs rs c xs r
  refusal-told (Unknown y) r known chosen is = not-both (is_known rs x) known chosen.1
  refusal-told (Below y e) (Ok done) known chosen is = absurd (is)
  refusal-told (Below y e) (Err told) known chosen is =
      let first = met ∙ (ap (first_below rs c) (drop_more xs i d lt)
      ∙ found-here is_below x (drop (i + 1) xs) (not_from_false (is_admitted rs c x) chosen.3)) in
      subst (λ f. AdmittedAllAs rs c xs (Err f)) (sym is) (first ∙ ap (λ z. Some z) (sym chosen.0), chosen.1)

  -- one more is admitted
  pub admitted-next : (slot : Slot) → ChosenAs table rs c x (Ok slot) → first_below rs c xs ≡ first_below rs c (drop (i + 1) xs)
  admitted-next slot chosen = met ∙ (ap (first_below rs c) (drop_more xs i d lt) ∙ found-behind is_below x (drop (i + 1) xs) (not-admitted chosen.2))
    where
      not-admitted : IsTrue (is_admitted rs c x) → IsFalse (is_below x)
      not-admitted t = ap not t
