-- Why two states aren't settled.
use Rattle.std.proofs.Common.{◌≡◌, ℕ, ◌+◌, false, List, [], ◌∷◌, ◌++◌, length, map, drop, min, nat_lt, filter_map, Option, Some, None, refl, sym, ap, ap₂, subst, ◌∙◌, append_assoc}
use Rattle.std.proofs.Common.{IsTrue, IsFalse}
use Rattle.std.proofs.lemmas.Bool.{cond-true, cond-false}
use Rattle.std.proofs.lemmas.List.{append-nil}
use Rattle.std.proofs.lemmas.List.Elements.{filter_map-append}
use Rattle.std.specs.List.{cons_option}
use Rattle.std.specs.Option.{option_map}
use Rattle.tardis_base.specs.declared.ids.StateId.{StateId}
use Rattle.tardis_base.specs.declared.records.Record.{Record}
use Rattle.tardis_base.specs.declared.records.Write.{Write}
use Rattle.tardis_base.specs.Ids.{is_before}
use Rattle.tardis_base.specs.Keys.{KeyWrite}
use Rattle.plain_dag.specs.Conflicts.{conflict_keys}
use Rattle.plain_dag.specs.Forks.{fork_points}
use Rattle.plain_dag.specs.Writers.{read}
use Rattle.rule_list.specs.declared.rules.Rule.{Rule}
use Rattle.rule_list.specs.declared.rules.PrefixRule.{PrefixRule}
use Rattle.rule_list.specs.Rules.{rule_for}
use Rattle.join_rules.specs.declared.reasons.NoValue.{NoValue}
use Rattle.join_rules.specs.declared.settling.Settled.TheVariants.{Wide, Unmerged, Values}
use Rattle.join_rules.specs.declared.open_forks.Reason.{Reason}
use Rattle.join_rules.specs.declared.open_forks.Reason.TheVariants.{TooWide, Key}
use Rattle.join_rules.specs.declared.open_forks.Unjoined.{Unjoined}
use Rattle.join_rules.specs.Values.{Base}
use Rattle.join_rules.specs.Valued.{base_at, value_of, unmerged}
use Rattle.join_rules.specs.Settlings.{SettledAs}
use Rattle.join_rules.specs.Joints.{in_order, pairs}
use Rattle.join_rules.specs.Unsettled.{with_found}
use Rattle.join_rules.specs.Reasons.{cause_over, cause_of, obstacle, unjoined_of}

module _ (rules : List PrefixRule) (rs : List Record) (x y : StateId) where
  pub cause-is : (k : List ℕ) (rule : Rule) (base : Base) (left right : Option (StateId × Write)) → rule ≡ rule_for rules k →
      base ≡ base_at rs k (fork_points rs (x ∷ y ∷ [])) → left ≡ read rs k x → right ≡ read rs k y → cause_over rule base left right ≡ cause_of rules rs x y k
  cause-is k rule base left right er eb el em =
      ap (λ q. cause_over q base left right) er ∙ ap (λ q. cause_over (rule_for rules k) q left right) eb
      ∙ ap₂ (λ l m. cause_over (rule_for rules k) (base_at rs k (fork_points rs (x ∷ y ∷ []))) l m) el em

  abbrev keys : List (List ℕ)
  keys = conflict_keys rs (x ∷ y ∷ [])

  abbrev with_cause : List ℕ → Reason
  with_cause k = Key k (cause_of rules rs x y k)

  abbrev least : Option (List ℕ) → Option Reason
  least o = option_map with_cause o

  abbrev value : List ℕ → Option Write
  value = value_of rules rs x y

  abbrev too_wide : Option Reason
  too_wide = Some (TooWide (min (length keys) 4294967295))

  pub wide-reason : (n : ℕ) → SettledAs rules rs x y (Wide n) → ◌≡◌ {A = Option Reason} (Some (TooWide n)) (obstacle rules rs x y)
  wide-reason n (many, is) = ap (λ m. Some (TooWide m)) is ∙ sym (cond-true (nat_lt 64 (length keys)) too_wide (least (unmerged value keys)) many)

  few-reason : nat_lt 64 (length keys) ≡ false → obstacle rules rs x y ≡ least (unmerged value keys)
  few-reason few = cond-false (nat_lt 64 (length keys)) too_wide (least (unmerged value keys)) few

  pub key-reason : (k : List ℕ) (cause : NoValue) → SettledAs rules rs x y (Unmerged k) → cause ≡ cause_of rules rs x y k →
      ◌≡◌ {A = Option Reason} (Some (Key k cause)) (obstacle rules rs x y)
  key-reason k cause (few, is) why = ap (λ w. Some (Key k w)) why ∙ sym (few-reason few ∙ ap least is)

  pub no-reason : (ws : List KeyWrite) → SettledAs rules rs x y (Values ws) → ◌≡◌ {A = Option Reason} None (obstacle rules rs x y)
  no-reason ws (few, none, is) = sym (few-reason few ∙ ap least none)

  abbrev with_two : StateId → StateId → Option Reason → Option Unjoined
  with_two a b o = option_map (λ why. record { first = a; second = b; reason = why }) o

  pub some-unjoined : (first second : StateId) (reason : Reason) → x ≡ first → y ≡ second → Some reason ≡ obstacle rules rs x y →
      ◌≡◌ {A = Option Unjoined} (Some (record { first = first; second = second; reason = reason })) (unjoined_of rules rs (x, y))
  some-unjoined first second reason one other is =
      sym (ap₂ (λ a b. with_two a b (Some reason)) one other) ∙ ap (with_two x y) is

  pub none-unjoined : ◌≡◌ {A = Option Reason} None (obstacle rules rs x y) → ◌≡◌ {A = Option Unjoined} None (unjoined_of rules rs (x, y))
  none-unjoined is = ap (with_two x y) is

  pub straight-two : IsTrue (is_before x y) → unjoined_of rules rs (x, y) ≡ unjoined_of rules rs (in_order x y)
  straight-two t = ap (unjoined_of rules rs) (sym (cond-true (is_before x y) (x, y) (y, x) t))

  pub turned-two : IsFalse (is_before x y) → unjoined_of rules rs (y, x) ≡ unjoined_of rules rs (in_order x y)
  turned-two f = ap (unjoined_of rules rs) (sym (cond-false (is_before x y) (x, y) (y, x) f))

-- ===== What was found

module _ (rules : List PrefixRule) (rs : List Record) where
  abbrev all : List (StateId × StateId) → List Unjoined
  all twos = filter_map (unjoined_of rules rs) twos

  -- what was found, and what is left
  abbrev pub FoundWith : StateId → List StateId → ℕ → (old now : List Unjoined) → Type 0
  FoundWith x ys i old now = old ++ all (map (in_order x) ys) ≡ now ++ all (map (in_order x) (drop i ys))

  pub found-first : (x : StateId) (ys : List StateId) (old : List Unjoined) → FoundWith x ys 0 old old
  found-first x ys old = refl

  module _ (x y : StateId) (ys : List StateId) (i : ℕ) (old now : List Unjoined) (so : FoundWith x ys i old now)
      (left : drop i ys ≡ y ∷ drop (i + 1) ys) where
    abbrev rest : List Unjoined
    rest = all (map (in_order x) (drop (i + 1) ys))

    here : old ++ all (map (in_order x) ys) ≡ now ++ cons_option (unjoined_of rules rs (in_order x y)) rest
    here = so ∙ ap (λ zs. now ++ all (map (in_order x) zs)) left

    pub found-some : (two : Unjoined) → ◌≡◌ {A = Option Unjoined} (Some two) (unjoined_of rules rs (in_order x y)) → FoundWith x ys (i + 1) old (now ++ two ∷ [])
    found-some two is = here ∙ ap (λ o. now ++ cons_option o rest) (sym is) ∙ sym (append_assoc now (two ∷ []) rest)

    pub found-none : ◌≡◌ {A = Option Unjoined} None (unjoined_of rules rs (in_order x y)) → FoundWith x ys (i + 1) old now
    found-none is = here ∙ ap (λ o. now ++ cons_option o rest) (sym is)

    pub found-next : (o : Option Unjoined) (new : List Unjoined) → o ≡ unjoined_of rules rs (in_order x y) → new ≡ with_found now o →
        FoundWith x ys (i + 1) old new
    found-next None new is put = subst (λ zs. FoundWith x ys (i + 1) old zs) (sym put) (found-none is)
    found-next (Some two) new is put = subst (λ zs. FoundWith x ys (i + 1) old zs) (sym put) (found-some two is)

  pub found-end : (x : StateId) (ys : List StateId) (i : ℕ) (old now : List Unjoined) → FoundWith x ys i old now → drop i ys ≡ [] →
      now ≡ old ++ all (map (in_order x) ys)
  found-end x ys i old now so none = sym (so ∙ ap (λ zs. now ++ all (map (in_order x) zs)) none ∙ append-nil now)

  -- so of each leaf with those behind it
  abbrev pub FoundOf : List StateId → ℕ → List Unjoined → Type 0
  FoundOf xs i now = all (pairs xs) ≡ now ++ all (pairs (drop i xs))

  pub found-of-next : (x : StateId) (xs : List StateId) (i : ℕ) (old now : List Unjoined) → FoundOf xs i old → drop i xs ≡ x ∷ drop (i + 1) xs →
      now ≡ old ++ all (map (in_order x) (drop (i + 1) xs)) → FoundOf xs (i + 1) now
  found-of-next x xs i old now so left put =
      let rest = drop (i + 1) xs in
      so ∙ ap (λ zs. old ++ all (pairs zs)) left
      ∙ ap (λ zs. old ++ zs) (filter_map-append (unjoined_of rules rs) (map (in_order x) rest) (pairs rest))
      ∙ sym (append_assoc old (all (map (in_order x) rest)) (all (pairs rest)))
      ∙ ap (λ zs. zs ++ all (pairs rest)) (sym put)

  pub found-of-end : (xs : List StateId) (i : ℕ) (now : List Unjoined) → FoundOf xs i now → drop i xs ≡ [] → now ≡ all (pairs xs)
  found-of-end xs i now so none = sym (so ∙ ap (λ zs. now ++ all (pairs zs)) none ∙ append-nil now)
