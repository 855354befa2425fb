-- Two states are settled.
use Rattle.std.proofs.Common.{◌≡◌, ℕ, suc, ◌<◌, ◌≤◌, true, false, ◌==◌, List, [], ◌∷◌, length, filter, take, min, nat_lt, Option, Some, None, is_some, Result}
use Rattle.std.proofs.Common.{Ok, Err, ap, ap₂, ◌∙◌, subst, refl, arith, if◌then◌else◌, lt-ltb}
use Rattle.std.proofs.lemmas.Bool.{and_parts, both_ways, ne_eqb, cond-true}
use Rattle.std.proofs.lemmas.Bool.Decides.{nat_tests}
use Rattle.std.specs.List.{list_all}
use Rattle.std.specs.Prelude.{IfOk, IfSome}
use Rattle.tardis_base.specs.declared.faults.NoMemory.{NoMemory as OutOfMemory}
use Rattle.tardis_base.specs.declared.ids.StateId.{StateId}
use Rattle.tardis_base.specs.declared.ids.Slot.{Slot}
use Rattle.tardis_base.specs.declared.records.Record.{Record}
use Rattle.tardis_base.specs.declared.records.Write.{Write}
use Rattle.tardis_base.specs.Keys.{is_key_before}
use Rattle.tardis_base.specs.Valid.{is_key}
use Rattle.plain_dag.specs.Collection.{is_kept}
use Rattle.plain_dag.specs.Conflicts.{conflict_keys}
use Rattle.plain_dag.specs.Forks.{fork_points}
use Rattle.plain_dag.specs.Writers.{read}
use Rattle.state_dag.specs.Table.{Table, id_at}
use Rattle.record_store.specs.Store.{Store}
use Rattle.record_store.specs.Stands.{StoreStands}
use Rattle.rule_list.specs.declared.rules.Rule.{Rule}
use Rattle.join_rules.specs.declared.settling.Settled.{Settled}
use Rattle.join_rules.specs.declared.settling.Settled.TheVariants.{Wide, Unmerged, Values}
use Rattle.join_rules.specs.Valued.{written_base, base_at, merged_sides, value_of}
use Rattle.rule_list.specs.declared.rules.PrefixRule.{PrefixRule}
use Rattle.rule_list.specs.Rules.{rule_for}
use Rattle.join_rules.specs.Settlings.{IsParting, BeganAs, IsValued, SettledAs, only}
use Rattle.join_rules.specs.Values.{Base, Unknown}

-- ===== Where two states part

two-arent-one : (n : ℕ) → (suc (suc n) == 1) ≡ false
two-arent-one n = ne_eqb (suc (suc n)) 1 (λ z. omega arith)

only-many : (p q : StateId) (ps : List StateId) → ◌≡◌ {A = Option StateId} (only (length (p ∷ q ∷ ps)) (take 256 (p ∷ q ∷ ps))) None
only-many p q ps = ap (λ t. if t then Some p else None) (two-arent-one (length ps))

pub parted-at : (table : Table) (rs : List Record) (ks forks : List StateId) (state : StateId) (slot : Option Slot) →
    Some state ≡ only (length forks) (take 256 forks) →
    IfSome slot (λ s. id_at table s ≡ Some state) → (slot ≡ None → is_kept rs ks state ≡ false) → ((p : StateId) → forks ≡ p ∷ [] → is_kept rs ks p ≡ true)
    → IsParting table forks slot
parted-at table rs ks [] state slot e found none kept = absurd (cc)
parted-at table rs ks (p ∷ []) state None e found none kept =
    let same : state ≡ p = (cc) in
    absurd (both_ways (is_kept rs ks p) (subst (λ z. is_kept rs ks z ≡ false) same (none refl)) (kept p refl))
parted-at table rs ks (p ∷ []) state (Some s) e found none kept =
    let same : state ≡ p = (cc) in
    subst (λ z. id_at table s ≡ Some z) same found
parted-at table rs ks (p ∷ q ∷ ps) state slot e found none kept = let bad = e ∙ only-many p q ps in absurd (cc)

pub unparted : (table : Table) (forks : List StateId) → ◌≡◌ {A = Option StateId} None (only (length forks) (take 256 forks)) → IsParting table forks None
unparted table [] e = refl
unparted table (p ∷ []) e = absurd (cc)
unparted table (p ∷ q ∷ ps) e = refl

-- ===== The value of a key

pub known-base : (store : Store) (rs : List Record) (ks : List StateId) → StoreStands store rs ks →
    (forks : List StateId) (parting : Option Slot) (k : List ℕ) (began : Option (StateId × Write)) →
    IsParting store.table forks parting → BeganAs store parting k (Ok began) → (if is_some parting then written_base began else Unknown) ≡ base_at rs k forks
known-base store rs ks stands [] None k began parts h = refl
known-base store rs ks stands [] (Some s) k began parts h = absurd (cc)
known-base store rs ks stands (p ∷ []) None k began parts h = absurd (cc)
known-base store rs ks stands (p ∷ []) (Some s) k began parts h = ap written_base (h rs ks stands p parts)
known-base store rs ks stands (p ∷ q ∷ ps) None k began parts h = refl
known-base store rs ks stands (p ∷ q ∷ ps) (Some s) k began parts h = absurd (cc)

pub value-is : (rules : List PrefixRule) (rs : List Record) (x y : StateId) (k : List ℕ) (rule : Rule) (base : Base)
    (left right : Option (StateId × Write)) → rule ≡ rule_for rules k →
    base ≡ base_at rs k (fork_points rs (x ∷ y ∷ [])) → left ≡ read rs k x → right ≡ read rs k y → (r : Result (Option Write) OutOfMemory) →
    IfOk r (λ v. v ≡ merged_sides rule base left right) → IfOk r (λ v. v ≡ value_of rules rs x y k)
value-is rules rs x y k rule base left right er eb el em r h =
    subst (λ (u : Option Write). IfOk r (λ v. v ≡ u))
    (ap (λ q. merged_sides q base left right) er ∙ ap (λ q. merged_sides (rule_for rules k) q left right) eb
    ∙ ap₂ (λ l m. merged_sides (rule_for rules k) (base_at rs k (fork_points rs (x ∷ y ∷ []))) l m) el em) h

-- ===== All conflict keys

not-empty : (k : List ℕ) → is_key k ≡ true → is_key_before [] k ≡ true
not-empty [] h = absurd (cc)
not-empty (c ∷ cs) h = refl

pub all-behind : (ks : List (List ℕ)) → list_all is_key ks ≡ true → filter (is_key_before []) ks ≡ ks
all-behind [] h = refl
all-behind (k ∷ ks) h =
    let p = and_parts (is_key k) (list_all is_key ks) h in
    cond-true (is_key_before [] k) (k ∷ filter (is_key_before []) ks) (filter (is_key_before []) ks) (not-empty k p.0) ∙ ap (λ zs. k ∷ zs) (all-behind ks p.1)

pub wide : (ks : List (List ℕ)) (total : ℕ) → total ≡ min (length ks) 4294967295 → 64 < total → nat_lt 64 (length ks) ≡ true
wide ks total is more = lt-ltb 64 (length ks) (omega (arith, is, more))

pub few : (ks : List (List ℕ)) (total : ℕ) → total ≡ min (length ks) 4294967295 → total ≤ 64 → length ks ≤ 64
few ks total is fewer = omega (arith, is, fewer)

pub isnt-wide : (n : ℕ) → n ≤ 64 → nat_lt 64 n ≡ false
isnt-wide n h = grind (arith, nat_tests)

take-over : (n : ℕ) (xs : List (List ℕ)) → length xs ≤ n → take n xs ≡ xs
take-over ℕ.zero [] h = refl
take-over (suc n) [] h = refl
take-over ℕ.zero (x ∷ xs) h = absurd (omega (arith, h))
take-over (suc n) (x ∷ xs) h = ap (λ ys. x ∷ ys) (take-over n xs (omega (arith, h)))

pub shown-all : (ks shown : List (List ℕ)) → length ks ≤ 64 → shown ≡ take 256 ks → shown ≡ ks
shown-all ks shown h e = e ∙ take-over 256 ks (omega (arith, h))

pub settled : (rules : List PrefixRule) (rs : List Record) (x y : StateId) (keys : List (List ℕ)) (r : Result Settled OutOfMemory) →
    keys ≡ conflict_keys rs (x ∷ y ∷ []) →
    nat_lt 64 (length (conflict_keys rs (x ∷ y ∷ []))) ≡ false → IfOk r (IsValued (value_of rules rs x y) keys) → IfOk r (SettledAs rules rs x y)
settled rules rs x y keys (Err fault) e narrow h = h
settled rules rs x y keys (Ok (Wide n)) e narrow h = absurd (h)
settled rules rs x y keys (Ok (Unmerged k)) e narrow h = (narrow, subst (λ ks. IsValued (value_of rules rs x y) ks (Unmerged k)) e h)
settled rules rs x y keys (Ok (Values ws)) e narrow h =
    let g = subst (λ ks. IsValued (value_of rules rs x y) ks (Values ws)) e h in
    (narrow, g.0, g.1)
