-- What an auto step comes to, part by part.
use Rattle.std.proofs.Common.{◌≡◌, ℕ, false, List, [], ◌∷◌, length, map, min, nat_lt, Option, Some, None, Result, Ok, Err, IsTrue, inl, inr, refl, sym, ap}
use Rattle.std.proofs.Common.{ap₂, subst, ◌∙◌, ltb-false}
use Rattle.std.proofs.lemmas.Bool.{cases_Bool, cond-true, cond-false}
use Rattle.std.proofs.lemmas.Option.{same_Some}
use Rattle.std.specs.List.{list_all}
use Rattle.std.specs.Prelude.{◌&&◌, IsErrAnd}
use Rattle.tardis_base.specs.declared.faults.NoMemory.{NoMemory as OutOfMemory}
use Rattle.tardis_base.specs.declared.ids.StateId.{StateId}
use Rattle.tardis_base.specs.declared.ids.Slot.{Slot}
use Rattle.tardis_base.specs.declared.records.Write.{Write}
use Rattle.tardis_base.specs.declared.replies.Refusal.{Refusal}
use Rattle.tardis_base.specs.declared.replies.Refusal.TheVariants.{NotOpen, TxnOpen}
use Rattle.tardis_base.specs.Ids.{is_before}
use Rattle.tardis_base.specs.Keys.{KeyWrite, keys_of}
use Rattle.tardis_base.specs.Valid.{is_key, is_write}
use Rattle.plain_dag.specs.Conflicts.{conflict_keys}
use Rattle.plain_dag.specs.Entries.{entry_of}
use Rattle.plain_dag.specs.Floors.{Session}
use Rattle.plain_dag.specs.Forks.{leaves}
use Rattle.state_dag.specs.Stands.{Stands}
use Rattle.state_dag.specs.Table.{Table, id_at}
use Rattle.record_store.specs.Store.{Store}
use Rattle.record_store.specs.Stands.{StoreStands}
use Rattle.plain_site.specs.Site.{Site, Txn}
use Rattle.plain_site.specs.Sound.{IsSound}
use Rattle.plain_site.specs.Answers.{refused, given}
use Rattle.plain_site.specs.Commits.{commit_below}
use Rattle.stored_site.specs.Joins.{begin_refusal, merge_in_one, MayBeMerged}
use Rattle.rule_list.specs.declared.rules.PrefixRule.{PrefixRule}
use Rattle.merge_rules.specs.declared.steps.AutoEnd.{AutoEnd}
use Rattle.merge_rules.specs.declared.steps.AutoEnd.TheVariants.{Single, Refused, Wide, Unmerged}
use Rattle.join_rules.specs.declared.settling.Settled.{Settled}
use Rattle.join_rules.specs.declared.settling.Settled.TheVariants.{Wide as TooWide, Unmerged as WithoutValue, Values}
use Rattle.join_rules.specs.Valued.{value_of, values}
use Rattle.merge_rules.specs.Auto.{AutoAnswer, ended_as, merge_values, merge_both, unless_refused, auto_over, auto_step}
use Rattle.join_rules.specs.Settlings.{MayBeSettled, SettledAs, SettlesAs}
use Rattle.merge_rules.specs.Steps.{Ends, AreFirst, FirstTwo}
use Rattle.join_rules.specs.Searches.{TwoLeaves}
use Rattle.join_rules.proofs.LeafLaws.{leaves-in-order, leaves-exchanged, leaf-keys, two-known, two-apart, two-free, two-are-parents, fork-is_kept}
use Rattle.join_rules.proofs.WrittenLaws.{valued-keys, none-is_open, are-writes}

-- ===== The two leaves

-- the two leaves at these slots, and what the step then comes to
pub record AtLeaves (table : Table) (site : Site) (slots : Slot × Slot) : Type 0 where
  pub x : StateId
  pub y : StateId
  pub at_x : id_at table slots.0 ≡ Some x
  pub at_y : id_at table slots.1 ≡ Some y
  pub two : TwoLeaves site.dag x y
  pub steps : (n : ℕ) (rules : List PrefixRule) → auto_step site n rules ≡ unless_refused site (begin_refusal site n) (merge_both site n rules x y)

pub at-leaves : (table : Table) (site : Site) → IsSound site → (slots : Slot × Slot) → AreFirst table (leaves site.dag) (Some slots) → AtLeaves table site slots
at-leaves table site sound slots first = go (leaves site.dag) refl first
  where
    go : (xs : List StateId) → leaves site.dag ≡ xs → AreFirst table xs (Some slots) → AtLeaves table site slots
    go [] e first = absurd (cc)
    go (x ∷ []) e first = absurd (cc)
    go (x ∷ y ∷ more) e first = elim (cases_Bool (is_before x y)) [
      | inl t ↦ record {
        x = x;
        y = y;
        at_x = first.0 ∙ ap (λ z. Some z) (cond-true (is_before x y) x y t);
        at_y = first.1 ∙ ap (λ z. Some z) (cond-true (is_before x y) y x t);
        two = leaves-in-order site sound x y more e t;
        steps = λ n rules.
            ap (auto_over site n rules) e
            ∙ ap (unless_refused site (begin_refusal site n)) (cond-true (is_before x y) (merge_both site n rules x y) (merge_both site n rules y x) t);
      }
      | inr f ↦ record {
        x = y;
        y = x;
        at_x = first.0 ∙ ap (λ z. Some z) (cond-false (is_before x y) x y f);
        at_y = first.1 ∙ ap (λ z. Some z) (cond-false (is_before x y) y x f);
        two = leaves-exchanged site sound x y more e f;
        steps = λ n rules.
            ap (auto_over site n rules) e
            ∙ ap (unless_refused site (begin_refusal site n)) (cond-false (is_before x y) (merge_both site n rules x y) (merge_both site n rules y x) f);
      }
    ]

-- where there aren't two, nothing is merged
pub no-leaves : (table : Table) (site : Site) (n : ℕ) (rules : List PrefixRule) → AreFirst table (leaves site.dag) None → auto_step site n rules
    ≡ (site, Single)
no-leaves table site n rules first = go (leaves site.dag) first
  where
    go : (xs : List StateId) → AreFirst table xs None → auto_over site n rules xs ≡ (site, Single)
    go [] first = refl
    go (x ∷ []) first = refl
    go (x ∷ y ∷ more) first = absurd (first)

module _ (table : Table) (site : Site) (sound : IsSound site) (slots : Slot × Slot) (at : AtLeaves table site slots) where
  pub may-be-settled : MayBeSettled site.dag site.collected at.x at.y
  may-be-settled = record { keys = leaf-keys site sound (at.x ∷ at.y ∷ []); forks = fork-is_kept site sound at.x at.y at.two }

  module _ (n : ℕ) (rules : List PrefixRule) where
    pub step-refused : (refusal : Refusal) → Some refusal ≡ begin_refusal site n → auto_step site n rules ≡ (site, Refused refusal)
    step-refused refusal e = at.steps n rules ∙ ap (λ o. unless_refused site o (merge_both site n rules at.x at.y)) (sym e)

    module _ (free : ◌≡◌ {A = Option Refusal} None (begin_refusal site n)) where
      step-merges : auto_step site n rules ≡ merge_both site n rules at.x at.y
      step-merges = at.steps n rules ∙ ap (λ o. unless_refused site o (merge_both site n rules at.x at.y)) (sym free)

      abbrev keys : List (List ℕ)
      keys = conflict_keys site.dag (at.x ∷ at.y ∷ [])

      abbrev value : List ℕ → Option Write
      value = value_of rules site.dag at.x at.y

      pub step-wide : (m : ℕ) → SettledAs rules site.dag at.x at.y (TooWide m) → auto_step site n rules ≡ (site, Wide m)
      step-wide m (more, is) =
          step-merges ∙ cond-true (nat_lt 64 (length keys)) (site, Wide (min (length keys) 4294967295)) (merge_values site n at.x at.y value keys) more
          ∙ ap (λ (c : ℕ). (site, Wide c)) (sym is)

      few-keys : nat_lt 64 (length keys) ≡ false → auto_step site n rules ≡ merge_values site n at.x at.y value keys
      few-keys few = step-merges ∙ cond-false (nat_lt 64 (length keys)) (site, Wide (min (length keys) 4294967295))
          (merge_values site n at.x at.y value keys) few

      abbrev valued : Option (List ℕ) → AutoAnswer
      valued o = elim o as (λ v. AutoAnswer) [ Some k ↦ (site, Unmerged k) | None ↦ ended_as (commit_below site n (at.x ∷ at.y ∷ []) (values value keys) []) ]

      pub step-unmerged : (k : List ℕ) → SettledAs rules site.dag at.x at.y (WithoutValue k) → auto_step site n rules ≡ (site, Unmerged k)
      step-unmerged k (few, is) = few-keys few ∙ ap valued is

      -- a session that may begin commits its merge
      merges-below : (ws : List KeyWrite) → merge_in_one site n (at.x ∷ at.y ∷ []) ws ≡ commit_below site n (at.x ∷ at.y ∷ []) ws []
      merges-below ws = go (entry_of n site.sessions) (entry_of n site.txns) free
        where
          go : (s : Option Session) (t : Option Txn) →
              ◌≡◌ {A = Option Refusal} None (elim s as (λ v. Option Refusal) [
                | None ↦ Some NotOpen
                | Some u ↦
                    elim t as (λ v. Option Refusal) [ None ↦ None | Some v ↦ Some TxnOpen ]
              ]) →
              given s (refused site NotOpen) (λ u. given t (commit_below site n (at.x ∷ at.y ∷ []) ws []) (λ v. refused site TxnOpen))
              ≡ commit_below site n (at.x ∷ at.y ∷ []) ws []
          go None t e = absurd (cc)
          go (Some s) None e = refl
          go (Some s) (Some t) e = absurd (cc)

      pub step-joins : (ws : List KeyWrite) → SettledAs rules site.dag at.x at.y (Values ws) → auto_step site n rules
          ≡ ended_as (merge_in_one site n (at.x ∷ at.y ∷ []) ws)
      step-joins ws (few, none, is) =
          few-keys few ∙ ap valued none ∙ ap (λ vs. ended_as (commit_below site n (at.x ∷ at.y ∷ []) vs [])) (sym is) ∙ ap ended_as (sym (merges-below ws))

  -- the values may be committed
  pub values-may-be-merged : (rules : List PrefixRule) (ws : List KeyWrite) → SettledAs rules site.dag at.x at.y (Values ws) →
      IsTrue (list_all (λ (w : KeyWrite). is_key w.0 && is_write w.1) ws) → (x y : StateId) → id_at table slots.0 ≡ Some x → id_at table slots.1 ≡ Some y →
      MayBeMerged site (x ∷ y ∷ []) ws
  values-may-be-merged rules ws (few, none, is) valid x y ex ey =
      let xs = at.x ∷ at.y ∷ [] in
      let ks = conflict_keys site.dag xs in
      let written : keys_of ws ≡ ks = ap keys_of is ∙ valued-keys (value_of rules site.dag at.x at.y) ks none in
      subst (λ zs. MayBeMerged site zs ws) (ap₂ (λ z w. z ∷ w ∷ []) (same_Some at.x x (sym at.at_x ∙ ex)) (same_Some at.y y (sym at.at_y ∙ ey)))
      (record {
        states = two-are-parents site sound at.x at.y at.two;
        writes = are-writes site.dag xs ws written (ltb-false 64 (length ks) few) valid;
        known = two-known site sound at.x at.y at.two;
        apart = two-apart site sound at.x at.y at.two;
        free = two-free site sound at.x at.y at.two;
        settled = none-is_open site.dag xs ws written;
      })

-- ===== A site and its store

-- there aren't two
pub none-at : (store : Store) (site : Site) → StoreStands store site.dag site.collected → (table : Table) → table ≡ store.table → FirstTwo table None →
    (n : ℕ) (rules : List PrefixRule) → auto_step site n rules ≡ (site, Single)
none-at store site keeps table same first n rules =
    no-leaves table site n rules (first site.dag site.collected (subst (λ t. Stands t site.dag site.collected) (sym same) keeps.table))

module _ (store : Store) (site : Site) (sound : IsSound site) (keeps : StoreStands store site.dag site.collected) (slots : Slot × Slot) where
  -- the slots of the first two leaves
  pub leaves-at : (table : Table) → table ≡ store.table → FirstTwo table (Some slots) → AtLeaves store.table site slots
  leaves-at table same first =
      at-leaves store.table site sound slots
      (subst (λ t. AreFirst t (leaves site.dag) (Some slots)) same
      (first site.dag site.collected (subst (λ t. Stands t site.dag site.collected) (sym same) keeps.table)))

  -- their conflict keys are settled
  pub settled-at : (at : AtLeaves store.table site slots) (read : Store) → read ≡ store → (rules : List PrefixRule) (settled : Settled) →
      SettlesAs read rules slots.0 slots.1 (Ok settled) → SettledAs rules site.dag at.x at.y settled
  settled-at at read same rules settled settles =
      settles site.dag site.collected (subst (λ s. StoreStands s site.dag site.collected) (sym same) keeps) at.x at.y
      (subst (λ s. id_at s.table slots.0 ≡ Some at.x) (sym same) at.at_x) (subst (λ s. id_at s.table slots.1 ≡ Some at.y) (sym same) at.at_y)
      (may-be-settled store.table site sound slots at)

-- ===== How it ends

-- it ended so, and the site is as before
pub ended-so : (stands : Site → Type 0) (site : Site) (end : AutoEnd) (answer : AutoAnswer) → answer ≡ (site, end) → stands site → stands answer.0
    × (end ≡ answer.1)
ended-so stands site end answer e there = subst (λ (a : AutoAnswer). stands a.0 × (end ≡ a.1)) (sym e) (there, refl)

pub ended-short : (stands : Site → Type 0) (site : Site) (answer : AutoAnswer) (fault : OutOfMemory) (r : Result AutoEnd OutOfMemory) →
    IsErrAnd r (λ f. f ≡ fault) → stands site → Ends stands answer site r
ended-short stands site answer fault (Ok end) is there = absurd (is)
ended-short stands site answer fault (Err f) is there = there

-- two states have these names
pub two-named : (o p : Option StateId) (xs : List StateId) → o ∷ p ∷ [] ≡ map (λ x. Some x) xs → (P : List StateId → Type 0) →
    ((x y : StateId) → o ≡ Some x → p ≡ Some y → P (x ∷ y ∷ [])) → P xs
two-named o p [] e P h = absurd (cc)
two-named o p (x ∷ []) e P h = absurd (cc)
two-named o p (x ∷ y ∷ []) e P h = h x y (cc) (cc)
two-named o p (x ∷ y ∷ z ∷ zs) e P h = absurd (cc)
