-- A merge begins.
use Rattle.std.proofs.Common.{◌≡◌, ◌≤◌, ◌<◌, ℕ, false, nat_lt, List, [], ◌∷◌, length, map, Option, Some, None, Result, Ok, Err, IsTrue, refl, sym, ap, ap₂}
use Rattle.std.proofs.Common.{subst, ◌∙◌, arith}
use Rattle.std.proofs.lemmas.Option.{same_Some}
use Rattle.std.proofs.lemmas.Bool.{false_from_ne_true, ltb-true, lt-ltb}
use Rattle.tardis_base.specs.declared.ids.StateId.{StateId}
use Rattle.tardis_base.specs.declared.ids.Slot.{Slot}
use Rattle.tardis_base.specs.declared.records.Record.{Record}
use Rattle.tardis_base.specs.Ids.{is_among}
use Rattle.tardis_base.specs.declared.replies.Excess.TheVariants.{MergedStates}
use Rattle.tardis_base.specs.declared.replies.Refusal.TheVariants.{TooMany, Unknown, Below, Comparable}
use Rattle.tardis_base.specs.declared.replies.Reply.TheVariants.{Refused, Merging}
use Rattle.plain_dag.specs.Above.{is_proper_ancestor, comparable_pair}
use Rattle.plain_dag.specs.Floors.{Session}
use Rattle.plain_dag.specs.Entries.{entry_of, with_entry}
use Rattle.state_dag.specs.Table.{Table, id_at}
use Rattle.state_dag.specs.Stands.{Stands}
use Rattle.ceiling_book.specs.Book.{Book, sessions_of}
use Rattle.ceiling_book.specs.Places.{ArePlaced}
use Rattle.begin_rule.specs.declared.merges.MergeFault.{MergeFault}
use Rattle.begin_rule.specs.declared.merges.MergeFault.TheVariants.{Unknown as OneUnknown, Below as OneBelow, Comparable as AreComparable}
use Rattle.begin_rule.specs.declared.merges.MergeFault.TheVariants.{NoMemory as OutOfMemory}
use Rattle.begin_rule.specs.Choices.{ChosenAllAs}
use Rattle.merge_txn.specs.declared.Txn.TheVariants.{Merge as KeptMerge}
use Rattle.plain_site.specs.Site.{Site}
use Rattle.plain_site.specs.Sound.{IsSound}
use Rattle.plain_site.specs.Answers.{Answer, refused, refuse_found, unless}
use Rattle.plain_site.specs.Merges.{in_order, merge_at, merging, first_unknown, first_below}
use Rattle.merge_txn.specs.declared.Txn.{Txn as Kept}
use Rattle.session_core.specs.Core.{Core}
use Rattle.session_core.specs.Stands.{CoreStands}
use Rattle.session_core.specs.Gives.{IsGiven, Stops}
use Rattle.site_answers.specs.Stops.{merge_stop}
use Rattle.session_core.proofs.Answers.{skip, stop}
use Rattle.session_core.proofs.Standing.{txn-begun}
use Rattle.session_core.proofs.Beginning.{collected-above}

-- ===== The merge that is kept

-- lists that are the same have the same first and the same rest
cons-parts : {A : Type 0} (a : A) (as' : List A) (b : A) (bs : List A) → a ∷ as' ≡ b ∷ bs → (a ≡ b) × (as' ≡ bs)
cons-parts a as' b bs same = (first a as' b bs same, rest a as' b bs same)
  where
    first : {A : Type 0} (a : A) (as' : List A) (b : A) (bs : List A) → a ∷ as' ≡ b ∷ bs → a ≡ b
    first a as' b bs same = (cc)

    rest : {A : Type 0} (a : A) (as' : List A) (b : A) (bs : List A) → a ∷ as' ≡ b ∷ bs → as' ≡ bs
    rest a as' b bs same = (cc)

-- these are the same states
pub states-told : (xs ys : List StateId) → map (λ x. Some x) xs ≡ map (λ x. Some x) ys → xs ≡ ys
states-told [] [] e = refl
states-told [] (y ∷ ys) e = (cc)
states-told (x ∷ xs) [] e = (cc)
states-told (x ∷ xs) (y ∷ ys) e =
    let parts = cons-parts (Some x) (map (λ z. Some z) xs) (Some y) (map (λ z. Some z) ys) e in
    ap₂ (λ z zs. z ∷ zs) (same_Some x y parts.0) (states-told xs ys parts.1)

-- a merge of these states is kept, and told
pub merges-at : (core : Core) (site : Site) → CoreStands core site → (n : ℕ) (ys states told : List StateId) (slots : List Slot) (es : List (ℕ × Kept)) →
    states ≡ ys → told ≡ states →
    map (id_at core.store.table) slots ≡ map (λ x. Some x) ys →
    es ≡ with_entry n (KeptMerge (record { states = states; slots = slots; writes = [] })) core.txns →
    IsGiven (CoreStands (record core { txns = es })) (merging site n ys) (Merging told)
merges-at core site stands n ys states told slots es same copied named e = (
  txn-begun core site stands n (KeptMerge (record { states = ys; slots = slots; writes = [] })) es
      (e ∙ ap (λ zs. with_entry n (KeptMerge (record { states = zs; slots = slots; writes = [] })) core.txns) same) named,
  ap (λ zs. Merging zs) (copied ∙ same),
)

-- ===== Refusals

-- more than 8 states are too many
pub too-many : (site : Site) (n : ℕ) (c : StateId) (xs : List StateId) → 8 < length xs → merge_at site n c xs ≡ refused site (TooMany MergedStates (length xs))
too-many site n c xs l =
    stop site (Refused (TooMany MergedStates (length xs)))
    (refuse_found Unknown (first_unknown site.dag xs) ∷ refuse_found (λ x. Below x c) (first_below site.dag c xs)
    ∷ refuse_found (λ pair. Comparable pair.0 pair.1) (comparable_pair site.dag xs) ∷ [])
    (merging site n (in_order xs)) (nat_lt 8 (length xs)) (lt-ltb 8 (length xs) l)

module _ (site : Site) (n : ℕ) (c : StateId) (xs : List StateId) (few : length xs ≤ 8) where
  -- what comes after the count
  abbrev judged : Option StateId → Option StateId → Option (StateId × StateId) → Answer
  judged u b p = unless site (refuse_found Unknown u ∷ refuse_found (λ x. Below x c) b ∷ refuse_found (λ pair. Comparable pair.0 pair.1) p ∷ [])
      (merging site n (in_order xs))

  is-judged : merge_at site n c xs ≡ judged (first_unknown site.dag xs) (first_below site.dag c xs) (comparable_pair site.dag xs)
  is-judged =
      skip site (Refused (TooMany MergedStates (length xs)))
      (refuse_found Unknown (first_unknown site.dag xs) ∷ refuse_found (λ x. Below x c) (first_below site.dag c xs)
      ∷ refuse_found (λ pair. Comparable pair.0 pair.1) (comparable_pair site.dag xs) ∷ [])
      (merging site n (in_order xs)) (nat_lt 8 (length xs)) (not-more (length xs) few)
    where
      not-more : (m : ℕ) → m ≤ 8 → nat_lt 8 m ≡ false
      not-more m l = false_from_ne_true (nat_lt 8 m) (λ t. absurd (omega (arith, ltb-true 8 m t, l)))

  judged-as : (u b : Option StateId) (p : Option (StateId × StateId)) → first_unknown site.dag xs ≡ u → first_below site.dag c xs ≡ b →
      comparable_pair site.dag xs ≡ p → merge_at site n c xs ≡ judged u b p
  judged-as u b p e f g =
      is-judged
      ∙ ap (λ o. judged o (first_below site.dag c xs) (comparable_pair site.dag xs)) e
      ∙ ap (λ o. judged u o (comparable_pair site.dag xs)) f
      ∙ ap (λ o. judged u b o) g

  module _ (table : Table) where
    pub all-chosen : (slots : List Slot) → ChosenAllAs table site.dag c xs (Ok slots) → merge_at site n c xs ≡ merging site n (in_order xs)
    all-chosen slots (known, admitted, apart, named) = judged-as None None None known admitted apart

    -- why they aren't
    pub merge-stops : (fault : MergeFault) → ChosenAllAs table site.dag c xs (Err fault) → (stands : Site → Type 0) → stands site →
        Stops stands (merge_at site n c xs) site (merge_stop fault)
    merge-stops (OneUnknown y) unknown stands there = (there, judged-as (Some y) (first_below site.dag c xs) (comparable_pair site.dag xs) unknown refl refl)
    merge-stops (OneBelow y d) (known, below, ceiling) stands there =
        (there, judged-as None (Some y) (comparable_pair site.dag xs) known below refl ∙ ap (λ z. refused site (Below y z)) (sym ceiling))
    merge-stops (AreComparable y z) (known, admitted, pair) stands there = (there, judged-as None None (Some (y, z)) known admitted pair)
    merge-stops OutOfMemory chosen stands there = there

-- ===== The choice

-- the choice of a merge's states under the ceiling of this slot
abbrev pub ChoosesAll : Table → Slot → List StateId → Result (List Slot) MergeFault → Type 0
ChoosesAll table ceiling xs result = (rs : List Record) (ks : List StateId) → Stands table rs ks → (c : StateId) → id_at table ceiling ≡ Some c →
    ((x : StateId) → IsTrue (is_among x ks) → IsTrue (is_proper_ancestor rs x c)) → ChosenAllAs table rs c xs result

-- the slot of the session's ceiling, over each table in which the book's places are right
abbrev pub IsCeilingOf : Book → ℕ → Slot → Type 0
IsCeilingOf book n slot = (table : Table) (rs : List Record) (ks : List StateId) → ArePlaced book table rs ks → (s : Session) →
    entry_of n (sessions_of book) ≡ Some s → id_at table slot ≡ Some s.ceiling

-- so they are chosen for the session
pub chosen-under : (core : Core) (site : Site) → CoreStands core site → IsSound site → (n : ℕ) (s : Session) → entry_of n site.sessions ≡ Some s →
    (table : Table) → table ≡ core.store.table →
    (ceiling : Slot) → IsCeilingOf core.book n ceiling → (xs : List StateId) (result : Result (List Slot) MergeFault) → ChoosesAll table ceiling xs result
    → ChosenAllAs table site.dag s.ceiling xs result
chosen-under core site stands sound n s is table same ceiling limit xs result chooses =
    let here = subst (λ t. Stands t site.dag site.collected) (sym same) stands.store.table in
    let placed = subst (λ t. ArePlaced core.book t site.dag site.collected) (sym same) stands.placed in
    chooses site.dag site.collected here s.ceiling (limit table site.dag site.collected placed s (ap (entry_of n) stands.sessions ∙ is))
    (collected-above site n s sound is)
