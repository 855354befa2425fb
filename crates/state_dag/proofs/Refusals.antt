-- Why a table doesn't grow is why its history doesn't.
use Rattle.std.proofs.Common.{◌≡◌, ℕ, Bool, true, false, cond, ltb, eqb, List, [], ◌∷◌, ◌++◌, length, map, find, Option, Some, None, IsTrue, IsFalse, inl}
use Rattle.std.proofs.Common.{inr, refl, sym, ap, ap₂, subst, ◌∙◌, eq-eqb}
use Rattle.std.specs.Option.{option_map}
use Rattle.std.proofs.lemmas.Bool.{cases_Bool, false_from_ne_true, both_ways}
use Rattle.std.proofs.lemmas.Option.{same_Some}
use Rattle.std.proofs.lemmas.List.{append_assoc}
use Rattle.tardis_base.specs.declared.ids.StateId.{StateId}
use Rattle.tardis_base.specs.declared.ids.Slot.{Slot}
use Rattle.tardis_base.specs.declared.records.Record.{Record}
use Rattle.tardis_base.specs.declared.replies.Refusal.{Refusal}
use Rattle.tardis_base.specs.declared.replies.Refusal.TheVariants.{Full as IsFull, PathFull as IsPathFull}
use Rattle.tardis_base.specs.Ids.{is_among}
use Rattle.plain_dag.specs.States.{is_known}
use Rattle.plain_dag.specs.Collection.{kept_states}
use Rattle.plain_dag.specs.Paths.{fork_path}
use Rattle.plain_dag.specs.Growth.{growth_refusal}
use Rattle.plain_dag.proofs.Ids.{not-both, among-first, among-later}
use Rattle.state_dag.specs.Table.{Entry, Table, entry_at}
use Rattle.state_dag.specs.Stands.{Stands}
use Rattle.state_dag.specs.Answers.{MayBeAdded}
use Rattle.state_dag.specs.Grown.{IsNewPath, grown_length, too_long, refusal_of}
use Rattle.state_dag.proofs.Places.{AllDiffer}
use Rattle.state_dag.proofs.Known.{kept-newest, kept-differ}
use Rattle.state_dag.proofs.Calls.{entries-kept}
use Rattle.state_dag.proofs.Lengths.{grown-length-is, new-length-is}

-- ===== Entries

-- what is said of an entry holds of each of these
abbrev pub Each : (Entry → Type 0) → List Entry → Type 0
Each P [] = Unit {0}
Each P (e ∷ es) = P e × Each P es

-- where ids differ, what is found at an entry's slot and has its id is that entry
finds-itself : (es fs : List Entry) (e : Entry) → AllDiffer (map (λ f. f.id) (es ++ e ∷ fs)) →
    option_map (λ f. f.id) (find (λ f. eqb f.slot.0 e.slot.0) (es ++ e ∷ fs)) ≡ Some e.id → find (λ f. eqb f.slot.0 e.slot.0) (es ++ e ∷ fs) ≡ Some e
finds-itself [] fs e differ named = rw (eq-eqb e.slot.0 e.slot.0 refl) refl
finds-itself (f ∷ es) fs e differ named = elim (cases_Bool (eqb f.slot.0 e.slot.0)) [
  | inl t ↦
      let same : f.id ≡ e.id = same_Some f.id e.id (rw t at named) in
      not-both (is_among f.id (map (λ g. g.id) (es ++ e ∷ fs)))
      (subst (λ z. IsTrue (is_among z (map (λ (g : Entry). g.id) (es ++ e ∷ fs)))) (sym same) (within es)) differ.0
  | inr n ↦ rw n (finds-itself es fs e differ.1 (rw n at named))
]
  where
    within : (gs : List Entry) → IsTrue (is_among e.id (map (λ g. g.id) (gs ++ e ∷ fs)))
    within [] = among-first e.id (map (λ g. g.id) fs)
    within (g ∷ gs) = among-later e.id g.id (map (λ h. h.id) (gs ++ e ∷ fs)) (within gs)

each-found : (all es fs : List Entry) → es ++ fs ≡ all → AllDiffer (map (λ e. e.id) all) →
    map (λ e. option_map (λ f. f.id) (find (λ f. eqb f.slot.0 e.slot.0) all)) fs ≡ map (λ e. Some e.id) fs →
    Each (λ e. find (λ f. eqb f.slot.0 e.slot.0) all ≡ Some e) fs
each-found all es [] is differ named = tt
each-found all es (e ∷ fs) is differ named =
    let here : option_map (λ (f : Entry). f.id) (find (λ (f : Entry). eqb f.slot.0 e.slot.0) all) ≡ Some e.id = cc in
    let rest : map (λ (g : Entry). option_map (λ (f : Entry). f.id) (find (λ (f : Entry). eqb f.slot.0 g.slot.0) all)) fs
    ≡ map (λ (g : Entry). Some g.id) fs = cc in (
      subst (λ gs. find (λ (f : Entry). eqb f.slot.0 e.slot.0) gs ≡ Some e) is
          (finds-itself es fs e (subst (λ gs. AllDiffer (map (λ (g : Entry). g.id) gs)) (sym is) differ)
          (subst (λ gs. option_map (λ (f : Entry). f.id) (find (λ (f : Entry). eqb f.slot.0 e.slot.0) gs) ≡ Some e.id) (sym is) here)),
      each-found all (es ++ e ∷ []) fs (append_assoc es (e ∷ []) fs ∙ is) differ rest,
    )

-- each entry is found at its slot
pub entries-found : (table : Table) (rs : List Record) (ks : List StateId) → Stands table rs ks → Each (λ e. entry_at table e.slot ≡ Some e) table.entries
entries-found table rs ks stands =
    each-found table.entries [] table.entries refl (subst AllDiffer (sym stands.ids) (kept-differ rs ks stands.dag)) stands.slots

-- ===== Searches

-- a state with a number
abbrev counted : StateId → ℕ → StateId × ℕ
counted x n = (x, n)

module _ (most : ℕ) (long : Entry → ℕ) (path : StateId → ℕ) where
  -- what is found of entries is found of their states
  find-alike : (P : Entry → Type 0) → ((e : Entry) → P e → long e ≡ path e.id) → (es : List Entry) → Each P es →
      option_map (λ e. counted e.id (long e)) (find (λ e. ltb most (long e)) es)
      ≡ option_map (λ x. counted x (path x)) (find (λ x. ltb most (path x)) (map (λ e. e.id) es))
  find-alike P same [] each = refl
  find-alike P same (e ∷ es) each = elim (cases_Bool (ltb most (long e))) [
    | inl t ↦
        let here = same e each.0 in
        rw (t, sym (ap (ltb most) here) ∙ t) (ap (λ n. Some (counted e.id n)) here)
    | inr f ↦
        let here = same e each.0 in
        rw (f, sym (ap (ltb most) here) ∙ f) (find-alike P same es each.1)
  ]

  -- and with one more state it is found last
  find-last : (xs : List StateId) (z : StateId) (n : ℕ) → n ≡ path z →
      option_map (λ p. IsPathFull p.0 p.1) (option_map (λ x. counted x (path x)) (find (λ x. ltb most (path x)) (xs ++ z ∷ [])))
      ≡ elim (option_map (λ x. counted x (path x)) (find (λ x. ltb most (path x)) xs)) as (λ _. Option Refusal)
      [ Some p ↦ Some (IsPathFull p.0 p.1) | None ↦ cond (ltb most n) (Some (IsPathFull z n)) None ]
  find-last [] z n is = subst (λ m. option_map (λ p. IsPathFull p.0 p.1) (option_map (λ x. counted x (path x)) (cond (ltb most (path z)) (Some z) None))
      ≡ cond (ltb most m) (Some (IsPathFull z m)) None) (sym is) (go (ltb most (path z)))
    where
      go : (b : Bool) → option_map (λ p. IsPathFull p.0 p.1) (option_map (λ x. counted x (path x)) (cond b (Some z) None))
          ≡ cond b (Some (IsPathFull z (path z))) None
      go true = refl
      go false = refl
  find-last (x ∷ xs) z n is = elim (cases_Bool (ltb most (path x))) [
    | inl t ↦ rw t refl
    | inr f ↦ rw f (find-last xs z n is)
  ]

-- ===== The refusal

pub new-isnt_collected : (table : Table) (rs : List Record) (ks : List StateId) (r : Record) → Stands table rs ks → IsFalse (is_known rs r.id) →
    IsFalse (is_among r.id ks)
new-isnt_collected table rs ks r stands new = false_from_ne_true (is_among r.id ks)
    (λ gone. both_ways (is_known rs r.id) new (stands.known_collected r.id gone))

pub kept-next : (table : Table) (rs : List Record) (ks : List StateId) (r : Record) → Stands table rs ks → IsFalse (is_known rs r.id) →
    kept_states (r ∷ rs) ks ≡ map (λ e. e.id) table.entries ++ r.id ∷ []
kept-next table rs ks r stands new =
    kept-newest rs ks r (new-isnt_collected table rs ks r stands new) ∙ ap (λ xs. xs ++ r.id ∷ []) (sym stands.ids)

pub refused : (table : Table) (rs : List Record) (ks : List StateId) (r : Record) (parents : List Slot) (path : List (ℕ × ℕ)) →
    Stands table rs ks → MayBeAdded table rs ks r parents → IsNewPath table parents path →
    growth_refusal table.limits ks rs r ≡ refusal_of table r.id parents (length path)
refused table rs ks r parents path stands may is =
    let most = table.limits.max_path in
    let long : Entry → ℕ = grown_length table parents in
    let paths : StateId → ℕ = λ x. length (fork_path (r ∷ rs) ks x) in
    let pairs : StateId × ℕ → Refusal = λ p. IsPathFull p.0 p.1 in
    let full : ℕ → Option Refusal → Option Refusal = λ n other. cond (eqb n table.limits.max_kept) (Some (IsFull n)) other in
    let found : too_long table parents ≡ option_map (λ x. counted x (paths x)) (find (λ x. ltb most (paths x)) (map (λ e. e.id) table.entries)) =
    find-alike most long paths (λ e. entry_at table e.slot ≡ Some e) (λ e at. grown-length-is table rs ks r parents stands may e at) table.entries
    (entries-found table rs ks stands) in
    let last = find-last most long paths (map (λ e. e.id) table.entries) r.id (length path) (new-length-is table rs ks r parents stands may path is) in
    let rest : Option (StateId × ℕ) → Option Refusal = λ o. elim o as (λ _. Option Refusal) [
      | Some p ↦ Some (IsPathFull p.0 p.1)
      | None ↦
          cond (ltb most (length path)) (Some (IsPathFull r.id (length path))) None
    ] in
    let whole = ap (λ xs. option_map pairs (option_map (λ x. counted x (paths x)) (find (λ x. ltb most (paths x)) xs)))
    (kept-next table rs ks r stands may.next.new) in
    ap₂ full (sym (entries-kept table rs ks stands)) (whole ∙ (last ∙ ap rest (sym found)))
