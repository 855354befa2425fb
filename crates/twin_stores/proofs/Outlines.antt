-- What a table says is what is so of the history that it stands for.
use Rattle.std.proofs.Common.{◌≡◌, ℕ, zero, suc, ◌<◌, true, eqb, List, [], ◌∷◌, length, map, find, get_or, Option, Some}
use Rattle.std.proofs.Common.{IsTrue, inl, inr, refl, sym, ap, ap₂, subst, ◌∙◌, arith}
use Rattle.std.specs.Option.{option_map}
use Rattle.std.proofs.lemmas.Bool.{cases_Bool, cond-true, cond-false, both_ways, eq-eqb}
use Rattle.std.proofs.lemmas.Option.{same_Some}
use Rattle.tardis_base.specs.declared.ids.StateId.{StateId}
use Rattle.tardis_base.specs.declared.records.Record.{Record}
use Rattle.tardis_base.specs.Ids.{is_among}
use Rattle.plain_dag.specs.States.{parents_of, arrival, children}
use Rattle.plain_dag.specs.Collection.{kept_states, stand_in}
use Rattle.plain_dag.specs.Paths.{fork_path}
use Rattle.plain_dag.proofs.Ids.{among-first, among-later}
use Rattle.state_dag.specs.Table.{Entry, Table, entry_at, id_at}
use Rattle.state_dag.specs.Views.{AllDiffer}
use Rattle.state_dag.specs.Stands.{Stands}
use Rattle.state_dag.proofs.Known.{kept-differ}
use Rattle.state_dag.proofs.LeafSlots.{AreFound, found-rest}
use Rattle.state_dag.proofs.NamedPaths.{named-is_path}
use Rattle.twin_stores.specs.Tables.{Outline, outline, named_path}

-- ===== Each entry is found at its slot

-- what is mapped alike is alike at each place
same-at : (f g : Entry → Option StateId) (es : List Entry) → map f es ≡ map g es → (k : ℕ) (d : Entry) → k < length es → f (get_or es k d) ≡ g (get_or es k d)
same-at f g [] same k d lt = absurd (omega arith)
same-at f g (e ∷ es) same zero d lt = cc
same-at f g (e ∷ es) same (suc k) d lt = (let rest : map f es ≡ map g es = cc in same-at f g es rest k d (omega arith))

-- the id of an entry is one of theirs
listed-at : (es : List Entry) (k : ℕ) (d : Entry) → k < length es → IsTrue (is_among (get_or es k d).id (map (λ e. e.id) es))
listed-at [] k d lt = absurd (omega arith)
listed-at (e ∷ es) zero d lt = among-first e.id (map (λ f. f.id) es)
listed-at (e ∷ es) (suc k) d lt = among-later (get_or es k d).id e.id (map (λ f. f.id) es) (listed-at es k d (omega arith))

-- the entry at a slot
abbrev found_in : List Entry → ℕ → Option Entry
found_in es s = find (λ e. eqb e.slot.0 s) es

abbrev id_in : List Entry → ℕ → Option StateId
id_in es s = option_map (λ e. e.id) (found_in es s)

-- where all ids differ and each slot names its entry's id, each slot has its entry
found-where_named : (es : List Entry) → AllDiffer (map (λ e. e.id) es) →
    ((k : ℕ) (d : Entry) → k < length es → id_in es (get_or es k d).slot.0 ≡ Some (get_or es k d).id) →
    (k : ℕ) (d : Entry) → k < length es → found_in es (get_or es k d).slot.0 ≡ Some (get_or es k d)
found-where_named [] differ named k d lt = absurd (omega arith)
found-where_named (e ∷ es) differ named zero d lt =
    cond-true (eqb e.slot.0 e.slot.0) (Some e) (found_in es e.slot.0) (eq-eqb e.slot.0 e.slot.0 refl)
found-where_named (e ∷ es) differ named (suc k) d lt = later k d (omega arith) ∙ found-where_named es differ.1 rest k d (omega arith)
  where
    apart : (j : ℕ) (c : Entry) → j < length es → eqb e.slot.0 (get_or es j c).slot.0 ≡ true → ⊥
    apart j c below t =
        let f = get_or es j c in
        let here : id_in (e ∷ es) f.slot.0 ≡ Some e.id =
        ap (option_map (λ (g : Entry). g.id)) (cond-true (eqb e.slot.0 f.slot.0) (Some e) (found_in es f.slot.0) t) in
        let same : e.id ≡ f.id = same_Some e.id f.id (sym here ∙ named (suc j) c (omega arith)) in
        both_ways (is_among e.id (map (λ g. g.id) es)) differ.0 (subst (λ z. IsTrue (is_among z (map (λ g. g.id) es))) (sym same) (listed-at es j c below))

    later : (j : ℕ) (c : Entry) → j < length es → found_in (e ∷ es) (get_or es j c).slot.0 ≡ found_in es (get_or es j c).slot.0
    later j c below = elim (cases_Bool (eqb e.slot.0 (get_or es j c).slot.0)) [
      | inl t ↦ absurd (apart j c below t)
      | inr f ↦ cond-false (eqb e.slot.0 (get_or es j c).slot.0) (Some e) (found_in es (get_or es j c).slot.0) f
    ]

    rest : (j : ℕ) (c : Entry) → j < length es → id_in es (get_or es j c).slot.0 ≡ Some (get_or es j c).id
    rest j c below = ap (option_map (λ (g : Entry). g.id)) (sym (later j c below)) ∙ named (suc j) c (omega arith)

-- what is told of a state
abbrev pub told : List Record → List StateId → StateId → Outline
told rs ks x = record {
  id = x;
  arrival = arrival rs x;
  parents = parents_of rs x;
  children = children rs x;
  stand_ins = map (λ c. Some (stand_in rs ks c)) (children rs x);
}

module _ (table : Table) (rs : List Record) (ks : List StateId) (stands : Stands table rs ks) where
  pub each-found : AreFound table table.entries
  each-found k d lt =
      found-where_named table.entries (subst (λ xs. AllDiffer xs) (sym stands.ids) (kept-differ rs ks stands.dag))
      (λ j c below. same-at (λ e. id_at table e.slot) (λ e. Some e.id) table.entries stands.slots j c below) k d lt

  -- ===== What is so of the history

  outline-is_told : (e : Entry) → entry_at table e.slot ≡ Some e → outline table e ≡ told rs ks e.id
  outline-is_told e found =
      let shows = stands.shows e.slot e found in
      rw (shows.arrived, shows.has_parents, shows.has_children, shows.has_stand_ins) refl

  outlines-of : (es : List Entry) → AreFound table es → map (outline table) es ≡ map (told rs ks) (map (λ e. e.id) es)
  outlines-of [] found = refl
  outlines-of (e ∷ es) found =
      ap₂ (λ (o : Outline) (os : List Outline). o ∷ os) (outline-is_told e (found 0 e (omega arith))) (outlines-of es (found-rest table e es found))

  -- the outlines are those of the kept states
  pub outlines-are : map (outline table) table.entries ≡ map (told rs ks) (kept_states rs ks)
  outlines-are = outlines-of table.entries each-found ∙ ap (map (told rs ks)) stands.ids

  paths-of : (es : List Entry) → AreFound table es → map (named_path table) es ≡ map (fork_path rs ks) (map (λ e. e.id) es)
  paths-of [] found = refl
  paths-of (e ∷ es) found =
      ap₂ (λ (p : List (StateId × ℕ)) (ps : List (List (StateId × ℕ))). p ∷ ps)
      (named-is_path table rs ks e.id e.path stands (stands.shows e.slot e (found 0 e (omega arith))).has_path each-found)
      (paths-of es (found-rest table e es found))

  -- and the paths are theirs
  pub paths-are : map (named_path table) table.entries ≡ map (fork_path rs ks) (kept_states rs ks)
  paths-are = paths-of table.entries each-found ∙ ap (map (fork_path rs ks)) stands.ids
