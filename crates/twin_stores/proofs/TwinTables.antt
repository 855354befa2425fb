-- Why tables that stand for one history are twins, and twins stand for the same histories.
use Rattle.std.proofs.Common.{◌≡◌, ℕ, true, false, ◌&&◌, List, [], ◌∷◌, length, map, Option, Some, None, IsTrue, inl, inr, refl, sym, ap, ap₂, subst, ◌∙◌, arith}
use Rattle.std.specs.Prelude.{◌≤◌}
use Rattle.std.specs.List.{range_with_len}
use Rattle.std.specs.Option.{option_map_or}
use Rattle.std.proofs.lemmas.Bool.{cases_lt}
use Rattle.std.proofs.lemmas.Option.{same_Some}
use Rattle.tardis_base.specs.declared.ids.StateId.{StateId}
use Rattle.tardis_base.specs.declared.records.Record.{Record}
use Rattle.tardis_base.specs.declared.records.Limits.{Limits}
use Rattle.tardis_base.specs.Ids.{is_among}
use Rattle.plain_dag.specs.States.{children, count_of_site}
use Rattle.plain_dag.specs.Collection.{is_kept, kept_states, stand_in}
use Rattle.plain_dag.specs.Paths.{is_fork, leads_to, fork_path}
use Rattle.plain_dag.proofs.Ids.{same_test, not-both, among-cases}
use Rattle.state_dag.specs.Table.{Entry, Table, id_at}
use Rattle.state_dag.specs.Stands.{is_taken, Shows, Stands}
use Rattle.state_dag.proofs.Known.{kept-is_listed, listed-is_kept}
use Rattle.state_dag.proofs.Standing.{entry-is_kept, slot-is_kept}
use Rattle.twin_stores.specs.Tables.{Outline, outline, AreTwinTables}
use Rattle.state_dag.proofs.Calls.{counted}
use Rattle.twin_stores.specs.Laws.{TablesOfOneHistoryAreTwins, TwinTablesStandForTheSame, TablesOfOneHistoryStandForTheSame}
use Rattle.twin_stores.proofs.Sites.{none-beyond, within-where_counted, counts-alike, site-alike}
use Rattle.twin_stores.proofs.Ways.{HaveSameEdges, same-branches}
use Rattle.twin_stores.proofs.Outlines.{told, outlines-are, paths-are}

pub tables-of-one-history-are-twins : TablesOfOneHistoryAreTwins
tables-of-one-history-are-twins one other rs ks sa sb limits =
    record {
      limits = limits;
      counts = sa.counts ∙ (ap (λ (l : Limits). map (count_of_site rs) (range_with_len 1 l.sites)) limits ∙ sym sb.counts);
      known = sa.known ∙ sym sb.known;
      entries = outlines-are one rs ks sa ∙ sym (outlines-are other rs ks sb);
      paths = paths-are one rs ks sa ∙ sym (paths-are other rs ks sb);
    }

-- ===== Histories of which the same is told

-- what is mapped alike is alike at each of these
pub mapped-at : {B : Type 0} (f g : StateId → B) (xs : List StateId) → map f xs ≡ map g xs → (x : StateId) → IsTrue (is_among x xs) → f x ≡ g x
mapped-at f g [] same x m = not-both true refl (sym m)
mapped-at f g (y ∷ ys) same x m =
    let here : f y ≡ g y = cc in
    let rest : map f ys ≡ map g ys = cc in
    elim (among-cases x y ys m) [
      | inl is ↦ subst (λ z. f z ≡ g z) (sym is) here
      | inr later ↦ mapped-at f g ys rest x later
    ]

-- the same, of what stands in for states
standing-at : (f g : StateId → StateId) (cs : List StateId) → map (λ c. Some (f c)) cs ≡ map (λ c. Some (g c)) cs → (c : StateId) →
    IsTrue (is_among c cs) → f c ≡ g c
standing-at f g [] same c m = not-both true refl (sym m)
standing-at f g (d ∷ cs) same c m =
    let here : Some (f d) ≡ Some (g d) = cc in
    let rest : map (λ b. Some (f b)) cs ≡ map (λ b. Some (g b)) cs = cc in
    elim (among-cases c d cs m) [
      | inl is ↦ subst (λ b. f b ≡ g b) (sym is) (same_Some (f d) (g d) here)
      | inr later ↦ standing-at f g cs rest c later
    ]

-- the ids of outlines
ids-of_told : (f : StateId → Outline) → ((x : StateId) → (f x).id ≡ x) → (xs : List StateId) → map (λ o. o.id) (map f xs) ≡ xs
ids-of_told f is [] = refl
ids-of_told f is (x ∷ xs) = ap₂ (λ (y : StateId) (ys : List StateId). y ∷ ys) (is x) (ids-of_told f is xs)

-- the entries that tables keep say the same in the same order
module _ (one other : Table) (ra : List Record) (ka : List StateId) (rb : List Record) (kb : List StateId) (sa : Stands one ra ka) (sb : Stands other rb kb)
    (same : map (outline one) one.entries ≡ map (outline other) other.entries) where
  abbrev told_a : StateId → Outline
  told_a = told ra ka

  abbrev told_b : StateId → Outline
  told_b = told rb kb

  lists : map told_a (kept_states ra ka) ≡ map told_b (kept_states rb kb)
  lists = sym (outlines-are one ra ka sa) ∙ (same ∙ outlines-are other rb kb sb)

  -- the same states are kept
  pub kept-alike : kept_states ra ka ≡ kept_states rb kb
  kept-alike =
      sym (ids-of_told told_a (λ x. refl) (kept_states ra ka))
      ∙ (ap (map (λ (o : Outline). o.id)) lists ∙ ids-of_told told_b (λ x. refl) (kept_states rb kb))

  -- and the same is told of each
  told-alike : (x : StateId) → IsTrue (is_kept ra ka x) → told_a x ≡ told_b x
  told-alike x kept = mapped-at told_a told_b (kept_states ra ka) (lists ∙ ap (map told_b) (sym kept-alike)) x (kept-is_listed ra ka x kept)

  there : (x : StateId) → IsTrue (is_kept ra ka x) → IsTrue (is_kept rb kb x)
  there x kept = listed-is_kept rb kb x (subst (λ xs. IsTrue (is_among x xs)) kept-alike (kept-is_listed ra ka x kept))

  back : (x : StateId) → IsTrue (is_kept rb kb x) → IsTrue (is_kept ra ka x)
  back x kept = listed-is_kept ra ka x (subst (λ xs. IsTrue (is_among x xs)) (sym kept-alike) (kept-is_listed rb kb x kept))

  edges : HaveSameEdges ra ka rb kb
  edges = record {
    same_kept = λ x. same_test (is_kept ra ka x) (is_kept rb kb x) (there x) (back x);
    same_children = λ x kept. ap (λ (o : Outline). o.children) (told-alike x kept);
    same_stand_ins = λ x c kept m.
        let cs = children ra x in
        let all : map (λ d. Some (stand_in ra ka d)) cs ≡ map (λ d. Some (stand_in rb kb d)) cs =
        ap (λ (o : Outline). o.stand_ins) (told-alike x kept)
        ∙ ap (map (λ d. Some (stand_in rb kb d))) (sym (ap (λ (o : Outline). o.children) (told-alike x kept))) in
        standing-at (stand_in ra ka) (stand_in rb kb) cs all c m;
  }

  -- the same pairs are taken to each kept state
  taken-alike : (x : StateId) → IsTrue (is_kept rb kb x) → (pair : ℕ × ℕ) → is_taken other rb x pair ≡ is_taken other ra x pair
  taken-alike x kept pair = go (id_at other (record { 0 = pair.0 })) refl
    where
      go : (o : Option StateId) → id_at other (record { 0 = pair.0 }) ≡ o → is_taken other rb x pair ≡ is_taken other ra x pair
      go None e =
          ap (λ o. option_map_or (λ p. is_fork rb p && leads_to rb x (p, pair.1)) o false) e
          ∙ sym (ap (λ o. option_map_or (λ p. is_fork ra p && leads_to ra x (p, pair.1)) o false) e)
      go (Some p) e =
          ap (λ o. option_map_or (λ q. is_fork rb q && leads_to rb x (q, pair.1)) o false) e
          ∙ (sym (same-branches ra ka rb kb (record { dag = sa.dag; shared = sa.shared }) (record { dag = sb.dag; shared = sb.shared }) edges x p pair.1
          (back x kept) (back p (slot-is_kept other rb kb sb (record { 0 = pair.0 }) p e)))
          ∙ sym (ap (λ o. option_map_or (λ q. is_fork ra q && leads_to ra x (q, pair.1)) o false) e))

  -- what an entry of the other shows of its own history it shows of the one's
  pub shows-alike : (e : Entry) (x : StateId) → IsTrue (is_kept rb kb x) → Shows other rb kb e x → Shows other ra ka e x
  shows-alike e x kept shows =
      let told_same = told-alike x (back x kept) in
      record {
        named = shows.named;
        arrived = shows.arrived ∙ sym (ap (λ (o : Outline). o.arrival) told_same);
        has_parents = shows.has_parents ∙ sym (ap (λ (o : Outline). o.parents) told_same);
        has_children = shows.has_children ∙ sym (ap (λ (o : Outline). o.children) told_same);
        has_stand_ins = shows.has_stand_ins ∙ sym (ap (λ (o : Outline). o.stand_ins) told_same);
        ascending = shows.ascending;
        has_path = λ pair. shows.has_path pair ∙ taken-alike x kept pair;
      }

  -- so the other stands for the one's history, where that has as many states of each site, and its paths aren't too long
  pub stands-alike : ((n : ℕ) → 1 ≤ n → count_of_site ra n ≡ count_of_site rb n) → length ra ≡ length rb →
      ((x : StateId) → IsTrue (is_kept ra ka x) → length (fork_path ra ka x) ≤ other.limits.max_path) → Stands other ra ka
  stands-alike counts known short =
      record {
        dag = sa.dag;
        known_collected = sa.known_collected;
        shared = sa.shared;
        valid = sb.valid;
        sites = within-where_counted other.limits.sites ra (λ n beyond. counts n (omega arith) ∙ none-beyond other.limits.sites rb sb.sites n beyond);
        within = subst (λ (xs : List StateId). length xs ≤ other.limits.max_kept) (sym kept-alike) sb.within;
        short = short;
        counts = sb.counts ∙ sym (counts-alike (count_of_site ra) (count_of_site rb) other.limits.sites 1 (omega arith) counts);
        known = sb.known ∙ sym known;
        ids = sb.ids ∙ sym kept-alike;
        slots = sb.slots;
        shows = λ slot e is. shows-alike e e.id (entry-is_kept other rb kb sb slot e is) (sb.shows slot e is);
      }

-- histories with the same counts in a list of them count alike
count-alike : (one other : Table) (ra : List Record) (ka : List StateId) (rb : List Record) (kb : List StateId) → Stands one ra ka → Stands other rb kb →
    one.limits ≡ other.limits → one.counts ≡ other.counts → (n : ℕ) → 1 ≤ n → count_of_site ra n ≡ count_of_site rb n
count-alike one other ra ka rb kb sa sb limits counts n some =
    let sites : one.limits.sites ≡ other.limits.sites = ap (λ (l : Limits). l.sites) limits in
    elim (cases_lt one.limits.sites n) [
      | inl beyond ↦ none-beyond one.limits.sites ra sa.sites n beyond ∙ sym (none-beyond other.limits.sites rb sb.sites n (omega arith))
      | inr within ↦ sym (counted one ra ka sa n one.counts 0 refl some within) ∙ counted other rb kb sb n one.counts 0 counts some (omega arith)
    ]

-- tables with the same limits and counts, whose entries say the same, are such
pub stands-by_entries : (one other : Table) (rs rs' : List Record) (ks ks' : List StateId) → Stands one rs ks → Stands other rs' ks' →
    one.limits ≡ other.limits → one.counts ≡ other.counts → one.known ≡ other.known → map (outline one) one.entries ≡ map (outline other) other.entries →
    Stands other rs ks
stands-by_entries one other rs rs' ks ks' sa sb limits counts known entries =
    stands-alike one other rs ks rs' ks' sa sb entries (count-alike one other rs ks rs' ks' sa sb limits counts) (sym sa.known ∙ (known ∙ sb.known))
    (λ x kept. subst (λ (l : Limits). length (fork_path rs ks x) ≤ l.max_path) limits (sa.short x kept))

pub twin-tables-stand-for-the-same : TwinTablesStandForTheSame
twin-tables-stand-for-the-same one other rs rs' ks ks' sa sb twins =
    stands-by_entries one other rs rs' ks ks' sa sb twins.limits twins.counts twins.known twins.entries

pub tables-of-one-history-stand-for-the-same : TablesOfOneHistoryStandForTheSame
tables-of-one-history-stand-for-the-same one other rs rs' ks ks' sa sb sa' =
    let entries = outlines-are one rs ks sa ∙ sym (outlines-are other rs ks sb) in
    stands-alike one other rs' ks' rs ks sa' sb entries (site-alike one rs' ks' rs ks sa' sa) (sym sa'.known ∙ sa.known) short
  where
    paths : map (fork_path rs' ks') (kept_states rs' ks') ≡ map (fork_path rs ks) (kept_states rs' ks')
    paths = sym (paths-are one rs' ks' sa') ∙ (paths-are one rs ks sa ∙ ap (map (fork_path rs ks)) (sym sa.ids ∙ sa'.ids))

    short : (x : StateId) → IsTrue (is_kept rs' ks' x) → length (fork_path rs' ks' x) ≤ other.limits.max_path
    short x kept =
        let m = kept-is_listed rs' ks' x kept in
        let kept_there : IsTrue (is_kept rs ks x) = listed-is_kept rs ks x (subst (λ xs. IsTrue (is_among x xs)) (sym sa'.ids ∙ sa.ids) m) in
        subst (λ (ps : List (StateId × ℕ)). length ps ≤ other.limits.max_path)
        (sym (mapped-at (fork_path rs' ks') (fork_path rs ks) (kept_states rs' ks') paths x m)) (sb.short x kept_there)

-- and are twins: their paths are the same then
pub twins-by_entries : (one other : Table) (rs rs' : List Record) (ks ks' : List StateId) → Stands one rs ks → Stands other rs' ks' →
    one.limits ≡ other.limits → one.counts ≡ other.counts → one.known ≡ other.known → map (outline one) one.entries ≡ map (outline other) other.entries →
    AreTwinTables one other
twins-by_entries one other rs rs' ks ks' sa sb limits counts known entries =
    tables-of-one-history-are-twins one other rs ks sa (stands-by_entries one other rs rs' ks ks' sa sb limits counts known entries) limits
