-- The table of the root alone.
use Rattle.std.proofs.Common.{◌≡◌, ℕ, ◌+◌, ◌≤◌, Bool, true, false, cond, eqb, leb, List, [], ◌∷◌, map, replicate, Some, None, IsTrue, inl, inr, refl, sym, ap}
use Rattle.std.proofs.Common.{subst, ◌∙◌, eqb-true, arith}
use Rattle.std.specs.List.{range_with_len}
use Rattle.std.proofs.lemmas.Bool.{cases_Bool, and_from, le-leb, false_from_ne_true, both_ways}
use Rattle.std.proofs.lemmas.Option.{none-some, same_Some}
use Rattle.tardis_base.specs.declared.ids.Slot.{Slot}
use Rattle.tardis_base.specs.declared.records.Limits.{Limits}
use Rattle.tardis_base.specs.Ids.{root}
use Rattle.tardis_base.specs.Valid.{are_limits}
use Rattle.plain_dag.specs.States.{root_record, count_of_site}
use Rattle.plain_dag.proofs.Ids.{not-both}
use Rattle.state_dag.specs.declared.nodes.Node.{Node}
use Rattle.state_dag.specs.Table.{Entry, Table, entry_at}
use Rattle.state_dag.specs.Views.{entry_of}
use Rattle.state_dag.specs.Stands.{is_taken, Shows, Stands}
use Rattle.state_dag.proofs.Known.{limits-parts, count-other}

-- the root's entry
abbrev pub root_entry : Entry
root_entry = record { slot = record { 0 = 0 }; id = root; arrival = 0; parents = []; children = []; stand_ins = []; path = [] }

abbrev pub opening : Limits → List ℕ → Entry → Table
opening limits counts e = record { limits = limits; counts = counts; known = 1; entries = e ∷ [] }

pub root-entry : (n : Node) → n.id ≡ root → n.arrival ≡ 0 → n.parents.items ≡ [] → n.children.items ≡ [] → n.stand_ins.items ≡ [] → n.path.pairs ≡ [] →
    entry_of 0 n ≡ root_entry
root-entry n a b c d e f = rw (a, b, c, d, e, f) refl

no-site : (site : ℕ) → 1 ≤ site → count_of_site (root_record ∷ []) site ≡ 0
no-site ℕ.zero some = absurd (omega arith)
no-site (ℕ.suc n) some = count-other [] root_record (ℕ.suc n) (false_from_ne_true (eqb 0 (ℕ.suc n)) (λ t. let e = eqb-true 0 (ℕ.suc n) t in omega arith))

no-counts : (n : ℕ) → replicate n 0 ≡ map (count_of_site (root_record ∷ [])) (range_with_len 1 n)
no-counts n = go n 1 (omega arith)
  where
    go : (m p : ℕ) → 1 ≤ p → replicate m 0 ≡ map (count_of_site (root_record ∷ [])) (range_with_len p m)
    go ℕ.zero p some = refl
    go (ℕ.suc m) p some = rw (no-site p some) (ap (λ zs. 0 ∷ zs) (go m (p + 1) (omega arith)))

module _ (limits : Limits) (valid : IsTrue (are_limits limits)) (counts : List ℕ) where
  shows-root : (slot : Slot) (e : Entry) → entry_at (opening limits counts root_entry) slot ≡ Some e →
      Shows (opening limits counts root_entry) (root_record ∷ []) [] e e.id
  shows-root slot e is = go (eqb 0 slot.0) is
    where
      go : (b : Bool) → cond b (Some root_entry) None ≡ Some e → Shows (opening limits counts root_entry) (root_record ∷ []) [] e e.id
      go true h =
          let same : root_entry ≡ e = same_Some root_entry e h in
          subst (λ f. Shows (opening limits counts root_entry) (root_record ∷ []) [] f f.id) same (record {
            named = refl;
            arrived = refl;
            has_parents = refl;
            has_children = refl;
            has_stand_ins = refl;
            ascending = refl;
            has_path = λ pair. sym (false_from_ne_true (is_taken (opening limits counts root_entry) (root_record ∷ []) root pair) (λ t. none pair t));
          })
        where
          none : (pair : ℕ × ℕ) → IsTrue (is_taken (opening limits counts root_entry) (root_record ∷ []) root pair) → ⊥
          none pair t = elim (cases_Bool (eqb 0 pair.0)) [
            | inl here ↦ both_ways false refl (rw here at t)
            | inr other ↦ both_ways false refl (rw other at t)
          ]
      go false h = absurd (none-some e h)

  stands-at_root : counts ≡ replicate limits.sites 0 → Stands (opening limits counts root_entry) (root_record ∷ []) []
  stands-at_root zeros = record {
    dag = refl;
    known_collected = λ x h. not-both true refl (sym h);
    shared = λ x h. not-both true refl (sym h);
    valid = valid;
    sites = and_from (leb 0 limits.sites) true (le-leb 0 limits.sites (omega arith)) refl;
    within = (limits-parts limits valid).some_kept;
    short = λ x h. omega arith;
    counts = zeros ∙ no-counts limits.sites;
    known = refl;
    ids = refl;
    slots = refl;
    shows = shows-root;
  }

pub stands-opening : (limits : Limits) (counts : List ℕ) (e : Entry) → IsTrue (are_limits limits) → counts ≡ replicate limits.sites 0 → e ≡ root_entry →
    Stands (opening limits counts e) (root_record ∷ []) []
stands-opening limits counts e valid zeros is = subst (λ f. Stands (opening limits counts f) (root_record ∷ []) []) (sym is)
    (stands-at_root limits valid counts zeros)
