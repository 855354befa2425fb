-- What lines tell of a transaction is what the site has of it.
use Rattle.std.proofs.Common.{◌≡◌, ℕ, Bool, true, false, List, [], ◌∷◌, Option, Some, None, IsTrue, refl, sym, ap, subst, ◌∙◌}
use Rattle.std.specs.List.{list_all}
use Rattle.std.specs.Option.{option_map}
use Rattle.tardis_base.specs.declared.ids.StateId.{StateId}
use Rattle.tardis_base.specs.declared.records.Record.{Record}
use Rattle.tardis_base.specs.declared.records.Write.{Write}
use Rattle.tardis_base.specs.declared.replies.Reply.{Reply}
use Rattle.tardis_base.specs.Keys.{is_key_among, with_key}
use Rattle.plain_dag.specs.States.{is_known}
use Rattle.plain_dag.specs.Conflicts.{value_over}
use Rattle.plain_dag.proofs.Histories.{Fits, Grows}
use Rattle.plain_dag.proofs.Keys.{keeps-keys}
use Rattle.plain_site.specs.Site.{Txn, Single, Merge, read_states, writes_of}
use Rattle.plain_site.specs.Answers.{found}
use Rattle.plain_site.specs.ClientRuns.{Told, ReadsShow}
use Rattle.client_laws.proofs.Dags.{value-over-stays}

-- each of these keys was read
abbrev pub AreKept : List (List ℕ) → List (List ℕ × Reply) → Type 0
AreKept keys [] = Unit {0}
AreKept keys (got ∷ earlier) = IsTrue (is_key_among got.0 keys) × AreKept keys earlier

-- a single transaction keeps the keys that it read
abbrev pub KeepsReads : Txn → List (List ℕ × Reply) → Type 0
KeepsReads (Single t) reads = AreKept t.reads reads
KeepsReads (Merge t) reads = Unit {0}

abbrev pub is_merge : Txn → Bool
is_merge (Single t) = false
is_merge (Merge t) = true

-- the transaction is as its client knows it
pub record IsTold (rs : List Record) (t : Txn) (seen : Told) : Type 0 where
  pub merges : seen.merges ≡ is_merge t
  pub states : seen.states ≡ read_states t
  pub writes : seen.writes ≡ writes_of t
  pub kept : KeepsReads t seen.reads
  pub shown : ReadsShow (value_over rs (read_states t)) seen.reads

abbrev pub Tells : List Record → Option Txn → Option Told → Type 0
Tells rs None None = Unit {0}
Tells rs None (Some seen) = ⊥
Tells rs (Some t) None = ⊥
Tells rs (Some t) (Some seen) = IsTold rs t seen

-- ===== Reads

pub kept-more : (k : List ℕ) (keys : List (List ℕ)) (reads : List (List ℕ × Reply)) → AreKept keys reads → AreKept (with_key k keys) reads
kept-more k keys [] h = tt
kept-more k keys (got ∷ earlier) h = (keeps-keys got.0 k keys h.0, kept-more k keys earlier h.1)

pub shows-alike : (f g : List ℕ → Option (StateId × Write)) (reads : List (List ℕ × Reply)) → ((k : List ℕ) → f k ≡ g k) → ReadsShow f reads → ReadsShow g reads
shows-alike f g [] same h = tt
shows-alike f g (got ∷ earlier) same h = (h.0 ∙ ap found (same got.0), shows-alike f g earlier same h.1)

-- of reads whose keys are kept, what shows these keys alike shows the reads alike
pub shows-kept-alike : (keys : List (List ℕ)) (f g : List ℕ → Option (StateId × Write)) (reads : List (List ℕ × Reply)) →
    ((k : List ℕ) → IsTrue (is_key_among k keys) → f k ≡ g k) → AreKept keys reads → ReadsShow f reads → ReadsShow g reads
shows-kept-alike keys f g [] same kept h = tt
shows-kept-alike keys f g (got ∷ earlier) same kept h = (h.0 ∙ ap found (same got.0 kept.0), shows-kept-alike keys f g earlier same kept.1 h.1)

-- ===== A change, and a longer history

pub tells-changed : (rs : List Record) (o next : Option Txn) (t u : Txn) (f : Told → Told) → o ≡ Some t → next ≡ Some u →
    ((seen : Told) → IsTold rs t seen → IsTold rs u (f seen)) →
    (seen : Option Told) → Tells rs o seen → Tells rs next (option_map f seen)
tells-changed rs o next t u f e d change None h = absurd (subst (λ p. Tells rs p None) e h)
tells-changed rs o next t u f e d change (Some seen) h = subst (λ p. Tells rs p (Some (f seen))) (sym d) (change seen (subst (λ p. Tells rs p (Some seen)) e h))

pub tells-later : (rs : List Record) (r : Record) → Fits rs r → Grows rs → (o : Option Txn) (seen : Option Told) →
    ((t : Txn) → o ≡ Some t → IsTrue (list_all (is_known rs) (read_states t))) → Tells rs o seen → Tells (r ∷ rs) o seen
tells-later rs r f g None None known h = tt
tells-later rs r f g None (Some seen) known h = h
tells-later rs r f g (Some t) None known h = h
tells-later rs r f g (Some t) (Some seen) known h = record {
  merges = h.merges;
  states = h.states;
  writes = h.writes;
  kept = h.kept;
  shown =
      shows-alike (value_over rs (read_states t)) (value_over (r ∷ rs) (read_states t)) seen.reads
      (λ k. sym (value-over-stays rs r f g k (read_states t) (known t refl))) h.shown;
}
