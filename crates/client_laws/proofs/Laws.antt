-- The laws of reads and commits.
use Rattle.std.proofs.Common.{◌≡◌, ℕ, true, List, [], ◌∷◌, Option, Some, None, IsTrue, IsFalse, inl, inr, refl, sym, ap, subst, ◌∙◌}
use Rattle.std.specs.Prelude.{◌||◌, ◌==◌, bytes_eq}
use Rattle.std.specs.Int.RustNames.{bit_and}
use Rattle.std.specs.List.{list_all}
use Rattle.std.proofs.lemmas.Bool.{and_parts}
use Rattle.std.proofs.lemmas.Option.{none-some, same_Some}
use Rattle.tardis_base.specs.declared.ids.StateId.{StateId}
use Rattle.tardis_base.specs.declared.records.Record.{Record}
use Rattle.tardis_base.specs.declared.requests.EndFlags.{EndFlags}
use Rattle.tardis_base.specs.declared.requests.Request.TheVariants.{Commit}
use Rattle.tardis_base.specs.Keys.{KeyWrite, is_key_among, keys_of, has_key}
use Rattle.plain_dag.specs.States.{is_known}
use Rattle.plain_dag.specs.Above.{is_above}
use Rattle.plain_dag.specs.Writers.{is_writer, read}
use Rattle.plain_dag.specs.Conflicts.{value_over}
use Rattle.plain_dag.specs.Landing.{landing, guarded, is_ser, is_si}
use Rattle.plain_dag.specs.Entries.{entry_of}
use Rattle.plain_dag.specs.Dag.{IsDag}
use Rattle.plain_dag.proofs.Landing.{lands-below, true-commit}
use Rattle.plain_site.specs.Site.{Site, SingleTxn, Txn, Single, Merge, read_states}
use Rattle.plain_site.specs.Step.{step}
use Rattle.plain_site.specs.RowWords.{Line}
use Rattle.plain_site.specs.ClientRuns.{wants_memory, site_after, history, IsAnswered, IsRun, Told, told, ReadsShow}
use Rattle.plain_site.specs.ClientLaws.{DoneCommit, as_line, ReadsOneSnapshot, ReadsAtItsState, SerializableReadsHold, SnapshotsOverwriteNothingUnseen}
use Rattle.client_laws.proofs.Dags.{value-over-one}
use Rattle.client_laws.proofs.Tellings.{IsTold, Tells, shows-alike, shows-kept-alike}
use Rattle.client_laws.proofs.Held.{dag_after, dag-is-told, Holds, run-holds, run-before}
use Rattle.client_laws.proofs.Commits.{IsPlaced, IsCommit, step-tells-commit}

-- ===== What is told of an open transaction

pub tells-seen : (rs : List Record) (o : Option Txn) (seen : Option Told) (t : Txn) → o ≡ Some t → Tells rs o seen → (u : Told) × (seen ≡ Some u)
    × IsTold rs t u
tells-seen rs None seen t e h = absurd (none-some t e)
tells-seen rs (Some s) None t e h = absurd (h)
tells-seen rs (Some s) (Some u) t e h = (u, refl, subst (λ z. IsTold rs z u) (same_Some s t e) h)

pub tells-open : (rs : List Record) (o : Option Txn) (seen : Option Told) (u : Told) → seen ≡ Some u → Tells rs o seen → (t : Txn) × (o ≡ Some t)
    × IsTold rs t u
tells-open rs o None u e h = absurd (none-some u e)
tells-open rs None (Some v) u e h = absurd (h)
tells-open rs (Some t) (Some v) u e h = (t, refl, subst (IsTold rs t) (same_Some v u e) h)

has-key-among : (k : List ℕ) (ws : List KeyWrite) → is_key_among k (keys_of ws) ≡ has_key k ws
has-key-among k [] = refl
has-key-among k (w ∷ ws) = ap (λ b. bytes_eq k w.0 || b) (has-key-among k ws)

-- the reply of a line that was answered is the step's, unless memory was wanting
pub was-answered : (site : Site) (line : Line) → IsAnswered step site line → IsFalse (wants_memory line.reply) →
    line.reply ≡ (step site line.actor line.request).1
was-answered site line (inl e) f = e
was-answered site line (inr wants) f = absurd (cc)

-- ===== One snapshot

pub reads-one-snapshot : ReadsOneSnapshot step
reads-one-snapshot start lines n t run e =
    let h = run-holds start lines run in
    let site = site_after step start lines in
    let open_there = tells-open site.dag (entry_of n site.txns) (told n lines) t e (h.txn n) in
    subst (λ rs. ReadsShow (value_over rs t.states) t.reads) h.dag
    (subst (λ xs. ReadsShow (value_over site.dag xs) t.reads) (sym open_there.2.states) open_there.2.shown)

pub reads-at-its-state : ReadsAtItsState step
reads-at-its-state start lines n t s run e at =
    let rs = history start lines in
    shows-alike (value_over rs t.states) (λ key. read rs key s) t.reads (λ key. ap (λ xs. value_over rs xs key) at ∙ value-over-one rs s key)
    (reads-one-snapshot start lines n t run e)

-- ===== Commits

module _ (start : Site) (older : List Line) (d : DoneCommit)
    (run : IsRun step start (as_line d ∷ older)) where
  pub before : Holds start (site_after step start older) older
  before = run-holds start older (run-before start (as_line d) older run)

  pub is-commit : IsCommit (site_after step start older) d.actor d.flags (step (site_after step start older) d.actor (Commit d.flags d.k)).0.dag d.state
      d.parents
  is-commit =
      (step-tells-commit (site_after step start older) d.actor d.flags d.k).told d.state d.parents
      (sym (was-answered (site_after step start older) (as_line d) run.answered.1 refl))

  pub is-told : (u : Told) × (told d.actor older ≡ Some u) × IsTold (site_after step start older).dag is-commit.txn u
  is-told =
      let s = site_after step start older in
      tells-seen s.dag (entry_of d.actor s.txns) (told d.actor older) is-commit.txn is-commit.open_there (before.txn d.actor)

-- ===== SER

-- no end constraint is set where their bits are 0
not-ser : {P : Type 0} (flags : EndFlags) → flags.0 ≡ 0 → IsTrue (is_ser flags) → P
not-ser flags e ser = let none : IsTrue (bit_and 0 1 == 1) = subst (λ bits. IsTrue (bit_and bits 1 == 1)) e ser in absurd (cc)

not-si : {P : Type 0} (flags : EndFlags) → flags.0 ≡ 0 → IsTrue (is_si flags) → P
not-si flags e si = let none : IsTrue (bit_and 0 2 == 2) = subst (λ bits. IsTrue (bit_and bits 2 == 2)) e si in absurd (cc)

-- what was read at the read state is read at the landing
single-holds : (rs : List Record) → IsDag rs → (flags : EndFlags) (t : SingleTxn) (u : Told) → IsTrue (is_known rs t.state) → IsTrue (is_ser flags) →
    IsTold rs (Single t) u →
    ReadsShow (λ key. read rs key (landing rs (guarded flags t.reads (keys_of t.writes)) t.state)) u.reads
single-holds rs dag flags t u known ser h =
    let c = true-commit rs flags t.reads (keys_of t.writes) t.state dag known in
    shows-kept-alike t.reads (value_over rs (t.state ∷ [])) (λ key. read rs key (landing rs (guarded flags t.reads (keys_of t.writes)) t.state)) u.reads
    (λ key kept. value-over-one rs t.state key ∙ sym (c.same_reads ser key kept)) h.kept h.shown

ser-holds : (rs : List Record) → IsDag rs → (flags : EndFlags) (t : Txn) (parents : List StateId) (u : Told) → IsTrue (list_all (is_known rs) (read_states t)) →
    IsTrue (is_ser flags) → IsPlaced rs flags t parents → IsTold rs t u →
    (p : StateId) × IsTrue (is_known rs p) × (parents ≡ p ∷ []) × ReadsShow (λ key. read rs key p) u.reads
ser-holds rs dag flags (Single t) parents u known ser placed h = (
  landing rs (guarded flags t.reads (keys_of t.writes)) t.state,
  (lands-below rs (guarded flags t.reads (keys_of t.writes)) t.state dag (and_parts (is_known rs t.state) true known).0).0,
  placed,
  single-holds rs dag flags t u (and_parts (is_known rs t.state) true known).0 ser h,
)
ser-holds rs dag flags (Merge t) parents u known ser placed h = not-ser flags placed.1 ser

-- the parent of a serializable transaction is known, and its reads hold there
pub ser-parent : (start : Site) (older : List Line) (d : DoneCommit) →
    IsRun step start (as_line d ∷ older) → IsTrue (is_ser d.flags) →
    (u : Told) × (told d.actor older ≡ Some u) × (p : StateId) × IsTrue (is_known (dag_after start older) p) × (d.parents ≡ p ∷ [])
    × ReadsShow (λ key. read (dag_after start older) key p) u.reads
ser-parent start older d run ser =
    let c = is-commit start older d run in
    let u = is-told start older d run in
    let sound = (before start older d run).sound in
    let rs = dag_after start older in
    let p = ser-holds rs sound.dag d.flags c.txn d.parents u.0 (sound.each_txn d.actor c.txn c.open_there).2.known ser c.placed u.2 in
    (u.0, u.1, p.0, p.1, p.2, p.3)

pub serializable-reads-hold : SerializableReadsHold step
serializable-reads-hold start older d run ser =
    let h = ser-parent start older d run ser in
    let e = dag-is-told start older (run-before start (as_line d) older run) in
    (h.0, h.2, h.1, h.4, subst (λ rs. ReadsShow (λ key. read rs key h.2) h.0.reads) e h.5)

-- ===== SI

-- what writes one of these keys and is at or above p is at or above s
abbrev NothingUnseen : List Record → List KeyWrite → StateId → StateId → Type 0
NothingUnseen rs writes s p = (key : List ℕ) (w : StateId) → IsTrue (has_key key writes) → IsTrue (is_writer rs key p w) → IsTrue (is_above rs w s)

si-holds : (rs : List Record) → IsDag rs → (flags : EndFlags) (t : Txn) (parents : List StateId) (u : Told) → IsTrue (list_all (is_known rs) (read_states t)) →
    IsTrue (is_si flags) → IsPlaced rs flags t parents → IsTold rs t u → (s : StateId) × (p : StateId) × (u.states ≡ s ∷ []) × (parents ≡ p ∷ [])
    × ReadsShow (λ key. read rs key s) u.reads × NothingUnseen rs u.writes s p
si-holds rs dag flags (Single t) parents u known si placed h =
    let c = true-commit rs flags t.reads (keys_of t.writes) t.state dag (and_parts (is_known rs t.state) true known).0 in (
      t.state,
      landing rs (guarded flags t.reads (keys_of t.writes)) t.state,
      h.states,
      placed,
      shows-alike (value_over rs (t.state ∷ [])) (λ key. read rs key t.state) u.reads (value-over-one rs t.state) h.shown,
      λ key w has writer. c.no_writes si key w (has-key-among key t.writes ∙ (ap (has_key key) (sym h.writes) ∙ has)) writer,
    )
si-holds rs dag flags (Merge t) parents u known si placed h = not-si flags placed.1 si

pub snapshots-overwrite-nothing-unseen : SnapshotsOverwriteNothingUnseen step
snapshots-overwrite-nothing-unseen start older d run si =
    let c = is-commit start older d run in
    let u = is-told start older d run in
    let sound = (before start older d run).sound in
    let rs = dag_after start older in
    let p = si-holds rs sound.dag d.flags c.txn d.parents u.0 (sound.each_txn d.actor c.txn c.open_there).2.known si c.placed u.2 in
    let e = dag-is-told start older (run-before start (as_line d) older run) in (
      u.0,
      p.0,
      p.1,
      u.1,
      p.2,
      p.3,
      subst (λ qs. ReadsShow (λ key. read qs key p.0) u.0.reads) e p.4,
      subst (λ qs. NothingUnseen qs u.0.writes p.0 p.1) e p.5,
    )
