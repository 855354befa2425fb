-- Each branch is a serial history of its serializable transactions.
use Rattle.std.proofs.Common.{◌≡◌, ℕ, List, [], ◌∷◌, ◌++◌, Option, Some, IsTrue, refl, sym, ap, subst, ◌∙◌}
use Rattle.std.proofs.lemmas.Option.{same_Some}
use Rattle.tardis_base.specs.declared.ids.StateId.{StateId}
use Rattle.tardis_base.specs.declared.records.Record.{Record}
use Rattle.tardis_base.specs.declared.records.Write.{Write}
use Rattle.plain_dag.specs.States.{is_known, record_at}
use Rattle.plain_dag.specs.Writers.{read}
use Rattle.plain_dag.specs.Dag.{IsDag}
use Rattle.plain_dag.specs.Landing.{is_ser}
use Rattle.plain_dag.proofs.Histories.{Fits, dag-grows, known-stays}
use Rattle.plain_dag.proofs.Growth.{read-stays}
use Rattle.plain_site.specs.Site.{Site}
use Rattle.plain_site.specs.Step.{step}
use Rattle.plain_site.specs.RowWords.{Line}
use Rattle.plain_site.specs.ClientRuns.{IsRun, Told, told, ReadsShow}
use Rattle.plain_site.specs.ClientLaws.{DoneCommit, as_line, IsBranch, one_after_another, IsSerial, BranchesAreSerial}
use Rattle.client_laws.proofs.Records.{record-is-of, branch-is-read}
use Rattle.client_laws.proofs.Tellings.{shows-alike}
use Rattle.client_laws.proofs.Held.{dag_after, dag-is-told, run-holds}
use Rattle.client_laws.proofs.Laws.{ser-parent}
use Rattle.client_laws.proofs.Kept.{keeps-on, older-run, told-record}

-- a read at a known state
abbrev IsReadAs : List ℕ → StateId → Option (StateId × Write) → List Record → Type 0
IsReadAs key p v rs = IsTrue (is_known rs p) × (read rs key p ≡ v)

read-stays-so : (key : List ℕ) (p : StateId) (v : Option (StateId × Write)) (rs : List Record) (r : Record) → IsDag rs → Fits rs r → IsReadAs key p v rs →
    IsReadAs key p v (r ∷ rs)
read-stays-so key p v rs r dag f h = (known-stays rs r p h.0, read-stays rs r f (dag-grows rs dag) key p h.0 ∙ h.1)

same-parent : (p q : StateId) → ◌≡◌ {A = List StateId} (p ∷ []) (q ∷ []) → p ≡ q
same-parent p q e = cc

-- a read at a state that was known before a commit is the same for good
read-after : (start : Site) (newer older : List Line) (line : Line) (key : List ℕ) (p : StateId) → IsRun step start (newer ++ line ∷ older) →
    IsTrue (is_known (dag_after start older) p) →
    read (dag_after start (newer ++ line ∷ older)) key p ≡ read (dag_after start older) key p
read-after start newer older line key p run known =
    let v = read (dag_after start older) key p in
    let next = keeps-on (IsReadAs key p v) (read-stays-so key p v) start (line ∷ []) older (older-run start newer (line ∷ older) run) (known, refl) in
    (keeps-on (IsReadAs key p v) (read-stays-so key p v) start newer (line ∷ older) run next).1

-- what a serializable transaction read is what is read for good at the parent of its state
read-at-parent : (start : Site) (newer older : List Line) (d : DoneCommit) (r : Record) (t : Told) (q : StateId) →
    IsRun step start (newer ++ as_line d ∷ older) →
    told d.actor older ≡ Some t → IsTrue (is_ser d.flags) → record_at (dag_after start (newer ++ as_line d ∷ older)) d.state ≡ Some r → r.parents ≡ q ∷ [] →
    ReadsShow (λ key. read (dag_after start (newer ++ as_line d ∷ older)) key q) t.reads
read-at-parent start newer older d r t q run e ser at one =
    let line = as_line d in
    let h = ser-parent start older d (older-run start newer (line ∷ older) run) ser in
    let its = same_Some (record { id = d.state; parents = d.parents; writes = t.writes }) r (sym (told-record start newer older d t run e) ∙ at) in
    let parent : h.2 ≡ q = same-parent h.2 q (sym h.4 ∙ (ap (λ (p : Record). p.parents) its ∙ one)) in
    let rs = dag_after start (newer ++ line ∷ older) in
    subst (λ (u : Told). ReadsShow (λ key. read rs key q) u.reads) (same_Some h.0 t (sym h.1 ∙ e))
    (shows-alike (λ key. read (dag_after start older) key h.2) (λ key. read rs key q) h.0.reads
    (λ key. sym (read-after start newer older line key h.2 run h.3) ∙ ap (read rs key) parent) h.5)

module _ (start : Site) (lines : List Line) (run : IsRun step start lines) where
  serial-branch : (branch : List Record) (x : StateId) → IsBranch (dag_after start lines) branch x → IsSerial lines branch
  serial-branch [] x is_branch = tt
  serial-branch (r ∷ before) x is_branch =
      let rs = dag_after start lines in
      let dag = (run-holds start lines run).sound.dag in
      let at : record_at rs r.id ≡ Some r = ap (record_at rs) (record-is-of rs x r is_branch.1).0 ∙ is_branch.1 in (
        λ d t made same ser.
            let there : record_at rs d.state ≡ Some r = ap (record_at rs) same ∙ at in
            let reads : ReadsShow (λ key. read rs key is_branch.0) t.reads =
            subst (λ ls. ReadsShow (λ key. read (dag_after start ls) key is_branch.0) t.reads) (sym made.2)
            (read-at-parent start made.0 made.1 d r t is_branch.0 (subst (IsRun step start) made.2 run) made.3 ser
            (subst (λ ls. record_at (dag_after start ls) d.state ≡ Some r) made.2 there) is_branch.2) in
            shows-alike (λ key. read rs key is_branch.0) (one_after_another before) t.reads
            (λ key. branch-is-read rs dag key before is_branch.0 is_branch.3) reads,
        serial-branch before is_branch.0 is_branch.3,
      )

pub branches-are-serial : BranchesAreSerial step
branches-are-serial start lines branch x run is_branch =
    serial-branch start lines run branch x (subst (λ rs. IsBranch rs branch x) (sym (dag-is-told start lines run)) is_branch)
