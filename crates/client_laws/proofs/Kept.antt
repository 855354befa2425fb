-- Nothing committed is lost, and sessions read their own commits.
use Rattle.std.proofs.Common.{◌≡◌, ℕ, true, List, [], ◌∷◌, ◌++◌, Some, IsTrue, inl, inr, refl, sym, ap, subst, ◌∙◌, find}
use Rattle.std.specs.Prelude.{unwrap_or}
use Rattle.std.specs.List.{list_all}
use Rattle.std.proofs.lemmas.Bool.{and_parts, and_from, cond_both, not-true}
use Rattle.std.proofs.lemmas.Option.{same_Some}
use Rattle.tardis_base.specs.declared.ids.StateId.{StateId}
use Rattle.tardis_base.specs.declared.records.Record.{Record}
use Rattle.tardis_base.specs.declared.requests.EndFlags.{EndFlags}
use Rattle.tardis_base.specs.declared.requests.Begin.{Begin}
use Rattle.tardis_base.specs.declared.requests.Begin.TheVariants.{Any, Ancestor, Parent}
use Rattle.tardis_base.specs.declared.requests.Request.TheVariants.{Begin as BeginAt}
use Rattle.tardis_base.specs.declared.replies.Reply.TheVariants.{Begun}
use Rattle.tardis_base.specs.Ids.{is_among}
use Rattle.tardis_base.specs.Keys.{KeyWrite, keys_of}
use Rattle.plain_dag.specs.States.{states, is_known, record_at}
use Rattle.plain_dag.specs.Above.{is_above, is_proper_ancestor}
use Rattle.plain_dag.specs.Begin.{is_admitted, last_below, begin_state}
use Rattle.plain_dag.specs.Floors.{Session}
use Rattle.plain_dag.specs.Dag.{IsDag}
use Rattle.plain_dag.specs.Landing.{landing, guarded}
use Rattle.plain_dag.specs.Writers.{are_above}
use Rattle.plain_dag.proofs.Ids.{same_id_self, among-first, all-from}
use Rattle.plain_dag.proofs.Histories.{Fits, dag-grows, known-stays, newest-is-known}
use Rattle.plain_dag.proofs.Growth.{above-stays}
use Rattle.plain_dag.proofs.Landing.{lands-below}
use Rattle.plain_dag.proofs.Order.{above-reflexive, above-by-parent}
use Rattle.plain_site.proofs.SoundEntries.{all-implies}
use Rattle.plain_dag.proofs.Searches.{found-passes, option-cases}
use Rattle.plain_site.specs.Site.{Site, Txn, Single, Merge, read_states, writes_of}
use Rattle.plain_site.specs.Step.{step}
use Rattle.plain_site.specs.RowWords.{Line, ◌asks◌=>◌}
use Rattle.plain_site.specs.ClientRuns.{wants_memory, after_line, site_after, history, IsRun, Told, told, told_session}
use Rattle.plain_site.specs.ClientLaws.{DoneCommit, as_line, CommitsAreKept, CommitsAreShown, OtherKeysAreJoined, CommitsJoinWhatTheyRead}
use Rattle.plain_site.specs.ClientLaws.{ParentReadsTheLastCommit, AncestorReadsTheLastCommit, AnyReadsTheLastCommit, SessionsStayUnderCeilings}
use Rattle.client_laws.proofs.Records.{record-of-newest, record-stays, shown-below, joined, no-conflict}
use Rattle.client_laws.proofs.Tellings.{is_merge}
use Rattle.client_laws.proofs.EffectsOfSites.{step-does}
use Rattle.client_laws.proofs.Held.{dag_after, dag-is-told, Later, stays-later, run-holds, run-before}
use Rattle.client_laws.proofs.Commits.{IsPlaced, step-tells-begin}
use Rattle.client_laws.proofs.Laws.{was-answered, before, is-commit, is-told}

-- ===== Kept

-- a line makes the history no other than it was, or longer by one record
line-is-later : (site : Site) (line : Line) → Later site.dag (after_line step site line).dag
line-is-later site line =
    let next = (step site line.actor line.request).0 in
    cond_both (wants_memory line.reply) site next (λ s. Later site.dag s.dag) (λ t. inl refl) (λ f. (step-does site line.actor line.request).grows)

-- the run without its newest lines
pub older-run : (start : Site) (newer older : List Line) → IsRun step start (newer ++ older) → IsRun step start older
older-run start [] older run = run
older-run start (line ∷ newer) older run = older-run start newer older (run-before start line (newer ++ older) run)

-- what stays as records arrive stays with newer lines
pub keeps-on : (P : List Record → Type 0) → ((rs : List Record) (r : Record) → IsDag rs → Fits rs r → P rs → P (r ∷ rs)) →
    (start : Site) (newer older : List Line) →
    IsRun step start (newer ++ older) → P (dag_after start older) → P (dag_after start (newer ++ older))
keeps-on P stays start [] older run h = h
keeps-on P stays start (line ∷ newer) older run h =
    let lines = newer ++ older in
    let before = run-before start line lines run in
    let site = site_after step start lines in
    let dag = (run-holds start lines before).sound.dag in
    stays-later P site.dag (after_line step site line).dag (line-is-later site line) dag (run-holds start (line ∷ lines) run).sound.dag
    (λ r f d. stays site.dag r dag f d) (keeps-on P stays start newer older before h)

its-record : (start : Site) (older : List Line) (d : DoneCommit) → IsRun step start (as_line d ∷ older) → (t : Told) × (told d.actor older ≡ Some t)
    × (record_at (dag_after start (as_line d ∷ older)) d.state ≡ Some (record { id = d.state; parents = d.parents; writes = t.writes }))
its-record start older d run =
    let c = is-commit start older d run in
    let u = is-told start older d run in
    let r : Record = record { id = d.state; parents = d.parents; writes = writes_of c.txn } in
    let newest : record_at (dag_after start (as_line d ∷ older)) d.state ≡ Some r =
    subst (λ rs. record_at rs d.state ≡ Some r) (sym c.grown) (record-of-newest (dag_after start older) r) in
    (u.0, u.1, newest ∙ ap (λ (ws : List KeyWrite). Some (record r { writes = ws })) (sym u.2.writes))

record-is-kept : (start : Site) (newer older : List Line) (d : DoneCommit) → IsRun step start (newer ++ as_line d ∷ older) → (t : Told)
    × (told d.actor older ≡ Some t)
    × (record_at (dag_after start (newer ++ as_line d ∷ older)) d.state ≡ Some (record { id = d.state; parents = d.parents; writes = t.writes }))
record-is-kept start newer older d run =
    let own = its-record start older d (older-run start newer (as_line d ∷ older) run) in
    let r : Record = record { id = d.state; parents = d.parents; writes = own.0.writes } in
    (own.0, own.1, keeps-on (λ rs. record_at rs d.state ≡ Some r) (λ rs q dag f e. record-stays rs q f d.state r e) start newer (as_line d ∷ older) run own.2)

pub commits-are-kept : CommitsAreKept step
commits-are-kept start newer older d run =
    let kept = record-is-kept start newer older d run in
    let r : Record = record { id = d.state; parents = d.parents; writes = kept.0.writes } in
    (kept.0, kept.1, subst (λ rs. record_at rs d.state ≡ Some r) (dag-is-told start (newer ++ as_line d ∷ older) run) kept.2)

pub told-record : (start : Site) (newer older : List Line) (d : DoneCommit) (t : Told) → IsRun step start (newer ++ as_line d ∷ older) → told d.actor older
    ≡ Some t →
    record_at (dag_after start (newer ++ as_line d ∷ older)) d.state ≡ Some (record { id = d.state; parents = d.parents; writes = t.writes })
told-record start newer older d t run e =
    let kept = record-is-kept start newer older d run in
    kept.2 ∙ ap (λ (u : Told). Some (record { id = d.state; parents = d.parents; writes = u.writes })) (same_Some kept.0 t (sym kept.1 ∙ e))

-- what lines tell of a history is one
told-dag : (start : Site) (lines : List Line) → IsRun step start lines → IsDag (history start lines)
told-dag start lines run = let h = run-holds start lines run in subst IsDag h.dag h.sound.dag

told-at : (start : Site) (newer older : List Line) (d : DoneCommit) (t : Told) → IsRun step start (newer ++ as_line d ∷ older) → told d.actor older ≡ Some t →
    record_at (history start (newer ++ as_line d ∷ older)) d.state ≡ Some (record { id = d.state; parents = d.parents; writes = t.writes })
told-at start newer older d t run e =
    let r : Record = record { id = d.state; parents = d.parents; writes = t.writes } in
    subst (λ rs. record_at rs d.state ≡ Some r) (dag-is-told start (newer ++ as_line d ∷ older) run) (told-record start newer older d t run e)

pub commits-are-shown : CommitsAreShown step
commits-are-shown start newer older d t run e key w y writes known above none =
    let lines = newer ++ as_line d ∷ older in
    shown-below (history start lines) (told-dag start lines run) key d.state y (record { id = d.state; parents = d.parents; writes = t.writes }) w
    (told-at start newer older d t run e) writes known above none

pub other-keys-are-joined : OtherKeysAreJoined step
other-keys-are-joined start newer older d t run e key lacks =
    let lines = newer ++ as_line d ∷ older in
    let rs = history start lines in
    let dag = told-dag start lines run in
    let q : Record = record { id = d.state; parents = d.parents; writes = t.writes } in
    let at = told-at start newer older d t run e in
    (no-conflict rs (dag-grows rs dag) key d.state q at lacks, joined rs dag key d.state q at lacks)

-- ===== Below what was read

-- the newest state is below its only parent, and what is at or above that
below-parent : (rs : List Record) (r : Record) (p s : StateId) → r.parents ≡ p ∷ [] → IsTrue (is_above rs s p) → IsTrue (is_above (r ∷ rs) s r.id)
below-parent rs r p s e above =
    above-by-parent rs r s p r.id (same_id_self r.id) (subst (λ (ps : List StateId). IsTrue (is_among p ps)) (sym e) (among-first p [])) above

joins-reads : (rs : List Record) → IsDag rs → (flags : EndFlags) (t : Txn) (x : StateId) (parents : List StateId) →
    IsTrue (list_all (is_known rs) (read_states t)) →
    IsPlaced rs flags t parents →
    IsTrue (are_above (record { id = x; parents = parents; writes = writes_of t } ∷ rs) (read_states t) x) × (IsTrue (is_merge t) → parents ≡ read_states t)
joins-reads rs dag flags (Single t) x parents known placed =
    let r : Record = record { id = x; parents = parents; writes = t.writes } in
    let keys = guarded flags t.reads (keys_of t.writes) in
    let lands = lands-below rs keys t.state dag (and_parts (is_known rs t.state) true known).0 in
    (and_from (is_above (r ∷ rs) t.state x) true (below-parent rs r (landing rs keys t.state) t.state placed lands.1) refl, λ m. absurd (cc))
joins-reads rs dag flags (Merge t) x parents known placed =
    let r : Record = record { id = x; parents = parents; writes = t.writes } in (
      all-from (λ v. is_above (r ∷ rs) v x) t.states
          (λ s m. above-by-parent rs r s s x (same_id_self x) (subst (λ (ps : List StateId). IsTrue (is_among s ps)) (sym placed.0) m) (above-reflexive rs s)),
      λ m. placed.0,
    )

-- states at or above a known one stay so
above-stay : (x : StateId) (xs : List StateId) (rs : List Record) (r : Record) → IsDag rs → Fits rs r → IsTrue (is_known rs x) × IsTrue (are_above rs xs x) →
    IsTrue (is_known (r ∷ rs) x) × IsTrue (are_above (r ∷ rs) xs x)
above-stay x xs rs r dag f h = (
  known-stays rs r x h.0,
  all-implies (λ v. is_above rs v x) (λ v. is_above (r ∷ rs) v x) (λ v a. above-stays rs r f (dag-grows rs dag) v x h.0 ∙ a) xs h.1,
)

pub commits-join-what-they-read : CommitsJoinWhatTheyRead step
commits-join-what-they-read start newer older d t run e =
    let line = as_line d in
    let own = older-run start newer (line ∷ older) run in
    let c = is-commit start older d own in
    let u = is-told start older d own in
    let sound = (before start older d own).sound in
    let rs = dag_after start older in
    let j = joins-reads rs sound.dag d.flags c.txn d.state d.parents (sound.each_txn d.actor c.txn c.open_there).2.known c.placed in
    let same = same_Some u.0 t (sym u.1 ∙ e) in
    let states : read_states c.txn ≡ t.states = sym u.2.states ∙ ap (λ (v : Told). v.states) same in
    let merges : t.merges ≡ is_merge c.txn = ap (λ (v : Told). v.merges) (sym same) ∙ u.2.merges in
    let r : Record = record { id = d.state; parents = d.parents; writes = writes_of c.txn } in
    let at : IsTrue (is_known (dag_after start (line ∷ older)) d.state) × IsTrue (are_above (dag_after start (line ∷ older)) t.states d.state) =
    subst (λ qs. IsTrue (is_known qs d.state) × IsTrue (are_above qs t.states d.state)) (sym c.grown)
    (newest-is-known rs r, subst (λ xs. IsTrue (are_above (r ∷ rs) xs d.state)) states j.0) in (
      subst (λ qs. IsTrue (are_above qs t.states d.state)) (dag-is-told start (newer ++ line ∷ older) run)
          (keeps-on (λ qs. IsTrue (is_known qs d.state) × IsTrue (are_above qs t.states d.state)) (above-stay d.state t.states) start newer
          (line ∷ older) run at).1,
      λ m. j.1 (sym merges ∙ m) ∙ states,
    )

-- ===== Own commits

-- a transaction begins where it is told to, by the session's last commit, and not above its ceiling
begun-at : (b : Begin) (start : Site) (older : List Line) (n : ℕ) (x : StateId) → IsRun step start (n asks BeginAt b => Begun x ∷ older) →
    (s : Session) × (told_session start n older ≡ Some s) × (begin_state (history start older) s.last b ≡ x)
    × IsTrue (is_admitted (history start older) s.ceiling x)
begun-at b start older n x run =
    let site = site_after step start older in
    let line = n asks BeginAt b => Begun x in
    let h = run-holds start older (run-before start line older run) in
    let at = (step-tells-begin site n b).told x (sym (was-answered site line run.answered.1 refl)) in (
      at.0,
      sym (h.session n) ∙ at.1,
      subst (λ rs. begin_state rs at.0.last b ≡ x) h.dag at.2,
      subst (λ rs. IsTrue (is_admitted rs at.0.ceiling x)) h.dag at.3,
    )

pub above-last-below : (rs : List Record) (x : StateId) → IsTrue (is_above rs x (last_below rs x))
above-last-below rs x = elim (option-cases (find (is_above rs x) (states rs))) [
  | inl y ↦ subst (λ o. IsTrue (is_above rs x (unwrap_or o x))) (sym y.1) (found-passes (is_above rs x) (states rs) y.0 y.1).1
  | inr none ↦ subst (λ o. IsTrue (is_above rs x (unwrap_or o x))) (sym none) (above-reflexive rs x)
]

pub parent-reads-the-last : ParentReadsTheLastCommit step
parent-reads-the-last start older n x run = let at = begun-at Parent start older n x run in (at.0, at.1, sym at.2)

pub ancestor-reads-the-last : AncestorReadsTheLastCommit step
ancestor-reads-the-last start older n x run =
    let rs = history start older in
    let at = begun-at Ancestor start older n x run in
    (at.0, at.1, subst (λ z. IsTrue (is_above rs at.0.last z)) at.2 (above-last-below rs at.0.last))

pub any-reads-the-last : AnyReadsTheLastCommit step
any-reads-the-last start older n x run =
    let rs = history start older in
    let at = begun-at Any start older n x run in
    (at.0, at.1, (λ h. subst (λ z. IsTrue (is_above rs at.0.last z)) (sym at.2) h, λ h. subst (λ z. IsTrue (is_above rs at.0.last z)) at.2 h))

pub sessions-stay-under-ceilings : SessionsStayUnderCeilings step
sessions-stay-under-ceilings start older n b x run =
    let at = begun-at b start older n x run in
    (at.0, at.1, not-true (is_proper_ancestor (history start older) x at.0.ceiling) at.3)
