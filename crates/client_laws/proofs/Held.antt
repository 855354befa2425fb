-- What holds of a site after every run.
use Rattle.std.proofs.Common.{◌≡◌, ℕ, List, [], ◌∷◌, Some, None, IsTrue, IsFalse, ◌⊎◌, inl, inr, refl, sym, ap, subst, ◌∙◌}
use Rattle.std.specs.Prelude.{◌==◌}
use Rattle.std.specs.List.{list_all}
use Rattle.std.proofs.lemmas.Bool.{and_parts, cases_Bool, cond-true, cond-false, eq-eqb, ne_eqb}
use Rattle.tardis_base.specs.declared.records.Record.{Record}
use Rattle.tardis_base.specs.declared.replies.Reply.{Reply}
use Rattle.tardis_base.specs.declared.replies.Reply.TheVariants.{NoMemory}
use Rattle.tardis_base.specs.Valid.{is_u16}
use Rattle.wire_talk.specs.Valid.{is_request}
use Rattle.plain_dag.specs.Entries.{entry_of}
use Rattle.plain_dag.specs.States.{is_known}
use Rattle.plain_dag.specs.Dag.{IsNext, IsDag}
use Rattle.plain_dag.proofs.Histories.{Fits, dag-grows, next-fits}
use Rattle.plain_site.specs.Site.{Site, Txn, opening, read_states}
use Rattle.plain_site.specs.Step.{step}
use Rattle.plain_site.specs.Sound.{IsSound}
use Rattle.plain_site.specs.RowWords.{Line}
use Rattle.plain_site.specs.ClientRuns.{wants_memory, after_line, site_after, is_asked, IsAnswered, AreAnswered, IsRun, retold, told, regrown, told_site}
use Rattle.plain_site.specs.ClientRuns.{history, resession, told_session}
use Rattle.plain_site.specs.ClientLaws.{HistoryIsTold}
use Rattle.plain_site.proofs.SoundBooks.{at-each}
use Rattle.plain_site.proofs.SoundOpening.{opening-is-sound}
use Rattle.plain_site.proofs.SoundRequests.{request-keeps-sound}
use Rattle.client_laws.proofs.Tellings.{Tells, tells-later}
use Rattle.client_laws.proofs.Effects.{bare, wanting-tells-nothing, wanting-leaves-session, wanting-records-nothing}
use Rattle.client_laws.proofs.EffectsOfSites.{step-does}

-- the site is sound, and its transactions and sessions are as the lines tell
pub record Holds (start site : Site) (lines : List Line) : Type 0 where
  pub sound : IsSound site
  pub shared : bare site ≡ told_site start lines
  pub dag : site.dag ≡ history start lines
  pub txn : (n : ℕ) → Tells site.dag (entry_of n site.txns) (told n lines)
  pub session : (n : ℕ) → entry_of n site.sessions ≡ told_session start n lines

-- ===== The history grows

-- the second history is the first, or has one record more
abbrev pub Later : List Record → List Record → Type 0
Later rs next = (next ≡ rs) ⊎ ((r : Record) × (next ≡ r ∷ rs))

-- a history's records arrived after one another
newest-is-next : (rs : List Record) (r : Record) → IsDag rs → IsDag (r ∷ rs) → IsNext rs r
newest-is-next [] r dag more = absurd (dag)
newest-is-next (s ∷ rs) r dag more = more.0

-- what stays as records arrive is so in a later history
pub stays-later : (P : List Record → Type 0) (rs next : List Record) → Later rs next → IsDag rs → IsDag next →
    ((r : Record) → Fits rs r → P rs → P (r ∷ rs)) → P rs → P next
stays-later P rs next (inl e) dag more step h = subst P (sym e) h
stays-later P rs next (inr (r, e)) dag more step h =
    subst P (sym e) (step r (next-fits rs r (newest-is-next rs r dag (subst IsDag e more))) h)

-- ===== What one line tells

told-here : (line : Line) (older : List Line) → told line.actor (line ∷ older) ≡ retold line.request line.reply (told line.actor older)
told-here line older = cond-true (line.actor == line.actor) (retold line.request line.reply (told line.actor older)) (told line.actor older)
    (eq-eqb line.actor line.actor refl)

told-other : (line : Line) (older : List Line) (m : ℕ) → (m ≡ line.actor → ⊥) → told m (line ∷ older) ≡ told m older
told-other line older m differ = cond-false (line.actor == m) (retold line.request line.reply (told m older)) (told m older)
    (ne_eqb line.actor m (λ e. differ (sym e)))

-- ===== One line

pub wanting-is : (reply : Reply) → IsTrue (wants_memory reply) → reply ≡ NoMemory
wanting-is NoMemory t = refl
wanting-is reply t = absurd (cc)

module _ (start : Site) where
  module _ (line : Line) (older : List Line) (h : Holds start (site_after step start older) older) where
    session-here : (rs : List Record) → rs ≡ history start (line ∷ older) → told_session start line.actor (line ∷ older)
        ≡ resession rs line.request line.reply (told_session start line.actor older)
    session-here rs e =
        let before = told_session start line.actor older in
        cond-true (line.actor == line.actor) (resession (history start (line ∷ older)) line.request line.reply before) before
        (eq-eqb line.actor line.actor refl)
        ∙ ap (λ qs. resession qs line.request line.reply before) (sym e)

    session-other : (m : ℕ) → (m ≡ line.actor → ⊥) → told_session start m (line ∷ older) ≡ told_session start m older
    session-other m differ =
        let before = told_session start m older in
        cond-false (line.actor == m) (resession (history start (line ∷ older)) line.request line.reply before) before
        (ne_eqb line.actor m (λ e. differ (sym e)))

    -- memory was wanting, and nothing was done
    holds-wanting : IsTrue (wants_memory line.reply) → Holds start (site_after step start older) (line ∷ older)
    holds-wanting wants =
        let site = site_after step start older in
        let n = line.actor in
        let e = wanting-is line.reply wants in
        let as_told = told_site start older in
        let whole : bare site ≡ told_site start (line ∷ older) =
        h.shared ∙ sym (ap (λ r. regrown line.request r (told n older) as_told) e ∙ wanting-records-nothing line.request (told n older) as_told) in
        let same : site.dag ≡ history start (line ∷ older) = ap (λ (s : Site). s.dag) whole in
        record {
          sound = h.sound;
          shared = whole;
          dag = same;
          txn =
              at-each (λ i. Tells site.dag (entry_of i site.txns) (told i (line ∷ older))) n
              (subst (Tells site.dag (entry_of n site.txns))
              (sym (told-here line older ∙ (ap (λ r. retold line.request r (told n older)) e ∙ wanting-tells-nothing line.request (told n older)))) (h.txn n))
              (λ i differ. subst (Tells site.dag (entry_of i site.txns)) (sym (told-other line older i differ)) (h.txn i));
          session =
              at-each (λ i. entry_of i site.sessions ≡ told_session start i (line ∷ older)) n
              (h.session n
              ∙ sym (session-here site.dag same
              ∙ (ap (λ r. resession site.dag line.request r (told_session start n older)) e
              ∙ wanting-leaves-session line.request site.dag (told_session start n older))))
              (λ i differ. h.session i ∙ sym (session-other i differ));
        }

    -- an open transaction reads at known states
    open-is-known : (i : ℕ) (t : Txn) → entry_of i (site_after step start older).txns ≡ Some t →
        IsTrue (list_all (is_known (site_after step start older).dag) (read_states t))
    open-is-known i t e = (h.sound.each_txn i t e).2.known

    -- the site answered
    holds-answered : IsTrue (is_asked line) → line.reply ≡ (step (site_after step start older) line.actor line.request).1 →
        Holds start (step (site_after step start older) line.actor line.request).0 (line ∷ older)
    holds-answered asked e =
        let site = site_after step start older in
        let n = line.actor in
        let next = (step site n line.request).0 in
        let does = step-does site n line.request in
        let parts = and_parts (is_u16 n) (is_request line.request) asked in
        let sound = request-keeps-sound line.request site n parts.0 parts.1 h.sound in
        let whole : bare next ≡ told_site start (line ∷ older) =
        does.shared (told n older) (h.txn n)
        ∙ (ap (λ r. regrown line.request r (told n older) (bare site)) (sym e) ∙ ap (regrown line.request line.reply (told n older)) h.shared) in
        let same : next.dag ≡ history start (line ∷ older) = ap (λ (s : Site). s.dag) whole in
        let before : (i : ℕ) → Tells next.dag (entry_of i site.txns) (told i older) =
        λ i. stays-later (λ rs. Tells rs (entry_of i site.txns) (told i older)) site.dag next.dag does.grows h.sound.dag sound.dag
        (λ r f t. tells-later site.dag r f (dag-grows site.dag h.sound.dag) (entry_of i site.txns) (told i older) (open-is-known i) t) (h.txn i) in
        record {
          sound = sound;
          shared = whole;
          dag = same;
          txn =
              at-each (λ i. Tells next.dag (entry_of i next.txns) (told i (line ∷ older))) n
              (subst (Tells next.dag (entry_of n next.txns)) (sym (told-here line older ∙ ap (λ r. retold line.request r (told n older)) e))
              (does.txn (told n older) (before n)))
              (λ i differ.
              subst (λ o. Tells next.dag o (told i (line ∷ older))) (sym (does.other_txns i differ))
              (subst (Tells next.dag (entry_of i site.txns)) (sym (told-other line older i differ)) (before i)));
          session =
              at-each (λ i. entry_of i next.sessions ≡ told_session start i (line ∷ older)) n
              (does.session
              ∙ (ap (λ r. resession next.dag line.request r (entry_of n site.sessions)) (sym e)
              ∙ (ap (resession next.dag line.request line.reply) (h.session n) ∙ sym (session-here next.dag same))))
              (λ i differ. does.other_sessions i differ ∙ (h.session i ∙ sym (session-other i differ)));
        }

    holds-after : IsTrue (is_asked line) → IsAnswered step (site_after step start older) line →
        Holds start (after_line step (site_after step start older) line) (line ∷ older)
    holds-after asked answered =
        let site = site_after step start older in
        let next = (step site line.actor line.request).0 in
        elim (cases_Bool (wants_memory line.reply)) [
          | inl wants ↦ subst (λ s. Holds start s (line ∷ older)) (sym (cond-true (wants_memory line.reply) site next wants)) (holds-wanting wants)
          | inr f ↦
              subst (λ s. Holds start s (line ∷ older)) (sym (cond-false (wants_memory line.reply) site next f)) (holds-answered asked (by-step answered f))
        ]
      where
        by-step : IsAnswered step (site_after step start older) line → IsFalse (wants_memory line.reply) →
            line.reply ≡ (step (site_after step start older) line.actor line.request).1
        by-step (inl e) f = e
        by-step (inr wants) f = absurd (cc)

  -- ===== Runs

  opening-holds : IsSound start → start ≡ opening start.limits start.own → Holds start start []
  opening-holds sound e = record {
    sound = sound;
    shared = subst (λ (s : Site). bare s ≡ s) (sym e) refl;
    dag = refl;
    txn = λ n. subst (λ (s : Site). Tells s.dag (entry_of n s.txns) None) (sym e) tt;
    session = λ n. ap (λ (s : Site). entry_of n s.sessions) e;
  }

  holds-behind : (lines : List Line) → Holds start start [] → AreAnswered step start lines → Holds start (site_after step start lines) lines
  holds-behind [] h answered = h
  holds-behind (line ∷ older) h answered = holds-after line older (holds-behind older h answered.2) answered.0 answered.1

  pub run-holds : (lines : List Line) → IsRun step start lines → Holds start (site_after step start lines) lines
  run-holds lines run =
      holds-behind lines (opening-holds (subst IsSound (sym run.opens) (opening-is-sound start.limits start.own run.limits run.own)) run.opens) run.answered

  -- without its newest line it is a run too
  pub run-before : (line : Line) (older : List Line) → IsRun step start (line ∷ older) → IsRun step start older
  run-before line older run = record { limits = run.limits; own = run.own; opens = run.opens; answered = run.answered.2 }

-- the history of the site after these lines
abbrev pub dag_after : Site → List Line → List Record
dag_after start lines = (site_after step start lines).dag

pub dag-is-told : (start : Site) (lines : List Line) → IsRun step start lines → dag_after start lines ≡ history start lines
dag-is-told start lines run = (run-holds start lines run).dag

pub history-is-told : HistoryIsTold step
history-is-told start lines run =
    let whole = (run-holds start lines run).shared in
    (ap (λ (s : Site). s.dag) whole, ap (λ (s : Site). s.floors) whole, ap (λ (s : Site). s.waiting) whole)
