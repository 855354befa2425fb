-- A life that is put to rest is a run, and so are lives behind it.
use Rattle.std.proofs.Common.{◌≡◌, ℕ, ◌<◌, Bool, true, false, not, List, [], ◌∷◌, ◌++◌, find, Option, Some, None, IsTrue, IsFalse}
use Rattle.std.proofs.Common.{inl, inr, refl, sym, ap, subst, ◌∙◌, arith, append_assoc}
use Rattle.std.specs.Prelude.{◌==◌, ◌&&◌, nat_lt, if◌then◌else◌}
use Rattle.std.specs.List.{list_all}
use Rattle.std.specs.Option.{option_map}
use Rattle.std.proofs.lemmas.Bool.{both_ways, and_parts, cond-true, cond-false, cond_both, eq-eqb, ne_eqb, ltb-true, not_from_true, not_from_false}
use Rattle.std.proofs.lemmas.Option.{none-some}
use Rattle.tardis_base.specs.declared.records.Record.{Record}
use Rattle.tardis_base.specs.declared.records.Item.TheVariants.{State, Promise}
use Rattle.tardis_base.specs.declared.requests.Request.{Request}
use Rattle.tardis_base.specs.declared.requests.Request.TheVariants.{Get, Deliver, Settle, Close}
use Rattle.tardis_base.specs.declared.replies.Refusal.TheVariants.{NotOpen}
use Rattle.tardis_base.specs.declared.replies.Reply.{Reply}
use Rattle.tardis_base.specs.declared.replies.Reply.TheVariants.{Applied, Early, Closed, NoMemory}
use Rattle.tardis_base.specs.Valid.{is_u16}
use Rattle.wire_talk.specs.Valid.{is_request}
use Rattle.plain_dag.specs.States.{is_known, record_at}
use Rattle.plain_dag.specs.Entries.{entry_of, without_entry, have_ascending_numbers}
use Rattle.plain_dag.specs.Floors.{Session, Sessions}
use Rattle.plain_site.specs.Site.{Site, Txn}
use Rattle.plain_site.specs.Answers.{Answer, refused, given}
use Rattle.plain_site.specs.Sessions.{close_session}
use Rattle.plain_site.specs.Exchange.{first_fit_record}
use Rattle.plain_site.specs.Step.{step}
use Rattle.plain_site.specs.Sound.{IsSound, is_sound_session}
use Rattle.plain_site.specs.RowWords.{Line, ◌asks◌=>◌}
use Rattle.plain_site.specs.ClientRuns.{Told, wants_memory, after_line, site_after, history, is_asked, IsAnswered, AreAnswered, IsRun, retold, told}
use Rattle.plain_site.specs.ClientLaws.{DoneCommit, as_line, CommitsAreKept, HistoryIsTold}
use Rattle.plain_site.specs.Rest.{at_rest}
use Rattle.plain_site.proofs.SoundDeliveries.{room-keeps}
use Rattle.plain_site.proofs.SoundOpening.{opening-is-sound}
use Rattle.plain_site.proofs.SoundRequests.{request-keeps-sound}
use Rattle.rest_laws.specs.Lives.{as_if_none_waited, none_waited, closings, put_to_rest, LivesAreOneRun, CommitsStayTold, CommitsOutliveTheSite}
use Rattle.rest_laws.proofs.Dry.{dry}
use Rattle.rest_laws.proofs.Living.{site-appended, answered-appended, Leads, then-leads, one-leads, line-dries, wanting-dries}

-- ===== None waited

-- a site that was led to is sound
record Led (start : Site) (lines : List Line) : Type 0 where
  sound : IsSound (site_after step start lines)
  dries : Leads start (none_waited step start lines) (dry (site_after step start lines))

wanting-is : (reply : Reply) → IsTrue (wants_memory reply) → reply ≡ NoMemory
wanting-is NoMemory wants = refl
wanting-is reply wants = absurd (cc)

one-more-led : (start : Site) (line : Line) (older : List Line) → IsTrue (is_asked line) → IsAnswered step (site_after step start older) line → Led start older →
    Led start (line ∷ older)
one-more-led start line older asked answered led =
    let site = site_after step start older in
    let n = line.actor in
    let q = line.request in
    let parts = and_parts (is_u16 n) (is_request q) asked in
    let next = (step site n q).0 in
    record {
      sound = cond_both (wants_memory line.reply) site next IsSound (λ t. led.sound) (λ f. request-keeps-sound q site n parts.0 parts.1 led.sound);
      dries =
          then-leads start (dry site) (dry (after_line step site line)) (none_waited step start older) (as_if_none_waited site n q line.reply) led.dries
          (cond_both (wants_memory line.reply) site next (λ (s : Site). Leads (dry site) (as_if_none_waited site n q line.reply) (dry s))
          (λ wants.
          subst (λ (reply : Reply). Leads (dry site) (as_if_none_waited site n q reply) (dry site)) (sym (wanting-is line.reply wants))
          (wanting-dries site n parts.0 led.sound q parts.1))
          (λ f. done f answered));
    }
  where
    done : IsFalse (wants_memory line.reply) → IsAnswered step (site_after step start older) line →
        Leads (dry (site_after step start older)) (as_if_none_waited (site_after step start older) line.actor line.request line.reply)
        (dry (step (site_after step start older) line.actor line.request).0)
    done f (inl e) =
        let site = site_after step start older in
        let parts = and_parts (is_u16 line.actor) (is_request line.request) asked in
        subst
        (λ (reply : Reply). Leads (dry site) (as_if_none_waited site line.actor line.request reply) (dry (step site line.actor line.request).0)) (sym e)
        (line-dries site line.actor parts.0 led.sound line.request parts.1)
    done f (inr wants) = absurd (both_ways (wants_memory line.reply) f wants)

all-led : (start : Site) → IsSound start → dry start ≡ start → (lines : List Line) → AreAnswered step start lines → Led start lines
all-led start sound empty [] answered = record { sound = sound; dries = record { answered = tt; leads = sym empty } }
all-led start sound empty (line ∷ older) answered = one-more-led start line older answered.0 answered.1 (all-led start sound empty older answered.2)

-- ===== Closings

-- of ascending entries none but the first has its number
without-first : (n : ℕ) (es : Sessions) → (before : (e : ℕ × Session) (rest : Sessions) → es ≡ e ∷ rest → n < e.0) → IsTrue (have_ascending_numbers es) →
    without_entry n es ≡ es
without-first n [] before up = refl
without-first n (e ∷ []) before up =
    let l = before e [] refl in
    cond-true (not (n == e.0)) (e ∷ []) [] (not_from_false (n == e.0) (ne_eqb n e.0 (λ same. omega (arith, l, same))))
without-first n (e ∷ f ∷ es) before up =
    let l = before e (f ∷ es) refl in
    let parts = and_parts (nat_lt e.0 f.0) (have_ascending_numbers (f ∷ es)) up in
    let m = ltb-true e.0 f.0 parts.0 in
    cond-true (not (n == e.0)) (e ∷ without_entry n (f ∷ es)) (without_entry n (f ∷ es))
    (not_from_false (n == e.0) (ne_eqb n e.0 (λ same. omega (arith, l, same))))
    ∙ ap (λ (rest : Sessions). e ∷ rest)
    (without-first n (f ∷ es)
    (λ g rest is. let same : f ≡ g = head-is f g es rest is in subst (λ (h : ℕ × Session). n < h.0) same (omega (arith, l, m))) parts.1)
  where
    head-is : (f g : ℕ × Session) (fs gs : Sessions) → f ∷ fs ≡ g ∷ gs → f ≡ g
    head-is f g fs gs e = cc

closes-first : (s : ℕ × Session) (ss : Sessions) → IsTrue (have_ascending_numbers (s ∷ ss)) → without_entry s.0 (s ∷ ss) ≡ ss
closes-first s [] up = cond-false (not (s.0 == s.0)) (s ∷ []) [] (not_from_true (s.0 == s.0) (eq-eqb s.0 s.0 refl))
closes-first s (t ∷ ss) up =
    let parts = and_parts (nat_lt s.0 t.0) (have_ascending_numbers (t ∷ ss)) up in
    let l = ltb-true s.0 t.0 parts.0 in
    cond-false (not (s.0 == s.0)) (s ∷ without_entry s.0 (t ∷ ss)) (without_entry s.0 (t ∷ ss)) (not_from_true (s.0 == s.0) (eq-eqb s.0 s.0 refl))
    ∙ without-first s.0 (t ∷ ss) (λ g rest is. subst (λ (h : ℕ × Session). s.0 < h.0) (head-is t g ss rest is) l) parts.1
  where
    head-is : (f g : ℕ × Session) (fs gs : Sessions) → f ∷ fs ≡ g ∷ gs → f ≡ g
    head-is f g fs gs e = cc

-- the first session is closed
first-closed : (site : Site) (s : ℕ × Session) (ss : Sessions) → site.sessions ≡ s ∷ ss → step site s.0 Close ≡ close_session site s.0
first-closed site s ss e =
    ap (λ (o : Option Session). given o (refused site NotOpen) (λ t. close_session site s.0))
    (ap (entry_of s.0) e
    ∙ ap (option_map (λ (d : ℕ × Session). d.1)) (cond-true (s.0 == s.0) (Some s) (find (λ (d : ℕ × Session). s.0 == d.0) ss) (eq-eqb s.0 s.0 refl)))

-- what closing each session leads to: no session, and all else but the transactions as it was
record Closes (site : Site) (lines : List Line) : Type 0 where
  next : Site
  leads : Leads site lines next
  sound : IsSound next
  rests : next ≡ record site { sessions = []; txns = next.txns }

closes : (ss : Sessions) (site : Site) → IsSound site → site.sessions ≡ ss → Closes site (closings ss)
closes [] site sound e = record {
  next = site;
  leads = record { answered = tt; leads = refl };
  sound = sound;
  rests = ap (λ (ss : Sessions). record site { sessions = ss }) e;
}
closes (s ∷ ss) site sound e =
    let closed = close_session site s.0 in
    let ascends = subst (λ (ts : Sessions). IsTrue (have_ascending_numbers ts)) e sound.session_numbers in
    let each = subst (λ (ts : Sessions). IsTrue (list_all (is_sound_session site.dag) ts)) e sound.each_session in
    let one = (and_parts (is_sound_session site.dag s) (list_all (is_sound_session site.dag) ss) each).0 in
    let small = (and_parts (is_u16 s.0) (is_known site.dag s.1.ceiling)
    (and_parts (is_u16 s.0 && is_known site.dag s.1.ceiling) (is_known site.dag s.1.last) one).0).0 in
    let is = first-closed site s ss e in
    let first = subst (λ (a : Answer). Leads site (s.0 asks Close => a.1 ∷ []) a.0) is (one-leads site s.0 Close small refl) in
    let after = subst (λ (a : Answer). IsSound a.0) is (request-keeps-sound Close site s.0 small refl sound) in
    let left : closed.0.sessions ≡ ss = ap (without_entry s.0) e ∙ closes-first s ss ascends in
    let more = closes ss closed.0 after left in
    record {
      next = more.next;
      leads = then-leads site closed.0 more.next (s.0 asks Close => Closed ∷ []) (closings ss) first more.leads;
      sound = more.sound;
      rests = more.rests;
    }

no-txns : (ts : List (ℕ × Txn)) → ((n : ℕ) (t : Txn) → entry_of n ts ≡ Some t → ⊥) → ts ≡ []
no-txns [] none = refl
no-txns (e ∷ ts) none =
    absurd (none e.0 e.1
    (ap (option_map (λ (d : ℕ × Txn). d.1)) (cond-true (e.0 == e.0) (Some e) (find (λ (d : ℕ × Txn). e.0 == d.0) ts) (eq-eqb e.0 e.0 refl))))

-- a site in which nothing waits and each session is closed is at rest
closed-rests : (site next : Site) → site.waiting ≡ [] → IsSound next → next ≡ record site { sessions = []; txns = next.txns } → next ≡ at_rest site
closed-rests site next empty sound e =
    let none : next.sessions ≡ [] = ap (λ (s : Site). s.sessions) e in
    let gone : next.txns ≡ [] = no-txns next.txns (λ n t there.
    let session = sound.each_txn n t there in
    none-some session.0 (ap (entry_of n) (sym none) ∙ session.1)) in
    e ∙ (ap (λ (ts : List (ℕ × Txn)). record site { sessions = []; txns = ts }) gone
    ∙ ap (λ (room : List Record). record site { sessions = []; txns = []; waiting = room }) empty)

-- ===== Two lives

rest-is-led-to : (start : Site) (lines : List Line) → IsRun step start lines →
    Leads start (put_to_rest step start lines) (at_rest (site_after step start lines))
rest-is-led-to start lines run =
    let opens = sym run.opens in
    let sound = subst IsSound opens (opening-is-sound start.limits start.own run.limits run.own) in
    let empty : dry start ≡ start = ap (λ (room : List Record). record start { waiting = room })
    (sym (ap (λ (s : Site). s.waiting) run.opens)) in
    let led = all-led start sound empty lines run.answered in
    let site = site_after step start lines in
    let quiet = closes site.sessions (dry site) (dry-is-sound site led.sound) refl in
    let rests = closed-rests (dry site) quiet.next refl quiet.sound quiet.rests in
    subst (λ (s : Site). Leads start (put_to_rest step start lines) s) rests
    (then-leads start (dry site) quiet.next (none_waited step start lines) (closings site.sessions) led.dries quiet.leads)
  where
    dry-is-sound : (site : Site) → IsSound site → IsSound (dry site)
    dry-is-sound site sound =
        room-keeps site [] sound (record { few = omega arith; once = refl; each = refl })

pub lives-are-one-run : LivesAreOneRun step
lives-are-one-run start lines next_life run answered =
    let quiet = rest-is-led-to start lines run in
    let first = put_to_rest step start lines in (
      record {
        limits = run.limits;
        own = run.own;
        opens = run.opens;
        answered = answered-appended step start first quiet.answered next_life (subst (λ (s : Site). AreAnswered step s next_life) (sym quiet.leads) answered);
      },
      site-appended step start first next_life ∙ ap (λ (s : Site). site_after step s next_life) quiet.leads,
    )

-- ===== What is told stays

same-either : (t : Bool) (b : Option Told) → (if t then b else b) ≡ b
same-either true b = refl
same-either false b = refl

-- a line as if nothing waited tells what the line tells
line-tells : (site : Site) (n m : ℕ) (q : Request) (reply : Reply) (others : List Line) (before : Option Told) → told n others ≡ before →
    told n (as_if_none_waited site m q reply ++ others) ≡ (if m == n then retold q reply before else before)
line-tells site n m (Deliver (State r)) (Early have) others before e = e ∙ sym (same-either (m == n) before)
line-tells site n m (Deliver (State r)) reply others before e = ap (λ (b : Option Told). if m == n then b else b) e
line-tells site n m (Deliver (Promise c)) reply others before e = ap (λ (b : Option Told). if m == n then b else b) e
line-tells site n m Settle Applied others before e = go (first_fit_record site)
  where
    go : (o : Option (ℕ × Record)) →
        told n ((elim o as (λ u. List Line) [ None ↦ [] | Some found ↦ m asks Deliver (State found.1) => Applied ∷ [] ]) ++ others)
        ≡ (if m == n then before else before)
    go None = e ∙ sym (same-either (m == n) before)
    go (Some found) = ap (λ (b : Option Told). if m == n then b else b) e
line-tells site n m Settle reply others before e = e ∙ sym (same-either (m == n) before)
line-tells site n m (Get k) reply others before e = ap (λ (b : Option Told). if m == n then retold (Get k) reply b else b) e
line-tells site n m q reply others before e = ap (λ (b : Option Told). if m == n then retold q reply b else b) e

told-as-before : (start : Site) (n : ℕ) (lines : List Line) → told n (none_waited step start lines) ≡ told n lines
told-as-before start n [] = refl
told-as-before start n (line ∷ older) =
    line-tells (site_after step start older) n line.actor line.request line.reply (none_waited step start older) (told n older)
    (told-as-before start n older)

-- a commit stands where it stood
commit-stands : (start : Site) (newer older : List Line) (c : DoneCommit) →
    (later : List Line) × (none_waited step start (newer ++ as_line c ∷ older) ≡ later ++ as_line c ∷ none_waited step start older)
commit-stands start [] older c = ([], refl)
commit-stands start (line ∷ newer) older c =
    let more = commit-stands start newer older c in
    let here = as_if_none_waited (site_after step start (newer ++ as_line c ∷ older)) line.actor line.request line.reply in
    let rest = as_line c ∷ none_waited step start older in
    (here ++ more.0, ap (λ (lines : List Line). here ++ lines) more.1 ∙ sym (append_assoc here more.0 rest))

pub commits-stay-told : CommitsStayTold step
commits-stay-told start newer older c run =
    let stands = commit-stands start newer older c in
    let closed = closings (site_after step start (newer ++ as_line c ∷ older)).sessions in
    let rest = as_line c ∷ none_waited step start older in (
      closed ++ stands.0,
      ap (λ (lines : List Line). closed ++ lines) stands.1 ∙ sym (append_assoc closed stands.0 rest),
      told-as-before start c.actor older,
    )

-- ===== Commits

pub commits-outlive-the-site : CommitsAreKept step → HistoryIsTold step → CommitsOutliveTheSite step
commits-outlive-the-site kept is_told start newer older next_life c run answered =
    let lines = newer ++ as_line c ∷ older in
    let rest = at_rest (site_after step start lines) in
    let two = lives-are-one-run start lines next_life run answered in
    let stays = commits-stay-told start newer older c run in
    let others = none_waited step start older in
    let behind = as_line c ∷ others in
    let all : next_life ++ put_to_rest step start lines ≡ (next_life ++ stays.0) ++ behind =
    ap (λ (ls : List Line). next_life ++ ls) stays.1 ∙ sym (append_assoc next_life stays.0 behind) in
    let one = subst (IsRun step start) all two.0 in
    let its = kept start (next_life ++ stays.0) others c one in
    let leads : (site_after step start ((next_life ++ stays.0) ++ behind)).dag ≡ (site_after step rest next_life).dag =
    ap (λ (ls : List Line). (site_after step start ls).dag) (sym all) ∙ ap (λ (s : Site). s.dag) two.1 in
    let history_is = (is_told start ((next_life ++ stays.0) ++ behind) one).0 in
    let dag : history start ((next_life ++ stays.0) ++ behind) ≡ (site_after step rest next_life).dag = sym history_is ∙ leads in
    let r : Record = record { id = c.state; parents = c.parents; writes = its.0.writes } in
    (its.0, sym stays.2 ∙ its.1, subst (λ (rs : List Record). record_at rs c.state ≡ Some r) dag its.2)
