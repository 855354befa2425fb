-- Events in bytes are runs.
use Rattle.std.proofs.Common.{◌≡◌, ℕ, List, [], ◌∷◌, ◌++◌, Option, Some, None, IsTrue, IsFalse, ◌⊎◌, inl, inr, refl, sym, ap, subst, ◌∙◌}
use Rattle.std.specs.List.{list_all}
use Rattle.std.proofs.lemmas.Bool.{and_parts, and_from, cond-false, false_from_ne_true}
use Rattle.tardis_base.specs.declared.requests.Request.{Request}
use Rattle.tardis_base.specs.declared.replies.Refusal.TheVariants.{Malformed}
use Rattle.tardis_base.specs.declared.replies.Reply.TheVariants.{NoMemory}
use Rattle.tardis_base.specs.Plain.{Event, Answers, no_memory}
use Rattle.tardis_base.specs.Valid.{is_u16}
use Rattle.wire_talk.specs.Laws.{RequestsHaveOneSpelling}
use Rattle.wire_talk.specs.Spellings.{reply_spelling}
use Rattle.wire_talk.specs.RequestReadings.{request_of}
use Rattle.wire_talk.specs.Valid.{is_request}
use Rattle.plain_site.specs.Site.{Site, opening}
use Rattle.plain_site.specs.Answers.{Answer, refused, given}
use Rattle.plain_site.specs.Step.{step, step_over_bytes, site_machine}
use Rattle.plain_site.specs.RowWords.{Line, ◌asks◌=>◌}
use Rattle.plain_site.specs.ClientRuns.{wants_memory, site_after, AreAnswered}
use Rattle.plain_site.specs.EventRuns.{IsLineOf, AreLinesOf, EventsAreRuns}
use Rattle.plain_site.proofs.RepliesMemory.{never-wants-memory}
use Rattle.client_laws.proofs.Held.{wanting-is}

-- ===== One event

-- it asks nothing, and leaves the site; or it is a request
abbrev AsksOf : Site → ℕ → List ℕ → Answer → Type 0
AsksOf site n bytes answer =
    (request_of bytes ≡ None) × (answer.0 ≡ site) ⊎ ((q : Request) × (request_of bytes ≡ Some q) × (answer ≡ step site n q))

asks-of : (site : Site) (n : ℕ) (bytes : List ℕ) → AsksOf site n bytes (step_over_bytes site (n, bytes))
asks-of site n bytes = go (request_of bytes) refl
  where
    go : (o : Option Request) → request_of bytes ≡ o →
        (request_of bytes ≡ None) × ((given o (refused site Malformed) (step site n)).0 ≡ site)
        ⊎ ((q : Request) × (request_of bytes ≡ Some q) × (given o (refused site Malformed) (step site n) ≡ step site n q))
    go None e = inl (e, refl)
    go (Some q) e = inr (q, e, refl)

-- whether it asks something, without the site
asks-at-all : (bytes : List ℕ) → (request_of bytes ≡ None) ⊎ ((q : Request) × (request_of bytes ≡ Some q))
asks-at-all bytes = go (request_of bytes) refl
  where
    go : (o : Option Request) → request_of bytes ≡ o → (request_of bytes ≡ None) ⊎ ((q : Request) × (request_of bytes ≡ Some q))
    go None e = inl e
    go (Some q) e = inr (q, e)

module _ (service : Site → ℕ → Request → Answer) (start : Site) (first : List Line) where
  site-appended : (later : List Line) → site_after service start (later ++ first) ≡ site_after service (site_after service start first) later
  site-appended [] = refl
  site-appended (line ∷ later) = ap (λ site. site_after service site (line ∷ [])) (site-appended later)

-- ===== Lines of several events

module _ (read : RequestsHaveOneSpelling) where
  -- lines that were answered after these ones were answered
  answered-appended : (start : Site) (first later : List Line) → AreAnswered step start first → AreAnswered step (site_after step start first) later →
      AreAnswered step start (later ++ first)
  answered-appended start first [] h k = h
  answered-appended start first (line ∷ later) h k = (
    k.0,
    subst (λ site. (line.reply ≡ (step site line.actor line.request).1) ⊎ IsTrue (wants_memory line.reply)) (sym (site-appended step start first later)) k.1,
    answered-appended start first later h k.2,
  )

  -- the lines of an event, with the site behind them
  pub record LinesFrom (site next : Site) (event : Event) (bytes : List ℕ) : Type 0 where
    pub lines : List Line
    pub answered : AreAnswered step site lines
    pub leads : site_after step site lines ≡ next
    pub are : IsLineOf event bytes lines

  reply-wants-none : (site : Site) (n : ℕ) (q : Request) → IsFalse (wants_memory (step site n q).1)
  reply-wants-none site n q = false_from_ne_true (wants_memory (step site n q).1)
      (λ wants. never-wants-memory.reply site n q (wanting-is (step site n q).1 wants))

  stepped : (site : Site) (n : ℕ) (bytes reply : List ℕ) → IsTrue (is_u16 n) → reply ≡ site_machine.reply site (n, bytes) →
      LinesFrom site (site_machine.step site (n, bytes)) (n, bytes) reply
  stepped site n bytes reply small e = go (asks-of site n bytes)
    where
      go : AsksOf site n bytes (step_over_bytes site (n, bytes)) → LinesFrom site (step_over_bytes site (n, bytes)).0 (n, bytes) reply
      go (inl (none, same)) = record { lines = []; answered = tt; leads = sym same; are = inl (none, refl) }
      go (inr (q, is, same)) =
          let answer = step site n q in
          record {
            lines = n asks q => answer.1 ∷ [];
            answered = (and_from (is_u16 n) (is_request q) small ((read.some bytes q).0 is).0, inl refl, tt);
            leads = cond-false (wants_memory answer.1) site answer.0 (reply-wants-none site n q) ∙ ap (λ (a : Answer). a.0) (sym same);
            are = inr (q, answer.1, is, e ∙ ap (λ (a : Answer). reply_spelling a.1) same, refl);
          }

  wanted : (site : Site) (n : ℕ) (bytes reply : List ℕ) → IsTrue (is_u16 n) → reply ≡ no_memory → LinesFrom site site (n, bytes) reply
  wanted site n bytes reply small e = go (asks-at-all bytes)
    where
      go : (request_of bytes ≡ None) ⊎ ((q : Request) × (request_of bytes ≡ Some q)) → LinesFrom site site (n, bytes) reply
      go (inl none) = record { lines = []; answered = tt; leads = refl; are = inl (none, refl) }
      go (inr (q, is)) = record {
        lines = n asks q => NoMemory ∷ [];
        answered = (and_from (is_u16 n) (is_request q) small ((read.some bytes q).0 is).0, inr refl, tt);
        leads = refl;
        are = inr (q, NoMemory, is, e, refl);
      }

  -- the lines of all of them
  pub record RunFrom (site last : Site) (events : List Event) (replies : List (List ℕ)) : Type 0 where
    pub lines : List Line
    pub answered : AreAnswered step site lines
    pub leads : site_after step site lines ≡ last
    pub are : AreLinesOf events replies lines

  joined : (site next last : Site) (event : Event) (events : List Event) (bytes : List ℕ) (replies : List (List ℕ)) → LinesFrom site next event bytes →
      RunFrom next last events replies →
      RunFrom site last (event ∷ events) (bytes ∷ replies)
  joined site next last event events bytes replies one more = record {
    lines = more.lines ++ one.lines;
    answered = answered-appended site one.lines more.lines one.answered (subst (λ s. AreAnswered step s more.lines) (sym one.leads) more.answered);
    leads = site-appended step site one.lines more.lines ∙ (ap (λ s. site_after step s more.lines) one.leads ∙ more.leads);
    are = (more.lines, one.lines, refl, one.are, more.are);
  }

  run-from : (site last : Site) (events : List Event) (replies : List (List ℕ)) → IsTrue (list_all (λ (event : Event). is_u16 event.0) events) →
      Answers site_machine site events replies last → RunFrom site last events replies
  run-from site last [] [] small h = record { lines = []; answered = tt; leads = sym h; are = refl }
  run-from site last [] (bytes ∷ replies) small h = absurd (h)
  run-from site last (event ∷ events) [] small h = absurd (h)
  run-from site last (event ∷ events) (bytes ∷ replies) small (inl (e, rest)) =
      let parts = and_parts (is_u16 event.0) (list_all (λ (d : Event). is_u16 d.0) events) small in
      let next = site_machine.step site event in
      joined site next last event events bytes replies (stepped site event.0 event.1 bytes parts.0 e) (run-from next last events replies parts.1 rest)
  run-from site last (event ∷ events) (bytes ∷ replies) small (inr (e, sure, rest)) =
      let parts = and_parts (is_u16 event.0) (list_all (λ (d : Event). is_u16 d.0) events) small in
      joined site site last event events bytes replies (wanted site event.0 event.1 bytes parts.0 e) (run-from site last events replies parts.1 rest)

pub events-are-runs : RequestsHaveOneSpelling → EventsAreRuns
events-are-runs read limits own events replies last valid of_a_site small h =
    let run = run-from read (opening limits own) last events replies small h in
    (run.lines, record { limits = valid; own = of_a_site; opens = refl; answered = run.answered }, run.leads, run.are)
