-- Groups: a body more, and their settling.
use Rattle.std.proofs.Common.{◌≡◌, inl, inr, ℕ, ◌+◌, ◌≤◌, ◌<◌, length, map, Option, List, [], ◌∷◌, ◌++◌, refl, sym, ap, ◌∙◌, subst, arith, append_assoc}
use Rattle.std.proofs.lemmas.List.{append-nil}
use Rattle.std.specs.List.{concat}
use Rattle.tardis_base.specs.Plain.{Event, state_after}
use Rattle.tardis_io.specs.Told.{WhileTold}
use Rattle.tardis_io.proofs.Told.{then, weaker}
use Rattle.tardis_io.specs.declared.statuses.Status.{Status}
use Rattle.tardis_io.specs.declared.statuses.Status.TheVariants.{DiskFault, WriteFault}
use Rattle.frame_cut.specs.Frames.{frame}
use Rattle.frame_cut.specs.Events.{event_of}
use Rattle.disk_store.specs.Disks.{AsHonest, LeavesOnly}
use Rattle.site_journal.specs.declared.journals.Journaled.{Journaled}
use Rattle.site_journal.specs.declared.journals.Staged.{Staged}
use Rattle.site_journal.specs.declared.journals.Staged.TheVariants.{Done, TrailFull, NoMemory}
use Rattle.site_journal.specs.Texts.{entry_of, marked, HasAllOrNone}
use Rattle.site_journal.specs.Opened.{IsOpen, StagedBy, Mends}
use Rattle.site_run.specs.Responses.{Whole, Front}
use Rattle.site_run.specs.Endings.{shape_of}
use Rattle.durable_run.specs.Replies.{MayReply, MayAnswer, HasFront, reply_of}
use Rattle.durable_run.specs.Groups.{Start, Grouping}
use Rattle.durable_run.specs.Ends.{Durable}
use Rattle.durable_run.proofs.Moments.{front_more, front_of, mends_then, mends_weaker, left_now, rest_has}
use Rattle.durable_run.proofs.InTurns.{concat-append, in_turn_then, none_answered, none_staged}
use Rattle.disk_store.specs.declared.disks.Disk.{Ghosts as ADisk}
use Rattle.durable_run.specs.Buffering.{most_gathered}
use Rattle.tardis_base.specs.declared.machines.Machine.{Ghosts as AMachine}

module _ {M K : Type 0} (m : AMachine M) (k : ADisk K) where
  -- what was staged gave a reply, and the journal has these entries staged then
  abbrev Replied : Start m.Plain K → Journaled M K → List (List ℕ) → List (List ℕ) → Event → List ℕ → Type 0
  Replied at new entries staged e reply = (now : List (List ℕ))
      × (MayReply m.plain at.state at.most (entries ++ staged) e reply (entries ++ now) × IsOpen m k new entries now)

  replied : (at : Start m.Plain K) (old new : Journaled M K) (entries staged : List (List ℕ)) (e : Event) (out reply : List ℕ) (became : Staged) →
      m.opening old.machine ≡ at.state → old.max_trail ≡ at.most
      → IsOpen m k old entries staged →
      StagedBy m k became old new entries staged e out → reply ≡ reply_of became out →
      Replied at new entries staged e reply
  replied at old new entries staged e out reply Done state most was by is = (
    staged ++ entry_of e ∷ [],
    (
      inl (record {
        fits = subst (λ n. length (marked (entries ++ staged)) + (length e.1 + 7) ≤ n) most by.2;
        replied = is ∙ (by.1 ∙ ap (λ s. m.plain.reply (state_after m.plain s (map event_of (entries ++ staged))) e) state);
        entry = sym (append_assoc entries staged (entry_of e ∷ []));
      }),
      by.0,
    ),
  )
  replied at old new entries staged e out reply (TrailFull bytes) state most was by is = (
    staged,
    (
      inr (inl (record {
        full = subst (λ n. n < length (marked (entries ++ staged)) + (length e.1 + 7)) most (subst (λ b. old.max_trail < b + (length e.1 + 7)) by.2 by.3);
        replied = is ∙ ap (λ b. reply_of (TrailFull b) []) by.2;
        same = refl;
      })),
      subst (λ j. IsOpen m k j entries staged) (sym by.0) was,
    ),
  )
  replied at old new entries staged e out reply NoMemory state most was by is = (
    staged,
    (
      inr (inr (record {
        fits = subst (λ n. length (marked (entries ++ staged)) + (length e.1 + 7) ≤ n) most by.3;
        unsure = by.2;
        replied = is;
        same = refl;
      })),
      by.0,
    ),
  )

  -- a body more was answered
  pub one_more : (at : Start m.Plain K) (old new : Journaled M K) (given : Option (List ℕ)) (before after out reply body : List ℕ) (bodies : List (List ℕ))
      (e : Event) (became : Staged)
      → e ≡ event_of body → ((entries staged : List (List ℕ)) → IsOpen m k old entries staged →
      StagedBy m k became old new entries staged e out)
      → reply ≡ reply_of became out → after ≡ before ++ frame reply → m.opening new.machine ≡ m.opening old.machine → new.max_trail ≡ old.max_trail →
      new.disk ≡ old.disk
      → Grouping m k at old given before bodies
      → Grouping m k at new given after (bodies ++ body ∷ [])
  one_more at old new given before after out reply body bodies e became event by is put opened limit disk g =
      let r = replied at old new g.entries g.staged e out reply became g.state g.most g.is_open (by g.entries g.staged g.is_open) is in
      let may : MayAnswer m.plain at.state at.most (g.entries ++ g.staged) body (frame reply) (g.entries ++ r.0) =
      (reply, (refl, subst (λ x. MayReply m.plain at.state at.most (g.entries ++ g.staged) x reply (g.entries ++ r.0)) event r.1.0)) in
      record {
        written = g.written;
        grouped = g.grouped ++ body ∷ [];
        parts = ap (λ z. z ++ body ∷ []) g.parts ∙ append_assoc g.written g.grouped (body ∷ []);
        answers = g.answers;
        others = g.others ++ frame reply ∷ [];
        entries = g.entries;
        staged = r.0;
        each = g.each;
        told = g.told;
        waiting = in_turn_then (MayAnswer m.plain at.state at.most) g.entries g.grouped g.others (g.entries ++ g.staged) (body ∷ []) (frame reply ∷ [])
            (g.entries ++ r.0) g.waiting (g.entries ++ r.0, (may, refl));
        holds = put ∙ (ap (λ z. z ++ frame reply) g.holds ∙ (ap (λ z. concat g.others ++ z) (sym (append-nil (frame reply)))
            ∙ sym (concat-append g.others (frame reply ∷ []))));
        is_open = r.1.1;
        state = opened ∙ g.state;
        most = limit ∙ g.most;
        new = g.new;
        grew = g.grew;
        as_honest = subst (λ d. AsHonest k.honest at.disk d) (sym disk) g.as_honest;
        any_moment = λ h. subst (λ d. Mends k at.disk d (HasFront at.entries g.entries)) (sym disk) (g.any_moment h);
      }

  -- what is written behind what was written
  told_more : (a b c : Option (List ℕ)) (answers others : List (List ℕ)) (gathered : List ℕ) (shape : List ℕ → List ℕ → List ℕ → Type 0) →
      WhileTold a b (λ y z. z ≡ y ++ concat answers) → gathered ≡ concat others
      → (after : List ℕ → List ℕ → Type 0) → WhileTold b c after →
      ((x y z : List ℕ) → y ≡ x ++ concat answers → after y z → shape x z (concat answers ++ concat others)) →
      WhileTold a c (λ y z. shape y z (concat (answers ++ others)))
  told_more a b c answers others gathered shape p holds after w f =
      then a b c (λ y z. z ≡ y ++ concat answers) after (λ y z. shape y z (concat (answers ++ others))) p w
      (λ x y z m n. subst (shape x z) (sym (concat-append answers others)) (f x y z m n))

  mended : (at : Start m.Plain K) (old : Journaled M K) (now : K) (given : Option (List ℕ)) (gathered : List ℕ) (bodies : List (List ℕ))
      (g : Grouping m k at old given gathered bodies)
      → (k.honest old.disk → (entries staged : List (List ℕ)) → IsOpen m k old entries staged →
      LeavesOnly k.moment k.left_since old.disk now (HasAllOrNone entries staged))
      → k.honest at.disk → Mends k at.disk now (HasFront at.entries (g.entries ++ g.staged))
  mended at old now given gathered bodies g leaves h =
      mends_then k at.disk old.disk now (HasFront at.entries g.entries) (HasAllOrNone g.entries g.staged)
      (HasFront at.entries (g.entries ++ g.staged))
      (g.any_moment h) (leaves (g.as_honest.0 h) g.entries g.staged g.is_open)
      (λ image. front_more at.entries g.entries g.staged image) (λ image. front_of at.entries g.new g.entries g.staged image g.grew)

  pub both_honest : (a b c : K) → AsHonest k.honest a b → AsHonest k.honest b c → AsHonest k.honest a c
  both_honest a b c p q = ((λ h. q.0 (p.0 h)), (λ h. p.1 (q.1 h)))

  -- the group's entries came to the disk, and its answers were written
  pub settled : (at : Start m.Plain K) (old new : Journaled M K) (given now : Option (List ℕ)) (gathered after : List ℕ) (bodies : List (List ℕ))
      → ((entries staged : List (List ℕ)) → IsOpen m k old entries staged →
      IsOpen m k new (entries ++ staged) [])
      → (k.honest old.disk → (entries staged : List (List ℕ)) → IsOpen m k old entries staged →
      LeavesOnly k.moment k.left_since old.disk new.disk (HasAllOrNone entries staged))
      → AsHonest k.honest old.disk new.disk → m.opening new.machine ≡ m.opening old.machine → new.max_trail ≡ old.max_trail
      → WhileTold given now (λ y z. z ≡ y ++ gathered) → after ≡ []
      → Grouping m k at old given gathered bodies
      → Grouping m k at new now after bodies
  settled at old new given now gathered after bodies committed leaves as_honest opened limit gave none g = record {
    written = g.written ++ g.grouped;
    grouped = [];
    parts = g.parts ∙ sym (append-nil (g.written ++ g.grouped));
    answers = g.answers ++ g.others;
    others = [];
    entries = g.entries ++ g.staged;
    staged = [];
    each = in_turn_then (MayAnswer m.plain at.state at.most) at.entries g.written g.answers g.entries g.grouped g.others (g.entries ++ g.staged) g.each g.waiting;
    told = told_more at.given given now g.answers g.others gathered Whole g.told g.holds (λ y z. z ≡ y ++ gathered) gave
        (λ x y z m n. n ∙ (ap (λ w. w ++ gathered) m ∙ (append_assoc x (concat g.answers) gathered ∙ ap (λ w. x ++ (concat g.answers ++ w)) g.holds)));
    waiting = append-nil (g.entries ++ g.staged);
    holds = none;
    is_open = committed g.entries g.staged g.is_open;
    state = opened ∙ g.state;
    most = limit ∙ g.most;
    new = g.new ++ g.staged;
    grew = ap (λ z. z ++ g.staged) g.grew ∙ append_assoc at.entries g.new g.staged;
    as_honest = both_honest at.disk old.disk new.disk g.as_honest as_honest;
    any_moment = mended at old new.disk given gathered bodies g leaves;
  }

  -- the group's entries came to the disk, and of its answers a front was written
  pub unwritten : (at : Start m.Plain K) (old new : Journaled M K) (disk : K) (given now : Option (List ℕ)) (gathered : List ℕ) (bodies : List (List ℕ))
      → ((entries staged : List (List ℕ)) → IsOpen m k old entries staged →
      IsOpen m k new (entries ++ staged) [])
      → (k.honest old.disk → (entries staged : List (List ℕ)) → IsOpen m k old entries staged →
      LeavesOnly k.moment k.left_since old.disk new.disk (HasAllOrNone entries staged))
      → AsHonest k.honest old.disk new.disk → disk ≡ new.disk
      → WhileTold given now (λ y z. (lost : List ℕ) × ((z ++ lost ≡ y ++ gathered) × (length lost ≤ length gathered))) → length gathered ≤ most_gathered
      → Grouping m k at old given gathered bodies
      → Durable m.plain k WriteFault at disk now bodies
  unwritten at old new disk given now gathered bodies committed leaves as_honest same gave few g =
      let rested = committed g.entries g.staged g.is_open in
      record {
        written = g.written ++ g.grouped;
        grouped = [];
        parts = g.parts ∙ sym (append-nil (g.written ++ g.grouped));
        answers = g.answers ++ g.others;
        others = [];
        entries = g.entries ++ g.staged;
        staged = [];
        each = in_turn_then (MayAnswer m.plain at.state at.most) at.entries g.written g.answers g.entries g.grouped g.others (g.entries ++ g.staged) g.each
            g.waiting;
        told = told_more at.given given now g.answers g.others gathered (Front most_gathered) g.told g.holds
            (λ y z. (lost : List ℕ) × ((z ++ lost ≡ y ++ gathered) × (length lost ≤ length gathered))) gave
            (λ x y z m n. (
              n.0,
              (
                n.1.0 ∙ (ap (λ w. w ++ gathered) m ∙ (append_assoc x (concat g.answers) gathered ∙ ap (λ w. x ++ (concat g.answers ++ w)) g.holds)),
                omega (arith, n.1.1, few),
              ),
            ));
        waiting = append-nil (g.entries ++ g.staged);
        whole = λ ok. (refl, refl);
        images = λ h image leaves_it. inl (rest_has k new.disk (g.entries ++ g.staged) rested.each
            (rested.rest (as_honest.0 (g.as_honest.0 h))) image (subst (λ d. k.may_leave d image) same leaves_it));
        any_moment = λ h. subst (λ d. Mends k at.disk d (HasFront at.entries ((g.entries ++ g.staged) ++ []))) (sym same)
            (subst (λ z. Mends k at.disk new.disk (HasFront at.entries z)) (sym (append-nil (g.entries ++ g.staged)))
            (mended at old new.disk given gathered bodies g leaves h));
      }

  -- the group's entries went to the disk when it failed
  pub broken : (at : Start m.Plain K) (old : Journaled M K) (disk : K) (given : Option (List ℕ)) (gathered : List ℕ) (bodies : List (List ℕ))
      → ((t : ℕ) (image : List ℕ) → t ≤ k.moment disk → k.may_leave disk image → k.left_since disk t image)
      → (k.honest old.disk → (entries staged : List (List ℕ)) → IsOpen m k old entries staged →
      LeavesOnly k.moment k.left_since old.disk disk (HasAllOrNone entries staged))
      → Grouping m k at old given gathered bodies
      → Durable m.plain k DiskFault at disk given bodies
  broken at old disk given gathered bodies counts leaves g = record {
    written = g.written;
    grouped = g.grouped;
    parts = g.parts;
    answers = g.answers;
    others = g.others;
    entries = g.entries;
    staged = g.staged;
    each = g.each;
    told = g.told;
    waiting = g.waiting;
    whole = λ ok. absurd (ok refl);
    images = λ h image leaves_it. left_now k old.disk disk (HasAllOrNone g.entries g.staged) counts
        (leaves (g.as_honest.0 h) g.entries g.staged g.is_open) image leaves_it;
    any_moment = mended at old disk given gathered bodies g leaves;
  }

  -- a run ended between two groups
  pub rested : (status : Status) (at : Start m.Plain K) (old : Journaled M K) (disk : K) (given : Option (List ℕ)) (bodies : List (List ℕ)) →
      ((y z u : List ℕ) → z ≡ y ++ u → shape_of status y z u) → disk ≡ old.disk
      → Grouping m k at old given [] bodies
      → Durable m.plain k status at disk given bodies
  rested status at old disk given bodies shape same g =
      let no_group : g.grouped ≡ [] = none_answered m.plain at.state at.most g.entries g.grouped g.others (g.entries ++ g.staged) g.waiting (sym g.holds) in
      let no_entry : g.staged ≡ [] = none_staged m.plain at.state at.most g.entries g.staged g.grouped g.others g.waiting no_group in
      record {
        written = g.written;
        grouped = g.grouped;
        parts = g.parts;
        answers = g.answers;
        others = g.others;
        entries = g.entries;
        staged = g.staged;
        each = g.each;
        told = weaker at.given given (λ y z. z ≡ y ++ concat g.answers) (λ y z. shape_of status y z (concat g.answers)) g.told
            (λ y z m. shape y z (concat g.answers) m);
        waiting = g.waiting;
        whole = λ ok. (no_group, no_entry);
        images = λ h image leaves_it. inl (rest_has k old.disk g.entries g.is_open.each (g.is_open.rest (g.as_honest.0 h))
            image (subst (λ d. k.may_leave d image) same leaves_it));
        any_moment = λ h. subst (λ d. Mends k at.disk d (HasFront at.entries (g.entries ++ g.staged))) (sym same)
            (mends_weaker k at.disk old.disk (HasFront at.entries g.entries) (HasFront at.entries (g.entries ++ g.staged))
            (g.any_moment h) (λ image. front_more at.entries g.entries g.staged image));
      }
