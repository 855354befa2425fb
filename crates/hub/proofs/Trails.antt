-- The turns of a run are one trail.
use Rattle.std.proofs.Common.{◌≡◌, ℕ, ◌+◌, false, List, [], ◌∷◌, ◌++◌, Option, Some, None, ◌⊎◌, ◌∙◌, refl, sym, ap, subst, inl, inr}
use Rattle.tardis_base.specs.Plain.{Event, PlainMachine, Answers, no_memory}
use Rattle.hub.specs.Settlings.{PlainSettling, in_memory}
use Rattle.hub.specs.Answering.{asks}
use Rattle.hub.specs.Talks.{Talk}
use Rattle.hub.specs.Turns.{Turn, Rested, Opened, Missed, TurnedAway, Received, Sent, Ended, KeptUp, Settled, PeerDid, talk}
use Rattle.hub.specs.Runs.{close, Ran, Leads, AnswersTo}
use Rattle.hub.specs.Laws.{IsSeenAs, trail, requests_of}
use Rattle.hub.proofs.Serving.{answers_append}

-- what answers events answers them as the machine that it is seen as
pub answers_shown : {S P : Type 0} (n : PlainMachine S) (m : PlainMachine P) (shows : S → P) → ((s : S) (e : Event) → shows (n.step s e) ≡ m.step (shows s) e)
    → ((s : S) (e : Event) → n.reply s e ≡ m.reply (shows s) e) → ((e : Event) → n.is_sure e ≡ m.is_sure e) → (s : S) (es : List Event)
    (ys : List (List ℕ)) (t : S) → Answers n s es ys t → Answers m (shows s) es ys (shows t)
answers_shown n m shows step reply is_sure s [] [] t p = ap shows p
answers_shown n m shows step reply is_sure s (e ∷ es) (y ∷ ys) t p =
    elim p as (λ _. ((y ≡ m.reply (shows s) e) × Answers m (m.step (shows s) e) es ys (shows t))
    ⊎ ((y ≡ no_memory) × (m.is_sure e ≡ false) × Answers m (shows s) es ys (shows t))) [
      | inl a ↦ inl (a.0 ∙ reply s e, subst (λ u. Answers m u es ys (shows t)) (step s e) (answers_shown n m shows step reply is_sure (n.step s e) es ys t a.1))
      | inr b ↦ inr (b.0, sym (is_sure e) ∙ b.1, answers_shown n m shows step reply is_sure s es ys t b.2)
    ]
answers_shown n m shows step reply is_sure s [] (y ∷ ys) t p = absurd p
answers_shown n m shows step reply is_sure s (e ∷ es) [] t p = absurd p

answers_seen : {S P : Type 0} (w : PlainSettling S) (m : PlainMachine P) (shows : S → P) → IsSeenAs w m shows → (s : S) (es : List Event)
    (ys : List (List ℕ)) (t : S) → Answers w.machine s es ys t → Answers m (shows s) es ys (shows t)
answers_seen w m shows seen s es ys t p = answers_shown w.machine m shows seen.step seen.reply seen.is_sure s es ys t p

-- where each door lets all in, a connection is answered by the machine
answers_plainly : {S : Type 0} (w : PlainSettling S) → ((door : ℕ) → w.through door ≡ w.machine) → (o : Option Talk) (u : S) (events : List Event)
    (replies : List (List ℕ)) (t : S) → AnswersTo w o u events replies t → Answers w.machine u events replies t
answers_plainly w lets_all None u events replies t p = absurd p
answers_plainly w lets_all (Some connection) u events replies t p = subst (λ m. Answers m u events replies t) (lets_all connection.door) p

-- the replies of one turn
turn_answers : {S P : Type 0} (w : PlainSettling S) (m : PlainMachine P) (shows : S → P) → IsSeenAs w m shows → ((door : ℕ) → w.through door ≡ w.machine) →
    (older : List Turn) (u : S) (turn : Turn) (t : S) → Leads w older u turn t → (replies : List (List ℕ)) × Answers m (shows u) (requests_of turn) replies (shows t)
turn_answers w m shows seen lets_all older u (Rested offer) t p = ([], ap shows p)
turn_answers w m shows seen lets_all older u (Opened slot door) t p = ([], ap shows p)
turn_answers w m shows seen lets_all older u (Missed slot) t p = ([], ap shows p)
turn_answers w m shows seen lets_all older u TurnedAway t p = ([], ap shows p)
turn_answers w m shows seen lets_all older u (Received slot room came bodies replies) t p = (
  replies,
  answers_seen w m shows seen u (asks (slot + 1) bodies) replies t
      (answers_plainly w lets_all (talk slot older) u (asks (slot + 1) bodies) replies t p),
)
turn_answers w m shows seen lets_all older u (Sent slot offered wrote bodies replies) t p = (
  replies,
  answers_seen w m shows seen u (asks (slot + 1) bodies) replies t
      (answers_plainly w lets_all (talk slot older) u (asks (slot + 1) bodies) replies t p.1),
)
turn_answers w m shows seen lets_all older u (Ended slot) t p = (m.reply (shows u) (slot + 1, close) ∷ [], inl (refl, ap shows p ∙ seen.step u (slot + 1, close)))
turn_answers w m shows seen lets_all older u (KeptUp bodies replies) t p = (replies, answers_seen w m shows seen u (asks 0 bodies) replies t p)
turn_answers w m shows seen lets_all older u (PeerDid peer offered did) t p =
    (did.replies, answers_seen w m shows seen u (asks 0 did.bodies) did.replies t p.1)
turn_answers w m shows seen lets_all older u Settled t p = ([], ap shows p ∙ seen.settled u)

pub one_trail : {S P : Type 0} (w : PlainSettling S) (m : PlainMachine P) (shows : S → P) → IsSeenAs w m shows →
    ((door : ℕ) → w.through door ≡ w.machine) → (s t : S) (turns : List Turn) →
    Ran w s turns t → (replies : List (List ℕ)) × Answers m (shows s) (trail turns) replies (shows t)
one_trail w m shows seen lets_all s t [] p = ([], ap shows p)
one_trail w m shows seen lets_all s t (turn ∷ older) p =
    let before = one_trail w m shows seen lets_all s p.0 older p.1.0 in
    let last = turn_answers w m shows seen lets_all older p.0 turn t p.1.1 in
    (before.0 ++ last.0, answers_append m (shows s) (trail older) (requests_of turn) before.0 last.0 (shows p.0) (shows t) before.1 last.1)

-- a machine in memory is seen as it is
pub seen_in_memory : {S : Type 0} (m : PlainMachine S) → IsSeenAs (in_memory m) m (λ s. s)
seen_in_memory m = record { step = λ s e. refl; reply = λ s e. refl; is_sure = λ e. refl; settled = λ s. refl }
