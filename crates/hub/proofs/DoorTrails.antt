-- Runs behind doors.
use Rattle.std.proofs.Common.{◌≡◌, ℕ, ◌+◌, Bool, true, false, List, [], ◌∷◌, ◌++◌, map, Option, Some, None, ◌⊎◌, ◌∙◌, refl, sym, ap, subst, inl, inr}
use Rattle.std.specs.Prelude.{◌||◌, if◌then◌else◌}
use Rattle.std.proofs.lemmas.Bool.{or_parts}
use Rattle.tardis_base.specs.Plain.{Event, PlainMachine, Answers, no_memory}
use Rattle.hub.specs.Settlings.{PlainSettling, behind_doors}
use Rattle.hub.specs.Answering.{asks}
use Rattle.hub.specs.Talks.{Talk}
use Rattle.hub.specs.Turns.{Turn, Rested, Opened, Missed, TurnedAway, Received, Sent, Ended, KeptUp, Settled, PeerDid, talk}
use Rattle.hub.specs.Runs.{close, Ran, Leads, AnswersTo}
use Rattle.hub.specs.Doors.{DoorRules, seen_through}
use Rattle.hub.specs.DoorLaws.{Entry, Placed, with_replies, door_of, entries_of, entries, lets_in_by, is_let_in, let_in, IsReply, IsTrail, IsAnsweredAt}
use Rattle.hub.specs.DoorLaws.{HasPlace, IsTrailBehindDoors, IsSeenBehind}
use Rattle.hub.proofs.Serving.{answers_append}
use Rattle.hub.proofs.Trails.{answers_shown}

-- one request is let in, or it is answered at its door; and several, one after another
abbrev StepsBy : {S : Type 0} → PlainMachine S → DoorRules S → Bool → S → Entry → S → Type 0
StepsBy m rules true s e u = (reply : List ℕ) × (IsReply e.reply reply × Answers m s (e.event ∷ []) (reply ∷ []) u)
StepsBy m rules false s e u = (u ≡ s) × IsAnsweredAt rules s e.door e.event e.reply

abbrev Goes : {S : Type 0} → PlainMachine S → DoorRules S → S → List Entry → S → Type 0
Goes m rules s [] t = t ≡ s
Goes m rules s (e ∷ es) t = (u : _) × (StepsBy m rules (lets_in_by rules e.door s e.event) s e u × Goes m rules u es t)

-- several, each with the state before it
abbrev Passes : {S : Type 0} → PlainMachine S → DoorRules S → S → List (Placed S) → S → Type 0
Passes m rules s [] t = t ≡ s
Passes m rules s (p ∷ ps) t = (p.state ≡ s) × ((u : _) × (StepsBy m rules (is_let_in rules p) p.state p.entry u × Passes m rules u ps t))

goes_append : {S : Type 0} (m : PlainMachine S) (rules : DoorRules S) (s : S) (xs ys : List Entry) (u t : S) → Goes m rules s xs u → Goes m rules u ys t →
    Goes m rules s (xs ++ ys) t
goes_append m rules s [] ys u t p q = subst (λ z. Goes m rules z ys t) p q
goes_append m rules s (x ∷ xs) ys u t p q = (p.0, (p.1.0, goes_append m rules p.0 xs ys u t p.1.1 q))

placed_by : {S : Type 0} (m : PlainMachine S) (rules : DoorRules S) (s : S) (es : List Entry) (t : S) → Goes m rules s es t →
    (ps : List (Placed S)) × ((map (λ p. p.entry) ps ≡ es) × Passes m rules s ps t)
placed_by m rules s [] t p = ([], (refl, p))
placed_by m rules s (e ∷ es) t p =
    let r = placed_by m rules p.0 es t p.1.1 in
    (record { state = s; entry = e } ∷ r.0, (ap (λ z. e ∷ z) r.1.0, (refl, (p.0, (p.1.0, r.1.1)))))

passes_split : {S : Type 0} (m : PlainMachine S) (rules : DoorRules S) (s : S) (xs ys : List (Placed S)) (t : S) → Passes m rules s (xs ++ ys) t →
    (u : S) × (Passes m rules s xs u × Passes m rules u ys t)
passes_split m rules s [] ys t p = (s, (refl, p))
passes_split m rules s (x ∷ xs) ys t p =
    let r = passes_split m rules p.1.0 xs ys t p.1.1.1 in
    (r.0, ((p.0, (p.1.0, (p.1.1.0, r.1.0))), r.1.1))

-- those that were let in are one trail
trail_more : {S : Type 0} (m : PlainMachine S) (s u t : S) (e : Entry) (es : List Entry) (reply : List ℕ) → IsReply e.reply reply →
    Answers m s (e.event ∷ []) (reply ∷ []) u → IsTrail m u es t → IsTrail m s (e ∷ es) t
trail_more m s u t e es reply told answers rest = record {
  replies = reply ∷ rest.replies;
  answers = answers_append m s (e.event ∷ []) (map (λ x. x.event) es) (reply ∷ []) rest.replies u t answers rest.answers;
  given = (told, rest.given);
}

trail_step : {S : Type 0} (m : PlainMachine S) (rules : DoorRules S) (s u t : S) (e : Entry) (es : List Entry) (b : Bool) → StepsBy m rules b s e u →
    IsTrail m u es t → IsTrail m s (if b then e ∷ es else es) t
trail_step m rules s u t e es true p rest = trail_more m s u t e es p.0 p.1.0 p.1.1 rest
trail_step m rules s u t e es false p rest = subst (λ z. IsTrail m z es t) p.0 rest

trail_of : {S : Type 0} (m : PlainMachine S) (rules : DoorRules S) (s : S) (ps : List (Placed S)) (t : S) → Passes m rules s ps t →
    IsTrail m s (let_in rules ps) t
trail_of m rules s [] t p = record { replies = []; answers = p; given = tt }
trail_of m rules s (x ∷ xs) t p =
    subst (λ z. IsTrail m z (let_in rules (x ∷ xs)) t) p.0
    (trail_step m rules x.state p.1.0 t x.entry (let_in rules xs) (is_let_in rules x) p.1.1.0 (trail_of m rules p.1.0 xs t p.1.1.1))

-- and each has its place
place_of : {S : Type 0} (m : PlainMachine S) (rules : DoorRules S) (s : S) (before after : List (Placed S)) (x : Placed S) (t : S) →
    Passes m rules s (before ++ x ∷ after) t → HasPlace m rules s before x after t
place_of m rules s before after x t p =
    let r = passes_split m rules s before (x ∷ after) t p in
    let at = r.1.1.0 in
    record {
      led = subst (λ z. IsTrail m s (let_in rules before) z) (sym at) (trail_of m rules s before r.0 r.1.0);
      leads = subst (λ z. IsTrail m z (let_in rules (x ∷ after)) t) (sym at) (trail_of m rules r.0 (x ∷ after) t r.1.1);
      answered = λ out. (subst (λ b. StepsBy m rules b x.state x.entry r.1.1.1.0) out r.1.1.1.1.0).1;
    }

pub behind_doors_of : {S : Type 0} (m : PlainMachine S) (rules : DoorRules S) (s : S) (es : List Entry) (t : S) → Goes m rules s es t →
    IsTrailBehindDoors m rules s es t
behind_doors_of m rules s es t p =
    let r = placed_by m rules s es t p in
    record {
      placed = r.0;
      all = r.1.0;
      trail = trail_of m rules s r.0 t r.1.1;
      places = λ before after x is. place_of m rules s before after x t (subst (λ z. Passes m rules s z t) is r.1.1);
    }

-- what the machine that is seen through a door answers
through_step : {S : Type 0} (m : PlainMachine S) (rules : DoorRules S) (door : ℕ) (s v : S) (e : Event) (reply : List ℕ) (b : Bool) →
    ((reply ≡ (if b then m.reply s e else rules.answer door s e)) × (v ≡ (if b then m.step s e else s)))
    ⊎ ((reply ≡ no_memory) × ((m.is_sure e || rules.is_sure door e) ≡ false) × (v ≡ s)) →
    StepsBy m rules b s (record { door = Some door; event = e; reply = Some reply }) v
through_step m rules door s v e reply true p = elim p [
  | inl a ↦ (reply, (refl, inl (a.0, a.1)))
  | inr b ↦ (reply, (refl, inr (b.0, (or_parts (m.is_sure e) (rules.is_sure door e) b.1).0, b.2)))
]
through_step m rules door s v e reply false p = elim p [
  | inl a ↦ (a.1, inl a.0)
  | inr b ↦ (b.2, inr (b.0, (or_parts (m.is_sure e) (rules.is_sure door e) b.1).1))
]

goes_through : {S : Type 0} (m : PlainMachine S) (rules : DoorRules S) (door actor : ℕ) (s : S) (bodies replies : List (List ℕ)) (t : S) →
    Answers (seen_through m rules door) s (asks actor bodies) replies t → Goes m rules s (with_replies (Some door) actor bodies replies) t
goes_through m rules door actor s [] [] t p = p
goes_through m rules door actor s (body ∷ bodies) (reply ∷ replies) t p =
    let e : Event = (actor, body) in
    let next = (seen_through m rules door).step s e in
    elim p as (λ _. Goes m rules s (with_replies (Some door) actor (body ∷ bodies) (reply ∷ replies)) t) [
      | inl a ↦ (next, (through_step m rules door s next e reply (rules.lets_in door s e) (inl (a.0, refl)), goes_through m rules door actor next bodies replies t a.1))
      | inr b ↦ (s, (through_step m rules door s s e reply (rules.lets_in door s e) (inr (b.0, b.1, refl)), goes_through m rules door actor s bodies replies t b.2))
    ]
goes_through m rules door actor s [] (reply ∷ replies) t p = absurd p
goes_through m rules door actor s (body ∷ bodies) [] t p = absurd p

-- what the machine answers the hub
goes_within : {S : Type 0} (m : PlainMachine S) (rules : DoorRules S) (actor : ℕ) (s : S) (bodies replies : List (List ℕ)) (t : S) →
    Answers m s (asks actor bodies) replies t → Goes m rules s (with_replies None actor bodies replies) t
goes_within m rules actor s [] [] t p = p
goes_within m rules actor s (body ∷ bodies) (reply ∷ replies) t p =
    let e : Event = (actor, body) in
    elim p as (λ _. Goes m rules s (with_replies None actor (body ∷ bodies) (reply ∷ replies)) t) [
      | inl a ↦ (m.step s e, ((reply, (refl, inl (a.0, refl))), goes_within m rules actor (m.step s e) bodies replies t a.1))
      | inr b ↦ (s, ((reply, (refl, inr (b.0, b.1, refl))), goes_within m rules actor s bodies replies t b.2))
    ]
goes_within m rules actor s [] (reply ∷ replies) t p = absurd p
goes_within m rules actor s (body ∷ bodies) [] t p = absurd p

-- one turn, and all
talk_goes : {S P : Type 0} (w : PlainSettling S) (m : PlainMachine P) (rules : DoorRules P) (shows : S → P) → IsSeenBehind w m rules shows →
    (o : Option Talk) (actor : ℕ) (u : S) (bodies replies : List (List ℕ)) (t : S) → AnswersTo w o u (asks actor bodies) replies t →
    Goes m rules (shows u) (with_replies (door_of o) actor bodies replies) (shows t)
talk_goes w m rules shows seen None actor u bodies replies t p = absurd p
talk_goes w m rules shows seen (Some connection) actor u bodies replies t p =
    let door = connection.door in
    goes_through m rules door actor (shows u) bodies replies (shows t)
    (answers_shown (w.through door) (seen_through m rules door) shows (seen.step door) (seen.reply door) (seen.is_sure door) u (asks actor bodies) replies t p)

turn_goes : {S P : Type 0} (w : PlainSettling S) (m : PlainMachine P) (rules : DoorRules P) (shows : S → P) → IsSeenBehind w m rules shows →
    (older : List Turn) (u : S) (turn : Turn) (t : S) → Leads w older u turn t → Goes m rules (shows u) (entries_of older turn) (shows t)
turn_goes w m rules shows seen older u (Rested offer) t p = ap shows p
turn_goes w m rules shows seen older u (Opened slot door) t p = ap shows p
turn_goes w m rules shows seen older u (Missed slot) t p = ap shows p
turn_goes w m rules shows seen older u TurnedAway t p = ap shows p
turn_goes w m rules shows seen older u (Received slot room came bodies replies) t p =
    talk_goes w m rules shows seen (talk slot older) (slot + 1) u bodies replies t p
turn_goes w m rules shows seen older u (Sent slot offered wrote bodies replies) t p =
    talk_goes w m rules shows seen (talk slot older) (slot + 1) u bodies replies t p.1
turn_goes w m rules shows seen older u (Ended slot) t p =
    let e : Event = (slot + 1, close) in
    (m.step (shows u) e, ((m.reply (shows u) e, (tt, inl (refl, refl))), ap shows p ∙ seen.within.step u e))
turn_goes w m rules shows seen older u (KeptUp bodies replies) t p =
    goes_within m rules 0 (shows u) bodies replies (shows t)
    (answers_shown w.machine m shows seen.within.step seen.within.reply seen.within.is_sure u (asks 0 bodies) replies t p)
turn_goes w m rules shows seen older u (PeerDid peer offered did) t p =
    goes_within m rules 0 (shows u) did.bodies did.replies (shows t)
    (answers_shown w.machine m shows seen.within.step seen.within.reply seen.within.is_sure u (asks 0 did.bodies) did.replies t p.1)
turn_goes w m rules shows seen older u Settled t p = ap shows p ∙ seen.within.settled u

run_goes : {S P : Type 0} (w : PlainSettling S) (m : PlainMachine P) (rules : DoorRules P) (shows : S → P) → IsSeenBehind w m rules shows →
    (s t : S) (turns : List Turn) → Ran w s turns t → Goes m rules (shows s) (entries turns) (shows t)
run_goes w m rules shows seen s t [] p = ap shows p
run_goes w m rules shows seen s t (turn ∷ older) p =
    goes_append m rules (shows s) (entries older) (entries_of older turn) (shows p.0) (shows t) (run_goes w m rules shows seen s p.0 older p.1.0)
    (turn_goes w m rules shows seen older p.0 turn t p.1.1)

pub trail_behind_doors : {S P : Type 0} (w : PlainSettling S) (m : PlainMachine P) (rules : DoorRules P) (shows : S → P) → IsSeenBehind w m rules shows →
    (s t : S) (turns : List Turn) → Ran w s turns t → IsTrailBehindDoors m rules (shows s) (entries turns) (shows t)
trail_behind_doors w m rules shows seen s t turns p = behind_doors_of m rules (shows s) (entries turns) (shows t) (run_goes w m rules shows seen s t turns p)

-- a machine in memory behind doors is seen as it is
pub seen_behind_in_memory : {S : Type 0} (m : PlainMachine S) (rules : DoorRules S) →
    IsSeenBehind (behind_doors m (seen_through m rules) (λ s. Unit {0}) (λ s. s)) m rules (λ s. s)
seen_behind_in_memory m rules = record {
  within = record { step = λ s e. refl; reply = λ s e. refl; is_sure = λ e. refl; settled = λ s. refl };
  step = λ door s e. refl;
  reply = λ door s e. refl;
  is_sure = λ door e. refl;
}
