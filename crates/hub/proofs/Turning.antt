-- A run goes on by one turn.
use Rattle.std.proofs.Common.{◌≡◌, ℕ, ◌+◌, ◌<◌, ◌≤◌, false, List, true, [], ◌∷◌, ◌++◌, length, take, drop, Option, Some, None, IsSome, ◌⊎◌, inl, inr, refl}
use Rattle.std.proofs.Common.{sym, ◌∙◌, ap, subst, arith}
use Rattle.std.proofs.lemmas.List.{append-nil, take-append-drop}
use Rattle.std.proofs.lemmas.Bool.{cases_eq}
use Rattle.hub.specs.Settlings.{PlainSettling}
use Rattle.frame_cut.specs.Frames.{Cuts, IsLong}
use Rattle.tardis_base.specs.Sizes.{piece}
use Rattle.tardis_base.specs.Plain.{Event, Answers}
use Rattle.hub.specs.Upkeeps.{TallyState}
use Rattle.site_peers.specs.declared.peers.Peer.{Peer}
use Rattle.hub.specs.declared.ports.Scope.{Scope}
use Rattle.hub.specs.declared.ports.Ready.{Ready}
use Rattle.hub.specs.declared.ports.Ready.TheVariants.{Accept, Read, Write, Close}
use Rattle.hub.specs.declared.ports.Seen.{Seen}
use Rattle.hub.specs.declared.ports.Seen.TheVariants.{Accepted, Declined, ReadFrom, WroteTo, Closed}
use Rattle.hub.specs.Answering.{asks, Serves}
use Rattle.hub.specs.Connections.{ConnectionState, connection_at, OthersStay, IsStopped}
use Rattle.hub.specs.Telling.{Tells}
use Rattle.hub.specs.Talks.{Talk, no_talk, waits}
use Rattle.hub.specs.Turns.{Turn, Rested, Opened, Missed, TurnedAway, Received, Sent, Ended, Settled, talk, more_of, MayRest, IsShut, HasNothing, HasSome}
use Rattle.hub.specs.Turns.{WaitFew, WaitSoMany}
use Rattle.hub.specs.Runs.{close, Ran, AnswersTo}
use Rattle.hub.specs.Keeping.{Fits, Keeps, Settles, AreBefore, WentOn, IsNoted, IsToldBehind, GoesOn, Waits}
use Rattle.hub.proofs.Tellings.{tells_none}
use Rattle.hub.proofs.Holding.{waits_is, held_is, each_talk, none_of, fresh_connection, connection_more, fits_there}

-- what was answered as the machine that is seen through a connection's door is answered so to its talk
answers_to : {S : Type 0} (w : PlainSettling S) (o : Option Talk) (t : Talk) (l : ConnectionState) (events : List Event) (replies : List (List ℕ)) (u v : S) →
    o ≡ Some t → l.door ≡ t.door → Answers (w.through l.door) u events replies v → AnswersTo w o u events replies v
answers_to w o t l events replies u v is same answers =
    subst (λ z. AnswersTo w z u events replies v) (sym is) (subst (λ door. Answers (w.through door) u events replies v) same answers)

-- bytes came of a connection, and requests were answered
received_at : {S : Type 0} (w : PlainSettling S) (from to : S → Type 0) (old new : List (Option ConnectionState)) (slot room : ℕ) (came : List ℕ)
    (l k : ConnectionState) (tally next : TallyState) (before after : Option (List Seen)) (scope : Scope) (peers : List Peer) (s : S) (turns : List Turn) (o : Option Talk)
    → talk slot turns ≡ o → Fits o (Some l) → connection_at new slot ≡ Some k → OthersStay slot old new → k.door ≡ l.door → length l.waiting ≤ piece
    → room ≡ piece → Serves (w.through l.door) from to (slot + 1) (l.cutter ++ came) k.cutter l.waiting k.waiting tally next → IsStopped k.long k.cutter k.waiting →
    Tells before after (ReadFrom slot room came ∷ []) → length new ≡ length old
    → Keeps w scope from s old peers turns → WentOn w scope to s new peers turns (IsNoted tally next) (IsToldBehind (Read slot) before after)
received_at w from to old new slot room came l k tally next before after scope peers s turns None e f is others same few much serves stopped tells many keeps = absurd f
received_at w from to old new slot room came l k tally next before after scope peers s turns (Some t) e f is others same few much serves stopped tells many keeps =
    let a = serves.answered keeps.state keeps.stands in
    let connection = connection_more t l k came [] l.waiting serves.bodies a.replies f same refl serves.read a.put stopped in
    let here : Fits (more_of (talk slot turns) came [] serves.bodies a.replies) (connection_at new slot) =
    subst (λ z. Fits (more_of (talk slot turns) came [] serves.bodies a.replies) z) (sym is)
    (subst (λ z. Fits (more_of z came [] serves.bodies a.replies) (Some k)) (sym e) connection) in
    let fits = fits_there slot (λ n. more_of (talk n turns) came [] serves.bodies a.replies) (λ n. talk n turns) old new keeps.fits here others in
    let few' : length (waits t) ≤ piece = subst (λ w. length w ≤ piece) (sym (waits_is t l.waiting f.given)) few in
    record {
      earlier = turns;
      behind = inl refl;
      turn = Received slot room came serves.bodies a.replies;
      keeps = record {
        state = a.state;
        ran = (keeps.state, (keeps.ran, answers_to w (talk slot turns) t l (asks (slot + 1) serves.bodies) a.replies keeps.state a.state e f.door a.answers));
        stands = a.stands;
        served = (
          (subst (λ z. WaitFew z) (sym e) few', much),
          (λ n. each_talk (talk n (Received slot room came serves.bodies a.replies ∷ turns)) (connection_at new n) (fits n), keeps.served),
        );
        fits = fits;
        slots = many ∙ keeps.slots;
        many = keeps.many;
        went = keeps.went;
      };
      noted = a.counts;
      told = (ReadFrom slot room came ∷ [], (refl, tells));
    }

pub received : {S : Type 0} (w : PlainSettling S) (from to : S → Type 0) (old new : List (Option ConnectionState)) (slot room : ℕ) (came : List ℕ)
    (l k : ConnectionState) (tally next : TallyState) (before after : Option (List Seen))
    → connection_at old slot ≡ Some l → connection_at new slot ≡ Some k → OthersStay slot old new → k.door ≡ l.door → length l.waiting ≤ piece
    → room ≡ piece → Serves (w.through l.door) from to (slot + 1) (l.cutter ++ came) k.cutter l.waiting k.waiting tally next → IsStopped k.long k.cutter k.waiting →
    Tells before after (ReadFrom slot room came ∷ []) → length new ≡ length old
    → GoesOn w from to old new (Read slot) tally next before after
received w from to old new slot room came l k tally next before after was is others same few much serves stopped tells many scope peers s turns keeps =
    received_at w from to old new slot room came l k tally next before after scope peers s turns (talk slot turns) refl
    (subst (λ o. Fits (talk slot turns) o) was (keeps.fits slot)) is others same few much serves stopped tells many keeps

-- what was owed is settled, or nothing was: the run goes on to where nothing is owed
pub record Settling {S : Type 0} (w : PlainSettling S) (scope : Scope) (to : S → Type 0) (s : S) (connections : List (Option ConnectionState)) (peers : List Peer)
    (turns : List Turn) : Type 0 where
  pub earlier : List Turn
  pub behind : AreBefore turns earlier
  pub keeps : Keeps w scope to s connections peers earlier
  pub is_settled : w.is_settled keeps.state

pub settled_at : {S : Type 0} (w : PlainSettling S) (scope : Scope) (from mid : S → Type 0) (old : List (Option ConnectionState)) (peers : List Peer) (s : S)
    (turns : List Turn) (keeps : Keeps w scope from s old peers turns) → Settles w mid keeps.state → Settling w scope mid s old peers turns
settled_at w scope from mid old peers s turns keeps settles = elim settles.same [
  | inl none ↦ record {
    earlier = turns;
    behind = inl refl;
    keeps = record {
      state = settles.state;
      ran = subst (λ t. Ran w s turns t) (sym none) keeps.ran;
      stands = settles.stands;
      served = keeps.served;
      fits = keeps.fits;
      slots = keeps.slots;
      many = keeps.many;
      went = keeps.went;
    };
    is_settled = settles.is_settled;
  }
  | inr all ↦ record {
    earlier = Settled ∷ turns;
    behind = inr refl;
    keeps = record {
      state = settles.state;
      ran = (keeps.state, (keeps.ran, all));
      stands = settles.stands;
      served = (tt, (λ n. each_talk (talk n turns) (connection_at old n) (keeps.fits n), keeps.served));
      fits = keeps.fits;
      slots = keeps.slots;
      many = keeps.many;
      went = keeps.went;
    };
    is_settled = settles.is_settled;
  }
]

-- a front of what waits was written to a connection, and requests were answered
sent_at : {S : Type 0} (w : PlainSettling S) (mid to : S → Type 0) (old new : List (Option ConnectionState)) (slot offered count : ℕ) (l k : ConnectionState)
    (tally next : TallyState) (before after : Option (List Seen)) (scope : Scope) (peers : List Peer) (s : S) (before_it : List Turn) (o : Option Talk)
    (settling : Settling w scope mid s old peers before_it)
    → talk slot settling.earlier ≡ o → Fits o (Some l) → connection_at new slot ≡ Some k → OthersStay slot old new → k.door ≡ l.door
    → offered ≡ length l.waiting → Serves (w.through l.door) mid to (slot + 1) l.cutter k.cutter (drop count l.waiting) k.waiting tally next →
    (IsStopped l.long l.cutter l.waiting → IsStopped k.long k.cutter k.waiting) → Tells before after (WroteTo slot offered (take count l.waiting) ∷ []) → length new ≡ length old
    → WentOn w scope to s new peers before_it (IsNoted tally next) (IsToldBehind (Write slot) before after)
sent_at w mid to old new slot offered count l k tally next before after scope peers s before_it None settling e f is others same all serves stopped tells many = absurd f
sent_at w mid to old new slot offered count l k tally next before after scope peers s before_it (Some t) settling e f is others same all serves stopped tells many =
    let wrote : List ℕ = take count l.waiting in
    let turns = settling.earlier in
    let keeps = settling.keeps in
    let a = serves.answered keeps.state keeps.stands in
    let cut : Cuts (l.cutter ++ []) serves.bodies k.cutter = subst (λ z. Cuts z serves.bodies k.cutter) (sym (append-nil l.cutter)) serves.read in
    let connection = connection_more t l k [] wrote (drop count l.waiting) serves.bodies a.replies f same (sym (take-append-drop count l.waiting)) cut a.put
    (stopped f.stopped) in
    let here : Fits (more_of (talk slot turns) [] wrote serves.bodies a.replies) (connection_at new slot) =
    subst (λ z. Fits (more_of (talk slot turns) [] wrote serves.bodies a.replies) z) (sym is)
    (subst (λ z. Fits (more_of z [] wrote serves.bodies a.replies) (Some k)) (sym e) connection) in
    let fits = fits_there slot (λ n. more_of (talk n turns) [] wrote serves.bodies a.replies) (λ n. talk n turns) old new keeps.fits here others in
    let all' : offered ≡ length (waits t) = subst (λ z. offered ≡ length z) (sym (waits_is t l.waiting f.given)) all in
    record {
      earlier = turns;
      behind = settling.behind;
      turn = Sent slot offered wrote serves.bodies a.replies;
      keeps = record {
        state = a.state;
        ran = (
          keeps.state,
          (
            keeps.ran,
            (
              settling.is_settled,
              answers_to w (talk slot turns) t l (asks (slot + 1) serves.bodies) a.replies keeps.state a.state e f.door a.answers,
            ),
          ),
        );
        stands = a.stands;
        served = (
          subst (λ z. WaitSoMany z offered) (sym e) all',
          (λ n. each_talk (talk n (Sent slot offered wrote serves.bodies a.replies ∷ turns)) (connection_at new n) (fits n), keeps.served),
        );
        fits = fits;
        slots = many ∙ keeps.slots;
        many = keeps.many;
        went = keeps.went;
      };
      noted = a.counts;
      told = (WroteTo slot offered wrote ∷ [], (refl, tells));
    }

pub sent : {S : Type 0} (w : PlainSettling S) (from mid to : S → Type 0) (old new : List (Option ConnectionState)) (slot offered count : ℕ) (l k : ConnectionState)
    (tally next : TallyState) (before after : Option (List Seen)) → ((s : S) → from s → Settles w mid s)
    → connection_at old slot ≡ Some l → connection_at new slot ≡ Some k → OthersStay slot old new → k.door ≡ l.door
    → offered ≡ length l.waiting → Serves (w.through l.door) mid to (slot + 1) l.cutter k.cutter (drop count l.waiting) k.waiting tally next →
    (IsStopped l.long l.cutter l.waiting → IsStopped k.long k.cutter k.waiting) → Tells before after (WroteTo slot offered (take count l.waiting) ∷ []) → length new ≡ length old
    → GoesOn w from to old new (Write slot) tally next before after
sent w from mid to old new slot offered count l k tally next before after settles was is others same all serves stopped tells many scope peers s turns keeps =
    let settling = settled_at w scope from mid old peers s turns keeps (settles keeps.state keeps.stands) in
    sent_at w mid to old new slot offered count l k tally next before after scope peers s turns (talk slot settling.earlier) settling refl
    (subst (λ o. Fits (talk slot settling.earlier) o) was (settling.keeps.fits slot)) is others same all serves stopped tells many

-- what was owed wasn't settled, and bytes wait
pub waits_at : (o : Option Talk) (l : Option ConnectionState) → Fits o l → Waits l → HasSome o
waits_at None None f more = more
waits_at None (Some k) f more = f
waits_at (Some t) None f more = absurd more
waits_at (Some t) (Some k) f more = subst (λ z. 0 < length z) (sym (waits_is t k.waiting f.given)) more

-- a connection came into a free slot
pub opened : {S : Type 0} (w : PlainSettling S) (from to : S → Type 0) (old new : List (Option ConnectionState)) (slot door : ℕ) (l : ConnectionState) (tally : TallyState)
    (before after : Option (List Seen))
    → ((s : S) → from s → to s) → slot < length old → connection_at old slot ≡ None → connection_at new slot ≡ Some l → l ≡ record { door = door; cutter = []; waiting = []; long = false }
    → OthersStay slot old new → Tells before after (Accepted slot (Some door) ∷ []) → length new ≡ length old
    → GoesOn w from to old new Accept tally tally before after
opened w from to old new slot door l tally before after same within was is fresh others tells many scope peers s turns keeps =
    let here : Fits (Some (no_talk door)) (connection_at new slot) =
    subst (λ z. Fits (Some (no_talk door)) z) (sym is) (fresh_connection door l fresh) in
    let fits = fits_there slot (λ n. Some (no_talk door)) (λ n. talk n turns) old new keeps.fits here others in
    let free : talk slot turns ≡ None = none_of (talk slot turns) (subst (λ z. Fits (talk slot turns) z) was (keeps.fits slot)) in
    record {
      earlier = turns;
      behind = inl refl;
      turn = Opened slot door;
      keeps = record {
        state = keeps.state;
        ran = (keeps.state, (keeps.ran, refl));
        stands = same keeps.state keeps.stands;
        served = ((omega (arith, within, keeps.slots), free), (λ n. each_talk (talk n (Opened slot door ∷ turns)) (connection_at new n) (fits n), keeps.served));
        fits = fits;
        slots = many ∙ keeps.slots;
        many = keeps.many;
        went = keeps.went;
      };
      noted = refl;
      told = (Accepted slot (Some door) ∷ [], (refl, tells));
    }

-- none came after all
pub missed : {S : Type 0} (w : PlainSettling S) (from to : S → Type 0) (old new : List (Option ConnectionState)) (slot : ℕ) (tally : TallyState)
    (before after : Option (List Seen))
    → ((s : S) → from s → to s) → new ≡ old → slot < length old → connection_at old slot ≡ None → Tells before after (Accepted slot None ∷ [])
    → GoesOn w from to old new Accept tally tally before after
missed w from to old new slot tally before after same unchanged within was tells scope peers s turns keeps =
    let fits : (n : ℕ) → Fits (talk n turns) (connection_at new n) = λ n. subst (λ z. Fits (talk n turns) (connection_at z n)) (sym unchanged) (keeps.fits n) in
    let free : talk slot turns ≡ None = none_of (talk slot turns) (subst (λ z. Fits (talk slot turns) z) was (keeps.fits slot)) in
    record {
      earlier = turns;
      behind = inl refl;
      turn = Missed slot;
      keeps = record {
        state = keeps.state;
        ran = (keeps.state, (keeps.ran, refl));
        stands = same keeps.state keeps.stands;
        served = ((omega (arith, within, keeps.slots), free), (λ n. each_talk (talk n turns) (connection_at new n) (fits n), keeps.served));
        fits = fits;
        slots = ap (λ (c : List (Option ConnectionState)). length c) unchanged ∙ keeps.slots;
        many = keeps.many;
        went = keeps.went;
      };
      noted = refl;
      told = (Accepted slot None ∷ [], (refl, tells));
    }

-- a connection was turned away
pub turned_away : {S : Type 0} (w : PlainSettling S) (from to : S → Type 0) (old new : List (Option ConnectionState)) (slot : ℕ) (tally : TallyState)
    (before after : Option (List Seen))
    → ((s : S) → from s → to s) → new ≡ old → slot < length old → connection_at old slot ≡ None → Tells before after (Declined ∷ []) →
    GoesOn w from to old new Accept tally tally before after
turned_away w from to old new slot tally before after same unchanged within was tells scope peers s turns keeps =
    let fits : (n : ℕ) → Fits (talk n turns) (connection_at new n) = λ n. subst (λ z. Fits (talk n turns) (connection_at z n)) (sym unchanged) (keeps.fits n) in
    let free : talk slot turns ≡ None = none_of (talk slot turns) (subst (λ z. Fits (talk slot turns) z) was (keeps.fits slot)) in
    record {
      earlier = turns;
      behind = inl refl;
      turn = TurnedAway;
      keeps = record {
        state = keeps.state;
        ran = (keeps.state, (keeps.ran, refl));
        stands = same keeps.state keeps.stands;
        served = ((slot, omega (arith, within, keeps.slots), free), (λ n. each_talk (talk n turns) (connection_at new n) (fits n), keeps.served));
        fits = fits;
        slots = ap (λ (c : List (Option ConnectionState)). length c) unchanged ∙ keeps.slots;
        many = keeps.many;
        went = keeps.went;
      };
      noted = refl;
      told = (Declined ∷ [], (refl, tells));
    }

-- nothing was to do
pub rested : {S : Type 0} (w : PlainSettling S) (from to : S → Type 0) (old new : List (Option ConnectionState)) (offer : Ready) (tally : TallyState)
    (before after : Option (List Seen))
    → ((s : S) → from s → to s) → ((n : ℕ) → connection_at new n ≡ connection_at old n) → length new ≡ length old → after ≡ before →
    ((scope : Scope) (turns : List Turn) → length old ≡ scope.connections → ((n : ℕ) → Fits (talk n turns) (connection_at old n)) → MayRest scope turns offer)
    → GoesOn w from to old new offer tally tally before after
rested w from to old new offer tally before after same unchanged many none may scope peers s turns keeps =
    let fits : (n : ℕ) → Fits (talk n turns) (connection_at new n) = λ n. subst (λ z. Fits (talk n turns) z) (sym (unchanged n)) (keeps.fits n) in
    record {
      earlier = turns;
      behind = inl refl;
      turn = Rested offer;
      keeps = record {
        state = keeps.state;
        ran = (keeps.state, (keeps.ran, refl));
        stands = same keeps.state keeps.stands;
        served = (may scope turns keeps.slots keeps.fits, (λ n. each_talk (talk n turns) (connection_at new n) (fits n), keeps.served));
        fits = fits;
        slots = many ∙ keeps.slots;
        many = keeps.many;
        went = keeps.went;
      };
      noted = refl;
      told = ([], (refl, subst (λ z. Tells before z []) (sym none) (tells_none before)));
    }

-- a connection ended, and its session was closed
some_of : (o : Option Talk) (l : ConnectionState) → Fits o (Some l) → IsSome o
some_of None l f = absurd f
some_of (Some t) l f = refl

pub ended : {S : Type 0} (w : PlainSettling S) (from to : S → Type 0) (old new : List (Option ConnectionState)) (slot : ℕ) (l : ConnectionState) (tally : TallyState)
    (before after : Option (List Seen))
    → ((s : S) → from s → to (w.machine.step s (slot + 1, close))) → connection_at old slot ≡ Some l → connection_at new slot ≡ None → OthersStay slot old new →
    Tells before after (Closed slot ∷ []) → length new ≡ length old
    → GoesOn w from to old new (Close slot) tally tally before after
ended w from to old new slot l tally before after stepped was is others tells many scope peers s turns keeps =
    let here : Fits None (connection_at new slot) = subst (λ z. Fits None z) (sym is) tt in
    let fits = fits_there slot (λ n. None) (λ n. talk n turns) old new keeps.fits here others in
    record {
      earlier = turns;
      behind = inl refl;
      turn = Ended slot;
      keeps = record {
        state = w.machine.step keeps.state (slot + 1, close);
        ran = (keeps.state, (keeps.ran, refl));
        stands = stepped keeps.state keeps.stands;
        served = (
          some_of (talk slot turns) l (subst (λ z. Fits (talk slot turns) z) was (keeps.fits slot)),
          (λ n. each_talk (talk n (Ended slot ∷ turns)) (connection_at new n) (fits n), keeps.served),
        );
        fits = fits;
        slots = many ∙ keeps.slots;
        many = keeps.many;
        went = keeps.went;
      };
      noted = refl;
      told = (Closed slot ∷ [], (refl, tells));
    }

-- what may be left undone
some_talk : (o : Option Talk) (l : Option ConnectionState) → Fits o l → IsSome l → IsSome o
some_talk None None f s = s
some_talk None (Some l) f s = absurd f
some_talk (Some t) l f s = refl

pub full_rests : (scope : Scope) (old : List (Option ConnectionState)) (turns : List Turn) → length old ≡ scope.connections → ((n : ℕ) → Fits (talk n turns) (connection_at old n)) →
    ((n : ℕ) → n < length old → IsSome (connection_at old n)) → MayRest scope turns Accept
full_rests scope old turns slots fits full = λ n within. some_talk (talk n turns) (connection_at old n) (fits n) (full n (omega (arith, within, slots)))

shut_at : (o : Option Talk) (l : ConnectionState) → Fits o (Some l) → (l.long ≡ true) ⊎ (piece < length l.waiting) → IsShut o
shut_at None l f why = absurd f
shut_at (Some t) l f why = elim why [
  | inl long ↦ inr (subst (λ h. (len : ℕ) × IsLong h len) (sym (held_is t l.cutter f.cut)) (subst (λ b. IsStopped b l.cutter l.waiting) long f.stopped))
  | inr much ↦ inl (subst (λ w. piece < length w) (sym (waits_is t l.waiting f.given)) much)
]

pub shut_rests : (scope : Scope) (old : List (Option ConnectionState)) (turns : List Turn) (slot : ℕ) (l : ConnectionState) → ((n : ℕ) → Fits (talk n turns) (connection_at old n)) →
    connection_at old slot ≡ Some l → (l.long ≡ true) ⊎ (piece < length l.waiting) → MayRest scope turns (Read slot)
shut_rests scope old turns slot l fits was why = shut_at (talk slot turns) l (subst (λ z. Fits (talk slot turns) z) was (fits slot)) why

empty_at : (o : Option Talk) (l : ConnectionState) → Fits o (Some l) → l.waiting ≡ [] → HasNothing o
empty_at None l f empty = absurd f
empty_at (Some t) l f empty = waits_is t l.waiting f.given ∙ empty

pub empty_rests : (scope : Scope) (old : List (Option ConnectionState)) (turns : List Turn) (slot : ℕ) (l : ConnectionState) → ((n : ℕ) → Fits (talk n turns) (connection_at old n)) →
    connection_at old slot ≡ Some l → l.waiting ≡ [] → MayRest scope turns (Write slot)
empty_rests scope old turns slot l fits was empty = empty_at (talk slot turns) l (subst (λ z. Fits (talk slot turns) z) was (fits slot)) empty

-- where no connection is, nothing is to do
pub no_read : (scope : Scope) (old : List (Option ConnectionState)) (turns : List Turn) (slot : ℕ) → ((n : ℕ) → Fits (talk n turns) (connection_at old n)) → connection_at old slot ≡ None →
    MayRest scope turns (Read slot)
no_read scope old turns slot fits was = subst (λ o. IsShut o) (sym (none_of (talk slot turns) (subst (λ z. Fits (talk slot turns) z) was (fits slot)))) tt

pub no_write : (scope : Scope) (old : List (Option ConnectionState)) (turns : List Turn) (slot : ℕ) → ((n : ℕ) → Fits (talk n turns) (connection_at old n)) → connection_at old slot ≡ None →
    MayRest scope turns (Write slot)
no_write scope old turns slot fits was = subst (λ o. HasNothing o) (sym (none_of (talk slot turns) (subst (λ z. Fits (talk slot turns) z) was (fits slot)))) tt

pub no_close : (scope : Scope) (old : List (Option ConnectionState)) (turns : List Turn) (slot : ℕ) → ((n : ℕ) → Fits (talk n turns) (connection_at old n)) → connection_at old slot ≡ None →
    MayRest scope turns (Close slot)
no_close scope old turns slot fits was = none_of (talk slot turns) (subst (λ z. Fits (talk slot turns) z) was (fits slot))

-- the slot was free before, and is again; or it has its connection again
pub all_stay : (slot : ℕ) (old taken : List (Option ConnectionState)) → OthersStay slot old taken → connection_at old slot ≡ connection_at taken slot → (n : ℕ) →
    connection_at taken n ≡ connection_at old n
all_stay slot old taken others same n = elim (cases_eq n slot) [
  | inl here ↦ subst (λ k. connection_at taken k ≡ connection_at old k) (sym here) (sym same)
  | inr other ↦ others n other
]
