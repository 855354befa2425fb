-- A run from its start to its end.
use Rattle.std.proofs.Common.{◌≡◌, ℕ, ◌+◌, inl, inr, List, [], ◌∷◌, ◌++◌, Option, Some, None, refl, sym, ap, ◌∙◌, subst, arith, append_assoc}
use Rattle.std.specs.Prelude.{Bool, true, false, ◌||◌, ◌*◌, ◌<◌, nat_le, length, slice_get, IfSome, if◌then◌else◌}
use Rattle.std.proofs.lemmas.Option.{slice_get_cases, slice_get_within}
use Rattle.std.specs.Option.{option_map}
use Rattle.std.proofs.lemmas.List.{append-nil}
use Rattle.hub.specs.declared.ports.Ready.{Ready}
use Rattle.site_peers.specs.declared.peers.Peer.{Peer}
use Rattle.site_peers.specs.Moves.{fresh, waiting}
use Rattle.site_peers.specs.Runs.{Went}
use Rattle.hub.specs.declared.ports.Scope.{Scope}
use Rattle.hub.specs.declared.ports.PeerNews.TheVariants.{Time as TheTime, Through as ItIsThrough, Over as ItIsOver, Read as MayRead, Write as MayWrite}
use Rattle.hub.specs.declared.ports.Ready.TheVariants.{Accept, Read, Write, Close, Peer as OfPeer, Stop}
use Rattle.hub.specs.declared.ports.Seen.{Seen}
use Rattle.hub.specs.declared.ports.Seen.TheVariants.{Offered}
use Rattle.hub.specs.declared.serves.End.TheVariants.{Stopped, Spent, Unsettled}
use Rattle.hub.specs.Settlings.{PlainSettling}
use Rattle.hub.specs.Connections.{ConnectionState, connection_at}
use Rattle.hub.specs.Telling.{Tells, own_replies}
use Rattle.hub.specs.declared.upkeeps.LastReply.{LastReply}
use Rattle.hub.specs.Upkeeps.{UpkeepRule, TallyState, first_tally, noted, passed, paid, said, asked, waited_by, is_due, due_by, due_under}
use Rattle.hub.specs.Answering.{Asked}
use Rattle.hub.specs.Turns.{Turn, Rested, Opened, Missed, TurnedAway, Received, Sent, Ended, KeptUp, Settled, PeerDid, talk, turns_of, IsPeer, ArePeers, calls_of, calls_in}
use Rattle.hub.specs.Timing.{told_time, heard, said_by, tally_after, tally_of, requests_by, due, IsTimely, AreTimely}
use Rattle.hub.specs.Runs.{counts, count_of, IsWanted, IsRun}
use Rattle.hub.specs.Keeping.{Fits, Keeps, IsNoted, IsHeard, AreBefore, WentOn, IsToldBehind, IsTold, GoesOn, FetchesOn, Turned, PeerWaits, HasWaiting, IsUnsettled, Led}
use Rattle.hub.proofs.Holding.{each_talk}
use Rattle.hub.proofs.Tellings.{tells_none, tells_then}
use Rattle.hub.proofs.Turning.{waits_at}

tells_no_more : (o : Option (List Seen)) (calls : List Seen) → Tells o None calls
tells_no_more None calls = tt
tells_no_more (Some seen) calls = tt

-- whatever was told, an edge may stop telling
pub tells_lost : (o n : Option (List Seen)) (calls : List Seen) → n ≡ None → Tells o n calls
tells_lost o n calls none = subst (λ z. Tells o z calls) (sym none) (tells_no_more o calls)

-- a turn that began with an offer told the time that this tells
abbrev offer_first : List Seen → Ready
offer_first (Offered offer ∷ calls) = offer
offer_first _ = Stop

heard_of : (tally next : TallyState) (offer : Ready) (calls : List Seen) (turn : Turn) → calls_of turn ≡ Offered offer ∷ calls →
    IsNoted (told_time tally offer) next turn → heard tally turn ≡ told_time tally offer
heard_of tally next offer calls (Rested other) is p = ap (λ c. told_time tally (offer_first c)) is
heard_of tally next offer calls (Opened slot door) is p = ap (λ c. told_time tally (offer_first c)) is
heard_of tally next offer calls (Missed slot) is p = ap (λ c. told_time tally (offer_first c)) is
heard_of tally next offer calls TurnedAway is p = ap (λ c. told_time tally (offer_first c)) is
heard_of tally next offer calls (Received slot room came bodies replies) is p = ap (λ c. told_time tally (offer_first c)) is
heard_of tally next offer calls (Sent slot offered wrote bodies replies) is p = ap (λ c. told_time tally (offer_first c)) is
heard_of tally next offer calls (Ended slot) is p = ap (λ c. told_time tally (offer_first c)) is
heard_of tally next offer calls (PeerDid peer offered t) is p = ap (λ c. told_time tally (offer_first c)) is
heard_of tally next offer calls (KeptUp bodies replies) is p = absurd p
heard_of tally next offer calls Settled is p = absurd p

-- an offer, and what was done of it
wholly : {S : Type 0} (w : PlainSettling S) (scope : Scope) (to : S → Type 0) (s : S) (connections : List (Option ConnectionState)) (peers : List Peer)
    (turns : List Turn) (offer : Ready) (tally next : TallyState) (a b c : Option (List Seen)) → Tells a b (Offered offer ∷ []) →
    WentOn w scope to s connections peers turns (IsNoted (told_time tally offer) next) (IsToldBehind offer b c) →
    WentOn w scope to s connections peers turns (IsHeard tally next) (IsTold a c)
wholly w scope to s connections peers turns offer tally next a b c p on = record {
  earlier = on.earlier;
  behind = on.behind;
  turn = on.turn;
  keeps = on.keeps;
  noted = subst (λ t. IsNoted t next on.turn) (sym (heard_of tally next offer on.told.0 on.turn on.told.1.0 on.noted)) on.noted;
  told = subst (λ calls. Tells a c calls) (sym on.told.1.0) (tells_then a b c (Offered offer ∷ []) on.told.0 p on.told.1.1);
}

pub turned : {S : Type 0} (w : PlainSettling S) (from to : S → Type 0) (old new : List (Option ConnectionState)) (peers : List Peer) (offer : Ready)
    (tally next : TallyState) (a b c : Option (List Seen)) → Tells a b (Offered offer ∷ []) → GoesOn w from to old new offer (told_time tally offer) next b c →
    Turned w from to old new peers peers tally next a c
turned w from to old new peers offer tally next a b c p goes scope s turns keeps =
    wholly w scope to s new peers turns offer tally next a b c p (goes scope peers s turns keeps)

pub fetched : {S : Type 0} (w : PlainSettling S) (from to : S → Type 0) (connections : List (Option ConnectionState)) (old new : List Peer) (offer : Ready)
    (tally next : TallyState) (a b c : Option (List Seen)) → Tells a b (Offered offer ∷ []) →
    FetchesOn w from to old new offer (told_time tally offer) next b c → Turned w from to connections connections old new tally next a c
fetched w from to connections old new offer tally next a b c p goes scope s turns keeps =
    wholly w scope to s connections new turns offer tally next a b c p (goes scope connections s turns keeps)

-- the peers are fresh
each_fresh : (scope : Scope) (peers : List Peer) → length peers ≡ scope.peers →
    ((n : ℕ) → n < scope.peers → slice_get peers n ≡ Some (fresh (1000 * scope.seconds))) → (n : ℕ) →
    IfSome (slice_get peers n) (Went (1000 * scope.seconds) [])
each_fresh scope peers many all n = elim (slice_get_cases peers n).1 [
  | inl found ↦ subst (λ o. IfSome o (Went (1000 * scope.seconds) [])) (sym (all n (omega (arith, many, found.1)))) refl
  | inr past ↦ subst (λ o. IfSome o (Went (1000 * scope.seconds) [])) (sym past.1) tt
]

pub led_start : {S : Type 0} (w : PlainSettling S) (rule : Option UpkeepRule) (scope : Scope) (from : S → Type 0) (s : S)
    (connections : List (Option ConnectionState)) (peers : List Peer) (tally : TallyState)
    (a : Option (List Seen)) → from s → ((n : ℕ) → connection_at connections n ≡ None) → length connections ≡ scope.connections → length peers ≡ scope.peers →
    ((n : ℕ) → n < scope.peers → slice_get peers n ≡ Some (fresh (1000 * scope.seconds))) → tally ≡ first_tally rule →
    Led w rule scope from s connections peers tally a a 0
led_start w rule scope from s connections peers tally a f free slots many all whole = record {
  turns = [];
  keeps = record {
    state = s;
    ran = refl;
    stands = f;
    served = tt;
    fits = λ n. subst (λ l. Fits None l) (sym (free n)) tt;
    slots = slots;
    many = many;
    went = each_fresh scope peers many all;
  };
  seen = tells_none a;
  many = refl;
  timely = tt;
  tallied = whole;
}

-- what is due is what the tally says
pub due_is : (rule : Option UpkeepRule) (tally : TallyState) (turns : List Turn) → tally ≡ tally_of rule turns → due rule turns ≡ requests_by tally
due_is rule tally turns is = ap (λ t. requests_by t) (sym is)

-- and none is due where it says none
pub due_none : (rule : Option UpkeepRule) (tally : TallyState) (turns : List Turn) → tally ≡ tally_of rule turns → due_by tally ≡ None → due rule turns ≡ None
due_none rule tally turns is none = due_is rule tally turns is ∙ ap (λ o. option_map (λ (r : UpkeepRule). asked r (waited_by tally)) o) none

-- what is due is the rule
if_some : (rule other : UpkeepRule) (b : Bool) → (if b then Some rule else None) ≡ Some other → Some rule ≡ Some other
if_some rule other true is = is
if_some rule other false is = absurd (cc)

under_rule : (rule : Option UpkeepRule) (other : UpkeepRule) (tally : TallyState) → due_under rule tally ≡ Some other → rule ≡ Some other
under_rule None other tally is = absurd (cc)
under_rule (Some rule) other tally is = if_some rule other (is_due rule tally) is

-- the next turn is one of the edge where nothing is due
timely_more : (rule : Option UpkeepRule) (tally next : TallyState) (older : List Turn) (turn : Turn) → IsHeard tally next turn → due rule older ≡ None →
    IsTimely rule older turn
timely_more rule tally next older (Rested offer) p none = none
timely_more rule tally next older (Opened slot door) p none = none
timely_more rule tally next older (Missed slot) p none = none
timely_more rule tally next older TurnedAway p none = none
timely_more rule tally next older (Received slot room came bodies replies) p none = none
timely_more rule tally next older (Sent slot offered wrote bodies replies) p none = none
timely_more rule tally next older (Ended slot) p none = none
timely_more rule tally next older (PeerDid peer offered t) p none = none
timely_more rule tally next older (KeptUp bodies replies) p none = absurd p
timely_more rule tally next older Settled p none = absurd p

-- and its replies are counted
tally_more : (tally next : TallyState) (turn : Turn) → IsHeard tally next turn → passed next ≡ tally_after tally turn
tally_more tally next (Rested offer) p = ap passed p
tally_more tally next (Opened slot door) p = ap passed p
tally_more tally next (Missed slot) p = ap passed p
tally_more tally next TurnedAway p = ap passed p
tally_more tally next (Received slot room came bodies replies) p = ap passed p
tally_more tally next (Sent slot offered wrote bodies replies) p = ap passed p
tally_more tally next (Ended slot) p = ap passed p
tally_more tally next (PeerDid peer offered t) p = ap passed p
tally_more tally next (KeptUp bodies replies) p = absurd p
tally_more tally next Settled p = absurd p

counts_one : (tally next : TallyState) (turn : Turn) → IsHeard tally next turn → counts turn ≡ 1
counts_one tally next (Rested offer) p = refl
counts_one tally next (Opened slot door) p = refl
counts_one tally next (Missed slot) p = refl
counts_one tally next TurnedAway p = refl
counts_one tally next (Received slot room came bodies replies) p = refl
counts_one tally next (Sent slot offered wrote bodies replies) p = refl
counts_one tally next (Ended slot) p = refl
counts_one tally next (PeerDid peer offered t) p = refl
counts_one tally next (KeptUp bodies replies) p = absurd p
counts_one tally next Settled p = absurd p

-- what is so of turns and doesn't look at a settling is so where one is behind them
record Behind (rule : Option UpkeepRule) (tally : TallyState) (turns earlier : List Turn) : Type 0 where
  calls : calls_in earlier ≡ calls_in turns
  many : count_of earlier ≡ count_of turns
  timely : AreTimely rule earlier
  tallied : tally ≡ tally_of rule earlier
  none : due rule earlier ≡ None

behind_is : (rule : Option UpkeepRule) (tally : TallyState) (turns earlier : List Turn) → AreBefore turns earlier → AreTimely rule turns → tally ≡ tally_of rule turns →
    due rule turns ≡ None → Behind rule tally turns earlier
behind_is rule tally turns earlier behind timely tallied none =
    let more : count_of turns + 0 ≡ count_of turns = omega arith in
    elim behind [
      | inl same ↦ subst (λ ts. Behind rule tally turns ts) (sym same) (record { calls = refl; many = refl; timely = timely; tallied = tallied; none = none })
      | inr settled ↦ subst (λ ts. Behind rule tally turns ts) (sym settled) (record {
        calls = append-nil (calls_in turns);
        many = more;
        timely = (none, timely);
        tallied = tallied;
        none = none;
      })
    ]

-- an upkeep pays off what it says
kept_tally : (rule : Option UpkeepRule) (other : UpkeepRule) (tally next : TallyState) (last : LastReply) (bodies replies : List (List ℕ)) (older : List Turn) →
    tally.rule ≡ Some other → tally ≡ tally_of rule older → next ≡ paid tally last → last ≡ said other replies →
    next ≡ tally_of rule (KeptUp bodies replies ∷ older)
kept_tally rule other tally next last bodies replies older same is pays says =
    let by : last ≡ said_by tally.rule replies = says ∙ ap (λ r. said_by r replies) (sym same) in
    pays ∙ (ap (λ l. paid tally l) by ∙ ap (λ t. paid t (said_by t.rule replies)) is)

-- one turn of the edge more
pub led_more : {S : Type 0} (w : PlainSettling S) (rule : Option UpkeepRule) (scope : Scope) (from to : S → Type 0) (s : S)
    (old new : List (Option ConnectionState)) (old_peers new_peers : List Peer)
    (tally next later : TallyState) (a b c : Option (List Seen)) (count : ℕ) → Led w rule scope from s old old_peers tally a b count → due_by tally ≡ None →
    Turned w from to old new old_peers new_peers tally next b c → later ≡ passed next → Led w rule scope to s new new_peers later a c (count + 1)
led_more w rule scope from to s old new old_peers new_peers tally next later a b c count led none goes passes =
    let on = goes scope s led.turns led.keeps in
    let behind = behind_is rule tally led.turns on.earlier on.behind led.timely led.tallied (due_none rule tally led.turns led.tallied none) in
    let one : counts on.turn ≡ 1 = counts_one tally next on.turn on.noted in
    record {
      turns = on.turn ∷ on.earlier;
      keeps = on.keeps;
      seen = tells_then a b c (calls_in on.earlier) (calls_of on.turn) (subst (λ calls. Tells a b calls) (sym behind.calls) led.seen) on.told;
      many = omega (arith, led.many, behind.many, one);
      timely = (timely_more rule tally next on.earlier on.turn on.noted behind.none, behind.timely);
      tallied = passes ∙ (tally_more tally next on.turn on.noted ∙ ap (λ t. tally_after t on.turn) behind.tallied);
    }

-- an upkeep more
pub led_kept : {S : Type 0} (w : PlainSettling S) (rule : Option UpkeepRule) (scope : Scope) (from to : S → Type 0) (s : S)
    (connections : List (Option ConnectionState)) (peers : List Peer)
    (tally next : TallyState) (a b c : Option (List Seen)) (count : ℕ) (other : UpkeepRule) (last : LastReply) → Led w rule scope from s connections peers tally a b count →
    due_by tally ≡ Some other → next ≡ paid tally last →
    ((u : S) → from u → Asked w.machine to (asked other (waited_by tally)) other last b c u) →
    Led w rule scope to s connections peers next a c (count + 1)
led_kept w rule scope from to s connections peers tally next a b c count other last led is pays answered =
    let k = answered led.keeps.state led.keeps.stands in
    record {
      turns = KeptUp (asked other (waited_by tally)) k.replies ∷ led.turns;
      keeps = record {
        state = k.state;
        ran = (led.keeps.state, (led.keeps.ran, k.answers));
        stands = k.stands;
        served = (tt, (λ n. each_talk (talk n led.turns) (connection_at connections n) (led.keeps.fits n), led.keeps.served));
        fits = led.keeps.fits;
        slots = led.keeps.slots;
        many = led.keeps.many;
        went = led.keeps.went;
      };
      seen = tells_then a b c (calls_in led.turns) (own_replies k.replies) led.seen k.told;
      many = omega (arith, led.many);
      timely = (
        due_is rule tally led.turns led.tallied ∙ ap (λ o. option_map (λ (r : UpkeepRule). asked r (waited_by tally)) o) is,
        led.timely,
      );
      tallied = kept_tally rule other tally next last (asked other (waited_by tally)) k.replies led.turns (under_rule tally.rule other tally is) led.tallied pays
          k.says;
    }

-- each peer is as its turns led to it
pub peers_are : {S : Type 0} (w : PlainSettling S) (scope : Scope) (to : S → Type 0) (s : S) (connections : List (Option ConnectionState)) (peers : List Peer)
    (turns : List Turn) → Keeps w scope to s connections peers turns → ArePeers scope turns
peers_are w scope to s connections peers turns keeps n within = elim (slice_get_cases peers n).1 [
  | inl found ↦ (
    found.0,
    record { is_one = within; went = subst (λ o. IfSome o (Went (1000 * scope.seconds) (turns_of n turns))) found.2 (keeps.went n) },
  )
  | inr past ↦ absurd (omega (arith, within, past.0, keeps.many))
]

-- bytes wait for whom they were offered
waits_for : {S : Type 0} (w : PlainSettling S) (scope : Scope) (to : S → Type 0) (s : S) (connections : List (Option ConnectionState)) (peers : List Peer)
    (turns : List Turn) (n : ℕ) → Keeps w scope to s connections peers turns → (o : Option Peer) → slice_get peers n ≡ o → PeerWaits o →
    (p : Peer) × IsPeer scope turns n p × (0 < length (waiting p.moment))
waits_for w scope to s connections peers turns n keeps None e more = absurd more
waits_for w scope to s connections peers turns n keeps (Some p) e more = (
  p,
  record {
    is_one = let within = slice_get_within peers n p e in omega (arith, within, keeps.many);
    went = subst (λ o. IfSome o (Went (1000 * scope.seconds) (turns_of n turns))) e (keeps.went n);
  },
  more,
)

pub is_wanted : {S : Type 0} (w : PlainSettling S) (scope : Scope) (to : S → Type 0) (s : S) (connections : List (Option ConnectionState)) (peers : List Peer)
    (turns : List Turn) → Keeps w scope to s connections peers turns → (offer : Ready) → HasWaiting connections peers offer → IsWanted scope turns offer
is_wanted w scope to s connections peers turns keeps (Write slot) more = waits_at (talk slot turns) (connection_at connections slot) (keeps.fits slot) more
is_wanted w scope to s connections peers turns keeps (OfPeer n now MayWrite) more =
    waits_for w scope to s connections peers turns n keeps (slice_get peers n) refl more
is_wanted w scope to s connections peers turns keeps (OfPeer n now TheTime) more = absurd more
is_wanted w scope to s connections peers turns keeps (OfPeer n now ItIsThrough) more = absurd more
is_wanted w scope to s connections peers turns keeps (OfPeer n now ItIsOver) more = absurd more
is_wanted w scope to s connections peers turns keeps (OfPeer n now MayRead) more = absurd more
is_wanted w scope to s connections peers turns keeps Accept more = absurd more
is_wanted w scope to s connections peers turns keeps (Read slot) more = absurd more
is_wanted w scope to s connections peers turns keeps (Close slot) more = absurd more
is_wanted w scope to s connections peers turns keeps Stop more = absurd more

-- the edge said stop
pub run_stopped : {S : Type 0} (w : PlainSettling S) (rule : Option UpkeepRule) (scope : Scope) (to : S → Type 0) (s : S)
    (connections : List (Option ConnectionState)) (peers : List Peer) (tally : TallyState)
    (a b c : Option (List Seen)) (count : ℕ) → Led w rule scope to s connections peers tally a b count → due_by tally ≡ None → Tells b c (Offered Stop ∷ []) →
    IsRun w rule scope to s Stopped a c
run_stopped w rule scope to s connections peers tally a b c count led none stop = record {
  turns = led.turns;
  state = led.keeps.state;
  ran = led.keeps.ran;
  stands = led.keeps.stands;
  served = led.keeps.served;
  fetched = peers_are w scope to s connections peers led.turns led.keeps;
  last = Offered Stop ∷ [];
  seen = tells_then a b c (calls_in led.turns) (Offered Stop ∷ []) led.seen stop;
  timely = led.timely;
  ended = (refl, due_none rule tally led.turns led.tallied none);
}

-- as many turns were made as may be
pub run_spent : {S : Type 0} (w : PlainSettling S) (rule : Option UpkeepRule) (scope : Scope) (to : S → Type 0) (s : S)
    (connections : List (Option ConnectionState)) (peers : List Peer) (tally : TallyState)
    (a b : Option (List Seen)) (count : ℕ) → Led w rule scope to s connections peers tally a b count → count ≡ 18446744073709551615 →
    IsRun w rule scope to s Spent a b
run_spent w rule scope to s connections peers tally a b count led all = record {
  turns = led.turns;
  state = led.keeps.state;
  ran = led.keeps.ran;
  stands = led.keeps.stands;
  served = led.keeps.served;
  fetched = peers_are w scope to s connections peers led.turns led.keeps;
  last = [];
  seen = tells_then a b b (calls_in led.turns) [] led.seen (tells_none b);
  timely = led.timely;
  ended = (refl, led.many ∙ all);
}

-- what was answered couldn't be settled
pub run_unsettled : {S : Type 0} (w : PlainSettling S) (rule : Option UpkeepRule) (scope : Scope) (from to : S → Type 0) (s : S)
    (connections : List (Option ConnectionState)) (peers : List Peer)
    (tally : TallyState) (a b c : Option (List Seen)) (count : ℕ) → Led w rule scope from s connections peers tally a b count → due_by tally ≡ None →
    IsUnsettled from to connections peers b c → IsRun w rule scope to s Unsettled a c
run_unsettled w rule scope from to s connections peers tally a b c count led none unsettled =
    let offer = unsettled.1.0 in
    record {
      turns = led.turns;
      state = led.keeps.state;
      ran = led.keeps.ran;
      stands = unsettled.0 led.keeps.state led.keeps.stands;
      served = led.keeps.served;
      fetched = peers_are w scope from s connections peers led.turns led.keeps;
      last = Offered offer ∷ [];
      seen = tells_then a b c (calls_in led.turns) (Offered offer ∷ []) led.seen unsettled.1.1.1;
      timely = led.timely;
      ended = (
        offer,
        (
          refl,
          is_wanted w scope from s connections peers led.turns led.keeps offer unsettled.1.1.0,
          due_none rule tally led.turns led.tallied none,
        ),
      );
    }

-- a free slot behind free ones
pub free_more : (connections : List (Option ConnectionState)) → ((n : ℕ) → connection_at connections n ≡ None) → (n : ℕ) → connection_at (connections ++ None ∷ []) n ≡ None
free_more [] free ℕ.zero = refl
free_more [] free (ℕ.suc n) = refl
free_more (l ∷ connections) free ℕ.zero = free 0
free_more (l ∷ connections) free (ℕ.suc n) = free_more connections (λ k. free (ℕ.suc k)) n
