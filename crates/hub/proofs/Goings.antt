-- A run goes on by a turn of a peer.
use Rattle.std.proofs.Common.{◌≡◌, ◌≢◌, ℕ, ◌+◌, ◌<◌, ◌≤◌, List, [], ◌∷◌, ◌++◌, length, get_or, Option, Some, ◌⊎◌, inl, inr, refl}
use Rattle.std.proofs.Common.{sym, ◌∙◌, subst, ap, arith}
use Rattle.std.specs.Prelude.{◌*◌, ◌==◌, slice_get, slice_set, IfSome}
use Rattle.std.proofs.lemmas.Bool.{cases_eq, eq-eqb, eqb-true, false_from_ne_true}
use Rattle.std.proofs.lemmas.Option.{slice_get_within, slice_get-get_or}
use Rattle.tardis_base.specs.Plain.{PlainMachine}
use Rattle.site_peers.specs.declared.peers.Peer.{Peer}
use Rattle.site_peers.specs.declared.deeds.Deed.{Deed}
use Rattle.site_peers.specs.Moves.{News, Moves}
use Rattle.site_peers.specs.Runs.{PeerTurn, Went}
use Rattle.hub.specs.declared.ports.Scope.{Scope}
use Rattle.hub.specs.declared.ports.PeerNews.{PeerNews}
use Rattle.hub.specs.declared.ports.Ready.TheVariants.{Peer as OfPeer}
use Rattle.hub.specs.declared.ports.Seen.{Seen}
use Rattle.hub.specs.Settlings.{PlainSettling}
use Rattle.hub.specs.Connections.{ConnectionState, connection_at}
use Rattle.hub.specs.Telling.{Tells}
use Rattle.hub.specs.Upkeeps.{TallyState}
use Rattle.hub.specs.Peers.{offer_of, moved, carried_out, MayTell, HasNothingFor, AnsweredFor, Asks}
use Rattle.hub.specs.Turns.{Turn, Rested, PeerDid, talk, its_own, turns_of, IsPeer}
use Rattle.hub.specs.Runs.{MaySend}
use Rattle.hub.specs.Keeping.{Keeps, Settles, AreBefore, WentOn, IsNoted, IsToldBehind, FetchesOn, IsOnly, PeerTurned}
use Rattle.hub.proofs.Holding.{each_talk}
use Rattle.hub.proofs.Serving.{noted_none}
use Rattle.hub.proofs.Tellings.{tells_none}
use Rattle.hub.proofs.Turning.{settled_at}

-- one peer had a turn, and the others had none
went_there : (every n : ℕ) (p q : Peer) (t : PeerTurn) (old new : List Peer) (turns : ℕ → List PeerTurn) → ((k : ℕ) → IfSome (slice_get old k) (Went every (turns k))) →
    IsOnly n p q old new → Moves p t.now t.bodies t.replies t.deed q t.news → (k : ℕ) → IfSome (slice_get new k) (Went every (its_own (k == n) t (turns k)))
went_there every n p q t old new turns went only moves k = elim (cases_eq k n) [
  | inl same ↦ subst (λ b. IfSome (slice_get new k) (Went every (its_own b t (turns k)))) (sym (eq-eqb k n same))
      (subst (λ j. IfSome (slice_get new j) (Went every (t ∷ turns j))) (sym same)
      (subst (λ o. IfSome o (Went every (t ∷ turns n))) (sym only.is)
      (p, subst (λ o. IfSome o (Went every (turns n))) only.was (went n), moves)))
  | inr other ↦ subst (λ b. IfSome (slice_get new k) (Went every (its_own b t (turns k))))
      (sym (false_from_ne_true (k == n) (λ e. other (eqb-true k n e))))
      (subst (λ o. IfSome o (Went every (turns k))) (sym (only.others k other)) (went k))
]

-- a peer stands in its place
stands_there : {S : Type 0} (w : PlainSettling S) (scope : Scope) (to : S → Type 0) (s : S) (connections : List (Option ConnectionState)) (peers : List Peer)
    (turns : List Turn) (n : ℕ) (p : Peer) → Keeps w scope to s connections peers turns → slice_get peers n ≡ Some p → n < scope.peers
stands_there w scope to s connections peers turns n p keeps is =
    let within = slice_get_within peers n p is in
    omega (arith, within, keeps.many)

-- a peer had a turn
did : {S : Type 0} (w : PlainSettling S) (scope : Scope) (mid to : S → Type 0) (connections : List (Option ConnectionState)) (old new : List Peer) (n offered : ℕ)
    (p q : Peer) (t : PeerTurn) (tally next : TallyState) (before after : Option (List Seen)) (s : S) (turns earlier : List Turn)
    (keeps : Keeps w scope mid s connections old earlier) → AreBefore turns earlier → MaySend w keeps.state t.news → IsOnly n p q old new →
    MayTell p offered t.news → Moves p t.now t.bodies t.replies t.deed q t.news → AnsweredFor w.machine to t.bodies t.replies tally next keeps.state →
    Tells before after (moved n offered t.news ++ carried_out n t.deed) →
    WentOn w scope to s connections new turns (IsNoted tally next) (IsToldBehind (OfPeer n t.now (offer_of t.news)) before after)
did w scope mid to connections old new n offered p q t tally next before after s turns earlier keeps behind may only tells moves a told = record {
  earlier = earlier;
  behind = behind;
  turn = PeerDid n offered t;
  keeps = record {
    state = a.state;
    ran = (keeps.state, (keeps.ran, (may, a.answers)));
    stands = a.stands;
    served = (
      (
        p,
        record {
          is_one = stands_there w scope mid s connections old earlier n p keeps only.was;
          went = subst (λ o. IfSome o (Went (1000 * scope.seconds) (turns_of n earlier))) only.was (keeps.went n);
        },
        tells,
      ),
      (λ k. each_talk (talk k earlier) (connection_at connections k) (keeps.fits k), keeps.served),
    );
    fits = keeps.fits;
    slots = keeps.slots;
    many = only.many ∙ keeps.many;
    went = went_there (1000 * scope.seconds) n p q t old new (λ k. turns_of k earlier) keeps.went only moves;
  };
  noted = a.counts;
  told = (moved n offered t.news ++ carried_out n t.deed, (refl, told));
}

-- What a peer asked of the machine was answered. Nothing is to be settled.
pub asked_for : {S : Type 0} (w : PlainSettling S) (from to : S → Type 0) (n offered : ℕ) (p q : Peer) (news : News) (now : ℕ) (deed : Deed) (tally next : TallyState)
    (before after : Option (List Seen)) → ((u : S) → MaySend w u news) → MayTell p offered news → Asks w.machine from to p news now deed q tally next →
    Tells before after (moved n offered news ++ carried_out n deed) → PeerTurned w from to n p q now (offer_of news) tally next before after
asked_for w from to n offered p q news now deed tally next before after may tells asked told old new only scope connections s turns keeps =
    did w scope from to connections old new n offered p q (record { now = now; news = news; bodies = asked.bodies; replies = asked.replies; deed = deed }) tally next
    before after s turns turns keeps (inl refl) (may keeps.state) only tells asked.moves (asked.answered keeps.state keeps.stands) told

-- a peer asked nothing of the machine
asks_none : {S : Type 0} (m : PlainMachine S) (from to : S → Type 0) (p : Peer) (news : News) (now : ℕ) (deed : Deed) (q : Peer) (tally : TallyState) →
    ((s : S) → from s → to s) → Moves p now [] [] deed q news → Asks m from to p news now deed q tally tally
asks_none m from to p news now deed q tally same moves = record {
  bodies = [];
  replies = [];
  answered = λ s f. record { state = s; answers = refl; stands = same s f; counts = noted_none tally };
  moves = moves;
}

pub moved_on : {S : Type 0} (w : PlainSettling S) (from : S → Type 0) (n offered : ℕ) (p q : Peer) (news : News) (now : ℕ) (deed : Deed) (tally : TallyState)
    (before after : Option (List Seen)) → ((u : S) → MaySend w u news) → MayTell p offered news → Moves p now [] [] deed q news →
    Tells before after (moved n offered news ++ carried_out n deed) → PeerTurned w from from n p q now (offer_of news) tally tally before after
moved_on w from n offered p q news now deed tally before after may tells moves told =
    asked_for w from from n offered p q news now deed tally tally before after may tells
    (asks_none w.machine from from p news now deed q tally (λ s f. f) moves) told

-- bytes were written to a peer, once all was settled
pub wrote : {S : Type 0} (w : PlainSettling S) (from to : S → Type 0) (n offered : ℕ) (p q : Peer) (bytes : List ℕ) (now : ℕ) (deed : Deed) (tally : TallyState)
    (before after : Option (List Seen)) → ((s : S) → from s → Settles w to s) → MayTell p offered (News.Sent bytes) → Moves p now [] [] deed q (News.Sent bytes) →
    Tells before after (moved n offered (News.Sent bytes) ++ carried_out n deed) →
    PeerTurned w from to n p q now (offer_of (News.Sent bytes)) tally tally before after
wrote w from to n offered p q bytes now deed tally before after settles tells moves told old new only scope connections s turns keeps =
    let settling = settled_at w scope from to connections old s turns keeps (settles keeps.state keeps.stands) in
    did w scope to to connections old new n offered p q (record { now = now; news = News.Sent bytes; bodies = []; replies = []; deed = deed }) tally tally
    before after s turns settling.earlier settling.keeps settling.behind settling.is_settled only tells moves
    (record { state = settling.keeps.state; answers = refl; stands = settling.keeps.stands; counts = noted_none tally }) told

-- nothing was to do for a peer
rests : {S : Type 0} (w : PlainSettling S) (scope : Scope) (from : S → Type 0) (connections : List (Option ConnectionState)) (old new : List Peer) (n now : ℕ)
    (news : PeerNews) (tally : TallyState) (before after : Option (List Seen)) (s : S) (turns : List Turn) (keeps : Keeps w scope from s connections old turns) →
    ((k : ℕ) → slice_get new k ≡ slice_get old k) → length new ≡ length old → after ≡ before →
    (scope.peers ≤ n) ⊎ ((p : Peer) × IsPeer scope turns n p × HasNothingFor p news) →
    WentOn w scope from s connections new turns (IsNoted tally tally) (IsToldBehind (OfPeer n now news) before after)
rests w scope from connections old new n now news tally before after s turns keeps unchanged many none may = record {
  earlier = turns;
  behind = inl refl;
  turn = Rested (OfPeer n now news);
  keeps = record {
    state = keeps.state;
    ran = (keeps.state, (keeps.ran, refl));
    stands = keeps.stands;
    served = (may, (λ k. each_talk (talk k turns) (connection_at connections k) (keeps.fits k), keeps.served));
    fits = keeps.fits;
    slots = keeps.slots;
    many = many ∙ keeps.many;
    went = λ k. subst (λ o. IfSome o (Went (1000 * scope.seconds) (turns_of k turns))) (sym (unchanged k)) (keeps.went k);
  };
  noted = refl;
  told = ([], (refl, subst (λ z. Tells before z []) (sym none) (tells_none before)));
}

all_stay : (n : ℕ) (p q : Peer) (old new : List Peer) → q ≡ p → IsOnly n p q old new → (k : ℕ) → slice_get new k ≡ slice_get old k
all_stay n p q old new same only k = elim (cases_eq k n) [
  | inl here ↦ subst (λ j. slice_get new j ≡ slice_get old j) (sym here) (only.is ∙ (ap Some same ∙ sym only.was))
  | inr other ↦ only.others k other
]

pub rested_peer : {S : Type 0} (w : PlainSettling S) (from : S → Type 0) (n : ℕ) (p q : Peer) (now : ℕ) (news : PeerNews) (tally : TallyState)
    (before after : Option (List Seen)) → q ≡ p → after ≡ before → HasNothingFor p news → PeerTurned w from from n p q now news tally tally before after
rested_peer w from n p q now news tally before after same none nothing old new only scope connections s turns keeps =
    rests w scope from connections old new n now news tally before after s turns keeps (all_stay n p q old new same only) only.many none
    (inr (
      p,
      record {
        is_one = stands_there w scope from s connections old turns n p keeps only.was;
        went = subst (λ o. IfSome o (Went (1000 * scope.seconds) (turns_of n turns))) only.was (keeps.went n);
      },
      nothing,
    ))

-- there is no such peer
pub no_such_peer : {S : Type 0} (w : PlainSettling S) (from : S → Type 0) (peers : List Peer) (n now : ℕ) (news : PeerNews) (tally : TallyState)
    (before : Option (List Seen)) → length peers ≤ n → FetchesOn w from from peers peers (OfPeer n now news) tally tally before before
no_such_peer w from peers n now news tally before past scope connections s turns keeps =
    rests w scope from connections peers peers n now news tally before before s turns keeps (λ k. refl) refl refl
    (inl (omega (arith, past, keeps.many)))

-- one place of peers was set
set_there : (peers : List Peer) (n : ℕ) (q : Peer) → n < length peers → slice_get (slice_set peers n q) n ≡ Some q
set_there [] n q within = absurd (omega (arith, within))
set_there (p ∷ peers) ℕ.zero q within = refl
set_there (p ∷ peers) (ℕ.suc n) q within = set_there peers n q (omega (arith, within))

set_other : (peers : List Peer) (n k : ℕ) (q : Peer) → k ≢ n → slice_get (slice_set peers n q) k ≡ slice_get peers k
set_other [] n k q other = refl
set_other (p ∷ peers) ℕ.zero ℕ.zero q other = absurd (other refl)
set_other (p ∷ peers) ℕ.zero (ℕ.suc k) q other = refl
set_other (p ∷ peers) (ℕ.suc n) ℕ.zero q other = refl
set_other (p ∷ peers) (ℕ.suc n) (ℕ.suc k) q other = set_other peers n k q (λ e. other (ap (λ z. ℕ.suc z) e))

set_many : (peers : List Peer) (n : ℕ) (q : Peer) → length (slice_set peers n q) ≡ length peers
set_many [] n q = refl
set_many (p ∷ peers) ℕ.zero q = refl
set_many (p ∷ peers) (ℕ.suc n) q = ap (λ z. ℕ.suc z) (set_many peers n q)

pub only_set : (peers : List Peer) (n : ℕ) (other q : Peer) → n < length peers → IsOnly n (get_or peers n other) q peers (slice_set peers n q)
only_set peers n other q within = record {
  was = slice_get-get_or peers n other within;
  is = set_there peers n q within;
  others = λ k away. set_other peers n k q away;
  many = set_many peers n q;
}

-- a fresh peer behind fresh ones
pub fresh_more : (peers : List Peer) (p : Peer) (n : ℕ) → ((k : ℕ) → k < length peers → slice_get peers k ≡ Some p) → n < length peers + 1 →
    slice_get (peers ++ p ∷ []) n ≡ Some p
fresh_more [] p ℕ.zero all within = refl
fresh_more [] p (ℕ.suc n) all within = absurd (omega (arith, within))
fresh_more (x ∷ peers) p ℕ.zero all within = all 0 (omega arith)
fresh_more (x ∷ peers) p (ℕ.suc n) all within = fresh_more peers p n (λ k less. all (ℕ.suc k) (omega (arith, less))) (omega (arith, within))
