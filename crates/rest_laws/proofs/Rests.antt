-- At rest a site is sound, and as it was to all who ask it.
use Rattle.std.proofs.Common.{◌≡◌, ℕ, ◌≤◌, Bool, true, false, not, List, [], ◌∷◌, length, Option, Some, None, IsTrue, IsFalse, refl, ap, ◌∙◌, arith}
use Rattle.std.specs.Prelude.{◌==◌, ◌&&◌, nat_le}
use Rattle.std.proofs.lemmas.Bool.{and_parts, not_from_true, ne_eqb, leb-true}
use Rattle.tardis_base.specs.declared.ids.StateId.{StateId}
use Rattle.tardis_base.specs.declared.requests.Begin.TheVariants.{At}
use Rattle.tardis_base.specs.declared.requests.Request.TheVariants.{Open, Begin, Get, Show, Leaves, Pull}
use Rattle.tardis_base.specs.declared.replies.Refusal.TheVariants.{SessionsFull, Unknown, Below, Collected, NotOpen, NoTxn, BadSite}
use Rattle.tardis_base.specs.declared.replies.Refusal.{Refusal}
use Rattle.tardis_base.specs.declared.replies.Reply.{Reply}
use Rattle.tardis_base.specs.declared.replies.Reply.TheVariants.{Opened, Shown, Batch as BatchIs}
use Rattle.tardis_base.specs.Ids.{is_among}
use Rattle.tardis_base.specs.declared.records.Limits.{Limits}
use Rattle.tardis_base.specs.Valid.{is_within, are_limits}
use Rattle.plain_dag.specs.States.{is_known, arrival, children}
use Rattle.plain_dag.specs.Writers.{read}
use Rattle.plain_dag.specs.Begin.{is_admitted}
use Rattle.plain_dag.specs.Entries.{entry_of, with_entry}
use Rattle.plain_dag.specs.Floors.{Session, opening_session}
use Rattle.plain_dag.specs.Paths.{fork_path}
use Rattle.plain_site.specs.Site.{Site, Txn, Single, own_floor}
use Rattle.plain_site.specs.Answers.{Answer, refused, refuse, unless, given, found}
use Rattle.plain_site.specs.Sessions.{begin, begun}
use Rattle.plain_site.specs.Reads.{get}
use Rattle.plain_site.specs.Exchange.{batch_for}
use Rattle.plain_site.specs.Step.{step}
use Rattle.plain_site.specs.Rest.{at_rest}
use Rattle.plain_site.proofs.SoundEntries.{entry-with_entry}
use Rattle.rest_laws.specs.Laws.{RestIsSound, RestIsRest, SiteIsShownAsBefore, StatIsAsBefore, ReadsAreAsBefore}

pub rest-is-sound : RestIsSound at_rest
rest-is-sound site sound = record {
  limits = sound.limits;
  own = sound.own;
  dag = sound.dag;
  of_the_sites = sound.of_the_sites;
  few_kept = sound.few_kept;
  short_paths = sound.short_paths;
  few_children = sound.few_children;
  few_sessions = omega arith;
  session_numbers = refl;
  each_session = refl;
  txn_numbers = refl;
  each_txn = λ n t e. absurd (cc);
  one_floor_each = sound.one_floor_each;
  each_floor = sound.each_floor;
  under_floor = refl;
  collected = sound.collected;
  collected_once = sound.collected_once;
  waiting = record { few = omega arith; once = refl; each = refl };
}

pub rest-is-rest : RestIsRest at_rest
rest-is-rest site = refl

-- ===== What the site shows

-- the same replies before answers with the same reply
unless-shows : (a b : Site) (replies : List (Option Reply)) (x y : Answer) → x.1 ≡ y.1 → (unless a replies x).1 ≡ (unless b replies y).1
unless-shows a b [] x y e = e
unless-shows a b (None ∷ more) x y e = unless-shows a b more x y e
unless-shows a b (Some reply ∷ more) x y e = refl

pub site-is-shown-as-before : SiteIsShownAsBefore step at_rest
site-is-shown-as-before site n (Show x) h =
    let reply = Shown (arrival site.dag x) (children site.dag x) (fork_path site.dag site.collected x) in
    unless-shows (at_rest site) site (refuse (not (is_known site.dag x)) (Unknown x) ∷ refuse (is_among x site.collected) (Collected x) ∷ [])
    (at_rest site, reply) (site, reply) refl
site-is-shown-as-before site n Leaves h = refl
site-is-shown-as-before site n (Pull counts) h =
    let reply = BatchIs (batch_for site counts) in
    unless-shows (at_rest site) site (refuse (not (length counts == site.limits.sites)) (BadSite (length counts)) ∷ []) (at_rest site, reply) (site, reply) refl
site-is-shown-as-before site n q h = absurd (cc)

pub stat-is-as-before : StatIsAsBefore step at_rest
stat-is-as-before site n = refl

-- ===== Reads

-- tests that fail let the answer through
past-one : (site : Site) (test : Bool) (refusal : Refusal) (more : List (Option Reply)) (answer : Answer) →
    IsFalse test → unless site (refuse test refusal ∷ more) answer ≡ unless site more answer
past-one site true refusal more answer f = absurd (cc)
past-one site false refusal more answer f = refl

some-sessions : (l : Limits) → IsTrue (are_limits l) → 1 ≤ l.max_sessions
some-sessions l h =
    let first = is_within 1 16 l.sites && is_within 1 65000 l.max_kept && is_within 1 65000 l.max_path in
    let sessions = is_within 1 4096 l.max_sessions in
    let more = and_parts (first && sessions) (nat_le l.max_trail 1073741824) h in
    let both = and_parts first sessions more.0 in
    leb-true 1 l.max_sessions (and_parts (nat_le 1 l.max_sessions) (nat_le l.max_sessions 4096) both.1).0

module _ (site : Site) (n : ℕ) (x : StateId) (key : List ℕ) where
  abbrev resting : Site
  resting = at_rest site

  abbrev ceiling : StateId
  ceiling = (own_floor site).state

  abbrev session : Session
  session = opening_session false ceiling

  abbrev opened : Site
  opened = record resting { sessions = with_entry n session [] }

  abbrev txn : Txn
  txn = Single (record { state = x; reads = []; writes = [] })

  abbrev reading : Site
  reading = record opened { txns = with_entry n txn [] }

  opens : 1 ≤ site.limits.max_sessions → (step resting n (Open false)).0 ≡ opened
  opens some =
      ap (λ (answer : Answer). answer.0)
      (past-one resting (0 == site.limits.max_sessions) (SessionsFull 0) [] (opened, Opened ceiling)
      (ne_eqb 0 site.limits.max_sessions (λ e. omega (arith, some, e))))

  has-session : entry_of n opened.sessions ≡ Some session
  has-session = entry-with_entry n session []

  begins : IsTrue (is_known site.dag x) → IsTrue (is_admitted site.dag ceiling x) → (step opened n (Begin (At x))).0 ≡ reading
  begins known admitted =
      ap (λ (o : Option Session). (given o (refused opened NotOpen) (λ s. begin opened n s (At x))).0) has-session
      ∙ ap (λ (answer : Answer). answer.0)
      (past-one opened (not (is_known site.dag x)) (Unknown x) (refuse (not (is_admitted site.dag ceiling x)) (Below x ceiling) ∷ []) (begun opened n x)
      (not_from_true (is_known site.dag x) known)
      ∙ past-one opened (not (is_admitted site.dag ceiling x)) (Below x ceiling) [] (begun opened n x) (not_from_true (is_admitted site.dag ceiling x) admitted))

  shows : (step reading n (Get key)).1 ≡ found (read site.dag key x)
  shows =
      ap
      (λ (o : Option Session).
      (given o (refused reading NotOpen) (λ s. given (entry_of n reading.txns) (refused reading NoTxn) (λ t. get reading n t key))).1) has-session
      ∙ ap (λ (o : Option Txn). (given o (refused reading NoTxn) (λ t. get reading n t key)).1) (entry-with_entry n txn [])

pub reads-are-as-before : ReadsAreAsBefore step at_rest
reads-are-as-before site n x key sound known admitted =
    let some = some-sessions site.limits sound.limits in
    ap (λ (s : Site). (step s n (Get key)).1) (ap (λ (s : Site). (step s n (Begin (At x))).0) (opens site n x key some) ∙ begins site n x key known admitted)
    ∙ shows site n x key
