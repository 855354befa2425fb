-- What is collected is unseen.
use Rattle.std.proofs.Common.{◌≡◌, ℕ, ◌≤◌, not, List, [], ◌∷◌, length, Option, Some, None, IsFalse, refl, sym, ap, subst, ◌∙◌}
use Rattle.std.proofs.lemmas.Bool.{both_ways}
use Rattle.std.proofs.lemmas.Option.{none-some}
use Rattle.tardis_base.specs.declared.ids.StateId.{StateId}
use Rattle.tardis_base.specs.declared.records.Record.{Record}
use Rattle.tardis_base.specs.declared.requests.Request.{Request}
use Rattle.tardis_base.specs.declared.requests.Request.TheVariants.{Tidy, Stat, Show}
use Rattle.tardis_base.specs.declared.replies.Refusal.TheVariants.{Unknown, Collected}
use Rattle.tardis_base.specs.declared.replies.Reply.{Reply}
use Rattle.tardis_base.specs.declared.replies.Reply.TheVariants.{Shown, Refused}
use Rattle.tardis_base.specs.Ids.{is_among}
use Rattle.plain_dag.specs.States.{is_known, arrival, children}
use Rattle.plain_dag.specs.Collection.{kept_states}
use Rattle.plain_dag.specs.Paths.{fork_path}
use Rattle.plain_site.specs.Site.{Site}
use Rattle.plain_site.specs.Answers.{Answer, refuse, unless}
use Rattle.plain_site.specs.Sound.{IsSound}
use Rattle.plain_site.specs.Step.{step}
use Rattle.collection_laws.specs.Laws.{AgreeButCollected, asks_of_kept, tells_full, CollectionIsUnseen, CollectedMore, CollectingTakesNoRoom}
use Rattle.collection_laws.specs.Laws.{OnlyCollectedChange}
use Rattle.collection_laws.proofs.Unseen.{IsFull, growth-is-full, other, Unseen, GrowsToo}
use Rattle.collection_laws.proofs.Room.{grows-too}
use Rattle.collection_laws.proofs.Served.{step-unseen}

-- a site that is another one with these collected states agrees with it
agree-other : (a b : Site) (ks : List StateId) → b ≡ other ks a → AgreeButCollected a b
agree-other a b ks e = let same : b.collected ≡ ks = ap (λ (s : Site). s.collected) e in e ∙ ap (λ (cs : List StateId). other cs a) (sym same)

-- a second reply that doesn't tell of no room either
abbrev pub HasRoomToo : Reply → Type 0
HasRoomToo reply = IsFalse (tells_full reply)

grows-or-tells : (ks : List StateId) (site : Site) (r : Record) → GrowsToo ks HasRoomToo site r
grows-or-tells ks site r refusal here there room =
    both_ways (tells_full (Refused refusal)) room (subst IsFull there (growth-is-full site.limits ks site.dag r))

-- any second reply
abbrev pub AnyReply : Reply → Type 0
AnyReply reply = Unit {0}

grows-with-it : (a b : Site) → length (kept_states a.dag a.collected) ≤ a.limits.max_kept → CollectedMore a b → (r : Record) →
    GrowsToo b.collected AnyReply a r
grows-with-it a b few more r refusal here there any =
    none-some refusal (sym (grows-too a.collected b.collected more a.limits a.dag r few here) ∙ there)

-- the answer of the second site, by what has to be of its reply
answer-agrees : (Seen : Reply → Type 0) (a b : Site) (n : ℕ) (q : Request) →
    ((r : Record) → GrowsToo b.collected Seen a r) →
    AgreeButCollected a b → IsFalse (asks_of_kept q) → Unseen b.collected Seen (step a n q) (step b n q)
answer-agrees Seen a b n q grows agree asks =
    subst (λ (s : Site). Unseen b.collected Seen (step a n q) (step s n q)) (sym agree) (step-unseen b.collected Seen a grows n q asks)

both-agree : (a b : Site) (n : ℕ) (q : Request) → step b n q ≡ (other b.collected (step a n q).0, (step a n q).1) →
    ((step a n q).1 ≡ (step b n q).1) × AgreeButCollected (step a n q).0 (step b n q).0
both-agree a b n q e = (
  sym (ap (λ (answer : Answer). answer.1) e),
  agree-other (step a n q).0 (step b n q).0 b.collected (ap (λ (answer : Answer). answer.0) e),
)

pub collection-is-unseen : CollectionIsUnseen step
collection-is-unseen a b n q agree asks f g =
    both-agree a b n q (answer-agrees HasRoomToo a b n q (grows-or-tells b.collected a) agree asks f g)

-- where the first site keeps no more than it may, and the second collected more, the first alone has to have room
pub more-is-unseen : (a b : Site) (n : ℕ) (q : Request) → IsSound a → AgreeButCollected a b → CollectedMore a b → IsFalse (asks_of_kept q) →
    IsFalse (tells_full (step a n q).1) → ((step a n q).1 ≡ (step b n q).1) × AgreeButCollected (step a n q).0 (step b n q).0
more-is-unseen a b n q sound agree more asks f =
    both-agree a b n q (answer-agrees AnyReply a b n q (grows-with-it a b sound.few_kept more) agree asks f tt)

pub collecting-takes-no-room : CollectingTakesNoRoom step
collecting-takes-no-room a b n q sound agree more asks f =
    subst (λ (reply : Reply). IsFalse (tells_full reply)) (more-is-unseen a b n q sound agree more asks f).0 f

-- such a request collects nothing
pub collects-nothing : (site : Site) (n : ℕ) (q : Request) → IsFalse (asks_of_kept q) → IsFalse (tells_full (step site n q).1) →
    (step site n q).0.collected ≡ site.collected
collects-nothing site n q asks f =
    ap (λ (answer : Answer). answer.0.collected) (answer-agrees HasRoomToo site site n q (grows-or-tells site.collected site) refl asks f f)

-- what leaves all but the collected states, or the whole site
unless-agrees : (site : Site) (replies : List (Option Reply)) (answer : Answer) → AgreeButCollected site answer.0 →
    AgreeButCollected site (unless site replies answer).0
unless-agrees site [] answer h = h
unless-agrees site (None ∷ more) answer h = unless-agrees site more answer h
unless-agrees site (Some reply ∷ more) answer h = refl

pub only-collected-change : OnlyCollectedChange step
only-collected-change site n (Tidy count) h = refl
only-collected-change site n Stat h = refl
only-collected-change site n (Show x) h =
    unless-agrees site (refuse (not (is_known site.dag x)) (Unknown x) ∷ refuse (is_among x site.collected) (Collected x) ∷ [])
    (site, Shown (arrival site.dag x) (children site.dag x) (fork_path site.dag site.collected x)) refl
only-collected-change site n q h = absurd (cc)
