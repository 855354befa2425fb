-- Answers of two sites that agree in all but their collected states, through the words of the step.
use Rattle.std.proofs.Common.{◌≡◌, ℕ, List, [], ◌∷◌, ◌++◌, length, Option, Some, None, IsTrue, IsFalse, refl}
use Rattle.std.specs.Prelude.{◌==◌}
use Rattle.std.specs.Option.{option_map}
use Rattle.std.proofs.lemmas.Bool.{both_ways, cond_both}
use Rattle.tardis_base.specs.declared.ids.StateId.{StateId}
use Rattle.tardis_base.specs.declared.records.Record.{Record}
use Rattle.tardis_base.specs.declared.records.Limits.{Limits}
use Rattle.tardis_base.specs.declared.replies.Refusal.{Refusal}
use Rattle.tardis_base.specs.declared.replies.Refusal.TheVariants.{Full, PathFull, NotOpen, NoTxn, TxnOpen}
use Rattle.tardis_base.specs.declared.replies.Reply.{Reply}
use Rattle.tardis_base.specs.declared.replies.Reply.TheVariants.{Refused}
use Rattle.plain_dag.specs.Collection.{kept_states}
use Rattle.plain_dag.specs.Paths.{long_path}
use Rattle.plain_dag.specs.Entries.{entry_of}
use Rattle.plain_dag.specs.Floors.{Session}
use Rattle.plain_dag.specs.Growth.{growth_refusal}
use Rattle.plain_site.specs.Site.{Site, Txn}
use Rattle.plain_site.specs.Answers.{Answer, refused, refuse_found, unless, given, with_session, with_txn, without_txn}
use Rattle.plain_site.specs.Commits.{growth_refusals}
use Rattle.collection_laws.specs.Laws.{tells_full}

-- ===== Growth is refused for want of room alone

abbrev pub IsFull : Option Refusal → Type 0
IsFull None = Unit {0}
IsFull (Some refusal) = IsTrue (tells_full (Refused refusal))

path-is-full : (o : Option (StateId × ℕ)) → IsFull (option_map (λ (p : StateId × ℕ). PathFull p.0 p.1) o)
path-is-full None = tt
path-is-full (Some p) = refl

pub growth-is-full : (limits : Limits) (ks : List StateId) (rs : List Record) (r : Record) →
    IsFull (growth_refusal limits ks rs r)
growth-is-full limits ks rs r =
    let kept = length (kept_states rs ks) in
    let long = long_path (r ∷ rs) ks limits.max_path in
    let too_long : Option Refusal = option_map (λ (p : StateId × ℕ). PathFull p.0 p.1) long in
    cond_both (kept == limits.max_kept) (Some (Full kept)) too_long IsFull (λ t. refl) (λ f. path-is-full long)

-- the site with these collected states
abbrev pub other : List StateId → Site → Site
other ks site = record site { collected = ks }

-- what the second reply has to be: one that doesn't tell of no room, or any
module _ (ks : List StateId) (Seen : Reply → Type 0) where
  -- the second answer is the first but for the collected states, unless the first tells of no room, or the second isn't such
  abbrev pub Unseen : Answer → Answer → Type 0
  Unseen x y = IsFalse (tells_full x.1) → Seen y.1 → y ≡ (other ks x.0, x.1)

  -- where the first site grows by the record, a refusal of the second isn't such
  abbrev pub GrowsToo : Site → Record → Type 0
  GrowsToo site r = (refusal : Refusal) → growth_refusal site.limits site.collected site.dag r ≡ None →
      growth_refusal site.limits ks site.dag r ≡ Some refusal → Seen (Refused refusal) → ⊥

  -- ===== Several replies, of which the first is given

  pub append-unseen : (site : Site) (first more more_there : List (Option Reply)) (x y : Answer) →
      Unseen (unless site more x) (unless (other ks site) more_there y) →
      Unseen (unless site (first ++ more) x) (unless (other ks site) (first ++ more_there) y)
  append-unseen site [] more more_there x y h = h
  append-unseen site (None ∷ first) more more_there x y h = append-unseen site first more more_there x y h
  append-unseen site (Some reply ∷ first) more more_there x y h = λ f g. refl

  pub unless-unseen : (site : Site) (replies : List (Option Reply)) (x y : Answer) → Unseen x y →
      Unseen (unless site replies x) (unless (other ks site) replies y)
  unless-unseen site [] x y h = h
  unless-unseen site (None ∷ more) x y h = unless-unseen site more x y h
  unless-unseen site (Some reply ∷ more) x y h = λ f g. refl

  room-unseen : (site : Site) (here there : Option Refusal) (x y : Answer) → IsFull here →
      ((refusal : Refusal) → here ≡ None → there ≡ Some refusal → Seen (Refused refusal) → ⊥) → Unseen x y →
      Unseen (unless site (refuse_found (λ r. r) here ∷ []) x) (unless (other ks site) (refuse_found (λ r. r) there ∷ []) y)
  room-unseen site None None x y full grows h = h
  room-unseen site None (Some refusal) x y full grows h = λ f seen. absurd (grows refusal refl refl seen)
  room-unseen site (Some refusal) there x y full grows h = λ f seen. absurd (both_ways (tells_full (Refused refusal)) f full)

  -- both sites grow, or the first has no room
  pub growth-unseen : (site : Site) (r : Record) (x y : Answer) → GrowsToo site r → Unseen x y →
      Unseen (unless site (growth_refusals site r) x) (unless (other ks site) (growth_refusals (other ks site) r) y)
  growth-unseen site r x y grows h =
      room-unseen site (growth_refusal site.limits site.collected site.dag r)
      (growth_refusal site.limits ks site.dag r) x y
      (growth-is-full site.limits site.collected site.dag r) grows h

  -- ===== What is there

  pub given-unseen : {A : Type 0} (o : Option A) (x y : Answer) (f g : A → Answer) → Unseen x y → ((a : A) → Unseen (f a) (g a)) →
      Unseen (given o x f) (given o y g)
  given-unseen None x y f g h each = h
  given-unseen (Some a) x y f g h each = each a

  module _ (site : Site) (n : ℕ) where
    pub by-session : (f g : Session → Answer) → ((s : Session) → Unseen (f s) (g s)) → Unseen (with_session site n f) (with_session (other ks site) n g)
    by-session f g h = given-unseen (entry_of n site.sessions) (refused site NotOpen) (refused (other ks site) NotOpen) f g (λ here there. refl) h

    pub by-txn : (f g : Session → Txn → Answer) → ((s : Session) (t : Txn) → Unseen (f s t) (g s t)) → Unseen (with_txn site n f) (with_txn (other ks site) n g)
    by-txn f g h =
        by-session (λ s. given (entry_of n site.txns) (refused site NoTxn) (f s)) (λ s. given (entry_of n site.txns) (refused (other ks site) NoTxn) (g s))
        (λ s. given-unseen (entry_of n site.txns) (refused site NoTxn) (refused (other ks site) NoTxn) (f s) (g s) (λ here there. refl) (h s))

    pub by-no-txn : (f g : Session → Answer) → ((s : Session) → Unseen (f s) (g s)) → Unseen (without_txn site n f) (without_txn (other ks site) n g)
    by-no-txn f g h =
        by-session (λ s. given (entry_of n site.txns) (f s) (λ t. refused site TxnOpen))
        (λ s. given (entry_of n site.txns) (g s) (λ t. refused (other ks site) TxnOpen))
        (λ s. given-unseen (entry_of n site.txns) (f s) (g s) (λ t. refused site TxnOpen) (λ t. refused (other ks site) TxnOpen) (h s) (λ t here there. refl))
