-- What each request of a group does at a site whose history is a chain.
use Rattle.std.proofs.Common.{◌≡◌, ℕ, ◌+◌, ◌<◌, Bool, true, not, ◌&&◌, List, [], ◌∷◌, ◌++◌, length, map, find, Option, Some, None, is_some, unwrap_or, ◌-◌}
use Rattle.std.proofs.Common.{IsTrue, IsFalse, refl, sym, ap, subst, ◌∙◌, arith}
use Rattle.std.specs.Prelude.{◌==◌, nat_le}
use Rattle.std.specs.Option.{option_map}
use Rattle.std.proofs.lemmas.Bool.{and_left, and_right, and_from, cond-true, cond-false, ne_eqb, not_from_true, not_from_false}
use Rattle.tardis_base.specs.declared.ids.StateId.{StateId}
use Rattle.tardis_base.specs.declared.records.Record.{Record}
use Rattle.tardis_base.specs.declared.records.Write.TheVariants.{Put as Value}
use Rattle.tardis_base.specs.declared.requests.Begin.TheVariants.{Any}
use Rattle.tardis_base.specs.declared.requests.Request.TheVariants.{Open, Begin, Put, Commit, RaiseAuto, Tidy}
use Rattle.tardis_base.specs.declared.replies.Refusal.{Refusal}
use Rattle.tardis_base.specs.declared.replies.Refusal.TheVariants.{Unknown, Below, SeqEnd, Full, PathFull}
use Rattle.tardis_base.specs.declared.replies.Reply.TheVariants.{Opened, Begun, Done, Committed, Raised, Tidied}
use Rattle.tardis_base.specs.Ids.{root, same_id, is_among}
use Rattle.tardis_base.specs.Keys.{KeyWrite, keys_of, are_ascending_keys, has_key}
use Rattle.tardis_base.proofs.WriteSets.{with_write-last}
use Rattle.plain_dag.specs.States.{states, is_known}
use Rattle.plain_dag.specs.Above.{is_above, is_proper_ancestor}
use Rattle.plain_dag.specs.Begin.{is_admitted}
use Rattle.plain_dag.specs.Collection.{kept_states, is_collectable, is_absorbed, stand_in, common, tidied}
use Rattle.plain_dag.specs.Floors.{Floor, Session, is_closed, is_above_ceilings, automatic_floor}
use Rattle.plain_dag.specs.Growth.{growth_refusal}
use Rattle.plain_dag.specs.Paths.{long_path}
use Rattle.plain_dag.proofs.Ids.{among-later, among-differs}
use Rattle.plain_dag.proofs.Order.{above-reflexive}
use Rattle.plain_site.specs.Site.{Site, Single, SingleTxn, next_record, with_txn_changed}
use Rattle.plain_site.specs.Reads.{too_many_writes, having_written}
use Rattle.plain_site.specs.Answers.{Answer, refuse, refuse_found, unless}
use Rattle.plain_site.specs.Sessions.{begun}
use Rattle.plain_site.specs.Commits.{commit_at, committed}
use Rattle.plain_site.specs.FloorSteps.{raise_to}
use Rattle.plain_site.specs.Step.{step}
use Rattle.plain_site.specs.RowWords.{lone_site, program_limits}
use Rattle.branch_export.specs.Exports.{Entry}
use Rattle.export_laws.specs.Laws.{keeps_few}
use Rattle.export_laws.proofs.Chains.{as_write, chain, number, tip, older, find-none-among, tip-is-new, states-are, tip-is-known, tip-has-no-child, one-child}
use Rattle.export_laws.proofs.Chains.{no-long-path, one-is-kept, two-are-kept, tip-isnt-collected, above-tip, not-below-itself, admits-itself, stays-at-leaf}

-- ===== The site between groups, and within one

abbrev session : StateId → Session
session x = record { follow = true; ceiling = x; last = x }

-- the site after these groups: its one session has no transaction, and follows; all but the last state are collected
abbrev pub standing : List (List Entry) → Site
standing gs =
    record {
      limits = program_limits 1;
      own = 1;
      dag = chain gs;
      floors = record { state = tip gs; number = number gs; stated = number gs } ∷ [];
      collected = older gs;
      sessions = (1, session (tip gs)) ∷ [];
      txns = [];
      waiting = [];
    }

-- a transaction at the last state that wrote so far
abbrev writing : List (List Entry) → List KeyWrite → SingleTxn
writing gs ws = record { state = tip gs; reads = []; writes = ws }

abbrev pub within : List (List Entry) → List Entry → Site
within gs es = record (standing gs) { txns = (1, Single (writing gs (map as_write es))) ∷ [] }

-- one more group is committed
abbrev pub grown : List Entry → List (List Entry) → Site
grown g gs = record (standing gs) { dag = chain (g ∷ gs); sessions = (1, session (tip (g ∷ gs))) ∷ [] }

-- and the floor has moved to it
abbrev pub floored : List Entry → List (List Entry) → Site
floored g gs = record (standing (g ∷ gs)) { collected = older gs }

-- ===== No refusal applies

passes-one : (site : Site) (b : Bool) (r : Refusal) (answer : Answer) → IsFalse b → unless site (refuse b r ∷ []) answer ≡ answer
passes-one site b r answer e = ap (λ c. unless site (refuse c r ∷ []) answer) e

passes-two : (site : Site) (a b : Bool) (r s : Refusal) (answer : Answer) → IsFalse a → IsFalse b → unless site (refuse a r ∷ refuse b s ∷ []) answer ≡ answer
passes-two site a b r s answer e f =
    ap (λ c. unless site (refuse c r ∷ refuse b s ∷ []) answer) e ∙ ap (λ c. unless site (refuse c s ∷ []) answer) f

passes-and-grows : (site : Site) (b : Bool) (r : Refusal) (o : Option Refusal) (answer : Answer) → IsFalse b → o ≡ None →
    unless site (refuse b r ∷ refuse_found (λ f. f) o ∷ []) answer ≡ answer
passes-and-grows site b r o answer e f =
    ap (λ c. unless site (refuse c r ∷ refuse_found (λ f. f) o ∷ []) answer) e ∙ ap (λ p. unless site (refuse_found (λ f. f) p ∷ []) answer) f

-- ===== Each request

pub opens : step lone_site 1 (Open true) ≡ (standing [], Opened root)
opens = refl

pub begins : (gs : List (List Entry)) → step (standing gs) 1 (Begin Any) ≡ (within gs [], Begun (tip gs))
begins gs =
    let x = tip gs in
    passes-two (standing gs) (not (is_known (chain gs) x)) (not (is_admitted (chain gs) x x)) (Unknown x) (Below x x) (begun (standing gs) 1 x)
    (not_from_true (is_known (chain gs) x) (tip-is-known gs)) (not_from_true (is_admitted (chain gs) x x) (admits-itself (chain gs) x))

pub puts : (gs : List (List Entry)) (before : List Entry) (e : Entry) → length before < 64 →
    IsTrue (are_ascending_keys (keys_of (map as_write before ++ as_write e ∷ []))) →
    map as_write (before ++ e ∷ []) ≡ map as_write before ++ as_write e ∷ [] → length (map as_write before) ≡ length before →
    step (within gs before) 1 (Put e.0 e.1) ≡ (within gs (before ++ e ∷ []), Done)
puts gs before e few up maps lengths =
    let ws = map as_write before in
    passes-one (within gs before) (length ws == 64 && not (has_key e.0 ws)) too_many_writes
    (with_txn_changed 1 (having_written e.0 (Value e.1)) (within gs before), Done)
    (and_left (length ws == 64) (not (has_key e.0 ws)) (ne_eqb (length ws) 64 (λ same. omega arith)))
    ∙ ap (λ (vs : List KeyWrite). (record (standing gs) { txns = (1, Single (writing gs vs)) ∷ [] }, Done)) (with_write-last ws e.0 (Value e.1) up ∙ sym maps)

commits-below : (gs : List (List Entry)) (e : Entry) (es : List Entry) → number gs < 4294967295 →
    commit_at (within gs (e ∷ es)) 1 (writing gs (map as_write (e ∷ es))) (record { 0 = 0 }) 0 (tip gs)
    ≡ committed (within gs (e ∷ es)) 1 (next_record (within gs (e ∷ es)) (tip gs ∷ []) (map as_write (e ∷ es)))
commits-below gs e es few =
    let site = within gs (e ∷ es) in
    let r = next_record site (tip gs ∷ []) (map as_write (e ∷ es)) in
    let kept = length (kept_states (chain gs) (older gs)) in
    let too_long = option_map (λ (p : StateId × ℕ). PathFull p.0 p.1) (long_path (chain ((e ∷ es) ∷ gs)) (older gs) 4096) in
    let one : kept ≡ 1 = ap length (one-is-kept gs) in
    let grows : growth_refusal (program_limits 1) (older gs) (chain gs) r ≡ None =
    cond-false (kept == 16384) (Some (Full kept)) too_long (ne_eqb kept 16384 (λ same. omega arith))
    ∙ ap (option_map (λ (p : StateId × ℕ). PathFull p.0 p.1)) (no-long-path ((e ∷ es) ∷ gs) (older gs)) in
    passes-and-grows site (number gs == 4294967295) SeqEnd (growth_refusal (program_limits 1) (older gs) (chain gs) r) (committed site 1 r)
    (ne_eqb (number gs) 4294967295 (λ same. omega arith)) grows

pub commits : (gs : List (List Entry)) (e : Entry) (es : List Entry) → number gs < 4294967295 →
    step (within gs (e ∷ es)) 1 (Commit (record { 0 = 0 }) 0) ≡ (grown (e ∷ es) gs, Committed (tip ((e ∷ es) ∷ gs)) (tip gs ∷ []))
commits gs e es few =
    let site = within gs (e ∷ es) in
    let g = e ∷ es in
    let x = tip (g ∷ gs) in
    ap (commit_at site 1 (writing gs (map as_write g)) (record { 0 = 0 }) 0) (stays-at-leaf (length (chain gs)) (chain gs) (tip gs) (tip-has-no-child gs))
    ∙ (commits-below gs e es few
    ∙ ap (λ (c : StateId). (
      record (standing gs) { dag = chain (g ∷ gs); sessions = (1, record { follow = true; ceiling = c; last = x }) ∷ [] },
      Committed x (tip gs ∷ []),
    ))
    (cond-true (is_above (chain (g ∷ gs)) (tip gs) x) x (tip gs) (above-tip (g ∷ gs) (tip gs) (among-later (tip gs) x (states (chain gs)) (tip-is-known gs)))))

pub raises : (g : List Entry) (gs : List (List Entry)) → number gs < 4294967295 → step (grown g gs) 1 RaiseAuto
    ≡ (floored g gs, Raised (tip (g ∷ gs)) (number gs + 1))
raises g gs few =
    let x = tip (g ∷ gs) in
    let rs = chain (g ∷ gs) in
    let fits : StateId → Bool = λ y. is_above rs (tip gs) y && is_above_ceilings rs ((1, session x) ∷ []) y in
    let first : IsTrue (fits x) =
    and_from (is_above rs (tip gs) x) (is_above_ceilings rs ((1, session x) ∷ []) x)
    (above-tip (g ∷ gs) (tip gs) (among-later (tip gs) x (states (chain gs)) (tip-is-known gs)))
    (and_from (is_above rs x x) true (above-reflexive rs x) refl) in
    let found : automatic_floor rs (tip gs) ((1, session x) ∷ []) ≡ x =
    ap (λ (o : Option StateId). unwrap_or o (tip gs)) (cond-true (fits x) (Some x) (find fits (states (chain gs))) first) in
    ap (λ (y : StateId). raise_to (grown g gs) y []) found
    ∙ passes-one (grown g gs) (number gs == 4294967295) SeqEnd (floored g gs, Raised x (number gs + 1)) (ne_eqb (number gs) 4294967295 (λ same. omega arith))

-- ===== Collection

module _ (g : List Entry) (gs : List (List Entry)) where
  abbrev rs : List Record
  rs = chain (g ∷ gs)

  abbrev floors : List Floor
  floors = (floored g gs).floors

  abbrev newest : StateId
  newest = tip (g ∷ gs)

  -- the last state isn't closed
  newest-stays : (ks : List StateId) → IsFalse (is_collectable rs floors ks newest)
  newest-stays ks =
      and_left (not (is_among newest ks) && is_closed rs floors newest) (is_absorbed rs ks newest)
      (and_right (not (is_among newest ks)) (is_closed rs floors newest) (and_left (is_proper_ancestor rs newest newest) true (not-below-itself rs newest)))

  -- the one before it is, and has one child
  before-goes : IsTrue (is_collectable rs floors (older gs) (tip gs))
  before-goes =
      let x = tip gs in
      let above : IsTrue (is_above rs x newest) = above-tip (g ∷ gs) x (among-later x newest (states (chain gs)) (tip-is-known gs)) in
      let differs : IsFalse (same_id x newest) = among-differs x newest (states (chain gs)) (tip-is-known gs) (tip-is-new g gs) in
      let closed : IsTrue (is_closed rs floors x) =
      and_from (is_proper_ancestor rs x newest) true (and_from (is_above rs x newest) (not (same_id x newest)) above
      (not_from_false (same_id x newest) differs)) refl in
      let absorbed : IsTrue (is_absorbed rs (older gs) x) =
      ap (λ (cs : List StateId). is_some (common same_id (map (stand_in rs (older gs)) cs))) (one-child g gs) in
      and_from (not (is_among x (older gs)) && is_closed rs floors x) (is_absorbed rs (older gs) x)
      (and_from (not (is_among x (older gs))) (is_closed rs floors x) (not_from_false (is_among x (older gs)) (tip-isnt-collected gs)) closed) absorbed

  abbrev goes : StateId → Bool
  goes = is_collectable rs floors (older gs)

  first-is-before : find goes (states rs) ≡ Some (tip gs)
  first-is-before =
      cond-false (goes newest) (Some newest) (find goes (states (chain gs))) (newest-stays (older gs))
      ∙ (ap (find goes) (states-are gs) ∙ cond-true (goes (tip gs)) (Some (tip gs)) (find goes (older gs)) before-goes)

  -- a state that is collected isn't collected again
  none-is-left : find (is_collectable rs floors (older (g ∷ gs))) (states rs) ≡ None
  none-is-left =
      let ks = older (g ∷ gs) in
      cond-false (is_collectable rs floors ks newest) (Some newest) (find (is_collectable rs floors ks) (states (chain gs))) (newest-stays ks)
      ∙ find-none-among (is_collectable rs floors ks) (states (chain gs))
      (λ x among.
      let there : IsTrue (is_among x ks) = subst (λ (xs : List StateId). IsTrue (is_among x xs)) (states-are gs) among in
      and_left (not (is_among x ks) && is_closed rs floors x) (is_absorbed rs ks x)
      (and_left (not (is_among x ks)) (is_closed rs floors x) (not_from_true (is_among x ks) there)))

  abbrev after : ℕ → List StateId → Option StateId → List StateId
  after n ks o = elim o [ None ↦ ks | Some x ↦ tidied n rs floors (x ∷ ks) ]

  collects : tidied 64 rs floors (older gs) ≡ older (g ∷ gs)
  collects = ap (after 63 (older gs)) first-is-before ∙ ap (after 62 (older (g ∷ gs))) none-is-left

pub tidies : (g : List Entry) (gs : List (List Entry)) → step (floored g gs) 1 (Tidy 64)
    ≡ (standing (g ∷ gs), Tidied (length (older (g ∷ gs)) - length (older gs)))
tidies g gs = ap (λ (ks : List StateId). (record (floored g gs) { collected = ks }, Tidied (length ks - length (older gs)))) (collects g gs)

-- ===== What is kept

pub standing-keeps-few : (gs : List (List Entry)) → IsTrue (keeps_few (standing gs))
standing-keeps-few gs = ap (λ (xs : List StateId). nat_le (length xs) 2) (one-is-kept gs)

pub grown-keeps-few : (g : List Entry) (gs : List (List Entry)) → IsTrue (keeps_few (grown g gs))
grown-keeps-few g gs = ap (λ (xs : List StateId). nat_le (length xs) 2) (two-are-kept g gs)
