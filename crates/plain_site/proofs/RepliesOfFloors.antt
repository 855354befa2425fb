-- The replies to Raise, RaiseAuto and Tidy fit.
use Rattle.std.proofs.Common.{◌≡◌, ◌≢◌, ℕ, zero, suc, ◌+◌, ◌-◌, ◌≤◌, ◌<◌, ◌^◌, ◌&&◌, ◌==◌, not, List, [], ◌∷◌, length, find, Option, Some, None, IsTrue, refl}
use Rattle.std.proofs.Common.{arith, lt-ltb, ltb-true, eq-eqb}
use Rattle.std.proofs.lemmas.Bool.{and_from, both_ways}
use Rattle.tardis_base.specs.declared.ids.StateId.{StateId}
use Rattle.tardis_base.specs.declared.records.Record.{Record}
use Rattle.tardis_base.specs.declared.replies.Refusal.TheVariants.{SeqEnd, Unknown, FloorBack, Held}
use Rattle.tardis_base.specs.declared.replies.Reply.{Reply}
use Rattle.tardis_base.specs.declared.replies.Reply.TheVariants.{Raised, Tidied, Refused}
use Rattle.tardis_base.specs.Valid.{is_u16, is_u32, is_id}
use Rattle.plain_dag.specs.States.{states, is_known}
use Rattle.plain_dag.specs.Above.{is_above}
use Rattle.plain_dag.specs.Floors.{Floor, Session, is_above_ceilings, holding_session, automatic_floor}
use Rattle.plain_dag.specs.Collection.{is_collectable, tidied}
use Rattle.plain_site.specs.Site.{Site, own_floor}
use Rattle.plain_site.specs.Answers.{refuse, refuse_found}
use Rattle.plain_site.specs.FloorSteps.{raised, raise_to, raise, raise_auto, tidy}
use Rattle.plain_site.specs.Sound.{IsSound, is_sound_session}
use Rattle.plain_site.proofs.RepliesLists.{first, all-found, all-unwrapped}
use Rattle.plain_site.proofs.RepliesHistory.{states-are-ids}
use Rattle.plain_site.proofs.RepliesLengths.{Fits, refusal-fits, reply-fits}
use Rattle.plain_site.proofs.RepliesFrame.{AllGood, Replies, none-when, good-none, good-when, good-found, good-reply, unless-both-good, unless-good}
use Rattle.plain_site.proofs.RepliesSound.{IsRanged, floor-ranged, session-open}

-- ===== Floors

raise-to-fits : (site : Site) (x : StateId) (refusals : List (Option Reply)) → IsRanged site → IsTrue (is_id x) → AllGood Fits refusals →
    Replies Fits (raise_to site x refusals)
raise-to-fits site x refusals ranged h fit =
    let number : ℕ = (own_floor site).number in
    unless-both-good site refusals (refuse (number == 4294967295) SeqEnd ∷ []) (raised site x) fit (λ none.
    unless-good site (refuse (number == 4294967295) SeqEnd ∷ []) (raised site x)
    (good-when (number == 4294967295) (Refused SeqEnd) [] (refusal-fits SeqEnd refl) good-none)
    (λ more.
    let f = (none-when (number == 4294967295) (Refused SeqEnd) [] more).0 in
    let most : number ≢ 4294967295 = λ e. both_ways (number == 4294967295) f (eq-eqb number 4294967295 e) in
    let few : number < 2 ^ 32 = ltb-true number (2 ^ 32) (floor-ranged site site.own ranged).number in
    let next : number + 1 < 2 ^ 32 = omega arith in
    good-reply (raised site x).0 (Raised x (number + 1)) (reply-fits (Raised x (number + 1)) refl
    (and_from (is_id x) (is_u32 (number + 1)) h (lt-ltb (number + 1) (2 ^ 32) next)))))

pub raise-fits : (site : Site) (x : StateId) → IsSound site → IsRanged site → IsTrue (is_id x) → Replies Fits (raise site x)
raise-fits site x sound ranged h =
    let floor : StateId = (own_floor site).state in
    let held : List (Option Reply) = refuse_found (λ (s : ℕ × Session). Held s.0 s.1.ceiling) (holding_session site.dag site.sessions x) ∷ [] in
    raise-to-fits site x
    (refuse (not (is_known site.dag x)) (Unknown x) ∷ refuse (not (is_above site.dag floor x)) (FloorBack floor) ∷ held) ranged h
    (good-when (not (is_known site.dag x)) (Refused (Unknown x)) (refuse (not (is_above site.dag floor x)) (FloorBack floor) ∷ held)
    (refusal-fits (Unknown x) h)
    (good-when (not (is_above site.dag floor x)) (Refused (FloorBack floor)) held (refusal-fits (FloorBack floor) (floor-ranged site site.own ranged).state)
    (good-found (λ (s : ℕ × Session). Held s.0 s.1.ceiling) (holding_session site.dag site.sessions x) [] (λ s e. holds s e) good-none)))
  where
    holds : (s : ℕ × Session) → holding_session site.dag site.sessions x ≡ Some s → Fits (Refused (Held s.0 s.1.ceiling))
    holds s e =
        let open_one = all-found (is_sound_session site.dag) (λ s. not (is_above site.dag x s.1.ceiling)) site.sessions s sound.each_session e in
        refusal-fits (Held s.0 s.1.ceiling)
        (and_from (is_u16 s.0) (is_id s.1.ceiling)
        (first (is_u16 s.0) (is_known site.dag s.1.ceiling) (first (is_u16 s.0 && is_known site.dag s.1.ceiling) (is_known site.dag s.1.last) open_one))
        (session-open site.dag s ranged.stored open_one).ceiling_id)

pub raise-auto-fits : (site : Site) → IsRanged site → Replies Fits (raise_auto site)
raise-auto-fits site ranged =
    let floor : StateId = (own_floor site).state in
    raise-to-fits site (automatic_floor site.dag floor site.sessions) [] ranged
    (all-unwrapped is_id (find (λ x. is_above site.dag floor x && is_above_ceilings site.dag site.sessions x) (states site.dag)) floor
    (floor-ranged site site.own ranged).state
    (λ y e. all-found is_id (λ x. is_above site.dag floor x && is_above_ceilings site.dag site.sessions x) (states site.dag) y
    (states-are-ids site.dag ranged.stored) e))
    good-none

-- ===== Collection

-- no more states are collected than are asked for
tidied-length : (n : ℕ) (rs : List Record) (floors : List Floor) (ks : List StateId) → length (tidied n rs floors ks) ≤ length ks + n
tidied-length zero rs floors ks = omega arith
tidied-length (suc n) rs floors ks = go (find (is_collectable rs floors ks) (states rs)) (λ x. omega (arith, tidied-length n rs floors (x ∷ ks)))
  where
    go : (o : Option StateId) → ((x : StateId) → length (tidied n rs floors (x ∷ ks)) ≤ length ks + suc n) →
        length {A = StateId} (elim o [ None ↦ ks | Some x ↦ tidied n rs floors (x ∷ ks) ]) ≤ length ks + suc n
    go None more = omega arith
    go (Some x) more = more x

pub tidy-fits : (site : Site) (n : ℕ) → IsTrue (is_u16 n) → Replies Fits (tidy site n)
tidy-fits site n h =
    let collected : List StateId = tidied n site.dag site.floors site.collected in
    let few : length collected - length site.collected < 2 ^ 32 = omega (arith, tidied-length n site.dag site.floors site.collected, ltb-true n (2 ^ 16) h) in
    good-reply (tidy site n).0 (Tidied (length collected - length site.collected))
    (reply-fits (Tidied (length collected - length site.collected)) refl (lt-ltb (length collected - length site.collected) (2 ^ 32) few))
