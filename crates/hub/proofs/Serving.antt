-- Requests that are cut from bytes and answered, one after another.
use Rattle.std.proofs.Common.{◌≡◌, ℕ, ◌+◌, ◌-◌, ◌≤◌, ◌<◌, min, Bool, true, false, List, [], ◌∷◌, ◌++◌, length, take, drop, get_or, ◌⊎◌, map, refl, sym, ap}
use Rattle.std.proofs.Common.{◌∙◌, subst, inl, inr, arith, append_assoc}
use Rattle.std.specs.Prelude.{◌≢◌, filter, bytes_eq, slice_get, option_map, IfSome, Option, Some, None}
use denote.Ref.{Bor}
use Rattle.std.proofs.Math.Seq.{take-suc}
use Rattle.std.proofs.lemmas.List.{append-nil, map-append, length-append, length-map, take_all, take-map, get_or-map}
use Rattle.std.proofs.lemmas.List.Elements.{filter-append}
use Rattle.std.proofs.lemmas.Bool.{false_from_ne_true}
use Rattle.tardis_base.specs.Plain.{Event, PlainMachine, Answers, no_memory}
use Rattle.frame_cut.specs.Frames.{frame, frames, IsBody, Cuts}
use Rattle.frame_cut.proofs.Joins.{frames-append, more_bodies}
use Rattle.frame_cut.proofs.Words.{length-frame}
use Rattle.tardis_base.specs.Sizes.{piece, longest_framed}
use Rattle.hub.specs.declared.upkeeps.LastReply.{LastReply}
use Rattle.hub.specs.declared.upkeeps.Upkeep.{Upkeep}
use Rattle.hub.specs.Upkeeps.{UpkeepRule, TallyState, is_counted, counted_by, ends_with, with_count, noted, rule_of, said, nothing_said, late_of, with_last}
use Rattle.hub.specs.declared.ports.Seen.{Seen}
use Rattle.hub.specs.Telling.{Tells, own_replies}
use Rattle.hub.proofs.Tellings.{tells_none, replies_then}
use Rattle.hub.specs.Answering.{asks, Replied, Answered, Serves, Asked}
use Rattle.hub.specs.Connections.{IsStopped}

-- answers, and then more answers
pub answers_append : {S : Type 0} (m : PlainMachine S) (s : S) (es fs : List Event) (ys zs : List (List ℕ)) (t u : S) → Answers m s es ys t →
    Answers m t fs zs u → Answers m s (es ++ fs) (ys ++ zs) u
answers_append m s [] fs [] zs t u p q = subst (λ x. Answers m x fs zs u) p q
answers_append m s (e ∷ es) fs (y ∷ ys) zs t u p q =
    elim p as (λ _. ((y ≡ m.reply s e) × Answers m (m.step s e) (es ++ fs) (ys ++ zs) u)
    ⊎ ((y ≡ no_memory) × (m.is_sure e ≡ false) × Answers m s (es ++ fs) (ys ++ zs) u)) [
      | inl a ↦ inl (a.0, answers_append m (m.step s e) es fs ys zs t u a.1 q)
      | inr b ↦ inr (b.0, b.1, answers_append m s es fs ys zs t u b.2 q)
    ]
answers_append m s [] fs (y ∷ ys) zs t u p q = absurd p
answers_append m s (e ∷ es) fs [] zs t u p q = absurd p

-- nothing was cut yet
counted_none : (rule : Option UpkeepRule) → counted_by rule [] ≡ 0
counted_none None = refl
counted_none (Some rule) = refl

pub noted_none : (tally : TallyState) → tally ≡ noted tally []
noted_none tally =
    let none : counted_by tally.rule [] ≡ 0 = counted_none tally.rule in
    let all : tally.count ≡ tally.count + counted_by tally.rule [] = omega (arith, none) in
    ap (λ n. with_count tally n) all

abbrev pub serves_none : {S : Type 0} (m : PlainMachine S) (from : S → Type 0) (actor : ℕ) (held waiting : List ℕ) (tally : TallyState) →
    Serves m from from actor held held waiting waiting tally tally
serves_none m from actor held waiting tally = record {
  bodies = [];
  read = record { whole = refl; each = tt };
  answered = λ s f. record { replies = []; state = s; answers = refl; stands = f; put = sym (append-nil waiting); counts = noted_none tally };
}

-- one body is at the front
one_body : (bytes body rest : List ℕ) → IsBody body → bytes ≡ frame body ++ rest → Cuts bytes (body ∷ []) rest
one_body bytes body rest fits is = record {
  whole = is ∙ ap (λ z. z ++ rest) (sym (append-nil (frame body)));
  each = (fits, tt);
}

frames_one : (replies : List (List ℕ)) (reply : List ℕ) → frames (replies ++ reply ∷ []) ≡ frames replies ++ frame reply
frames_one replies reply = frames-append replies (reply ∷ []) ∙ ap (λ z. frames replies ++ z) (append-nil (frame reply))

-- replies are counted, and then more
counted_append : (rule : Option UpkeepRule) (xs ys : List (List ℕ)) → counted_by rule (xs ++ ys) ≡ counted_by rule xs + counted_by rule ys
counted_append None xs ys = refl
counted_append (Some rule) xs ys =
    ap length (filter-append (is_counted rule.codes) xs ys)
    ∙ length-append (filter (is_counted rule.codes) xs) (filter (is_counted rule.codes) ys)

pub noted_more : (tally mid next : TallyState) (xs ys : List (List ℕ)) → mid ≡ noted tally xs → next ≡ noted mid ys → next ≡ noted tally (xs ++ ys)
noted_more tally mid next xs ys p q =
    let sum : counted_by tally.rule (xs ++ ys) ≡ counted_by tally.rule xs + counted_by tally.rule ys = counted_append tally.rule xs ys in
    let all : (tally.count + counted_by tally.rule xs) + counted_by tally.rule ys ≡ tally.count + counted_by tally.rule (xs ++ ys) = omega (arith, sum) in
    subst (λ t. next ≡ noted t ys) p q ∙ ap (λ n. with_count tally n) all

-- requests were answered, and then one more
answered_body : {S : Type 0} (m : PlainMachine S) (mid to : S → Type 0) (actor : ℕ) (p q r : List ℕ) (k l n : TallyState) (s : S) (bodies : List (List ℕ))
    (body : List ℕ) → Answered m mid actor p q k l bodies s → ((t : S) → mid t → Replied m to q r l n t (actor, body)) →
    Answered m to actor p r k n (bodies ++ body ∷ []) s
answered_body m mid to actor p q r k l n s bodies body a one =
    let b = one a.state a.stands in
    record {
      replies = a.replies ++ b.reply ∷ [];
      state = b.state;
      answers = subst (λ es. Answers m s es (a.replies ++ b.reply ∷ []) b.state) (sym (map-append (λ z. (actor, z)) bodies (body ∷ [])))
          (answers_append m s (asks actor bodies) ((actor, body) ∷ []) a.replies (b.reply ∷ []) a.state b.state a.answers b.answers);
      stands = b.stands;
      put = b.put ∙ (ap (λ z. z ++ frame b.reply) a.put ∙ (append_assoc p (frames a.replies) (frame b.reply)
          ∙ ap (λ z. p ++ z) (sym (frames_one a.replies b.reply))));
      counts = noted_more k l n a.replies (b.reply ∷ []) a.counts b.counts;
    }

pub serves_body : {S : Type 0} (m : PlainMachine S) (from mid to : S → Type 0) (actor : ℕ) (held between rest p q r body : List ℕ) (k l n : TallyState)
    → Serves m from mid actor held between p q k l → IsBody body → between ≡ frame body ++ rest → ((s : S) → mid s → Replied m to q r l n s (actor, body))
    → Serves m from to actor held rest p r k n
serves_body m from mid to actor held between rest p q r body k l n a fits is one = record {
  bodies = a.bodies ++ body ∷ [];
  read = more_bodies held a.bodies (body ∷ []) between rest a.read (one_body between body rest fits is);
  answered = λ s f. answered_body m mid to actor p q r k l n s a.bodies body (a.answered s f) one;
}

-- a cutter holds less when it has handed out a frame
pub fewer : (old new body : List ℕ) → new ≡ drop (4 + length body) old → old ≡ frame body ++ drop (4 + length body) old → ℕ.suc (length new) ≤ length old
fewer old new body left whole =
    let long : length old ≡ length (frame body) + length (drop (4 + length body) old) = ap length whole
    ∙ length-append (frame body) (drop (4 + length body) old) in
    let head : length (frame body) ≡ 4 + length body = length-frame body in
    let less : length new ≡ length (drop (4 + length body) old) = ap length left in
    omega (arith, long, head, less)

-- and more waits when a reply was put behind it
pub one_longer : (old new reply : List ℕ) → new ≡ old ++ frame reply → length old + 1 ≤ length new
one_longer old new reply put =
    let long : length new ≡ length old + length (frame reply) = ap length put ∙ length-append old (frame reply) in
    let head : length (frame reply) ≡ 4 + length reply = length-frame reply in
    omega (arith, long, head)

-- where little waits and the next frame isn't too long, few bytes are held
pub bounded_of : (long : Bool) (held waiting : List ℕ) → IsStopped long held waiting → long ≡ false → length waiting ≤ piece → length held ≤ longest_framed
bounded_of true held waiting s short few = absurd (cc)
bounded_of false held waiting s short few = elim s [
  | inl p ↦ elim p [
    | inl a ↦ omega (arith, a)
    | inr b ↦ omega (arith, b.0, b.1)
  ]
  | inr much ↦ absurd (omega (arith, much, few))
]

-- a too long frame stays next, whatever was written
pub still_long : (long : Bool) (held waiting other : List ℕ) → long ≡ true → IsStopped long held waiting → IsStopped long held other
still_long true held waiting other is s = s
still_long false held waiting other is s = absurd (cc)

-- all of a bytes was fed
pub fed_all : {S : Type 0} (m : PlainMachine S) (from to : S → Type 0) (actor : ℕ) (held bytes fed rest p q : List ℕ) (k l : TallyState) (n : ℕ) → fed ≡ held
    ++ take n bytes → n ≡ min (length bytes) (1114116 - length held) → length held ≤ longest_framed → length bytes ≤ piece
    → Serves m from to actor fed rest p q k l → Serves m from to actor (held ++ bytes) rest p q k l
fed_all m from to actor held bytes fed rest p q k l n is count few size a =
    subst (λ b. Serves m from to actor b rest p q k l) (is ∙ ap (λ z. held ++ z) (take_all n bytes (omega (arith, count, few, size)))) a

-- no request was asked yet, one more, and all
pub asked_none : {S : Type 0} (m : PlainMachine S) (from : S → Type 0) (rule : UpkeepRule) (last : LastReply) (a : Option (List Seen)) (s : S) →
    last ≡ nothing_said → from s → Asked m from [] rule last a a s
asked_none m from rule last a s none f =
    record { replies = []; state = s; answers = refl; stands = f; says = none; told = tells_none a }

-- the last reply is the last of more
ends_later : (full reply : List ℕ) (replies more : List (List ℕ)) → ends_with full (replies ++ reply ∷ more) ≡ ends_with full (reply ∷ more)
ends_later full reply [] more = refl
ends_later full reply (x ∷ []) more = refl
ends_later full reply (x ∷ y ∷ replies) more = ends_later full reply (y ∷ replies) more

said_later : (rule : UpkeepRule) (reply : List ℕ) (replies more : List (List ℕ)) → said rule (reply ∷ more) ≡ said rule (replies ++ reply ∷ more)
said_later rule reply replies more =
    ap (λ b. record { is_full = b; is_idle = ends_with rule.idle (reply ∷ more); is_held = ends_with rule.held (reply ∷ more) })
    (sym (ends_later rule.full reply replies more))
    ∙ (ap (λ b. record { is_full = ends_with rule.full (replies ++ reply ∷ more); is_idle = b; is_held = ends_with rule.held (reply ∷ more) })
    (sym (ends_later rule.idle reply replies more))
    ∙ ap (λ b. record {
      is_full = ends_with rule.full (replies ++ reply ∷ more);
      is_idle = ends_with rule.idle (replies ++ reply ∷ more);
      is_held = b;
    })
    (sym (ends_later rule.held reply replies more)))

-- and one request has one reply
says_last : {S : Type 0} (m : PlainMachine S) (s t : S) (event : Event) (rule : UpkeepRule) (before replies : List (List ℕ)) (last : LastReply) →
    Answers m s (event ∷ []) replies t → last ≡ said rule replies → last ≡ said rule (before ++ replies)
says_last m s t event rule before [] last answers is = absurd answers
says_last m s t event rule before (reply ∷ more) last answers is = is ∙ said_later rule reply before more

pub asked_more : {S : Type 0} (m : PlainMachine S) (mid to : S → Type 0) (bodies : List (List ℕ)) (body : List ℕ) (rule : UpkeepRule)
    (was last : LastReply) (a b c : Option (List Seen)) (s : S) → Asked m mid bodies rule was a b s →
    ((t : S) → mid t → Asked m to (body ∷ []) rule last b c t) → Asked m to (bodies ++ body ∷ []) rule last a c s
asked_more m mid to bodies body rule was last a b c s first one =
    let next = one first.state first.stands in
    record {
      replies = first.replies ++ next.replies;
      state = next.state;
      answers = subst (λ es. Answers m s es (first.replies ++ next.replies) next.state) (sym (map-append (λ z. (0, z)) bodies (body ∷ [])))
          (answers_append m s (asks 0 bodies) (asks 0 (body ∷ [])) first.replies next.replies first.state next.state first.answers next.answers);
      stands = next.stands;
      says = says_last m first.state next.state (0, body) rule first.replies next.replies last next.answers next.says;
      told = replies_then a b c first.replies next.replies first.told next.told;
    }

-- the requests up to this place, and the next
pub one_more : (requests : List (Bor (List ℕ))) (place : ℕ) (other : Bor (List ℕ)) → place < length requests → take (place + 1) (map (λ r. r.now) requests)
    ≡ take place (map (λ r. r.now) requests) ++ (get_or requests place other).now ∷ []
one_more requests place other within =
    let next : place + 1 ≡ ℕ.suc place = omega arith in
    let many : length (map (λ r. r.now) requests) ≡ length requests = length-map requests (λ (r : Bor (List ℕ)). r.now) in
    ap (λ n. take n (map (λ r. r.now) requests)) next
    ∙ (take-suc (map (λ r. r.now) requests) place [] (omega (arith, within, many))
    ∙ ap (λ b. take place (map (λ r. r.now) requests) ++ b ∷ []) (get_or-map (λ (r : Bor (List ℕ)). r.now) requests place other [] within))

pub all_of : (requests : List (Bor (List ℕ))) (place : ℕ) → length requests ≤ place → take place (map (λ r. r.now) requests) ≡ map (λ r. r.now) requests
all_of requests place past =
    let many : length (map (λ r. r.now) requests) ≡ length requests = length-map requests (λ (r : Bor (List ℕ)). r.now) in
    take_all place (map (λ r. r.now) requests) (omega (arith, past, many))

-- all but the last request, and another one in its place
pub asked_none_late : {S : Type 0} (m : PlainMachine S) (to : S → Type 0) (requests : List (List ℕ)) (late : Option (List ℕ)) (rule : UpkeepRule)
    (last : LastReply) (a b : Option (List Seen)) (s : S) → None ≡ late → Asked m to requests rule last a b s → Asked m to (with_last requests late) rule last a b s
asked_none_late m to requests late rule last a b s is answered = subst (λ o. Asked m to (with_last requests o) rule last a b s) is answered

all_but_last : (requests : List (Bor (List ℕ))) (before : ℕ) → before ≡ length requests - 1 →
    map (λ r. r.now) (take before requests) ≡ take (length (map (λ r. r.now) requests) - 1) (map (λ r. r.now) requests)
all_but_last requests before is =
    let many : length (map (λ r. r.now) requests) ≡ length requests = length-map requests (λ (r : Bor (List ℕ)). r.now) in
    sym (take-map (λ (r : Bor (List ℕ)). r.now) before requests)
    ∙ ap (λ n. take n (map (λ r. r.now) requests)) (is ∙ ap (λ n. n - 1) (sym many))

pub asked_late : {S : Type 0} (m : PlainMachine S) (mid to : S → Type 0) (requests : List (Bor (List ℕ))) (before : ℕ) (body : List ℕ)
    (late : Option (List ℕ)) (rule : UpkeepRule) (was last : LastReply) (a b c : Option (List Seen)) (s : S) → before ≡ length requests - 1 → Some body ≡ late →
    Asked m mid (map (λ r. r.now) (take before requests)) rule was a b s → ((t : S) → mid t → Asked m to (body ∷ []) rule last b c t) →
    Asked m to (with_last (map (λ r. r.now) requests) late) rule last a c s
asked_late m mid to requests before body late rule was last a b c s front is first one =
    subst (λ o. Asked m to (with_last (map (λ r. r.now) requests) o) rule last a c s) is
    (subst (λ bodies. Asked m to (bodies ++ body ∷ []) rule last a c s) (all_but_last requests before front)
    (asked_more m mid to (map (λ r. r.now) (take before requests)) body rule was last a b c s first one))

-- one request was answered, or memory was wanting
pub asked_ok : {S : Type 0} (m : PlainMachine S) (to : S → Type 0) (body : List ℕ) (rule : UpkeepRule) (last : LastReply) (a b : Option (List Seen)) (s : S) →
    to (m.step s (0, body)) → last ≡ said rule (m.reply s (0, body) ∷ []) → Tells a b (own_replies (m.reply s (0, body) ∷ [])) →
    Asked m to (body ∷ []) rule last a b s
asked_ok m to body rule last a b s stepped says tells = record {
  replies = m.reply s (0, body) ∷ [];
  state = m.step s (0, body);
  answers = inl (refl, refl);
  stands = stepped;
  says = says;
  told = tells;
}

pub asked_err : {S : Type 0} (m : PlainMachine S) (to : S → Type 0) (body : List ℕ) (rule : UpkeepRule) (last : LastReply) (a b : Option (List Seen)) (s : S) →
    (m.is_sure (0, body) ≡ true → false ≡ true) → to s → last ≡ said rule (no_memory ∷ []) → Tells a b (own_replies (no_memory ∷ [])) →
    Asked m to (body ∷ []) rule last a b s
asked_err m to body rule last a b s unsure same says tells = record {
  replies = no_memory ∷ [];
  state = s;
  answers =
      inr (refl, false_from_ne_true (m.is_sure (0, body)) (λ e. let p : false ≡ true = unsure e in absurd (cc)), refl);
  stands = same;
  says = says;
  told = tells;
}

-- the late request after so many waits stands one place before
pub late_at : (rule : UpkeepRule) (waited : ℕ) → waited ≢ 0 → slice_get rule.late (waited - 1) ≡ late_of rule waited
late_at rule ℕ.zero some = absurd (some refl)
late_at rule (ℕ.suc k) some = let less : ℕ.suc k - 1 ≡ k = omega arith in ap (λ n. slice_get rule.late n) less

-- and it waits
pub waits_of : (upkeep : Option Upkeep) → IfSome (option_map rule_of upkeep) (λ rule. (0 < rule.after) × (0 < rule.later) × (0 < rule.wait)) →
    IfSome upkeep (λ u. 0 < u.wait)
waits_of None p = tt
waits_of (Some u) p = p.2
