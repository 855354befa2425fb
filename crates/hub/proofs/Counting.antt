-- What is counted of a machine's replies.
use Rattle.std.proofs.Common.{◌≡◌, ℕ, ◌+◌, ◌<◌, ◌≤◌, Bool, true, false, List, [], ◌∷◌, length, Option, Some, None, ◌∙◌, refl, sym, ap, subst, inl, inr, arith}
use Rattle.std.specs.Prelude.{filter}
use Rattle.tardis_base.specs.Plain.{Event, PlainMachine, Answers, no_memory}
use Rattle.site_peers.specs.declared.peers.Peer.{Peer}
use Rattle.site_peers.specs.declared.deeds.Deed.{Deed}
use Rattle.site_peers.specs.Moves.{News}
use Rattle.site_peers.specs.Runs.{TurnsAreShort}
use Rattle.site_peers.specs.Turns.{Turned}
use Rattle.hub.specs.Upkeeps.{UpkeepRule, TallyState, is_counted, counted_by, with_count, noted}
use Rattle.hub.specs.Answering.{asks}
use Rattle.hub.specs.Noting.{Noted, noting}
use Rattle.hub.specs.Peers.{Asks}
use Rattle.hub.proofs.Serving.{noted_none, noted_more}

-- a reply that memory was wanting doesn't count
want_none : (rule : Option UpkeepRule) (ys : List (List ℕ)) → counted_by rule (no_memory ∷ ys) ≡ counted_by rule ys
want_none None ys = refl
want_none (Some rule) ys = refl

noted_want : (tally next : TallyState) (y : List ℕ) (ys : List (List ℕ)) → y ≡ no_memory → next ≡ noted tally ys → next ≡ noted tally (y ∷ ys)
noted_want tally next y ys is p =
    p
    ∙ (ap (λ n. with_count tally (tally.count + n)) (sym (want_none tally.rule ys))
    ∙ ap (λ z. noted tally (z ∷ ys)) (sym is))

-- what answers with the count answers without it, and all replies are counted
record Counts {S : Type 0} (m : PlainMachine S) (n : Noted S) (es : List Event) (ys : List (List ℕ)) (t : Noted S) : Type 0 where
  answers : Answers m n.state es ys t.state
  counts : t.tally ≡ noted n.tally ys

counts_of : {S : Type 0} (m : PlainMachine S) (n : Noted S) (es : List Event) (ys : List (List ℕ)) (t : Noted S) → Answers (noting m) n es ys t → Counts m n es ys t
counts_of m n [] [] t p = record { answers = ap (λ x. x.state) p; counts = ap (λ x. x.tally) p ∙ noted_none n.tally }
counts_of m n (e ∷ es) (y ∷ ys) t p = elim p as (λ _. Counts m n (e ∷ es) (y ∷ ys) t) [
  | inl a ↦
      let next = (noting m).step n e in
      let rest = counts_of m next es ys t a.1 in
      record {
        answers = inl (a.0, rest.answers);
        counts = noted_more n.tally next.tally t.tally (y ∷ []) ys (ap (λ z. noted n.tally (z ∷ [])) (sym a.0)) rest.counts;
      }
  | inr b ↦
      let rest = counts_of m n es ys t b.2 in
      record { answers = inr (b.0, b.1, rest.answers); counts = noted_want n.tally t.tally y ys b.0 rest.counts }
]
counts_of m n [] (y ∷ ys) t p = absurd p
counts_of m n (e ∷ es) [] t p = absurd p

-- as many replies as requests, and no more count
as_many : {S : Type 0} (m : PlainMachine S) (s : S) (bodies ys : List (List ℕ)) (t : S) → Answers m s (asks 0 bodies) ys t → length ys ≡ length bodies
as_many m s [] [] t p = refl
as_many m s (body ∷ bodies) (y ∷ ys) t p = elim p as (λ _. length (y ∷ ys) ≡ length (body ∷ bodies)) [
  | inl a ↦ ap (λ n. ℕ.suc n) (as_many m (m.step s (0, body)) bodies ys t a.1)
  | inr b ↦ ap (λ n. ℕ.suc n) (as_many m s bodies ys t b.2)
]
as_many m s [] (y ∷ ys) t p = absurd p
as_many m s (body ∷ bodies) [] t p = absurd p

one_at_most : (codes y : List ℕ) (ys : List (List ℕ)) (b : Bool) → is_counted codes y ≡ b → length (filter (is_counted codes) ys) ≤ length ys →
    length (filter (is_counted codes) (y ∷ ys)) ≤ length (y ∷ ys)
one_at_most codes y ys true is p = rw is (omega (arith, p))
one_at_most codes y ys false is p = rw is (omega (arith, p))

few_count : (codes : List ℕ) (ys : List (List ℕ)) → length (filter (is_counted codes) ys) ≤ length ys
few_count codes [] = omega arith
few_count codes (y ∷ ys) = one_at_most codes y ys (is_counted codes y) refl (few_count codes ys)

few_by : (rule : Option UpkeepRule) (ys : List (List ℕ)) → counted_by rule ys ≤ length ys
few_by None ys = omega arith
few_by (Some rule) ys = few_count rule.codes ys

-- what a peer asked of the machine that counts
asked_noting : {S : Type 0} (m : PlainMachine S) (from to : S → Type 0) (p : Peer) (news : News) (now : ℕ) (deed : Deed) (q : Peer) (k l : TallyState) →
    TurnsAreShort → k.count ≤ 4294967295 →
    Turned (noting m) (λ n. from n.state × (n.tally.count < 18446744073709551615 → k ≡ n.tally)) (λ n. to n.state × (n.tally.count < 18446744073709551615 → l ≡ n.tally))
    p news now deed q → Asks m from to p news now deed q k l
asked_noting {S = S} m from to p news now deed q k l short few made = record {
  bodies = made.bodies;
  replies = made.replies;
  answered = λ s f.
      let n : Noted S = record { state = s; tally = k; machine = 0; counter = 0 } in
      let a = made.answered n (f, λ less. refl) in
      let r = counts_of m n (asks 0 made.bodies) made.replies a.state a.answers in
      let most : length made.bodies ≤ 64 = short p q (record { now = now; news = news; bodies = made.bodies; replies = made.replies; deed = deed }) made.does in
      let many : length made.replies ≡ length made.bodies = as_many m s made.bodies made.replies a.state.state r.answers in
      let no_more : counted_by k.rule made.replies ≤ length made.replies = few_by k.rule made.replies in
      let count : a.state.tally.count ≡ k.count + counted_by k.rule made.replies = ap (λ t. t.count) r.counts in
      record {
        state = a.state.state;
        answers = r.answers;
        stands = a.stands.0;
        counts = a.stands.1 (omega (arith, most, many, no_more, count, few)) ∙ r.counts;
      };
  moves = made.does;
}

-- and the program holds both by the names that they had
pub asked_through : {S M : Type 0} (m : PlainMachine S) (stands : M → S → Type 0) (before after held : M) (p : Peer) (news : News) (now : ℕ) (deed : Deed) (q : Peer)
    (k l other : TallyState) → TurnsAreShort → k.count ≤ 4294967295 → after ≡ held → l ≡ other →
    Turned (noting m) (λ n. stands before n.state × (n.tally.count < 18446744073709551615 → k ≡ n.tally))
    (λ n. stands held n.state × (n.tally.count < 18446744073709551615 → other ≡ n.tally)) p news now deed q →
    Asks m (stands before) (stands after) p news now deed q k l
asked_through m stands before after held p news now deed q k l other short few same kept made =
    subst (λ v. Asks m (stands before) (stands v) p news now deed q k l) (sym same)
    (subst (λ t. Asks m (stands before) (stands held) p news now deed q k t) (sym kept)
    (asked_noting m (stands before) (stands held) p news now deed q k other short few made))
