-- What the hub's connection tells of the talk that it has.
use Rattle.std.proofs.Common.{◌≡◌, ℕ, ◌<◌, ◌==◌, Bool, true, false, List, [], ◌++◌, length, drop, Option, Some, None, IfSome, ◌⊎◌, refl, sym, ap, ◌∙◌, subst}
use Rattle.std.proofs.Common.{inl, inr, arith, append_assoc}
use Rattle.std.proofs.lemmas.Bool.{cases_eq, eq-eqb, eqb-true, false_from_ne_true}
use Rattle.std.proofs.lemmas.List.{drop_at}
use Rattle.frame_cut.specs.Frames.{frames, Cuts, IsEnd}
use Rattle.frame_cut.proofs.Joins.{frames-append, more_bodies, more_bytes}
use Rattle.tardis_base.specs.Sizes.{piece}
use Rattle.hub.specs.Connections.{ConnectionState, connection_at, OthersStay, IsStopped}
use Rattle.hub.specs.Talks.{Talk, no_talk, more_talk, held, waits, IsTalk}
use Rattle.hub.specs.Turns.{there}
use Rattle.hub.specs.Keeping.{IsConnectionOf, Fits}

-- what waits and what is held
pub waits_is : (t : Talk) (w : List ℕ) → t.wrote ++ w ≡ frames t.replies → waits t ≡ w
waits_is t w given = ap (drop (length t.wrote)) (sym given) ∙ drop_at t.wrote w (length t.wrote) refl

pub held_is : (t : Talk) (r : List ℕ) → Cuts t.came t.bodies r → held t ≡ r
held_is t r cut = ap (drop (length (frames t.bodies))) cut.whole ∙ drop_at (frames t.bodies) r (length (frames t.bodies)) refl

ends : (long : Bool) (h w : List ℕ) → IsStopped long h w → IsEnd h ⊎ (piece < length w)
ends true h w p = inl (inr p)
ends false h w p = elim p [
  | inl a ↦ inl (inl a)
  | inr b ↦ inr b
]

is_talk : (t : Talk) (l : ConnectionState) → IsConnectionOf t l → IsTalk t
is_talk t l f =
    let h : held t ≡ l.cutter = held_is t l.cutter f.cut in
    let w : waits t ≡ l.waiting = waits_is t l.waiting f.given in
    record {
      asked = subst (λ r. Cuts t.came t.bodies r) (sym h) f.cut;
      given = subst (λ z. t.wrote ++ z ≡ frames t.replies) (sym w) f.given;
      prompt = subst (λ r. IsEnd r ⊎ (piece < length (waits t))) (sym h)
          (subst (λ z. IsEnd l.cutter ⊎ (piece < length z)) (sym w) (ends l.long l.cutter l.waiting f.stopped));
    }

-- a talk that a connection fits has its replies
pub each_talk : (o : Option Talk) (l : Option ConnectionState) → Fits o l → IfSome o IsTalk
each_talk None l f = tt
each_talk (Some t) (Some l) f = is_talk t l f
each_talk (Some t) None f = absurd f

pub none_of : (o : Option Talk) → Fits o None → o ≡ None
none_of None f = refl
none_of (Some t) f = absurd f

-- nothing yet
pub fresh_connection : (door : ℕ) (l : ConnectionState) → l ≡ record { door = door; cutter = []; waiting = []; long = false } →
    IsConnectionOf (no_talk door) l
fresh_connection door l is = subst (λ k. IsConnectionOf (no_talk door) k) (sym is) (record {
  door = refl;
  cut = record { whole = refl; each = tt };
  given = refl;
  stopped = inl (inl (omega arith));
})

-- what was written and what waits now
given_more : (tw w lw left kw : List ℕ) (old new : List (List ℕ)) → tw ++ lw ≡ frames old → lw ≡ w ++ left → kw ≡ left ++ frames new → (tw ++ w)
    ++ kw ≡ frames (old ++ new)
given_more tw w lw left kw old new given parts put =
    ap (λ z. (tw ++ w) ++ z) put
    ∙ (sym (append_assoc (tw ++ w) left (frames new))
    ∙ (ap (λ z. z ++ frames new) (append_assoc tw w left ∙ (ap (λ z. tw ++ z) (sym parts) ∙ given))
    ∙ sym (frames-append old new)))

-- bytes came, a front of what waits was written, and requests were answered
pub connection_more : (t : Talk) (l k : ConnectionState) (came w left : List ℕ) (bodies replies : List (List ℕ)) → IsConnectionOf t l → k.door ≡ l.door → l.waiting ≡ w ++ left →
    Cuts (l.cutter ++ came) bodies k.cutter → k.waiting ≡ left ++ frames replies → IsStopped k.long k.cutter k.waiting →
    IsConnectionOf (more_talk t came w bodies replies) k
connection_more t l k came w left bodies replies f same parts cut put stopped = record {
  door = same ∙ f.door;
  cut = more_bodies (t.came ++ came) t.bodies bodies (l.cutter ++ came) k.cutter (more_bytes t.came came t.bodies l.cutter f.cut) cut;
  given = given_more t.wrote w l.waiting left k.waiting t.replies replies f.given parts put;
  stopped = stopped;
}

-- one slot is as said, and the others are as before
pub fits_there : (slot : ℕ) (here talks : ℕ → Option Talk) (old new : List (Option ConnectionState)) → ((n : ℕ) → Fits (talks n) (connection_at old n)) →
    Fits (here slot) (connection_at new slot) → OthersStay slot old new → (n : ℕ) → Fits (there (n == slot) (here n) (talks n)) (connection_at new n)
fits_there slot here talks old new before now others n =
    elim (cases_eq n slot) [
      | inl same ↦ subst (λ b. Fits (there b (here n) (talks n)) (connection_at new n)) (sym (eq-eqb n slot same))
          (subst (λ k. Fits (here k) (connection_at new k)) (sym same) now)
      | inr other ↦ subst (λ b. Fits (there b (here n) (talks n)) (connection_at new n)) (sym (false_from_ne_true (n == slot) (λ e. other (eqb-true n slot e))))
          (subst (λ l. Fits (talks n) l) (sym (others n other)) (before n))
    ]
