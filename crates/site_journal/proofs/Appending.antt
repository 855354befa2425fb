-- The steps of an append, and what a crash leaves after each.
use Rattle.std.proofs.Common.{◌≡◌, inl, ℕ, ◌+◌, ◌-◌, ◌<◌, ◌≤◌, List, [], ◌∷◌, ◌++◌, length, take, drop, sym, ap, ◌∙◌, subst, arith}
use Rattle.std.specs.List.{AllByRecursion}
use Rattle.std.proofs.lemmas.List.{take_all}
use Rattle.disk_store.specs.Disks.{with_bytes, Torn, Follows, NoMore, Only, Elapses, LeavesOnly}
use Rattle.site_journal.specs.Texts.{IsEntry, marked, journal_text, EndsAt, HasAllOrNone}
use Rattle.site_journal.specs.Moments.{IsAtRest}
use Rattle.site_journal.proofs.Texts.{text_is_read}
use Rattle.site_journal.proofs.Crash.{staged, behind_images, gate_images, written_behind, written_gate, length_staged}
use Rattle.site_journal.proofs.Times.{started, goes_on}
use Rattle.disk_store.specs.declared.disks.Disk.{Ghosts as ADisk}

-- all of a journal text but its first byte
pub text_tail : (text : List ℕ) (more : List (List ℕ)) → text ≡ journal_text more → 0 < length more → journal_text more ≡ 1
    ∷ take (length text - 1) (drop 1 text)
text_tail text [] is some = absurd (omega arith)
text_tail text (entry ∷ entries) is some =
    let whole = journal_text (entry ∷ entries) in
    subst (λ t. whole ≡ 1 ∷ take (length t - 1) (drop 1 t)) (sym is) (ap (λ z. 1 ∷ z) (sym (take_all (length whole - 1) (drop 1 whole) (omega arith))))

module _ {D : Type 0} (k : ADisk D) (entries : List (List ℕ)) (place : ℕ) (tail : List ℕ)
    (each : AllByRecursion IsEntry entries) (at : place ≡ length (marked entries)) where
  -- what stands there after the first write
  pub is_staged : (old d e : D) → IsAtRest k old entries → k.reads d ≡ with_bytes (k.reads old) (place + 1) tail → k.reads e ≡ k.reads d →
      k.reads e ≡ staged entries tail
  is_staged old d e rest wrote same = same ∙ (wrote ∙ (ap (λ z. with_bytes z (place + 1) tail) rest.text ∙ written_behind entries each place at tail))

  pub room_behind : (old d e : D) → IsAtRest k old entries → k.reads d ≡ with_bytes (k.reads old) (place + 1) tail → k.reads e ≡ k.reads d →
      place ≤ length (k.reads e)
  room_behind old d e rest wrote same = omega (arith, ap length (is_staged old d e rest wrote same), length_staged entries each place at tail)

module _ {D : Type 0} (k : ADisk D)
    (entries more : List (List ℕ)) (place : ℕ) (tail : List ℕ) (each : AllByRecursion IsEntry entries) (fits : AllByRecursion IsEntry more)
    (at : place ≡ length (marked entries)) (text : journal_text more ≡ 1 ∷ tail) where
  abbrev pub P : List ℕ → Type 0
  P = HasAllOrNone entries more

  -- the images at rest
  rest_images : (old : D) → IsAtRest k old entries → (image : List ℕ) → k.may_leave old image → P image
  rest_images old rest image left = inl (0 ∷ [], subst (λ z. EndsAt z entries (0 ∷ [])) (sym (rest.durable image left ∙ rest.text)) (text_is_read entries each))

  pub first_images : (old d : D) → IsAtRest k old entries → Follows (Torn (place + 1) (length tail)) (k.may_leave old) (k.may_leave d) →
      (image : List ℕ) → k.may_leave d image → P image
  first_images old d rest follows image left =
      inl (behind_images entries each place at tail (k.may_leave old) (k.may_leave d) (subst (λ z. Only z (k.may_leave old)) rest.text rest.durable) follows
      image left)

  pub first_write : (old d : D) → ((image : List ℕ) → k.left_since old (k.moment old) image → k.may_leave old image) → IsAtRest k old entries →
      Follows (Torn (place + 1) (length tail)) (k.may_leave old) (k.may_leave d)
      → Elapses (k.moment old) (k.moment d) (k.left_since old) (k.left_since d) (k.may_leave d) → LeavesOnly k.moment k.left_since old d P
  first_write old d only rest follows time =
      goes_on k old old d P (started k old P only (rest_images old rest)) time
      (first_images old d rest follows)

  -- a sync that follows
  pub then_sync : (old d e : D) → LeavesOnly k.moment k.left_since old d P → ((image : List ℕ) → k.may_leave d image → P image) → NoMore (k.may_leave d) (k.may_leave e)
      → Elapses (k.moment d) (k.moment e) (k.left_since d) (k.left_since e) (k.may_leave e) → LeavesOnly k.moment k.left_since old e P
  then_sync old d e so_far here crash time = goes_on k old d e P so_far time (λ image left. here image (crash image left))

  pub gate_now : (e f : D) → k.reads e ≡ staged entries tail → Only (k.reads e) (k.may_leave e) → Follows (Torn place 1) (k.may_leave e) (k.may_leave f) →
      (image : List ℕ) → k.may_leave f image → P image
  gate_now e f is only follows = gate_images entries each place at more tail (k.may_leave e) (k.may_leave f) fits text
      (subst (λ z. Only z (k.may_leave e)) is only) follows

  pub gate_write : (old e f : D) → LeavesOnly k.moment k.left_since old e P → k.reads e ≡ staged entries tail → Only (k.reads e) (k.may_leave e) →
      Follows (Torn place 1) (k.may_leave e) (k.may_leave f)
      → Elapses (k.moment e) (k.moment f) (k.left_since e) (k.left_since f) (k.may_leave f) → LeavesOnly k.moment k.left_since old f P
  gate_write old e f so_far is only follows time = goes_on k old e f P so_far time (gate_now e f is only follows)

  pub is_appended : (e f h : D) → k.reads e ≡ staged entries tail → k.reads f ≡ with_bytes (k.reads e) place (1 ∷ []) → k.reads h ≡ k.reads f →
      k.reads h ≡ journal_text (entries ++ more)
  is_appended e f h is wrote same = same ∙ (wrote ∙ (ap (λ z. with_bytes z place (1 ∷ [])) is ∙ written_gate entries each place at more tail text))
