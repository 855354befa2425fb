-- Where no fault came and the peer's answer is a batch, it is taken.
use Rattle.std.proofs.Common.{◌≡◌, ℕ, inl, inr, List, ◌++◌, Result, Ok, Err, refl, sym, ◌∙◌, subst}
use Rattle.tardis_base.specs.declared.records.Batch.{Batch}
use Rattle.tardis_base.specs.declared.replies.Reply.TheVariants.{Batch as BatchIs}
use Rattle.tardis_base.specs.Plain.{PlainMachine}
use Rattle.frame_cut.specs.Frames.{frame, IsBody, IsPartial, IsLong}
use Rattle.frame_cut.proofs.Words.{same_frame}
use Rattle.frame_cut.proofs.OneCut.{not_end}
use Rattle.wire_talk.specs.Spelled.{SpellsReply}
use Rattle.trail_log.specs.Trail.{Kept}
use Rattle.trail_log.specs.declared.acted.Acted.{Acted}
use Rattle.trail_log.specs.declared.acted.Acted.TheVariants.{Done as Answered, TrailFull as TrailIsFull, NoMemory as OutOfMemory}
use Rattle.dag_lock.specs.Known.{Known}
use Rattle.site_sync.specs.Asking.{items}
use Rattle.site_sync.specs.Fetching.{Fetched}
use Rattle.site_sync.specs.Delivering.{Delivers}
use Rattle.site_sync.specs.Exchanges.{IsEndOf, Uses, EndsWell}
use Rattle.site_sync.specs.declared.ends.SyncEnd.{SyncEnd}
use Rattle.site_sync.specs.declared.ends.SyncEnd.TheVariants.{Done, DialFault, ReadFault, WriteFault, Cut, LongFrame, BadReply, TrailFull, NoMemory}

-- a step that isn't answered ends it so
pub stops_well : (acted : Acted) (end : SyncEnd) → IsEndOf acted end → EndsWell end
stops_well Answered end e = absurd e
stops_well (TrailIsFull bytes) end e = subst EndsWell (sym e) tt
stops_well OutOfMemory end e = subst EndsWell (sym e) tt

module _ (body rest : List ℕ) (batch : Batch) (is : IsBody body) (spelled : SpellsReply body (BatchIs batch)) where
  -- why there is no batch is want of memory, or a fault
  why_well : (why : SyncEnd) (first left : List ℕ) → first ≡ frame body ++ rest → (why ≡ ReadFault → ⊥) → (why ≡ WriteFault → ⊥) →
      Fetched (Err why) first left → EndsWell why
  why_well (Done applied known early refused) first left e no_read no_write f = tt
  why_well (TrailFull bytes) first left e no_read no_write f = tt
  why_well NoMemory first left e no_read no_write f = tt
  why_well DialFault first left e no_read no_write f = absurd f
  why_well ReadFault first left e no_read no_write f = absurd (no_read refl)
  why_well WriteFault first left e no_read no_write f = absurd (no_write refl)
  why_well Cut first left e no_read no_write f = absurd (not_end body rest is (inl (subst (λ x. IsPartial x) e f.0)))
  why_well (LongFrame len) first left e no_read no_write f = absurd (not_end body rest is (inr (len, subst (λ x. IsLong x len) e f)))
  why_well BadReply first left e no_read no_write f =
      let same = same_frame f.0 body (f.1.behind ++ left) rest f.1.is_body is (sym f.1.whole ∙ e) in
      absurd (f.2 batch (subst (λ b. SpellsReply b (BatchIs batch)) (sym same.0) spelled))

  delivers_well : {M P : Type 0} (opening : M → P) (m : PlainMachine P) (z : Kept M) (batch' : Batch) (p q : Known) (end : SyncEnd) →
      Delivers opening m z (items batch') p q end → EndsWell end
  delivers_well opening m z batch' p q (Done applied known early refused) d = tt
  delivers_well opening m z batch' p q (TrailFull bytes) d = tt
  delivers_well opening m z batch' p q NoMemory d = tt
  delivers_well opening m z batch' p q DialFault d = absurd d
  delivers_well opening m z batch' p q ReadFault d = absurd d
  delivers_well opening m z batch' p q WriteFault d = absurd d
  delivers_well opening m z batch' p q Cut d = absurd d
  delivers_well opening m z batch' p q (LongFrame len) d = absurd d
  delivers_well opening m z batch' p q BadReply d = absurd d

  pub uses_well : {M P : Type 0} (opening : M → P) (m : PlainMachine P) (z : Kept M) (answer : Result Batch SyncEnd) (p q : Known) (end : SyncEnd)
      (first left : List ℕ) → first ≡ frame body ++ rest
      → (end ≡ ReadFault → ⊥) → (end ≡ WriteFault → ⊥) → Fetched answer first left → Uses opening m z answer p q end → EndsWell end
  uses_well opening m z (Ok got) p q end first left e no_read no_write f u = delivers_well opening m z got p q end u
  uses_well opening m z (Err why) p q end first left e no_read no_write f u =
      subst EndsWell (sym u.1) (why_well why first left e (λ w. no_read (u.1 ∙ w)) (λ w. no_write (u.1 ∙ w)) f)
