-- What is read of a link, piece by piece.
use Rattle.std.proofs.Common.{◌≡◌, ℕ, List, [], ◌++◌, length, take, Option, Some, None, Result, Ok, Err, IsTrue, refl, ap, sym, ◌∙◌, subst, arith, append_assoc, append-nil}
use Rattle.std.proofs.lemmas.List.{take_all}
use Rattle.tardis_base.specs.declared.records.Batch.{Batch}
use Rattle.tardis_base.specs.declared.replies.Reply.{Reply}
use Rattle.frame_cut.specs.Frames.{frame, IsBody, IsPartial, IsLong}
use Rattle.frame_cut.proofs.Words.{long_more}
use Rattle.wire_talk.specs.ReplyReadings.{reply_of}
use Rattle.wire_talk.specs.Memory.{reply_takes_no_memory}
use Rattle.wire_talk.specs.Laws.{RepliesHaveOneSpelling}
use Rattle.site_sync.specs.Fetching.{Gave, Fetched, FrameFirst, IsAnswer, TakesMemory}
use Rattle.site_sync.specs.declared.ends.SyncEnd.{SyncEnd}
use Rattle.site_sync.specs.declared.ends.SyncEnd.TheVariants.{Done, DialFault, ReadFault, WriteFault, Cut, LongFrame, BadReply, TrailFull, NoMemory}

-- a frame that is held was first
frame_first : (body held rest first left : List ℕ) → IsBody body → held ≡ frame body ++ rest → first ≡ held ++ left → FrameFirst body first left
frame_first body held rest first left is whole all = record {
  is_body = is;
  behind = rest;
  whole = all ∙ (ap (λ z. z ++ left) whole ∙ append_assoc (frame body) rest left);
}

pub fetched_frame : (body held rest first left : List ℕ) (r : Result Batch SyncEnd) → IsBody body → held ≡ frame body ++ rest → IsAnswer body r →
    first ≡ held ++ left → Fetched r first left
fetched_frame body held rest first left (Ok batch) is whole a all = (body, frame_first body held rest first left is whole all, a)
fetched_frame body held rest first left (Err BadReply) is whole a all = (body, frame_first body held rest first left is whole all, a)
fetched_frame body held rest first left (Err NoMemory) is whole a all = (body, frame_first body held rest first left is whole all, a)
fetched_frame body held rest first left (Err (Done applied known early refused)) is whole a all = absurd a
fetched_frame body held rest first left (Err DialFault) is whole a all = absurd a
fetched_frame body held rest first left (Err ReadFault) is whole a all = absurd a
fetched_frame body held rest first left (Err WriteFault) is whole a all = absurd a
fetched_frame body held rest first left (Err Cut) is whole a all = absurd a
fetched_frame body held rest first left (Err (LongFrame len)) is whole a all = absurd a
fetched_frame body held rest first left (Err (TrailFull bytes)) is whole a all = absurd a

-- bytes that are read as a reply, which isn't sure to be had
pub takes_memory : RepliesHaveOneSpelling → (body : List ℕ) (read : Option Reply) → reply_of body ≡ read → (read ≡ None → ⊥)
    → ((reply : Reply) → reply_of body ≡ Some reply → IsTrue (reply_takes_no_memory reply) → ⊥) → TakesMemory body
takes_memory one body None is some unsure = absurd (some refl)
takes_memory one body (Some reply) is some unsure = (reply, (one.some body reply).0 is, λ free. unsure reply is free)

-- an answer is no fault of the link or the dial
pub answer_end : (body : List ℕ) (r : Result Batch SyncEnd) → IsAnswer body r → (r ≡ Err ReadFault → ⊥) × (r ≡ Err WriteFault → ⊥) × (r ≡ Err DialFault → ⊥)
answer_end body (Ok batch) a = (λ e. absurd (cc), λ e. absurd (cc), λ e. absurd (cc))
answer_end body (Err BadReply) a = (λ e. absurd (cc), λ e. absurd (cc), λ e. absurd (cc))
answer_end body (Err NoMemory) a = (λ e. absurd (cc), λ e. absurd (cc), λ e. absurd (cc))
answer_end body (Err (Done applied known early refused)) a = absurd a
answer_end body (Err DialFault) a = absurd a
answer_end body (Err ReadFault) a = absurd a
answer_end body (Err WriteFault) a = absurd a
answer_end body (Err Cut) a = absurd a
answer_end body (Err (LongFrame len)) a = absurd a
answer_end body (Err (TrailFull bytes)) a = absurd a

pub fetched_long : (held first left : List ℕ) (len : ℕ) → IsLong held len → first ≡ held ++ left → Fetched (Err (LongFrame len)) first left
fetched_long held first left len long all = subst (λ z. IsLong z len) (sym all) (long_more held left len long)

pub fetched_cut : (held first before after : List ℕ) → IsPartial held → first ≡ held ++ before → before ≡ [] → before ≡ [] ++ after →
    Fetched (Err Cut) first after
fetched_cut held first before after partial all none moved =
    (subst (λ z. IsPartial z) (sym (all ∙ (ap (λ z. held ++ z) none ∙ append-nil held))) partial, sym moved ∙ none)

pub fetched_fault : (held first before after : List ℕ) → IsPartial held → first ≡ held ++ before → after ≡ before → Fetched (Err ReadFault) first after
fetched_fault held first before after partial all same = (held, partial, all ∙ ap (λ z. held ++ z) (sym same))

-- a piece more is held
pub fed : (held first before after new piece taken : List ℕ) (n : ℕ) → first ≡ held ++ before → before ≡ taken ++ after → piece ≡ taken → new ≡ held
    ++ take n piece → n ≡ length piece → first ≡ new ++ after
fed held first before after new piece taken n all moved is grown whole =
    let new' : new ≡ held ++ taken = grown ∙ ap (λ z. held ++ z) (ap (λ k. take k piece) whole ∙ (take_all (length piece) piece (omega arith) ∙ is)) in
    all ∙ (ap (λ z. held ++ z) moved ∙ (sym (append_assoc held taken after) ∙ ap (λ z. z ++ after) (sym new')))

-- all was given where no giving failed
pub gave_all : (r : Result Batch SyncEnd) (before after bytes : List ℕ) → (r ≡ Err WriteFault → ⊥) → after ≡ before ++ bytes → Gave r before after bytes
gave_all (Ok batch) before after bytes other e = e
gave_all (Err BadReply) before after bytes other e = e
gave_all (Err NoMemory) before after bytes other e = e
gave_all (Err (Done applied known early refused)) before after bytes other e = e
gave_all (Err DialFault) before after bytes other e = e
gave_all (Err ReadFault) before after bytes other e = e
gave_all (Err WriteFault) before after bytes other e = absurd (other refl)
gave_all (Err Cut) before after bytes other e = e
gave_all (Err (LongFrame len)) before after bytes other e = e
gave_all (Err (TrailFull bytes')) before after bytes other e = e
