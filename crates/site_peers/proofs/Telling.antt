-- Reading statistics, and what memory is wanting for.
use Rattle.std.proofs.Common.{◌≡◌, ◌∙◌, ◌↔◌, ℕ, List, [], ◌∷◌, IsTrue, Option, Some, None, Result, Err, refl, sym, ap, subst, inl, inr, arith}
use Rattle.tardis_base.specs.declared.faults.ReadFault.{ReadFault}
use Rattle.tardis_base.specs.declared.faults.ReadFault.TheVariants.{Malformed, NoMemory as OutOfMemory}
use Rattle.tardis_base.specs.declared.replies.SiteLine.{SiteLine}
use Rattle.tardis_base.specs.declared.replies.Reply.{Reply}
use Rattle.tardis_base.specs.declared.replies.Reply.TheVariants.{Opened, Begun, Merging, Value, Deleted, Absent, Done, Committed, Ended, States, Keys, Raised}
use Rattle.tardis_base.specs.declared.replies.Reply.TheVariants.{Tidied, Stat as Statistics, Shown, Batch, Applied, Known, Early, Closed, Refused, NoMemory}
use Rattle.tardis_base.specs.Plain.{PlainMachine, Answers, no_memory}
use Rattle.wire_talk.specs.Memory.{reply_takes_no_memory}
use Rattle.wire_talk.specs.ReplyReadings.{reply_of}
use Rattle.wire_talk.specs.Spelled.{SpellsReply}
use Rattle.wire_talk.specs.Spellings.{reply_spelling}
use Rattle.wire_talk.specs.Laws.{RepliesHaveOneSpelling}
use Rattle.site_peers.specs.Asking.{by_nobody, meeting, met, stat, StatesLines, AreStatistics}
use Rattle.site_peers.specs.Hearing.{TakesMemory}

-- bytes that are read as a reply, which isn't sure to be had
pub takes_memory : RepliesHaveOneSpelling → (body : List ℕ) (read : Option Reply) → reply_of body ≡ read → (read ≡ None → ⊥)
    → ((reply : Reply) → reply_of body ≡ Some reply → IsTrue (reply_takes_no_memory reply) → ⊥) → TakesMemory body
takes_memory one body None is some unsure = absurd (some refl)
takes_memory one body (Some reply) is some unsure = (reply, (one.some body reply).0 is, λ free. unsure reply is free)

-- a reply that has lines is statistics
pub record HasLines (told : Reply) (lines : List SiteLine) : Type 0 where
  pub known : ℕ
  pub kept : ℕ
  pub leaves : ℕ
  pub sessions : ℕ
  pub is : told ≡ Statistics known kept leaves sessions lines

pub has_lines : (told : Reply) (lines : List SiteLine) → StatesLines told lines → HasLines told lines
has_lines (Statistics known kept leaves sessions sites) lines e =
    record { known = known; kept = kept; leaves = leaves; sessions = sessions; is = ap (λ ls. Statistics known kept leaves sessions ls) (sym e) }
has_lines (Opened ceiling) lines e = absurd e
has_lines (Begun state) lines e = absurd e
has_lines (Merging states) lines e = absurd e
has_lines (Value writer value) lines e = absurd e
has_lines (Deleted writer) lines e = absurd e
has_lines Absent lines e = absurd e
has_lines Done lines e = absurd e
has_lines (Committed id parents) lines e = absurd e
has_lines (Ended state) lines e = absurd e
has_lines (States total first) lines e = absurd e
has_lines (Keys total first) lines e = absurd e
has_lines (Raised floor number) lines e = absurd e
has_lines (Tidied collected) lines e = absurd e
has_lines (Shown arrival children path) lines e = absurd e
has_lines (Batch batch) lines e = absurd e
has_lines Applied lines e = absurd e
has_lines Known lines e = absurd e
has_lines (Early have) lines e = absurd e
has_lines Closed lines e = absurd e
has_lines (Refused refusal) lines e = absurd e
has_lines NoMemory lines e = absurd e

none_some : (told : Reply) (o : Option Reply) → o ≡ None → o ≡ Some told → ⊥
none_some told o none some = absurd (cc)

-- statistics are read
pub no_fault : RepliesHaveOneSpelling → (bytes : List ℕ) (lines : List SiteLine) (result : Result Reply ReadFault) (fault : ReadFault) →
    ((result ≡ Err Malformed) ↔ (reply_of bytes ≡ None)) →
    ((reply : Reply) → reply_of bytes ≡ Some reply → IsTrue (reply_takes_no_memory reply) → result ≡ Err OutOfMemory → ⊥) → result ≡ Err fault →
    AreStatistics bytes lines → ⊥
no_fault one bytes lines result Malformed malformed sure is are =
    none_some are.told (reply_of bytes) (malformed.0 is) ((one.some bytes are.told).1 are.spelled)
no_fault one bytes lines result OutOfMemory malformed sure is are =
    let has = has_lines are.told lines are.states in
    sure are.told ((one.some bytes are.told).1 are.spelled) (subst (λ r. IsTrue (reply_takes_no_memory r)) (sym has.is) refl) is

-- what was read is the reply that they are
pub same_states : RepliesHaveOneSpelling → (bytes : List ℕ) (lines : List SiteLine) (reply : Reply) → SpellsReply bytes reply → AreStatistics bytes lines →
    StatesLines reply lines
same_states one bytes lines reply spelled are =
    subst (λ r. StatesLines r lines) (one.one_thing bytes are.told reply are.spelled spelled) are.states

abbrev pub first_byte : List ℕ → ℕ
first_byte [] = 0
first_byte (b ∷ bytes) = b

no_statistics : (lines : List SiteLine) → AreStatistics no_memory lines → ⊥
no_statistics lines are =
    let has = has_lines are.told lines are.states in
    let first : 22 ≡ 14 = ap first_byte (are.spelled.1 ∙ ap reply_spelling has.is) in
    absurd (omega (arith, first))

pub counts_are_current : {S : Type 0} (m : PlainMachine S) (s t : S) (reply : List ℕ) (lines : List SiteLine) →
    Answers m s (by_nobody (stat ∷ [])) (reply ∷ []) t → AreStatistics reply lines → AreStatistics (m.reply s (0, stat)) lines
counts_are_current m s t reply lines (inl a) are = subst (λ z. AreStatistics z lines) a.0 are
counts_are_current m s t reply lines (inr b) are = absurd (no_statistics lines (subst (λ z. AreStatistics z lines) b.0 are))

not_met : met ≡ no_memory → ⊥
not_met is = let first : 72 ≡ 22 = ap first_byte is in absurd (omega (arith, first))

pub the_met_were_met : {S : Type 0} (m : PlainMachine S) (s t : S) (introduction : List ℕ) (bodies replies : List (List ℕ)) →
    Answers m s (by_nobody (meeting introduction ∷ bodies)) (met ∷ replies) t →
    (m.reply s (0, meeting introduction) ≡ met) × Answers m (m.step s (0, meeting introduction)) (by_nobody bodies) replies t
the_met_were_met m s t introduction bodies replies (inl a) = (sym a.0, a.1)
the_met_were_met m s t introduction bodies replies (inr b) = absurd (not_met b.0)
