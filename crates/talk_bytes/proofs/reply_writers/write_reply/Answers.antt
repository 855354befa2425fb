use Rattle.std.proofs.Common.{◌++◌, ◌+◌, ◌≤◌, length, ap, sym, subst, ◌∙◌}
use Rattle.tardis_base.specs.Sizes.{longest_frame}
use Rattle.wire_talk.specs.Spellings.{reply_spelling}
use Rattle.talk_bytes.proofs.reply_writers.write_reply.Goals as goal

pub returns-in-Opened : goal.returns-in-Opened
returns-in-Opened c = c.write_code_with_id.ensures ∙ ap (λ x. c.args.out.now ++ reply_spelling x) (sym c.in-Opened.is)

pub returns-in-Begun : goal.returns-in-Begun
returns-in-Begun c = c.write_begun.ensures ∙ ap (λ x. c.args.out.now ++ reply_spelling x) (sym c.in-Begun.is)

pub returns-in-Merging : goal.returns-in-Merging
returns-in-Merging c = c.write_merging.ensures ∙ ap (λ x. c.args.out.now ++ reply_spelling x) (sym c.in-Merging.is)

pub returns-in-Value : goal.returns-in-Value
returns-in-Value c = c.write_value_reply.ensures ∙ ap (λ x. c.args.out.now ++ reply_spelling x) (sym c.in-Value.is)

pub returns-in-Deleted : goal.returns-in-Deleted
returns-in-Deleted c = c.write_deleted.ensures ∙ ap (λ x. c.args.out.now ++ reply_spelling x) (sym c.in-Deleted.is)

pub returns-in-Absent : goal.returns-in-Absent
returns-in-Absent c = c.write_absent.ensures ∙ ap (λ x. c.args.out.now ++ reply_spelling x) (sym c.in-Absent.is)

pub returns-in-Done : goal.returns-in-Done
returns-in-Done c = c.write_done.ensures ∙ ap (λ x. c.args.out.now ++ reply_spelling x) (sym c.in-Done.is)

pub returns-in-Committed : goal.returns-in-Committed
returns-in-Committed c = c.write_committed.ensures ∙ ap (λ x. c.args.out.now ++ reply_spelling x) (sym c.in-Committed.is)

pub returns-in-Ended : goal.returns-in-Ended
returns-in-Ended c = c.write_ended.ensures ∙ ap (λ x. c.args.out.now ++ reply_spelling x) (sym c.in-Ended.is)

pub returns-in-States : goal.returns-in-States
returns-in-States c = c.write_states.ensures ∙ ap (λ x. c.args.out.now ++ reply_spelling x) (sym c.in-States.is)

pub returns-in-Keys : goal.returns-in-Keys
returns-in-Keys c = c.write_keys.ensures ∙ ap (λ x. c.args.out.now ++ reply_spelling x) (sym c.in-Keys.is)

pub returns-in-Raised : goal.returns-in-Raised
returns-in-Raised c = c.write_code_with_id_and_u32.ensures ∙ ap (λ x. c.args.out.now ++ reply_spelling x) (sym c.in-Raised.is)

pub returns-in-Tidied : goal.returns-in-Tidied
returns-in-Tidied c = c.write_code_with_u32.ensures ∙ ap (λ x. c.args.out.now ++ reply_spelling x) (sym c.in-Tidied.is)

pub returns-in-Stat : goal.returns-in-Stat
returns-in-Stat c = c.write_statistics.ensures ∙ ap (λ x. c.args.out.now ++ reply_spelling x) (sym c.in-Stat.is)

pub returns-in-Shown : goal.returns-in-Shown
returns-in-Shown c = c.write_shown.ensures ∙ ap (λ x. c.args.out.now ++ reply_spelling x) (sym c.in-Shown.is)

pub returns-in-Batch : goal.returns-in-Batch
returns-in-Batch c = c.write_batch_reply.ensures ∙ ap (λ x. c.args.out.now ++ reply_spelling x) (sym c.in-Batch.is)

pub returns-in-Applied : goal.returns-in-Applied
returns-in-Applied c = c.push_byte.ensures ∙ ap (λ x. c.args.out.now ++ reply_spelling x) (sym c.in-Applied.is)

pub returns-in-Known : goal.returns-in-Known
returns-in-Known c = c.push_byte-in-Known.ensures ∙ ap (λ x. c.args.out.now ++ reply_spelling x) (sym c.in-Known.is)

pub returns-in-Early : goal.returns-in-Early
returns-in-Early c = c.write_code_with_u32-in-Early.ensures ∙ ap (λ x. c.args.out.now ++ reply_spelling x) (sym c.in-Early.is)

pub returns-in-Closed : goal.returns-in-Closed
returns-in-Closed c = c.push_byte-in-Closed.ensures ∙ ap (λ x. c.args.out.now ++ reply_spelling x) (sym c.in-Closed.is)

pub returns-in-Refused : goal.returns-in-Refused
returns-in-Refused c = c.write_refused.ensures ∙ ap (λ x. c.args.out.now ++ reply_spelling x) (sym c.in-Refused.is)

pub returns-in-NoMemory : goal.returns-in-NoMemory
returns-in-NoMemory c = c.push_byte-in-NoMemory.ensures ∙ ap (λ x. c.args.out.now ++ reply_spelling x) (sym c.in-NoMemory.is)

pub write_code_with_id-requires : goal.write_code_with_id-requires
write_code_with_id-requires c = subst (λ x. length c.args.out.now + length (reply_spelling x) ≤ longest_frame) c.in-Opened.is c.requires.fits

pub write_begun-requires : goal.write_begun-requires
write_begun-requires c = subst (λ x. length c.args.out.now + length (reply_spelling x) ≤ longest_frame) c.in-Begun.is c.requires.fits

pub write_merging-requires-clause-fits : goal.write_merging-requires-clause-fits
write_merging-requires-clause-fits c = subst (λ x. length c.args.out.now + length (reply_spelling x) ≤ longest_frame) c.in-Merging.is c.requires.fits

pub write_value_reply-requires : goal.write_value_reply-requires
write_value_reply-requires c = subst (λ x. length c.args.out.now + length (reply_spelling x) ≤ longest_frame) c.in-Value.is c.requires.fits

pub write_deleted-requires : goal.write_deleted-requires
write_deleted-requires c = subst (λ x. length c.args.out.now + length (reply_spelling x) ≤ longest_frame) c.in-Deleted.is c.requires.fits

pub write_absent-requires : goal.write_absent-requires
write_absent-requires c = subst (λ x. length c.args.out.now + length (reply_spelling x) ≤ longest_frame) c.in-Absent.is c.requires.fits

pub write_done-requires : goal.write_done-requires
write_done-requires c = subst (λ x. length c.args.out.now + length (reply_spelling x) ≤ longest_frame) c.in-Done.is c.requires.fits

pub write_committed-requires-clause-fits : goal.write_committed-requires-clause-fits
write_committed-requires-clause-fits c = subst (λ x. length c.args.out.now + length (reply_spelling x) ≤ longest_frame) c.in-Committed.is c.requires.fits

pub write_ended-requires : goal.write_ended-requires
write_ended-requires c = subst (λ x. length c.args.out.now + length (reply_spelling x) ≤ longest_frame) c.in-Ended.is c.requires.fits

pub write_states-requires-clause-fits : goal.write_states-requires-clause-fits
write_states-requires-clause-fits c = subst (λ x. length c.args.out.now + length (reply_spelling x) ≤ longest_frame) c.in-States.is c.requires.fits

pub write_keys-requires-clause-fits : goal.write_keys-requires-clause-fits
write_keys-requires-clause-fits c = subst (λ x. length c.args.out.now + length (reply_spelling x) ≤ longest_frame) c.in-Keys.is c.requires.fits

pub write_code_with_id_and_u32-requires : goal.write_code_with_id_and_u32-requires
write_code_with_id_and_u32-requires c = subst (λ x. length c.args.out.now + length (reply_spelling x) ≤ longest_frame) c.in-Raised.is c.requires.fits

pub write_code_with_u32-requires : goal.write_code_with_u32-requires
write_code_with_u32-requires c = subst (λ x. length c.args.out.now + length (reply_spelling x) ≤ longest_frame) c.in-Tidied.is c.requires.fits

pub write_statistics-requires : goal.write_statistics-requires
write_statistics-requires c =
    record { fits = subst (λ x. length c.args.out.now + length (reply_spelling x) ≤ longest_frame) c.in-Stat.is c.requires.fits }

pub write_shown-requires-clause-fits : goal.write_shown-requires-clause-fits
write_shown-requires-clause-fits c = subst (λ x. length c.args.out.now + length (reply_spelling x) ≤ longest_frame) c.in-Shown.is c.requires.fits

pub write_batch_reply-requires-clause-fits : goal.write_batch_reply-requires-clause-fits
write_batch_reply-requires-clause-fits c = subst (λ x. length c.args.out.now + length (reply_spelling x) ≤ longest_frame) c.in-Batch.is c.requires.fits

pub push_byte-requires : goal.push_byte-requires
push_byte-requires c = subst (λ x. length c.args.out.now + length (reply_spelling x) ≤ longest_frame) c.in-Applied.is c.requires.fits

pub push_byte-requires-in-Known : goal.push_byte-requires-in-Known
push_byte-requires-in-Known c = subst (λ x. length c.args.out.now + length (reply_spelling x) ≤ longest_frame) c.in-Known.is c.requires.fits

pub write_code_with_u32-requires-in-Early : goal.write_code_with_u32-requires-in-Early
write_code_with_u32-requires-in-Early c = subst (λ x. length c.args.out.now + length (reply_spelling x) ≤ longest_frame) c.in-Early.is c.requires.fits

pub push_byte-requires-in-Closed : goal.push_byte-requires-in-Closed
push_byte-requires-in-Closed c = subst (λ x. length c.args.out.now + length (reply_spelling x) ≤ longest_frame) c.in-Closed.is c.requires.fits

pub write_refused-requires-clause-fits : goal.write_refused-requires-clause-fits
write_refused-requires-clause-fits c = subst (λ x. length c.args.out.now + length (reply_spelling x) ≤ longest_frame) c.in-Refused.is c.requires.fits

pub push_byte-requires-in-NoMemory : goal.push_byte-requires-in-NoMemory
push_byte-requires-in-NoMemory c = subst (λ x. length c.args.out.now + length (reply_spelling x) ≤ longest_frame) c.in-NoMemory.is c.requires.fits
