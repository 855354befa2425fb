use Rattle.std.proofs.Common.{◌++◌, ◌+◌, ◌≤◌, length, ap, sym, subst, ◌∙◌}
use Rattle.tardis_base.specs.Sizes.{longest_frame}
use Rattle.wire_talk.specs.Spellings.{request_spelling}
use Rattle.talk_bytes.proofs.request_writers.write_request.Goals as goal

pub returns-in-Open : goal.returns-in-Open
returns-in-Open c = c.write_open.ensures ∙ ap (λ x. c.args.out.now ++ request_spelling x) (sym c.in-Open.is)

pub returns-in-Begin : goal.returns-in-Begin
returns-in-Begin c = c.write_begin.ensures ∙ ap (λ x. c.args.out.now ++ request_spelling x) (sym c.in-Begin.is)

pub returns-in-Get : goal.returns-in-Get
returns-in-Get c = c.write_code_with_key.ensures ∙ ap (λ x. c.args.out.now ++ request_spelling x) (sym c.in-Get.is)

pub returns-in-Put : goal.returns-in-Put
returns-in-Put c = c.write_put.ensures ∙ ap (λ x. c.args.out.now ++ request_spelling x) (sym c.in-Put.is)

pub returns-in-Delete : goal.returns-in-Delete
returns-in-Delete c = c.write_code_with_key-in-Delete.ensures ∙ ap (λ x. c.args.out.now ++ request_spelling x) (sym c.in-Delete.is)

pub returns-in-Commit : goal.returns-in-Commit
returns-in-Commit c = c.write_commit.ensures ∙ ap (λ x. c.args.out.now ++ request_spelling x) (sym c.in-Commit.is)

pub returns-in-Abort : goal.returns-in-Abort
returns-in-Abort c = c.push_byte.ensures ∙ ap (λ x. c.args.out.now ++ request_spelling x) (sym c.in-Abort.is)

pub returns-in-BeginMerge : goal.returns-in-BeginMerge
returns-in-BeginMerge c = c.write_begin_merge.ensures ∙ ap (λ x. c.args.out.now ++ request_spelling x) (sym c.in-BeginMerge.is)

pub returns-in-ForkPoints : goal.returns-in-ForkPoints
returns-in-ForkPoints c = c.push_byte-in-ForkPoints.ensures ∙ ap (λ x. c.args.out.now ++ request_spelling x) (sym c.in-ForkPoints.is)

pub returns-in-Conflicts : goal.returns-in-Conflicts
returns-in-Conflicts c = c.write_conflicts.ensures ∙ ap (λ x. c.args.out.now ++ request_spelling x) (sym c.in-Conflicts.is)

pub returns-in-GetFor : goal.returns-in-GetFor
returns-in-GetFor c = c.write_get_for.ensures ∙ ap (λ x. c.args.out.now ++ request_spelling x) (sym c.in-GetFor.is)

pub returns-in-Ceiling : goal.returns-in-Ceiling
returns-in-Ceiling c = c.write_code_with_id.ensures ∙ ap (λ x. c.args.out.now ++ request_spelling x) (sym c.in-Ceiling.is)

pub returns-in-Raise : goal.returns-in-Raise
returns-in-Raise c = c.write_code_with_id-in-Raise.ensures ∙ ap (λ x. c.args.out.now ++ request_spelling x) (sym c.in-Raise.is)

pub returns-in-RaiseAuto : goal.returns-in-RaiseAuto
returns-in-RaiseAuto c = c.push_byte-in-RaiseAuto.ensures ∙ ap (λ x. c.args.out.now ++ request_spelling x) (sym c.in-RaiseAuto.is)

pub returns-in-Tidy : goal.returns-in-Tidy
returns-in-Tidy c = c.write_code_with_u16.ensures ∙ ap (λ x. c.args.out.now ++ request_spelling x) (sym c.in-Tidy.is)

pub returns-in-Stat : goal.returns-in-Stat
returns-in-Stat c = c.push_byte-in-Stat.ensures ∙ ap (λ x. c.args.out.now ++ request_spelling x) (sym c.in-Stat.is)

pub returns-in-Show : goal.returns-in-Show
returns-in-Show c = c.write_code_with_id-in-Show.ensures ∙ ap (λ x. c.args.out.now ++ request_spelling x) (sym c.in-Show.is)

pub returns-in-Leaves : goal.returns-in-Leaves
returns-in-Leaves c = c.push_byte-in-Leaves.ensures ∙ ap (λ x. c.args.out.now ++ request_spelling x) (sym c.in-Leaves.is)

pub returns-in-Pull : goal.returns-in-Pull
returns-in-Pull c = c.write_pull.ensures ∙ ap (λ x. c.args.out.now ++ request_spelling x) (sym c.in-Pull.is)

pub returns-in-Deliver : goal.returns-in-Deliver
returns-in-Deliver c = c.write_deliver.ensures ∙ ap (λ x. c.args.out.now ++ request_spelling x) (sym c.in-Deliver.is)

pub returns-in-Close : goal.returns-in-Close
returns-in-Close c = c.push_byte-in-Close.ensures ∙ ap (λ x. c.args.out.now ++ request_spelling x) (sym c.in-Close.is)

pub returns-in-Settle : goal.returns-in-Settle
returns-in-Settle c = c.push_byte-in-Settle.ensures ∙ ap (λ x. c.args.out.now ++ request_spelling x) (sym c.in-Settle.is)

pub write_open-requires : goal.write_open-requires
write_open-requires c = subst (λ x. length c.args.out.now + length (request_spelling x) ≤ longest_frame) c.in-Open.is c.requires.fits

pub write_begin-requires : goal.write_begin-requires
write_begin-requires c = subst (λ x. length c.args.out.now + length (request_spelling x) ≤ longest_frame) c.in-Begin.is c.requires.fits

pub write_code_with_key-requires : goal.write_code_with_key-requires
write_code_with_key-requires c = subst (λ x. length c.args.out.now + length (request_spelling x) ≤ longest_frame) c.in-Get.is c.requires.fits

pub write_put-requires : goal.write_put-requires
write_put-requires c = subst (λ x. length c.args.out.now + length (request_spelling x) ≤ longest_frame) c.in-Put.is c.requires.fits

pub write_code_with_key-requires-in-Delete : goal.write_code_with_key-requires-in-Delete
write_code_with_key-requires-in-Delete c = subst (λ x. length c.args.out.now + length (request_spelling x) ≤ longest_frame) c.in-Delete.is c.requires.fits

pub write_commit-requires : goal.write_commit-requires
write_commit-requires c = subst (λ x. length c.args.out.now + length (request_spelling x) ≤ longest_frame) c.in-Commit.is c.requires.fits

pub push_byte-requires : goal.push_byte-requires
push_byte-requires c = subst (λ x. length c.args.out.now + length (request_spelling x) ≤ longest_frame) c.in-Abort.is c.requires.fits

pub write_begin_merge-requires-clause-fits : goal.write_begin_merge-requires-clause-fits
write_begin_merge-requires-clause-fits c = subst (λ x. length c.args.out.now + length (request_spelling x) ≤ longest_frame) c.in-BeginMerge.is c.requires.fits

pub push_byte-requires-in-ForkPoints : goal.push_byte-requires-in-ForkPoints
push_byte-requires-in-ForkPoints c = subst (λ x. length c.args.out.now + length (request_spelling x) ≤ longest_frame) c.in-ForkPoints.is c.requires.fits

pub write_conflicts-requires-clause-fits : goal.write_conflicts-requires-clause-fits
write_conflicts-requires-clause-fits c = subst (λ x. length c.args.out.now + length (request_spelling x) ≤ longest_frame) c.in-Conflicts.is c.requires.fits

pub write_get_for-requires : goal.write_get_for-requires
write_get_for-requires c = subst (λ x. length c.args.out.now + length (request_spelling x) ≤ longest_frame) c.in-GetFor.is c.requires.fits

pub write_code_with_id-requires : goal.write_code_with_id-requires
write_code_with_id-requires c = subst (λ x. length c.args.out.now + length (request_spelling x) ≤ longest_frame) c.in-Ceiling.is c.requires.fits

pub write_code_with_id-requires-in-Raise : goal.write_code_with_id-requires-in-Raise
write_code_with_id-requires-in-Raise c = subst (λ x. length c.args.out.now + length (request_spelling x) ≤ longest_frame) c.in-Raise.is c.requires.fits

pub push_byte-requires-in-RaiseAuto : goal.push_byte-requires-in-RaiseAuto
push_byte-requires-in-RaiseAuto c = subst (λ x. length c.args.out.now + length (request_spelling x) ≤ longest_frame) c.in-RaiseAuto.is c.requires.fits

pub write_code_with_u16-requires : goal.write_code_with_u16-requires
write_code_with_u16-requires c = subst (λ x. length c.args.out.now + length (request_spelling x) ≤ longest_frame) c.in-Tidy.is c.requires.fits

pub push_byte-requires-in-Stat : goal.push_byte-requires-in-Stat
push_byte-requires-in-Stat c = subst (λ x. length c.args.out.now + length (request_spelling x) ≤ longest_frame) c.in-Stat.is c.requires.fits

pub write_code_with_id-requires-in-Show : goal.write_code_with_id-requires-in-Show
write_code_with_id-requires-in-Show c = subst (λ x. length c.args.out.now + length (request_spelling x) ≤ longest_frame) c.in-Show.is c.requires.fits

pub push_byte-requires-in-Leaves : goal.push_byte-requires-in-Leaves
push_byte-requires-in-Leaves c = subst (λ x. length c.args.out.now + length (request_spelling x) ≤ longest_frame) c.in-Leaves.is c.requires.fits

pub write_pull-requires-clause-fits : goal.write_pull-requires-clause-fits
write_pull-requires-clause-fits c = subst (λ x. length c.args.out.now + length (request_spelling x) ≤ longest_frame) c.in-Pull.is c.requires.fits

pub write_deliver-requires-clause-fits : goal.write_deliver-requires-clause-fits
write_deliver-requires-clause-fits c = subst (λ x. length c.args.out.now + length (request_spelling x) ≤ longest_frame) c.in-Deliver.is c.requires.fits

pub push_byte-requires-in-Close : goal.push_byte-requires-in-Close
push_byte-requires-in-Close c = subst (λ x. length c.args.out.now + length (request_spelling x) ≤ longest_frame) c.in-Close.is c.requires.fits

pub push_byte-requires-in-Settle : goal.push_byte-requires-in-Settle
push_byte-requires-in-Settle c = subst (λ x. length c.args.out.now + length (request_spelling x) ≤ longest_frame) c.in-Settle.is c.requires.fits
