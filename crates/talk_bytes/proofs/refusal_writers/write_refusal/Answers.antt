use Rattle.std.proofs.Common.{◌++◌, ◌+◌, ◌≤◌, length, ap, sym, subst, ◌∙◌}
use Rattle.tardis_base.specs.Sizes.{longest_frame}
use Rattle.wire_talk.specs.Spellings.{refusal_spelling}
use Rattle.talk_bytes.proofs.refusal_writers.write_refusal.Goals as goal

pub returns-in-Malformed : goal.returns-in-Malformed
returns-in-Malformed c = c.push_byte.ensures ∙ ap (λ x. c.args.out.now ++ refusal_spelling x) (sym c.in-Malformed.is)

pub returns-in-NotOpen : goal.returns-in-NotOpen
returns-in-NotOpen c = c.push_byte-in-NotOpen.ensures ∙ ap (λ x. c.args.out.now ++ refusal_spelling x) (sym c.in-NotOpen.is)

pub returns-in-AlreadyOpen : goal.returns-in-AlreadyOpen
returns-in-AlreadyOpen c = c.push_byte-in-AlreadyOpen.ensures ∙ ap (λ x. c.args.out.now ++ refusal_spelling x) (sym c.in-AlreadyOpen.is)

pub returns-in-SessionsFull : goal.returns-in-SessionsFull
returns-in-SessionsFull c = c.write_code_with_u16.ensures ∙ ap (λ x. c.args.out.now ++ refusal_spelling x) (sym c.in-SessionsFull.is)

pub returns-in-TxnOpen : goal.returns-in-TxnOpen
returns-in-TxnOpen c = c.push_byte-in-TxnOpen.ensures ∙ ap (λ x. c.args.out.now ++ refusal_spelling x) (sym c.in-TxnOpen.is)

pub returns-in-NoTxn : goal.returns-in-NoTxn
returns-in-NoTxn c = c.push_byte-in-NoTxn.ensures ∙ ap (λ x. c.args.out.now ++ refusal_spelling x) (sym c.in-NoTxn.is)

pub returns-in-WrongMode : goal.returns-in-WrongMode
returns-in-WrongMode c = c.push_byte-in-WrongMode.ensures ∙ ap (λ x. c.args.out.now ++ refusal_spelling x) (sym c.in-WrongMode.is)

pub returns-in-TooMany : goal.returns-in-TooMany
returns-in-TooMany c = c.write_too_many.ensures ∙ ap (λ x. c.args.out.now ++ refusal_spelling x) (sym c.in-TooMany.is)

pub returns-in-Unknown : goal.returns-in-Unknown
returns-in-Unknown c = c.write_code_with_id.ensures ∙ ap (λ x. c.args.out.now ++ refusal_spelling x) (sym c.in-Unknown.is)

pub returns-in-Below : goal.returns-in-Below
returns-in-Below c = c.write_code_with_two_ids.ensures ∙ ap (λ x. c.args.out.now ++ refusal_spelling x) (sym c.in-Below.is)

pub returns-in-Comparable : goal.returns-in-Comparable
returns-in-Comparable c = c.write_code_with_two_ids-in-Comparable.ensures ∙ ap (λ x. c.args.out.now ++ refusal_spelling x) (sym c.in-Comparable.is)

pub returns-in-NotRead : goal.returns-in-NotRead
returns-in-NotRead c = c.write_code_with_id-in-NotRead.ensures ∙ ap (λ x. c.args.out.now ++ refusal_spelling x) (sym c.in-NotRead.is)

pub returns-in-ConflictKey : goal.returns-in-ConflictKey
returns-in-ConflictKey c = c.write_code_with_key.ensures ∙ ap (λ x. c.args.out.now ++ refusal_spelling x) (sym c.in-ConflictKey.is)

pub returns-in-OpenConflict : goal.returns-in-OpenConflict
returns-in-OpenConflict c = c.write_code_with_key-in-OpenConflict.ensures ∙ ap (λ x. c.args.out.now ++ refusal_spelling x) (sym c.in-OpenConflict.is)

pub returns-in-Branches : goal.returns-in-Branches
returns-in-Branches c = c.write_branches.ensures ∙ ap (λ x. c.args.out.now ++ refusal_spelling x) (sym c.in-Branches.is)

pub returns-in-CeilingBack : goal.returns-in-CeilingBack
returns-in-CeilingBack c = c.write_code_with_id-in-CeilingBack.ensures ∙ ap (λ x. c.args.out.now ++ refusal_spelling x) (sym c.in-CeilingBack.is)

pub returns-in-FloorBack : goal.returns-in-FloorBack
returns-in-FloorBack c = c.write_code_with_id-in-FloorBack.ensures ∙ ap (λ x. c.args.out.now ++ refusal_spelling x) (sym c.in-FloorBack.is)

pub returns-in-Held : goal.returns-in-Held
returns-in-Held c = c.write_held.ensures ∙ ap (λ x. c.args.out.now ++ refusal_spelling x) (sym c.in-Held.is)

pub returns-in-Collected : goal.returns-in-Collected
returns-in-Collected c = c.write_code_with_id-in-Collected.ensures ∙ ap (λ x. c.args.out.now ++ refusal_spelling x) (sym c.in-Collected.is)

pub returns-in-Full : goal.returns-in-Full
returns-in-Full c = c.write_code_with_u32.ensures ∙ ap (λ x. c.args.out.now ++ refusal_spelling x) (sym c.in-Full.is)

pub returns-in-PathFull : goal.returns-in-PathFull
returns-in-PathFull c = c.write_code_with_id_and_u32.ensures ∙ ap (λ x. c.args.out.now ++ refusal_spelling x) (sym c.in-PathFull.is)

pub returns-in-SeqEnd : goal.returns-in-SeqEnd
returns-in-SeqEnd c = c.push_byte-in-SeqEnd.ensures ∙ ap (λ x. c.args.out.now ++ refusal_spelling x) (sym c.in-SeqEnd.is)

pub returns-in-BadSite : goal.returns-in-BadSite
returns-in-BadSite c = c.write_code_with_u16-in-BadSite.ensures ∙ ap (λ x. c.args.out.now ++ refusal_spelling x) (sym c.in-BadSite.is)

pub returns-in-ClosedParent : goal.returns-in-ClosedParent
returns-in-ClosedParent c = c.write_code_with_id-in-ClosedParent.ensures ∙ ap (λ x. c.args.out.now ++ refusal_spelling x) (sym c.in-ClosedParent.is)

pub returns-in-OwnItem : goal.returns-in-OwnItem
returns-in-OwnItem c = c.write_own_item.ensures ∙ ap (λ x. c.args.out.now ++ refusal_spelling x) (sym c.in-OwnItem.is)

pub returns-in-TrailFull : goal.returns-in-TrailFull
returns-in-TrailFull c = c.write_trail_full.ensures ∙ ap (λ x. c.args.out.now ++ refusal_spelling x) (sym c.in-TrailFull.is)

pub returns-in-Unsupported : goal.returns-in-Unsupported
returns-in-Unsupported c = c.write_unsupported.ensures ∙ ap (λ x. c.args.out.now ++ refusal_spelling x) (sym c.in-Unsupported.is)

pub returns-in-NoSuchItem : goal.returns-in-NoSuchItem
returns-in-NoSuchItem c = c.write_code_with_u32-in-NoSuchItem.ensures ∙ ap (λ x. c.args.out.now ++ refusal_spelling x) (sym c.in-NoSuchItem.is)

pub returns-in-BagFull : goal.returns-in-BagFull
returns-in-BagFull c = c.write_code_with_u32-in-BagFull.ensures ∙ ap (λ x. c.args.out.now ++ refusal_spelling x) (sym c.in-BagFull.is)

pub push_byte-requires : goal.push_byte-requires
push_byte-requires c = subst (λ x. length c.args.out.now + length (refusal_spelling x) ≤ longest_frame) c.in-Malformed.is c.requires.fits

pub push_byte-requires-in-NotOpen : goal.push_byte-requires-in-NotOpen
push_byte-requires-in-NotOpen c = subst (λ x. length c.args.out.now + length (refusal_spelling x) ≤ longest_frame) c.in-NotOpen.is c.requires.fits

pub push_byte-requires-in-AlreadyOpen : goal.push_byte-requires-in-AlreadyOpen
push_byte-requires-in-AlreadyOpen c = subst (λ x. length c.args.out.now + length (refusal_spelling x) ≤ longest_frame) c.in-AlreadyOpen.is c.requires.fits

pub write_code_with_u16-requires : goal.write_code_with_u16-requires
write_code_with_u16-requires c = subst (λ x. length c.args.out.now + length (refusal_spelling x) ≤ longest_frame) c.in-SessionsFull.is c.requires.fits

pub push_byte-requires-in-TxnOpen : goal.push_byte-requires-in-TxnOpen
push_byte-requires-in-TxnOpen c = subst (λ x. length c.args.out.now + length (refusal_spelling x) ≤ longest_frame) c.in-TxnOpen.is c.requires.fits

pub push_byte-requires-in-NoTxn : goal.push_byte-requires-in-NoTxn
push_byte-requires-in-NoTxn c = subst (λ x. length c.args.out.now + length (refusal_spelling x) ≤ longest_frame) c.in-NoTxn.is c.requires.fits

pub push_byte-requires-in-WrongMode : goal.push_byte-requires-in-WrongMode
push_byte-requires-in-WrongMode c = subst (λ x. length c.args.out.now + length (refusal_spelling x) ≤ longest_frame) c.in-WrongMode.is c.requires.fits

pub write_too_many-requires : goal.write_too_many-requires
write_too_many-requires c = subst (λ x. length c.args.out.now + length (refusal_spelling x) ≤ longest_frame) c.in-TooMany.is c.requires.fits

pub write_code_with_id-requires : goal.write_code_with_id-requires
write_code_with_id-requires c = subst (λ x. length c.args.out.now + length (refusal_spelling x) ≤ longest_frame) c.in-Unknown.is c.requires.fits

pub write_code_with_two_ids-requires : goal.write_code_with_two_ids-requires
write_code_with_two_ids-requires c = subst (λ x. length c.args.out.now + length (refusal_spelling x) ≤ longest_frame) c.in-Below.is c.requires.fits

pub write_code_with_two_ids-requires-in-Comparable : goal.write_code_with_two_ids-requires-in-Comparable
write_code_with_two_ids-requires-in-Comparable c = subst (λ x. length c.args.out.now + length (refusal_spelling x) ≤ longest_frame) c.in-Comparable.is c.requires.fits

pub write_code_with_id-requires-in-NotRead : goal.write_code_with_id-requires-in-NotRead
write_code_with_id-requires-in-NotRead c = subst (λ x. length c.args.out.now + length (refusal_spelling x) ≤ longest_frame) c.in-NotRead.is c.requires.fits

pub write_code_with_key-requires : goal.write_code_with_key-requires
write_code_with_key-requires c = subst (λ x. length c.args.out.now + length (refusal_spelling x) ≤ longest_frame) c.in-ConflictKey.is c.requires.fits

pub write_code_with_key-requires-in-OpenConflict : goal.write_code_with_key-requires-in-OpenConflict
write_code_with_key-requires-in-OpenConflict c = subst (λ x. length c.args.out.now + length (refusal_spelling x) ≤ longest_frame) c.in-OpenConflict.is c.requires.fits

pub write_branches-requires : goal.write_branches-requires
write_branches-requires c = subst (λ x. length c.args.out.now + length (refusal_spelling x) ≤ longest_frame) c.in-Branches.is c.requires.fits

pub write_code_with_id-requires-in-CeilingBack : goal.write_code_with_id-requires-in-CeilingBack
write_code_with_id-requires-in-CeilingBack c = subst (λ x. length c.args.out.now + length (refusal_spelling x) ≤ longest_frame) c.in-CeilingBack.is c.requires.fits

pub write_code_with_id-requires-in-FloorBack : goal.write_code_with_id-requires-in-FloorBack
write_code_with_id-requires-in-FloorBack c = subst (λ x. length c.args.out.now + length (refusal_spelling x) ≤ longest_frame) c.in-FloorBack.is c.requires.fits

pub write_held-requires : goal.write_held-requires
write_held-requires c = subst (λ x. length c.args.out.now + length (refusal_spelling x) ≤ longest_frame) c.in-Held.is c.requires.fits

pub write_code_with_id-requires-in-Collected : goal.write_code_with_id-requires-in-Collected
write_code_with_id-requires-in-Collected c = subst (λ x. length c.args.out.now + length (refusal_spelling x) ≤ longest_frame) c.in-Collected.is c.requires.fits

pub write_code_with_u32-requires : goal.write_code_with_u32-requires
write_code_with_u32-requires c = subst (λ x. length c.args.out.now + length (refusal_spelling x) ≤ longest_frame) c.in-Full.is c.requires.fits

pub write_code_with_id_and_u32-requires : goal.write_code_with_id_and_u32-requires
write_code_with_id_and_u32-requires c = subst (λ x. length c.args.out.now + length (refusal_spelling x) ≤ longest_frame) c.in-PathFull.is c.requires.fits

pub push_byte-requires-in-SeqEnd : goal.push_byte-requires-in-SeqEnd
push_byte-requires-in-SeqEnd c = subst (λ x. length c.args.out.now + length (refusal_spelling x) ≤ longest_frame) c.in-SeqEnd.is c.requires.fits

pub write_code_with_u16-requires-in-BadSite : goal.write_code_with_u16-requires-in-BadSite
write_code_with_u16-requires-in-BadSite c = subst (λ x. length c.args.out.now + length (refusal_spelling x) ≤ longest_frame) c.in-BadSite.is c.requires.fits

pub write_code_with_id-requires-in-ClosedParent : goal.write_code_with_id-requires-in-ClosedParent
write_code_with_id-requires-in-ClosedParent c = subst (λ x. length c.args.out.now + length (refusal_spelling x) ≤ longest_frame) c.in-ClosedParent.is c.requires.fits

pub write_own_item-requires : goal.write_own_item-requires
write_own_item-requires c = subst (λ x. length c.args.out.now + length (refusal_spelling x) ≤ longest_frame) c.in-OwnItem.is c.requires.fits

pub write_trail_full-requires : goal.write_trail_full-requires
write_trail_full-requires c = subst (λ x. length c.args.out.now + length (refusal_spelling x) ≤ longest_frame) c.in-TrailFull.is c.requires.fits

pub write_unsupported-requires : goal.write_unsupported-requires
write_unsupported-requires c = subst (λ x. length c.args.out.now + length (refusal_spelling x) ≤ longest_frame) c.in-Unsupported.is c.requires.fits

pub write_code_with_u32-requires-in-NoSuchItem : goal.write_code_with_u32-requires-in-NoSuchItem
write_code_with_u32-requires-in-NoSuchItem c = subst (λ x. length c.args.out.now + length (refusal_spelling x) ≤ longest_frame) c.in-NoSuchItem.is c.requires.fits

pub write_code_with_u32-requires-in-BagFull : goal.write_code_with_u32-requires-in-BagFull
write_code_with_u32-requires-in-BagFull c = subst (λ x. length c.args.out.now + length (refusal_spelling x) ≤ longest_frame) c.in-BagFull.is c.requires.fits
