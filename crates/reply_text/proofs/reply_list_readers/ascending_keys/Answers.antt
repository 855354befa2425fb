use Rattle.std.proofs.Common.{ℕ, List, refl, sym, ◌∙◌, ap, arith, [], Some, take}
use Rattle.std.specs.Prelude.{option_map}
use Rattle.tardis_base.specs.Keys.{is_key_before, are_ascending_keys}
use Rattle.wire_item.proofs.Progress.{progress-none, progress-breaks, progress-more}
use Rattle.shell_text.specs.RequestTexts.{key_text}
use Rattle.reply_text.proofs.ReplyReads.{keys-order, progress-read}
use Rattle.reply_text.proofs.reply_list_readers.ascending_keys.Goals as goal

pub loop-place-init : goal.loop-place-init
loop-place-init c = (_, record { xs = []; reads = ap (λ z. Some ([], z)) (sym c.again-left.ensures); ordered = refl; last_is = refl; made = c.new.ensures })

pub returns-in-None : goal.returns-in-None
returns-in-None c =
    progress-none (λ (k : List ℕ). k) are_ascending_keys key_text c.args.words.now c.loop-place._place c.args.count c.loop-place.left
    (option_map (λ n. take n c.loop-place.last_room) c.loop-place.last) c.loop-place.keys
    c.loop-place.invariant.1 c.in-None.ensures.bytes (omega arith)

pub follows-requires : goal.follows-requires
follows-requires c = c.loop-place.invariant.0

pub returns-then-not-follows : goal.returns-then-not-follows
returns-then-not-follows c =
    progress-breaks (λ (k : List ℕ). k) is_key_before are_ascending_keys keys-order key_text c.args.words.now c.loop-place._place c.args.count c.loop-place.left
    (option_map (λ n. take n c.loop-place.last_room) c.loop-place.last) c.loop-place.keys
    (take c.in-Some.length c.key_into.new.room) c.in-Some.next c.loop-place.invariant.1 c.in-Some.ensures.bytes.1
    (sym c.follows.ensures ∙ c.if-not-follows.true) (omega arith)

pub loop-place-preserved : goal.loop-place-preserved
loop-place-preserved c = (
  c.in-Some.ensures.bytes.0,
  progress-more (λ (k : List ℕ). k) is_key_before are_ascending_keys keys-order key_text c.args.words.now c.loop-place._place c.loop-place.left
      (option_map (λ n. take n c.loop-place.last_room) c.loop-place.last) c.loop-place.keys c.pushed-keys.result
      (take c.in-Some.length c.key_into.new.room) c.in-Some.next c.loop-place.invariant.1 c.in-Some.ensures.bytes.1
      (sym c.follows.ensures ∙ c.if-not-follows.false)
      (λ _. c.pushed-keys.ensures c.loop-place.invariant.1.xs (take c.in-Some.length c.key_into.new.room) c.loop-place.invariant.1.made c.new_key.ensures),
)

pub returns : goal.returns
returns c =
    progress-read (λ (k : List ℕ). k) are_ascending_keys key_text c.args.words.now c.loop-place._place c.args.count c.loop-place.left
    (option_map (λ n. take n c.loop-place.last_room) c.loop-place.last) c.loop-place.keys
    c.loop-place.invariant.1 (omega arith)
