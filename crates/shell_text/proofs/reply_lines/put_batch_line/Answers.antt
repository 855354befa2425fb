use Rattle.std.proofs.Common.{◌≡◌, ℕ, ◌+◌, ◌≤◌, Bool, true, false, List, [], ◌∷◌, ◌++◌, length, Option, Some, None, ap, ap₂, sym, subst, ◌∙◌, refl, arith}
use Rattle.std.proofs.Common.{codes}
use Rattle.std.specs.Option.{option_map_or}
use Rattle.wire_talk.specs.ReplyReadings.{reply_of}
use Rattle.text_words.specs.Puts.{putting}
use Rattle.shell_text.specs.ReplyLines.{reply_line}
use Rattle.shell_text.proofs.Finished.{said, none-left, some-over}
use Rattle.tardis_base.specs.declared.replies.Reply.TheVariants.{Batch}
use Rattle.std.specs.Prelude.{option_and_then}
use Rattle.wire_item.specs.Fronts.{alone, made}
use Rattle.wire_item.specs.Readings.{batch_front}
use Rattle.wire_item.specs.Spellings.{batch_spelling}
use Rattle.wire_item.proofs.Fronts.{made-read}
use Rattle.wire_item.proofs.Takings.{making, unmade, made-none}
use Rattle.wire_item.proofs.Things.{reads-batch}
use Rattle.text_words.specs.Puts.{says}
use Rattle.text_words.specs.Words.{hex_word}
use Rattle.shell_text.proofs.Passings.{lacking}
use Rattle.shell_text.proofs.ReplyFits.{reply-fits}
use Rattle.shell_text.proofs.reply_lines.put_batch_line.Goals as goal

pub returns-then-is_done : goal.returns-then-is_done
returns-then-is_done c =
    let batch = c.args.batch.now in
    let read = making batch_front batch c.pass_batch.new.reader lacking
    (subst (λ z. Rattle.wire_item.specs.Takings.Makes batch_front z (Some lacking) c.pass_batch.new.reader) c.new-reader.ensures c.if-pass_batch.ensures) in
    let done = none-left c.pass_batch.new.reader (sym c.if-is_done.ensures) in
    let is : reply_of (16 ∷ batch) ≡ Some (Batch read.0) =
    ap (option_and_then (λ read. alone read.0 read.1)) (made-read Batch batch_front batch read.0 c.pass_batch.new.reader read.1)
    ∙ ap (alone (Batch read.0)) done in
    let spelled = (reads-batch.only batch read.0 c.pass_batch.new.reader read.1).1 ∙ ap (λ z. batch_spelling read.0 ++ z) done
    ∙ Rattle.std.proofs.Common.append-nil (batch_spelling read.0) in
    let text : codes "batch " ++ hex_word batch ≡ reply_line (Batch read.0) = ap (λ z. codes "batch " ++ hex_word z) spelled in
    let fits = reply-fits (16 ∷ batch) (Batch read.0) is (omega (arith, c.requires.fits)) in
    said c.say_hex.new.self c.say_hex.new.out (codes "batch " ++ hex_word batch) []
    (c.say_hex.ensures ∙ ap₂ (λ v o. says (codes "batch " ++ hex_word batch) (putting v o)) c.new-unread.ensures c.requires.empty)
    (omega (arith, fits, ap length text))
    ∙ text ∙ sym (ap (λ o. option_map_or reply_line o []) is)

pub returns-else-is_done : goal.returns-else-is_done
returns-else-is_done c =
    let batch = c.args.batch.now in
    let read = making batch_front batch c.pass_batch.new.reader lacking
    (subst (λ z. Rattle.wire_item.specs.Takings.Makes batch_front z (Some lacking) c.pass_batch.new.reader) c.new-reader.ensures c.if-pass_batch.ensures) in
    let over = some-over (made Batch batch_front) batch (Batch read.0) c.pass_batch.new.reader
    (made-read Batch batch_front batch read.0 c.pass_batch.new.reader read.1) (sym c.if-is_done.ensures) in
    c.requires.empty ∙ sym (ap (λ o. option_map_or reply_line o []) over)

pub returns-else-pass_batch : goal.returns-else-pass_batch
returns-else-pass_batch c =
    let batch = c.args.batch.now in
    let none = unmade batch_front batch c.pass_batch.new.reader
    (subst (λ z. Rattle.wire_item.specs.Takings.Makes batch_front z None c.pass_batch.new.reader) c.new-reader.ensures c.if-pass_batch.ensures) in
    c.requires.empty ∙ sym (ap (λ o. option_map_or reply_line (option_and_then (λ read. alone read.0 read.1) o) []) (made-none Batch batch_front batch none))
