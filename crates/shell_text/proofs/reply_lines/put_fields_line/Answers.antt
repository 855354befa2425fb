use Rattle.std.proofs.Common.{[], ◌∷◌, ap, ap₂, sym, ◌∙◌, arith}
use Rattle.std.specs.Option.{option_map_or}
use Rattle.wire_item.specs.Fronts.{front_of_code}
use Rattle.wire_talk.specs.ReplyReadings.{reply_rows}
use Rattle.text_words.specs.Puts.{putting, puts}
use Rattle.shell_text.specs.ReplyLines.{reply_line}
use Rattle.shell_text.proofs.Finished.{finished}
use Rattle.shell_text.proofs.ReplyFits.{reply-fits}
use Rattle.shell_text.proofs.reply_lines.put_fields_line.Goals as goal

pub returns-then-not-is_read : goal.returns-then-not-is_read
returns-then-not-is_read c =
    let fin = finished (front_of_code c.args.code reply_rows) reply_line c.args.fields.now [] c.put_coded_reply.new.unread c.put_coded_reply.new.out
    (c.put_coded_reply.ensures ∙ ap₂ (λ v o. puts (front_of_code c.args.code reply_rows) reply_line (putting v o)) c.new-unread.ensures c.requires.empty)
    (λ a e. let f = reply-fits (c.args.code ∷ c.args.fields.now) a e (omega (arith, c.requires.fits)) in omega (arith, f)) in
    c.clear.ensures ∙ sym (ap (λ o. option_map_or reply_line o []) (fin.unread (sym c.if-not-is_read.ensures)))

pub returns-else-not-is_read : goal.returns-else-not-is_read
returns-else-not-is_read c =
    let fin = finished (front_of_code c.args.code reply_rows) reply_line c.args.fields.now [] c.put_coded_reply.new.unread c.put_coded_reply.new.out
    (c.put_coded_reply.ensures ∙ ap₂ (λ v o. puts (front_of_code c.args.code reply_rows) reply_line (putting v o)) c.new-unread.ensures c.requires.empty)
    (λ a e. let f = reply-fits (c.args.code ∷ c.args.fields.now) a e (omega (arith, c.requires.fits)) in omega (arith, f)) in
    let x = fin.read (sym c.if-not-is_read.ensures) in
    x.2 ∙ sym (ap (λ o. option_map_or reply_line o []) x.1)
