use Rattle.std.proofs.Common.{◌≡◌, ℕ, true, false, List, [], ◌∷◌, ◌++◌, length, Option, Some, None, ap, ap₂, sym, ◌∙◌, refl, arith, append-nil, codes}
use Rattle.std.specs.Prelude.{option_and_then, is_some}
use Rattle.std.specs.Option.{option_map_or}
use Rattle.tardis_base.specs.declared.requests.Request.TheVariants.{Deliver}
use Rattle.wire_item.specs.Fronts.{alone}
use Rattle.wire_item.specs.Readings.{item_front, item_of}
use Rattle.wire_item.specs.Spellings.{item_spelling}
use Rattle.wire_item.proofs.Fronts.{made-read}
use Rattle.wire_item.proofs.Laws.{whole-source}
use Rattle.wire_item.proofs.Takings.{made-none}
use Rattle.wire_item.proofs.Things.{reads-item}
use Rattle.wire_talk.specs.RequestReadings.{request_of}
use Rattle.text_words.specs.Puts.{putting, says}
use Rattle.text_words.specs.Words.{number_word, hex_word}
use Rattle.text_words.proofs.Putting.{says-twice}
use Rattle.shell_text.specs.RequestLines.{request_line}
use Rattle.shell_text.specs.Spelled.{malformed_line}
use Rattle.shell_text.proofs.Finished.{said}
use Rattle.shell_text.proofs.RequestFits.{request-fits}
use Rattle.shell_text.proofs.request_lines.put_deliver_line.Goals as goal

asked : (item : List ℕ) (x : Rattle.tardis_base.specs.declared.records.Item.Item) → item_of item ≡ Some x → request_of (20 ∷ item) ≡ Some (Deliver x)
asked item x e =
    ap (option_and_then (λ read. alone read.0 read.1)) (made-read Deliver item_front item x [] (whole-source item_front item x e))

none-asked : (item : List ℕ) (o : Option (Rattle.tardis_base.specs.declared.records.Item.Item × List ℕ)) → item_front item ≡ o → item_of item ≡ None →
    request_of (20 ∷ item) ≡ None
none-asked item None is e = ap (option_and_then (λ read. alone read.0 read.1)) (made-none Deliver item_front item is)
none-asked item (Some (x, [])) is e = absurd (clash x (sym (ap (option_and_then (λ read. alone read.0 read.1)) is) ∙ e))
  where
    clash : (x : Rattle.tardis_base.specs.declared.records.Item.Item) → ◌≡◌ {A = Option Rattle.tardis_base.specs.declared.records.Item.Item} (Some x) None → ⊥
    clash x e = absurd (cc)
none-asked item (Some (x, y ∷ rest)) is e = ap (option_and_then (λ read. alone read.0 read.1)) (made-read Deliver item_front item x (y ∷ rest) is)

some-item : (o : Option Rattle.tardis_base.specs.declared.records.Item.Item) → is_some o ≡ true → (x : Rattle.tardis_base.specs.declared.records.Item.Item)
    × (o ≡ Some x)
some-item None e = absurd (cc)
some-item (Some x) e = (x, refl)

none-item : (o : Option Rattle.tardis_base.specs.declared.records.Item.Item) → is_some o ≡ false → o ≡ None
none-item None e = refl
none-item (Some x) e = absurd (cc)

pub returns-then-spells_item : goal.returns-then-spells_item
returns-then-spells_item c =
    let x = some-item (item_of c.args.item.now) (sym c.if-spells_item.ensures) in
    let is = asked c.args.item.now x.0 x.1 in
    let spelled = (reads-item.only c.args.item.now x.0 [] (whole-source item_front c.args.item.now x.0 x.1)).1 ∙ append-nil (item_spelling x.0) in
    let text : number_word c.args.actor ++ (codes " deliver " ++ hex_word c.args.item.now) ≡ request_line (c.args.actor, Deliver x.0) =
    ap (λ z. number_word c.args.actor ++ (codes " deliver " ++ hex_word z)) spelled in
    let fits = request-fits c.args.actor (20 ∷ c.args.item.now) (Deliver x.0) (omega arith) is (omega (arith, c.requires)) in
    said c.say_hex.new.self c.say_hex.new.out (number_word c.args.actor ++ (codes " deliver " ++ hex_word c.args.item.now)) []
    (c.say_hex.ensures
    ∙ ap (says (codes " deliver " ++ hex_word c.args.item.now))
    (c.say_digits.ensures ∙ ap (λ n. says (number_word n) (putting c.new-unread.result c.clear.new.self)) c.from.ensures)
    ∙ says-twice (number_word c.args.actor) (codes " deliver " ++ hex_word c.args.item.now) (putting c.new-unread.result c.clear.new.self)
    ∙ ap₂ (λ v o. says (number_word c.args.actor ++ (codes " deliver " ++ hex_word c.args.item.now)) (putting v o)) c.new-unread.ensures c.clear.ensures)
    (omega (arith, fits, ap length text))
    ∙ text ∙ sym (ap (λ o. option_map_or (λ r. request_line (c.args.actor, r)) o (malformed_line c.args.actor)) is)

pub returns-else-spells_item : goal.returns-else-spells_item
returns-else-spells_item c =
    let none = none-asked c.args.item.now (item_front c.args.item.now) refl (none-item (item_of c.args.item.now) (sym c.if-spells_item.ensures)) in
    c.put_malformed_line.ensures ∙ sym (ap (λ o. option_map_or (λ r. request_line (c.args.actor, r)) o (malformed_line c.args.actor)) none)
