use Rattle.std.proofs.Common.{◌≡◌, ℕ, ◌+◌, ◌≤◌, ◌<◌, ◌^◌, ◌==◌, Bool, true, false, List, [], ◌∷◌, ◌++◌, length, Option, Some, None, ap, ap₂, sym, subst, ◌∙◌}
use Rattle.std.proofs.Common.{refl, arith, lt-ltb, append_assoc, append-nil, length-append, codes}
use Rattle.std.specs.Prelude.{option_and_then, is_some}
use Rattle.wire_item.specs.Fronts.{alone}
use Rattle.wire_item.specs.Readings.{item_front, item_of}
use Rattle.wire_item.specs.Takings.{Makes}
use Rattle.wire_item.proofs.Takings.{making, unmade}
use Rattle.shell_text.proofs.Passings.{lacking}
use Rattle.shell_text.proofs.request_lines.spells_item.Goals as goal

over : (rest : List ℕ) (t : Bool) → t ≡ (length rest == 0) → (bytes : List ℕ) (a : Rattle.tardis_base.specs.declared.records.Item.Item) → item_front bytes
    ≡ Some (a, rest) → t ≡ is_some (item_of bytes)
over [] t e bytes a r = e ∙ sym (ap (λ o. is_some (option_and_then (λ read. alone read.0 read.1) o)) r)
over (x ∷ rest) t e bytes a r = e ∙ Rattle.std.proofs.Common.ne_eqb (length (x ∷ rest)) 0 (λ z. omega (arith, z))
    ∙ sym (ap (λ o. is_some (option_and_then (λ read. alone read.0 read.1) o)) r)

pub returns-then-pass_item : goal.returns-then-pass_item
returns-then-pass_item c =
    let read = making item_front c.args.bytes.now c.pass_item.new.reader lacking
    (subst (λ z. Makes item_front z (Some lacking) c.pass_item.new.reader) c.new-reader.ensures c.if-pass_item.ensures) in
    over c.pass_item.new.reader c.is_done.result c.is_done.ensures c.args.bytes.now read.0 read.1

pub returns-else-pass_item : goal.returns-else-pass_item
returns-else-pass_item c =
    let none = unmade item_front c.args.bytes.now c.pass_item.new.reader
    (subst (λ z. Makes item_front z None c.pass_item.new.reader) c.new-reader.ensures c.if-pass_item.ensures) in
    sym (ap (λ o. is_some (option_and_then (λ read. alone read.0 read.1) o)) none)
