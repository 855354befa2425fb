use Rattle.std.proofs.Common.{Some, None, sym, ap, refl, ◌∙◌}
use Rattle.wire_item.specs.Fronts.{bytes_front}
use Rattle.wire_item.specs.Readings.{u16_front}
use Rattle.wire_item.proofs.Fronts.{bytes_front-source}
use Rattle.wire_item.proofs.Takings.{taken, untaken, takes, takes-none}
use Rattle.wire_lives.specs.declared.introductions.Introduction.{Introduction}
use Rattle.wire_lives.specs.Readings.{behind_code}
use Rattle.wire_lives.proofs.Read.{no-number, no-sites, no-life, all-read, unplaced}
use Rattle.wire_lives.proofs.introductions.fields.Goals as goal

pub returns-in_err-number : goal.returns-in_err-number
returns-in_err-number c =
    let old = c.args.reader.now in
    takes-none behind_code old c.u16.new.self c.from_residual.result c.from_residual.ensures
    (no-number old (untaken u16_front old c.u16.new.self c.in_err-number.ensures))

pub returns-in_err-sites : goal.returns-in_err-sites
returns-in_err-sites c =
    let old = c.args.reader.now in
    let first = c.u16.new.self in
    let number = taken u16_front old first c.in_ok-number.number c.in_ok-number.ensures in
    takes-none behind_code old c.u16-2.new.self c.from_residual-in_err-sites.result c.from_residual-in_err-sites.ensures
    (no-sites old c.in_ok-number.number first number (untaken u16_front first c.u16-2.new.self c.in_err-sites.ensures))

pub returns-in_err-bytes : goal.returns-in_err-bytes
returns-in_err-bytes c =
    let old = c.args.reader.now in
    let first = c.u16.new.self in
    let second = c.u16-2.new.self in
    let number = taken u16_front old first c.in_ok-number.number c.in_ok-number.ensures in
    let sites = taken u16_front first second c.in_ok-sites.sites c.in_ok-sites.ensures in
    takes-none behind_code old c.bytes.new.self c.from_residual-in_err-bytes.result c.from_residual-in_err-bytes.ensures
    (no-life old c.in_ok-number.number c.in_ok-sites.sites first second number sites (untaken (bytes_front 16) second c.bytes.new.self c.in_err-bytes.ensures))

pub as_array-life-requires : goal.as_array-life-requires
as_array-life-requires c =
    let second = c.u16-2.new.self in
    let life = c.in_ok-bytes.field-0.now in
    (bytes_front-source 16 second life c.bytes.new.self (taken (bytes_front 16) second c.bytes.new.self life c.in_ok-bytes.ensures)).number

pub returns-then-is_placed : goal.returns-then-is_placed
returns-then-is_placed c =
    let old = c.args.reader.now in
    let first = c.u16.new.self in
    let second = c.u16-2.new.self in
    let third = c.bytes.new.self in
    let i : Introduction = record { number = c.in_ok-number.number; sites = c.in_ok-sites.sites; life = c.as_array-life.result } in
    takes behind_code old third i
    (all-read old i first second third (taken u16_front old first i.number c.in_ok-number.ensures) (taken u16_front first second i.sites c.in_ok-sites.ensures)
    (taken (bytes_front 16) second third c.in_ok-bytes.field-0.now c.in_ok-bytes.ensures ∙ ap (λ life. Some (life, third)) (sym c.as_array-life.ensures))
    (sym c.is_placed.ensures ∙ c.if-is_placed.true))

pub returns-else-is_placed : goal.returns-else-is_placed
returns-else-is_placed c =
    let old = c.args.reader.now in
    let first = c.u16.new.self in
    let second = c.u16-2.new.self in
    let third = c.bytes.new.self in
    let i : Introduction = record { number = c.in_ok-number.number; sites = c.in_ok-sites.sites; life = c.as_array-life.result } in
    takes-none behind_code old third None refl
    (unplaced old i first second third (taken u16_front old first i.number c.in_ok-number.ensures) (taken u16_front first second i.sites c.in_ok-sites.ensures)
    (taken (bytes_front 16) second third c.in_ok-bytes.field-0.now c.in_ok-bytes.ensures ∙ ap (λ life. Some (life, third)) (sym c.as_array-life.ensures))
    (sym c.is_placed.ensures ∙ c.if-is_placed.false))
