use Rattle.std.proofs.Common.{Some, sym, ap, ◌∙◌, List, ℕ}
use Rattle.wire_item.specs.Fronts.{bytes_front, both}
use Rattle.wire_item.specs.Readings.{u16_front}
use Rattle.wire_item.proofs.Fronts.{made-read, bytes_front-source}
use Rattle.wire_item.proofs.Takings.{taken, untaken, takes, takes-none, made-none, after-none, after-then_none, after-then}
use Rattle.site_lives.specs.declared.lives.NewLife.{NewLife}
use Rattle.site_lives.specs.Things.{life_front}
use Rattle.rest_site.proofs.things.new_life.Goals as goal

abbrev of-parts : ℕ × List ℕ → NewLife
of-parts p = record { number = p.0; life = p.1 }

pub returns-in_err-number : goal.returns-in_err-number
returns-in_err-number c =
    let old = c.args.reader.now in
    takes-none life_front old c.u16.new.self c.from_residual.result c.from_residual.ensures
    (made-none of-parts (both u16_front (bytes_front 16)) old
    (after-none u16_front (λ _. bytes_front 16) old (untaken u16_front old c.u16.new.self c.in_err-number.ensures)))

pub returns-in_err-bytes : goal.returns-in_err-bytes
returns-in_err-bytes c =
    let old = c.args.reader.now in
    let first = c.u16.new.self in
    let number = taken u16_front old first c.in_ok-number.number c.in_ok-number.ensures in
    takes-none life_front old c.bytes.new.self c.from_residual-in_err-bytes.result c.from_residual-in_err-bytes.ensures
    (made-none of-parts (both u16_front (bytes_front 16)) old
    (after-then_none u16_front (λ _. bytes_front 16) old c.in_ok-number.number first number (untaken (bytes_front 16) first c.bytes.new.self c.in_err-bytes.ensures)))

pub life_of-life-requires : goal.life_of-life-requires
life_of-life-requires c =
    let first = c.u16.new.self in
    let life = c.in_ok-bytes.field-0.now in
    (bytes_front-source 16 first life c.bytes.new.self (taken (bytes_front 16) first c.bytes.new.self life c.in_ok-bytes.ensures)).number

pub returns : goal.returns
returns c =
    let old = c.args.reader.now in
    let first = c.u16.new.self in
    let second = c.bytes.new.self in
    let life = c.in_ok-bytes.field-0.now in
    let new : NewLife = record { number = c.in_ok-number.number; life = c.life_of-life.result } in
    takes life_front old second new
    (made-read of-parts (both u16_front (bytes_front 16)) old (new.number, new.life) second
    (after-then u16_front (λ _. bytes_front 16) old new.number first new.life second (taken u16_front old first new.number c.in_ok-number.ensures)
    (taken (bytes_front 16) first second life c.in_ok-bytes.ensures ∙ ap (λ l. Some (l, second)) (sym c.life_of-life.ensures))))
