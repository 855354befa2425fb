use Rattle.std.specs.Prelude.{option_map}
use Rattle.std.proofs.Common.{refl, sym, ap, None}
use Rattle.tardis_base.specs.declared.requests.Request.TheVariants.{Commit}
use Rattle.wire_item.specs.Fronts.{made, both}
use Rattle.wire_item.specs.Readings.{u8_front, u16_front}
use Rattle.wire_item.proofs.Fronts.{made-read, only_if-read}
use Rattle.wire_item.proofs.Takings.{taken, untaken, takes, takes-none, made-none, after-none, after-then_none, after-then, only_if-none, only_if-fails}
use Rattle.talk_bytes.specs.Lent.{request_lent}
use Rattle.wire_talk.specs.RequestReadings.{commit_front}
use Rattle.wire_talk.proofs.Requests.{is_pair_of_commit}
use Rattle.talk_bytes.proofs.lent_requests.read_commit.Goals as goal

pub returns-in_err-flags : goal.returns-in_err-flags
returns-in_err-flags c =
    let none = untaken u8_front c.args.reader.now c.u8.new.self c.in_err-flags.ensures in
    takes-none (made (λ p. Commit (record { 0 = p.0 }) p.1) commit_front) c.args.reader.now c.u8.new.self (option_map request_lent c.from_residual.result)
    (ap (option_map request_lent) c.from_residual.ensures)
    (made-none (λ p. Commit (record { 0 = p.0 }) p.1) commit_front c.args.reader.now
    (only_if-none is_pair_of_commit (both u8_front u16_front) c.args.reader.now (after-none u8_front (λ _. u16_front) c.args.reader.now none)))

pub returns-in_err-k : goal.returns-in_err-k
returns-in_err-k c =
    let flags = taken u8_front c.args.reader.now c.u8.new.self c.in_ok-flags.flags c.in_ok-flags.ensures in
    let none = untaken u16_front c.u8.new.self c.u16.new.self c.in_err-k.ensures in
    takes-none (made (λ p. Commit (record { 0 = p.0 }) p.1) commit_front) c.args.reader.now c.u16.new.self
    (option_map request_lent c.from_residual-in_err-k.result) (ap (option_map request_lent) c.from_residual-in_err-k.ensures)
    (made-none (λ p. Commit (record { 0 = p.0 }) p.1) commit_front c.args.reader.now
    (only_if-none is_pair_of_commit (both u8_front u16_front) c.args.reader.now
    (after-then_none u8_front (λ _. u16_front) c.args.reader.now c.in_ok-flags.flags c.u8.new.self flags none)))

pub returns-then-is_commit : goal.returns-then-is_commit
returns-then-is_commit c =
    let flags = taken u8_front c.args.reader.now c.u8.new.self c.in_ok-flags.flags c.in_ok-flags.ensures in
    let k = taken u16_front c.u8.new.self c.u16.new.self c.in_ok-k.k c.in_ok-k.ensures in
    let both_read = after-then u8_front (λ _. u16_front) c.args.reader.now c.in_ok-flags.flags c.u8.new.self c.in_ok-k.k c.u16.new.self flags k in
    takes (made (λ p. Commit (record { 0 = p.0 }) p.1) commit_front) c.args.reader.now c.u16.new.self (Commit (record { 0 = c.in_ok-flags.flags }) c.in_ok-k.k)
    (made-read (λ p. Commit (record { 0 = p.0 }) p.1) commit_front c.args.reader.now (c.in_ok-flags.flags, c.in_ok-k.k) c.u16.new.self
    (only_if-read is_pair_of_commit (both u8_front u16_front) c.args.reader.now (c.in_ok-flags.flags, c.in_ok-k.k) c.u16.new.self both_read
    (sym c.if-is_commit.ensures)))

pub returns-else-is_commit : goal.returns-else-is_commit
returns-else-is_commit c =
    let flags = taken u8_front c.args.reader.now c.u8.new.self c.in_ok-flags.flags c.in_ok-flags.ensures in
    let k = taken u16_front c.u8.new.self c.u16.new.self c.in_ok-k.k c.in_ok-k.ensures in
    let both_read = after-then u8_front (λ _. u16_front) c.args.reader.now c.in_ok-flags.flags c.u8.new.self c.in_ok-k.k c.u16.new.self flags k in
    takes-none (made (λ p. Commit (record { 0 = p.0 }) p.1) commit_front) c.args.reader.now c.u16.new.self None refl
    (made-none (λ p. Commit (record { 0 = p.0 }) p.1) commit_front c.args.reader.now
    (only_if-fails is_pair_of_commit (both u8_front u16_front) c.args.reader.now (c.in_ok-flags.flags, c.in_ok-k.k) c.u16.new.self both_read
    (sym c.if-is_commit.ensures)))
