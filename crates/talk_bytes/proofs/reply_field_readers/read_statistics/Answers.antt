use Rattle.std.proofs.Common.{refl}
use Rattle.tardis_base.specs.declared.replies.Reply.TheVariants.{Stat as Statistics}
use Rattle.wire_item.specs.Fronts.{made, both}
use Rattle.wire_item.specs.Readings.{u16_front, u32_front, u64_front}
use Rattle.wire_item.proofs.Takings.{taken, untaken, takes, takes-none}
use Rattle.wire_talk.specs.ReplyReadings.{site_lines_front}
use Rattle.talk_bytes.proofs.reply_field_readers.read_statistics.Goals as goal

pub returns-in_err-known : goal.returns-in_err-known
returns-in_err-known c =
    let none = untaken u64_front c.args.reader.now c.u64.new.self c.in_err-known.ensures in
    takes-none (made (λ p. Statistics p.0.0.0.0 p.0.0.0.1 p.0.0.1 p.0.1 p.1)
    (both (both (both (both u64_front u32_front) u32_front) u16_front) site_lines_front)) c.args.reader.now c.u64.new.self c.from_residual.result
    c.from_residual.ensures (rw (none) refl)

pub returns-in_err-kept : goal.returns-in_err-kept
returns-in_err-kept c =
    let known = taken u64_front c.args.reader.now c.u64.new.self c.in_ok-known.known c.in_ok-known.ensures in
    let none = untaken u32_front c.u64.new.self c.u32.new.self c.in_err-kept.ensures in
    takes-none (made (λ p. Statistics p.0.0.0.0 p.0.0.0.1 p.0.0.1 p.0.1 p.1)
    (both (both (both (both u64_front u32_front) u32_front) u16_front) site_lines_front)) c.args.reader.now c.u32.new.self
    c.from_residual-in_err-kept.result c.from_residual-in_err-kept.ensures (rw (known, none) refl)

pub returns-in_err-leaves : goal.returns-in_err-leaves
returns-in_err-leaves c =
    let known = taken u64_front c.args.reader.now c.u64.new.self c.in_ok-known.known c.in_ok-known.ensures in
    let kept = taken u32_front c.u64.new.self c.u32.new.self c.in_ok-kept.kept c.in_ok-kept.ensures in
    let none = untaken u32_front c.u32.new.self c.u32-2.new.self c.in_err-leaves.ensures in
    takes-none (made (λ p. Statistics p.0.0.0.0 p.0.0.0.1 p.0.0.1 p.0.1 p.1)
    (both (both (both (both u64_front u32_front) u32_front) u16_front) site_lines_front)) c.args.reader.now c.u32-2.new.self
    c.from_residual-in_err-leaves.result c.from_residual-in_err-leaves.ensures (rw (known, kept, none) refl)

pub returns-in_err-sessions : goal.returns-in_err-sessions
returns-in_err-sessions c =
    let known = taken u64_front c.args.reader.now c.u64.new.self c.in_ok-known.known c.in_ok-known.ensures in
    let kept = taken u32_front c.u64.new.self c.u32.new.self c.in_ok-kept.kept c.in_ok-kept.ensures in
    let leaves = taken u32_front c.u32.new.self c.u32-2.new.self c.in_ok-leaves.leaves c.in_ok-leaves.ensures in
    let none = untaken u16_front c.u32-2.new.self c.u16.new.self c.in_err-sessions.ensures in
    takes-none (made (λ p. Statistics p.0.0.0.0 p.0.0.0.1 p.0.0.1 p.0.1 p.1)
    (both (both (both (both u64_front u32_front) u32_front) u16_front) site_lines_front)) c.args.reader.now c.u16.new.self
    c.from_residual-in_err-sessions.result c.from_residual-in_err-sessions.ensures (rw (known, kept, leaves, none) refl)

pub returns-in_err-sites : goal.returns-in_err-sites
returns-in_err-sites c =
    let known = taken u64_front c.args.reader.now c.u64.new.self c.in_ok-known.known c.in_ok-known.ensures in
    let kept = taken u32_front c.u64.new.self c.u32.new.self c.in_ok-kept.kept c.in_ok-kept.ensures in
    let leaves = taken u32_front c.u32.new.self c.u32-2.new.self c.in_ok-leaves.leaves c.in_ok-leaves.ensures in
    let sessions = taken u16_front c.u32-2.new.self c.u16.new.self c.in_ok-sessions.sessions c.in_ok-sessions.ensures in
    let none = untaken site_lines_front c.u16.new.self c.lines_of_sites.new.reader c.in_err-sites.ensures in
    takes-none (made (λ p. Statistics p.0.0.0.0 p.0.0.0.1 p.0.0.1 p.0.1 p.1)
    (both (both (both (both u64_front u32_front) u32_front) u16_front) site_lines_front)) c.args.reader.now c.lines_of_sites.new.reader
    c.from_residual-in_err-sites.result c.from_residual-in_err-sites.ensures (rw (known, kept, leaves, sessions, none) refl)

pub returns : goal.returns
returns c =
    let known = taken u64_front c.args.reader.now c.u64.new.self c.in_ok-known.known c.in_ok-known.ensures in
    let kept = taken u32_front c.u64.new.self c.u32.new.self c.in_ok-kept.kept c.in_ok-kept.ensures in
    let leaves = taken u32_front c.u32.new.self c.u32-2.new.self c.in_ok-leaves.leaves c.in_ok-leaves.ensures in
    let sessions = taken u16_front c.u32-2.new.self c.u16.new.self c.in_ok-sessions.sessions c.in_ok-sessions.ensures in
    let sites = taken site_lines_front c.u16.new.self c.lines_of_sites.new.reader c.in_ok-sites.sites c.in_ok-sites.ensures in
    takes (made (λ p. Statistics p.0.0.0.0 p.0.0.0.1 p.0.0.1 p.0.1 p.1)
    (both (both (both (both u64_front u32_front) u32_front) u16_front) site_lines_front)) c.args.reader.now c.lines_of_sites.new.reader
    (Statistics c.in_ok-known.known c.in_ok-kept.kept c.in_ok-leaves.leaves c.in_ok-sessions.sessions c.in_ok-sites.sites)
    (rw (known, kept, leaves, sessions, sites) refl)
