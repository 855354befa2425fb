use Rattle.std.proofs.Common.{◌≡◌, ◌+◌, ◌++◌, ℕ, List, inl, inr, length, take, drop, arith, length-drop, length-take-le, take_at, ap, ◌∙◌}
use Rattle.site_journal.proofs.Readings.{none_by_count}
use Rattle.site_journal.proofs.Entries.{none_by_head, next_is}
use Rattle.site_journal.proofs.replays.next_entry.Goals as goal

pub returns-then-size-place-lt8-clause-next : goal.returns-then-size-place-lt8-clause-next
returns-then-size-place-lt8-clause-next g c = λ h.
    none_by_count (drop c.args.place (g.K.Disk.reads c.args.disk.now))
    (omega (arith, length-drop c.args.place (g.K.Disk.reads c.args.disk.now), c.requires.size h))

pub returns-then-count-lt2-clause-next : goal.returns-then-count-lt2-clause-next
returns-then-count-lt2-clause-next g c = λ h.
    let h1 = c.read_at.ensures.honest.0 h in
    none_by_head (g.K.Disk.reads c.args.disk.now) c.read_at.new.buf c.read_at-2.new.buf c.args.place c.length_of-count.result (c.in_ok-read_at.ensures.bytes h)
    (c.in_ok-read_at-2.ensures.bytes h1 ∙ ap (λ z. take 4 (drop (c.args.place + 1) z)) (c.read_at.ensures.reads h)) c.length_of-count.ensures (omega arith)
    (omega (arith, c.requires.size h)) (inr (inl c.if-count-lt2.true))

pub returns-then-count-gt-MAX_FRAME-clause-next : goal.returns-then-count-gt-MAX_FRAME-clause-next
returns-then-count-gt-MAX_FRAME-clause-next g c = λ h.
    let h1 = c.read_at.ensures.honest.0 h in
    none_by_head (g.K.Disk.reads c.args.disk.now) c.read_at.new.buf c.read_at-2.new.buf c.args.place c.length_of-count.result (c.in_ok-read_at.ensures.bytes h)
    (c.in_ok-read_at-2.ensures.bytes h1 ∙ ap (λ z. take 4 (drop (c.args.place + 1) z)) (c.read_at.ensures.reads h)) c.length_of-count.ensures (omega arith)
    (omega (arith, c.requires.size h)) (inr (inr c.if-count-gt-MAX_FRAME.true))

pub returns-then-size-place-clause-next : goal.returns-then-size-place-clause-next
returns-then-size-place-clause-next g c = λ h.
    let h1 = c.read_at.ensures.honest.0 h in
    none_by_head (g.K.Disk.reads c.args.disk.now) c.read_at.new.buf c.read_at-2.new.buf c.args.place c.length_of-count.result (c.in_ok-read_at.ensures.bytes h)
    (c.in_ok-read_at-2.ensures.bytes h1 ∙ ap (λ z. take 4 (drop (c.args.place + 1) z)) (c.read_at.ensures.reads h)) c.length_of-count.ensures (omega arith)
    (omega (arith, c.requires.size h)) (inl (omega (arith, c.requires.size h)))

pub returns-clause-next : goal.returns-clause-next
returns-clause-next g c = λ h.
    let K = g.K.Disk in
    let n : ℕ = c.length_of-count.result in
    let h1 = c.read_at.ensures.honest.0 h in
    let h2 = c.read_at-2.ensures.honest.0 h1 in
    let all : List ℕ = K.reads c.args.disk.now in
    let same = c.read_at-2.ensures.reads h1 ∙ c.read_at.ensures.reads h in
    let room : length (take n c.args.body.now) ≡ n = length-take-le n c.args.body.now (omega (arith, c.requires.room)) in
    let read : c.read_at-3.new.buf ≡ take n (drop (c.args.place + 5) all) = c.in_ok-read_at-3.ensures.bytes h2
    ∙ (ap (λ k. take k (drop (c.args.place + 5) (K.reads c.read_at-2.new.self))) room ∙ ap (λ z. take n (drop (c.args.place + 5) z)) same) in
    let long : length c.read_at-3.new.buf ≡ n = ap length read
    ∙ length-take-le n (drop (c.args.place + 5) all) (omega (arith, length-drop (c.args.place + 5) all, c.requires.size h)) in
    let front : take n (c.read_at-3.new.buf ++ drop n c.args.body.now) ≡ c.read_at-3.new.buf = take_at c.read_at-3.new.buf (drop n c.args.body.now) n long in
    next_is all c.read_at.new.buf c.read_at-2.new.buf (take n (c.read_at-3.new.buf ++ drop n c.args.body.now)) c.args.place n (c.in_ok-read_at.ensures.bytes h)
    (c.in_ok-read_at-2.ensures.bytes h1 ∙ ap (λ z. take 4 (drop (c.args.place + 1) z)) (c.read_at.ensures.reads h)) c.length_of-count.ensures
    (omega (arith, c.if-mark-ne1.false)) (omega (arith, c.requires.size h)) (front ∙ read)
