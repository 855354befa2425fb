use Rattle.std.proofs.Common.{◌+◌, ◌≤◌, length, refl, sym, arith, true≢false}
use Rattle.std.proofs.lemmas.Bool.{false_from_ne_true}
use Rattle.tardis_base.specs.Plain.{Event}
use Rattle.site_journal.specs.Opened.{state_of}
use Rattle.site_journal.proofs.Staging.{staged_more, staged_same, length_all}
use Rattle.site_journal.proofs.journals.Journaled.stage.Goals as goal

pub returns-then-self-bytes-clause-staged : goal.returns-then-self-bytes-clause-staged
returns-then-self-bytes-clause-staged g c = λ entries staged o.
    let all = length_all entries staged c.args.self.now.place c.args.self.now.staged o.at o.text in
    (refl, c.clear.ensures, omega (arith, all, c.len.ensures.count), omega arith)

pub returns-in-Ok-clause-staged : goal.returns-in-Ok-clause-staged
returns-in-Ok-clause-staged g c = λ entries staged o.
    let M = g.M.Machine in
    let K = g.K.Disk in
    let e : Event = (c.args.actor, c.args.request.now) in
    let all = length_all entries staged c.args.self.now.place c.args.self.now.staged o.at o.text in
    let room : c.args.self.now.place + length c.args.self.now.staged + (length c.args.request.now + 7) ≤ c.args.self.now.max_trail =
    omega (arith, c.len.ensures.count) in (
      staged_more M K c.args.self.now
          (record {
            machine = c.act.new.self;
            disk = c.args.self.now.disk;
            staged = c.push_entry.new.self;
            place = c.args.self.now.place;
            max_trail =
                c.args.self.now.max_trail;
          })
          entries staged e o (omega arith) c.requires.fits c.in-Ok.ensures.step c.in-Ok.ensures.opening refl refl refl c.push_entry.ensures room
          c.requires.room,
      c.in-Ok.ensures.reply (state_of M K c.args.self.now entries staged) o.stood,
      omega (arith, all, room),
    )

pub returns-in-Err-clause-staged : goal.returns-in-Err-clause-staged
returns-in-Err-clause-staged g c = λ entries staged o.
    let M = g.M.Machine in
    let K = g.K.Disk in
    let all = length_all entries staged c.args.self.now.place c.args.self.now.staged o.at o.text in
    let room : c.args.self.now.place + length c.args.self.now.staged + (length c.args.request.now + 7) ≤ c.args.self.now.max_trail =
    omega (arith, c.len.ensures.count) in (
      staged_same M K c.args.self.now
          (record {
            machine = c.act.new.self;
            disk = c.args.self.now.disk;
            staged = c.args.self.now.staged;
            place = c.args.self.now.place;
            max_trail =
                c.args.self.now.max_trail;
          })
          entries staged o c.in-Err.ensures.same c.in-Err.ensures.opening refl refl refl refl,
      c.in-Err.ensures.empty,
      false_from_ne_true (M.plain.is_sure (c.args.actor, c.args.request.now)) (λ is. true≢false (sym (c.in-Err.ensures.sure is))),
      omega (arith, all, room),
    )
