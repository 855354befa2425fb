use Rattle.std.proofs.Common.{arith, ◌≡◌, [], true, true≢false, refl, sym, ◌∙◌}
use Rattle.tardis_base.specs.Plain.{Event}
use Rattle.site_log.proofs.Leading.{RestLaws}
use Rattle.site_log.proofs.Standing.{stands_more, stands_same, no_more}
use Rattle.site_log.proofs.logged.Logged.answer.Goals as goal

pub returns-then-len-before-clause-reply : goal.returns-then-len-before-clause-reply
returns-then-len-before-clause-reply g c = λ kept marks s. c.in-Ok.ensures.reply kept.state (c.make_way.ensures.stands kept marks s).stood

pub returns-else-len-before-clause-reply : goal.returns-else-len-before-clause-reply
returns-else-len-before-clause-reply g c = λ kept marks s. c.in-Ok.ensures.reply kept.state (c.make_way.ensures.stands kept marks s).stood

pub returns-then-len-before-clause-step : goal.returns-then-len-before-clause-step
returns-then-len-before-clause-step g c = λ kept marks s.
    let M = g.M.Resting in
    let laws : RestLaws M = record {
      opens = g.met.M.Resting.opens;
      rests = g.met.M.Resting.rests;
      goes_on = g.met.M.Resting.goes_on;
      lasts = g.met.M.Resting.lasts;
      rest_alike = g.met.M.Resting.rest_alike;
    } in
    let e : Event = (c.args.actor, c.args.request.now) in
    let now = c.make_way.ensures.stands kept marks s in
    let lasts = c.in-Ok.ensures.lasts kept.state now.stood in
    let none : M.lasting kept.state e ≡ [] =
    no_more c.make_way.new.self.waiting (M.lasting kept.state e) c.act.new.self lasts
    (sym c.len.ensures ∙ (c.if-len-before.true ∙ c.len-before.ensures)) in
    stands_more M g.K.Disk laws c.make_way.new.self
    (record {
      machine = c.act.new.machine;
      file = c.make_way.new.self.file;
      waiting = c.act.new.self;
      text = c.make_way.new.self.text;
      owed = c.make_way.new.self.owed;
      alloc = c.make_way.new.self.alloc;
      long = c.make_way.new.self.long;
    })
    kept marks now e (omega arith) c.act.ensures.opening c.in-Ok.ensures.step refl c.in-Ok.ensures.lasts (λ is. (is, none))

pub returns-else-len-before-clause-step : goal.returns-else-len-before-clause-step
returns-else-len-before-clause-step g c = λ kept marks s.
    let M = g.M.Resting in
    let laws : RestLaws M = record {
      opens = g.met.M.Resting.opens;
      rests = g.met.M.Resting.rests;
      goes_on = g.met.M.Resting.goes_on;
      lasts = g.met.M.Resting.lasts;
      rest_alike = g.met.M.Resting.rest_alike;
    } in
    let e : Event = (c.args.actor, c.args.request.now) in
    let now = c.make_way.ensures.stands kept marks s in
    stands_more M g.K.Disk laws c.make_way.new.self
    (record {
      machine = c.act.new.machine;
      file = c.make_way.new.self.file;
      waiting = c.act.new.self;
      text = c.make_way.new.self.text;
      owed = true;
      alloc = c.make_way.new.self.alloc;
      long = c.make_way.new.self.long;
    })
    kept marks now e (omega arith) c.act.ensures.opening c.in-Ok.ensures.step refl c.in-Ok.ensures.lasts
    (λ is. absurd (true≢false is))

pub returns-in-Err-clause-same : goal.returns-in-Err-clause-same
returns-in-Err-clause-same g c = λ kept marks s.
    let M = g.M.Resting in
    let laws : RestLaws M = record {
      opens = g.met.M.Resting.opens;
      rests = g.met.M.Resting.rests;
      goes_on = g.met.M.Resting.goes_on;
      lasts = g.met.M.Resting.lasts;
      rest_alike = g.met.M.Resting.rest_alike;
    } in
    let now = c.make_way.ensures.stands kept marks s in
    stands_same M g.K.Disk laws c.make_way.new.self
    (record {
      machine = c.act.new.machine;
      file = c.make_way.new.self.file;
      waiting = c.act.new.self;
      text = c.make_way.new.self.text;
      owed = c.make_way.new.self.owed;
      alloc = c.make_way.new.self.alloc;
      long = c.make_way.new.self.long;
    })
    kept marks now c.act.ensures.opening c.in-Err.ensures.same refl c.in-Err.ensures.nothing refl
