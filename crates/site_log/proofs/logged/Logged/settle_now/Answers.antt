use Rattle.std.proofs.Common.{false, refl, ◌∙◌}
use Rattle.site_log.proofs.Leading.{RestLaws}
use Rattle.site_log.proofs.Standing.{stands_settled}
use Rattle.site_log.proofs.logged.Logged.settle_now.Goals as goal

pub returns-in-Ok-shorten_now-clause-settled : goal.returns-in-Ok-shorten_now-clause-settled
returns-in-Ok-shorten_now-clause-settled g c = λ kept marks s.
    let M = g.M.Resting in
    let laws : RestLaws M = record {
      opens = g.met.M.Resting.opens;
      rests = g.met.M.Resting.rests;
      goes_on = g.met.M.Resting.goes_on;
      lasts = g.met.M.Resting.lasts;
      rest_alike = g.met.M.Resting.rest_alike;
    } in
    let now = c.shorten_now.ensures.stands kept marks (c.flush.ensures.stands kept marks s) in
    stands_settled M g.K.Disk laws c.shorten_now.new.self
    (record {
      machine = c.shorten_now.new.self.machine;
      file = c.shorten_now.new.self.file;
      waiting = c.shorten_now.new.self.waiting;
      text = c.shorten_now.new.self.text;
      owed = false;
      alloc = c.shorten_now.new.self.alloc;
      long = c.shorten_now.new.self.long;
    })
    kept marks now c.group_laws.ensures.written (g.met.K.Disk.only_now c.shorten_now.new.self.file.disk) refl refl c.in-Ok-shorten_now.ensures.done
    (c.shorten_now.ensures.waiting ∙ c.flush.ensures.emptied) refl

pub returns-in-Err-shorten_now-clause-same : goal.returns-in-Err-shorten_now-clause-same
returns-in-Err-shorten_now-clause-same g c = λ kept marks s. c.shorten_now.ensures.stands kept marks (c.flush.ensures.stands kept marks s)
