use Rattle.std.proofs.Common.{◌≡◌, ◌++◌, [], ◌∷◌, false, refl, sym, ◌∙◌}
use Rattle.site_log.specs.Files.{IsFile}
use Rattle.site_log.proofs.Leading.{RestLaws}
use Rattle.site_log.proofs.Standing.{stands_put, where_ok}
use Rattle.site_log.proofs.logged.Logged.flush.Goals as goal

pub returns-clause-stands : goal.returns-clause-stands
returns-clause-stands g c = λ kept marks s.
    let M = g.M.Resting in
    let K = g.K.Disk in
    let laws : RestLaws M = record {
      opens = g.met.M.Resting.opens;
      rests = g.met.M.Resting.rests;
      goes_on = g.met.M.Resting.goes_on;
      lasts = g.met.M.Resting.lasts;
      rest_alike = g.met.M.Resting.rest_alike;
    } in
    let sound : c.args.self.now.file.failed ≡ false = sym c.has_failed.ensures ∙ c.if-has_failed.false in
    stands_put M K laws c.args.self.now
    (record {
      machine = c.args.self.now.machine;
      file = c.put_body-put.new.self;
      waiting = c.clear-2.new.self;
      text = c.put_body-put.new.text;
      owed = c.args.self.now.owed;
      alloc = c.args.self.now.alloc;
      long = c.args.self.now.long;
    })
    kept marks s refl c.bytes.result.now c.bytes.ensures.bytes sound c.put_body-put.ensures.front c.put_body-put.ensures.honest.1
    c.put_body-put.ensures.any_moment
    (λ now h bodies is. where_ok c.put_body-put.result (IsFile K c.put_body-put.new.self (bodies ++ c.bytes.result.now ∷ []))
    c.put_body-put.new.self.failed (c.put_body-put.ensures.put h bodies is) c.put_body-put.ensures.failed now)
    c.clear-2.ensures refl
