use Rattle.std.proofs.Common.{[], ◌∷◌, false, length, sym, subst}
use Rattle.site_log.specs.Kept.{starts}
use Rattle.site_log.specs.Stood.{Stands}
use Rattle.site_log.proofs.Leading.{RestLaws}
use Rattle.site_log.proofs.Standing.{stands_start}
use Rattle.site_log.proofs.resumes.go_on.Goals as goal

pub returns-clause-stands : goal.returns-clause-stands
returns-clause-stands g c = λ s bodies stood all count rest.
    let M = g.M.Resting in
    let K = g.K.Disk in
    let laws : RestLaws M = record {
      opens = g.met.M.Resting.opens;
      rests = g.met.M.Resting.rests;
      goes_on = g.met.M.Resting.goes_on;
      lasts = g.met.M.Resting.lasts;
      rest_alike = g.met.M.Resting.rest_alike;
    } in
    subst
    (λ f. Stands M K
    (record { machine = c.args.machine; file = f; waiting = c.args.rooms.waiting; text = c.args.rooms.text; owed = false; alloc = c.args.alloc; long = 16777216 })
    (starts s bodies) (record { moment = K.moment c.args.disk; count = length bodies } ∷ []))
    (sym c.new.ensures)
    (stands_start M K laws
    (record {
      machine = c.args.machine;
      file = record {
        disk = c.args.disk;
        front = c.args.end.front;
        number = c.args.end.number;
        place = c.args.end.place;
        room = c.args.end.room;
        failed = false;
      };
      waiting = c.args.rooms.waiting;
      text = c.args.rooms.text;
      owed = false;
      alloc = c.args.alloc;
      long = 16777216;
    })
    s bodies c.group_laws.ensures.written (g.met.K.Disk.only_now c.args.disk) stood all (λ h. record { rest = rest h; number = count }) c.requires.none)
