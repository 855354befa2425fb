use Rattle.std.proofs.Common.{rules, ◌<◌, ◌^◌, subst, sym, arith}
use Rattle.tardis_base.specs.declared.records.Limits.{Limits}
use Rattle.tardisd_main.proofs.files.front_of.Goals as goal

pub returns-clause-fits : goal.returns-clause-fits
returns-clause-fits c =
    let is = c.limits-limits.ensures.limits in
    let room = c.requires.capacity in
    record {
      sites = search rules;
      own = omega (arith, c.requires.place.last, c.requires.place.most);
      kept = subst (λ (l : Limits). l.max_kept < 2 ^ 32) (sym is) (omega (arith, room.most_states));
      path = subst (λ (l : Limits). l.max_path < 2 ^ 32) (sym is) (omega arith);
      sessions = subst (λ (l : Limits). l.max_sessions < 2 ^ 16) (sym is) (omega (arith, room.most_sessions));
      life = search rules;
    }
