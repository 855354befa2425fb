use Rattle.std.proofs.Common.{◌≡◌, [], ◌∷◌, Some, refl, subst, sym}
use Rattle.tardis_base.specs.Ids.{root as the_root}
use Rattle.plain_dag.specs.States.{root_record}
use Rattle.state_dag.specs.Table.{id_at}
use Rattle.state_dag.specs.Stands.{Stands}
use Rattle.plain_site.specs.Site.{opening}
use Rattle.session_core.proofs.Opening.{opens-sound}
use Rattle.session_core.proofs.Together.{stands-at}
use Rattle.session_core.proofs.Parts.new.Goals as goal

pub resting-requires : goal.resting-requires
resting-requires c =
    let store = c.in_ok-store.store in (
      opening c.args.limits.now c.args.own,
      record {
        history = c.in_ok-store.ensures.stands;
        limits = c.in_ok-store.ensures.limits;
        own = c.in-Ok.ensures.own;
        max_sessions = c.in-Ok.ensures.max_sessions;
        sessions = c.in-Ok.ensures.sessions;
        floors = c.in-Ok.ensures.floors;
        placed = c.in-Ok.ensures.placed store.table (root_record ∷ []) [] c.in_ok-store.ensures.stands.table
            (subst (λ t. id_at t c.last-root.result ≡ Some the_root) c.dag.ensures
            (c.last-root.ensures.last (root_record ∷ []) [] (subst (λ t. Stands t (root_record ∷ []) [])
            (sym c.dag.ensures) c.in_ok-store.ensures.stands.table)));
        rests = refl;
        sound = opens-sound c.args.limits.now c.args.own c.requires.limits c.requires.first c.requires.last;
      },
    )

pub returns-in-Ok : goal.returns-in-Ok
unfolding resting-requires
returns-in-Ok c = record {
  stands = stands-at c.in_ok-store.store c.in-Ok.book c.resting.result (opening c.args.limits.now c.args.own) c.resting.ensures.stands
      (resting-requires c.before).1;
}
