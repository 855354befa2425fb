-- What is told by parts that fit is told well, and where the floors fit it is a sound site's.
use Rattle.std.proofs.Common.{true, [], ◌∷◌, length, refl, sym, arith}
use Rattle.std.specs.Prelude.{◌==◌, ◌&&◌, nat_le}
use Rattle.std.specs.List.{list_all}
use Rattle.std.proofs.lemmas.Bool.{and_parts, and_from, eqb-true, le-leb}
use Rattle.std.proofs.lemmas.Option.{none-some}
use Rattle.plain_dag.specs.Floors.{Floor, is_closed}
use Rattle.plain_dag.specs.Collection.{is_kept}
use Rattle.plain_dag.proofs.Ids.{not-both, all-at}
use Rattle.plain_site.specs.Sound.{are_sound_floors}
use Rattle.plain_site.proofs.SoundOpening.{limits-parts}
use Rattle.plain_checkpoint.specs.Checkpoints.{untold, ToldState, ToldLine, ToldGone, with_part, with_parts, fits_part, fit_parts, fits_floors}
use Rattle.plain_checkpoint.specs.Laws.{UntoldIsToldWell, PartsKeepToldWell, AllPartsKeepToldWell, ToldSitesAreSound, CheckpointsAreSound}
use Rattle.plain_checkpoint.specs.Laws.{ToldSitesRest}
use Rattle.plain_checkpoint.proofs.Arrived.{state-parts, arrival-keeps-well}
use Rattle.plain_checkpoint.proofs.Gone.{gone-keeps-well}
use Rattle.plain_checkpoint.proofs.Lines.{line-keeps-well}

-- ===== Parts

pub untold-is-told-well : UntoldIsToldWell
untold-is-told-well limits limited =
    let sites = (limits-parts limits limited).kept in
    record {
      dag = refl;
      of_the_sites = and_from (nat_le 0 limits.sites) true (le-leb 0 limits.sites (omega arith)) refl;
      few_kept = omega arith;
      short_paths = λ x kept. omega arith;
      few_children = λ x. omega arith;
      known = λ x m. not-both true refl (sym m);
      absorbed = λ x m. not-both true refl (sym m);
      once = refl;
    }

pub parts-keep-told-well : PartsKeepToldWell with_part fits_part
parts-keep-told-well limits t (ToldState r) limited well fits = arrival-keeps-well limits t r well (state-parts limits t r fits)
parts-keep-told-well limits t (ToldLine n count) limited well fits = line-keeps-well limits t n count limited well fits
parts-keep-told-well limits t (ToldGone x) limited well fits = gone-keeps-well limits t x well fits

pub all-parts-keep-told-well : AllPartsKeepToldWell
all-parts-keep-told-well limits t [] limited well fit = well
all-parts-keep-told-well limits t (p ∷ later) limited well fit =
    let parts = and_parts (fits_part limits t p) (fit_parts limits (with_part p t) later) fit in
    all-parts-keep-told-well limits (with_part p t) later limited (parts-keep-told-well limits t p limited well parts.0) parts.1

-- ===== Sites

pub told-sites-are-sound : ToldSitesAreSound fits_floors
told-sites-are-sound limits own t floors limited own_within well fit =
    let each = length floors == limits.sites in
    let sound = are_sound_floors t.dag 1 floors in
    let kept = list_all (λ (f : Floor). is_kept t.dag t.collected f.state) floors in
    let last = and_parts (each && sound && kept) (list_all (is_closed t.dag floors) t.collected) fit in
    let first = and_parts each sound (and_parts (each && sound) kept last.0).0 in
    record {
      limits = limited;
      own = own_within;
      dag = well.dag;
      of_the_sites = well.of_the_sites;
      few_kept = well.few_kept;
      short_paths = well.short_paths;
      few_children = well.few_children;
      few_sessions = omega arith;
      session_numbers = refl;
      each_session = refl;
      txn_numbers = refl;
      each_txn = λ n txn e. absurd (none-some txn e);
      one_floor_each = eqb-true (length floors) limits.sites first.0;
      each_floor = first.1;
      under_floor = refl;
      collected = record { known = well.known; closed = λ x m. all-at (is_closed t.dag floors) t.collected x last.1 m; absorbed = well.absorbed };
      collected_once = well.once;
      waiting = record { few = omega arith; once = refl; each = refl };
    }

pub checkpoints-are-sound : CheckpointsAreSound
checkpoints-are-sound limits own parts floors limited own_within fit floors_fit =
    told-sites-are-sound limits own (with_parts parts untold) floors limited own_within
    (all-parts-keep-told-well limits untold parts limited (untold-is-told-well limits limited) fit) floors_fit

pub told-sites-rest : ToldSitesRest
told-sites-rest limits own t floors = refl
