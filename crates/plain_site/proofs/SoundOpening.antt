-- A site that opens is sound.
use Rattle.std.proofs.Common.{◌≡◌, ℕ, zero, suc, ◌+◌, ◌≤◌, true, [], ◌∷◌, length, replicate, IsTrue, refl, sym, ap, arith}
use Rattle.std.specs.Prelude.{◌&&◌, nat_le}
use Rattle.std.proofs.lemmas.Bool.{and_parts, and_from, le-leb, leb-true}
use Rattle.std.proofs.lemmas.Option.{none-some}
use Rattle.tardis_base.specs.declared.records.Limits.{Limits}
use Rattle.tardis_base.specs.Valid.{is_within, are_limits}
use Rattle.plain_dag.specs.States.{root_record, count_of_site}
use Rattle.plain_dag.specs.Floors.{opening_floor}
use Rattle.plain_dag.proofs.Ids.{not-both}
use Rattle.plain_site.specs.Sound.{are_sound_floors}
use Rattle.plain_site.specs.Laws.{OpeningIsSound}

-- what is needed of a site's limits
pub record AreLimitsOf (l : Limits) : Type 0 where
  pub sites : l.sites ≤ 16
  pub kept : 1 ≤ l.max_kept

pub limits-parts : (l : Limits) → IsTrue (are_limits l) → AreLimitsOf l
limits-parts l h =
    let sites = is_within 1 16 l.sites in
    let kept = is_within 1 65000 l.max_kept in
    let path = is_within 1 65000 l.max_path in
    let sessions = is_within 1 4096 l.max_sessions in
    let trail = nat_le l.max_trail 1073741824 in
    let most = and_parts (sites && kept && path && sessions) trail h in
    let more = and_parts (sites && kept && path) sessions most.0 in
    let first = and_parts (sites && kept) path more.0 in
    let both = and_parts sites kept first.0 in
    record {
      sites = leb-true l.sites 16 (and_parts (nat_le 1 l.sites) (nat_le l.sites 16) both.0).1;
      kept = leb-true 1 l.max_kept (and_parts (nat_le 1 l.max_kept) (nat_le l.max_kept 65000) both.1).0;
    }

floors-open : (n m : ℕ) → IsTrue (are_sound_floors (root_record ∷ []) n (replicate m opening_floor))
floors-open n zero = refl
floors-open n (suc m) =
    let rest = are_sound_floors (root_record ∷ []) (n + 1) (replicate m opening_floor) in
    let within = nat_le 0 (count_of_site (root_record ∷ []) n) in
    and_from (within && true) rest (and_from within true (le-leb 0 (count_of_site (root_record ∷ []) n) (omega arith)) refl) (floors-open (n + 1) m)

replicated : {A : Type 0} (n : ℕ) (a : A) → length (replicate n a) ≡ n
replicated zero a = refl
replicated (suc n) a = ap suc (replicated n a)

pub opening-is-sound : OpeningIsSound
opening-is-sound limits own h of_a_site = record {
  limits = h;
  own = of_a_site;
  dag = refl;
  of_the_sites = and_from (nat_le 0 limits.sites) true (le-leb 0 limits.sites (omega arith)) refl;
  few_kept = (limits-parts limits h).kept;
  short_paths = λ x kept. omega arith;
  few_children = λ x. omega arith;
  few_sessions = omega arith;
  session_numbers = refl;
  each_session = refl;
  txn_numbers = refl;
  each_txn = λ n t e. absurd (none-some t e);
  one_floor_each = replicated limits.sites opening_floor;
  each_floor = floors-open 1 limits.sites;
  under_floor = refl;
  collected = record { known = λ x m. not-both true refl (sym m); closed = λ x m. not-both true refl (sym m); absorbed = λ x m. not-both true refl (sym m) };
  collected_once = refl;
  waiting = record { few = omega arith; once = refl; each = refl };
}
