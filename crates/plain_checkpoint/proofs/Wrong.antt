-- Wrong parts, and parts and floors that are told where they may not be, break the laws; and the worked rows.
use Rattle.std.proofs.Common.{◌≡◌, ℕ, ◌≤◌, true, false, [], ◌∷◌, ◌++◌, length, refl, ap, arith}
use Rattle.std.specs.Prelude.{codes, nat_le}
use Rattle.std.proofs.lemmas.Bool.{and_from, le-leb}
use Rattle.tardis_base.specs.declared.records.Limits.{Limits}
use Rattle.plain_dag.specs.Floors.{unpromised}
use Rattle.plain_site.specs.Site.{Site, opening}
use Rattle.plain_site.specs.RowWords.{◌·◌, program_limits}
use Rattle.plain_site.specs.Sound.{IsSound}
use Rattle.plain_site.proofs.SoundHistories.{count-fits}
use Rattle.plain_site.proofs.SoundOpening.{opening-is-sound}
use Rattle.plain_rows.proofs.Fitting.{counts-own}
use Rattle.plain_checkpoint.specs.Checkpoints.{Told, untold, Part, ToldState, ToldLine, ToldGone, with_part, with_parts, fits_part, checkpoint_site}
use Rattle.plain_checkpoint.specs.Laws.{IsToldWell, PartsKeepToldWell, ToldSitesAreSound, FloorsOfSitesFit, ArrivalsFit, CollectionsFit, LinesAreStates, LinesJoin}
use Rattle.plain_checkpoint.specs.Laws.{LargerLimitsFit, FloorsGoBySites}
use Rattle.plain_checkpoint.specs.WrongCheckpoints.{IsBroken, collects_the_last, keeps_the_old_last, takes_one, lets_none_in, forgets_kept, forgets_apart}
use Rattle.plain_checkpoint.specs.WrongCheckpoints.{forgets_children, forgets_conflicts, forgets_growth, forgets_bits, forgets_sites, forgets_absorbed}
use Rattle.plain_checkpoint.specs.WrongCheckpoints.{fills_up, counts_states, forgets_gone, lets_no_floors_in, forgets_closed, forgets_some_floors}
use Rattle.plain_checkpoint.specs.Worked.{bare, keeping, limits_of_three, one_branch, other_branch, forked, four_gone}
use Rattle.plain_checkpoint.proofs.Sites.{untold-is-told-well, parts-keep-told-well, all-parts-keep-told-well, told-sites-are-sound}

-- one site
abbrev one : Limits
one = program_limits 1

untold-well : IsToldWell one untold
untold-well = untold-is-told-well one refl

-- the state of this number, below that one
abbrev below : (n parent : ℕ) → Part
below n parent = ToldState (bare (1 · n) (record { site = 1; sequence = parent } ∷ []))

-- below the root
abbrev below_root : ℕ → Part
below_root n = ToldState (bare (1 · n) (0 · 0 ∷ []))

-- ===== Wrong parts

-- 1.1 is collected, and has no child
pub collected-last-breaks : IsBroken (PartsKeepToldWell collects_the_last fits_part)
collected-last-breaks law =
    let absorbed : false ≡ true = (law one untold (ToldLine 1 1) refl untold-well refl).absorbed (1 · 1) refl in
    absurd (cc)

-- the root and 1.1 are kept, where one state may be
pub kept-last-breaks : IsBroken (PartsKeepToldWell keeps_the_old_last fits_part)
kept-last-breaks law =
    let few : 2 ≤ 1 = (law (keeping 1) untold (ToldLine 1 1) refl (untold-is-told-well (keeping 1) refl) refl).few_kept in
    absurd (omega arith)

-- the root isn't gone
pub line-keeps-last-breaks : IsBroken (LinesAreStates keeps_the_old_last)
line-keeps-last-breaks law =
    let fewer : ◌≡◌ {A = ℕ} 0 1 = ap (λ (t : Told). length t.collected) (law untold 1) in
    absurd (cc)

-- one state arrives where two should
pub one-taken-breaks : IsBroken (LinesJoin takes_one)
one-taken-breaks law =
    let fewer : ◌≡◌ {A = ℕ} 3 2 = ap (λ (t : Told). length t.dag) (law untold 1 1 1) in
    absurd (cc)

-- ===== Wrong tests of records

abbrev root_gone : Told
root_gone = with_part (ToldLine 1 1) untold

root-gone-well : IsToldWell one root_gone
root-gone-well = parts-keep-told-well one untold (ToldLine 1 1) refl untold-well refl

-- the root is collected, and its children 1.1 and 1.2 are both kept
pub forgotten-kept-breaks : IsBroken (PartsKeepToldWell with_part forgets_kept)
forgotten-kept-breaks law =
    let absorbed : false ≡ true = (law one root_gone (below_root 2) refl root-gone-well refl).absorbed (0 · 0) refl in
    absurd (cc)

abbrev one_made : Told
one_made = with_part (below_root 1) untold

one-made-well : IsToldWell one one_made
one-made-well = parts-keep-told-well one untold (below_root 1) refl untold-well refl

-- 1.2 has the parents root and 1.1
pub forgotten-apart-breaks : IsBroken (PartsKeepToldWell with_part forgets_apart)
forgotten-apart-breaks law =
    let apart : false ≡ true = (law one one_made (ToldState (bare (1 · 2) (0 · 0 ∷ 1 · 1 ∷ []))) refl one-made-well refl).dag.0.apart in
    absurd (cc)

-- the root has a fifth child, where four may be
pub forgotten-children-break : IsBroken (PartsKeepToldWell with_part forgets_children)
forgotten-children-break law =
    let limits = keeping 4 in
    let well = all-parts-keep-told-well limits untold four_gone refl (untold-is-told-well limits refl) refl in
    let few : 5 ≤ 4 = (law limits (with_parts four_gone untold) (below_root 8) refl well refl).few_children (0 · 0) in
    absurd (omega arith)

-- the merge of both branches doesn't write the key that both wrote
pub forgotten-conflicts-break : IsBroken (PartsKeepToldWell with_part forgets_conflicts)
forgotten-conflicts-break law =
    let well = all-parts-keep-told-well limits_of_three untold (one_branch ++ other_branch) refl (untold-is-told-well limits_of_three refl) refl in
    let merge = ToldState (bare (3 · 1) (1 · 3 ∷ 2 · 3 ∷ [])) in
    let written : false ≡ true = (law limits_of_three forked merge refl well refl).dag.0.merges (codes "x") refl in
    absurd (cc)

-- the root and 1.1 are kept, where one state may be
pub forgotten-growth-breaks : IsBroken (PartsKeepToldWell with_part forgets_growth)
forgotten-growth-breaks law =
    let few : 2 ≤ 1 = (law (keeping 1) untold (below_root 1) refl (untold-is-told-well (keeping 1) refl) refl).few_kept in
    absurd (omega arith)

-- ===== Wrong tests of lines, and of states that go

-- there are as many states of site 1 as numbers of 32 bits, and one of these is the root's
too-many : (count : ℕ) → count ≡ 4294967296 → PartsKeepToldWell with_part forgets_bits → ⊥
too-many count all law =
    let line = ToldLine 1 count in
    let well = law one untold line refl untold-well (and_from true (nat_le 1 count) refl (le-leb 1 count (omega arith))) in
    let few = count-fits (with_part line untold).dag well.dag 1 in
    let many = counts-own untold.dag 1 count in
    omega arith

pub forgotten-bits-break : IsBroken (PartsKeepToldWell with_part forgets_bits)
forgotten-bits-break law = too-many 4294967296 refl law

-- a state of a second site arrives, where there is one
pub forgotten-sites-break : IsBroken (PartsKeepToldWell with_part forgets_sites)
forgotten-sites-break law =
    let of_the_sites : false ≡ true = (law one untold (ToldLine 2 1) refl untold-well refl).of_the_sites in
    absurd (cc)

-- the root is collected, and has no child
pub forgotten-absorbed-breaks : IsBroken (PartsKeepToldWell with_part forgets_absorbed)
forgotten-absorbed-breaks law =
    let absorbed : false ≡ true = (law one untold (ToldGone (0 · 0)) refl untold-well refl).absorbed (0 · 0) refl in
    absurd (cc)

-- the root is collected twice
pub forgotten-gone-breaks : IsBroken (PartsKeepToldWell with_part forgets_gone)
forgotten-gone-breaks law =
    let once : false ≡ true = (law one root_gone (ToldGone (0 · 0)) refl root-gone-well refl).once in
    absurd (cc)

-- ===== Wrong tests of floors

-- 1.1 is collected, and the floor is at the root
pub forgotten-closed-breaks : IsBroken (ToldSitesAreSound forgets_closed)
forgotten-closed-breaks law =
    let t = with_part (ToldLine 1 1) one_made in
    let well = parts-keep-told-well one one_made (ToldLine 1 1) refl one-made-well refl in
    let closed : false ≡ true = (law one 1 t (unpromised (0 · 0) ∷ []) refl refl well refl).collected.closed (1 · 1) refl in
    absurd (cc)

-- there is no floor of the only site
pub forgotten-floors-break : IsBroken (ToldSitesAreSound forgets_some_floors)
forgotten-floors-break law =
    let none : ◌≡◌ {A = ℕ} 0 1 = (law one 1 untold [] refl refl untold-well refl).one_floor_each in
    absurd (cc)

-- ===== Tests that let nothing in

lone-sound : IsSound (opening one 1)
lone-sound = opening-is-sound one 1 refl refl

pub no-floors-break : IsBroken (FloorsOfSitesFit lets_no_floors_in)
no-floors-break law =
    let fit : false ≡ true = (law (opening one 1) lone-sound).0 in
    absurd (cc)

pub no-arrivals-break : IsBroken (ArrivalsFit lets_none_in)
no-arrivals-break law =
    let fits : false ≡ true = law (opening one 1) (bare (1 · 1) (0 · 0 ∷ [])) lone-sound refl refl in
    absurd (cc)

-- the only site has made a state, and its floor is there
abbrev raised : Site
raised = checkpoint_site one 1 one_made (unpromised (1 · 1) ∷ [])

pub no-collections-break : IsBroken (CollectionsFit lets_none_in)
no-collections-break law =
    let sound = told-sites-are-sound one 1 one_made (unpromised (1 · 1) ∷ []) refl refl one-made-well refl in
    let fits : false ≡ true = law raised (0 · 0) sound refl in
    absurd (cc)

-- ===== Larger limits

-- 1.1 is the last of two that may be kept, and not of three
pub filling-breaks : IsBroken (LargerLimitsFit fills_up)
filling-breaks law =
    let fits : false ≡ true =
    law (keeping 2) (keeping 3) untold (below_root 1) refl (omega arith) (omega arith) (untold-is-told-well (keeping 2) refl) refl in
    absurd (cc)

-- two states are told
pub counting-breaks : IsBroken (FloorsGoBySites counts_states)
counting-breaks law =
    let same : true ≡ false = law (keeping 2) (keeping 1) one_made (unpromised (0 · 0) ∷ []) refl in
    absurd (cc)
