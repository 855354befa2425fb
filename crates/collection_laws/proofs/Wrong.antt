-- Wrong steps that break the laws, and the worked row.
use Rattle.std.proofs.Common.{◌≡◌, ℕ, true, false, [], ◌∷◌, length, inl, inr, refl, ap}
use Rattle.std.specs.Prelude.{codes, drop}
use Rattle.tardis_base.specs.declared.requests.Request.TheVariants.{Get, Tidy}
use Rattle.tardis_base.specs.declared.replies.Reply.TheVariants.{Absent}
use Rattle.plain_site.specs.Site.{Site}
use Rattle.plain_site.specs.RowWords.{lone_site, program_limits, ◌·◌, ◌asks◌=>◌, get, none, commit, value}
use Rattle.plain_site.proofs.SoundOpening.{opening-is-sound}
use Rattle.tardis_base.specs.Ids.{root}
use Rattle.plain_site.specs.ClientRuns.{site_after, IsAnswered, IsRun}
use Rattle.plain_site.specs.WrongSteps.{IsBrokenBy, forgets_collected}
use Rattle.collection_laws.specs.Laws.{CollectionIsUnseen, CollectingTakesNoRoom, OnlyCollectedChange, without_collection, HasRoom, RunsGoTheSameWithout}
use Rattle.collection_laws.specs.Rows.{reads_kept_alone, fills_with_collected, write_missed, closed_above, CollectingMakesRoom}

-- the site where 1.1, which wrote x, is collected
pub kept-alone-breaks : IsBrokenBy CollectionIsUnseen reads_kept_alone
kept-alone-breaks law =
    let same : value (1 · 1) "1" ≡ Absent = (law closed_above (record closed_above { collected = 1 · 1 ∷ [] }) 1 (Get (codes "x")) refl refl refl refl).0 in
    absurd (cc)

write-missed : IsRun reads_kept_alone lone_site write_missed
write-missed = record {
  limits = refl;
  own = refl;
  opens = refl;
  answered = (
    refl,
    inl refl,
    (
      refl,
      inl refl,
      (
        refl,
        inl refl,
        (
          refl,
          inl refl,
          (
            refl,
            inl refl,
            (
              refl,
              inl refl,
              (refl, inl refl, (refl, inl refl, (refl, inl refl, (refl, inl refl, (refl, inl refl, tt))))),
            ),
          ),
        ),
      ),
    ),
  );
}

found-or-wanting : IsAnswered reads_kept_alone (site_after reads_kept_alone lone_site (without_collection (drop 1 write_missed))) (1 asks get "x" => Absent) → ⊥
found-or-wanting (inl e) = let same : Absent ≡ value (1 · 1) "1" = e in absurd (cc)
found-or-wanting (inr wants) = absurd (cc)

room-without : HasRoom reads_kept_alone lone_site (without_collection write_missed)
room-without = (refl, (refl, (refl, (refl, (refl, (refl, (refl, (refl, (refl, (refl, tt))))))))))

pub kept-alone-breaks-runs : IsBrokenBy RunsGoTheSameWithout reads_kept_alone
kept-alone-breaks-runs law = found-or-wanting (law lone_site write_missed write-missed room-without).0.1

-- a request that finds no session is answered so where nothing is collected, and Full where the root is
pub filled-breaks : IsBrokenBy CollectingTakesNoRoom fills_with_collected
filled-breaks law =
    let sound = opening-is-sound (program_limits 1) 1 refl refl in
    let full : true ≡ false = law lone_site (record lone_site { collected = root ∷ [] }) 1 (commit none) sound refl (λ x among. absurd (cc)) refl refl in
    absurd (cc)

-- where the root is collected, one record of two is left
pub forgotten-breaks : IsBrokenBy OnlyCollectedChange forgets_collected
forgotten-breaks law =
    let fewer : ◌≡◌ {A = ℕ} 1 2 = ap (λ (site : Site). length site.dag) (law closed_above 0 (Tidy 1) refl) in
    absurd (cc)

pub collecting-makes-room : CollectingMakesRoom
collecting-makes-room = refl
