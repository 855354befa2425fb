-- Collected states are left alone.
use Rattle.std.proofs.Common.{◌≡◌, ℕ, Bool, true, false, List, ◌∷◌, Option, Some, IsFalse, refl, sym, subst}
use Rattle.std.specs.Prelude.{◌==◌, nat_lt, nat_le}
use Rattle.std.proofs.lemmas.Bool.{both_ways, false_from_ne_true}
use Rattle.tardis_base.specs.declared.ids.StateId.{StateId}
use Rattle.tardis_base.specs.declared.replies.Refusal.{Refusal}
use Rattle.tardis_base.specs.declared.replies.Refusal.TheVariants.{BadSite, OwnItem, ClosedParent, Comparable, OpenConflict}
use Rattle.tardis_base.specs.declared.replies.Reply.{Reply}
use Rattle.tardis_base.specs.declared.replies.Reply.TheVariants.{Applied, Refused, Known, Early}
use Rattle.plain_dag.specs.States.{count_of_site}
use Rattle.plain_dag.specs.Above.{comparable_pair}
use Rattle.plain_dag.specs.Begin.{is_admitted}
use Rattle.plain_dag.specs.Conflicts.{open_conflict}
use Rattle.plain_dag.specs.Floors.{is_closed}
use Rattle.plain_dag.proofs.Ids.{not-both}
use Rattle.plain_dag.proofs.Searches.{found-passes, finds-passing}
use Rattle.plain_site.specs.Site.{Site}
use Rattle.plain_site.specs.Answers.{Answer, when, refuse, refuse_found, unless}
use Rattle.plain_site.specs.Commits.{growth_refusals, with_record}
use Rattle.plain_site.specs.Exchange.{is_early}
use Rattle.plain_site.specs.CollectionLaws.{CollectedAreNeverAdmitted, BelowCollectedIsTurnedAway}
use Rattle.plain_site.proofs.SoundCommits.{admitted-isnt_closed}

pub collected-are-never-admitted : CollectedAreNeverAdmitted
collected-are-never-admitted site n s x sound has among =
    false_from_ne_true (is_admitted site.dag s.ceiling x) (λ admitted.
    both_ways (is_closed site.dag site.floors x) (admitted-isnt_closed site n s x sound has admitted) (sound.collected.closed x among))

-- the reply where a closed parent is refused behind four tests
abbrev judged : Site → Bool → Refusal → Bool → Bool → Refusal → Bool → ℕ → Option StateId → List (Option Reply) → Answer → Reply
judged site bad one known own three early have closed more answer =
    (unless site (refuse bad one ∷ when known Known ∷ refuse own three ∷ when early (Early have) ∷ refuse_found ClosedParent closed ∷ more) answer).1

never-applied : (site : Site) (bad : Bool) (one : Refusal) (known own : Bool) (three : Refusal) (early : Bool) (have : ℕ) (q : StateId)
    (more : List (Option Reply)) (answer : Answer) →
    judged site bad one known own three early have (Some q) more answer ≡ Applied → ⊥
never-applied site true one known own three early have q more answer e = let bad : ⊥ = cc in bad
never-applied site false one true own three early have q more answer e = let bad : ⊥ = cc in bad
never-applied site false one false true three early have q more answer e = let bad : ⊥ = cc in bad
never-applied site false one false false three true have q more answer e = let bad : ⊥ = cc in bad
never-applied site false one false false three false have q more answer e = let bad : ⊥ = cc in bad

names-parent : (site : Site) (bad : Bool) (one : Refusal) (known own : Bool) (three : Refusal) (early : Bool) (have : ℕ) (q : StateId)
    (more : List (Option Reply)) (answer : Answer) →
    IsFalse bad → IsFalse known → IsFalse own → IsFalse early → judged site bad one known own three early have (Some q) more answer ≡ Refused (ClosedParent q)
names-parent site true one known own three early have q more answer a b c d = not-both true refl a
names-parent site false one true own three early have q more answer a b c d = not-both true refl b
names-parent site false one false true three early have q more answer a b c d = not-both true refl c
names-parent site false one false false three true have q more answer a b c d = not-both true refl d
names-parent site false one false false three false have q more answer a b c d = refl

pub below-collected-is-turned-away : BelowCollectedIsTurnedAway
below-collected-is-turned-away site r p sound parent among =
    let rs = site.dag in
    let found = finds-passing (is_closed rs site.floors) r.parents p parent (sound.collected.closed p among) in
    let q = found.0 in
    let count = count_of_site rs r.id.site in
    let more : List (Option Reply) =
    refuse_found (λ (pair : StateId × StateId). Comparable pair.0 pair.1) (comparable_pair rs r.parents)
    ∷ refuse_found OpenConflict (open_conflict rs r.parents r.writes) ∷ growth_refusals site r in
    let says : Option StateId → Reply =
    λ o. judged site (nat_lt site.limits.sites r.id.site) (BadSite r.id.site) (nat_le r.id.sequence count) (r.id.site == site.own)
    (OwnItem r.id.site r.id.sequence) (is_early site r) count o more (with_record r site, Applied) in
    record {
      never = λ e. never-applied site (nat_lt site.limits.sites r.id.site) (BadSite r.id.site) (nat_le r.id.sequence count) (r.id.site == site.own)
          (OwnItem r.id.site r.id.sequence) (is_early site r) count q more (with_record r site, Applied)
          (subst (λ o. says o ≡ Applied) found.1 e);
      named = λ a b c d. (
        q,
        (found-passes (is_closed rs site.floors) r.parents q found.1).0,
        subst (λ o. says o ≡ Refused (ClosedParent q)) (sym found.1)
            (names-parent site (nat_lt site.limits.sites r.id.site) (BadSite r.id.site) (nat_le r.id.sequence count) (r.id.site == site.own)
            (OwnItem r.id.site r.id.sequence) (is_early site r) count q more (with_record r site, Applied) a b c d),
      );
    }
