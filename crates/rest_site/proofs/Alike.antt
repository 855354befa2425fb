-- A site in memory that rests as another one does stands for what that one stands for, with its own sessions.
use Rattle.std.proofs.Common.{◌≡◌, true, false, Option, Some, None, IsTrue, refl, sym, subst, ◌∙◌}
use Rattle.std.specs.Prelude.{is_some}
use Rattle.std.proofs.lemmas.Bool.{both_ways}
use Rattle.tardis_base.specs.declared.records.Limits.{Limits}
use Rattle.twin_sites.specs.Twins.{AreTwinCores, last_commits_stay, with_sessions_of}
use Rattle.twin_sites.specs.Laws.{TwinsStandWithSessions}
use Rattle.plain_checkpoint.specs.Checkpoints.{Told, untold}
use Rattle.site_lives.specs.Acquainted.{Acquainted}
use Rattle.site_lives.specs.Things.{all_at_rest}
use Rattle.site_checkpoint.specs.Loaded.{Loaded}
use Rattle.rest_site.specs.Stands.{HeldSite, LoadingStands, AcquaintedStands}

pub none-loaded : (loading : Option Loaded) → is_some loading ≡ false → loading ≡ None
none-loaded None f = refl
none-loaded (Some loaded) f = absurd (both_ways true f refl)

pub none-told : (limits : Limits) (loading : Option Loaded) (t : Told) → loading ≡ None → LoadingStands limits loading t → t ≡ untold
none-told limits loading t none stands = subst (λ (l : Option Loaded). LoadingStands limits l t) none stands

pub told-none : (limits : Limits) (loading : Option Loaded) (t : Told) → loading ≡ None → t ≡ untold → LoadingStands limits loading t
told-none limits loading t none is = subst (λ (l : Option Loaded). LoadingStands limits l t) (sym none) is

pub rests-as : TwinsStandWithSessions → (m n : HeldSite) (a b : Acquainted) → AcquaintedStands m a → AcquaintedStands n b → all_at_rest b ≡ b →
    AreTwinCores m.core n.core → IsTrue (last_commits_stay m.core) → m.lives ≡ n.lives → m.loading ≡ None → n.loading ≡ None →
    (u : Acquainted) × (AcquaintedStands m u × (all_at_rest u ≡ b))
rests-as stand m n a b one other rests twins stay same none none_there =
    let u : Acquainted = record { site = with_sessions_of a.site b.site; lives = b.lives; told = b.told } in
    let is = none-told b.site.limits n.loading b.told none_there other.2 in
    let stands = stand m.core n.core a.site b.site one.0 other.0 twins stay in
    (u, ((stands, same ∙ other.1, told-none u.site.limits m.loading b.told none is), rests))
