use Rattle.std.proofs.Common.{◌≡◌, sym, ap, subst, ◌∙◌}
use Rattle.std.specs.Prelude.{is_some}
use Rattle.site_lives.specs.Acquainted.{Acquainted}
use Rattle.site_lives.specs.Things.{all_at_rest}
use Rattle.rest_site.specs.Stands.{HeldSite, held_site, AcquaintedStands}
use Rattle.rest_site.proofs.Alike.{none-loaded, rests-as}
use Rattle.rest_site.proofs.shorter.RestSiteShortening.rests_as.Goals as goal

pub returns : goal.returns
returns c = λ is a b stands others rests.
    let m = held_site c.self.inside.core c.self.inside.lives c.self.inside.loading in
    let n = held_site c.other.inside.core c.other.inside.lives c.other.inside.loading in
    let one = subst (λ (h : HeldSite). AcquaintedStands h a) (sym c.self.view_is) stands in
    let other = subst (λ (h : HeldSite). AcquaintedStands h b) (sym c.other.view_is) others in
    let here = none-loaded m.loading (ap (λ (h : HeldSite). is_some h.loading) c.self.view_is ∙ sym c.is_loading.ensures ∙ c.if-is_loading.false) in
    let there = none-loaded n.loading (ap (λ (h : HeldSite). is_some h.loading) c.other.view_is ∙ sym c.is_loading-2.ensures ∙ c.if-is_loading-2.false) in
    let twins = (c.rest_alike.ensures a.site b.site one.0 other.0).0 c.if-not-rest_alike.false in
    let stay = sym c.last_commits_stay.ensures ∙ c.if-not-last_commits_stay.false in
    let behind = rests-as c.twins_stand_with_sessions.ensures m n a b one other rests twins stay (c.are_same.ensures.0 is) here there in
    subst (λ (h : HeldSite). (u : Acquainted) × (AcquaintedStands h u × (all_at_rest u ≡ b))) c.self.view_is behind
