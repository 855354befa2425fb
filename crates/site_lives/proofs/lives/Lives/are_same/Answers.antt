use Rattle.std.proofs.Common.{◌≡◌, Option, Some, None, IsTrue, refl, sym, ap, subst}
use Rattle.std.specs.Prelude.{◌↔◌}
use Rattle.std.specs.Option.{option_eq}
use Rattle.std.proofs.lemmas.Bool.{both_ways}
use Rattle.std.proofs.lemmas.Option.{none-some, same_Some}
use Rattle.std.proofs.lemmas.Slice.Eq.{slice_eq-Decides, bytes_eq-Decides}
use Rattle.std.specs.Prelude.{bytes_eq}
use Rattle.site_lives.specs.Lives.{Life, Lives}
use Rattle.site_lives.proofs.lives.Lives.are_same.Goals as goal

one : (a b : Option Life) → IsTrue (option_eq bytes_eq a b) ↔ (a ≡ b)
one None None = (λ t. refl, λ e. refl)
one None (Some b) = (λ t. absurd (both_ways (option_eq bytes_eq None (Some b)) refl t), λ e. absurd (none-some b e))
one (Some a) None = (λ t. absurd (both_ways (option_eq bytes_eq (Some a) None) refl t), λ e. absurd (none-some a (sym e)))
one (Some a) (Some b) = (
  λ t. ap (λ (x : Life). Some x) ((bytes_eq-Decides a b).0 t),
  λ e. (bytes_eq-Decides a b).1 (same_Some a b e),
)

pub returns : goal.returns
returns c =
    let both : IsTrue c.eq.result ↔ (c.self.inside.known ≡ c.others.inside.known) =
    slice_eq-Decides one c.self.inside.known c.others.inside.known c.eq.result c.eq.ensures in
    subst (λ (xs : Lives). IsTrue c.eq.result ↔ (xs ≡ c.args.others.now)) c.self.view_is
    (subst (λ (ys : Lives). IsTrue c.eq.result ↔ (c.self.inside.known ≡ ys)) c.others.view_is both)
