use Rattle.std.proofs.Common.{◌≡◌, true, sym, subst}
use Rattle.ceiling_book.specs.Book.{is_open}
use Rattle.session_core.specs.Held.{seen}
use Rattle.session_core.specs.Stands.{CoreStands}
use Rattle.session_core.proofs.Memory.{ended-held, sessions-held}
use Rattle.session_core.proofs.OpenSessions.{close-gives}
use Rattle.session_core.proofs.Parts.close.Goals as goal

pub invariant_of-self : goal.invariant_of-self
invariant_of-self c =
    ended-held (record c.self.inside { book = c.close_session.new.self })
    (sessions-held c.self.inside c.self.invariant c.close_session.new.self c.close_session.ensures.rest
    (c.close_session.ensures.slots c.self.inside.store.table)) c.args.actor c.close.new.self c.close.ensures

pub returns-clause-given : goal.returns-clause-given
returns-clause-given c = λ site stands sound.
    let here = subst (λ v. CoreStands v site) (sym c.self.view_is) stands in
    close-gives (seen c.self.inside) c.close_session.new.self site c.args.actor c.close.new.self here c.close_session.ensures.rest
    (c.close_session.ensures.placed c.self.inside.store.table site.dag site.collected) c.close_session.ensures.closed c.close.ensures
    (subst (λ v. is_open v.book c.args.actor ≡ true) (sym c.self.view_is) c.in_ok-session.ensures.open)
