use Rattle.std.proofs.Common.{◌∷◌, sym, ap, subst, ◌∙◌, rules}
use Rattle.std.proofs.lemmas.Map.Made.{map_same_pairs}
use Rattle.ceiling_book.specs.Book.{Book, sessions_of}
use Rattle.ceiling_book.specs.Places.{ArePlaced}
use Rattle.ceiling_book.specs.Renaming.{renamed_session}
use Rattle.ceiling_book.specs.Held.{seen}
use Rattle.ceiling_book.proofs.Renames.{sessions-stay, is-renamed, placed-renamed}
use Rattle.ceiling_book.proofs.CeilingBook.rename.Goals as goal

pub returns-clause-renamed : goal.returns-clause-renamed
returns-clause-renamed c =
    let sessions = map_same_pairs _ (renamed_session c.args.from c.args.to) _ (λ k v b w f t. search rules) _ _ c.retain.ensures.filtered in
    is-renamed c.args.from c.args.to (seen c.self.inside) c.args.self.now c.self.view_is c.renamed-self-inside.result c.retain.new.self.entries
    c.renamed-self-inside.ensures sessions

pub returns-clause-sessions : goal.returns-clause-sessions
returns-clause-sessions c =
    let sessions = map_same_pairs _ (renamed_session c.args.from c.args.to) _ (λ k v b w f t. search rules) _ _ c.retain.ensures.filtered in
    let is = is-renamed c.args.from c.args.to (seen c.self.inside) c.args.self.now c.self.view_is c.renamed-self-inside.result c.retain.new.self.entries
    c.renamed-self-inside.ensures sessions in
    ap sessions_of is ∙ sessions-stay c.args.from c.args.to c.args.self.now

pub returns-clause-placed : goal.returns-clause-placed
returns-clause-placed c = λ old new rs ks x s stands gives free placed.
    let sessions = map_same_pairs _ (renamed_session c.args.from c.args.to) _ (λ k v b w f t. search rules) _ _ c.retain.ensures.filtered in
    let is = is-renamed c.args.from c.args.to (seen c.self.inside) c.args.self.now c.self.view_is c.renamed-self-inside.result c.retain.new.self.entries
    c.renamed-self-inside.ensures sessions in
    subst (λ (book : Book). ArePlaced book new rs (x ∷ ks)) (sym is)
    (placed-renamed old new rs ks c.args.from c.args.to x s stands gives c.args.self.now free placed)
