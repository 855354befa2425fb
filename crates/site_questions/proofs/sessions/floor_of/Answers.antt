use Rattle.std.proofs.Common.{◌≡◌, ◌∙◌, Some, true, sym, ap, ap₂, subst}
use Rattle.std.proofs.lemmas.Option.{same_Some}
use Rattle.plain_dag.specs.Above.{is_proper_ancestor}
use Rattle.plain_dag.specs.Floors.{Floor, Sessions, automatic_floor, floor_of}
use Rattle.state_dag.specs.Stands.{Stands}
use Rattle.ceiling_book.specs.Book.{own_floor, sessions_of}
use Rattle.ceiling_book.specs.Places.{AreSlots, ArePlaced}
use Rattle.plain_site.proofs.SoundCommits.{closed-above_own}
use Rattle.plain_questions.specs.Answer.{next_floor}
use Rattle.site_questions.proofs.sessions.floor_of.Goals as goal

pub automatic_floor-requires : goal.automatic_floor-requires
automatic_floor-requires c = record {
  slots = subst (λ t. AreSlots c.book.result.now t) (sym (c.dag-dag.ensures ∙ ap (λ s. s.table) c.store.ensures.is)) c.book.ensures.slots;
}

pub returns : goal.returns
returns c = λ plain stands.
    let core = c.args.site.now in
    let rs = plain.dag in
    let ks = plain.collected in
    let table_is = c.dag-dag.ensures ∙ ap (λ s. s.table) c.store.ensures.is in
    let book_is = c.book.ensures.is in
    let table = subst (λ t. Stands t rs ks) (sym table_is) stands.0.store.table in
    let placed = subst (λ b. ArePlaced b c.dag-dag.result.now rs ks) (sym book_is) (subst (λ t. ArePlaced core.book t rs ks) (sym table_is) stands.0.placed) in
    let floor = ap own_floor book_is ∙ ap₂ floor_of stands.0.floors stands.0.own in
    let told = c.automatic_floor.ensures.floor rs ks table placed (λ x among.
    subst (λ (f : Floor). is_proper_ancestor rs x f.state ≡ true) (sym floor) (closed-above_own plain x stands.1 (stands.1.collected.closed x among))) in
    let is = ap₂ (λ (f : Floor) (ss : Sessions). automatic_floor rs f.state ss) floor (ap sessions_of book_is ∙ stands.0.sessions) in
    same_Some c.id_of.result (next_floor plain) (sym c.id_of.ensures.is ∙ told ∙ ap (λ z. Some z) is)
