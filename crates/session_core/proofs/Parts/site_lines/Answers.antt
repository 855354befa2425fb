use Rattle.std.proofs.Common.{◌<◌, ◌≤◌, ◌∙◌, length, ap, subst, arith, length-append}
use Rattle.ceiling_book.specs.Book.{floors_of}
use Rattle.session_core.proofs.Showing.{next-line, all-lines}
use Rattle.session_core.proofs.Parts.site_lines.Goals as goal

pub loop-place-preserved : goal.loop-place-preserved
loop-place-preserved c = record {
  number = simp (c.push.ensures, length-append) (omega arith);
  so_far = λ site stands.
      let sites = c.sites-place-end.ensures.is ∙ ap (λ v. length (floors_of v.book)) c.self.view_is ∙ ap length stands.floors in
      let within : c.loop-place.place < length site.floors = subst (λ m. c.loop-place.place < m) sites c.loop-place-test.true in
      next-line site.dag site.floors c.loop-place.place c.loop-place.lines c.push.new.self c.site_line.result within
      (c.loop-place.invariant.so_far site stands) (c.site_line.ensures site stands) c.push.ensures;
}

pub returns : goal.returns
returns c = λ site stands.
    let sites = c.sites-place-end.ensures.is ∙ ap (λ v. length (floors_of v.book)) c.self.view_is ∙ ap length stands.floors in
    let within : length site.floors ≤ c.loop-place.place = subst (λ m. m ≤ c.loop-place.place) sites c.loop-place-test.false in
    all-lines site.dag site.floors c.loop-place.place c.loop-place.lines within (c.loop-place.invariant.so_far site stands)
