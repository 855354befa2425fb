use Rattle.std.proofs.Common.{◌∙◌, Ok, length, refl, sym, ap, subst, arith, eqb-true}
use Rattle.rest_site.specs.Stands.{held_site}
use Rattle.rest_site.specs.Takings.{Leads}
use Rattle.rest_site.proofs.Taken.{none-there, nothing-leads, leads-on, all-taken, all-refused}
use Rattle.rest_site.proofs.takes.take_all.Goals as goal

pub loop-place-init : goal.loop-place-init
loop-place-init c = record {
  leads = (
      let held = held_site c.args.core.now c.args.lives.now c.args.loading.now in
      subst (Leads held held c.args.bytes.now) (sym c.new-reader.ensures) (nothing-leads held c.args.bytes.now));
  quiet = c.requires.quiet;
  stands = c.requires.stands;
  shorter = (let same = ap length c.new-reader.ensures in omega (arith, same));
  opening = refl;
}

pub loop-place-preserved : goal.loop-place-preserved
loop-place-preserved c =
    let was = c.loop-place.invariant in
    let taken = ap Ok c.if-not-taken.false in
    record {
      leads = leads-on (held_site c.args.core.now c.args.lives.now c.args.loading.now) (held_site c.loop-place.core c.loop-place.lives c.loop-place.loading) (held_site c.take_next.new.core c.take_next.new.lives c.take_next.new.loading) c.args.bytes.now c.loop-place.reader c.take_next.new.reader was.leads
          (c.in_ok-taken.ensures.taken taken);
      quiet = c.in_ok-taken.ensures.quiet taken;
      stands = c.in_ok-taken.ensures.stands;
      shorter = (let less = c.in_ok-taken.ensures.shorter taken in let so_far = was.shorter in omega (arith, less, so_far));
      opening = c.in_ok-taken.ensures.opening ∙ was.opening;
    }

pub returns-then-is_done-clause-taken : goal.returns-then-is_done-clause-taken
returns-then-is_done-clause-taken c = λ e.
    let was = c.loop-place.invariant in
    let none = none-there c.loop-place.reader (eqb-true (length c.loop-place.reader) 0 (sym c.is_done.ensures ∙ c.if-is_done.true)) in
    all-taken (held_site c.args.core.now c.args.lives.now c.args.loading.now) (held_site c.loop-place.core c.loop-place.lives c.loop-place.loading) c.args.bytes.now c.loop-place.reader c.requires.quiet was.leads none

pub returns-then-not-taken-clause-refused : goal.returns-then-not-taken-clause-refused
returns-then-not-taken-clause-refused c = λ e.
    let was = c.loop-place.invariant in
    all-refused (held_site c.args.core.now c.args.lives.now c.args.loading.now) (held_site c.loop-place.core c.loop-place.lives c.loop-place.loading) c.args.bytes.now c.loop-place.reader was.leads
    (c.in_ok-taken.ensures.refused (ap Ok c.if-not-taken.true))

pub returns-clause-taken : goal.returns-clause-taken
returns-clause-taken c = λ e.
    let was = c.loop-place.invariant in
    let all = was.shorter in
    let end = c.loop-place-test.false in
    let none = none-there c.loop-place.reader (omega (arith, all, end)) in
    all-taken (held_site c.args.core.now c.args.lives.now c.args.loading.now) (held_site c.loop-place.core c.loop-place.lives c.loop-place.loading) c.args.bytes.now c.loop-place.reader c.requires.quiet was.leads none
