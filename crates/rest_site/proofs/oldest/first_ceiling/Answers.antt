use Rattle.std.proofs.Common.{ℕ, List, None, IsTrue, sym, ap, subst, ◌∙◌}
use Rattle.state_dag.specs.Table.{is_slot}
use Rattle.ceiling_book.specs.declared.parts.OpenSession.{OpenSession}
use Rattle.ceiling_book.specs.Book.{sessions_of}
use Rattle.ceiling_book.specs.Floors.{each_ceiling}
use Rattle.rest_site.specs.Oldest.{ceilings}
use Rattle.rest_site.specs.Ceilings.{kept_behind}
use Rattle.rest_site.proofs.Firsts.{each-has_slot, AreAt, plain_sessions, rest-has_slots, next-ceiling}
use Rattle.rest_site.proofs.oldest.first_ceiling.Goals as goal

pub loop-number-init : goal.loop-number-init
loop-number-init c =
    let book = c.args.book.now in
    let table = c.args.dag.now in
    let is = c.into_iter-number-iterator.ensures.into_iter_gives ∙ c.open_sessions-number-items.ensures in
    record {
      next = tt;
      finite = tt;
      slots = subst (λ (es : List (ℕ × OpenSession)). IsTrue (each_ceiling (is_slot table) es)) (sym is) (each-has_slot book table c.requires);
      kept = λ rs ks stands placed. (
        subst (λ (es : List (ℕ × OpenSession)). AreAt table es) (sym is) placed.ceilings,
        ap (λ (es : List (ℕ × OpenSession)). kept_behind None (ceilings rs (plain_sessions es))) is,
      );
    }

pub loop-number-preserved : goal.loop-number-preserved
loop-number-preserved c =
    let table = c.args.dag.now in
    let rest = c.next.new.self in
    let n = c.in-Some.number.now in
    let s = c.in-Some.session.now in
    record {
      next = tt;
      finite = tt;
      slots = rest-has_slots table c.loop-number.number-iterator rest n s c.in-Some.ensures.steps c.loop-number.invariant.slots;
      kept = λ rs ks stands placed.
          next-ceiling table c.loop-number.number-iterator rest n s c.in-Some.ensures.steps rs c.loop-number.first c.promise_at-next.result c.seen-first.result
          (kept_behind None (ceilings rs (sessions_of c.args.book.now))) c.seen-first.ensures (c.promise_at-next.ensures rs ks stands)
          (c.loop-number.invariant.kept rs ks stands placed);
    }

pub returns : goal.returns
returns c = λ rs ks stands placed.
    ap (λ (es : List (ℕ × OpenSession)). kept_behind c.loop-number.first (ceilings rs (plain_sessions es))) (sym c.in-None.ensures.steps.0)
    ∙ (c.loop-number.invariant.kept rs ks stands placed).1
