use Rattle.std.proofs.Common.{◌∙◌, ◌&&◌, ℕ, List, IsTrue, sym, ap, subst}
use Rattle.std.specs.List.{list_all}
use Rattle.std.specs.Map.{values_of}
use Rattle.std.proofs.lemmas.Bool.{and_parts}
use Rattle.state_dag.specs.Table.{is_slot}
use Rattle.ceiling_book.specs.declared.parts.OpenSession.{OpenSession}
use Rattle.twin_sites.specs.Twins.{is_last_kept}
use Rattle.twin_sites.proofs.Sessions.{have_last_slots, last-slots}
use Rattle.twin_sites.proofs.sites.are_last_commits_kept.Goals as goal

pub loop-session-init : goal.loop-session-init
loop-session-init c =
    let table = c.args.dag.now in
    let is = c.into_iter-session-iterator.ensures.into_iter_gives ∙ c.open_sessions-session-items.ensures in
    record {
      next = tt;
      finite = tt;
      slots =
          subst (λ (es : List (ℕ × OpenSession)). IsTrue (have_last_slots table es)) (sym is) (last-slots table c.args.book.now.sessions c.requires.last_commits);
      kept = ap (λ (es : List (ℕ × OpenSession)). list_all (is_last_kept table) (values_of es)) is;
    }

pub is_last_kept-requires : goal.is_last_kept-requires
is_last_kept-requires c =
    let table = c.args.dag.now in
    (and_parts (is_slot table c.in-Some.session.now.last.slot) (have_last_slots table c.next.new.self)
    (subst (λ (es : List (ℕ × OpenSession)). IsTrue (have_last_slots table es)) c.in-Some.ensures.steps c.loop-session.invariant.slots)).0

pub returns-then-not-is_last_kept : goal.returns-then-not-is_last_kept
returns-then-not-is_last_kept c =
    let table = c.args.dag.now in
    sym (sym c.loop-session.invariant.kept
    ∙ (ap (λ (es : List (ℕ × OpenSession)). list_all (is_last_kept table) (values_of es)) c.in-Some.ensures.steps
    ∙ ap (λ b. b && list_all (is_last_kept table) (values_of c.next.new.self)) (sym c.is_last_kept.ensures ∙ c.if-not-is_last_kept.true)))

pub loop-session-preserved : goal.loop-session-preserved
loop-session-preserved c =
    let table = c.args.dag.now in
    record {
      next = tt;
      finite = tt;
      slots =
          (and_parts (is_slot table c.in-Some.session.now.last.slot) (have_last_slots table c.next.new.self)
          (subst (λ (es : List (ℕ × OpenSession)). IsTrue (have_last_slots table es)) c.in-Some.ensures.steps c.loop-session.invariant.slots)).1;
      kept =
          sym (ap (λ (es : List (ℕ × OpenSession)). list_all (is_last_kept table) (values_of es)) c.in-Some.ensures.steps
          ∙ ap (λ b. b && list_all (is_last_kept table) (values_of c.next.new.self)) (sym c.is_last_kept.ensures ∙ c.if-not-is_last_kept.false))
          ∙ c.loop-session.invariant.kept;
    }

pub returns : goal.returns
returns c =
    ap (λ (es : List (ℕ × OpenSession)). list_all (is_last_kept c.args.dag.now) (values_of es)) (sym c.in-None.ensures.steps.0) ∙ c.loop-session.invariant.kept
