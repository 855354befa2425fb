use Rattle.std.proofs.Common.{◌≡◌, ◌≢◌, ◌<◌, ℕ, List, [], length, sym, ap, ◌∙◌, subst}
use Rattle.tardis_io.specs.Told.{WhileTold}
use Rattle.tardis_io.specs.Faults.{Rose}
use Rattle.tardis_io.proofs.Told.{same, weaker}
use Rattle.tardis_io.specs.declared.statuses.Status.TheVariants.{NoMemory as OutOfMemory}
use Rattle.frame_cut.specs.Frames.{IsCut}
use Rattle.site_run.specs.Endings.{EndsAs, Outcome, shape_of, most_taken}
use Rattle.site_run.specs.Responses.{AnsweredBy}
use Rattle.dag_lock.specs.Known.{Known}
use Rattle.dag_lock.specs.Named.{start_of}
use Rattle.session_serve.specs.declared.ends.SessionEnd.TheVariants.{NoMemory}
use Rattle.session_serve.specs.Asking.{Asking, Asked, AsksOnce, at_first}
use Rattle.session_serve.specs.Passes.{Goes, new_places}
use Rattle.session_serve.specs.Sessions.{SessionOutcome, status_of}
use Rattle.session_serve.proofs.Served.{nothing_done, session_outcome}
use Rattle.session_serve.proofs.Prompts.{at_once}
use Rattle.session_serve.specs.Prompts.{RepliesAtOnce}
use Rattle.session_serve.proofs.sessions.ask_all.Goals as goal

pub returns-in_default-clause-outcome : goal.returns-in_default-clause-outcome
returns-in_default-clause-outcome g c =
    let z = start_of c.args.lock.now in
    let given = g.D.Sink.given c.args.device.now in
    same (g.D.Duplex.left c.args.device.now) (SessionOutcome g.M.Machine.plain (g.M.Machine.opening z.machine) z.max_trail c.args.session NoMemory
    (length c.args.pass.seen) c.args.pass.seen (new_places c.args.pass c.args.pass) given given)
    (λ x. nothing_done g.M.Machine.plain (g.M.Machine.opening z.machine) z.max_trail c.args.session c.args.pass given x)

pub returns-in-NoMemory-clause-outcome : goal.returns-in-NoMemory-clause-outcome
returns-in-NoMemory-clause-outcome g c =
    let z = start_of c.args.lock.now in
    let given = g.D.Sink.given c.args.device.now in
    let left = g.D.Duplex.left c.args.device.now in
    let nothing = c.answer_frames.ensures.nothing c.in-NoMemory.is in
    let pass : c.into_pass.result ≡ c.args.pass = c.into_pass.ensures.same
    ∙ (ap (λ (a : Asking g.row.M.Denot). a.pass) nothing.1 ∙ ap (λ (a : Asking g.row.M.Denot). a.pass) c.new-asker.ensures) in
    subst (λ d. WhileTold left (g.D.Duplex.left d) (SessionOutcome g.M.Machine.plain (g.M.Machine.opening z.machine) z.max_trail c.args.session NoMemory
    (length c.args.pass.seen) c.into_pass.result.seen (new_places c.args.pass c.into_pass.result) given (g.D.Sink.given d))) (sym nothing.0)
    (subst (λ (q : Known). WhileTold left left (SessionOutcome g.M.Machine.plain (g.M.Machine.opening z.machine) z.max_trail c.args.session NoMemory
    (length c.args.pass.seen) q.seen (new_places c.args.pass q) given given)) (sym pass)
    (same left (SessionOutcome g.M.Machine.plain (g.M.Machine.opening z.machine) z.max_trail c.args.session NoMemory
    (length c.args.pass.seen) c.args.pass.seen (new_places c.args.pass c.args.pass) given given)
    (λ x. nothing_done g.M.Machine.plain (g.M.Machine.opening z.machine) z.max_trail c.args.session c.args.pass given x)))

pub returns-clause-pass : goal.returns-clause-pass
returns-clause-pass g c =
    subst (λ (a : Asking g.row.M.Denot). Goes a.session a.first c.into_pass-in_default-answer_frames.result)
    (c.ask.ensures.opening ∙ (c.answer_frames.ensures.opening ∙ ap at_first c.new-asker.ensures)) c.into_pass-in_default-answer_frames.ensures.goes

pub returns-clause-outcome : goal.returns-clause-outcome
returns-clause-outcome g c =
    let opening = g.M.Machine.opening in
    let plain = g.M.Machine.plain in
    let a = c.new-asker.result in
    let b = c.answer_frames.new.subject in
    let d = c.ask.new.self in
    let end = c.end_of.result in
    let given = g.D.Sink.given c.args.device.now in
    let later = g.D.Sink.given c.answer_frames.new.device in
    let left = g.D.Duplex.left c.args.device.now in
    let behind = g.D.Duplex.left c.answer_frames.new.device in
    let some : status_of end ≢ OutOfMemory = λ e. c.in_default-answer_frames.not-NoMemory (sym c.end_of.ensures ∙ e) in
    let run : WhileTold left behind (λ x y. Outcome (status_of end) (λ (s : Asking g.row.M.Denot). a ≡ s)
    (λ s bodies. AnsweredBy (Asked (AsksOnce opening plain)) (shape_of (status_of end)) (λ t. b ≡ t) given later [] [] s bodies) x y) =
    subst (λ status. WhileTold left behind (λ x y. Outcome status (λ (s : Asking g.row.M.Denot). a ≡ s)
    (λ s bodies. AnsweredBy (Asked (AsksOnce opening plain)) (shape_of status) (λ t. b ≡ t) given later [] [] s bodies) x y))
    (sym c.end_of.ensures) c.answer_frames.ensures.outcome in
    let served : WhileTold left behind (SessionOutcome plain (opening a.start.machine) a.start.max_trail a.session end (length a.pass.seen) d.pass.seen
    (new_places a.pass d.pass) given later) =
    weaker left behind
    (λ x y. Outcome (status_of end) (λ (s : Asking g.row.M.Denot). a ≡ s)
    (λ s bodies. AnsweredBy (Asked (AsksOnce opening plain)) (shape_of (status_of end)) (λ t. b ≡ t) given later [] [] s bodies) x y)
    (SessionOutcome plain (opening a.start.machine) a.start.max_trail a.session end (length a.pass.seen) d.pass.seen (new_places a.pass d.pass) given later)
    run
    (λ x y o. session_outcome opening plain a b d end c.ask.result c.ask.new.out given later x y some c.ask.ensures.asks o) in
    subst (λ (q : Known). WhileTold left behind (SessionOutcome plain (opening (start_of c.args.lock.now).machine) (start_of c.args.lock.now).max_trail
    c.args.session end (length c.args.pass.seen) q.seen (new_places c.args.pass q) given later)) (sym c.into_pass-in_default-answer_frames.ensures.same)
    (subst (λ (k : Asking g.row.M.Denot). WhileTold left behind
    (SessionOutcome plain (opening k.start.machine) k.start.max_trail k.session end (length k.pass.seen) d.pass.seen (new_places k.pass d.pass) given
    later)) c.new-asker.ensures served)

pub returns-clause-exact : goal.returns-clause-exact
returns-clause-exact g c =
    subst (λ status. WhileTold (g.D.Duplex.left c.args.device.now) (g.D.Duplex.left c.answer_frames.new.device)
    (λ first left. (all : List (List ℕ)) (rest : List ℕ) → IsCut first all rest → length first < most_taken
    → (Rose (g.D.Duplex.take_faults c.args.device.now) (g.D.Duplex.take_faults c.answer_frames.new.device) → ⊥) →
    (Rose (g.D.Sink.faults c.args.device.now) (g.D.Sink.faults c.answer_frames.new.device) → ⊥)
    → EndsAs rest status)) (sym c.end_of.ensures) c.answer_frames.ensures.exact

pub returns-clause-prompt : goal.returns-clause-prompt
returns-clause-prompt g c =
    let opening = g.M.Machine.opening in
    let plain = g.M.Machine.plain in
    let given = g.D.Sink.given c.args.device.now in
    let left = g.D.Duplex.left c.args.device.now in
    let old = g.D.Duplex.takes c.args.device.now in
    let new = g.D.Duplex.takes c.answer_frames.new.device in
    subst (λ (k : Asking g.row.M.Denot). RepliesAtOnce plain (opening k.start.machine) k.start.max_trail k.session (length k.pass.seen) left given old new)
    c.new-asker.ensures
    (at_once opening plain c.new-asker.result left given old new c.answer_frames.ensures.prompt)
