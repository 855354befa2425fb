use Rattle.std.proofs.Common.{◌<◌, ℕ, List, length, sym, subst, arith}
use Rattle.tardis_io.specs.Told.{WhileTold}
use Rattle.tardis_io.specs.Faults.{Rose}
use Rattle.tardis_io.proofs.Told.{weaker}
use Rattle.frame_cut.specs.Frames.{IsCut}
use Rattle.site_run.specs.Endings.{EndsAs, most_taken}
use Rattle.session_serve.specs.Sessions.{status_of}
use Rattle.session_serve.proofs.Fronts.{rose_on}
use Rattle.session_serve.proofs.sessions.serve_session.Goals as goal

pub returns-clause-write_later : goal.returns-clause-write_later
returns-clause-write_later g c = omega (arith, c.ask_all-served.ensures.write_later, c.finish.ensures.faults)

pub returns-clause-write : goal.returns-clause-write
returns-clause-write g c = λ e.
    rose_on (g.L.Sink.faults c.args.link.now) (g.L.Sink.faults c.ask_all-served.new.device) (g.L.Sink.faults c.finish.new.self)
    (c.ask_all-served.ensures.write e) c.ask_all-served.ensures.write_later c.finish.ensures.faults

pub returns-clause-exact : goal.returns-clause-exact
returns-clause-exact g c =
    let left = g.L.Duplex.left in
    let takes = g.L.Duplex.take_faults in
    let gives = g.L.Sink.faults in
    let old = c.args.link.now in
    let mid = c.ask_all-served.new.device in
    let new = c.finish.new.self in
    subst (λ l. WhileTold (left old) l (λ first left. (all : List (List ℕ)) (rest : List ℕ) → IsCut first all rest → length first < most_taken
    → (Rose (takes old) (takes new) → ⊥) → (Rose (gives old) (gives new) → ⊥) → EndsAs rest (status_of c.ask_all-served.result.1))) (sym c.finish.ensures.left)
    (weaker (left old) (left mid)
    (λ first left. (all : List (List ℕ)) (rest : List ℕ) → IsCut first all rest → length first < most_taken
    → (Rose (takes old) (takes mid) → ⊥) → (Rose (gives old) (gives mid) → ⊥) → EndsAs rest (status_of c.ask_all-served.result.1))
    (λ first left. (all : List (List ℕ)) (rest : List ℕ) → IsCut first all rest → length first < most_taken
    → (Rose (takes old) (takes new) → ⊥) → (Rose (gives old) (gives new) → ⊥) → EndsAs rest (status_of c.ask_all-served.result.1))
    c.ask_all-served.ensures.exact
    (λ x y h. λ all rest d few no_read no_write. h all rest d few
    (λ r. no_read (subst (λ n. Rose (takes old) n) (sym c.finish.ensures.take_faults) r))
    (λ r. no_write (rose_on (gives old) (gives mid) (gives new) r c.ask_all-served.ensures.write_later c.finish.ensures.faults))))
