use Rattle.std.proofs.Common.{◌+◌, ◌++◌, [], ◌∷◌, length, refl, ap, ◌∙◌, arith}
use Rattle.site_journal.proofs.Staging.{committed, committed_none, is_behind, some_staged}
use Rattle.site_journal.proofs.journals.Journaled.commit.Goals as goal

pub returns-then-count-eq0-clause-committed : goal.returns-then-count-eq0-clause-committed
returns-then-count-eq0-clause-committed g c = λ entries staged o.
    committed_none g.M.Machine g.K.Disk c.args.self entries staged o
    (omega arith)

pub push_end-requires : goal.push_end-requires
push_end-requires g c = c.requires.open.2.room

pub returns-in-Ok-clause-committed : goal.returns-in-Ok-clause-committed
returns-in-Ok-clause-committed g c = λ entries staged o.
    let M = g.M.Machine in
    let K = g.K.Disk in
    committed M K c.args.self
    (record {
      machine = c.args.self.machine;
      disk = c.append.new.disk;
      staged = c.clear.new.self;
      place =
          c.args.self.place + c.len-count.result;
      max_trail = c.args.self.max_trail;
    })
    entries staged o refl c.clear.ensures (ap (λ n. c.args.self.place + n) c.len-count.ensures.count) refl
    (λ now.
    let h = c.append.ensures.honest.1 now in
    c.in-Ok.ensures.appended h entries staged (is_behind M K c.args.self entries staged o h)
    (c.bytes.ensures ∙ (c.push_end.ensures ∙ ap (λ z. z ++ 0 ∷ []) o.text)) o.each_staged (some_staged staged (omega (arith, ap length o.text))))

pub returns-in-Ok-clause-any_moment : goal.returns-in-Ok-clause-any_moment
returns-in-Ok-clause-any_moment g c = λ h entries staged o.
    let M = g.M.Machine in
    let K = g.K.Disk in
    c.append.ensures.any_moment h entries staged (is_behind M K c.args.self entries staged o h)
    (c.bytes.ensures ∙ (c.push_end.ensures ∙ ap (λ z. z ++ 0 ∷ []) o.text)) o.each_staged (some_staged staged (omega (arith, ap length o.text)))

pub returns-in-Err-clause-any_moment : goal.returns-in-Err-clause-any_moment
returns-in-Err-clause-any_moment g c = λ h entries staged o.
    let M = g.M.Machine in
    let K = g.K.Disk in
    c.append.ensures.any_moment h entries staged (is_behind M K c.args.self entries staged o h)
    (c.bytes.ensures ∙ (c.push_end.ensures ∙ ap (λ z. z ++ 0 ∷ []) o.text)) o.each_staged (some_staged staged (omega (arith, ap length o.text)))
