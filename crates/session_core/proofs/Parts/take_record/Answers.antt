use Rattle.std.proofs.Common.{◌∙◌, IsTrue, sym}
use Rattle.std.specs.Prelude.{is_none}
use Rattle.site_exchange.specs.Judgements.{first_reply}
use Rattle.plain_site.specs.Exchange.{judgements}
use Rattle.plain_site.specs.Rest.{nameless}
use Rattle.session_core.proofs.Resting.{welcome-arrives, record-taken, record-unfit}
use Rattle.session_core.proofs.Parts.take_record.Goals as goal

pub returns-then-welcome : goal.returns-then-welcome
returns-then-welcome c = λ site both.
    let r = c.args.rec in
    let welcome : IsTrue (is_none (first_reply (judgements (nameless site) r))) = sym (c.in_ok-welcome.ensures.welcome site both) ∙ c.if-welcome.true in
    let may = welcome-arrives site r both.1 c.requires welcome in
    record-taken site r both.1 c.requires welcome c.add.new.self c.add.result (c.add.ensures.arrives site both.0 both.1 may) c.add.ensures.applied
    c.taken.result c.taken.ensures

pub returns-else-welcome : goal.returns-else-welcome
returns-else-welcome c = λ site both.
    record-unfit site c.args.rec c.args.self.now both (sym (c.in_ok-welcome.ensures.welcome site both) ∙ c.if-welcome.false)
