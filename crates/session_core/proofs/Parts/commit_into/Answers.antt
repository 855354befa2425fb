use Rattle.tardis_base.specs.declared.requests.Request.TheVariants.{Commit}
use Rattle.site_answers.specs.Told.{commit_reply}
use Rattle.session_core.proofs.Getting.{done-told}
use Rattle.session_core.proofs.Parts.commit_into.Goals as goal

pub give_end-requires-clause-valid : goal.give_end-requires-clause-valid
give_end-requires-clause-valid c =
    (done-told c.args.self.now c.args.actor (Commit c.args.flags c.args.k) c.requires.valid c.requires.stands commit_reply c.commit.new.self
    c.in_ok-end.end c.in_ok-end.ensures).valid

pub give_end-requires-clause-short : goal.give_end-requires-clause-short
give_end-requires-clause-short c =
    (done-told c.args.self.now c.args.actor (Commit c.args.flags c.args.k) c.requires.valid c.requires.stands commit_reply c.commit.new.self
    c.in_ok-end.end c.in_ok-end.ensures).short
