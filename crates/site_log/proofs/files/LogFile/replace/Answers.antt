use Rattle.site_log.proofs.Replacing.{disk_is, replace_leaves_from}
use Rattle.site_log.proofs.files.LogFile.replace.Goals as goal

pub returns-in-Ok-true-clause-any_moment : goal.returns-in-Ok-true-clause-any_moment
returns-in-Ok-true-clause-any_moment g c = λ h bodies others is t.
    replace_leaves_from g.K.Disk c.group_laws.ensures.written c.args.self.now c.replace.new.self bodies is c.args.text.now c.args.number others t
    c.self.inside.disk (disk_is c.self.view_is) (g.met.K.Disk.only_now c.args.self.now.disk) c.replace.ensures.crash c.replace.ensures.time h

pub returns-in-Ok-false-clause-any_moment : goal.returns-in-Ok-false-clause-any_moment
returns-in-Ok-false-clause-any_moment g c = λ h bodies others is t.
    replace_leaves_from g.K.Disk c.group_laws.ensures.written c.args.self.now c.replace.new.self bodies is c.args.text.now c.args.number others t
    c.self.inside.disk (disk_is c.self.view_is) (g.met.K.Disk.only_now c.args.self.now.disk) c.replace.ensures.crash c.replace.ensures.time h

pub returns-in-Err-clause-any_moment : goal.returns-in-Err-clause-any_moment
returns-in-Err-clause-any_moment g c = λ h bodies others is t.
    replace_leaves_from g.K.Disk c.group_laws.ensures.written c.args.self.now c.replace.new.self bodies is c.args.text.now c.args.number others t
    c.self.inside.disk (disk_is c.self.view_is) (g.met.K.Disk.only_now c.args.self.now.disk) c.replace.ensures.crash c.replace.ensures.time h
