use Rattle.std.proofs.Common.{◌≡◌, ◌∙◌, [], ◌++◌, sym, ap, subst}
use Rattle.tardis_base.specs.declared.replies.Reply.TheVariants.{Done}
use Rattle.wire_talk.specs.Spellings.{reply_spelling}
use Rattle.plain_site.specs.Answers.{Answer}
use Rattle.session_core.specs.Gives.{Stops}
use Rattle.session_core.specs.Stands.{CoreStands}
use Rattle.session_core.proofs.Telling.{writes-step}
use Rattle.session_core.proofs.Parts.put_into.Goals as goal

pub returns-in-Ok : goal.returns-in-Ok
returns-in-Ok c = λ site stands sound.
    let given = c.in-Ok.ensures site stands sound in
    subst (λ (a : Answer). CoreStands c.put.new.self a.0 × (c.write_done.new.out ≡ reply_spelling a.1))
    (sym (writes-step site c.args.actor c.args.key c.args.write)) (
      given.0,
      c.write_done.ensures ∙ ap (λ o. o ++ reply_spelling Done) c.requires
          ∙ ap reply_spelling given.1,
    )

pub returns-in-Err : goal.returns-in-Err
returns-in-Err c = λ site stands sound.
    subst (λ (a : Answer). Stops (CoreStands c.put.new.self) a site c.in-Err.stop × (c.args.out.now ≡ []))
    (sym (writes-step site c.args.actor c.args.key c.args.write)) (c.in-Err.ensures site stands sound, c.requires)
