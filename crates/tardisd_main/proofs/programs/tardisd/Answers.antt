use Rattle.std.proofs.Common.{◌∙◌, ℕ, List, map, refl, sym, subst}
use Rattle.std.specs.String.{string_bytes}
use Rattle.command_words.specs.Settings.{settings}
use Rattle.daemon_words.specs.Daemons.{daemon}
use Rattle.daemon_words.specs.Checks.{checked_file}
use Rattle.command_words.specs.declared.helps.Help.TheVariants.{Usage, Version}
use Rattle.tardisd_main.specs.Checks.{ChecksAs}
use Rattle.tardisd_main.proofs.Words.{neither, no_form, same_some, unasked}
use Rattle.tardisd_main.proofs.Checking.{check_served}
use Rattle.tardisd_main.proofs.programs.tardisd.Goals as goal

pub returns-in-Some-checked_file-clause-usage : goal.returns-in-Some-checked_file-clause-usage
returns-in-Some-checked_file-clause-usage g c = λ is.
    absurd ((neither c.check_file.result (check_served g.S.Store g.K.Disk c.in-Some-checked_file.path.now c.args.store.now c.check_file.new.store c.check_file.result
    c.check_file.ensures)).0 is)

pub returns-in-Some-checked_file-clause-write : goal.returns-in-Some-checked_file-clause-write
returns-in-Some-checked_file-clause-write g c = λ is.
    absurd ((neither c.check_file.result (check_served g.S.Store g.K.Disk c.in-Some-checked_file.path.now c.args.store.now c.check_file.new.store c.check_file.result
    c.check_file.ensures)).1 is)

pub returns-in-Some-checked_file-clause-none : goal.returns-in-Some-checked_file-clause-none
returns-in-Some-checked_file-clause-none g c = λ none.
    absurd (no_form (checked_file (map (λ w. string_bytes w) c.args.words.now)) c.in-Some-checked_file.path.now none.1 (sym c.in-Some-checked_file.ensures.path))

pub returns-in-Some-checked_file-clause-serve : goal.returns-in-Some-checked_file-clause-serve
returns-in-Some-checked_file-clause-serve g c = λ asked is file.
    absurd (no_form (daemon (settings (map (λ w. string_bytes w) c.args.words.now))) asked c.in-Some-checked_file.ensures.other is)

pub returns-in-Some-checked_file-clause-keep : goal.returns-in-Some-checked_file-clause-keep
returns-in-Some-checked_file-clause-keep g c = λ asked path is filed.
    absurd (no_form (daemon (settings (map (λ w. string_bytes w) c.args.words.now))) asked c.in-Some-checked_file.ensures.other is)

pub returns-in-Some-checked_file-clause-check : goal.returns-in-Some-checked_file-clause-check
returns-in-Some-checked_file-clause-check g c = λ path is. (
  subst (λ (p : List ℕ). ChecksAs g.S.Store g.K.Disk p c.args.store.now c.check_file.new.store c.check_file.result)
      (same_some c.in-Some-checked_file.path.now path (c.in-Some-checked_file.ensures.path ∙ is)) c.check_file.ensures,
  refl,
  refl,
)

pub returns-in-None-checked_file-clause-usage : goal.returns-in-None-checked_file-clause-usage
returns-in-None-checked_file-clause-usage g c = λ is. (
  c.serve_words.ensures.usage is,
  sym c.in-None-checked_file.ensures.path,
  λ ask. unasked Usage (c.in-None.ensures.usage.1 ask),
  λ ask. unasked Version (c.in-None.ensures.version.1 ask),
)

pub returns-in-None-checked_file-clause-write : goal.returns-in-None-checked_file-clause-write
returns-in-None-checked_file-clause-write g c = λ is. absurd (c.serve_words.ensures.write is)

pub returns-in-None-checked_file-clause-none : goal.returns-in-None-checked_file-clause-none
returns-in-None-checked_file-clause-none g c = λ none.
    let of = c.serve_words.ensures.none none.0 in (of.0, of.1, of.2, refl)

pub returns-in-None-checked_file-clause-serve : goal.returns-in-None-checked_file-clause-serve
returns-in-None-checked_file-clause-serve g c = λ asked is file.
    let of = c.serve_words.ensures.serve asked is file in (of.0, of.1, refl)

pub returns-in-None-checked_file-clause-keep : goal.returns-in-None-checked_file-clause-keep
returns-in-None-checked_file-clause-keep g c = λ asked path is filed. (c.serve_words.ensures.keep asked path is filed, refl)

pub returns-in-None-checked_file-clause-check : goal.returns-in-None-checked_file-clause-check
returns-in-None-checked_file-clause-check g c = λ path is.
    absurd (no_form (checked_file (map (λ w. string_bytes w) c.args.words.now)) path (sym c.in-None-checked_file.ensures.path) is)
