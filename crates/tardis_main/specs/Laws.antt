-- What lines the replies of a site have.
use Rattle.std.specs.Prelude.{◌≡◌}
use Rattle.tardis_base.specs.Plain.{Event}
use Rattle.shell_text.specs.ReplyLines.{reply_line}
use Rattle.shell_text.specs.Spelled.{reply_line_of}
use Rattle.plain_site.specs.Site.{Site}
use Rattle.plain_site.specs.Step.{step_over_bytes, site_machine}
use Rattle.plain_site.specs.Sound.{IsSound}

-- the line of a sound site's reply in bytes is the line of the reply
abbrev pub RepliesHaveLines : Type 0
RepliesHaveLines =
    (site : Site) (event : Event) → IsSound site → reply_line_of (site_machine.reply site event) ≡ reply_line (step_over_bytes site event).1
