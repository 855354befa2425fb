use Rattle.site_commands.proofs.Counting.{sites_tell}
use Rattle.site_commands.proofs.counts.sites_tell_counts.Goals as goal

pub returns : goal.returns
returns c = sites_tell c.opening_is_sound.ensures c.every_run_keeps_sound.ensures.runs c.replies_fit_a_frame.ensures.bytes
    c.talk_has_one_spelling.ensures.request
