use Rattle.plain_rows.proofs.Sound.{rows-keep-sound, rows-keep-closed}
use Rattle.plain_rows.proofs.Fitting.{rows-leave-promises}
use Rattle.plain_rows.proofs.Wrong.{left-floors-break, collected-last-breaks, forgotten-promises-break, forgotten-sessions-break}
use Rattle.plain_rows.proofs.Wrong.{forgotten-places-break, forgotten-bits-break}
use Rattle.plain_rows.proofs.rows_keep_a_site_sound.Goals as goal

pub returns-clause-sound : goal.returns-clause-sound
returns-clause-sound c = rows-keep-sound

pub returns-clause-closed : goal.returns-clause-closed
returns-clause-closed c = rows-keep-closed

pub returns-clause-promises : goal.returns-clause-promises
returns-clause-promises c = rows-leave-promises

pub returns-clause-left_floors_break : goal.returns-clause-left_floors_break
returns-clause-left_floors_break c = left-floors-break

pub returns-clause-collected_last_breaks : goal.returns-clause-collected_last_breaks
returns-clause-collected_last_breaks c = collected-last-breaks

pub returns-clause-forgotten_promises_break : goal.returns-clause-forgotten_promises_break
returns-clause-forgotten_promises_break c = forgotten-promises-break

pub returns-clause-forgotten_sessions_break : goal.returns-clause-forgotten_sessions_break
returns-clause-forgotten_sessions_break c = forgotten-sessions-break

pub returns-clause-forgotten_places_break : goal.returns-clause-forgotten_places_break
returns-clause-forgotten_places_break c = forgotten-places-break

pub returns-clause-forgotten_bits_break : goal.returns-clause-forgotten_bits_break
returns-clause-forgotten_bits_break c = forgotten-bits-break
