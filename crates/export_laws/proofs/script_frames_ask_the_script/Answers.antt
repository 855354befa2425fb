use Rattle.export_laws.proofs.Frames.{frames-ask}
use Rattle.export_laws.proofs.script_frames_ask_the_script.Goals as goal

pub returns : goal.returns
returns c = frames-ask c.talk_has_one_spelling.ensures.request
