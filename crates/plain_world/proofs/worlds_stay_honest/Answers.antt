use Rattle.plain_world.proofs.Stays.{opening-is-honest, steps-keep-honest, carries-keep-honest}
use Rattle.plain_world.proofs.Wrong.{hiding-breaks, understating-breaks, losing-breaks}
use Rattle.plain_world.proofs.worlds_stay_honest.Goals as goal

pub returns : goal.returns
returns c = record {
  opening = opening-is-honest;
  steps = steps-keep-honest;
  carries = carries-keep-honest;
  hiding_breaks = hiding-breaks;
  understating_breaks = understating-breaks;
  losing_breaks = losing-breaks;
}
