use Rattle.std.proofs.Common.{arith}
use Rattle.disk_forms.proofs.file_disks.FileDiskDisk.replace.Goals as goal

pub returns-in_default : goal.returns-in_default
returns-in_default c = λ d. record {
  replaced = λ h. absurd h;
  same = λ h. absurd h;
  crash = λ h. absurd h;
  time = λ h. absurd h;
  honest = ((λ h. h), (λ h. h));
  cause = record { later = omega arith; failed = tt };
}

pub returns-in-Err : goal.returns-in-Err
returns-in-Err c = λ d. record {
  replaced = λ h. absurd h;
  same = λ h. absurd h;
  crash = λ h. absurd h;
  time = λ h. absurd h;
  honest = ((λ h. h), (λ h. h));
  cause = record { later = omega (arith, d.decline.ensures.faults); failed = tt };
}

pub returns-in-Ok-Some : goal.returns-in-Ok-Some
returns-in-Ok-Some c = λ d. record {
  replaced = λ h. absurd h;
  same = λ h. absurd h;
  crash = λ h. absurd h;
  time = λ h. absurd h;
  honest = ((λ h. h), (λ h. h));
  cause = record { later = omega (arith, d.decline-in-Ok-Some.ensures.faults); failed = tt };
}

pub returns-in-Err-rename : goal.returns-in-Err-rename
returns-in-Err-rename c = λ d. record {
  replaced = λ h. absurd h;
  same = λ h. absurd h;
  crash = λ h. absurd h;
  time = λ h. absurd h;
  honest = ((λ h. h), (λ h. h));
  cause = record { later = d.fail.ensures.later; failed = d.fail.ensures.rose };
}

pub returns-in-Ok-synced : goal.returns-in-Ok-synced
returns-in-Ok-synced c = λ d. record {
  replaced = λ h. absurd h;
  same = λ h. absurd h;
  crash = λ h. absurd h;
  time = λ h. absurd h;
  honest = ((λ h. h), (λ h. h));
  cause = record { later = omega arith; failed = tt };
}

pub returns-in-Err-synced : goal.returns-in-Err-synced
returns-in-Err-synced c = λ d. record {
  replaced = λ h. absurd h;
  same = λ h. absurd h;
  crash = λ h. absurd h;
  time = λ h. absurd h;
  honest = ((λ h. h), (λ h. h));
  cause = record { later = d.fail-in-Err-synced.ensures.later; failed = d.fail-in-Err-synced.ensures.rose };
}
