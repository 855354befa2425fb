use Rattle.std.proofs.Common.{length, arith}
use Rattle.frame_cut.proofs.Joins.{more_bytes, more_bodies}
use Rattle.frame_cut.proofs.OneCut.{one, cut_within, front_of}
use Rattle.frame_cut.proofs.laws.one_cut.Goals as goal

pub returns-clause-one : goal.returns-clause-one
returns-clause-one c = λ bytes bodies others rest left p q. one bytes bodies others rest left p.cuts.whole p.cuts.each p.ends q.cuts.whole q.cuts.each q.ends

pub returns-clause-some : goal.returns-clause-some
returns-clause-some c = λ bytes small. cut_within (length bytes) bytes (omega arith) small

pub returns-clause-more_bytes : goal.returns-clause-more_bytes
returns-clause-more_bytes c = λ bytes more bodies rest p. more_bytes bytes more bodies rest p

pub returns-clause-more_bodies : goal.returns-clause-more_bodies
returns-clause-more_bodies c = λ bytes bodies others rest left p q. more_bodies bytes bodies others rest left p q

pub returns-clause-front : goal.returns-clause-front
returns-clause-front c = λ bytes bodies all rest left p q. front_of bytes bodies all rest left p.whole p.each q.cuts.whole q.cuts.each q.ends
