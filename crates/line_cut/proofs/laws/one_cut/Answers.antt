use Rattle.std.proofs.Common.{length, arith}
use Rattle.line_cut.proofs.Joins.{more_bytes, more_lines}
use Rattle.line_cut.proofs.OneCut.{one, cut_within, front_of}
use Rattle.line_cut.proofs.laws.one_cut.Goals as goal

pub returns-clause-one : goal.returns-clause-one
returns-clause-one c = λ bytes lines others rest left p q. one bytes lines others rest left p.cuts.whole p.cuts.each p.ends q.cuts.whole q.cuts.each q.ends

pub returns-clause-some : goal.returns-clause-some
returns-clause-some c = λ bytes. cut_within (length bytes) bytes (omega arith)

pub returns-clause-more_bytes : goal.returns-clause-more_bytes
returns-clause-more_bytes c = λ bytes more lines rest p. more_bytes bytes more lines rest p

pub returns-clause-more_lines : goal.returns-clause-more_lines
returns-clause-more_lines c = λ bytes lines others rest left p q. more_lines bytes lines others rest left p q

pub returns-clause-front : goal.returns-clause-front
returns-clause-front c = λ bytes lines all rest left p q. front_of bytes lines all rest left p.whole p.each q.cuts.whole q.cuts.each q.ends
