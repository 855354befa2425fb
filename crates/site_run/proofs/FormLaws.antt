-- The cut by frames and the cut by lines are lawful.
use Rattle.std.proofs.Common.{◌≡◌, ◌+◌, ◌<◌, ◌≤◌, List, ℕ, [], ◌∷◌, ◌++◌, length, drop, refl, sym, ap, ◌∙◌, subst, inl, inr, arith}
use Rattle.std.proofs.lemmas.List.{append-nil, length-append}
use Rattle.frame_cut.specs.Frames.{frame, IsBody, IsPartial, Cuts as FramesCut}
use Rattle.frame_cut.proofs.Words.{length-frame}
use Rattle.frame_cut.proofs.Joins.{more_bytes, more_bodies}
use Rattle.frame_cut.proofs.OneCut.{one, front_of}
use Rattle.frame_cut.proofs.Words.{long_more}
use Rattle.line_cut.specs.Lines.{ended, IsLine, Cuts as LinesCut}
use Rattle.line_cut.proofs.Parts.{length-ended}
use Rattle.line_cut.proofs.Joins.{more_lines, more_bytes as more_line_bytes}
use Rattle.line_cut.proofs.OneCut.{one as one_by_lines, front_of as front_of_lines}
use Rattle.line_cut.proofs.Parts.{long_more as long_line_more}
use Rattle.site_run.specs.Forms.{IsLawful, frame_form, line_form}

-- no bytes are a part of a frame
no_frame : IsPartial []
no_frame = inl (omega arith)

pub frames_are_lawful : IsLawful frame_form
frames_are_lawful = record {
  none = λ bytes. record { whole = refl; each = tt };
  more_bytes = λ bytes more bodies rest c. more_bytes bytes more bodies rest c;
  more_bodies = λ bytes bodies others rest left c d. more_bodies bytes bodies others rest left c d;
  one = λ bytes bodies others rest left c d. one bytes bodies others rest left c.cuts.whole c.cuts.each c.ends d.cuts.whole d.cuts.each d.ends;
  front = λ bytes bodies all rest left c d. front_of bytes bodies all rest left c.whole c.each d.cuts.whole d.cuts.each d.ends;
  part = λ bytes bodies rest c p. record { cuts = c; ends = inl p };
  long = λ bytes bodies rest len c p. record { cuts = c; ends = inr (len, p) };
  long_more = λ bytes more len p. long_more bytes more len p;
  end_part = λ held none. subst IsPartial (sym none) no_frame;
  off_part = λ held off. off.1;
  nothing = no_frame;
  joined = λ bodies rest. sym (append-nil bodies);
}

-- no bytes are a line
no_line : IsLine []
no_line = (λ place below. absurd (omega (arith, below)), omega arith)

pub lines_are_lawful : IsLawful line_form
lines_are_lawful = record {
  none = λ bytes. record { whole = refl; each = tt };
  more_bytes = λ bytes more lines rest c. more_line_bytes bytes more lines rest c;
  more_bodies = λ bytes lines others rest left c d. more_lines bytes lines others rest left c d;
  one = λ bytes lines others rest left c d. one_by_lines bytes lines others rest left c.cuts.whole c.cuts.each c.ends d.cuts.whole d.cuts.each d.ends;
  front = λ bytes lines all rest left c d. front_of_lines bytes lines all rest left c.whole c.each d.cuts.whole d.cuts.each d.ends;
  part = λ bytes lines rest c p. record { cuts = c; ends = inl p };
  long = λ bytes lines rest len c p. record { cuts = c; ends = inr p.0 };
  long_more = λ bytes more len p. (long_line_more bytes more p.0, p.1);
  end_part = λ held line. line;
  off_part = λ held off. absurd (off);
  nothing = no_line;
  joined = λ lines rest. refl;
}

-- a frame that was handed out is cut from the front, and less is held
pub frame_handed : (old new body : List ℕ) → IsBody body → old ≡ frame body ++ drop (4 + length body) old → new ≡ drop (4 + length body) old →
    FramesCut old (body ∷ []) new × (length new < length old)
frame_handed old new body fits whole left =
    let is : old ≡ frame body ++ new = whole ∙ ap (λ z. frame body ++ z) (sym left) in
    let long : length old ≡ length (frame body) + length new = ap length is ∙ length-append (frame body) new in
    let head : length (frame body) ≡ 4 + length body = length-frame body in (
      record { whole = is ∙ ap (λ z. z ++ new) (sym (append-nil (frame body))); each = (fits, tt) },
      omega (arith, long, head),
    )

-- and so is a line with its line feed
pub line_handed : (old new line : List ℕ) → IsLine line → old ≡ ended line ++ drop (length line + 1) old → new ≡ drop (length line + 1) old →
    LinesCut old (line ∷ []) new × (length new < length old)
line_handed old new line fits whole left =
    let is : old ≡ ended line ++ new = whole ∙ ap (λ z. ended line ++ z) (sym left) in
    let long : length old ≡ length line + 1 + length new = ap length is ∙ length-ended line new in (
      record { whole = is ∙ ap (λ z. z ++ new) (sym (append-nil (ended line))); each = (fits, tt) },
      omega (arith, long),
    )
