-- How a stream of bytes is cut into bodies: by frames, or by lines.
use Rattle.std.specs.Prelude.{◌≡◌, ◌≢◌, ℕ, ◌+◌, List, [], ◌++◌}
use Rattle.line_cut.specs.Lines.{IsLine, last_line, IsLong as IsLongLine, Cuts as LinesCut, IsCut as LinesAreCut}
use Rattle.tardis_base.specs.Sizes.{longest_frame}
use Rattle.frame_cut.specs.Frames.{IsPartial, IsLong as IsLongFrame, Cuts as FramesCut, IsCut as FramesAreCut}

-- Bodies are cut from the front of bytes. What stands behind them may become one when more bytes come, or is too long, which is
-- told by a length. Where the input ends, a part is the last body or none, or it is cut off.
pub record Form : Type 1 where
  pub Cuts : List ℕ → List (List ℕ) → List ℕ → Type 0
  pub IsCut : List ℕ → List (List ℕ) → List ℕ → Type 0
  pub IsPart : List ℕ → Type 0
  pub IsLong : List ℕ → ℕ → Type 0
  pub IsEnd : List ℕ → Type 0
  pub IsCutOff : List ℕ → Type 0
  pub last : List ℕ → List (List ℕ)
  pub all : List (List ℕ) → List ℕ → List (List ℕ)

-- the length that is told of a line that is too long
abbrev pub longer : ℕ
longer = longest_frame + 1

-- bodies of frames: where the input ends, nothing may stand behind the last
abbrev pub frame_form : Form
frame_form = record {
  Cuts = FramesCut;
  IsCut = FramesAreCut;
  IsPart = IsPartial;
  IsLong = IsLongFrame;
  IsEnd = λ held. held ≡ [];
  IsCutOff = λ held. (held ≢ []) × IsPartial held;
  last = λ held. [];
  all = λ bodies rest. bodies;
}

-- lines: where the input ends, what stands behind the last line feed is one more, if there is any
abbrev pub line_form : Form
line_form = record {
  Cuts = LinesCut;
  IsCut = LinesAreCut;
  IsPart = IsLine;
  IsLong = λ rest len. IsLongLine rest × (len ≡ longer);
  IsEnd = IsLine;
  IsCutOff = λ held. ⊥;
  last = last_line;
  all = λ lines rest. lines ++ last_line rest;
}

-- what holds of the cut by frames and of the cut by lines
pub record IsLawful (F : Form) : Type 0 where
  pub none : (bytes : List ℕ) → F.Cuts bytes [] bytes
  pub more_bytes : (bytes more : List ℕ) (bodies : List (List ℕ)) (rest : List ℕ) → F.Cuts bytes bodies rest → F.Cuts (bytes ++ more) bodies (rest ++ more)
  pub more_bodies : (bytes : List ℕ) (bodies others : List (List ℕ)) (rest left : List ℕ) → F.Cuts bytes bodies rest → F.Cuts rest others left
      → F.Cuts bytes (bodies ++ others) left
  pub one : (bytes : List ℕ) (bodies others : List (List ℕ)) (rest left : List ℕ) → F.IsCut bytes bodies rest → F.IsCut bytes others left
      → (bodies ≡ others) × (rest ≡ left)
  pub front : (bytes : List ℕ) (bodies all : List (List ℕ)) (rest left : List ℕ) → F.Cuts bytes bodies rest → F.IsCut bytes all left
      → (more : List (List ℕ)) × (all ≡ bodies ++ more)
  pub part : (bytes : List ℕ) (bodies : List (List ℕ)) (rest : List ℕ) → F.Cuts bytes bodies rest → F.IsPart rest → F.IsCut bytes bodies rest
  pub long : (bytes : List ℕ) (bodies : List (List ℕ)) (rest : List ℕ) (len : ℕ) → F.Cuts bytes bodies rest → F.IsLong rest len → F.IsCut bytes bodies rest
  pub long_more : (bytes more : List ℕ) (len : ℕ) → F.IsLong bytes len → F.IsLong (bytes ++ more) len
  pub end_part : (held : List ℕ) → F.IsEnd held → F.IsPart held
  pub off_part : (held : List ℕ) → F.IsCutOff held → F.IsPart held
  pub nothing : F.IsPart []
  pub joined : (bodies : List (List ℕ)) (rest : List ℕ) → F.all bodies rest ≡ bodies ++ F.last rest
