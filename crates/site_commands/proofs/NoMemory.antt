-- How commands end that had no memory: they read nothing and gave nothing.
use Rattle.std.proofs.Common.{ℕ, ◌<◌, List, length, Option, refl}
use Rattle.tardis_io.proofs.Told.{same}
use Rattle.tardis_io.specs.declared.statuses.Status.TheVariants.{NoMemory}
use Rattle.frame_cut.specs.Frames.{IsCut}
use Rattle.line_cut.specs.Lines.{IsCut as AreLines}
use Rattle.site_run.specs.Endings.{EndsAs, most_taken}
use Rattle.site_run.specs.Endings.{LinesEndAs}
use Rattle.site_commands.specs.Ends.{UnlessFaulty, FramesEnd, LinesEnd}

module _ {I O : Type 0} (left : I → Option (List ℕ)) (reads : I → ℕ) (writes : O → ℕ) (input : I) (output : O) (From : List ℕ → List ℕ → Type 0)
    (from : (x : List ℕ) → From x x) where
  pub no_frames : FramesEnd left reads writes input input output output From NoMemory
  no_frames = record {
    outcome = same (left input) From from;
    exact = same (left input)
        (λ first now. (all : List (List ℕ)) (rest : List ℕ) → IsCut first all rest → length first < most_taken →
        UnlessFaulty left reads writes input input output output (EndsAs rest NoMemory))
        (λ x all rest cut short r w. tt);
    end = tt;
    nothing = λ e. (refl, refl);
  }

  pub no_lines : LinesEnd left reads writes input input output output From NoMemory
  no_lines = record {
    outcome = same (left input) From from;
    exact = same (left input)
        (λ first now. (all : List (List ℕ)) (rest : List ℕ) → AreLines first all rest → length first < most_taken →
        UnlessFaulty left reads writes input input output output (LinesEndAs rest NoMemory))
        (λ x all rest cut short r w. tt);
    end = tt;
    nothing = λ e. (refl, refl);
  }
