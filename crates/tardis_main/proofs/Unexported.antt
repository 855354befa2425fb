-- How an export and an import end that had no memory: they read nothing and gave nothing.
use Rattle.std.proofs.Common.{◌≡◌, ℕ, ◌<◌, List, [], length, refl, sym, subst, arith}
use Rattle.tardis_io.proofs.Told.{same}
use Rattle.tardis_io.specs.declared.streams.Source.{Ghosts as ASource}
use Rattle.tardis_io.specs.declared.streams.Sink.{Ghosts as ASink}
use Rattle.tardis_io.specs.declared.statuses.Status.TheVariants.{NoMemory}
use Rattle.tardis_base.specs.declared.ids.StateId.{StateId}
use Rattle.frame_cut.specs.Frames.{IsCut}
use Rattle.site_run.specs.Endings.{most_taken}
use Rattle.plain_site.specs.Site.{Site}
use Rattle.plain_site.specs.Sound.{IsSound}
use Rattle.site_commands.specs.Ends.{UnlessFaulty}
use Rattle.branch_export.specs.Imported.{Imported, ImportsAs}
use Rattle.export_run.specs.Exporting.{ExportOutcome, ExportEndsAs}
use Rattle.tardis_main.specs.Program.{ExportEnds, ImportEnds}

module _ {I O : Type 0} (i : ASource I) (o : ASink O) (input : I) (output : O) (words : List (List ℕ)) where
  unexported : (site : Site) (state : StateId) (first : List ℕ) → IsSound site → ExportOutcome NoMemory state (λ s. s ≡ site) IsSound (o.given output)
      (o.given output) first first
  unexported site state first sound = record {
    bodies = [];
    held = [];
    read = record { whole = refl; each = tt };
    exported = λ s e. record { site = s; leads = ([], refl); stands = subst (λ z. IsSound z) (sym e) sound; given = refl };
    ends = omega arith;
    front = λ all rest cut. (all, refl);
    whole = λ all rest cut. tt;
  }

  pub no_export : (site : Site) (state : StateId) → IsSound site → ExportEnds i o input input output output words NoMemory site state
  no_export site state sound = record {
    outcome = same (i.left input) (ExportOutcome NoMemory state (λ s. s ≡ site) IsSound (o.given output) (o.given output)) (λ x. unexported site state x sound);
    exact = same (i.left input)
        (λ first now. (all : List (List ℕ)) (rest : List ℕ) → IsCut first all rest → length first < most_taken →
        UnlessFaulty i.left i.faults o.faults input input output output (ExportEndsAs state rest NoMemory))
        (λ x all rest cut short r w. tt);
    end = tt;
    nothing = λ e. refl;
  }

  pub no_import : ImportEnds i o input input output output words NoMemory
  no_import = record {
    outcome = same (i.left input) (Imported NoMemory (o.given output) (o.given output)) (λ x. record { taken = []; read = refl; ends = refl });
    exact = same (i.left input) (λ first now. length first < most_taken →
        UnlessFaulty i.left i.faults o.faults input input output output (ImportsAs first NoMemory)) (λ x short r w. tt);
    end = tt;
    nothing = λ e. refl;
  }
