-- What the clauses of the program say of each command follows from what the words came to.
use Rattle.std.proofs.Common.{◌≡◌, ◌∙◌, ℕ, List, Option, Some, None, sym, subst, refl}
use Rattle.std.proofs.lemmas.Option.{same_Some}
use Rattle.tardis_io.specs.declared.statuses.Status.{Status}
use Rattle.tardis_io.specs.declared.streams.Source.{Ghosts as ASource}
use Rattle.tardis_io.specs.declared.streams.Sink.{Ghosts as ASink}
use Rattle.tardis_io.specs.declared.duplexes.Duplex.{Ghosts as ADuplex}
use Rattle.tardis_io.specs.declared.gates.Gate.{Ghosts as AGate}
use Rattle.tardis_io.specs.declared.gates.Dial.{Ghosts as ADial}
use Rattle.disk_store.specs.declared.disks.Disk.{Ghosts as ADisk}
use Rattle.disk_store.specs.declared.stores.Store.{Ghosts as AStore}
use Rattle.command_words.specs.Forms.{Form, form, Serving, AsRun, AsShell, AsAudit, AsWorld, AsServe, AsLoad, AsAuto, AsExport, AsImport, AsDurable}
use Rattle.command_words.specs.declared.commands.Place.{Place}
use Rattle.plain_site.specs.Site.{Site}
use Rattle.tardis_main.specs.Words.{AreServe, AreDurable, AreUnknown}
use Rattle.tardis_main.specs.Program.{Runs, Shells, Audits, Worlds, Autos, Exports, Imports, Loads, Serves, Durables}
use Rattle.tardis_main.specs.Carried.{CarriedOut}

pub none_is_no_form : (f : Form) → ◌≡◌ {A = Option Form} None (Some f) → ⊥
none_is_no_form f e = cc

-- a form is there, or none is
pub unknown_at_none : (words : List (List ℕ)) → form words ≡ None → AreUnknown words
unknown_at_none words none f is = none_is_no_form f (sym none ∙ is)

module _ {M L G X D O I K S : Type 0} (opened : M → Site) (i : ASource I) (o : ASink O) (g : AGate G L) (l : ADuplex L) (gives : ASink L) (d : ADial D X)
    (x : ADuplex X) (dialled : ASink X) (st : AStore S K) (k : ADisk K) (old new : I) (before after : O) (gate gate_now : G) (dial dial_now : D) (store store_now : S)
    (words : List (List ℕ)) (status : Status) where
  -- what words came to that have the form
  abbrev pub Came : Form → Type 0
  Came = CarriedOut opened i o g l gives d x dialled st k old new before after gate gate_now dial dial_now store store_now words status

  -- what came of one form is what came of the words
  pub of_form : (f : Form) → form words ≡ Some f → Came f → (said : Form) → form words ≡ Some said → Came said
  of_form f is came said e = subst Came (same_Some f said (sym is ∙ e)) came

  -- unless the words were those of `serve`, nobody was let in or called
  unbound_by : (f : Form) → ((plan : Serving) → Some f ≡ Some (AsServe plan) → ⊥) → Came f → (gate_now ≡ gate) × (dial_now ≡ dial)
  unbound_by (AsRun place) other came = (came.same_gate, came.same_dial)
  unbound_by (AsShell place) other came = (came.same_gate, came.same_dial)
  unbound_by (AsAudit place) other came = (came.same_gate, came.same_dial)
  unbound_by (AsWorld sites) other came = (came.same_gate, came.same_dial)
  unbound_by (AsServe plan) other came = absurd (other plan refl)
  unbound_by (AsLoad start steps) other came = (came.same_gate, came.same_dial)
  unbound_by (AsAuto place rules) other came = (came.same_gate, came.same_dial)
  unbound_by (AsExport place state) other came = (came.same_gate, came.same_dial)
  unbound_by AsImport other came = (came.same_gate, came.same_dial)
  unbound_by (AsDurable place path) other came = (came.same_gate, came.same_dial)

  -- unless they were those of `durable`, no file was opened
  unstored_by : (f : Form) → ((place : Place) (path : List ℕ) → Some f ≡ Some (AsDurable place path) → ⊥) → Came f → store_now ≡ store
  unstored_by (AsRun place) other came = came.same_store
  unstored_by (AsShell place) other came = came.same_store
  unstored_by (AsAudit place) other came = came.same_store
  unstored_by (AsWorld sites) other came = came.same_store
  unstored_by (AsServe plan) other came = came.same_store
  unstored_by (AsLoad start steps) other came = came.same_store
  unstored_by (AsAuto place rules) other came = came.same_store
  unstored_by (AsExport place state) other came = came.same_store
  unstored_by AsImport other came = came.same_store
  unstored_by (AsDurable place path) other came = absurd (other place path refl)

  module _ (came : (f : Form) → form words ≡ Some f → Came f) where
    pub runs : Runs i o old new before after words status
    runs place are = (came (AsRun place) are).ends

    pub shells : Shells i o old new before after words status
    shells place are = (came (AsShell place) are).ends

    pub audits : Audits i o old new before after words status
    audits place are = (came (AsAudit place) are).ends

    pub worlds : Worlds i o old new before after words status
    worlds sites are = (came (AsWorld sites) are).ends

    pub autos : Autos i o old new before after words status
    autos place rules are = (came (AsAuto place rules) are).ends

    pub exports : Exports i o old new before after words status
    exports place state are = (came (AsExport place state) are).ends

    pub imports : Imports i o old new before after words status
    imports are = (came AsImport are).ends

    pub loads : Loads i o old new before after words status
    loads start steps are = (came (AsLoad start steps) are).ends

    pub serves : Serves opened g l gives d x dialled o gate gate_now dial dial_now before after words status
    serves plan are = (came (AsServe plan) are).ends

    pub durables : Durables i o st k store store_now old new before after words status
    durables place path are = (came (AsDurable place path) are).ends

    pub unread : (plan : Serving) → AreServe words plan → new ≡ old
    unread plan are = (came (AsServe plan) are).same_input

    module _ (gate_still : AreUnknown words → gate_now ≡ gate) (dial_still : AreUnknown words → dial_now ≡ dial) (store_still : AreUnknown words → store_now ≡ store) where
      unbound_at : (said : Option Form) → form words ≡ said → ((plan : Serving) → AreServe words plan → ⊥) → (gate_now ≡ gate) × (dial_now ≡ dial)
      unbound_at None none other = let unknown = unknown_at_none words none in (gate_still unknown, dial_still unknown)
      unbound_at (Some f) is other = unbound_by f (λ plan e. other plan (is ∙ e)) (came f is)

      pub unbound : ((plan : Serving) → AreServe words plan → ⊥) → (gate_now ≡ gate) × (dial_now ≡ dial)
      unbound = unbound_at (form words) refl

      unstored_at : (said : Option Form) → form words ≡ said → ((place : Place) (path : List ℕ) → AreDurable words place path → ⊥) → store_now ≡ store
      unstored_at None none other = store_still (unknown_at_none words none)
      unstored_at (Some f) is other = unstored_by f (λ place path e. other place path (is ∙ e)) (came f is)

      pub unstored : ((place : Place) (path : List ℕ) → AreDurable words place path → ⊥) → store_now ≡ store
      unstored = unstored_at (form words) refl
