-- How an export ends, by how its reading ended.
use Rattle.std.proofs.Common.{◌≡◌, ℕ, ◌<◌, ◌≤◌, false, List, [], length, Option, map, refl, sym, ap, subst, arith}
use Rattle.tardis_base.specs.declared.ids.StateId.{StateId}
use Rattle.tardis_io.specs.declared.statuses.Status.{Status}
use Rattle.tardis_io.specs.declared.statuses.Status.TheVariants.{Ok, Usage, ReadFault, WriteFault, Cut, LongFrame, NoMemory, GateFault, DialFault, Spent}
use Rattle.tardis_io.specs.declared.statuses.Status.TheVariants.{DiskFault, BadExport, NoState}
use Rattle.tardis_io.specs.Told.{WhileTold}
use Rattle.tardis_io.proofs.Told.{weaker}
use Rattle.frame_cut.specs.Frames.{IsCut}
use Rattle.frame_cut.specs.Events.{event_of}
use Rattle.site_run.specs.Endings.{Outcome, EndsAs, IsRunEnd, most_taken}
use Rattle.plain_site.specs.Site.{Site, opening}
use Rattle.plain_site.specs.Sound.{IsSound}
use Rattle.plain_site.proofs.SoundOpening.{opening-is-sound}
use Rattle.std.proofs.Common.{IsTrue, leb}
use Rattle.std.proofs.lemmas.Bool.{and_from, le-leb}
use Rattle.tardis_base.specs.Valid.{is_within, are_limits}
use Rattle.tardis_base.specs.declared.records.Limits.{Limits}
use Rattle.plain_site.specs.Step.{site_machine}
use Rattle.plain_dag.specs.Collection.{is_kept}
use Rattle.export_run.specs.Silence.{Led}
use Rattle.export_run.specs.Exporting.{GivesExport, Exports, ExportOutcome, ExportEndsAs, IsExportEnd}
use Rattle.export_run.proofs.Silences.{plainly}

module _ (x : StateId) (from to : Site → Type 0) where
  abbrev pub Asked : Status → List ℕ → List ℕ → Type 0
  Asked status first left = Outcome status from (λ s bodies. Led site_machine status to s (map event_of bodies)) first left

  module _ (old new : Option (List ℕ)) where
    pub ended-well : (first left : List ℕ) → ((t : Site) → to t → GivesExport Ok x t old new) → Asked Ok first left →
        ExportOutcome Ok x from to old new first left
    ended-well first left gives o = record {
      bodies = o.bodies;
      held = o.held;
      read = o.read;
      exported = λ s f. let l = o.answered s f in record { site = l.state; leads = l.leads; stands = l.stands; given = gives l.state l.stands };
      ends = o.ends;
      front = o.front;
      whole = o.whole;
    }

    pub ended-broken : (first left : List ℕ) → ((t : Site) → to t → GivesExport WriteFault x t old new) → Asked Ok first left →
        ExportOutcome WriteFault x from to old new first left
    ended-broken first left gives o = record {
      bodies = o.bodies;
      held = o.held;
      read = o.read;
      exported = λ s f. let l = o.answered s f in record { site = l.state; leads = l.leads; stands = l.stands; given = gives l.state l.stands };
      ends = o.ends;
      front = o.front;
      whole = o.whole;
    }

    pub ended-without : (first left : List ℕ) → ((t : Site) → to t → (is_kept t.dag t.collected x ≡ false) × (new ≡ old)) → Asked Ok first left →
        ExportOutcome (NoState x) x from to old new first left
    ended-without first left gives o = record {
      bodies = o.bodies;
      held = o.held;
      read = o.read;
      exported = λ s f. let l = o.answered s f in let g = gives l.state l.stands in
          record { site = l.state; leads = l.leads; stands = l.stands; given = (refl, g.0, g.1) };
      ends = o.ends;
      front = o.front;
      whole = o.whole;
    }

    -- there was no memory for the export
    pub ended-wanting : (first left : List ℕ) → new ≡ old → Asked Ok first left → ExportOutcome NoMemory x from to old new first left
    ended-wanting first left nothing o = record {
      bodies = o.bodies;
      held = o.held;
      read = o.read;
      exported = λ s f. let l = o.answered s f in record {
        site = l.state;
        leads = plainly site_machine s (map event_of o.bodies) l.state l.leads;
        stands =
            l.stands;
        given = nothing;
      };
      ends = omega (arith, o.ends.2);
      front = o.front;
      whole = λ all rest cut. tt;
    }

  -- there was none for a frame
  pub ended-asking : (old : Option (List ℕ)) (first left : List ℕ) → Asked WriteFault first left → ExportOutcome NoMemory x from to old old first left
  ended-asking old first left o = record {
    bodies = o.bodies;
    held = o.held;
    read = o.read;
    exported = λ s f. let l = o.answered s f in record { site = l.state; leads = l.leads; stands = l.stands; given = refl };
    ends = o.ends;
    front = o.front;
    whole = λ all rest cut. tt;
  }

  -- the input wasn't read to its end, or had no whole frame there
  pub ended-early : (old : Option (List ℕ)) (status : Status) (first left : List ℕ) → IsRunEnd status → (status ≡ Ok → ⊥) → (status ≡ WriteFault → ⊥) →
      Asked status first left → ExportOutcome status x from to old old first left
  ended-early old Ok first left end notok notwrite o = absurd (notok refl)
  ended-early old WriteFault first left end notok notwrite o = absurd (notwrite refl)
  ended-early old ReadFault first left end notok notwrite o = record {
    bodies = o.bodies;
    held = o.held;
    read = o.read;
    exported = λ s f. let l = o.answered s f in record { site = l.state; leads = l.leads; stands = l.stands; given = refl };
    ends = o.ends;
    front = o.front;
    whole = o.whole;
  }
  ended-early old Cut first left end notok notwrite o = record {
    bodies = o.bodies;
    held = o.held;
    read = o.read;
    exported = λ s f. let l = o.answered s f in record { site = l.state; leads = l.leads; stands = l.stands; given = refl };
    ends = o.ends;
    front = o.front;
    whole = o.whole;
  }
  ended-early old (LongFrame len) first left end notok notwrite o = record {
    bodies = o.bodies;
    held = o.held;
    read = o.read;
    exported = λ s f. let l = o.answered s f in record { site = l.state; leads = l.leads; stands = l.stands; given = refl };
    ends = o.ends;
    front = o.front;
    whole = o.whole;
  }
  ended-early old Spent first left end notok notwrite o = record {
    bodies = o.bodies;
    held = o.held;
    read = o.read;
    exported = λ s f. let l = o.answered s f in record { site = l.state; leads = l.leads; stands = l.stands; given = refl };
    ends = o.ends;
    front = o.front;
    whole = o.whole;
  }
  ended-early old NoMemory first left end notok notwrite o = record {
    bodies = o.bodies;
    held = o.held;
    read = o.read;
    exported = λ s f. let l = o.answered s f in record {
      site = l.state;
      leads = plainly site_machine s (map event_of o.bodies) l.state l.leads;
      stands =
          l.stands;
      given = refl;
    };
    ends = omega (arith, ap length o.ends.2);
    front = o.front;
    whole = λ all rest cut. tt;
  }
  ended-early old Usage first left end notok notwrite o = absurd (end)
  ended-early old GateFault first left end notok notwrite o = absurd (end)
  ended-early old DialFault first left end notok notwrite o = absurd (end)
  ended-early old DiskFault first left end notok notwrite o = absurd (end)
  ended-early old BadExport first left end notok notwrite o = absurd (end)
  ended-early old (NoState y) first left end notok notwrite o = absurd (end)

-- ===== What decides how it ends

early-as : (x : StateId) (rest : List ℕ) (status : Status) → (status ≡ Ok → ⊥) → (status ≡ WriteFault → ⊥) → EndsAs rest status → ExportEndsAs x rest status
early-as x rest Ok notok notwrite e = e
early-as x rest WriteFault notok notwrite e = e
early-as x rest ReadFault notok notwrite e = e
early-as x rest Cut notok notwrite e = e
early-as x rest (LongFrame len) notok notwrite e = e
early-as x rest Spent notok notwrite e = e
early-as x rest NoMemory notok notwrite e = tt
early-as x rest Usage notok notwrite e = e
early-as x rest GateFault notok notwrite e = e
early-as x rest DialFault notok notwrite e = e
early-as x rest DiskFault notok notwrite e = e
early-as x rest BadExport notok notwrite e = e
early-as x rest (NoState y) notok notwrite e = absurd (e)

module _ (x : StateId) (before after : Option (List ℕ)) (Faultless Written : Type 0) where
  -- the one cut decides a status of reading
  abbrev pub Decides : Status → Type 0
  Decides status =
      WhileTold before after (λ first left. (all : List (List ℕ)) (rest : List ℕ) → IsCut first all rest → length first < most_taken → Faultless →
      (status ≡ WriteFault → ⊥) → EndsAs rest status)

  abbrev pub DecidesExport : Status → Type 0
  DecidesExport status =
      WhileTold before after (λ first left. (all : List (List ℕ)) (rest : List ℕ) → IsCut first all rest → length first < most_taken → Faultless → Written
      → ExportEndsAs x rest status)

  -- the status of an export by that of its reading
  pub decided : (status final : Status) → (status ≡ WriteFault → ⊥) → ((rest : List ℕ) → EndsAs rest status → Written → ExportEndsAs x rest final) →
      Decides status → DecidesExport final
  decided status final notwrite f d =
      weaker before after (λ first left. (all : List (List ℕ)) (rest : List ℕ) → IsCut first all rest → length first < most_taken → Faultless →
      (status ≡ WriteFault → ⊥) → EndsAs rest status)
      (λ first left. (all : List (List ℕ)) (rest : List ℕ) → IsCut first all rest → length first < most_taken → Faultless → Written →
      ExportEndsAs x rest final) d
      (λ a b h. λ all rest cut short quiet written. f rest (h all rest cut short quiet notwrite) written)

  pub decided-wanting : (status : Status) → Decides status → DecidesExport NoMemory
  decided-wanting status d =
      weaker before after (λ first left. (all : List (List ℕ)) (rest : List ℕ) → IsCut first all rest → length first < most_taken → Faultless →
      (status ≡ WriteFault → ⊥) → EndsAs rest status)
      (λ first left. (all : List (List ℕ)) (rest : List ℕ) → IsCut first all rest → length first < most_taken → Faultless → Written →
      ExportEndsAs x rest NoMemory) d
      (λ a b h. λ all rest cut short quiet written. tt)

  pub decided-early : (status : Status) → (status ≡ Ok → ⊥) → (status ≡ WriteFault → ⊥) → Decides status → DecidesExport status
  decided-early status notok notwrite d = decided status status notwrite (λ rest e written. early-as x rest status notok notwrite e) d

pub early-end : (x : StateId) (status : Status) → IsRunEnd status → IsExportEnd x status
early-end x Ok end = tt
early-end x WriteFault end = tt
early-end x ReadFault end = tt
early-end x Cut end = tt
early-end x (LongFrame len) end = end
early-end x Spent end = tt
early-end x NoMemory end = tt
early-end x Usage end = end
early-end x GateFault end = end
early-end x DialFault end = end
early-end x DiskFault end = end
early-end x BadExport end = end
early-end x (NoState y) end = absurd (end)

-- ===== The site that opens

pub from_opening : (status : Status) (x : StateId) (site : Site) (From To : Site → Type 0) (old new : Option (List ℕ)) (first left : List ℕ) → From site →
    ((t : Site) → To t → IsSound t)
    → ExportOutcome status x From To old new first left → ExportOutcome status x (λ s. s ≡ site) IsSound old new first left
from_opening status x site From To old new first left here sound o = record {
  bodies = o.bodies;
  held = o.held;
  read = o.read;
  exported = λ s e.
      let l = o.exported site here in
      subst (λ z. Exports status x IsSound old new z (map event_of o.bodies)) (sym e)
      (record { site = l.site; leads = l.leads; stands = sound l.site l.stands; given = l.given });
  ends = o.ends;
  front = o.front;
  whole = o.whole;
}

-- there was no memory for the site
pub unopened : (x : StateId) (site : Site) (old : Option (List ℕ)) (first : List ℕ) → IsSound site →
    ExportOutcome NoMemory x (λ s. s ≡ site) IsSound old old first first
unopened x site old first sound = record {
  bodies = [];
  held = [];
  read = record { whole = refl; each = tt };
  exported = λ s e. record { site = s; leads = ([], refl); stands = subst (λ z. IsSound z) (sym e) sound; given = refl };
  ends = omega arith;
  front = λ all rest cut. (all, refl);
  whole = λ all rest cut. tt;
}

within : (low high n : ℕ) → low ≤ n → n ≤ high → IsTrue (is_within low high n)
within low high n from to = and_from (leb low n) (leb n high) (le-leb low n from) (le-leb n high to)

-- the site that opens is sound
pub opens : (limits : Limits) (own : ℕ) → IsTrue (are_limits limits) → 1 ≤ own → own ≤ limits.sites → IsSound (opening limits own)
opens limits own valid first last = opening-is-sound limits own valid (within 1 limits.sites own first last)
