-- Pieces that are taken and answered, and how their run ends.
use Rattle.std.proofs.Common.{◌≡◌, ℕ, ◌+◌, ◌<◌, ◌≤◌, ◌==◌, Bool, true, false, if◌then◌else◌, List, [], ◌++◌, Option, Ok, length, take, refl, sym, ap, ◌∙◌}
use Rattle.std.proofs.Common.{subst, arith, append_assoc}
use Rattle.std.proofs.lemmas.Bool.{false≢true}
use Rattle.std.proofs.lemmas.Bool.Decides.{nat_tests}
use Rattle.std.proofs.lemmas.List.{nil_from_length, length-append, length-take-le}
use Rattle.tardis_io.specs.Told.{WhileTold, Takes}
use Rattle.tardis_io.proofs.Told.{weaker, then as told_then, same as told_same}
use Rattle.tardis_io.specs.declared.statuses.Status.{Status}
use Rattle.tardis_io.specs.declared.statuses.Status.TheVariants.{Ok as Finished, ReadFault, WriteFault, Cut, LongFrame, Spent, DiskFault}
use Rattle.frame_cut.specs.Frames.{IsPartial, IsLong, Cuts}
use Rattle.frame_cut.proofs.Joins.{more_bytes, more_bodies}
use Rattle.site_journal.specs.declared.journals.Journaled.{Journaled}
use Rattle.site_run.specs.Endings.{Ends, most_taken}
use Rattle.durable_run.specs.Groups.{Start, Grouping, Taking}
use Rattle.durable_run.specs.Ends.{as_in_midst, Durable}
use Rattle.durable_run.specs.declared.groups.DeviceFault.{DeviceFault}
use Rattle.durable_run.specs.declared.groups.DeviceFault.TheVariants.{Disk, Output}
use Rattle.durable_run.specs.Turns.{EndsSo, IsStop}
use Rattle.durable_run.proofs.Grouped.{rested}
use Rattle.durable_run.proofs.Outcomes.{outcome}
use Rattle.disk_store.specs.declared.disks.Disk.{Ghosts as ADisk}
use Rattle.tardis_base.specs.declared.machines.Machine.{Ghosts as AMachine}

-- so many more bytes were taken
count_more : (taken n : ℕ) (first before after buf : List ℕ) → length first ≡ taken + length before → before ≡ take n buf ++ after → n ≤ length buf →
    length first ≡ taken + n + length after
count_more taken n first before after buf count moved within =
    let parts : length before ≡ length (take n buf) + length after = ap length moved ∙ length-append (take n buf) after in
    let front : length (take n buf) ≡ n = length-take-le n buf within in
    omega (arith, count, parts, front)

-- what a piece completes is cut behind what was cut before
read_more : (first held before after buf piece rest : List ℕ) (n : ℕ) (bodies more : List (List ℕ)) → Cuts first bodies (held ++ before) →
    before ≡ take n buf ++ after → piece ≡ take n buf → Cuts (held ++ piece) more rest → Cuts first (bodies ++ more) (rest ++ after)
read_more first held before after buf piece rest n bodies more read moved is cuts =
    let joined : (held ++ piece) ++ after ≡ held ++ before = append_assoc held piece after ∙ ap (λ z. held ++ z) (ap (λ z. z ++ after) is ∙ sym moved) in
    more_bodies first bodies more (held ++ before) (rest ++ after) read
    (subst (λ z. Cuts z more (rest ++ after)) joined (more_bytes (held ++ piece) after more rest cuts))

-- a take of no bytes left none
ended : (before after buf : List ℕ) (n : ℕ) → n ≡ 0 → before ≡ take n buf ++ after → (n ≡ 0 → before ≡ []) → (before ≡ []) × (after ≡ [])
ended before after buf n zero moved none =
    let all : before ≡ after = subst (λ k. before ≡ take k buf ++ after) zero moved in
    (none zero, sym all ∙ none zero)

module _ {M K : Type 0} (m : AMachine M) (k : ADisk K) where
  -- a run that ended so, from what was cut and what it came to
  pub ends_so : (at : Start m.Plain K) (status : Status) (disk : K) (given : Option (List ℕ)) (bodies : List (List ℕ)) (first held left : List ℕ)
      → Cuts first bodies (held ++ left) → Durable m.plain k status at disk given bodies →
      Ends (as_in_midst status) first bodies held left
      → EndsSo m.plain k at status disk given first left
  ends_so at status disk given bodies first held left read durable ends =
      outcome (as_in_midst status) (λ s. s ≡ at.entries)
      (λ s bodies. Durable m.plain k status
      (record { entries = s; state = at.state; disk = at.disk; given = at.given; most = at.most }) disk given bodies)
      first bodies held left read
      (λ s e. subst (λ x. Durable m.plain k status
      (record { entries = x; state = at.state; disk = at.disk; given = at.given; most = at.most }) disk given bodies) (sym e) durable)
      ends

  -- the input ended
  done_by : (b : Bool) (at : Start m.Plain K) (taken : ℕ) (journal : Journaled M K) (disk : K) (given : Option (List ℕ)) (held first before after buf : List ℕ)
      (n : ℕ)
      → Taking m k at taken journal given held first before → n ≡ 0 →
      (before ≡ take n buf ++ after) × (n ≡ 0 → before ≡ [])
      → (length held == 0) ≡ b → IsPartial held → taken < most_taken → disk ≡ journal.disk
      → EndsSo m.plain k at (if b then Finished else Cut) disk given first after
  done_by true at taken journal disk given held first before after buf n t zero moved is partial few same =
      let e = ended before after buf n zero moved.0 moved.1 in
      let left : before ≡ after = e.0 ∙ sym e.1 in
      let empty : length before ≡ 0 = ap length e.0 in
      ends_so at Finished disk given t.bodies first held after (subst (λ z. Cuts first t.bodies (held ++ z)) left t.read)
      (rested m k Finished at journal disk given t.bodies (λ y z u p. p) same t.group)
      (nil_from_length held (grind (arith, nat_tests, is)), e.1, omega (arith, t.count, empty, few))
  done_by false at taken journal disk given held first before after buf n t zero moved is partial few same =
      let e = ended before after buf n zero moved.0 moved.1 in
      let left : before ≡ after = e.0 ∙ sym e.1 in
      let empty : length before ≡ 0 = ap length e.0 in
      ends_so at Cut disk given t.bodies first held after (subst (λ z. Cuts first t.bodies (held ++ z)) left t.read)
      (rested m k Cut at journal disk given t.bodies (λ y z u p. p) same t.group)
      ((λ z. false≢true (sym is ∙ ap (λ h. length h == 0) z)), partial, e.1, omega (arith, t.count, empty, few))

  pub done_end : (status : Status) (at : Start m.Plain K) (taken : ℕ) (journal : Journaled M K) (disk : K) (given : Option (List ℕ))
      (held first before after buf : List ℕ) (n : ℕ)
      → Taking m k at taken journal given held first before → n ≡ 0 →
      (before ≡ take n buf ++ after) × (n ≡ 0 → before ≡ [])
      → status ≡ (if length held == 0 then Finished else Cut) → IsPartial held → taken < most_taken → disk ≡ journal.disk
      → EndsSo m.plain k at status disk given first after
  done_end status at taken journal disk given held first before after buf n t zero moved is partial few same =
      subst (λ s. EndsSo m.plain k at s disk given first after) (sym is)
      (done_by (length held == 0) at taken journal disk given held first before after buf n t zero moved refl partial few same)

  pub done_read : (at : Start m.Plain K) (taken : ℕ) (journal : Journaled M K) (disk : K) (given : Option (List ℕ)) (held first before after : List ℕ)
      → Taking m k at taken journal given held first before → after ≡ before → IsPartial held →
      taken < most_taken → disk ≡ journal.disk
      → EndsSo m.plain k at ReadFault disk given first after
  done_read at taken journal disk given held first before after t left partial few same =
      let count : length after ≡ length before = ap length left in
      ends_so at ReadFault disk given t.bodies first held after (subst (λ z. Cuts first t.bodies (held ++ z)) (sym left) t.read)
      (rested m k ReadFault at journal disk given t.bodies (λ y z u p. p) same t.group)
      (partial, omega (arith, t.count, count, few))

  pub done_spent : (at : Start m.Plain K) (taken : ℕ) (journal : Journaled M K) (disk : K) (given : Option (List ℕ)) (held first left : List ℕ)
      → Taking m k at taken journal given held first left → IsPartial held → taken ≤ most_taken →
      most_taken ≤ taken → disk ≡ journal.disk
      → EndsSo m.plain k at Spent disk given first left
  done_spent at taken journal disk given held first left t partial within all same =
      ends_so at Spent disk given t.bodies first held left t.read
      (rested m k Spent at journal disk given t.bodies (λ y z u p. p) same t.group)
      (partial, omega (arith, t.count, within, all))

  -- a piece was answered, and the run goes on
  pub taking_more : (at : Start m.Plain K) (taken n : ℕ) (old new : Journaled M K) (given now : Option (List ℕ)) (held first before after buf piece rest : List ℕ)
      → ((bodies : List (List ℕ)) → Grouping m k at old given [] bodies
      → (more : List (List ℕ)) × (Cuts (held ++ piece) more rest × Grouping m k at new now []
      (bodies ++ more)))
      → (before ≡ take n buf ++ after) × (n ≡ 0 → before ≡ []) → n ≤ length buf → piece ≡ take n buf
      → Taking m k at taken old given held first before
      → Taking m k at (taken + n) new now rest first after
  taking_more at taken n old new given now held first before after buf piece rest grouped moved within is t =
      let on = grouped t.bodies t.group in
      record {
        bodies = t.bodies ++ on.0;
        count = count_more taken n first before after buf t.count moved.0 within;
        read = read_more first held before after buf piece rest n t.bodies on.0 t.read moved.0 is on.1.0;
        group = on.1.1;
      }

  pub done_long : (len : ℕ) (at : Start m.Plain K) (taken : ℕ) (journal : Journaled M K) (disk : K) (given : Option (List ℕ)) (held first left : List ℕ)
      → Taking m k at taken journal given held first left → IsLong held len → taken ≤ most_taken
      → disk ≡ journal.disk
      → EndsSo m.plain k at (LongFrame len) disk given first left
  done_long len at taken journal disk given held first left t long few same =
      ends_so at (LongFrame len) disk given t.bodies first held left t.read
      (rested m k (LongFrame len) at journal disk given t.bodies (λ y z u p. p) same t.group)
      (long, omega (arith, t.count, few))

  -- a piece was answered in part, when a disk or a sink failed
  pub done_stop : (status : Status) (at : Start m.Plain K) (taken n : ℕ) (old : Journaled M K) (disk : K) (given now : Option (List ℕ))
      (held first before after buf piece : List ℕ)
      → as_in_midst status ≡ WriteFault
      → ((bodies : List (List ℕ)) → Grouping m k at old given [] bodies
      → (more : List (List ℕ))
      × ((rest : List ℕ) × (Cuts (held ++ piece) more rest × Durable m.plain k status at disk now (bodies ++ more))))
      → (before ≡ take n buf ++ after) × (n ≡ 0 → before ≡ []) → n ≤ length buf → piece ≡ take n buf → taken + n ≤ most_taken
      → Taking m k at taken old given held first before
      → EndsSo m.plain k at status disk now first after
  done_stop status at taken n old disk given now held first before after buf piece midst stopped moved within is few t =
      let on = stopped t.bodies t.group in
      let count : length first ≡ taken + n + length after = count_more taken n first before after buf t.count moved.0 within in
      ends_so at status disk now (t.bodies ++ on.0) first on.1.0 after
      (read_more first held before after buf piece on.1.0 n t.bodies on.0 t.read moved.0 is on.1.1.0) on.1.1.1
      (subst (λ s. Ends s first (t.bodies ++ on.0) on.1.0 after) (sym midst) (omega (arith, count, few)))

  -- a turn took so many bytes, and answered what they complete
  abbrev pub GoesOn : Journaled M K → Journaled M K → Option (List ℕ) → Option (List ℕ) → List ℕ → List ℕ → ℕ → List ℕ → List ℕ → Type 0
  GoesOn old new given now held rest n before after = (at : Start m.Plain K) (taken : ℕ) (first : List ℕ)
      → Taking m k at taken old given held first before →
      Taking m k at (taken + n) new now rest first after

  -- a turn ended the run
  abbrev pub EndsHere : Journaled M K → Status → K → Option (List ℕ) → Option (List ℕ) → List ℕ → ℕ → List ℕ → List ℕ → Type 0
  EndsHere old status disk given now held size before after = (at : Start m.Plain K) (taken : ℕ) (first : List ℕ)
      → Taking m k at taken old given held first before → taken + size ≤ most_taken →
      EndsSo m.plain k at status disk now first after

  pub told_turned : (a b : Option (List ℕ)) (old new : Journaled M K) (given now : Option (List ℕ)) (held buf rest : List ℕ) (n : ℕ)
      → ((at : Start m.Plain K) (bodies : List (List ℕ)) → Grouping m k at old given [] bodies
      → (more : List (List ℕ)) × (Cuts (held ++ take n buf) more rest
      × Grouping m k at new now [] (bodies ++ more)))
      → n ≤ length buf → WhileTold a b (λ before after. Takes before after (Ok n) buf) → WhileTold a b (GoesOn old new given now held rest n)
  told_turned a b old new given now held buf rest n grouped within told =
      weaker a b (λ before after. Takes before after (Ok n) buf) (GoesOn old new given now held rest n) told
      (λ x y moved at taken first t. taking_more at taken n old new given now held first x y buf (take n buf) rest (grouped at) moved within refl t)

  pub told_end : (a b : Option (List ℕ)) (status : Status) (old : Journaled M K) (disk : K) (given : Option (List ℕ)) (held buf : List ℕ) (n size : ℕ)
      → n ≡ 0 → status ≡ (if length held == 0 then Finished else Cut) → IsPartial held → 0 < size → disk ≡ old.disk
      → WhileTold a b (λ before after. Takes before after (Ok n) buf) → WhileTold a b (EndsHere old status disk given given held size)
  told_end a b status old disk given held buf n size zero is partial some same told =
      weaker a b (λ before after. Takes before after (Ok n) buf) (EndsHere old status disk given given held size) told
      (λ x y moved at taken first t few. done_end status at taken old disk given held first x y buf n t zero moved is partial (omega (arith, few, some)) same)

  pub told_read : (a b : Option (List ℕ)) (old : Journaled M K) (disk : K) (given : Option (List ℕ)) (held : List ℕ) (size : ℕ)
      → IsPartial held → 0 < size → disk ≡ old.disk
      → WhileTold a b (λ before after. after ≡ before) → WhileTold a b (EndsHere old ReadFault disk given given held size)
  told_read a b old disk given held size partial some same told =
      weaker a b (λ before after. after ≡ before) (EndsHere old ReadFault disk given given held size) told
      (λ x y left at taken first t few. done_read at taken old disk given held first x y t left partial (omega (arith, few, some)) same)

  pub told_long : (a b : Option (List ℕ)) (len : ℕ) (old new : Journaled M K) (disk : K) (given now : Option (List ℕ)) (held buf rest : List ℕ) (n size : ℕ)
      → ((at : Start m.Plain K) (bodies : List (List ℕ)) → Grouping m k at old given [] bodies
      → (more : List (List ℕ)) × (Cuts (held ++ take n buf) more rest
      × Grouping m k at new now [] (bodies ++ more)))
      → n ≤ length buf → n ≤ size → IsLong rest len → disk ≡ new.disk
      → WhileTold a b (λ before after. Takes before after (Ok n) buf) → WhileTold a b (EndsHere old (LongFrame len) disk given now held size)
  told_long a b len old new disk given now held buf rest n size grouped within less long same told =
      weaker a b (λ before after. Takes before after (Ok n) buf) (EndsHere old (LongFrame len) disk given now held size) told
      (λ x y moved at taken first t few. done_long len at (taken + n) new disk now rest first y
      (taking_more at taken n old new given now held first x y buf (take n buf) rest (grouped at) moved within refl t) long (omega (arith, few, less)) same)

  pub told_stop : (a b : Option (List ℕ)) (status : Status) (old : Journaled M K) (disk : K) (given now : Option (List ℕ)) (held buf : List ℕ) (n size : ℕ)
      → as_in_midst status ≡ WriteFault
      → ((at : Start m.Plain K) (bodies : List (List ℕ)) → Grouping m k at old given [] bodies
      → (more : List (List ℕ))
      × ((rest : List ℕ) × (Cuts (held ++ take n buf) more rest × Durable m.plain k status at disk now
      (bodies ++ more))))
      → n ≤ length buf → n ≤ size
      → WhileTold a b (λ before after. Takes before after (Ok n) buf) → WhileTold a b (EndsHere old status disk given now held size)
  told_stop a b status old disk given now held buf n size midst stopped within less told =
      weaker a b (λ before after. Takes before after (Ok n) buf) (EndsHere old status disk given now held size) told
      (λ x y moved at taken first t few. done_stop status at taken n old disk given now held first x y buf (take n buf) midst
      (stopped at) moved within refl (omega (arith, few, less)) t)

  -- the same where it is told what stopped the run
  abbrev pub WasStopped : Journaled M K → DeviceFault K → Option (List ℕ) → Option (List ℕ) → List ℕ → Type 0
  WasStopped old stop given now bytes = (at : Start m.Plain K) (bodies : List (List ℕ)) →
      Grouping m k at old given [] bodies
      → (more : List (List ℕ)) × ((rest : List ℕ) × (Cuts bytes more rest × IsStop m.plain k at stop now (bodies ++ more)))

  pub told_disk : (a b : Option (List ℕ)) (old : Journaled M K) (stop : DeviceFault K) (disk : K) (given now : Option (List ℕ)) (held buf : List ℕ) (n size : ℕ)
      → stop ≡ Disk disk → WasStopped old stop given now (held ++ take n buf) → n ≤ length buf → n ≤ size
      → WhileTold a b (λ before after. Takes before after (Ok n) buf) → WhileTold a b (EndsHere old DiskFault disk given now held size)
  told_disk a b old stop disk given now held buf n size is stopped within less told =
      told_stop a b DiskFault old disk given now held buf n size refl
      (λ at bodies group. let x = stopped at bodies group in
      (x.0, (x.1.0, (x.1.1.0, subst (λ s. IsStop m.plain k at s now (bodies ++ x.0)) is x.1.1.1))))
      within less told

  pub told_output : (a b : Option (List ℕ)) (old : Journaled M K) (stop : DeviceFault K) (disk : K) (given now : Option (List ℕ)) (held buf : List ℕ) (n size : ℕ)
      → stop ≡ Output disk → WasStopped old stop given now (held ++ take n buf) → n ≤ length buf → n ≤ size
      → WhileTold a b (λ before after. Takes before after (Ok n) buf) → WhileTold a b (EndsHere old WriteFault disk given now held size)
  told_output a b old stop disk given now held buf n size is stopped within less told =
      told_stop a b WriteFault old disk given now held buf n size refl
      (λ at bodies group. let x = stopped at bodies group in
      (x.0, (x.1.0, (x.1.1.0, subst (λ s. IsStop m.plain k at s now (bodies ++ x.0)) is x.1.1.1))))
      within less told

  -- nothing was taken yet
  pub taking_none : (at : Start m.Plain K) (journal : Journaled M K) (given : Option (List ℕ)) (held bytes : List ℕ) → held ≡ [] →
      Grouping m k at journal given [] [] →
      Taking m k at 0 journal given held bytes bytes
  taking_none at journal given held bytes none group = record {
    bodies = [];
    count = omega arith;
    read = record { whole = ap (λ z. z ++ bytes) (sym none); each = tt };
    group = group;
  }

  -- turn after turn
  pub turns_on : (at : Start m.Plain K) (a b c : Option (List ℕ)) (taken n : ℕ) (old new : Journaled M K) (given now : Option (List ℕ)) (held rest : List ℕ)
      → WhileTold a b (λ first left. Taking m k at taken old given held first left) →
      WhileTold b c (GoesOn old new given now held rest n)
      → WhileTold a c (λ first left. Taking m k at (taken + n) new now rest first left)
  turns_on at a b c taken n old new given now held rest so_far turn =
      told_then a b c (λ first left. Taking m k at taken old given held first left)
      (GoesOn old new given now held rest n) (λ first left. Taking m k at
      (taken + n) new now rest first left)
      so_far turn (λ x y z t on. on at taken x t)

  pub turns_end : (at : Start m.Plain K) (a b c : Option (List ℕ)) (taken size : ℕ) (old : Journaled M K) (status : Status) (disk : K)
      (given now : Option (List ℕ)) (held : List ℕ)
      → taken + size ≤ most_taken → WhileTold a b (λ first left. Taking m k at taken old given
      held first left) → WhileTold b c (EndsHere old status disk given now held size)
      → WhileTold a c (EndsSo m.plain k at status disk now)
  turns_end at a b c taken size old status disk given now held few so_far turn =
      told_then a b c (λ first left. Taking m k at taken old given held first left)
      (EndsHere old status disk given now held size) (EndsSo m.plain k at status disk now)
      so_far turn (λ x y z t end. end at taken x t few)

  pub turns_spent : (at : Start m.Plain K) (a b : Option (List ℕ)) (taken : ℕ) (old : Journaled M K) (disk : K) (given : Option (List ℕ)) (held : List ℕ)
      → IsPartial held → taken ≤ most_taken → most_taken ≤ taken → disk ≡ old.disk →
      WhileTold a b (λ first left. Taking m k at taken old given held first left)
      → WhileTold a b (EndsSo m.plain k at Spent disk given)
  turns_spent at a b taken old disk given held partial within all same so_far =
      weaker a b (λ first left. Taking m k at taken old given held first left)
      (EndsSo m.plain k at Spent disk given) so_far
      (λ x y t. done_spent at taken old disk given held x y t partial within all same)

  pub turns_none : (at : Start m.Plain K) (a : Option (List ℕ)) (journal : Journaled M K) (given : Option (List ℕ)) (held : List ℕ) → held ≡ [] →
      Grouping m k at journal given [] []
      → WhileTold a a (λ first left. Taking m k at 0 journal given held first left)
  turns_none at a journal given held none group = told_same a
      (λ first left. Taking m k at 0 journal given held first left)
      (λ x. taking_none at journal given held x none group)
