-- A machine that answers the entries of a disk, one after another.
use Rattle.std.proofs.Common.{◌≡◌, ◌⊎◌, inl, inr, ⊎_elim, ℕ, ◌+◌, ◌<◌, ◌≤◌, List, [], ◌∷◌, ◌++◌, length, drop, map, refl, sym, ap, ◌∙◌, subst}
use Rattle.std.proofs.Common.{arith, append_assoc, length-append}
use Rattle.std.specs.List.{AllByRecursion}
use Rattle.std.proofs.lemmas.List.{drop-drop, map-append}
use Rattle.tardis_base.specs.Plain.{Event, PlainMachine, state_after}
use Rattle.disk_store.specs.Disks.{longest_disk}
use Rattle.frame_cut.specs.Frames.{frame}
use Rattle.frame_cut.specs.Events.{event_of}
use Rattle.site_journal.specs.Texts.{IsEntry, marked}
use Rattle.site_journal.specs.Replays.{Replayed}
use Rattle.site_journal.proofs.Texts.{marked-append, all_more, length_one_more}
use Rattle.disk_store.specs.declared.disks.Disk.{Ghosts as ADisk}
use Rattle.tardis_base.specs.Sizes.{longest_frame}
use Rattle.tardis_base.specs.declared.machines.Machine.{Ghosts as AMachine}

-- the state after one more event
pub state_more : {S : Type 0} (m : PlainMachine S) (s : S) (events : List Event) (e : Event) → state_after m s (events ++ e ∷ [])
    ≡ m.step (state_after m s events) e
state_more m s [] e = refl
state_more m s (x ∷ xs) e = state_more m (m.step s x) xs e

pub state_entry : {S : Type 0} (m : PlainMachine S) (s : S) (entries : List (List ℕ)) (entry : List ℕ) →
    state_after m s (map event_of (entries ++ entry ∷ [])) ≡ m.step (state_after m s (map event_of entries)) (event_of entry)
state_entry m s entries entry = ap (state_after m s) (map-append event_of entries (entry ∷ [])) ∙ state_more m s (map event_of entries) (event_of entry)

-- how far it has come: these entries were answered, and stand before the place
pub record Progress {M K : Type 0} (m : AMachine M) (k : ADisk K)
    (first machine : M) (disk : K) (count place size : ℕ) (entries : List (List ℕ)) : Type 0 where
  pub each : AllByRecursion IsEntry entries
  pub stood : m.stands machine (state_after m.plain (m.opening machine) (map event_of entries))
  pub same : m.opening machine ≡ m.opening first
  pub counts : count ≡ length entries
  pub few : count ≤ place
  pub at : place ≡ length (marked entries)
  pub within : place ≤ size
  pub behind : ((entries ≡ []) × (place ≡ 0)) ⊎ (place < size)
  pub most : size ≤ longest_disk
  pub long : k.honest disk → size ≡ length (k.reads disk)
  pub front : k.honest disk → k.reads disk ≡ marked entries ++ drop place (k.reads disk)

module _ {M K : Type 0} (m : AMachine M) (k : ADisk K) where
  pub begins : (machine : M) (disk : K) (size : ℕ) → m.stands machine (m.opening machine) → size ≤ longest_disk → (k.honest disk → size ≡ length (k.reads disk)) →
      Progress m k machine machine disk 0 0 size []
  begins machine disk size stood most long = record {
    each = tt;
    stood = stood;
    same = refl;
    counts = refl;
    few = omega arith;
    at = refl;
    within = omega arith;
    behind = inl (refl, refl);
    most = most;
    long = long;
    front = λ h. refl;
  }

  pub more : (first machine next : M) (disk : K) (count place size : ℕ) (entries : List (List ℕ)) (entry : List ℕ) (n : ℕ) (e : Event) →
      Progress m k first machine disk count place size entries
      → 2 ≤ n → n ≤ longest_frame → place + 5 + n < size → length entry ≡ n → e ≡ event_of entry
      → ((s : m.Plain) → m.stands machine s → m.stands next (m.plain.step s e)) → m.opening next ≡ m.opening machine
      → (k.honest disk → drop place (k.reads disk) ≡ 1 ∷ (frame entry ++ drop (5 + n) (drop place (k.reads disk))))
      → Progress m k first next disk (count + 1) (place + (5 + n)) size (entries ++ entry ∷ [])
  more first machine next disk count place size entries entry n e p two fits enough is event step same there = record {
    each = all_more entries (entry ∷ []) p.each ((omega (arith, is, two), omega (arith, is, fits)), tt);
    stood = subst (m.stands next) (sym (ap (λ s. state_after m.plain s (map event_of (entries ++ entry ∷ []))) same
        ∙ (state_entry m.plain (m.opening machine) entries entry ∙ ap (m.plain.step (state_after m.plain (m.opening machine) (map event_of entries))) (sym event))))
        (step (state_after m.plain (m.opening machine) (map event_of entries)) p.stood);
    same = same ∙ p.same;
    counts = omega (arith, p.counts, length-append entries (entry ∷ []));
    few = omega (arith, p.few);
    at = omega (arith, p.at, length_one_more entries entry, is);
    within = omega (arith, enough);
    behind = inr (omega (arith, enough));
    most = p.most;
    long = p.long;
    front = λ h.
        let rest : List ℕ = drop (5 + n) (drop place (k.reads disk)) in
        let moved : rest ≡ drop (place + (5 + n)) (k.reads disk) = drop-drop (5 + n) place (k.reads disk) in
        p.front h ∙ (ap (λ z. marked entries ++ z) (there h) ∙ (sym (behind_entry rest) ∙ ap (λ z. marked (entries ++ entry ∷ []) ++ z) moved));
  }
    where
      behind_entry : (rest : List ℕ) → marked (entries ++ entry ∷ []) ++ rest ≡ marked entries ++ 1 ∷ (frame entry ++ rest)
      behind_entry rest =
          ap (λ z. z ++ rest) (marked-append entries (entry ∷ []))
          ∙ (append_assoc (marked entries) (1 ∷ (frame entry ++ [])) rest ∙ ap (λ z. marked entries ++ 1 ∷ z) (append_assoc (frame entry) [] rest))

  -- the same of the disk after it was read
  pub moved : (first machine : M) (old new : K) (count place size : ℕ) (entries : List (List ℕ)) →
      Progress m k first machine old count place size entries
      → (k.honest new → k.honest old) → (k.honest old → k.reads new ≡ k.reads old) → Progress m k first machine new count place size entries
  moved first machine old new count place size entries p back same = record {
    each = p.each;
    stood = p.stood;
    same = p.same;
    counts = p.counts;
    few = p.few;
    at = p.at;
    within = p.within;
    behind = p.behind;
    most = p.most;
    long = λ h. subst (λ z. size ≡ length z) (sym (same (back h))) (p.long (back h));
    front = λ h. subst (λ z. z ≡ marked entries ++ drop place z) (sym (same (back h))) (p.front (back h));
  }

  -- where none is next, all were answered
  pub ends : (first machine : M) (disk : K) (count place size : ℕ) (entries : List (List ℕ)) →
      Progress m k first machine disk count place size entries
      → (k.honest disk → (entry rest : List ℕ) → drop place (k.reads disk) ≡ 1 ∷ (frame entry ++ rest) → IsEntry entry → rest ≡ [])
      → Replayed m k machine disk (record { entries = count; place = place; size = size })
  ends first machine disk count place size entries p none = record {
    entries = entries;
    each = p.each;
    stood = p.stood;
    count = p.counts;
    place = p.at;
    within = p.within;
    begin = ⊎_elim (λ b. inl b.1) (λ less. inr less) p.behind;
    most = p.most;
    size = p.long;
    ends = λ h. (
      drop place (k.reads disk),
      record {
        whole = p.front h;
        each = p.each;
        behind =
            ⊎_elim (λ b. inl b.0) (λ less. inr (some h less)) p.behind;
        ends = none h;
      },
    );
  }
    where
      some : k.honest disk → place < size → 0 < length (drop place (k.reads disk))
      some h less = omega (arith, ap length (p.front h), length-append (marked entries) (drop place (k.reads disk)), p.at, p.long h, less)
