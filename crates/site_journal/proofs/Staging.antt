-- Entries that are staged, and that are committed.
use Rattle.std.proofs.Common.{◌≡◌, inl, inr, ⊎_elim, ℕ, ◌+◌, ◌<◌, ◌≤◌, List, [], ◌∷◌, ◌++◌, length, map, refl, sym, ap, ◌∙◌, subst, arith}
use Rattle.std.proofs.Common.{append-nil, append_assoc, length-append}
use Rattle.std.specs.Int.{w16, to_be_bytes}
use Rattle.std.proofs.lemmas.Nat.{from_be_bytes-to_be_bytes_2}
use Rattle.tardis_base.specs.Plain.{Event, state_after}
use Rattle.frame_cut.specs.Frames.{frame}
use Rattle.frame_cut.specs.Events.{event_of}
use Rattle.frame_cut.proofs.Words.{length-frame}
use Rattle.disk_store.specs.Disks.{LeavesOnly}
use Rattle.site_journal.specs.declared.journals.Journaled.{Journaled}
use Rattle.site_journal.specs.Texts.{entry_of, marked, EndsAt, HasAllOrNone}
use Rattle.site_journal.specs.Moments.{IsAtRest, IsBehind}
use Rattle.site_journal.specs.Opened.{IsOpen}
use Rattle.site_journal.proofs.Texts.{marked-append, all_more, length_one_more, text_is_read}
use Rattle.site_journal.proofs.Times.{started}
use Rattle.site_journal.proofs.Replaying.{state_entry}
use Rattle.disk_store.specs.declared.disks.Disk.{Ghosts as ADisk}
use Rattle.tardis_base.specs.Sizes.{longest_request}
use Rattle.site_journal.specs.Sizes.{most_staged, longest_entry}
use Rattle.tardis_base.specs.declared.machines.Machine.{Ghosts as AMachine}

event_actor : (n : ℕ) → n < 65536 → (event_of (to_be_bytes w16 n)).0 ≡ n
event_actor n small = grind (arith, from_be_bytes-to_be_bytes_2 n small)

-- the event of an event's entry is that event
pub event_back : (e : Event) → e.0 < 65536 → event_of (entry_of e) ≡ e
event_back e small = λ i. (event_actor e.0 small i, e.1)

pub length_entry : (e : Event) → length (entry_of e) ≡ length e.1 + 2
length_entry e = omega (arith, length-append (to_be_bytes w16 e.0) e.1)

-- nothing is staged where no bytes are
pub none_staged : (staged : List (List ℕ)) → length (marked staged) ≡ 0 → staged ≡ []
none_staged [] is = refl
none_staged (entry ∷ staged) is = absurd (omega (arith, is))

pub some_staged : (staged : List (List ℕ)) → 0 < length (marked staged) → 0 < length staged
some_staged [] some = absurd (omega arith)
some_staged (entry ∷ staged) some = omega arith

pub length_all : (entries staged : List (List ℕ)) (place : ℕ) (text : List ℕ) → place ≡ length (marked entries) → text ≡ marked staged →
    place + length text ≡ length (marked (entries ++ staged))
length_all entries staged place text at is = omega (
  arith,
  at,
  ap length is,
  ap length (marked-append entries staged),
  length-append (marked entries) (marked staged),
)

module _ {M K : Type 0} (m : AMachine M) (k : ADisk K) where
  -- one more is staged
  pub staged_more : (old new : Journaled M K) (entries staged : List (List ℕ)) (e : Event) →
      IsOpen m k old entries staged → e.0 < 65536 → length e.1 ≤ longest_request
      → ((s : m.Plain) → m.stands old.machine s → m.stands new.machine (m.plain.step s e)) → m.opening new.machine ≡ m.opening old.machine
      → new.disk ≡ old.disk → new.place ≡ old.place → new.max_trail ≡ old.max_trail → new.staged ≡ old.staged ++ 1 ∷ frame (entry_of e)
      → old.place + length old.staged + (length e.1 + 7) ≤ old.max_trail → length old.staged + longest_entry ≤ most_staged →
      IsOpen m k new entries (staged ++ entry_of e ∷ [])
  staged_more old new entries staged e o small fits step same disk place limit text room free =
      let entry = entry_of e in
      let long = length_entry e in
      let all : (entries ++ staged) ++ entry ∷ [] ≡ entries ++ (staged ++ entry ∷ []) = append_assoc entries staged (entry ∷ []) in
      let from : m.stands new.machine (m.plain.step (state_after m.plain (m.opening old.machine) (map event_of (entries ++ staged))) e) =
      step (state_after m.plain (m.opening old.machine) (map event_of (entries ++ staged))) o.stood in
      let is : state_after m.plain (m.opening new.machine) (map event_of (entries ++ (staged ++ entry ∷ [])))
      ≡ m.plain.step (state_after m.plain (m.opening old.machine) (map event_of (entries ++ staged))) e =
      ap (λ s. state_after m.plain s (map event_of (entries ++ (staged ++ entry ∷ [])))) same
      ∙ (ap (λ es. state_after m.plain (m.opening old.machine) (map event_of es)) (sym all)
      ∙ (state_entry m.plain (m.opening old.machine) (entries ++ staged) entry
      ∙ ap (m.plain.step (state_after m.plain (m.opening old.machine) (map event_of (entries ++ staged)))) (event_back e small))) in
      record {
        stood = subst (m.stands new.machine) (sym is) from;
        each = o.each;
        each_staged = all_more staged (entry ∷ []) o.each_staged ((omega (arith, long), omega (arith, long, fits)), tt);
        text = text ∙ (ap (λ z. z ++ 1 ∷ frame entry) o.text
            ∙ (ap (λ z. marked staged ++ 1 ∷ z) (sym (append-nil (frame entry))) ∙ sym (marked-append staged (entry ∷ []))));
        at = place ∙ o.at;
        limit = inr (omega (arith, place, limit, room, length_one_more staged entry, long, ap length o.text));
        within = omega (arith, place, o.within);
        room = omega (arith, ap length text, length-append old.staged (1 ∷ frame (entry_of e)), length-frame (entry_of e), long, fits, free);
        most = omega (arith, limit, o.most);
        rest = subst (λ d. k.honest d → IsAtRest k d entries) (sym disk) o.rest;
      }

  -- all that were staged are committed
  pub committed : (old new : Journaled M K) (entries staged : List (List ℕ)) → IsOpen m k old entries staged →
      new.machine ≡ old.machine
      → new.staged ≡ [] → new.place ≡ old.place + length old.staged → new.max_trail ≡ old.max_trail →
      (k.honest new.disk → IsAtRest k new.disk (entries ++ staged))
      → IsOpen m k new (entries ++ staged) []
  committed old new entries staged o machine text place limit rest =
      let all = length_all entries staged old.place old.staged o.at o.text in record {
        stood = subst (λ es. m.stands new.machine (state_after m.plain (m.opening new.machine) (map event_of es))) (sym (append-nil (entries ++ staged)))
            (subst (λ x. m.stands x (state_after m.plain (m.opening x) (map event_of (entries ++ staged)))) (sym machine) o.stood);
        each = all_more entries staged o.each o.each_staged;
        each_staged = tt;
        text = text;
        at = place ∙ all;
        limit = inl refl;
        within = ⊎_elim (λ none. omega (arith, place, o.within, ap length o.text, ap (λ z. length (marked z)) none))
            (λ few. omega (arith, place, few, o.most, ap length o.text)) o.limit;
        room = omega (arith, ap length text);
        most = omega (arith, limit, o.most);
        rest = rest;
      }

  -- with nothing staged nothing is to be done
  pub committed_none : (j : Journaled M K) (entries staged : List (List ℕ)) → IsOpen m k j entries staged →
      length j.staged ≡ 0 → IsOpen m k j (entries ++ staged) []
  committed_none j entries staged o none =
      let empty = none_staged staged (ap length (sym o.text) ∙ none) in
      let all : entries ++ staged ≡ entries = ap (λ z. entries ++ z) empty ∙ append-nil entries in
      committed j j entries staged o refl (o.text ∙ ap marked empty) (omega (arith, none)) refl
      (λ h. subst (IsAtRest k j.disk) (sym all) (o.rest h))

  pub rests : (j : Journaled M K) (entries staged more : List (List ℕ)) →
      IsOpen m k j entries staged → k.honest j.disk
      → ((image : List ℕ) → k.left_since j.disk (k.moment j.disk) image → k.may_leave j.disk image) →
      LeavesOnly k.moment k.left_since j.disk j.disk (HasAllOrNone entries more)
  rests j entries staged more o h only =
      let rest = o.rest h in
      started k j.disk (HasAllOrNone entries more) only
      (λ image left. inl (0 ∷ [], subst (λ z. EndsAt z entries (0 ∷ [])) (sym (rest.durable image left ∙ rest.text)) (text_is_read entries o.each)))

  pub is_behind : (j : Journaled M K) (entries staged : List (List ℕ)) → IsOpen m k j entries staged →
      k.honest j.disk → IsBehind k j.disk j.place entries
  is_behind j entries staged o h = record { rest = o.rest h; each = o.each; at = o.at }

  -- a machine that is as before
  pub staged_same : (old new : Journaled M K) (entries staged : List (List ℕ)) → IsOpen m k old entries staged →
      ((s : m.Plain) → m.stands old.machine s → m.stands new.machine s) → m.opening new.machine ≡ m.opening old.machine
      → new.disk ≡ old.disk → new.place ≡ old.place → new.max_trail ≡ old.max_trail → new.staged ≡ old.staged →
      IsOpen m k new entries staged
  staged_same old new entries staged o same opens disk place limit text = record {
    stood = subst (λ s. m.stands new.machine (state_after m.plain s (map event_of (entries ++ staged)))) (sym opens)
        (same (state_after m.plain (m.opening old.machine) (map event_of (entries ++ staged))) o.stood);
    each = o.each;
    each_staged = o.each_staged;
    text = text ∙ o.text;
    at = place ∙ o.at;
    limit = ⊎_elim (λ none. inl none) (λ few. inr (omega (arith, place, limit, few))) o.limit;
    within = omega (arith, place, o.within);
    room = omega (arith, ap length text, o.room);
    most = omega (arith, limit, o.most);
    rest = subst (λ d. k.honest d → IsAtRest k d entries) (sym disk) o.rest;
  }
