-- Exchanges over a link, and with a peer.
use Rattle.std.proofs.Common.{◌≡◌, ◌≢◌, ◌≤◌, ℕ, ◌⊎◌, inl, inr, List, [], length, Option, Some, Result, Ok, Err, refl, ap, sym, ◌∙◌, subst, arith, ◌++◌, ◌∷◌}
use Rattle.tardis_base.specs.declared.records.Batch.{Batch}
use Rattle.tardis_base.specs.declared.replies.SiteLine.{SiteLine}
use Rattle.tardis_base.specs.Plain.{Event, PlainMachine, reply_at, state_after}
use Rattle.std.specs.List.{AllByRecursion}
use Rattle.trail_log.specs.Frames.{IsEntry}
use Rattle.tardis_io.specs.Told.{WhileTold}
use Rattle.tardis_io.specs.Faults.{Rose}
use Rattle.tardis_io.specs.Links.{ToldDial, HandsCalled, with_hung}
use Rattle.tardis_io.specs.declared.faults.Failed.{Failed}
use Rattle.trail_log.specs.Trail.{Kept}
use Rattle.trail_log.specs.declared.acted.Acted.{Acted}
use Rattle.trail_log.specs.declared.acted.Acted.TheVariants.{Done, TrailFull as TrailIsFull, NoMemory as OutOfMemory}
use Rattle.dag_lock.specs.Known.{Known}
use Rattle.site_sync.specs.Asking.{stat, items, AreStatistics, TellsCounts, pull_frame}
use Rattle.site_sync.specs.Steps.{GoesOn, StepsOnce}
use Rattle.site_sync.specs.Fetching.{Gave, Fetched}
use Rattle.site_sync.specs.Delivering.{Delivers}
use Rattle.site_sync.specs.Exchanges.{IsEndOf, BatchIsTaken, CallsBack, Uses, Unasked, Asked, Exchange, Syncs}
use Rattle.site_sync.specs.declared.ends.SyncEnd.{SyncEnd}
use Rattle.site_sync.specs.declared.ends.SyncEnd.TheVariants.{DialFault, ReadFault, WriteFault, TrailFull, NoMemory}
use Rattle.tardis_io.proofs.Told.{weaker, same as same_told}
use Rattle.site_sync.proofs.Exact.{stops_well, uses_well}
use Rattle.site_sync.proofs.Items.{same_some}
use Rattle.site_sync.proofs.Going.{goes_nowhere, unanswered, reply_behind}
use Rattle.site_sync.proofs.Calls.{rose_on, calls_back}

all_front : (xs ys : List Event) → AllByRecursion IsEntry (xs ++ ys) → AllByRecursion IsEntry xs
all_front [] ys all = tt
all_front (x ∷ xs) ys all = (all.0, all_front xs ys all.1)

module _ {M P : Type 0} (opening : M → P) (m : PlainMachine P) (z : Kept M) where
  -- the machine told its counts
  pub told_counts : (p q : Known) (out : List ℕ) → TellsCounts m (opening z.machine) → StepsOnce opening m z p stat out q Done →
      AllByRecursion IsEntry q.seen → (lines : List SiteLine) × AreStatistics out lines
  told_counts p q out tells s each =
      let before = s.ended.0 in
      let told = tells before (all_front before (stat ∷ []) (subst (λ l. AllByRecursion IsEntry l) s.ended.2 each)) in
      let at : reply_at m (opening z.machine) q.seen (length before) ≡ Some (m.reply (state_after m (opening z.machine) before) stat) =
      ap (λ l. reply_at m (opening z.machine) l (length before)) s.ended.2 ∙ reply_behind m (opening z.machine) before stat [] in
      let same : m.reply (state_after m (opening z.machine) before) stat ≡ out = same_some (m.reply (state_after m (opening z.machine) before) stat) out
      (reply_at m (opening z.machine) q.seen (length before)) at s.ended.4 in
      (told.0, subst (λ y. AreStatistics y told.0) same told.1)

  read_answer : (answer : Result Batch SyncEnd) (p q : Known) (end : SyncEnd) → Uses opening m z answer p q end → end ≡ ReadFault → answer ≡ Err ReadFault
  read_answer (Ok batch) p q end u e = absurd (subst (λ x. Delivers opening m z (items batch) p q x) e u)
  read_answer (Err why) p q end u e = ap Err (sym u.1 ∙ e)

  write_answer : (answer : Result Batch SyncEnd) (p q : Known) (end : SyncEnd) → Uses opening m z answer p q end → end ≡ WriteFault → answer ≡ Err WriteFault
  write_answer (Ok batch) p q end u e = absurd (subst (λ x. Delivers opening m z (items batch) p q x) e u)
  write_answer (Err why) p q end u e = ap Err (sym u.1 ∙ e)

  dial_answer : (answer : Result Batch SyncEnd) (p q : Known) (end : SyncEnd) → Uses opening m z answer p q end → end ≡ DialFault → answer ≡ Err DialFault
  dial_answer (Ok batch) p q end u e = absurd (subst (λ x. Delivers opening m z (items batch) p q x) e u)
  dial_answer (Err why) p q end u e = ap Err (sym u.1 ∙ e)

  end_no_fault : (acted : Acted) (end : SyncEnd) → IsEndOf acted end → (end ≡ ReadFault → ⊥) × (end ≡ WriteFault → ⊥) × (end ≡ DialFault → ⊥)
  end_no_fault Done end e = absurd e
  end_no_fault (TrailIsFull bytes) end e = (λ f. no_read (sym e ∙ f), λ f. no_write (sym e ∙ f), λ f. no_dial (sym e ∙ f))
    where
      no_dial : TrailFull bytes ≡ DialFault → ⊥
      no_dial f = absurd (cc)

      no_read : TrailFull bytes ≡ ReadFault → ⊥
      no_read f = absurd (cc)

      no_write : TrailFull bytes ≡ WriteFault → ⊥
      no_write f = absurd (cc)
  end_no_fault OutOfMemory end e = (λ f. no_read (sym e ∙ f), λ f. no_write (sym e ∙ f), λ f. no_dial (sym e ∙ f))
    where
      no_dial : NoMemory ≡ DialFault → ⊥
      no_dial f = absurd (cc)

      no_read : NoMemory ≡ ReadFault → ⊥
      no_read f = absurd (cc)

      no_write : NoMemory ≡ WriteFault → ⊥
      no_write f = absurd (cc)

  module _ {L : Type 0} (left given : L → Option (List ℕ)) (take_faults faults : L → ℕ) where
    -- Stat wasn't answered
    pub exchange_unasked : (p q : Known) (link : L) (end : SyncEnd) (acted : Acted) (out : List ℕ) → acted ≢ Done → IsEndOf acted end →
        StepsOnce opening m z p stat out q acted
        → Exchange opening m z left given take_faults faults p q link link end
    exchange_unasked p q link end acted out other e s =
        let none = end_no_fault acted end e in
        record {
          way = inl (record { acted = acted; stopped = unanswered opening m z p q stat out acted other s; end_is = e; left_is = refl; given_is = refl });
          read_later = omega arith;
          write_later = omega arith;
          read_fault = λ f. absurd (none.0 f);
          write_fault = λ f. absurd (none.1 f);
          no_dial_fault = none.2;
          exact = same_told (left link) (BatchIsTaken (Rose (take_faults link) (take_faults link)) (Rose (faults link) (faults link)) end)
              (λ x. λ body rest batch is first spelled no_read no_write. stops_well acted end e);
        }

    pub exchange_asked : (p mid q : Known) (handed back : L) (end : SyncEnd) (statistics : List ℕ) (lines : List SiteLine) (answer : Result Batch SyncEnd)
        → AreStatistics statistics lines → StepsOnce opening m z p stat statistics mid Done
        → WhileTold (given handed) (given back) (λ before after. Gave answer before after (pull_frame lines)) →
        WhileTold (left handed) (left back) (Fetched answer)
        → Uses opening m z answer mid q end → take_faults handed ≤ take_faults back → faults handed ≤ faults back
        → (answer ≡ Err ReadFault → Rose (take_faults handed) (take_faults back)) → (answer ≡ Err WriteFault → Rose (faults handed) (faults back))
        → (answer ≡ Err DialFault → ⊥)
        → Exchange opening m z left given take_faults faults p q handed back end
    exchange_asked p mid q handed back end statistics lines answer are told gave read used later later' broke broke' none = record {
      way = inr (record {
        statistics = statistics;
        lines = lines;
        are_statistics = are;
        mid = mid;
        told = told;
        answer = answer;
        gave = gave;
        read =
            read;
        used = used;
      });
      read_later = later;
      write_later = later';
      read_fault = λ f. broke (read_answer answer mid q end used f);
      write_fault = λ f. broke' (write_answer answer mid q end used f);
      no_dial_fault = λ f. none (dial_answer answer mid q end used f);
      exact = weaker (left handed) (left back) (Fetched answer)
          (BatchIsTaken (Rose (take_faults handed) (take_faults back)) (Rose (faults handed) (faults back)) end) read
          (λ x y f. λ body rest batch is first spelled no_read no_write.
          uses_well body rest batch is spelled opening m z answer mid q end x y first (λ w. no_read (broke (read_answer answer mid q end used w)))
          (λ w. no_write (broke' (write_answer answer mid q end used w))) f used);
    }

    finished_way : (p q : Known) (handed link back : L) (end : SyncEnd) → left back ≡ left link → given back ≡ given link
        → Unasked opening m z left given take_faults faults p q handed link end ⊎ Asked opening m z left given take_faults faults p q handed link end
        → Unasked opening m z left given take_faults faults p q handed back end ⊎ Asked opening m z left given take_faults faults p q handed back end
    finished_way p q handed link back end l g (inl u) = inl (record {
      acted = u.acted;
      stopped = u.stopped;
      end_is = u.end_is;
      left_is = l
          ∙ u.left_is;
      given_is = g ∙ u.given_is;
    })
    finished_way p q handed link back end l g (inr a) = inr (record {
      statistics = a.statistics;
      lines = a.lines;
      are_statistics = a.are_statistics;
      mid = a.mid;
      told = a.told;
      answer = a.answer;
      gave = subst (λ o. WhileTold (given handed) o (λ before after. Gave a.answer before after (pull_frame a.lines))) (sym g) a.gave;
      read = subst (λ o. WhileTold (left handed) o (Fetched a.answer)) (sym l) a.read;
      used = a.used;
    })

    -- the link was finished
    pub exchange_finished : (p q : Known) (handed link back : L) (end : SyncEnd) → left back ≡ left link → given back ≡ given link → take_faults back
        ≡ take_faults link → faults link ≤ faults back
        → Exchange opening m z left given take_faults faults p q handed link end → Exchange opening m z left given take_faults faults p q handed back end
    exchange_finished p q handed link back end l g t f x = record {
      way = finished_way p q handed link back end l g x.way;
      read_later = omega (arith, x.read_later, t);
      write_later = omega (arith, x.write_later, f);
      read_fault = λ e. subst (λ n. Rose (take_faults handed) n) (sym t) (x.read_fault e);
      write_fault = λ e. rose_on (faults handed) (faults link) (faults back) (x.write_fault e) x.write_later f;
      no_dial_fault = x.no_dial_fault;
      exact = subst (λ o. WhileTold (left handed) o (BatchIsTaken (Rose (take_faults handed) (take_faults back)) (Rose (faults handed) (faults back)) end))
          (sym l)
          (weaker (left handed) (left link) (BatchIsTaken (Rose (take_faults handed) (take_faults link)) (Rose (faults handed) (faults link)) end)
          (BatchIsTaken (Rose (take_faults handed) (take_faults back)) (Rose (faults handed) (faults back)) end) x.exact
          (λ a b h. λ body rest batch is first spelled no_read no_write. h body rest batch is first spelled
          (λ r. no_read (subst (λ n. Rose (take_faults handed) n) (sym t) r))
          (λ r. no_write (rose_on (faults handed) (faults link) (faults back) r x.write_later f))));
    }

    module _ {D : Type 0} (told : D → Option (ToldDial L)) (dial_faults : D → ℕ) where
      -- there was no memory for the buffers
      pub syncs_none : (address : List ℕ) (p : Known) (d : D) → Syncs opening m z left given take_faults faults told dial_faults address p p d d NoMemory
      syncs_none address p d = record {
        goes_on = goes_nowhere p;
        link = inl (record { pass = refl; dial = inr (refl, refl) });
        later = omega arith;
        cause =
            λ f. absurd (cc);
      }

      pub syncs_fault : (address : List ℕ) (p : Known) (d e : D) (failed : Failed) → HandsCalled (told d) (told e) address (Err failed) →
          Rose (dial_faults d) (dial_faults e) → dial_faults d ≤ dial_faults e
          → Syncs opening m z left given take_faults faults told dial_faults address p p d e DialFault
      syncs_fault address p d e failed h rose later = record {
        goes_on = goes_nowhere p;
        link = inl (record { pass = refl; dial = inl (refl, (rose, (failed, h))) });
        later = later;
        cause = λ f. rose;
      }

      pub syncs_link : (address : List ℕ) (p q : Known) (d c e : D) (handed link back : L) (end : SyncEnd) → GoesOn p q →
          Exchange opening m z left given take_faults faults p q handed link end
          → left back ≡ left link → given back ≡ given link → take_faults back ≡ take_faults link → faults link ≤ faults back
          → HandsCalled (told d) (told c) address (Ok handed) → told e ≡ with_hung (told c) back → dial_faults d ≤ dial_faults c → dial_faults e ≡ dial_faults c
          → Syncs opening m z left given take_faults faults told dial_faults address p q d e end
      syncs_link address p q d c e handed link back end goes x l g t f h hung later same = record {
        goes_on = goes;
        link = inr (record {
          handed = handed;
          back = back;
          exchange = exchange_finished p q handed link back end l g t f x;
          dial = subst (λ o. CallsBack address handed back (told d) o) (sym hung) (calls_back address handed back (told d) (told c) h);
        });
        later = omega (arith, later, same);
        cause = λ f. absurd (x.no_dial_fault f);
      }
