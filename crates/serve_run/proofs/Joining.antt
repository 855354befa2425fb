-- The pass of the links and that of the rounds, joined.
use Rattle.std.proofs.Common.{◌≡◌, ◌≤◌, ◌+◌, ◌-◌, ℕ, List, [], Option, Result, Ok, Err, OnErr, sym, ap, ◌∙◌, inl, inr, subst, refl, arith, append-nil}
use Rattle.tardis_base.specs.Plain.{Event, PlainMachine}
use Rattle.tardis_base.specs.declared.faults.NoMemory.{NoMemory}
use Rattle.tardis_io.specs.Links.{ToldGate, ToldDial}
use Rattle.tardis_io.specs.Faults.{Rose}
use Rattle.atomic_table.specs.Seated.{TableId}
use Rattle.trail_log.specs.Trail.{Kept}
use Rattle.dag_lock.specs.Known.{Known, Begins, merged}
use Rattle.dag_lock.specs.Steps.{IsLonger}
use Rattle.site_sync.specs.declared.ends.Rounds.{Rounds}
use Rattle.serve_pool.specs.declared.ends.Served.{Served as Pool}
use Rattle.serve_pool.specs.Laws.{LongerKeepsServed}
use Rattle.serve_run.specs.Beside.{Pooled, Synced}
use Rattle.serve_run.specs.Serving.{Workload, MakesRounds, ServesBoth, ServesLinks, ServeOutcome}
use Rattle.serve_run.specs.declared.endings.Serving.{Serving}
use Rattle.serve_run.specs.declared.endings.ServeEnd.{ServeEnd}
use Rattle.serve_run.specs.declared.endings.ServeEnd.TheVariants.{NotBound, NotMade, Served}

begins_same : (xs : List Event) → Begins xs xs
begins_same xs = ([], sym (append-nil xs))

-- each of two lists begins the longer
first_begins : (xs ys zs : List Event) → IsLonger xs ys zs → Begins xs zs
first_begins xs ys zs (inl h) = subst (λ t. Begins xs t) (sym h.1) h.0
first_begins xs ys zs (inr h) = subst (λ t. Begins xs t) (sym h.1) (begins_same xs)

second_begins : (xs ys zs : List Event) → IsLonger xs ys zs → Begins ys zs
second_begins xs ys zs (inl h) = subst (λ t. Begins ys t) (sym h.1) (begins_same ys)
second_begins xs ys zs (inr h) = subst (λ t. Begins ys t) (sym h.1) h.0

on_err : {A E : Type 0} (r : Result A E) (P Q : Type 0) → (P → Q) → OnErr r P → OnErr r Q
on_err (Ok a) P Q f h = tt
on_err (Err e) P Q f h = f h

-- the whole pass of a lock that was made for so many links, what is kept of it for them, and what is given to the rounds
abbrev pub whole_pass : TableId → ℕ → Known
whole_pass lock links = record { lock = lock; seen = []; owned = []; pieces = links + 2 }

abbrev pub links_pass : TableId → ℕ → Known
links_pass lock links = record { lock = lock; seen = []; owned = []; pieces = links + 2 - 1 }

abbrev pub rounds_pass : TableId → Known
rounds_pass lock = record { lock = lock; seen = []; owned = []; pieces = 1 }

module _ {M P L X D G : Type 0} (opening : M → P) (m : PlainMachine P) (left given : L → Option (List ℕ)) (take_faults faults : L → ℕ)
    (peer_left peer_given : X → Option (List ℕ)) (peer_take_faults peer_faults : X → ℕ) (dial_told : D → Option (ToldDial X)) (dial_faults : D → ℕ)
    (told : G → Option (ToldGate L)) (gate_faults : G → ℕ) where
  made_rounds : (machine : Kept M) (w : Workload) (lock : TableId) (links : ℕ) (trail : List Event) (done : Known) (d e : D) (made : Result Rounds NoMemory)
      → Synced opening m peer_left peer_given peer_take_faults peer_faults dial_told dial_faults machine w.rounds w.peers w.tidy
      (rounds_pass lock) done d e made
      → Begins done.seen trail
      → MakesRounds opening m peer_left peer_given peer_take_faults peer_faults dial_told dial_faults machine w trail done.owned d e made
  made_rounds machine w lock links trail done d e made s begins = record {
    pass = rounds_pass lock;
    back = done;
    fresh = (refl, refl);
    seen = begins;
    owned = refl;
    rounds = s.rounds_made;
    nothing = on_err made ((done ≡ rounds_pass lock) × (e ≡ d)) ((done.owned ≡ []) × (e ≡ d)) (λ h. (ap (λ (k : Known). k.owned) h.0, h.1)) s.nothing;
    later = s.later;
    cause = s.cause;
  }

  pub both : LongerKeepsServed left given take_faults faults m → (machine : Kept M) (w : Workload) (lock : TableId) (p a b c q done : Known) (old new : G)
      (d e : D) (s : Pool) (made : Result Rounds NoMemory)
      → p ≡ whole_pass lock w.links
      → a ≡ record { lock = p.lock; seen = p.seen; owned = p.owned; pieces = p.pieces - 1 }
      → b ≡ record { lock = p.lock; seen = p.seen; owned = []; pieces = 1 }
      → Pooled m left given take_faults faults told gate_faults (opening machine.machine) machine.max_trail w.links a c old new s
      → Synced opening m peer_left peer_given peer_take_faults peer_faults dial_told dial_faults machine w.rounds w.peers w.tidy b done d e made
      → q.lock ≡ c.lock → IsLonger c.seen done.seen q.seen → q.owned ≡ merged c.owned done.owned → q.pieces ≡ c.pieces + done.pieces
      → ServesBoth opening m left given take_faults faults peer_left peer_given peer_take_faults peer_faults dial_told dial_faults told gate_faults machine
      w p q old new d e s made
  both law machine w lock p a b c q done old new d e s made whole ea eb pooled synced locked longer owned pieces =
      let is_a : a ≡ links_pass lock w.links = ea ∙ ap (λ (k : Known). record { lock = k.lock; seen = k.seen; owned = k.owned; pieces = k.pieces - 1 }) whole in
      let is_b : b ≡ rounds_pass lock = eb ∙ ap (λ (k : Known). record { lock = k.lock; seen = k.seen; owned = []; pieces = 1 }) whole in
      let r = subst (λ k. Pooled m left given take_faults faults told gate_faults (opening machine.machine) machine.max_trail w.links k c old new s) is_a
      pooled in
      let t = subst (λ k. Synced opening m peer_left peer_given peer_take_faults peer_faults dial_told dial_faults machine w.rounds w.peers w.tidy k done d
      e made) is_b synced in
      subst (λ k. ServesBoth opening m left given take_faults faults peer_left peer_given peer_take_faults peer_faults dial_told dial_faults told
      gate_faults machine w k q old new d e s made) (sym whole) (record {
        keeps = (locked ∙ r.serves.keeps.0, omega (arith, pieces, r.serves.keeps.1, t.goes_on.keeps.1));
        taken = r.serves.links;
        asked = done.owned;
        each = law (opening machine.machine) machine.max_trail 0 c.seen q.seen 1 r.serves.links (first_begins c.seen done.seen q.seen longer) r.serves.each;
        rounds = made_rounds machine w lock w.links q.seen done d e made t (second_begins c.seen done.seen q.seen longer);
        owned = owned ∙ ap (λ l. merged l done.owned) r.serves.owned;
        told_links = r.serves.told;
        count = r.serves.count;
        unserved = r.serves.wanting;
        within = r.within;
        done = r.done;
        fault = λ f. (r.fault f).1;
        later = r.later;
      })

rose_from : (a b c : ℕ) → a ≤ b → Rose b c → Rose a c
rose_from a b c le (inl low) = inl (omega (arith, le, low))
rose_from a b c le (inr top) = inr top

served_in : Serving → ServeEnd → Serving
served_in s NotBound = s
served_in s NotMade = s
served_in s (Served t) = t

pub same_serving : (s t : Serving) → Served s ≡ Served t → s ≡ t
unfolding served_in
same_serving s t e = ap (served_in s) e

module _ {M P L X D : Type 0} (opening : M → P) (m : PlainMachine P) (left given : L → Option (List ℕ)) (take_faults faults : L → ℕ)
    (peer_left peer_given : X → Option (List ℕ)) (peer_take_faults peer_faults : X → ℕ) (dial_told : D → Option (ToldDial X)) (dial_faults : D → ℕ) where
  -- a gate that listens tells what it told, and may have counted faults
  from_bound : (start : P) (most : ℕ) (w : Workload) (old new : Option (ToldGate L)) (gate_before gate_mid gate_after : ℕ) (d e : D)
      (before after : Option (List ℕ)) (write_before write_after : ℕ) (s : Serving)
      → gate_before ≤ gate_mid
      → ServesLinks opening m left given take_faults faults peer_left peer_given peer_take_faults peer_faults dial_told dial_faults start most w old new
      gate_mid gate_after d e before after write_before write_after s
      → ServesLinks opening m left given take_faults faults peer_left peer_given peer_take_faults peer_faults dial_told dial_faults start most w old new
      gate_before gate_after d e before after write_before write_after s
  from_bound start most w old new gate_before gate_mid gate_after d e before after write_before write_after s le x = record {
    machine = x.machine;
    opens = x.opens;
    trail = x.trail;
    taken = x.taken;
    asked = x.asked;
    each = x.each;
    rounds = x.rounds;
    whole = x.whole;
    told = x.told;
    within = x.within;
    unserved = x.unserved;
    done = x.done;
    fault = λ f. rose_from gate_before gate_mid gate_after le (x.fault f);
    wrote = x.wrote;
    again = x.again;
    cause = x.cause;
  }

  module _ {G O : Type 0} (told : G → Option (ToldGate L)) (gate_faults : G → ℕ) (out_given : O → Option (List ℕ)) (out_faults : O → ℕ) where
    -- a server that listens and has a lock
    pub serves : (start : P) (most : ℕ) (made : Kept M) (machine : M) (w : Workload) (old mid new : G) (d e : D) (before after : O) (s : Serving)
        → made ≡ record { machine = machine; trail = []; max_trail = most } → start ≡ opening machine
        → told mid ≡ told old → gate_faults old ≤ gate_faults mid → gate_faults mid ≤ gate_faults new → dial_faults d ≤ dial_faults e
        → ServesLinks opening m left given take_faults faults peer_left peer_given peer_take_faults peer_faults dial_told dial_faults
        (opening made.machine) made.max_trail w
        (told mid) (told new) (gate_faults mid) (gate_faults new) d e (out_given before) (out_given after) (out_faults before) (out_faults after) s
        → ServeOutcome opening m left given take_faults faults peer_left peer_given peer_take_faults peer_faults dial_told dial_faults start most told
        gate_faults out_given out_faults w old new d e before after (Served s)
    serves start most made machine w old mid new d e before after s is opens same le gates dials x =
        let over = subst (λ (k : Kept M). ServesLinks opening m left given take_faults faults peer_left peer_given peer_take_faults peer_faults dial_told
        dial_faults (opening k.machine) k.max_trail w
        (told mid) (told new) (gate_faults mid) (gate_faults new) d e (out_given before) (out_given after) (out_faults before) (out_faults after) s) is x in
        let from = subst (λ k. ServesLinks opening m left given take_faults faults peer_left peer_given peer_take_faults peer_faults dial_told dial_faults
        k most w
        (told mid) (told new) (gate_faults mid) (gate_faults new) d e (out_given before) (out_given after) (out_faults before) (out_faults after) s)
        (sym opens) over in
        let had = subst (λ k. ServesLinks opening m left given take_faults faults peer_left peer_given peer_take_faults peer_faults dial_told dial_faults
        start most w
        k (told new) (gate_faults mid) (gate_faults new) d e (out_given before) (out_given after) (out_faults before) (out_faults after) s) same from in
        let all = from_bound start most w (told old) (told new) (gate_faults old) (gate_faults mid) (gate_faults new) d e (out_given before)
        (out_given after) (out_faults before) (out_faults after) s le had in
        record {
          served = λ t f. subst (λ k. ServesLinks opening m left given take_faults faults peer_left peer_given peer_take_faults peer_faults dial_told
              dial_faults start most w
              (told old) (told new) (gate_faults old) (gate_faults new) d e (out_given before) (out_given after) (out_faults before) (out_faults after) k)
              (same_serving s t f) all;
          not_bound = λ f. absurd (cc);
          not_made = λ f. absurd (cc);
          gate_later = omega (arith, le, gates);
          dial_later = dials;
          write_later = x.cause.later;
        }
