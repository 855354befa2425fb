-- What a server does from its address to its trail.
use Rattle.std.specs.Prelude.{◌≡◌, ℕ, ◌<◌, ◌≤◌, ◌⊎◌, Bool, List, [], length, map, Option, Result, IfOk, OnErr}
use Rattle.std.specs.String.{string_bytes}
use Rattle.std.specs.List.{range_with_len}
use Rattle.tardis_base.specs.Plain.{Event, PlainMachine}
use Rattle.tardis_base.specs.declared.faults.NoMemory.{NoMemory}
use Rattle.tardis_io.specs.Told.{WhileTold, GivesAll}
use Rattle.tardis_io.specs.Faults.{Rose, HasCause}
use Rattle.tardis_io.specs.Links.{ToldGate, ToldDial}
use Rattle.trail_log.specs.Trail.{Kept}
use Rattle.trail_log.specs.Frames.{trail_frames, IsRead}
use Rattle.dag_lock.specs.Known.{Known, Begins, merged}
use Rattle.dag_lock.specs.Steps.{Keeps}
use Rattle.site_sync.specs.declared.ends.Rounds.{Rounds}
use Rattle.site_sync.specs.Rounds.{AreRounds}
use Rattle.serve_pool.specs.Rows.{Taken, places_with, unserved_in, HandsBack, HasNone}
use Rattle.serve_pool.specs.Pools.{AreServed}
use Rattle.serve_pool.specs.declared.ends.Served.{Served as Pooled}
use Rattle.serve_pool.specs.declared.ends.PoolEnd.TheVariants.{Done, GateFault}
use Rattle.serve_run.specs.declared.options.ServeOptions.{ServeOptions}
use Rattle.serve_run.specs.declared.endings.Serving.{Serving}
use Rattle.serve_run.specs.declared.endings.ServeEnd.{ServeEnd}
use Rattle.serve_run.specs.declared.endings.ServeEnd.TheVariants.{NotBound, NotMade, Served}

-- What a server is to do: so many links are taken at most, and so many rounds are made, each with the peers at these
-- addresses, in order, and with a collection or without.
pub record Workload : Type 0 where
  pub links : ℕ
  pub peers : List (List ℕ)
  pub rounds : ℕ
  pub tidy : Bool

abbrev pub workload : ServeOptions → Workload
workload o = record { links = o.links; peers = map (λ p. string_bytes p) o.peers.now; rounds = o.rounds; tidy = o.tidy }

module _ {M P X D : Type 0} (opening : M → P) (m : PlainMachine P) (left given : X → Option (List ℕ)) (take_faults faults : X → ℕ)
    (told : D → Option (ToldDial X)) (dial_faults : D → ℕ) where
  -- What the rounds did over the lock of this machine, where this trail was kept at the end: they began with a pass that had
  -- seen and owned nothing, and each of their entries stands at one of these places. With no memory for their buffers
  -- nothing was asked and no peer was called. The dial failed where they tell so.
  pub record MakesRounds (machine : Kept M) (w : Workload) (trail : List Event) (places : List ℕ) (d e : D) (made : Result Rounds NoMemory) : Type 0 where
    pub pass : Known
    pub back : Known
    pub fresh : (pass.seen ≡ []) × (pass.owned ≡ [])
    pub seen : Begins back.seen trail
    pub owned : back.owned ≡ places
    pub rounds : IfOk made (λ n. AreRounds opening m machine left given take_faults faults told dial_faults w.rounds w.peers w.tidy pass d n back e)
    pub nothing : OnErr made ((places ≡ []) × (e ≡ d))
    pub later : dial_faults d ≤ dial_faults e
    pub cause : IfOk made (λ n. 0 < n.dial → Rose (dial_faults d) (dial_faults e))

module _ {M P L X D : Type 0} (opening : M → P) (m : PlainMachine P) (left given : L → Option (List ℕ)) (take_faults faults : L → ℕ)
    (peer_left peer_given : X → Option (List ℕ)) (peer_take_faults peer_faults : X → ℕ) (dial_told : D → Option (ToldDial X)) (dial_faults : D → ℕ) where
  module _ {G : Type 0} (told : G → Option (ToldGate L)) (gate_faults : G → ℕ) where
    -- Links were served, and rounds made beside them, over the lock of this machine. The pass owns the places of both, and no
    -- others.
    pub record ServesBoth (machine : Kept M) (w : Workload) (p q : Known) (old new : G) (d e : D) (s : Pooled) (made : Result Rounds NoMemory) : Type 0 where
      pub keeps : Keeps p q
      pub taken : List (Taken L)
      pub asked : List ℕ
      pub each : AreServed left given take_faults faults m (opening machine.machine) machine.max_trail 0 q.seen 1 taken
      pub rounds : MakesRounds opening m peer_left peer_given peer_take_faults peer_faults dial_told dial_faults machine w q.seen asked d e made
      pub owned : q.owned ≡ merged (places_with [] taken) asked
      pub told_links : HandsBack 1 taken (told old) (told new)
      pub count : s.taken ≡ length taken
      pub unserved : s.unserved ≡ unserved_in taken
      pub within : s.taken ≤ w.links
      pub done : s.end ≡ Done → (s.taken ≡ w.links) ⊎ HasNone (told new)
      pub fault : s.end ≡ GateFault → Rose (gate_faults old) (gate_faults new)
      pub later : gate_faults old ≤ gate_faults new

  module _ (start : P) (most : ℕ) where
    -- A lock was made over a machine that opens so. These links, at most so many, were taken; each was served once, the first
    -- by session 1, the next by session 2 and so on, and was put back. Beside this the rounds were made. The trail is all that
    -- the sessions and the rounds asked and were answered, and nothing else. At the end its frames were written, all of them,
    -- or a front of them where writing failed; whoever reads them frame by frame, as a run does, reads just the trail.
    pub record ServesLinks (w : Workload) (old new : Option (ToldGate L)) (gate_before gate_after : ℕ) (d e : D) (before after : Option (List ℕ))
        (write_before write_after : ℕ) (s : Serving) : Type 0 where
      pub machine : Kept M
      pub opens : (opening machine.machine ≡ start) × (machine.max_trail ≡ most)
      pub trail : List Event
      pub taken : List (Taken L)
      pub asked : List ℕ
      pub each : AreServed left given take_faults faults m start most 0 trail 1 taken
      pub rounds : MakesRounds opening m peer_left peer_given peer_take_faults peer_faults dial_told dial_faults machine w trail asked d e s.rounds
      pub whole : merged (places_with [] taken) asked ≡ range_with_len 0 (length trail)
      pub told : HandsBack 1 taken old new
      pub within : length taken ≤ w.links
      pub unserved : s.unserved ≡ unserved_in taken
      pub done : s.gate ≡ Done → (length taken ≡ w.links) ⊎ HasNone new
      pub fault : s.gate ≡ GateFault → Rose gate_before gate_after
      pub wrote : WhileTold before after (λ y z. GivesAll y z s.written (trail_frames trail))
      pub again : IsRead (trail_frames trail) trail
      pub cause : HasCause write_before write_after s.written

    module _ {G O : Type 0} (told : G → Option (ToldGate L)) (gate_faults : G → ℕ) (out_given : O → Option (List ℕ)) (out_faults : O → ℕ) where
      -- How a server ended. Where it couldn't listen the gate failed, and where it had no lock there was no memory; in both
      -- cases nobody was served or called, and nothing was written.
      pub record ServeOutcome (w : Workload) (old new : G) (d e : D) (before after : O) (end : ServeEnd) : Type 0 where
        pub served : (s : Serving) → end ≡ Served s
            → ServesLinks w (told old) (told new) (gate_faults old) (gate_faults new) d e (out_given before) (out_given after) (out_faults before)
            (out_faults after) s
        pub not_bound : end ≡ NotBound → Rose (gate_faults old) (gate_faults new) × (told new ≡ told old) × (e ≡ d) × (after ≡ before)
        pub not_made : end ≡ NotMade → (told new ≡ told old) × (e ≡ d) × (after ≡ before)
        pub gate_later : gate_faults old ≤ gate_faults new
        pub dial_later : dial_faults d ≤ dial_faults e
        pub write_later : out_faults before ≤ out_faults after
