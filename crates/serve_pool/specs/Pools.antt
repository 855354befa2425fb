-- What serving does.
use Rattle.std.specs.Prelude.{◌≡◌, ℕ, ◌+◌, ◌<◌, ◌≤◌, ◌⊎◌, List, [], ◌∷◌, length, Option}
use Rattle.std.specs.List.{AllByRecursion}
use Rattle.tardis_base.specs.Plain.{Event, PlainMachine}
use Rattle.tardis_io.specs.Told.{WhileTold}
use Rattle.tardis_io.specs.Faults.{Rose}
use Rattle.tardis_io.specs.Links.{ToldGate}
use Rattle.frame_cut.specs.Frames.{IsCut}
use Rattle.site_run.specs.Endings.{EndsAs, IsRunEnd, most_taken}
use Rattle.dag_lock.specs.Known.{Known, Begins, Ascends}
use Rattle.dag_lock.specs.Steps.{Keeps}
use Rattle.session_serve.specs.declared.ends.SessionEnd.{SessionEnd}
use Rattle.session_serve.specs.declared.ends.SessionEnd.TheVariants.{ReadFault, WriteFault, NoMemory}
use Rattle.session_serve.specs.Passes.{IsAskedBy, Goes, new_places}
use Rattle.session_serve.specs.Sessions.{SessionOutcome, status_of}
use Rattle.serve_pool.specs.Rows.{Taken, unserved_in, places_with, HandsBack, HasNone}
use Rattle.serve_pool.specs.declared.ends.Served.{Served}
use Rattle.serve_pool.specs.declared.ends.PoolEnd.TheVariants.{Done, GateFault}

-- a link that one session served with this pass
abbrev pub taken_by : {L : Type 0} → Known → Known → L → L → SessionEnd → Taken L
taken_by p q handed back end = record { handed = handed; back = back; end = end; from = length p.seen; places = new_places p q }

module _ {P L : Type 0} (left given : L → Option (List ℕ)) (take_faults faults : L → ℕ) (m : PlainMachine P) (start : P) (most : ℕ) where
  -- What was done with a link, from its handing out to its putting back, where this much of the trail was seen: its session
  -- ran as a run over the link does, and its places are entries of this session alone. Each end has its cause.
  pub record IsServed (low : ℕ) (seen : List Event) (session : ℕ) (t : Taken L) : Type 0 where
    pub later : low ≤ t.from
    pub outcome : WhileTold (left t.handed) (left t.back) (SessionOutcome m start most session t.end t.from seen t.places (given t.handed) (given t.back))
    pub ascend : Ascends t.from (length seen) t.places
    pub asked : AllByRecursion (IsAskedBy session seen) t.places
    pub end : IsRunEnd (status_of t.end)
    pub exact : WhileTold (left t.handed) (left t.back) (λ first now. (all : List (List ℕ)) (rest : List ℕ)
        → IsCut first all rest → length first < most_taken
        → (Rose (take_faults t.handed) (take_faults t.back) → ⊥) → (Rose (faults t.handed) (faults t.back) → ⊥)
        → EndsAs rest (status_of t.end))
    pub read_later : take_faults t.handed ≤ take_faults t.back
    pub write_later : faults t.handed ≤ faults t.back
    pub read : t.end ≡ ReadFault → Rose (take_faults t.handed) (take_faults t.back)
    pub write : t.end ≡ WriteFault → Rose (faults t.handed) (faults t.back)
    pub nothing : t.end ≡ NoMemory → (t.places ≡ []) × (left t.back ≡ left t.handed) × (given t.back ≡ given t.handed)

  -- each was served, by sessions whose numbers go up from `first`
  abbrev pub AreServed : ℕ → List Event → ℕ → List (Taken L) → Type 0
  AreServed low seen first [] = Unit {0}
  AreServed low seen first (t ∷ ts) = IsServed low seen first t × AreServed low seen (first + 1) ts

  -- what one session does to its pass and its link, and how it ends
  pub record ServesOne (p q : Known) (session : ℕ) (handed back : L) (end : SessionEnd) : Type 0 where
    pub goes : Goes session p q
    pub served : IsServed (length p.seen) q.seen session (taken_by p q handed back end)

  -- What serving does: these links were taken, and each was served once and put back once. The pass is of the same lock and
  -- has as many pieces, it has seen what it had seen and perhaps more, and owns what it owned and the places of these
  -- sessions, and no others.
  pub record Serves (first : ℕ) (p q : Known) (old new : Option (ToldGate L)) (taken unserved : ℕ) : Type 0 where
    pub links : List (Taken L)
    pub count : taken ≡ length links
    pub wanting : unserved ≡ unserved_in links
    pub keeps : Keeps p q
    pub seen : Begins p.seen q.seen
    pub owned : q.owned ≡ places_with p.owned links
    pub each : AreServed (length p.seen) q.seen first links
    pub told : HandsBack first links old new

  -- the same while the first of the links is still out
  pub record ServesBeside (first : ℕ) (p q : Known) (handed back : L) (old new : Option (ToldGate L)) (taken unserved : ℕ) : Type 0 where
    pub one : Taken L
    pub others : List (Taken L)
    pub link : (one.handed ≡ handed) × (one.back ≡ back)
    pub count : taken ≡ length (one ∷ others)
    pub wanting : unserved ≡ unserved_in (one ∷ others)
    pub keeps : Keeps p q
    pub seen : Begins p.seen q.seen
    pub owned : q.owned ≡ places_with p.owned (one ∷ others)
    pub each : AreServed (length p.seen) q.seen first (one ∷ others)
    pub told : HandsBack (first + 1) others old new

  module _ {G : Type 0} (told : G → Option (ToldGate L)) (gate_faults : G → ℕ) where
    -- What serving up to so many links comes to, and why it ended.
    pub record Pools (first links : ℕ) (p q : Known) (old new : G) (s : Served) : Type 0 where
      pub serves : Serves first p q (told old) (told new) s.taken s.unserved
      pub within : s.taken ≤ links
      pub done : s.end ≡ Done → (s.taken ≡ links) ⊎ HasNone (told new)
      pub fault : s.end ≡ GateFault → (s.taken < links) × Rose (gate_faults old) (gate_faults new)
      pub later : gate_faults old ≤ gate_faults new

    -- the same while the first of the links is still out
    pub record PoolsBeside (first links : ℕ) (p q : Known) (handed back : L) (old new : G) (s : Served) : Type 0 where
      pub serves : ServesBeside first p q handed back (told old) (told new) s.taken s.unserved
      pub within : s.taken ≤ links
      pub done : s.end ≡ Done → (s.taken ≡ links) ⊎ HasNone (told new)
      pub fault : s.end ≡ GateFault → (s.taken < links) × Rose (gate_faults old) (gate_faults new)
      pub later : gate_faults old ≤ gate_faults new
