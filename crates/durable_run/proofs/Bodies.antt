-- Bodies that are cut and answered, and what a disk and a sink counted meanwhile.
use Rattle.std.proofs.Common.{◌≡◌, inl, inr, ℕ, ◌+◌, ◌≤◌, length, take, drop, List, [], ◌∷◌, ◌++◌, refl, sym, ap, ◌∙◌, subst, arith, append_assoc}
use Rattle.std.proofs.lemmas.List.{append-nil, length-append, take_all}
use Rattle.tardis_io.specs.Faults.{Rose}
use Rattle.frame_cut.specs.Frames.{frame, IsBody, Cuts}
use Rattle.frame_cut.proofs.Joins.{more_bodies}
use Rattle.frame_cut.proofs.Words.{length-frame}
use Rattle.durable_run.specs.declared.groups.DeviceFault.{DeviceFault}
use Rattle.durable_run.specs.declared.groups.DeviceFault.TheVariants.{Disk, Output}
use Rattle.tardis_io.specs.declared.streams.Sink.{Ghosts as ASink}
use Rattle.disk_store.specs.declared.disks.Disk.{Ghosts as ADisk}
use Rattle.durable_run.specs.Turns.{Went, Stopped}

-- a count that rose since later rose since earlier
pub rose_earlier : (a b c : ℕ) → a ≤ b → Rose b c → Rose a c
rose_earlier a b c less (inl more) = inl (omega (arith, less, more))
rose_earlier a b c less (inr end) = inr end

module _ {K : Type 0} (k : ADisk K) where
  pub went_same : (a : K) → Went k a a
  went_same a = record { later = omega arith; as_honest = ((λ h. h), (λ h. h)) }

  pub went_then : (a b c : K) → Went k a b → Went k b c → Went k a c
  went_then a b c p q = record {
    later = omega (arith, p.later, q.later);
    as_honest = ((λ h. q.as_honest.0 (p.as_honest.0 h)), (λ h. p.as_honest.1 (q.as_honest.1 h)));
  }

  pub stopped_later : {O : Type 0} (snk : ASink O) (a b : K) (x y z : O) (stop : DeviceFault K) → Went k a b → snk.faults x ≤ snk.faults y →
      Stopped k snk b y z stop → Stopped k snk a x z stop
  stopped_later snk a b x y z (Disk d) w less s = record {
    went = went_then a b d w s.went;
    rose =
        rose_earlier (k.faults a) (k.faults b) (k.faults d) w.later s.rose;
  }
  stopped_later snk a b x y z (Output d) w less s = record {
    went = went_then a b d w s.went;
    rose =
        rose_earlier (snk.faults x) (snk.faults y) (snk.faults z) less s.rose;
  }

-- one body is at the front
one_body : (bytes body rest : List ℕ) → IsBody body → bytes ≡ frame body ++ rest → Cuts bytes (body ∷ []) rest
one_body bytes body rest fits is = record {
  whole = is ∙ ap (λ z. z ++ rest) (sym (append-nil (frame body)));
  each = (fits, tt);
}

-- no body was cut
pub cut_none : (bytes : List ℕ) → Cuts bytes [] bytes
cut_none bytes = record { whole = refl; each = tt }

-- a body more was cut
pub more_body : (P Q : List (List ℕ) → Type 0) (bytes between rest body : List ℕ) (bodies : List (List ℕ)) → IsBody body → between ≡ frame body ++ rest
    → (more : List (List ℕ)) × (Cuts bytes more between × P (bodies ++ more)) → ((before : List (List ℕ)) → P before → Q (before ++ body ∷ [])) →
    (more : List (List ℕ)) × (Cuts bytes more rest × Q (bodies ++ more))
more_body P Q bytes between rest body bodies fits is cut f = (
  cut.0 ++ body ∷ [],
  (
    more_bodies bytes cut.0 (body ∷ []) between rest cut.1.0 (one_body between body rest fits is),
    subst Q (append_assoc bodies cut.0 (body ∷ [])) (f (bodies ++ cut.0) cut.1.1),
  ),
)

-- a cutter holds less when it has handed out a frame
pub fewer : (old new body : List ℕ) → new ≡ drop (4 + length body) old → old ≡ frame body ++ drop (4 + length body) old → ℕ.suc (length new) ≤ length old
fewer old new body left whole =
    let long : length old ≡ length (frame body) + length (drop (4 + length body) old) = ap length whole
    ∙ length-append (frame body) (drop (4 + length body) old) in
    let head : length (frame body) ≡ 4 + length body = length-frame body in
    let less : length new ≡ length (drop (4 + length body) old) = ap length left in
    omega (arith, long, head, less)

-- all of a piece was fed
pub fed_all : (held piece fed : List ℕ) (n : ℕ) → fed ≡ held ++ take n piece → n ≡ length piece → fed ≡ held ++ piece
fed_all held piece fed n is all = is ∙ ap (λ z. held ++ z) (take_all n piece (omega (arith, all)))
