-- Serving a link beside others, and putting it back.
use Rattle.std.proofs.Common.{◌≡◌, ◌≤◌, ◌<◌, ◌+◌, ◌-◌, ℕ, List, [], ◌∷◌, length, Option, Some, Ok, sym, ap, ◌∙◌, ◌⊎◌, inl, inr, subst, refl, arith}
use Rattle.tardis_base.specs.Plain.{PlainMachine}
use Rattle.tardis_io.specs.Faults.{Rose}
use Rattle.tardis_io.specs.Links.{ToldGate, HandsNext, with_back}
use Rattle.dag_lock.specs.Known.{Known, merged}
use Rattle.dag_lock.specs.Steps.{IsLonger}
use Rattle.session_serve.specs.Laws.{LongerKeepsOutcomes}
use Rattle.session_serve.specs.declared.ends.SessionEnd.{SessionEnd}
use Rattle.serve_pool.specs.declared.ends.Served.{Served}
use Rattle.serve_pool.specs.declared.ends.PoolEnd.TheVariants.{Done, GateFault}
use Rattle.serve_pool.specs.Rows.{Taken, wanting, places_with, HandsBack, HasNone}
use Rattle.serve_pool.specs.Pools.{taken_by, ServesOne, Serves, ServesBeside, Pools, PoolsBeside}
use Rattle.serve_pool.proofs.Longer.{begins_same, first_begins, second_begins, begins_then, served_longer, all_longer}
use Rattle.serve_pool.proofs.Hands.{hands_last, none_left, rose_later, unserved_most}

module _ {P L : Type 0} (left given : L → Option (List ℕ)) (take_faults faults : L → ℕ) (m : PlainMachine P) (start : P) (most : ℕ) where
  -- the pass that was split for a link and for those behind it, after both are joined
  pub beside : LongerKeepsOutcomes m → (first : ℕ) (p a b c q : Known) (handed back : L) (end : SessionEnd) (old new : Option (ToldGate L)) (taken unserved : ℕ)
      → a ≡ record { lock = p.lock; seen = p.seen; owned = p.owned; pieces = p.pieces - 1 }
      → b ≡ record { lock = p.lock; seen = p.seen; owned = []; pieces = 1 }
      → 1 ≤ p.pieces
      → (one : Known) → ServesOne left given take_faults faults m start most b one first handed back end
      → Serves left given take_faults faults m start most (first + 1) a c old new taken unserved
      → q.lock ≡ c.lock → IsLonger c.seen one.seen q.seen → q.owned ≡ merged c.owned one.owned → q.pieces ≡ c.pieces + one.pieces
      → ServesBeside left given take_faults faults m start most first p q handed back old new (taken + 1) (wanting end + unserved)
  beside law first p a b c q handed back end old new taken unserved ea eb some one s r lock longer owned pieces =
      let s' = subst (λ k. ServesOne left given take_faults faults m start most k one first handed back end) eb s in
      let r' = subst (λ k. Serves left given take_faults faults m start most (first + 1) k c old new taken unserved) ea r in
      let t : Taken L = taken_by (record { lock = p.lock; seen = p.seen; owned = []; pieces = 1 }) one handed back end in
      record {
        one = t;
        others = r'.links;
        link = (refl, refl);
        count = omega (arith, r'.count);
        wanting = ap (λ n. wanting end + n) r'.wanting;
        keeps = (lock ∙ r'.keeps.0, omega (arith, pieces, r'.keeps.1, s'.goes.keeps.1, some));
        seen = begins_then p.seen c.seen q.seen r'.seen (first_begins c.seen one.seen q.seen longer);
        owned = owned ∙ (ap (λ l. merged l one.owned) r'.owned ∙ ap (λ l. merged (places_with p.owned r'.links) l) s'.goes.owned);
        each = (
          served_longer left given take_faults faults m start most law (length p.seen) one.seen q.seen first t
              (second_begins c.seen one.seen q.seen longer) s'.served,
          all_longer left given take_faults faults m start most law (length p.seen) c.seen q.seen (first + 1) r'.links
              (first_begins c.seen one.seen q.seen longer) r'.each,
        );
        told = r'.told;
      }

  module _ {G : Type 0} (told : G → Option (ToldGate L)) (gate_faults : G → ℕ) where
    pub unserved_within : (first links : ℕ) (p q : Known) (old new : G) (s : Served)
        → Pools left given take_faults faults m start most told gate_faults first links p q old new s → s.unserved ≤ s.taken
    unserved_within first links p q old new s r = omega (arith, unserved_most r.serves.links, r.serves.wanting, r.serves.count)

    -- no link was taken, since no more may be or none was left
    pub no_more : (first links : ℕ) (p : Known) (old new : G) (s : Served) → s ≡ record { taken = 0; unserved = 0; end = Done }
        → HandsBack first [] (told old) (told new) → (0 ≡ links) ⊎ HasNone (told new) → gate_faults old ≤ gate_faults new
        → Pools left given take_faults faults m start most told gate_faults first links p p old new s
    no_more first links p old new s is hands why le = subst (λ v. Pools left given take_faults faults m start most told gate_faults first links p p old new
        v) (sym is) (record {
          serves = record { links = []; count = refl; wanting = refl; keeps = (refl, refl); seen = begins_same p.seen; owned = refl; each = tt; told = hands };
          within = omega arith;
          done = λ e. why;
          fault = λ e. absurd (cc);
          later = le;
        })

    -- no link was taken, since the gate failed
    pub at_fault : (first links : ℕ) (p : Known) (old new : G) (s : Served) → s ≡ record { taken = 0; unserved = 0; end = GateFault }
        → HandsBack first [] (told old) (told new) → 0 < links → Rose (gate_faults old) (gate_faults new) → gate_faults old ≤ gate_faults new
        → Pools left given take_faults faults m start most told gate_faults first links p p old new s
    at_fault first links p old new s is hands some rose le =
        subst (λ v. Pools left given take_faults faults m start most told gate_faults first links p p old new v) (sym is) (record {
          serves = record { links = []; count = refl; wanting = refl; keeps = (refl, refl); seen = begins_same p.seen; owned = refl; each = tt; told = hands };
          within = omega arith;
          done = λ e. absurd (cc);
          fault = λ e. (some, rose);
          later = le;
        })

    -- what was served beside a link
    pub pools_beside : LongerKeepsOutcomes m → (first links left_over : ℕ) (p a b c q one : Known) (handed back : L) (end : SessionEnd) (old new : G)
        (s both : Served)
        → left_over + 1 ≡ links
        → a ≡ record { lock = p.lock; seen = p.seen; owned = p.owned; pieces = p.pieces - 1 }
        → b ≡ record { lock = p.lock; seen = p.seen; owned = []; pieces = 1 }
        → 1 ≤ p.pieces
        → ServesOne left given take_faults faults m start most b one first handed back end
        → Pools left given take_faults faults m start most told gate_faults (first + 1) left_over a c old new s
        → q.lock ≡ c.lock → IsLonger c.seen one.seen q.seen → q.owned ≡ merged c.owned one.owned → q.pieces ≡ c.pieces + one.pieces
        → both ≡ record { taken = s.taken + 1; unserved = wanting end + s.unserved; end = s.end }
        → PoolsBeside left given take_faults faults m start most told gate_faults first links p q handed back old new both
    pools_beside law first links left_over p a b c q one handed back end old new s both over ea eb some served r lock longer owned pieces is =
        subst (λ v. PoolsBeside left given take_faults faults m start most told gate_faults first links p q handed back old new v) (sym is) (record {
          serves = beside law first p a b c q handed back end (told old) (told new) s.taken s.unserved ea eb some one served r.serves lock longer owned pieces;
          within = omega (arith, r.within, over);
          done = λ e. elim (r.done e) [ inl h ↦ inl (omega (arith, h, over)) | inr h ↦ inr h ];
          fault = λ e. let h = r.fault e in (omega (arith, h.0, over), h.1);
          later = r.later;
        })

    -- the link that was still out is put back
    pub whole : (first links : ℕ) (p q : Known) (handed back : L) (old next after new : G) (s : Served)
        → HandsNext (told old) (told next) (Ok (Some handed)) → gate_faults old ≤ gate_faults next
        → PoolsBeside left given take_faults faults m start most told gate_faults first links p q handed back next after s
        → told new ≡ with_back (told after) first back → gate_faults new ≡ gate_faults after
        → Pools left given take_faults faults m start most told gate_faults first links p q old new s
    whole first links p q handed back old next after new s hands le b ended same =
        let v = b.serves in
        let hands' : HandsNext (told old) (told next) (Ok (Some v.one.handed)) =
        subst (λ l. HandsNext (told old) (told next) (Ok (Some l))) (sym v.link.0) hands in
        let ended' : told new ≡ with_back (told after) first v.one.back = subst (λ l. told new ≡ with_back (told after) first l) (sym v.link.1) ended in
        record {
          serves = record {
            links = v.one ∷ v.others;
            count = v.count;
            wanting = v.wanting;
            keeps = v.keeps;
            seen = v.seen;
            owned = v.owned;
            each = v.each;
            told = subst (λ n. HandsBack first (v.one ∷ v.others) (told old) n) (sym ended')
                (hands_last first v.one v.others (told old) (told next) (told after) hands' v.told);
          };
          within = b.within;
          done = λ e. elim (b.done e) [ inl h ↦ inl h | inr h ↦ inr (subst (λ n. HasNone n) (sym ended) (none_left first back (told after) h)) ];
          fault = λ e. let h = b.fault e in
              (h.0, subst (λ n. Rose (gate_faults old) n) (sym same) (rose_later (gate_faults old) (gate_faults next) (gate_faults after) le h.1));
          later = omega (arith, le, b.later, same);
        }
