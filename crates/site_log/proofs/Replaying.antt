-- How a log's groups are taken back, one after another.
use Rattle.std.proofs.Common.{◌≡◌, ℕ, Bool, ◌+◌, ◌≤◌, List, [], ◌∷◌, ◌++◌, length, drop, refl, sym, ap, ◌∙◌, subst, arith, length-append, length-drop, append_assoc}
use Rattle.std.proofs.lemmas.List.{drop-drop}
use Rattle.std.specs.List.{AllByRecursion}
use Rattle.rest_machine.specs.declared.resting.Resting.{Ghosts as AResting}
use Rattle.log_text.specs.Texts.{entry, coded}
use Rattle.log_groups.specs.declared.fronts.LogFront.{LogFront}
use Rattle.log_groups.specs.Items.{IsFront, IsBody, group}
use Rattle.log_groups.specs.declared.groups.Ending.TheVariants.{Damaged as DamagedEnd}
use Rattle.log_groups.specs.Logs.{Ends}
use Rattle.log_groups.specs.Laws.{LogGrows}
use Rattle.site_log.specs.Kept.{TakesAll}
use Rattle.site_log.specs.Files.{text_of}
use Rattle.site_log.specs.Replays.{ending_of, Replayed, IsDamaged, IsUnfit}
use Rattle.site_log.proofs.Appending.{all_more}
use Rattle.site_log.proofs.Leading.{takes_more}

module _ {M : Type 0} (m : AResting M) where
  -- so far
  pub record Progress (old now : M) (bytes : List ℕ) (front : LogFront) (place number : ℕ) (bodies : List (List ℕ)) : Type 0 where
    pub whole : bytes ≡ text_of front bodies ++ drop place bytes
    pub each : AllByRecursion IsBody bodies
    pub at : place ≡ length (text_of front bodies)
    pub count : number ≡ length bodies
    pub within : place ≤ length bytes
    pub few : number ≤ place
    pub taken : (s : m.Plain) → m.stands old s → (t : m.Plain) × (TakesAll m s bodies t × m.stands now t)

  pub begun : (old : M) (bytes : List ℕ) (front : LogFront) (start : ℕ) → start ≡ length (text_of front []) → bytes ≡ text_of front [] ++ drop start bytes
      → start ≤ length bytes → Progress old old bytes front start 0 []
  begun old bytes front start at begins within = record {
    whole = begins;
    each = tt;
    at = at;
    count = refl;
    within = within;
    few = omega arith;
    taken = λ s stood. (s, (refl, stood));
  }

  module _ (grows : LogGrows) (old mid : M) (bytes : List ℕ) (front : LogFront) (place number : ℕ) (bodies : List (List ℕ))
      (p : Progress old mid bytes front place number bodies) (body : List ℕ) (size : ℕ) (few : size ≤ length (drop place bytes))
      (next : drop place bytes ≡ entry (group front.life number body) ++ drop size (drop place bytes)) where
    pub one_more : bytes ≡ text_of front (bodies ++ body ∷ []) ++ drop (place + size) bytes
    one_more =
        let E = entry (group front.life number body) in
        p.whole ∙ (ap (λ z. text_of front bodies ++ z) next ∙ (sym (append_assoc (text_of front bodies) E (drop size (drop place bytes)))
        ∙ (ap (λ z. (text_of front bodies ++ entry (group front.life z body)) ++ drop size (drop place bytes)) p.count
        ∙ (ap (λ z. z ++ drop size (drop place bytes)) (grows front bodies body)
        ∙ ap (λ z. text_of front (bodies ++ body ∷ []) ++ z) (drop-drop size place bytes)))))

    pub size_some : 1 ≤ size
    size_some =
        omega (
          arith,
          few,
          ap length next,
          length-append (entry (group front.life number body)) (drop size (drop place bytes)),
          length-drop size (drop place bytes),
          length-append (coded (group front.life number body)) (247 ∷ []),
        )

    pub went_on : (new : M) → IsBody body → ((s : m.Plain) → m.stands mid s → (t : m.Plain) × (m.takes_back s body t × m.stands new t))
        → Progress old new bytes front (place + size) (number + 1) (bodies ++ body ∷ [])
    went_on new fits back = record {
      whole = one_more;
      each = all_more IsBody bodies body p.each fits;
      at = omega (
        arith,
        few,
        p.within,
        ap length one_more,
        length-append (text_of front (bodies ++ body ∷ [])) (drop (place + size) bytes),
        length-drop (place + size) bytes,
        length-drop place bytes,
      );
      count = omega (arith, p.count, length-append bodies (body ∷ []));
      within = omega (arith, few, length-drop place bytes, p.within);
      few = omega (arith, p.few, size_some);
      taken = λ s stood.
          let t = p.taken s stood in
          let u = back t.0 t.1.1 in
          (u.0, (takes_more m s bodies body t.0 u.0 t.1.0 u.1.0, u.1.1));
    }

    -- the machine doesn't take back the next one
    pub not_taken : IsBody body → ((s t : m.Plain) → m.stands mid s → m.takes_back s body t → ⊥) → IsUnfit m old bytes front place
    not_taken fits never = record {
      bodies = bodies;
      body = body;
      more = drop (place + size) bytes;
      each = all_more IsBody bodies body p.each fits;
      begins = one_more;
      at = p.at;
      refused = λ s stood. let t = p.taken s stood in (t.0, (t.1.0, λ u one. never t.0 u t.1.1 one));
    }

  -- the log ends there
  module _ (old mid : M) (bytes : List ℕ) (front : LogFront) (place number : ℕ) (bodies : List (List ℕ))
      (p : Progress old mid bytes front place number bodies) (is_front : IsFront front) where
    pub ended : (torn : Bool) → Ends front.life number (drop place bytes) (ending_of torn)
        → Replayed m old mid bytes (record { front = front; number = number; place = place; torn = torn }) bodies
    ended torn e = record {
      held = record {
        whole = p.whole;
        is_front = is_front;
        each = p.each;
        ends = subst (λ (n : ℕ). Ends front.life n (drop place bytes) (ending_of torn)) p.count e;
      };
      at = p.at;
      number = p.count;
      taken = p.taken;
    }

    pub is_damaged : Ends front.life number (drop place bytes) DamagedEnd → IsDamaged m old bytes front place
    is_damaged e = record {
      bodies = bodies;
      rest = drop place bytes;
      held = record {
        whole = p.whole;
        is_front = is_front;
        each = p.each;
        ends = subst (λ (n : ℕ). Ends front.life n (drop place bytes) DamagedEnd) p.count e;
      };
      at = p.at;
      fit = λ s stood. let t = p.taken s stood in (t.0, t.1.0);
    }
