-- Whatever bodies are answered, an honest world stays honest.
use Rattle.std.proofs.Common.{◌≡◌, ℕ, Bool, true, false, not, List, [], ◌∷◌, length, take, drop, get_or, Option, Some, None, IsTrue, IsFalse, inl, inr, refl}
use Rattle.std.proofs.Common.{sym, ap, subst, ◌∙◌, arith, if◌then◌else◌}
use Rattle.std.specs.Prelude.{◌&&◌, ◌==◌, ◌<◌, ◌^◌, nat_le, nat_lt, option_map, option_and_then}
use Rattle.std.specs.Bool.{then_some}
use Rattle.std.specs.Int.{w16, from_be_bytes}
use Rattle.std.specs.List.{list_all}
use Rattle.std.specs.Option.{option_map_or}
use Rattle.std.proofs.lemmas.Bool.{and_parts, and_from, cond_both, lt-ltb, ltb-true, not-true}
use Rattle.std.proofs.lemmas.Option.{none-some}
use Rattle.tardis_base.specs.declared.requests.Request.{Request}
use Rattle.tardis_base.specs.declared.replies.Refusal.TheVariants.{Malformed}
use Rattle.tardis_base.specs.Plain.{Event}
use Rattle.tardis_base.specs.Valid.{is_u16, are_bytes}
use Rattle.wire_item.specs.Fronts.{Front, made, both, alone, whole}
use Rattle.wire_item.specs.Readings.{u16_front, u32_front}
use Rattle.wire_talk.specs.Valid.{is_request}
use Rattle.wire_talk.specs.RequestReadings.{request_front, request_of}
use Rattle.wire_talk.specs.Laws.{RequestsHaveOneSpelling}
use Rattle.plain_world.specs.Worlds.{World}
use Rattle.plain_world.specs.Bodies.{Body, StepAt, CarryTo, step_front, carry_front, body_of}
use Rattle.plain_world.specs.Steps.{declined, world_step, step_over_body}
use Rattle.plain_world.specs.Honest.{IsHonest}
use Rattle.plain_world.specs.Laws.{RunsStayHonest, body_delivers, is_forged}
use Rattle.plain_world.proofs.Histories.{same-some}
use Rattle.plain_world.proofs.Stays.{steps-keep-honest, carries-keep-honest}

-- ===== What is read

-- a whole thing that is made from a read one
record WholeMade {A B : Type 0} (f : A → B) (front : Front A) (bytes : List ℕ) (b : B) : Type 0 where
  from : A
  reads : front bytes ≡ Some (from, [])
  is : f from ≡ b

whole-made : {A B : Type 0} (f : A → B) (front : Front A) (bytes : List ℕ) (b : B) → whole (made f front) bytes ≡ Some b → WholeMade f front bytes b
whole-made {A} {B} f front bytes b e = go (front bytes) refl e
  where
    go : (o : Option (A × List ℕ)) → front bytes ≡ o → option_and_then (λ (r : B × List ℕ). alone r.0 r.1)
        (option_map (λ (r : A × List ℕ). (f r.0, r.1)) o) ≡ Some b → WholeMade f front bytes b
    go None is e = absurd (none-some b e)
    go (Some (a, [])) is e = record { from = a; reads = is; is = same-some (f a) b e }
    go (Some (a, byte ∷ more)) is e = absurd (none-some b e)

-- two things, one behind the other
record BothRead {A B : Type 0} (first : Front A) (second : Front B) (bytes : List ℕ) (p : A × B) (rest : List ℕ) : Type 0 where
  between : List ℕ
  one : first bytes ≡ Some (p.0, between)
  two : second between ≡ Some (p.1, rest)

both-read : {A B : Type 0} (first : Front A) (second : Front B) (bytes : List ℕ) (p : A × B) (rest : List ℕ) → both first second bytes ≡ Some (p, rest) →
    BothRead first second bytes p rest
both-read {A} {B} first second bytes p rest e = go (first bytes) refl e
  where
    behind : (a : A) (between : List ℕ) → first bytes ≡ Some (a, between) → (o : Option (B × List ℕ)) → second between ≡ o →
        option_map {U = (A × B) × List ℕ} (λ (r : B × List ℕ). ((a, r.0), r.1)) o ≡ Some (p, rest) → BothRead first second bytes p rest
    behind a between is None at e = absurd (none-some (p, rest) e)
    behind a between is (Some (b, more)) at e =
        let same : ((a, b), more) ≡ (p, rest) = same-some ((a, b), more) (p, rest) e in
        record {
          between = between;
          one = is ∙ ap (λ (q : (A × B) × List ℕ). Some (q.0.0, between)) same;
          two = at ∙ ap (λ (q : (A × B) × List ℕ). Some (q.0.1, q.1)) same;
        }

    go : (o : Option (A × List ℕ)) → first bytes ≡ o →
        option_and_then (λ (r : A × List ℕ). option_map {U = (A × B) × List ℕ} (λ (s : B × List ℕ). ((r.0, s.0), s.1)) (second r.1)) o ≡ Some (p, rest) →
        BothRead first second bytes p rest
    go None is e = absurd (none-some (p, rest) e)
    go (Some (a, between)) is e = behind a between is (second between) refl e

byte_below : (bytes : List ℕ) → IsTrue (are_bytes bytes) → (i : ℕ) → get_or bytes i 0 < 256
byte_below [] h i = omega arith
byte_below (b ∷ bytes) h ℕ.zero = ltb-true b 256 (and_parts (nat_lt b 256) (are_bytes bytes) h).0
byte_below (b ∷ bytes) h (ℕ.suc i) = byte_below bytes (and_parts (nat_lt b 256) (are_bytes bytes) h).1 i

u16-fits : (bytes : List ℕ) (n : ℕ) (rest : List ℕ) → u16_front bytes ≡ Some (n, rest) → IsTrue (is_u16 n)
u16-fits bytes n rest e = go (nat_le 2 (length bytes) && are_bytes (take 2 bytes)) refl e
  where
    go : (t : Bool) → (nat_le 2 (length bytes) && are_bytes (take 2 bytes)) ≡ t →
        option_map {U = ℕ × List ℕ} (λ (r : List ℕ × List ℕ). (from_be_bytes w16 r.0, r.1)) (then_some t (take 2 bytes, drop 2 bytes)) ≡ Some (n, rest) →
        IsTrue (is_u16 n)
    go false is e = absurd (none-some (n, rest) e)
    go true is e =
        let below = byte_below (take 2 bytes) (and_parts (nat_le 2 (length bytes)) (are_bytes (take 2 bytes)) is).1 in
        let same = same-some (from_be_bytes w16 (take 2 bytes), drop 2 bytes) (n, rest) e in
        subst (λ (k : ℕ). IsTrue (is_u16 k)) (ap (λ (q : ℕ × List ℕ). q.0) same)
        (lt-ltb (from_be_bytes w16 (take 2 bytes)) (2 ^ 16) (omega (arith, below 0, below 1)))

-- a body's actor fits 16 bits, and its request is one
abbrev is_body : Body → Bool
is_body (StepAt n actor q) = is_u16 actor && is_request q
is_body (CarryTo n batch item) = true

module _ (read : RequestsHaveOneSpelling) where
  step-is-body : (bytes : List ℕ) (b : Body) → whole step_front bytes ≡ Some b → IsTrue (is_body b)
  step-is-body bytes b e =
      let w = whole-made (λ (p : ℕ × (ℕ × Request)). StepAt p.0 p.1.0 p.1.1) (both u16_front (both u16_front request_front)) bytes b e in
      let outer = both-read u16_front (both u16_front request_front) bytes w.from [] w.reads in
      let inner = both-read u16_front request_front outer.between w.from.1 [] outer.two in
      let asked : request_of inner.between ≡ Some w.from.1.1 = ap (option_and_then (λ (r : Request × List ℕ). alone r.0 r.1)) inner.two in
      subst (λ (c : Body). IsTrue (is_body c)) w.is
      (and_from (is_u16 w.from.1.0) (is_request w.from.1.1) (u16-fits outer.between w.from.1.0 inner.between inner.one)
      ((read.some inner.between w.from.1.1).0 asked).0)

  carry-is-body : (bytes : List ℕ) (b : Body) → whole carry_front bytes ≡ Some b → IsTrue (is_body b)
  carry-is-body bytes b e =
      let w = whole-made (λ (p : ℕ × (ℕ × ℕ)). CarryTo p.0 p.1.0 p.1.1) (both u16_front (both u32_front u32_front)) bytes b e in
      subst (λ (c : Body). IsTrue (is_body c)) w.is refl

  reads-body : (bytes : List ℕ) (b : Body) → body_of bytes ≡ Some b → IsTrue (is_body b)
  reads-body [] b e = absurd (none-some b e)
  reads-body (code ∷ bytes) b e =
      cond_both (1 == code) step_front (if 2 == code then carry_front else (λ more. None)) (λ (front : Front Body). whole front bytes ≡ Some b →
      IsTrue (is_body b))
      (λ t. step-is-body bytes b)
      (λ f. cond_both (2 == code) carry_front (λ more. None) (λ (front : Front Body). whole front bytes ≡ Some b → IsTrue (is_body b))
      (λ t. carry-is-body bytes b) (λ g e. absurd (none-some b e)))
      e

  -- ===== Runs

  body-keeps : (world : World) (event : Event) → IsTrue (not (is_forged event)) → IsHonest world → IsHonest (step_over_body world event.1).0
  body-keeps world event fair honest = go (body_of event.1) refl (not-true (is_forged event) fair)
    where
      asked : (b : Body) → IsTrue (is_body b) → IsFalse (body_delivers b) → IsHonest (world_step world b).0
      asked (StepAt n actor q) valid other =
          let parts = and_parts (is_u16 actor) (is_request q) valid in
          steps-keep-honest world n actor q parts.0 parts.1 other honest
      asked (CarryTo n batch item) valid other = carries-keep-honest world n batch item honest

      go : (o : Option Body) → body_of event.1 ≡ o → IsFalse (option_map_or body_delivers o false) →
          IsHonest (option_map_or (world_step world) o (declined world Malformed)).0
      go None is other = honest
      go (Some b) is other = asked b (reads-body event.1 b is) other

  pub runs-stay-honest : RunsStayHonest
  runs-stay-honest world after [] [] fair answered honest = subst IsHonest (sym answered) honest
  runs-stay-honest world after [] (y ∷ ys) fair answered honest = absurd (answered)
  runs-stay-honest world after (e ∷ es) [] fair answered honest = absurd (answered)
  runs-stay-honest world after (e ∷ es) (y ∷ ys) fair answered honest =
      let parts = and_parts (not (is_forged e)) (list_all (λ (event : Event). not (is_forged event)) es) fair in
      let next = runs-stay-honest (step_over_body world e.1).0 after es ys parts.1 in
      let same = runs-stay-honest world after es ys parts.1 in
      elim answered [
        | inl told ↦ next told.1 (body-keeps world e parts.0 honest)
        | inr wanting ↦ same wanting.2 honest
      ]
