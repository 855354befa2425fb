-- What bodies are read as.
use Rattle.std.proofs.Common.{◌≡◌, ℕ, ◌≤◌, Bool, true, false, ◌&&◌, List, [], ◌∷◌, length, take, drop, nat_le, Option, Some, None, refl, ap, sym, ◌∙◌, arith}
use Rattle.std.proofs.Common.{leb-true, length-drop, ◌==◌}
use Rattle.std.proofs.lemmas.Bool.{and_parts, eqb-true}
use Rattle.std.specs.Prelude.{option_map, option_and_then}
use Rattle.std.specs.Bool.{then_some}
use Rattle.std.specs.Int.{w16, from_be_bytes}
use Rattle.tardis_base.specs.Valid.{are_bytes}
use Rattle.tardis_base.specs.declared.requests.Request.{Request}
use Rattle.wire_item.specs.Fronts.{Front, made, both, alone, whole, bytes_front}
use Rattle.wire_item.specs.Readings.{u16_front, u32_front}
use Rattle.wire_item.proofs.Takings.{made-none, after-none, after-then, after-then_none}
use Rattle.wire_item.proofs.Fronts.{made-read}
use Rattle.wire_talk.specs.RequestReadings.{request_front, request_of}
use Rattle.plain_world.specs.Bodies.{Body, StepAt, CarryTo, step_front, carry_front}

whole-none : {A : Type 0} (front : Front A) (bytes : List ℕ) → front bytes ≡ None → whole front bytes ≡ None
whole-none front bytes e = ap (option_and_then (λ read. alone read.0 read.1)) e

-- what stands behind a number
abbrev rest_of : Option (ℕ × List ℕ) → List ℕ
rest_of None = []
rest_of (Some read) = read.1

record Dropped (n : ℕ) (bytes rest : List ℕ) : Type 0 where
  is : rest ≡ drop n bytes
  enough : n ≤ length bytes

dropped : (n : ℕ) (f : List ℕ → ℕ) (bytes : List ℕ) (x : ℕ) (rest : List ℕ) → made f (bytes_front n) bytes ≡ Some (x, rest) → Dropped n bytes rest
dropped n f bytes x rest e = by-test (nat_le n (length bytes) && are_bytes (take n bytes)) refl e
  where
    by-test : (t : Bool) → (nat_le n (length bytes) && are_bytes (take n bytes)) ≡ t →
        option_map {T = List ℕ × List ℕ} {U = ℕ × List ℕ} (λ read. (f read.0, read.1)) (then_some t (take n bytes, drop n bytes)) ≡ Some (x, rest) →
        Dropped n bytes rest
    by-test true is h = record {
      is = sym (ap rest_of h);
      enough =
          leb-true n (length bytes) (and_parts (nat_le n (length bytes)) (are_bytes (take n bytes)) is).0;
    }
    by-test false is h = absurd (cc)

-- ===== Steps

pub no_site : (bytes : List ℕ) → u16_front bytes ≡ None → whole step_front bytes ≡ None
no_site bytes e = whole-none step_front bytes (made-none (λ p. StepAt p.0 p.1.0 p.1.1) (both u16_front (both u16_front request_front)) bytes
    (after-none u16_front (λ a. both u16_front request_front) bytes e))

pub no_actor : (bytes mid : List ℕ) (site : ℕ) → u16_front bytes ≡ Some (site, mid) → u16_front mid ≡ None → whole step_front bytes ≡ None
no_actor bytes mid site e d =
    whole-none step_front bytes (made-none (λ p. StepAt p.0 p.1.0 p.1.1) (both u16_front (both u16_front request_front)) bytes
    (after-then_none u16_front (λ a. both u16_front request_front) bytes site mid e (after-none u16_front (λ a. request_front) mid d)))

pub step_read : (bytes mid rest : List ℕ) (site actor : ℕ) → u16_front bytes ≡ Some (site, mid) → u16_front mid ≡ Some (actor, rest) →
    whole step_front bytes ≡ option_map (StepAt site actor) (request_of rest)
step_read bytes mid rest site actor e d = go (request_front rest) refl
  where
    behind : (q : Request) (more : List ℕ) → alone (StepAt site actor q) more ≡ option_map (StepAt site actor) (alone q more)
    behind q [] = refl
    behind q (x ∷ more) = refl

    go : (o : Option (Request × List ℕ)) → request_front rest ≡ o → whole step_front bytes ≡ option_map (StepAt site actor) (request_of rest)
    go None f =
        whole-none step_front bytes (made-none (λ p. StepAt p.0 p.1.0 p.1.1) (both u16_front (both u16_front request_front)) bytes
        (after-then_none u16_front (λ a. both u16_front request_front) bytes site mid e (after-then_none u16_front (λ a. request_front) mid actor rest d f)))
        ∙ sym (ap (option_map (StepAt site actor)) (whole-none request_front rest f))
    go (Some read) f =
        ap (option_and_then (λ r. alone r.0 r.1)) (made-read (λ p. StepAt p.0 p.1.0 p.1.1) (both u16_front (both u16_front request_front)) bytes
        (site, (actor, read.0)) read.1
        (after-then u16_front (λ a. both u16_front request_front) bytes site mid (actor, read.0) read.1 e
        (after-then u16_front (λ a. request_front) mid actor rest read.0 read.1 d f)))
        ∙ behind read.0 read.1 ∙ sym (ap (λ o. option_map (StepAt site actor) (option_and_then (λ r. alone r.0 r.1) o)) f)

drop_twice : (xs : List ℕ) → drop 2 (drop 2 xs) ≡ drop 4 xs
drop_twice [] = refl
drop_twice (x ∷ []) = refl
drop_twice (x ∷ y ∷ xs) = refl

-- the request stands behind four bytes
pub record Behind (bytes rest : List ℕ) : Type 0 where
  pub is : rest ≡ drop 4 bytes
  pub enough : 4 ≤ length bytes

pub behind_four : (bytes mid rest : List ℕ) (site actor : ℕ) → u16_front bytes ≡ Some (site, mid) → u16_front mid ≡ Some (actor, rest) → Behind bytes rest
behind_four bytes mid rest site actor e d =
    let one = dropped 2 (from_be_bytes w16) bytes site mid e in
    let two = dropped 2 (from_be_bytes w16) mid actor rest d in
    record {
      is = two.is ∙ ap (drop 2) one.is ∙ drop_twice bytes;
      enough = omega (arith, length-drop 2 bytes, one.enough, two.enough, ap length one.is);
    }

-- ===== Carries

pub no_target : (bytes : List ℕ) → u16_front bytes ≡ None → whole carry_front bytes ≡ None
no_target bytes e = whole-none carry_front bytes (made-none (λ p. CarryTo p.0 p.1.0 p.1.1) (both u16_front (both u32_front u32_front)) bytes
    (after-none u16_front (λ a. both u32_front u32_front) bytes e))

pub no_batch : (bytes mid : List ℕ) (to : ℕ) → u16_front bytes ≡ Some (to, mid) → u32_front mid ≡ None → whole carry_front bytes ≡ None
no_batch bytes mid to e d =
    whole-none carry_front bytes (made-none (λ p. CarryTo p.0 p.1.0 p.1.1) (both u16_front (both u32_front u32_front)) bytes
    (after-then_none u16_front (λ a. both u32_front u32_front) bytes to mid e (after-none u32_front (λ a. u32_front) mid d)))

pub no_item : (bytes mid next : List ℕ) (to batch : ℕ) → u16_front bytes ≡ Some (to, mid) → u32_front mid ≡ Some (batch, next) → u32_front next ≡ None →
    whole carry_front bytes ≡ None
no_item bytes mid next to batch e d f =
    whole-none carry_front bytes (made-none (λ p. CarryTo p.0 p.1.0 p.1.1) (both u16_front (both u32_front u32_front)) bytes
    (after-then_none u16_front (λ a. both u32_front u32_front) bytes to mid e (after-then_none u32_front (λ a. u32_front) mid batch next d f)))

pub carry_read : (bytes mid next rest : List ℕ) (to batch item : ℕ) → u16_front bytes ≡ Some (to, mid) → u32_front mid ≡ Some (batch, next) →
    u32_front next ≡ Some (item, rest)
    → whole carry_front bytes ≡ alone (CarryTo to batch item) rest
carry_read bytes mid next rest to batch item e d f =
    ap (option_and_then (λ r. alone r.0 r.1)) (made-read (λ p. CarryTo p.0 p.1.0 p.1.1) (both u16_front (both u32_front u32_front)) bytes
    (to, (batch, item)) rest
    (after-then u16_front (λ a. both u32_front u32_front) bytes to mid (batch, item) rest e
    (after-then u32_front (λ a. u32_front) mid batch next item rest d f)))

pub alone_done : (b : Body) (rest : List ℕ) → (length rest == 0) ≡ true → alone b rest ≡ Some b
alone_done b [] h = refl
alone_done b (x ∷ rest) h = absurd (omega (arith, eqb-true (length (x ∷ rest)) 0 h))

pub alone_more : (b : Body) (rest : List ℕ) → (length rest == 0) ≡ false → alone b rest ≡ None
alone_more b [] h = absurd (cc)
alone_more b (x ∷ rest) h = refl
