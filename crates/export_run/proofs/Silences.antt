-- What silence says of the replies.
use Rattle.std.proofs.Common.{◌≡◌, ℕ, false, List, [], ◌∷◌, ◌++◌, Some, ◌⊎◌, map, inl, inr, refl, sym, ap, subst, ◌∙◌, arith}
use Rattle.std.specs.List.{concat}
use Rattle.tardis_base.specs.Plain.{Event, PlainMachine, Answers, no_memory, state_after}
use Rattle.tardis_io.specs.declared.statuses.Status.{Status}
use Rattle.tardis_io.specs.declared.statuses.Status.TheVariants.{Ok, Usage, ReadFault, WriteFault, Cut, LongFrame, NoMemory, GateFault, DialFault, Spent}
use Rattle.tardis_io.specs.declared.statuses.Status.TheVariants.{DiskFault, BadExport, NoState}
use Rattle.frame_cut.specs.Events.{event_of}
use Rattle.site_run.specs.Responses.{InTurn, AnsweredBy}
use Rattle.site_run.specs.Endings.{Outcome, shape_within}
use Rattle.export_run.specs.Silence.{SilentMay, Leads, Led}

nothing-after : (a b : List ℕ) → a ++ b ≡ [] → a ≡ [] → b ≡ []
nothing-after a b e none = sym (ap (λ z. z ++ b) none) ∙ e

wanted : (a b : List ℕ) → a ++ b ≡ [] → a ≡ no_memory → ⊥
wanted a b e is = let some : no_memory ++ b ≡ [] = sym (ap (λ z. z ++ b) is) ∙ e in absurd (cc)

-- where no byte was answered, each step was plain
plain : {S : Type 0} (m : PlainMachine S) (s : S) (bodies answers : List (List ℕ)) (t : S) → InTurn (SilentMay m) s bodies answers t → concat answers ≡ []
    → t ≡ state_after m s (map event_of bodies)
plain m s [] [] t p none = p
plain {S} m s (body ∷ bodies) (answer ∷ answers) t p none = go p.1.0 (λ rest. plain m p.0 bodies answers t p.1.1 rest)
  where
    go : ((answer ≡ []) × (p.0 ≡ m.step s (event_of body))) ⊎ ((answer ≡ no_memory) × (m.is_sure (event_of body) ≡ false) × (p.0 ≡ s))
        → (concat answers ≡ [] → t ≡ state_after m p.0 (map event_of bodies)) → t ≡ state_after m s (map event_of (body ∷ bodies))
    go (inl a) rest = rest (nothing-after answer (concat answers) none a.0) ∙ ap (λ u. state_after m u (map event_of bodies)) a.1
    go (inr b) rest = absurd (wanted answer (concat answers) none b.0)
plain m s [] (answer ∷ answers) t p none = absurd p
plain m s (body ∷ bodies) [] t p none = absurd p

-- else some replies answer the events
replied : {S : Type 0} (m : PlainMachine S) (s : S) (bodies answers : List (List ℕ)) (t : S) → InTurn (SilentMay m) s bodies answers t →
    (replies : List (List ℕ)) × Answers m s (map event_of bodies) replies t
replied m s [] [] t p = ([], p)
replied {S} m s (body ∷ bodies) (answer ∷ answers) t p = go p.1.0 (replied m p.0 bodies answers t p.1.1)
  where
    go : ((answer ≡ []) × (p.0 ≡ m.step s (event_of body))) ⊎ ((answer ≡ no_memory) × (m.is_sure (event_of body) ≡ false) × (p.0 ≡ s))
        → (replies : List (List ℕ)) × Answers m p.0 (map event_of bodies) replies t → (replies : List (List ℕ))
        × Answers m s (map event_of (body ∷ bodies)) replies t
    go (inl a) rest = (m.reply s (event_of body) ∷ rest.0, inl (refl, subst (λ u. Answers m u (map event_of bodies) rest.0 t) a.1 rest.1))
    go (inr b) rest = (no_memory ∷ rest.0, inr (refl, b.1, subst (λ u. Answers m u (map event_of bodies) rest.0 t) b.2 rest.1))
replied m s [] (answer ∷ answers) t p = absurd p
replied m s (body ∷ bodies) [] t p = absurd p

leads : {S : Type 0} (m : PlainMachine S) (most : ℕ) (status : Status) (s : S) (bodies answers : List (List ℕ)) (t : S) →
    InTurn (SilentMay m) s bodies answers t → shape_within most status [] [] (concat answers)
    → Leads m status s (map event_of bodies) t
leads m most WriteFault s bodies answers t p given = replied m s bodies answers t p
leads m most Ok s bodies answers t p given = plain m s bodies answers t p (sym given)
leads m most Usage s bodies answers t p given = plain m s bodies answers t p (sym given)
leads m most ReadFault s bodies answers t p given = plain m s bodies answers t p (sym given)
leads m most Cut s bodies answers t p given = plain m s bodies answers t p (sym given)
leads m most (LongFrame len) s bodies answers t p given = plain m s bodies answers t p (sym given)
leads m most NoMemory s bodies answers t p given = plain m s bodies answers t p (sym given)
leads m most GateFault s bodies answers t p given = plain m s bodies answers t p (sym given)
leads m most DialFault s bodies answers t p given = plain m s bodies answers t p (sym given)
leads m most Spent s bodies answers t p given = plain m s bodies answers t p (sym given)
leads m most DiskFault s bodies answers t p given = plain m s bodies answers t p (sym given)
leads m most BadExport s bodies answers t p given = plain m s bodies answers t p (sym given)
leads m most (NoState x) s bodies answers t p given = plain m s bodies answers t p (sym given)

-- bodies that were answered silently led somewhere
pub led : {S : Type 0} (m : PlainMachine S) (most : ℕ) (status : Status) (to : S → Type 0) (s : S) (bodies : List (List ℕ)) →
    AnsweredBy (SilentMay m) (shape_within most status) to (Some []) (Some []) [] [] s bodies
    → Led m status to s (map event_of bodies)
led m most status to s bodies a = record { state = a.state; leads = leads m most status s bodies a.answers a.state a.each a.given; stands = a.stands }

-- an outcome says the same of what follows
pub outcome-weaker : {S : Type 0} (status : Status) (from : S → Type 0) (P Q : S → List (List ℕ) → Type 0) (first left : List ℕ) →
    ((s : S) (bodies : List (List ℕ)) → P s bodies → Q s bodies)
    → Outcome status from P first left → Outcome status from Q first left
outcome-weaker status from P Q first left f o = record {
  bodies = o.bodies;
  held = o.held;
  read = o.read;
  answered = λ s g. f s o.bodies (o.answered s g);
  ends = o.ends;
  spent = o.spent;
  front = o.front;
  whole = o.whole;
}

-- without memory nothing was read or asked
pub unled : {S : Type 0} (m : PlainMachine S) (stands : S → Type 0) (first : List ℕ) →
    Outcome NoMemory stands (λ s bodies. Led m NoMemory stands s (map event_of bodies)) first first
unled m stands first = record {
  bodies = [];
  held = [];
  read = record { whole = refl; each = tt };
  answered = λ s e. record { state = s; leads = refl; stands = e };
  ends = (refl, refl, refl);
  spent = λ e. absurd (omega (arith, e));
  front = λ all rest cut. (all, refl);
  whole = λ all rest cut. tt;
}

-- plain replies answer the events
pub plainly : {S : Type 0} (m : PlainMachine S) (s : S) (es : List Event) (t : S) → t ≡ state_after m s es → (replies : List (List ℕ))
    × Answers m s es replies t
plainly m s [] t e = ([], e)
plainly m s (e ∷ es) t is = let rest = plainly m (m.step s e) es t is in (m.reply s e ∷ rest.0, inl (refl, rest.1))
