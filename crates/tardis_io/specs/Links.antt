-- Links, and what hands them out: what a gate and a dial may tell.
use Rattle.std.specs.Prelude.{◌≡◌, ℕ, ◌+◌, ◌-◌, ◌<◌, List, [], ◌∷◌, ◌++◌, Option, Some, None, Result, Ok, Err}
use Rattle.tardis_io.specs.declared.faults.Failed.{Failed}

-- what a gate tells: the links that are left, those that were put back with the numbers of their sessions, and how many
-- were handed out and not put back
pub record ToldGate (L : Type 0) : Type 0 where
  pub left : List L
  pub back : List (ℕ × L)
  pub out : ℕ

-- what a dial tells: the links that are left, those that were put back, how many were handed out and not put back, and the
-- addresses that it was asked for, oldest first, where it tells these
pub record ToldDial (L : Type 0) : Type 0 where
  pub left : List L
  pub back : List L
  pub out : ℕ
  pub asked : Option (List (List ℕ))

-- One address more was asked for, where they are told. A dial may stop telling them, and then tells none again.
abbrev pub AsksFor : Option (List (List ℕ)) → Option (List (List ℕ)) → List ℕ → Type 0
AsksFor None None address = Unit {0}
AsksFor (Some old) None address = Unit {0}
AsksFor None (Some new) address = ⊥
AsksFor (Some old) (Some new) address = new ≡ old ++ address ∷ []

module _ {L : Type 0} where
  -- the first link that was left is handed out, and none only where none was left
  abbrev pub HandsOne : ToldGate L → ToldGate L → Result (Option L) Failed → Type 0
  HandsOne old new (Ok (Some link)) = (old.left ≡ link ∷ new.left) × (new.back ≡ old.back) × (new.out ≡ old.out + 1)
  HandsOne old new (Ok None) = (old.left ≡ []) × (new ≡ old)
  HandsOne old new (Err e) = new ≡ old

  abbrev pub HandsNext : Option (ToldGate L) → Option (ToldGate L) → Result (Option L) Failed → Type 0
  HandsNext None None result = Unit {0}
  HandsNext (Some old) (Some new) result = HandsOne old new result
  HandsNext None (Some new) result = ⊥
  HandsNext (Some old) None result = ⊥

  -- where links are told, one is out
  abbrev pub IsOut : Option (ToldGate L) → Type 0
  IsOut None = Unit {0}
  IsOut (Some t) = 0 < t.out

  -- one more was put back, with this number
  abbrev pub with_back : Option (ToldGate L) → ℕ → L → Option (ToldGate L)
  with_back None session link = None
  with_back (Some t) session link = Some (record { left = t.left; back = t.back ++ ((session, link) ∷ []); out = t.out - 1 })

  -- the address was asked for, and the first link that was left is handed out, or none
  abbrev pub CallsOne : ToldDial L → ToldDial L → List ℕ → Result L Failed → Type 0
  CallsOne old new address (Ok link) = (old.left ≡ link ∷ new.left) × (new.back ≡ old.back) × (new.out ≡ old.out + 1)
      × AsksFor old.asked new.asked address
  CallsOne old new address (Err e) = (new.left ≡ old.left) × (new.back ≡ old.back) × (new.out ≡ old.out) × AsksFor old.asked new.asked address

  abbrev pub HandsCalled : Option (ToldDial L) → Option (ToldDial L) → List ℕ → Result L Failed → Type 0
  HandsCalled None None address result = Unit {0}
  HandsCalled (Some old) (Some new) address result = CallsOne old new address result
  HandsCalled None (Some new) address result = ⊥
  HandsCalled (Some old) None address result = ⊥

  abbrev pub IsCalled : Option (ToldDial L) → Type 0
  IsCalled None = Unit {0}
  IsCalled (Some t) = 0 < t.out

  -- one more was put back
  abbrev pub with_hung : Option (ToldDial L) → L → Option (ToldDial L)
  with_hung None link = None
  with_hung (Some t) link = Some (record { left = t.left; back = t.back ++ (link ∷ []); out = t.out - 1; asked = t.asked })
