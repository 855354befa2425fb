-- What an arm of a code gives, where its fields are read.
use Rattle.std.proofs.Common.{◌≡◌, ℕ, Bool, true, false, ◌==◌, ◌≤◌, IsTrue, List, [], ◌∷◌, nat_lt, Option, Some, None, if◌then◌else◌, ap, sym, subst, ◌∙◌, refl}
use Rattle.std.proofs.Common.{arith, ne_eqb, ltb-true}
use Rattle.std.proofs.lemmas.Bool.{and_parts}
use Rattle.std.specs.List.{list_all}
use Rattle.std.specs.Prelude.{Result, Ok, Err, IfOk, option_map}
use Rattle.tardis_base.specs.declared.faults.NoMemory.{NoMemory}
use Rattle.wire_item.specs.Fronts.{Front, both, made, front_of_code, by_code}
use Rattle.wire_item.specs.Readings.{u8_front}
use Rattle.wire_item.specs.Takings.{Takes, Makes}
use Rattle.wire_item.proofs.Fronts.{Made, made-read, made-source}
use Rattle.wire_item.proofs.Takings.{taken, untaken, takes, takes-none, making, makes, makes-none, made-none, after-none, after-then_none, after-then}
use Rattle.wire_item.proofs.Codes.{code-read}

-- no row has a code as great as this
pub front-beyond : {A : Type 0} (bound : ℕ) (rows : List (ℕ × Front A)) (code : ℕ) (bytes : List ℕ)
    → IsTrue (list_all (λ row. nat_lt row.0 bound) rows) → bound ≤ code → front_of_code code rows bytes ≡ None
front-beyond bound [] code bytes h e = refl
front-beyond bound (row ∷ rows) code bytes h e =
    let parts = and_parts (nat_lt row.0 bound) (list_all (λ row. nat_lt row.0 bound) rows) h in
    let other : (row.0 == code) ≡ false = ne_eqb row.0 code (λ same. omega (arith, same, ltb-true row.0 bound parts.0, e)) in
    ap (λ t. (if t then row.1 else front_of_code code rows) bytes) other ∙ front-beyond bound rows code bytes parts.1 e

-- a code, and what was made behind it
pub makes-coded : {A : Type 0} (rows : List (ℕ × Front A)) (old : List ℕ) (code : ℕ) (mid : List ℕ) (result : Option (Result A NoMemory)) (new : List ℕ)
    → u8_front old ≡ Some (code, mid) → Makes (front_of_code code rows) mid result new → Makes (by_code rows) old result new
unfolding Makes
makes-coded rows old code mid None new e m = code-read rows old code mid e ∙ m
makes-coded rows old code mid (Some result) new e m = (m.0, code-read rows old code mid e ∙ m.1, m.2)

-- the arm of a code with no fields
pub arm-plain : {B : Type 0} (rows : List (ℕ × Front B)) (k code : ℕ) (b : B) (old : List ℕ)
    → code ≡ k → front_of_code k rows old ≡ Some (b, old) → Makes (front_of_code code rows) old (Some (Ok b)) old
arm-plain rows k code b old e row = makes (front_of_code code rows) old old (Ok b) b (ap (λ j. front_of_code j rows old) e ∙ row) refl

-- the arm of a code whose fields are not there
pub arm-none : {A B : Type 0} (rows : List (ℕ × Front B)) (k code : ℕ) (f : A → B) (front : Front A) (old new : List ℕ) (r : Option (Result B NoMemory))
    → code ≡ k → front_of_code k rows ≡ made f front → r ≡ None → front old ≡ None → Makes (front_of_code code rows) old r new
arm-none rows k code f front old new r e row none t =
    makes-none (front_of_code code rows) old new r none (ap (λ j. front_of_code j rows old) e ∙ ap (λ g. g old) row ∙ made-none f front old t)

-- the arm of a code whose fields take memory
pub arm-makes : {A B : Type 0} (rows : List (ℕ × Front B)) (k code : ℕ) (f : A → B) (front : Front A) (old new : List ℕ) (x : Result A NoMemory)
    (r : Result B NoMemory)
    → code ≡ k → front_of_code k rows ≡ made f front → Makes front old (Some x) new → ((a : A) → IfOk x (λ y. y ≡ a) → IfOk r (λ y. y ≡ f a))
    → Makes (front_of_code code rows) old (Some r) new
arm-makes rows k code f front old new x r e row m made-of =
    let read = making front old new x m in
    makes (front_of_code code rows) old new r (f read.0)
    (ap (λ j. front_of_code j rows old) e ∙ ap (λ g. g old) row ∙ made-read f front old read.0 new read.1) (made-of read.0 read.2)

-- the arm of a code whose fields always take memory
pub arm-sure : {A B : Type 0} (rows : List (ℕ × Front B)) (k code : ℕ) (f : A → B) (front : Front A) (sure : B → Bool) → ((a : A) → sure (f a) ≡ false)
    → (old : List ℕ) (b : B) (rest : List ℕ) → code ≡ k → front_of_code k rows ≡ made f front → front_of_code code rows old ≡ Some (b, rest) →
    IsTrue (sure b) → ⊥
arm-sure rows k code f front sure takes old b rest e row read is =
    let m = made-source f front old b rest (sym (ap (λ j. front_of_code j rows old) e ∙ ap (λ g. g old) row) ∙ read) in
    true-not-false (sure b) is (sym (ap sure m.is) ∙ takes m.source)
  where
    true-not-false : (t : Bool) → t ≡ true → t ≡ false → ⊥
    true-not-false t p q = absurd (cc)

-- the thing from which the arm of a code made another
pub arm-source : {A B : Type 0} (rows : List (ℕ × Front B)) (k code : ℕ) (f : A → B) (front : Front A) (old : List ℕ) (b : B) (rest : List ℕ)
    → code ≡ k → front_of_code k rows ≡ made f front → front_of_code code rows old ≡ Some (b, rest) → Made f front old b rest
arm-source rows k code f front old b rest e row read = made-source f front old b rest (sym (ap (λ j. front_of_code j rows old) e ∙ ap (λ g. g old) row) ∙ read)

-- the arm of a code with no fields, where no memory is wanting
pub arm-bare : {B : Type 0} (rows : List (ℕ × Front B)) (k code : ℕ) (b : B) (old : List ℕ)
    → code ≡ k → front_of_code k rows old ≡ Some (b, old) → Takes (front_of_code code rows) old (Some b) old
arm-bare rows k code b old e row = takes (front_of_code code rows) old old b (ap (λ j. front_of_code j rows old) e ∙ row)

-- the arm of a code whose fields are not there, where no memory is wanting
pub arm-lost : {A B : Type 0} (rows : List (ℕ × Front B)) (k code : ℕ) (f : A → B) (front : Front A) (old new : List ℕ) (r : Option B)
    → code ≡ k → front_of_code k rows ≡ made f front → r ≡ None → Takes front old None new → Takes (front_of_code code rows) old r new
arm-lost rows k code f front old new r e row none t =
    takes-none (front_of_code code rows) old new r none
    (ap (λ j. front_of_code j rows old) e ∙ ap (λ g. g old) row ∙ made-none f front old (untaken front old new t))

-- the arm of a code whose fields are there, where no memory is wanting
pub arm-read : {A B : Type 0} (rows : List (ℕ × Front B)) (k code : ℕ) (f : A → B) (front : Front A) (old : List ℕ) (a : A) (new : List ℕ)
    → code ≡ k → front_of_code k rows ≡ made f front → Takes front old (Some a) new → Takes (front_of_code code rows) old (Some (f a)) new
arm-read rows k code f front old a new e row t =
    takes (front_of_code code rows) old new (f a)
    (ap (λ j. front_of_code j rows old) e ∙ ap (λ g. g old) row ∙ made-read f front old a new (taken front old new a t))

-- what was taken, where no memory is wanting
pub sure-makes : {A : Type 0} (front : Front A) (old new : List ℕ) (x : Option A) (r : Option (Result A NoMemory)) → r ≡ option_map Ok x →
    Takes front old x new → Makes front old r new
sure-makes front old new None r e t = makes-none front old new r e (untaken front old new t)
sure-makes front old new (Some a) r e t = subst (λ z. Makes front old z new) (sym e) (makes front old new (Ok a) a (taken front old new a t) refl)

pub sure-arm : {B : Type 0} (rows : List (ℕ × Front B)) (k code : ℕ) (front : Front B) (old new : List ℕ) (x : Option B) (r : Option (Result B NoMemory))
    → code ≡ k → front_of_code k rows ≡ front → r ≡ option_map Ok x → Takes front old x new → Makes (front_of_code code rows) old r new
sure-arm rows k code front old new x r e row is t =
    subst (λ f. Makes f old r new) (sym (ap (λ j. front_of_code j rows) e ∙ row)) (sure-makes front old new x r is t)

pub sure-free : {A : Type 0} (x : Option A) (r : Option (Result A NoMemory)) (e : NoMemory) → r ≡ option_map Ok x → r ≡ Some (Err e) → ⊥
sure-free None r e is fault = absurd (cc)
sure-free (Some a) r e is fault = absurd (cc)

-- the arm of a code, where a function reads what stands behind it
pub arm-behind : {B : Type 0} (rows : List (ℕ × Front B)) (k code : ℕ) (old : List ℕ) (r : Option B) (new : List ℕ)
    → code ≡ k → Takes (front_of_code k rows) old r new → Takes (front_of_code code rows) old r new
arm-behind rows k code old r new e t = subst (λ j. Takes (front_of_code j rows) old r new) (sym e) t

-- two things, of which the first is not there
pub both-lost : {A B : Type 0} (first : Front A) (second : Front B) (old new : List ℕ) → Takes first old None new → Takes (both first second) old None new
both-lost first second old new t =
    takes-none (both first second) old new None refl (after-none first (λ _. second) old (untaken first old new t))

-- two things, of which the second is not there
pub both-lost-later : {A B : Type 0} (first : Front A) (second : Front B) (old : List ℕ) (a : A) (mid new : List ℕ)
    → Takes first old (Some a) mid → Takes second mid None new → Takes (both first second) old None new
both-lost-later first second old a mid new t u =
    takes-none (both first second) old new None refl
    (after-then_none first (λ _. second) old a mid (taken first old mid a t) (untaken second mid new u))

-- two things that are there
pub both-read : {A B : Type 0} (first : Front A) (second : Front B) (old : List ℕ) (a : A) (mid : List ℕ) (b : B) (new : List ℕ)
    → Takes first old (Some a) mid → Takes second mid (Some b) new → Takes (both first second) old (Some (a, b)) new
both-read first second old a mid b new t u =
    takes (both first second) old new (a, b)
    (after-then first (λ _. second) old a mid b new (taken first old mid a t) (taken second mid new b u))
