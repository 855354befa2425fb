-- Requests that are lent from their bytes.
use Rattle.std.proofs.Common.{◌≡◌, ℕ, ◌≤◌, nat_le, Bool, true, false, ◌==◌, IsTrue, List, [], ◌∷◌, length, Option, Some, None, ap, sym, ◌∙◌, refl, arith}
use Rattle.std.proofs.Common.{eqb-true}
use Rattle.std.specs.Prelude.{option_and_then}
use Rattle.std.specs.Bool.{then_some}
use Rattle.std.proofs.lemmas.Bool.{and_from, and_parts, le-leb, leb-true}
use Rattle.tardis_base.specs.Valid.{is_within}
use Rattle.tardis_base.specs.declared.requests.Request.{Request}
use Rattle.tardis_base.specs.declared.requests.Request.TheVariants.{Open, Begin as BeginAt, Get, Put, Delete, Commit, Abort, BeginMerge, ForkPoints}
use Rattle.tardis_base.specs.declared.requests.Request.TheVariants.{Conflicts, GetFor, Ceiling, Raise, RaiseAuto, Tidy, Stat, Show, Leaves, Pull, Deliver}
use Rattle.tardis_base.specs.declared.requests.Request.TheVariants.{Close, Settle}
use Rattle.wire_item.specs.Fronts.{Front, made, only_if, front_of_code}
use Rattle.wire_item.specs.Readings.{u8_front}
use Rattle.wire_item.specs.Takings.{Takes}
use Rattle.wire_item.proofs.Codes.{code-none, code-read}
use Rattle.wire_item.proofs.Fronts.{only_if-read, only_if-source, made-source, some-parts}
use Rattle.wire_item.proofs.Laws.{spelled-whole, whole-read, whole-source, whole-spelled}
use Rattle.wire_item.proofs.Takings.{only_if-none, only_if-fails, taken, untaken}
use Rattle.wire_talk.specs.Codes.{code_of}
use Rattle.talk_bytes.specs.Lent.{is_lendable}
use Rattle.wire_talk.specs.RequestReadings.{request_front, request_rows}
use Rattle.wire_talk.specs.Spelled.{SpellsRequest}
use Rattle.talk_bytes.proofs.RequestCodes.{code-at}
use Rattle.wire_talk.proofs.Requests.{reads-request}

-- the requests that are lent are those with the codes 2 to 6
lendable-code : (q : Request) → is_lendable q ≡ is_within 2 6 (code_of q)
lendable-code (Open follow) = refl
lendable-code (BeginAt begin) = refl
lendable-code (Get key) = refl
lendable-code (Put key value) = refl
lendable-code (Delete key) = refl
lendable-code (Commit flags k) = refl
lendable-code Abort = refl
lendable-code (BeginMerge of) = refl
lendable-code ForkPoints = refl
lendable-code (Conflicts after) = refl
lendable-code (GetFor key state) = refl
lendable-code (Ceiling state) = refl
lendable-code (Raise state) = refl
lendable-code RaiseAuto = refl
lendable-code (Tidy n) = refl
lendable-code Stat = refl
lendable-code (Show state) = refl
lendable-code Leaves = refl
lendable-code (Pull counts) = refl
lendable-code (Deliver item) = refl
lendable-code Close = refl
lendable-code Settle = refl

-- a request that stands behind such a code is lent, and no other
lendable-behind : (code : ℕ) (old : List ℕ) (q : Request) (new : List ℕ) → front_of_code code request_rows old ≡ Some (q, new) →
    is_lendable q ≡ is_within 2 6 code
lendable-behind code old q new e = lendable-code q ∙ ap (is_within 2 6) (code-at q code old new e)

-- the arm of a code whose request is lent
pub arm-lent : {A : Type 0} (k code : ℕ) (f : A → Request) (front : Front A) (old : List ℕ) (o : Option Request) (new : List ℕ)
    → code ≡ k → front_of_code k request_rows ≡ made f front → ((a : A) → IsTrue (is_lendable (f a))) → Takes (made f front) old o new
    → Takes (only_if is_lendable (front_of_code code request_rows)) old o new
unfolding Takes
arm-lent k code f front old None new e row each t =
    only_if-none is_lendable (front_of_code code request_rows) old (ap (λ j. front_of_code j request_rows old) e ∙ ap (λ g. g old) row ∙ t)
arm-lent k code f front old (Some q) new e row each t =
    let source = made-source f front old q new t in
    only_if-read is_lendable (front_of_code code request_rows) old q new (ap (λ j. front_of_code j request_rows old) e ∙ ap (λ g. g old) row ∙ t)
    (ap is_lendable (sym source.is) ∙ each source.source)

out_of : (code : ℕ) → ((m : ℕ) → 2 ≤ m → m ≤ 6 → m ≡ code → ⊥) → (t : Bool) → is_within 2 6 code ≡ t → is_within 2 6 code ≡ false
out_of code other true e =
    let parts = and_parts (nat_le 2 code) (nat_le code 6) e in
    absurd (other code (leb-true 2 code parts.0) (leb-true code 6 parts.1) refl)
out_of code other false e = e

-- the arm of the other codes
pub arm-other : (code : ℕ) (old new : List ℕ) → ((m : ℕ) → 2 ≤ m → m ≤ 6 → m ≡ code → ⊥) →
    Takes (only_if is_lendable (front_of_code code request_rows)) old None new
unfolding Takes
arm-other code old new other = go (front_of_code code request_rows old) refl
  where
    go : (o : Option (Request × List ℕ)) → front_of_code code request_rows old ≡ o → only_if is_lendable (front_of_code code request_rows) old ≡ None
    go None e = only_if-none is_lendable (front_of_code code request_rows) old e
    go (Some read) e =
        only_if-fails is_lendable (front_of_code code request_rows) old read.0 read.1 e
        (lendable-behind code old read.0 read.1 e ∙ out_of code other (is_within 2 6 code) refl)

-- where none is lent behind such a code, no request stands there
pub behind-none : (code : ℕ) (old new : List ℕ) → IsTrue (is_within 2 6 code) → Takes (only_if is_lendable (front_of_code code request_rows)) old None new
    → front_of_code code request_rows old ≡ None
behind-none code old new within t = go (front_of_code code request_rows old) refl
  where
    clash : (q : Request) (rest : List ℕ) → ◌≡◌ {A = Option (Request × List ℕ)} None (Some (q, rest)) → ⊥
    clash q rest e = absurd (cc)

    go : (o : Option (Request × List ℕ)) → front_of_code code request_rows old ≡ o → front_of_code code request_rows old ≡ None
    go None e = e
    go (Some read) e =
        absurd (clash read.0 read.1
        (sym (untaken (only_if is_lendable (front_of_code code request_rows)) old new t)
        ∙ only_if-read is_lendable (front_of_code code request_rows) old read.0 read.1 e (lendable-behind code old read.0 read.1 e ∙ within)))

-- where one is lent, it stands there
pub behind-some : (code : ℕ) (old : List ℕ) (q : Request) (new : List ℕ) → Takes (only_if is_lendable (front_of_code code request_rows)) old (Some q) new
    → front_of_code code request_rows old ≡ Some (q, new)
behind-some code old q new t =
    (only_if-source is_lendable (front_of_code code request_rows) old q new (taken (only_if is_lendable (front_of_code code request_rows)) old new q t)).0

-- each request that can be lent and is spelled is read to the end of its bytes
lendable-read : (bytes : List ℕ) (q : Request) → SpellsRequest bytes q → IsTrue (is_lendable q) → only_if is_lendable request_front bytes ≡ Some (q, [])
lendable-read bytes q spelled lendable =
    only_if-read is_lendable request_front bytes q [] (whole-source request_front bytes q (spelled-whole reads-request bytes q spelled)) lendable

unread : (bytes : List ℕ) (q : Request) → SpellsRequest bytes q → IsTrue (is_lendable q) → only_if is_lendable request_front bytes ≡ None → ⊥
unread bytes q spelled lendable none =
    let read = lendable-read bytes q spelled lendable in
    absurd (cc)

-- bytes with no code spell none
pub no-code : (bytes new : List ℕ) (q : Request) → Takes u8_front bytes None new → SpellsRequest bytes q → IsTrue (is_lendable q) → ⊥
no-code bytes new q code spelled lendable =
    unread bytes q spelled lendable (only_if-none is_lendable request_front bytes (code-none request_rows bytes refl (untaken u8_front bytes new code)))

-- what is lent stands behind the code
behind : (bytes mid : List ℕ) (code : ℕ) → Takes u8_front bytes (Some code) mid → only_if is_lendable request_front bytes
    ≡ only_if is_lendable (front_of_code code request_rows) mid
behind bytes mid code t =
    ap (option_and_then (λ read. then_some (is_lendable read.0) read)) (code-read request_rows bytes code mid (taken u8_front bytes mid code t))

-- bytes with no fields behind the code spell none
pub no-fields : (bytes mid new : List ℕ) (code : ℕ) (q : Request) → Takes u8_front bytes (Some code) mid
    → Takes (only_if is_lendable (front_of_code code request_rows)) mid None new → SpellsRequest bytes q → IsTrue (is_lendable q) → ⊥
no-fields bytes mid new code q t none spelled lendable =
    unread bytes q spelled lendable (behind bytes mid code t ∙ untaken (only_if is_lendable (front_of_code code request_rows)) mid new none)

empty : (left : List ℕ) → (length left == 0) ≡ true → left ≡ []
empty [] e = refl
empty (x ∷ left) e = absurd (omega (arith, eqb-true (length (x ∷ left)) 0 e))

-- the request to whose end the bytes are read is spelled
pub all-read : (bytes mid new : List ℕ) (code : ℕ) (q : Request) → Takes u8_front bytes (Some code) mid
    → Takes (only_if is_lendable (front_of_code code request_rows)) mid (Some q) new → (length new == 0) ≡ true → SpellsRequest bytes q
all-read bytes mid new code q t f done =
    whole-spelled reads-request bytes q
    (whole-read request_front bytes q
    (code-read request_rows bytes code mid (taken u8_front bytes mid code t) ∙ behind-some code mid q new f ∙ ap (λ z. Some (q, z)) (empty new done)))

-- bytes that are left over spell none
pub left-over : (bytes mid new : List ℕ) (code : ℕ) (q r : Request) → Takes u8_front bytes (Some code) mid
    → Takes (only_if is_lendable (front_of_code code request_rows)) mid (Some r) new → (length new == 0) ≡ false → SpellsRequest bytes q →
    IsTrue (is_lendable q) → ⊥
left-over bytes mid new code q r t f more spelled lendable =
    let read = lendable-read bytes q spelled lendable in
    let same = some-parts r q new [] (sym (behind bytes mid code t ∙ taken (only_if is_lendable (front_of_code code request_rows)) mid new r f) ∙ read) in
    go new same.1 more
  where
    go : (left : List ℕ) → left ≡ [] → (length left == 0) ≡ false → ⊥
    go [] e more = absurd (cc)
    go (x ∷ left) e more = absurd (cc)

-- the code is that of a request that is lent
pub within : (code : ℕ) → 2 ≤ code → code ≤ 6 → IsTrue (is_within 2 6 code)
within code low high = and_from (nat_le 2 code) (nat_le code 6) (le-leb 2 code low) (le-leb code 6 high)
