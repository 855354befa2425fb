-- The code with which the bytes of a request begin.
use Rattle.std.proofs.Common.{◌≡◌, ℕ, ◌==◌, Bool, not, IsTrue, List, [], ◌∷◌, ◌++◌, Some, sym, ap, refl, ◌∙◌}
use Rattle.std.specs.List.{list_any}
use Rattle.tardis_base.specs.declared.requests.Request.{Request}
use Rattle.tardis_base.specs.declared.requests.Request.TheVariants.{Open, Begin as BeginAt, Get, Put, Delete, Commit, Abort, BeginMerge, ForkPoints}
use Rattle.tardis_base.specs.declared.requests.Request.TheVariants.{Conflicts, GetFor, Ceiling, Raise, RaiseAuto, Tidy, Stat, Show, Leaves, Pull, Deliver}
use Rattle.tardis_base.specs.declared.requests.Request.TheVariants.{Close, Settle}
use Rattle.wire_item.specs.Fronts.{front_of_code}
use Rattle.wire_item.specs.Readings.{u8_front}
use Rattle.wire_item.proofs.Laws.{whole-spelled}
use Rattle.wire_item.proofs.Numbers.{reads-u8}
use Rattle.wire_talk.specs.Codes.{code_of}
use Rattle.wire_talk.specs.Memory.{takes_no_memory}
use Rattle.wire_talk.specs.RequestReadings.{request_of, request_rows}
use Rattle.wire_talk.proofs.Requests.{reads-request}
use Rattle.wire_talk.proofs.Laws.{codes}

first-same : (x y : ℕ) (xs ys : List ℕ) → ◌≡◌ {A = List ℕ} (x ∷ xs) (y ∷ ys) → x ≡ y
first-same x y xs ys e = cc

-- the first byte of the bytes that are read as a request is its code
pub code-is : (q : Request) (old : List ℕ) (code : ℕ) (mid : List ℕ) → request_of old ≡ Some q → u8_front old ≡ Some (code, mid) → code_of q ≡ code
code-is q old code mid e f =
    first-same (code_of q) code (codes q).0 mid (sym (codes q).1 ∙ sym (whole-spelled reads-request old q e).1 ∙ (reads-u8.only old code mid f).1)

-- a request that stands behind a code has that code
pub code-at : (q : Request) (code : ℕ) (mid left : List ℕ) → front_of_code code request_rows mid ≡ Some (q, left) → code_of q ≡ code
code-at q code mid left e =
    first-same (code_of q) code ((codes q).0 ++ left) mid (sym (ap (λ z. z ++ left) (codes q).1) ∙ sym (reads-request.only (code ∷ mid) q left e).1)

-- the codes of the requests that are read without memory
abbrev takes_none : ℕ → Bool
takes_none code = not (list_any (λ taking. taking == code) (3 ∷ 4 ∷ 5 ∷ 8 ∷ 10 ∷ 11 ∷ 19 ∷ 20 ∷ []))

takes-code : (q : Request) → takes_no_memory q ≡ takes_none (code_of q)
takes-code (Open follow) = refl
takes-code (BeginAt begin) = refl
takes-code (Get key) = refl
takes-code (Put key value) = refl
takes-code (Delete key) = refl
takes-code (Commit flags k) = refl
takes-code Abort = refl
takes-code (BeginMerge of) = refl
takes-code ForkPoints = refl
takes-code (Conflicts after) = refl
takes-code (GetFor key state) = refl
takes-code (Ceiling state) = refl
takes-code (Raise state) = refl
takes-code RaiseAuto = refl
takes-code (Tidy n) = refl
takes-code Stat = refl
takes-code (Show state) = refl
takes-code Leaves = refl
takes-code (Pull counts) = refl
takes-code (Deliver item) = refl
takes-code Close = refl
takes-code Settle = refl

-- what stands behind a code is read without memory where another request of that code is
pub takes-same : (q r : Request) (code : ℕ) (mid left : List ℕ) → code_of q ≡ code → front_of_code code request_rows mid ≡ Some (r, left) →
    IsTrue (takes_no_memory q) → IsTrue (takes_no_memory r)
takes-same q r code mid left is read free = takes-code r ∙ ap takes_none (code-at r code mid left read ∙ sym is) ∙ sym (takes-code q) ∙ free
