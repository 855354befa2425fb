-- What is passed over.
use Rattle.std.proofs.Common.{◌≡◌, ℕ, Bool, true, false, List, Some, None, Result, Err, ◌∙◌, refl}
use Rattle.tardis_base.specs.declared.faults.NoMemory.{NoMemory}
use Rattle.wire_item.specs.Fronts.{Front, made, only_if}
use Rattle.tardis_base.specs.declared.records.Record.{Record}
use Rattle.wire_item.specs.Readings.{records_front, consents_front, batch_front}
use Rattle.wire_item.specs.Takings.{Makes}
use Rattle.wire_item.proofs.Fronts.{only_if-read, made-read}
use Rattle.wire_item.proofs.Takings.{makes, makes-none, making, unmade, made-none, only_if-fails}
use Rattle.shell_text.specs.Passing.{read_if}

abbrev pub lacking : {A : Type 0} → Result A NoMemory
lacking = Err (record {})

-- what was read is passed where it passes a test
pub if-passes : {A : Type 0} (test : A → Bool) (front : Front A) (old new : List ℕ) (a : A) (t : Bool) → front old ≡ Some (a, new) → test a ≡ t
    → Makes (only_if test front) old (read_if t) new
if-passes test front old new a true e h = makes (only_if test front) old new lacking a (only_if-read test front old a new e h) tt
if-passes test front old new a false e h = makes-none (only_if test front) old new None refl (only_if-fails test front old a new e h)

pub passed-at : {A B : Type 0} (whole : Front B) (front : Front A) (f : A → B) (old mid new : List ℕ) (t : Bool) → whole old ≡ made f front mid
    → Makes front mid (read_if t) new → Makes whole old (read_if t) new
passed-at whole front f old mid new true e m =
    let read = making front mid new lacking m in
    makes whole old new lacking (f read.0) (e ∙ made-read f front mid read.0 new read.1) tt
passed-at whole front f old mid new false e m = makes-none whole old new None refl (e ∙ made-none f front mid (unmade front mid new m))

pub batch-passed : (old mid new : List ℕ) (rs : List Record) (t : Bool) → records_front old ≡ Some (rs, mid) → Makes consents_front mid (read_if t) new →
    Makes batch_front old (read_if t) new
batch-passed old mid new rs true e m =
    let read = making consents_front mid new lacking m in
    let cs = read.1 in
    makes batch_front old new lacking (record { records = rs; consents = read.0 }) (rw (e, cs) refl) tt
batch-passed old mid new rs false e m =
    let none = unmade consents_front mid new m in
    makes-none batch_front old new None refl (rw (e, none) refl)
