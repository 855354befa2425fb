-- What a landing means to the transaction that commits there.
use Rattle.std.specs.Prelude.{◌≡◌, ℕ, List, IsTrue}
use Rattle.tardis_base.specs.declared.ids.StateId.{StateId}
use Rattle.tardis_base.specs.declared.records.Record.{Record}
use Rattle.tardis_base.specs.declared.requests.EndFlags.{EndFlags}
use Rattle.tardis_base.specs.Keys.{is_key_among}
use Rattle.plain_dag.specs.Above.{is_above}
use Rattle.plain_dag.specs.Writers.{is_writer, read}
use Rattle.plain_dag.specs.Landing.{is_ser, is_si}

-- a transaction that read at x may land at y: with SER each key that it read reads the same at y as at x; with SI each
-- state at or above y that writes a key that it wrote is at or above x
pub record IsTrueAt (rs : List Record) (flags : EndFlags) (reads written : List (List ℕ)) (x y : StateId) : Type 0 where
  pub same_reads : IsTrue (is_ser flags) → (k : List ℕ) → IsTrue (is_key_among k reads) → read rs k y ≡ read rs k x
  pub no_writes : IsTrue (is_si flags) → (k : List ℕ) (w : StateId) → IsTrue (is_key_among k written) → IsTrue (is_writer rs k y w) → IsTrue (is_above rs w x)
