use Rattle.std.proofs.Common.{◌≡◌, ◌+◌, ◌<◌, ℕ, length, get_or}
use Rattle.plain_dag.specs.Floors.{floor_of}
use Rattle.ceiling_book.specs.Book.{floors_of}
use Rattle.rest_site.proofs.notes.numbers.Given as goal

abbrev pub invariant-loop-place : goal.invariant-loop-place
invariant-loop-place l = record {
  room : length l.numbers ≡ 16;
  so_far : (i : ℕ) → i < l.place → get_or l.numbers i 0 ≡ (floor_of (floors_of l.book) (i + 1)).number;
}
