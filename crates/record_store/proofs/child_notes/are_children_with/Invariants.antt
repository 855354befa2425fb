use Rattle.std.proofs.Common.{take, IsTrue}
use Rattle.std.specs.List.{list_all}
use Rattle.record_store.specs.ChildNotes.{is_child_with}
use Rattle.record_store.proofs.child_notes.are_children_with.Given as goal

abbrev pub invariant-loop-child : goal.invariant-loop-child
invariant-loop-child l = IsTrue (list_all (is_child_with l.dag l.versions l.parent l.key) (take l.child-index l.children))
