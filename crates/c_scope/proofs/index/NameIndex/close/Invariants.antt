use Rattle.std.proofs.Common.{◌≡◌, ℕ, List, is_some}
use Rattle.std.specs.List.Sorted.{IsStrictlySortedBy}
use Rattle.c_scope.specs.BlockNames.{frame_of}
use Rattle.c_scope.specs.private.Index.{numbers_of, without_last_if}
use Rattle.c_scope.proofs.Closing.{is_key}
use Rattle.c_scope.proofs.Keys.{vec_cmp}
use Rattle.c_scope.proofs.index.NameIndex.close.Given as goal

abbrev pub invariant-loop-name : goal.invariant-loop-name
invariant-loop-name g l = record {
  left : (name : List ℕ) → without_last_if (is_key name l.name-iterator) (numbers_of l.self name)
      ≡ without_last_if (is_some (frame_of l.block name)) (numbers_of l.initial.self name);
  rising : IsStrictlySortedBy vec_cmp l.name-iterator;
}
