-- The code of a marker: a call of the machine, with what it takes in a0, a1 and a2. After the end of
-- a region there is a label.
use Rattle.std.specs.Prelude.{ℕ, List, [], ◌∷◌, ◌++◌, pos}
use Rattle.rv_code.specs.declared.instr.Instr.{Instr}
use Rattle.rv_code.specs.declared.instr.Instr.TheVariants as instr
use Rattle.low_labels.specs.Operation.{Operation}
use Rattle.low_labels.specs.Operation as op
use Rattle.c_tree.specs.declared.tree.Count.{Count}
use Rattle.c_tree.specs.declared.tree.Count.TheVariants as amount
use Rattle.c_tree.specs.declared.tree.Marker.{Marker}
use Rattle.c_tree.specs.declared.tree.Marker.TheVariants as marker
use Rattle.c_tree.specs.Expr as expr
use Rattle.c_tree.specs.declared.place.Place.{Place}
use Rattle.c_semantics.specs.Names.{Names, home_of}
use Rattle.low_expr.specs.Registers.{t0, a0}
use Rattle.low_expr.specs.CodePieces.{all_do, constant, home_address, read_by}
use Rattle.low_expr.specs.ExprCode.{held_in, machine_call}

-- the second and the third argument
abbrev pub a1 : ℕ
a1 = 11

abbrev pub a2 : ℕ
a2 = 12

-- how many labels a marker takes
abbrev pub labels_in_marker : Marker → ℕ
labels_in_marker (marker.End k) = 1
labels_in_marker m = 0

module _ (names : Names) where
  -- what a variable holds into a register, or an array's address
  abbrev pub take_variable : (rd : ℕ) → List ℕ → Place → List Instr
  take_variable rd name at =
      home_address (home_of (names name))
      ++ (read_by (held_in names (expr.Name name at)) t0 ++ instr.Addi rd t0 (pos 0) ∷ [])

  abbrev pub take_count : Count → List Instr
  take_count (amount.Number n) = constant a2 n
  take_count (amount.Name name at) = take_variable a2 name at

  abbrev pub marker_code : (label : ℕ) → Marker → List Operation
  marker_code label (marker.Begin k) = all_do (constant a0 k) ++ machine_call 3
  marker_code label (marker.End k) =
      all_do (constant a0 k) ++ (machine_call 4 ++ op.Mark label ∷ [])
  marker_code label (marker.Post channel name at count) =
      all_do (take_variable a1 name at ++ (take_count count ++ constant a0 channel))
      ++ machine_call 5
  marker_code label (marker.Wait channel) = all_do (constant a0 channel) ++ machine_call 6
