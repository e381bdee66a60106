-- The open blocks that declare a name, by their numbers.
use Rattle.std.specs.Prelude.{◌≡◌, ℕ, ◌-◌, suc, Bool, true, false, List, [], ◌∷◌, ◌++◌, length, take, None, is_some, if◌then◌else◌, bytes_eq}
use Rattle.std.specs.Ordering.{nat_cmp}
use Rattle.std.specs.Option.{option_map_or}
use Rattle.std.specs.Cmp.Lexicographic.{slice_cmp}
use Rattle.std.specs.BTreeMap.{get_by}
use Rattle.c_tree.specs.Blocks.{Frame}
use Rattle.c_scope.specs.declared.index.NameIndex.{NameIndex}

-- those that the index has for a name
abbrev pub numbers_of : NameIndex → List ℕ → List ℕ
numbers_of index name = option_map_or (λ numbers. numbers.items)
    (get_by (λ key. slice_cmp nat_cmp name key.items) index.numbers) []

-- a block's number, if the block counts
abbrev pub number_if : Bool → ℕ → List ℕ
number_if true number = number ∷ []
number_if false number = []

-- without the last number, if a block is closed that has it
abbrev pub without_last_if : Bool → List ℕ → List ℕ
without_last_if true numbers = take (length numbers - 1) numbers
without_last_if false numbers = numbers

-- the numbers of the blocks that declare a name, counted from `number` on; the outermost comes first
abbrev pub declaring : {A : Type 0} → ℕ → List (Frame A) → List ℕ → List ℕ
declaring number [] name = []
declaring number (frame ∷ frames) name =
    number_if (is_some (frame name)) number ++ declaring (suc number) frames name

-- for each name, the index has the numbers of the blocks that declare it
abbrev pub IsIndexOf : {A : Type 0} → List (Frame A) → NameIndex → Type 0
IsIndexOf frames index = (name : List ℕ) → numbers_of index name ≡ declaring 0 frames name

-- without a name
abbrev pub unbound : {A : Type 0} → List ℕ → Frame A → Frame A
unbound name frame = λ other. if bytes_eq name other then None else frame other
