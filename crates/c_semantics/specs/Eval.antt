-- The value of an expression, with what its evaluation does (C11 6.5): one step is counted at each node, behind its operands and before its own act.
use Rattle.std.specs.Prelude.{ℕ, ◌%◌, ◌^◌, ◌==◌, Bool, true, false, not, ◌&&◌, ◌||◌, List, [], ◌∷◌, ◌++◌, ◌+◌, Option, Some, None, Ok, Err, if◌then◌else◌, slice_get, ℤ, pos, neg_ℤ}
use Rattle.c_tree.specs.declared.limits.TheConstants.{END_OF_FILE}
use Rattle.c_tree.specs.declared.operator.Binary.{Binary}
use Rattle.c_tree.specs.declared.operator.Binary.TheVariants as binary
use Rattle.c_tree.specs.declared.operator.Group.{Group}
use Rattle.c_tree.specs.declared.operator.Group.TheVariants as by
use Rattle.c_tree.specs.declared.operator.Step.{Step}
use Rattle.c_tree.specs.declared.operator.Step.TheVariants.{RaiseFirst, LowerFirst, RaiseLast, LowerLast}
use Rattle.c_tree.specs.declared.operator.Unary.{Unary}
use Rattle.c_tree.specs.declared.operator.Unary.TheVariants as unary
use Rattle.c_tree.specs.declared.place.Place.{Place}
use Rattle.c_tree.specs.declared.tree.Callee.{Callee}
use Rattle.c_tree.specs.declared.tree.Callee.TheVariants as callee
use Rattle.c_tree.specs.declared.undefined.Undefined.TheVariants.{NoValue}
use Rattle.c_tree.specs.Expr.{Expr, Exprs}
use Rattle.c_tree.specs.Expr as expr
use Rattle.c_tree.specs.Groups.{group, is_logic, is_order, is_shift, decides}
use Rattle.c_tree.specs.Typing.{type_at}
use Rattle.c_tree.specs.Arithmetic.{Outcome, signed, truth, unary_word, binary_word, converted}
use Rattle.c_semantics.specs.declared.kind.Held.{Held}
use Rattle.c_semantics.specs.declared.kind.Operand.{Operand}
use Rattle.c_semantics.specs.declared.kind.Operand.TheVariants.{Signed, Unsigned, Pointer}
use Rattle.c_semantics.specs.Run.{Run, pure, ◌>>=◌, ◌>>◌, count, undefined, given_or, now, change}
use Rattle.c_semantics.specs.Memory.{value_at, store_at}
use Rattle.c_semantics.specs.Pointers.{along, moved, distance}
use Rattle.c_semantics.specs.Names.{Names, Definition, types, address_of, home_of, definition_of, held_by, operand_by}

-- a call of a function with its arguments; it may end without a value
abbrev pub Calls : Type 0
Calls = Definition → List ℕ → Run (Option ℕ)

-- a function that is never defined is called in no text that is accepted
abbrev pub enter : Calls → Option Definition → List ℕ → Run (Option ℕ)
enter calls None vs = pure None
enter calls (Some definition) vs = calls definition vs

-- the place of a node
abbrev pub place_of : Expr → Place
place_of (expr.Name name at) = at
place_of (expr.Number shape n at) = at
place_of (expr.Character code at) = at
place_of (expr.Eof at) = at
place_of (expr.Unary op a at) = at
place_of (expr.Step how a at) = at
place_of (expr.Cast to a at) = at
place_of (expr.Binary op a b at) = at
place_of (expr.Conditional c a b at) = at
place_of (expr.Assign how a b at) = at
place_of (expr.Index a b at) = at
place_of (expr.Call callee all at) = at

-- what arithmetic comes to
abbrev pub outcome : Outcome → Place → Run ℕ
outcome (Ok word) at = pure word
outcome (Err act) at = undefined act at

abbrev pub is_unsigned : Operand → Bool
is_unsigned Signed = false
is_unsigned Unsigned = true
is_unsigned (Pointer size) = true

-- the number that an integer's word stands for
abbrev pub amount : Operand → ℕ → ℤ
amount Signed x = signed x
amount Unsigned x = pos x
amount (Pointer size) x = pos x

-- between two integers; a shift takes its sign from the left one
abbrev pub arithmetic : Binary → Operand → Operand → ℕ → ℕ → Place → Run ℕ
arithmetic op c d x y at =
    outcome (binary_word op (is_unsigned c || (not (is_shift (group op)) && is_unsigned d)) x y) at

-- between two pointers: equality is always defined, an order along one object alone
abbrev pub compared : Binary → ℕ → ℕ → Place → Run ℕ
compared op x y at = if is_order (group op)
    then along (pos x) (pos y) x at >> outcome (binary_word op true x y) at
    else outcome (binary_word op true x y) at

abbrev pub sum : Binary → Operand → Operand → ℕ → ℕ → Place → Run ℕ
sum op (Pointer size) d x y at = moved size (amount d y) x at
sum op c (Pointer size) x y at = moved size (amount c x) y at
sum op c d x y at = arithmetic op c d x y at

abbrev pub difference : Binary → Operand → Operand → ℕ → ℕ → Place → Run ℕ
difference op (Pointer size) (Pointer other) x y at = distance size x y at
difference op (Pointer size) d x y at = moved size (neg_ℤ (amount d y)) x at
difference op c d x y at = arithmetic op c d x y at

abbrev pub other_act : Binary → Operand → Operand → ℕ → ℕ → Place → Run ℕ
other_act op (Pointer size) d x y at = compared op x y at
other_act op c d x y at = arithmetic op c d x y at

abbrev pub group_act : Group → Binary → Operand → Operand → ℕ → ℕ → Place → Run ℕ
group_act by.Sum op c d x y at = sum op c d x y at
group_act by.Difference op c d x y at = difference op c d x y at
group_act _ op c d x y at = other_act op c d x y at

-- what an operator does with two values (6.5.5 to 6.5.12)
abbrev pub binary_act : Binary → Operand → Operand → ℕ → ℕ → Place → Run ℕ
binary_act op c d x y at = group_act (group op) op c d x y at

-- `&&` and `||` evaluate the right operand only where the left one doesn't decide (6.5.13, 6.5.14)
abbrev pub logic : Binary → Run ℕ → Run ℕ → Run ℕ
logic op a b = do
  x ← a
  y ← (if decides (group op) x then pure x else b)
  count
  pure (truth (not (y == 0)))

abbrev pub strict : Binary → Operand → Operand → Place → Run ℕ → Run ℕ → Run ℕ
strict op c d at a b = do
  x ← a
  y ← b
  count
  binary_act op c d x y at

abbrev pub binary_run : Binary → Operand → Operand → Place → Run ℕ → Run ℕ → Run ℕ
binary_run op c d at a b = if is_logic (group op) then logic op a b else strict op c d at a b

-- `*a` (6.5.3.2)
abbrev pub pointee : Held → Place → Run ℕ → Run ℕ
pointee h at a = do
  x ← a
  count
  value_at h x at

-- `&a` (6.5.3.2), by the address of a
abbrev pub address_taken : Run ℕ → Run ℕ
address_taken place = do
  x ← place
  count
  pure x

abbrev pub unary_value_run : Unary → Operand → Place → Run ℕ → Run ℕ
unary_value_run op c at a = do
  x ← a
  count
  outcome (unary_word op (is_unsigned c) x) at

-- 6.5.3; the operand's value, and its address
abbrev pub unary_run : Unary → Operand → Held → Place → Run ℕ → Run ℕ → Run ℕ
unary_run unary.At c h at a place = pointee h at a
unary_run unary.Address c h at a place = address_taken place
unary_run op c h at a place = unary_value_run op c at a

abbrev pub step_operator : Step → Binary
step_operator RaiseFirst = binary.Plus
step_operator RaiseLast = binary.Plus
step_operator LowerFirst = binary.Minus
step_operator LowerLast = binary.Minus

-- the old value, or the new one
abbrev pub step_value : Step → ℕ → ℕ → ℕ
step_value RaiseFirst old new = new
step_value LowerFirst old new = new
step_value RaiseLast old new = old
step_value LowerLast old new = old

-- what an object holds is combined with a value and stored; the read is the place's own (6.5.16.2)
abbrev pub combined : Binary → Operand → Operand → Held → Place → Place → ℕ → ℕ → Run (ℕ × ℕ)
combined op c d h own at x v = do
  old ← value_at h x own
  w ← binary_act op c d old v at
  new ← store_at h x w at
  pure (old, new)

-- `++ --` (6.5.2.4, 6.5.3.1), by the address of the operand
abbrev pub stepped : Step → Operand → Held → Place → Place → Run ℕ → Run ℕ
stepped how c h own at place = do
  x ← place
  count
  both ← combined (step_operator how) c Signed h own at x 1
  pure (step_value how both.0 both.1)

-- an assignment (6.5.16): first the left side's address, then the right side, then what was there, then the store
abbrev pub assigned : Option Binary → Operand → Operand → Held → Place → Place → ℕ → ℕ → Run ℕ
assigned None c d h own at x v = store_at h x v at
assigned (Some op) c d h own at x v = do
  both ← combined op c d h own at x v
  pure both.1

abbrev pub assign_run : Option Binary → Operand → Operand → Held → Place → Place → Run ℕ → Run ℕ
    → Run ℕ
assign_run how c d h own at place value = do
  x ← place
  v ← value
  count
  assigned how c d h own at x v

-- `c ? a : b` (6.5.15)
abbrev pub conditional_run : Run ℕ → Run ℕ → Run ℕ → Run ℕ
conditional_run c a b = do
  x ← c
  v ← (if x == 0 then b else a)
  count
  pure v

abbrev pub taken : Option ℕ → Run (Option ℕ)
taken None = pure (Some END_OF_FILE)
taken (Some byte) = do
  store ← now
  change (record store { cursor = store.cursor + 1 })
  pure (Some byte)

-- the next byte of the input, or -1 at its end
abbrev pub getchar : List ℕ → Run (Option ℕ)
getchar input = do
  store ← now
  taken (slice_get input store.cursor)

abbrev pub first_of : List ℕ → ℕ
first_of [] = 0
first_of (v ∷ vs) = v

-- a number's lowest byte is put out
abbrev pub put : ℕ → Run (Option ℕ)
put byte = do
  store ← now
  change (record store { output = store.output ++ byte ∷ [] })
  pure (Some byte)

abbrev pub putchar : List ℕ → Run (Option ℕ)
putchar vs = put (first_of vs % 2 ^ 8)

-- first the arguments, then the function, which converts each to its parameter's type (6.5.2.2)
abbrev pub call : Run (List ℕ) → (List ℕ → Run (Option ℕ)) → Run (Option ℕ)
call all function = do
  vs ← all
  count
  function vs

module _ (input : List ℕ) (calls : Calls) (names : Names) where
  abbrev pub operand_in : Expr → Operand
  operand_in e = operand_by (type_at (types names) e)

  abbrev pub held_in : Expr → Held
  held_in e = held_by (type_at (types names) e)

  -- what a call names
  abbrev pub called : Callee → List ℕ → Run (Option ℕ)
  called (callee.Name name) vs = enter calls (definition_of (names name)) vs
  called callee.Getchar vs = getchar input
  called callee.Putchar vs = putchar vs

  abbrev mutual
    pub eval : Expr → Run ℕ
    eval (expr.Name name at) = do
      count
      x ← address_of (home_of (names name))
      value_at (held_in (expr.Name name at)) x at
    eval (expr.Number shape n at) = do
      count
      pure n
    eval (expr.Character code at) = do
      count
      pure code
    eval (expr.Eof at) = do
      count
      pure END_OF_FILE
    eval (expr.Unary op a at) =
        unary_run op (operand_in a) (held_in (expr.Unary op a at)) at (eval a) (address a)
    eval (expr.Step how a at) = stepped how (operand_in a) (held_in a) (place_of a) at (address a)
    eval (expr.Cast to a at) = do
      x ← eval a
      count
      pure (converted to x)
    eval (expr.Binary op a b at) = binary_run op (operand_in a) (operand_in b) at (eval a) (eval b)
    eval (expr.Conditional c a b at) = conditional_run (eval c) (eval a) (eval b)
    eval (expr.Assign how a b at) =
        assign_run how (operand_in a) (operand_in b) (held_in a) (place_of a) at (address a)
        (eval b)
    eval (expr.Index a b at) = do
      x ← strict binary.Plus (operand_in a) (operand_in b) at (eval a) (eval b)
      value_at (held_in (expr.Index a b at)) x at
    eval (expr.Call callee all at) = do
      v ← call (arguments all) (called callee)
      given_or NoValue at v

    -- the address of a place: a name, `*a` or `a[b]` (6.3.2.1)
    pub address : Expr → Run ℕ
    address (expr.Name name at) = do
      count
      address_of (home_of (names name))
    address (expr.Unary op a at) = do
      x ← eval a
      count
      pure x
    address (expr.Index a b at) =
        strict binary.Plus (operand_in a) (operand_in b) at (eval a) (eval b)
    address e = pure 0

    pub arguments : Exprs → Run (List ℕ)
    arguments expr.NoMore = pure []
    arguments (expr.More e rest) = do
      v ← eval e
      vs ← arguments rest
      pure (v ∷ vs)

  -- an expression whose value isn't used (6.8.3)
  abbrev pub unused : Expr → Run (Unit {0})
  unused (expr.Call callee all at) = call (arguments all) (called callee) >> pure tt
  unused e = eval e >> pure tt
