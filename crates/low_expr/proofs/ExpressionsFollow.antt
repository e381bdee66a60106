-- The code of an expression follows its meaning.
use Rattle.std.proofs.Common.{◌≡◌, ℕ, suc, ◌+◌, ◌^◌, ◌<◌, ◌≤◌, List, [], ◌∷◌, ◌++◌, length, refl, sym, ap, ◌∙◌, subst, arith, Option, All}
use Rattle.bop_bits.specs.declared.map.TheConstants.{CODE_WORDS}
use Rattle.c_tree.specs.declared.limits.TheConstants.{END_OF_FILE}
use Rattle.c_tree.specs.declared.operator.Binary.TheVariants as binary
use Rattle.c_tree.specs.declared.operator.Unary.{Unary}
use Rattle.c_tree.specs.declared.operator.Unary.TheVariants as unary
use Rattle.c_tree.specs.declared.place.Place.{Place}
use Rattle.c_tree.specs.declared.tree.Callee.{Callee}
use Rattle.c_tree.specs.declared.tree.Callee.TheVariants as callee
use Rattle.c_tree.specs.Expr.{Expr, Exprs}
use Rattle.c_tree.specs.Expr as expr
use Rattle.c_tree.specs.Groups.{group, is_logic}
use Rattle.c_tree.specs.Arithmetic.{converted, unary_word}
use Rattle.c_layout.specs.Slots.{slots as slots_of, slots_from}
use Rattle.c_semantics.specs.declared.kind.Operand.{Operand}
use Rattle.c_semantics.specs.declared.kind.Operand.TheVariants.{Signed}
use Rattle.c_semantics.specs.Run.{Run, pure, count, ◌>>=◌, ◌>>◌}
use Rattle.c_semantics.specs.Memory.{value_at}
use Rattle.c_semantics.specs.Names.{Names, Definition, home_of, definition_of}
use Rattle.c_semantics.specs.Eval.{Calls, enter, eval, address, arguments, called, call, outcome, is_unsigned, binary_act, strict, combined, assigned, unary_value_run, step_operator, step_value, place_of}
use Rattle.c_semantics.specs.Evaluated.{count_of_arguments}
use Rattle.c_semantics.proofs.RunLemmas.{assoc, assoc_two}
use Rattle.low_labels.specs.Operation.{Operation, width_of}
use Rattle.low_labels.specs.Operation as op
use Rattle.low_labels.specs.Placed.{HasAt}
use Rattle.low_expr.specs.CodePieces.{nothing, read_by}
use Rattle.low_expr.specs.Operators.{binary_code, unary_code, cast_code}
use Rattle.low_expr.specs.ExprCode.{expr_code, place_code, arguments_code, call_code, on_one, on_two, step_code, assign_code, labels_in, operand_in, held_in}
use Rattle.low_expr.specs.Following.{CallsFollow}
use Rattle.low_expr.specs.Readiness.{IsReady, IsReadyPlace, AreReady, TakesArguments}
use Rattle.low_expr.proofs.KeptValues.{width-append, has_front, has_back}
use Rattle.low_expr.proofs.ValueNodes.{Part}
use Rattle.low_expr.proofs.Leaves.{constant_follows, address_follows, name_follows}
use Rattle.low_expr.proofs.OperatorNodes.{pointee_acts, unary_acts, cast_acts, binary_acts, element_acts}
use Rattle.low_expr.proofs.WritingNodes.{step_acts, assign_acts}
use Rattle.low_expr.proofs.BranchLemmas.{nothing_acts}
use Rattle.low_expr.proofs.ConditionalNodes.{conditional_follows}
use Rattle.low_expr.proofs.ArgumentNodes.{ArgumentsPart, CallPart, CallAct, no_arguments, more_arguments, call_follows, given_follows}
use Rattle.low_expr.proofs.MachineCallNodes.{putchar_acts, getchar_acts}
use Rattle.low_expr.proofs.FunctionCallNodes.{function_acts}
use Rattle.low_expr.proofs.AboveOperands.{slots_positive, room_of_arguments, IfThere, above_one, above_two, binary_follows}

module _ (code input : List ℕ) (short : length code ≤ CODE_WORDS)
    (bytes : All (λ b. b < 2 ^ 8) input)
    (labels : ℕ → ℕ) (functions : List ℕ → ℕ) (defined : List ℕ → Option Definition) (calls : Calls)
    (names : Names) (frame slots m : ℕ)
    (follow : CallsFollow code input labels functions defined calls m) where
  -- the code of an expression and its meaning
  abbrev ValueFollows : (e : Expr) (slot label i : ℕ) → Type 0
  ValueFollows e slot label i =
      IfThere code input short labels frame slots m slot i (expr_code functions names e slot label)
      (eval input calls names e)

  abbrev AddressFollows : (e : Expr) (slot label i : ℕ) → Type 0
  AddressFollows e slot label i =
      IfThere code input short labels frame slots m slot i
      (place_code functions names e slot label) (address input calls names e)

  -- what a call does once its arguments are in their slots
  callee_acts : (name : Callee) (slot i k : ℕ) → slot < slots → slot + k ≤ slots
      → TakesArguments defined names name k
      → HasAt code labels i (call_code functions names name k slot)
      → CallAct code input short labels frame slots slot m i
      (i + width_of (call_code functions names name k slot)) k (called input calls names name)
  callee_acts (callee.Name name) slot i k lt room takes has =
      let same : calls takes.definition ≡ (λ vs. enter calls (definition_of (names name)) vs) = ap (λ o. λ vs. enter calls o vs) (sym takes.is) in
      subst (CallAct code input short labels frame slots slot m i
      (i + width_of (call_code functions names (callee.Name name) k slot)) k) same
      (function_acts code input short labels frame slots functions defined calls name
      takes.definition slot m i k follow takes.has_code takes.parameters takes.few lt room has)
  callee_acts callee.Getchar slot i k lt room takes has =
      subst (λ z. CallAct code input short labels frame slots slot m i
      (i + width_of (call_code functions names callee.Getchar k slot)) z
      (λ vs. called input calls names callee.Getchar vs)) (sym takes)
      (getchar_acts code input short labels frame slots slot m i bytes lt has)
  callee_acts callee.Putchar slot i k lt room takes has =
      subst (λ z. CallAct code input short labels frame slots slot m i
      (i + width_of (call_code functions names callee.Putchar k slot)) z
      (λ vs. called input calls names callee.Putchar vs)) (sym takes)
      (putchar_acts code input short labels frame slots slot m i lt has)

  -- `+ - ! ~`
  value_follows : (o : Unary) (a : Expr) (slot label i : ℕ) (at : Place) → slot < slots
      → HasAt code labels i (expr_code functions names a slot label ++ on_one slot (unary_code o))
      → ValueFollows a slot label i
      → Part code input short labels frame slots slot m i
      (i + width_of (expr_code functions names a slot label ++ on_one slot (unary_code o)))
      (unary_value_run o (operand_in names a) at (eval input calls names a))
  value_follows o a slot label i at lt has fa =
      let u = is_unsigned (operand_in names a) in
      above_one code input short labels frame slots m slot i
      (expr_code functions names a slot label) (on_one slot (unary_code o))
      (eval input calls names a) (λ x. outcome (unary_word o u x) at) has fa
      (λ q. unary_acts code input short labels frame slots o u slot
      (i + width_of (expr_code functions names a slot label)) at lt q)

  -- `a[b]` as a sum and then a read
  element_shape : (c d : Operand) (at : Place) (ra rb : Run ℕ) (f : ℕ → Run ℕ)
      → (strict binary.Plus c d at ra rb >>= f)
      ≡ (ra >>= λ x. rb >>= λ y. count >> (binary_act binary.Plus c d x y at >>= f))
  element_shape c d at ra rb f =
      assoc_two rb (λ x y. count >> binary_act binary.Plus c d x y at) f ra
      ∙ ap (λ (g : ℕ → ℕ → Run ℕ). ra >>= λ x. rb >>= g x)
      (λ i x y. assoc count (λ u. binary_act binary.Plus c d x y at) f i)

  -- a call, whose value may be used or not, with the code of its arguments
  call_part : (name : Callee) (all : Exprs) (slot label i : ℕ) (at : Place)
      → IsReady defined names (expr.Call name all at)
      → slot + slots_of (expr.Call name all at) ≤ slots
      → HasAt code labels i (expr_code functions names (expr.Call name all at) slot label)
      → ArgumentsPart code input short labels frame slots slot m i
      (i + width_of (arguments_code functions names all slot label)) (count_of_arguments all)
      (arguments input calls names all)
      → CallPart code input short labels frame slots slot m i
      (i + width_of (expr_code functions names (expr.Call name all at) slot label))
      (call (arguments input calls names all) (called input calls names name))
  call_part name all slot label i at ready room has row_follows =
      let row = arguments_code functions names all slot label in
      let k = count_of_arguments all in
      let last = call_code functions names name k slot in
      let mid = i + width_of row in
      let e : mid + width_of last ≡ i + width_of (row ++ last) = omega (arith, width-append row last) in
      let fits : slot + k ≤ slots = omega (arith, room_of_arguments all slot 0 slots (omega arith) (omega arith)) in
      call_follows code input short labels frame slots slot m i mid (i + width_of (row ++ last)) k
      (arguments input calls names all) (called input calls names name) row_follows
      (subst (λ z. CallAct code input short labels frame slots slot m mid z k
      (called input calls names name)) e
      (callee_acts name slot mid k (omega arith) fits ready.1
      (has_back code labels i row last has)))

  mutual
    pub expr_follows : (e : Expr) (slot label i : ℕ) → IsReady defined names e
        → slot + slots_of e ≤ slots → ValueFollows e slot label i
    expr_follows (expr.Name name at) slot label i ready room has =
        name_follows code input short labels frame slots slot m i (home_of (names name))
        (held_in names (expr.Name name at)) at (omega arith) ready has
    expr_follows (expr.Number shape n at) slot label i ready room has =
        constant_follows code input short labels frame slots slot m i n (omega arith) ready has
    expr_follows (expr.Character c at) slot label i ready room has =
        constant_follows code input short labels frame slots slot m i c (omega arith) ready has
    expr_follows (expr.Eof at) slot label i ready room has =
        constant_follows code input short labels frame slots slot m i END_OF_FILE (omega arith)
        (omega arith) has
    expr_follows (expr.Unary unary.At a at) slot label i ready room has =
        let h = held_in names (expr.Unary unary.At a at) in
        let p = slots_positive a in
        above_one code input short labels frame slots m slot i
        (expr_code functions names a slot label) (on_one slot (read_by h 5))
        (eval input calls names a) (λ x. value_at h x at) has
        (expr_follows a slot label i ready room)
        (λ q. pointee_acts code input short labels frame slots h slot
        (i + width_of (expr_code functions names a slot label)) at (omega (arith, p)) q)
    expr_follows (expr.Unary unary.Address a at) slot label i ready room has =
        let p = slots_positive a in
        above_one code input short labels frame slots m slot i
        (place_code functions names a slot label) (op.Do nothing ∷ [])
        (address input calls names a) (λ x. pure x) has
        (place_follows a slot label i ready room)
        (λ q. nothing_acts code input short labels frame slots slot
        (i + width_of (place_code functions names a slot label)) (omega (arith, p)) q)
    expr_follows (expr.Unary o a at) slot label i ready room has =
        value_follows o a slot label i at (omega (arith, slots_positive a)) has
        (expr_follows a slot label i ready room)
    expr_follows (expr.Step how a at) slot label i ready room has =
        let c = operand_in names a in
        let h = held_in names a in
        let p = slots_positive a in
        above_one code input short labels frame slots m slot i
        (place_code functions names a slot label) (step_code how c h slot)
        (address input calls names a)
        (λ x. combined (step_operator how) c Signed h (place_of a) at x 1
        >>= λ both. pure (step_value how both.0 both.1)) has
        (place_follows a slot label i ready.0 room)
        (λ q. step_acts code input short labels frame slots how c h slot
        (i + width_of (place_code functions names a slot label)) (place_of a) at ready.1
        (omega (arith, p)) q)
    expr_follows (expr.Cast to a at) slot label i ready room has =
        let p = slots_positive a in
        above_one code input short labels frame slots m slot i
        (expr_code functions names a slot label) (on_one slot (cast_code to))
        (eval input calls names a) (λ x. pure (converted to x)) has
        (expr_follows a slot label i ready room)
        (λ q. cast_acts code input short labels frame slots to slot
        (i + width_of (expr_code functions names a slot label)) (omega (arith, p)) q)
    expr_follows (expr.Binary o a b at) slot label i ready room has =
        binary_follows code input short labels frame slots m (is_logic (group o)) o
        (operand_in names a) (operand_in names b) slot (label + labels_in a) i (slots_of a)
        (slots_of b) at
        (expr_code functions names a slot label)
        (expr_code functions names b slot (label + labels_in a + 1))
        (expr_code functions names b (slot + 1) (label + labels_in a))
        (eval input calls names a) (eval input calls names b) refl ready.2 ready.3
        (slots_positive a) (slots_positive b) room has
        (λ r. expr_follows a slot label i ready.0 r)
        (λ j r. expr_follows b slot (label + labels_in a + 1) j ready.1 r)
        (λ j r. expr_follows b (slot + 1) (label + labels_in a) j ready.1 r)
    expr_follows (expr.Conditional c a b at) slot label i ready room has =
        let p = slots_positive c in
        conditional_follows code input short labels frame slots slot m i (label + labels_in c)
        (expr_code functions names c slot label)
        (expr_code functions names a slot (label + labels_in c + 2))
        (expr_code functions names b slot (label + labels_in c + 2 + labels_in a))
        (eval input calls names c) (eval input calls names a) (eval input calls names b)
        (omega (arith, p)) has
        (expr_follows c slot label i ready.0 (omega arith)
        (has_front code labels i (expr_code functions names c slot label) _ has))
        (λ j e h. expr_follows a slot (label + labels_in c + 2) j ready.1 (omega arith) h)
        (λ j e h. expr_follows b slot (label + labels_in c + 2 + labels_in a) j ready.2
        (omega arith) h)
    expr_follows (expr.Assign how a b at) slot label i ready room has =
        let c = operand_in names a in
        let d = operand_in names b in
        let h = held_in names a in
        let p = slots_positive b in
        let ca = place_code functions names a slot label in
        let cb = expr_code functions names b (slot + 1) (label + labels_in a) in
        above_two code input short labels frame slots m slot i ca cb (assign_code how c d h slot)
        (address input calls names a) (eval input calls names b)
        (λ x v. assigned how c d h (place_of a) at x v) (omega (arith, p)) has
        (place_follows a slot label i ready.0 (omega arith))
        (expr_follows b (slot + 1) (label + labels_in a) (i + width_of ca) ready.1 (omega arith))
        (λ q. assign_acts code input short labels frame slots how c d h slot
        (i + width_of ca + width_of cb) (place_of a) at ready.2 ready.3 (omega (arith, p)) q)
    expr_follows (expr.Index a b at) slot label i ready room has =
        let c = operand_in names a in
        let d = operand_in names b in
        let h = held_in names (expr.Index a b at) in
        let p = slots_positive b in
        let ca = expr_code functions names a slot label in
        let cb = expr_code functions names b (slot + 1) (label + labels_in a) in
        subst (Part code input short labels frame slots slot m i
        (i + width_of (expr_code functions names (expr.Index a b at) slot label)))
        (sym (element_shape c d at (eval input calls names a) (eval input calls names b)
        (λ x. value_at h x at)))
        (above_two code input short labels frame slots m slot i ca cb
        (on_two slot (binary_code binary.Plus c d ++ read_by h 5)) (eval input calls names a)
        (eval input calls names b)
        (λ x y. binary_act binary.Plus c d x y at >>= λ z. value_at h z at)
        (omega (arith, p)) has
        (expr_follows a slot label i ready.0 (omega arith))
        (expr_follows b (slot + 1) (label + labels_in a) (i + width_of ca) ready.1 (omega arith))
        (λ q. element_acts code input short labels frame slots c d h slot
        (i + width_of ca + width_of cb) at ready.2 ready.3 (omega (arith, p)) q))
    expr_follows (expr.Call name all at) slot label i ready room has =
        λ store n s le pc a f.
        given_follows frame slot at
        (call (arguments input calls names all) (called input calls names name) store n)
        (call_part name all slot label i at ready room has
        (arguments_follow all slot label i slot 0 ready.0 (omega arith) (omega arith)
        (has_front code labels i (arguments_code functions names all slot label) _ has))
        store n s le pc a f)

    pub arguments_follow : (all : Exprs) (slot label i base k : ℕ) → AreReady defined names all
        → slot ≡ base + k → base + slots_from k all ≤ slots
        → HasAt code labels i (arguments_code functions names all slot label)
        → ArgumentsPart code input short labels frame slots slot m i
        (i + width_of (arguments_code functions names all slot label)) (count_of_arguments all)
        (arguments input calls names all)
    arguments_follow expr.NoMore slot label i base k ready is room has =
        let e : i ≡ i + 0 = omega arith in
        subst (λ z. ArgumentsPart code input short labels frame slots slot m i z 0
        (arguments input calls names expr.NoMore)) e
        (no_arguments code input short labels frame slots slot m i)
    arguments_follow (expr.More x rest) slot label i base k ready is room has =
        let cx = expr_code functions names x slot label in
        let cr = arguments_code functions names rest (slot + 1) (label + labels_in x) in
        let p = slots_positive x in
        let e : i + width_of cx + width_of cr ≡ i + width_of (cx ++ cr) = omega (arith, width-append cx cr) in
        subst (λ z. ArgumentsPart code input short labels frame slots slot m i z
        (suc (count_of_arguments rest)) (arguments input calls names (expr.More x rest))) e
        (more_arguments code input short labels frame slots slot m i (i + width_of cx)
        (i + width_of cx + width_of cr) (count_of_arguments rest) (eval input calls names x)
        (arguments input calls names rest) (omega (arith, p))
        (expr_follows x slot label i ready.0 (omega arith) (has_front code labels i cx cr has))
        (arguments_follow rest (slot + 1) (label + labels_in x) (i + width_of cx) base
        (1 + k) ready.1 (omega arith) (omega arith) (has_back code labels i cx cr has)))

    pub place_follows : (e : Expr) (slot label i : ℕ) → IsReadyPlace defined names e
        → slot + slots_of e ≤ slots → AddressFollows e slot label i
    place_follows (expr.Name name at) slot label i ready room has =
        address_follows code input short labels frame slots slot m i (home_of (names name))
        (omega arith) ready has
    place_follows (expr.Unary unary.At a at) slot label i ready room has =
        let p = slots_positive a in
        above_one code input short labels frame slots m slot i
        (expr_code functions names a slot label) (op.Do nothing ∷ [])
        (eval input calls names a) (λ x. pure x) has
        (expr_follows a slot label i ready room)
        (λ q. nothing_acts code input short labels frame slots slot
        (i + width_of (expr_code functions names a slot label)) (omega (arith, p)) q)
    place_follows (expr.Index a b at) slot label i ready room has =
        let c = operand_in names a in
        let d = operand_in names b in
        let p = slots_positive b in
        let ca = expr_code functions names a slot label in
        let cb = expr_code functions names b (slot + 1) (label + labels_in a) in
        above_two code input short labels frame slots m slot i ca cb
        (on_two slot (binary_code binary.Plus c d)) (eval input calls names a)
        (eval input calls names b) (λ x y. binary_act binary.Plus c d x y at)
        (omega (arith, p)) has
        (expr_follows a slot label i ready.0 (omega arith))
        (expr_follows b (slot + 1) (label + labels_in a) (i + width_of ca) ready.1 (omega arith))
        (λ q. binary_acts code input short labels frame slots binary.Plus c d slot
        (i + width_of ca + width_of cb) at ready.2 ready.3 (omega (arith, p)) q)
    place_follows e slot label i ready room has = absurd ready

  -- the code of a call, whose value may be used or not
  pub called_follows : (name : Callee) (all : Exprs) (slot label i : ℕ) (at : Place)
      → IsReady defined names (expr.Call name all at)
      → slot + slots_of (expr.Call name all at) ≤ slots
      → HasAt code labels i (expr_code functions names (expr.Call name all at) slot label)
      → CallPart code input short labels frame slots slot m i
      (i + width_of (expr_code functions names (expr.Call name all at) slot label))
      (call (arguments input calls names all) (called input calls names name))
  called_follows name all slot label i at ready room has =
      call_part name all slot label i at ready room has
      (arguments_follow all slot label i slot 0 ready.0 (omega arith) (omega arith)
      (has_front code labels i (arguments_code functions names all slot label) _ has))
