-- Of an expression and its first operand: the code is that of the operand and what is above it, and
-- so are the labels; the operand is ready, and takes no more slots.
use Rattle.std.proofs.Common.{◌≡◌, ℕ, zero, suc, ◌+◌, ◌≤◌, List, [], ◌∷◌, ◌++◌, Bool, true, false, Option, refl, ap, sym, arith, max, append_assoc, append-nil}
use Rattle.std.specs.Prelude.{if◌then◌else◌}
use Rattle.c_tree.specs.declared.operator.Binary.{Binary}
use Rattle.c_tree.specs.declared.operator.Unary.TheVariants as unary
use Rattle.c_tree.specs.Expr.{Expr}
use Rattle.c_tree.specs.Expr as expr
use Rattle.c_tree.specs.Groups.{group, is_logic}
use Rattle.c_layout.specs.Slots.{slots}
use Rattle.c_rules.specs.Spine.{below, down}
use Rattle.c_rules.specs.declared.spine.Along.TheVariants.{Operands}
use Rattle.c_semantics.specs.Names.{Names, Definition}
use Rattle.low_labels.specs.Operation.{Operation, Do, Branch, Mark, Jump}
use Rattle.low_labels.specs.declared.test.Test.TheVariants as test
use Rattle.low_expr.specs.declared.wanted.Wanted.{Wanted}
use Rattle.low_expr.specs.declared.wanted.Wanted.TheVariants.{Value, Place}
use Rattle.low_expr.specs.CodePieces.{all_do, take_slot, nothing}
use Rattle.low_expr.specs.Operators.{binary_code}
use Rattle.low_expr.specs.ExprCode.{expr_code, labels_in, operand_in, on_two, logic_code, conditional_code, skips, truth_code}
use Rattle.low_expr.specs.private.Wanting.{wanted_first, wanted_down, code_by, above_code, labels_above, logic_above, conditional_above, IsReadyBy}

-- what is wanted as a place can be one
abbrev pub Suits : Wanted → Expr → Type 0
Suits Place (expr.Name name at) = Unit {0}
Suits Place (expr.Unary unary.At a at) = Unit {0}
Suits Place (expr.Index a b at) = Unit {0}
Suits Place e = ⊥
Suits Value e = Unit {0}

binary_first : (logic : Bool) (o : Binary) (slot label : ℕ) (a b1 b2 last : List Operation)
    → (if logic then logic_code o slot label a b1 else a ++ (b2 ++ last))
    ≡ a ++ (if logic then logic_above o slot label b1 else b2 ++ last)
binary_first true o slot label a b1 b2 last =
    ap (λ xs. a ++ xs) (sym (append_assoc (all_do (take_slot 5 slot)) (Branch (skips (group o)) 5 0 label ∷ []) (b1 ++ (Mark label ∷ truth_code slot))))
binary_first false o slot label a b1 b2 last = refl

conditional_first : (slot label : ℕ) (c a b : List Operation)
    → conditional_code slot label c a b ≡ c ++ conditional_above slot label a b
conditional_first slot label c a b =
    let last : List Operation = Jump 0 (label + 1) ∷ Mark label ∷ (b ++ (Mark (label + 1) ∷ Do nothing ∷ [])) in
    ap (λ xs. c ++ xs) (sym (append_assoc (all_do (take_slot 5 slot)) (Branch test.Eq 5 0 label ∷ []) (a ++ last)))

module _ (functions : List ℕ → ℕ) (names : Names) where
  pub code_first : (w : Wanted) (e : Expr) (slot label : ℕ) → Suits w e
      → code_by functions names w e slot label
      ≡ code_by functions names (wanted_first w e) (below Operands e) slot label
      ++ above_code functions names w e slot (label + labels_in (below Operands e))
  code_first Value (expr.Name name at) slot label h = sym (append-nil _)
  code_first Value (expr.Number shape n at) slot label h = sym (append-nil _)
  code_first Value (expr.Character c at) slot label h = sym (append-nil _)
  code_first Value (expr.Eof at) slot label h = sym (append-nil _)
  code_first Value (expr.Call callee all at) slot label h = sym (append-nil _)
  code_first Value (expr.Unary unary.At a at) slot label h = refl
  code_first Value (expr.Unary unary.Address a at) slot label h = refl
  code_first Value (expr.Unary unary.Plus a at) slot label h = refl
  code_first Value (expr.Unary unary.Minus a at) slot label h = refl
  code_first Value (expr.Unary unary.Not a at) slot label h = refl
  code_first Value (expr.Unary unary.Flip a at) slot label h = refl
  code_first Value (expr.Step how a at) slot label h = refl
  code_first Value (expr.Cast to a at) slot label h = refl
  code_first Value (expr.Binary o a b at) slot label h =
      binary_first (is_logic (group o)) o slot (label + labels_in a)
      (expr_code functions names a slot label)
      (expr_code functions names b slot (label + labels_in a + 1))
      (expr_code functions names b (slot + 1) (label + labels_in a))
      (on_two slot (binary_code o (operand_in names a) (operand_in names b)))
  code_first Value (expr.Conditional c a b at) slot label h =
      conditional_first slot (label + labels_in c) (expr_code functions names c slot label)
      (expr_code functions names a slot (label + labels_in c + 2))
      (expr_code functions names b slot (label + labels_in c + 2 + labels_in a))
  code_first Value (expr.Assign how a b at) slot label h = refl
  code_first Value (expr.Index a b at) slot label h = refl
  code_first Place (expr.Name name at) slot label h = sym (append-nil _)
  code_first Place (expr.Unary unary.At a at) slot label h = refl
  code_first Place (expr.Index a b at) slot label h = refl
  code_first Place e slot label h = absurd h

pub labels_first : (e : Expr) → labels_in e ≡ labels_in (below Operands e) + labels_above e
labels_first (expr.Name name at) = refl
labels_first (expr.Number shape n at) = refl
labels_first (expr.Character c at) = refl
labels_first (expr.Eof at) = refl
labels_first (expr.Call callee all at) = omega arith
labels_first (expr.Unary o a at) = omega arith
labels_first (expr.Step how a at) = omega arith
labels_first (expr.Cast to a at) = omega arith
labels_first (expr.Binary o a b at) = omega arith
labels_first (expr.Conditional c a b at) = omega arith
labels_first (expr.Assign how a b at) = refl
labels_first (expr.Index a b at) = refl

two_slots : (logic : Bool) (a b : ℕ) → a ≤ (if logic then max a b else max a (1 + b))
two_slots true a b = omega arith
two_slots false a b = omega arith

slots_first : (e : Expr) → slots (below Operands e) ≤ slots e
slots_first (expr.Name name at) = omega arith
slots_first (expr.Number shape n at) = omega arith
slots_first (expr.Character c at) = omega arith
slots_first (expr.Eof at) = omega arith
slots_first (expr.Call callee all at) = omega arith
slots_first (expr.Unary o a at) = omega arith
slots_first (expr.Step how a at) = omega arith
slots_first (expr.Cast to a at) = omega arith
slots_first (expr.Binary o a b at) = two_slots (is_logic (group o)) (slots a) (slots b)
slots_first (expr.Conditional c a b at) = omega arith
slots_first (expr.Assign how a b at) = omega arith
slots_first (expr.Index a b at) = omega arith

pub slots_down : (n : ℕ) (e : Expr) → slots (down Operands n e) ≤ slots e
unfolding down
slots_down zero e = omega arith
slots_down (suc n) e = omega (arith, slots_first (down Operands n e), slots_down n e)

module _ (defined : List ℕ → Option Definition) (names : Names) where
  pub suits : (w : Wanted) (e : Expr) → IsReadyBy defined names w e → Suits w e
  suits Value e h = tt
  suits Place (expr.Name name at) h = tt
  suits Place (expr.Unary unary.At a at) h = tt
  suits Place (expr.Index a b at) h = tt
  suits Place e h = absurd h

  pub ready_first : (w : Wanted) (e : Expr) → IsReadyBy defined names w e
      → IsReadyBy defined names (wanted_first w e) (below Operands e)
  ready_first Value (expr.Name name at) h = h
  ready_first Value (expr.Number shape n at) h = h
  ready_first Value (expr.Character c at) h = h
  ready_first Value (expr.Eof at) h = h
  ready_first Value (expr.Call callee all at) h = h
  ready_first Value (expr.Unary unary.At a at) h = h
  ready_first Value (expr.Unary unary.Address a at) h = h
  ready_first Value (expr.Unary unary.Plus a at) h = h
  ready_first Value (expr.Unary unary.Minus a at) h = h
  ready_first Value (expr.Unary unary.Not a at) h = h
  ready_first Value (expr.Unary unary.Flip a at) h = h
  ready_first Value (expr.Step how a at) h = h.0
  ready_first Value (expr.Cast to a at) h = h
  ready_first Value (expr.Binary o a b at) h = h.0
  ready_first Value (expr.Conditional c a b at) h = h.0
  ready_first Value (expr.Assign how a b at) h = h.0
  ready_first Value (expr.Index a b at) h = h.0
  ready_first Place (expr.Name name at) h = h
  ready_first Place (expr.Unary unary.At a at) h = h
  ready_first Place (expr.Index a b at) h = h.0
  ready_first Place e h = absurd h

  pub ready_down : (w : Wanted) (n : ℕ) (e : Expr) → IsReadyBy defined names w e
      → IsReadyBy defined names (wanted_down w n e) (down Operands n e)
  unfolding down wanted_down
  ready_down w zero e h = h
  ready_down w (suc n) e h =
      ready_first (wanted_down w n e) (down Operands n e) (ready_down w n e h)
