-- The code of a node above that of its operands.
use Rattle.std.proofs.Common.{◌≡◌, ℕ, ◌+◌, ◌<◌, ◌≤◌, List, ◌∷◌, ◌++◌, length, subst, arith, max}
use Rattle.std.specs.Prelude.{Bool, true, false, if◌then◌else◌}
use Rattle.bop_bits.specs.declared.map.TheConstants.{CODE_WORDS}
use Rattle.c_tree.specs.declared.operator.Binary.{Binary}
use Rattle.c_tree.specs.declared.place.Place.{Place}
use Rattle.c_tree.specs.Expr.{Expr, Exprs}
use Rattle.c_tree.specs.Expr as expr
use Rattle.c_tree.specs.Groups.{group, is_logic}
use Rattle.c_layout.specs.Slots.{slots as slots_of, slots_from}
use Rattle.c_semantics.specs.declared.kind.Operand.{Operand}
use Rattle.c_semantics.specs.Run.{Run, count, ◌>>=◌, ◌>>◌}
use Rattle.c_semantics.specs.Eval.{binary_act, logic, strict}
use Rattle.c_semantics.specs.Evaluated.{count_of_arguments}
use Rattle.low_labels.specs.Operation.{Operation, width_of}
use Rattle.low_labels.specs.Operation as op
use Rattle.low_labels.specs.Placed.{HasAt}
use Rattle.low_expr.specs.CodePieces.{take_slot, all_do}
use Rattle.low_expr.specs.Operators.{binary_code}
use Rattle.low_expr.specs.ExprCode.{on_two, logic_code, truth_code, skips}
use Rattle.low_expr.specs.Readiness.{OperandFits}
use Rattle.low_expr.proofs.KeptValues.{width-append, has_front, has_back, has_after}
use Rattle.low_expr.proofs.ValueNodes.{Part, Act, Acts, one_follows, two_follows}
use Rattle.low_expr.proofs.OperatorNodes.{binary_acts}
use Rattle.low_expr.proofs.LogicNodes.{logic_follows}

two_positive : (l : Bool) (a b : ℕ) → 0 < a → 0 < (if l then max a b else max a (1 + b))
two_positive true a b p = omega (arith, p)
two_positive false a b p = omega (arith, p)

-- each expression takes a slot
pub slots_positive : (e : Expr) → 0 < slots_of e
slots_positive (expr.Name name at) = omega arith
slots_positive (expr.Number shape n at) = omega arith
slots_positive (expr.Character c at) = omega arith
slots_positive (expr.Eof at) = omega arith
slots_positive (expr.Unary o a at) = slots_positive a
slots_positive (expr.Step how a at) = slots_positive a
slots_positive (expr.Cast to a at) = slots_positive a
slots_positive (expr.Binary o a b at) =
    two_positive (is_logic (group o)) (slots_of a) (slots_of b) (slots_positive a)
slots_positive (expr.Conditional c a b at) = let p = slots_positive c in omega (arith, p)
slots_positive (expr.Assign how a b at) = omega arith
slots_positive (expr.Index a b at) = omega arith
slots_positive (expr.Call name all at) = omega arith

-- so arguments take as many slots as there are
pub room_of_arguments : (all : Exprs) (base k slots : ℕ) → base + k ≤ slots
    → base + slots_from k all ≤ slots → base + k + count_of_arguments all ≤ slots
room_of_arguments expr.NoMore base k slots le room = omega arith
room_of_arguments (expr.More e rest) base k slots le room =
    let p = slots_positive e in
    let r = room_of_arguments rest base (1 + k) slots (omega (arith, p)) (omega arith) in
    omega (arith, r)

module _ (code input : List ℕ) (short : length code ≤ CODE_WORDS) (labels : ℕ → ℕ)
    (frame slots m : ℕ) where
  -- a part, if its code is there
  abbrev pub IfThere : (slot i : ℕ) → List Operation → Run ℕ → Type 0
  IfThere slot i ops r =
      HasAt code labels i ops → Part code input short labels frame slots slot m i
      (i + width_of ops) r

  -- an operand, and a node's own code
  pub above_one : (slot i : ℕ) (a last : List Operation) (r : Run ℕ) (act : ℕ → Run ℕ)
      → HasAt code labels i (a ++ last) → IfThere slot i a r
      → (HasAt code labels (i + width_of a) last
      → Act code input short labels frame slots slot (i + width_of a)
      (i + width_of a + width_of last) act)
      → Part code input short labels frame slots slot m i (i + width_of (a ++ last))
      (r >>= λ x. count >> act x)
  above_one slot i a last r act has fa fact =
      let mid = i + width_of a in
      let e : mid + width_of last ≡ i + width_of (a ++ last) = omega (arith, width-append a last) in
      one_follows code input short labels frame slots slot m i mid (i + width_of (a ++ last)) r act
      (fa (has_front code labels i a last has))
      (subst (λ z. Act code input short labels frame slots slot mid z act) e
      (fact (has_back code labels i a last has)))

  -- two operands, and a node's own code
  pub above_two : (slot i : ℕ) (a b last : List Operation) (ra rb : Run ℕ) (act : ℕ → ℕ → Run ℕ)
      → slot + 1 < slots → HasAt code labels i (a ++ (b ++ last)) → IfThere slot i a ra
      → IfThere (slot + 1) (i + width_of a) b rb
      → (HasAt code labels (i + width_of a + width_of b) last
      → Acts code input short labels frame slots slot (i + width_of a + width_of b)
      (i + width_of a + width_of b + width_of last) act)
      → Part code input short labels frame slots slot m i (i + width_of (a ++ (b ++ last)))
      (ra >>= λ x. rb >>= λ y. count >> act x y)
  above_two slot i a b last ra rb act lt has fa fb fact =
      let mid = i + width_of a in
      let mid2 = mid + width_of b in
      let t = has_back code labels i a (b ++ last) has in
      let e : mid2 + width_of last ≡ i + width_of (a ++ (b ++ last)) = omega (arith, width-append a (b ++ last), width-append b last) in
      two_follows code input short labels frame slots slot m i mid mid2
      (i + width_of (a ++ (b ++ last))) ra rb act lt
      (fa (has_front code labels i a (b ++ last) has)) (fb (has_front code labels mid b last t))
      (subst (λ z. Acts code input short labels frame slots slot mid2 z act) e
      (fact (has_back code labels mid b last t)))

  pub binary_follows : (l : Bool) (o : Binary) (c d : Operand) (slot label i sa sb : ℕ) (at : Place)
      (a b1 b2 : List Operation) (ra rb : Run ℕ) → is_logic (group o) ≡ l → OperandFits c
      → OperandFits d → 0 < sa → 0 < sb → slot + (if l then max sa sb else max sa (1 + sb)) ≤ slots
      → HasAt code labels i (if l then logic_code o slot label a b1 else a
      ++ (b2 ++ on_two slot (binary_code o c d)))
      → (slot + sa ≤ slots → IfThere slot i a ra)
      → ((j : ℕ) → slot + sb ≤ slots → IfThere slot j b1 rb)
      → ((j : ℕ) → slot + 1 + sb ≤ slots → IfThere (slot + 1) j b2 rb)
      → Part code input short labels frame slots slot m i
      (i + width_of (if l then logic_code o slot label a b1 else a
      ++ (b2 ++ on_two slot (binary_code o c d))))
      (if l then logic o ra rb else strict o c d at ra rb)
  binary_follows true o c d slot label i sa sb at a b1 b2 ra rb is hc hd pa pb room has fa fb1 fb2 =
      let t5 = take_slot 5 slot in
      let last = b1 ++ (op.Mark label ∷ truth_code slot) in
      let rest = op.Branch (skips (group o)) 5 0 label ∷ last in
      let k = i + width_of a + length t5 in
      let u = has_after code labels (i + width_of a) t5 rest (has_back code labels i a (all_do t5 ++ rest) has) in
      logic_follows code input short labels frame slots o slot m i label a b1 ra rb is
      (omega arith) has
      (fa (omega arith) (has_front code labels i a (all_do t5 ++ rest) has))
      (fb1 (k + 2) (omega arith)
      (has_front code labels (k + 2) b1 (op.Mark label ∷ truth_code slot) u.1))
  binary_follows false o c d slot label i sa sb at a b1 b2 ra rb is hc hd pa pb room has fa fb1
      fb2 =
      above_two slot i a b2 (on_two slot (binary_code o c d)) ra rb
      (λ x y. binary_act o c d x y at) (omega arith) has
      (fa (omega arith)) (fb2 (i + width_of a) (omega arith))
      (λ h. binary_acts code input short labels frame slots o c d slot
      (i + width_of a + width_of b2) at hc hd (omega arith) h)
