-- The code above a first operand where a second one comes next, and what is behind that.
use Rattle.std.proofs.Common.{◌≡◌, ℕ, ◌+◌, ◌<◌, ◌≤◌, List, ◌++◌, false, Option, length, refl, ap, sym, subst, ◌∙◌, arith, max, Global, Vec}
use Rattle.std.specs.Prelude.{Box, if◌then◌else◌}
use Rattle.c_tree.specs.declared.operator.Binary.{Binary}
use Rattle.c_tree.specs.declared.place.Place.{Place as At}
use Rattle.c_tree.specs.declared.tree.Callee.{Callee}
use Rattle.c_tree.specs.declared.tree.Expr.{Expr as ExprTree}
use Rattle.c_tree.specs.declared.tree.ExprKind.{ExprKind}
use Rattle.c_tree.specs.declared.tree.ExprKind.TheVariants as k
use Rattle.c_tree.specs.View.{expr_of, exprs_of, expr_kind_of}
use Rattle.c_tree.proofs.ViewLemmas as tree
use Rattle.c_tree.specs.Expr.{Expr}
use Rattle.c_tree.specs.Expr as expr
use Rattle.c_tree.specs.Groups.{group, is_logic}
use Rattle.c_tree.specs.Rules.{index_rule}
use Rattle.c_tree.specs.Typing.{both}
use Rattle.c_rules.specs.declared.seen.Seen.{Seen}
use Rattle.c_rules.specs.Seen.{seen_some}
use Rattle.c_rules.specs.Spine.{below}
use Rattle.c_rules.specs.declared.spine.Along.TheVariants.{Operands}
use Rattle.c_layout.specs.Slots.{slots}
use Rattle.c_semantics.specs.Names.{Names, Definition, operand_by, held_by}
use Rattle.c_resolve.specs.DeclaredNames.{IsTypeOf}
use Rattle.low_labels.specs.Emission.{Emission, emit_all, IsTooLong}
use Rattle.low_labels.specs.Operation.{Operation, width_of}
use Rattle.low_expr.specs.declared.names.Names.{Names as Labelled}
use Rattle.low_expr.specs.declared.piece.TheConstants.{SLOTS}
use Rattle.low_expr.specs.declared.wanted.Wanted.{Wanted}
use Rattle.low_expr.specs.declared.wanted.Wanted.TheVariants.{Value}
use Rattle.low_expr.specs.ExprCode.{expr_code, labels_in, operand_in, held_in, on_two, assign_code, own_labels}
use Rattle.low_expr.specs.LabelledNames.{scope_in, functions_in}
use Rattle.low_expr.specs.Lowering.{lowered}
use Rattle.low_expr.specs.Operators.{binary_code}
use Rattle.low_expr.specs.private.Wanting.{above_code, labels_above, index_by, logic_above, IsLoweredAs, IsRefusedAs, IsLoweredAbove, IsRefusedAbove}
use Rattle.low_expr.proofs.AboveOperands.{slots_positive}
use Rattle.low_expr.proofs.MarkLemmas.{emitted_behind}
use Rattle.low_expr.proofs.LoweredParts.{too_long_with, too_long_before}

-- Above the first operand there are the code of a second one, which goes into the next slot, and
-- operations behind it.
pub record HasSecond (names : Labelled) (w : Wanted) (e b : Expr) (slot : ℕ)
    (last : Names → List Operation) : Type 0 where
  pub labels : labels_above e ≡ labels_in b
  pub code : (scope : Names) (label : ℕ) → above_code (functions_in names) scope w e slot label
      ≡ expr_code (functions_in names) scope b (slot + 1) label ++ last scope

module _ {names : Labelled} {w : Wanted} {e b : Expr} {slot : ℕ} {last : Names → List Operation}
    (has : HasSecond names w e b slot last) (old : Emission) where
  pub second_refused : IsRefusedAs names Value b (slot + 1) old → IsRefusedAbove names w e slot old
  second_refused refused = λ definitions.
      let scope = scope_in definitions names in
      let label = length old.places in
      subst (λ os. IsTooLong (width_of os) old) (sym (has.code scope label))
      (too_long_before (expr_code (functions_in names) scope b (slot + 1) label) (last scope) old (refused definitions))

  module _ (mid : Emission) (now : List Operation)
      (same : (definitions : List Definition) → now ≡ last (scope_in definitions names))
      (second : IsLoweredAs names Value b (slot + 1) old mid) where
    pub second_lowered : (new : Emission) → new ≡ emit_all now mid
        → IsLoweredAbove names w e slot old new
    second_lowered new is = λ definitions.
        let scope = scope_in definitions names in
        let label = length old.places in
        let code = expr_code (functions_in names) scope b (slot + 1) label in
        is
        ∙ (λ i. emit_all (same definitions i) (second definitions i))
        ∙ emitted_behind (labels_in b) code (last scope) old
        ∙ (λ i. lowered (sym has.labels i) (sym (has.code scope label) i) old)

    pub last_refused : IsTooLong (width_of now) mid → IsRefusedAbove names w e slot old
    last_refused long = λ definitions.
        let scope = scope_in definitions names in
        let label = length old.places in
        let code = expr_code (functions_in names) scope b (slot + 1) label in
        subst (λ os. IsTooLong (width_of os) old) (sym (has.code scope label))
        (too_long_with (labels_in b) code (last scope) old
        (subst (λ m. IsTooLong (width_of (last scope)) m) (second definitions)
        (subst (λ os. IsTooLong (width_of os) mid) (same definitions) long)))

-- what comes behind the second operand, form by form
abbrev pub binary_last : Binary → (a b : Expr) (slot : ℕ) → Names → List Operation
binary_last o a b slot scope = on_two slot (binary_code o (operand_in scope a) (operand_in scope b))

abbrev pub assign_last : Option Binary → (a b : Expr) (slot : ℕ) → Names → List Operation
assign_last how a b slot scope =
    assign_code how (operand_in scope a) (operand_in scope b) (held_in scope a) slot

abbrev pub index_last : Wanted → (a b : Expr) → At → (slot : ℕ) → Names → List Operation
index_last w a b at slot scope =
    index_by w (operand_in scope a) (operand_in scope b) (held_in scope (expr.Index a b at)) slot

none : (n : ℕ) → 0 + n ≡ n
none n = omega arith

-- the type of the first operand of what an expression is known to be
typed : (names : Labelled) (first : Option Seen) {e x : Expr} → e ≡ x
    → IsTypeOf names.known first (below Operands e) → IsTypeOf names.known first (below Operands x)
typed names first here ty = subst (λ y. IsTypeOf names.known first (below Operands y)) here ty

module _ (names : Labelled) (slot : ℕ) {e : Expr} {o : Binary} {a b : Expr} {at : At}
    (here : e ≡ expr.Binary o a b at) (flat : is_logic (group o) ≡ false) where
  pub binary_has : (w : Wanted) → HasSecond names w e b slot (binary_last o a b slot)
  binary_has w =
      subst (λ x. HasSecond names w x b slot (binary_last o a b slot)) (sym here) (record {
        labels = ap (λ l. own_labels l + labels_in b) flat ∙ none (labels_in b);
        code = λ scope label.
            let functions = functions_in names in
            ap (λ l. if l then logic_above o slot label (expr_code functions scope b slot (label + 1)) else expr_code functions scope b (slot + 1) label ++ binary_last o a b slot scope) flat;
      })

  -- by the types that were seen
  pub binary_same : (first second : Option Seen) → IsTypeOf names.known first (below Operands e)
      → IsTypeOf names.known second b → (definitions : List Definition)
      → on_two slot (binary_code o (operand_by (seen_some first)) (operand_by (seen_some second)))
      ≡ binary_last o a b slot (scope_in definitions names)
  binary_same first second ty second_is definitions =
      let first_is = typed names first here ty definitions in
      λ i. on_two slot (binary_code o (operand_by (first_is i)) (operand_by (second_is definitions i)))

  pub binary_slots : slot + slots e ≤ SLOTS → slot + 1 < SLOTS
  binary_slots room =
      let all : slots e ≡ max (slots a) (1 + slots b) = ap slots here ∙ ap (λ l. if l then max (slots a) (slots b) else max (slots a) (1 + slots b)) flat in
      omega (arith, slots_positive b)

module _ (names : Labelled) (slot : ℕ) {e : Expr} {how : Option Binary} {a b : Expr} {at : At}
    (here : e ≡ expr.Assign how a b at) where
  pub assign_has : (w : Wanted) → HasSecond names w e b slot (assign_last how a b slot)
  assign_has w =
      subst (λ x. HasSecond names w x b slot (assign_last how a b slot)) (sym here) (record { labels = refl; code = λ scope label. refl })

  pub assign_same : (first second : Option Seen) → IsTypeOf names.known first (below Operands e)
      → IsTypeOf names.known second b → (definitions : List Definition)
      → assign_code how (operand_by (seen_some first)) (operand_by (seen_some second)) (held_by (seen_some first)) slot
      ≡ assign_last how a b slot (scope_in definitions names)
  assign_same first second ty second_is definitions =
      let first_is = typed names first here ty definitions in
      λ i. assign_code how (operand_by (first_is i)) (operand_by (second_is definitions i)) (held_by (first_is i)) slot

  pub assign_slots : slot + slots e ≤ SLOTS → slot + 1 < SLOTS
  assign_slots room =
      let all : slots e ≡ max (slots a) (1 + slots b) = ap slots here in
      omega (arith, slots_positive b)

module _ (names : Labelled) (slot : ℕ) {e a b : Expr} {at : At} (here : e ≡ expr.Index a b at) where
  pub index_has : (w : Wanted) → HasSecond names w e b slot (index_last w a b at slot)
  index_has w =
      subst (λ x. HasSecond names w x b slot (index_last w a b at slot)) (sym here) (record { labels = refl; code = λ scope label. refl })

  pub index_same : (w : Wanted) (first second : Option Seen)
      → IsTypeOf names.known first (below Operands e) → IsTypeOf names.known second b
      → (definitions : List Definition)
      → index_by w (operand_by (seen_some first)) (operand_by (seen_some second)) (held_by (both index_rule (seen_some first) (seen_some second))) slot
      ≡ index_last w a b at slot (scope_in definitions names)
  index_same w first second ty second_is definitions =
      let first_is = typed names first here ty definitions in
      λ i. index_by w (operand_by (first_is i)) (operand_by (second_is definitions i)) (held_by (both index_rule (first_is i) (second_is definitions i))) slot

  pub index_slots : slot + slots e ≤ SLOTS → slot + 1 < SLOTS
  index_slots room =
      let all : slots e ≡ max (slots a) (1 + slots b) = ap slots here in
      omega (arith, slots_positive b)

-- an expression, by its kind
of : (e : ExprTree) (kind : ExprKind) (x : Expr) → e.kind ≡ kind → expr_kind_of kind e.place ≡ x
    → expr_of e ≡ x
of e kind x is same = tree.expression_is e ∙ (ap (λ k. expr_kind_of k e.place) is ∙ same)

-- and by that of its second operand
pub binary_here : (e : ExprTree) (op : Binary) (a b : Box ExprTree Global) (y : ExprTree)
    → e.kind ≡ k.Binary op a b → y ≡ b.value
    → expr_of e ≡ expr.Binary op (expr_of a.value) (expr_of y) e.place
binary_here e op a b y is same =
    of e (k.Binary op a b) (expr.Binary op (expr_of a.value) (expr_of b.value) e.place) is (tree.binary_is op a b e.place)
    ∙ ap (λ z. expr.Binary op (expr_of a.value) (expr_of z) e.place) (sym same)

pub assign_here : (e : ExprTree) (how : Option Binary) (a b : Box ExprTree Global) (y : ExprTree)
    → e.kind ≡ k.Assign how a b → y ≡ b.value
    → expr_of e ≡ expr.Assign how (expr_of a.value) (expr_of y) e.place
assign_here e how a b y is same =
    of e (k.Assign how a b) (expr.Assign how (expr_of a.value) (expr_of b.value) e.place) is (tree.assign_is how a b e.place)
    ∙ ap (λ z. expr.Assign how (expr_of a.value) (expr_of z) e.place) (sym same)

pub index_here : (e : ExprTree) (a b : Box ExprTree Global) (y : ExprTree)
    → e.kind ≡ k.Index a b → y ≡ b.value
    → expr_of e ≡ expr.Index (expr_of a.value) (expr_of y) e.place
index_here e a b y is same =
    of e (k.Index a b) (expr.Index (expr_of a.value) (expr_of b.value) e.place) is (tree.index_is a b e.place)
    ∙ ap (λ z. expr.Index (expr_of a.value) (expr_of z) e.place) (sym same)

pub call_here : (e : ExprTree) (callee : Callee) (args : Vec ExprTree Global) (es : List ExprTree)
    → e.kind ≡ k.Call callee args → es ≡ args.items
    → expr_of e ≡ expr.Call callee (exprs_of es) e.place
call_here e callee args es is same =
    of e (k.Call callee args) (expr.Call callee (exprs_of args.items) e.place) is (tree.call_is callee args e.place)
    ∙ ap (λ all. expr.Call callee (exprs_of all) e.place) (sym same)
