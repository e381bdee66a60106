-- A node over its operands, which are resolved, has the type of the expression, and does what it does.
use Rattle.std.proofs.Common.{◌≡◌, Bool, List, Option, Ok, Err, Result, ap, sym, subst, ◌∙◌}
use Rattle.std.specs.Prelude.{IfOk}
use Rattle.bop_ends.specs.declared.fault.OutOfMemory.{OutOfMemory}
use Rattle.c_tree.specs.declared.operator.Binary.{Binary}
use Rattle.c_tree.specs.declared.operator.Binary.TheVariants.{Plus}
use Rattle.c_tree.specs.declared.operator.Step.{Step}
use Rattle.c_tree.specs.declared.operator.Unary.{Unary}
use Rattle.c_tree.specs.declared.place.Place.{Place}
use Rattle.c_tree.specs.Rules.{where_right, is_nought, is_place, binary_rule, conditional_rule, assign_rule, index_rule, cast_rule}
use Rattle.c_tree.specs.Ty.{Ty}
use Rattle.c_tree.specs.Expr.{Expr}
use Rattle.c_tree.specs.Expr as expr
use Rattle.c_tree.specs.Typing.{one, both, unary_type, is_test, type_at}
use Rattle.c_rules.specs.Seen.{seen_some}
use Rattle.c_rules.specs.Spine.{below}
use Rattle.c_rules.specs.declared.spine.Along.TheVariants.{Operands}
use Rattle.c_resolve.specs.declared.names.Names.{Names as Declared}
use Rattle.c_resolve.specs.declared.typed.Typed.{Typed}
use Rattle.c_semantics.specs.Names.{Definition, held, held_by, operand_by, types}
use Rattle.c_semantics.specs.Eval.{binary_run, unary_run, stepped, assign_run, conditional_run, strict}
use Rattle.c_resolve.specs.Nodes.{Runs, runs, placed, valued, pointer, cast_run}
use Rattle.c_resolve.specs.private.Resolved.{NodeDoes, scope, runs_of, loaded, IsNodeOf}
use Rattle.c_resolve.specs.DeclaredNames.{names_in, IsTypeOf}
use Rattle.c_resolve.proofs.ResolvedLemmas.{converts}
use Rattle.c_resolve.specs.Context.{Context}

abbrev pub Resolved : Type 0
Resolved = Result Typed OutOfMemory

-- what something does in a context
abbrev pub Deed : Type 0
Deed = Context → Runs

abbrev pub deed : Typed → Deed
deed t = λ context. runs context t.node

module _ (declared : Declared) where
  abbrev pub AreNodesOf : Resolved → Expr → Type 0
  AreNodesOf r e = IfOk r (λ t. IsNodeOf declared t.node e)

  -- a node does what the expression does, where it has the type and does this by its own type
  abbrev pub IsMade : Expr → Resolved → Option Ty → (Option Ty → Deed) → Type 0
  IsMade e r type make = IfOk r (λ t. seen_some t.ty ≡ type)
      → IfOk r (λ t. NodeDoes t.node (make (seen_some t.ty))) → AreNodesOf r e

  -- an expression e that is known to be x, whose node may depend on its type
  made : (e x : Expr) → e ≡ x → (r : Resolved) (type : Option Ty) (make : Option Ty → Deed)
      → ((context : Context) → make type context ≡ runs_of context (scope context declared) x)
      → IsMade e r type make
  made e x here (Ok t) type make is typed does =
      subst (IsNodeOf declared t.node) (sym here) (λ context. does context ∙ (ap (λ own. make own context) typed ∙ is context))
  made e x here (Err refused) type make is typed does = tt

  -- the type of an expression e that is known to be x
  typed_as : (e x : Expr) → e ≡ x → (r : Resolved) (type : Option Ty)
      → ((definitions : List Definition) → type ≡ type_at (types (names_in definitions declared)) x)
      → IfOk r (λ t. seen_some t.ty ≡ type) → IfOk r (λ t. IsTypeOf declared t.ty e)
  typed_as e x here (Ok t) type is typed =
      subst (IsTypeOf declared t.ty) (sym here) (λ d. typed ∙ is d)
  typed_as e x here (Err refused) type is typed = tt

  module _ (first : Typed) (e : Expr) (ty : IsTypeOf declared first.ty (below Operands e)) (means : IsNodeOf declared first.node (below Operands e)) where
    abbrev a : Option Ty
    a = seen_some first.ty

    -- the first operand of what the expression is known to be
    typed_in : (x : Expr) → e ≡ x → IsTypeOf declared first.ty (below Operands x)
    typed_in x here = subst (λ y. IsTypeOf declared first.ty (below Operands y)) here ty

    meant_in : (x : Expr) → e ≡ x → IsNodeOf declared first.node (below Operands x)
    meant_in x here = subst (λ y. IsNodeOf declared first.node (below Operands y)) here means

    abbrev pub unary_deed : Unary → Place → Option Ty → Deed
    unary_deed op at own = λ k. placed (unary_run op (operand_by a) (held_by own) at (deed first k).value (deed first k).address) (pointer (deed first k).value) at

    pub unary_over : (op : Unary) (p : Bool) (x : Expr) (at : Place) → e ≡ expr.Unary op x at
        → p ≡ is_place x → (r : Resolved)
        → IsMade e r (unary_type op p a) (unary_deed op at)
    unary_over op p x at here place r = made e (expr.Unary op x at) here r (unary_type op p a) (unary_deed op at) (λ k.
        let f = typed_in (expr.Unary op x at) here k.definitions in
        let m = meant_in (expr.Unary op x at) here k in
        λ j. placed (unary_run op (operand_by (f j)) (held_by (unary_type op (place j) (f j))) at (m j).value (m j).address) (pointer (m j).value) at)

    abbrev pub step_deed : Step → Place → Option Ty → Deed
    step_deed how at own = λ k. valued (stepped how (operand_by a) (held_by a) (deed first k).place at (deed first k).address) at

    pub step_over : (how : Step) (x : Expr) (at : Place) → e ≡ expr.Step how x at
        → (r : Resolved) (type : Option Ty)
        → IsMade e r type (step_deed how at)
    step_over how x at here r type = made e (expr.Step how x at) here r type (step_deed how at) (λ k.
        let f = typed_in (expr.Step how x at) here k.definitions in
        let m = meant_in (expr.Step how x at) here k in
        λ j. valued (stepped how (operand_by (f j)) (held_by (f j)) (m j).place at (m j).address) at)

    abbrev pub cast_deed : Ty → Place → Option Ty → Deed
    cast_deed to at own = λ k. valued (cast_run (held to) (deed first k).value) at

    pub cast_over : (to : Ty) (x : Expr) (at : Place) → e ≡ expr.Cast to x at
        → (r : Resolved) (type : Option Ty)
        → IsMade e r type (cast_deed to at)
    cast_over to x at here r type = made e (expr.Cast to x at) here r type (cast_deed to at) (λ k.
        let m = meant_in (expr.Cast to x at) here k in
        (λ j. valued (cast_run (held to) (m j).value) at) ∙ ap (λ run. valued run at) (converts to (runs_of k (scope k declared) x).value))

    pub cast_typed : (to : Ty) (x : Expr) (at : Place) → e ≡ expr.Cast to x at → (r : Resolved)
        → IfOk r (λ t. seen_some t.ty ≡ one (cast_rule to) a) → IfOk r (λ t. IsTypeOf declared t.ty e)
    cast_typed to x at here r =
        typed_as e (expr.Cast to x at) here r (one (cast_rule to) a) (λ d. ap (one (cast_rule to)) (typed_in (expr.Cast to x at) here d))

    module _ (second : Typed) (y : Expr) (second_ty : IsTypeOf declared second.ty y) (second_means : IsNodeOf declared second.node y) where
      abbrev b : Option Ty
      b = seen_some second.ty

      abbrev pub binary_deed : Binary → Place → Option Ty → Deed
      binary_deed op at own = λ k. valued (binary_run op (operand_by a) (operand_by b) at (deed first k).value (deed second k).value) at

      pub binary_over : (op : Binary) (x : Expr) (at : Place) → e ≡ expr.Binary op x y at
          → (r : Resolved) (type : Option Ty)
          → IsMade e r type (binary_deed op at)
      binary_over op x at here r type = made e (expr.Binary op x y at) here r type (binary_deed op at) (λ k.
          let f = typed_in (expr.Binary op x y at) here k.definitions in
          let m = meant_in (expr.Binary op x y at) here k in
          let g = second_ty k.definitions in
          let n = second_means k in
          λ j. valued (binary_run op (operand_by (f j)) (operand_by (g j)) at (m j).value (n j).value) at)

      pub binary_typed : (op : Binary) (p q : Bool) (x : Expr) (at : Place)
          → e ≡ expr.Binary op x y at → p ≡ is_nought x → q ≡ is_nought y → (r : Resolved)
          → IfOk r (λ t. seen_some t.ty ≡ both (binary_rule op p q) a b)
          → IfOk r (λ t. IsTypeOf declared t.ty e)
      binary_typed op p q x at here left right r = typed_as e (expr.Binary op x y at) here r (both (binary_rule op p q) a b) (λ d.
          let f = typed_in (expr.Binary op x y at) here d in
          let g = second_ty d in
          λ j. both (binary_rule op (left j) (right j)) (f j) (g j))

      abbrev pub assign_deed : Option Binary → Place → Option Ty → Deed
      assign_deed how at own = λ k. valued (assign_run how (operand_by a) (operand_by b) (held_by a) (deed first k).place at (deed first k).address (deed second k).value) at

      pub assign_over : (how : Option Binary) (x : Expr) (at : Place) → e ≡ expr.Assign how x y at
          → (r : Resolved) (type : Option Ty)
          → IsMade e r type (assign_deed how at)
      assign_over how x at here r type = made e (expr.Assign how x y at) here r type (assign_deed how at) (λ k.
          let f = typed_in (expr.Assign how x y at) here k.definitions in
          let m = meant_in (expr.Assign how x y at) here k in
          let g = second_ty k.definitions in
          let n = second_means k in
          λ j. valued (assign_run how (operand_by (f j)) (operand_by (g j)) (held_by (f j)) (m j).place at (m j).address (n j).value) at)

      pub assign_typed : (how : Option Binary) (p q : Bool) (x : Expr) (at : Place)
          → e ≡ expr.Assign how x y at → p ≡ is_place x → q ≡ is_nought y → (r : Resolved)
          → IfOk r (λ t. seen_some t.ty ≡ where_right p (both (assign_rule how q) a b))
          → IfOk r (λ t. IsTypeOf declared t.ty e)
      assign_typed how p q x at here left right r = typed_as e (expr.Assign how x y at) here r (where_right p (both (assign_rule how q) a b)) (λ d.
          let f = typed_in (expr.Assign how x y at) here d in
          let g = second_ty d in
          λ j. where_right (left j) (both (assign_rule how (right j)) (f j) (g j)))

      abbrev pub index_deed : Place → Option Ty → Deed
      index_deed at own = λ k.
          let sum = strict Plus (operand_by a) (operand_by b) at (deed first k).value (deed second k).value in
          placed (loaded (held_by own) at sum) sum at

      pub index_over : (x : Expr) (at : Place) → e ≡ expr.Index x y at → (r : Resolved)
          → IsMade e r (both index_rule a b) (index_deed at)
      index_over x at here r = made e (expr.Index x y at) here r (both index_rule a b) (index_deed at) (λ k.
          let f = typed_in (expr.Index x y at) here k.definitions in
          let m = meant_in (expr.Index x y at) here k in
          let g = second_ty k.definitions in
          let n = second_means k in
          λ j.
          let sum = strict Plus (operand_by (f j)) (operand_by (g j)) at (m j).value (n j).value in
          placed (loaded (held_by (both index_rule (f j) (g j))) at sum) sum at)

      pub index_typed : (x : Expr) (at : Place) → e ≡ expr.Index x y at → (r : Resolved)
          → IfOk r (λ t. seen_some t.ty ≡ both index_rule a b)
          → IfOk r (λ t. IsTypeOf declared t.ty e)
      index_typed x at here r = typed_as e (expr.Index x y at) here r (both index_rule a b) (λ d.
          let f = typed_in (expr.Index x y at) here d in
          let g = second_ty d in
          λ j. both index_rule (f j) (g j))

      module _ (third : Typed) (z : Expr) (third_ty : IsTypeOf declared third.ty z) (third_means : IsNodeOf declared third.node z) where
        abbrev c : Option Ty
        c = seen_some third.ty

        pub conditional_typed : (p q : Bool) (x : Expr) (at : Place)
            → e ≡ expr.Conditional x y z at → p ≡ is_nought y → q ≡ is_nought z → (r : Resolved)
            → IfOk r (λ t. seen_some t.ty ≡ where_right (is_test a) (both (conditional_rule p q) b c))
            → IfOk r (λ t. IsTypeOf declared t.ty e)
        conditional_typed p q x at here left right r = typed_as e (expr.Conditional x y z at) here r (where_right (is_test a) (both (conditional_rule p q) b c)) (λ d.
            let f = typed_in (expr.Conditional x y z at) here d in
            let g = second_ty d in
            let h = third_ty d in
            λ j. where_right (is_test (f j)) (both (conditional_rule (left j) (right j)) (g j) (h j)))

        abbrev pub conditional_deed : Place → Option Ty → Deed
        conditional_deed at own = λ k. valued (conditional_run (deed first k).value (deed second k).value (deed third k).value) at

        pub conditional_over : (x : Expr) (at : Place) → e ≡ expr.Conditional x y z at
            → (r : Resolved) (type : Option Ty)
            → IsMade e r type (conditional_deed at)
        conditional_over x at here r type = made e (expr.Conditional x y z at) here r type (conditional_deed at) (λ k.
            let m = meant_in (expr.Conditional x y z at) here k in
            let n = second_means k in
            let o = third_means k in
            λ j. valued (conditional_run (m j).value (n j).value (o j).value) at)
