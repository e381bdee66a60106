-- An expression that has types, with names that fit, is ready.
use Rattle.std.proofs.Common.{◌≡◌, ℕ, List, [], ◌∷◌, refl, sym, ap, subst, arith, Option, Some, None, Bool, true, false}
use Rattle.std.specs.Prelude.{◌||◌, option_map, if◌then◌else◌}
use Rattle.c_tree.specs.declared.operator.Unary.TheVariants as unary
use Rattle.c_tree.specs.declared.tree.Callee.{Callee}
use Rattle.c_tree.specs.declared.tree.Callee.TheVariants as callee
use Rattle.c_tree.specs.Ty.{Ty}
use Rattle.c_tree.specs.Ty as ty
use Rattle.c_tree.specs.Expr.{Expr, Exprs}
use Rattle.c_tree.specs.Expr as expr
use Rattle.c_tree.specs.Scope.{ObjectOf, FunctionOf, Scope, look, otherwise}
use Rattle.c_tree.specs.Shapes.{is_integer, is_unsigned, decayed, promoted, common}
use Rattle.c_tree.specs.Rules.{is_place}
use Rattle.c_tree.specs.Typing.{type_at, called}
use Rattle.c_tree.specs.HasType.{HasType, HasValue, OfName, OfNumber, OfCharacter, OfEof, OfSign, OfNot, OfContents, OfAddress, OfStep, OfCast, OfArithmetic, OfShift, OfPointerPlus, OfPlusPointer, OfPointerMinus, OfDistance, OfOrder, OfPointerOrder, OfEquality, OfPointerEquality, OfEqualityNought, OfNoughtEquality, OfLogic, OfConditional, OfPointerConditional, OfConditionalNought, OfNoughtConditional, OfAssign, OfIntegerUpdate, OfPointerUpdate, OfIndex, OfIndexTurned, OfCall, ValueOf, PlusSign, MinusSign, FlipSign}
use Rattle.c_tree.proofs.Derived.{derived}
use Rattle.c_semantics.specs.Names.{Names, Named, Variable, Routine, Definition, known, types, home_of, definition_of, operand_of, operand_by}
use Rattle.c_semantics.specs.Evaluated.{IsDefinedTaking, count_of_arguments, Takes, IsEvaluable, IsAddressable, AreEvaluable, IsEvaluableUnused}
use Rattle.low_expr.specs.ExprCode.{operand_in}
use Rattle.low_expr.specs.Readiness.{HomeFits, OperandFits, IsCalled, TakesArguments, IsReady, IsReadyPlace, AreReady}
use Rattle.low_expr.specs.FittingNames.{SizeFits, ShapeFits, NamesFit, HasWords, HaveWords}

integer_fits : (t : Ty) → is_integer t ≡ true → ShapeFits t
integer_fits ty.Int h = tt
integer_fits ty.Unsigned h = tt
integer_fits ty.Char h = tt
integer_fits t h = cc

promoted_fits : (t : Ty) → is_integer t ≡ true → ShapeFits (promoted t)
promoted_fits ty.Int h = tt
promoted_fits ty.Unsigned h = tt
promoted_fits ty.Char h = tt
promoted_fits t h = cc

common_fits : (t u : Ty) → ShapeFits (common t u)
common_fits t u = by (is_unsigned t || is_unsigned u)
  where
    by : (b : Bool) → ShapeFits (if b then ty.Unsigned else ty.Int)
    by true = tt
    by false = tt

decayed_fits : (t : Ty) → ShapeFits t → ShapeFits (decayed t)
decayed_fits (ty.Array t n) h = h
decayed_fits t h = h

operand_of_fits : (t : Ty) → ShapeFits t → OperandFits (operand_of t)
operand_of_fits (ty.Pointer t) h = h.0
operand_of_fits ty.Unsigned h = tt
operand_of_fits t h = tt

operand_by_fits : (o : Option Ty) → ((t : Ty) → o ≡ Some t → ShapeFits t)
    → OperandFits (operand_by o)
operand_by_fits None h = tt
operand_by_fits (Some t) h = operand_of_fits (decayed t) (decayed_fits t (h t refl))

-- the types of names in scope
record ScopeFits (scope : Scope) : Type 0 where
  pub objects : (name : List ℕ) (t : Ty) → look scope name ≡ Some (ObjectOf t)
      → SizeFits t × ShapeFits t
  pub calls : (c : Callee) (t : Ty) (ps : List Ty) (d : Bool)
      → called scope c ≡ Some (FunctionOf t ps d) → ShapeFits t

mutual
  shape_fits : (scope : Scope) (e : Expr) (t : Ty) → HasType scope e t → ScopeFits scope
      → HasWords e → ShapeFits t
  shape_fits _ _ _ (OfName scope name at t h) f w = (f.objects name t h).1
  shape_fits _ _ _ (OfNumber scope t n at) f w = integer_fits t w.0
  shape_fits _ _ _ (OfCharacter scope code at) f w = tt
  shape_fits _ _ _ (OfEof scope at) f w = tt
  shape_fits _ _ _ (OfSign scope op a at t s v i) f w = promoted_fits t i
  shape_fits _ _ _ (OfNot scope a at t v s) f w = tt
  shape_fits _ _ _ (OfContents scope a at t v) f w = (value_fits scope a (ty.Pointer t) v f w).1
  shape_fits _ _ _ (OfAddress scope a at t p h) f w =
      (size_fits scope a t h f w p, shape_fits scope a t h f w)
  shape_fits _ _ _ (OfStep scope how a at t p h s) f w = shape_fits scope a t h f w
  shape_fits _ _ _ (OfCast scope to a at t i v j) f w = integer_fits to i
  shape_fits _ _ _ (OfArithmetic scope op a b at t u k v z i j) f w = common_fits t u
  shape_fits _ _ _ (OfShift scope op a b at t u k v z i j) f w = promoted_fits t i
  shape_fits _ _ _ (OfPointerPlus scope op a b at t u k v z j) f w =
      value_fits scope a (ty.Pointer t) v f w.0
  shape_fits _ _ _ (OfPlusPointer scope op a b at t u k v z i) f w =
      value_fits scope b (ty.Pointer u) z f w.1
  shape_fits _ _ _ (OfPointerMinus scope op a b at t u k v z j) f w =
      value_fits scope a (ty.Pointer t) v f w.0
  shape_fits _ _ _ (OfDistance scope op a b at t k v z) f w = tt
  shape_fits _ _ _ (OfOrder scope op a b at t u k v z i j) f w = tt
  shape_fits _ _ _ (OfPointerOrder scope op a b at t k v z) f w = tt
  shape_fits _ _ _ (OfEquality scope op a b at t u k v z i j) f w = tt
  shape_fits _ _ _ (OfPointerEquality scope op a b at t k v z) f w = tt
  shape_fits _ _ _ (OfEqualityNought scope op a b at t k v z) f w = tt
  shape_fits _ _ _ (OfNoughtEquality scope op a b at u k z v) f w = tt
  shape_fits _ _ _ (OfLogic scope op a b at t u k v z i j) f w = tt
  shape_fits _ _ _ (OfConditional scope c a b at s t u x d v z i j) f w = common_fits t u
  shape_fits _ _ _ (OfPointerConditional scope c a b at s t x d v z) f w =
      value_fits scope a (ty.Pointer t) v f w.1
  shape_fits _ _ _ (OfConditionalNought scope c a b at s t x d v z) f w =
      value_fits scope a (ty.Pointer t) v f w.1
  shape_fits _ _ _ (OfNoughtConditional scope c a b at s u x d z v) f w =
      value_fits scope b (ty.Pointer u) v f w.2
  shape_fits _ _ _ (OfAssign scope a b at t u p h z i) f w = shape_fits scope a t h f w.0
  shape_fits _ _ _ (OfIntegerUpdate scope op a b at t u p h i z j) f w =
      shape_fits scope a t h f w.0
  shape_fits _ _ _ (OfPointerUpdate scope op a b at t u m p h z j) f w =
      shape_fits scope a (ty.Pointer t) h f w.0
  shape_fits _ _ _ (OfIndex scope a b at t u v z j) f w =
      (value_fits scope a (ty.Pointer t) v f w.0).1
  shape_fits _ _ _ (OfIndexTurned scope a b at t u v i z) f w =
      (value_fits scope b (ty.Pointer u) z f w.1).1
  shape_fits _ _ _ (OfCall scope name all at t ps d h v taken) f w = f.calls name t ps d h

  value_fits : (scope : Scope) (e : Expr) (t : Ty) → HasValue scope e t → ScopeFits scope
      → HasWords e → ShapeFits t
  value_fits _ _ _ (ValueOf scope a t h) f w = decayed_fits t (shape_fits scope a t h f w)

  -- a place is an object, or what a pointer points to
  size_fits : (scope : Scope) (e : Expr) (t : Ty) → HasType scope e t → ScopeFits scope
      → HasWords e → is_place e ≡ true → SizeFits t
  size_fits _ _ _ (OfName scope name at t h) f w p = (f.objects name t h).0
  size_fits _ _ _ (OfContents scope a at t v) f w p = (value_fits scope a (ty.Pointer t) v f w).0
  size_fits _ _ _ (OfIndex scope a b at t u v z j) f w p =
      (value_fits scope a (ty.Pointer t) v f w.0).0
  size_fits _ _ _ (OfIndexTurned scope a b at t u v i z) f w p =
      (value_fits scope b (ty.Pointer u) z f w.1).0
  size_fits _ _ _ (OfSign scope _ a at t PlusSign v i) f w p = cc
  size_fits _ _ _ (OfSign scope _ a at t MinusSign v i) f w p = cc
  size_fits _ _ _ (OfSign scope _ a at t FlipSign v i) f w p = cc
  size_fits _ _ _ h f w p = cc

module _ (defined : List ℕ → Option Definition) (names : Names) (fit : NamesFit defined names) where
  object_of : (name : List ℕ) (o : Option Named) (t : Ty) → names name ≡ o
      → otherwise (option_map known o) None ≡ Some (ObjectOf t) → SizeFits t × ShapeFits t
  object_of name None t e h = cc
  object_of name (Some (Variable shape home)) t e h =
      let f = fit name (Variable shape home) e in
      let s : shape ≡ t = same shape t h in
      (subst SizeFits s f.1, subst ShapeFits s f.2)
    where
      same : (shape t : Ty) → Some (ObjectOf shape) ≡ Some (ObjectOf t) → shape ≡ t
      same shape t h = cc
  object_of name (Some (Routine result parameters definition)) t e h = cc

  result_of : (name : List ℕ) (o : Option Named) (t : Ty) (ps : List Ty) (d : Bool) → names name ≡ o
      → otherwise (option_map known o) None ≡ Some (FunctionOf t ps d) → ShapeFits t
  result_of name None t ps d e h = cc
  result_of name (Some (Variable shape home)) t ps d e h = cc
  result_of name (Some (Routine result parameters definition)) t ps d e h =
      let f = fit name (Routine result parameters definition) e in
      subst ShapeFits (same result t parameters ps d h) f.0
    where
      same : (result t : Ty) (parameters ps : List Ty) (d : Bool)
          → Some (FunctionOf result parameters true) ≡ Some (FunctionOf t ps d) → result ≡ t
      same result t parameters ps d h = cc

  call_fits : (c : Callee) (t : Ty) (ps : List Ty) (d : Bool)
      → called (types names) c ≡ Some (FunctionOf t ps d) → ShapeFits t
  call_fits (callee.Name name) t ps d h = result_of name (names name) t ps d refl h
  call_fits callee.Getchar t ps d h = subst ShapeFits (same t ps d h) tt
    where
      same : (t : Ty) (ps : List Ty) (d : Bool)
          → Some (FunctionOf ty.Int [] true) ≡ Some (FunctionOf t ps d) → ty.Int ≡ t
      same t ps d h = cc
  call_fits callee.Putchar t ps d h = subst ShapeFits (same t ps d h) tt
    where
      same : (t : Ty) (ps : List Ty) (d : Bool)
          → Some (FunctionOf ty.Int (ty.Int ∷ []) true) ≡ Some (FunctionOf t ps d) → ty.Int ≡ t
      same t ps d h = cc

  scope_fits : ScopeFits (types names)
  scope_fits = record {
    objects = λ name t h. object_of name (names name) t refl h;
    calls = λ c t ps d h. call_fits c t ps d h;
  }

  fits_at : (e : Expr) → HasWords e → (t : Ty) → type_at (types names) e ≡ Some t → ShapeFits t
  fits_at e w t h = shape_fits (types names) e t (derived (types names) e t h) scope_fits w

  operand_fits : (e : Expr) → HasWords e → OperandFits (operand_in names e)
  operand_fits e w = operand_by_fits (type_at (types names) e) (fits_at e w)

  home_fits : (name : List ℕ) (o : Option Named) → names name ≡ o → HomeFits (home_of o)
  home_fits name None e = tt
  home_fits name (Some (Variable shape home)) e = (fit name (Variable shape home) e).0
  home_fits name (Some (Routine result parameters definition)) e = tt

  is_called : (name : List ℕ) (k : ℕ) (o : Option Named) → names name ≡ o
      → IsDefinedTaking k (definition_of o) → IsCalled defined names name k
  is_called name k None e takes = absurd takes
  is_called name k (Some (Variable shape home)) e takes = absurd takes
  is_called name k (Some (Routine result parameters None)) e takes = absurd takes
  is_called name k (Some (Routine result parameters (Some d))) e takes =
      let f = fit name (Routine result parameters (Some d)) e in
      record {
        definition = d;
        has_code = f.1.0;
        is = ap definition_of e;
        parameters = sym takes;
        few = omega (arith, f.1.1, takes);
      }

  takes_ready : (c : Callee) (all : Exprs) → Takes names c all
      → TakesArguments defined names c (count_of_arguments all)
  takes_ready (callee.Name name) all h = is_called name (count_of_arguments all) (names name) refl h
  takes_ready callee.Getchar all h = h
  takes_ready callee.Putchar all h = h

  mutual
    pub ready : (e : Expr) → IsEvaluable names e → HasWords e → IsReady defined names e
    ready (expr.Name name at) h w = home_fits name (names name) refl
    ready (expr.Number shape n at) h w = w.1
    ready (expr.Character code at) h w = w
    ready (expr.Eof at) h w = tt
    ready (expr.Unary unary.Address a at) h w = ready_place a h.1 w
    ready (expr.Unary op a at) h w = ready a h.1 w
    ready (expr.Step how a at) h w = (ready_place a h.1 w, operand_fits a w)
    ready (expr.Cast to a at) h w = ready a h.1 w
    ready (expr.Binary op a b at) h w =
        (ready a h.1 w.0, ready b h.2 w.1, operand_fits a w.0, operand_fits b w.1)
    ready (expr.Conditional c a b at) h w = (ready c h.1 w.0, ready a h.2 w.1, ready b h.3 w.2)
    ready (expr.Assign how a b at) h w =
        (ready_place a h.1 w.0, ready b h.2 w.1, operand_fits a w.0, operand_fits b w.1)
    ready (expr.Index a b at) h w =
        (ready a h.1 w.0, ready b h.2 w.1, operand_fits a w.0, operand_fits b w.1)
    ready (expr.Call c all at) h w = (all_ready all h.1 w, takes_ready c all h.2)

    ready_place : (e : Expr) → IsAddressable names e → HasWords e → IsReadyPlace defined names e
    ready_place (expr.Name name at) h w = home_fits name (names name) refl
    ready_place (expr.Unary unary.At a at) h w = ready a h.1 w
    ready_place (expr.Index a b at) h w =
        (ready a h.1 w.0, ready b h.2 w.1, operand_fits a w.0, operand_fits b w.1)
    ready_place e h w = absurd h

    all_ready : (all : Exprs) → AreEvaluable names all → HaveWords all → AreReady defined names all
    all_ready expr.NoMore h w = tt
    all_ready (expr.More e rest) h w = (ready e h.0 w.0, all_ready rest h.1 w.1)

  -- a call whose value isn't used needs no type
  pub ready_unused : (e : Expr) → IsEvaluableUnused names e → HasWords e → IsReady defined names e
  ready_unused (expr.Call c all at) h w = (all_ready all h.0 w, takes_ready c all h.1)
  ready_unused e h w = ready e h w
