-- What an expression does, form by form, where its parts are resolved.
use Rattle.std.proofs.Common.{◌≡◌, ℕ, List, [], ◌∷◌, Option, None, Some, map, refl, ap}
use Rattle.std.specs.Option.{option_map}
use Rattle.c_tree.specs.declared.place.Place.{Place}
use Rattle.c_tree.specs.declared.tree.Expr.{Expr}
use Rattle.c_tree.specs.Scope.{Known, otherwise}
use Rattle.c_tree.specs.Ty.{Ty}
use Rattle.c_tree.specs.Ty as ty
use Rattle.c_tree.specs.Expr as expr
use Rattle.c_tree.specs.Typing.{type_at, object}
use Rattle.c_tree.specs.View.{expr_of, exprs_of}
use Rattle.c_tree.specs.Arithmetic.{converted}
use Rattle.c_semantics.specs.Run.{Run, Ended, Goes, StackFull, More, Undef, pure, ◌>>=◌, ◌>>◌, then_run, count}
use Rattle.c_semantics.specs.Memory.{value_at}
use Rattle.c_semantics.specs.Names.{Names, known, types, address_of, home_of, held, held_by}
use Rattle.c_semantics.specs.Eval.{eval, arguments, held_in}
use Rattle.c_resolve.specs.Nodes.{placed, name_run, name_address, cast_run, cast_value, all_values}
use Rattle.c_resolve.specs.private.Resolved.{runs_of}
use Rattle.c_resolve.specs.Context.{Context}

otherwise_none : (o : Option Known) → otherwise o None ≡ o
otherwise_none None = refl
otherwise_none (Some x) = refl

-- the type of a name
pub typed_name : (names : Names) (name : List ℕ) (at : Place)
    → type_at (types names) (expr.Name name at) ≡ object (option_map known (names name))
typed_name names name at = ap object (otherwise_none (option_map known (names name)))

-- one run behind another behind a third
joined : {A B C : Type 0} (e : Ended A) (f : A → Run B) (g : B → Run C)
    → then_run (then_run e f) g ≡ then_run e (λ v. f v >>= g)
joined (Goes v store left) f g = refl
joined (StackFull output) f g = refl
joined (More output) f g = refl
joined (Undef output act at) f g = refl

-- a name
pub name_made : (context : Context) (names : Names) (name : List ℕ) (at : Place)
    → placed (name_run (home_of (names name)) (held_by (type_at (types names) (expr.Name name at))) at) (name_address (home_of (names name))) at ≡ runs_of context names (expr.Name name at)
name_made context names name at =
    let h = held_in context.input context.calls names (expr.Name name at) in
    let same : name_run (home_of (names name)) h at ≡ eval context.input context.calls names (expr.Name name at) = λ i store left. joined (count store left) (λ _. address_of (home_of (names name))) (λ x. value_at h x at) i in
    λ i. placed (same i) (name_address (home_of (names name))) at

pub converted_held : (t : Ty) → cast_value (held t) ≡ converted t
converted_held ty.Int = refl
converted_held ty.Unsigned = refl
converted_held ty.Char = refl
converted_held ty.Void = refl
converted_held (ty.Pointer t) = refl
converted_held (ty.Array t n) = refl

-- a cast
pub converts : (t : Ty) (a : Run ℕ)
    → cast_run (held t) a ≡ (a >>= λ x. count >> pure (converted t x))
converts t a = ap (λ (f : ℕ → ℕ). a >>= λ x. count >> pure (f x)) (converted_held t)

-- the arguments of a call
pub all_made : (context : Context) (names : Names) (es : List Expr)
    → all_values (map (λ e. runs_of context names (expr_of e)) es)
    ≡ arguments context.input context.calls names (exprs_of es)
all_made context names [] = refl
all_made context names (e ∷ es) = ap (λ (r : Run (List ℕ)). eval context.input context.calls names (expr_of e) >>= λ v. r >>= λ vs. pure (v ∷ vs)) (all_made context names es)
