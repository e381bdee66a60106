-- Declarators: the types that they declare, and the rules that they break (C11 6.7.6, 6.7.9).
use Rattle.std.specs.Prelude.{ℕ, zero, suc, ◌==◌, Bool, true, false, not, ◌&&◌, ◌||◌, List, [], ◌∷◌, ◌++◌, Option, Some, None, is_some, nat_le, if◌then◌else◌}
use Rattle.c_tree.specs.declared.storage.Storage.{Storage}
use Rattle.c_tree.specs.declared.storage.Storage.TheVariants.{Static, Automatic}
use Rattle.c_tree.specs.declared.usage.Use.TheVariants.{Value}
use Rattle.c_tree.specs.declared.breach.Breach.{Breach}
use Rattle.c_tree.specs.declared.breach.Broken.TheVariants.{Twice, Mismatch}
use Rattle.c_tree.specs.Ty.{Ty}
use Rattle.c_tree.specs.Ty as ty
use Rattle.c_tree.specs.Expr.{Exprs}
use Rattle.c_tree.specs.Expr as expr
use Rattle.c_tree.specs.Init.{Init}
use Rattle.c_tree.specs.Init as initial
use Rattle.c_tree.specs.Var.{Var}
use Rattle.c_tree.specs.Fun.{Param}
use Rattle.c_tree.specs.Scope.{ObjectOf, Scope, declared}
use Rattle.c_tree.specs.Breach.{breach, unless}
use Rattle.c_tree.specs.Shapes.{is_integer, is_pointer, is_unsigned}
use Rattle.c_tree.specs.Rules.{is_nought}
use Rattle.c_tree.specs.Typing.{type_at}
use Rattle.c_tree.specs.Breaches.{breaches, breaches_in, may_take}
use Rattle.c_tree.specs.Constant.{constant_shape, constant_breaches, value_of}

abbrev pub pointers : ℕ → Ty → Ty
pointers zero t = t
pointers (suc stars) t = ty.Pointer (pointers stars t)

-- a size that is no constant is a breach that stands before each use of the name; it counts as 0
abbrev pub count_of : Option ℕ → ℕ
count_of (Some n) = n
count_of None = 0

-- arrays of a type, the outermost size first
abbrev pub sized : Exprs → Ty → Ty
sized expr.NoMore t = t
sized (expr.More size sizes) t = ty.Array (sized sizes t) (count_of (value_of size))

-- the type of an array's innermost elements, or of what isn't an array
abbrev pub element_shape : Var → Ty
element_shape d = pointers d.stars d.base

-- the type that a declarator declares
abbrev pub declared_shape : Var → Ty
declared_shape d = sized d.sizes (element_shape d)

-- a parameter `[]` is a pointer (6.7.6.3)
abbrev pub pointer_where : Bool → Ty → Ty
pointer_where array t = if array then ty.Pointer t else t

abbrev pub parameter_shape : Param → Ty
parameter_shape p = pointer_where p.array (pointers p.stars p.base)

abbrev pub with_declarator : Var → Scope → Scope
with_declarator d scope = declared d.name (ObjectOf (declared_shape d)) scope

abbrev pub with_declarators : List Var → Scope → Scope
with_declarators [] scope = scope
with_declarators (d ∷ ds) scope = with_declarators ds (with_declarator d scope)

-- a size is at least 1, read with the sign of its type
abbrev pub is_word_below_one : Bool → ℕ → Bool
is_word_below_one unsigned n = (n == 0) || (not unsigned && nat_le 2147483648 n)

abbrev pub is_below_one : Bool → Option ℕ → Bool
is_below_one unsigned None = false
is_below_one unsigned (Some n) = is_word_below_one unsigned n

abbrev pub fit_sizes : Exprs → Bool
fit_sizes expr.NoMore = true
fit_sizes (expr.More size sizes) =
    not (is_below_one (is_unsigned (constant_shape size)) (value_of size)) && fit_sizes sizes

abbrev pub constants_breaches : Scope → Exprs → List Breach
constants_breaches scope expr.NoMore = []
constants_breaches scope (expr.More e rest) =
    constant_breaches (Some scope) true e ++ constants_breaches scope rest

-- a global takes a constant: an integer any, a pointer the literal 0 (6.7.9)
abbrev pub takes_constant : Ty → Bool → Bool
takes_constant t nought = is_integer t || (is_pointer t && nought)

abbrev pub are_at_most : ℕ → Exprs → Bool
are_at_most n expr.NoMore = true
are_at_most zero (expr.More e rest) = false
are_at_most (suc n) (expr.More e rest) = are_at_most n rest

abbrev pub are_within : Option ℕ → Exprs → Bool
are_within None values = true
are_within (Some n) values = are_at_most n values

-- a list in braces is for an array of integers in one dimension, with at most as many items as elements
abbrev pub takes_list : Ty → Exprs → Exprs → Bool
takes_list t (expr.More size expr.NoMore) values = is_integer t && are_within (value_of size) values
takes_list t expr.NoMore values = false
takes_list t (expr.More size (expr.More other sizes)) values = false

-- what a global is initialised with
abbrev pub global_init_breaches : Scope → Var → Option Init → List Breach
global_init_breaches scope d None = []
global_init_breaches scope d (Some (initial.One e)) =
    constant_breaches (Some scope) true e
    ++ unless (takes_constant (declared_shape d) (is_nought e)) Mismatch d.place
global_init_breaches scope d (Some (initial.Many values)) =
    constants_breaches scope values
    ++ unless (takes_list (element_shape d) d.sizes values) Mismatch d.place

-- what a local is initialised with, as by an assignment
abbrev pub local_init_breaches : Scope → Var → Option Init → List Breach
local_init_breaches scope d None = []
local_init_breaches scope d (Some (initial.One e)) =
    breaches scope Value e ++ unless
    (may_take (declared_shape d) (is_nought e) (type_at scope e)) Mismatch d.place
local_init_breaches scope d (Some (initial.Many values)) =
    breaches_in scope values ++ breach Mismatch d.place

abbrev pub init_breaches : Storage → Scope → Var → List Breach
init_breaches Static scope d = global_init_breaches scope d d.init
init_breaches Automatic scope d = local_init_breaches scope d d.init

-- A declarator's name is in scope in its initialiser, and not in its sizes (6.2.1).
abbrev pub declarator_breaches : Storage → Scope → Var → List Breach
declarator_breaches storage scope d =
    constants_breaches scope d.sizes
    ++ (unless (not (is_some (scope.inner d.name))) Twice d.place
    ++ (unless (fit_sizes d.sizes) Mismatch d.place
    ++ init_breaches storage (with_declarator d scope) d))

abbrev pub declarators_breaches : Storage → Scope → List Var → List Breach
declarators_breaches storage scope [] = []
declarators_breaches storage scope (d ∷ ds) =
    declarator_breaches storage scope d ++ declarators_breaches storage (with_declarator d scope) ds
