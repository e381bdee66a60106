-- What the types are that a walk passes on.
use Rattle.std.specs.Prelude.{Option, Some, None, Bool, true, false}
use Rattle.c_tree.specs.Ty.{Ty}
use Rattle.c_tree.specs.Ty as the_ty
use Rattle.c_tree.specs.View.{ty_of}
use Rattle.c_tree.specs.Rules.{binary_rule, conditional_rule, index_rule, assign_rule, unary_rule, step_rule, cast_rule, is_at}
use Rattle.c_rules.specs.declared.rules.PartRule.{PartRule}
use Rattle.c_rules.specs.declared.rules.PartRule.TheVariants.{Unary, Step, Cast}
use Rattle.c_rules.specs.declared.rules.Rule.{Rule}
use Rattle.c_rules.specs.declared.rules.Rule.TheVariants.{Binary, Conditional, Index, Assign}
use Rattle.c_rules.specs.declared.seen.Base.{Base}
use Rattle.c_rules.specs.declared.seen.Base.TheVariants.{Int, Unsigned, At}
use Rattle.c_rules.specs.declared.seen.Seen.{Seen}
use Rattle.c_rules.specs.declared.seen.Seen.TheVariants.{Is, To}

abbrev pub base : Base → Ty
base Int = the_ty.Int
base Unsigned = the_ty.Unsigned
base (At ty) = ty_of ty.now

abbrev pub seen : Seen → Ty
seen (Is b) = base b
seen (To b) = the_ty.Pointer (base b)

abbrev pub seen_some : Option Seen → Option Ty
seen_some None = None
seen_some (Some s) = Some (seen s)

-- a type that stands somewhere as it is, so that a pointer to it is one more step
abbrev pub is_flat : Option Seen → Bool
is_flat None = true
is_flat (Some (Is b)) = true
is_flat (Some (To b)) = false

-- the rule on two types
abbrev pub rule_of : Rule → Ty → Ty → Option Ty
rule_of (Binary op n m) = binary_rule op n m
rule_of (Conditional n m) = conditional_rule n m
rule_of Index = index_rule
rule_of (Assign how n) = assign_rule how n

-- the rule on one type
abbrev pub part_rule : PartRule → Ty → Option Ty
part_rule (Unary op) = unary_rule op
part_rule Step = step_rule
part_rule (Cast to) = cast_rule (ty_of to.now)

-- `*`, which gives what stands somewhere
abbrev pub is_contents : PartRule → Bool
is_contents (Unary op) = is_at op
is_contents _ = false
