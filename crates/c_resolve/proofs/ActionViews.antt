-- What nodes and actions do, form by form: equations that a walk over them names in its `using(..)`.
use Rattle.std.specs.Prelude.{Box, map}
use Rattle.std.proofs.Common.{◌≡◌, ℕ, Bool, Vec, Global, Option, Some, None, ap, sym, ◌∙◌}
use Rattle.c_tree.specs.declared.operator.Binary.{Binary}
use Rattle.c_tree.specs.declared.operator.Binary.TheVariants as binary
use Rattle.c_tree.specs.declared.operator.Step.{Step}
use Rattle.c_tree.specs.declared.operator.Unary.{Unary}
use Rattle.c_tree.specs.declared.place.Place.{Place}
use Rattle.c_resolve.specs.declared.action.Action.{Action}
use Rattle.c_resolve.specs.declared.action.Action.TheVariants as s
use Rattle.c_resolve.specs.declared.action.Action.TheOpen as level
use Rattle.c_resolve.specs.declared.action.Action.TheOpen.{Action-F}
use Rattle.c_resolve.specs.declared.action.Action.TheViews.{roll-Action}
use Rattle.c_resolve.specs.declared.action.Action.TheFolds.{fold-roll-Action, map-Action}
use Rattle.c_resolve.specs.declared.action.Beginning.{Beginning}
use Rattle.c_resolve.specs.declared.action.Passed.{Passed}
use Rattle.c_semantics.specs.declared.home.Home.{Home}
use Rattle.c_semantics.specs.declared.kind.Held.{Held}
use Rattle.c_semantics.specs.declared.kind.Operand.{Operand}
use Rattle.c_semantics.specs.declared.local.Local.{Local}
use Rattle.c_resolve.specs.declared.node.Node.{Node}
use Rattle.c_resolve.specs.declared.node.NodeKind.{NodeKind}
use Rattle.c_resolve.specs.declared.node.NodeKind.TheVariants as k
use Rattle.c_resolve.specs.declared.node.NodeKind.TheOpen as one
use Rattle.c_resolve.specs.declared.node.NodeKind.TheOpen.{NodeKind-F}
use Rattle.c_resolve.specs.declared.node.NodeKind.TheViews.{roll-NodeKind}
use Rattle.c_resolve.specs.declared.node.NodeKind.TheFolds.{fold-roll-NodeKind, fold_out-Node, map-NodeKind}
use Rattle.c_resolve.specs.declared.node.Target.{Target}
use Rattle.c_semantics.specs.Run.{Run}
use Rattle.c_semantics.specs.Eval.{call, strict, binary_run, unary_run, stepped, assign_run, conditional_run}
use Rattle.c_semantics.specs.declared.flow.Flow.{Flow}
use Rattle.c_semantics.specs.declared.flow.Flow.TheVariants.{Normal, AtBreak, AtContinue}
use Rattle.c_resolve.specs.Nodes.{Runs, placed, valued, constant, name_run, name_address, pointer, index_run, cast_run, called, all_values, target_run, node_step, at_place, runs, runs_of_kind}
use Rattle.c_resolve.specs.Actions.{expr_run, vars_run, if_run, else_run, while_run, do_run, for_run, return_run, ends_with, value_run, unused_run, passing, first_run, test_run, step_run, return_flow_run, action_step, action_run, boxed_run, block_run}
use Rattle.c_resolve.specs.Context.{Context}

module _ (context : Context) where
  abbrev of : Node → Runs
  of = runs context

  abbrev at_kind : NodeKind → Place → Runs
  at_kind = runs_of_kind context

  pub node_is : (n : Node)
      → runs context n
      ≡ at_place (runs_of_kind context n.kind) n.place
  node_is n = fold_out-Node (Place → Runs) Runs (node_step context) (λ n. at_place n.kind n.place) n

  pub place_is : (n : Node) → (runs context n).place ≡ n.place
  place_is n = ap (λ r. r.place) (node_is n)

  rolled : (x : NodeKind-F NodeKind Node) (at : Place)
      → at_kind (roll-NodeKind x) at
      ≡ node_step context
      (map-NodeKind NodeKind Node (Place → Runs) Runs at_kind of x) at
  rolled x at = ap (λ f. f at) (fold-roll-NodeKind (Place → Runs) Runs (node_step context) (λ n. at_place n.kind n.place) x)

  pub constant_is : (n : ℕ) (at : Place)
      → runs_of_kind context (k.Constant n) at ≡ valued (constant n) at
  constant_is n at = ap (λ k. at_kind k at) (sym (k.rolls-Constant n)) ∙ rolled (one.Constant n) at

  pub name_is : (home : Home) (h : Held) (at : Place)
      → runs_of_kind context (k.Name home h) at
      ≡ placed (name_run home h at) (name_address home) at
  name_is home h at = ap (λ k. at_kind k at) (sym (k.rolls-Name home h)) ∙ rolled (one.Name home h) at

  pub unary_is : (op : Unary) (c : Operand) (h : Held) (a : Box Node Global) (at : Place)
      → runs_of_kind context (k.Unary op c h a) at
      ≡ placed (unary_run op c h at (of a.value).value (of a.value).address)
      (pointer (of a.value).value) at
  unary_is op c h a at = ap (λ k. at_kind k at) (sym (k.rolls-Unary op c h a)) ∙ rolled (one.Unary op c h a) at

  pub step_is : (how : Step) (c : Operand) (h : Held) (a : Box Node Global) (at : Place)
      → runs_of_kind context (k.Step how c h a) at
      ≡ valued (stepped how c h (of a.value).place at (of a.value).address) at
  step_is how c h a at = ap (λ k. at_kind k at) (sym (k.rolls-Step how c h a)) ∙ rolled (one.Step how c h a) at

  pub convert_is : (h : Held) (a : Box Node Global) (at : Place)
      → runs_of_kind context (k.Cast h a) at
      ≡ valued (cast_run h (of a.value).value) at
  convert_is h a at = ap (λ k. at_kind k at) (sym (k.rolls-Cast h a)) ∙ rolled (one.Cast h a) at

  pub binary_is : (op : Binary) (c d : Operand) (a b : Box Node Global) (at : Place)
      → runs_of_kind context (k.Binary op c d a b) at
      ≡ valued (binary_run op c d at (of a.value).value (of b.value).value) at
  binary_is op c d a b at = ap (λ k. at_kind k at) (sym (k.rolls-Binary op c d a b)) ∙ rolled (one.Binary op c d a b) at

  pub conditional_is : (c a b : Box Node Global) (at : Place)
      → runs_of_kind context (k.Conditional c a b) at
      ≡ valued (conditional_run (of c.value).value (of a.value).value (of b.value).value) at
  conditional_is c a b at = ap (λ k. at_kind k at) (sym (k.rolls-Conditional c a b)) ∙ rolled (one.Conditional c a b) at

  pub assign_is : (how : Option Binary) (c d : Operand) (h : Held) (a b : Box Node Global)
      (at : Place) → runs_of_kind context (k.Assign how c d h a b) at
      ≡ valued (assign_run how c d h (of a.value).place at (of a.value).address (of b.value).value)
      at
  assign_is how c d h a b at = ap (λ k. at_kind k at) (sym (k.rolls-Assign how c d h a b)) ∙ rolled (one.Assign how c d h a b) at

  pub index_is : (c d : Operand) (h : Held) (a b : Box Node Global) (at : Place)
      → runs_of_kind context (k.Index c d h a b) at
      ≡ placed (index_run c d h at (of a.value).value (of b.value).value) (strict binary.Plus c d at (of a.value).value (of b.value).value) at
  index_is c d h a b at = ap (λ k. at_kind k at) (sym (k.rolls-Index c d h a b)) ∙ rolled (one.Index c d h a b) at

  pub call_is : (t : Target) (all : Vec Node Global) (at : Place)
      → runs_of_kind context (k.Call t all) at
      ≡ called (call (all_values (map of all.items)) (target_run context t)) at
  call_is t all at = ap (λ k. at_kind k at) (sym (k.rolls-Call t all)) ∙ rolled (one.Call t all) at

  abbrev act : Action → Run Flow
  act = action_run context

  built : (x : Action-F Action)
      → act (roll-Action x) ≡ action_step context
      (map-Action Action (Run Flow) act x)
  built x = fold-roll-Action (Run Flow) (action_step context) x

  pub empty_is : action_run context s.Empty ≡ ends_with Normal
  empty_is = ap act (sym s.rolls-Empty) ∙ built level.Empty

  pub evaluate_is : (n : Node)
      → action_run context (s.Expr n)
      ≡ expr_run (unused_run context n)
  evaluate_is n = ap act (sym (s.rolls-Expr n)) ∙ built (level.Expr n)

  pub declare_is : (counted : Bool) (ps : Vec Passed Global)
      → action_run context (s.Vars counted ps)
      ≡ vars_run counted (passing context ps.items)
  declare_is counted ps = ap act (sym (s.rolls-Vars counted ps)) ∙ built (level.Vars counted ps)

  pub block_is : (ls : Vec Local Global) (body : Vec Action Global)
      → action_run context (s.Block ls body)
      ≡ block_run context ls.items body.items
  block_is ls body = ap act (sym (s.rolls-Block ls body)) ∙ built (level.Block ls body)

  pub if_is : (c : Node) (body : Box Action Global) (other : Option (Box Action Global))
      → action_run context (s.If c body other)
      ≡ if_run (value_run context c) (act body.value)
      (else_run (boxed_run context) other)
  if_is c body None = ap act (sym (s.rolls-If c body None)) ∙ built (level.If c body None)
  if_is c body (Some other) = ap act (sym (s.rolls-If c body (Some other))) ∙ built (level.If c body (Some other))

  pub while_is : (c : Node) (body : Box Action Global)
      → action_run context (s.While c body)
      ≡ while_run (value_run context c) (act body.value)
  while_is c body = ap act (sym (s.rolls-While c body)) ∙ built (level.While c body)

  pub do_is : (body : Box Action Global) (c : Node)
      → action_run context (s.Do body c)
      ≡ do_run (act body.value) (value_run context c)
  do_is body c = ap act (sym (s.rolls-Do body c)) ∙ built (level.Do body c)

  pub for_is : (ls : Vec Local Global) (f : Beginning) (c d : Option Node)
      (body : Box Action Global) → action_run context (s.For ls f c d body)
      ≡ for_run ls.items (first_run context f) (test_run context c) (step_run context d) (act body.value)
  for_is ls f c d body = ap act (sym (s.rolls-For ls f c d body)) ∙ built (level.For ls f c d body)

  pub return_is : (h : Held) (value : Option Node)
      → action_run context (s.Return h value)
      ≡ return_run (return_flow_run context h value)
  return_is h value = ap act (sym (s.rolls-Return h value)) ∙ built (level.Return h value)

  pub break_is : action_run context s.Break ≡ ends_with AtBreak
  break_is = ap act (sym s.rolls-Break) ∙ built level.Break

  pub continue_is : action_run context s.Continue ≡ ends_with AtContinue
  continue_is = ap act (sym s.rolls-Continue) ∙ built level.Continue

pub ruleset views = (node_is, place_is, constant_is, name_is, unary_is, step_is, convert_is, binary_is, conditional_is, assign_is, index_is, call_is, empty_is, evaluate_is, declare_is, block_is, if_is, while_is, do_is, for_is, return_is, break_is, continue_is)
