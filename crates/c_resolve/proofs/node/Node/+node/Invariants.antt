use Rattle.std.proofs.Common.{◌≤◌}
use Rattle.c_resolve.specs.declared.node.Node.{size-Node}
use Rattle.c_resolve.proofs.node.Node.+node.Given as goal

abbrev pub invariant-first : goal.invariant-first
invariant-first l = size-Node l.self ≤ size-Node l.initial.self
