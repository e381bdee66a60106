use Rattle.std.proofs.Common.{◌≡◌, take, drop, []}
use Rattle.c_tree.specs.Breach.{least_of}
use Rattle.c_tree.specs.Regions.{edge_breaches}
use Rattle.c_check.specs.private.Firsts.{HasFirsts}
use Rattle.c_check.proofs.region.check_edges.Given as goal

abbrev pub invariant-loop-edge : goal.invariant-loop-edge
invariant-loop-edge l = record {
  before : HasFirsts l.before (take l.edge-index l.edges);
  least : least_of l.least (edge_breaches (take l.edge-index l.edges) (drop l.edge-index l.edges))
      ≡ least_of l.initial.least (edge_breaches [] l.edges);
}
