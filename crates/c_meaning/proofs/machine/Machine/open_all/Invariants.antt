use Rattle.std.proofs.Common.{◌≡◌, drop}
use Rattle.c_meaning.specs.private.Opened.{opened_all}
use Rattle.c_meaning.proofs.machine.Machine.open_all.Given as goal

abbrev pub invariant-loop-local : goal.invariant-loop-local
invariant-loop-local l = record {
  others : l.self ≡ record l.fn.self { memory = l.self.memory };
  opens : opened_all l.fn.self.sp (drop l.local-index l.locals) l.self.memory
      ≡ opened_all l.fn.self.sp l.locals l.fn.self.memory;
}
