-- Registers that change with the stack pointer.
use Rattle.std.proofs.Common.{◌≡◌, ℕ, ◌^◌, ◌<◌, List, length, sym, ap, ◌∙◌, subst}
use Rattle.std.specs.Prelude.{slice_index}
use Rattle.bop_bits.specs.MemoryNumbers.{byte_at}
use Rattle.rv_code.specs.State.{State}
use Rattle.c_semantics.specs.Run.{Store}
use Rattle.low_expr.specs.Agreement.{Agrees}
use Rattle.low_expr.proofs.PlainCode.{Env, Went}

-- the store with another stack pointer
abbrev pub with_stack : ℕ → Store → Store
with_stack sp store = record store { sp = sp }

-- registers changed, among them the stack pointer
pub stack_agrees : (code input : List ℕ) (sp j i : ℕ) (env : Env) (store : Store) (s s' : State)
    → Agrees store s → Went code input j i env s s' → env 2 ≡ sp → Agrees (with_stack sp store) s'
stack_agrees code input sp j i env store s s' a w is = record {
  bytes = λ at v lives h. ap (λ m. byte_at m at) w.memory ∙ a.bytes at v lives h;
  small = λ at. subst (λ m. slice_index m at < 2 ^ 8) (sym w.memory) (a.small at);
  stack = ap (λ e. e 2) w.is ∙ is;
  cursor = w.cursor ∙ a.cursor;
  output = w.output ∙ a.output;
  memory = ap length w.memory ∙ a.memory;
  registers = w.registers;
  cells = a.cells;
}
