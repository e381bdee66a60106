-- The frame of a call: what is said of the store with the stack pointer lower.
use Rattle.std.proofs.Common.{◌≡◌, ℕ, ◌+◌, ◌-◌, ◌*◌, ◌%◌, ◌≤◌, List, [], ◌∷◌, refl, arith}
use Rattle.bop_bits.specs.declared.map.TheConstants.{STACK_FROM}
use Rattle.c_tree.specs.Stmt.{Stmts}
use Rattle.c_tree.specs.Fun.{Param}
use Rattle.c_layout.specs.Frames.{frame_of, rooms, end_from}
use Rattle.c_semantics.specs.Run.{Store}
use Rattle.low_expr.specs.Agreement.{Framed}
use Rattle.low_stmt.specs.FunCode.{last_word}
use Rattle.low_stmt.specs.StmtSimulation.{IsFrame}
use Rattle.low_stmt.proofs.StackChanges.{with_stack}

pub end_after : (at : ℕ) (rs : List ℕ) → at ≤ end_from at rs
end_after at [] = omega arith
end_after at (r ∷ rs) = let h = end_after (at + r) rs in omega (arith, h)

-- a frame's size, with its slots and its last word
pub record Sized (size slots : ℕ) : Type 0 where
  pub last : 4 * last_word size + 4 ≡ size
  pub slots_before : slots ≤ last_word size
  pub aligned : size % 4 ≡ 0

pub frame_sized : (ps : List Param) (body : Stmts)
    → Sized (frame_of ps body).size (frame_of ps body).slots
frame_sized ps body =
    let f = frame_of ps body in
    let h = end_after (4 * f.slots) (rooms ps body) in
    record {
      last = omega (arith, h);
      slots_before = omega (arith, h);
      aligned = omega (arith, h);
    }

-- the store once the frame is made
abbrev pub deeper : ℕ → Store → Store
deeper size store = with_stack (store.sp - size) store

module _ (size slots : ℕ) (sized : Sized size slots) (store : Store) (f : Framed store.sp 0 store)
    (room : STACK_FROM + size ≤ store.sp) where
  pub deeper_framed : (k : ℕ) → k ≤ last_word size + 1
      → Framed (store.sp - size) k (deeper size store)
  deeper_framed k le = record {
    is = refl;
    aligned = omega (arith, f.aligned, sized.aligned);
    above = omega arith;
    within = omega (arith, f.within, sized.last);
    apart = λ at ge lt lives. f.apart at ge (omega (arith, sized.last)) lives;
    inside = f.inside;
  }

  pub deeper_frame : IsFrame (store.sp - size) slots (last_word size)
  deeper_frame = record { slots = sized.slots_before; within = omega (arith, f.within, sized.last) }
