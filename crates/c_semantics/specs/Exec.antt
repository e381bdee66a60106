-- What a statement does (C11 6.8): a step is counted as a statement is entered, but not for a block or a declaration without an initialiser; and one as a loop's body is about to be executed.
use Rattle.std.specs.Prelude.{ℕ, zero, suc, ◌+◌, ◌==◌, Bool, true, false, ◌||◌, List, [], ◌∷◌, ◌++◌, take, drop, length, map, Option, Some, None, is_some, if◌then◌else◌}
use Rattle.c_tree.specs.Ty.{Ty}
use Rattle.c_tree.specs.Expr.{Expr}
use Rattle.c_tree.specs.Init.{Init}
use Rattle.c_tree.specs.Init as initial
use Rattle.c_tree.specs.Var.{Var}
use Rattle.c_tree.specs.First.{First}
use Rattle.c_tree.specs.First as for_first
use Rattle.c_tree.specs.Stmt.{Stmt, Stmts, ElseBranch}
use Rattle.c_tree.specs.Stmt as stmt
use Rattle.c_tree.specs.Declarators.{declared_shape}
use Rattle.c_tree.specs.Arithmetic.{converted}
use Rattle.c_layout.specs.Sizes.{size}
use Rattle.c_layout.specs.Frames.{locals, beginning_locals}
use Rattle.c_semantics.specs.declared.object.Object.{Object}
use Rattle.c_semantics.specs.declared.flow.Flow.{Flow}
use Rattle.c_semantics.specs.declared.flow.Flow.TheVariants.{Normal, AtBreak, AtContinue, AtReturn}
use Rattle.c_semantics.specs.declared.home.Home.TheVariants.{InFrame}
use Rattle.c_semantics.specs.declared.local.Local.{Local}
use Rattle.c_semantics.specs.Run.{Run, pure, ◌>>=◌, ◌>>◌, count, more, now, change}
use Rattle.c_semantics.specs.Memory.{store_at, blank}
use Rattle.c_semantics.specs.Names.{Names, Variable, with_name, held}
use Rattle.c_semantics.specs.Eval.{Calls, eval, unused}

-- what follows a statement is executed where it ends normally
abbrev pub next : Flow → Run Flow → Run Flow
next Normal go = go
next AtBreak go = pure AtBreak
next AtContinue go = pure AtContinue
next (AtReturn v) go = pure (AtReturn v)

-- what follows a turn of a loop (6.8.5, 6.8.6)
abbrev pub after_turn : Flow → Run Flow → Run Flow
after_turn Normal go = go
after_turn AtBreak go = pure Normal
after_turn AtContinue go = go
after_turn (AtReturn v) go = pure (AtReturn v)

-- at most so many tests of a loop
abbrev pub turns : ℕ → Run ℕ → Run Flow → Run (Unit {0}) → Run Flow
turns zero test body step = more
turns (suc n) test body step = do
  x ← test
  if x == 0 then pure Normal else (do
    count
    f ← body
    after_turn f (step >> turns n test body step))

-- a loop: each test but the last is followed by a step, so the steps that are left bound the tests
abbrev pub loop : Run ℕ → Run Flow → Run (Unit {0}) → Run Flow
loop test body step store left = turns (suc left) test body step store left

-- Places are the offsets of the locals from a point of the function on, in order of declaration.

abbrev pub declared_locals : List ℕ → List Var → List Local
declared_locals (place ∷ places) (d ∷ ds) =
    record { offset = place; size = size (declared_shape d) } ∷ declared_locals places ds
declared_locals _ _ = []

-- the places behind a statement
abbrev pub behind : Stmt → List ℕ → List ℕ
behind s places = drop (length (locals s)) places

abbrev pub statement_locals : List ℕ → Stmt → List Local
statement_locals places (stmt.Vars ds at) = declared_locals places ds
statement_locals places s = []

-- the locals of a block itself, without those of the blocks in it
abbrev pub block_locals : List ℕ → Stmts → List Local
block_locals places stmt.NoMore = []
block_locals places (stmt.More s rest) =
    statement_locals places s ++ block_locals (behind s places) rest

abbrev pub beginning_own : List ℕ → First → List Local
beginning_own places f = declared_locals places (beginning_locals f)

abbrev pub object_at : ℕ → Local → Object
object_at sp l = record { address = sp + l.offset; size = l.size }

abbrev pub all_blank : ℕ → List Local → List (Option ℕ) → List (Option ℕ)
all_blank sp [] bytes = bytes
all_blank sp (l ∷ ls) bytes = all_blank sp ls (blank (sp + l.offset) l.size bytes)

-- Some locals live while a block is executed, and nothing is written into them as it is entered; then what lived before lives on (6.2.4).
abbrev pub with_locals : {A : Type 0} → List Local → Run A → Run A
with_locals ls run = do
  before ← now
  change (record before {
    live = before.live ++ map (object_at before.sp) ls;
    bytes = all_blank before.sp ls before.bytes;
  })
  v ← run
  after ← now
  change (record after { live = take (length before.live) after.live })
  pure v

abbrev pub with_local : List ℕ → Var → Names → Names
with_local [] d names = names
with_local (place ∷ places) d names =
    with_name d.name (Variable (declared_shape d) (InFrame place)) names

abbrev pub with_locals_named : List ℕ → List Var → Names → Names
with_locals_named places [] names = names
with_locals_named places (d ∷ ds) names =
    with_locals_named (drop 1 places) ds (with_local places d names)

abbrev pub named_behind : List ℕ → Stmt → Names → Names
named_behind places (stmt.Vars ds at) names = with_locals_named places ds names
named_behind places s names = names

abbrev pub named_beginning : List ℕ → First → Names → Names
named_beginning places f names = with_locals_named places (beginning_locals f) names

abbrev pub has_init : List Var → Bool
has_init [] = false
has_init (d ∷ ds) = is_some d.init || has_init ds

abbrev pub count_where : Bool → Run (Unit {0})
count_where true = count
count_where false = pure tt

abbrev pub first_place : List ℕ → ℕ
first_place [] = 0
first_place (place ∷ places) = place

module _ (input : List ℕ) (calls : Calls) where
  -- A declarator that is passed: its object takes a value, or isn't written any more (6.7.9, 6.2.4).
  abbrev pub initialised : Names → ℕ → Var → Option Init → Run (Unit {0})
  initialised names place d None = do
    store ← now
    change (record store { bytes = blank (store.sp + place) (size (declared_shape d)) store.bytes })
  initialised names place d (Some (initial.One e)) = do
    v ← eval input calls names e
    store ← now
    store_at (held (declared_shape d)) (store.sp + place) v d.place
    pure tt
  initialised names place d (Some (initial.Many es)) = pure tt

  -- a name is in scope in its own initialiser (6.2.1)
  abbrev pub declare : Names → List ℕ → List Var → Run (Unit {0})
  declare names places [] = pure tt
  declare names places (d ∷ ds) = do
    initialised (with_local places d names) (first_place places) d d.init
    declare (with_local places d names) (drop 1 places) ds

  -- the first part of a `for` is no statement
  abbrev pub begin : Names → List ℕ → First → Run (Unit {0})
  begin names places for_first.Nothing = pure tt
  begin names places (for_first.Vars ds) = declare names places ds
  begin names places (for_first.Expr e) = unused input calls names e

  -- a test that is left out holds (6.8.5.3)
  abbrev pub test : Names → Option Expr → Run ℕ
  test names None = pure 1
  test names (Some c) = eval input calls names c

  abbrev pub step : Names → Option Expr → Run (Unit {0})
  step names None = pure tt
  step names (Some d) = unused input calls names d

  module _ (result : Ty) where
    -- a value is returned as the function's type (6.8.6.4)
    abbrev pub return_flow : Names → Option Expr → Run Flow
    return_flow names None = pure (AtReturn None)
    return_flow names (Some e) = do
      v ← eval input calls names e
      pure (AtReturn (Some (converted result v)))

    abbrev mutual
      pub exec : Names → List ℕ → Stmt → Run Flow
      exec names places (stmt.Empty at) = do
        count
        pure Normal
      exec names places (stmt.Expr e at) = do
        count
        unused input calls names e
        pure Normal
      exec names places (stmt.Vars ds at) = do
        count_where (has_init ds)
        declare names places ds
        pure Normal
      exec names places (stmt.Block body at) =
          with_locals (block_locals places body) (exec_all names places body)
      exec names places (stmt.Marker marker at) = do
        count
        pure Normal
      exec names places (stmt.If c s other at) = do
        count
        x ← eval input calls names c
        if x == 0 then exec_else names (behind s places) other else exec names places s
      exec names places (stmt.While c s at) = do
        count
        loop (eval input calls names c) (exec names places s) (pure tt)
      exec names places (stmt.Do s c at) = do
        count
        count
        f ← exec names places s
        after_turn f (loop (eval input calls names c) (exec names places s) (pure tt))
      exec names places (stmt.For f c d s at) =
          let inner = named_beginning places f names in
          let body_places = drop (length (beginning_locals f)) places in
          (do
            count
            with_locals (beginning_own places f) (do
              begin names places f
              loop (test inner c) (exec inner body_places s) (step inner d)))
      exec names places (stmt.Return value at) = do
        count
        return_flow names value
      exec names places (stmt.Break at) = do
        count
        pure AtBreak
      exec names places (stmt.Continue at) = do
        count
        pure AtContinue

      -- the branch that may be left out
      pub exec_else : Names → List ℕ → ElseBranch → Run Flow
      exec_else names places stmt.NoElse = pure Normal
      exec_else names places (stmt.Else s) = exec names places s

      -- the statements of a block, in their order
      pub exec_all : Names → List ℕ → Stmts → Run Flow
      exec_all names places stmt.NoMore = pure Normal
      exec_all names places (stmt.More s rest) = do
        f ← exec names places s
        next f (exec_all (named_behind places s names) (behind s places) rest)
