-- Declarators that are passed one after another, before what follows them; and lists that keep a beginning.
use Rattle.std.proofs.Common.{◌≡◌, ℕ, ◌+◌, List, [], ◌∷◌, ◌++◌, drop, refl, ap}
use Rattle.c_tree.specs.Declarators.{declared_shape, parameter_shape}
use Rattle.c_layout.specs.Sizes.{size}
use Rattle.c_tree.specs.Var.{Var}
use Rattle.c_tree.specs.Fun.{Param}
use Rattle.c_resolve.specs.declared.action.Passed.{Passed}
use Rattle.c_semantics.specs.declared.local.Local.{Local}
use Rattle.c_semantics.specs.Run.{Run, pure, ◌>>=◌, ◌>>◌, now}
use Rattle.c_semantics.specs.Memory.{store_at}
use Rattle.c_semantics.specs.Names.{held}
use Rattle.c_semantics.specs.Exec.{declared_locals, first_place}
use Rattle.c_resolve.specs.Actions.{init_run, passing, arguments_run}
use Rattle.c_resolve.specs.private.Acted.{own_at, parameters_at}
use Rattle.c_semantics.specs.Meaning.{parameter_locals, pass}
use Rattle.c_resolve.specs.Context.{Context}

module _ (context : Context) where
  -- declarators, and then what follows them
  abbrev pub passing_then : List Passed → Run (Unit {0}) → Run (Unit {0})
  passing_then [] go = go
  passing_then (p ∷ ps) go = init_run context p.local p.place p.begun >> passing_then ps go

  pub passing_push : (ps : List Passed) (p : Passed) (go : Run (Unit {0}))
      → passing_then (ps ++ p ∷ []) go
      ≡ passing_then ps (init_run context p.local p.place p.begun >> go)
  passing_push [] p go = refl
  passing_push (q ∷ ps) p go = ap (λ (r : Run (Unit {0})). init_run context q.local q.place q.begun >> r) (passing_push ps p go)

  pub passing_is : (ps : List Passed)
      → passing context ps ≡ passing_then ps (pure tt)
  passing_is [] = refl
  passing_is (p ∷ ps) = ap (λ (r : Run (Unit {0})). init_run context p.local p.place p.begun >> r) (passing_is ps)

-- no declarator has no object
pub no_locals : (places : List ℕ) → declared_locals places [] ≡ []
no_locals [] = refl
no_locals (place ∷ places) = refl

-- the first declarator's object, and those of the others
pub own_first : (places : List ℕ) (d : Var) (ds : List Var) (local : Local)
    → local ≡ record { offset = first_place places; size = size (declared_shape d) }
    → own_at places local ++ declared_locals (drop 1 places) ds ≡ declared_locals places (d ∷ ds)
own_first [] d ds local is = refl
own_first (place ∷ places) d ds local is = ap (λ l. l ∷ declared_locals places ds) is

pub no_parameters : (places : List ℕ) → parameters_at places [] ≡ []
no_parameters [] = refl
no_parameters (place ∷ places) = refl

pub no_parameter_locals : (places : List ℕ) → parameter_locals places [] ≡ []
no_parameter_locals [] = refl
no_parameter_locals (place ∷ places) = refl

-- arguments that are written into parameters
pub arguments_are : (context : Context)
    (places : List ℕ) (ps : List Param) (vs : List ℕ)
    → arguments_run context (parameters_at places ps) vs ≡ pass places ps vs
arguments_are context [] ps vs = refl
arguments_are context (place ∷ places) [] vs = refl
arguments_are context (place ∷ places) (p ∷ ps) [] = refl
arguments_are context (place ∷ places) (p ∷ ps) (v ∷ vs) =
    ap (λ (rest : Run (Unit {0})). now >>= λ store. store_at (held (parameter_shape p)) (store.sp + place) v p.place >> rest) (arguments_are context places ps vs)
