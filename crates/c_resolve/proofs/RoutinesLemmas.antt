-- The routines of a text at the numbers of its definitions.
use Rattle.std.proofs.Common.{◌≡◌, ℕ, zero, suc, List, length, Option, Some, None, [], ap, refl, sym, ◌∙◌}
use Rattle.std.proofs.lemmas.List.{length-map}
use Rattle.std.proofs.lemmas.Option.{slice_get-map}
use Rattle.std.specs.Option.{option_map}
use Rattle.std.specs.Prelude.{slice_get}
use Rattle.c_tree.specs.Item.{Item}
use Rattle.c_resolve.specs.declared.routine.Routine.{Routine}
use Rattle.c_resolve.specs.declared.node.Target.TheVariants as target
use Rattle.c_semantics.specs.Run.{Run, pure, more}
use Rattle.c_resolve.specs.Nodes.{target_run}
use Rattle.c_semantics.specs.Meaning.{calls_at}
use Rattle.c_semantics.specs.Names.{Definition}
use Rattle.c_semantics.specs.Eval.{Calls, enter}
use Rattle.c_resolve.specs.Actions.{routine_run}
use Rattle.c_resolve.specs.Routines.{context_of, definitions_of, definition_run, AreRoutinesOf}

same_at : {A : Type 0} (f g : A) → Some f ≡ Some g → f ≡ g
same_at f g h = cc

-- the routine of a number does what the definition of that number does
pub routine_at : (text : List Item) (routines : List Routine) → AreRoutinesOf text routines
    → (k : ℕ) (d : Definition) (r : Routine) → slice_get (definitions_of text) k ≡ Some d
    → slice_get routines k ≡ Some r
    → (input : List ℕ) (calls : Calls) (vs : List ℕ) → routine_run (context_of text input calls) r vs ≡ definition_run text input calls d vs
routine_at text routines are k d r defined found input calls vs =
    let run = routine_run (context_of text input calls) in
    let does = definition_run text input calls in
    let here = ap (option_map run) (sym found) ∙ (sym (slice_get-map run routines k) ∙ (ap (λ fs. slice_get fs k) (are input calls) ∙ (slice_get-map does (definitions_of text) k ∙ ap (option_map does) defined))) in
    ap (λ f. f vs) (same_at (run r) (does d) here)

-- they are as many
pub as_many : (text : List Item) (routines : List Routine) → AreRoutinesOf text routines
    → length routines ≡ length (definitions_of text)
as_many text routines are =
    let calls : Calls = λ d vs. pure None in
    sym (length-map routines (routine_run (context_of text [] calls))) ∙ (ap length (are [] calls) ∙ length-map (definitions_of text) (definition_run text [] calls))

-- a call of a number, by the routine that it has
module _ (text : List Item) (routines : List Routine) (are : AreRoutinesOf text routines) (input : List ℕ) (k : ℕ) (vs : List ℕ) where
  same_option : (o : Option Definition) → slice_get (definitions_of text) k ≡ o → (calls : Calls)
      → option_map (routine_run (context_of text input calls)) (slice_get routines k)
      ≡ option_map (definition_run text input calls) o
  same_option o at calls =
      sym (slice_get-map (routine_run (context_of text input calls)) routines k)
      ∙ (ap (λ fs. slice_get fs k) (are input calls) ∙ (slice_get-map (definition_run text input calls) (definitions_of text) k ∙ ap (option_map (definition_run text input calls)) at))

  abbrev pub number_run : Calls → Run (Option ℕ)
  number_run calls = target_run (context_of text input calls) (target.Function k) vs

  some_is_not_none : {A : Type 0} (x : A) → Some x ≡ None → ⊥
  some_is_not_none x is = cc

  module _ (r : Routine) (found : slice_get routines k ≡ Some r) where
    entered_case : (o : Option Definition) → slice_get (definitions_of text) k ≡ o → (depth : ℕ)
        → enter (calls_at text input (suc depth)) o vs
        ≡ routine_run (context_of text input (calls_at text input depth)) r vs
    entered_case (Some d) at depth = sym (routine_at text routines are k d r at found input (calls_at text input depth) vs)
    entered_case None at depth =
        let calls = calls_at text input depth in
        absurd (some_is_not_none (routine_run (context_of text input calls) r) (ap (option_map (routine_run (context_of text input calls))) (sym found) ∙ same_option None at calls))

    full_case : (o : Option Definition) → slice_get (definitions_of text) k ≡ o
        → enter (calls_at text input zero) o vs ≡ more
    full_case (Some d) at = refl
    full_case None at =
        let calls = calls_at text input zero in
        absurd (some_is_not_none (routine_run (context_of text input calls) r) (ap (option_map (routine_run (context_of text input calls))) (sym found) ∙ same_option None at calls))

    -- where calls may nest deeper
    pub entered_at : (depth : ℕ)
        → number_run (calls_at text input (suc depth))
        ≡ routine_run (context_of text input (calls_at text input depth)) r vs
    entered_at depth = entered_case (slice_get (definitions_of text) k) refl depth

    -- and where they may not
    pub full_at : number_run (calls_at text input zero) ≡ more
    full_at = full_case (slice_get (definitions_of text) k) refl

  missing_case : (o : Option Definition) → slice_get (definitions_of text) k ≡ o
      → slice_get routines k ≡ None → (calls : Calls) → enter calls o vs ≡ pure None
  missing_case None at none calls = refl
  missing_case (Some d) at none calls =
      absurd (some_is_not_none (definition_run text input calls d) (sym (ap (option_map (routine_run (context_of text input calls))) (sym none) ∙ same_option (Some d) at calls)))

  -- a number that no routine has
  pub missing_at : slice_get routines k ≡ None → (calls : Calls) → number_run calls ≡ pure None
  missing_at none calls = missing_case (slice_get (definitions_of text) k) refl none calls
