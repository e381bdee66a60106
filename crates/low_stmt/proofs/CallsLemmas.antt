-- The code of all functions of a text follows their calls, however deep: by induction over the depth.
use Rattle.std.proofs.Common.{◌≡◌, ℕ, zero, suc, ◌+◌, ◌^◌, ◌<◌, ◌≤◌, List, [], ◌∷◌, length, refl, sym, ap, ◌∙◌, subst, arith, Option, Some, None, All}
use Rattle.std.specs.Prelude.{Bool, true, false, bytes_eq, IfSome}
use Rattle.std.proofs.lemmas.Slice.Eq.{bytes_eq-Decides}
use Rattle.bop_bits.specs.declared.map.TheConstants.{CODE_WORDS}
use Rattle.rv_code.specs.State.{State}
use Rattle.rv_code.specs.Step.{address_of}
use Rattle.c_tree.specs.Ty.{Ty}
use Rattle.c_tree.specs.Stmt.{Stmts}
use Rattle.c_tree.specs.Fun.{Fun}
use Rattle.c_tree.specs.Item.{Item}
use Rattle.c_tree.specs.Item as item
use Rattle.c_semantics.specs.Names.{Definition}
use Rattle.c_semantics.specs.Meaning.{defined_by, definition, calls_at}
use Rattle.low_labels.specs.Operation.{width_of}
use Rattle.low_labels.specs.Placed.{HasAt}
use Rattle.low_expr.specs.Agreement.{Returned}
use Rattle.low_expr.specs.Following.{CallsFollow}
use Rattle.low_expr.proofs.KeptValues.{has_front, has_back}
use Rattle.low_stmt.specs.FunCode.{fun_code}
use Rattle.low_stmt.specs.FunSimulation.{CallLeft}
use Rattle.low_stmt.specs.TextCode.{label_of, names_in, labels_with, definition_code, functions_code}
use Rattle.low_stmt.specs.FunReadiness.{IsReadyFun}
use Rattle.low_stmt.specs.TextReadiness.{IsReadyText, AreReadyFuns}
use Rattle.low_stmt.proofs.StatementParts.{weaker}
use Rattle.low_stmt.proofs.FunctionsFollow.{fun_done}

abbrev pub the_definition : Fun → Stmts → Definition
the_definition f body = record { function = f; body = body }

module _ (code : List ℕ) (labels : ℕ → ℕ) (text : List Item) where
  -- the code of a function, at its label
  pub record IsPlaced (name : List ℕ) (d : Definition) : Type 0 where
    pub at : ℕ
    pub label : ℕ
    pub has : HasAt code labels at
        (fun_code (label_of text) (names_in text) d.function d.body label)
    pub named : d.function.name ≡ name
    pub ready : IsReadyFun (definition text) (names_in text) d.function d.body

  -- a definition is by the function, or by what follows it
  split : (i label : ℕ) (f : Fun) (body : Option Stmts) (b : Bool) (name : List ℕ) (d : Definition)
      (other : Option Definition) → bytes_eq f.name name ≡ b
      → HasAt code labels i (definition_code text f body label)
      → IfSome body (IsReadyFun (definition text) (names_in text) f)
      → (other ≡ Some d → IsPlaced name d) → defined_by b f body other ≡ Some d → IsPlaced name d
  split i label f None true name d other e has ready rest is = rest is
  split i label f None false name d other e has ready rest is = rest is
  split i label f (Some body) false name d other e has ready rest is = rest is
  split i label f (Some body) true name d other e has ready rest is =
      subst (IsPlaced name) (same is) here
    where
      same : Some (the_definition f body) ≡ Some d → the_definition f body ≡ d
      same h = cc

      here : IsPlaced name (the_definition f body)
      here = record {
        at = i;
        label = label;
        has = has;
        named = (bytes_eq-Decides f.name name).0 e;
        ready = ready;
      }

  pub placed : (items : List Item) (i label : ℕ) (name : List ℕ) (d : Definition)
      → HasAt code labels i (functions_code text label items) → AreReadyFuns text items
      → definition items name ≡ Some d → IsPlaced name d
  placed [] i label name d has ready is = cc
  placed (item.Vars keep ds ∷ rest) i label name d has ready is =
      placed rest i label name d has ready is
  placed (item.Fun f ∷ rest) i label name d has ready is =
      let c = definition_code text f f.body label in
      let more = functions_code text (labels_with f.body label) rest in
      split i label f f.body (bytes_eq f.name name) name d (definition rest name) refl
      (has_front code labels i c more has) ready.0
      (λ e. placed rest (i + width_of c) (labels_with f.body label) name d
      (has_back code labels i c more has) ready.1 e)
      is

  -- the code at the label of a function follows its calls
  module _ (ready : IsReadyText text) (input : List ℕ) (short : length code ≤ CODE_WORDS)
      (bytes : All (λ b. b < 2 ^ 8) input)
      (has : (i : ℕ) × (label : ℕ) × HasAt code labels i (functions_code text label text)) where
    pub label_is : (name : List ℕ) (d : Definition) → (p : IsPlaced name d)
        → labels (label_of text name) ≡ p.at
    label_is name d p = let h = p.has in ap (λ z. labels (label_of text z)) (sym p.named) ∙ h.0

    pub function_placed : (name : List ℕ) (d : Definition) → definition text name ≡ Some d
        → IsPlaced name d
    function_placed name d is = placed text has.0 has.1 name d has.2 ready.functions is

    returned : (main : Bool) (result : Ty) (v : Option ℕ) (s : State) → CallLeft main result v s
        → Returned v s
    returned main result None s h = tt
    returned main result (Some v) s h = h

    pub calls_follow : (depth : ℕ)
        → CallsFollow code input labels (label_of text) (definition text) (calls_at text input depth)
        depth
    calls_follow zero = record {
      at = λ name d vs store n back s lt is len few near pc link passed a f. absurd (omega arith);
    }
    calls_follow (suc depth) = record {
      at = λ name d vs store n back s lt is len few near pc link passed a f.
          let p = function_placed name d is in
          weaker _ (omega arith) (omega arith) (omega arith) (omega arith) (λ v. refl)
          (λ v s1 h. returned _ _ v s1 h)
          (fun_done (label_of text) (definition text) text d.function d.body p.ready
          code input labels (calls_at text input depth) depth p.label p.at
          (record { short = short; bytes = bytes; follow = calls_follow depth }) p.has vs store n back s
          (omega arith) len near (pc ∙ ap address_of (label_is name d p)) link passed a f);
    }
