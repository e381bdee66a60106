-- The code of a text as it grows by the code of its functions.
use Rattle.std.proofs.Common.{◌≡◌, ℕ, ◌+◌, ◌*◌, ◌<◌, ◌≤◌, List, [], ◌∷◌, ◌++◌, length, map, drop, replicate, Some, None, refl, ap, sym, ◌∙◌, subst, arith, Vec, Global}
use Rattle.std.specs.Prelude.{All}
use Rattle.std.proofs.lemmas.Bool.Decides.{nat_tests}
use Rattle.std.proofs.lemmas.List.{drop-drop}
use Rattle.std.proofs.lemmas.List.Elements.{All-weaker}
use Rattle.c_tree.specs.Fun.{Fun}
use Rattle.c_tree.specs.Item.{Item}
use Rattle.c_tree.specs.Item as item
use Rattle.c_tree.specs.Stmt.{Stmts}
use Rattle.c_tree.specs.Var.{Var}
use Rattle.c_tree.specs.declared.operator.Keep.{Keep}
use Rattle.c_layout.specs.Frames.{Planned, frame_of, frames}
use Rattle.c_layout.specs.Laid.{planned}
use Rattle.c_resolve.specs.DeclaredNames.{blocks_in, indexed_at, names_at}
use Rattle.c_resolve.specs.Routines.{definitions_of, AreNumbersOf}
use Rattle.c_resolve.specs.declared.numbers.Numbers.{Numbers}
use Rattle.c_semantics.specs.Meaning.{definition}
use Rattle.low_labels.specs.Closed.{place_in, IsUnplaced}
use Rattle.low_labels.specs.Emission.{Emission, IsTooLong}
use Rattle.low_labels.specs.Operation.{Operation, width_of}
use Rattle.low_expr.specs.declared.names.Names.{Names as Labelled}
use Rattle.low_expr.specs.LabelledNames.{label_at, HasLabels, HasSameFunctions}
use Rattle.low_expr.specs.Lowering.{fresh_by, lowered}
use Rattle.low_expr.proofs.Emitting.{lines_more}
use Rattle.low_expr.proofs.MarkLemmas.{MarksBelow, lowered_behind, lowered_length}
use Rattle.low_stmt.specs.CodeBound.{count_body}
use Rattle.low_stmt.specs.FunLowering.{IsLoweredFun, IsReadyFunIn}
use Rattle.low_stmt.specs.FunReadiness.{IsReadyFun}
use Rattle.low_stmt.specs.FunCode.{fun_code, labels_in_body}
use Rattle.low_stmt.specs.RegionEnds.{ends_in_body, ends_in_functions, ends_in_text, with_ends}
use Rattle.low_stmt.specs.TextCode.{emitted, definitions_in, functions_code, label_of, labels_in_functions, names_in}
use Rattle.low_stmt.proofs.Placings.{unplaced}
use Rattle.low_stmt.proofs.PlacingsOfTexts.{fun_places, functions_place, labels_behind, own_label}
use Rattle.low_stmt.proofs.WordsOfTexts.{definition_words}
use Rattle.low_stmt.proofs.PartLemmas.{below_others, ends_append, ends_kept, place_kept}
use Rattle.low_stmt.proofs.ValueParts.{fresh_lines}
use Rattle.low_link.specs.private.BegunCode.{AreNamesOf, AreLabelledFrom, IsBegun, IsRest, AreRestOfEnds}
use Rattle.low_link.proofs.EndsOfFunctions.{stmts_within}

module _ (text : List Item) (all : List Planned) where
  -- an item without a function that is defined
  pub skip_vars : (keep : Keep) (ds : List Var) (left : List Item) (number : ℕ) (names : Labelled)
      (e : Emission) (ends : List ℕ)
      → IsBegun text all (item.Vars keep ds ∷ left) number names e ends
      → IsBegun text all left number names e ends
  skip_vars keep ds left number names e ends h = record {
    known = h.known;
    labels = h.labels;
    enough = h.enough;
    items = record {
      labels = record {
        from = h.items.labels.from;
        once = h.items.labels.once;
        last = h.items.labels.last;
        are = h.items.labels.are;
      };
      ready = h.items.ready;
      defined = h.items.defined;
      framed = h.items.framed;
      numbered = omega (arith, h.items.numbered);
      few = omega (arith, h.items.few);
    };
    code = h.code;
    written = h.written;
  }

  skip_none : (f : Fun) (left : List Item) (number : ℕ) (names : Labelled)
      (e : Emission) (ends : List ℕ)
      → IsBegun text all (item.Fun (record f { body = None }) ∷ left) number names e ends
      → IsBegun text all left number names e ends
  skip_none f left number names e ends h = record {
    known = h.known;
    labels = h.labels;
    enough = h.enough;
    items = record {
      labels = record {
        from = h.items.labels.from;
        once = h.items.labels.once.1;
        last = h.items.labels.last;
        are = labels_behind text h.items.labels.from (record f { body = None }) left h.items.labels.once h.items.labels.are;
      };
      ready = h.items.ready.1;
      defined = h.items.defined.1;
      framed = h.items.framed;
      numbered = omega (arith, h.items.numbered);
      few = omega (arith, h.items.few);
    };
    code = h.code;
    written = h.written;
  }

  pub skip_declared : (f : Fun) (left : List Item) (number : ℕ) (names : Labelled)
      (e : Emission) (ends : List ℕ) → f.body ≡ None
      → IsBegun text all (item.Fun f ∷ left) number names e ends
      → IsBegun text all left number names e ends
  skip_declared f left number names e ends is h =
      skip_none f left number names e ends
      (subst (λ (g : Fun). IsBegun text all (item.Fun g ∷ left) number names e ends) (λ i. record f { body = is i }) h)

  -- the names of a function that was lowered are out of scope
  names_same : (old new : Labelled) → AreNamesOf text old → blocks_in new.known ≡ blocks_in old.known
      → HasSameFunctions old new → AreNamesOf text new
  names_same old new h same functions = record {
    scope = ap (names_at (definitions_of text)) same ∙ h.scope;
    known = subst (λ (n : Numbers). AreNumbersOf n (definitions_of text)) (sym functions.numbers) h.known;
    functions = (λ i. λ name. label_at (functions.labels i).items (indexed_at (functions.numbers i).numbers name)) ∙ h.functions;
  }

  labels_same : (old new : Labelled) (n m : ℕ) → n ≤ m → HasSameFunctions old new → HasLabels old n
      → HasLabels new m
  labels_same old new n m le same h = record {
    count = (λ i. length (same.labels i).items) ∙ (h.count ∙ sym (ap (λ (x : Numbers). x.count) same.numbers));
    below = All-weaker (λ label. label < n) (λ label. label < m) (λ label low. omega (arith, low, le)) new.labels.items
        (subst (λ (ls : Vec ℕ Global). All (λ label. label < n) ls.items) (sym same.labels) h.below);
  }

  -- a function is lowered
  module _ (f : Fun) (body : Stmts) (left : List Item) (old mid : Emission) where
    abbrev g : Fun
    g = record f { body = Some body }

    abbrev n : ℕ
    n = length old.places

    abbrev l : ℕ
    l = labels_in_body body

    abbrev own_code : List Operation
    own_code = fun_code (label_of text) (names_in text) g body n

    abbrev left_code : ℕ → List Operation
    left_code label = functions_code text label left

    own_marks : (from : ℕ) → label_of text f.name ≡ from → from < n → MarksBelow (n + l) own_code
    own_marks from is low = below_others (n + l) own_code away
      where
        away : (k : ℕ) → n + l ≤ k → IsUnplaced k own_code
        away k le =
            let places = fun_places k (label_of text) (names_in text) g body n in
            unplaced k own_code (grind (arith, nat_tests, places, is, low, le))

    rest_places : (labels : AreLabelledFrom text (item.Fun g ∷ left)) → definitions_in text ≤ n → (k : ℕ) → n ≤ k → k < n + l
        → IsUnplaced k (left_code (n + l))
    rest_places labels enough k more less =
        let have = labels_behind text labels.from g left labels.once labels.are in
        let places = functions_place text k (n + l) (1 + labels.from) left labels.once.1 have in
        unplaced k (left_code (n + l)) (grind (arith, nat_tests, places, enough, more, less, labels.last))

    code_then : (from : ℕ) → label_of text f.name ≡ from → from < n
        → mid ≡ lowered l own_code old
        → (new : Emission) → IsRest text left mid new → IsRest text (item.Fun g ∷ left) old new
    code_then from is low here new rest =
        let m = labels_in_functions left in
        let sum : l + m ≡ m + l = omega arith in
        let len : length mid.places ≡ n + l = ap (λ (e : Emission). length e.places) here ∙ lowered_length l own_code old in
        rest
        ∙ (ap (λ k. lowered m (left_code k) mid) len
        ∙ (ap (lowered m (left_code (n + l))) here
        ∙ (lowered_behind l m own_code (left_code (n + l)) old (own_marks from is low)
        ∙ ap (λ k. lowered k (own_code ++ left_code (n + l)) old) sum)))

    ends_then : (labels : AreLabelledFrom text (item.Fun g ∷ left)) → definitions_in text ≤ n
        → mid ≡ lowered l own_code old → (before between after : List ℕ)
        → between ≡ with_ends (place_in mid.places) (ends_in_body n (Some body)) before
        → (new : Emission) → IsRest text left mid new
        → AreRestOfEnds left mid new between after
        → AreRestOfEnds (item.Fun g ∷ left) old new before after
    ends_then labels enough here before between after set new rest last =
        let len : length mid.places ≡ n + l = ap (λ (e : Emission). length e.places) here ∙ lowered_length l own_code old in
        let own = ends_in_body n (Some body) in
        let others = ends_in_functions (n + l) left in
        last
        ∙ (ap (λ k. with_ends (place_in new.places) (ends_in_functions k left) between) len
        ∙ (ap (with_ends (place_in new.places) others)
        (set ∙ ends_kept (place_in mid.places) (place_in new.places) (n + 3) (n + l) own before (stmts_within (n + 3) (n + l) (n + 3) body (omega arith) (omega arith)) same)
        ∙ sym (ends_append (place_in new.places) own others before)))
      where
        same : (k : ℕ) → n + 3 ≤ k → k < n + l → place_in new.places k ≡ place_in mid.places k
        same k more less =
            let len : length mid.places ≡ n + l = ap (λ (e : Emission). length e.places) here ∙ lowered_length l own_code old in
            let there : k < length mid.places = omega (arith, less, len) in
            let away = rest_places labels enough k (omega (arith, more)) less in
            ap (λ (e : Emission). place_in e.places k) rest
            ∙ place_kept (labels_in_functions left) (left_code (length mid.places)) mid k there
            (subst (λ m. IsUnplaced k (left_code m)) (sym len) away)

    step : (number : ℕ) (names later : Labelled) (before between : List ℕ)
        → IsBegun text all (item.Fun g ∷ left) number names old before
        → IsLoweredFun names g old mid
        → between ≡ with_ends (place_in mid.places) (ends_in_body n (Some body)) before
        → blocks_in later.known ≡ blocks_in names.known → HasSameFunctions names later
        → IsBegun text all left (number + 1) later mid between
    step number names later before between h made set same functions =
        let labels = h.items.labels in
        let here : mid ≡ lowered l own_code old = made (definitions_of text) ∙ (λ i. lowered l (fun_code (h.known.functions i) (h.known.scope i) g body n) old) in
        let len : length mid.places ≡ n + l = ap (λ (e : Emission). length e.places) here ∙ lowered_length l own_code old in
        let lines : length mid.lines ≡ length (fresh_by l old).lines + width_of own_code = ap (λ (e : Emission). length e.lines) here ∙ lines_more own_code (fresh_by l old) in
        let words = definition_words text g (Some body) n h.items.ready.0 in
        let own = own_label text labels.from g left labels.are in
        let low : labels.from < n = omega (arith, labels.last, h.enough) in
        record {
          known = names_same names later h.known same functions;
          labels = labels_same names later n (length mid.places) (omega (arith, len)) functions h.labels;
          enough = omega (arith, h.enough, len);
          items = record {
            labels = record {
              from = 1 + labels.from;
              once = labels.once.1;
              last = omega (arith, labels.last);
              are = labels_behind text labels.from g left labels.once labels.are;
            };
            ready = h.items.ready.1;
            defined = h.items.defined.1;
            framed = sym (drop-drop 1 number all) ∙ ap (drop 1) h.items.framed;
            numbered = omega (arith, h.items.numbered);
            few = omega (arith, lines, fresh_lines l old, words, h.items.few);
          };
          code = λ new rest. h.code new (code_then labels.from own low here new rest);
          written = λ new after rest last.
              h.written new after (code_then labels.from own low here new rest)
              (ends_then labels h.enough here before between after set new rest last);
        }

  pub stepped : (f : Fun) (body : Stmts) (left : List Item) (number : ℕ) (names later : Labelled)
      (old mid : Emission) (before between : List ℕ) → f.body ≡ Some body
      → IsBegun text all (item.Fun f ∷ left) number names old before
      → IsLoweredFun names f old mid
      → between ≡ with_ends (place_in mid.places) (ends_in_body (length old.places) f.body) before
      → blocks_in later.known ≡ blocks_in names.known → HasSameFunctions names later
      → IsBegun text all left (number + 1) later mid between
  stepped f body left number names later old mid before between is h made set same functions =
      let path : f ≡ record f { body = Some body } = λ i. record f { body = is i } in
      step f body left old mid number names later before between
      (subst (λ (x : Fun). IsBegun text all (item.Fun x ∷ left) number names old before) path h)
      (subst (λ (x : Fun). IsLoweredFun names x old mid) path made)
      (subst (λ (x : Fun). between ≡ with_ends (place_in mid.places) (ends_in_body (length old.places) x.body) before) path set)
      same functions

  -- what the lowering of a function takes for granted
  ready_some : (f : Fun) (body : Stmts) (left : List Item) (number : ℕ) (names : Labelled)
      (e : Emission) (ends : List ℕ)
      → IsBegun text all (item.Fun (record f { body = Some body }) ∷ left) number names e ends
      → IsReadyFunIn names (record f { body = Some body })
  ready_some f body left number names e ends h = record {
    text = text;
    body = body;
    functions = h.known.known;
    has_body = refl;
    defined = h.items.defined.0;
    ready = subst (λ scope. IsReadyFun (definition text) scope (record f { body = Some body }) body) (sym h.known.scope) h.items.ready.0;
  }

  pub ready_next : (f : Fun) (body : Stmts) (left : List Item) (number : ℕ) (names : Labelled)
      (e : Emission) (ends : List ℕ) → f.body ≡ Some body
      → IsBegun text all (item.Fun f ∷ left) number names e ends → IsReadyFunIn names f
  ready_next f body left number names e ends is h =
      let path : f ≡ record f { body = Some body } = λ i. record f { body = is i } in
      subst (IsReadyFunIn names) (sym path)
      (ready_some f body left number names e ends (subst (λ (x : Fun). IsBegun text all (item.Fun x ∷ left) number names e ends) path h))

  -- the next frame
  pub framed_next : (f : Fun) (body : Stmts) (left : List Item) (number : ℕ) (names : Labelled)
      (e : Emission) (ends : List ℕ) → f.body ≡ Some body
      → IsBegun text all (item.Fun f ∷ left) number names e ends
      → drop number all ≡ frame_of f.parameters body ∷ map planned (frames left)
  framed_next f body left number names e ends is h =
      let path : f ≡ record f { body = Some body } = λ i. record f { body = is i } in
      (subst (λ (x : Fun). IsBegun text all (item.Fun x ∷ left) number names e ends) path h).items.framed

  -- a function isn't too long
  pub never_too_long : (f : Fun) (left : List Item) (number : ℕ) (names : Labelled)
      (e : Emission) (ends : List ℕ) → IsBegun text all (item.Fun f ∷ left) number names e ends
      → IsTooLong (32 * (1 + length f.parameters + count_body f.body)) e → ⊥
  never_too_long f left number names e ends h long = omega (arith, h.items.few, long)

  -- no item is left
  pub code_done : (number : ℕ) (names : Labelled) (e : Emission) (ends : List ℕ)
      → IsBegun text all [] number names e ends → e ≡ emitted text
  code_done number names e ends h = h.code e refl

  pub ends_done : (number : ℕ) (names : Labelled) (e : Emission) (ends : List ℕ)
      → IsBegun text all [] number names e ends
      → ends ≡ with_ends (place_in e.places) (ends_in_text text) (replicate 256 0)
  ends_done number names e ends h = h.written e ends refl refl
