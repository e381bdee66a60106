-- The grammar of whole texts hangs on kinds and levels alone: with other places the same tokens spell a tree too.
use Rattle.std.proofs.Common.{◌≡◌, ℕ, zero, suc, ◌+◌, List, [], ◌∷◌, ◌++◌, refl, sym, ap, ◌∙◌, subst, Bool, false, true}
use Rattle.std.specs.Prelude.{Option}
use Rattle.c_tree.specs.Ty.{Ty}
use Rattle.c_tree.specs.Expr.{Expr}
use Rattle.c_tree.specs.Init.{Init}
use Rattle.c_tree.specs.Var.{Var}
use Rattle.c_tree.specs.First.{First}
use Rattle.c_tree.specs.Stmt.{Stmt}
use Rattle.c_tree.specs.Fun.{Param}
use Rattle.c_tree.specs.Item.{Item}
use Rattle.c_tree.specs.declared.place.Place.{Place}
use Rattle.c_tree.specs.declared.tree.Count.{Count}
use Rattle.c_tree.specs.declared.tree.Marker.{Marker}
use Rattle.c_token.specs.declared.token.Kind.{Kind}
use Rattle.c_token.specs.declared.token.Kind.TheVariants as k
use Rattle.c_expr.specs.Leveled.{Leveled, at}
use Rattle.c_expr.proofs.PlacedExpressions as like
use Rattle.c_expr.proofs.PlacedExpressions.{Similar, Tree, Cut, parts, cut, nothing_left, move, placed_base, placed_assign, placed_cond, placed_listed}
use Rattle.c_decl.specs.GrammarWords.{word}
use Rattle.c_decl.specs.Declarations as d
use Rattle.c_decl.specs.Declarations.{IsStars, IsSizes, IsInit, IsDecl, IsDecls, IsVars, IsParam, IsParamList, IsParams}
use Rattle.c_decl.specs.StatementGrammar as s
use Rattle.c_decl.specs.StatementGrammar.{IsCount, IsMarker, IsOptional, IsBeginning, IsStatement, IsBlock, IsBody}
use Rattle.c_decl.specs.Units as u
use Rattle.c_decl.specs.Units.{IsResult, IsItem, IsItems, IsUnit}
use Rattle.c_expr.specs.declared.punctuator.TheConstants.{PARENTHESIS_OPEN, PARENTHESIS_CLOSE, BRACKET_OPEN, BRACKET_CLOSE, BRACE_OPEN, BRACE_CLOSE, COMMA, SEMICOLON, EQUALS, STAR}
use Rattle.c_decl.specs.declared.reserved.TheConstants.{IF, ELSE, WHILE, DO, FOR, RETURN, POST}

-- with something else behind the cut
refill : {l : ℕ} {kind : Kind} {a b c d : List Leveled} (w : Cut a l kind b c) → d ≡ w.right
    → w.left ++ at l kind w.place ∷ d ≡ c
refill {l = l} {kind = kind} w e = ap (λ d. w.left ++ at l kind w.place ∷ d) e ∙ w.is

-- cut at the last token
record Ended (a : List Leveled) (l : ℕ) (kind : Kind) (c : List Leveled) : Type 0 where
  left : List Leveled
  place : Place
  is : left ++ at l kind place ∷ [] ≡ c
  similar : Similar a left

ended : (a : List Leveled) (l : ℕ) (kind : Kind) (p : Place) (c : List Leveled)
    → Similar (a ++ at l kind p ∷ []) c → Ended a l kind c
ended a l kind p c s =
    let w = cut a l kind p [] c s in
    record { left = w.left; place = w.place; is = refill w (nothing_left w.right w.similar_right); similar = w.similar_left }

-- one token, and what follows it
record Leads (l : ℕ) (kind : Kind) (a c : List Leveled) : Type 0 where
  place : Place
  right : List Leveled
  is : at l kind place ∷ right ≡ c
  similar : Similar a right

leads : (l : ℕ) (kind : Kind) (p : Place) (a c : List Leveled) → Similar (at l kind p ∷ a) c
    → Leads l kind a c
leads l kind p a _ (like.more {b = c} q s) = record { place = q; right = c; is = refl; similar = s }

relead : {l : ℕ} {kind : Kind} {a c d : List Leveled} (w : Leads l kind a c) → d ≡ w.right
    → at l kind w.place ∷ d ≡ c
relead {l = l} {kind = kind} w e = ap (λ d. at l kind w.place ∷ d) e ∙ w.is

-- one token alone
record Only (l : ℕ) (kind : Kind) (c : List Leveled) : Type 0 where
  place : Place
  is : at l kind place ∷ [] ≡ c

only : (l : ℕ) (kind : Kind) (p : Place) (c : List Leveled) → Similar (at l kind p ∷ []) c
    → Only l kind c
only l kind p _ (like.more q like.none) = record { place = q; is = refl }

-- declarations
placed_stars : {l n : ℕ} {a : List Leveled} → IsStars l n a → (b : List Leveled) → Similar a b
    → IsStars l n b
placed_stars d.none _ like.none = d.none
placed_stars (d.more {l = l} {n = n} {a = a} p h) b s =
    let w = ended a (l + n) (k.Sign STAR) p b s in
    subst (IsStars l (suc n)) w.is (d.more w.place (placed_stars h w.left w.similar))

placed_sizes : {l n : ℕ} {a : List Leveled} {xs : List Expr} → IsSizes l n a xs
    → (b : List Leveled) → Similar a b → Tree (IsSizes l n) b
placed_sizes d.none _ like.none = record { tree = []; holds = d.none }
placed_sizes (d.more {l = l} {n = n} {a = a} {b = b} p q h j) c s =
    let w = cut a (l + n) (k.Sign BRACKET_OPEN) p (b ++ at (suc (l + n)) (k.Sign BRACKET_CLOSE) q ∷ []) c s in
    let v = ended b (suc (l + n)) (k.Sign BRACKET_CLOSE) q w.right w.similar_right in
    let xs = placed_sizes h w.left w.similar_left in
    let x = placed_cond j v.left v.similar in
    move (λ d. IsSizes l (suc n) d) (refill w v.is) (d.more w.place v.place xs.holds x.holds)

placed_init : {l : ℕ} {a : List Leveled} {i : Init} → IsInit l a i → (b : List Leveled)
    → Similar a b → Tree (IsInit l) b
placed_init (d.value h) b s = let w = placed_assign h b s in record { tree = _; holds = d.value w.holds }
placed_init (d.values {l = l} {a = a} p q h) _ (like.more {b = c} t s) =
    let w = ended a l (k.Sign BRACE_CLOSE) q c s in
    let xs = placed_listed h w.left w.similar in
    move (λ d. IsInit l d) (ap (λ d. at l (k.Sign BRACE_OPEN) t ∷ d) w.is) (d.values t w.place xs.holds)
placed_init (d.values_and_comma {l = l} {a = a} p q z h) _ (like.more {b = c} t s) =
    let w = cut a l (k.Sign COMMA) q (at l (k.Sign BRACE_CLOSE) z ∷ []) c s in
    let v = only l (k.Sign BRACE_CLOSE) z w.right w.similar_right in
    let xs = placed_listed h w.left w.similar_left in
    move (λ d. IsInit l d) (ap (λ d. at l (k.Sign BRACE_OPEN) t ∷ d) (refill w v.is)) (d.values_and_comma t w.place v.place xs.holds)

placed_decl : {l : ℕ} {base : Ty} {a : List Leveled} {x : Var} → IsDecl l base a x
    → (b : List Leveled) → Similar a b → Tree (IsDecl l base) b
placed_decl (d.plain {l = l} {n = n} {base = base} {a = a} {b = b} {name = name} p h j) c s =
    let w = cut a (l + n) (k.Name name) p b c s in
    let xs = placed_sizes j w.right w.similar_right in
    move (λ d. IsDecl l base d) w.is (d.plain w.place (placed_stars h w.left w.similar_left) xs.holds)
placed_decl (d.initialised {l = l} {n = n} {m = m} {base = base} {a = a} {b = b} {c = c} {name = name} p q h j g) e s =
    let w = cut a (l + n) (k.Name name) p (b ++ at (l + n + m) (k.Sign EQUALS) q ∷ c) e s in
    let v = cut b (l + n + m) (k.Sign EQUALS) q c w.right w.similar_right in
    let xs = placed_sizes j v.left v.similar_left in
    let i = placed_init g v.right v.similar_right in
    move (λ d. IsDecl l base d) (refill w v.is) (d.initialised w.place v.place (placed_stars h w.left w.similar_left) xs.holds i.holds)

placed_decls : {l : ℕ} {base : Ty} {a : List Leveled} {xs : List Var} → IsDecls l base a xs
    → (b : List Leveled) → Similar a b → Tree (IsDecls l base) b
placed_decls (d.one h) b s = let w = placed_decl h b s in record { tree = _; holds = d.one w.holds }
placed_decls (d.more {l = l} {base = base} {a = a} {b = b} p h j) c s =
    let w = cut a l (k.Sign COMMA) p b c s in
    let x = placed_decl h w.left w.similar_left in
    let xs = placed_decls j w.right w.similar_right in
    move (λ d. IsDecls l base d) w.is (d.more w.place x.holds xs.holds)

placed_vars : {l : ℕ} {a : List Leveled} {xs : List Var} → IsVars l a xs → (b : List Leveled)
    → Similar a b → Tree (IsVars l) b
placed_vars (d.vars {l = l} {a = a} {b = b} h j) c s =
    let w = parts a b c s in
    let xs = placed_decls j w.right w.similar_right in
    move (λ d. IsVars l d) (sym w.is) (d.vars (placed_base h w.left w.similar_left) xs.holds)

-- parameters
placed_parameter : {l : ℕ} {a : List Leveled} {x : Param} → IsParam l a x → (b : List Leveled)
    → Similar a b → Tree (IsParam l) b
placed_parameter (d.unnamed {l = l} {first = first} {a = a} {b = b} h j) _ (like.more {b = c} t s) =
    let w = parts a b c s in
    let first' = at first.level first.token.kind t in
    move (λ d. IsParam l d) (ap (λ d. first' ∷ d) (sym w.is)) (d.unnamed (placed_base h (first' ∷ w.left) (like.more t w.similar_left)) (placed_stars j w.right w.similar_right))
placed_parameter (d.unnamed_array {l = l} {n = n} {first = first} {a = a} {b = b} p q h j) _ (like.more {b = c} t s) =
    let first' = at first.level first.token.kind t in
    let w = parts a (b ++ at (l + n) (k.Sign BRACKET_OPEN) p ∷ (at (suc (l + n)) (k.Sign BRACKET_CLOSE) q ∷ [])) c s in
    let v = cut b (l + n) (k.Sign BRACKET_OPEN) p (at (suc (l + n)) (k.Sign BRACKET_CLOSE) q ∷ []) w.right w.similar_right in
    let z = only (suc (l + n)) (k.Sign BRACKET_CLOSE) q v.right v.similar_right in
    let e = refill v z.is in
    move (λ d. IsParam l d) (ap (λ d. first' ∷ d) (ap (λ d. w.left ++ d) e ∙ sym w.is))
    (d.unnamed_array v.place z.place (placed_base h (first' ∷ w.left) (like.more t w.similar_left)) (placed_stars j v.left v.similar_left))
placed_parameter (d.named {l = l} {n = n} {a = a} {b = b} {name = name} p h j) c s =
    let w = parts a (b ++ at (l + n) (k.Name name) p ∷ []) c s in
    let v = ended b (l + n) (k.Name name) p w.right w.similar_right in
    move (λ d. IsParam l d) (ap (λ d. w.left ++ d) v.is ∙ sym w.is) (d.named v.place (placed_base h w.left w.similar_left) (placed_stars j v.left v.similar))
placed_parameter (d.named_array {l = l} {n = n} {a = a} {b = b} {name = name} p q t h j) c s =
    let array = at (l + n) (k.Sign BRACKET_OPEN) q ∷ (at (suc (l + n)) (k.Sign BRACKET_CLOSE) t ∷ []) in
    let w = parts a (b ++ at (l + n) (k.Name name) p ∷ array) c s in
    let v = cut b (l + n) (k.Name name) p array w.right w.similar_right in
    let y = leads (l + n) (k.Sign BRACKET_OPEN) q (at (suc (l + n)) (k.Sign BRACKET_CLOSE) t ∷ []) v.right v.similar_right in
    let z = only (suc (l + n)) (k.Sign BRACKET_CLOSE) t y.right y.similar in
    let e = refill v (relead y z.is) in
    move (λ d. IsParam l d) (ap (λ d. w.left ++ d) e ∙ sym w.is) (d.named_array v.place y.place z.place (placed_base h w.left w.similar_left) (placed_stars j v.left v.similar_left))

placed_list : {l : ℕ} {a : List Leveled} {xs : List Param} → IsParamList l a xs
    → (b : List Leveled) → Similar a b → Tree (IsParamList l) b
placed_list (d.one h) b s = let w = placed_parameter h b s in record { tree = _; holds = d.one w.holds }
placed_list (d.more {l = l} {a = a} {b = b} p h j) c s =
    let w = cut a l (k.Sign COMMA) p b c s in
    let x = placed_parameter h w.left w.similar_left in
    let xs = placed_list j w.right w.similar_right in
    move (λ d. IsParamList l d) w.is (d.more w.place x.holds xs.holds)

placed_parameters : {l : ℕ} {a : List Leveled} {xs : List Param} → IsParams l a xs
    → (b : List Leveled) → Similar a b → Tree (IsParams l) b
placed_parameters d.nothing _ like.none = record { tree = []; holds = d.nothing }
placed_parameters (d.void p) _ (like.more q like.none) = record { tree = []; holds = d.void q }
placed_parameters (d.some h) b s = let w = placed_list h b s in record { tree = w.tree; holds = d.some w.holds }

-- statements
placed_count : {l : ℕ} {a : List Leveled} {c : Count} → IsCount l a c → (b : List Leveled)
    → Similar a b → Tree (IsCount l) b
placed_count (s.number p) _ (like.more q like.none) = record { tree = _; holds = s.number q }
placed_count (s.name p) _ (like.more q like.none) = record { tree = _; holds = s.name q }

placed_marker : {l : ℕ} {a : List Leveled} {mark : Marker} → IsMarker l a mark → (b : List Leveled)
    → Similar a b → Tree (IsMarker l) b
placed_marker (s.numbered p q n t u e) _ (like.more p' (like.more q' (like.more n' (like.more t' (like.more u' like.none))))) = record { tree = _; holds = s.numbered p' q' n' t' u' e }
placed_marker (s.post {l = l} {v = v} {ty = ty} {n = n} {a = a} p q c t u w x y h) _ (like.more p' (like.more q' (like.more c' (like.more t' (like.more u' (like.more {b = b} w' i)))))) =
    let left = cut a l (k.Sign PARENTHESIS_CLOSE) x (at l (k.Sign SEMICOLON) y ∷ []) b i in
    let end = only l (k.Sign SEMICOLON) y left.right left.similar_right in
    let count = placed_count h left.left left.similar_left in
    move (λ d. IsMarker l d)
    (ap (λ d. at l (word POST.now) p' ∷ (at l (k.Sign PARENTHESIS_OPEN) q' ∷ (at l (k.Number ty v) c' ∷ (at l (k.Sign COMMA) t' ∷ (at l (k.Name n) u' ∷ (at l (k.Sign COMMA) w' ∷ d))))))
    (refill left end.is))
    (s.post p' q' c' t' u' w' left.place end.place count.holds)

placed_optional : {l : ℕ} {a : List Leveled} {x : Option Expr} → IsOptional l a x
    → (b : List Leveled) → Similar a b → Tree (IsOptional l) b
placed_optional s.none _ like.none = record { tree = _; holds = s.none }
placed_optional (s.some h) b i = let w = placed_assign h b i in record { tree = _; holds = s.some w.holds }

placed_beginning : {l : ℕ} {a : List Leveled} {x : First} → IsBeginning l a x → (b : List Leveled)
    → Similar a b → Tree (IsBeginning l) b
placed_beginning s.nothing _ like.none = record { tree = _; holds = s.nothing }
placed_beginning (s.vars h) b i = let w = placed_vars h b i in record { tree = _; holds = s.vars w.holds }
placed_beginning (s.assign h) b i = let w = placed_assign h b i in record { tree = _; holds = s.assign w.holds }

mutual
  placed_statement : {open_if : Bool} {l : ℕ} {a : List Leveled} {x : Stmt}
      → IsStatement open_if l a x → (b : List Leveled) → Similar a b
      → Tree (IsStatement open_if l) b
  placed_statement (s.block {first = first} h) _ (like.more {b = c} t i) = let w = placed_block h (at first.level first.token.kind t ∷ c) (like.more t i) in record { tree = _; holds = s.block w.holds }
  placed_statement s.empty _ (like.more p like.none) = record { tree = _; holds = s.empty }
  placed_statement (s.expression {l = l} {first = first} {a = a} p h) _ (like.more {b = c} t i) =
      let first' = at first.level first.token.kind t in
      let w = ended a (suc l) (k.Sign SEMICOLON) p c i in
      let x = placed_assign h (first' ∷ w.left) (like.more t w.similar) in
      move (λ d. IsStatement false l d) (ap (λ d. first' ∷ d) w.is) (s.expression w.place x.holds)
  placed_statement (s.marker {first = first} h) _ (like.more {b = c} t i) = let w = placed_marker h (at first.level first.token.kind t ∷ c) (like.more t i) in record { tree = _; holds = s.marker w.holds }
  placed_statement (s.if {l = l} {a = a} {b = b} q n h j) _ (like.more p' (like.more {b = c} q' i)) =
      let w = cut a (suc l) (k.Sign PARENTHESIS_CLOSE) n b c i in
      let x = placed_assign h w.left w.similar_left in
      let y = placed_statement j w.right w.similar_right in
      move (λ d. IsStatement true l d) (ap (λ d. at (suc l) (word IF.now) p' ∷ (at (suc l) (k.Sign PARENTHESIS_OPEN) q' ∷ d)) w.is) (s.if q' w.place x.holds y.holds)
  placed_statement (s.if_else {open_if = open_if} {l = l} {a = a} {b = b} {c = c} q n e h j z) _ (like.more p' (like.more {b = f} q' i)) =
      let w = cut a (suc l) (k.Sign PARENTHESIS_CLOSE) n (b ++ at (suc l) (word ELSE.now) e ∷ c) f i in
      let v = cut b (suc l) (word ELSE.now) e c w.right w.similar_right in
      let x = placed_assign h w.left w.similar_left in
      let y = placed_statement j v.left v.similar_left in
      let t = placed_statement z v.right v.similar_right in
      move (λ d. IsStatement open_if l d)
      (ap (λ d. at (suc l) (word IF.now) p' ∷ (at (suc l) (k.Sign PARENTHESIS_OPEN) q' ∷ d)) (refill w v.is))
      (s.if_else q' w.place v.place x.holds y.holds t.holds)
  placed_statement (s.while {open_if = open_if} {l = l} {a = a} {b = b} q n h j) _ (like.more p' (like.more {b = c} q' i)) =
      let w = cut a (suc l) (k.Sign PARENTHESIS_CLOSE) n b c i in
      let x = placed_assign h w.left w.similar_left in
      let y = placed_statement j w.right w.similar_right in
      move (λ d. IsStatement open_if l d) (ap (λ d. at (suc l) (word WHILE.now) p' ∷ (at (suc l) (k.Sign PARENTHESIS_OPEN) q' ∷ d)) w.is) (s.while q' w.place x.holds y.holds)
  placed_statement (s.do_while {l = l} {a = a} {b = b} z q n e h j) _ (like.more {b = c} p' i) =
      let end = at (suc l) (k.Sign SEMICOLON) e ∷ [] in
      let w = cut a (suc l) (word WHILE.now) z (at (suc l) (k.Sign PARENTHESIS_OPEN) q ∷ (b ++ at (suc l) (k.Sign PARENTHESIS_CLOSE) n ∷ end)) c i in
      let o = leads (suc l) (k.Sign PARENTHESIS_OPEN) q (b ++ at (suc l) (k.Sign PARENTHESIS_CLOSE) n ∷ end) w.right w.similar_right in
      let v = cut b (suc l) (k.Sign PARENTHESIS_CLOSE) n end o.right o.similar in
      let u = only (suc l) (k.Sign SEMICOLON) e v.right v.similar_right in
      let x = placed_statement h w.left w.similar_left in
      let y = placed_assign j v.left v.similar_left in
      move (λ d. IsStatement false l d)
      (ap (λ d. at (suc l) (word DO.now) p' ∷ d) (refill w (relead o (refill v u.is))))
      (s.do_while w.place o.place v.place u.place x.holds y.holds)
  placed_statement (s.for {open_if = open_if} {l = l} {a = a} {b = b} {c = c} {d = d} q n t u h i j z) _ (like.more p' (like.more {b = e} q' r)) =
      let third = c ++ at (suc l) (k.Sign PARENTHESIS_CLOSE) u ∷ d in
      let w = cut a (suc l) (k.Sign SEMICOLON) n (b ++ at (suc l) (k.Sign SEMICOLON) t ∷ third) e r in
      let v = cut b (suc l) (k.Sign SEMICOLON) t third w.right w.similar_right in
      let y = cut c (suc l) (k.Sign PARENTHESIS_CLOSE) u d v.right v.similar_right in
      let first = placed_beginning h w.left w.similar_left in
      let test = placed_optional i v.left v.similar_left in
      let step = placed_optional j y.left y.similar_left in
      let inside = placed_statement z y.right y.similar_right in
      move (λ d. IsStatement open_if l d)
      (ap (λ d. at (suc l) (word FOR.now) p' ∷ (at (suc l) (k.Sign PARENTHESIS_OPEN) q' ∷ d))
      (refill w (refill v y.is)))
      (s.for q' w.place v.place y.place first.holds test.holds step.holds inside.holds)
  placed_statement (s.return {l = l} {a = a} q h) _ (like.more {b = c} p' i) =
      let w = ended a (suc l) (k.Sign SEMICOLON) q c i in
      let x = placed_optional h w.left w.similar in
      move (λ d. IsStatement false l d) (ap (λ d. at (suc l) (word RETURN.now) p' ∷ d) w.is) (s.return w.place x.holds)
  placed_statement (s.break q) _ (like.more p' (like.more q' like.none)) = record { tree = _; holds = s.break q' }
  placed_statement (s.continue q) _ (like.more p' (like.more q' like.none)) = record { tree = _; holds = s.continue q' }

  placed_block : {l : ℕ} {a : List Leveled} {ss : List Stmt} → IsBlock l a ss → (b : List Leveled)
      → Similar a b → Tree (IsBlock l) b
  placed_block (s.braces {l = l} {a = a} p q h) _ (like.more {b = c} p' i) =
      let w = ended a l (k.Sign BRACE_CLOSE) q c i in
      let ss = placed_body h w.left w.similar in
      move (λ d. IsBlock l d) (ap (λ d. at l (k.Sign BRACE_OPEN) p' ∷ d) w.is) (s.braces p' w.place ss.holds)

  placed_body : {l : ℕ} {a : List Leveled} {ss : List Stmt} → IsBody l a ss → (b : List Leveled)
      → Similar a b → Tree (IsBody l) b
  placed_body s.none _ like.none = record { tree = _; holds = s.none }
  placed_body (s.stmt {l = l} {a = a} {b = b} h j) c i =
      let w = parts a b c i in
      let x = placed_statement h w.left w.similar_left in
      let ss = placed_body j w.right w.similar_right in
      move (λ d. IsBody l d) (sym w.is) (s.stmt x.holds ss.holds)
  placed_body (s.vars {l = l} {first = first} {a = a} {b = b} p h j) _ (like.more {b = c} t i) =
      let first' = at first.level first.token.kind t in
      let w = cut a l (k.Sign SEMICOLON) p b c i in
      let ds = placed_vars h (first' ∷ w.left) (like.more t w.similar_left) in
      let ss = placed_body j w.right w.similar_right in
      move (λ d. IsBody l d) (ap (λ d. first' ∷ d) w.is) (s.vars w.place ds.holds ss.holds)

-- whole texts
placed_result : {l n : ℕ} {a : List Leveled} {base : Ty} → IsResult l n a base → (b : List Leveled)
    → Similar a b → IsResult l n b base
placed_result (u.typed {l = l} {n = n} {a = a} {b = b} {base = base} h j) c i =
    let w = parts a b c i in
    subst (λ d. IsResult l n d base) (sym w.is) (u.typed (placed_base h w.left w.similar_left) (placed_stars j w.right w.similar_right))
placed_result (u.void p) _ (like.more q like.none) = u.void q

-- a function, cut behind its parameters
record Heading (l n : ℕ) (base : Ty) (name : List ℕ) (c e : List Leveled) : Type 0 where
  front : List Leveled
  name_at : Place
  open_at : Place
  inside : List Leveled
  close_at : Place
  behind : List Leveled
  is : front ++ at (l + n) (k.Name name) name_at
      ∷ (at (l + n) (k.Sign PARENTHESIS_OPEN) open_at
      ∷ (inside ++ at (l + n) (k.Sign PARENTHESIS_CLOSE) close_at ∷ behind)) ≡ e
  result : IsResult l n front base
  params : Tree (IsParams (l + n)) inside
  similar : Similar c behind

heading : {l n : ℕ} {a b : List Leveled} {base : Ty} {name : List ℕ} {xs : List Param}
    → IsResult l n a base → IsParams (l + n) b xs → (p q t : Place) (c e : List Leveled)
    → Similar (a ++ at (l + n) (k.Name name) p ∷ (at (l + n) (k.Sign PARENTHESIS_OPEN) q ∷ (b ++ at (l + n) (k.Sign PARENTHESIS_CLOSE) t ∷ c))) e → Heading l n base name c e
heading {l = l} {n = n} {a = a} {b = b} {name = name} h j p q t c e i =
    let w = cut a (l + n) (k.Name name) p (at (l + n) (k.Sign PARENTHESIS_OPEN) q ∷ (b ++ at (l + n) (k.Sign PARENTHESIS_CLOSE) t ∷ c)) e i in
    let o = leads (l + n) (k.Sign PARENTHESIS_OPEN) q (b ++ at (l + n) (k.Sign PARENTHESIS_CLOSE) t ∷ c) w.right w.similar_right in
    let v = cut b (l + n) (k.Sign PARENTHESIS_CLOSE) t c o.right o.similar in
    let inside = v.left ++ at (l + n) (k.Sign PARENTHESIS_CLOSE) v.place ∷ v.right in
    record {
      front = w.left;
      name_at = w.place;
      open_at = o.place;
      inside = v.left;
      close_at = v.place;
      behind = v.right;
      is = refill {d = at (l + n) (k.Sign PARENTHESIS_OPEN) o.place ∷ inside} w (relead {d = inside} o v.is);
      result = placed_result h w.left w.similar_left;
      params = placed_parameters j v.left v.similar_left;
      similar = v.similar_right;
    }

reheaded : {l n : ℕ} {base : Ty} {name : List ℕ} {c e d : List Leveled}
    (w : Heading l n base name c e) → d ≡ w.behind
    → w.front ++ at (l + n) (k.Name name) w.name_at ∷ (at (l + n) (k.Sign PARENTHESIS_OPEN) w.open_at ∷ (w.inside ++ at (l + n) (k.Sign PARENTHESIS_CLOSE) w.close_at ∷ d)) ≡ e
reheaded {l = l} {n = n} {name = name} w e =
    ap (λ d. w.front ++ at (l + n) (k.Name name) w.name_at ∷ (at (l + n) (k.Sign PARENTHESIS_OPEN) w.open_at ∷ (w.inside ++ at (l + n) (k.Sign PARENTHESIS_CLOSE) w.close_at ∷ d))) e ∙ w.is

placed_item : {l : ℕ} {a : List Leveled} {x : Item} → IsItem l a x → (b : List Leveled)
    → Similar a b → Tree (IsItem l) b
placed_item (u.vars {l = l} {a = a} p h) c i =
    let w = ended a l (k.Sign SEMICOLON) p c i in
    let ds = placed_vars h w.left w.similar in
    move (λ d. IsItem l d) w.is (u.vars w.place ds.holds)
placed_item (u.kept {l = l} {a = a} {kind = kind} p q e h) _ (like.more {b = c} p' i) =
    let w = ended a l (k.Sign SEMICOLON) q c i in
    let ds = placed_vars h w.left w.similar in
    move (λ d. IsItem l d) (ap (λ d. at l kind p' ∷ d) w.is) (u.kept p' w.place e ds.holds)
placed_item (u.declared {l = l} {n = n} {name = name} p q t e h j) c i =
    let w = heading {name = name} h j p q t (at (l + n) (k.Sign SEMICOLON) e ∷ []) c i in
    let z = only (l + n) (k.Sign SEMICOLON) e w.behind w.similar in
    move (λ d. IsItem l d) (reheaded w z.is) (u.declared w.name_at w.open_at w.close_at z.place w.result w.params.holds)
placed_item (u.defined {l = l} {c = c} {name = name} p q t h j y) e i =
    let w = heading {name = name} h j p q t c e i in
    let ss = placed_block y w.behind w.similar in
    move (λ d. IsItem l d) w.is (u.defined w.name_at w.open_at w.close_at w.result w.params.holds ss.holds)

placed_items : {l : ℕ} {a : List Leveled} {xs : List Item} → IsItems l a xs → (b : List Leveled)
    → Similar a b → Tree (IsItems l) b
placed_items u.none _ like.none = record { tree = _; holds = u.none }
placed_items (u.more {l = l} {a = a} {b = b} h j) c i =
    let w = parts a b c i in
    let x = placed_item h w.left w.similar_left in
    let xs = placed_items j w.right w.similar_right in
    move (λ d. IsItems l d) (sym w.is) (u.more x.holds xs.holds)

pub placed_unit : {a : List Leveled} {xs : List Item} → IsUnit a xs → (b : List Leveled)
    → Similar a b → Tree IsUnit b
placed_unit (u.unit {a = a} p h) b i =
    let w = ended a zero k.End p b i in
    let xs = placed_items h w.left w.similar in
    move IsUnit w.is (u.unit w.place xs.holds)
