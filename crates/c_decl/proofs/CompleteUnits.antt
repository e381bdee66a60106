-- What the grammar of whole texts has is read, up to its first token whose level is too high.
use Rattle.std.proofs.Common.{◌≡◌, ◌<◌, ◌+◌, ◌-◌, ℕ, zero, List, [], ◌∷◌, ◌++◌, length, Option, Some, None, Ok, refl, sym, ap, ap₂, ◌∙◌, subst, arith, append_assoc, append-nil, length-append, true, false}
use Rattle.std.specs.Prelude.{option_map}
use Rattle.c_tree.specs.Ty.{Ty}
use Rattle.c_tree.specs.Ty as the_ty
use Rattle.c_tree.specs.Var.{Var}
use Rattle.c_tree.specs.Stmt.{Stmt}
use Rattle.c_tree.specs.Fun.{Param}
use Rattle.c_tree.specs.Item.{Item}
use Rattle.c_tree.specs.Item as the_item
use Rattle.c_tree.specs.View.{stmts_list}
use Rattle.c_tree.specs.declared.operator.Keep.{Keep}
use Rattle.c_tree.specs.declared.operator.Keep.TheVariants as keep
use Rattle.c_tree.specs.declared.place.Place.{Place}
use Rattle.c_token.specs.declared.token.Token.{Token}
use Rattle.c_token.specs.declared.token.Kind.{Kind}
use Rattle.c_token.specs.declared.token.Kind.TheVariants as k
use Rattle.c_expr.specs.Leveled.{Leveled, at}
use Rattle.c_expr.specs.Next.{is_end, Outcome, kind_of, is_base}
use Rattle.c_expr.specs.private.ExpressionReading.{turns}
use Rattle.c_expr.proofs.Binds.{found}
use Rattle.c_expr.proofs.Through.{Follows, through, parts}
use Rattle.c_decl.specs.GrammarWords.{word, keeps, keep_of}
use Rattle.c_decl.specs.Declarations as d
use Rattle.c_decl.specs.Declarations.{IsVars, IsParams}
use Rattle.c_decl.specs.StatementGrammar as s
use Rattle.c_decl.specs.StatementGrammar.{IsBlock, IsBody}
use Rattle.c_decl.specs.Units as u
use Rattle.c_decl.specs.Units.{IsResult, IsItem, IsItems, IsUnit}
use Rattle.c_decl.specs.private.DeclarationReading.{is_next}
use Rattle.c_decl.specs.private.StatementReading.{body, statement, stated}
use Rattle.c_decl.specs.private.UnitReading.{function_body, function, named, typed, item_by, item, unit_turn_by, unit_turn, unit}
use Rattle.c_decl.proofs.Nested.{body_same, nested_same}
use Rattle.c_decl.proofs.Takes.{Takes, TakesTurns, free, Any, here, bind, before, past, last, token, regroup, read_as, at_token, next_fits, Starts, starts_append, starts_token, looped, regroup_turns, regather, turn_more, turn_last}
use Rattle.c_decl.proofs.CompleteDeclarations.{unlike, takes_base, takes_stars, takes_name, stars_fit, Declared, declared, base_ends, base_starts, takes_vars, vars_start, takes_parameters}
use Rattle.c_decl.proofs.CompleteStatements.{takes_body}
use Rattle.c_expr.specs.declared.punctuator.TheConstants.{PARENTHESIS_OPEN, PARENTHESIS_CLOSE, BRACE_OPEN, BRACE_CLOSE, SEMICOLON}
use Rattle.c_decl.specs.declared.reserved.TheConstants.{VOID}

-- functions
takes_inside : {l : ℕ} {a : List Leveled} {ss : List Stmt} → IsBody l a ss → (m r : ℕ) → r ≡ m - l
    → (q : Place) → Takes m Any (a ++ at l (k.Sign BRACE_CLOSE) q ∷ []) (body stated r)
    (λ us. Ok (ss, us))
takes_inside h m r room q =
    read_as (λ rest ts fit i. body_same stated (statement r) r (λ s us low. nested_same s r s us (omega arith) low) r ts (omega arith)) (looped _ (takes_body h m r r room (omega arith) q []))

takes_block : {l : ℕ} {a : List Leveled} {ss : List Stmt} → IsBlock l a ss → (m r : ℕ) → r ≡ m - l
    → Takes m Any a (function_body r) (λ us. Ok (Some ss, us))
takes_block (s.braces {l = l} p q h) m r room =
    token (at l (k.Sign BRACE_OPEN) p) r _ _ room (λ us. refl) (last _ (takes_inside h m r room q) (λ us fit. fit) (λ us fit. refl))

takes_function : {l n : ℕ} {a c : List Leveled} {xs : List Param} {inside : Option (List Stmt)}
    → IsParams l a xs → (m r : ℕ) → r ≡ m - l → (base : Ty) (name : List ℕ) (p q t : Place)
    → Takes m Any c (function_body r) (λ us. Ok (inside, us))
    → Takes m Any (at l (k.Sign PARENTHESIS_OPEN) q ∷ (a ++ at l (k.Sign PARENTHESIS_CLOSE) t ∷ c)) (function base n name p r)
    (λ us. Ok (the_item.Fun (record { base = base; stars = n; name = name; place = p; parameters = xs; body = option_map stmts_list inside }), us))
takes_function {l = l} {a = a} h m r room base name p q t i =
    token (at l (k.Sign PARENTHESIS_OPEN) q) r _ _ room (λ us. refl) (past _ a (at l (k.Sign PARENTHESIS_CLOSE) t) (takes_parameters h m r room t) (last _ i (λ us fit. fit) (λ us fit. refl)))

-- how items begin
base_not_kept : (kind : Kind) → is_base kind ≡ true → keep_of kind ≡ None
base_not_kept kind h = go (keep_of kind) refl
  where
    go : (how : Option Keep) → keep_of kind ≡ how → how ≡ None
    go None e = refl
    go (Some how) e = let none : is_base kind ≡ false = found (λ kind how. is_base kind ≡ false) keeps kind how (refl, (refl, tt)) e in let no : true ≡ false = sym h ∙ none in cc

base_not_end : (kind : Kind) → is_base kind ≡ true → is_end kind ≡ false
base_not_end k.End h = cc
base_not_end (k.Name n) h = refl
base_not_end (k.Reserved w) h = refl
base_not_end (k.Number ty v) h = refl
base_not_end (k.Character v) h = refl
base_not_end (k.Sign w) h = refl

item_typed : (r : ℕ) (ts : List Token) → is_base (kind_of ts) ≡ true → item r ts ≡ typed r ts
item_typed r ts h = ap₂ (λ how void. item_by how void r ts) (base_not_kept (kind_of ts) h) (unlike is_base (word VOID.now) (kind_of ts) refl h)

takes_result : {l n : ℕ} {a b : List Leveled} {base : Ty} {o : List Token → Outcome Item}
    → IsResult l n a base → (m r : ℕ) → r ≡ m - l → (name : List ℕ) (p q : Place)
    → Takes m Any (at (l + n) (k.Sign PARENTHESIS_OPEN) q ∷ b) (function base n name p (r - n)) o → Takes m Any (a ++ at (l + n) (k.Name name) p ∷ (at (l + n) (k.Sign PARENTHESIS_OPEN) q ∷ b)) (item r) o
takes_result {b = b} (u.typed {l = l} {n = n} {a = a} {b = stars} h j) m r room name p q i =
    let first = at (l + n) (k.Name name) p in
    let opened = at (l + n) (k.Sign PARENTHESIS_OPEN) q in
    let w = starts_append (stars ++ first ∷ (opened ∷ b)) (base_starts h m) in
    regroup (sym (append_assoc a stars (first ∷ (opened ∷ b)))) (read_as (λ rest ts fit i. item_typed r ts (w.start rest ts i))
    (bind _ (takes_base h m r room) (stars_fit j (first ∷ (opened ∷ b)) (next_fits first (λ us. refl)) (λ p us. refl))
    (before _ first (takes_stars j m r room) (λ us. refl) (bind _ (takes_name (l + n) m (r - n) name p (omega arith)) free (at_token opened (λ us. refl) i)))))
takes_result {b = b} {o = o} (u.void {l = l} z) m r room name p q i =
    let same : r - 0 ≡ r = omega arith in
    token (at l (word VOID.now) z) r (item r) _ room (λ us. refl)
    (bind _ (takes_name (l + zero) m r name p (omega arith)) free (subst (λ s. Takes m Any (at (l + zero) (k.Sign PARENTHESIS_OPEN) q ∷ b) (function the_ty.Void 0 name p s) o) same i))

-- globals
takes_globals : {l : ℕ} {a : List Leveled} {xs : List Var} → IsVars l a xs → (m r : ℕ) → r ≡ m - l
    → (p : Place) → Takes m Any (a ++ at l (k.Sign SEMICOLON) p ∷ []) (item r)
    (λ us. Ok (the_item.Vars keep.Shared xs, us))
takes_globals (d.vars {l = l} {base = to} {a = a} {b = b} h j) m r room p =
    let w : Declared m l r to b p _ = declared j m r room p in
    let x = w.first in
    let name = at (l + x.stars) (k.Name x.name) x.place in
    let behind = w.named.behind ++ w.behind in
    let start = starts_append (w.front ++ w.behind) (base_starts h m) in
    let cut : w.named.stars ++ name ∷ behind ≡ w.front ++ w.behind = sym (append_assoc w.named.stars (name ∷ w.named.behind) w.behind) ∙ ap (λ c. c ++ w.behind) w.named.splits in
    regroup (ap (λ c. a ++ c) w.splits ∙ sym (append_assoc a b (at l (k.Sign SEMICOLON) p ∷ []))) (read_as (λ rest ts fit i. item_typed r ts (start.start rest ts i))
    (bind _ (takes_base h m r room) (base_ends w)
    (regroup cut (before _ name (takes_stars w.named.has_stars m r room) (λ us. refl) (bind _ (takes_name (l + x.stars) m (r - x.stars) x.name x.place (omega arith)) free
    (read_as (λ rest ts fit i.
    let v = parts m w.named.behind w.behind rest ts i in
    ap (λ c. named c to x.stars x.name x.place (r - x.stars) r ts) (w.named.no_call.fit v.behind ts (w.ends.fit rest v.behind fit v.onward) v.front))
    (bind _ w.named.onward w.ends (last _ (looped _ (w.onward [])) (λ us fit. fit) (λ us fit. refl)))))))))

-- items
takes_item : {l : ℕ} {a : List Leveled} {x : Item} → IsItem l a x → (m r : ℕ) → r ≡ m - l
    → Takes m Any a (item r) (λ us. Ok (x, us))
takes_item (u.vars p h) m r room = takes_globals h m r room p
takes_item (u.kept {l = l} {kind = kind} {how = how} p q e h) m r room =
    let first = at l kind p in
    token first r (item r) _ room (λ us. ap (λ how. item_by how (is_next (word VOID.now) (first.token ∷ us)) r (first.token ∷ us)) e) (last _ (takes_vars h m r room q) (λ us fit. fit) (λ us fit. refl))
takes_item (u.declared {l = l} {n = n} {base = base} {name = name} p q t e h i) m r room =
    takes_result h m r room name p q
    (takes_function i m (r - n) (omega arith) base name p q t (token (at (l + n) (k.Sign SEMICOLON) e) (r - n) _ _ (omega arith) (λ us. refl) (here (λ us fit. refl))))
takes_item (u.defined {l = l} {n = n} {base = base} {name = name} p q t h i j) m r room =
    takes_result h m r room name p q (takes_function i m (r - n) (omega arith) base name p q t (takes_block j m (r - n) (omega arith)))

result_starts : {l n : ℕ} {a : List Leveled} {base : Ty} → IsResult l n a base → (m : ℕ)
    → Starts m a (λ us. is_end (kind_of us) ≡ false)
result_starts (u.typed {b = b} h j) m = let w = starts_append b (base_starts h m) in record { start = λ us ts i. base_not_end (kind_of ts) (w.start us ts i) }
result_starts (u.void {l = l} p) m = starts_token (at l (word VOID.now) p) (λ us. refl)

item_starts : {l : ℕ} {a : List Leveled} {x : Item} → IsItem l a x → (m : ℕ)
    → Starts m a (λ us. is_end (kind_of us) ≡ false)
item_starts (u.vars {l = l} p h) m = let w = starts_append (at l (k.Sign SEMICOLON) p ∷ []) (vars_start h m) in record { start = λ us ts i. base_not_end (kind_of ts) (w.start us ts i) }
item_starts (u.kept {l = l} {kind = kind} {how = how} p q e h) m = starts_token (at l kind p) (λ us. found (λ kind how. is_end kind ≡ false) keeps kind how (refl, (refl, tt)) e)
item_starts (u.declared p q t e h i) m = starts_append _ (result_starts h m)
item_starts (u.defined p q t h i j) m = starts_append _ (result_starts h m)

some_behind : (a : List Leveled) (x : Leveled) (b : List Leveled) → 0 < length (a ++ x ∷ b)
some_behind a x b = omega (arith, length-append a (x ∷ b))

some_item : {l : ℕ} {a : List Leveled} {x : Item} → IsItem l a x → 0 < length a
some_item (u.vars {a = a} p h) = some_behind a _ []
some_item (u.kept p q e h) = omega arith
some_item (u.declared {a = a} p q t e h i) = some_behind a _ _
some_item (u.defined {a = a} p q t h i j) = some_behind a _ _

takes_items : {l : ℕ} {a : List Leveled} {xs : List Item} → IsItems l a xs → (m r : ℕ) → r ≡ m - l
    → (p : Place) (found : List Item)
    → TakesTurns m Any (a ++ at l k.End p ∷ []) (λ n. turns (unit_turn r) n found) (λ us. Ok (found ++ xs, us))
takes_items (u.none {l = l}) m r room p found = regather (sym (append-nil found)) (turn_last (unit_turn r) found (omega arith) (token (at l k.End p) r _ _ room (λ us. refl) (here (λ us fit. refl))))
takes_items (u.more {l = l} {a = a} {b = b} {x = x} {xs = xs} h i) m r room p found =
    let w = item_starts h m in
    regroup_turns (sym (append_assoc a b (at l k.End p ∷ []))) (regather (append_assoc found (x ∷ []) xs)
    (turn_more {C = Any} {next = found ++ x ∷ []} (unit_turn r) found (some_item h)
    (read_as (λ rest ts fit i. ap (λ c. unit_turn_by c r found ts) (w.start rest ts i)) (last _ (takes_item h m r room) (λ us fit. fit) (λ us fit. refl)))
    free (takes_items i m r room p (found ++ x ∷ []))))

pub complete_unit : {a : List Leveled} {xs : List Item} → IsUnit a xs → (m r : ℕ) → r ≡ m
    → (rest ts : List Token) → Follows m a rest ts → unit r ts ≡ through m a (Ok (xs, rest))
complete_unit (u.unit p h) m r room rest ts i = (looped _ (takes_items h m r (omega arith) p [])).goes rest ts tt i
