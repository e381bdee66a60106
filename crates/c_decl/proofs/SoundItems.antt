-- The law of functions and globals (C11 6.9).
use Rattle.std.proofs.Common.{◌≡◌, ◌<◌, ◌≤◌, ◌+◌, ◌-◌, ℕ, zero, suc, List, [], ◌∷◌, ◌++◌, length, Option, Some, None, Ok, refl, sym, ap, ap₂, ◌∙◌, subst, arith, append_assoc, length-append, Bool, true, false}
use Rattle.std.specs.Prelude.{option_map}
use Rattle.c_token.specs.declared.token.Token.{Token}
use Rattle.c_token.specs.declared.token.Kind.{Kind}
use Rattle.c_token.specs.declared.token.Kind.TheVariants as k
use Rattle.c_tree.specs.declared.operator.Keep.{Keep}
use Rattle.c_tree.specs.declared.operator.Keep.TheVariants as keep
use Rattle.c_tree.specs.declared.place.Place.{Place}
use Rattle.c_tree.specs.Ty.{Ty}
use Rattle.c_tree.specs.Ty as ty
use Rattle.c_tree.specs.Var.{Var}
use Rattle.c_tree.specs.Stmt.{Stmt}
use Rattle.c_tree.specs.Fun.{Param}
use Rattle.c_tree.specs.Item.{Item}
use Rattle.c_tree.specs.Item as the_item
use Rattle.c_tree.specs.View.{exprs_list, stmts_list}
use Rattle.c_expr.specs.Leveled.{Leveled, at}
use Rattle.c_expr.specs.Spelled.{same}
use Rattle.c_expr.specs.Grammar.{IsBase}
use Rattle.c_expr.specs.Next.{◌>>=◌, kind_of, refuse}
use Rattle.c_expr.proofs.Law.{Lawful, bind_law, weaken, pure_law, ended, take_law, look_law, plain}
use Rattle.c_expr.proofs.Sound.{longer}
use Rattle.c_expr.proofs.ExpressionFronts.{expect_law, base_law}
use Rattle.c_expr.proofs.KindWords.{same_is, some_not_end}
use Rattle.c_decl.specs.GrammarWords.{word, keep_of}
use Rattle.c_decl.specs.Declarations as d
use Rattle.c_decl.specs.Declarations.{IsStars, IsSizes, IsDecl, IsVars, IsParams}
use Rattle.c_decl.specs.StatementGrammar as s
use Rattle.c_decl.specs.StatementGrammar.{IsBlock}
use Rattle.c_decl.specs.Units as g
use Rattle.c_decl.specs.Units.{IsItem}
use Rattle.c_decl.specs.private.DeclarationReading.{is_next, name as name_reader, sizes_from, initialised, more_declarators, vars as vars_reader}
use Rattle.c_decl.specs.private.StatementReading.{body, stated, statement}
use Rattle.c_decl.specs.private.UnitReading.{function_body_by, function_body, function, globals, named, typed, item_by, item}
use Rattle.c_decl.proofs.Nested.{body_same, nested_same}
use Rattle.c_decl.proofs.SoundParts.{Sound, chosen, choose_by}
use Rattle.c_decl.proofs.SoundDeclarators.{IsName, name, name_law, stars_law, behind_law, declarator_of}
use Rattle.c_decl.proofs.SoundDeclarations.{DeclsThrough, VarsThrough, vars, vars_end, vars_law, through_law}
use Rattle.c_decl.proofs.SoundParameters.{ParamsThrough, params, parameters_law}
use Rattle.c_decl.proofs.SoundForms.{BodyLeft, left, body_law}
use Rattle.c_decl.proofs.SoundNested.{nested_law, single_law}
use Rattle.c_expr.specs.declared.punctuator.TheConstants.{PARENTHESIS_OPEN, PARENTHESIS_CLOSE, BRACE_OPEN, SEMICOLON}
use Rattle.c_decl.specs.declared.reserved.TheConstants.{VOID}

-- what stands in a function's braces
body_stated : (r : ℕ) (ts : List Token) → body stated r ts ≡ body (statement r) r ts
body_stated r ts = body_same stated (statement r) r (λ s us low. nested_same s r s us (omega arith) low) r ts (omega arith)

stated_body_law : (I : Type 0) (m : ℕ) → Sound I m (λ l. plain (BodyLeft l [])) (body stated)
stated_body_law I m l r r' ts room wide =
    subst (λ o. Lawful m (plain (BodyLeft l [])) (λ i. body stated (r' i)) ts o) (sym (body_stated r ts))
    (weaken (plain (BodyLeft l [])) (λ i. body stated (r' i)) (λ b y us h. h) (λ i b. sym (body_stated (r' i) b))
    (body_law I m r r' (nested_law I r r' m) (λ i n. single_law (r' i) n) l r r' ts room (omega arith) (λ i. (wide i, omega arith))))

-- a function's block, or a semicolon in its place
data IsInside (l : ℕ) : List Leveled → Option (List Stmt) → Type 0 where
  ended_there : (p : Place) → IsInside l (at l (k.Sign SEMICOLON) p ∷ []) None
  inside : {a : List Leveled} {ss : List Stmt} → IsBlock l a ss → IsInside l a (Some ss)

inside_of : (l : ℕ) (p : Place) (a : List Leveled) (ss : List Stmt) → BodyLeft l [] a ss
    → IsInside l (at l (k.Sign BRACE_OPEN) p ∷ a) (Some ss)
inside_of l p _ _ (left q h) = inside (s.braces p q h)

inside_law : (I : Type 0) (m : ℕ) → Sound I m (λ l. plain (IsInside l)) function_body
inside_law I m l r r' ts room wide = chosen (λ s c b. function_body_by c s b) _ m l r r' (k.Sign SEMICOLON) ts room wide (refl, refl) (λ s b. refl) (λ p rest. pure_law None rest (ended_there p))
    (λ other. expect_law (λ i u. body stated (r' i) u.1 >>= λ ss. Ok (Some ss.0, ss.1)) (λ u. body stated r u.1 >>= λ ss. Ok (Some ss.0, ss.1)) m l r r' (k.Sign BRACE_OPEN) ts room wide (refl, refl) (λ p rest.
    bind_law (λ i ss. Ok (Some ss.0, ss.1)) (λ ss. Ok (Some ss.0, ss.1)) (stated_body_law I m l r r' rest room wide) (λ ss us a h cut.
    pure_law (Some ss) us (ended (λ c y. IsInside l (at l (k.Sign BRACE_OPEN) p ∷ c) y) (inside_of l p a ss h)))))

-- a function, behind its name
data IsFunction (l : ℕ) (to : Ty) (stars : ℕ) (own : List ℕ) (place : Place) : List Leveled → Item → Type 0 where
  declared : {a : List Leveled} {xs : List Param} (q r s : Place) → IsParams l a xs
      → IsFunction l to stars own place (at l (k.Sign PARENTHESIS_OPEN) q ∷ (a ++ at l (k.Sign PARENTHESIS_CLOSE) r ∷ (at l (k.Sign SEMICOLON) s ∷ [])))
      (the_item.Fun (record { base = to; stars = stars; name = own; place = place; parameters = xs; body = None }))
  defined : {a b : List Leveled} {xs : List Param} {ss : List Stmt} (q r : Place) → IsParams l a xs
      → IsBlock l b ss
      → IsFunction l to stars own place (at l (k.Sign PARENTHESIS_OPEN) q ∷ (a ++ at l (k.Sign PARENTHESIS_CLOSE) r ∷ b))
      (the_item.Fun (record { base = to; stars = stars; name = own; place = place; parameters = xs; body = Some (stmts_list ss) }))

function_of : (l : ℕ) (to : Ty) (stars : ℕ) (own : List ℕ) (place q : Place) (a b : List Leveled)
    (xs : List Param) (ss : Option (List Stmt)) → ParamsThrough l a xs → IsInside l b ss
    → IsFunction l to stars own place (at l (k.Sign PARENTHESIS_OPEN) q ∷ (a ++ b)) (the_item.Fun (record { base = to; stars = stars; name = own; place = place; parameters = xs; body = option_map stmts_list ss }))
function_of l to stars own place q _ _ xs _ (params {a = a} r h) (ended_there s) =
    subst (λ c. IsFunction l to stars own place (at l (k.Sign PARENTHESIS_OPEN) q ∷ c) (the_item.Fun (record { base = to; stars = stars; name = own; place = place; parameters = xs; body = None })))
    (sym (append_assoc a (at l (k.Sign PARENTHESIS_CLOSE) r ∷ []) (at l (k.Sign SEMICOLON) s ∷ []))) (declared q r s h)
function_of l to stars own place q _ b xs _ (params {a = a} r h) (inside {ss = ss} i) =
    subst (λ c. IsFunction l to stars own place (at l (k.Sign PARENTHESIS_OPEN) q ∷ c) (the_item.Fun (record { base = to; stars = stars; name = own; place = place; parameters = xs; body = Some (stmts_list ss) })))
    (sym (append_assoc a (at l (k.Sign PARENTHESIS_CLOSE) r ∷ []) b)) (defined q r h i)

function_law : (I : Type 0) (m : ℕ) (to : Ty) (stars : ℕ) (own : List ℕ) (place : Place)
    → Sound I m (λ l. plain (IsFunction l to stars own place)) (function to stars own place)
function_law I m to stars own place l r r' ts room wide =
    expect_law _ _ m l r r' (k.Sign PARENTHESIS_OPEN) ts room wide (refl, refl) (λ q us.
    bind_law _ _ (parameters_law I m l r r' us room wide) (λ xs vs a h cut.
    bind_law (λ i ss. Ok (the_item.Fun (record { base = to; stars = stars; name = own; place = place; parameters = xs; body = option_map stmts_list ss.0 }), ss.1))
    (λ ss. Ok (the_item.Fun (record { base = to; stars = stars; name = own; place = place; parameters = xs; body = option_map stmts_list ss.0 }), ss.1)) (inside_law I m l r r' vs room wide) (λ ss ws b i cut.
    pure_law (the_item.Fun (record { base = to; stars = stars; name = own; place = place; parameters = xs; body = option_map stmts_list ss })) ws
    (ended (λ c y. IsFunction l to stars own place (at l (k.Sign PARENTHESIS_OPEN) q ∷ (a ++ c)) y) (function_of l to stars own place q a b xs ss h i)))))

-- an item that begins with a base, from its parts
named_function : (l n : ℕ) (to : Ty) (own : List ℕ) (p : Place) (a b c : List Leveled) (x : Item)
    → IsBase l a to → IsStars l n b → IsFunction (l + n) to n own p c x
    → IsItem l (a ++ (b ++ at (l + n) (k.Name own) p ∷ c)) x
named_function l n to own p a b _ _ h i (declared {a = c} {xs = xs} q r s j) =
    subst (λ e. IsItem l e (the_item.Fun (record { base = to; stars = n; name = own; place = p; parameters = xs; body = None }))) (append_assoc a b _) (g.declared p q r s (g.typed h i) j)
named_function l n to own p a b _ _ h i (defined {xs = xs} {ss = ss} q r j w) =
    subst (λ e. IsItem l e (the_item.Fun (record { base = to; stars = n; name = own; place = p; parameters = xs; body = Some (stmts_list ss) }))) (append_assoc a b _) (g.defined p q r (g.typed h i) j w)

named_globals : (l n : ℕ) (to : Ty) (own : List ℕ) (p : Place) (a b c e : List Leveled)
    (ds : List Var) → IsBase l a to
    → DeclsThrough l to ((b ++ at (l + n) (k.Name own) p ∷ c) ++ e) ds
    → IsItem l (a ++ (b ++ at (l + n) (k.Name own) p ∷ (c ++ e))) (the_item.Vars keep.Shared ds)
named_globals l n to own p a b c e ds h i =
    subst (λ f. IsItem l (a ++ f) (the_item.Vars keep.Shared ds)) (append_assoc b (at (l + n) (k.Name own) p ∷ c) e) (go _ (vars_end l to a ((b ++ at (l + n) (k.Name own) p ∷ c) ++ e) ds h i))
  where
    go : (f : List Leveled) → VarsThrough l f ds → IsItem l f (the_item.Vars keep.Shared ds)
    go _ (vars q h) = g.vars q h

globals_law : (I : Type 0) (m : ℕ) (to : Ty) (n : ℕ) (own : List ℕ) (p : Place) (l inner r : ℕ)
    (inner' r' : I → ℕ) (a b : List Leveled) (ts : List Token) → IsBase l a to → IsStars l n b
    → inner ≡ m - (l + n) → ((i : I) → inner ≤ inner' i) → r ≡ m - l → ((i : I) → r ≤ r' i)
    → Lawful m (λ c x us. IsItem l (a ++ (b ++ at (l + n) (k.Name own) p ∷ c)) x) (λ i. globals to n own p (inner' i) (r' i)) ts (globals to n own p inner r ts)
globals_law I m to n own p l inner r inner' r' a b ts h i room' wide' room wide =
    bind_law (λ j d. more_declarators to d.0 (r' j) d.1 >>= λ ds. Ok (the_item.Vars keep.Shared ds.0, ds.1)) (λ d. more_declarators to d.0 r d.1 >>= λ ds. Ok (the_item.Vars keep.Shared ds.0, ds.1))
    (behind_law I m to n own p (l + n) inner inner' ts room' wide') (λ d us c j cut.
    bind_law (λ j ds. Ok (the_item.Vars keep.Shared ds.0, ds.1)) (λ ds. Ok (the_item.Vars keep.Shared ds.0, ds.1))
    (through_law I m to (b ++ at (l + n) (k.Name own) p ∷ c) d l r r' us (declarator_of l n to own p b c d i j) room wide) (λ ds vs e w cut.
    pure_law (the_item.Vars keep.Shared ds) vs (ended (λ e x. IsItem l (a ++ (b ++ at (l + n) (k.Name own) p ∷ (c ++ e))) x) (named_globals l n to own p a b c e ds h w))))

no_sizes : (r : ℕ) → sizes_from r [] [] ≡ Ok (([], r), [])
no_sizes zero = refl
no_sizes (suc r) = refl

named_empty : (to : Ty) (n : ℕ) (own : List ℕ) (p : Place) (inner r : ℕ) (c : Bool)
    → named c to n own p inner r [] ≡ refuse []
named_empty to n own p inner r true = refl
named_empty to n own p inner r false =
    ap (λ o. (o >>= λ sizes. initialised sizes.0.1 sizes.1 >>= λ i. Ok (record { base = to; stars = n; name = own; place = p; sizes = exprs_list sizes.0.0; init = i.0 }, i.1))
    >>= λ d. more_declarators to d.0 r d.1 >>= λ ds. Ok (the_item.Vars keep.Shared ds.0, ds.1)) (no_sizes inner)

named_law : (I : Type 0) (m : ℕ) (to : Ty) (n : ℕ) (own : List ℕ × Place) (l inner r : ℕ)
    (inner' r' : I → ℕ) (a b c : List Leveled) (ts : List Token) → IsBase l a to → IsStars l n b
    → IsName (l + n) c own
    → inner ≡ m - (l + n) → ((i : I) → inner ≤ inner' i) → r ≡ m - l → ((i : I) → r ≤ r' i)
    → Lawful m (λ e x us. IsItem l (a ++ (b ++ (c ++ e))) x) (λ i us. named (is_next (k.Sign PARENTHESIS_OPEN) us) to n own.0 own.1 (inner' i) (r' i) us) ts (named (is_next (k.Sign PARENTHESIS_OPEN) ts) to n own.0 own.1 inner r ts)
named_law I m to n _ l inner r inner' r' a b _ ts h i (name {n = own} p) room' wide' room wide =
    choose_by (λ c. same c (k.Sign PARENTHESIS_OPEN)) (λ j c us. named c to n own p (inner' j) (r' j) us) (λ c. named c to n own p inner r ts) ts
    (λ j c. named_empty to n own p (inner' j) (r' j) false ∙ sym (named_empty to n own p (inner' j) (r' j) c)) go
  where
    go : (c : Bool) → same (kind_of ts) (k.Sign PARENTHESIS_OPEN) ≡ c
        → Lawful m (λ e x us. IsItem l (a ++ (b ++ at (l + n) (k.Name own) p ∷ e)) x)
        (λ j us. named c to n own p (inner' j) (r' j) us) ts (named c to n own p inner r ts)
    go true is = weaken _ (λ j. function to n own p (inner' j)) (λ c x us j. named_function l n to own p a b c x h i j) (λ j c. refl) (function_law I m to n own p (l + n) inner inner' ts room' wide')
    go false is = globals_law I m to n own p l inner r inner' r' a b ts h i room' wide' room wide

typed_law : (I : Type 0) (m : ℕ) → Sound I m (λ l. plain (IsItem l)) typed
typed_law I m l r r' ts room wide =
    bind_law _ _ (base_law I m l r r' ts room wide) (λ to rest a h cut.
    stars_law m (λ b x us. IsItem l (a ++ b) x) (λ i stars. name_reader stars.0.1 stars.1 >>= λ n. named (is_next (k.Sign PARENTHESIS_OPEN) n.1) to stars.0.0 n.0.0 n.0.1 stars.0.1 (r' i) n.1)
    (λ stars. name_reader stars.0.1 stars.1 >>= λ n. named (is_next (k.Sign PARENTHESIS_OPEN) n.1) to stars.0.0 n.0.0 n.0.1 stars.0.1 r n.1) l
    (λ n inner inner' b us i room' wide'. bind_law (λ i own. named (is_next (k.Sign PARENTHESIS_OPEN) own.1) to n own.0.0 own.0.1 (inner' i) (r' i) own.1) (λ own. named (is_next (k.Sign PARENTHESIS_OPEN) own.1) to n own.0.0 own.0.1 inner r own.1)
    (name_law I m (l + n) inner inner' us room' wide') (λ own vs c j cut.
    named_law I m to n own l inner r inner' r' a b c vs h i j room' wide' room wide))
    r zero r' [] rest d.none (omega arith) wide)

-- an item that begins with `void`
void_function : (l : ℕ) (p : Place) (own : List ℕ × Place) (a b : List Leveled) (x : Item)
    → IsName (l + zero) a own → IsFunction (l + zero) ty.Void zero own.0 own.1 b x
    → IsItem l (at l (word VOID.now) p ∷ (a ++ b)) x
void_function l p _ _ _ _ (name w) (declared q r s h) = g.declared w q r s (g.void p) h
void_function l p _ _ _ _ (name w) (defined q r h i) = g.defined w q r (g.void p) h i

kept_item : (l : ℕ) (p : Place) (kind : Kind) (how : Keep) (a : List Leveled) (ds : List Var)
    → keep_of kind ≡ Some how → VarsThrough l a ds
    → IsItem l (at l kind p ∷ a) (the_item.Vars how ds)
kept_item l p kind how _ ds e (vars q h) = g.kept p q e h

item_by_law : (I : Type 0) (m l r : ℕ) (r' : I → ℕ) (kind : Kind) (how : Option Keep)
    (is_void : Bool) (ts : List Token) → r ≡ m - l → ((i : I) → r ≤ r' i) → kind_of ts ≡ kind
    → keep_of kind ≡ how → same kind (word VOID.now) ≡ is_void
    → Lawful m (plain (IsItem l)) (λ i. item (r' i)) ts (item_by how is_void r ts)
item_by_law I m l r r' kind (Some how) is_void ts room wide is e h =
    take_law (λ i. item (r' i)) (λ i u. vars_reader (r' i) u.1 >>= λ ds. Ok (the_item.Vars how ds.0, ds.1)) (λ u. vars_reader r u.1 >>= λ ds. Ok (the_item.Vars how ds.0, ds.1)) m l r r' kind ts room wide is (some_not_end keep_of how kind refl e)
    (λ i p b. ap (λ o. item_by o (same kind (word VOID.now)) (r' i) (record { kind = kind; place = p } ∷ b)) e) (λ p rest.
    bind_law (λ i ds. Ok (the_item.Vars how ds.0, ds.1)) (λ ds. Ok (the_item.Vars how ds.0, ds.1)) (vars_law I m l r r' rest room wide) (λ ds us a j cut.
    pure_law (the_item.Vars how ds) us (ended (λ b x. IsItem l (at l kind p ∷ b) x) (kept_item l p kind how a ds e j))))
item_by_law I m l r r' kind None true ts room wide is e h =
    take_law (λ i. item (r' i)) _ _ m l r r' (word VOID.now) ts room wide (is ∙ same_is kind (word VOID.now) h) (λ e. cc) (λ i p b. refl) (λ p rest.
    bind_law (λ i n. function ty.Void 0 n.0.0 n.0.1 (r' i) n.1) (λ n. function ty.Void 0 n.0.0 n.0.1 r n.1) (name_law I m (l + zero) r r' rest (omega arith) wide) (λ own us a j cut.
    weaken _ (λ i. function ty.Void 0 own.0 own.1 (r' i)) (λ b x us w. void_function l p own a b x j w) (λ i b. refl) (function_law I m ty.Void 0 own.0 own.1 (l + zero) r r' us (omega arith) wide)))
item_by_law I m l r r' kind None false ts room wide is e h =
    look_law (plain (IsItem l)) (λ i c b. item_by (keep_of c) (same c (word VOID.now)) (r' i) b) kind ts _ is
    (weaken (plain (IsItem l)) (λ i b. item_by (keep_of kind) (same kind (word VOID.now)) (r' i) b) (λ b x us h. h) (λ i b. sym (ap₂ (λ o c. item_by o c (r' i) b) e h)) (typed_law I m l r r' ts room wide))
    (λ i. sym (ap₂ (λ o c. item_by o c (r' i) []) e h))

pub item_law : (I : Type 0) (m : ℕ) → Sound I m (λ l. plain (IsItem l)) item
item_law I m l r r' ts room wide = item_by_law I m l r r' (kind_of ts) (keep_of (kind_of ts)) (same (kind_of ts) (word VOID.now)) ts room wide refl refl refl

append_some : (a : List Leveled) (x : Leveled) (b : List Leveled) → 0 < length (a ++ x ∷ b)
append_some a x b = omega (arith, length-append a (x ∷ b))

pub item_some : {l : ℕ} {a : List Leveled} {x : Item} → IsItem l a x → 0 < length a
item_some (g.vars {a = a} p h) = longer a (at _ (k.Sign SEMICOLON) p)
item_some (g.kept p q e h) = omega arith
item_some (g.declared {a = a} p q r s h i) = append_some a _ _
item_some (g.defined {a = a} p q r h i j) = append_some a _ _
