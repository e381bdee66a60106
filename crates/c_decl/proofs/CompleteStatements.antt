-- What the grammar of statements has is read, up to its first token whose level is too high, where the next token does not go on.
use Rattle.std.proofs.Common.{◌≡◌, ◌<◌, ◌≤◌, ◌-◌, ℕ, zero, suc, List, [], ◌∷◌, ◌++◌, length, sub-one, Option, Some, None, Ok, Err, refl, sym, ap, ap₂, ◌∙◌, subst, arith, append_assoc, append-nil, inl, Bool, true, false}
use Rattle.std.specs.Prelude.{if◌then◌else◌}
use Rattle.c_tree.specs.Expr.{Expr}
use Rattle.c_tree.specs.First.{First as PureFirst}
use Rattle.c_tree.specs.Stmt.{Stmt}
use Rattle.c_tree.specs.Stmt as stmt
use Rattle.c_tree.specs.declared.ctype.CType.{CType}
use Rattle.c_tree.specs.declared.place.Place.{Place}
use Rattle.c_tree.specs.declared.tree.Count.{Count}
use Rattle.c_tree.specs.declared.tree.Marker.{Marker}
use Rattle.c_token.specs.declared.token.Token.{Token}
use Rattle.c_token.specs.declared.token.Kind.{Kind}
use Rattle.c_token.specs.declared.token.Kind.TheVariants as k
use Rattle.c_expr.specs.declared.fault.ParseFault.TheVariants.{Unexpected, TooDeep}
use Rattle.c_expr.specs.Leveled.{Leveled, at}
use Rattle.c_expr.specs.Spelled.{same}
use Rattle.c_expr.specs.Grammar.{IsAssign}
use Rattle.c_expr.specs.Next.{Outcome, ◌>>=◌, kind_of, place_of, take, refuse, begins, is_base}
use Rattle.c_expr.specs.private.ExpressionReading.{turns}
use Rattle.c_expr.proofs.Binds.{binds, found, no_base}
use Rattle.c_expr.proofs.Through.{Follows, through, allowed, first_is, raised_append, raised_kind}
use Rattle.c_expr.proofs.Raised.{raised_assign}
use Rattle.c_decl.specs.GrammarWords.{word, markers, marker_of}
use Rattle.c_decl.specs.StatementGrammar as s
use Rattle.c_decl.specs.StatementGrammar.{IsCount, IsMarker, IsOptional, IsBeginning, IsStatement, IsBlock, IsBody}
use Rattle.c_decl.specs.private.DeclarationReading.{is_next}
use Rattle.c_decl.specs.private.StatementReading.{number, count_of, close, numbered, post, marker_by, marker, openings, opening_of, begins_statement, begins_statement_by, fault_at_statement, optional_by, optional, beginning_by, beginning, test, expression_at, declaration_at, marker_at, else_part_by, else_part, part_by, body_turn_by, body_turn, opened_by, opened, statement}
use Rattle.c_decl.specs.declared.opening.Opening.{Opening}
use Rattle.c_decl.specs.declared.opening.Opening.TheVariants as o
use Rattle.c_decl.proofs.Takes.{Takes, TakesTurns, free, Any, here, bind, before, past, last, token, read_as, placed, at_token, Starts, starts_append, starts_token, looped, regroup_turns, regather, turn_more, turn_last}
use Rattle.c_decl.proofs.CompleteDeclarations.{unlike, takes_assign, takes_name, takes_vars, vars_start}
use Rattle.c_expr.specs.declared.punctuator.TheConstants.{PARENTHESIS_OPEN, PARENTHESIS_CLOSE, BRACE_OPEN, BRACE_CLOSE, COMMA, SEMICOLON}
use Rattle.c_decl.specs.declared.reserved.TheConstants.{IF, ELSE, WHILE, DO, FOR, RETURN, BREAK, CONTINUE, POST}

-- markers
takes_number : (l m r v : ℕ) (ty : CType) (p : Place) → r ≡ m - l
    → Takes m Any (at l (k.Number ty v) p ∷ []) (number r) (λ us. Ok (v, us))
takes_number l m r v ty p room = token (at l (k.Number ty v) p) r _ _ room (λ us. refl) (here (λ us fit. refl))

takes_count : {l : ℕ} {a : List Leveled} {c : Count} → IsCount l a c → (m r : ℕ) → r ≡ m - l
    → Takes m Any a (count_of r) (λ us. Ok (c, us))
takes_count (s.number {l = l} {v = v} {ty = ty} p) m r room = token (at l (k.Number ty v) p) r _ _ room (λ us. refl) (here (λ us fit. refl))
takes_count (s.name {l = l} {n = n} p) m r room = at_token (at l (k.Name n) p) (λ us. refl) (last _ (takes_name l m r n p room) (λ us fit. fit) (λ us fit. refl))

takes_close : {X : Type 0} (x : X) (l m r : ℕ) (p q : Place) → r ≡ m - l
    → Takes m Any (at l (k.Sign PARENTHESIS_CLOSE) p ∷ (at l (k.Sign SEMICOLON) q ∷ [])) (close x r)
    (λ us. Ok (x, us))
takes_close x l m r p q room = token (at l (k.Sign PARENTHESIS_CLOSE) p) r _ _ room (λ us. refl) (token (at l (k.Sign SEMICOLON) q) r _ _ room (λ us. refl) (here (λ us fit. refl)))

pub takes_marker : {l : ℕ} {a : List Leveled} {mark : Marker} → IsMarker l a mark → (m r : ℕ)
    → r ≡ m - l → Takes m Any a (marker r) (λ us. Ok (mark, us))
takes_marker (s.numbered {l = l} {v = v} {kind = kind} {ty = ty} {mark = mark} p q n t u e) m r room =
    let first = at l kind p in
    at_token first (λ us. ap (λ which. marker_by which (is_next (word POST.now) (first.token ∷ us)) r (first.token ∷ us)) e)
    (last _ (token first r (numbered r) _ room (λ us. refl) (token (at l (k.Sign PARENTHESIS_OPEN) q) r _ _ room (λ us. refl)
    (bind _ (takes_number l m r v ty n room) free (takes_close v l m r t u room)))) (λ us fit. fit) (λ us fit. refl))
takes_marker (s.post {l = l} {v = v} {ty = ty} {n = n} p q c t u w x y h) m r room =
    token (at l (word POST.now) p) r (marker r) (λ first. post r first.1) room (λ us. refl)
    (token (at l (k.Sign PARENTHESIS_OPEN) q) r _ _ room (λ us. refl) (bind _ (takes_number l m r v ty c room) free
    (token (at l (k.Sign COMMA) t) r _ _ room (λ us. refl) (bind _ (takes_name l m r n u room) free
    (token (at l (k.Sign COMMA) w) r _ _ room (λ us. refl) (bind _ (takes_count h m r room) free (takes_close _ l m r x y room)))))))

-- expressions that may be left out
record Closes (kind : Kind) : Type 0 where
  itself : same kind kind ≡ true
  begins_none : begins kind ≡ false
  ends : 12 < binds kind

takes_optional : {l : ℕ} {a : List Leveled} {x : Option Expr} → IsOptional l a x → (m r : ℕ)
    → r ≡ m - l → (kind : Kind) (q : Place) → Closes kind
    → Takes m Any (a ++ at l kind q ∷ []) (optional kind r) (λ us. Ok (x, us))
takes_optional (s.none {l = l}) m r room kind q closes =
    let closed = at l kind q in
    token closed r _ _ room (λ us. ap (λ b. optional_by b kind r (closed.token ∷ us)) closes.itself) (here (λ us fit. refl))
takes_optional (s.some {l = l} {a = a} {x = x} h) m r room kind q closes =
    let closed = at l kind q in
    read_as (λ rest ts fit i. ap (λ b. optional_by b kind r ts) (unlike begins kind (kind_of ts) closes.begins_none (raised_kind m rest ts (raised_append (closed ∷ []) (raised_assign h)) i)))
    (before _ closed (takes_assign h m r room) (λ us. closes.ends)
    (token closed r _ (λ c. Ok (Some x, c.1)) room (λ us. ap (λ (b : Bool). (if b then take r (closed.token ∷ us) else refuse (closed.token ∷ us)) >>= λ c. Ok (Some x, c.1)) closes.itself) (here (λ us fit. refl))))

takes_beginning : {l : ℕ} {a : List Leveled} {x : PureFirst} → IsBeginning l a x → (m r : ℕ)
    → r ≡ m - l → (q : Place)
    → Takes m Any (a ++ at l (k.Sign SEMICOLON) q ∷ []) (beginning r) (λ us. Ok (x, us))
takes_beginning (s.nothing {l = l}) m r room q = token (at l (k.Sign SEMICOLON) q) r _ _ room (λ us. refl) (here (λ us fit. refl))
takes_beginning (s.vars {l = l} h) m r room q =
    let w = starts_append (at l (k.Sign SEMICOLON) q ∷ []) (vars_start h m) in
    read_as (λ rest ts fit i. let based = w.start rest ts i in ap₂ (λ b c. beginning_by b c r ts) (unlike is_base (k.Sign SEMICOLON) (kind_of ts) refl based) based)
    (last _ (takes_vars h m r room q) (λ us fit. fit) (λ us fit. refl))
takes_beginning (s.assign {l = l} h) m r room q =
    let ended = at l (k.Sign SEMICOLON) q in
    read_as (λ rest ts fit i.
    let begun = raised_kind m rest ts (raised_append (ended ∷ []) (raised_assign h)) i in
    ap₂ (λ b c. beginning_by b c r ts) (unlike begins (k.Sign SEMICOLON) (kind_of ts) refl begun) (no_base (kind_of ts) begun))
    (before _ ended (takes_assign h m r room) (λ us. omega arith) (token ended r _ _ room (λ us. refl) (here (λ us fit. refl))))

-- an expression in parentheses
takes_test : {l : ℕ} {a : List Leveled} {x : Expr} → IsAssign l a x → (m r : ℕ) → r ≡ m - l
    → (p q : Place)
    → Takes m Any (at l (k.Sign PARENTHESIS_OPEN) p ∷ (a ++ at l (k.Sign PARENTHESIS_CLOSE) q ∷ [])) (test r) (λ us. Ok (x, us))
takes_test {l = l} h m r room p q =
    let closed = at l (k.Sign PARENTHESIS_CLOSE) q in
    token (at l (k.Sign PARENTHESIS_OPEN) p) r _ _ room (λ us. refl) (before _ closed (takes_assign h m r room) (λ us. omega arith) (token closed r _ _ room (λ us. refl) (here (λ us fit. refl))))

-- how statements begin
marker_opens : (kind : Kind) (mark : ℕ → Marker) → marker_of kind ≡ Some mark
    → opening_of kind ≡ Some o.Marker
marker_opens kind mark e = found (λ kind mark. opening_of kind ≡ Some o.Marker) markers kind mark (refl, (refl, (refl, tt))) e

no_opening : (kind : Kind) → begins kind ≡ true → opening_of kind ≡ None
no_opening kind h = go (opening_of kind) refl
  where
    go : (which : Option Opening) → opening_of kind ≡ which → which ≡ None
    go None e = refl
    go (Some which) e =
        let none : begins kind ≡ false = found (λ kind which. begins kind ≡ false) openings kind which (refl, (refl, (refl, (refl, (refl, (refl, (refl, (refl, (refl, (refl, (refl, (refl, (refl, tt))))))))))))) e in
        let no : true ≡ false = sym h ∙ none in cc

opening_not_base : (kind : Kind) (which : Opening) → opening_of kind ≡ Some which
    → is_base kind ≡ false
opening_not_base kind which e =
    found (λ kind which. is_base kind ≡ false) openings kind which (refl, (refl, (refl, (refl, (refl, (refl, (refl, (refl, (refl, (refl, (refl, (refl, (refl, tt))))))))))))) e

statement_not_base : (kind : Kind) → begins_statement kind ≡ true → is_base kind ≡ false
statement_not_base kind h = go (opening_of kind) refl h
  where
    go : (which : Option Opening) → opening_of kind ≡ which
        → begins_statement_by which (begins kind) ≡ true → is_base kind ≡ false
    go (Some which) e h = opening_not_base kind which e
    go None e h = no_base kind h

begins_too : (kind : Kind) → begins kind ≡ true → begins_statement kind ≡ true
begins_too kind h = ap₂ begins_statement_by (no_opening kind h) h

opens_by : (kind : Kind) (which : Opening) → opening_of kind ≡ Some which
    → begins_statement kind ≡ true
opens_by kind which e = ap (λ o. begins_statement_by o (begins kind)) e

-- the first token of a statement
record First (l : ℕ) (a : List Leveled) : Type 0 where
  head : Leveled
  tail : List Leveled
  splits : a ≡ head ∷ tail
  above : suc l ≤ head.level
  starts : begins_statement head.token.kind ≡ true

first_marker : {l : ℕ} {a : List Leveled} {mark : Marker} → IsMarker (suc l) a mark → First l a
first_marker (s.numbered {kind = kind} {mark = mark} p q n t u e) = record { head = _; tail = _; splits = refl; above = omega arith; starts = opens_by kind o.Marker (marker_opens kind mark e) }
first_marker (s.post p q c t u w x y h) = record { head = _; tail = _; splits = refl; above = omega arith; starts = refl }

first_block : {l : ℕ} {a : List Leveled} {ss : List Stmt} → IsBlock (suc l) a ss → First l a
first_block (s.braces p q h) = record { head = _; tail = _; splits = refl; above = omega arith; starts = refl }

first_statement : {open_if : Bool} {l : ℕ} {a : List Leveled} {x : Stmt}
    → IsStatement open_if l a x → First l a
first_statement (s.block h) = first_block h
first_statement s.empty = record { head = _; tail = _; splits = refl; above = omega arith; starts = refl }
first_statement (s.expression {l = l} p h) =
    let w = raised_append (at (suc l) (k.Sign SEMICOLON) p ∷ []) (raised_assign h) in
    record { head = w.head; tail = w.tail; splits = w.splits; above = let above = w.above in omega arith; starts = begins_too w.head.token.kind w.starts }
first_statement (s.marker h) = first_marker h
first_statement (s.if q n h i) = record { head = _; tail = _; splits = refl; above = omega arith; starts = refl }
first_statement (s.if_else q n e h i j) = record { head = _; tail = _; splits = refl; above = omega arith; starts = refl }
first_statement (s.while q n h i) = record { head = _; tail = _; splits = refl; above = omega arith; starts = refl }
first_statement (s.do_while w q n e h i) = record { head = _; tail = _; splits = refl; above = omega arith; starts = refl }
first_statement (s.for q n t u h i j w) = record { head = _; tail = _; splits = refl; above = omega arith; starts = refl }
first_statement (s.return q h) = record { head = _; tail = _; splits = refl; above = omega arith; starts = refl }
first_statement (s.break q) = record { head = _; tail = _; splits = refl; above = omega arith; starts = refl }
first_statement (s.continue q) = record { head = _; tail = _; splits = refl; above = omega arith; starts = refl }

some_statement : {l : ℕ} {a : List Leveled} → First l a → 0 < length a
some_statement h = subst (λ c. 0 < length c) (sym h.splits) (omega arith)

statement_starts : {l : ℕ} {a : List Leveled} (m : ℕ) → First l a
    → Starts m a (λ us. begins_statement (kind_of us) ≡ true)
statement_starts m h = subst (λ c. Starts m c (λ us. begins_statement (kind_of us) ≡ true)) (sym h.splits) (starts_token h.head (λ us. h.starts))

statement_stops : (f : ℕ) (ts : List Token) → statement f zero ts ≡ Err (fault_at_statement ts)
unfolding statement
statement_stops zero ts = refl
statement_stops (suc f) ts = refl

statement_opens : (f r : ℕ) (ts : List Token) → 0 < f → 0 < r
    → statement f r ts ≡ opened (statement (f - 1)) (r - 1) ts
unfolding statement
statement_opens zero r ts a b = absurd (omega arith)
statement_opens (suc f) zero ts a b = absurd (omega arith)
statement_opens (suc f) (suc r) ts a b = rw (sub-one, sub-one) refl

no_room : {X : Type 0} (m l : ℕ) (a : List Leveled) (rest ts : List Token) (o : Outcome X)
    → First l a → Follows m a rest ts → m ≤ l → Err (fault_at_statement ts) ≡ through m a o
no_room {X = X} m l a rest ts o h i none =
    let w = first_is m h.head h.tail rest ts (subst (λ c. Follows m c rest ts) h.splits i) in
    let above = h.above in
    let zero_room : 0 ≡ m - h.head.level = omega arith in
    let at_start : ◌≡◌ {A = Outcome X} (Err (fault_at_statement ts)) (Err (TooDeep h.head.token.place)) =
    ap (λ us. Err (fault_at_statement us)) w.1 ∙ ap (λ (b : Bool). Err (if b then TooDeep h.head.token.place else Unexpected h.head.token.place)) h.starts in
    at_start ∙ ap (λ r. allowed r h.head.token.place (through m h.tail o)) zero_room ∙ ap (λ c. through m c o) (sym h.splits)

-- a statement that has room is open
enter : {l m : ℕ} {a : List Leveled} {D : List Token → Type 0} {o : List Token → Outcome Stmt}
    (f r : ℕ) → First l a → r ≡ m - l → r ≤ f → Takes m D a (opened (statement (f - 1)) (r - 1)) o
    → Takes m D a (statement f r) o
enter {l = l} {m = m} {a = a} {o = o} f zero h room deep i = record { goes = λ rest ts fit w. statement_stops f ts ∙ no_room m l a rest ts (o rest) h w (omega arith) }
enter f (suc r) h room deep i = record { goes = λ rest ts fit w. statement_opens f (suc r) ts (omega arith) (omega arith) ∙ i.goes rest ts fit w }

marker_starts : {l : ℕ} {a : List Leveled} {mark : Marker} (m : ℕ) → IsMarker l a mark
    → Starts m a (λ us. opening_of (kind_of us) ≡ Some o.Marker)
marker_starts m (s.numbered {l = l} {kind = kind} {mark = mark} p q n t u e) = starts_token (at l kind p) (λ us. marker_opens kind mark e)
marker_starts m (s.post {l = l} p q c t u w x y h) = starts_token (at l (word POST.now) p) (λ us. refl)

-- parts of a block
part_is : (f r : ℕ) (found : List Stmt) (ts : List Token) → begins_statement (kind_of ts) ≡ true
    → body_turn (statement f) r found ts
    ≡ (statement f r ts >>= λ s. Ok (inl (found ++ s.0 ∷ []), s.1))
part_is f r found ts h =
    ap (λ b. body_turn_by (statement f) b r found ts) (unlike begins_statement (k.Sign BRACE_CLOSE) (kind_of ts) refl h)
    ∙ ap (λ b. part_by (statement f) b r ts >>= λ s. Ok (inl (found ++ s.0 ∷ []), s.1)) (statement_not_base (kind_of ts) h)

declaration_is : (f r : ℕ) (found : List Stmt) (ts : List Token) → is_base (kind_of ts) ≡ true
    → body_turn (statement f) r found ts
    ≡ (declaration_at (place_of ts) r ts >>= λ s. Ok (inl (found ++ s.0 ∷ []), s.1))
declaration_is f r found ts h =
    ap (λ b. body_turn_by (statement f) b r found ts) (unlike is_base (k.Sign BRACE_CLOSE) (kind_of ts) refl h)
    ∙ ap (λ b. part_by (statement f) b r ts >>= λ s. Ok (inl (found ++ s.0 ∷ []), s.1)) h

false_not_true : false ≡ true → ⊥
false_not_true e = cc

-- where no `else` goes on
abbrev pub NoElse : Bool → List Token → Type 0
NoElse open_if us = open_if ≡ true → is_next (word ELSE.now) us ≡ false

not_else : (kind : Kind) → begins_statement kind ≡ true → same kind (word ELSE.now) ≡ false
not_else kind h = unlike begins_statement (word ELSE.now) kind refl h

body_starts : {l : ℕ} {a : List Leveled} {ss : List Stmt} → IsBody l a ss → (m : ℕ) (q : Place)
    → Starts m (a ++ at l (k.Sign BRACE_CLOSE) q ∷ [])
    (λ us. is_next (word ELSE.now) us ≡ false)
body_starts (s.none {l = l}) m q = starts_token (at l (k.Sign BRACE_CLOSE) q) (λ us. refl)
body_starts (s.stmt {l = l} {a = a} {b = b} h i) m q =
    let w = statement_starts m (first_statement h) in
    starts_append (at l (k.Sign BRACE_CLOSE) q ∷ []) (starts_append b (record { start = λ us ts i. not_else (kind_of ts) (w.start us ts i) }))
body_starts (s.vars {l = l} {first = first} {a = a} {b = b} p h i) m q =
    let ended = at l (k.Sign SEMICOLON) p in
    let w = starts_append (ended ∷ b) (vars_start h m) in
    starts_append {a = first ∷ (a ++ ended ∷ b)} (at l (k.Sign BRACE_CLOSE) q ∷ []) (record { start = λ us ts i. unlike is_base (word ELSE.now) (kind_of ts) refl (w.start us ts i) })

semicolon : Closes (k.Sign SEMICOLON)
semicolon = record { itself = refl; begins_none = refl; ends = omega arith }

parenthesis : Closes (k.Sign PARENTHESIS_CLOSE)
parenthesis = record { itself = refl; begins_none = refl; ends = omega arith }

mutual
  unfolding opened

  pub takes_statement : {open_if : Bool} {l : ℕ} {a : List Leveled} {x : Stmt}
      → IsStatement open_if l a x → (m f r : ℕ) → r ≡ m - l → r ≤ f
      → Takes m (NoElse open_if) a (statement f r) (λ us. Ok (x, us))
  takes_statement (s.block {l = l} (s.braces p q h)) m f r room deep =
      enter f r (first_statement (s.block (s.braces p q h))) room deep
      (token (at (suc l) (k.Sign BRACE_OPEN) p) (r - 1) (opened (statement (f - 1)) (r - 1)) _ (omega arith) (λ us. refl)
      (last _ (looped _ (takes_body h m (f - 1) (r - 1) (omega arith) (omega arith) q [])) (λ us no. tt) (λ us no. refl)))
  takes_statement (s.empty {l = l} {p = p}) m f r room deep =
      enter f r (first_statement (s.empty {p = p})) room deep
      (token (at (suc l) (k.Sign SEMICOLON) p) (r - 1) (opened (statement (f - 1)) (r - 1)) _ (omega arith) (λ us. refl) (here (λ us no. refl)))
  takes_statement (s.expression {l = l} {first = first} {a = a} {x = x} p h) m f r room deep =
      let ended = at (suc l) (k.Sign SEMICOLON) p in
      enter f r (first_statement (s.expression p h)) room deep
      (read_as (λ rest ts no i. ap (λ which. opened_by (statement (f - 1)) which (r - 1) ts) (no_opening (kind_of ts) (raised_kind m rest ts (raised_append (ended ∷ []) (raised_assign h)) i)))
      (placed first (λ place. expression_at place (r - 1)) (before _ ended (takes_assign h m (r - 1) (omega arith)) (λ us. omega arith) (token ended (r - 1) _ _ (omega arith) (λ us. refl) (here (λ us no. refl))))))
  takes_statement (s.marker {l = l} {first = first} {a = a} {mark = mark} h) m f r room deep =
      let w = marker_starts m h in
      enter f r (first_statement (s.marker h)) room deep
      (read_as (λ rest ts no i. ap (λ which. opened_by (statement (f - 1)) which (r - 1) ts) (w.start rest ts i))
      (placed first (λ place. marker_at place (r - 1)) (last _ (takes_marker h m (r - 1) (omega arith)) (λ us no. tt) (λ us no. refl))))
  takes_statement (s.if {l = l} {p = p} {a = a} {x = x} {s = y} q n h i) m f r room deep =
      let opening = at (suc l) (k.Sign PARENTHESIS_OPEN) q in
      enter f r (first_statement (s.if {p = p} q n h i)) room deep
      (token (at (suc l) (word IF.now) p) (r - 1) (opened (statement (f - 1)) (r - 1)) _ (omega arith) (λ us. refl)
      (past _ (opening ∷ a) (at (suc l) (k.Sign PARENTHESIS_CLOSE) n) (takes_test h m (r - 1) (omega arith) q n)
      (last _ (takes_statement i m (f - 1) (r - 1) (omega arith) (omega arith)) (λ us no yes. no refl) (λ us no. ap (λ b. else_part_by (statement (f - 1)) b x y p (r - 1) us) (no refl)))))
  takes_statement (s.if_else {l = l} {p = p} {a = a} {x = x} {s = y} q n e h i j) m f r room deep =
      let opening = at (suc l) (k.Sign PARENTHESIS_OPEN) q in
      let other = at (suc l) (word ELSE.now) e in
      enter f r (first_statement (s.if_else {p = p} q n e h i j)) room deep
      (token (at (suc l) (word IF.now) p) (r - 1) (opened (statement (f - 1)) (r - 1)) _ (omega arith) (λ us. refl)
      (past _ (opening ∷ a) (at (suc l) (k.Sign PARENTHESIS_CLOSE) n) (takes_test h m (r - 1) (omega arith) q n)
      (before _ other (takes_statement i m (f - 1) (r - 1) (omega arith) (omega arith)) (λ us yes. absurd (false_not_true yes))
      (token other (r - 1) (else_part (statement (f - 1)) x y p (r - 1)) _ (omega arith) (λ us. refl)
      (last _ (takes_statement j m (f - 1) (r - 1) (omega arith) (omega arith)) (λ us no. no) (λ us no. refl))))))
  takes_statement (s.while {l = l} {p = p} {a = a} {x = x} {s = y} q n h i) m f r room deep =
      let opening = at (suc l) (k.Sign PARENTHESIS_OPEN) q in
      enter f r (first_statement (s.while {p = p} q n h i)) room deep
      (token (at (suc l) (word WHILE.now) p) (r - 1) (opened (statement (f - 1)) (r - 1)) _ (omega arith) (λ us. refl)
      (past _ (opening ∷ a) (at (suc l) (k.Sign PARENTHESIS_CLOSE) n) (takes_test h m (r - 1) (omega arith) q n)
      (last _ (takes_statement i m (f - 1) (r - 1) (omega arith) (omega arith)) (λ us no. no) (λ us no. refl))))
  takes_statement (s.do_while {l = l} {p = p} {a = a} {b = b} w q n e h i) m f r room deep =
      let again = at (suc l) (word WHILE.now) w in
      let opening = at (suc l) (k.Sign PARENTHESIS_OPEN) q in
      let ended = at (suc l) (k.Sign SEMICOLON) e in
      enter f r (first_statement (s.do_while {p = p} w q n e h i)) room deep
      (token (at (suc l) (word DO.now) p) (r - 1) (opened (statement (f - 1)) (r - 1)) _ (omega arith) (λ us. refl)
      (before _ again (takes_statement h m (f - 1) (r - 1) (omega arith) (omega arith)) (λ us yes. refl)
      (token again (r - 1) _ _ (omega arith) (λ us. refl)
      (past _ (opening ∷ b) (at (suc l) (k.Sign PARENTHESIS_CLOSE) n) (takes_test i m (r - 1) (omega arith) q n) (token ended (r - 1) _ _ (omega arith) (λ us. refl) (here (λ us no. refl)))))))
  takes_statement (s.for {l = l} {p = p} {a = a} {b = b} {c = c} q n t u h i j w) m f r room deep =
      let opening = at (suc l) (k.Sign PARENTHESIS_OPEN) q in
      enter f r (first_statement (s.for {p = p} q n t u h i j w)) room deep
      (token (at (suc l) (word FOR.now) p) (r - 1) (opened (statement (f - 1)) (r - 1)) _ (omega arith) (λ us. refl)
      (token opening (r - 1) _ _ (omega arith) (λ us. refl)
      (past _ a (at (suc l) (k.Sign SEMICOLON) n) (takes_beginning h m (r - 1) (omega arith) n)
      (past _ b (at (suc l) (k.Sign SEMICOLON) t) (takes_optional i m (r - 1) (omega arith) (k.Sign SEMICOLON) t semicolon)
      (past _ c (at (suc l) (k.Sign PARENTHESIS_CLOSE) u) (takes_optional j m (r - 1) (omega arith) (k.Sign PARENTHESIS_CLOSE) u parenthesis)
      (last _ (takes_statement w m (f - 1) (r - 1) (omega arith) (omega arith)) (λ us no. no) (λ us no. refl)))))))
  takes_statement (s.return {l = l} {p = p} q h) m f r room deep =
      enter f r (first_statement (s.return {p = p} q h)) room deep
      (token (at (suc l) (word RETURN.now) p) (r - 1) (opened (statement (f - 1)) (r - 1)) _ (omega arith) (λ us. refl)
      (last _ (takes_optional h m (r - 1) (omega arith) (k.Sign SEMICOLON) q semicolon) (λ us no. tt) (λ us no. refl)))
  takes_statement (s.break {l = l} {p = p} q) m f r room deep =
      enter f r (first_statement (s.break {p = p} q)) room deep
      (token (at (suc l) (word BREAK.now) p) (r - 1) (opened (statement (f - 1)) (r - 1)) _ (omega arith) (λ us. refl)
      (token (at (suc l) (k.Sign SEMICOLON) q) (r - 1) _ _ (omega arith) (λ us. refl) (here (λ us no. refl))))
  takes_statement (s.continue {l = l} {p = p} q) m f r room deep =
      enter f r (first_statement (s.continue {p = p} q)) room deep
      (token (at (suc l) (word CONTINUE.now) p) (r - 1) (opened (statement (f - 1)) (r - 1)) _ (omega arith) (λ us. refl)
      (token (at (suc l) (k.Sign SEMICOLON) q) (r - 1) _ _ (omega arith) (λ us. refl) (here (λ us no. refl))))

  pub takes_body : {l : ℕ} {a : List Leveled} {ss : List Stmt} → IsBody l a ss → (m f r : ℕ)
      → r ≡ m - l → r ≤ f → (q : Place) (found : List Stmt)
      → TakesTurns m Any (a ++ at l (k.Sign BRACE_CLOSE) q ∷ []) (λ n. turns (body_turn (statement f) r) n found) (λ us. Ok (found ++ ss, us))
  takes_body (s.none {l = l}) m f r room deep q found =
      regather (sym (append-nil found)) (turn_last (body_turn (statement f) r) found (omega arith) (token (at l (k.Sign BRACE_CLOSE) q) r _ _ room (λ us. refl) (here (λ us fit. refl))))
  takes_body (s.stmt {open_if = open_if} {l = l} {a = a} {b = b} {s = x} {ss = ss} h i) m f r room deep q found =
      let closed = at l (k.Sign BRACE_CLOSE) q in
      let first = first_statement h in
      let w = statement_starts m first in
      let v = body_starts i m q in
      regroup_turns (sym (append_assoc a b (closed ∷ []))) (regather (append_assoc found (x ∷ []) ss)
      (turn_more {C = NoElse open_if} {next = found ++ x ∷ []} (body_turn (statement f) r) found (some_statement first)
      (read_as (λ rest ts no i. part_is f r found ts (w.start rest ts i)) (last _ (takes_statement h m f r room deep) (λ us no. no) (λ us no. refl)))
      (record { fit = λ us ts fit i yes. v.start us ts i }) (takes_body i m f r room deep q (found ++ x ∷ []))))
  takes_body (s.vars {l = l} {first = first} {a = a} {b = b} {ds = ds} {ss = ss} p h i) m f r room deep q found =
      let closed = at l (k.Sign BRACE_CLOSE) q in
      let ended = at l (k.Sign SEMICOLON) p in
      let x = stmt.Vars ds first.token.place in
      let w = starts_append (ended ∷ []) (vars_start h m) in
      regroup_turns (append_assoc (first ∷ a) (ended ∷ []) (b ++ closed ∷ []) ∙ sym (append_assoc (first ∷ a) (ended ∷ b) (closed ∷ []))) (regather (append_assoc found (x ∷ []) ss)
      (turn_more {C = Any} {next = found ++ x ∷ []} (body_turn (statement f) r) found (omega arith)
      (read_as (λ rest ts fit i. declaration_is f r found ts (w.start rest ts i))
      (placed first (λ place ts. declaration_at place r ts >>= λ s. Ok (inl (found ++ s.0 ∷ []), s.1)) (last _ (last _ (takes_vars h m r room p) (λ us fit. fit) (λ us fit. refl)) (λ us fit. tt) (λ us fit. refl))))
      free (takes_body i m f r room deep q (found ++ x ∷ []))))
