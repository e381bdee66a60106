-- The first edges of lists.
use Rattle.std.proofs.Common.{◌≡◌, ℕ, ◌==◌, Bool, true, false, not, ◌&&◌, ◌||◌, List, [], ◌∷◌, ◌++◌, Option, Some, None, is_some, if◌then◌else◌, length, get_or, take, ◌<◌, ◌+◌, refl, ap, sym, subst, ◌∙◌}
use Rattle.std.proofs.lemmas.List.{take_more}
use Rattle.std.specs.BTreeMap.{BTreeMap, get}
use Rattle.std.specs.Ordering.{nat_cmp}
use Rattle.c_tree.specs.declared.edge.Edge.{Edge}
use Rattle.c_tree.specs.Regions.{alike, is_edge, first_edge, is_right_before, is_right}
use Rattle.c_tree.specs.Scope.{otherwise}
use Rattle.c_check.specs.private.Firsts.{HasFirsts}
use Rattle.c_check.specs.declared.region.Firsts.{Firsts}

or_else : (t : Bool) (e : Edge) (x y : Option Edge)
    → (if t then Some e else otherwise x y) ≡ otherwise (if t then Some e else x) y
or_else true e x y = refl
or_else false e x y = refl

pub first-append : (begins : Bool) (k : ℕ) (xs ys : List Edge)
    → first_edge begins k (xs ++ ys) ≡ otherwise (first_edge begins k xs) (first_edge begins k ys)
first-append begins k [] ys = refl
first-append begins k (x ∷ xs) ys =
    ap (λ o. if is_edge begins k x then Some x else o) (first-append begins k xs ys) ∙ or_else (is_edge begins k x) x (first_edge begins k xs) (first_edge begins k ys)

-- an edge is none of the other kind
other_kind : (b : Bool) → alike b (not b) ≡ false
other_kind true = refl
other_kind false = refl

first_alone : (t : Bool) (e : Edge) (x : Option Edge) → t ≡ false → (if t then Some e else x) ≡ x
first_alone true e x h = cc
first_alone false e x h = refl

none_first : (x y : Option Edge) → is_some x ≡ false → otherwise x y ≡ y
none_first None y h = refl
none_first (Some e) y h = cc

not_edge : (e : Edge) → is_edge (not e.begins) e.number e ≡ false
not_edge e = ap (λ b. b && (e.number == e.number)) (other_kind e.begins)

-- the partner of an edge stands before it, or behind it
pub partner_behind : (e : Edge) (es rest : List Edge)
    → is_some (first_edge (not e.begins) e.number es) ≡ false
    → first_edge (not e.begins) e.number (es ++ e ∷ rest) ≡ first_edge (not e.begins) e.number rest
partner_behind e es rest h =
    first-append (not e.begins) e.number es (e ∷ rest)
    ∙ none_first (first_edge (not e.begins) e.number es) (first_edge (not e.begins) e.number (e ∷ rest)) h
    ∙ first_alone (is_edge (not e.begins) e.number e) e (first_edge (not e.begins) e.number rest) (not_edge e)

none_more : (x : Option Edge) → otherwise x None ≡ x
none_more None = refl
none_more (Some e) = refl

-- the maps with one edge more
pub more_begins : (old : Firsts) (begins : BTreeMap ℕ Edge) (e : Edge) (es : List Edge)
    → e.begins ≡ true
    → ((k : ℕ) → get nat_cmp begins k ≡ otherwise (get nat_cmp old.begins k) (if e.number == k then Some e else None))
    → HasFirsts old es → HasFirsts (record { begins = begins; ends = old.ends }) (es ++ e ∷ [])
more_begins old begins e es b h f true k =
    h k
    ∙ ap (λ o. otherwise o (if e.number == k then Some e else None)) (f true k)
    ∙ ap (λ t. otherwise (first_edge true k es) (if alike t true && (e.number == k) then Some e else None)) (sym b)
    ∙ sym (first-append true k es (e ∷ []))
more_begins old begins e es b h f false k =
    f false k
    ∙ sym (none_more (first_edge false k es))
    ∙ ap (λ t. otherwise (first_edge false k es) (if alike t false && (e.number == k) then Some e else None)) (sym b)
    ∙ sym (first-append false k es (e ∷ []))

pub more_ends : (old : Firsts) (ends : BTreeMap ℕ Edge) (e : Edge) (es : List Edge)
    → e.begins ≡ false
    → ((k : ℕ) → get nat_cmp ends k ≡ otherwise (get nat_cmp old.ends k) (if e.number == k then Some e else None))
    → HasFirsts old es → HasFirsts (record { begins = old.begins; ends = ends }) (es ++ e ∷ [])
more_ends old ends e es b h f false k =
    h k
    ∙ ap (λ o. otherwise o (if e.number == k then Some e else None)) (f false k)
    ∙ ap (λ t. otherwise (first_edge false k es) (if alike t false && (e.number == k) then Some e else None)) (sym b)
    ∙ sym (first-append false k es (e ∷ []))
more_ends old ends e es b h f true k =
    f true k
    ∙ sym (none_more (first_edge true k es))
    ∙ ap (λ t. otherwise (first_edge true k es) (if alike t true && (e.number == k) then Some e else None)) (sym b)
    ∙ sym (first-append true k es (e ∷ []))

when : (a b c : Bool) → a ≡ false → b ≡ false → not a && (b || c) ≡ c
when false false c h k = refl
when true b c h k = cc
when false true c h k = cc

-- an edge with none of its number before it
pub right_when : (e : Edge) (es rest : List Edge)
    → is_some (first_edge e.begins e.number es) ≡ false
    → is_some (first_edge (not e.begins) e.number es) ≡ false
    → is_right es e rest ≡ is_right_before e (first_edge (not e.begins) e.number (es ++ e ∷ rest))
right_when e es rest h k =
    when (is_some (first_edge e.begins e.number es)) (is_some (first_edge (not e.begins) e.number es)) (is_right_before e (first_edge (not e.begins) e.number rest)) h k
    ∙ ap (is_right_before e) (sym (partner_behind e es rest k))

-- an edge more of a list
pub one_more : (firsts : Firsts) (xs : List Edge) (i : ℕ) (d : Edge) → i < length xs
    → HasFirsts firsts (take i xs ++ get_or xs i d ∷ []) → HasFirsts firsts (take (i + 1) xs)
one_more firsts xs i d h f = subst (HasFirsts firsts) (sym (take_more xs i d h)) f
