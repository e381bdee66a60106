-- The law of markers.
use Rattle.std.proofs.Common.{◌≡◌, ◌<◌, ◌≤◌, ◌-◌, ℕ, List, [], ◌∷◌, ◌++◌, length, Option, Some, None, Ok, refl, sym, ap, ap₂, ◌∙◌, arith, Bool, true, false}
use Rattle.c_token.specs.declared.token.Token.{Token}
use Rattle.c_token.specs.declared.token.Kind.{Kind}
use Rattle.c_token.specs.declared.token.Kind.TheVariants as k
use Rattle.c_tree.specs.declared.place.Place.{Place}
use Rattle.c_tree.specs.declared.ctype.CType.TheVariants as c
use Rattle.c_tree.specs.declared.tree.Count.{Count}
use Rattle.c_tree.specs.declared.tree.Count.TheVariants as count
use Rattle.c_tree.specs.declared.tree.Marker.{Marker}
use Rattle.c_tree.specs.declared.tree.Marker.TheVariants as markers
use Rattle.c_expr.specs.Leveled.{Leveled, at}
use Rattle.c_expr.specs.Spelled.{same}
use Rattle.c_expr.specs.Next.{◌>>=◌, kind_of, nowhere, expect}
use Rattle.c_expr.proofs.Law.{Lawful, Some_of, bind_law, weaken, pure_law, ended, refuse_law, take_law, look_law, plain}
use Rattle.c_expr.proofs.ExpressionFronts.{expect_law}
use Rattle.c_expr.proofs.KindWords.{same_is, some_not_end}
use Rattle.c_decl.specs.GrammarWords.{word, marker_of}
use Rattle.c_decl.specs.StatementGrammar as g
use Rattle.c_decl.specs.StatementGrammar.{IsCount, IsMarker}
use Rattle.c_decl.specs.private.StatementReading.{number_by, number as number_reader, count_by, count_of, close, numbered as numbered_reader, post, marker_by, marker}
use Rattle.c_decl.proofs.SoundParts.{Sound}
use Rattle.c_decl.proofs.SoundDeclarators.{IsName, name, name_law}
use Rattle.c_expr.specs.declared.punctuator.TheConstants.{PARENTHESIS_OPEN, PARENTHESIS_CLOSE, COMMA, SEMICOLON}
use Rattle.c_decl.specs.declared.reserved.TheConstants.{WAIT, POST}

data IsNumber (l : ℕ) : List Leveled → ℕ → Type 0 where
  number : {v : ℕ} (ty : _) (p : Place) → IsNumber l (at l (k.Number ty v) p ∷ []) v

number_by_law : (I : Type 0) (m l r : ℕ) (r' : I → ℕ) (kind : Kind) (ts : List Token) → r ≡ m - l
    → ((i : I) → r ≤ r' i) → kind_of ts ≡ kind
    → Lawful m (plain (IsNumber l)) (λ i. number_reader (r' i)) ts (number_by kind r ts)
number_by_law I m l r r' (k.Number ty v) ts room wide is = take_law (λ i. number_reader (r' i)) _ _ m l r r' (k.Number ty v) ts room wide is (λ e. cc) (λ i p b. refl) (λ p rest. pure_law v rest (number ty p))
number_by_law I m l r r' kind ts room wide is = refuse_law (λ i c b. number_by c (r' i) b) kind ts is (record { spelling = _; value = _; holds = number {v = 0} c.Int nowhere }) (λ i b. refl) (λ i. refl)

number_law : (I : Type 0) (m : ℕ) → Sound I m (λ l. plain (IsNumber l)) number_reader
number_law I m l r r' ts room wide = number_by_law I m l r r' (kind_of ts) ts room wide refl

-- how many bytes a post sends
named_count : (l : ℕ) (a : List Leveled) (n : List ℕ × Place) → IsName l a n
    → IsCount l a (count.Name n.0 n.1)
named_count l _ _ (name p) = g.name p

count_by_law : (I : Type 0) (m l r : ℕ) (r' : I → ℕ) (kind : Kind) (ts : List Token) → r ≡ m - l
    → ((i : I) → r ≤ r' i) → kind_of ts ≡ kind
    → Lawful m (plain (IsCount l)) (λ i. count_of (r' i)) ts (count_by kind r ts)
count_by_law I m l r r' (k.Number ty v) ts room wide is = take_law (λ i. count_of (r' i)) _ _ m l r r' (k.Number ty v) ts room wide is (λ e. cc) (λ i p b. refl) (λ p rest. pure_law (count.Number v) rest (g.number p))
count_by_law I m l r r' kind ts room wide is = look_law (plain (IsCount l)) (λ i c b. count_by c (r' i) b) kind ts _ is
    (bind_law _ _ (name_law I m l r r' ts room wide) (λ n us a h cut. pure_law (count.Name n.0 n.1) us (ended (IsCount l) (named_count l a n h)))) (λ i. refl)

count_law : (I : Type 0) (m : ℕ) → Sound I m (λ l. plain (IsCount l)) count_of
count_law I m l r r' ts room wide = count_by_law I m l r r' (kind_of ts) ts room wide refl

-- the closing parenthesis and the semicolon
close_law : {X I : Type 0} (m : ℕ) (S : List Leveled → X → List Token → Type 0) (x : X) (l r : ℕ)
    (r' : I → ℕ) (ts : List Token) → r ≡ m - l → ((i : I) → r ≤ r' i)
    → ((s t : Place) (us : List Token) → S (at l (k.Sign PARENTHESIS_CLOSE) s ∷ (at l (k.Sign SEMICOLON) t ∷ [])) x us) → Lawful m S (λ i. close x (r' i)) ts (close x r ts)
close_law m S x l r r' ts room wide holds =
    expect_law (λ i c. expect (k.Sign SEMICOLON) (r' i) c.1 >>= λ e. Ok (x, e.1)) (λ c. expect (k.Sign SEMICOLON) r c.1 >>= λ e. Ok (x, e.1)) m l r r' (k.Sign PARENTHESIS_CLOSE) ts room wide (refl, refl) (λ s rest.
    expect_law (λ i e. Ok (x, e.1)) (λ e. Ok (x, e.1)) m l r r' (k.Sign SEMICOLON) rest room wide (refl, refl) (λ t us. pure_law x us (holds s t us)))

-- a marker that has a number alone
data IsNumbered (l : ℕ) (kind : Kind) : List Leveled → ℕ → Type 0 where
  numbered : {a : List Leveled} {v : ℕ} (p q s t : Place) → IsNumber l a v
      → IsNumbered l kind (at l kind p
      ∷ (at l (k.Sign PARENTHESIS_OPEN) q
      ∷ (a ++ at l (k.Sign PARENTHESIS_CLOSE) s ∷ (at l (k.Sign SEMICOLON) t ∷ [])))) v

numbered_law : (I : Type 0) (m l r : ℕ) (r' : I → ℕ) (kind : Kind) (ts : List Token) → r ≡ m - l
    → ((i : I) → r ≤ r' i) → kind_of ts ≡ kind → (kind ≡ k.End → ⊥)
    → Lawful m (plain (IsNumbered l kind)) (λ i. numbered_reader (r' i)) ts (numbered_reader r ts)
numbered_law I m l r r' kind ts room wide is some = take_law (λ i. numbered_reader (r' i)) _ _ m l r r' kind ts room wide is some (λ i p b. refl) (λ p rest.
    expect_law _ _ m l r r' (k.Sign PARENTHESIS_OPEN) rest room wide (refl, refl) (λ q us.
    bind_law (λ i n. close n.0 (r' i) n.1) (λ n. close n.0 r n.1) (number_law I m l r r' us room wide) (λ v vs a h cut.
    close_law m (λ b y us. IsNumbered l kind (at l kind p ∷ (at l (k.Sign PARENTHESIS_OPEN) q ∷ (a ++ b))) y) v l r r' vs room wide (λ s t ws. numbered p q s t h))))

numbered_marker : (l : ℕ) (kind : Kind) (mark : ℕ → Marker) (a : List Leveled) (v : ℕ)
    → marker_of kind ≡ Some mark → IsNumbered l kind a v → IsMarker l a (mark v)
numbered_marker l kind mark _ v e (numbered p q s t (number ty r)) = g.numbered p q r s t e

posted : (l : ℕ) (p q s u x y : Place) (a b c : List Leveled) (v : ℕ) (n : List ℕ × Place)
    (size : Count) → IsNumber l a v → IsName l b n → IsCount l c size
    → IsMarker l (at l (word POST.now) p ∷ (at l (k.Sign PARENTHESIS_OPEN) q ∷ (a ++ at l (k.Sign COMMA) s ∷ (b ++ at l (k.Sign COMMA) u ∷ (c ++ at l (k.Sign PARENTHESIS_CLOSE) x ∷ (at l (k.Sign SEMICOLON) y ∷ []))))))
    (markers.Post v n.0 n.1 size)
posted l p q s u x y _ _ c v _ size (number ty r) (name t) h = g.post p q r s t u x y h

post_law : (I : Type 0) (m : ℕ) (p : Place)
    → Sound I m (λ l b y us. IsMarker l (at l (word POST.now) p ∷ b) y) post
post_law I m p l r r' ts room wide =
    expect_law _ _ m l r r' (k.Sign PARENTHESIS_OPEN) ts room wide (refl, refl) (λ q us.
    bind_law _ _ (number_law I m l r r' us room wide) (λ v vs a h cut.
    expect_law _ _ m l r r' (k.Sign COMMA) vs room wide (refl, refl) (λ s ws.
    bind_law _ _ (name_law I m l r r' ws room wide) (λ n xs b i cut.
    expect_law _ _ m l r r' (k.Sign COMMA) xs room wide (refl, refl) (λ u ys.
    bind_law (λ i c. close (markers.Post v n.0 n.1 c.0) (r' i) c.1) (λ c. close (markers.Post v n.0 n.1 c.0) r c.1) (count_law I m l r r' ys room wide) (λ size zs c j cut.
    close_law m (λ d y us. IsMarker l (at l (word POST.now) p ∷ (at l (k.Sign PARENTHESIS_OPEN) q ∷ (a ++ at l (k.Sign COMMA) s ∷ (b ++ at l (k.Sign COMMA) u ∷ (c ++ d))))) y) (markers.Post v n.0 n.1 size) l r r' zs room wide (λ x y us.
    posted l p q s u x y a b c v n size h i j)))))))

marker_by_law : (I : Type 0) (m l r : ℕ) (r' : I → ℕ) (kind : Kind) (mark : Option (ℕ → Marker))
    (is_post : Bool) (ts : List Token) → r ≡ m - l → ((i : I) → r ≤ r' i) → kind_of ts ≡ kind
    → marker_of kind ≡ mark → same kind (word POST.now) ≡ is_post
    → Lawful m (plain (IsMarker l)) (λ i. marker (r' i)) ts (marker_by mark is_post r ts)
marker_by_law I m l r r' kind (Some mark) is_post ts room wide is e h =
    look_law (plain (IsMarker l)) (λ i c b. marker_by (marker_of c) (same c (word POST.now)) (r' i) b) kind ts _ is
    (weaken (plain (IsMarker l)) (λ i b. marker_by (marker_of kind) (same kind (word POST.now)) (r' i) b) (λ b y us h. h) (λ i b. sym (ap (λ o. marker_by o (same kind (word POST.now)) (r' i) b) e))
    (bind_law (λ i n. Ok (mark n.0, n.1)) (λ n. Ok (mark n.0, n.1)) (numbered_law I m l r r' kind ts room wide is (some_not_end marker_of mark kind refl e)) (λ v us a j cut.
    pure_law (mark v) us (ended (IsMarker l) (numbered_marker l kind mark a v e j)))))
    (λ i. sym (ap (λ o. marker_by o (same kind (word POST.now)) (r' i) []) e))
marker_by_law I m l r r' kind None true ts room wide is e h =
    take_law (λ i. marker (r' i)) (λ i u. post (r' i) u.1) (λ u. post r u.1) m l r r' (word POST.now) ts room wide (is ∙ same_is kind (word POST.now) h) (λ e. cc) (λ i p b. refl) (λ p rest. post_law I m p l r r' rest room wide)
marker_by_law I m l r r' kind None false ts room wide is e h =
    refuse_law (λ i c b. marker_by (marker_of c) (same c (word POST.now)) (r' i) b) kind ts is
    (record { spelling = _; value = _; holds = g.numbered {l = l} {v = 0} {kind = word WAIT.now} {ty = c.Int} nowhere nowhere nowhere nowhere nowhere refl })
    (λ i b. ap₂ (λ o c. marker_by o c (r' i) b) e h) (λ i. refl)

pub marker_law : (I : Type 0) (m : ℕ) → Sound I m (λ l. plain (IsMarker l)) marker
marker_law I m l r r' ts room wide = marker_by_law I m l r r' (kind_of ts) (marker_of (kind_of ts)) (same (kind_of ts) (word POST.now)) ts room wide refl refl refl

pub marker_some : {l : ℕ} {a : List Leveled} {x : Marker} → IsMarker l a x → 0 < length a
marker_some (g.numbered p q r s t e) = omega arith
marker_some (g.post p q r s t u x y h) = omega arith

-- a marker that begins with this word, from any place
pub begin_numbered : (l : ℕ) (p : Place) (kind : Kind) (mark : ℕ → Marker)
    → marker_of kind ≡ Some mark → Some_of (λ b y us. IsMarker l (at l kind p ∷ b) y)
begin_numbered l p kind mark e = record { spelling = _; value = _; holds = g.numbered {v = 0} {ty = c.Int} p nowhere nowhere nowhere nowhere e }

pub begin_post : (l : ℕ) (p : Place)
    → Some_of (λ b y us. IsMarker l (at l (word POST.now) p ∷ b) y)
begin_post l p = record { spelling = _; value = _; holds = g.post {v = 0} {ty = c.Int} {n = []} p nowhere nowhere nowhere nowhere nowhere nowhere nowhere (g.number {v = 0} {ty = c.Int} nowhere) }
