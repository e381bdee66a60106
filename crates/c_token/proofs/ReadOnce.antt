-- A text is read in one way.
use Rattle.std.proofs.Common.{List, [], ap, arith, length, length-append, refl, subst, sym, ℕ, ◌++◌, ◌∙◌, ◌≡◌}
use Rattle.c_token.specs.Bytes.{first}
use Rattle.c_token.specs.Comments.{opens_comment}
use Rattle.c_token.specs.Pieces.{Definitions, Found, IsPiece, more_definitions, more_tokens, nothing_defined}
use Rattle.c_token.specs.Spots.{beginning, past}
use Rattle.c_token.specs.Text.{IsReadTo}
use Rattle.c_token.specs.declared.spot.Spot.{Spot}
use Rattle.c_token.specs.declared.token.Token.{Token}
use Rattle.c_token.proofs.CommentEnds.{comment_opens}
use Rattle.c_token.proofs.Families.{family, some_bytes}
use Rattle.c_token.proofs.TokenLists.{false_true}
use Rattle.c_token.proofs.PieceOnce.{IsSame, directive_head, piece_once}
use Rattle.c_token.specs.Pieces.IsPiece.{separator, comment, directive, token}
use Rattle.c_token.specs.Text.IsReadTo.{start, piece}

pub record State : Type 0 where
  pub at : Spot
  pub rest : List ℕ
  pub ds : Definitions
  pub ts : List Token

abbrev state : Spot → List ℕ → Definitions → List Token → State
state at rest ds ts = record { at = at; rest = rest; ds = ds; ts = ts }

abbrev next : State → List ℕ → List ℕ → Found → State
next a bytes rest found = record { at = past a.at bytes; rest = rest; ds = more_definitions found a.ds; ts = more_tokens found a.at.place a.ts }

pub data Reaches : State → State → Type 0 where
  stop : {a b : State} → a ≡ b → Reaches a b
  go : {a b : State} (bytes rest : List ℕ) (found : Found) → a.rest ≡ bytes ++ rest
      → IsPiece a.at a.ds bytes rest found → Reaches (next a bytes rest found) b → Reaches a b

reach_more : (a b : State) → Reaches a b → (bytes rest : List ℕ) (found : Found)
    → b.rest ≡ bytes ++ rest → IsPiece b.at b.ds bytes rest found
    → Reaches a (next b bytes rest found)
reach_more a b (stop e) bytes rest found splits is =
    go bytes rest found (ap (λ s. s.rest) e ∙ splits) (subst (λ s. IsPiece s.at s.ds bytes rest found) (sym e) is) (stop (ap (λ s. next s bytes rest found) e))
reach_more a b (go u v f x y z) bytes rest found splits is = go u v f x y (reach_more (next a u v f) b z bytes rest found splits is)

pub reached : (text : List ℕ) (at : Spot) (rest : List ℕ) (ds : Definitions) (ts : List Token)
    → IsReadTo text at rest ds ts
    → Reaches (state beginning text nothing_defined []) (state at rest ds ts)
reached text at rest ds ts start = stop refl
reached text at rest ds ts (piece {at = at2} {ds = ds2} {ts = ts2} bytes rest2 found read is) =
    reach_more _ (state at2 (bytes ++ rest) ds2 ts2) (reached text at2 (bytes ++ rest) ds2 ts2 read) bytes rest found refl is

-- nothing follows a final state
abbrev IsFinal : State → Type 0
IsFinal a = (bytes rest : List ℕ) (found : Found) → a.rest ≡ bytes ++ rest → IsPiece a.at a.ds bytes rest found → ⊥

final_once : (a b : State) → IsFinal a → Reaches a b → a ≡ b
final_once a b final (stop e) = e
final_once a b final (go u v f x y z) = absurd (final u v f x y)

next_same : (a : State) (u v s t : List ℕ) (f g : Found) → IsSame u s v t f g
    → next a u v f ≡ next a s t g
next_same a u v s t f g e i = next a (e.0 i) (e.1 i) (e.2 i)

-- two ways from one state to final states end at one
pub ends_once : (a b c : State) → Reaches a b → Reaches a c → IsFinal b → IsFinal c → b ≡ c
ends_once a b c (stop e) y fb fc = sym e ∙ final_once a c (subst IsFinal (sym e) fb) y
ends_once a b c (go u v f x p z) (stop e) fb fc = absurd (subst IsFinal (sym e) fc u v f x p)
ends_once a b c (go u v f x p z) (go s t g y q w) fb fc =
    let same = piece_once a.at a.ds u s v t f g (sym x ∙ y) p q in
    ends_once (next a u v f) b c z (subst (λ n. Reaches n c) (sym (next_same a u v s t f g same)) w) fb fc

pub ended : (at : Spot) (ds : Definitions) (bytes rest : List ℕ) (found : Found)
    → [] ≡ bytes ++ rest → IsPiece at ds bytes rest found → ⊥
ended at ds bytes rest found e (separator b p i) = omega (arith, ap length p, ap length e ∙ length-append bytes rest)
ended at ds bytes rest found e (comment c) = false_true (ap opens_comment e ∙ comment_opens bytes rest c)
ended at ds bytes rest found e (directive said h all ends d new) = omega (arith, ap first e, directive_head at bytes rest h)
ended at ds bytes rest found e (token k1 o p l z) = omega (arith, some_bytes bytes k1 (family bytes k1 p), ap length e ∙ length-append bytes rest)
