-- Signs and words that are the same.
use Rattle.std.proofs.Common.{◌≡◌, Option, Some, None, true, false, sym, ap, ◌∙◌, subst}
use Rattle.std.proofs.lemmas.Slice.Eq.{bytes_eq-Decides}
use Rattle.c_token.specs.declared.token.Kind.{Kind}
use Rattle.c_token.specs.declared.token.Kind.TheVariants as k
use Rattle.c_expr.specs.Spelled.{same}

pub same_is : (a b : Kind) → same a b ≡ true → a ≡ b
same_is (k.Sign a) (k.Sign b) e = ap k.Sign ((bytes_eq-Decides a b).0 e)
same_is (k.Reserved a) (k.Reserved b) e = ap k.Reserved ((bytes_eq-Decides a b).0 e)
same_is _ _ e = cc

-- the end of the text is no sign and no word
pub not_end : (kind : Kind) → same kind kind ≡ true → kind ≡ k.End → ⊥
not_end kind e h = let ended : same k.End k.End ≡ true = subst (λ c. same c c ≡ true) h e in let no : false ≡ true = ended in cc

pub some_not_end : {X : Type 0} (f : Kind → Option X) (x : X) (kind : Kind) → f k.End ≡ None
    → f kind ≡ Some x → kind ≡ k.End → ⊥
some_not_end f x kind none some h = let e : None ≡ Some x = sym none ∙ ap f (sym h) ∙ some in cc
