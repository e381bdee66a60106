-- Lines that begin with `#`.
use Rattle.std.proofs.Common.{List, None, Option, Some, [], ap, arith, drop, refl, subst, sym, take, take-append-drop, ℕ, ◌++◌, ◌∙◌, ◌∷◌, ◌≡◌, ◌≢◌}
use Rattle.std.specs.List.{prefix_len}
use Rattle.std.specs.Prelude.{codes}
use Rattle.c_token.specs.Bytes.{first, is_blank}
use Rattle.c_token.specs.Directives.{IsDefine, IsDirective, IsInclude}
use Rattle.c_token.specs.declared.number.Number.{Number}
use Rattle.c_token.proofs.Defines.{define_integer, define_name, define_only}
use Rattle.c_token.proofs.Includes.{behind_blanks}
use Rattle.c_token.proofs.ByteRuns.{blanks_gone, run_all}
use Rattle.c_token.specs.Directives.IsDirective.{include, define}

some_line : (line : List ℕ) → first line ≡ 35 → line ≡ 35 ∷ drop 1 line
some_line [] h = absurd (omega (arith, h))
some_line (x ∷ xs) h = ap (λ y. y ∷ xs) h

pub line_parts : (line word r : List ℕ) → first line ≡ 35 → behind_blanks (drop 1 line) ≡ word ++ r
    → line ≡ 35 ∷ (take (prefix_len is_blank (drop 1 line)) (drop 1 line) ++ (word ++ r))
line_parts line word r h e =
    some_line line h ∙ ap (λ l. 35 ∷ l) (sym (take-append-drop (prefix_len is_blank (drop 1 line)) (drop 1 line)) ∙ ap (λ l. take (prefix_len is_blank (drop 1 line)) (drop 1 line) ++ l) e)

pub data Said (line : List ℕ) : Option (List ℕ × Number) → Type 0 where
  said_include : (r : List ℕ) → behind_blanks (drop 1 line) ≡ codes "include" ++ r → IsInclude r
      → Said line None
  said_define : (r : List ℕ) (said : List ℕ × Number)
      → behind_blanks (drop 1 line) ≡ codes "define" ++ r → IsDefine r said → Said line (Some said)

pub said_of : (line : List ℕ) (said : Option (List ℕ × Number)) → IsDirective line said
    → Said line said
said_of line said (include before r parts blanks i) = said_include r (ap (λ l. behind_blanks (drop 1 l)) parts ∙ blanks_gone before (codes "include" ++ r) blanks refl) i
said_of line said (define before r s parts blanks d) = said_define r s (ap (λ l. behind_blanks (drop 1 l)) parts ∙ blanks_gone before (codes "define" ++ r) blanks refl) d

module _ (line after : List ℕ) (after_is : after ≡ behind_blanks (drop 1 line)) where
  pub include_line : (r : List ℕ) → first line ≡ 35 → after ≡ codes "include" ++ r → IsInclude r
      → IsDirective line None
  include_line r h e i = include (take (prefix_len is_blank (drop 1 line)) (drop 1 line)) r (line_parts line (codes "include") r h (sym after_is ∙ e)) (run_all is_blank (drop 1 line)) i

  pub define_line : (r : List ℕ) (said : List ℕ × Number) → first line ≡ 35
      → after ≡ codes "define" ++ r → IsDefine r said → IsDirective line (Some said)
  define_line r said h e d = define (take (prefix_len is_blank (drop 1 line)) (drop 1 line)) r said (line_parts line (codes "define") r h (sym after_is ∙ e)) (run_all is_blank (drop 1 line)) d

  only_include : (r : List ℕ) → after ≡ codes "include" ++ r → (said : Option (List ℕ × Number))
      → Said line said → said ≡ None
  only_include r e said (said_include s f i) = refl
  only_include r e said (said_define s d f i) = absurd (omega (arith, ap first (sym e ∙ after_is ∙ f)))

  pub include_only : (r : List ℕ) → after ≡ codes "include" ++ r
      → (said : Option (List ℕ × Number)) → IsDirective line said → said ≡ None
  include_only r e said is = only_include r e said (said_of line said is)

  not_include : (r : List ℕ) → after ≡ codes "include" ++ r → (IsInclude r → ⊥)
      → (said : Option (List ℕ × Number)) → Said line said → ⊥
  not_include r e none said (said_include s f i) = none (subst IsInclude (ap (drop 7) (sym f ∙ sym after_is ∙ e)) i)
  not_include r e none said (said_define s d f i) = omega (arith, ap first (sym e ∙ after_is ∙ f))

  pub include_fails : (r : List ℕ) → after ≡ codes "include" ++ r → (IsInclude r → ⊥)
      → (said : Option (List ℕ × Number)) → IsDirective line said → ⊥
  include_fails r e none said is = not_include r e none said (said_of line said is)

  only_define : (r : List ℕ) (x : List ℕ × Number) → after ≡ codes "define" ++ r
      → ((s : List ℕ × Number) → IsDefine r s → s ≡ x) → (said : Option (List ℕ × Number))
      → Said line said → said ≡ Some x
  only_define r x e only said (said_include s f i) = absurd (omega (arith, ap first (sym e ∙ after_is ∙ f)))
  only_define r x e only said (said_define s d f i) = ap (λ y. Some y) (only d (subst (λ l. IsDefine l d) (ap (drop 6) (sym f ∙ sym after_is ∙ e)) i))

  pub define_line_only : (r : List ℕ) (x : List ℕ × Number) → after ≡ codes "define" ++ r
      → ((s : List ℕ × Number) → IsDefine r s → s ≡ x) → (said : Option (List ℕ × Number))
      → IsDirective line said → said ≡ Some x
  define_line_only r x e only said is = only_define r x e only said (said_of line said is)

  not_define : (r : List ℕ) → after ≡ codes "define" ++ r
      → ((s : List ℕ × Number) → IsDefine r s → ⊥) → (said : Option (List ℕ × Number))
      → Said line said → ⊥
  not_define r e none said (said_include s f i) = omega (arith, ap first (sym e ∙ after_is ∙ f))
  not_define r e none said (said_define s d f i) = none d (subst (λ l. IsDefine l d) (ap (drop 6) (sym f ∙ sym after_is ∙ e)) i)

  pub define_fails : (r : List ℕ) → after ≡ codes "define" ++ r
      → ((s : List ℕ × Number) → IsDefine r s → ⊥) → (said : Option (List ℕ × Number))
      → IsDirective line said → ⊥
  define_fails r e none said is = not_define r e none said (said_of line said is)

  neither : ((r : List ℕ) → after ≢ codes "include" ++ r)
      → ((r : List ℕ) → after ≢ codes "define" ++ r) → (said : Option (List ℕ × Number))
      → Said line said → ⊥
  neither a b said (said_include s f i) = a s (after_is ∙ f)
  neither a b said (said_define s d f i) = b s (after_is ∙ f)

  pub no_form : ((r : List ℕ) → after ≢ codes "include" ++ r)
      → ((r : List ℕ) → after ≢ codes "define" ++ r) → (said : Option (List ℕ × Number))
      → IsDirective line said → ⊥
  no_form a b said is = neither a b said (said_of line said is)

said_once : (line : List ℕ) (p q : Option (List ℕ × Number)) → Said line p → Said line q → p ≡ q
said_once line p q (said_include r e i) (said_include s f j) = refl
said_once line p q (said_include r e i) (said_define s d f j) = absurd (omega (arith, ap first (sym e ∙ f)))
said_once line p q (said_define r d e i) (said_include s f j) = absurd (omega (arith, ap first (sym e ∙ f)))
said_once line p q (said_define r x e d) (said_define s y f b) =
    let d2 : IsDefine r y = subst (λ l. IsDefine l y) (ap (drop 6) (sym f ∙ e)) b in
    ap (λ z. Some z) (sym (define_only r x.0 (d.behind ++ (d.integer ++ d.tail)) (sym (define_name r x d)) d.integer d.tail (sym (define_integer r x d)) x.1 (d.constant, d.spelled, d.number) y d2))

pub directive_once : (line : List ℕ) (p q : Option (List ℕ × Number)) → IsDirective line p
    → IsDirective line q → p ≡ q
directive_once line p q x y = said_once line p q (said_of line p x) (said_of line q y)
