use Rattle.std.proofs.Common.{arith, sym, ◌+◌, ◌-◌, ◌≡◌, ◌++◌, ◌∷◌, [], take, subst, ℕ, false}
use Rattle.c_token.proofs.CommentsLemmas.{no_close, no_close_front}
use Rattle.c_token.proofs.TokenLists.{take_two}
use Rattle.c_token.specs.Comments.{has_close}
use Rattle.c_token.proofs.comment.block_len.Goals as goal

pub returns : goal.returns
returns c = no_close c.args.inside.now (λ k lt. c.loop-at.invariant.1 k (omega arith))

pub returns-then-inside-at-eq47 : goal.returns-then-inside-at-eq47
returns-then-inside-at-eq47 c =
    let i : ℕ = c.loop-at.at in
    let e : i + 2 - 2 ≡ i = omega arith in (
      omega arith,
      omega arith,
      subst (λ j. take (i + 2) c.args.inside.now ≡ take j c.args.inside.now ++ 42 ∷ 47 ∷ []) (sym e) (take_two c.args.inside.now i 42 47 (omega arith) c.if-inside-at-eq42.true c.if-inside-at-eq47.true),
      subst (λ j. has_close (take j c.args.inside.now) ≡ false) (sym e) (no_close_front c.args.inside.now i (omega arith) c.loop-at.invariant.1),
    )
