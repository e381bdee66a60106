use Rattle.std.proofs.Common.{◌≡◌, suc, ◌+◌, ◌-◌, ◌/◌, ◌%◌, [], ◌∷◌, ◌++◌, ap, sym, ◌∙◌, arith, append_assoc}
use Rattle.c_semantics.specs.Memory.{digits}
use Rattle.c_meaning.proofs.machine.starting.push_digits.Goals as goal

pub loop-byte-preserved : goal.loop-byte-preserved
loop-byte-preserved c =
    let out = c.loop-byte.out.items in
    let rest = c.loop-byte.rest in
    let left = c.args.count - (c.loop-byte._byte + 1) in
    let here : c.args.count - c.loop-byte._byte ≡ suc left = omega arith in
    ap (λ bytes. bytes ++ digits left (rest / 256)) c.in_ok-push.ensures.items
    ∙ (append_assoc out (rest % 256 ∷ []) (digits left (rest / 256))
    ∙ (ap (λ n. out ++ digits n rest) (sym here) ∙ c.loop-byte.invariant))
