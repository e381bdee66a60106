-- Functions in their frames, and what comes behind them.
use Rattle.std.proofs.Common.{◌≡◌, ◌∙◌, ◌≤◌, ◌+◌, ◌-◌, ℕ, Bool, true, false, Option, refl, ap}
use Rattle.std.specs.Prelude.{nat_lt, if◌then◌else◌}
use Rattle.std.proofs.lemmas.Bool.{le-ltb}
use Rattle.bop_bits.specs.declared.map.TheConstants.{STACK_FROM}
use Rattle.c_semantics.specs.declared.flow.Flow.{Flow}
use Rattle.c_semantics.specs.Meaning.{in_frame, value_of_flow}
use Rattle.c_semantics.specs.Run.{Store, Run, pure, then_run, ◌>>=◌, ◌>>◌, now, change, stack_full}
use Rattle.c_semantics.proofs.RunLemmas.{then_assoc}

no_less : (b : Bool) (go : Run (Option ℕ)) (store : Store) (left : ℕ) → b ≡ false
    → (if b then stack_full else go) store left ≡ go store left
no_less true go store left is = cc
no_less false go store left is = refl

-- where there is room, the frame stands while the body runs
pub in_frame_then : (main : Bool) (size : ℕ) (body : Run Flow) (rest : Option ℕ → Run (Option ℕ))
    (store : Store) (left : ℕ) → STACK_FROM + size ≤ store.sp
    → (in_frame main size body >>= rest) store left ≡ (body >>= λ f. now >>= λ a. change (record a { sp = store.sp }) >> rest (value_of_flow main f)) (record store { sp = store.sp - size }) left
in_frame_then main size body rest store left room =
    let whole : Run (Option ℕ) = change (record store { sp = store.sp - size }) >> (body >>= λ f. now >>= λ a. change (record a { sp = store.sp }) >> pure (value_of_flow main f)) in
    ap (λ e. then_run e rest) (no_less (nat_lt store.sp (STACK_FROM + size)) whole store left (le-ltb store.sp (STACK_FROM + size) room))
    ∙ then_assoc (body (record store { sp = store.sp - size }) left) (λ f. now >>= λ a. change (record a { sp = store.sp }) >> pure (value_of_flow main f)) rest
