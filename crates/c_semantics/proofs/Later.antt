-- What a text means within more steps.
use Rattle.std.proofs.Common.{◌≡◌, ℕ, ◌+◌, List, [], Option, true, refl, sym, ap, subst, arith}
use Rattle.byte_lists.specs.Prefix.{IsPrefix}
use Rattle.byte_lists.proofs.Prefixes.{IsPrefix-refl}
use Rattle.c_tree.specs.Item.{Item}
use Rattle.c_semantics.specs.Run.{Ended, Goes, StackFull, More, Undef}
use Rattle.c_semantics.specs.Meaning.{definition, ended, main_name, start, run_of, calls_at, meant}
use Rattle.c_semantics.specs.Outcome.{has_ended, output_of}
use Rattle.c_semantics.proofs.Appends.{put_out}
use Rattle.c_semantics.proofs.Steady.{Lasts, steady_count}
use Rattle.c_semantics.proofs.SteadyEval.{steady_enter}
use Rattle.c_semantics.proofs.SteadyCalls.{steady_calls}

run_lasts : (text : List Item) (input : List ℕ) (n k : ℕ)
    → Lasts k (run_of text input n) (run_of text input (n + k))
run_lasts text input n k =
    (steady_count (steady_enter (calls_at text input n) (calls_at text input (n + k)) (steady_calls text input n (n + k) (omega arith)) (definition text main_name) []) (start text)).lasts n

same_output : (e : Ended (Option ℕ)) → put_out e ≡ output_of (ended e)
same_output (Goes v store left) = refl
same_output (StackFull output) = refl
same_output (More output) = refl
same_output (Undef output act at) = refl

stays : (k : ℕ) (e later : Ended (Option ℕ)) → Lasts k e later → has_ended (ended e) ≡ true
    → ended later ≡ ended e
stays k (Goes v store left) later l h = ap ended l
stays k (StackFull output) later l h = ap ended l
stays k (More output) later l h = cc
stays k (Undef output act at) later l h = ap ended l

same_behind : (e later : Ended (Option ℕ)) → later ≡ e → IsPrefix (put_out e) (put_out later)
same_behind e later l = subst (λ x. IsPrefix (put_out e) (put_out x)) (sym l) (IsPrefix-refl (put_out e))

grows : (k : ℕ) (e later : Ended (Option ℕ)) → Lasts k e later
    → IsPrefix (put_out e) (put_out later)
grows k (Goes v store left) later l = same_behind (Goes v store (left + k)) later l
grows k (StackFull output) later l = same_behind (StackFull output) later l
grows k (More output) later l = l
grows k (Undef output act at) later l = same_behind (Undef output act at) later l

pub meaning_stays : (text : List Item) (input : List ℕ) (n k : ℕ)
    → has_ended (meant text input n) ≡ true → meant text input (n + k) ≡ meant text input n
unfolding meant
meaning_stays text input n k h = stays k (run_of text input n) (run_of text input (n + k)) (run_lasts text input n k) h

pub meaning_grows : (text : List Item) (input : List ℕ) (n k : ℕ)
    → IsPrefix (output_of (meant text input n)) (output_of (meant text input (n + k)))
unfolding meant
meaning_grows text input n k =
    let now = run_of text input n in
    let later = run_of text input (n + k) in
    subst (λ o. IsPrefix o (output_of (ended later))) (same_output now)
    (subst (λ o. IsPrefix (put_out now) o) (same_output later) (grows k now later (run_lasts text input n k)))
