-- What is said of a text that was evaluated.
use Rattle.std.proofs.Common.{◌≡◌, ◌≤◌, ℕ, List, length, Option, Some, refl, sym, subst}
use Rattle.std.specs.Io.KnownBytes.{Appends, Consumes}
use Rattle.c_semantics.specs.Meaning.{Meaning}
use Rattle.c_token.specs.declared.limits.TheConstants.{TEXT_BYTES}
use Rattle.bop_top.specs.declared.ending.Figures.{Figures}
use Rattle.bop_top.specs.declared.outcome.Outcome.{Outcome}
use Rattle.bop_top.specs.declared.outcome.Outcome.TheVariants as outcome
use Rattle.bop_top.specs.CommandTransfers.{CanEnd, Moves, Tells, bytes_alone}
use Rattle.bop_words.specs.WordRequests.{Mean}
use Rattle.bop_top.specs.Headline.{HasDone}
use Rattle.bop_top.specs.MeanSays.{Means, Meant, MeanSays, Puts}
use Rattle.bop_top.specs.TextSays.{IsInput}
use Rattle.bop_top.specs.private.PutMeaning.{HasPut, count_told}

module _ (steps : ℕ) (text taken : List ℕ) (fits : length text ≤ TEXT_BYTES) where
  meant_with : (m : Meaning) (P : Meaning → Type 0) → Means text taken steps (λ x. x ≡ m) → P m
      → Meant steps (Some text) taken P
  meant_with m P means p = (text, refl, fits, (means.0, means.1, subst P (sym means.2) p))

  put_says : (m : Meaning) (o : Outcome) (written : List ℕ)
      → Means text taken steps (λ x. x ≡ m) → Puts o written m → MeanSays steps o (Some text) taken written
  put_says m (outcome.Done exit) written means p =
      meant_with m (Puts (outcome.Done exit) written) means p
  put_says m outcome.StackFull written means p =
      meant_with m (Puts outcome.StackFull written) means p
  put_says m (outcome.Undefined act at) written means p =
      meant_with m (Puts (outcome.Undefined act at) written) means p
  put_says m outcome.MoreSteps written means p =
      meant_with m (Puts outcome.MoreSteps written) means p
  put_says m outcome.WriteFault written means p =
      meant_with m (Puts outcome.WriteFault written) means p
  put_says m _ written means p = absurd p

-- where there is a meaning the input was read to its end
put_moves : (m : Meaning) (o : Outcome) (written taken : List ℕ) (left : Option (List ℕ))
    → IsInput taken left → Puts o written m → Moves o taken left written
put_moves m (outcome.Done exit) written taken left whole p = whole
put_moves m outcome.StackFull written taken left whole p = whole
put_moves m (outcome.Undefined act at) written taken left whole p = whole
put_moves m outcome.MoreSteps written taken left whole p = whole
put_moves m outcome.WriteFault written taken left whole p = whole
put_moves m _ written taken left whole p = absurd p

put_can : (m : Meaning) (o : Outcome) (written name : List ℕ) (steps : ℕ) → Puts o written m
    → CanEnd (Mean name steps) o
put_can m (outcome.Done exit) written name steps p = tt
put_can m outcome.StackFull written name steps p = tt
put_can m (outcome.Undefined act at) written name steps p = tt
put_can m outcome.MoreSteps written name steps p = tt
put_can m outcome.WriteFault written name steps p = tt
put_can m _ written name steps p = absurd p

put_tells : (m : Meaning) (o : Outcome) (written name : List ℕ) (steps count : ℕ) (told : Figures)
    → Puts o written m → told ≡ bytes_alone (count_told o count)
    → Tells (Mean name steps) o count told
put_tells m (outcome.Done exit) written name steps count told p e = e
put_tells m outcome.StackFull written name steps count told p e = e
put_tells m (outcome.Undefined act at) written name steps count told p e = e
put_tells m outcome.MoreSteps written name steps count told p e = e
put_tells m outcome.WriteFault written name steps count told p e = e
put_tells m _ written name steps count told p e = absurd p

pub put_done : (name : List ℕ) (steps : ℕ) (known : Type 0) (text taken : List ℕ) (m : Meaning)
    (o : Outcome) (told : Figures) (input left old new : Option (List ℕ))
    → length text ≤ TEXT_BYTES → Means text taken steps (λ x. x ≡ m) → Consumes input left taken
    → IsInput taken left → HasPut m o told old new
    → HasDone (Mean name steps) known (Some text) o told input left old new
put_done name steps known text taken m o told input left old new fits means takes whole put = record {
  taken = taken;
  written = put.written;
  takes = takes;
  writes = put.writes;
  transfers = record {
    can = put_can m o put.written name steps put.puts;
    moves = put_moves m o put.written taken left whole put.puts;
    tells = put_tells m o put.written name steps (length put.written) told put.puts put.tells;
  };
  says = λ here. put_says steps text taken fits m o put.written means put.puts;
}
