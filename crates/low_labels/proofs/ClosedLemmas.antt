-- The words of code, and where operations are in them.
use Rattle.std.proofs.Common.{◌≡◌, ℕ, suc, ◌+◌, ◌<◌, ◌≤◌, List, [], ◌∷◌, ◌++◌, length, take, get_or, Some, ap, sym, ◌∙◌, refl, arith, add-zero}
use Rattle.std.specs.Prelude.{slice_get}
use Rattle.std.proofs.Math.Seq.{get_or-append_seam}
use Rattle.std.proofs.lemmas.Grind.{common_steps}
use Rattle.std.proofs.lemmas.Int.{ints}
use Rattle.std.proofs.lemmas.List.{take_more, length-append}
use Rattle.std.proofs.lemmas.Option.{slice_get-get_or}
use Rattle.bop_bits.specs.declared.map.TheConstants.{CODE_WORDS}
use Rattle.rv_code.specs.declared.instr.Instr.TheVariants.{Jal}
use Rattle.rv_code.specs.Step.{address_of}
use Rattle.rv_code.specs.Table.{IsInstr, word_of}
use Rattle.rv_code.specs.Word.{sum, word}
use Rattle.low_labels.specs.declared.line.Line.{Line}
use Rattle.low_labels.specs.Closed.{distance, instr_of_line, words_from}

module _ (labels : ℕ → ℕ) where
  pub length_words : (i : ℕ) (xs : List Line) → length (words_from labels i xs) ≡ length xs
  length_words i [] = refl
  length_words i (x ∷ xs) = ap suc (length_words (i + 1) xs)

  pub words-append : (i : ℕ) (xs ys : List Line)
      → words_from labels i (xs ++ ys) ≡ words_from labels i xs ++ words_from labels (i + length xs) ys
  words-append i [] ys = ap (λ j. words_from labels j ys) (sym (add-zero i))
  words-append i (x ∷ xs) ys =
      let far : i + 1 + length xs ≡ i + length (x ∷ xs) = omega arith in
      ap (λ ws. word_of (instr_of_line labels i x) ∷ ws)
      (words-append (i + 1) xs ys ∙ ap (λ j. words_from labels (i + 1) xs ++ words_from labels j ys) far)

  pub words_more : (xs : List Line) (i : ℕ) (d : Line) → i < length xs
      → words_from labels 0 (take (i + 1) xs)
      ≡ words_from labels 0 (take i xs) ++ word_of (instr_of_line labels i (get_or xs i d)) ∷ []
  words_more xs i d within =
      let here : 0 + length (take i xs) ≡ i = grind (arith, common_steps) in
      ap (words_from labels 0) (take_more xs i d within)
      ∙ (words-append 0 (take i xs) (get_or xs i d ∷ [])
      ∙ ap (λ j. words_from labels 0 (take i xs) ++ word_of (instr_of_line labels j (get_or xs i d)) ∷ []) here)

  -- the word behind others
  pub word_here : (xs : List Line) (x : Line) (ys : List Line)
      → slice_get (words_from labels 0 (xs ++ x ∷ ys)) (length xs)
      ≡ Some (word_of (instr_of_line labels (length xs) x))
  word_here xs x ys =
      let w = word_of (instr_of_line labels (0 + length xs) x) in
      let all = words_from labels 0 xs ++ w ∷ words_from labels (0 + length xs + 1) ys in
      let len = length_words 0 xs in
      let zeroed : 0 + length xs ≡ length xs = omega arith in
      let within : length (words_from labels 0 xs) < length all = omega (arith, length-append (words_from labels 0 xs) (w ∷ words_from labels (0 + length xs + 1) ys)) in
      ap (λ ws. slice_get ws (length xs)) (words-append 0 xs (x ∷ ys))
      ∙ (ap (slice_get all) (sym len)
      ∙ (slice_get-get_or all (length (words_from labels 0 xs)) w within
      ∙ (ap Some (get_or-append_seam (words_from labels 0 xs) w (words_from labels (0 + length xs + 1) ys) w)
      ∙ ap (λ j. Some (word_of (instr_of_line labels j x))) zeroed)))

-- a jump within the code is an instruction, and leads to where it is to
pub jump_fits : (rd i j : ℕ) → rd < 32 → i ≤ CODE_WORDS → j ≤ CODE_WORDS
    → IsInstr (Jal rd (distance i j))
jump_fits rd i j low near far =
    (low, grind (arith, common_steps, ints), grind (arith, common_steps, ints), grind (arith, common_steps, ints))

pub jump_leads : (i j : ℕ) → i ≤ CODE_WORDS → j ≤ CODE_WORDS
    → sum (address_of i) (word (distance i j)) ≡ address_of j
jump_leads i j near far = grind (arith, common_steps, ints)
