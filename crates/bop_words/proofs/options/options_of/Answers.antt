use Rattle.std.proofs.Common.{◌≤◌, ◌≡◌, ◌∷◌, ◌-◌, List, ℕ, String, Global, drop, length, map, slice_index_or, string_bytes, subst, take}
use Rattle.bop_words.specs.declared.command.Command.{Command}
use Rattle.bop_words.specs.declared.options.Options.{Options}
use Rattle.bop_words.specs.private.ReadOptions.{IsReadUpTo, values_of}
use Rattle.bop_words.proofs.FirstWord.{cut_first}
use Rattle.bop_words.proofs.options.options_of.Goals as goal

-- the rest begins with a name
named : (command : Command) (words : List (List ℕ)) (rest : List (String Global)) (options : Options) (first : String Global)
    (name : List ℕ) → IsReadUpTo command words (map string_bytes rest) (values_of options) → 1 ≤ length rest
    → first ≡ slice_index_or rest 0 first → name ≡ string_bytes first
    → IsReadUpTo command words (name ∷ map string_bytes (take (length rest - 1) (drop 1 rest))) (values_of options)
named command words rest options first name h some is same =
    subst (λ (l : List (List ℕ)). IsReadUpTo command words l (values_of options))
    (cut_first string_bytes rest first name some is same) h

pub returns-in_err-reading : goal.returns-in_err-reading
returns-in_err-reading c =
    rw c.from_residual.ensures (c.in_err-reading.ensures.read (map string_bytes c.args.words.now)
    (named c.args.command (map string_bytes c.args.words.now) c.loop-reading.reading.rest.now c.loop-reading.reading.options
    c.name-item.result c.as_str.result.now c.loop-reading.invariant c.in-len1-up.len_at_least c.name-item.is
    c.as_str.ensures.value))

pub loop-reading-preserved : goal.loop-reading-preserved
loop-reading-preserved c =
    c.in_ok-reading.ensures.read (map string_bytes c.args.words.now)
    (named c.args.command (map string_bytes c.args.words.now) c.loop-reading.reading.rest.now c.loop-reading.reading.options
    c.name-item.result c.as_str.result.now c.loop-reading.invariant c.in-len1-up.len_at_least c.name-item.is
    c.as_str.ensures.value)
