use Rattle.std.proofs.Common.{List, ℕ, ◌∷◌, string_bytes, refl, sym, subst}
use Rattle.bop_words.specs.CommandTable.{word_of}
use Rattle.bop_words.specs.WordRequests.{AskNothing}
use Rattle.bop_words.proofs.FirstWord.{cut_first}
use Rattle.bop_words.proofs.WordRequestsLemmas.{wrong_options}
use Rattle.bop_words.proofs.read.file_line.Goals as goal

pub returns-in_default-options_of : goal.returns-in_default-options_of
returns-in_default-options_of c =
    let first = string_bytes c.name-item.result in
    let cut = cut_first string_bytes c.args.words.now c.name-item.result first c.in-len1-up.len_at_least c.name-item.is refl in
    subst (λ (words : List (List ℕ)). AskNothing (word_of c.args.command ∷ words)) (sym cut)
    (wrong_options c.args.command first _ c.requires c.in_default-options_of.ensures)
