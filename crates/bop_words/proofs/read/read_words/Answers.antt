use Rattle.std.proofs.Common.{◌≡◌, ◌↔◌, List, ℕ, Err, ◌∙◌, string_bytes, sym, subst}
use Rattle.bop_words.specs.CommandTable.{word_of}
use Rattle.bop_words.specs.WordRequests.{AskNothing}
use Rattle.bop_words.specs.declared.request.WordFault.TheVariants as fault
use Rattle.bop_words.proofs.CommandRequests.{exact}
use Rattle.bop_words.proofs.FirstWord.{cut_first}
use Rattle.bop_words.proofs.read.read_words.Goals as goal

pub returns-clause-bad_words : goal.returns-clause-bad_words
returns-clause-bad_words c =
    let cut = cut_first string_bytes c.args.words.now c.first-item.result (word_of c.in-Some.command) c.in-len1-up.len_at_least
    c.first-item.is (sym c.in-Some.ensures ∙ c.as_str.ensures.value) in
    subst (λ (words : List (List ℕ)). (c.answer.result ≡ Err fault.BadWords) ↔ AskNothing words) (sym cut)
    (exact _ c.answer.result c.answer.ensures)
