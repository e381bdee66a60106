-- Names and reserved words (C11 6.4.1 and 6.4.2).
use Rattle.std.specs.Prelude.{ℕ, Bool, ◌&&◌, not, List, [], ◌∷◌, ◌++◌, length, nat_lt, codes}
use Rattle.std.specs.Char.{is_ascii_digit}
use Rattle.std.specs.List.{list_all, list_any}
use Rattle.std.specs.Str.{bytes_eq}
use Rattle.c_token.specs.Bytes.{first, is_word}

-- the keywords of C11, in the order of 6.4.1
abbrev pub keywords : List (List ℕ)
keywords =
    codes "auto" ∷ codes "break" ∷ codes "case" ∷ codes "char" ∷ codes "const"
    ∷ codes "continue" ∷ codes "default" ∷ codes "do" ∷ codes "double" ∷ codes "else"
    ∷ codes "enum" ∷ codes "extern" ∷ codes "float" ∷ codes "for" ∷ codes "goto" ∷ codes "if"
    ∷ codes "inline" ∷ codes "int" ∷ codes "long" ∷ codes "register" ∷ codes "restrict"
    ∷ codes "return" ∷ codes "short" ∷ codes "signed" ∷ codes "sizeof" ∷ codes "static"
    ∷ codes "struct" ∷ codes "switch" ∷ codes "typedef" ∷ codes "union" ∷ codes "unsigned"
    ∷ codes "void" ∷ codes "volatile" ∷ codes "while" ∷ codes "_Alignas" ∷ codes "_Alignof"
    ∷ codes "_Atomic" ∷ codes "_Bool" ∷ codes "_Complex" ∷ codes "_Generic"
    ∷ codes "_Imaginary" ∷ codes "_Noreturn" ∷ codes "_Static_assert"
    ∷ codes "_Thread_local" ∷ []

-- the words that this compiler adds
abbrev pub added_words : List (List ℕ)
added_words =
    codes "BOP_CHECKED" ∷ codes "BOP_PRIVATE" ∷ codes "BeginPPR" ∷ codes "EndPPR"
    ∷ codes "Post" ∷ codes "Wait" ∷ codes "EOF" ∷ codes "getchar" ∷ codes "putchar" ∷ []

abbrev pub reserved_words : List (List ℕ)
reserved_words = keywords ++ added_words

abbrev pub is_reserved : List ℕ → Bool
is_reserved bytes = list_any (λ word. bytes_eq word bytes) reserved_words

-- letters, digits and `_`, at least one, not beginning with a digit
abbrev pub is_word_spelled : List ℕ → Bool
is_word_spelled bytes =
    nat_lt 0 (length bytes) && (list_all is_word bytes && not (is_ascii_digit (first bytes)))
