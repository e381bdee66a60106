-- The text that is made of a seed and a number of regions, line by line.
use Rattle.std.specs.Prelude.{ℕ, List, [], ◌∷◌, ◌++◌, codes}
use Rattle.std.specs.Fmt.{decimal}

abbrev pub lines_of : (seed regions : ℕ) → List (List ℕ)
lines_of seed regions =
    codes "#include <stdio.h>"
    ∷ codes "#include \"bop.h\""
    ∷ (codes "#define REGIONS " ++ decimal regions)
    ∷ (codes "#define SEED " ++ (decimal seed ++ codes "u"))
    ∷ codes "unsigned part[16384];"
    ∷ codes "unsigned total;"
    ∷ codes "BOP_PRIVATE unsigned tmp[8];"
    ∷ codes "void print(unsigned n) {"
    ∷ codes "  if (n > 9u) print(n / 10u);"
    ∷ codes "  putchar('0' + n % 10u);"
    ∷ codes "}"
    ∷ codes "int main(void) {"
    ∷ codes "  unsigned i;"
    ∷ codes "  unsigned j;"
    ∷ codes "  unsigned x;"
    ∷ codes "  for (i = 0u; i < REGIONS; i = i + 1u) {"
    ∷ codes "    BeginPPR(1);"
    ∷ codes "    x = SEED + i;"
    ∷ codes "    for (j = 0u; j < 8u; j = j + 1u) {"
    ∷ codes "      x = x * 1664525u + 1013904223u;"
    ∷ codes "      tmp[j] = x >> 16;"
    ∷ codes "    }"
    ∷ codes "    j = (i % 16u) * 1024u;"
    ∷ codes "    part[j] = part[j] + tmp[x % 8u] % 1000u;"
    ∷ codes "    if ((x >> 16) % 4u == 0u) total = total + 1u;"
    ∷ codes "    EndPPR(1);"
    ∷ codes "  }"
    ∷ codes "  for (i = 0u; i < 16u; i = i + 1u) {"
    ∷ codes "    print(part[i * 1024u]);"
    ∷ codes "    putchar('\\n');"
    ∷ codes "  }"
    ∷ codes "  print(total);"
    ∷ codes "  putchar('\\n');"
    ∷ codes "  return 0;"
    ∷ codes "}"
    ∷ []

-- each line ends with LF
abbrev pub with_ends : List (List ℕ) → List ℕ
with_ends [] = []
with_ends (line ∷ lines) = line ++ (codes "\n" ++ with_ends lines)

abbrev pub text_of : (seed regions : ℕ) → List ℕ
text_of seed regions = with_ends (lines_of seed regions)
