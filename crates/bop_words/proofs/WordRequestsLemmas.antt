-- Words ask for one thing at most, and what they ask for where they can be read.
use Rattle.std.proofs.Common.{◌≡◌, ◌≢◌, ℕ, Bool, true, false, nat_eq, if◌then◌else◌, List, [], ◌∷◌, ◌++◌, drop, get_or, Option, None, Some, IfSome, is_some, refl, sym, ap, ap₂, ◌∙◌, subst}
use Rattle.std.specs.List.{All}
use Rattle.std.proofs.lemmas.List.{append-nil}
use Rattle.bop_words.specs.CommandTable.{Need, Refused, Required, Optional, Usually, StandsFor, need, word_of}
use Rattle.bop_words.specs.OptionTable.{Absent, Named, Number, Present, Given, IsName, Value, found, row_of, spelled}
use Rattle.bop_words.specs.WordRequests.{File, Made, Race, Seq, Mean, Check, Replay, Text, Request, AskNothing, IsRequest, IsRight, command_for, optional_name, presence, program_of, program_words, value_of}
use Rattle.bop_words.specs.declared.command.Command.{Command}
use Rattle.bop_words.specs.declared.command.Command.TheVariants as command
use Rattle.bop_words.specs.declared.option_name.OptionName.{OptionName}
use Rattle.bop_words.specs.declared.option_name.OptionName.TheVariants.{Workers, Group, Budget, Journal, Confirm, Seed, Regions, Schedule}
use Rattle.bop_words.specs.private.ReadOptions.{AreNoOptions, AreOptions, AreRead, IsReadUpTo, has_file}
use Rattle.bop_words.proofs.ReadOptionsLemmas.{agrees, are_taken, one_way}

-- the command whose word has this third letter
command_by : ℕ → Command
command_by letter =
    if nat_eq letter 110 then command.Run
    else (if nat_eq letter 109 then command.Demo
    else (if nat_eq letter 113 then command.Seq
    else (if nat_eq letter 97 then command.Mean
    else (if nat_eq letter 101 then command.Check
    else (if nat_eq letter 112 then command.Replay else command.Source)))))

back : (c : Command) → command_by (get_or (word_of c) 2 0) ≡ c
unfolding command_by
back command.Run = refl
back command.Demo = refl
back command.Seq = refl
back command.Mean = refl
back command.Check = refl
back command.Replay = refl
back command.Source = refl

-- no two have one word
one_command : (a b : Command) → word_of a ≡ word_of b → a ≡ b
one_command a b e = sym (back a) ∙ ap (λ (word : List ℕ). command_by (get_or word 2 0)) e ∙ back b

has_program : (request : Request) → is_some (program_of request) ≡ has_file (command_for request)
has_program (Race (File name) workers group budget journal confirm) = refl
has_program (Race (Made seed regions) workers group budget journal confirm) = refl
has_program (Seq program budget) = refl
has_program (Mean program budget) = refl
has_program (Check program) = refl
has_program (Replay program schedule group budget) = refl
has_program (Text seed regions) = refl

-- what the words behind that of a command are, where they ask for something
pub record Parts (c : Command) (words : List (List ℕ)) (request : Request) : Type 0 where
  pub given : List Given
  pub program : Option (List ℕ)
  pub written : words ≡ program_words program ++ spelled given
  pub named : IfSome program IsName
  pub shape : is_some program ≡ has_file c
  pub options : AreOptions c given
  pub stands : (option : OptionName) → StandsFor (need c option) (found given option) (value_of request option)
  pub one : program ≡ program_of request
  pub command : c ≡ command_for request

refused_is_absent : (n : Need) (f v : Value) → n ≡ Refused → StandsFor n f v → f ≡ Absent
refused_is_absent n f v is h = let k : StandsFor Refused f v = subst (λ m. StandsFor m f v) is h in k.0

pub parts : (c : Command) (words : List (List ℕ)) (request : Request) → IsRequest (word_of c ∷ words) request → Parts c words request
parts c words request h =
    let is : c ≡ command_for request = one_command c (command_for request) (ap (λ (l : List (List ℕ)). get_or l 0 []) h.written) in
    let stands : (option : OptionName) → StandsFor (need c option) (found h.given option) (value_of request option) =
    λ option. subst (λ d. StandsFor (need d option) (found h.given option) (value_of request option)) (sym is) (h.options option) in
    record {
      given = h.given;
      program = program_of request;
      written = ap (λ (l : List (List ℕ)). drop 1 l) h.written;
      named = h.program;
      shape = has_program request ∙ ap has_file (sym is);
      options = record {
        right = h.right;
        once = h.once;
        taken = are_taken c h.given h.right
            (λ option refused. refused_is_absent (need c option) (found h.given option) (value_of request option) refused (stands option));
      };
      stands = stands;
      one = refl;
      command = is;
    }

-- the words of a command with a file and without one, cut
is_cut : (program : Option (List ℕ)) (words : List (List ℕ)) (name : List ℕ) (more : List (List ℕ))
    → is_some program ≡ true → IfSome program IsName → name ∷ more ≡ program_words program ++ words
    → (program ≡ Some name) × IsName name × (more ≡ words)
is_cut None words name more some named e = absurd (cc)
is_cut (Some other) words name more some named e =
    let same : other ≡ name = ap (λ (l : List (List ℕ)). get_or l 0 []) (sym e) in
    (ap Some same, subst IsName same named, ap (λ (l : List (List ℕ)). drop 1 l) e)

is_whole : (program : Option (List ℕ)) (words more : List (List ℕ)) → is_some program ≡ false
    → more ≡ program_words program ++ words → (program ≡ None) × (more ≡ words)
is_whole None words more none e = (refl, e)
is_whole (Some name) words more none e = absurd (cc)

no_words : (program : Option (List ℕ)) (words : List (List ℕ)) → is_some program ≡ true → [] ≡ program_words program ++ words → ⊥
no_words None words some e = cc
no_words (Some name) words some e = cc

-- why the words of a command ask for nothing: no name of a file
pub unnamed : (c : Command) → has_file c ≡ true → AskNothing (word_of c ∷ [])
unnamed c file request h =
    let p = parts c [] request h in
    no_words p.program (spelled p.given) (p.shape ∙ file) p.written

-- a wrong one
pub misnamed : (c : Command) (name : List ℕ) (more : List (List ℕ)) → has_file c ≡ true → (IsName name → ⊥)
    → AskNothing (word_of c ∷ name ∷ more)
misnamed c name more file wrong request h =
    let p = parts c (name ∷ more) request h in
    let k = is_cut p.program (spelled p.given) name more (p.shape ∙ file) p.named p.written in
    wrong k.1

-- no options behind it
pub wrong_options : (c : Command) (name : List ℕ) (more : List (List ℕ)) → has_file c ≡ true → AreNoOptions c more
    → AskNothing (word_of c ∷ name ∷ more)
wrong_options c name more file wrong request h =
    let p = parts c (name ∷ more) request h in
    let k = is_cut p.program (spelled p.given) name more (p.shape ∙ file) p.named p.written in
    wrong p.given k.2 p.options

pub wrong_words : (c : Command) (words : List (List ℕ)) → has_file c ≡ false → AreNoOptions c words
    → AskNothing (word_of c ∷ words)
wrong_words c words none wrong request h =
    let p = parts c words request h in
    wrong p.given (is_whole p.program (spelled p.given) words (p.shape ∙ none) p.written).1 p.options

-- the options of words that were read, and of a request of them, are the same
same_options : (program other : Option (List ℕ)) (a b words : List (List ℕ)) → is_some program ≡ is_some other
    → words ≡ program_words program ++ a → words ≡ program_words other ++ b → (program ≡ other) × (a ≡ b)
same_options None None a b words shape e f = (refl, sym e ∙ f)
same_options (Some x) (Some y) a b words shape e f =
    (ap (λ (l : List (List ℕ)). Some (get_or l 0 [])) (sym e ∙ f), ap (λ (l : List (List ℕ)). drop 1 l) (sym e ∙ f))
same_options None (Some y) a b words shape e f = absurd (cc)
same_options (Some x) None a b words shape e f = absurd (cc)

missing_is : (n : Need) (f v : Value) → n ≡ Required → f ≡ Absent → StandsFor n f v → ⊥
missing_is n f v is absent h = let k : StandsFor Required f v = subst (λ m. StandsFor m f v) is h in k.0 absent

-- an option that must be given isn't
pub missing : (c : Command) (words : List (List ℕ)) (program : Option (List ℕ)) (values : OptionName → Value) (option : OptionName)
    → is_some program ≡ has_file c → AreRead c words program values → need c option ≡ Required → values option ≡ Absent
    → AskNothing (word_of c ∷ words)
missing c words program values option shape h required absent request r =
    let p = parts c words request r in
    let same = same_options program p.program h.options (spelled p.given) words (shape ∙ sym p.shape) h.written p.written in
    missing_is (need c option) (found p.given option) (value_of request option) required
    (agrees c h.options values p.given h.read p.options.right same.1 option ∙ absent) (p.stands option)

-- and what they ask for, where they can be read
pub is_request : (c : Command) (words : List (List ℕ)) (program : Option (List ℕ)) (values : OptionName → Value) (request : Request)
    → AreRead c words program values → c ≡ command_for request → program ≡ program_of request
    → ((option : OptionName) → StandsFor (need c option) (values option) (value_of request option))
    → IsRequest (word_of c ∷ words) request
is_request c words program values request h is same stands =
    record {
      given = h.read.given;
      written = ap₂ (λ d (l : List (List ℕ)). word_of d ∷ l) is
          (h.written ∙ ap₂ (λ (p : Option (List ℕ)) (o : List (List ℕ)). program_words p ++ o) same (h.read.written ∙ append-nil (spelled h.read.given)));
      program = subst (λ p. IfSome p IsName) same h.named;
      right = h.read.options.right;
      once = h.read.options.once;
      options = λ option.
          subst (λ d. StandsFor (need d option) (found h.read.given option) (value_of request option)) is
          (subst (λ f. StandsFor (need c option) f (value_of request option)) (sym (h.read.agree option)) (stands option));
    }

-- an option stands for one value
one_value : (n : Need) (f v w : Value) → StandsFor n f v → StandsFor n f w → v ≡ w
one_value Refused f v w h k = h.1 ∙ sym k.1
one_value Required f v w h k = h.1 ∙ sym k.1
one_value Optional f v w h k = h ∙ sym k
one_value (Usually usual) Absent v w h k = h ∙ sym k
one_value (Usually usual) (Number n) v w h k = h ∙ sym k
one_value (Usually usual) (Named n) v w h k = h ∙ sym k
one_value (Usually usual) Present v w h k = h ∙ sym k

number_in : Value → ℕ
number_in (Number n) = n
number_in _ = 0

name_in : Value → List ℕ
name_in (Named name) = name
name_in _ = []

optional_in : Value → Option (List ℕ)
optional_in (Named name) = Some name
optional_in _ = None

is_present : Value → Bool
is_present Present = true
is_present _ = false

file_in : Option (List ℕ) → List ℕ
file_in (Some name) = name
file_in None = []

-- the request of these parts
rebuilt : Command → Option (List ℕ) → (workers group budget journal confirm seed regions schedule : Value) → Request
rebuilt command.Run p w g b j c s r h = Race (File (file_in p)) (number_in w) (number_in g) (number_in b) (optional_in j) (is_present c)
rebuilt command.Demo p w g b j c s r h = Race (Made (number_in s) (number_in r)) (number_in w) (number_in g) (number_in b) (optional_in j) (is_present c)
rebuilt command.Seq p w g b j c s r h = Seq (file_in p) (number_in b)
rebuilt command.Mean p w g b j c s r h = Mean (file_in p) (number_in b)
rebuilt command.Check p w g b j c s r h = Check (file_in p)
rebuilt command.Replay p w g b j c s r h = Replay (file_in p) (name_in h) (number_in g) (number_in b)
rebuilt command.Source p w g b j c s r h = Text (number_in s) (number_in r)

abbrev again : Request → Request
again request =
    rebuilt (command_for request) (program_of request) (value_of request Workers) (value_of request Group) (value_of request Budget)
    (value_of request Journal) (value_of request Confirm) (value_of request Seed) (value_of request Regions) (value_of request Schedule)

is_rebuilt : (request : Request) → again request ≡ request
unfolding rebuilt number_in name_in optional_in is_present file_in
is_rebuilt (Race (File name) workers group budget None false) = refl
is_rebuilt (Race (File name) workers group budget None true) = refl
is_rebuilt (Race (File name) workers group budget (Some journal) false) = refl
is_rebuilt (Race (File name) workers group budget (Some journal) true) = refl
is_rebuilt (Race (Made seed regions) workers group budget None false) = refl
is_rebuilt (Race (Made seed regions) workers group budget None true) = refl
is_rebuilt (Race (Made seed regions) workers group budget (Some journal) false) = refl
is_rebuilt (Race (Made seed regions) workers group budget (Some journal) true) = refl
is_rebuilt (Seq program budget) = refl
is_rebuilt (Mean program budget) = refl
is_rebuilt (Check program) = refl
is_rebuilt (Replay program schedule group budget) = refl
is_rebuilt (Text seed regions) = refl

one_of_parts : (c : Command) (words : List (List ℕ)) (a b : Request) → Parts c words a → Parts c words b → a ≡ b
one_of_parts c words a b p q =
    let same = same_options p.program q.program (spelled p.given) (spelled q.given) words (p.shape ∙ sym q.shape) p.written q.written in
    let given : p.given ≡ q.given = one_way p.given q.given p.options.right q.options.right same.1 in
    let value : (option : OptionName) → value_of a option ≡ value_of b option =
    λ option. one_value (need c option) (found q.given option) (value_of a option) (value_of b option)
    (subst (λ g. StandsFor (need c option) (found g option) (value_of a option)) given (p.stands option)) (q.stands option) in
    let command_is : command_for a ≡ command_for b = sym p.command ∙ q.command in
    let program_is : program_of a ≡ program_of b = sym p.one ∙ same.0 ∙ q.one in
    let w = value Workers in let g = value Group in let m = value Budget in let j = value Journal in
    let f = value Confirm in let s = value Seed in let r = value Regions in let h = value Schedule in
    let parts_are : again a ≡ again b = cc (command_is, program_is, w, g, m, j, f, s, r, h) in
    sym (is_rebuilt a) ∙ parts_are ∙ is_rebuilt b

pub one_request : (words : List (List ℕ)) (a b : Request) → IsRequest words a → IsRequest words b → a ≡ b
one_request words a b h k =
    let rest : List (List ℕ) = program_words (program_of a) ++ spelled h.given in
    one_of_parts (command_for a) rest a b
    (parts (command_for a) rest a (subst (λ l. IsRequest l a) h.written h))
    (parts (command_for a) rest b (subst (λ l. IsRequest l b) h.written k))

-- no words, and words of no command, ask for nothing
pub no_command : (word : List ℕ) (words : List (List ℕ)) → ((c : Command) → word ≡ word_of c → ⊥) → AskNothing (word ∷ words)
no_command word words none request h = none (command_for request) (ap (λ (l : List (List ℕ)). get_or l 0 []) h.written)

pub no_words_ask : AskNothing []
no_words_ask request h = let e : [] ≡ word_of (command_for request) ∷ (program_words (program_of request) ++ spelled h.given) = h.written in absurd (cc)
