-- Options that are read one by one.
use Rattle.std.proofs.Common.{◌≡◌, ◌≢◌, ℕ, false, true, if◌then◌else◌, List, [], ◌∷◌, ◌++◌, drop, get_or, refl, sym, ap, ap₂, ◌∙◌, subst}
use mathlib.Core.Logic.{⊎_elim}
use Rattle.std.specs.List.{All}
use Rattle.std.proofs.lemmas.Bool.{cases_Bool}
use Rattle.std.proofs.lemmas.List.{append_assoc, append-nil}
use Rattle.std.proofs.lemmas.List.Elements.{All-append, All-cons, All-nil, All-head, All-tail, All-push}
use Rattle.bop_words.specs.CommandTable.{Refused, need}
use Rattle.bop_words.specs.OptionTable.{Absent, Named, Number, Present, Value, AreOnce, Given, IsWritten, found, row_of, spelled}
use Rattle.bop_words.specs.WordRequests.{IsRight}
use Rattle.bop_words.specs.declared.command.Command.{Command}
use Rattle.bop_words.specs.declared.option_name.OptionName.{OptionName}
use Rattle.bop_words.specs.private.ReadOptions.{AreNoOptions, AreOptions, GivesNoValue, IsReadUpTo, ReadsOne, Takes, with_value}
use Rattle.bop_words.proofs.OptionTableLemmas.{cut, found_first, found_last, found_other, has_value, not_before, not_other, once_last, one_option, same, same_is}

-- nothing is read yet
pub none_read : (command : Command) (words : List (List ℕ)) (values : OptionName → Value)
    → ((option : OptionName) → values option ≡ Absent) → IsReadUpTo command words words values
none_read command words values none =
    record {
      given = [];
      written = refl;
      options = record { right = All-nil IsRight; once = tt; taken = All-nil (λ (g : Given). Takes command g.option) };
      agree = λ option. sym (none option);
    }

spelled_last : (given : List Given) (last : Given) (rest : List (List ℕ))
    → spelled (given ++ last ∷ []) ++ rest ≡ spelled given ++ ((row_of last.option).name ∷ (last.behind ++ rest))
spelled_last [] last rest = ap (λ l. (row_of last.option).name ∷ (l ++ rest)) (append-nil last.behind)
spelled_last (x ∷ xs) last rest =
    ap (λ l. (row_of x.option).name ∷ l)
    (append_assoc x.behind (spelled (xs ++ last ∷ [])) rest
    ∙ ap (λ l. x.behind ++ l) (spelled_last xs last rest)
    ∙ sym (append_assoc x.behind (spelled xs) ((row_of last.option).name ∷ (last.behind ++ rest))))

-- one more is read
pub one_read : (command : Command) (words : List (List ℕ)) (name : List ℕ) (behind rest : List (List ℕ))
    (old new : OptionName → Value) (option : OptionName)
    → IsReadUpTo command words (name ∷ behind) old → name ≡ (row_of option).name → Takes command option
    → old option ≡ Absent → ReadsOne option behind rest old new → IsReadUpTo command words rest new
one_read command words name behind rest old new option h is takes none one =
    let last : Given = record { option = option; behind = one.words; value = one.value } in
    let absent : found h.given option ≡ Absent = h.agree option ∙ none in
    record {
      given = h.given ++ last ∷ [];
      written = h.written
          ∙ ap₂ (λ (n : List ℕ) (b : List (List ℕ)). spelled h.given ++ (n ∷ b)) is one.written
          ∙ sym (spelled_last h.given last rest);
      options = record {
        right = All-push IsRight h.given last h.options.right one.right;
        once = once_last h.given last h.options.right h.options.once absent;
        taken = All-push (λ (g : Given). Takes command g.option) h.given last h.options.taken takes;
      };
      agree = λ other. found_last h.given last other h.options.right absent
          ∙ ap (λ v. if same option other then one.value else v) (h.agree other)
          ∙ sym (one.agree other);
    }

all_behind : {X : Type 0} (P : X → Type 0) (xs ys : List X) → All P (xs ++ ys) → All P ys
all_behind P [] ys h = h
all_behind P (x ∷ xs) ys h = all_behind P xs ys (All-tail P x (xs ++ ys) h)

none_at : (command : Command) (front others : List Given) (name : List ℕ) (behind : List (List ℕ))
    → All IsRight front → AreOptions command (front ++ others) → name ∷ behind ≡ spelled others
    → ((option : OptionName) → name ≡ (row_of option).name → Takes command option
    → found front option ≡ Absent → GivesNoValue option behind)
    → ⊥
none_at command front [] name behind right options left stuck = absurd (cc)
none_at command front (next ∷ others) name behind right options left stuck =
    let next_right : IsRight next = All-head IsRight next others (all_behind IsRight front (next ∷ others) options.right) in
    let takes : Takes command next.option = All-head (λ (g : Given). Takes command g.option) next others
    (all_behind (λ (g : Given). Takes command g.option) front (next ∷ others) options.taken) in
    stuck next.option (ap (λ (l : List (List ℕ)). get_or l 0 []) left) takes
    (not_before front next others right next_right options.once)
    next.behind (spelled others) next.value (ap (λ (l : List (List ℕ)). drop 1 l) left) next_right

-- the next can't be read, so all the words aren't options
pub none_next : (command : Command) (words : List (List ℕ)) (name : List ℕ) (behind : List (List ℕ))
    (values : OptionName → Value)
    → IsReadUpTo command words (name ∷ behind) values
    → ((option : OptionName) → name ≡ (row_of option).name → Takes command option
    → values option ≡ Absent → GivesNoValue option behind)
    → AreNoOptions command words
none_next command words name behind values h stuck given is options =
    let c = cut h.given given (name ∷ behind) h.options.right options.right (sym h.written ∙ is) in
    none_at command h.given c.others name behind h.options.right
    (subst (AreOptions command) c.after options) c.left
    (λ option n t f. stuck option n t (sym (h.agree option) ∙ f))

no_others : (others : List Given) → [] ≡ spelled others → others ≡ []
no_others [] e = refl
no_others (x ∷ xs) e = absurd (cc)

-- why: no option has the name
pub unnamed_next : (command : Command) (words : List (List ℕ)) (name : List ℕ) (behind : List (List ℕ))
    (values : OptionName → Value) → ((option : OptionName) → name ≡ (row_of option).name → ⊥)
    → IsReadUpTo command words (name ∷ behind) values → AreNoOptions command words
unnamed_next command words name behind values none h =
    none_next command words name behind values h (λ option n t f. absurd (none option n))

-- the command doesn't take it
pub refused_next : (command : Command) (words : List (List ℕ)) (name : List ℕ) (behind : List (List ℕ))
    (values : OptionName → Value) (option : OptionName) → name ≡ (row_of option).name → (Takes command option → ⊥)
    → IsReadUpTo command words (name ∷ behind) values → AreNoOptions command words
refused_next command words name behind values option is refused h =
    none_next command words name behind values h
    (λ other n t f. absurd (refused (subst (Takes command) (one_option other option (sym n ∙ is)) t)))

-- it was given before
pub twice_next : (command : Command) (words : List (List ℕ)) (name : List ℕ) (behind : List (List ℕ))
    (values : OptionName → Value) (option : OptionName) → name ≡ (row_of option).name → values option ≢ Absent
    → IsReadUpTo command words (name ∷ behind) values → AreNoOptions command words
twice_next command words name behind values option is given h =
    none_next command words name behind values h
    (λ other n t f. absurd (given (ap values (sym (one_option other option (sym n ∙ is))) ∙ f)))

-- the words behind it give it no value
pub unread_next : (command : Command) (words : List (List ℕ)) (name : List ℕ) (behind : List (List ℕ))
    (values : OptionName → Value) (option : OptionName) → name ≡ (row_of option).name → GivesNoValue option behind
    → IsReadUpTo command words (name ∷ behind) values → AreNoOptions command words
unread_next command words name behind values option is none h =
    none_next command words name behind values h
    (λ other n t f. subst (λ o. GivesNoValue o behind) (sym (one_option other option (sym n ∙ is))) none)

-- words are options in one way
pub one_way : (a b : List Given) → All IsRight a → All IsRight b → spelled a ≡ spelled b → a ≡ b
one_way a b p q e =
    let c = cut a b [] p q (append-nil (spelled a) ∙ e) in
    let none : c.others ≡ [] = no_others c.others c.left in
    sym (append-nil a) ∙ ap (λ o. a ++ o) (sym none) ∙ sym c.after

-- what was read is what is given
pub agrees : (command : Command) (words : List (List ℕ)) (values : OptionName → Value) (given : List Given)
    → IsReadUpTo command words [] values → All IsRight given → words ≡ spelled given
    → (option : OptionName) → found given option ≡ values option
agrees command words values given h right is option =
    ap (λ g. found g option) (one_way given h.given right h.options.right (sym is ∙ h.written ∙ append-nil (spelled h.given)))
    ∙ h.agree option

not_among : (command : Command) (given : List Given) (option : OptionName)
    → All (λ (g : Given). Takes command g.option) given → need command option ≡ Refused → found given option ≡ Absent
not_among command [] option taken refused = refl
not_among command (x ∷ xs) option taken refused =
    let P : Given → Type 0 = λ g. Takes command g.option in
    ⊎_elim
    (λ y. absurd (All-head P x xs taken (ap (need command) (same_is x.option option y) ∙ refused)))
    (λ n. found_other x xs option n ∙ not_among command xs option (All-tail P x xs taken) refused)
    (cases_Bool (same x.option option))

-- and the other way round: what isn't found isn't among them
pub are_taken : (command : Command) (given : List Given) → All IsRight given
    → ((option : OptionName) → need command option ≡ Refused → found given option ≡ Absent)
    → All (λ (g : Given). Takes command g.option) given
are_taken command [] right none = All-nil (λ (g : Given). Takes command g.option)
are_taken command (x ∷ xs) right none =
    let head = All-head IsRight x xs right in
    All-cons (λ (g : Given). Takes command g.option) x xs
    (λ refused. has_value _ _ _ head (sym (found_first x xs x.option refl) ∙ none x.option refused))
    (are_taken command xs (All-tail IsRight x xs right) (λ option refused. not_other x xs option head (none option refused)))

-- an option that the command doesn't take isn't read
pub not_taken : (command : Command) (words rest : List (List ℕ)) (values : OptionName → Value) (option : OptionName)
    → IsReadUpTo command words rest values → need command option ≡ Refused → values option ≡ Absent
not_taken command words rest values option h refused =
    sym (h.agree option) ∙ not_among command h.given option h.options.taken refused

-- what has no value is absent
pub is_absent : (value : Value) → ((value ≢ Absent) → ⊥) → value ≡ Absent
is_absent Absent h = refl
is_absent (Number n) h = absurd (h (λ e. cc))
is_absent (Named name) h = absurd (h (λ e. cc))
is_absent Present h = absurd (h (λ e. cc))
