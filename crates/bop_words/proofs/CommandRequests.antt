-- What each command asks for, by the options that were read.
use Rattle.std.proofs.Common.{◌≡◌, ◌↔◌, ℕ, Bool, true, false, List, [], ◌∷◌, ◌++◌, Option, None, Some, Bor, Result, Ok, Err, IfOk, is_some, option_copied, unwrap_or, refl, sym, ap, ◌∙◌, subst}
use Rattle.bop_words.specs.CommandTable.{Usually, StandsFor, need, word_of}
use Rattle.bop_words.specs.OptionTable.{Absent, Named, Number, IsName, Value}
use Rattle.bop_words.specs.WordRequests.{File, Made, Race, Seq, Mean, Check, Replay, Text, AskNothing, IsRequest, Request, optional_name, presence, program_words, request_of, value_of}
use Rattle.bop_words.specs.declared.command.Command.{Command}
use Rattle.bop_words.specs.declared.command.Command.TheVariants as command
use Rattle.bop_words.specs.declared.limits.TheConstants.{USUAL_BUDGET, USUAL_GROUP, USUAL_WORKERS}
use Rattle.bop_words.specs.declared.option_name.OptionName.{OptionName}
use Rattle.bop_words.specs.declared.option_name.OptionName.TheVariants.{Workers, Group, Budget, Journal, Confirm, Seed, Regions, Schedule}
use Rattle.bop_words.specs.declared.options.Options.{Options}
use Rattle.bop_words.specs.declared.request.Request.{Request as RequestOfWords}
use Rattle.bop_words.specs.declared.request.WordFault.{WordFault}
use Rattle.bop_words.specs.declared.request.WordFault.TheVariants as fault
use Rattle.bop_words.specs.private.ReadOptions.{Answers, AreRead, IsReadUpTo, has_file, optional_number, values_of}
use Rattle.bop_words.proofs.ReadOptionsLemmas.{not_taken}
use Rattle.bop_words.proofs.UpdatedOptions.{by_option}
use Rattle.bop_words.proofs.WordRequestsLemmas.{is_request, missing}

-- words with a name, and words without one, are read
pub line_read : (c : Command) (name program : List ℕ) (words : List (List ℕ)) (values : OptionName → Value)
    → program ≡ name → IsName name → IsReadUpTo c words [] values → AreRead c (name ∷ words) (Some program) values
line_read c name program words values same named h =
    record { options = words; written = ap (λ n. n ∷ words) (sym same); named = subst IsName (sym same) named; read = h }

words_read : (c : Command) (words : List (List ℕ)) (values : OptionName → Value) → IsReadUpTo c words [] values
    → AreRead c words None values
words_read c words values h = record { options = words; written = refl; named = tt; read = h }

-- what is answered is exact
pub asked : (words : List (List ℕ)) (answer : Result RequestOfWords WordFault) → Answers words answer
    → IfOk answer (λ request. IsRequest words (request_of request))
asked words (Ok request) h = h
asked words (Err fault.BadWords) h = tt
asked words (Err fault.OutOfMemory) h = tt

pub exact : (words : List (List ℕ)) (answer : Result RequestOfWords WordFault) → Answers words answer
    → (answer ≡ Err fault.BadWords) ↔ AskNothing words
exact words (Ok request) h = (λ e. absurd (cc), λ none. absurd (none (request_of request) h))
exact words (Err fault.BadWords) h = (λ e. h, λ none. refl)
exact words (Err fault.OutOfMemory) h = (λ e. absurd (cc), λ none. absurd (h none))

usual : (given : Option ℕ) (number other : ℕ) → other ≡ unwrap_or given number
    → StandsFor (Usually number) (optional_number given) (Number other)
usual None number other e = ap Number e
usual (Some n) number other e = ap Number e

required : (given : Option ℕ) (number : ℕ) → given ≡ Some number
    → (optional_number given ≡ Absent → ⊥) × (Number number ≡ optional_number given)
required given number e =
    let is : optional_number given ≡ Number number = ap optional_number e in
    ((λ none. let wrong : Number number ≡ Absent = sym is ∙ none in cc), sym is)

required_name : (given : Option (Bor (List ℕ))) (name : Bor (List ℕ)) (text : List ℕ) → given ≡ Some name → text ≡ name.now
    → (optional_name (option_copied given) ≡ Absent → ⊥) × (Named text ≡ optional_name (option_copied given))
required_name given name text e same =
    let is : optional_name (option_copied given) ≡ Named name.now = ap (λ g. optional_name (option_copied g)) e in
    ((λ none. let wrong : Named name.now ≡ Absent = sym is ∙ none in cc), ap Named same ∙ sym is)

pub seq_request : (words : List (List ℕ)) (options : Options) (program : List ℕ) (text : List ℕ) (budget : ℕ) → AreRead command.Seq words (Some program) (values_of options)
    → program ≡ text
    → budget ≡ unwrap_or options.budget USUAL_BUDGET
    → IsRequest (word_of command.Seq ∷ words) (Seq text budget)
seq_request words options program text budget h name_is budget_is =
    is_request command.Seq words (Some program) (values_of options) (Seq text budget) h refl (ap Some name_is)
    (by_option (λ o. StandsFor (need command.Seq o) (values_of options o) (value_of (Seq text budget) o))
    (not_taken command.Seq h.options [] (values_of options) Workers h.read refl, refl)
    (not_taken command.Seq h.options [] (values_of options) Group h.read refl, refl)
    (usual options.budget USUAL_BUDGET budget budget_is)
    (not_taken command.Seq h.options [] (values_of options) Journal h.read refl, refl)
    (not_taken command.Seq h.options [] (values_of options) Confirm h.read refl, refl)
    (not_taken command.Seq h.options [] (values_of options) Seed h.read refl, refl)
    (not_taken command.Seq h.options [] (values_of options) Regions h.read refl, refl)
    (not_taken command.Seq h.options [] (values_of options) Schedule h.read refl, refl))

pub mean_request : (words : List (List ℕ)) (options : Options) (program : List ℕ) (text : List ℕ) (budget : ℕ) → AreRead command.Mean words (Some program) (values_of options)
    → program ≡ text
    → budget ≡ unwrap_or options.budget USUAL_BUDGET
    → IsRequest (word_of command.Mean ∷ words) (Mean text budget)
mean_request words options program text budget h name_is budget_is =
    is_request command.Mean words (Some program) (values_of options) (Mean text budget) h refl (ap Some name_is)
    (by_option (λ o. StandsFor (need command.Mean o) (values_of options o) (value_of (Mean text budget) o))
    (not_taken command.Mean h.options [] (values_of options) Workers h.read refl, refl)
    (not_taken command.Mean h.options [] (values_of options) Group h.read refl, refl)
    (usual options.budget USUAL_BUDGET budget budget_is)
    (not_taken command.Mean h.options [] (values_of options) Journal h.read refl, refl)
    (not_taken command.Mean h.options [] (values_of options) Confirm h.read refl, refl)
    (not_taken command.Mean h.options [] (values_of options) Seed h.read refl, refl)
    (not_taken command.Mean h.options [] (values_of options) Regions h.read refl, refl)
    (not_taken command.Mean h.options [] (values_of options) Schedule h.read refl, refl))

pub check_request : (words : List (List ℕ)) (options : Options) (program : List ℕ) (text : List ℕ) → AreRead command.Check words (Some program) (values_of options)
    → program ≡ text
    → IsRequest (word_of command.Check ∷ words) (Check text)
check_request words options program text h name_is =
    is_request command.Check words (Some program) (values_of options) (Check text) h refl (ap Some name_is)
    (by_option (λ o. StandsFor (need command.Check o) (values_of options o) (value_of (Check text) o))
    (not_taken command.Check h.options [] (values_of options) Workers h.read refl, refl)
    (not_taken command.Check h.options [] (values_of options) Group h.read refl, refl)
    (not_taken command.Check h.options [] (values_of options) Budget h.read refl, refl)
    (not_taken command.Check h.options [] (values_of options) Journal h.read refl, refl)
    (not_taken command.Check h.options [] (values_of options) Confirm h.read refl, refl)
    (not_taken command.Check h.options [] (values_of options) Seed h.read refl, refl)
    (not_taken command.Check h.options [] (values_of options) Regions h.read refl, refl)
    (not_taken command.Check h.options [] (values_of options) Schedule h.read refl, refl))

pub run_request : (words : List (List ℕ)) (options : Options) (program : List ℕ) (text : List ℕ) (workers : ℕ) (group : ℕ) (budget : ℕ) (journal : Option (List ℕ)) (confirm : Bool) → AreRead command.Run words (Some program) (values_of options)
    → program ≡ text
    → workers ≡ unwrap_or options.workers USUAL_WORKERS
    → group ≡ unwrap_or options.group USUAL_GROUP
    → budget ≡ unwrap_or options.budget USUAL_BUDGET
    → journal ≡ option_copied options.journal
    → confirm ≡ options.confirm
    → IsRequest (word_of command.Run ∷ words) (Race (File text) workers group budget journal confirm)
run_request words options program text workers group budget journal confirm h name_is workers_is group_is budget_is journal_is confirm_is =
    is_request command.Run words (Some program) (values_of options) (Race (File text) workers group budget journal confirm) h refl (ap Some name_is)
    (by_option (λ o. StandsFor (need command.Run o) (values_of options o) (value_of (Race (File text) workers group budget journal confirm) o))
    (usual options.workers USUAL_WORKERS workers workers_is)
    (usual options.group USUAL_GROUP group group_is)
    (usual options.budget USUAL_BUDGET budget budget_is)
    (ap optional_name journal_is)
    (ap presence confirm_is)
    (not_taken command.Run h.options [] (values_of options) Seed h.read refl, refl)
    (not_taken command.Run h.options [] (values_of options) Regions h.read refl, refl)
    (not_taken command.Run h.options [] (values_of options) Schedule h.read refl, refl))

pub replay_request : (words : List (List ℕ)) (options : Options) (program : List ℕ) (text : List ℕ) (schedule : List ℕ) (named : Bor (List ℕ)) (group : ℕ) (budget : ℕ) → AreRead command.Replay words (Some program) (values_of options)
    → program ≡ text
    → options.schedule ≡ Some named
    → schedule ≡ named.now
    → group ≡ unwrap_or options.group USUAL_GROUP
    → budget ≡ unwrap_or options.budget USUAL_BUDGET
    → IsRequest (word_of command.Replay ∷ words) (Replay text schedule group budget)
replay_request words options program text schedule named group budget h name_is schedule_is same group_is budget_is =
    is_request command.Replay words (Some program) (values_of options) (Replay text schedule group budget) h refl (ap Some name_is)
    (by_option (λ o. StandsFor (need command.Replay o) (values_of options o) (value_of (Replay text schedule group budget) o))
    (not_taken command.Replay h.options [] (values_of options) Workers h.read refl, refl)
    (usual options.group USUAL_GROUP group group_is)
    (usual options.budget USUAL_BUDGET budget budget_is)
    (not_taken command.Replay h.options [] (values_of options) Journal h.read refl, refl)
    (not_taken command.Replay h.options [] (values_of options) Confirm h.read refl, refl)
    (not_taken command.Replay h.options [] (values_of options) Seed h.read refl, refl)
    (not_taken command.Replay h.options [] (values_of options) Regions h.read refl, refl)
    (required_name options.schedule named schedule schedule_is same))

pub demo_request : (words : List (List ℕ)) (options : Options) (seed : ℕ) (regions : ℕ) (workers : ℕ) (group : ℕ) (budget : ℕ) → IsReadUpTo command.Demo words [] (values_of options)
    → options.seed ≡ Some seed
    → options.regions ≡ Some regions
    → workers ≡ unwrap_or options.workers USUAL_WORKERS
    → group ≡ unwrap_or options.group USUAL_GROUP
    → budget ≡ unwrap_or options.budget USUAL_BUDGET
    → IsRequest (word_of command.Demo ∷ words) (Race (Made seed regions) workers group budget None false)
demo_request words options seed regions workers group budget h seed_is regions_is workers_is group_is budget_is =
    is_request command.Demo words None (values_of options) (Race (Made seed regions) workers group budget None false) (words_read command.Demo words (values_of options) h) refl refl
    (by_option (λ o. StandsFor (need command.Demo o) (values_of options o) (value_of (Race (Made seed regions) workers group budget None false) o))
    (usual options.workers USUAL_WORKERS workers workers_is)
    (usual options.group USUAL_GROUP group group_is)
    (usual options.budget USUAL_BUDGET budget budget_is)
    (not_taken command.Demo words [] (values_of options) Journal h refl, refl)
    (not_taken command.Demo words [] (values_of options) Confirm h refl, refl)
    (required options.seed seed seed_is)
    (required options.regions regions regions_is)
    (not_taken command.Demo words [] (values_of options) Schedule h refl, refl))

pub source_request : (words : List (List ℕ)) (options : Options) (seed : ℕ) (regions : ℕ) → IsReadUpTo command.Source words [] (values_of options)
    → options.seed ≡ Some seed
    → options.regions ≡ Some regions
    → IsRequest (word_of command.Source ∷ words) (Text seed regions)
source_request words options seed regions h seed_is regions_is =
    is_request command.Source words None (values_of options) (Text seed regions) (words_read command.Source words (values_of options) h) refl refl
    (by_option (λ o. StandsFor (need command.Source o) (values_of options o) (value_of (Text seed regions) o))
    (not_taken command.Source words [] (values_of options) Workers h refl, refl)
    (not_taken command.Source words [] (values_of options) Group h refl, refl)
    (not_taken command.Source words [] (values_of options) Budget h refl, refl)
    (not_taken command.Source words [] (values_of options) Journal h refl, refl)
    (not_taken command.Source words [] (values_of options) Confirm h refl, refl)
    (required options.seed seed seed_is)
    (required options.regions regions regions_is)
    (not_taken command.Source words [] (values_of options) Schedule h refl, refl))

-- so they ask for something
pub seq_asks : (words : List (List ℕ)) (options : Options) (program : List ℕ)
    → AreRead command.Seq words (Some program) (values_of options) → AskNothing (word_of command.Seq ∷ words) → ⊥
seq_asks words options program h none = none (Seq program (unwrap_or options.budget USUAL_BUDGET)) (seq_request words options program program (unwrap_or options.budget USUAL_BUDGET) h refl refl)

pub mean_asks : (words : List (List ℕ)) (options : Options) (program : List ℕ)
    → AreRead command.Mean words (Some program) (values_of options) → AskNothing (word_of command.Mean ∷ words) → ⊥
mean_asks words options program h none = none (Mean program (unwrap_or options.budget USUAL_BUDGET)) (mean_request words options program program (unwrap_or options.budget USUAL_BUDGET) h refl refl)

pub check_asks : (words : List (List ℕ)) (options : Options) (program : List ℕ)
    → AreRead command.Check words (Some program) (values_of options) → AskNothing (word_of command.Check ∷ words) → ⊥
check_asks words options program h none = none (Check program) (check_request words options program program h refl)

pub run_asks : (words : List (List ℕ)) (options : Options) (program : List ℕ)
    → AreRead command.Run words (Some program) (values_of options) → AskNothing (word_of command.Run ∷ words) → ⊥
run_asks words options program h none =
    none (Race (File program) (unwrap_or options.workers USUAL_WORKERS) (unwrap_or options.group USUAL_GROUP) (unwrap_or options.budget USUAL_BUDGET) (option_copied options.journal) options.confirm)
    (run_request words options program program (unwrap_or options.workers USUAL_WORKERS) (unwrap_or options.group USUAL_GROUP) (unwrap_or options.budget USUAL_BUDGET) (option_copied options.journal) options.confirm h refl refl refl refl refl refl)

pub replay_asks : (words : List (List ℕ)) (options : Options) (program : List ℕ) (named : Bor (List ℕ))
    → AreRead command.Replay words (Some program) (values_of options) → options.schedule ≡ Some named
    → AskNothing (word_of command.Replay ∷ words) → ⊥
replay_asks words options program named h is none =
    none (Replay program named.now (unwrap_or options.group USUAL_GROUP) (unwrap_or options.budget USUAL_BUDGET))
    (replay_request words options program program named.now named (unwrap_or options.group USUAL_GROUP) (unwrap_or options.budget USUAL_BUDGET) h refl is refl refl refl)

-- an option that must be given isn't
pub no_schedule : (words : List (List ℕ)) (options : Options) (program : List ℕ)
    → AreRead command.Replay words (Some program) (values_of options) → options.schedule ≡ None
    → AskNothing (word_of command.Replay ∷ words)
no_schedule words options program h is =
    missing command.Replay words (Some program) (values_of options) Schedule refl h refl (ap (λ s. optional_name (option_copied s)) is)

pub no_seed : (words : List (List ℕ)) (options : Options) → IsReadUpTo command.Demo words [] (values_of options)
    → options.seed ≡ None → AskNothing (word_of command.Demo ∷ words)
no_seed words options h is =
    missing command.Demo words None (values_of options) Seed refl (words_read command.Demo words (values_of options) h) refl
    (ap optional_number is)

pub no_regions : (words : List (List ℕ)) (options : Options) → IsReadUpTo command.Demo words [] (values_of options)
    → options.regions ≡ None → AskNothing (word_of command.Demo ∷ words)
no_regions words options h is =
    missing command.Demo words None (values_of options) Regions refl (words_read command.Demo words (values_of options) h) refl
    (ap optional_number is)

pub no_source_seed : (words : List (List ℕ)) (options : Options) → IsReadUpTo command.Source words [] (values_of options)
    → options.seed ≡ None → AskNothing (word_of command.Source ∷ words)
no_source_seed words options h is =
    missing command.Source words None (values_of options) Seed refl (words_read command.Source words (values_of options) h) refl
    (ap optional_number is)

pub no_source_regions : (words : List (List ℕ)) (options : Options) → IsReadUpTo command.Source words [] (values_of options)
    → options.regions ≡ None → AskNothing (word_of command.Source ∷ words)
no_source_regions words options h is =
    missing command.Source words None (values_of options) Regions refl (words_read command.Source words (values_of options) h) refl
    (ap optional_number is)

-- what is answered to the words of a command
pub answered : (c d : Command) (words : List (List ℕ)) (answer : Result RequestOfWords WordFault) → c ≡ d
    → Answers (word_of d ∷ words) answer → Answers (word_of c ∷ words) answer
answered c d words answer is h = subst (λ k. Answers (word_of k ∷ words) answer) (sym is) h
