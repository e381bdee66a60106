-- One option more among those that the code has read.
use Rattle.std.proofs.Common.{◌≡◌, ℕ, true, List, [], ◌∷◌, Option, None, Some, Bor, refl, sym, ap, subst}
use Rattle.rv_step.specs.declared.limits.TheConstants.{BUDGET_LIMIT, GROUP_LIMIT}
use Rattle.bop_words.specs.declared.limits.TheConstants.{REGIONS_LIMIT, WORKERS_LIMIT}
use Rattle.bop_words.specs.OptionTable.{Named, Number, Present, IsName, IsNumber}
use Rattle.bop_words.specs.declared.option_name.OptionName.{OptionName}
use Rattle.bop_words.specs.declared.option_name.OptionName.TheVariants.{Workers, Group, Budget, Journal, Confirm, Seed, Regions, Schedule}
use Rattle.bop_words.specs.declared.options.Options.{Options}
use Rattle.bop_words.specs.private.ReadOptions.{IsWith, ReadsOne, values_of, with_value}

pub by_option : (P : OptionName → Type 0) → P Workers → P Group → P Budget → P Journal → P Confirm → P Seed → P Regions
    → P Schedule → (option : OptionName) → P option
by_option P w g b j c s r h Workers = w
by_option P w g b j c s r h Group = g
by_option P w g b j c s r h Budget = b
by_option P w g b j c s r h Journal = j
by_option P w g b j c s r h Confirm = c
by_option P w g b j c s r h Seed = s
by_option P w g b j c s r h Regions = r
by_option P w g b j c s r h Schedule = h

pub workers_set : (old : Options) (word : List ℕ) (option : OptionName) (number : ℕ) → option ≡ Workers
    → IsNumber 1 WORKERS_LIMIT word number → IsWith old (record old { workers = Some number }) word option
workers_set old word option number is h =
    subst (IsWith old (record old { workers = Some number }) word) (sym is) (
      Number number,
      h,
      by_option (λ o. values_of (record old { workers = Some number }) o ≡ with_value (values_of old) Workers (Number number) o)
          refl refl refl refl refl refl refl refl,
    )

pub group_set : (old : Options) (word : List ℕ) (option : OptionName) (number : ℕ) → option ≡ Group
    → IsNumber 1 GROUP_LIMIT word number → IsWith old (record old { group = Some number }) word option
group_set old word option number is h =
    subst (IsWith old (record old { group = Some number }) word) (sym is) (
      Number number,
      h,
      by_option (λ o. values_of (record old { group = Some number }) o ≡ with_value (values_of old) Group (Number number) o)
          refl refl refl refl refl refl refl refl,
    )

pub budget_set : (old : Options) (word : List ℕ) (option : OptionName) (number : ℕ) → option ≡ Budget
    → IsNumber 1 BUDGET_LIMIT word number → IsWith old (record old { budget = Some number }) word option
budget_set old word option number is h =
    subst (IsWith old (record old { budget = Some number }) word) (sym is) (
      Number number,
      h,
      by_option (λ o. values_of (record old { budget = Some number }) o ≡ with_value (values_of old) Budget (Number number) o)
          refl refl refl refl refl refl refl refl,
    )

pub journal_set : (old : Options) (word : List ℕ) (option : OptionName) (name : Bor (List ℕ)) → option ≡ Journal
    → name.now ≡ word → IsName word → IsWith old (record old { journal = Some name }) word option
journal_set old word option name is same h =
    subst (IsWith old (record old { journal = Some name }) word) (sym is) (
      Named word,
      (refl, h),
      by_option (λ o. values_of (record old { journal = Some name }) o ≡ with_value (values_of old) Journal (Named word) o)
          refl refl refl (ap Named same) refl refl refl refl,
    )

pub seed_set : (old : Options) (word : List ℕ) (option : OptionName) (number : ℕ) → option ≡ Seed
    → IsNumber 0 4294967295 word number → IsWith old (record old { seed = Some number }) word option
seed_set old word option number is h =
    subst (IsWith old (record old { seed = Some number }) word) (sym is) (
      Number number,
      h,
      by_option (λ o. values_of (record old { seed = Some number }) o ≡ with_value (values_of old) Seed (Number number) o)
          refl refl refl refl refl refl refl refl,
    )

pub regions_set : (old : Options) (word : List ℕ) (option : OptionName) (number : ℕ) → option ≡ Regions
    → IsNumber 1 REGIONS_LIMIT word number → IsWith old (record old { regions = Some number }) word option
regions_set old word option number is h =
    subst (IsWith old (record old { regions = Some number }) word) (sym is) (
      Number number,
      h,
      by_option (λ o. values_of (record old { regions = Some number }) o ≡ with_value (values_of old) Regions (Number number) o)
          refl refl refl refl refl refl refl refl,
    )

pub schedule_set : (old : Options) (word : List ℕ) (option : OptionName) (name : Bor (List ℕ)) → option ≡ Schedule
    → name.now ≡ word → IsName word → IsWith old (record old { schedule = Some name }) word option
schedule_set old word option name is same h =
    subst (IsWith old (record old { schedule = Some name }) word) (sym is) (
      Named word,
      (refl, h),
      by_option (λ o. values_of (record old { schedule = Some name }) o ≡ with_value (values_of old) Schedule (Named word) o)
          refl refl refl refl refl refl refl (ap Named same),
    )

pub confirm_set : (old : Options) (option : OptionName) (behind : List (List ℕ)) → option ≡ Confirm
    → ReadsOne option behind behind (values_of old) (values_of (record old { confirm = true }))
confirm_set old option behind is =
    subst (λ o. ReadsOne o behind behind (values_of old) (values_of (record old { confirm = true }))) (sym is)
    (record {
      words = [];
      value = Present;
      written = refl;
      right = tt;
      agree = by_option (λ o. values_of (record old { confirm = true }) o ≡ with_value (values_of old) Confirm Present o)
          refl refl refl refl refl refl refl refl;
    })
