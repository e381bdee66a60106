use Rattle.std.proofs.Common.{◌≡◌, ◌∷◌, Option, None, Some, MatchOption, map, string_bytes}
use Rattle.bop_words.specs.private.ReadOptions.{values_of}
use Rattle.bop_words.proofs.ReadOptionsLemmas.{is_absent, one_read, refused_next, twice_next, unnamed_next, unread_next}
use Rattle.bop_words.proofs.options.Reading.next.Goals as goal

pub returns-in_default-clause-read : goal.returns-in_default-clause-read
returns-in_default-clause-read c = λ words h.
    unnamed_next c.args.command words c.args.name.now (map string_bytes c.args.behind.now) (values_of c.args.self.options)
    c.in_default.ensures h

pub returns-then-not-takes-clause-read : goal.returns-then-not-takes-clause-read
returns-then-not-takes-clause-read c = λ words h.
    refused_next c.args.command words c.args.name.now (map string_bytes c.args.behind.now) (values_of c.args.self.options)
    c.in-Some.option c.in-Some.ensures (λ t. cc (c.if-not-takes.true, c.takes.ensures.1 t)) h

pub returns-then-has-clause-read : goal.returns-then-has-clause-read
returns-then-has-clause-read c = λ words h.
    twice_next c.args.command words c.args.name.now (map string_bytes c.args.behind.now) (values_of c.args.self.options)
    c.in-Some.option c.in-Some.ensures (c.has.ensures.0 c.if-has.true) h

matched : {X : Type 0} (r : Option X) (A B : Type 0) (P Q : X → Type 0) → MatchOption r A P → (A → B)
    → ((x : X) → P x → Q x) → MatchOption r B Q
matched None A B P Q h none some = none h
matched (Some x) A B P Q h none some = some x h

pub returns-clause-read : goal.returns-clause-read
returns-clause-read c =
    matched c.read.result _ _ _ _ c.read.ensures.one
    (λ none words h. unread_next c.args.command words c.args.name.now (map string_bytes c.args.behind.now)
    (values_of c.args.self.options) c.in-Some.option c.in-Some.ensures none h)
    (λ reading one words h. one_read c.args.command words c.args.name.now (map string_bytes c.args.behind.now)
    (map string_bytes reading.rest.now) (values_of c.args.self.options) (values_of reading.options) c.in-Some.option
    h c.in-Some.ensures (c.takes.ensures.0 c.if-not-takes.false)
    (is_absent _ (λ there. cc (c.if-has.false, c.has.ensures.1 there))) one)
