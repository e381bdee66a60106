-- A text has one answer of the compiler.
use Rattle.std.proofs.Common.{◌≡◌, ◌≢◌, ℕ, ◌<◌, true, false, List, Option, Some, None, Ok, Err, refl, sym, ◌∙◌, ap, subst, arith}
use Rattle.c_tree.specs.declared.breach.Breach.{Breach}
use Rattle.c_tree.specs.declared.place.Place.{Place}
use Rattle.c_tree.specs.Accepted.{text_fault}
use Rattle.c_tree.specs.Item.{Item}
use Rattle.c_token.specs.declared.fault.TokenFault.{TokenFault}
use Rattle.c_token.specs.declared.fault.TokenFault.TheVariants as token
use Rattle.c_token.specs.declared.token.Token.{Token}
use Rattle.c_token.specs.Text.{AreTokensOf, IsFaultOf}
use Rattle.c_token.proofs.OneReading.{tokens_once, faults_once, tokens_or_fault}
use Rattle.c_expr.specs.declared.fault.ParseFault.{ParseFault}
use Rattle.c_expr.specs.declared.fault.ParseFault.TheVariants as parse
use Rattle.c_decl.specs.Units.{IsUnit}
use Rattle.c_decl.specs.Whole.{ParsedWhole}
use Rattle.c_decl.proofs.OneTextTree.{one_answer}
use Rattle.c_check.specs.declared.fault.CheckFault.TheVariants as check
use Rattle.c_check.specs.declared.fault.CheckKind.{CheckKind}
use Rattle.c_check.specs.CheckFaults.{IsFault}
use Rattle.c_layout.specs.declared.fault.LayoutFault.{LayoutFault}
use Rattle.c_layout.specs.declared.fault.LayoutFault.TheVariants as layout
use Rattle.c_layout.specs.LayoutAnswers as laid
use Rattle.low_stmt.specs.declared.count.TheConstants.{MOST_PARTS}
use Rattle.low_stmt.specs.CodeBound.{count_text}
use Rattle.low_link.specs.Front.{Spells, IsAccepted, Fits, IsSource, Refuses}
use Rattle.low_link.specs.Refused.{IsRejection}
use Rattle.low_link.specs.declared.refused.Refused.{Refused}
use Rattle.low_link.specs.declared.refused.Refused.TheVariants.{Token as OfToken, Parse as OfParse, Check as OfCheck, Layout as OfLayout, CodeTooLong, OutOfMemory}

-- the text's tokens have no tree, for this reason
record IsUnparsed (text : List ℕ) (fault : ParseFault) : Type 0 where
  pub tokens : List Token
  pub are : AreTokensOf text tokens
  pub read : ParsedWhole IsUnit tokens (Err fault)

-- the text's tree breaks a rule
record IsBroken (text : List ℕ) (kind : CheckKind) (at : Place) : Type 0 where
  pub ps : List Item
  pub spells : Spells text ps
  pub breach : IsFault (check.Breach kind at) (text_fault ps)

-- the text is accepted, and its objects don't fit
record IsUnfit (text : List ℕ) (fault : LayoutFault) : Type 0 where
  pub ps : List Item
  pub accepted : IsAccepted text ps
  pub fails : laid.IsFault ps fault

-- the text is accepted and fits, and has too many parts
record IsLong (text : List ℕ) : Type 0 where
  pub ps : List Item
  pub accepted : IsAccepted text ps
  pub fits : Fits ps
  pub many : MOST_PARTS < count_text ps

-- why a text is refused, by the stage
data Rejected (text : List ℕ) : Refused → Type 0 where
  of_tokens : (fault : TokenFault) → IsFaultOf text fault → Rejected text (OfToken fault)
  of_tree : (fault : ParseFault) → fault ≢ parse.OutOfMemory → IsUnparsed text fault
      → Rejected text (OfParse fault)
  of_rules : (kind : CheckKind) (at : Place) → IsBroken text kind at
      → Rejected text (OfCheck (check.Breach kind at))
  of_sizes : (fault : LayoutFault) → fault ≢ layout.OutOfMemory → IsUnfit text fault
      → Rejected text (OfLayout fault)
  of_parts : IsLong text → Rejected text CodeTooLong

unparsed : (text : List ℕ) (fault : ParseFault)
    → (tokens : List Token) × AreTokensOf text tokens × ParsedWhole IsUnit tokens (Err fault)
    → IsUnparsed text fault
unparsed text fault h = record { tokens = h.0; are = h.1; read = h.2 }

unfit : (text : List ℕ) (fault : LayoutFault)
    → (ps : List Item) × IsAccepted text ps × laid.IsFault ps fault → IsUnfit text fault
unfit text fault h = record { ps = h.0; accepted = h.1; fails = h.2 }

rejected : (text : List ℕ) (r : Refused) → Refuses text r → IsRejection r → Rejected text r
rejected text (OfToken (token.BadByte p)) h i = of_tokens _ h
rejected text (OfToken (token.OpenComment p)) h i = of_tokens _ h
rejected text (OfToken (token.BadLiteral p)) h i = of_tokens _ h
rejected text (OfToken (token.TooLarge p)) h i = of_tokens _ h
rejected text (OfToken (token.BadLine p)) h i = of_tokens _ h
rejected text (OfToken token.OutOfMemory) h i = absurd h
rejected text (OfParse (parse.Unexpected p)) h i = of_tree _ (λ e. cc) (unparsed text _ h)
rejected text (OfParse (parse.TooDeep p)) h i = of_tree _ (λ e. cc) (unparsed text _ h)
rejected text (OfParse parse.OutOfMemory) h i = absurd h
rejected text (OfCheck (check.Breach kind at)) h i = of_rules kind at (record { ps = h.0; spells = h.1; breach = h.2 })
rejected text (OfCheck check.OutOfMemory) h i = absurd h
rejected text (OfLayout layout.DataTooLarge) h i = of_sizes _ (λ e. cc) (unfit text _ h)
rejected text (OfLayout (layout.FrameTooLarge p)) h i = of_sizes _ (λ e. cc) (unfit text _ h)
rejected text (OfLayout layout.OutOfMemory) h i = absurd h
rejected text CodeTooLong h i =
    of_parts (record { ps = h.0; accepted = h.1; fits = h.2; many = h.3 })
rejected text OutOfMemory h i = absurd i

pub one_tree : (text : List ℕ) (ps qs : List Item) → Spells text ps → Spells text qs → ps ≡ qs
one_tree text ps qs s t =
    let same = tokens_once text s.tokens t.tokens s.are t.are in
    let agree : Ok ps ≡ Ok qs = one_answer t.tokens (Ok ps) (Ok qs) (subst (λ ts. ParsedWhole IsUnit ts (Ok ps)) same s.read) t.read in
    cc

faults_agree : (ts : List Token) (a b : ParseFault) → a ≢ parse.OutOfMemory → b ≢ parse.OutOfMemory
    → ParsedWhole IsUnit ts (Err a) → ParsedWhole IsUnit ts (Err b) → a ≡ b
faults_agree ts (parse.Unexpected p) (parse.Unexpected q) m n h i = let e = one_answer ts (Err (parse.Unexpected p)) (Err (parse.Unexpected q)) h i in cc
faults_agree ts (parse.Unexpected p) (parse.TooDeep q) m n h i = let e = one_answer ts (Err (parse.Unexpected p)) (Err (parse.TooDeep q)) h i in cc
faults_agree ts (parse.TooDeep p) (parse.Unexpected q) m n h i = let e = one_answer ts (Err (parse.TooDeep p)) (Err (parse.Unexpected q)) h i in cc
faults_agree ts (parse.TooDeep p) (parse.TooDeep q) m n h i = let e = one_answer ts (Err (parse.TooDeep p)) (Err (parse.TooDeep q)) h i in cc
faults_agree ts parse.OutOfMemory b m n h i = absurd (m refl)
faults_agree ts a parse.OutOfMemory m n h i = absurd (n refl)

no_tree : (ts : List Token) (ps : List Item) (fault : ParseFault) → fault ≢ parse.OutOfMemory
    → ParsedWhole IsUnit ts (Ok ps) → ParsedWhole IsUnit ts (Err fault) → ⊥
no_tree ts ps (parse.Unexpected p) n h i = let e : Ok ps ≡ Err (parse.Unexpected p) = one_answer ts (Ok ps) (Err (parse.Unexpected p)) h i in cc
no_tree ts ps (parse.TooDeep p) n h i = let e : Ok ps ≡ Err (parse.TooDeep p) = one_answer ts (Ok ps) (Err (parse.TooDeep p)) h i in cc
no_tree ts ps parse.OutOfMemory n h i = n refl

one_parse_fault : (text : List ℕ) (a b : ParseFault) → a ≢ parse.OutOfMemory
    → b ≢ parse.OutOfMemory → IsUnparsed text a → IsUnparsed text b → a ≡ b
one_parse_fault text a b m n h i =
    let same = tokens_once text h.tokens i.tokens h.are i.are in
    faults_agree i.tokens a b m n (subst (λ ts. ParsedWhole IsUnit ts (Err a)) same h.read) i.read

spells_or_unparsed : (text : List ℕ) (ps : List Item) (fault : ParseFault)
    → fault ≢ parse.OutOfMemory → Spells text ps → IsUnparsed text fault → ⊥
spells_or_unparsed text ps fault n s h =
    let same = tokens_once text s.tokens h.tokens s.are h.are in
    no_tree h.tokens ps fault n (subst (λ ts. ParsedWhole IsUnit ts (Ok ps)) same s.read) h.read

-- a breach is one fault
one_breach : (found : Option Breach) (k l : CheckKind) (p q : Place)
    → IsFault (check.Breach k p) found → IsFault (check.Breach l q) found → (k ≡ l) × (p ≡ q)
one_breach None k l p q h i = absurd h
one_breach (Some b) k l p q h i = (sym h.0 ∙ i.0, sym h.1 ∙ i.1)

no_breach : (found : Option Breach) (k : CheckKind) (p : Place) → found ≡ None
    → IsFault (check.Breach k p) found → ⊥
no_breach None k p e h = h
no_breach (Some b) k p e h = cc

accepted_or_broken : (text : List ℕ) (ps : List Item) (k : CheckKind) (p : Place)
    → IsAccepted text ps → IsBroken text k p → ⊥
accepted_or_broken text ps k p a h =
    let same = one_tree text ps h.ps a.spells h.spells in
    no_breach (text_fault h.ps) k p (subst (λ qs. text_fault qs ≡ None) same a.faultless) h.breach

one_size_fault : (ps : List Item) (a b : LayoutFault) → a ≢ layout.OutOfMemory
    → b ≢ layout.OutOfMemory → laid.IsFault ps a → laid.IsFault ps b → a ≡ b
one_size_fault ps layout.DataTooLarge layout.DataTooLarge m n h i = refl
one_size_fault ps layout.DataTooLarge (layout.FrameTooLarge q) m n h i = let e : true ≡ false = sym h ∙ i.0 in cc
one_size_fault ps (layout.FrameTooLarge p) layout.DataTooLarge m n h i = let e : true ≡ false = sym i ∙ h.0 in cc
one_size_fault ps (layout.FrameTooLarge p) (layout.FrameTooLarge q) m n h i = let e : Some p ≡ Some q = sym h.1 ∙ i.1 in cc
one_size_fault ps layout.OutOfMemory b m n h i = absurd (m refl)
one_size_fault ps a layout.OutOfMemory m n h i = absurd (n refl)

fits_or_unfit : (ps : List Item) (fault : LayoutFault) → fault ≢ layout.OutOfMemory → Fits ps
    → laid.IsFault ps fault → ⊥
fits_or_unfit ps layout.DataTooLarge n f h = let e : true ≡ false = sym h ∙ f.globals in cc
fits_or_unfit ps (layout.FrameTooLarge p) n f h = let e : Some p ≡ None = sym h.1 ∙ f.stack in cc
fits_or_unfit ps layout.OutOfMemory n f h = n refl

long_or_unfit : (text : List ℕ) (fault : LayoutFault) → fault ≢ layout.OutOfMemory → IsLong text
    → IsUnfit text fault → ⊥
long_or_unfit text fault n h i =
    fits_or_unfit i.ps fault n (subst Fits (one_tree text h.ps i.ps h.accepted.spells i.accepted.spells) h.fits) i.fails

one_rejection : (text : List ℕ) (r q : Refused) → Rejected text r → Rejected text q → r ≡ q
one_rejection text r q (of_tokens a h) (of_tokens b i) = ap (λ f. OfToken f) (faults_once text a b h i)
one_rejection text r q (of_tokens a h) (of_tree b n i) = absurd (tokens_or_fault text i.tokens a i.are h)
one_rejection text r q (of_tokens a h) (of_rules k p i) = absurd (tokens_or_fault text i.spells.tokens a i.spells.are h)
one_rejection text r q (of_tokens a h) (of_sizes b n i) = absurd (tokens_or_fault text i.accepted.spells.tokens a i.accepted.spells.are h)
one_rejection text r q (of_tree a m h) (of_tokens b i) = absurd (tokens_or_fault text h.tokens b h.are i)
one_rejection text r q (of_tree a m h) (of_tree b n i) = ap (λ f. OfParse f) (one_parse_fault text a b m n h i)
one_rejection text r q (of_tree a m h) (of_rules k p i) = absurd (spells_or_unparsed text i.ps a m i.spells h)
one_rejection text r q (of_tree a m h) (of_sizes b n i) = absurd (spells_or_unparsed text i.ps a m i.accepted.spells h)
one_rejection text r q (of_rules k p h) (of_tokens b i) = absurd (tokens_or_fault text h.spells.tokens b h.spells.are i)
one_rejection text r q (of_rules k p h) (of_tree b n i) = absurd (spells_or_unparsed text h.ps b n h.spells i)
one_rejection text r q (of_rules k p h) (of_rules l o i) =
    let same = one_tree text h.ps i.ps h.spells i.spells in
    let both = one_breach (text_fault i.ps) k l p o (subst (λ qs. IsFault (check.Breach k p) (text_fault qs)) same h.breach) i.breach in
    let kinds = both.0 in
    let places = both.1 in
    cc
one_rejection text r q (of_rules k p h) (of_sizes b n i) = absurd (accepted_or_broken text i.ps k p i.accepted h)
one_rejection text r q (of_sizes a m h) (of_tokens b i) = absurd (tokens_or_fault text h.accepted.spells.tokens b h.accepted.spells.are i)
one_rejection text r q (of_sizes a m h) (of_tree b n i) = absurd (spells_or_unparsed text h.ps b n h.accepted.spells i)
one_rejection text r q (of_sizes a m h) (of_rules k p i) = absurd (accepted_or_broken text h.ps k p h.accepted i)
one_rejection text r q (of_sizes a m h) (of_sizes b n i) =
    let same = one_tree text h.ps i.ps h.accepted.spells i.accepted.spells in
    ap (λ f. OfLayout f) (one_size_fault i.ps a b m n (subst (λ qs. laid.IsFault qs a) same h.fails) i.fails)
one_rejection text r q (of_tokens a h) (of_parts i) = absurd (tokens_or_fault text i.accepted.spells.tokens a i.accepted.spells.are h)
one_rejection text r q (of_tree a m h) (of_parts i) = absurd (spells_or_unparsed text i.ps a m i.accepted.spells h)
one_rejection text r q (of_rules k p h) (of_parts i) = absurd (accepted_or_broken text i.ps k p i.accepted h)
one_rejection text r q (of_sizes a m h) (of_parts i) = absurd (long_or_unfit text a m i h)
one_rejection text r q (of_parts h) (of_tokens b i) = absurd (tokens_or_fault text h.accepted.spells.tokens b h.accepted.spells.are i)
one_rejection text r q (of_parts h) (of_tree b n i) = absurd (spells_or_unparsed text h.ps b n h.accepted.spells i)
one_rejection text r q (of_parts h) (of_rules k p i) = absurd (accepted_or_broken text h.ps k p h.accepted i)
one_rejection text r q (of_parts h) (of_sizes b n i) = absurd (long_or_unfit text b n h i)
one_rejection text r q (of_parts h) (of_parts i) = refl

pub one_refusal : (text : List ℕ) (r q : Refused) → Refuses text r → Refuses text q → IsRejection r
    → IsRejection q → r ≡ q
one_refusal text r q h i x y = one_rejection text r q (rejected text r h x) (rejected text q i y)

source_or_rejected : (text : List ℕ) (ps : List Item) (r : Refused) → IsSource text ps
    → Rejected text r → ⊥
source_or_rejected text ps r s (of_tokens b i) = tokens_or_fault text s.accepted.spells.tokens b s.accepted.spells.are i
source_or_rejected text ps r s (of_tree b n i) = spells_or_unparsed text ps b n s.accepted.spells i
source_or_rejected text ps r s (of_rules k p i) = accepted_or_broken text ps k p s.accepted i
source_or_rejected text ps r s (of_sizes b n i) = fits_or_unfit i.ps b n (subst Fits (one_tree text ps i.ps s.accepted.spells i.accepted.spells) s.fits) i.fails
source_or_rejected text ps r s (of_parts i) =
    let same : count_text ps ≡ count_text i.ps = ap count_text (one_tree text ps i.ps s.accepted.spells i.accepted.spells) in
    omega (arith, same, s.few, i.many)

pub source_or_refused : (text : List ℕ) (ps : List Item) (r : Refused) → IsSource text ps
    → Refuses text r → IsRejection r → ⊥
source_or_refused text ps r s h x = source_or_rejected text ps r s (rejected text r h x)
