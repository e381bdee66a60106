-- Each effect depends on what it reads alone, and changes what it writes alone.
use Rattle.std.proofs.Common.{◌≡◌, ℕ, ◌+◌, ◌-◌, ◌%◌, ◌^◌, ◌≤◌, List, [], ◌∷◌, ◌++◌, length, refl, sym, ap, ◌∙◌, subst, arith, Option, Some, None, Bool, true, false}
use Rattle.std.specs.Prelude.{slice_get, nat_le, ◌==◌, if◌then◌else◌}
use Rattle.std.specs.Int.{w32, cast_signed}
use Rattle.std.proofs.lemmas.Grind.{common_steps}
use Rattle.std.proofs.lemmas.Bool.Decides.{nat_tests}
use Rattle.bop_bits.specs.MemoryNumbers.{byte_at, with_number, is_in_memory}
use Rattle.bop_bits.specs.declared.map.TheConstants.{DATA_FROM}
use Rattle.access_log.specs.declared.spot.Spot.{Spot}
use Rattle.access_log.specs.declared.spot.Spot.TheVariants.{Register, Cursor, Byte}
use Rattle.rv_code.specs.declared.call.TheConstants.{A0}
use Rattle.rv_code.specs.declared.effect.Call.{Call}
use Rattle.rv_code.specs.declared.effect.Call.TheVariants as call
use Rattle.rv_code.specs.declared.effect.Effect.{Effect}
use Rattle.rv_code.specs.declared.effect.Effect.TheVariants.{Sets, Loads, Stores, Jumps, Links, Proceeds, Breaks, Calls}
use Rattle.rv_code.specs.declared.stop.Stop.{Stop}
use Rattle.rv_code.specs.declared.stop.Stop.TheVariants as stop
use Rattle.rv_code.specs.declared.stop.Trap.{Trap}
use Rattle.rv_code.specs.State.{State, state_of, register, with_register}
use Rattle.rv_code.specs.Step.{halts, traps, goes_to, with_x, gets, puts, calls, loads, stores, jumps, links, performs}
use Rattle.rv_code.specs.Word.{sum, extended}
use Rattle.rv_step.specs.Footprint.{content, span, call_reads, call_writes, unless_trapped, effect_reads, effect_writes}
use Rattle.rv_step.proofs.SpotContents.{among, Alike, Changes, EqualAt, outside-with_x, length-with_register, same-register, same-content, outside-store, length-with_number, alike-store, same-number, from-data}

nil : (s : State) → s.output ≡ s.output ++ []
nil s = grind (arith, common_steps)

-- What each changes.

pub halts-changes : (s : State) (how : Stop) → Changes s [] [] (halts s how)
halts-changes s how = record { count = refl; output = nil s; outside = λ x h. same-content s (state_of (halts s how)) refl refl refl x; registers = refl; memory = refl }

goes-changes : (s : State) (to : ℕ) → Changes s [] [] (goes_to s to)
goes-changes s to = record { count = refl; output = nil s; outside = λ x h. same-content s (state_of (goes_to s to)) refl refl refl x; registers = refl; memory = refl }

set-changes : (s : State) (rd v to : ℕ) → Changes s [] (Register rd ∷ []) (goes_to (with_x s rd v) to)
set-changes s rd v to = record { count = refl; output = nil s; outside = outside-with_x s rd v to; registers = length-with_register s.registers rd v; memory = refl }

load-changes : (s : State) (rd at size : ℕ) (signed aligned inside : Bool)
    → Changes s [] (unless_trapped aligned inside (Register rd ∷ [])) (loads s rd at size signed aligned inside)
load-changes s rd at size signed false inside = halts-changes s _
load-changes s rd at size signed true false = halts-changes s _
load-changes s rd at size signed true true = set-changes s rd _ _

store-outside : (s t : State) (at size v : ℕ) → DATA_FROM ≤ at → t.registers ≡ s.registers
    → t.cursor ≡ s.cursor → t.memory ≡ with_number s.memory at size v
    → (x : Spot) → among x (span at size) ≡ false → content t x ≡ content s x
store-outside s t at size v h r c e (Register q) o = ap (λ xs. register xs q) r
store-outside s t at size v h r c e Cursor o = c
store-outside s t at size v h r c e (Byte b) o = by (nat_le DATA_FROM b) refl
  where
    by : (low : Bool) → nat_le DATA_FROM b ≡ low → content t (Byte b) ≡ content s (Byte b)
    by true f = ap (λ z. if z then byte_at t.memory b else 0) f ∙ ap (λ z. byte_at z b) e ∙ outside-store size s.memory at v b h (grind (arith, nat_tests)) o ∙ sym (ap (λ z. if z then byte_at s.memory b else 0) f)
    by false f = ap (λ z. if z then byte_at t.memory b else 0) f ∙ sym (ap (λ z. if z then byte_at s.memory b else 0) f)

store-changes : (s : State) (at size v : ℕ) (aligned inside : Bool) → is_in_memory at ≡ inside
    → Changes s [] (unless_trapped aligned inside (span at size)) (stores s at size v aligned inside)
store-changes s at size v false inside e = halts-changes s _
store-changes s at size v true false e = halts-changes s _
store-changes s at size v true true e =
    record { count = refl; output = nil s; outside = store-outside s (state_of (stores s at size v true true)) at size v (from-data at e) refl refl refl; registers = refl; memory = length-with_number size s.memory at v }

jump-changes : (s : State) (to : ℕ) (aligned : Bool) → Changes s [] [] (jumps s to aligned)
jump-changes s to false = halts-changes s _
jump-changes s to true = goes-changes s to

link-changes : (s : State) (rd to : ℕ) (aligned : Bool)
    → Changes s [] (unless_trapped aligned true (Register rd ∷ [])) (links s rd to aligned)
link-changes s rd to false = halts-changes s _
link-changes s rd to true = set-changes s rd _ to

abbrev pub put_by_call : State → Call → List ℕ
put_by_call s call.Put = register s.registers A0 % 256 ∷ []
put_by_call s call.Exit = []
put_by_call s call.Get = []
put_by_call s call.Begin = []
put_by_call s call.End = []
put_by_call s call.Post = []
put_by_call s call.Wait = []
put_by_call s call.StackFull = []
put_by_call s call.Unknown = []

get-outside : (s t : State) (v : ℕ) → t.registers ≡ with_register s.registers A0 v → t.memory ≡ s.memory
    → (x : Spot) → among x (Cursor ∷ Register A0 ∷ []) ≡ false → content t x ≡ content s x
get-outside s t v r b (Register q) h = ap (λ xs. register xs q) r ∙ outside-with_x s A0 v 0 (Register q) h
get-outside s t v r b Cursor h = absurd (cc)
get-outside s t v r b (Byte at) h = ap (λ xs. if nat_le DATA_FROM at then byte_at xs at else 0) b

get-changes : (s : State) (byte : Option ℕ) → Changes s [] (Cursor ∷ Register A0 ∷ []) (gets s byte)
get-changes s None = record { count = refl; output = nil s; outside = get-outside s (state_of (gets s None)) (2 ^ 32 - 1) refl refl; registers = length-with_register s.registers A0 (2 ^ 32 - 1); memory = refl }
get-changes s (Some b) = record { count = refl; output = nil s; outside = get-outside s (state_of (gets s (Some b))) b refl refl; registers = length-with_register s.registers A0 b; memory = refl }

put-changes : (s : State) (b : ℕ) → Changes s (b ∷ []) (Register A0 ∷ []) (puts s b)
put-changes s b = record { count = refl; output = refl; outside = outside-with_x s A0 b 0; registers = length-with_register s.registers A0 b; memory = refl }

call-changes : (input : List ℕ) (s : State) (which : Call)
    → Changes s (put_by_call s which) (call_writes which) (calls input s which)
call-changes input s call.Exit = halts-changes s _
call-changes input s call.Get = get-changes s (slice_get input s.cursor)
call-changes input s call.Put = put-changes s (register s.registers A0 % 256)
call-changes input s call.Begin = goes-changes s _
call-changes input s call.End = goes-changes s _
call-changes input s call.Post = goes-changes s _
call-changes input s call.Wait = goes-changes s _
call-changes input s call.StackFull = halts-changes s _
call-changes input s call.Unknown = halts-changes s _

-- what an effect puts out
abbrev pub put_by : State → Effect → List ℕ
put_by s (Calls which) = put_by_call s which
put_by s (Sets rd v) = []
put_by s (Loads rd at size signed) = []
put_by s (Stores at size v) = []
put_by s (Jumps to) = []
put_by s (Links rd to) = []
put_by s Proceeds = []
put_by s Breaks = []

pub effect-changes : (input : List ℕ) (s : State) (e : Effect)
    → Changes s (put_by s e) (effect_writes e) (performs input s e)
effect-changes input s (Sets rd v) = set-changes s rd v _
effect-changes input s (Loads rd at size signed) = load-changes s rd at size signed (at % size == 0) (is_in_memory at)
effect-changes input s (Stores at size v) = store-changes s at size v (at % size == 0) (is_in_memory at) refl
effect-changes input s (Jumps to) = jump-changes s to (to % 4 == 0)
effect-changes input s (Links rd to) = link-changes s rd to (to % 4 == 0)
effect-changes input s Proceeds = goes-changes s _
effect-changes input s Breaks = halts-changes s _
effect-changes input s (Calls which) = call-changes input s which

-- What each depends on.

-- two states have one pc, and as many registers and bytes
pub record SameShape (s t : State) : Type 0 where
  pub pc : s.pc ≡ t.pc
  pub registers : length s.registers ≡ length t.registers
  pub memory : length s.memory ≡ length t.memory

pub trap-equal : (s t : State) (why : Trap) → s.pc ≡ t.pc → EqualAt [] (traps s why) (traps t why)
trap-equal s t why e = record { pc = e; stop = ap (λ p. Some (stop.Trap why p)) e; alike = tt }

goes-equal : (s t : State) (to to' : ℕ) → to ≡ to' → EqualAt [] (goes_to s to) (goes_to t to')
goes-equal s t to to' e = record { pc = e; stop = refl; alike = tt }

set-equal : (s t : State) (rd v w to to' : ℕ) → length s.registers ≡ length t.registers → v ≡ w
    → to ≡ to' → EqualAt (Register rd ∷ []) (goes_to (with_x s rd v) to) (goes_to (with_x t rd w) to')
set-equal s t rd v w to to' l e f = record { pc = f; stop = refl; alike = (same-register s.registers t.registers rd v w l e, tt) }

next-equal : (s t : State) → SameShape s t → sum s.pc 4 ≡ sum t.pc 4
next-equal s t h = ap (λ p. sum p 4) h.pc

load-equal : (s t : State) (rd at size : ℕ) (signed aligned inside : Bool) → SameShape s t
    → is_in_memory at ≡ inside → Alike s t (unless_trapped aligned inside (span at size))
    → EqualAt (unless_trapped aligned inside (Register rd ∷ [])) (loads s rd at size signed aligned inside) (loads t rd at size signed aligned inside)
load-equal s t rd at size signed false inside h e alike = trap-equal s t _ h.pc
load-equal s t rd at size signed true false h e alike = trap-equal s t _ h.pc
load-equal s t rd at size signed true true h e alike =
    set-equal s t rd _ _ _ _ h.registers (ap (extended signed size) (same-number size s t at (from-data at e) alike)) (next-equal s t h)

store-equal : (s t : State) (at size v : ℕ) (aligned inside : Bool) → SameShape s t
    → is_in_memory at ≡ inside
    → EqualAt (unless_trapped aligned inside (span at size)) (stores s at size v aligned inside) (stores t at size v aligned inside)
store-equal s t at size v false inside h e = trap-equal s t _ h.pc
store-equal s t at size v true false h e = trap-equal s t _ h.pc
store-equal s t at size v true true h e =
    record { pc = next-equal s t h; stop = refl; alike = alike-store size (state_of (stores s at size v true true)) (state_of (stores t at size v true true)) s.memory t.memory at v refl refl h.memory (from-data at e) }

jump-equal : (s t : State) (to : ℕ) (aligned : Bool) → SameShape s t
    → EqualAt [] (jumps s to aligned) (jumps t to aligned)
jump-equal s t to false h = trap-equal s t _ h.pc
jump-equal s t to true h = goes-equal s t to to refl

link-equal : (s t : State) (rd to : ℕ) (aligned : Bool) → SameShape s t
    → EqualAt (unless_trapped aligned true (Register rd ∷ [])) (links s rd to aligned) (links t rd to aligned)
link-equal s t rd to false h = trap-equal s t _ h.pc
link-equal s t rd to true h = set-equal s t rd _ _ to to h.registers (next-equal s t h) refl

get-equal : (s t : State) (byte : Option ℕ) → SameShape s t → s.cursor ≡ t.cursor
    → EqualAt (Cursor ∷ Register A0 ∷ []) (gets s byte) (gets t byte)
get-equal s t None h c = record { pc = next-equal s t h; stop = refl; alike = (c, (same-register s.registers t.registers A0 (2 ^ 32 - 1) (2 ^ 32 - 1) h.registers refl, tt)) }
get-equal s t (Some b) h c = record { pc = next-equal s t h; stop = refl; alike = (ap (λ n. n + 1) c, (same-register s.registers t.registers A0 b b h.registers refl, tt)) }

call-equal : (input : List ℕ) (s t : State) (which : Call) → SameShape s t
    → Alike s t (call_reads which)
    → EqualAt (call_writes which) (calls input s which) (calls input t which)
call-equal input s t call.Exit h alike = record { pc = h.pc; stop = ap (λ v. Some (stop.Exit (cast_signed w32 v))) alike.0; alike = tt }
call-equal input s t call.Get h alike = subst (λ (c : ℕ). EqualAt (Cursor ∷ Register A0 ∷ []) (gets s (slice_get input s.cursor)) (gets t (slice_get input c))) alike.0 (get-equal s t (slice_get input s.cursor) h alike.0)
call-equal input s t call.Put h alike = set-equal (record s { output = s.output ++ register s.registers A0 % 256 ∷ [] }) (record t { output = t.output ++ register t.registers A0 % 256 ∷ [] }) A0 _ _ _ _ h.registers (ap (λ v. v % 256) alike.0) (next-equal s t h)
call-equal input s t call.Begin h alike = goes-equal s t _ _ (next-equal s t h)
call-equal input s t call.End h alike = goes-equal s t _ _ (next-equal s t h)
call-equal input s t call.Post h alike = goes-equal s t _ _ (next-equal s t h)
call-equal input s t call.Wait h alike = goes-equal s t _ _ (next-equal s t h)
call-equal input s t call.StackFull h alike = record { pc = h.pc; stop = refl; alike = tt }
call-equal input s t call.Unknown h alike = trap-equal s t _ h.pc

pub effect-equal : (input : List ℕ) (s t : State) (e : Effect) → SameShape s t
    → Alike s t (effect_reads e) → EqualAt (effect_writes e) (performs input s e) (performs input t e)
effect-equal input s t (Sets rd v) h alike = set-equal s t rd v v _ _ h.registers refl (next-equal s t h)
effect-equal input s t (Loads rd at size signed) h alike = load-equal s t rd at size signed (at % size == 0) (is_in_memory at) h refl alike
effect-equal input s t (Stores at size v) h alike = store-equal s t at size v (at % size == 0) (is_in_memory at) h refl
effect-equal input s t (Jumps to) h alike = jump-equal s t to (to % 4 == 0) h
effect-equal input s t (Links rd to) h alike = link-equal s t rd to (to % 4 == 0) h
effect-equal input s t Proceeds h alike = goes-equal s t _ _ (next-equal s t h)
effect-equal input s t Breaks h alike = trap-equal s t _ h.pc
effect-equal input s t (Calls which) h alike = call-equal input s t which h alike

same-put_by_call : (s t : State) (which : Call) → Alike s t (call_reads which)
    → put_by_call s which ≡ put_by_call t which
same-put_by_call s t call.Put h = ap (λ v. v % 256 ∷ []) h.0
same-put_by_call s t call.Exit h = refl
same-put_by_call s t call.Get h = refl
same-put_by_call s t call.Begin h = refl
same-put_by_call s t call.End h = refl
same-put_by_call s t call.Post h = refl
same-put_by_call s t call.Wait h = refl
same-put_by_call s t call.StackFull h = refl
same-put_by_call s t call.Unknown h = refl

pub same-put_by : (s t : State) (e : Effect) → Alike s t (effect_reads e) → put_by s e ≡ put_by t e
same-put_by s t (Calls which) h = same-put_by_call s t which h
same-put_by s t (Sets rd v) h = refl
same-put_by s t (Loads rd at size signed) h = refl
same-put_by s t (Stores at size v) h = refl
same-put_by s t (Jumps to) h = refl
same-put_by s t (Links rd to) h = refl
same-put_by s t Proceeds h = refl
same-put_by s t Breaks h = refl
