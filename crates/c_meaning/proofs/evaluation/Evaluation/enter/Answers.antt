use Rattle.std.proofs.Common.{◌≡◌, ◌∙◌, ◌≤◌, ◌+◌, ◌-◌, ℕ, suc, List, [], ◌∷◌, Option, sym, ap, subst, reverse, arith}
use Rattle.std.proofs.lemmas.List.{reverse-append}
use Rattle.bop_bits.specs.declared.map.TheConstants.{STACK_FROM}
use Rattle.c_semantics.specs.declared.flow.Flow.TheVariants.{AtReturn}
use Rattle.c_meaning.specs.declared.machine.Machine.{Machine}
use Rattle.c_meaning.specs.declared.pending.Edge.TheVariants as edge
use Rattle.c_meaning.specs.declared.pending.Pending.{Pending}
use Rattle.c_meaning.specs.declared.pending.Work.{Work}
use Rattle.c_meaning.specs.declared.pending.Work.TheVariants as item
use Rattle.c_meaning.specs.private.Called.{entered, entered_after}
use Rattle.c_meaning.specs.private.EvaluatorState.{store_of}
use Rattle.c_meaning.specs.private.Pending.{after}
use Rattle.c_semantics.specs.Run.{Run, Ended, ◌>>=◌}
use Rattle.c_meaning.specs.private.Turned.{Turned}
use Rattle.c_meaning.proofs.Framing.{in_frame_then}
use Rattle.c_meaning.proofs.evaluation.Evaluation.enter.Goals as goal

pub returns : goal.returns
returns c = λ program depth deep.
    let p = c.args.self.now.pending in
    let m = c.args.self.now.machine in
    let r = c.args.routine.now in
    let arguments = c.args.arguments.now in
    let vs = reverse p.values.items in
    let w : List Work = reverse p.work.items in
    let leaves : Work = item.Edge (edge.Leave m.sp r.is_main) in
    let framed : Machine = record m { sp = m.sp - r.frame } in
    let left : Pending = record { work = c.push.new.self; values = p.values; flow = p.flow; depth = p.depth - 1 } in
    let rest : Option ℕ → Run (Option ℕ) = λ v. after program w (suc depth) (AtReturn v) vs in
    let room : STACK_FROM + r.frame ≤ m.sp = omega (arith, c.if-from.false, c.from.ensures, c.from-2.ensures, c.from-3.ensures) in
    let shallow : depth ≡ p.depth - 1 = omega (arith, deep) in
    let closed = ap reverse c.in_ok-push.ensures.items ∙ reverse-append p.work.items (leaves ∷ []) in
    let whole =
    in_frame_then r.is_main r.frame (entered program r arguments depth) rest (store_of m) m.left room
    ∙ ap (λ (l : List Work). (entered program r arguments depth >>= λ f. after program l depth f vs) (store_of framed) framed.left) (sym closed)
    ∙ ap (λ n. entered_after program r arguments (record { pending = record left { depth = n }; machine = framed })) shallow in
    subst (λ (e : Ended (Option ℕ)). Turned program e c.begin.new.self c.begin.result) (sym whole) (c.begin.ensures program)
