-- Blocks: what follows in a block with its locals follows without them.
use Rattle.std.proofs.Common.{◌≡◌, ℕ, ◌+◌, ◌-◌, ◌*◌, ◌<◌, ◌≤◌, ◌⊎◌, List, [], ◌∷◌, ◌++◌, length, take, map, sym, ap, ◌∙◌, subst, arith, Option, Some, ⊎_elim}
use Rattle.std.specs.Prelude.{true, ◌||◌, slice_get}
use Rattle.std.specs.List.{list_any}
use Rattle.std.proofs.lemmas.Bool.{or_cases}
use Rattle.std.proofs.lemmas.List.Folds.{list_any-append}
use Rattle.bop_bits.specs.declared.map.TheConstants.{DATA_FROM}
use Rattle.rv_code.specs.State.{State}
use Rattle.c_semantics.specs.declared.local.Local.{Local}
use Rattle.c_semantics.specs.declared.object.Object.{Object}
use Rattle.c_semantics.specs.Memory.{holds}
use Rattle.c_semantics.specs.Names.{Definition}
use Rattle.c_semantics.specs.Run.{Store, Run, Ended, Goes, StackFull, More, Undef, then_run}
use Rattle.c_semantics.specs.Exec.{object_at, all_blank, with_locals}
use Rattle.low_expr.specs.Agreement.{Agrees, Framed, AreInside, Lives, Keeps}
use Rattle.low_expr.specs.Following.{Terms, Follows}
use Rattle.low_expr.proofs.StoredBytes.{held_inside}
use Rattle.low_stmt.specs.StmtReadiness.{AreWithin}
use Rattle.low_stmt.specs.StmtSimulation.{IsDone, IsFrame}
use Rattle.low_stmt.proofs.BlankBytes.{all_blank_written, length-all_blank, within_frame, take-front}

-- a store in which locals live too, and nothing is written into them
abbrev pub opened : List Local → Store → Store
opened ls store = record store {
  live = store.live ++ map (object_at store.sp) ls;
  bytes = all_blank store.sp ls store.bytes;
}

pub lives_more : (ls : List Local) (store : Store) (b : ℕ) → Lives store b
    → Lives (opened ls store) b
lives_more ls store b h =
    list_any-append (holds b 1) store.live (map (object_at store.sp) ls)
    ∙ ap (λ x. x || list_any (holds b 1) (map (object_at store.sp) ls)) h

pub lives_split : (ls : List Local) (store : Store) (b : ℕ) → Lives (opened ls store) b
    → Lives store b ⊎ (list_any (holds b 1) (map (object_at store.sp) ls) ≡ true)
lives_split ls store b h =
    or_cases (list_any (holds b 1) store.live)
    (list_any (holds b 1) (map (object_at store.sp) ls))
    (sym (list_any-append (holds b 1) store.live (map (object_at store.sp) ls)) ∙ h)

inside_more : (xs ys : List Object) → AreInside xs → AreInside ys → AreInside (xs ++ ys)
inside_more [] ys h g = g
inside_more (x ∷ xs) ys h g = (h.0, h.1, inside_more xs ys h.2 g)

module _ (defined : List ℕ → Option Definition) (frame room top : ℕ) (fr : IsFrame frame room top) where
  inside_frame : (ls : List Local) → AreWithin defined room top ls → DATA_FROM ≤ frame
      → AreInside (map (object_at frame) ls)
  inside_frame [] w low = tt
  inside_frame (l ∷ ls) w low =
      (omega arith, omega (arith, w.1, fr.within), inside_frame ls w.2 low)

  module _ (ls : List Local) (w : AreWithin defined room top ls) (store : Store)
      (f : Framed frame room store) where
    -- a byte of the locals is one of the frame
    local_byte : (b : ℕ) → list_any (holds b 1) (map (object_at store.sp) ls) ≡ true
        → (frame + 4 * room ≤ b) × (b < frame + 4 * top)
    local_byte b h =
        subst (λ z. (z + 4 * room ≤ b) × (b < z + 4 * top)) f.is
        (within_frame defined room top ls store.sp b w h)

    blanked : (at v : ℕ)
        → slice_get (all_blank store.sp ls store.bytes) (at - DATA_FROM) ≡ Some (Some v)
        → Lives (opened ls store) at
        → Lives store at × (slice_get store.bytes (at - DATA_FROM) ≡ Some (Some v))
    blanked at v e lives =
        ⊎_elim
        (λ old.
        let h = all_blank_written ls store.sp at v store.bytes (omega (arith, f.is, f.above)) (held_inside store.live at 1 f.inside old).0 e in
        (old, h.1))
        (λ new.
        let h = all_blank_written ls store.sp at v store.bytes (omega (arith, f.is, f.above)) (omega (arith, local_byte at new, f.above)) e in
        absurd (h.0 new))
        (lives_split ls store at lives)

    pub opened_agrees : (s : State) → Agrees store s → Agrees (opened ls store) s
    opened_agrees s a = record {
      bytes = λ at v lives e. let h = blanked at v e lives in a.bytes at v h.0 h.1;
      small = a.small;
      stack = a.stack;
      cursor = a.cursor;
      output = a.output;
      memory = a.memory;
      registers = a.registers;
      cells = length-all_blank ls store.sp store.bytes ∙ a.cells;
    }

    pub opened_framed : Framed frame room (opened ls store)
    opened_framed = record {
      is = f.is;
      aligned = f.aligned;
      above = f.above;
      within = f.within;
      apart = λ at ge lt lives.
          ⊎_elim (λ old. f.apart at ge lt old) (λ new. omega (arith, local_byte at new))
          (lives_split ls store at lives);
      inside = inside_more store.live (map (object_at store.sp) ls) f.inside
          (subst (λ z. AreInside (map (object_at z) ls)) (sym f.is)
          (inside_frame ls w (omega (arith, f.above))));
    }

    -- what isn't a byte of the frame before the return address is kept for the block around
    outer_keeps : (a b : List ℕ) → Keeps (opened ls store) 0 top a b → Keeps store 0 top a b
    outer_keeps a b k = record {
      by = λ at ge dead off.
          k.by at ge
          (λ lives.
          ⊎_elim (λ old. dead old)
          (λ new.
          let h = local_byte at new in
          ⊎_elim (λ x. omega (arith, f.is)) (λ x. omega (arith, h.1, f.is)) off)
          (lives_split ls store at lives))
          off;
    }

    -- the locals' end costs no instruction
    pub closed : {A : Type 0} {t : Terms} {code input : List ℕ} {n : ℕ} {ends : A → ℕ} {s : State}
        {V : A → State → Type 0} (e : Ended A)
        → Follows code input t (opened ls store) 0 top n ends s V e
        → Follows code input t store 0 top n ends s V
        (then_run e (λ v after left.
        Goes v (record after { live = take (length store.live) after.live }) left))
    closed {s = s} (Goes v after left) g =
        let h = g.by in
        let l = h.2 in
        let same : take (length store.live) after.live ≡ store.live =
        ap (take (length store.live)) l.same_live ∙ take-front store.live (map (object_at store.sp) ls) in
        record {
          by = (
            h.0,
            h.1,
            record {
              comes = l.comes;
              pc = l.pc;
              agrees = record {
                bytes = λ at x lives e.
                    l.agrees.bytes at x
                    (ap (λ z. list_any (holds at 1) z) l.same_live
                    ∙ lives_more ls store at (ap (λ z. list_any (holds at 1) z) (sym same) ∙ lives)) e;
                small = l.agrees.small;
                stack = l.agrees.stack;
                cursor = l.agrees.cursor;
                output = l.agrees.output;
                memory = l.agrees.memory;
                registers = l.agrees.registers;
                cells = l.agrees.cells;
              };
              same_sp = l.same_sp;
              same_live = same;
              keeps = outer_keeps s.memory h.1.memory l.keeps;
              least = l.least;
              most = l.most;
            },
            h.3,
          );
        }
    closed (StackFull output) g = let h = g.by in record { by = (h.0, h.1, h.2, h.3, h.4) }
    closed (More output) g = let h = g.by in record { by = (h.0, h.1, h.2, h.3, h.4, h.5) }
    closed (Undef output act at) g = record { by = tt }

  -- a block, by what is in it
  pub block_does : {A : Type 0} (t : Terms) (code input : List ℕ) (m i : ℕ) (ends : A → ℕ)
      (V : A → State → Type 0) (ls : List Local) (r : Run A) → AreWithin defined room top ls
      → IsDone t code input frame room top m i ends V r
      → IsDone t code input frame room top m i ends V (with_locals ls r)
  block_does t code input m i ends V ls r w a store n s le pc ag f =
      closed ls w store f (r (opened ls store) n)
      (a (opened ls store) n s le pc (opened_agrees ls w store f s ag) (opened_framed ls w store f))
