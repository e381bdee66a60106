-- Notes one after another.
use Rattle.std.proofs.Common.{◌≡◌, ℕ, Bool, true, false, List, [], ◌∷◌, ◌++◌, refl, sym, ap, ◌∙◌}
use Rattle.std.specs.Prelude.{◌&&◌, ◌||◌, not, if◌then◌else◌}
use Rattle.access_log.specs.declared.spot.Spot.{Spot}
use Rattle.access_log.specs.declared.log.Log.{Log}
use Rattle.access_log.specs.Things.{IsSpot, shared_by, is_shared, one_thing, touched, first_after, wrote_after}
use Rattle.access_log.specs.Held.{has}
use Rattle.access_log.specs.Noted.{has_room_for, Noted, HoldsAfter, HoldsSame}
use Rattle.access_log.proofs.BoolLemmas.{or_false}
use Rattle.access_log.proofs.NoteLemmas.{not-read, not-written, not-written-after-fork}

or-assoc : (a b c : Bool) → (a || b) || c ≡ a || (b || c)
or-assoc true b c = refl
or-assoc false b c = refl

pub touched-append : (shared : ℕ → Bool) (x : Spot) (xs ys : List Spot)
    → touched shared x (xs ++ ys) ≡ touched shared x xs || touched shared x ys
touched-append shared x [] ys = refl
touched-append shared x (y ∷ xs) ys =
    ap (λ t. one_thing shared x y || t) (touched-append shared x xs ys)
    ∙ sym (or-assoc (one_thing shared x y) (touched shared x xs) (touched shared x ys))

reads-then : (f r w s r' t : Bool)
    → (f || (r && not w) || (s && (r || false))) || (r' && not (w || false)) || (s && (r' || t))
    ≡ f || ((r || r') && not w) || (s && ((r || r') || t))
reads-then true r w s r' t = refl
reads-then false true false s r' t = refl
reads-then false true true true r' t = refl
reads-then false true true false true t = refl
reads-then false true true false false t = refl
reads-then false false true true true t = refl
reads-then false false false true true t = refl
reads-then false false w true false t = refl
reads-then false false true false true t = refl
reads-then false false false false true t = refl
reads-then false false w false false t = refl

writes-then : (f r w s t t' : Bool)
    → (f || (r && not w) || (s && (r || t))) || (false && not (w || t)) || (s && (false || t'))
    ≡ f || (r && not w) || (s && (r || (t || t')))
writes-then true r w s t t' = refl
writes-then false true false s t t' = refl
writes-then false true true true t t' = refl
writes-then false true true false t t' = refl
writes-then false false w true true t' = refl
writes-then false false w true false t' = refl
writes-then false false w false t t' = refl

-- one line of the first things, by truth values
abbrev line : (shared : ℕ → Bool) (x : Spot) (reads writes : List Spot) (f w : Bool) → Bool
line shared x reads writes f w =
    f || (touched shared x reads && not w)
    || (is_shared shared x && (touched shared x reads || touched shared x writes))

abbrev after : (shared : ℕ → Bool) (x : Spot) (writes : List Spot) (forked a : Bool) → Bool
after shared x writes forked a = if forked then a || touched shared x writes else a

-- the first, written and later written things of the second of two logs, by those of the first
module _ (a b c : Log) (reads writes reads' writes' : List Spot)
    (m : HoldsAfter a b reads writes) (n : HoldsAfter b c reads' writes') where
  first-twice : (x : Spot) → IsSpot x → has c.first x
      ≡ line (shared_by a.classes) x reads' writes'
      (line (shared_by a.classes) x reads writes (has a.first x) (has a.wrote x))
      (has a.wrote x || touched (shared_by a.classes) x writes)
  first-twice x s =
      n.first x s
      ∙ ap (λ k. line (shared_by k) x reads' writes' (has b.first x) (has b.wrote x)) m.classes
      ∙ ap (λ f. line (shared_by a.classes) x reads' writes' f (has b.wrote x)) (m.first x s)
      ∙ ap (line (shared_by a.classes) x reads' writes' (line (shared_by a.classes) x reads writes (has a.first x) (has a.wrote x))) (m.wrote x s)

  wrote-twice : (x : Spot) → IsSpot x → has c.wrote x
      ≡ has a.wrote x || (touched (shared_by a.classes) x writes || touched (shared_by a.classes) x writes')
  wrote-twice x s =
      n.wrote x s
      ∙ ap (λ k. has b.wrote x || touched (shared_by k) x writes') m.classes
      ∙ ap (λ w. w || touched (shared_by a.classes) x writes') (m.wrote x s)
      ∙ or-assoc (has a.wrote x) (touched (shared_by a.classes) x writes) (touched (shared_by a.classes) x writes')

  forked-twice : (forked : Bool) (v t t' : Bool)
      → (if forked then (if forked then v || t else v) || t' else (if forked then v || t else v))
      ≡ (if forked then v || (t || t') else v)
  forked-twice true v t t' = or-assoc v t t'
  forked-twice false v t t' = refl

  after-twice : (x : Spot) → IsSpot x → has c.after_fork x
      ≡ (if a.forked then has a.after_fork x || (touched (shared_by a.classes) x writes || touched (shared_by a.classes) x writes') else has a.after_fork x)
  after-twice x s =
      n.after_fork x s
      ∙ ap (λ k. after (shared_by k) x writes' b.forked (has b.after_fork x)) m.classes
      ∙ ap (λ forked. after (shared_by a.classes) x writes' forked (has b.after_fork x)) m.forked
      ∙ ap (after (shared_by a.classes) x writes' a.forked) (m.after_fork x s)
      ∙ forked-twice a.forked (has a.after_fork x) (touched (shared_by a.classes) x writes) (touched (shared_by a.classes) x writes')

-- nothing noted
pub noted-none : (a : Log) → Noted a a [] []
noted-none a = record {
  holds = record {
    classes = refl;
    forked = refl;
    first = λ x s. not-read (shared_by a.classes) (has a.first) (has a.wrote) x;
    wrote = λ x s. not-written (shared_by a.classes) (has a.first) (has a.wrote) x;
    after_fork = λ x s. not-written-after-fork (shared_by a.classes) (has a.first) (has a.after_fork) a.forked x;
  };
  room = λ x. refl;
}

-- reads, and then a step
pub noted-reads : (a b c : Log) (reads reads' writes : List Spot) → Noted a b reads []
    → Noted b c reads' writes → Noted a c (reads ++ reads') writes
noted-reads a b c reads reads' writes m n =
    let shared = shared_by a.classes in
    record {
      holds = record {
        classes = n.holds.classes ∙ m.holds.classes;
        forked = n.holds.forked ∙ m.holds.forked;
        first = λ x s. first-twice a b c reads [] reads' writes m.holds n.holds x s
            ∙ reads-then (has a.first x) (touched shared x reads) (has a.wrote x) (is_shared shared x) (touched shared x reads') (touched shared x writes)
            ∙ ap (λ r. has a.first x || (r && not (has a.wrote x)) || (is_shared shared x && (r || touched shared x writes)))
            (sym (touched-append shared x reads reads'));
        wrote = λ x s. wrote-twice a b c reads [] reads' writes m.holds n.holds x s;
        after_fork = λ x s. after-twice a b c reads [] reads' writes m.holds n.holds x s;
      };
      room = λ x. n.room x ∙ m.room x;
    }

-- a step, and then writes
pub noted-writes : (a b c : Log) (reads writes writes' : List Spot) → Noted a b reads writes
    → Noted b c [] writes' → Noted a c reads (writes ++ writes')
noted-writes a b c reads writes writes' m n =
    let shared = shared_by a.classes in
    record {
      holds = record {
        classes = n.holds.classes ∙ m.holds.classes;
        forked = n.holds.forked ∙ m.holds.forked;
        first = λ x s. first-twice a b c reads writes [] writes' m.holds n.holds x s
            ∙ writes-then (has a.first x) (touched shared x reads) (has a.wrote x) (is_shared shared x) (touched shared x writes) (touched shared x writes')
            ∙ ap (λ t. has a.first x || (touched shared x reads && not (has a.wrote x)) || (is_shared shared x && (touched shared x reads || t)))
            (sym (touched-append shared x writes writes'));
        wrote = λ x s. wrote-twice a b c reads writes [] writes' m.holds n.holds x s
            ∙ ap (λ t. has a.wrote x || t) (sym (touched-append shared x writes writes'));
        after_fork = λ x s. after-twice a b c reads writes [] writes' m.holds n.holds x s
            ∙ ap (λ t. if a.forked then has a.after_fork x || t else has a.after_fork x) (sym (touched-append shared x writes writes'));
      };
      room = λ x. n.room x ∙ m.room x;
    }

-- a step noted in a log that has only got more room before
pub holds-after-room : (a b c : Log) (reads writes : List Spot) → HoldsSame a b
    → HoldsAfter b c reads writes → HoldsAfter a c reads writes
holds-after-room a b c reads writes m n =
    record {
      classes = n.classes ∙ m.classes;
      forked = n.forked ∙ m.forked;
      first = λ x s. n.first x s
          ∙ ap (λ k. line (shared_by k) x reads writes (has b.first x) (has b.wrote x)) m.classes
          ∙ ap (λ f. line (shared_by a.classes) x reads writes f (has b.wrote x)) (m.first x)
          ∙ ap (line (shared_by a.classes) x reads writes (has a.first x)) (m.wrote x);
      wrote = λ x s. n.wrote x s
          ∙ ap (λ k. has b.wrote x || touched (shared_by k) x writes) m.classes
          ∙ ap (λ w. w || touched (shared_by a.classes) x writes) (m.wrote x);
      after_fork = λ x s. n.after_fork x s
          ∙ ap (λ k. after (shared_by k) x writes b.forked (has b.after_fork x)) m.classes
          ∙ ap (λ forked. after (shared_by a.classes) x writes forked (has b.after_fork x)) m.forked
          ∙ ap (after (shared_by a.classes) x writes a.forked) (m.after_fork x);
    }
