-- The law of whole texts, which are read through their end (C11 6.9).
use Rattle.std.proofs.Common.{◌≡◌, ◌<◌, ◌≤◌, ◌-◌, ℕ, zero, suc, List, [], ◌∷◌, ◌++◌, length, Ok, Err, refl, sym, ap, ◌∙◌, subst, arith, append_assoc, append-nil, length-append, inl, inr, ◌⊎◌, Bool, true, false}
use Rattle.c_token.specs.declared.token.Token.{Token}
use Rattle.c_token.specs.declared.token.Kind.{Kind}
use Rattle.c_token.specs.declared.token.Kind.TheVariants as k
use Rattle.c_tree.specs.declared.place.Place.{Place}
use Rattle.c_tree.specs.Item.{Item}
use Rattle.c_expr.specs.declared.fault.ParseFault.TheVariants.{Unexpected, TooDeep, OutOfMemory}
use Rattle.c_expr.specs.Leveled.{Leveled, at, tokens_of, AreBelow}
use Rattle.c_expr.specs.Next.{is_end, Outcome, ◌>>=◌, kind_of, place_of, nowhere, refuse, take}
use Rattle.c_expr.specs.private.ExpressionReading.{turn, turns}
use Rattle.c_expr.proofs.ExactExpressions.{below_of}
use Rattle.c_expr.proofs.Law as reader
use Rattle.c_expr.proofs.Law.{refuses_as, exceeds_as, AreLow, Looks, Law, plain, weaken, goes, whole, after, take_some}
use Rattle.c_expr.proofs.ParserTurns.{canon, tokens_length}
use Rattle.c_decl.specs.Units as g
use Rattle.c_decl.specs.Units.{IsItem, IsItems, IsUnit}
use Rattle.c_decl.specs.private.UnitReading.{item, unit_turn_by, unit_turn, unit}
use Rattle.c_decl.proofs.SoundDeclarators.{moved}
use Rattle.c_decl.proofs.SoundItems.{item_law, item_some}

-- What holds of a reader that reads through the end of the text: it differs from that of other readers in that the end may have been read.
pub record ReadsWhole {X I : Type 0} (m : ℕ) (P : List Leveled → X → Type 0) (q : I → List Token → Outcome X) (ts : List Token) (x : X) (rest : List Token) : Type 0 where
  pub read : List Leveled
  pub splits : ts ≡ tokens_of read ++ rest
  pub low : AreBelow m read
  pub holds : P read x
  pub again : (i : I) (b : List Token) → Looks rest b → q i (tokens_of read ++ b) ≡ Ok (x, b)

abbrev pub WholeLaw : {X I : Type 0} → ℕ → (List Leveled → X → Type 0)
    → (I → List Token → Outcome X) → List Token → Outcome X → Type 0
WholeLaw m P q ts (Ok x) = ReadsWhole m P q ts x.0 x.1
WholeLaw m P q ts (Err e) = Law m (plain P) q ts (Err e)

below_append : (m : ℕ) (a b : List Leveled) → AreBelow m a → AreBelow m b → AreBelow m (a ++ b)
below_append m [] b h i = i
below_append m (x ∷ a) b h i = (h.0, below_append m a b h.1 i)

whole_weaken : {X I : Type 0} (m : ℕ) (P Q : List Leveled → X → Type 0)
    (q : I → List Token → Outcome X) (ts : List Token) (o : Outcome X)
    → ((b : List Leveled) (y : X) → P b y → Q b y) → WholeLaw m P q ts o → WholeLaw m Q q ts o
whole_weaken m P Q q ts (Ok x) into h = record { read = h.read; splits = h.splits; low = h.low; holds = into h.read x.0 h.holds; again = h.again }
whole_weaken m P Q q ts (Err e) into h = (weaken {m = m} {P = plain P} (plain Q) {q = q} q {ts = ts} {o = Err e} (λ b y us. into b y) (λ i b. refl) (record { law = h })).law

-- behind what was read before
whole_after : {X I : Type 0} (m : ℕ) (P : List Leveled → X → Type 0)
    (q g : I → List Token → Outcome X) (a : List Leveled) (ts rest : List Token)
    → ts ≡ tokens_of a ++ rest → AreLow m a
    → ((i : I) (b : List Token) → Looks rest b → q i (tokens_of a ++ b) ≡ g i b) → (o : Outcome X) → WholeLaw m (λ b y. P (a ++ b) y) g rest o → WholeLaw m P q ts o
whole_after m P q g a ts rest splits low onward (Ok x) h = record {
  read = a ++ h.read;
  splits = whole m (plain P) q g a ts rest splits low onward h.read x.1 h.splits;
  low = below_append m a h.read (below_of m a low) h.low;
  holds = h.holds;
  again = λ i b l. goes m (plain P) q g a ts rest splits low onward i h.read x.1 b h.splits l ∙ h.again i b l;
}
whole_after m P q g a ts rest splits low onward (Err e) h = after m (plain P) q g a ts rest splits low onward (Err e) h

-- what is left of a text, with its end
data UnitLeft (found : List Item) : List Leveled → List Item → Type 0 where
  left : {c : List Leveled} {xs : List Item} (p : Place) → IsItems zero c xs
      → UnitLeft found (c ++ at zero k.End p ∷ []) (found ++ xs)

item_goes : (found : List Item) (x : Item) (a c : List Leveled) (y : List Item) → IsItem zero a x
    → UnitLeft (found ++ x ∷ []) c y → UnitLeft found (a ++ c) y
item_goes found x a _ _ h (left {c = c} {xs = xs} p i) = moved (UnitLeft found) found x xs (append_assoc a c (at zero k.End p ∷ [])) (left p (g.more h i))

none_left : (found : List Item) (p : Place) → UnitLeft found (at zero k.End p ∷ []) found
none_left found p = subst (λ xs. UnitLeft found (at zero k.End p ∷ []) xs) (append-nil found) (left p g.none)

-- one item, and the end
one_left : (found : List Item) (a : List Leveled) (x : Item) → IsItem zero a x
    → UnitLeft found (a ++ at zero k.End nowhere ∷ []) (found ++ x ∷ [])
one_left found a x h = item_goes found x a (at zero k.End nowhere ∷ []) (found ++ x ∷ []) h (none_left (found ++ x ∷ []) nowhere)

then_end : (found : List Item) (a c : List Leveled) (x : Item) → IsItem zero (a ++ c) x
    → UnitLeft found (a ++ (c ++ at zero k.End nowhere ∷ [])) (found ++ x ∷ [])
then_end found a c x h = subst (λ b. UnitLeft found b (found ++ x ∷ [])) (append_assoc a c (at zero k.End nowhere ∷ [])) (one_left found (a ++ c) x h)

end_is : (kind : Kind) → is_end kind ≡ true → kind ≡ k.End
end_is k.End e = refl
end_is _ e = cc

-- Each turn that is not the last reads an item.
end_ends : (o : Outcome Token) (found y : List Item) (us : List Token)
    → ◌≡◌ {A = Outcome (List Item ⊎ List Item)} (o >>= λ c. Ok (inr found, c.1)) (Ok (inl y, us))
    → ⊥
end_ends (Err e) found y us h = cc
end_ends (Ok c) found y us h =
    let pairs : ◌≡◌ {A = (List Item ⊎ List Item) × List Token} (inr found, c.1) (inl y, us) = cc in
    let like : ◌≡◌ {A = List Item ⊎ List Item} (inr found) (inl y) = ap (λ (p : (List Item ⊎ List Item) × List Token). p.0) pairs in cc

item_shortens : (s : ℕ) (found y : List Item) (ts us : List Token) (o : Outcome Item)
    → Law s (plain (IsItem zero)) (λ (u : Unit {0}). item s) ts o
    → ◌≡◌ {A = Outcome (List Item ⊎ List Item)} (o >>= λ x. Ok (inl (found ++ x.0 ∷ []), x.1)) (Ok (inl y, us)) → length us < length ts
item_shortens s found y ts us (Ok x) h e =
    let pairs : ◌≡◌ {A = (List Item ⊎ List Item) × List Token} (inl (found ++ x.0 ∷ []), x.1) (inl y, us) = cc in
    let like : x.1 ≡ us = ap (λ (p : (List Item ⊎ List Item) × List Token). p.1) pairs in
    let some = item_some h.holds in omega (arith, ap length like, ap length h.splits, length-append (tokens_of h.read) x.1, tokens_length h.read)
item_shortens s found y ts us (Err f) h e = cc

unit_shorter : (s : ℕ) (found y : List Item) (ts us : List Token)
    → unit_turn s found ts ≡ Ok (inl y, us) → length us < length ts
unit_shorter s found y ts us e = go (is_end (kind_of ts)) e
  where
    go : (c : Bool) → unit_turn_by c s found ts ≡ Ok (inl y, us) → length us < length ts
    go true e = absurd (end_ends (take s ts) found y us e)
    go false e = item_shortens s found y ts us (item s ts) (item_law (Unit {0}) s zero s (λ u. s) ts (omega arith) (λ u. omega arith)).law e

abbrev onward : ℕ → (List Item ⊎ List Item) × List Token → Outcome (List Item)
onward s = turn (λ y us. turns (unit_turn s) (length us) y us)

abbrev with_item : List Item → Item × List Token → Outcome (List Item ⊎ List Item)
with_item found x = Ok (inl (found ++ x.0 ∷ []), x.1)

turns_of : (s : ℕ) (found : List Item) (b : List Token)
    → turns (unit_turn s) (length b) found b ≡ (unit_turn s found b >>= onward s)
turns_of s found b = canon (unit_turn s) (λ found. refl) (unit_shorter s) found b

turns_item : (s : ℕ) (found : List Item) (b : List Token) (o : Outcome Item)
    → is_end (kind_of b) ≡ false → item s b ≡ o
    → turns (unit_turn s) (length b) found b ≡ ((o >>= with_item found) >>= onward s)
turns_item s found b o e is = turns_of s found b ∙ ap (λ c. unit_turn_by c s found b >>= onward s) e ∙ ap (λ o. (o >>= with_item found) >>= onward s) is

no_end : (a : List Leveled) (rest ts b : List Token) → 0 < length a → ts ≡ tokens_of a ++ rest
    → is_end (kind_of ts) ≡ false → is_end (kind_of (tokens_of a ++ b)) ≡ false
no_end [] rest ts b some splits e = absurd (omega arith)
no_end (x ∷ a) rest ts b some splits e = ap (λ us. is_end (kind_of us)) (sym splits) ∙ e

refused_again : (s : ℕ) (found : List Item) (a : List Leveled) (rest ts b : List Token)
    → ts ≡ tokens_of a ++ rest → is_end (kind_of ts) ≡ false → Looks rest b
    → item s (tokens_of a ++ b) ≡ Err (Unexpected (place_of b))
    → turns (unit_turn s) (length (tokens_of a ++ b)) found (tokens_of a ++ b) ≡ Err (Unexpected (place_of b))
refused_again s found (x ∷ a) rest ts b splits e l is = turns_item s found (tokens_of (x ∷ a) ++ b) (Err (Unexpected (place_of b))) (no_end (x ∷ a) rest ts b (omega arith) splits e) is
refused_again s found [] rest ts [] splits e l is = refl
refused_again s found [] [] ts (y ∷ b) splits e l is = absurd l
refused_again s found [] (t ∷ rest) ts (y ∷ b) splits e l is =
    turns_item s found (y ∷ b) (Err (Unexpected y.place)) (ap (λ (u : Token). is_end u.kind) (sym l) ∙ ap (λ us. is_end (kind_of us)) (sym splits) ∙ e) is

module _ (I : Type 0) (m r : ℕ) (r' : I → ℕ) (room : r ≡ m - zero) (some : 0 < r) (wide : (i : I) → r ≤ r' i) where
  abbrev units : List Item → I → List Token → Outcome (List Item)
  units found i b = turns (unit_turn (r' i)) (length b) found b

  nothing_left : (found : List Item) → Law m (plain (UnitLeft found)) (units found) [] (refuse [])
  nothing_left found = (reader.end_law (units found) (record { spelling = at zero k.End nowhere ∷ []; value = found; holds = none_left found nowhere }) (λ i. refl)).law

  end_law : (n : ℕ) (found : List Item) (ts : List Token) → is_end (kind_of ts) ≡ true
      → WholeLaw m (UnitLeft found) (units found) ts
      ((take r ts >>= λ u. Ok (inr found, u.1)) >>= turn (turns (unit_turn r) n))
  end_law n found [] e = nothing_left found
  end_law n found (t ∷ ts) e =
      let token : Token = record { kind = k.End; place = t.place } in
      subst (λ o. WholeLaw m (UnitLeft found) (units found) (t ∷ ts) ((o >>= λ u. Ok (inr found, u.1)) >>= turn (turns (unit_turn r) n))) (sym (take_some r t ts some))
      (record {
        read = at zero k.End t.place ∷ [];
        splits = ap (λ c. record { kind = c; place = t.place } ∷ ts) (end_is t.kind e);
        low = (omega arith, tt);
        holds = none_left found t.place;
        again = λ i b l. turns_of (r' i) found (token ∷ b) ∙ ap (λ o. (o >>= λ u. Ok (inr found, u.1)) >>= onward (r' i)) (take_some (r' i) token b (let w = wide i in omega arith));
      })

  item_then : (n : ℕ) (found : List Item) (ts : List Token) (o : Outcome Item) → length ts ≤ suc n
      → is_end (kind_of ts) ≡ false → Law m (plain (IsItem zero)) (λ i. item (r' i)) ts o
      → ((found : List Item) (us : List Token) → length us ≤ n → WholeLaw m (UnitLeft found) (units found) us (turns (unit_turn r) n found us))
      → WholeLaw m (UnitLeft found) (units found) ts ((o >>= with_item found) >>= turn (turns (unit_turn r) n))
  item_then n found ts (Ok x) most e h onwards =
      let not_empty = item_some h.holds in
      whole_after m (UnitLeft found) (units found) (units (found ++ x.0 ∷ [])) h.read ts x.1 h.splits h.low
      (λ i b l. turns_item (r' i) found (tokens_of h.read ++ b) (Ok (x.0, b)) (no_end h.read x.1 ts b not_empty h.splits e) (h.again i b l))
      (turns (unit_turn r) n (found ++ x.0 ∷ []) x.1)
      (whole_weaken m (UnitLeft (found ++ x.0 ∷ [])) (λ b y. UnitLeft found (h.read ++ b) y) (units (found ++ x.0 ∷ [])) x.1 (turns (unit_turn r) n (found ++ x.0 ∷ []) x.1) (λ b y i. item_goes found x.0 h.read b y h.holds i)
      (onwards (found ++ x.0 ∷ []) x.1 (omega (arith, ap length h.splits, length-append (tokens_of h.read) x.1, tokens_length h.read))))
  item_then n found ts (Err (Unexpected p)) most e h onwards =
      refuses_as (units found) h (record { spelling = h.more ++ at zero k.End nowhere ∷ []; value = found ++ h.value ∷ []; holds = then_end found h.read h.more h.value h.holds })
      (λ i b l. refused_again (r' i) found h.read h.rest ts b h.splits e l (h.again i b l))
  item_then n found ts (Err (TooDeep p)) most e h onwards =
      exceeds_as h (record { spelling = h.more ++ at zero k.End nowhere ∷ []; value = found ++ h.value ∷ []; holds = then_end found h.read (h.high ∷ h.more) h.value h.holds })
  item_then n found ts (Err OutOfMemory) most e h onwards = absurd h

  turn_then : (n : ℕ) (found : List Item) (ts : List Token) (c : Bool) → length ts ≤ suc n
      → is_end (kind_of ts) ≡ c
      → ((found : List Item) (us : List Token) → length us ≤ n → WholeLaw m (UnitLeft found) (units found) us (turns (unit_turn r) n found us))
      → WholeLaw m (UnitLeft found) (units found) ts (unit_turn_by c r found ts >>= turn (turns (unit_turn r) n))
  turn_then n found ts true most e onwards = end_law n found ts e
  turn_then n found ts false most e onwards = item_then n found ts (item r ts) most e (item_law I m zero r r' ts room wide).law onwards

  units_law : (n : ℕ) (found : List Item) (ts : List Token) → length ts ≤ n
      → WholeLaw m (UnitLeft found) (units found) ts (turns (unit_turn r) n found ts)
  units_law zero found [] most = nothing_left found
  units_law zero found (t ∷ ts) most = absurd (omega arith)
  units_law (suc n) found ts most = turn_then n found ts (is_end (kind_of ts)) most refl (units_law n)

  unit_of : (a : List Leveled) (xs : List Item) → UnitLeft [] a xs → IsUnit a xs
  unit_of _ _ (left p h) = g.unit p h

  pub unit_law : (ts : List Token) → WholeLaw m IsUnit (λ i. unit (r' i)) ts (unit r ts)
  unit_law ts = whole_weaken m (UnitLeft []) IsUnit (units []) ts (unit r ts) unit_of (units_law (length ts) [] ts (omega arith))
