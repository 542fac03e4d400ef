-- About `Grammar`: a finite test decides lists and chains of any length.
use Rattle.std.proofs.Common.{◌≡◌, ℕ, zero, suc, inl, inr, Bool, true, false, ◌&&◌, List, [], ◌++◌, refl, sym, ap, ◌∙◌}
use Rattle.std.specs.Prelude.{not}
use Rattle.jc_grammar.specs.Classes.{Class}
use Rattle.jc_grammar.specs.Guards.{Guard}
use Rattle.jc_grammar.specs.Grammar.{Grammar, listed, chained, repeated, symbol, nothing, ◌then◌, ◌or◌, guarded}
use Rattle.jc_grammar.specs.LookAhead.{may_be_empty, first_classes, all_are_apart, is_decided, is_list_decided, is_chain_decided, is_repetition_decided}
use Rattle.jc_grammar.proofs.LookAheadLemmas.{both_true, not_true, both_false, one_false}

-- what may come after a part that is never empty is no first symbol of it
pub firsts_full : (g : Grammar) (cs : List Class) → may_be_empty g ≡ false → first_classes g cs ≡ first_classes g []
firsts_full (symbol c) cs e = refl
firsts_full nothing cs e = absurd cc
firsts_full (g then h) cs e =
    elim (both_false (may_be_empty g) (may_be_empty h) e) [
      | inl one ↦ firsts_full g (first_classes h cs) one ∙ sym (firsts_full g (first_classes h []) one)
      | inr two ↦ ap (first_classes g) (firsts_full h cs two)
    ]
firsts_full (g or h) cs e =
    let (one, two) = one_false (may_be_empty g) (may_be_empty h) e in
    rw (firsts_full g cs one, firsts_full h cs two) refl
firsts_full (guarded c g) cs e = firsts_full g cs e

then_full : (g h : Grammar) → may_be_empty g ≡ false → may_be_empty (g then h) ≡ false
then_full g h e = rw e refl

pub and_true : (a b : Bool) → a ≡ true → b ≡ true → (a && b) ≡ true
and_true a b e f = rw (e, f) refl

-- a guard on a part that is never empty
guard_decided : (c : Guard) (x : Grammar) (cs : List Class) → may_be_empty x ≡ false → is_decided x cs ≡ true → is_decided (guarded c x) cs ≡ true
guard_decided c x cs full d = rw (full, d) refl

-- a choice, from its parts
or_decided : (g h : Grammar) (cs : List Class) → may_be_empty g ≡ false → all_are_apart (first_classes g []) (first_classes h cs) ≡ true → is_decided g cs ≡ true → is_decided h cs ≡ true → is_decided (g or h) cs ≡ true
or_decided g h cs full apart one two = rw (full, apart, one, two) refl

-- a sequence that begins with what is never empty, as the first of two
then_apart : (x g : Grammar) (ds : List Class) → may_be_empty x ≡ false → all_are_apart (first_classes x []) ds ≡ true → all_are_apart (first_classes (x then g) []) ds ≡ true
then_apart x g ds full apart = rw (firsts_full x (first_classes g []) full) apart

-- ---- lists

pub listed_firsts : (n : ℕ) (c : Guard) (x y : Grammar) (cs : List Class) → may_be_empty x ≡ false → first_classes (listed n c x y) cs ≡ first_classes x [] ++ cs
unfolding listed
listed_firsts zero c x y cs full = rw (firsts_full x cs full) refl
listed_firsts (suc n) c x y cs full = rw (firsts_full x (first_classes (y then listed n c x y or nothing) cs) full) refl

record ListedTest (x y : Grammar) (cs : List Class) : Type 0 where
  full_x : may_be_empty x ≡ false
  full_y : may_be_empty y ≡ false
  apart_x : all_are_apart (first_classes x []) cs ≡ true
  apart_y : all_are_apart (first_classes y []) cs ≡ true
  decided_x : is_decided x (first_classes y [] ++ cs) ≡ true
  decided_last : is_decided x cs ≡ true
  decided_y : is_decided y (first_classes x [] ++ cs) ≡ true

list_at : (n : ℕ) (c : Guard) (x y : Grammar) (cs : List Class) → ListedTest x y cs → is_decided (listed n c x y) cs ≡ true
unfolding listed
list_at zero c x y cs p = or_decided (guarded c x) nothing cs p.full_x p.apart_x (guard_decided c x cs p.full_x p.decided_last) refl
list_at (suc n) c x y cs p =
    let T : Grammar = listed n c x y in
    let M : Grammar = y then T or nothing in
    let in_y : is_decided (y then T) cs ≡ true = and_true (is_decided y (first_classes T cs)) (is_decided T cs) (rw (listed_firsts n c x y cs p.full_x) p.decided_y) (list_at n c x y cs p) in
    let in_m : is_decided M cs ≡ true = or_decided (y then T) nothing cs (then_full y T p.full_y) (then_apart y T cs p.full_y p.apart_y) in_y refl in
    let firsts_m : first_classes M cs ≡ first_classes y [] ++ cs = rw (firsts_full y (first_classes T cs) p.full_y) refl in
    let in_x : is_decided x (first_classes M cs) ≡ true = rw firsts_m p.decided_x in
    or_decided (x then M) nothing cs (then_full x M p.full_x) (then_apart x M cs p.full_x p.apart_x) (and_true (is_decided x (first_classes M cs)) (is_decided M cs) in_x in_m) refl

pub listed_decided : (n : ℕ) (c : Guard) (x y : Grammar) (cs : List Class) → is_list_decided x y cs ≡ true → is_decided (listed n c x y) cs ≡ true
listed_decided n c x y cs d =
    let (a, d1) = both_true (not (may_be_empty x)) (not (may_be_empty y) && (all_are_apart (first_classes x []) cs && (all_are_apart (first_classes y []) cs && (is_decided x (first_classes y [] ++ cs) && (is_decided x cs && is_decided y (first_classes x [] ++ cs)))))) d in
    let (b, d2) = both_true (not (may_be_empty y)) (all_are_apart (first_classes x []) cs && (all_are_apart (first_classes y []) cs && (is_decided x (first_classes y [] ++ cs) && (is_decided x cs && is_decided y (first_classes x [] ++ cs))))) d1 in
    let (p, d3) = both_true (all_are_apart (first_classes x []) cs) (all_are_apart (first_classes y []) cs && (is_decided x (first_classes y [] ++ cs) && (is_decided x cs && is_decided y (first_classes x [] ++ cs)))) d2 in
    let (q, d4) = both_true (all_are_apart (first_classes y []) cs) (is_decided x (first_classes y [] ++ cs) && (is_decided x cs && is_decided y (first_classes x [] ++ cs))) d3 in
    let (r, d5) = both_true (is_decided x (first_classes y [] ++ cs)) (is_decided x cs && is_decided y (first_classes x [] ++ cs)) d4 in
    let (s, u) = both_true (is_decided x cs) (is_decided y (first_classes x [] ++ cs)) d5 in
    list_at n c x y cs (record { full_x = not_true (may_be_empty x) a; full_y = not_true (may_be_empty y) b; apart_x = p; apart_y = q; decided_x = r; decided_last = s; decided_y = u })

-- ---- chains

record ChainTest (x y e f : Grammar) (cs : List Class) : Type 0 where
  full_x : may_be_empty x ≡ false
  full_y : may_be_empty y ≡ false
  apart_x : all_are_apart (first_classes x []) (first_classes e cs) ≡ true
  apart_y : all_are_apart (first_classes y []) (first_classes f cs) ≡ true
  decided_x : is_decided x (first_classes y [] ++ first_classes f cs) ≡ true
  decided_last : is_decided y cs ≡ true
  decided_y : is_decided y (first_classes x [] ++ first_classes e cs) ≡ true
  decided_e : is_decided e cs ≡ true
  decided_f : is_decided f cs ≡ true

chain_firsts : (n : ℕ) (c : Guard) (x y e f : Grammar) (cs : List Class) → may_be_empty x ≡ false → first_classes (chained n c x y e f) cs ≡ first_classes x [] ++ first_classes e cs
unfolding chained
chain_firsts zero c x y e f cs full = rw (firsts_full x (first_classes (guarded c y or f) cs) full) refl
chain_firsts (suc n) c x y e f cs full = rw (firsts_full x (first_classes (y then chained n c x y e f or f) cs) full) refl

-- x, then one of two that begin with y or f; or e
chain_by : (x m e : Grammar) (y f : List Class) (cs : List Class) → may_be_empty x ≡ false → all_are_apart (first_classes x []) (first_classes e cs) ≡ true → first_classes m cs ≡ y ++ f → is_decided x (y ++ f) ≡ true → is_decided m cs ≡ true → is_decided e cs ≡ true → is_decided (x then m or e) cs ≡ true
chain_by x m e y f cs full apart same in_x in_m in_e =
    or_decided (x then m) e cs (then_full x m full) (then_apart x m (first_classes e cs) full apart) (and_true (is_decided x (first_classes m cs)) (is_decided m cs) (rw same in_x) in_m) in_e

chain_at : (n : ℕ) (c : Guard) (x y e f : Grammar) (cs : List Class) → ChainTest x y e f cs → is_decided (chained n c x y e f) cs ≡ true
unfolding chained
chain_at zero c x y e f cs p =
    chain_by x (guarded c y or f) e (first_classes y []) (first_classes f cs) cs p.full_x p.apart_x (rw (firsts_full y cs p.full_y) refl) p.decided_x
    (or_decided (guarded c y) f cs p.full_y p.apart_y (guard_decided c y cs p.full_y p.decided_last) p.decided_f) p.decided_e
chain_at (suc n) c x y e f cs p =
    let T : Grammar = chained n c x y e f in
    let in_y : is_decided (y then T) cs ≡ true = and_true (is_decided y (first_classes T cs)) (is_decided T cs) (rw (chain_firsts n c x y e f cs p.full_x) p.decided_y) (chain_at n c x y e f cs p) in
    chain_by x (y then T or f) e (first_classes y []) (first_classes f cs) cs p.full_x p.apart_x (rw (firsts_full y (first_classes T cs) p.full_y) refl) p.decided_x
    (or_decided (y then T) f cs (then_full y T p.full_y) (then_apart y T (first_classes f cs) p.full_y p.apart_y) in_y p.decided_f) p.decided_e

pub chained_decided : (n : ℕ) (c : Guard) (x y e f : Grammar) (cs : List Class) → is_chain_decided x y e f cs ≡ true → is_decided (chained n c x y e f) cs ≡ true
chained_decided n c x y e f cs d =
    let (a, d1) = both_true (not (may_be_empty x)) (not (may_be_empty y) && (all_are_apart (first_classes x []) (first_classes e cs) && (all_are_apart (first_classes y []) (first_classes f cs) && (is_decided x (first_classes y [] ++ first_classes f cs) && (is_decided y cs && (is_decided y (first_classes x [] ++ first_classes e cs) && (is_decided e cs && is_decided f cs))))))) d in
    let (b, d2) = both_true (not (may_be_empty y)) (all_are_apart (first_classes x []) (first_classes e cs) && (all_are_apart (first_classes y []) (first_classes f cs) && (is_decided x (first_classes y [] ++ first_classes f cs) && (is_decided y cs && (is_decided y (first_classes x [] ++ first_classes e cs) && (is_decided e cs && is_decided f cs)))))) d1 in
    let (p, d3) = both_true (all_are_apart (first_classes x []) (first_classes e cs)) (all_are_apart (first_classes y []) (first_classes f cs) && (is_decided x (first_classes y [] ++ first_classes f cs) && (is_decided y cs && (is_decided y (first_classes x [] ++ first_classes e cs) && (is_decided e cs && is_decided f cs))))) d2 in
    let (q, d4) = both_true (all_are_apart (first_classes y []) (first_classes f cs)) (is_decided x (first_classes y [] ++ first_classes f cs) && (is_decided y cs && (is_decided y (first_classes x [] ++ first_classes e cs) && (is_decided e cs && is_decided f cs)))) d3 in
    let (r, d5) = both_true (is_decided x (first_classes y [] ++ first_classes f cs)) (is_decided y cs && (is_decided y (first_classes x [] ++ first_classes e cs) && (is_decided e cs && is_decided f cs))) d4 in
    let (s, d6) = both_true (is_decided y cs) (is_decided y (first_classes x [] ++ first_classes e cs) && (is_decided e cs && is_decided f cs)) d5 in
    let (t, d7) = both_true (is_decided y (first_classes x [] ++ first_classes e cs)) (is_decided e cs && is_decided f cs) d6 in
    let (u, v) = both_true (is_decided e cs) (is_decided f cs) d7 in
    chain_at n c x y e f cs (record { full_x = not_true (may_be_empty x) a; full_y = not_true (may_be_empty y) b; apart_x = p; apart_y = q; decided_x = r; decided_last = s; decided_y = t; decided_e = u; decided_f = v })

-- ---- one part again and again

record RepeatTest (x y e : Grammar) (cs : List Class) : Type 0 where
  full_x : may_be_empty x ≡ false
  full_y : may_be_empty y ≡ false
  apart_x : all_are_apart (first_classes x []) (first_classes e cs) ≡ true
  decided_x : is_decided x (first_classes y []) ≡ true
  decided_last : is_decided y cs ≡ true
  decided_y : is_decided y (first_classes x [] ++ first_classes e cs) ≡ true
  decided_e : is_decided e cs ≡ true

repeat_firsts : (n : ℕ) (c : Guard) (x y e : Grammar) (cs : List Class) → may_be_empty x ≡ false → first_classes (repeated n c x y e) cs ≡ first_classes x [] ++ first_classes e cs
unfolding repeated
repeat_firsts zero c x y e cs full = rw (firsts_full x (first_classes (guarded c y) cs) full) refl
repeat_firsts (suc n) c x y e cs full = rw (firsts_full x (first_classes (y then repeated n c x y e) cs) full) refl

repeat_by : (x m e : Grammar) (y cs : List Class) → may_be_empty x ≡ false → all_are_apart (first_classes x []) (first_classes e cs) ≡ true → first_classes m cs ≡ y → is_decided x y ≡ true → is_decided m cs ≡ true → is_decided e cs ≡ true → is_decided (x then m or e) cs ≡ true
repeat_by x m e y cs full apart same in_x in_m in_e =
    or_decided (x then m) e cs (then_full x m full) (then_apart x m (first_classes e cs) full apart) (and_true (is_decided x (first_classes m cs)) (is_decided m cs) (rw same in_x) in_m) in_e

repeat_at : (n : ℕ) (c : Guard) (x y e : Grammar) (cs : List Class) → RepeatTest x y e cs → is_decided (repeated n c x y e) cs ≡ true
unfolding repeated
repeat_at zero c x y e cs p = repeat_by x (guarded c y) e (first_classes y []) cs p.full_x p.apart_x (firsts_full y cs p.full_y) p.decided_x (guard_decided c y cs p.full_y p.decided_last) p.decided_e
repeat_at (suc n) c x y e cs p =
    let T : Grammar = repeated n c x y e in
    repeat_by x (y then T) e (first_classes y []) cs p.full_x p.apart_x (firsts_full y (first_classes T cs) p.full_y) p.decided_x
    (and_true (is_decided y (first_classes T cs)) (is_decided T cs) (rw (repeat_firsts n c x y e cs p.full_x) p.decided_y) (repeat_at n c x y e cs p)) p.decided_e

pub repeated_decided : (n : ℕ) (c : Guard) (x y e : Grammar) (cs : List Class) → is_repetition_decided x y e cs ≡ true → is_decided (repeated n c x y e) cs ≡ true
repeated_decided n c x y e cs d =
    let (a, d1) = both_true (not (may_be_empty x)) (not (may_be_empty y) && (all_are_apart (first_classes x []) (first_classes e cs) && (is_decided x (first_classes y []) && (is_decided y cs && (is_decided y (first_classes x [] ++ first_classes e cs) && is_decided e cs))))) d in
    let (b, d2) = both_true (not (may_be_empty y)) (all_are_apart (first_classes x []) (first_classes e cs) && (is_decided x (first_classes y []) && (is_decided y cs && (is_decided y (first_classes x [] ++ first_classes e cs) && is_decided e cs)))) d1 in
    let (p, d3) = both_true (all_are_apart (first_classes x []) (first_classes e cs)) (is_decided x (first_classes y []) && (is_decided y cs && (is_decided y (first_classes x [] ++ first_classes e cs) && is_decided e cs))) d2 in
    let (r, d4) = both_true (is_decided x (first_classes y [])) (is_decided y cs && (is_decided y (first_classes x [] ++ first_classes e cs) && is_decided e cs)) d3 in
    let (s, d5) = both_true (is_decided y cs) (is_decided y (first_classes x [] ++ first_classes e cs) && is_decided e cs) d4 in
    let (t, u) = both_true (is_decided y (first_classes x [] ++ first_classes e cs)) (is_decided e cs) d5 in
    repeat_at n c x y e cs (record { full_x = not_true (may_be_empty x) a; full_y = not_true (may_be_empty y) b; apart_x = p; decided_x = r; decided_last = s; decided_y = t; decided_e = u })
