-- Lemmas about scripts: the commands that have ended, and those that are left.
use Rattle.std.proofs.Common.{◌≡◌, ℕ, zero, suc, ◌+◌, ◌≤◌, ◌<◌, List, [], ◌∷◌, ◌-◌, length, take, drop, map, get_or, slice_get, Some, None, refl, sym, ◌∙◌, ap, arith, add-one}
use Rattle.std.proofs.lemmas.List.{take_all, length-drop, drop-map}
use Rattle.std.proofs.lemmas.Option.{slice_get_past, slice_get_read}
use Rattle.jc_rules.specs.Syntax.{Cmd}
use Rattle.jc_syntax.specs.declared.tree.Cmd.{Cmd as CmdTree}
use Rattle.jc_syntax.specs.Trees.{cmd_of}
use Rattle.jc_replica.specs.Invariant.{HasEnded}

-- one command less
pub drop-more : (n : ℕ) (xs : List Cmd) (x : Cmd) (rest : List Cmd) → drop n xs ≡ x ∷ rest → drop (n + 1) xs ≡ rest
drop-more n xs x rest e = ap (λ (m : ℕ). drop m xs) (add-one n) ∙ go n xs e
  where
    go : (n : ℕ) (xs : List Cmd) → drop n xs ≡ x ∷ rest → drop (suc n) xs ≡ rest
    go zero [] f = cc
    go zero (y ∷ ys) f = cc
    go (suc n) [] f = cc
    go (suc n) (y ∷ ys) f = go n ys f

pub one_more_fits : (n : ℕ) (xs : List Cmd) (x : Cmd) (rest : List Cmd) → drop n xs ≡ x ∷ rest → n + 1 ≤ length xs
one_more_fits zero [] x rest e = cc
one_more_fits zero (y ∷ ys) x rest e = omega arith
one_more_fits (suc n) [] x rest e = cc
one_more_fits (suc n) (y ∷ ys) x rest e = omega (arith, one_more_fits n ys x rest e)

-- the command that was next is the last one that has ended
pub has_ended : (P : Cmd → Type 0) (n : ℕ) (xs : List Cmd) (x : Cmd) (rest : List Cmd) → drop n xs ≡ x ∷ rest → P x → HasEnded P xs (n + 1)
has_ended P n xs x rest e p =
    let back : n + 1 - 1 ≡ n = omega arith in
    record {
      command = x;
      left = ap (λ (m : ℕ). drop m xs) back ∙ e ∙ ap (λ (ys : List Cmd). x ∷ ys) (sym (drop-more n xs x rest e));
      is = p;
    }

-- so one has ended
pub some_ended : (n : ℕ) (xs : List Cmd) (x : Cmd) → drop (n - 1) xs ≡ x ∷ drop n xs → 0 < n
some_ended zero xs x e = absurd (let l = ap length e in omega (arith, l))
some_ended (suc n) xs x e = omega arith

pub one_less : (n : ℕ) (xs : List Cmd) (x : Cmd) (rest : List Cmd) → drop n xs ≡ x ∷ rest → length (drop (n + 1) xs) + 1 ≡ length (drop n xs)
one_less n xs x rest e = ap (λ (y : List Cmd). length y + 1) (drop-more n xs x rest e) ∙ add-one (length rest) ∙ sym (ap length e)

pub stands : (n : ℕ) (xs : List CmdTree) (x : CmdTree) → slice_get xs n ≡ Some x → drop n (map cmd_of xs) ≡ cmd_of x ∷ drop (suc n) (map cmd_of xs)
stands zero [] x e = cc
stands zero (y ∷ ys) x e = let s : y ≡ x = cc in ap (λ (z : CmdTree). cmd_of z ∷ map cmd_of ys) s
stands (suc n) [] x e = cc
stands (suc n) (y ∷ ys) x e = stands n ys x e

stands_nowhere : (n : ℕ) (xs : List CmdTree) → slice_get xs n ≡ None → drop n (map cmd_of xs) ≡ []
stands_nowhere zero [] e = refl
stands_nowhere zero (y ∷ ys) e = cc
stands_nowhere (suc n) [] e = refl
stands_nowhere (suc n) (y ∷ ys) e = stands_nowhere n ys e

-- the command that is read is the next one
pub next_is : (xs : List CmdTree) (n : ℕ) (c : CmdTree) → n < length xs → c ≡ get_or xs n c → drop n (map cmd_of xs) ≡ cmd_of c ∷ drop (suc n) (map cmd_of xs)
next_is xs n c l e = stands n xs c (slice_get_read xs _ n c refl l e)

pub none_left : (xs : List CmdTree) (n : ℕ) → length xs ≤ n → drop n (map cmd_of xs) ≡ []
none_left xs n l = stands_nowhere n xs (slice_get_past xs n l)

-- while a command is left
pub some_left : (xs : List CmdTree) (n : ℕ) (c : Cmd) (rest : List Cmd) → drop n (map cmd_of xs) ≡ c ∷ rest → n < length xs
some_left [] zero c rest e = cc
some_left [] (suc n) c rest e = cc
some_left (x ∷ xs) zero c rest e = omega arith
some_left (x ∷ xs) (suc n) c rest e = omega (arith, some_left xs n c rest e)

-- what is read is the command that is known to be next
pub is_next : (xs : List CmdTree) (n : ℕ) (c : CmdTree) (d : Cmd) (rest : List Cmd) → drop n (map cmd_of xs) ≡ d ∷ rest → c ≡ get_or xs n c → cmd_of c ≡ d
is_next xs n c d rest e is =
    let s : cmd_of c ∷ drop (suc n) (map cmd_of xs) ≡ d ∷ rest = sym (next_is xs n c (some_left xs n d rest e) is) ∙ e in
    cc

pub left_of : (xs : List CmdTree) (n : ℕ) → map cmd_of (take (length xs - n) (drop n xs)) ≡ drop n (map cmd_of xs)
left_of xs n =
    ap (λ (ys : List CmdTree). map cmd_of ys) (take_all (length xs - n) (drop n xs) (omega (arith, length-drop n xs)))
    ∙ sym (drop-map cmd_of n xs)
