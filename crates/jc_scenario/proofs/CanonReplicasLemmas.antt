-- About `Canon`: replicas written one after another.
use Rattle.std.proofs.Common.{◌≡◌, ℕ, zero, suc, ◌+◌, ◌<◌, List, [], ◌∷◌, ◌++◌, map, length, get_or, take, sym, ap, ◌∙◌, arith, append_assoc}
use Rattle.std.specs.Prelude.{flat_map}
use Rattle.std.proofs.lemmas.List.{append-nil}
use Rattle.jc_rules.specs.Syntax.{Cmd}
use Rattle.jc_scenario.specs.WellFormed.{parts_of}
use Rattle.jc_scenario.specs.Canon.{canon_part}
use Rattle.jc_scenario.proofs.ArrangeLemmas.{part}

pub three : (a b c d x y z : List ℕ) → d ≡ c ++ z → c ≡ b ++ y → b ≡ a ++ x → d ≡ a ++ ((x ++ y) ++ z)
three a b c d x y z h g f = h ∙ ap (λ (l : List ℕ). l ++ z) (g ∙ ap (λ (l : List ℕ). l ++ y) f ∙ append_assoc a x y) ∙ append_assoc a (x ++ y) z

module _ {X : Type 0} (f : X → List Cmd) where
  -- the texts of as many replicas
  abbrev pub front_text : ℕ → List (List ℕ) → List X → List ℕ
  front_text i ns xs = flat_map canon_part (parts_of (take i ns) (map f (take i xs)))

  one_up : (i : ℕ) (ns : List (List ℕ)) (xs : List X) (n : List ℕ) (x : X) → i < length ns → i < length xs → n ≡ get_or ns i n → x ≡ get_or xs i x → front_text (suc i) ns xs ≡ front_text i ns xs ++ canon_part (part n (f x))
  one_up i [] xs n x a b hn hx = absurd (omega arith)
  one_up i (m ∷ ns) [] n x a b hn hx = absurd (omega arith)
  one_up zero (m ∷ ns) (y ∷ xs) n x a b hn hx = rw (hn, hx) (append-nil (canon_part (part m (f y))))
  one_up (suc i) (m ∷ ns) (y ∷ xs) n x a b hn hx =
      ap (λ (l : List ℕ). canon_part (part m (f y)) ++ l) (one_up i ns xs n x (omega arith) (omega arith) hn hx) ∙ sym (append_assoc (canon_part (part m (f y))) (front_text i ns xs) (canon_part (part n (f x))))

  -- one replica more
  pub written : (i j : ℕ) (ns : List (List ℕ)) (xs : List X) (n : List ℕ) (x : X) (start old new : List ℕ) → j ≡ i + 1 → i < length ns → i < length xs → n ≡ get_or ns i n → x ≡ get_or xs i x → old ≡ start ++ front_text i ns xs → new ≡ old ++ canon_part (part n (f x)) → new ≡ start ++ front_text j ns xs
  written i j ns xs n x start old new next a b hn hx so_far is =
      let up : j ≡ suc i = omega arith in
      is
      ∙ ap (λ (l : List ℕ). l ++ canon_part (part n (f x))) so_far
      ∙ append_assoc start (front_text i ns xs) (canon_part (part n (f x)))
      ∙ ap (λ (l : List ℕ). start ++ l) (sym (one_up i ns xs n x a b hn hx))
      ∙ ap (λ (k : ℕ). start ++ front_text k ns xs) (sym up)
