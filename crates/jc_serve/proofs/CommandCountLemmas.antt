-- Of `Subjects`: how many commands the scripts have.
use Rattle.std.proofs.Common.{◌≡◌, ℕ, zero, suc, ◌+◌, ◌<◌, List, [], ◌∷◌, length, map, sum_by, take, get_or, refl, ap, ◌∙◌, arith}
use Rattle.std.proofs.lemmas.List.Sums.{sum_by_more}
use Rattle.std.proofs.lemmas.List.{length-map}
use Rattle.std.specs.declared.alloc.Global.{Global}
use Rattle.std.specs.declared.vec.Vec.{Vec}
use Rattle.jc_rules.specs.Syntax as rules
use Rattle.jc_syntax.specs.Trees.{cmd_of}
use Rattle.jc_syntax.specs.declared.tree.Cmd.{Cmd}
use Rattle.jc_scenario.specs.Views.{scripts_view}

script_at : (xs : List (Vec Cmd Global)) (i : ℕ) (d : Vec Cmd Global) (e : List rules.Cmd) → i < length xs → get_or (scripts_view xs) i e ≡ map cmd_of (get_or xs i d).items
script_at [] i d e l = absurd (omega arith)
script_at (x ∷ xs) zero d e l = refl
script_at (x ∷ xs) (suc i) d e l = script_at xs i d e (omega arith)

pub as_many : (xs : List (Vec Cmd Global)) → length (scripts_view xs) ≡ length xs
as_many xs = length-map xs _

pub script_length : (xs : List (Vec Cmd Global)) (i : ℕ) (d : Vec Cmd Global) → i < length xs → length (get_or (scripts_view xs) i []) ≡ length (get_or xs i d).items
script_length xs i d l = ap length (script_at xs i d [] l) ∙ length-map (get_or xs i d).items cmd_of

-- one script more
pub count_more : (xs : List (Vec Cmd Global)) (i : ℕ) (d : Vec Cmd Global) → i < length xs
    → sum_by (λ script. length script) (take (i + 1) (scripts_view xs)) ≡ sum_by (λ script. length script) (take i (scripts_view xs)) + length (get_or xs i d).items
count_more xs i d l =
    let inside : i < length (scripts_view xs) = omega (arith, as_many xs, l) in
    sum_by_more (λ script. length script) (scripts_view xs) i [] inside
    ∙ ap (λ n. sum_by (λ script. length script) (take i (scripts_view xs)) + n) (script_length xs i d l)
