-- About CanGoBack: calls that can go back, one after the other, and going back.
use Rattle.std.proofs.Common.{◌≡◌, ℕ, ◌+◌, append-nil, List, [], ◌∷◌, length, take, refl, sym, ◌∙◌, ap}
use Rattle.std.proofs.Math.Seq.{take-append_seam}
use Rattle.jc_rules.specs.declared.rule.Rule.{Rule}
use Rattle.jc_rules.specs.declared.key.Tagged.{Tagged}
use Rattle.jc_rules.specs.Context.{Context}
use Rattle.jc_rules.specs.Trace.{Rows, IsLonger, pushed, one_deeper, at_depth}
use Rattle.jc_rules.proofs.DerivesLemmas.{same_rows, longer_still}
use Rattle.jc_rules.specs.History.{timeline, IsLater}
use Rattle.jc_tree.specs.Tree.{Tree, IsChanged}
use Rattle.jc_rules.proofs.HistoryLemmas.{still, later_still, undone}
use Rattle.jc_tree.proofs.TreeLemmas.{later_changed}
use Rattle.jc_tree.specs.CanGoBack.{TreeCanGoBack}

pub nothing : (a b : Tree) (t u : Rows) → b ≡ a → u ≡ t → TreeCanGoBack a b t u
nothing a b t u e f = rw (e, f) (record { store = still a; trace = same_rows t })

pub rule_added : (a b : Tree) (t u : Rows) (r : Rule) → b ≡ a → u ≡ pushed t r → TreeCanGoBack a b t u
rule_added a b t u r e f = rw (e, f) (record { store = still a; trace = record { added = (r, t.depth) ∷ []; is = refl } })

pub rule_opened : (a b : Tree) (t u : Rows) (r : Rule) → b ≡ a → u ≡ one_deeper (pushed t r) → TreeCanGoBack a b t u
rule_opened a b t u r e f = rw (e, f) (record { store = still a; trace = record { added = (r, t.depth) ∷ []; is = refl } })

pub rows_added : (a b : Tree) (t u : Rows) → b ≡ a → IsLonger t u → TreeCanGoBack a b t u
rows_added a b t u e h = rw e (record { store = still a; trace = h })

pub tree_changed : (a b : Tree) (t u : Rows) (at : List Tagged) (y : Context) → IsChanged at y a b → u ≡ t → TreeCanGoBack a b t u
tree_changed a b t u at y e f = rw f (record { store = later_changed at y a b e; trace = same_rows t })

pub only_tree : (a b : Tree) (t u : Rows) → IsLater a b → u ≡ t → TreeCanGoBack a b t u
only_tree a b t u h f = rw f (record { store = h; trace = same_rows t })

pub depth_changed : (a b : Tree) (t u : Rows) (n : ℕ) → b ≡ a → u ≡ at_depth n t → TreeCanGoBack a b t u
depth_changed a b t u n e f = rw (e, f) (record { store = still a; trace = record { added = []; is = sym (append-nil t.rows) } })

pub then : (a b d : Tree) (t u v : Rows) → TreeCanGoBack a b t u → TreeCanGoBack b d u v → TreeCanGoBack a d t v
then a b d t u v h k = record { store = later_still a b d h.store k.store; trace = longer_still t u v h.trace k.trace }

-- going back to marks gives what was there
pub gone_back : (a b d : Tree) (t u v : Rows) (m n k : ℕ) → TreeCanGoBack a b t u → m ≡ length a.earlier → timeline d ≡ take (m + 1) (timeline b) → n ≡ length t.rows → k ≡ t.depth → v ≡ record { rows = take n u.rows; depth = k } → TreeCanGoBack a d t v
gone_back a b d t u v m n k h me de ne ke ve =
    let tree : d ≡ a = undone a b d h.store (de ∙ ap (λ (x : ℕ). take (x + 1) (timeline b)) me) in
    let rows : take n u.rows ≡ t.rows = ap (λ (x : ℕ). take x u.rows) ne ∙ ap (λ (r : List (Rule × ℕ)). take (length t.rows) r) h.trace.is ∙ take-append_seam t.rows h.trace.added in
    nothing a d t v tree (ve ∙ (λ i. record { rows = rows i; depth = ke i }))
