use Rattle.std.proofs.Common.{rules, ◌≡◌, Bool, Option, Some, None, Bor, option_copied, refl, ap}
use Rattle.std.specs.Bool.{Decides}
use Rattle.std.specs.Option.{option_eq}
use Rattle.std.proofs.lemmas.Option.{same_Some}
use Rattle.std.proofs.lemmas.Slice.Eq.{slice_eq-Decides}
use Rattle.jc_meaning.proofs.sameness.same_register.Goals as goal

decided : {X : Type 0} {E : Bor X → Bor X → Bool} → ((x y : Bor X) → Decides (E x y) (x.now ≡ y.now)) → (o u : Option (Bor X)) (r : Bool) → r ≡ option_eq E o u → Decides r (option_copied o ≡ option_copied u)
decided d None None r e = (λ t. refl, λ f. e)
decided d None (Some y) r e = (λ t. cc, λ f. cc)
decided d (Some x) None r e = (λ t. cc, λ f. cc)
decided d (Some x) (Some y) r e = rw e (λ t. ap Some ((d x y).0 t), λ f. (d x y).1 (same_Some x.now y.now f))

pub returns : goal.returns
returns c = decided (λ x y. slice_eq-Decides (λ a b. search rules) x.now y.now _ refl) c.args.left c.args.right c.eq.result c.eq.ensures
