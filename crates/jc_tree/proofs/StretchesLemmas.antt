-- About Stretches: stretches of entries that are seen elsewhere.
use Rattle.std.proofs.Common.{◌≡◌, ◌+◌, ◌*◌, ◌/◌, ◌%◌, ◌<◌, ℕ, zero, suc, Bool, true, false, cond, List, Option, Some, None, IfSome, subst, ◌∙◌, arith}
use Rattle.jc_rules.specs.declared.id.Id.{Id}
use Rattle.jc_rules.specs.declared.key.Key.{Key}
use Rattle.jc_rules.specs.declared.key.Key.TheVariants.{Elem}
use Rattle.jc_rules.specs.declared.key.Next.{Next}
use Rattle.jc_rules.specs.declared.key.Next.TheVariants.{Elem as To}
use Rattle.jc_rules.specs.Order.{key_cmp}
use Rattle.jc_rules.specs.Entries.{find}
use Rattle.jc_tree.specs.Blocks.{IsAtMost, presence_bit}
use Rattle.jc_tree.specs.declared.store.Stretch.{Stretch}
use Rattle.jc_tree.specs.Stretches.{LeadsOverEntries}

pub over_entries : (l m : List (Key × Next)) (p q : List (Key × List Id)) (k : Key) (count bits : ℕ) (least : Id) (last : Key) → l ≡ m → p ≡ q → LeadsOverEntries l p k count bits least last → LeadsOverEntries m q k count bits least last
over_entries l m p q k count bits least last e f h = subst (λ q. LeadsOverEntries m q k count bits least last) f (subst (λ m. LeadsOverEntries m p k count bits least last) e h)

pub over_read : (r : Option Stretch) (k : Key) (l m : List (Key × Next)) (p q : List (Key × List Id)) → l ≡ m → p ≡ q → IfSome r (λ s. LeadsOverEntries l p k s.count s.bits s.least (Elem s.last)) → IfSome r (λ s. LeadsOverEntries m q k s.count s.bits s.least (Elem s.last))
over_read None k l m p q e f h = h
over_read (Some s) k l m p q e f h = over_entries l m p q k s.count s.bits s.least (Elem s.last) e f h

-- with an identifier below
lower : (l : List (Key × Next)) (p : List (Key × List Id)) (k : Key) (count bits : ℕ) (least below : Id) (last : Key) → ((i : Id) → IsAtMost least i → IsAtMost below i) → LeadsOverEntries l p k count bits least last → LeadsOverEntries l p k count bits below last
lower l p k zero bits least below last f h = h
lower l p k (suc count) bits least below last f (i, link, bit, at, rest) = (i, link, bit, f i at, lower l p (Elem i) count (bits / 2) least below last f rest)

pub small_bit : (is : Bool) → cond is 1 0 < 2
small_bit true = omega arith
small_bit false = omega arith

-- one element before
pub one_before : (l : List (Key × Next)) (p : List (Key × List Id)) (k : Key) (i : Id) (b count bits all : ℕ) (least below : Id) (last : Key)
    → find key_cmp k l ≡ Some (To i)
    → b ≡ presence_bit (Elem i) p
    → b < 2
    → all ≡ bits * 2 + b
    → IsAtMost below i
    → ((j : Id) → IsAtMost least j → IsAtMost below j)
    → LeadsOverEntries l p (Elem i) count bits least last
    → LeadsOverEntries l p k (count + 1) all below last
one_before l p k i b count bits all least below last link bit two is at f h =
    let low : all % 2 ≡ b = omega (arith, is, two) in
    let rest : bits ≡ all / 2 = omega (arith, is, two) in
    let more : suc count ≡ count + 1 = omega arith in
    subst (λ n. LeadsOverEntries l p k n all below last) more
    (i, link, low ∙ bit, at, lower l p (Elem i) count (all / 2) least below last f (subst (λ n. LeadsOverEntries l p (Elem i) count n least last) rest h))
