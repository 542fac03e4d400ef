-- Nested contexts as values of the plain store: how they are stored, and how large they are.
use Rattle.std.specs.Prelude.{◌≡◌, ℕ, suc, ◌+◌, List, refl}
use Rattle.std.specs.Coded.{Coded, coded×, coded_list}
use Rattle.std.proofs.Common.{ap}
use base.Stored.{Gv, gnil, gcons}
use Rattle.jc_rules.specs.declared.id.Id.{Id}
use Rattle.jc_rules.specs.declared.key.Key.{Key}
use Rattle.jc_rules.specs.declared.key.Next.{Next}
use Rattle.jc_rules.specs.contracts.id.Id.{the_row as id_row}
use Rattle.jc_rules.specs.contracts.key.Key.{the_row as key_row}
use Rattle.jc_rules.specs.contracts.key.Next.{the_row as next_row}
use Rattle.jc_rules.specs.contracts.value.Value.{the_row as value_row}
use Rattle.jc_rules.specs.Context.{Context, context, Children, no_child, child, Register}

-- the number of contexts below one
abbrev mutual
  pub nested : Context → ℕ
  nested (context m l r p n) = nested_in m + nested_in l

  pub nested_in : Children → ℕ
  nested_in no_child = 0
  nested_in (child k c cs) = suc (nested c) + nested_in cs

abbrev head : Gv → Gv
head (gcons a b) = a
head _ = gnil

abbrev tail : Gv → Gv
tail (gcons a b) = b
tail _ = gnil

abbrev key_code : Coded Key
key_code = key_row.coded

abbrev registers_code : Coded (List (Key × Register))
registers_code = coded_list (coded× key_row.coded (coded_list (coded× id_row.coded value_row.coded)))

abbrev presences_code : Coded (List (Key × List Id))
presences_code = coded_list (coded× key_row.coded (coded_list id_row.coded))

abbrev links_code : Coded (List (Key × Next))
links_code = coded_list (coded× key_row.coded next_row.coded)

abbrev mutual
  code_of : Context → Gv
  code_of (context m l r p n) =
      gcons (code_in m) (gcons (code_in l)
      (gcons (registers_code.code r) (gcons (presences_code.code p) (links_code.code n))))

  code_in : Children → Gv
  code_in no_child = gnil
  code_in (child k c cs) = gcons (key_code.code k) (gcons (code_of c) (code_in cs))

-- different contexts are stored differently
mutual
  pub code_of-injective : (c d : Context) → code_of c ≡ code_of d → c ≡ d
  code_of-injective (context m l r p n) (context m2 l2 r2 p2 n2) e =
      λ i. context
      (code_in-injective m m2 (ap head e) i)
      (code_in-injective l l2 (ap (λ g. head (tail g)) e) i)
      (registers_code.inj r r2 (ap (λ g. head (tail (tail g))) e) i)
      (presences_code.inj p p2 (ap (λ g. head (tail (tail (tail g)))) e) i)
      (links_code.inj n n2 (ap (λ g. tail (tail (tail (tail g)))) e) i)

  pub code_in-injective : (m n : Children) → code_in m ≡ code_in n → m ≡ n
  code_in-injective no_child no_child e = refl
  code_in-injective no_child (child k c cs) e = cc
  code_in-injective (child k c cs) no_child e = cc
  code_in-injective (child k c cs) (child k2 c2 cs2) e =
      λ i. child
      (key_code.inj k k2 (ap head e) i)
      (code_of-injective c c2 (ap (λ g. head (tail g)) e) i)
      (code_in-injective cs cs2 (ap (λ g. tail (tail g)) e) i)

abbrev pub context_code : Coded Context
context_code = record { code = code_of; inj = code_of-injective }
