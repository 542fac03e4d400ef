-- About Meaning: a meaning depends on the set alone, not on the order of the list.
use Rattle.std.proofs.Common.{◌≡◌, List, Bool, true, false, not, ◌||◌, ◌&&◌, cond, Option, Some, None, is_some, Contains, ◌↔◌, refl, sym, ◌∙◌, ap, subst}
use Rattle.jc_rules.specs.declared.id.Id.{Id}
use Rattle.jc_rules.specs.declared.key.Key.TheVariants as K
use Rattle.jc_rules.specs.declared.key.Tagged.{Tagged}
use Rattle.jc_rules.specs.declared.operation.Op.{Op}
use Rattle.jc_rules.specs.Ids.{has_id}
use Rattle.jc_rules.specs.Context.{Context}
use Rattle.jc_rules.specs.Table.{op_of}
use Rattle.std.proofs.lemmas.Option.{same_Some}
use Rattle.jc_network.proofs.MembersLemmas.{op_in}
use Rattle.jc_meaning.specs.Effects.{list_at, touches, clears, overwrites, goes_through}
use Rattle.jc_meaning.specs.Seen.{seen}
use Rattle.jc_meaning.specs.Meaning.{some_op, holds_of, is_cleared, written_of, names, hangs_at, LinksOf, Means}
use Rattle.jc_meaning.proofs.NextOperationLemmas.{some_in, in_some}
use Rattle.jc_meaning.proofs.LinkEffectsLemmas.{hangs_same}
use Rattle.jc_rules.proofs.BoolLemmas.{same_tests}

-- they have the same operations, by identifier and by what holds of some
pub record SameOps (O N : List Op) : Type 0 where
  pub found : (i : Id) → op_of i O ≡ op_of i N
  pub some : (f : Op → Bool) → some_op f O ≡ some_op f N

same_links : (O N : List Op) → SameOps O N → (P : List Tagged) (b : Bool) (c : Context) → LinksOf b O P c → LinksOf b N P c
same_links O N s P false c h = h
same_links O N s P true c h = (h.0, hangs_same (hangs_at O P) (hangs_at N P) (λ k i. ap (holds_of (names P k)) (sym (s.found i))) K.Head None h.0 h.1, h.2)

pub means_same : (O N : List Op) (t : Context) → SameOps O N → Means O t → Means N t
means_same O N t s m =
    record {
      tags = λ P u. m.tags P u ∙ s.some (λ o. goes_through o P u);
      ids = λ P k i. m.ids P k i ∙ ap (λ x. holds_of (λ o. touches o P k) x && not (is_cleared O P k i)) (s.found i) ∙ ap (λ b. holds_of (λ o. touches o P k) (op_of i N) && not b) (s.some (λ c. clears c P k && has_id i c.deps));
      values = λ P k i. m.values P k i
          ∙ ap (λ x. cond (is_cleared O P k i || some_op (λ a. overwrites a P k && has_id i a.deps) O) None (written_of x P k)) (s.found i)
          ∙ ap (λ b. cond (b || some_op (λ a. overwrites a P k && has_id i a.deps) O) None (written_of (op_of i N) P k)) (s.some (λ c. clears c P k && has_id i c.deps))
          ∙ ap (λ b. cond (is_cleared N P k i || b) None (written_of (op_of i N) P k)) (s.some (λ a. overwrites a P k && has_id i a.deps));
      links = λ P. same_links O N s P (list_at false P) (seen P t) (m.links P);
    }

-- Two lists of operations that have one identifier each have the same, where they have the same identifiers.
module _ (In : Op → Type 0) (one_each : (o e : Op) → In o → In e → o.id ≡ e.id → o ≡ e) where
  pub record AreOf (O : List Op) : Type 0 where
    pub all : (o : Op) → Contains O o → In o
    pub one : (o : Op) → Contains O o → op_of o.id O ≡ Some o

  same_found : (O N : List Op) → AreOf O → AreOf N → ((i : Id) → is_some (op_of i O) ≡ is_some (op_of i N)) → (i : Id) → op_of i O ≡ op_of i N
  same_found O N a b e i = go (op_of i O) (op_of i N) refl refl (e i)
    where
      go : (x y : Option Op) → op_of i O ≡ x → op_of i N ≡ y → is_some x ≡ is_some y → x ≡ y
      go None None f g h = refl
      go None (Some p) f g h = cc
      go (Some o) None f g h = cc
      go (Some o) (Some p) f g h =
          let x = op_in i O o f in
          let y = op_in i N p g in
          ap (λ z. Some z) (one_each o p (a.all o x.0) (b.all p y.0) (x.1 ∙ sym y.1))

  some_also : (O N : List Op) → AreOf O → AreOf N → ((i : Id) → op_of i O ≡ op_of i N) → (f : Op → Bool) → some_op f O ≡ true → some_op f N ≡ true
  some_also O N a b e f h =
      let r = some_in f O h in
      let there : op_of r.0.id N ≡ Some r.0 = sym (e r.0.id) ∙ a.one r.0 r.1 in
      in_some f N r.0 (op_in r.0.id N r.0 there).0 r.2

  pub same_ops : (O N : List Op) → AreOf O → AreOf N → ((i : Id) → is_some (op_of i O) ≡ is_some (op_of i N)) → SameOps O N
  same_ops O N a b e =
      let found = same_found O N a b e in
      record {
        found = found;
        some = λ f. same_tests (some_op f O) (some_op f N) (some_also O N a b found f) (some_also N O b a (λ i. sym (found i)) f);
      }

-- lists of the same operations, each with an identifier of its own
pub same_lists : (O N : List Op) → ((o : Op) → Contains O o → op_of o.id O ≡ Some o) → ((o : Op) → Contains N o → op_of o.id N ≡ Some o) → ((o : Op) → Contains O o ↔ Contains N o) → SameOps O N
same_lists O N f g h = same_ops (λ o. Contains O o) one_each O N (record { all = λ o k. k; one = f }) (record { all = λ o k. (h o).1 k; one = g }) ids
  where
    one_each : (o e : Op) → Contains O o → Contains O e → o.id ≡ e.id → o ≡ e
    one_each o e k l s = same_Some o e (sym (f o k) ∙ ap (λ i. op_of i O) s ∙ f e l)

    there : (L M : List Op) → ((o : Op) → Contains M o → op_of o.id M ≡ Some o) → ((o : Op) → Contains L o → Contains M o) → (i : Id) (x : Option Op) → op_of i L ≡ x → is_some x ≡ true → is_some (op_of i M) ≡ true
    there L M m more i None e t = cc
    there L M m more i (Some o) e t = let x = op_in i L o e in subst (λ j. is_some (op_of j M) ≡ true) x.1 (ap is_some (m o (more o x.0)))

    ids : (i : Id) → is_some (op_of i O) ≡ is_some (op_of i N)
    ids i = same_tests (is_some (op_of i O)) (is_some (op_of i N)) (there O N g (λ o. (h o).0) i (op_of i O) refl) (there N O f (λ o. (h o).1) i (op_of i N) refl)
