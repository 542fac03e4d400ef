use Rattle.std.proofs.Common.{rules, ◌≡◌, ◌+◌, ℕ, List, Option, length, take, sym, ◌∙◌, ap, subst, arith}
use Rattle.jc_rules.specs.declared.id.Id.{Id}
use Rattle.jc_rules.specs.declared.key.Next.{Next}
use Rattle.jc_rules.specs.Context.{Register}
use Rattle.jc_tree.specs.Numbered.{at_number}
use Rattle.jc_tree.specs.Tables.{AreColumnsWithin, IsBare, flat_of}
use Rattle.jc_tree.proofs.ArenaNodeLemmas.{trimmed_within, trimmed_seen}
use Rattle.jc_tree.proofs.FitNodesLemmas.{keys_cut}
use Rattle.jc_tree.proofs.arena_node.trim.Goals as goal

pub loop-last-preserved : goal.loop-last-preserved
loop-last-preserved c =
    let k = c.loop-last in
    let u = c.pop.new.self in
    let n = c.in-Some.last in
    let slices = c.is_bare.ensures.0 c.if-not-is_bare.false in
    let bare : IsBare n k.maps.items k.lists.items k.registers.items k.presences k.links.items = record {
      maps = ap (λ (d : List (Option ℕ)). at_number d n) (sym c.as_slice.ensures.value) ∙ slices.maps;
      lists = ap (λ (d : List (Option ℕ)). at_number d n) (sym c.as_slice-in-Some.ensures.value) ∙ slices.lists;
      registers = ap (λ (d : List (Option Register)). at_number d n) (sym c.as_slice-in-Some-2.ensures.value) ∙ slices.registers;
      presences = ap (λ (d : List (Option (List Id))). at_number d n) (sym c.as_slice-in-Some-3.ensures.value) ∙ slices.presences;
      links = ap (λ (d : List (Option Next)). at_number d n) (sym c.as_slice-in-Some-4.ensures.value) ∙ slices.links;
    } in
    let some : n + 1 ≡ length k.keys.keys = omega (arith, c.in-Some.ensures, c.len.ensures) in
    let within : AreColumnsWithin u (take n k.maps.items) (take n k.lists.items) (take n k.registers.items) (take n k.presences) (take n k.links.items) = trimmed_within k.keys u k.maps.items k.lists.items k.registers.items k.presences k.links.items n c.pop.ensures.numbered some c.pop.ensures.keys c.pop.ensures.order bare in (
      record {
        maps = omega (arith, within.maps, ap length c.cut.ensures);
        lists = omega (arith, within.lists, ap length c.cut-in-Some.ensures);
        registers = omega (arith, within.registers, ap length c.cut-in-Some-2.ensures);
        presences = omega (arith, within.presences, ap length c.cut-in-Some-3.ensures);
        links = omega (arith, within.links, ap length c.cut-in-Some-4.ensures);
      },
      (λ j. flat_of u (c.cut.ensures j) (c.cut-in-Some.ensures j) (c.cut-in-Some-2.ensures j) (c.cut-in-Some-3.ensures j) (c.cut-in-Some-4.ensures j)) ∙ trimmed_seen k.keys u k.maps.items k.lists.items k.registers.items k.presences k.links.items n c.pop.ensures.numbered some c.pop.ensures.keys c.pop.ensures.order bare ∙ k.invariant.1,
      keys_cut n k.keys.keys u.keys _ some (c.pop.ensures.keys ∙ ap (λ m. take m k.keys.keys) (omega (arith, some))) k.invariant.2,
    )

pub returns-then-not-is_bare-clause-trimmed : goal.returns-then-not-is_bare-clause-trimmed
returns-then-not-is_bare-clause-trimmed c = λ n long bare.
    let k = c.loop-last in
    let last = c.in-Some.last in
    let at : n ≡ last = omega (arith, c.in-Some.ensures, c.len.ensures, long) in
    let here : IsBare last k.maps.items k.lists.items k.registers.items k.presences k.links.items =
    subst (λ i. IsBare i k.maps.items k.lists.items k.registers.items k.presences k.links.items) at bare in
    let is = c.is_bare.ensures.1 (record {
      maps = ap (λ (d : List (Option ℕ)). at_number d last) c.as_slice.ensures.value ∙ here.maps;
      lists = ap (λ (d : List (Option ℕ)). at_number d last) c.as_slice-in-Some.ensures.value ∙ here.lists;
      registers = ap (λ (d : List (Option Register)). at_number d last) c.as_slice-in-Some-2.ensures.value ∙ here.registers;
      presences = ap (λ (d : List (Option (List Id))). at_number d last) c.as_slice-in-Some-3.ensures.value ∙ here.presences;
      links = ap (λ (d : List (Option Next)). at_number d last) c.as_slice-in-Some-4.ensures.value ∙ here.links;
    }) in
    absurd (search (rules, is, c.if-not-is_bare.true))
