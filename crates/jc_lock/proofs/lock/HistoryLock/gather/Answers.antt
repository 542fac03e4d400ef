use Rattle.std.proofs.Common.{rules, ◌≡◌, ◌++◌, ◌∷◌, [], subst, sym, ap, ◌∙◌, append_assoc, ◌<◌, length}
use Rattle.std.specs.Prelude.{All}
use Rattle.jc_lock.specs.Gathered.{known_of}
use Rattle.jc_lock.specs.Shows.{IsPassOf}
use Rattle.jc_lock.proofs.GatheredLemmas.{gather_keeps, none_of_length, some_append, some_known, all_but_last, known_of-push}
use Rattle.jc_lock.proofs.lock.HistoryLock.gather.Goals as goal

pub loop-pass-init : goal.loop-pass-init
loop-pass-init g c =
    let last = c.in-Some.last in
    let rest = c.pop.new.self.items in
    let is : c.args.passes.items ≡ rest ++ last ∷ [] = c.in-Some.ensures.items in
    let parts = all_but_last (IsPassOf c.args.self.now) rest last (subst (All (IsPassOf c.args.self.now)) is c.requires.all) in
    let seat = c.into_seat-seat.ensures in record {
      table = ap (λ s. s.table_id) seat ∙ parts.1;
      rests = ap (λ s. s.me.0.stage) seat ∙ last.rests;
      some = subst (λ s. 0 < length s.me.0.knows) (sym seat) (some_known last);
      all = parts.0;
      known = ap (λ s. known_of rest ++ s.me.0.knows) seat ∙ (sym (known_of-push rest last) ∙ ap known_of (sym is));
    }

pub join_seat-requires : goal.join_seat-requires
join_seat-requires g c =
    let inv = c.loop-pass.invariant in
    let pass = c.in-Some-pop.pass in
    let rest = c.pop-in-loop-pass.new.self.items in
    let is : c.loop-pass.passes.items ≡ rest ++ pass ∷ [] = c.in-Some-pop.ensures.items in
    let parts = all_but_last (IsPassOf c.args.self.now) rest pass (subst (All (IsPassOf c.args.self.now)) is inv.all) in
    let seat = c.into_seat.ensures in (
      inv.table,
      ap (λ s. s.table_id) seat ∙ parts.1,
      ap (λ s. s.me.1) seat ∙ none_of_length _ pass.no_slot,
      search rules,
      gather_keeps g.K.Kept.origin g.K.Kept.list g.K.Kept.maker _ _ _ _ _ inv.rests (ap (λ s. s.me.0.stage) seat ∙ pass.rests) inv.some,
    )

pub loop-pass-preserved : goal.loop-pass-preserved
loop-pass-preserved g c =
    let inv = c.loop-pass.invariant in
    let pass = c.in-Some-pop.pass in
    let rest = c.pop-in-loop-pass.new.self.items in
    let seat = c.loop-pass.seat in
    let is : c.loop-pass.passes.items ≡ rest ++ pass ∷ [] = c.in-Some-pop.ensures.items in
    let parts = all_but_last (IsPassOf c.args.self.now) rest pass (subst (All (IsPassOf c.args.self.now)) is inv.all) in
    let joined = c.join_seat.ensures.2 in
    let other = c.into_seat.ensures in
    let knows : c.join_seat.new.seat.me.0.knows ≡ pass.seat.me.0.knows ++ seat.me.0.knows = ap (λ m. m.0.knows) joined ∙ ap (λ s. s.me.0.knows ++ seat.me.0.knows) other in record {
      table = c.join_seat.ensures.0 ∙ inv.table;
      rests = ap (λ m. m.0.stage) joined ∙ inv.rests;
      some = subst (λ l. 0 < length l) (sym knows) (some_append pass.seat.me.0.knows seat.me.0.knows inv.some);
      all = parts.0;
      known = ap (λ l. known_of rest ++ l) knows ∙ (sym (append_assoc (known_of rest) pass.seat.me.0.knows seat.me.0.knows) ∙ (ap (λ l. l ++ seat.me.0.knows) (sym (known_of-push rest pass) ∙ ap known_of (sym is)) ∙ inv.known));
    }
