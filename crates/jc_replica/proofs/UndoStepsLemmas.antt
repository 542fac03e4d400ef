-- Lemmas about Undo: a step is recorded, and all steps can be taken back.
use Rattle.std.proofs.Common.{◌≡◌, ℕ, zero, suc, ◌+◌, ◌≤◌, ◌<◌, List, [], ◌∷◌, ◌++◌, length, take, refl, sym, ◌∙◌, ap, subst, arith, length-append, length-take-le, add-one}
use Rattle.std.specs.List.{AllByRecursion}
use Rattle.jc_rules.specs.Context.{Context}
use Rattle.jc_rules.specs.State.{State}
use Rattle.jc_rules.specs.Syntax.{Cmd}
use Rattle.jc_rules.specs.History.{IsLater, timeline}
use Rattle.jc_tree.specs.Tree.{Tree}
use Rattle.jc_replica.specs.declared.record.Record.{Record}
use Rattle.jc_replica.specs.ReadyToStep.{IsReadyToStep, AreReady}
use Rattle.jc_replica.specs.Undo.{Held, state_of, undone_once, steps_undone, states, content_at}
use Rattle.jc_replica.specs.Invariant.{AreMarks, CanBack, AreBacks, IsInBounds, IsReplica}

-- what a further step takes back was held before it
undone-pushed : (rs : List Record) (r : Record) (h h2 : Held) → undone_once r.change h2 ≡ h → steps_undone (rs ++ r ∷ []) h2 ≡ steps_undone rs h
undone-pushed [] r h h2 e = e
undone-pushed (s ∷ rs) r h h2 e = ap (undone_once s.change) (undone-pushed rs r h h2 e)

pub states-pushed : (script : List Cmd) (contents : List Context) (rs : List Record) (r : Record) (h h2 : Held) → undone_once r.change h2 ≡ h → states script contents (rs ++ r ∷ []) h2 ≡ states script contents rs h ++ state_of script h (content_at contents r.mark.changes) ∷ []
states-pushed script contents [] r h h2 e = ap (λ (x : Held). state_of script x (content_at contents r.mark.changes) ∷ []) e
states-pushed script contents (s ∷ rs) r h h2 e =
    ap (λ (x : Held). state_of script (undone_once s.change x) (content_at contents s.mark.changes) ∷ states script contents (rs ++ r ∷ []) h2) (undone-pushed rs r h h2 e)
    ∙ ap (λ (x : List State). state_of script (steps_undone (s ∷ rs) h) (content_at contents s.mark.changes) ∷ x) (states-pushed script contents rs r h h2 e)

-- the content at a mark, while more contents come
content-kept : (cs ds : List Context) (n : ℕ) → n < length cs → content_at (cs ++ ds) n ≡ content_at cs n
content-kept [] ds n h = absurd (omega (arith, h))
content-kept (c ∷ cs) ds zero h = refl
content-kept (c ∷ cs) ds (suc n) h = content-kept cs ds n (omega (arith, h))

content-now : (t : Tree) → content_at (timeline t) (length t.earlier) ≡ t.now
content-now t = go t.earlier
  where
    go : (cs : List Context) → content_at (cs ++ t.now ∷ []) (length cs) ≡ t.now
    go [] = refl
    go (c ∷ cs) = go cs

-- states at marks that are there still
states-kept : (script : List Cmd) (cs ds : List Context) (rs : List Record) (h : Held) (n : ℕ) → AreMarks n rs → n < length cs → states script (cs ++ ds) rs h ≡ states script cs rs h
states-kept script cs ds [] h n m l = refl
states-kept script cs ds (r ∷ rs) h n m l =
    ap (λ (x : Context). state_of script (steps_undone (r ∷ rs) h) x ∷ states script (cs ++ ds) rs h) (content-kept cs ds r.mark.changes (omega (arith, m.1, l)))
    ∙ ap (λ (x : List State). state_of script (steps_undone (r ∷ rs) h) (content_at cs r.mark.changes) ∷ x) (states-kept script cs ds rs h n m.2 l)

all_pushed : {X : Type 0} (P : X → Type 0) (xs : List X) (x : X) → AllByRecursion P xs → P x → AllByRecursion P (xs ++ x ∷ [])
all_pushed P [] x a p = (p, tt)
all_pushed P (y ∷ ys) x a p = (a.0, all_pushed P ys x a.1 p)

marks-pushed : (n m : ℕ) (rs : List Record) (r : Record) → AreMarks n rs → r.mark.changes ≡ n → n ≤ m → AreMarks m (rs ++ r ∷ [])
marks-pushed n m [] r h e l = (tt, omega (arith, e, l), tt)
marks-pushed n m (s ∷ rs) r h e l =
    (all_pushed (λ (x : Record). s.mark.changes ≤ x.mark.changes) rs r h.0 (omega (arith, h.1, e)), omega (arith, h.1, l), marks-pushed n m rs r h.2 e l)

backs-pushed : (script : List Cmd) (rs : List Record) (r : Record) (h h2 : Held) → AreBacks script rs h → undone_once r.change h2 ≡ h → CanBack script r.change h2 → AreBacks script (rs ++ r ∷ []) h2
backs-pushed script [] r h h2 a e b = (b, tt)
backs-pushed script (s ∷ rs) r h h2 a e b =
    (subst (λ (x : Held). CanBack script s.change x) (sym (undone-pushed rs r h h2 e)) a.0, backs-pushed script rs r h h2 a.1 e b)

-- A step keeps the old states and the one before it.
pub record Stepped (script : List Cmd) (t u : Tree) (rs ss : List Record) (h h2 : Held) : Type 0 where
  pub earlier : states script (timeline u) ss h2 ≡ states script (timeline t) rs h ++ state_of script h t.now ∷ []
  pub kept : IsReplica script u ss h2

pub stepped : {script : List Cmd} {t : Tree} {rs : List Record} {h : Held} → IsReplica script t rs h → (u : Tree) (ss : List Record) (r : Record) (h2 : Held) → IsLater t u → ss ≡ rs ++ r ∷ [] → r.mark.changes ≡ length t.earlier → undone_once r.change h2 ≡ h → CanBack script r.change h2 → IsReadyToStep (state_of script h2 u.now) → IsInBounds script h2 → Stepped script t u rs ss h h2
stepped {script} {t} {rs} {h} k u ss r h2 later se me be cb ready bounds =
    let there : length t.earlier < length (timeline t) = omega (arith, length-append t.earlier (t.now ∷ [])) in
    let longer : length t.earlier ≤ length u.earlier = omega (arith, ap length later.is, length-append t.earlier (t.now ∷ []), length-append u.earlier (u.now ∷ []), length-append (timeline t) later.added) in
    let earlier : states script (timeline u) (rs ++ r ∷ []) h2 ≡ states script (timeline t) rs h ++ state_of script h t.now ∷ [] =
    states-pushed script (timeline u) rs r h h2 be
    ∙ ap (λ (cs : List Context). states script cs rs h ++ state_of script h (content_at cs r.mark.changes) ∷ []) later.is
    ∙ ap (λ (x : List State). x ++ state_of script h (content_at (timeline t ++ later.added) r.mark.changes) ∷ []) (states-kept script (timeline t) later.added rs h (length t.earlier) k.marks there)
    ∙ ap (λ (n : ℕ). states script (timeline t) rs h ++ state_of script h (content_at (timeline t ++ later.added) n) ∷ []) me
    ∙ ap (λ (c : Context). states script (timeline t) rs h ++ state_of script h c ∷ []) (content-kept (timeline t) later.added (length t.earlier) there ∙ content-now t) in
    rw se (record {
      earlier = earlier;
      kept = record {
        ready = all_pushed IsReadyToStep _ _ (subst AreReady (sym earlier) k.ready) ready;
        bounds = bounds;
        marks = marks-pushed (length t.earlier) (length u.earlier) rs r k.marks me longer;
        backs = backs-pushed script rs r h h2 k.backs be cb;
      };
    })

-- the last step taken back
marks_left : (n : ℕ) (rs : List Record) (r : Record) → AreMarks n (rs ++ r ∷ []) → AreMarks r.mark.changes rs × (r.mark.changes ≤ n)
marks_left n [] r h = (tt, h.1)
marks_left n (s ∷ rs) r h =
    let rest = marks_left n rs r h.2 in
    ((left rs h.0, last rs h.0, rest.0), rest.1)
  where
    left : (xs : List Record) → AllByRecursion (λ x. s.mark.changes ≤ x.mark.changes) (xs ++ r ∷ []) → AllByRecursion (λ x. s.mark.changes ≤ x.mark.changes) xs
    left [] a = tt
    left (x ∷ xs) a = (a.0, left xs a.1)

    last : (xs : List Record) → AllByRecursion (λ x. s.mark.changes ≤ x.mark.changes) (xs ++ r ∷ []) → s.mark.changes ≤ r.mark.changes
    last [] a = a.0
    last (x ∷ xs) a = last xs a.1

backs_left : (script : List Cmd) (rs : List Record) (r : Record) (h h0 : Held) → AreBacks script (rs ++ r ∷ []) h → undone_once r.change h ≡ h0 → AreBacks script rs h0
backs_left script [] r h h0 a e = tt
backs_left script (s ∷ rs) r h h0 a e =
    (subst (λ (x : Held). CanBack script s.change x) (undone-pushed rs r h0 h e) a.0, backs_left script rs r h h0 a.1 e)

last_back : (script : List Cmd) (rs : List Record) (r : Record) (h : Held) → AreBacks script (rs ++ r ∷ []) h → CanBack script r.change h
last_back script [] r h a = a.0
last_back script (s ∷ rs) r h a = last_back script rs r h a.1

-- what the last record knows of the store and of what is held
pub mark_there : {script : List Cmd} {t : Tree} {ss : List Record} {h : Held} → IsReplica script t ss h → (rs : List Record) (r : Record) → ss ≡ rs ++ r ∷ [] → r.mark.changes ≤ length t.earlier
mark_there {script} {t} {ss} {h} k rs r e = (marks_left (length t.earlier) rs r (subst (AreMarks (length t.earlier)) e k.marks)).1

pub can_back : {script : List Cmd} {t : Tree} {ss : List Record} {h : Held} → IsReplica script t ss h → (rs : List Record) (r : Record) → ss ≡ rs ++ r ∷ [] → CanBack script r.change h
can_back {script} {t} {ss} {h} k rs r e = last_back script rs r h (subst (λ (x : List Record). AreBacks script x h) e k.backs)

content-front : (cs : List Context) (n : ℕ) → n < length cs → content_at (take (suc n) cs) n ≡ content_at cs n
content-front [] n h = absurd (omega (arith, h))
content-front (c ∷ cs) zero h = refl
content-front (c ∷ cs) (suc n) h = content-front cs n (omega (arith, h))

states-front : (script : List Cmd) (cs : List Context) (rs : List Record) (h : Held) (n : ℕ) → AreMarks n rs → n < length cs → states script (take (suc n) cs) rs h ≡ states script cs rs h
states-front script cs [] h n m l = refl
states-front script cs (r ∷ rs) h n m l =
    ap (λ (x : Context). state_of script (steps_undone (r ∷ rs) h) x ∷ states script (take (suc n) cs) rs h) (content_within cs r.mark.changes n m.1 l)
    ∙ ap (λ (x : List State). state_of script (steps_undone (r ∷ rs) h) (content_at cs r.mark.changes) ∷ x) (states-front script cs rs h n m.2 l)
  where
    content_within : (ds : List Context) (k j : ℕ) → k ≤ j → j < length ds → content_at (take (suc j) ds) k ≡ content_at ds k
    content_within [] k j a b = absurd (omega (arith, b))
    content_within (d ∷ ds) zero j a b = refl
    content_within (d ∷ ds) (suc k) zero a b = absurd (omega (arith, a))
    content_within (d ∷ ds) (suc k) (suc j) a b = content_within ds k j (omega (arith, a)) (omega (arith, b))

all_front : {X : Type 0} (P : X → Type 0) (xs ys : List X) → AllByRecursion P (xs ++ ys) → AllByRecursion P xs
all_front P [] ys a = tt
all_front P (x ∷ xs) ys a = (a.0, all_front P xs ys a.1)

pub record Unstepped (script : List Cmd) (t u : Tree) (rs ss : List Record) (h h0 : Held) : Type 0 where
  pub history : states script (timeline u) rs h0 ++ state_of script h0 u.now ∷ [] ≡ states script (timeline t) ss h
  pub kept : IsReplica script u rs h0

pub unstepped : {script : List Cmd} {t : Tree} {ss : List Record} {h : Held} → IsReplica script t ss h → (u : Tree) (rs : List Record) (r : Record) (h0 : Held) → ss ≡ rs ++ r ∷ [] → timeline u ≡ take (r.mark.changes + 1) (timeline t) → undone_once r.change h ≡ h0 → IsInBounds script h0 → Unstepped script t u rs ss h h0
unstepped {script} {t} {ss} {h} k u rs r h0 se ue be bounds =
    let marks : AreMarks (length t.earlier) (rs ++ r ∷ []) = subst (AreMarks (length t.earlier)) se k.marks in
    let m = marks_left (length t.earlier) rs r marks in
    let n = r.mark.changes in
    let there : n < length (timeline t) = omega (arith, m.1, length-append t.earlier (t.now ∷ [])) in
    let ue2 : timeline u ≡ take (suc n) (timeline t) = ue ∙ ap (λ (i : ℕ). take i (timeline t)) (add-one n) in
    let long : length (take (suc n) (timeline t)) ≡ suc n = length-take-le (suc n) (timeline t) (omega (arith, there)) in
    let size : length u.earlier ≡ n = omega (arith, long, ap length ue2, length-append u.earlier (u.now ∷ [])) in
    let now : u.now ≡ content_at (timeline t) n = sym (content-now u) ∙ ap (content_at (timeline u)) size ∙ ap (λ (cs : List Context). content_at cs n) ue2 ∙ content-front (timeline t) n there in
    let old : states script (timeline u) rs h0 ≡ states script (timeline t) rs h0 = ap (λ (cs : List Context). states script cs rs h0) ue2 ∙ states-front script (timeline t) rs h0 n m.0 there in
    let all : states script (timeline u) rs h0 ++ state_of script h0 u.now ∷ [] ≡ states script (timeline t) ss h =
    ap (λ (x : List State). x ++ state_of script h0 u.now ∷ []) old
    ∙ ap (λ (c : Context). states script (timeline t) rs h0 ++ state_of script h0 c ∷ []) now
    ∙ sym (states-pushed script (timeline t) rs r h0 h be)
    ∙ ap (λ (x : List Record). states script (timeline t) x h) (sym se) in
    record {
      history = all;
      kept = record {
        ready = subst AreReady (sym all) (all_front IsReadyToStep _ _ k.ready);
        bounds = bounds;
        marks = subst (λ (x : ℕ). AreMarks x rs) (sym size) m.0;
        backs = backs_left script rs r h h0 (subst (λ (x : List Record). AreBacks script x h) se k.backs) be;
      };
    }
