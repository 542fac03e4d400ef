-- Of `Answers`: breakpoints that are set and taken away, and places that expressions give.
use Rattle.std.proofs.Common.{◌≡◌, ◌≢◌, ℕ, ◌+◌, List, length, slice_get, slice_set, Option, Some, None, codes, inr, refl, sym, ap, subst, ◌∙◌}
use Rattle.std.specs.declared.alloc.Global.{Global}
use Rattle.std.specs.declared.vec.Vec.{Vec}
use Rattle.jc_rules.specs.declared.operation.Cursor.{Cursor}
use Rattle.jc_rules.specs.declared.refusal.Refusal.{Refusal}
use Rattle.jc_rules.specs.declared.refusal.Refusal.TheVariants as E
use Rattle.jc_rules.specs.declared.rule.Rule.{Rule}
use Rattle.jc_rules.specs.RuleNames.{rule_name}
use Rattle.jc_rules.specs.Refused.{Cause}
use Rattle.jc_rules.specs.State.{ACursor}
use Rattle.jc_rules.specs.Step.{Network}
use Rattle.jc_syntax.specs.declared.tree.Expr.{Expr as AnyExpr}
use Rattle.jc_syntax.specs.Trees.{expr_of}
use Rattle.jc_parser.specs.declared.parse_fault.ParseFault.{ParseFault}
use Rattle.jc_parser.specs.declared.parse_fault.ParseFault.TheVariants as P
use Rattle.jc_parser.specs.Expressions.{IsExpressionOf, IsExpressionFault}
use Rattle.jc_parser.specs.Faults.{fault_refusal, fault_offset, from_sentence}
use Rattle.jc_scenario.specs.WellFormed.{Scenario}
use Rattle.jc_network.specs.NetworkHistory.{NetworkHistory}
use Rattle.jc_cursor.specs.declared.bound.Bound.{Bound as AnyBound}
use Rattle.jc_cursor.specs.declared.bound.Bound.TheVariants as B
use Rattle.jc_cursor.specs.Bounds.{bound_of}
use Rattle.jc_cursor.specs.Evaluates.{IsEvalRefused}
use Rattle.jc_debug.specs.declared.breaks.Break.TheVariants as Kind
use Rattle.jc_debug.specs.DebuggerState.{IsLeast, IsNetworkAt}
use Rattle.jc_debug.specs.Invariant.{start_of}
use Rattle.jc_session.specs.Answers.{IsNamed, IsStrange, Knows}
use Rattle.jc_session.specs.Requests as Q
use Rattle.jc_session.specs.Requests.{Word}
use Rattle.jc_requests.specs.Asked as K
use Rattle.jc_answers.specs.JsonTexts.{number_member, object_text}
use Rattle.jc_answers.specs.Refusals.{refusal_answer}
use Rattle.jc_looks.specs.declared.fault.LookFault.{LookFault}
use Rattle.jc_looks.specs.declared.fault.LookFault.TheVariants as F
use Rattle.jc_looks.specs.LookFaults.{RefusesBy, IsRefusedAt}
use Rattle.jc_looks.specs.Looks.{OfReplica, Gives, no_value_answer}
use Rattle.jc_serve.specs.declared.marks.Mark.{Mark as AnyMark}
use Rattle.jc_serve.specs.declared.served.Served.{Served as AnyServed}
use Rattle.jc_serve.specs.Answers as A
use Rattle.jc_serve.specs.Answers.{IsPlace, IsNoPlace, SetsMark, AnswersServed}
use Rattle.jc_serve.specs.Asking.{IsBadExpression, IsStrangeAnswer}
use Rattle.jc_serve.specs.AnswerOf.{SetsIn, LeadsTo}
use Rattle.jc_serve.specs.InMemory.{marks_of, state_of, IsServing}
use Rattle.jc_serve.specs.Marks.{Mark, Served, of_session, operation, place, with_mark}

-- ---- expressions

pub misspelled : (names : List (List ℕ)) (name : Word) (text : List ℕ) (p : ℕ) (fault : ParseFault) (refusal : Option Refusal) (at : Option ℕ) (told : LookFault)
    → IsNamed names name p
    → (fault ≢ P.Memory → IsExpressionFault text (from_sentence fault))
    → refusal ≡ fault_refusal (from_sentence fault)
    → at ≡ fault_offset (from_sentence fault)
    → RefusesBy (IsRefusedAt text refusal at) told
    → RefusesBy (IsBadExpression names name text) told
misspelled names name text p fault refusal at F.Memory named is r o h = tt
misspelled names name text p fault refusal at (F.Refused answer) named is r o h =
    inr (record {
      number = p;
      named = named;
      fault = from_sentence fault;
      refusal = h.which;
      place = h.at;
      is_fault = is (λ e. let no : ◌≡◌ {A = Option Refusal} (Some h.which) None = sym h.is_refusal ∙ r ∙ ap (λ (f : ParseFault). fault_refusal (from_sentence f)) e in absurd cc);
      is_refusal = sym r ∙ h.is_refusal;
      is_place = sym o ∙ h.is_place;
      written = h.written;
    })

-- ---- places

module _ (c d : NetworkHistory) (same : c ≡ d) (names : List (List ℕ)) (are : names ≡ c.names) (name : Word) (text : List ℕ) where
  carried : (fault : LookFault) → RefusesBy (IsNoPlace c.names c.history.now.states name text) fault → RefusesBy (IsNoPlace d.names d.history.now.states name text) fault
  carried fault h = subst (λ (n : NetworkHistory). RefusesBy (IsNoPlace n.names n.history.now.states name text) fault) same h

  pub bad_place : (fault : LookFault) → RefusesBy (IsBadExpression names name text) fault → RefusesBy (IsNoPlace d.names d.history.now.states name text) fault
  bad_place fault h = carried fault (go fault (subst (λ (ns : List (List ℕ)). RefusesBy (IsBadExpression ns name text) fault) are h))
    where
      go : (f : LookFault) → RefusesBy (IsBadExpression c.names name text) f → RefusesBy (IsNoPlace c.names c.history.now.states name text) f
      go (F.Refused answer) bad = A.bad bad
      go F.Memory bad = tt

  module _ (p : ℕ) (e : AnyExpr) (named : IsNamed names name p) (is : IsExpressionOf text (expr_of e)) where
    own : IsNamed c.names name p
    own = subst (λ (ns : List (List ℕ)). IsNamed ns name p) are named

    pub valueless : (fault : LookFault)
        → RefusesBy (λ answer. OfReplica c.history.now.states p (λ S. (why : Cause) × IsEvalRefused S.tree S.vars (expr_of e) why × (answer ≡ no_value_answer c.names why))) fault
        → RefusesBy (IsNoPlace d.names d.history.now.states name text) fault
    valueless fault h = carried fault (go fault h)
      where
        go : (f : LookFault) → RefusesBy (λ answer. OfReplica c.history.now.states p (λ S. (why : Cause) × IsEvalRefused S.tree S.vars (expr_of e) why × (answer ≡ no_value_answer c.names why))) f → RefusesBy (IsNoPlace c.names c.history.now.states name text) f
        go (F.Refused answer) (S, there, (why, refused, told)) =
            subst (λ (t : List ℕ). IsNoPlace c.names c.history.now.states name text t) (sym told) (A.no_value {why = why} p (expr_of e) own is (S, there, refused))
        go F.Memory h2 = tt

    pub no_cursor_at : (b : AnyBound) (fault : LookFault)
        → ((cursor : Cursor) → b ≡ B.Cursor cursor → ⊥)
        → OfReplica c.history.now.states p (λ S. Gives S (expr_of e) (bound_of b))
        → RefusesBy (λ answer. answer ≡ refusal_answer E.NotACursor) fault
        → RefusesBy (IsNoPlace d.names d.history.now.states name text) fault
    no_cursor_at b fault other gives h = carried fault (go fault h)
      where
        never : (a : AnyBound) → ((cursor : Cursor) → a ≡ B.Cursor cursor → ⊥) → (cursor : Cursor) → bound_of a ≢ ACursor cursor
        never (B.Cursor x) other2 cursor = absurd (other2 x refl)
        never (B.Keys keys) other2 cursor = λ e2. absurd cc
        never (B.Values pairs) other2 cursor = λ e2. absurd cc

        go : (f : LookFault) → RefusesBy (λ answer. answer ≡ refusal_answer E.NotACursor) f → RefusesBy (IsNoPlace c.names c.history.now.states name text) f
        go (F.Refused answer) told =
            subst (λ (t : List ℕ). IsNoPlace c.names c.history.now.states name text t) (sym told) (A.no_cursor p (expr_of e) (bound_of b) own is gives (never b other))
        go F.Memory told = tt

    pub place_found : (b : AnyBound) (cursor : Cursor) → b ≡ B.Cursor cursor → OfReplica c.history.now.states p (λ S. Gives S (expr_of e) (bound_of b)) → IsPlace d.names d.history.now.states name text p cursor
    place_found b cursor it gives =
        subst (λ (n : NetworkHistory). IsPlace n.names n.history.now.states name text p cursor) same
        (record { expression = expr_of e; named = own; is = is; gives = subst (λ (a : AnyBound). OfReplica c.history.now.states p (λ S. Gives S (expr_of e) (bound_of a))) it gives })

-- ---- breakpoints that are set

with_marks_serving : (s : Scenario) (start : Network) (x : AnyServed) (marks : Vec (Option AnyMark) Global) → IsServing s start x → length marks.items ≡ length x.marks.items → IsServing s start (record x { marks = marks })
with_marks_serving s start x marks v many = record {
  scenario = v.scenario;
  formed = v.formed;
  starts = v.starts;
  here = v.here;
  no_breaks = v.no_breaks;
  aside = v.aside;
  same = v.same;
  current = v.current;
  places = many ∙ v.places;
}

with_marks_state : (x : AnyServed) (marks : Vec (Option AnyMark) Global) (j : ℕ) (b : Option Mark) → marks_of marks.items ≡ slice_set (marks_of x.marks.items) j b → with_mark (state_of x) j b ≡ state_of (record x { marks = marks })
with_marks_state x marks j b is = λ i. record { schedule = x.here.schedule; position = length x.here.traces; marks = sym is i }

pub is_set : (x : AnyServed) (marks : Vec (Option AnyMark) Global) (b : Mark) (j : ℕ) (answer : List ℕ)
    → IsLeast (λ i. slice_get (marks_of x.marks.items) i ≡ Some None) j
    → marks_of marks.items ≡ slice_set (marks_of x.marks.items) j (Some b)
    → length marks.items ≡ length x.marks.items
    → answer ≡ object_text (number_member (codes "set") (j + 1))
    → SetsIn x b (record x { marks = marks }) answer
is_set x marks b j answer least is many told s start v = (
  subst (λ (t : List ℕ). SetsMark (state_of x) b (state_of (record x { marks = marks })) t) (sym told)
      (subst (λ (C : Served). SetsMark (state_of x) b C (object_text (number_member (codes "set") (j + 1)))) (with_marks_state x marks j (Some b) is) (A.set least)),
  with_marks_serving s start x marks v many,
)

pub none_is_free : (x : AnyServed) (marks : Vec (Option AnyMark) Global) (b : Mark) (answer : List ℕ)
    → ((j : ℕ) → slice_get (marks_of x.marks.items) j ≢ Some None)
    → marks_of marks.items ≡ marks_of x.marks.items
    → length marks.items ≡ length x.marks.items
    → answer ≡ refusal_answer E.TooManyBreaks
    → SetsIn x b (record x { marks = marks }) answer
none_is_free x marks b answer none is many told s start v =
    let same : state_of x ≡ state_of (record x { marks = marks }) = λ i. record { schedule = x.here.schedule; position = length x.here.traces; marks = sym is i } in (
      subst (λ (t : List ℕ). SetsMark (state_of x) b (state_of (record x { marks = marks })) t) (sym told)
          (subst (λ (C : Served). SetsMark (state_of x) b C (refusal_answer E.TooManyBreaks)) same (A.none_free none)),
      with_marks_serving s start x marks v many,
    )

pub breaks_at : (text : List ℕ) (x y : AnyServed) (n : ℕ) (answer : List ℕ) → SetsIn x (of_session (Kind.Position n)) y answer → LeadsTo text x (K.of_session (Q.break_at n)) y answer
breaks_at text x y n answer h s start v = let r = h s start v in (A.breaks_at r.0, r.1)

pub breaks_rule : (text : List ℕ) (x y : AnyServed) (rule : Rule) (name : Word) (answer : List ℕ) → Knows rule x.scenario.version → rule_name rule ≡ name → SetsIn x (of_session (Kind.Rule rule)) y answer → LeadsTo text x (K.of_session (Q.break_rule name)) y answer
breaks_rule text x y rule name answer known is h s start v =
    let r = h s start v in
    (A.breaks_rule rule (subst (λ (t : Scenario). Knows rule t.version) v.scenario known) is r.0, r.1)

pub no_rule : (text : List ℕ) (x : AnyServed) (name : Word) (answer : List ℕ) → ((rule : Rule) → Knows rule x.scenario.version → rule_name rule ≢ name) → answer ≡ refusal_answer E.BadLine → LeadsTo text x (K.of_session (Q.break_rule name)) x answer
no_rule text x name answer none is s start v =
    let never : (rule : Rule) → Knows rule s.version → rule_name rule ≢ name =
    λ rule known. none rule (subst (λ (t : Scenario). Knows rule t.version) (sym v.scenario) known) in
    (subst (λ (t : List ℕ). AnswersServed text s start (state_of x) (K.of_session (Q.break_rule name)) (state_of x) t) (sym is) (A.bad (A.no_rule never)), v)

-- ---- breakpoints that are taken away

pub is_cleared : (text : List ℕ) (x : AnyServed) (marks : Vec (Option AnyMark) Global) (k j : ℕ) (b : Mark) (answer : List ℕ)
    → k ≡ j + 1
    → slice_get (marks_of x.marks.items) j ≡ Some (Some b)
    → marks_of marks.items ≡ slice_set (marks_of x.marks.items) j None
    → length marks.items ≡ length x.marks.items
    → answer ≡ object_text (number_member (codes "cleared") k)
    → LeadsTo text x (K.of_session (Q.unbreak k)) (record x { marks = marks }) answer
is_cleared text x marks k j b answer number there is many told s start v = (
  subst (λ (t : List ℕ). AnswersServed text s start (state_of x) (K.of_session (Q.unbreak k)) (state_of (record x { marks = marks })) t) (sym told)
      (subst (λ (n : ℕ). AnswersServed text s start (state_of x) (K.of_session (Q.unbreak n)) (state_of (record x { marks = marks })) (object_text (number_member (codes "cleared") n))) (sym number)
      (subst (λ (C : Served). AnswersServed text s start (state_of x) (K.of_session (Q.unbreak (j + 1))) C (object_text (number_member (codes "cleared") (j + 1)))) (with_marks_state x marks j None is) (A.clears j b there))),
  with_marks_serving s start x marks v many,
)

pub none_cleared : (text : List ℕ) (x : AnyServed) (marks : Vec (Option AnyMark) Global) (k : ℕ) (answer : List ℕ)
    → ((j : ℕ) (b : Mark) → k ≡ j + 1 → slice_get (marks_of x.marks.items) j ≢ Some (Some b))
    → marks ≡ x.marks
    → answer ≡ refusal_answer E.NoSuchBreak
    → LeadsTo text x (K.of_session (Q.unbreak k)) (record x { marks = marks }) answer
none_cleared text x marks k answer none same told s start v =
    let old : (AnswersServed text s start (state_of x) (K.of_session (Q.unbreak k)) (state_of x) answer) × IsServing s start x =
    (subst (λ (t : List ℕ). AnswersServed text s start (state_of x) (K.of_session (Q.unbreak k)) (state_of x) t) (sym told) (A.no_break none), v) in
    subst (λ (ms : Vec (Option AnyMark) Global). (AnswersServed text s start (state_of x) (K.of_session (Q.unbreak k)) (state_of (record x { marks = ms })) answer) × IsServing s start (record x { marks = ms })) (sym same) old

-- ---- replicas by their names

-- no replica has the name
pub strange_lead : (x : AnyServed) (c : NetworkHistory) (names : List (List ℕ)) (name : Word) (r : K.Asked) (fault : LookFault)
    → c ≡ x.here.net
    → names ≡ c.names
    → ((s : Scenario) → IsStrange s.names name → A.IsBadRequest s r (refusal_answer E.UnknownReplica))
    → RefusesBy (IsStrangeAnswer names name) fault
    → RefusesBy (λ answer. (text : List ℕ) → LeadsTo text x r x answer) fault
strange_lead x c names name r F.Memory same are bad h = tt
strange_lead x c names name r (F.Refused answer) same are bad (strange, is) = λ text s start v.
    let all : names ≡ s.names = are ∙ ap (λ (n : NetworkHistory). n.names) same ∙ v.here.names in
    (subst (λ (t : List ℕ). AnswersServed text s start (state_of x) r (state_of x) t) (sym is) (A.bad (bad s (subst (λ (ns : List (List ℕ)). IsStrange ns name) all strange))), v)

own_name : (s : Scenario) (start : Network) (x : AnyServed) (c : NetworkHistory) (names : List (List ℕ)) (name : Word) (p : ℕ) → IsServing s start x → c ≡ x.here.net → names ≡ c.names → IsNamed names name p → IsNamed s.names name p
own_name s start x c names name p v same are named =
    subst (λ (ns : List (List ℕ)). IsNamed ns name p) (are ∙ ap (λ (n : NetworkHistory). n.names) same ∙ v.here.names) named

pub breaks_replica : (text : List ℕ) (x y : AnyServed) (c : NetworkHistory) (names : List (List ℕ)) (name : Word) (p : ℕ) (answer : List ℕ) → c ≡ x.here.net → names ≡ c.names → IsNamed names name p → SetsIn x (of_session (Kind.Replica p)) y answer → LeadsTo text x (K.of_session (Q.break_replica name)) y answer
breaks_replica text x y c names name p answer same are named h s start v =
    let r = h s start v in (A.breaks_replica p (own_name s start x c names name p v same are named) r.0, r.1)

pub breaks_op : (text : List ℕ) (x y : AnyServed) (c : NetworkHistory) (names : List (List ℕ)) (name : Word) (counter p : ℕ) (answer : List ℕ) → c ≡ x.here.net → names ≡ c.names → IsNamed names name p → SetsIn x (operation (record { counter = counter; replica = p })) y answer → LeadsTo text x (K.break_op counter name) y answer
breaks_op text x y c names name counter p answer same are named h s start v =
    let r = h s start v in (A.breaks_op (own_name s start x c names name p v same are named) r.0, r.1)

-- ---- places of a session

module _ (x : AnyServed) (c : NetworkHistory) (same : c ≡ x.here.net) (is_at : IsNetworkAt (start_of x.here) x.here.schedule (length x.here.traces) c.history.now) (name : Word) (expression : List ℕ) where
  led : (s : Scenario) (start : Network) → IsServing s start x → IsNetworkAt start x.here.schedule (length x.here.traces) x.here.net.history.now
  led s start v =
      subst (λ (S : Network). IsNetworkAt S x.here.schedule (length x.here.traces) x.here.net.history.now) v.here.is_start
      (subst (λ (n : NetworkHistory). IsNetworkAt (start_of x.here) x.here.schedule (length x.here.traces) n.history.now) same is_at)

  pub no_place_lead : (fault : LookFault) → RefusesBy (IsNoPlace x.here.net.names x.here.net.history.now.states name expression) fault → RefusesBy (λ answer. (text : List ℕ) → LeadsTo text x (K.break_place name expression) x answer) fault
  no_place_lead F.Memory h = tt
  no_place_lead (F.Refused answer) h = λ text s start v.
      (A.breaks_place (led s start v) (A.refuses (subst (λ (ns : List (List ℕ)). IsNoPlace ns x.here.net.history.now.states name expression answer.items) v.here.names h)), v)

  pub place_lead : (text : List ℕ) (y : AnyServed) (b : Mark) (answer : List ℕ)
      → (p : ℕ) × (cursor : Cursor) × (b ≡ place p cursor) × IsPlace x.here.net.names x.here.net.history.now.states name expression p cursor
      → SetsIn x b y answer
      → LeadsTo text x (K.break_place name expression) y answer
  place_lead text y b answer (p, cursor, is, found) h s start v =
      let r = h s start v in
      (A.breaks_place (led s start v) (A.sets (subst (λ (ns : List (List ℕ)). IsPlace ns x.here.net.history.now.states name expression p cursor) v.here.names found) (subst (λ (m : Mark). SetsMark (state_of x) m (state_of y) answer) is r.0)), r.1)
