-- About Runs: one row more, and the last rows taken away.
use Rattle.std.proofs.Common.{◌≡◌, ℕ, zero, suc, ◌+◌, ◌-◌, ◌<◌, ◌≤◌, List, [], ◌∷◌, ◌++◌, length, take, get_or, refl, sym, ap, ◌∙◌, arith, append_assoc, append-nil, length-append}
use Rattle.std.proofs.Math.Seq.{take-append_seam}
use Rattle.std.specs.Prelude.{slice_set}
use Rattle.std.proofs.lemmas.List.Concat.{flat_map-append}
use Rattle.jc_rules.specs.declared.rule.Rule.{Rule}
use Rattle.jc_rules.specs.declared.run.Run.{Run}
use Rattle.jc_rules.specs.Runs.{deeper, run_rows, rows_of_all, opened}
use Rattle.jc_rules.specs.Trace.{Rows, pushed, one_deeper}

pub deeper_more : (r : Rule) (d n : ℕ) → deeper r d (n + 1) ≡ deeper r d n ++ (r, d + n) ∷ []
deeper_more r d zero = ap (λ m. (r, m) ∷ []) (omega arith)
deeper_more r d (suc n) =
    let count : suc n + 1 ≡ suc (n + 1) = omega arith in
    let last : d + 1 + n ≡ d + suc n = omega arith in
    ap (deeper r d) count
    ∙ ap (λ l. (r, d) ∷ l) (deeper_more r (d + 1) n)
    ∙ ap (λ m. (r, d) ∷ (deeper r (d + 1) n ++ (r, m) ∷ [])) last

pub deeper_length : (r : Rule) (d n : ℕ) → length (deeper r d n) ≡ n
deeper_length r d zero = refl
deeper_length r d (suc n) = ap suc (deeper_length r (d + 1) n)

pub rows_of_all_more : (rs : List Run) (r : Run) → rows_of_all (rs ++ r ∷ []) ≡ rows_of_all rs ++ run_rows r
rows_of_all_more rs r = flat_map-append run_rows rs (r ∷ []) ∙ ap (λ l. rows_of_all rs ++ l) (append-nil (run_rows r))

-- the last run is longer
last_longer : (rs : List Run) (n : ℕ) (a b : Run) (xs : List (Rule × ℕ)) → suc n ≡ length rs → a ≡ get_or rs n a → run_rows b ≡ run_rows a ++ xs → rows_of_all (slice_set rs n b) ≡ rows_of_all rs ++ xs
last_longer [] n a b xs l e h = absurd (omega arith)
last_longer (r ∷ []) zero a b xs l e h =
    append-nil (run_rows b) ∙ h ∙ ap (λ (q : Run). run_rows q ++ xs) e ∙ ap (λ (q : List (Rule × ℕ)). q ++ xs) (sym (append-nil (run_rows r)))
last_longer (r ∷ s ∷ rs) zero a b xs l e h = absurd (omega arith)
last_longer (r ∷ rs) (suc n) a b xs l e h =
    ap (λ (q : List (Rule × ℕ)). run_rows r ++ q) (last_longer rs n a b xs (omega arith) e h) ∙ sym (append_assoc (run_rows r) (rows_of_all rs) xs)

deeper_parts : (r : Rule) (d m n : ℕ) → deeper r d (m + n) ≡ deeper r d m ++ deeper r (d + m) n
deeper_parts r d zero n = (λ i. deeper r (first i) (same i))
  where
    first : d ≡ d + 0
    first = omega arith

    same : 0 + n ≡ n
    same = omega arith
deeper_parts r d (suc m) n =
    let count : suc m + n ≡ suc (m + n) = omega arith in
    let more : d + 1 + m ≡ d + suc m = omega arith in
    ap (deeper r d) count ∙ ap (λ l. (r, d) ∷ l) (deeper_parts r (d + 1) m n ∙ ap (λ (x : ℕ). deeper r (d + 1) m ++ deeper r x n) more)

-- the run with another that goes on from it
longer_rows : (a b more : Run) → (b.rule ≡ a.rule) × (b.depth ≡ a.depth) × (b.count ≡ a.count + more.count) × (more.rule ≡ a.rule) × (more.depth ≡ a.depth + a.count) → run_rows b ≡ run_rows a ++ run_rows more
longer_rows a b more h =
    (λ i. deeper (h.0 i) (h.1 i) (h.2 i))
    ∙ deeper_parts a.rule a.depth a.count more.count
    ∙ (λ i. run_rows a ++ deeper (sym h.3 i) (sym h.4 i) more.count)

pub goes_on : (rs new : List Run) (len n : ℕ) (a b more : Run) → len ≡ length rs → n < len → n ≡ len - 1 → a ≡ get_or rs n a → new ≡ slice_set rs n b → (b.rule ≡ a.rule) × (b.depth ≡ a.depth) × (b.count ≡ a.count + more.count) × (more.rule ≡ a.rule) × (more.depth ≡ a.depth + a.count) → rows_of_all new ≡ rows_of_all rs ++ run_rows more
goes_on rs new len n a b more l w le e g h =
    ap rows_of_all g ∙ last_longer rs n a b (run_rows more) (omega arith) e (longer_rows a b more h)

-- a rule that was opened so many times
pub opened_rows : (n : ℕ) (r : Rule) (t : Rows) → (opened n r t).rows ≡ t.rows ++ deeper r t.depth n
opened_rows zero r t = sym (append-nil t.rows)
opened_rows (suc n) r t =
    opened_rows n r (one_deeper (pushed t r)) ∙ append_assoc t.rows ((r, t.depth) ∷ []) (deeper r (t.depth + 1) n)

pub opened_depth : (n : ℕ) (r : Rule) (t : Rows) → (opened n r t).depth ≡ t.depth + n
opened_depth zero r t = omega arith
opened_depth (suc n) r t = omega (arith, opened_depth n r (one_deeper (pushed t r)))

pub is_opened : (n : ℕ) (r : Rule) (t u : Rows) → u.rows ≡ t.rows ++ deeper r t.depth n → u.depth ≡ t.depth + n → u ≡ opened n r t
is_opened n r t u rows depth = λ i. record {
  rows = (rows ∙ sym (opened_rows n r t)) i;
  depth = (depth ∙ sym (opened_depth n r t)) i;
}

-- ---- rows taken away at the end

-- these rows are left, and of so many that go some are still to go
pub record AreDropped (all now : List (Rule × ℕ)) (count left : ℕ) : Type 0 where
  pub dropped : List (Rule × ℕ)
  pub parts : all ≡ now ++ dropped
  pub number : left + length dropped ≡ count

pub run_dropped : (all : List (Rule × ℕ)) (rs new : List Run) (r : Run) (count left size : ℕ) → AreDropped all (rows_of_all rs) count left → rs ≡ new ++ r ∷ [] → size ≡ r.count → size ≤ left → AreDropped all (rows_of_all new) count (left - size)
run_dropped all rs new r count left size d e n le = record {
  dropped = run_rows r ++ d.dropped;
  parts = d.parts ∙ ap (λ (l : List (Rule × ℕ)). l ++ d.dropped) (ap rows_of_all e ∙ rows_of_all_more new r) ∙ append_assoc (rows_of_all new) (run_rows r) d.dropped;
  number = omega (arith, d.number, length-append (run_rows r) d.dropped, deeper_length r.rule r.depth r.count, n, le);
}

front : (xs ys : List (Rule × ℕ)) (n : ℕ) → n ≡ length xs → take n (xs ++ ys) ≡ xs
front xs ys n e = ap (λ (m : ℕ). take m (xs ++ ys)) e ∙ take-append_seam xs ys

pub part_dropped : (all : List (Rule × ℕ)) (rs new last : List Run) (r s : Run) (count left less : ℕ) → AreDropped all (rows_of_all rs) count left → rs ≡ new ++ r ∷ [] → less ≡ left → left < r.count → (s.rule ≡ r.rule) × (s.depth ≡ r.depth) × (s.count ≡ r.count - less) → last ≡ new ++ s ∷ [] → rows_of_all last ≡ take (length all - count) all
part_dropped all rs new last r s count left less d e le lt is g =
    let gone = deeper r.rule (r.depth + s.count) left in
    let number : s.count + left ≡ r.count = omega (arith, is.2, le, lt) in
    let run : run_rows r ≡ run_rows s ++ gone = ap (deeper r.rule r.depth) (sym number) ∙ deeper_parts r.rule r.depth s.count left ∙ ap (λ (l : List (Rule × ℕ)). l ++ gone) (λ i. deeper (sym is.0 i) (sym is.1 i) s.count) in
    let whole : all ≡ rows_of_all last ++ (gone ++ d.dropped) =
    d.parts
    ∙ ap (λ (l : List (Rule × ℕ)). l ++ d.dropped) (ap rows_of_all e ∙ rows_of_all_more new r ∙ ap (λ (l : List (Rule × ℕ)). rows_of_all new ++ l) run ∙ sym (append_assoc (rows_of_all new) (run_rows s) gone) ∙ ap (λ (l : List (Rule × ℕ)). l ++ gone) (sym (ap rows_of_all g ∙ rows_of_all_more new s)))
    ∙ append_assoc (rows_of_all last) gone d.dropped in
    let size : length all ≡ length (rows_of_all last) + length (gone ++ d.dropped) = ap length whole ∙ length-append (rows_of_all last) (gone ++ d.dropped) in
    let least : length all - count ≡ length (rows_of_all last) = omega (arith, size, length-append gone d.dropped, deeper_length r.rule (r.depth + s.count) left, d.number) in
    sym (ap (λ (l : List (Rule × ℕ)). take (length all - count) l) whole ∙ front (rows_of_all last) (gone ++ d.dropped) (length all - count) least)
