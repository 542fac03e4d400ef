-- Lemmas about Start: the replicas of a network at its start.
use Rattle.std.proofs.Common.{◌≡◌, ℕ, zero, suc, ◌+◌, ◌≤◌, All, List, [], ◌∷◌, ◌++◌, Some, length, slice_get, refl, sym, ◌∙◌, ap, subst, arith}
use Rattle.std.specs.List.{AllByRecursion}
use Rattle.std.proofs.lemmas.Option.{same_Some}
use Rattle.jc_parser.specs.Scripts.{IsScriptWellFormed}
use Rattle.jc_rules.specs.declared.version.Version.{Version}
use Rattle.jc_rules.specs.History.{begun}
use Rattle.jc_rules.specs.State.{start}
use Rattle.jc_rules.specs.Syntax.{Cmd}
use Rattle.jc_replica.specs.ReplicaHistory.{ReplicaHistory}
use Rattle.jc_network.specs.NetworkHistory.{kept_of, network_of, of_version}
use Rattle.jc_network.specs.Laws.{starts}
use Rattle.jc_network.specs.Abstract.{real}
use Rattle.jc_network.specs.Invariant.{IsInRun, IsNet}
use Rattle.jc_network.specs.Refines.{AreSeen, AreShort}
use Rattle.jc_network.specs.Start.{replicas_from}
use Rattle.jc_network.proofs.AbstractLemmas.{seen_is_real}
use Rattle.jc_network.proofs.RefinesLemmas.{start_seen}

kept_start : (n : ℕ) (scripts : List (List Cmd)) → kept_of (replicas_from n scripts) ≡ starts scripts
kept_start n [] = refl
kept_start n (s ∷ scripts) = ap (λ l. start s ∷ l) (kept_start (suc n) scripts)

as_many : (n : ℕ) (scripts : List (List Cmd)) → length (replicas_from n scripts) ≡ length scripts
as_many n [] = refl
as_many n (s ∷ scripts) = ap suc (as_many (suc n) scripts)

numbered_from : (n : ℕ) (scripts : List (List Cmd)) (p : ℕ) (replica : ReplicaHistory) → slice_get (replicas_from n scripts) p ≡ Some replica → replica.number ≡ n + p
numbered_from n [] p replica e = cc
numbered_from n (s ∷ scripts) zero replica e =
    let h : record { number = n; history = begun (start s) } ≡ replica = cc in
    let g : n ≡ replica.number = ap (λ (q : ReplicaHistory). q.number) h in
    omega (arith, g)
numbered_from n (s ∷ scripts) (suc p) replica e = let h : replica.number ≡ suc n + p = numbered_from (suc n) scripts p replica e in omega (arith, h)

-- the network at the start
pub real_start : (scripts : List (List Cmd)) → network_of (replicas_from 0 scripts) ≡ starts scripts
real_start scripts = ap real (kept_start 0 scripts) ∙ sym (seen_is_real [] (starts scripts) (starts scripts) (start_seen scripts))

pub starts_in_run : (version : Version) (scripts : List (List Cmd)) → AreShort scripts → IsNet version (length scripts) [] (replicas_from 0 scripts)
starts_in_run version scripts short =
    let now : IsInRun version scripts (starts scripts) (network_of (replicas_from 0 scripts)) (kept_of (replicas_from 0 scripts)) = record {
      short = short;
      given = [];
      before = refl;
      events = [];
      led = ap (of_version version) (sym (real_start scripts));
      set = [];
      seen = subst (λ N. AreSeen [] N (kept_of (replicas_from 0 scripts))) (sym (real_start scripts)) (subst (AreSeen [] (starts scripts)) (sym (kept_start 0 scripts)) (start_seen scripts));
    } in
    record {
      each = as_many 0 scripts;
      numbered = λ p replica e. let h = numbered_from 0 scripts p replica e in omega (arith, h);
      backed = tt;
      scripts = scripts;
      first = starts scripts;
      runs = (now, real_start scripts);
    }

-- one replica more
pub one_more : (n : ℕ) (scripts : List (List Cmd)) (s : List Cmd) → replicas_from n (scripts ++ s ∷ []) ≡ replicas_from n scripts ++ record { number = n + length scripts; history = begun (start s) } ∷ []
one_more n [] s = let h : n ≡ n + 0 = omega arith in ap (λ m. record { number = m; history = begun (start s) } ∷ []) h
one_more n (t ∷ scripts) s =
    let h : suc n + length scripts ≡ n + suc (length scripts) = omega arith in
    ap (λ l. record { number = n; history = begun (start t) } ∷ l) (one_more (suc n) scripts s ∙ ap (λ m. replicas_from (suc n) scripts ++ record { number = m; history = begun (start s) } ∷ []) h)

pub all_at : (P : List Cmd → Type 0) (scripts : List (List Cmd)) (i : ℕ) (s : List Cmd) → AllByRecursion P scripts → slice_get scripts i ≡ Some s → P s
all_at P [] i s h e = cc
all_at P (t ∷ scripts) zero s h e = subst P (same_Some t s e) h.0
all_at P (t ∷ scripts) (suc i) s h e = all_at P scripts i s h.1 e

-- the replica of the next script
pub next_replica : (scripts : List (List Cmd)) (number : ℕ) (s : List Cmd) (ps new : List ReplicaHistory) → number ≡ length scripts → ps ≡ replicas_from 0 scripts → new ≡ ps ++ record { number = number; history = begun (start s) } ∷ [] → new ≡ replicas_from 0 (scripts ++ s ∷ [])
next_replica scripts number s ps new counted made pushed =
    let last : number ≡ 0 + length scripts = omega (arith, counted) in
    pushed ∙ (ap (λ l. l ++ record { number = number; history = begun (start s) } ∷ []) made ∙ (ap (λ n. replicas_from 0 scripts ++ record { number = n; history = begun (start s) } ∷ []) last ∙ sym (one_more 0 scripts s)))

-- the scripts of a well-formed scenario
all_short : (scripts : List (List Cmd)) → All IsScriptWellFormed scripts → AllByRecursion (λ s. length s ≤ 65536) scripts
all_short [] h = tt
all_short (s ∷ scripts) h = ((h 0 s (omega arith)).commands, all_short scripts (λ k d l. h (suc k) d (omega (arith, l))))

pub short_scripts : (scripts : List (List Cmd)) → length scripts ≤ 64 → All IsScriptWellFormed scripts → AreShort scripts
short_scripts scripts many h = record { many = many; each = all_short scripts h }
