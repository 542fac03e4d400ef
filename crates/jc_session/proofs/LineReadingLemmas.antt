-- Of `LineReading`: a line that is being read, byte by byte.
use Rattle.std.proofs.Common.{◌≡◌, ◌≢◌, ℕ, ◌+◌, List, [], ◌∷◌, ◌++◌, length, take, Option, None, Some, Bool, true, nat_lt, ap, subst, ◌∙◌, arith, length-append}
use Rattle.std.proofs.lemmas.Bool.Decides.{nat_tests}
use Rattle.std.specs.Io.KnownBytes.{Consumes, prepend_known}
use Rattle.std.proofs.KnownBytes.{Consumes-trans}
use Rattle.std.proofs.ByRecursion.{All-push}
use Rattle.jc_io.specs.Streams.{StaysIfKnown}
use Rattle.jc_session.specs.LineReading.{ReadStopsAt, LineRead}
use Rattle.jc_session.proofs.AheadLemmas.{kept_more}

longer : (raw : List ℕ) (b : ℕ) → true ≡ nat_lt 0 (length (raw ++ b ∷ []))
longer raw b = let n = length-append raw (b ∷ []) in grind (arith, nat_tests, n)

pub reads_more : (old now next : Option (List ℕ)) (kept new : List ℕ) (some : Bool) (most room less b : ℕ) → LineRead old now kept some most room → Consumes now next (b ∷ []) → b ≢ 10 → new ≡ take 4097 (kept ++ b ∷ []) → less + 1 ≡ room
    → LineRead old next new true most less
reads_more old now next kept new some most room less b r h ne e one = record {
  raw = r.raw ++ b ∷ [];
  no_lf = All-push (λ x. x ≢ 10) r.raw b r.no_lf ne;
  gone = Consumes-trans old now next r.raw (b ∷ []) r.gone h;
  kept_is = kept_more 4097 r.raw b kept new r.kept_is e;
  some_is = longer r.raw b;
  room_is = let n = length-append r.raw (b ∷ []) in let m = r.room_is in omega (arith, n, m, one);
}

-- a failed read: what was read of the line, and what is left
pub stops_here : (old left new : Option (List ℕ)) (ahead raw : List ℕ) → Consumes old (prepend_known ahead left) raw → ahead ≡ [] → StaysIfKnown left new → ReadStopsAt old new raw
stops_here None left new ahead raw h e s = tt
stops_here (Some xs) None new ahead raw h e s = absurd h
stops_here (Some xs) (Some ys) None ahead raw h e s = (ys, h ∙ ap (λ l. raw ++ l) (ap (λ l. l ++ ys) e), tt)
stops_here (Some xs) (Some ys) (Some zs) ahead raw h e s = (ys, h ∙ ap (λ l. raw ++ l) (ap (λ l. l ++ ys) e), s)

-- the byte that ends a line
pub to_lf : (old now new : Option (List ℕ)) (raw : List ℕ) (byte : ℕ) → Consumes old now raw → Consumes now new (byte ∷ []) → byte ≡ 10 → Consumes old new (raw ++ 10 ∷ [])
to_lf old now new raw byte h k e = subst (λ (x : ℕ). Consumes old new (raw ++ x ∷ [])) e (Consumes-trans old now new raw (byte ∷ []) h k)
