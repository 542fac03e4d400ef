-- About Arguments (IsFaultless): arguments without a fault leave the rows of a command readable. For LawsLemmas.
use Rattle.std.proofs.Common.{◌≡◌, ◌&&◌, ℕ, zero, suc, List, [], ◌∷◌, Bool, true, false, not, Option, Some, None, if◌then◌else◌, drop, length, is_some, slice_get, encode_utf8}
use Rattle.std.specs.Prelude.{IfSome, fold}
use Rattle.std.specs.Option.{option_map_or}
use Rattle.std.specs.Str.{bytes_eq, chars}
use Rattle.clap.specs.Lexer.{long_of, short_of}
use Rattle.clap.specs.Faults.{bundle_fault, bundle_step_fault, check_fault, defaults_fault, flag_word_fault, flags_fault, level_fault, long_fault, option_fault, other_fault, positional_fault, react_fault, settle_fault, short_fault, step_fault, stray_fault, turn_fault, use_fault, walk_fault, word_fault}
use Rattle.clap.specs.Kinds.{Kinds, or_else}
use Rattle.clap.specs.Simple.{Shape}
use Rattle.clap.specs.Walk.{Held, Names, Outcome, Row, Rule, Step, Text, Waiting, Walk, after_flag, after_step, arg_by_id, arg_by_index, arg_by_long, arg_by_short, attached_value, bundle, bundle_met, bundle_step, done, finished, flag_met, has_long, has_short, idle, is_pending, long_met, long_or_other, next, nothing_held, option, option_met, option_word, plain, plain_word, positional, reacted, refused, rows_after, settled, settled_rows, short_met, short_or_plain, subcommand, subcommand_met, subcommand_or_other, takes_several, takes_values, to_positional, trailing, used_by_id, value, waits, walk, walk_from, walked, walked_from, with_default, word_met}
use Rattle.clap.specs.declared.error.kind.ErrorKind.TheVariants as K
use Rattle.jc_cli.proofs.ArgumentsLemmas.{AreReadable, Each, IsSound, found, neither}

-- the argument that a test finds, where there is one, is sound
abbrev IsSoundIf : (Rule → Bool) → Option Rule → Type 0
IsSoundIf test o = IfSome o (λ a. (test a ≡ true) × IsSound a)

module _ (c : List Rule) (again : Bool) (sound : Each IsSound c) where
  -- a use of the argument that has an id
  by_id : (test : Rule → Bool) (o : Option Rule) (values : List Text) (rows : List Row) → IsSoundIf test o → option_map_or (λ a. use_fault again a values rows) o [] ≡ [] → AreReadable rows → AreReadable (used_by_id o values rows)
  by_id test None values rows s e h = h
  by_id test (Some a) values rows s e h = s.1.by_use again values rows e h

  -- a use of the argument whose values are being read
  of_pending : (p : Option (Text × List Text)) (rows : List Row) → option_map_or (λ q. option_map_or (λ a. use_fault again a q.1 rows) (arg_by_id c q.0) []) p [] ≡ [] → AreReadable rows → AreReadable (settled_rows c p rows)
  of_pending None rows e h = h
  of_pending (Some p) rows e h = by_id (λ a. bytes_eq a.id p.0) (arg_by_id c p.0) p.1 rows (found IsSound (λ a. bytes_eq a.id p.0) c sound) e h

  -- the same, as the walk does it
  of_settled : (held : Held) → settle_fault c again held ≡ [] → AreReadable held.rows → AreReadable (settled c held).rows
  of_settled held e h = of_pending held.pending held.rows e h

  -- a use of an argument, after what was pending
  of_reaction : (a : Rule) (values : List Text) (held : Held) → IsSound a → react_fault c again a values held ≡ [] → AreReadable held.rows → AreReadable (reacted c a values held).rows
  of_reaction a values held s e h =
      let both = neither (settle_fault c again held) (use_fault again a values (settled c held).rows) e in
      s.by_use again values (settled c held).rows both.1 (of_settled held both.0 h)

  -- an option, with or without a value in its word
  of_option : (a : Rule) (v : Option Text) (held : Held) → IsSound a → option_fault c again a v held ≡ [] → AreReadable held.rows → AreReadable (option_met c a v held).0.rows
  of_option a (Some v) held s e h = of_reaction a (v ∷ []) held s e h
  of_option a None held s e h = of_settled held e h

  -- a flag, which takes no value
  of_flag : (a : Rule) (v : Option Text) (held : Held) → IsSound a → (if is_some v then K.TooManyValues ∷ [] else react_fault c again a [] held) ≡ [] → AreReadable held.rows → AreReadable (flag_met c a v held).0.rows
  of_flag a (Some v) held s e h = h
  of_flag a None held s e h = of_reaction a [] held s e h

  -- an argument by its long name: an option or a flag
  long_by_test : (t : Bool) (a : Rule) (v : Option Text) (held : Held) → IsSound a
      → (if t then option_fault c again a v held else (if is_some v then K.TooManyValues ∷ [] else react_fault c again a [] held)) ≡ [] → AreReadable held.rows
      → AreReadable (if t then option_met c a v held else flag_met c a v held).0.rows
  long_by_test true a v held s e h = of_option a v held s e h
  long_by_test false a v held s e h = of_flag a v held s e h

  -- a long name
  of_long : (test : Rule → Bool) (o : Option Rule) (v : Option Text) (held : Held) → IsSoundIf test o → long_fault c again o v held ≡ [] → AreReadable held.rows → AreReadable (long_met c o v held).0.rows
  of_long test None v held s e h = h
  of_long test (Some a) v held s e h = long_by_test (takes_values a) a v held s.1 e h

  -- what follows in a bundle leaves rows readable where it has no fault
  abbrev Goes : (Held → Held × Outcome) → (Held → Kinds) → Type 0
  Goes onward more = (held : Held) → more held ≡ [] → AreReadable held.rows → AreReadable (onward held).0.rows

  -- an argument by its short name, and what follows in its word
  short_by_test : (t : Bool) (a : Rule) (rest : Text) (held : Held) (onward : Held → Held × Outcome) (more : Held → Kinds) → IsSound a → Goes onward more
      → (if t then option_fault c again a (attached_value rest) held else or_else (react_fault c again a [] held) (more (reacted c a [] held))) ≡ [] → AreReadable held.rows
      → AreReadable (if t then option_met c a (attached_value rest) held else onward (reacted c a [] held)).0.rows
  short_by_test true a rest held onward more s p e h = of_option a (attached_value rest) held s e h
  short_by_test false a rest held onward more s p e h =
      let both = neither (react_fault c again a [] held) (more (reacted c a [] held)) e in
      p (reacted c a [] held) both.1 (of_reaction a [] held s both.0 h)

  -- a short name
  of_short : (test : Rule → Bool) (o : Option Rule) (rest : Text) (held : Held) (onward : Held → Held × Outcome) (more : Held → Kinds) → IsSoundIf test o → Goes onward more
      → short_fault c again o rest held more ≡ [] → AreReadable held.rows → AreReadable (short_met c o rest held onward).0.rows
  of_short test None rest held onward more s p e h = h
  of_short test (Some a) rest held onward more s p e h = short_by_test (takes_values a) a rest held onward more s.1 p e h

  -- a character of a bundle
  of_bundle_step : (x : Option ℕ) (flags : Text) (skip : ℕ) (so_far : Outcome) (held : Held) (onward : Text → ℕ → Outcome → Held → Held × Outcome) (more : Text → ℕ → Held → Kinds)
      → ((t : Text) (n : ℕ) (o : Outcome) → Goes (onward t n o) (more t n)) → bundle_step_fault c again x flags skip held more ≡ [] → AreReadable held.rows
      → AreReadable (bundle_step c x flags skip so_far held onward).0.rows
  of_bundle_step None flags skip so_far held onward more p e h = h
  of_bundle_step (Some x) flags zero so_far held onward more p e h =
      let rest = drop (length (encode_utf8 x)) flags in
      let test = λ (a : Rule). not (is_some a.index) && has_short a x in
      of_short test (arg_by_short c x) rest held (onward rest 0 done) (more rest 0) (found IsSound test c sound) (p rest 0 done) e h
  of_bundle_step (Some x) flags (suc skip) so_far held onward more p e h = p (drop (length (encode_utf8 x)) flags) skip so_far held e h

  -- the characters of a bundle
  of_flags : (k : ℕ) (flags : Text) (skip : ℕ) (so_far : Outcome) (held : Held) → flags_fault c again k flags skip held ≡ [] → AreReadable held.rows → AreReadable (bundle_met c k flags skip so_far held).0.rows
  unfolding flags_fault bundle_met
  of_flags zero flags skip so_far held e h = h
  of_flags (suc k) flags skip so_far held e h =
      of_bundle_step (slice_get (chars flags) 0) flags skip so_far held (bundle_met c k) (flags_fault c again k) (λ t n o. of_flags k t n o) e h

  -- a bundle
  of_bundle : (flags : Text) (held : Held) → bundle_fault c again flags held ≡ [] → AreReadable held.rows → AreReadable (bundle c flags held).0.rows
  of_bundle flags held e h = of_flags (length flags) flags held.skip plain (record held { skip = 0 }) e h

  -- a value that an option waits for changes no row yet
  of_option_word : (o : Option Rule) (id word : Text) (held : Held) → AreReadable held.rows → AreReadable (option_word o id word held).0.rows
  of_option_word None id word held h = h
  of_option_word (Some a) id word held h = h

  -- nor does another word that is no flag
  of_plain : (waiting : Waiting) (word : Text) (held : Held) → AreReadable held.rows → AreReadable (plain_word c waiting word held).0.rows
  of_plain idle word held h = h
  of_plain (option id) word held h = of_option_word (arg_by_id c id) id word held h
  of_plain positional word held h = h

  -- what a word comes to, after its flags
  of_after_flag : (waiting : Waiting) (word : Text) (held : Held) (outcome : Outcome) → AreReadable held.rows → AreReadable (after_flag c waiting word held outcome).0.rows
  of_after_flag waiting word held done h = h
  of_after_flag waiting word held (waits id) h = h
  of_after_flag waiting word held plain h = of_plain waiting word held h
  of_after_flag waiting word held refused h = of_plain waiting word held h

  -- a word that begins with one minus, or none
  of_short_word : (waiting : Waiting) (word : Text) (o : Option Text) (held : Held) → option_map_or (λ flags. bundle_fault c again flags held) o [] ≡ [] → AreReadable held.rows → AreReadable (short_or_plain c waiting word o held).0.rows
  of_short_word waiting word None held e h = of_plain waiting word held h
  of_short_word waiting word (Some flags) held e h = of_after_flag waiting word (bundle c flags held).0 (bundle c flags held).1 (of_bundle flags held e h)

  -- a word that may be a flag
  of_flag_word : (waiting : Waiting) (p : Option (Text × Option Text)) (word : Text) (held : Held) → flag_word_fault c again p word held ≡ [] → AreReadable held.rows → AreReadable (long_or_other c waiting word p held).0.rows
  of_flag_word waiting (Some p) word held e h =
      let test = λ (a : Rule). not (is_some a.index) && has_long a p.0 in
      let met = long_met c (arg_by_long c p.0) p.1 held in
      of_after_flag waiting word met.0 met.1 (of_long test (arg_by_long c p.0) p.1 held (found IsSound test c sound) e h)
  of_flag_word waiting None word held e h = of_short_word waiting word (short_of word) held e h

  -- two minuses, or another word
  word_by_test : (t : Bool) (waiting : Waiting) (position : ℕ) (word : Text) (held : Held) → (if t then [] else flag_word_fault c again (long_of word) word held) ≡ [] → AreReadable held.rows
      → AreReadable (if t then (held, trailing position) else long_or_other c waiting word (long_of word) held).0.rows
  word_by_test true waiting position word held e h = h
  word_by_test false waiting position word held e h = of_flag_word waiting (long_of word) word held e h

  -- what is pending is used before a positional, where it is another argument
  positional_by_test : (t : Bool) (a : Rule) (word : Text) (held : Held) → (if t then [] else settle_fault c again held) ≡ [] → AreReadable held.rows → AreReadable (if t then held else settled c held).rows
  positional_by_test true a word held e h = h
  positional_by_test false a word held e h = of_settled held e h

  -- a word that goes to a positional
  of_positional : (o : Option Rule) (word : Text) (w : Walk) (held : Held) (stray : Kinds) → option_map_or (λ a. positional_fault c again a held) o stray ≡ [] → AreReadable held.rows
      → AreReadable (to_positional c o word w held).held.rows
  of_positional None word w held stray e h = h
  of_positional (Some a) word w held stray e h = positional_by_test (is_pending a held.pending && takes_several a) a word held e h

-- ---- the words

module _ (s : Shape) (names : Names) (sound : Each IsSound s.rules) where
  -- a word that is read as a flag, or names a command
  of_other : (met : Option Text) (waiting : Waiting) (position : ℕ) (word : Text) (held : Held) → other_fault s met word held ≡ [] → AreReadable held.rows
      → AreReadable (subcommand_or_other s.rules met waiting position word held).0.rows
  of_other (Some name) waiting position word held e h = h
  of_other None waiting position word held e h = word_by_test s.rules s.args_override_self sound (bytes_eq word (45 ∷ 45 ∷ [])) waiting position word held e h

  -- a word, before it goes to a positional
  of_word : (is_trailing : Bool) (waiting : Waiting) (position : ℕ) (word : Text) (held : Held) → word_fault s names is_trailing waiting word held ≡ [] → AreReadable held.rows
      → AreReadable (word_met s.rules names is_trailing waiting position word held).0.rows
  of_word true waiting position word held e h = h
  of_word false waiting position word held e h = of_other (subcommand_met names waiting word) waiting position word held e h

  -- the step that a word takes
  of_step : (word : Text) (w : Walk) (held : Held) (step : Step) → step_fault s w.position held step ≡ [] → AreReadable held.rows → AreReadable (after_step s.rules word w held step).held.rows
  of_step word w held (next waiting) e h = h
  of_step word w held (trailing position) e h = h
  of_step word w held (subcommand name) e h = h
  of_step word w held value e h = of_positional s.rules s.args_override_self sound (arg_by_index s.rules w.position) word w held (stray_fault s) e h

  -- a word in its turn; after a command was met it changes nothing
  turn_from : (stopped : Option (Text × List Text)) (w : Walk) (word : Text)
      → (if is_some stopped then [] else or_else (word_fault s names w.is_trailing w.waiting word w.held) (step_fault s w.position (word_met s.rules names w.is_trailing w.waiting w.position word w.held).0 (word_met s.rules names w.is_trailing w.waiting w.position word w.held).1)) ≡ []
      → AreReadable w.held.rows → AreReadable (walked_from s.rules names stopped w word).held.rows
  turn_from (Some p) w word e h = h
  turn_from None w word e h =
      let met = word_met s.rules names w.is_trailing w.waiting w.position word w.held in
      let both = neither (word_fault s names w.is_trailing w.waiting word w.held) (step_fault s w.position met.0 met.1) e in
      of_step word w met.0 met.1 both.1 (of_word w.is_trailing w.waiting w.position word w.held both.0 h)

  -- the same, as the walk does it
  of_turn : (w : Walk) (word : Text) → turn_fault s names w word ≡ [] → AreReadable w.held.rows → AreReadable (walked s.rules names w word).held.rows
  unfolding walked
  of_turn w word e h = turn_from w.stopped w word e h

  -- all the words
  of_walk : (w : Walk) (words : List Text) → walk_fault s names w words ≡ [] → AreReadable w.held.rows → AreReadable (fold (walked s.rules names) w words).held.rows
  unfolding walk_fault
  of_walk w [] e h = h
  of_walk w (word ∷ rest) e h =
      let both = neither (turn_fault s names w word) (walk_fault s names (walked s.rules names w word) rest) e in
      of_walk (walked s.rules names w word) rest both.1 (of_turn w word both.0 h)

-- ---- after the words

-- the default values leave rows readable
pub of_defaults : (c : List Rule) (rows : List Row) → Each IsSound c → AreReadable rows → AreReadable (fold with_default rows c)
of_defaults [] rows s h = h
of_defaults (a ∷ rest) rows s h = of_defaults rest (with_default rows a) s.1 (s.0.by_default rows h)

-- the rows of a command without subcommands, whose words have no fault, are readable, and have what is required
pub of_level : (s : Shape) (words : List Text) → Each IsSound s.rules → level_fault s [] nothing_held words false [] ≡ []
    → AreReadable (rows_after s.rules [] words) × (check_fault s (rows_after s.rules [] words) false ≡ [])
of_level s words sound e =
    let end = (walk s.rules [] nothing_held words).held in
    let one = neither (walk_fault s [] (walk_from nothing_held) words) _ e in
    let two = neither (settle_fault s.rules s.args_override_self end) _ one.1 in
    let three = neither (defaults_fault (settled s.rules end).rows s.rules) (check_fault s (finished s.rules end) false) two.1 in
    let held = of_walk s [] sound (walk_from nothing_held) words one.0 tt in
    (of_defaults s.rules (settled s.rules end).rows sound (of_settled s.rules s.args_override_self sound end two.0 held), three.1)
