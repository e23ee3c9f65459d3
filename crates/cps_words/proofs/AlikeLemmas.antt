-- The faults that `clap` may find in the same words are answered alike: help and version stand in no list with another kind.
use Rattle.std.proofs.Common.{◌≡◌, ◌&&◌, ◌||◌, ◌+◌, ℕ, zero, suc, Bool, true, false, not, List, [], ◌∷◌, Option, Some, None, refl, sym, ap, inl, inr, is_some, length, drop, min, nat_lt, cond, codes, true≢false}
use Rattle.std.specs.Prelude.{◌==◌, if◌then◌else◌, encode_utf8, find, slice_get}
use Rattle.std.specs.List.{list_all, list_any}
use Rattle.std.specs.Option.{option_map_or}
use Rattle.std.specs.Str.{bytes_eq, chars}
use Rattle.clap.specs.Lexer.{long_of, short_of}
use Rattle.clap.specs.Values.{refused_kind}
use Rattle.clap.specs.ValueTests.{accepts}
use Rattle.clap.specs.Matches.{count_text}
use Rattle.clap.specs.Facts.{explicit_source, parser_of_value, unwrap_or_range}
use Rattle.clap.specs.Words.{App, IsAmong, Kinds, Row, Rule, Shape, Text, count_of, fault_of}
use Rattle.clap.specs.Kinds.{check_kinds, or_else, range_kinds, request_kinds, value_kinds, values_kinds}
use Rattle.clap.specs.Faults.{action_fault, bundle_fault, bundle_step_fault, check_fault, count_fault, default_fault, defaults_fault, entered_fault, flag_word_fault, flags_fault, level_fault, long_fault, option_fault, other_fault, positional_fault, react_fault, repeat_fault, set_fault, settle_fault, short_fault, step_fault, stray_fault, turn_fault, use_fault, values_fault, walk_fault, word_fault}
use Rattle.clap.specs.Simple.{argument_words, built, entered, label_of, names_of}
use Rattle.clap.specs.Takes.{is_given}
use Rattle.clap.specs.Walk.{Held, Names, Step, Walk, action_of, answers_to, arg_by_id, arg_by_index, arg_by_long, arg_by_short, attached_value, finished, has_row, is_empty, is_pending, most_values, nothing_held, reacted, settled, subcommand_met, takes_several, takes_values, value, values_or_missing, walk, walk_from, walked, with_default, word_met}
use Rattle.clap.specs.declared.builder.action.ArgAction.{ArgAction}
use Rattle.clap.specs.declared.builder.action.ArgAction.TheVariants.{Set, Append, SetTrue, SetFalse, Count, Help, HelpShort, HelpLong, Version}
use Rattle.clap.specs.declared.builder.value_parser.ValueParser.{ValueParser}
use Rattle.clap.specs.declared.error.kind.ErrorKind.{ErrorKind}
use Rattle.clap.specs.declared.error.kind.ErrorKind.TheVariants as kind
use Rattle.cps_words.specs.Commands.{compass}
use Rattle.cps_words.specs.Request.{Answer, answer_at, refuses}

-- how a list of kinds is answered, by its first
abbrev pub first_answer : Kinds → Answer
first_answer [] = refuses
first_answer (k ∷ ks) = answer_at k

-- all kinds of a list are answered as its first
pub record Alike (kinds : Kinds) : Type 0 where
  pub same : (k : ErrorKind) → IsAmong k kinds → answer_at k ≡ first_answer kinds

alike_none : Alike []
alike_none = record { same = λ k among. absurd among }

one_same : (x k : ErrorKind) → IsAmong k (x ∷ []) → answer_at k ≡ answer_at x
one_same x k (inl e) = ap answer_at e
one_same x k (inr e) = absurd e

alike_one : (x : ErrorKind) → Alike (x ∷ [])
alike_one x = record { same = one_same x }

stray_same : (k : ErrorKind) → IsAmong k (kind.UnknownArgument ∷ kind.InvalidSubcommand ∷ []) → answer_at k ≡ refuses
stray_same k (inl e) = ap answer_at e
stray_same k (inr (inl e)) = ap answer_at e
stray_same k (inr (inr e)) = absurd e

alike_stray : Alike (kind.UnknownArgument ∷ kind.InvalidSubcommand ∷ [])
alike_stray = record { same = stray_same }

alike_else : (a b : Kinds) → Alike a → Alike b → Alike (or_else a b)
alike_else [] b p q = q
alike_else (k ∷ ks) b p q = p

alike_if : (c : Bool) (a b : Kinds) → Alike a → Alike b → Alike (if c then a else b)
alike_if true a b p q = p
alike_if false a b p q = q

alike_or : {X : Type 0} (o : Option X) (f : X → Kinds) (d : Kinds) → ((x : X) → Alike (f x)) → Alike d → Alike (option_map_or f o d)
alike_or None f d p q = q
alike_or (Some x) f d p q = p x

-- ---- one use of an argument

alike_value : (ignore_case : Bool) (parser : ValueParser) (text : Text) → Alike (value_kinds ignore_case parser text)
alike_value ignore_case parser text =
    alike_if (accepts ignore_case parser text) [] (refused_kind parser ∷ []) alike_none (alike_one (refused_kind parser))

alike_values : (ignore_case : Bool) (parser : ValueParser) (values : List Text) → Alike (values_kinds ignore_case parser values)
alike_values ignore_case parser [] = alike_none
alike_values ignore_case parser (v ∷ vs) =
    alike_else (value_kinds ignore_case parser v) (values_kinds ignore_case parser vs)
    (alike_value ignore_case parser v) (alike_values ignore_case parser vs)

alike_test : (test : Bool) (fault : ErrorKind) (others : Kinds) → Alike others → Alike (if test then fault ∷ [] else others)
alike_test test fault others p = alike_if test (fault ∷ []) others (alike_one fault) p

alike_same : (test : Bool) (fault : ErrorKind) → Alike (if test then [] else fault ∷ [])
alike_same test fault = alike_if test [] (fault ∷ []) alike_none (alike_one fault)

alike_many : (few many : Bool) → Alike (if few then kind.TooFewValues ∷ [] else (if many then kind.TooManyValues ∷ [] else []))
alike_many few many =
    alike_test few kind.TooFewValues (if many then kind.TooManyValues ∷ [] else []) (alike_test many kind.TooManyValues [] alike_none)

alike_range : (least most n : ℕ) → Alike (range_kinds least most n)
alike_range least most n =
    alike_test (nat_lt 0 least && n == 0) kind.InvalidValue
    (if least == most then (if least == n then [] else kind.WrongNumberOfValues ∷ [])
    else (if nat_lt n least then kind.TooFewValues ∷ [] else (if nat_lt most n then kind.TooManyValues ∷ [] else [])))
    (alike_if (least == most) (if least == n then [] else kind.WrongNumberOfValues ∷ [])
    (if nat_lt n least then kind.TooFewValues ∷ [] else (if nat_lt most n then kind.TooManyValues ∷ [] else []))
    (alike_same (least == n) kind.WrongNumberOfValues) (alike_many (nat_lt n least) (nat_lt most n)))

alike_request : (action : ArgAction) → Alike (request_kinds action)
alike_request Help = alike_one kind.DisplayHelp
alike_request HelpShort = alike_one kind.DisplayHelp
alike_request HelpLong = alike_one kind.DisplayHelp
alike_request Version = alike_one kind.DisplayVersion
alike_request _ = alike_none

alike_fits : (a : Rule) (values : List Text) → Alike (values_fault a values)
alike_fits a values = alike_values a.ignore_case (parser_of_value a.parser) values

alike_set : (again : Bool) (a : Rule) (values : List Text) (rows : List Row) → Alike (set_fault again a values rows)
alike_set again a values rows =
    alike_else (repeat_fault again a.id rows) (values_fault a values)
    (alike_test (has_row a.id rows && not again) kind.ArgumentConflict [] alike_none) (alike_fits a values)

alike_count : (a : Rule) (values : List Text) (rows : List Row) → Alike (count_fault a values rows)
alike_count a [] rows = alike_value a.ignore_case (parser_of_value a.parser) (count_text (min (count_of a.id rows + 1) 255))
alike_count a (v ∷ vs) rows = alike_fits a (v ∷ vs)

alike_action : (action : ArgAction) (again : Bool) (a : Rule) (values : List Text) (rows : List Row) → Alike (action_fault action again a values rows)
alike_action Set again a values rows = alike_set again a values rows
alike_action SetTrue again a values rows = alike_set again a values rows
alike_action SetFalse again a values rows = alike_set again a values rows
alike_action Append again a values rows = alike_fits a values
alike_action Count again a values rows = alike_count a values rows
alike_action other again a values rows = alike_request other

alike_use : (again : Bool) (a : Rule) (values : List Text) (rows : List Row) → Alike (use_fault again a values rows)
alike_use again a values rows =
    alike_else (range_kinds (unwrap_or_range a.range).start_inclusive (most_values a) (length values))
    (action_fault (action_of a) again a (values_or_missing a values) rows)
    (alike_range (unwrap_or_range a.range).start_inclusive (most_values a) (length values))
    (alike_action (action_of a) again a (values_or_missing a values) rows)

-- ---- the walk

module _ (c : List Rule) (again : Bool) where
  alike_settle : (h : Held) → Alike (settle_fault c again h)
  alike_settle h =
      alike_or h.pending (λ p. option_map_or (λ a. use_fault again a p.1 h.rows) (arg_by_id c p.0) []) []
      (λ p. alike_or (arg_by_id c p.0) (λ a. use_fault again a p.1 h.rows) [] (λ a. alike_use again a p.1 h.rows) alike_none) alike_none

  alike_react : (a : Rule) (values : List Text) (h : Held) → Alike (react_fault c again a values h)
  alike_react a values h =
      alike_else (settle_fault c again h) (use_fault again a values (settled c h).rows)
      (alike_settle h) (alike_use again a values (settled c h).rows)

  alike_option : (a : Rule) (v : Option Text) (h : Held) → Alike (option_fault c again a v h)
  alike_option a None h = alike_settle h
  alike_option a (Some v) h = alike_react a (v ∷ []) h

  alike_long : (a : Option Rule) (v : Option Text) (h : Held) → Alike (long_fault c again a v h)
  alike_long None v h = alike_one kind.UnknownArgument
  alike_long (Some a) v h =
      alike_if (takes_values a) (option_fault c again a v h) (if is_some v then kind.TooManyValues ∷ [] else react_fault c again a [] h)
      (alike_option a v h) (alike_test (is_some v) kind.TooManyValues (react_fault c again a [] h) (alike_react a [] h))

  alike_short : (a : Option Rule) (rest : Text) (h : Held) (next : Held → Kinds) → ((after : Held) → Alike (next after)) → Alike (short_fault c again a rest h next)
  alike_short None rest h next p = alike_one kind.UnknownArgument
  alike_short (Some a) rest h next p =
      alike_if (takes_values a) (option_fault c again a (attached_value rest) h) (or_else (react_fault c again a [] h) (next (reacted c a [] h)))
      (alike_option a (attached_value rest) h)
      (alike_else (react_fault c again a [] h) (next (reacted c a [] h)) (alike_react a [] h) (p (reacted c a [] h)))

  alike_step : (x : Option ℕ) (flags : Text) (skip : ℕ) (h : Held) (next : Text → ℕ → Held → Kinds)
      → ((rest : Text) (more : ℕ) (after : Held) → Alike (next rest more after)) → Alike (bundle_step_fault c again x flags skip h next)
  alike_step None flags skip h next p = alike_none
  alike_step (Some x) flags zero h next p =
      let rest = drop (length (encode_utf8 x)) flags in
      alike_short (arg_by_short c x) rest h (next rest 0) (p rest 0)
  alike_step (Some x) flags (suc skip) h next p = p (drop (length (encode_utf8 x)) flags) skip h

  alike_flags : (k : ℕ) (flags : Text) (skip : ℕ) (h : Held) → Alike (flags_fault c again k flags skip h)
  unfolding flags_fault
  alike_flags zero flags skip h = alike_none
  alike_flags (suc k) flags skip h = alike_step (slice_get (chars flags) 0) flags skip h (flags_fault c again k) (alike_flags k)

  alike_word : (named : Option (Text × Option Text)) (word : Text) (h : Held) → Alike (flag_word_fault c again named word h)
  alike_word (Some p) word h = alike_long (arg_by_long c p.0) p.1 h
  alike_word None word h =
      alike_or (short_of word) (λ flags. bundle_fault c again flags h) []
      (λ flags. alike_flags (length flags) flags h.skip (record h { skip = 0 })) alike_none

-- ---- after the walk

alike_default : (rows : List Row) (a : Rule) → Alike (default_fault rows a)
alike_default rows a =
    alike_if (has_row a.id rows || is_empty a.defaults) [] (or_else (request_kinds (action_of a)) (values_fault a a.defaults)) alike_none
    (alike_else (request_kinds (action_of a)) (values_fault a a.defaults) (alike_request (action_of a)) (alike_fits a a.defaults))

alike_defaults : (rows : List Row) (rules : List Rule) → Alike (defaults_fault rows rules)
unfolding defaults_fault
alike_defaults rows [] = alike_none
alike_defaults rows (a ∷ rest) =
    alike_else (default_fault rows a) (defaults_fault (with_default rows a) rest) (alike_default rows a) (alike_defaults (with_default rows a) rest)

alike_kinds : (help command argument : Bool) → Alike (check_kinds help command argument)
alike_kinds true command argument = alike_one kind.DisplayHelpOnMissingArgumentOrSubcommand
alike_kinds false true argument = alike_one kind.MissingSubcommand
alike_kinds false false true = alike_one kind.MissingRequiredArgument
alike_kinds false false false = alike_none

alike_check : (s : Shape) (rows : List Row) (met : Bool) → Alike (check_fault s rows met)
alike_check s rows met =
    alike_kinds (not met && (s.arg_required_else_help && not (list_any (λ r. explicit_source r.source) rows))) (not met && s.subcommand_required)
    (not (s.subcommand_negates_reqs && met) && list_any (λ a. a.required && not (is_given a.id rows)) s.rules)

-- the command `help` is the one word with faults that are not alike, and there is none
without_help : (named disabled : Bool) → disabled ≡ true
    → Alike (if named && not disabled then kind.DisplayHelp ∷ kind.InvalidSubcommand ∷ [] else [])
without_help true true e = alike_none
without_help false true e = alike_none
without_help named false e = absurd (true≢false (sym e))

module _ (s : Shape) (names : Names) (disabled : s.disable_help_subcommand ≡ true) where
  alike_other : (met : Option Text) (word : Text) (h : Held) → Alike (other_fault s met word h)
  alike_other (Some name) word h = without_help (bytes_eq name (codes "help")) s.disable_help_subcommand disabled
  alike_other None word h =
      alike_if (bytes_eq word (45 ∷ 45 ∷ [])) [] (flag_word_fault s.rules s.args_override_self (long_of word) word h)
      alike_none (alike_word s.rules s.args_override_self (long_of word) word h)

  alike_place : (position : ℕ) (h : Held) (step : Step) → Alike (step_fault s position h step)
  alike_place position h value =
      alike_or (arg_by_index s.rules position) (λ a. positional_fault s.rules s.args_override_self a h) (stray_fault s)
      (λ a. alike_if (is_pending a h.pending && takes_several a) [] (settle_fault s.rules s.args_override_self h)
      alike_none (alike_settle s.rules s.args_override_self h))
      (alike_test s.is_leaf kind.UnknownArgument (kind.UnknownArgument ∷ kind.InvalidSubcommand ∷ []) alike_stray)
  alike_place position h _ = alike_none

  alike_turn : (w : Walk) (word : Text) → Alike (turn_fault s names w word)
  alike_turn w word =
      let met = word_met s.rules names w.is_trailing w.waiting w.position word w.held in
      let other = other_fault s (subcommand_met names w.waiting word) word w.held in
      alike_if (is_some w.stopped) []
      (or_else (word_fault s names w.is_trailing w.waiting word w.held) (step_fault s w.position met.0 met.1)) alike_none
      (alike_else (word_fault s names w.is_trailing w.waiting word w.held) (step_fault s w.position met.0 met.1)
      (alike_if w.is_trailing [] other alike_none (alike_other (subcommand_met names w.waiting word) word w.held))
      (alike_place w.position met.0 met.1))

  alike_walk : (w : Walk) (words : List Text) → Alike (walk_fault s names w words)
  unfolding walk_fault
  alike_walk w [] = alike_none
  alike_walk w (word ∷ rest) =
      alike_else (turn_fault s names w word) (walk_fault s names (walked s.rules names w word) rest)
      (alike_turn w word) (alike_walk (walked s.rules names w word) rest)

  alike_level : (h : Held) (words : List Text) (met : Bool) (below : Kinds) → Alike below → Alike (level_fault s names h words met below)
  alike_level h words met below p =
      let end = (walk s.rules names h words).held in
      let defaults = defaults_fault (settled s.rules end).rows s.rules in
      let settle = settle_fault s.rules s.args_override_self end in
      let check = check_fault s (finished s.rules end) met in
      alike_else (walk_fault s names (walk_from h) words) (or_else below (or_else settle (or_else defaults check)))
      (alike_walk (walk_from h) words)
      (alike_else below (or_else settle (or_else defaults check)) p
      (alike_else settle (or_else defaults check) (alike_settle s.rules s.args_override_self end)
      (alike_else defaults check (alike_defaults (settled s.rules end).rows s.rules) (alike_check s (finished s.rules end) met))))

-- ---- the words

abbrev helps_are_off : List Shape → Bool
helps_are_off subs = list_all (λ s. s.disable_help_subcommand) subs

-- at a command, whichever of these was met first
alike_found : (p : Shape → Bool) (words : List Text) (subs : List Shape) → helps_are_off subs ≡ true
    → Alike (option_map_or (λ s. level_fault s [] nothing_held words false []) (find p subs) [])
alike_found p words [] off = alike_none
alike_found p words (s ∷ subs) off =
    first (p s) s.disable_help_subcommand refl off (alike_found p words subs)
  where
    first : (here disabled : Bool) → s.disable_help_subcommand ≡ disabled → (disabled && helps_are_off subs) ≡ true
        → (helps_are_off subs ≡ true → Alike (option_map_or (λ s. level_fault s [] nothing_held words false []) (find p subs) []))
        → Alike (option_map_or (λ s. level_fault s [] nothing_held words false []) (cond here (Some s) (find p subs)) [])
    first true true is off rest = alike_level s [] is nothing_held words false [] alike_none
    first false true is off rest = rest off
    first here false is off rest = absurd (true≢false (sym off))

abbrev line : App
line = built compass

alike_entered : (stop : Option (Text × List Text)) → Alike (entered_fault line stop)
alike_entered None = alike_none
alike_entered (Some p) = alike_found (λ s. answers_to p.0 (label_of s)) p.1 line.subs refl

abbrev stop_at : List Text → Option (Text × List Text)
stop_at words = (walk line.top.rules (names_of line) nothing_held (argument_words compass words)).stopped

-- the faults in words are answered alike
pub alike_faults : (words : List Text) → Alike (fault_of compass words)
alike_faults words =
    alike_level line.top (names_of line) refl nothing_held (argument_words compass words) (is_some (entered line (stop_at words)))
    (entered_fault line (stop_at words)) (alike_entered (stop_at words))
