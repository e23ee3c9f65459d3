-- Words of a line, in which symbols stand. What a word is around a place is our own; its characters are those of the manual's symbols.
use Rattle.std.specs.Prelude.{ℕ, min, ◌+◌, ◌-◌, Bool, List, length, take, drop, Option}
use Rattle.std.specs.List.{prefix_len, slice_range, suffix_len}
use Rattle.cps_text.specs.declared.name.Name.{Name}
use Rattle.cps_text.specs.Name.{name_of}
use Rattle.cps_text.specs.Symbol.{continues_symbol}
use Rattle.cps_text.specs.Text.{capital}

-- a character that a symbol may have, as a small or a capital letter
abbrev pub in_word : ℕ → Bool
in_word character = continues_symbol (capital character)

-- where the word around a place in a line begins and ends: it is all characters of words directly in front of the place, and directly behind it
abbrev pub word_start : List ℕ → ℕ → ℕ
word_start line at = at - suffix_len in_word (take at line)

abbrev pub word_end : List ℕ → ℕ → ℕ
word_end line at = at + prefix_len in_word (drop at line)

abbrev pub word_around : List ℕ → ℕ → List ℕ
word_around line at = slice_range line (word_start line at) (word_end line at)

-- the symbol that this word writes
abbrev pub symbol_at : List ℕ → ℕ → Option Name
symbol_at line at = name_of (word_around line (min at (length line)))
