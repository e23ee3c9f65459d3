-- What a call says of the words that are disassembled. Our own: by it a source only looks otherwise.
use Prim.Native.Char.{code}
use Rattle.std.specs.Prelude.{ℕ, Bool, true, false, not, ◌==◌, ◌&&◌, nat_le, List, Option, Some, None, is_some, if◌then◌else◌, codes, bytes_eq}
use Rattle.std.specs.List.{list_all, slice_split}
use Rattle.std.specs.Option.{option_map_or}
use Rattle.clap.specs.Words.{Row, Text, first_of}
use Rattle.cps_text.specs.Name.{name_of, was_generated}
use Rattle.cps_draft.specs.declared.hints.AddressRange.{AddressRange}
use Rattle.cps_words.specs.declared.hint_words.HintWords.{HintWords}
use Rattle.cps_words.specs.Outputs as outputs
use Rattle.cps_words.specs.Values.{address_named, halves_of, has_flag}

-- what the options have, None where one is left out: where execution begins, what is code, what is data, the file with names, the program's name;
-- and whether no comment is wanted
pub record Hints : Type 0 where
  pub entries : Option Text
  pub code_at : Option Text
  pub data_at : Option Text
  pub names : Option Text
  pub ident : Option Text
  pub is_bare : Bool

-- those that the code has
abbrev pub hints_of : HintWords → Hints
hints_of words = record {
  entries = outputs.name_of words.entries;
  code_at = outputs.name_of words.code_at;
  data_at = outputs.name_of words.data_at;
  names = outputs.name_of words.names;
  ident = outputs.name_of words.ident;
  is_bare = words.is_bare;
}

-- ---- what the options may have

abbrev pub is_comma : ℕ → Bool
is_comma byte = byte == code ","

abbrev pub is_address : Text → Bool
is_address word = is_some (address_named word)

-- addresses with commas between them
abbrev pub are_addresses : Text → Bool
are_addresses word = list_all is_address (slice_split is_comma word)

-- the first address is not above the last
abbrev pub range_between : Option ℕ → Option ℕ → Option AddressRange
range_between (Some first) (Some last) = if nat_le first last then Some (record { first = first; last = last }) else None
range_between _ _ = None

-- one address alone is the first and the last
abbrev pub range_from : Text → Option (Text × Text) → Option AddressRange
range_from word None = range_between (address_named word) (address_named word)
range_from word (Some halves) = range_between (address_named halves.0) (address_named halves.1)

-- the addresses that a word names: two with a minus between them, or one
abbrev pub range_named : Text → Option AddressRange
range_named word = range_from word (halves_of word)

abbrev pub is_range : Text → Bool
is_range word = is_some (range_named word)

-- ranges with commas between them
abbrev pub are_ranges : Text → Bool
are_ranges word = list_all is_range (slice_split is_comma word)

-- standard input has no names
abbrev pub is_file : Text → Bool
is_file word = not (bytes_eq word (codes "-"))

-- a symbol, as IDENT has it
abbrev pub is_ident : Text → Bool
is_ident word = option_map_or (λ name. not (was_generated name)) (name_of word) false

-- an option is left out, or has such a word
abbrev pub may_be : (Text → Bool) → Option Text → Bool
may_be test word = option_map_or test word true

-- each option that isn't left out can be read
abbrev pub are_read : Hints → Bool
are_read hints = may_be are_addresses hints.entries
    && (may_be are_ranges hints.code_at
    && (may_be are_ranges hints.data_at
    && (may_be is_file hints.names && may_be is_ident hints.ident)))

-- what the options of a call have
abbrev pub hints_given : List Row → Hints
hints_given rows = record {
  entries = first_of (codes "entry") rows;
  code_at = first_of (codes "code") rows;
  data_at = first_of (codes "data") rows;
  names = first_of (codes "names") rows;
  ident = first_of (codes "ident") rows;
  is_bare = has_flag (codes "bare") rows;
}

-- the same, None where one of them can't be read
abbrev pub hints_in : List Row → Option Hints
hints_in rows = if are_read (hints_given rows) then Some (hints_given rows) else None
