-- Pass two: the rows of a statement. From the manual's section on the listing; the flag at the machine's limit, and which columns a row shows, are our
-- profile's.
use Rattle.std.specs.Prelude.{ℕ, ◌+◌, ◌/◌, ◌%◌, ◌^◌, Bool, true, false, nat_le, nat_lt, List, [], ◌∷◌, map, fold, nat_abs, Option, None, Some, option_map, if◌then◌else◌}
use Rattle.std.specs.List.{list_any}
use Rattle.cps_expr.specs.declared.machine.Machine.{Machine}
use Rattle.cps_expr.specs.declared.machine.Machine.TheVariants.{Pp}
use Rattle.cps_expr.specs.Item.{bits_of}
use Rattle.cps_code.specs.Bits.{word_bits}
use Rattle.cps_code.specs.Form.{complemented}
use Rattle.cps_state.specs.declared.flags.Flags.{Flags}
use Rattle.cps_state.specs.declared.item.Item.{Item}
use Rattle.cps_state.specs.declared.made.Content.{Content}
use Rattle.cps_state.specs.declared.made.Content.TheVariants as content
use Rattle.cps_state.specs.declared.made.Shown.{Shown}
use Rattle.cps_state.specs.declared.made.Shown.TheVariants as shown
use Rattle.cps_state.specs.Flags.{joined}
use Rattle.cps_state.specs.Machines.{limit}
use Rattle.cps_state.specs.Made.{no_flags, width_of, content_literals}
use Rattle.cps_final.specs.declared.row.Row.{Row}
use Rattle.cps_final.specs.declared.octal_digits.OctalDigits.{OctalDigits}
use Rattle.cps_final.specs.Places.{with_places}
use Rattle.cps_final.specs.Values.{Resolved, final_of, first_address, Known, PlacedStatement, placed_statement, number_of, value_flags}

-- one digit for each three bits, rounded up
abbrev pub digits_for : ℕ → ℕ → OctalDigits
digits_for width number = record { count = (width + 2) / 3; number = number }

-- an instruction of two words of a peripheral processor shows them apart
abbrev pub is_parted : Machine → Content → Bool
is_parted Pp (content.Instruction form) = nat_lt (bits_of Pp) form.bits
is_parted _ _ = false

abbrev pub first_digits : Machine → Content → ℕ → OctalDigits
first_digits machine content number =
    if is_parted machine content then digits_for (bits_of Pp) (number / 2 ^ bits_of Pp) else digits_for (width_of content) number

abbrev pub second_digits : Machine → Content → ℕ → Option OctalDigits
second_digits machine content number = if is_parted machine content then Some (digits_for (bits_of Pp) (number % 2 ^ bits_of Pp)) else None

-- E at or past the machine's words
abbrev pub limit_flags : Machine → ℕ → Flags
limit_flags machine address = record no_flags { structure = nat_le (limit machine) address }

-- E where a literal's word stands at or past them
abbrev pub literal_flags : (ℕ → ℕ) → Machine → Content → Flags
literal_flags literals machine content = record no_flags { structure = list_any (λ word. nat_le (limit machine) (literals word)) (content_literals content) }

-- a row that shows nothing but flags
abbrev pub blank_row : Flags → Row
blank_row flags = record { flags = flags; location = None; code = None; second = None; is_later = false; depth = 0; text = [] }

-- the row of a content at a place of its block: its flags, the address of the word in which it begins, and its code
abbrev pub row_at : PlacedStatement → Flags → Bool → ℕ → Content → Row
row_at statement flags is_later at content =
    let address = statement.base + at / word_bits in
    let number = number_of statement.known statement.here content in
    record {
      flags = joined (joined (joined flags (value_flags statement.known statement.here content)) (literal_flags statement.known.literals statement.machine content))
          (limit_flags statement.machine address);
      location = Some address;
      code = Some (first_digits statement.machine content number);
      second = second_digits statement.machine content number;
      is_later = is_later;
      depth = 0;
      text = [];
    }

-- the rows of contents after the first
abbrev pub later_rows : PlacedStatement → List (ℕ × Content) → List Row
later_rows statement contents = map (λ (at, content). row_at statement no_flags true at content) contents

-- a row for each content at its place; the flags of pass one are on the first
abbrev pub content_rows : PlacedStatement → Flags → List (ℕ × Content) → List Row
content_rows statement flags [] = []
content_rows statement flags ((at, content) ∷ contents) = row_at statement flags false at content ∷ later_rows statement contents

-- flags, and those that contents give
abbrev pub with_contents : Known → ℕ → Flags → List Content → Flags
with_contents known here flags contents = fold (λ all content. joined all (value_flags known here content)) flags contents

-- the row of a statement without contents
abbrev pub statement_row : Resolved → Item → Shown → Row
statement_row finals item shown.Nothing = blank_row item.made.flags
statement_row finals item (shown.Value value) =
    record (blank_row item.made.flags) { code = option_map (λ v. digits_for word_bits (complemented word_bits v.offset)) (final_of finals value) }
statement_row finals item (shown.Address value) = record (blank_row item.made.flags) { location = option_map (λ v. nat_abs v.offset) (final_of finals value) }
statement_row finals item shown.Start =
    record (blank_row (joined item.made.flags (limit_flags item.made.machine (first_address finals item)))) { location = Some (first_address finals item) }

-- the rows of a statement with these contents
abbrev pub rows_with : Resolved → Item → List Content → List Row
rows_with finals item [] = statement_row finals item item.made.shown ∷ []
rows_with finals item (content ∷ contents) =
    let statement = placed_statement finals item in
    if item.made.only_flags then blank_row (with_contents statement.known statement.here item.made.flags (content ∷ contents)) ∷ []
    else content_rows statement item.made.flags (with_places statement.machine item.made.start (content ∷ contents))

-- the rows of what a statement made, as in a source line
abbrev pub rows_made : Resolved → Item → List Row
rows_made finals item = rows_with finals item item.made.contents

-- a row of a statement has its depth and its text; later rows have neither
abbrev pub row_of : Item → Row → Row
row_of item row = if row.is_later then row else record row { depth = item.depth; text = item.text }

abbrev pub rows_of : Resolved → Item → List Row
rows_of finals item = map (row_of item) (rows_made finals item)
