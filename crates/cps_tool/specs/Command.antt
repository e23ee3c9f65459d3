-- The commands of a script. Our own.
use Rattle.std.specs.Prelude.{◌≡◌, ℕ, ◌<◌, ◌≤◌, Bool, true, false, IsTrue, List, [], ◌++◌, length, codes, ◌⊎◌, bytes_eq}
use Rattle.std.specs.Str.Parse.{AllDigits, digits_value}
use Rattle.cps_tool.specs.declared.command.Command.{Command}
use Rattle.cps_tool.specs.declared.command.Command.TheVariants.{Append, Insert, Replace, Delete, Move, Listing, Binary, Symbols, Flags, Work, Quit}
use Rattle.cps_text.specs.declared.limits.TheConstants.{MOST_COMMAND_BYTES}

-- what a command asks: a text at the end of the source, after a line or in place of one, to delete lines, to move them after another,
-- one of the texts, the steps of the latest edit, or the script's end
pub data Order : Type 0 where
  append : List ℕ → Order
  insert : ℕ → List ℕ → Order
  replace : ℕ → List ℕ → Order
  delete : ℕ → ℕ → Order
  move : ℕ → ℕ → ℕ → Order
  list : Order
  binary : Order
  symbols : Order
  flags : Order
  work : Order
  quit : Order

-- what a command of the code asks
abbrev pub order_of : Command → Order
order_of (Append text) = append text.now
order_of (Insert after text) = insert after text.now
order_of (Replace at text) = replace at text.now
order_of (Delete first last) = delete first last
order_of (Move first last after) = move first last after
order_of Listing = list
order_of Binary = binary
order_of Symbols = symbols
order_of Flags = flags
order_of Work = work
order_of Quit = quit

-- the most bytes that a command has
abbrev pub longest_command : ℕ
longest_command = MOST_COMMAND_BYTES

-- a line's number as 1 to 5 decimal digits
pub record IsNumber (digits : List ℕ) (number : ℕ) : Type 0 where
  pub some : 0 < length digits
  pub few : length digits ≤ 5
  pub decimal : AllDigits 10 digits
  pub value : number ≡ digits_value 10 digits

-- the digits of a line's number, and behind a blank a text, which may be absent
abbrev pub IsNumbered : List ℕ → ℕ → List ℕ → Type 0
IsNumbered bytes number text =
    (digits : List ℕ) × IsNumber digits number × (((bytes ≡ digits) × (text ≡ [])) ⊎ (bytes ≡ digits ++ (codes " " ++ text)))

-- two numbers with a blank between them
abbrev pub IsPair : List ℕ → ℕ → ℕ → Type 0
IsPair bytes one two = (digits : List ℕ) × (more : List ℕ) × (bytes ≡ digits ++ (codes " " ++ more)) × IsNumber digits one × IsNumber more two

-- the numbers of the first and the last of some lines; one number alone is both
abbrev pub IsRange : List ℕ → ℕ → ℕ → Type 0
IsRange bytes first last = (IsNumber bytes first × (last ≡ first)) ⊎ IsPair bytes first last

-- the numbers of the first and the last of some lines, and of the line that they go after
abbrev pub IsMove : List ℕ → ℕ → ℕ → ℕ → Type 0
IsMove bytes first last after =
    (digits : List ℕ) × (more : List ℕ) × (bytes ≡ digits ++ (codes " " ++ more)) × IsNumber digits first × IsPair more last after

-- a line is the command that ends a script
abbrev pub is_quit : List ℕ → Bool
is_quit line = bytes_eq line (codes "quit")

-- an order is the one that ends a script
abbrev pub is_quit_order : Order → Bool
is_quit_order (append text) = false
is_quit_order (insert after text) = false
is_quit_order (replace at text) = false
is_quit_order (delete first last) = false
is_quit_order (move first last after) = false
is_quit_order list = false
is_quit_order binary = false
is_quit_order symbols = false
is_quit_order flags = false
is_quit_order work = false
is_quit_order quit = true

-- the bytes of a command that gives an order
abbrev pub Spells : List ℕ → Order → Type 0
Spells line (append text) = (length line ≤ longest_command) × (((line ≡ codes "a") × (text ≡ [])) ⊎ (line ≡ codes "a " ++ text))
Spells line (insert after text) =
    (length line ≤ longest_command) × (bytes : List ℕ) × (line ≡ codes "i " ++ bytes) × IsNumbered bytes after text
Spells line (replace at text) =
    (length line ≤ longest_command) × (bytes : List ℕ) × (line ≡ codes "r " ++ bytes) × IsNumbered bytes at text
Spells line (delete first last) =
    (length line ≤ longest_command) × (bytes : List ℕ) × (line ≡ codes "d " ++ bytes) × IsRange bytes first last
Spells line (move first last after) =
    (length line ≤ longest_command) × (bytes : List ℕ) × (line ≡ codes "m " ++ bytes) × IsMove bytes first last after
Spells line list = (length line ≤ longest_command) × (line ≡ codes "list")
Spells line binary = (length line ≤ longest_command) × (line ≡ codes "binary")
Spells line symbols = (length line ≤ longest_command) × (line ≡ codes "symbols")
Spells line flags = (length line ≤ longest_command) × (line ≡ codes "flags")
Spells line work = (length line ≤ longest_command) × (line ≡ codes "work")
Spells line quit = (length line ≤ longest_command) × IsTrue (is_quit line)
