-- Lines that are too long to be a command.
use Rattle.std.proofs.Common.{◌≡◌, ℕ, ◌<◌, Bool, true, false, List, length, sym, ◌∙◌, codes, refl, ap, arith}
use Rattle.std.proofs.lemmas.Slice.Eq.{bytes_eq-Decides}
use Rattle.cps_tool.specs.Command.{Order, append, insert, replace, delete, move, list, binary, symbols, flags, work, quit, Spells, is_quit}

-- no command has more than 200 bytes
pub no_command : (line : List ℕ) → 200 < length line → (order : Order) → Spells line order → ⊥
no_command line long (append text) spells = let within = spells.0 in omega arith
no_command line long (insert after text) spells = let within = spells.0 in omega arith
no_command line long (replace at text) spells = let within = spells.0 in omega arith
no_command line long (delete first last) spells = let within = spells.0 in omega arith
no_command line long (move first last after) spells = let within = spells.0 in omega arith
no_command line long list spells = let within = spells.0 in omega arith
no_command line long binary spells = let within = spells.0 in omega arith
no_command line long symbols spells = let within = spells.0 in omega arith
no_command line long flags spells = let within = spells.0 in omega arith
no_command line long work spells = let within = spells.0 in omega arith
no_command line long quit spells = let within = spells.0 in omega arith

long_differs : (test : Bool) (line : List ℕ) → (test ≡ true → line ≡ codes "quit") → 200 < length line → test ≡ false
long_differs true line same long = let few : length line ≡ 4 = ap length (same refl) in absurd (omega arith)
long_differs false line same long = refl

pub is_quit-long : (line : List ℕ) → 200 < length line → is_quit line ≡ false
is_quit-long line long = long_differs (is_quit line) line (bytes_eq-Decides line (codes "quit")).0 long

-- a line that spells none of the orders spells none
pub no_order : (line : List ℕ) → ((text : List ℕ) → Spells line (append text) → ⊥) → ((after : ℕ) (text : List ℕ) → Spells line (insert after text) → ⊥)
    → ((at : ℕ) (text : List ℕ) → Spells line (replace at text) → ⊥) → ((first last : ℕ) → Spells line (delete first last) → ⊥)
    → ((first last after : ℕ) → Spells line (move first last after) → ⊥)
    → (Spells line list → ⊥) → (Spells line binary → ⊥) → (Spells line symbols → ⊥) → (Spells line flags → ⊥) → (Spells line work → ⊥) → is_quit line ≡ false → (order : Order) → Spells line order → ⊥
no_order line no_append no_insert no_replace no_delete no_move no_list no_binary no_symbols no_flags no_work no_quit (append text) = no_append text
no_order line no_append no_insert no_replace no_delete no_move no_list no_binary no_symbols no_flags no_work no_quit (insert after text) = no_insert after text
no_order line no_append no_insert no_replace no_delete no_move no_list no_binary no_symbols no_flags no_work no_quit (replace at text) = no_replace at text
no_order line no_append no_insert no_replace no_delete no_move no_list no_binary no_symbols no_flags no_work no_quit (delete first last) = no_delete first last
no_order line no_append no_insert no_replace no_delete no_move no_list no_binary no_symbols no_flags no_work no_quit (move first last after) = no_move first last after
no_order line no_append no_insert no_replace no_delete no_move no_list no_binary no_symbols no_flags no_work no_quit list = no_list
no_order line no_append no_insert no_replace no_delete no_move no_list no_binary no_symbols no_flags no_work no_quit binary = no_binary
no_order line no_append no_insert no_replace no_delete no_move no_list no_binary no_symbols no_flags no_work no_quit symbols = no_symbols
no_order line no_append no_insert no_replace no_delete no_move no_list no_binary no_symbols no_flags no_work no_quit flags = no_flags
no_order line no_append no_insert no_replace no_delete no_move no_list no_binary no_symbols no_flags no_work no_quit work = no_work
no_order line no_append no_insert no_replace no_delete no_move no_list no_binary no_symbols no_flags no_work no_quit quit = λ spells. let is = sym no_quit ∙ spells.1 in cc
