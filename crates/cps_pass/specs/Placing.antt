-- Placing statements: what all of them share. From the manual's sections on the location field, on forcing upper and on SET; what stays pending, and
-- the limit, are our profile's.
use Rattle.std.specs.Prelude.{ℕ, ◌*◌, Bool, true, false, nat_lt, List, [], ◌∷◌, ◌++◌, flat_map, Option, None, Some, if◌then◌else◌}
use Rattle.cps_text.specs.declared.name.Name.{Name}
use Rattle.cps_expr.specs.declared.value.Value.{Value as AValue}
use Rattle.cps_code.specs.Image.{Piece}
use Rattle.cps_code.specs.declared.place.Force.{Force}
use Rattle.cps_code.specs.declared.place.Force.TheVariants.{Free, NewWord, Cancel}
use Rattle.cps_code.specs.Place.{position, is_forced, start_of}
use Rattle.cps_state.specs.declared.flags.Flags.{Flags}
use Rattle.cps_state.specs.declared.key.Control.{Control}
use Rattle.cps_state.specs.declared.key.Key.TheVariants as key
use Rattle.cps_state.specs.declared.made.Content.{Content}
use Rattle.cps_state.specs.declared.made.SetValue.{SetValue}
use Rattle.cps_state.specs.Course.{Part, ◌before◌, asking, fill}
use Rattle.cps_state.specs.Keys.{value_of}
use Rattle.cps_state.specs.Machines.{limit}
use Rattle.cps_state.specs.Made.{Made, nothing_made, no_flags, end_of, content_names}
use Rattle.cps_pass.specs.declared.placing.Site.{Site}
use Rattle.cps_pass.specs.declared.reading.Location.{Location}
use Rattle.cps_pass.specs.declared.reading.Location.TheVariants.{Absent, Plus, Minus, Symbol, NoSymbol}
use Rattle.cps_pass.specs.Located.{symbol_in, asking_taken, defining}
use Rattle.cps_pass.specs.Places.{filling_between, rounded_up, place_left, here_at, going_on, asking_place}

-- what a placing statement asks: the place in the block in use, and whether its symbol has a value already
abbrev pub asking_site : Control → Location → (Site → Part) → Part
asking_site control location next =
    asking_place control (λ place. asking_taken (symbol_in location) (λ is_taken.
    next (record { machine = control.machine; block = control.block; place = place; location = location; is_taken = is_taken })))

-- ---- where it starts

-- a symbol and `+` force to a new word; `-` cancels a forcing that is pending
abbrev pub force_of : Location → Force
force_of Absent = Free
force_of Plus = NewWord
force_of Minus = Cancel
force_of (Symbol name) = NewWord
force_of NoSymbol = Free

-- where so many bits of an instruction begin; 0 stands for forcing alone and for a field of any width
abbrev pub start_for : Site → ℕ → ℕ
start_for site bits = start_of (position site.place) bits (is_forced site.place.is_pending (force_of site.location))

-- the beginning of a word
abbrev pub word_start : Site → ℕ
word_start site = place_left site.place

-- ---- its flags

abbrev pub is_no_symbol : Location → Bool
is_no_symbol Absent = false
is_no_symbol Plus = false
is_no_symbol Minus = false
is_no_symbol (Symbol name) = false
is_no_symbol NoSymbol = true

-- L for a location field that is none of those that the statement takes, D for a symbol that has a value
abbrev pub placing_flags : Site → Flags
placing_flags site = record no_flags { location = is_no_symbol site.location; twice = site.is_taken }

-- A: it can't be read, or has no value
abbrev pub unread_flags : Site → Flags
unread_flags site = record (placing_flags site) { operand = true }

-- E: it would pass the machine's words
abbrev pub far_flags : Site → Flags
far_flags site = record (placing_flags site) { structure = true }

-- ---- the values that SET gave to the symbols that its contents read

abbrev pub held_of : Name → Option AValue → List SetValue
held_of name None = []
held_of name (Some value) = record { name = name; value = value } ∷ []

-- asking the value that SET has given to a symbol by now
abbrev pub setting_now : Name → (Option AValue → Part) → Part
setting_now name next = asking (key.Setting name) (λ a. next (value_of a))

abbrev pub settings_now : List Name → (List SetValue → Part) → Part
settings_now [] next = next []
settings_now (name ∷ names) next = setting_now name (λ value. settings_now names (λ held. next (held_of name value ++ held)))

abbrev pub holding : List Content → (List SetValue → Part) → Part
holding contents next = settings_now (flat_map content_names contents) next

-- ---- what it puts and makes

-- contents that only give flags
abbrev pub only_flagging : Flags → Site → List Piece → ℕ → List Content → List SetValue → Made
only_flagging flags site filling start contents held = record (nothing_made flags) {
  machine = site.machine;
  filling = filling;
  start = start;
  contents = contents;
  only_flags = true;
  held = held;
}

-- the block goes on at a place, and the symbol gets the address of the statement's first word
abbrev pub advancing : Site → ℕ → ℕ → Bool → Part
advancing site start after is_pending = going_on site.block after is_pending before defining (symbol_in site.location) site.is_taken (here_at site.block start)

-- One that makes nothing because of its operands: it forces, and its symbol is defined. The flags tell what is wrong with them.
unfoldable pub unplaced : Flags → Site → ℕ → List Content → Part
unplaced flags site start contents = holding contents (λ held.
    advancing site start start false before fill (only_flagging flags site (filling_between (position site.place) start) start contents held))

-- with unreadable operands
abbrev pub unread_from : Site → ℕ → Part
unread_from site start = unplaced (unread_flags site) site start []

-- One that would pass the machine's words makes nothing; nothing is put.
abbrev pub too_far : Site → ℕ → List Content → List SetValue → Part
too_far site start contents held = fill (only_flagging (far_flags site) site [] start contents held)

-- contents from a place on up to another
abbrev pub placed_to : Site → ℕ → List Content → Bool → ℕ → List SetValue → Part
placed_to site start contents is_pending end held =
    if nat_lt (60 * limit site.machine) end then too_far site start contents held
    else advancing site start (rounded_up site.machine end) is_pending
    before fill (record (nothing_made (placing_flags site)) {
      machine = site.machine;
      filling = filling_between (position site.place) start;
      start = start;
      contents = contents;
      held = held;
    })

-- contents from a place on, one after another
unfoldable pub placed : Site → ℕ → List Content → Bool → Part
placed site start contents is_pending = holding contents (placed_to site start contents is_pending (end_of site.machine start contents))
