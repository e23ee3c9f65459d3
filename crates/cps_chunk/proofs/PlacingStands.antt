-- What statements that are placed do once they stand, and what all statements share.
use Rattle.cps_code.specs.Form.{Form}
use Rattle.cps_code.specs.Place.{position}
use Rattle.cps_code.specs.declared.place.Place.{Place}
use Rattle.cps_pass.specs.Fields.{Sized, are_sized, fields_in, no_fields_sized, placing_fields, sizing, with_field}
use Rattle.cps_pass.specs.Instruction.{coded, peripheral_coded}
use Rattle.cps_pass.specs.Located.{asking_definition, asking_taken, defining, has_value, defined_by, symbol_in}
use Rattle.cps_pass.specs.Numbers.{between, no_number_flags, plain_number}
use Rattle.cps_pass.specs.Places.{asking_place, filling_between, here_at, rounded_up}
use Rattle.cps_pass.specs.Placing.{asking_site, held_of, holding, only_flagging, placed, placed_to, placing_flags, settings_now, advancing, start_for, too_far, unplaced, unread_flags, unread_from, word_start}
use Rattle.cps_pass.specs.Reserving.{reserved, reserved_or_not, reserving, zeros_for}
use Rattle.cps_pass.specs.ValueNow.{meant, names_now, no_values, now, value_now, with_value}
use Rattle.cps_pass.specs.Words.{counted_or_not, delimited_words, displaying, number_words, text_words, words}
use Rattle.cps_pass.specs.declared.located.Definition.{Definition}
use Rattle.cps_pass.specs.declared.placing.Site.{Site}
use Rattle.cps_pass.specs.declared.value_now.ValueNow.{ValueNow}
use Rattle.cps_expr.specs.Expression.{Expression, names_of}
use Rattle.cps_expr.specs.Item.{blank_code}
use Rattle.cps_expr.specs.Value.{Values}
use Rattle.cps_expr.specs.declared.pseudo.DisText.TheVariants.{Counted, Delimited}
use Rattle.cps_expr.specs.declared.pseudo.DisText.{DisText}
use Rattle.cps_expr.specs.declared.pseudo.Field.{Field}
use Rattle.cps_expr.specs.declared.value.Value.{Value as AValue}
use Rattle.cps_chunk.proofs.StandLemmas.{Fits, Mark, ask-fits, if-fits, mark_of, place-fits, settled}
use Rattle.cps_pass.specs.declared.reading.Location.{Location}
use Rattle.cps_state.specs.Course.{Course, Part, asking, fill, tell, telling_if, ◌before◌}
use Rattle.cps_state.specs.Flags.{joined}
use Rattle.cps_state.specs.Keys.{place_of, value_of}
use Rattle.cps_state.specs.Machines.{limit}
use Rattle.cps_state.specs.Made.{content_names, end_of, nothing_made}
use Rattle.cps_state.specs.declared.flags.Flags.{Flags}
use Rattle.cps_state.specs.declared.key.Control.{Control}
use Rattle.cps_state.specs.declared.key.Key.TheVariants as key
use Rattle.cps_state.specs.declared.made.Content.TheVariants as content
use Rattle.cps_state.specs.declared.made.Content.{Content}
use Rattle.cps_state.specs.declared.made.SetValue.{SetValue}
use Rattle.cps_state.specs.declared.made.Shown.TheVariants as shown
use Rattle.cps_text.specs.declared.name.Name.{Name}
use Rattle.std.proofs.Common.{Bool, List, None, Option, Some, [], false, refl, true, ℕ, ◌*◌, ◌++◌, ◌+◌, ◌∷◌}
use Rattle.std.specs.Prelude.{flat_map, nat_lt, ◌/◌}

-- ---- asking values

pub names-fit : (b : Option Name) (m : Bool) (names : List Name) (next : Values → Part) (rest : Course)
    → ((values : Values) → Fits b (next values rest) (mark_of m)) → Fits b (names_now names next rest) (mark_of m)
names-fit b m [] next rest later = later no_values
names-fit b m (name ∷ names) next rest later =
    ask-fits b m (key.Label name) (λ l. asking (key.Setting name) (λ s. tell name before names_now names (λ values. next (with_value name (meant l s) values))) rest) refl (λ l.
    ask-fits b m (key.Setting name) (λ s. (tell name before names_now names (λ values. next (with_value name (meant l s) values))) rest) refl (λ s.
    names-fit b m names (λ values. next (with_value name (meant l s) values)) rest (λ values. later (with_value name (meant l s) values))))

pub now-fits : (b : Option Name) (m : Bool) (terms : Expression) (here : AValue) (next : ValueNow → Part) (rest : Course)
    → ((value : ValueNow) → Fits b (next value rest) (mark_of m)) → Fits b (now terms here next rest) (mark_of m)
now-fits b m terms here next rest later =
    names-fit b m (names_of terms) (λ values. next (value_now values here terms)) rest (λ values. later (value_now values here terms))

-- ---- symbols

pub standing-fits : (b : Option Name) (m : Bool) (name : Name) (next : Definition → Part) (rest : Course)
    → ((standing : Definition) → Fits b (next standing rest) (mark_of m)) → Fits b (asking_definition name next rest) (mark_of m)
standing-fits b m name next rest later =
    ask-fits b m (key.Label name) (λ l. asking (key.Setting name) (λ s. next (defined_by (value_of l) (value_of s))) rest) refl (λ l.
    ask-fits b m (key.Setting name) (λ s. next (defined_by (value_of l) (value_of s)) rest) refl (λ s. later (defined_by (value_of l) (value_of s))))

pub telling-fits : (b : Option Name) (m : Mark) (holds : Bool) (name : Name) (rest : Course) → Fits b rest m → Fits b (telling_if holds name rest) m
telling-fits b m true name rest later = later
telling-fits b m false name rest later = later

pub taken-fits : (b : Option Name) (m : Bool) (symbol : Option Name) (next : Bool → Part) (rest : Course)
    → ((is_taken : Bool) → Fits b (next is_taken rest) (mark_of m)) → Fits b (asking_taken symbol next rest) (mark_of m)
taken-fits b m None next rest later = later false
taken-fits b m (Some name) next rest later =
    standing-fits b m name (λ standing. telling_if (has_value standing) name before next (has_value standing)) rest (λ standing.
    telling-fits b (mark_of m) (has_value standing) name (next (has_value standing) rest) (later (has_value standing)))

pub defining-fits : (b : Option Name) (m : Mark) (symbol : Option Name) (is_taken : Bool) (value : AValue) (rest : Course)
    → Fits b rest m → Fits b (defining symbol is_taken value rest) m
defining-fits b m None is_taken value rest later = later
defining-fits b m (Some name) true value rest later = later
defining-fits b m (Some name) false value rest later = later

-- ---- standing

pub asked-place-fits : (control : Control) (m : Bool) (next : Place → Part) (rest : Course)
    → ((place : Place) → Fits control.block (next place rest) settled) → Fits control.block (asking_place control next rest) (mark_of m)
asked-place-fits control m next rest later =
    place-fits control.block m (λ a. next (place_of control.machine a) rest) (λ a. later (place_of control.machine a))

abbrev pub site_at : Control → Location → Place → Bool → Site
site_at control location place is_taken = record { machine = control.machine; block = control.block; place = place; location = location; is_taken = is_taken }

pub site-fits : (control : Control) (location : Location) (m : Bool) (next : Site → Part) (rest : Course)
    → ((site : Site) → Fits control.block (next site rest) settled) → Fits control.block (asking_site control location next rest) (mark_of m)
site-fits control location m next rest later =
    asked-place-fits control m (λ place. asking_taken (symbol_in location) (λ is_taken. next (site_at control location place is_taken))) rest (λ place.
    taken-fits control.block true (symbol_in location) (λ is_taken. next (site_at control location place is_taken)) rest (λ is_taken.
    later (site_at control location place is_taken)))

-- ---- placing, where the statement stands

settings-settle : (b : Option Name) (names : List Name) (next : List SetValue → Part) (rest : Course)
    → ((held : List SetValue) → Fits b (next held rest) settled) → Fits b (settings_now names next rest) settled
settings-settle b [] next rest later = later []
settings-settle b (name ∷ names) next rest later =
    λ a. settings-settle b names (λ held. next (held_of name (value_of a) ++ held)) rest (λ held. later (held_of name (value_of a) ++ held))

holding-settles : (b : Option Name) (contents : List Content) (next : List SetValue → Part) (rest : Course)
    → ((held : List SetValue) → Fits b (next held rest) settled) → Fits b (holding contents next rest) settled
holding-settles b contents next rest later = settings-settle b (flat_map content_names contents) next rest later

pub settling-settles : (b : Option Name) (site : Site) (start after : ℕ) (is_pending : Bool) (rest : Course)
    → Fits b rest settled → Fits b (advancing site start after is_pending rest) settled
settling-settles b site start after is_pending rest later =
    defining-fits b settled (symbol_in site.location) site.is_taken (here_at site.block start) rest later

pub unplaced-settles : (b : Option Name) (flags : Flags) (site : Site) (start : ℕ) (contents : List Content) (rest : Course)
    → Fits b rest settled → Fits b (unplaced flags site start contents rest) settled
unfolding unplaced
unplaced-settles b flags site start contents rest later =
    holding-settles b contents (λ held.
    advancing site start start false before fill (only_flagging flags site (filling_between (position site.place) start) start contents held)) rest (λ held.
    settling-settles b site start start false
    (fill (only_flagging flags site (filling_between (position site.place) start) start contents held) rest) later)

placed-to-settles : (b : Option Name) (site : Site) (start : ℕ) (contents : List Content) (is_pending : Bool) (end : ℕ) (held : List SetValue) (rest : Course)
    → Fits b rest settled → Fits b (placed_to site start contents is_pending end held rest) settled
placed-to-settles b site start contents is_pending end held rest later =
    let made = record (nothing_made (placing_flags site)) {
      machine = site.machine;
      filling = filling_between (position site.place) start;
      start = start;
      contents = contents;
      held = held;
    } in
    if-fits b settled (nat_lt (60 * limit site.machine) end) (too_far site start contents held)
    (advancing site start (rounded_up site.machine end) is_pending before fill made) rest later
    (settling-settles b site start (rounded_up site.machine end) is_pending (fill made rest) later)

pub placed-settles : (b : Option Name) (site : Site) (start : ℕ) (contents : List Content) (is_pending : Bool) (rest : Course)
    → Fits b rest settled → Fits b (placed site start contents is_pending rest) settled
unfolding placed
placed-settles b site start contents is_pending rest later =
    holding-settles b contents (placed_to site start contents is_pending (end_of site.machine start contents)) rest (λ held.
    placed-to-settles b site start contents is_pending (end_of site.machine start contents) held rest later)

-- ---- statements at their places

pub words-settle : (b : Option Name) (contents : List Content) (site : Site) (rest : Course) → Fits b rest settled → Fits b (words contents site rest) settled
words-settle b contents site rest later = placed-settles b site (word_start site) contents false rest later

pub unread-settles : (b : Option Name) (site : Site) (start : ℕ) (rest : Course) → Fits b rest settled → Fits b (unread_from site start rest) settled
unread-settles b site start rest later = unplaced-settles b (unread_flags site) site start [] rest later

pub coded-settles : (b : Option Name) (form : Option Form) (site : Site) (rest : Course) → Fits b rest settled → Fits b (coded form site rest) settled
coded-settles b None site rest later = unread-settles b site (start_for site 0) rest later
coded-settles b (Some form) site rest later = placed-settles b site (start_for site form.bits) (content.Instruction form ∷ []) form.forces_after rest later

pub peripheral-settles : (b : Option Name) (form : Option Form) (site : Site) (rest : Course) → Fits b rest settled → Fits b (peripheral_coded form site rest) settled
peripheral-settles b None site rest later = unread-settles b site (word_start site) rest later
peripheral-settles b (Some form) site rest later = placed-settles b site (word_start site) (content.Instruction form ∷ []) false rest later

reserved-settles : (b : Option Name) (has_zeros : Bool) (site : Site) (start words : ℕ) (rest : Course) → Fits b rest settled → Fits b (reserved has_zeros site start words rest) settled
reserved-settles b has_zeros site start words rest later =
    let made = record (nothing_made (placing_flags site)) {
      machine = site.machine;
      filling = filling_between (position site.place) start;
      start = start;
      zeros = zeros_for has_zeros words;
      shown = shown.Start;
    } in
    if-fits b settled (nat_lt (limit site.machine) (start / 60 + words)) (too_far site start [] [])
    (advancing site start (start + 60 * words) false before fill made) rest later
    (settling-settles b site start (start + 60 * words) false (fill made rest) later)

reserved-or-not-settles : (b : Option Name) (has_zeros : Bool) (site : Site) (start : ℕ) (value : ValueNow) (number : Option ℕ) (rest : Course)
    → Fits b rest settled → Fits b (reserved_or_not has_zeros site start value number rest) settled
reserved-or-not-settles b has_zeros site start value None rest later = unplaced-settles b (no_number_flags site value) site start [] rest later
reserved-or-not-settles b has_zeros site start value (Some words) rest later = reserved-settles b has_zeros site start words rest later

pub reserving-settles : (b : Option Name) (has_zeros : Bool) (terms : Expression) (site : Site) (rest : Course) → Fits b rest settled → Fits b (reserving has_zeros terms site rest) settled
reserving-settles b has_zeros terms site rest later =
    now-fits b true terms (here_at site.block (word_start site)) (λ value. reserved_or_not has_zeros site (word_start site) value (plain_number value)) rest (λ value.
    reserved-or-not-settles b has_zeros site (word_start site) value (plain_number value) rest later)

counted-settles : (b : Option Name) (text : List ℕ) (site : Site) (value : ValueNow) (number : Option ℕ) (rest : Course)
    → Fits b rest settled → Fits b (counted_or_not text site value number rest) settled
counted-settles b text site value None rest later = unplaced-settles b (no_number_flags site value) site (word_start site) [] rest later
counted-settles b text site value (Some count) rest later = words-settle b (number_words site.machine (text_words site.machine blank_code count text)) site rest later

pub displayed-settles : (b : Option Name) (text : DisText) (site : Site) (rest : Course) → Fits b rest settled → Fits b (displaying text site rest) settled
displayed-settles b (Counted count text) site rest later =
    now-fits b true count (here_at site.block (word_start site)) (λ value. counted_or_not text site value (between 1 100 (plain_number value))) rest (λ value.
    counted-settles b text site value (between 1 100 (plain_number value)) rest later)
displayed-settles b (Delimited text) site rest later = words-settle b (number_words site.machine (delimited_words site.machine text)) site rest later

sizing-settles : (b : Option Name) (fields : List Field) (here : AValue) (next : Sized → Part) (rest : Course)
    → ((sized : Sized) → Fits b (next sized rest) settled) → Fits b (sizing fields here next rest) settled
sizing-settles b [] here next rest later = later no_fields_sized
sizing-settles b (field ∷ fields) here next rest later =
    now-fits b true field.width here (λ width. sizing fields here (λ sized. next (with_field field.value width sized))) rest (λ width.
    sizing-settles b fields here (λ sized. next (with_field field.value width sized)) rest (λ sized. later (with_field field.value width sized)))

placing-fields-settle : (b : Option Name) (site : Site) (sized : Sized) (rest : Course) → Fits b rest settled → Fits b (placing_fields site sized rest) settled
placing-fields-settle b site sized rest later =
    if-fits b settled (are_sized sized.contents) (placed site (start_for site 0) sized.contents false)
    (unplaced (joined (placing_flags site) sized.flags) site (start_for site 0) sized.contents) rest
    (placed-settles b site (start_for site 0) sized.contents false rest later)
    (unplaced-settles b (joined (placing_flags site) sized.flags) site (start_for site 0) sized.contents rest later)

pub fields-settle : (b : Option Name) (fields : List Field) (site : Site) (rest : Course) → Fits b rest settled → Fits b (fields_in fields site rest) settled
fields-settle b fields site rest later =
    sizing-settles b fields (here_at site.block (start_for site 0)) (placing_fields site) rest (λ sized. placing-fields-settle b site sized rest later)
