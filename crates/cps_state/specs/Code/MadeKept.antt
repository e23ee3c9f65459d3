-- For the code, not part of what a reader believes: what a statement made, as it is kept.
use Rattle.std.specs.Prelude.{Some, option_map}
use Rattle.std.specs.Option.{option_to_list}
use Rattle.cps_code.specs.Image.{piece_of}
use Rattle.cps_state.specs.declared.flags.Flags.{Flags}
use Rattle.cps_state.specs.declared.made.Making.{Making}
use Rattle.cps_state.specs.declared.made.Making.TheVariants.{Naming, Leaving, Reserving, Placing}
use Rattle.cps_state.specs.declared.made.Shown.TheVariants.{Start}
use Rattle.cps_state.specs.Made.{Made, nothing_made}

abbrev pub made_in : Flags → Making → Made
made_in flags (Naming name) = record (nothing_made flags) { program = Some name }
made_in flags (Leaving machine filling shown) = record (nothing_made flags) { machine = machine; filling = option_to_list (option_map piece_of filling); shown = shown }
made_in flags (Reserving machine start zeros filling) =
    record (nothing_made flags) { machine = machine; filling = option_to_list (option_map piece_of filling); start = start; zeros = zeros; shown = Start }
made_in flags (Placing machine only_flags start filling contents held) =
    record (nothing_made flags) { machine = machine; filling = option_to_list (option_map piece_of filling); start = start; contents = contents; only_flags = only_flags; held = held.items }
