-- For the code that asks what lines leave, not part of what a reader believes: tests that may say no where lines leave the same.
use Rattle.std.specs.Prelude.{Bool, not, ◌&&◌, ◌||◌, is_some}
use Rattle.std.specs.List.{list_all}
use Rattle.cps_state.specs.declared.key.Put.{Put}
use Rattle.cps_state.specs.contracts.key.PutPartialEq.TheImpl.{eq-value}
use Rattle.cps_state.specs.Course.{Trace}
use Rattle.cps_final.specs.Naming.{all_named}
use Rattle.cps_chunk.specs.Code.NoLiteral.{is_no_literal}
use Rattle.cps_chunk.specs.Code.Storing.{is_counter}

-- a put leaves the same at counters as another
abbrev pub same_counter : Put → Put → Bool
same_counter old new = (not (is_counter old.key) && not (is_counter new.key)) || (eq-value.it) old new

-- a line names no literal, and gives the program no name
abbrev pub leaves_counters_alone : Trace → Bool
leaves_counters_alone trace = list_all (all_named is_no_literal) trace.items && list_all (λ item. not (is_some item.made.program)) trace.items

abbrev pub leaves_nothing : Trace → Bool
leaves_nothing trace = list_all (λ p. not (is_counter p.key)) trace.puts && leaves_counters_alone trace
