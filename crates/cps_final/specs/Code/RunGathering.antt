-- For the code that gathers a run, not part of what a reader believes.
use Rattle.std.specs.Prelude.{◌≡◌, List, is_some}
use Rattle.std.specs.HashSet.{contains}
use Rattle.cps_state.specs.declared.key.Key.{Key}
use Rattle.cps_state.specs.declared.key.Asked.{Asked}
use Rattle.cps_state.specs.contracts.key.KeyPartialEq.TheImpl.{eq-value}
use Rattle.cps_state.specs.Course.{Trace, known_in}
use Rattle.cps_final.specs.Run.{Run, run_of}
use Rattle.cps_final.specs.declared.outside.OutsideAsks.{OutsideAsks}

-- what is kept of a run: what it asks
pub record KeptRun : Type 0 where
  pub asks : List Asked

-- that of lines which did this
abbrev pub kept_run : List Trace → KeptRun
kept_run traces = record { asks = (run_of traces).asks }

-- what was gathered of lines is what their run asks, and each key that it asked or put
pub record IsOutside (outside : OutsideAsks) (run : Run) : Type 0 where
  pub asks : outside.asks.items ≡ run.asks
  pub known : (k : Key) → contains (eq-value.it) outside.known k ≡ is_some (known_in run.asks run.puts k)
