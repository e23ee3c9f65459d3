-- A run of lines, gone through as one line is: what it asks of the state in front of it, and what it puts. Our own.
use Rattle.std.specs.Prelude.{List, [], ◌∷◌, ◌++◌, fold, is_some, if◌then◌else◌}
use Rattle.cps_state.specs.declared.key.Asked.{Asked}
use Rattle.cps_state.specs.declared.key.Put.{Put}
use Rattle.cps_state.specs.Course.{Trace, known_in}

pub record Run : Type 0 where
  pub asks : List Asked
  pub puts : List Put

-- no line
abbrev pub empty_run : Run
empty_run = record { asks = []; puts = [] }

-- one ask more, after some puts: a key that was put or asked before is not asked again
abbrev pub with_ask : List Put → List Asked → Asked → List Asked
with_ask puts asks asked = if is_some (known_in asks puts asked.key) then asks else asks ++ asked ∷ []

abbrev pub with_asks : List Put → List Asked → List Asked → List Asked
with_asks puts asks more = fold (with_ask puts) asks more

-- with what one line more did: what it asked, it asked before it put
abbrev pub joined : Run → Trace → Run
joined run trace = record { asks = with_asks run.puts run.asks trace.asks; puts = run.puts ++ trace.puts }

-- lines that did this
abbrev pub run_of : List Trace → Run
run_of traces = fold joined empty_run traces
