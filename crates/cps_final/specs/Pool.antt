-- The pool of literals: each literal word of a source once, in order of first appearance. From the manual's section on literals; the order is our profile's.
use Rattle.std.specs.Prelude.{ℕ, nat_eq, List, flat_map}
use Rattle.cps_state.specs.declared.item.Item.{Item}
use Rattle.cps_state.specs.Course.{Trace}
use Rattle.cps_state.specs.Made.{Made, content_literals}
use Rattle.cps_final.specs.Distinct.{distinct}

-- the literal words of a statement, also of one that makes nothing because it would pass the machine's words
abbrev pub literals_of : Made → List ℕ
literals_of made = flat_map content_literals made.contents

-- those of statements, and of a line
abbrev pub literals_among : List Item → List ℕ
literals_among items = flat_map (λ item. literals_of item.made) items

abbrev pub literals_in : Trace → List ℕ
literals_in trace = literals_among trace.items

abbrev pub pool_of : List Trace → List ℕ
pool_of traces = distinct nat_eq (flat_map literals_in traces)
