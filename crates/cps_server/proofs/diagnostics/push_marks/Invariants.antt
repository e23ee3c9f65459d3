use Rattle.std.proofs.Common.{◌≡◌, ◌≤◌, List, ◌++◌, drop, length, map}
use Rattle.std.specs.Prelude.{false, nat_lt}
use Rattle.serde_json.specs.Data.{Data}
use Rattle.serde_json.specs.View.{items_of}
use Rattle.serde_json.specs.Written.{items_text}
use Rattle.cps_rpc.specs.Lines.{source_lines}
use Rattle.cps_server.specs.Marks.{place_of}
use Rattle.cps_server.specs.Diagnostics.{TellsMarks}
use Rattle.cps_server.specs.Code.Writing.{listener_of}
use Rattle.cps_server.proofs.diagnostics.push_marks.Given as goal

-- whatever tells the marks that are left, and more, stands behind what is written so far, and all of it tells all marks, and more
pub record IsSoFar (l : goal.Live-loop-at) : Type 0 where
  pub within : l.at ≤ length l.marks
  pub tells : (rest : List Data) → TellsMarks (listener_of l.deck) (source_lines l.deck.document.now) (map place_of (drop l.at l.marks)) rest
      → (told : List Data) × TellsMarks (listener_of l.deck) (source_lines l.deck.document.now) (map place_of l.marks) told
      × ((more : List Data) → l.list.items ++ items_text (nat_lt 0 l.at) (items_of (rest ++ more)) ≡ l.fn.list.items ++ items_text false (items_of (told ++ more)))

abbrev pub invariant-loop-at : goal.invariant-loop-at
invariant-loop-at l = IsSoFar l
