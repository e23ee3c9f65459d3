use Rattle.std.proofs.Common.{◌≡◌, All}
use Rattle.std.specs.Vec.Iter.{into_iter_items}
use Rattle.cps_state.specs.Course.{Course, Part}
use Rattle.cps_state.specs.Code.Line.{runs}
use Rattle.cps_state.specs.Made.{IsContent}
use Rattle.cps_pass.specs.Fields.{Sized, sizing}
use Rattle.cps_pass.proofs.SizedLemmas.{behind_sized}
use Rattle.cps_pass.proofs.fields.size_fields.Given as goal

abbrev pub invariant-loop-field : goal.invariant-loop-field
invariant-loop-field g l = record {
  left : (next : Sized → Part) (rest : Course)
      → runs (sizing (into_iter_items l.field-iterator) l.here (λ sized. next (behind_sized l.contents.items l.flags sized)) rest) g.L.Lookup.answer l.recorder
      ≡ runs (sizing l.fn.fields l.here next rest) g.L.Lookup.answer l.fn.recorder;
  each : All IsContent l.contents.items;
}
