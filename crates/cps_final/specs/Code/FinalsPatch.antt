-- For the code that patches final values, not part of what a reader believes: final values with what an edit changed.
use Rattle.std.specs.Prelude.{Option, None, Some}
use Rattle.cps_final.specs.Changes.{changed}
use Rattle.cps_final.specs.Code.Kept.{changes_in}
use Rattle.cps_final.specs.Finals.{Finals}
use Rattle.cps_final.specs.Code.Storage.{stored}
use Rattle.cps_final.specs.declared.storage.Storage.{Storage}
use Rattle.cps_final.specs.declared.finals_patch.FinalsPatch.{FinalsPatch}

-- other blocks and literals, if there are
abbrev pub with_storage : Option Storage → Finals → Finals
with_storage None finals = finals
with_storage (Some storage) finals = record (stored storage) { state = finals.state }

-- other answers at the changed keys, and other blocks and literals, if there are
abbrev pub patched : FinalsPatch → Finals → Finals
patched patch finals = record (with_storage patch.storage finals) { state = changed (changes_in patch.changes) finals.state }
