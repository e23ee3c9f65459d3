-- Instructions. From the manual's section on the location field, and from the machines' reference manuals.
use Rattle.std.specs.Prelude.{false, [], ◌∷◌, Option, None, Some}
use Rattle.cps_code.specs.Form.{Form}
use Rattle.cps_state.specs.declared.key.Control.{Control}
use Rattle.cps_state.specs.declared.made.Content.TheVariants as content
use Rattle.cps_state.specs.Course.{Part}
use Rattle.cps_pass.specs.declared.placing.Site.{Site}
use Rattle.cps_pass.specs.declared.reading.Location.{Location}
use Rattle.cps_pass.specs.Placing.{asking_site, start_for, word_start, unread_from, placed}

-- ---- of the central processor: at a parcel's border with room in its word; None: the operands are unreadable

abbrev pub coded : Option Form → Site → Part
coded None site = unread_from site (start_for site 0)
coded (Some form) site = placed site (start_for site form.bits) (content.Instruction form ∷ []) form.forces_after

abbrev pub instruction : Control → Location → Option Form → Part
instruction control location form = asking_site control location (coded form)

-- ---- of a peripheral processor: it begins a word

abbrev pub peripheral_coded : Option Form → Site → Part
peripheral_coded None site = unread_from site (word_start site)
peripheral_coded (Some form) site = placed site (word_start site) (content.Instruction form ∷ []) false

abbrev pub peripheral_instruction : Control → Location → Option Form → Part
peripheral_instruction control location form = asking_site control location (peripheral_coded form)
