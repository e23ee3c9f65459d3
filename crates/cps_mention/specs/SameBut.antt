-- A source that is another but for what its symbols are called. Our own.
use Rattle.std.specs.Prelude.{◌≡◌, List, [], All, map, if◌then◌else◌}
use Rattle.cps_text.specs.declared.name.Name.{Name}
use Rattle.cps_expr.specs.Value.{same_name}
use Rattle.cps_final.specs.declared.row.Row.{Row}
use Rattle.cps_final.specs.Finals.{Finals}
use Rattle.cps_final.specs.Outcome.{Outcome}
use Rattle.cps_list.specs.declared.mention.Mention.{Mention}
use Rattle.cps_list.specs.Assembly.{Assembly}
use Rattle.cps_list.specs.Binary.{binary_text}
use Rattle.cps_list.specs.Flagged.{flags_text}
use Rattle.cps_list.specs.Symbols.{mentions_from, value_of}
use Rattle.cps_mention.specs.declared.calling.Calling.{Calling}
use Rattle.cps_mention.specs.declared.calling.Calling.TheVariants.{Same, Renamed}

-- what a symbol is called afterwards
abbrev pub called : Calling → Name → Name
called Same name = name
called (Renamed from to) name = if same_name name from then to else name

-- a row without the text, in which names are written
abbrev pub untexted : Row → Row
untexted row = record row { text = [] }

-- the rows of a line without their texts
abbrev pub untexted_rows : Outcome → List Row
untexted_rows outcome = map untexted outcome.rows

-- a symbol on a line, as it is called afterwards
abbrev pub recalled : Calling → Mention → Mention
recalled calling mention = record mention { name = called calling mention.name }

-- each line defines and reads the same symbols as they are called afterwards
abbrev pub AreRecalled : Calling → Assembly → Assembly → Type 0
AreRecalled calling before after = mentions_from 1 after.outcomes ≡ map (recalled calling) (mentions_from 1 before.outcomes)

-- a symbol has the value that it had
abbrev pub HasSameValue : Calling → Finals → Finals → Name → Type 0
HasSameValue calling before after name = value_of after (called calling name) ≡ value_of before name

abbrev pub KeepsValue : Calling → Assembly → Assembly → Mention → Type 0
KeepsValue calling before after mention = HasSameValue calling before.finals after.finals mention.name

-- each symbol does
abbrev pub KeepValues : Calling → Assembly → Assembly → Type 0
KeepValues calling before after = All (KeepsValue calling before after) (mentions_from 1 before.outcomes)

-- a source is another but for what its symbols are called: the same words, flags, addresses and codes, on each line the same symbols, and the same values
pub record SameBut (calling : Calling) (before after : Assembly) : Type 0 where
  pub binary : binary_text after ≡ binary_text before
  pub flags : flags_text after ≡ flags_text before
  pub rows : map untexted_rows after.outcomes ≡ map untexted_rows before.outcomes
  pub mentions : AreRecalled calling before after
  pub values : KeepValues calling before after
