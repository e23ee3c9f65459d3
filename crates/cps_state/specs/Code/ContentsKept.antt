-- For the code, not part of what a reader believes: the contents of a statement, as they are kept.
use Rattle.std.specs.Prelude.{List, [], ◌∷◌}
use Rattle.cps_state.specs.declared.contents.KeptContents.{KeptContents}
use Rattle.cps_state.specs.declared.contents.KeptContents.TheVariants.{One, Several}
use Rattle.cps_state.specs.declared.made.Content.{Content}

abbrev pub contents_in : KeptContents → List Content
contents_in (One content) = content ∷ []
contents_in (Several contents) = contents.items
