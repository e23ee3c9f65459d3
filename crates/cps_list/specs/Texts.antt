-- The texts of an assembled source. Our own.
use Rattle.std.specs.Prelude.{ℕ, List, ◌++◌}
use Rattle.cps_list.specs.declared.part.Part.{Part}
use Rattle.cps_list.specs.declared.part.Part.TheVariants as part
use Rattle.cps_list.specs.Assembly.{Assembly}
use Rattle.cps_list.specs.ListingText.{listing_text}
use Rattle.cps_list.specs.Binary.{binary_text}
use Rattle.cps_list.specs.Symbols.{symbols_text}
use Rattle.cps_list.specs.Flagged.{flags_text}

abbrev pub text_of : Part → Assembly → List ℕ
text_of part.Listing assembly = listing_text assembly
text_of part.Binary assembly = binary_text assembly
text_of part.Symbols assembly = symbols_text assembly
text_of part.Flags assembly = flags_text assembly
text_of part.All assembly = listing_text assembly ++ binary_text assembly ++ symbols_text assembly ++ flags_text assembly
