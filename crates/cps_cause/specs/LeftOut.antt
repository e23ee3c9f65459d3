-- Operations of COMPASS Version 3 that this assembler leaves out. Of the COMPASS manual and of the manuals of later machines.
use Rattle.std.specs.Prelude.{ℕ, Bool, true, false, if◌then◌else◌, List, [], ◌∷◌, codes}
use Rattle.std.specs.Str.{str_eq_ignore_ascii_case}

unfoldable pub left_out_names : List (List ℕ)
left_out_names =
    codes "ENTRY" ∷ codes "EXT" ∷ codes "SST" ∷ codes "SYSCOM" ∷ codes "COMMENT" ∷ codes "CTEXT" ∷ codes "ENDX" ∷ codes "TTL"
    ∷ codes "NOREF" ∷ codes "XREF" ∷ codes "NOLABEL" ∷ codes "QUAL" ∷ codes "MICRO" ∷ codes "ECHO" ∷ codes "STOPDUP"
    ∷ codes "IRP" ∷ codes "OPDEF" ∷ codes "PURGMAC" ∷ codes "PURGDEF" ∷ codes "RMT" ∷ codes "HERE" ∷ codes "LOC" ∷ codes "POS"
    ∷ codes "COL" ∷ codes "XTEXT" ∷ codes "STEXT" ∷ codes "SEG" ∷ codes "SEGMENT" ∷ codes "LCC" ∷ codes "PPU" ∷ codes "ENTRYC"
    ∷ codes "USELCM" ∷ codes "ORGC" ∷ codes "MACHINE" ∷ codes "MICCNT" ∷ codes "MAX" ∷ codes "MIN" ∷ codes "IFC" ∷ codes "IFPL"
    ∷ codes "IFMI" ∷ codes "IFCP" ∷ codes "IFCP6" ∷ codes "IFCP7" ∷ codes "IFPP" ∷ codes "IFPP6" ∷ codes "IFPP7" ∷ codes "SKIP"
    ∷ codes "ERR" ∷ codes "ERRZR" ∷ codes "ERRNZ" ∷ codes "ERRPL" ∷ codes "ERRNG" ∷ codes "ERRMI" ∷ codes "R=" ∷ codes "B1=1"
    ∷ codes "B7=1" ∷ codes "LIT" ∷ codes "REP" ∷ codes "REPC" ∷ codes "REPI" ∷ codes "OPSYN" ∷ codes "CPSYN" ∷ codes "NIL"
    ∷ codes "MACROE" ∷ codes "DECMIC" ∷ codes "OCTMIC" ∷ codes "CPOP" ∷ codes "CODE" ∷ codes "CHAR" ∷ codes "RE" ∷ codes "WE"
    ∷ codes "XJ" ∷ codes "MJ" ∷ codes "IM" ∷ codes "DM" ∷ codes "CC" ∷ codes "CU" ∷ codes "MXN" ∷ []

-- a word is a name, in capitals or not
unfoldable pub is_same : List ℕ → List ℕ → Bool
is_same name word = str_eq_ignore_ascii_case name word

-- a word is one of these names, in capitals or not
abbrev pub is_named_among : List (List ℕ) → List ℕ → Bool
is_named_among [] word = false
is_named_among (name ∷ names) word = if is_same name word then true else is_named_among names word

abbrev pub is_left_out : List ℕ → Bool
is_left_out word = is_named_among left_out_names word
