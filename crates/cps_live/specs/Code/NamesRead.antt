-- For the code that makes an edit, not part of what a reader believes: the symbols that lines read.
use Rattle.std.specs.Prelude.{◌≡◌, Bool, true, List, map}
use Rattle.std.specs.List.{list_all, list_any}
use Rattle.cps_text.specs.declared.name.Name.{Name}
use Rattle.cps_expr.specs.Value.{same_name}
use Rattle.cps_state.specs.Course.{Trace}
use Rattle.cps_final.specs.LineNames.{names_read}
use Rattle.cps_final.specs.Outcome.{Outcome}
use Rattle.cps_chunk.specs.declared.sparse.SparseItem.{SparseItem}
use Rattle.cps_live.specs.declared.names_read.NamesRead.{NamesRead}

-- whether a symbol is among them, and whether all of some are
abbrev pub has_name : NamesRead → Name → Bool
has_name set name = list_any (same_name name) set.names.keys

abbrev pub has_all : NamesRead → List Name → Bool
has_all set names = list_all (has_name set) names

-- all that are read by lines of which pass two makes this
abbrev pub HasRead : NamesRead → List Outcome → Type 0
HasRead set outcomes = list_all (λ (outcome : Outcome). has_all set outcome.read) outcomes ≡ true

-- all that are read by lines that did this
abbrev pub HasReadBy : NamesRead → List Trace → Type 0
HasReadBy set traces = list_all (λ trace. has_all set (names_read trace)) traces ≡ true

-- what was made anew, wherever it stands
abbrev pub items_of : {X : Type 0} → List (SparseItem X) → List X
items_of news = map (λ new. new.item) news

-- none of them has gone
abbrev pub StillHas : NamesRead → NamesRead → Type 0
StillHas old new = (name : Name) → has_name old name ≡ true → has_name new name ≡ true
