-- Each row that is read is in bounds.
use Rattle.std.proofs.Common.{◌≡◌, ℕ, zero, suc, ◌+◌, ◌^◌, ◌<◌, Bool, true, false, cond, List, [], ◌∷◌, length, take, drop, Option, None, Some, refl, subst, arith}
use Rattle.std.specs.Prelude.{IsTrue, Result, Ok, Err, IfOk, option_map, option_and_then}
use Rattle.std.specs.List.{list_all, position}
use Rattle.cps_text.specs.Display.{has_display}
use Rattle.cps_text.specs.Operands.{operands_of}
use Rattle.cps_text.specs.Text.{is_blank}
use Rattle.cps_expr.specs.declared.expr.ExprFault.{ExprFault}
use Rattle.cps_expr.specs.declared.machine.Machine.{Machine}
use Rattle.cps_expr.specs.declared.operation.Operation.{Operation}
use Rattle.cps_expr.specs.declared.operation.Operation.TheVariants.{Ident, Abs, Periph, Base, Equate, Set, Org, Use, Bss, Bssz, Con, Data, Vfd, Dis, Compare, If, Else, Endif, Dup, Endd, Macro, Local, Endm, End, Listing}
use Rattle.cps_expr.specs.declared.radix.Radix.{Radix}
use Rattle.cps_expr.specs.declared.pseudo.DisText.{DisText}
use Rattle.cps_expr.specs.declared.pseudo.DisText.TheVariants.{Counted, Delimited}
use Rattle.cps_expr.specs.declared.pseudo.Pseudo.{Pseudo}
use Rattle.cps_expr.specs.declared.pseudo.Pseudo.TheVariants as row
use Rattle.cps_expr.specs.Bounds.{IsBounded, characters_in}
use Rattle.cps_expr.specs.Expression.{Expression, expression_of}
use Rattle.cps_expr.specs.Item.{bits_of, item_of}
use Rattle.cps_expr.specs.OperandList.{paired, all_some, one_or_more}
use Rattle.cps_expr.specs.Operation.{operation_named}
use Rattle.cps_expr.specs.Reads.{Reads}
use Rattle.cps_expr.specs.Row.{is_comma, displayed, counted_at, counted_of, may_enclose, closes, delimited_at, delimited_of, dis_text_of, field_of, words_behind, words_up_to}
use Rattle.cps_expr.specs.Statement.{row_with, row_of}
use Rattle.cps_expr.proofs.ItemBounds.{AreBelow, all-below, item-fits}

mapped : {T U : Type 0} (make : T → U) (found : Option T) (made : U) (P : U → Type 0) → ((x : T) → found ≡ Some x → P (make x)) → option_map make found ≡ Some made → P made
mapped make None made P holds is = absurd (cc)
mapped make (Some x) made P holds is = let same : make x ≡ made = cc in subst P same (holds x refl)

chained : {T U : Type 0} (next : T → Option U) (found : Option T) (made : U) (P : U → Type 0) → ((x : T) → found ≡ Some x → next x ≡ Some made → P made) → option_and_then next found ≡ Some made → P made
chained next None made P holds is = absurd (cc)
chained next (Some x) made P holds is = holds x refl is

-- ---- one or more

some-more : {T : Type 0} (read : List ℕ → Option T) (texts : List (List ℕ)) (found : List T) → one_or_more read texts ≡ Some found → 0 < length found
some-more read [] found is = absurd (cc)
some-more read (text ∷ texts) found is =
    chained (λ x. option_map (λ xs. x ∷ xs) (all_some read texts)) (read text) found (λ list. 0 < length list)
    (λ x _ next. mapped (λ xs. x ∷ xs) (all_some read texts) found (λ list. 0 < length list) (λ xs _. omega arith) next) is

-- ---- words

abbrev AreWords : Machine → List ℕ → Type 0
AreWords machine words = AreBelow (2 ^ bits_of machine) words

words-by : (machine : Machine) (read : List ℕ → Option (List ℕ)) (comma blank : Bool) (text words : List ℕ) → ((rest found : List ℕ) → read rest ≡ Some found → AreWords machine found)
    → cond comma (read text) (cond blank (Some []) None) ≡ Some words → AreWords machine words
words-by machine read true blank text words more is = more text words is
words-by machine read false true text words more is = let none : [] ≡ words = cc in subst (λ (w : List ℕ). AreWords machine w) none tt
words-by machine read false false text words more is = absurd (cc)

words-behind : (machine : Machine) (read : List ℕ → Option (List ℕ)) (text words : List ℕ) → ((rest found : List ℕ) → read rest ≡ Some found → AreWords machine found) → words_behind read text ≡ Some words → AreWords machine words
words-behind machine read [] words more is = let none : [] ≡ words = cc in subst (λ (w : List ℕ). AreWords machine w) none tt
words-behind machine read (c ∷ text) words more is = words-by machine read (is_comma c) (is_blank c) text words more is

abbrev Bounded : Machine → List ℕ → Type 0
Bounded machine words = (0 < length words) × AreWords machine words

words-bounded : (radix : Radix) (machine : Machine) (more : ℕ) (text words : List ℕ) → words_up_to radix machine more text ≡ Some words → Bounded machine words
unfolding words_up_to
words-bounded radix machine zero text words is = absurd (cc)
words-bounded radix machine (suc more) text words is =
    chained (λ item. option_map (λ others. item.0 ∷ others) (words_behind (words_up_to radix machine more) (drop item.1 text))) (item_of radix machine text) words (Bounded machine)
    (λ item found next. mapped (λ others. item.0 ∷ others) (words_behind (words_up_to radix machine more) (drop item.1 text)) words (Bounded machine)
    (λ others behind. (
      omega arith,
      (
        item-fits radix machine text item found,
        words-behind machine (words_up_to radix machine more) (drop item.1 text) others (λ rest found more_is. (words-bounded radix machine more rest found more_is).1) behind,
      ),
    )) next) is

-- ---- characters

displayed-all : (test : Bool) (text found : List ℕ) → list_all has_display text ≡ test → cond test (Some text) None ≡ Some found → list_all has_display found ≡ true
displayed-all true text found all is = let same : text ≡ found = cc in subst (λ (t : List ℕ). list_all has_display t ≡ true) same all
displayed-all false text found all is = absurd (cc)

abbrev AreShown : DisText → Type 0
AreShown characters = IsTrue (list_all has_display (characters_in characters))

counted-shown : (count : Option Expression) (text : List ℕ) (characters : DisText) → option_map (λ parts. Counted parts.0 parts.1) (paired count (displayed text)) ≡ Some characters → AreShown characters
counted-shown None text characters is = absurd (cc)
counted-shown (Some count) text characters is =
    mapped (λ parts. Counted parts.0 parts.1) (option_map (λ y. (count, y)) (displayed text)) characters AreShown
    (λ parts found. mapped (λ y. (count, y)) (displayed text) parts (λ p. list_all has_display p.1 ≡ true) (λ y shown. displayed-all (list_all has_display text) text y refl shown) found) is

counted_at-shown : (radix : Radix) (text : List ℕ) (at : Option ℕ) (characters : DisText) → counted_at radix text at ≡ Some characters → AreShown characters
counted_at-shown radix text None characters is = absurd (cc)
counted_at-shown radix text (Some at) characters is = counted-shown (expression_of radix (take at text)) (drop (at + 1) text) characters is

delimited_at-shown : (text : List ℕ) (at : Option ℕ) (characters : DisText) → delimited_at text at ≡ Some characters → AreShown characters
delimited_at-shown text None characters is = absurd (cc)
delimited_at-shown text (Some at) characters is =
    mapped Delimited (displayed (take at text)) characters AreShown (λ y shown. displayed-all (list_all has_display (take at text)) (take at text) y refl shown) is

delimited-by : (test : Bool) (text : List ℕ) (at : Option ℕ) (characters : DisText) → cond test (delimited_at text at) None ≡ Some characters → AreShown characters
delimited-by true text at characters is = delimited_at-shown text at characters is
delimited-by false text at characters is = absurd (cc)

delimited-shown : (text : List ℕ) (characters : DisText) → delimited_of text ≡ Some characters → AreShown characters
delimited-shown [] characters is = absurd (cc)
delimited-shown (delimiter ∷ text) characters is = delimited-by (may_enclose delimiter) text (position (closes delimiter) text) characters is

shown-by : (radix : Radix) (test : Bool) (character : ℕ) (text : List ℕ) (characters : DisText) → cond test (delimited_of text) (counted_of radix (character ∷ text)) ≡ Some characters → AreShown characters
shown-by radix true character text characters is = delimited-shown text characters is
shown-by radix false character text characters is = counted_at-shown radix (character ∷ text) (position is_comma (character ∷ text)) characters is

shown : (radix : Radix) (text : List ℕ) (characters : DisText) → dis_text_of radix text ≡ Some characters → AreShown characters
unfolding dis_text_of
shown radix [] characters is = absurd (cc)
shown radix (character ∷ text) characters is = shown-by radix (is_comma character) character text characters is

-- ---- rows

constant : (machine : Machine) (given made : Pseudo) → IsBounded machine given → Some given ≡ Some made → IsBounded machine made
constant machine given made holds is = let same : given ≡ made = cc in subst (λ (r : Pseudo). IsBounded machine r) same holds

pub row-bounded : (operation : Operation) (tail : List ℕ) (machine : Machine) (radix : Radix) (made : Pseudo) → row_with operation tail machine radix ≡ Some made → IsBounded machine made
row-bounded Ident tail machine radix made is = mapped row.Ident _ made (IsBounded machine) (λ x _. tt) is
row-bounded Abs tail machine radix made is = constant machine row.Abs made tt is
row-bounded Periph tail machine radix made is = constant machine row.Periph made tt is
row-bounded Base tail machine radix made is = mapped row.Base _ made (IsBounded machine) (λ x _. tt) is
row-bounded Equate tail machine radix made is = mapped row.Equate _ made (IsBounded machine) (λ x _. tt) is
row-bounded Set tail machine radix made is = mapped row.Set _ made (IsBounded machine) (λ x _. tt) is
row-bounded Org tail machine radix made is = mapped row.Org _ made (IsBounded machine) (λ x _. tt) is
row-bounded Use tail machine radix made is = mapped row.Use _ made (IsBounded machine) (λ x _. tt) is
row-bounded Bss tail machine radix made is = mapped row.Bss _ made (IsBounded machine) (λ x _. tt) is
row-bounded Bssz tail machine radix made is = mapped row.Bssz _ made (IsBounded machine) (λ x _. tt) is
row-bounded Con tail machine radix made is = mapped row.Con _ made (IsBounded machine) (some-more (expression_of radix) (operands_of tail)) is
row-bounded Data tail machine radix made is = mapped row.Data _ made (IsBounded machine) (λ words found. let b = words-bounded radix machine (length tail) tail words found in (b.0, all-below (2 ^ bits_of machine) words b.1)) is
row-bounded Vfd tail machine radix made is = mapped row.Vfd _ made (IsBounded machine) (some-more (field_of radix) (operands_of tail)) is
row-bounded Dis tail machine radix made is = mapped row.Dis _ made (IsBounded machine) (shown radix tail) is
row-bounded (Compare relation) tail machine radix made is = mapped row.Compare _ made (IsBounded machine) (λ x _. tt) is
row-bounded If tail machine radix made is = mapped row.If _ made (IsBounded machine) (λ x _. tt) is
row-bounded Else tail machine radix made is = constant machine row.Else made tt is
row-bounded Endif tail machine radix made is = constant machine row.Endif made tt is
row-bounded Dup tail machine radix made is = mapped row.Dup _ made (IsBounded machine) (λ x _. tt) is
row-bounded Endd tail machine radix made is = constant machine row.Endd made tt is
row-bounded Macro tail machine radix made is = mapped row.Macro _ made (IsBounded machine) (λ x _. tt) is
row-bounded Local tail machine radix made is = mapped row.Local _ made (IsBounded machine) (λ x _. tt) is
row-bounded Endm tail machine radix made is = constant machine row.Endm made tt is
row-bounded End tail machine radix made is = constant machine row.End made tt is
row-bounded Listing tail machine radix made is = constant machine row.Listing made tt is

pub reads-bounded : (operation : Operation) (tail : List ℕ) (machine : Machine) (radix : Radix) (outcome : Result Pseudo ExprFault) → Reads outcome (row_with operation tail machine radix) → IfOk outcome (IsBounded machine)
reads-bounded operation tail machine radix (Ok made) is = row-bounded operation tail machine radix made is
reads-bounded operation tail machine radix (Err fault) is = tt

pub bounded : (operation tail : List ℕ) (machine : Machine) (radix : Radix) (made : Pseudo) → row_of operation tail machine radix ≡ Some made → IsBounded machine made
bounded operation tail machine radix made is =
    chained (λ named. row_with named tail machine radix) (operation_named operation) made (IsBounded machine) (λ named _ next. row-bounded named tail machine radix made next) is
