-- Edits that may be made one after another, and one more.
use Rattle.std.proofs.Common.{◌≡◌, ℕ, ◌+◌, ◌-◌, ◌≤◌, ◌<◌, List, [], ◌∷◌, ◌++◌, All, length, get_or, sym, subst, arith}
use Rattle.std.specs.Prelude.{AllPairs}
use Rattle.std.proofs.lemmas.List.Elements.{All-nil, All-get_or, All-from_get_or}
use Rattle.std.proofs.lemmas.List.Quantifiers.{all_pairs_push}
use Rattle.cps_mention.specs.declared.line_edit.LineEdit.{LineEdit}
use Rattle.cps_mention.specs.LineEdits.{IsLineEdit}
use Rattle.cps_mention.proofs.CheckingLemmas.{all-grown}

abbrev pub Upwards : LineEdit → LineEdit → Type 0
Upwards edit next = next.line < edit.line

abbrev pub IsBehind : ℕ → LineEdit → Type 0
IsBehind least edit = least ≤ edit.line

-- edits that may be made one after another, all in lines from one on
pub record AreBehind (source : List (List ℕ)) (least : ℕ) (edits : List LineEdit) : Type 0 where
  pub each : All (IsLineEdit source) edits
  pub upwards : AllPairs Upwards edits
  pub behind : All (IsBehind least) edits

pub none-behind : (source : List (List ℕ)) (least : ℕ) (edits : List LineEdit) → edits ≡ [] → AreBehind source least edits
none-behind source least edits is =
    let pairs : AllPairs Upwards [] = λ i j d above within. absurd (omega (arith, within)) in
    let none : AreBehind source least [] = record { each = All-nil (IsLineEdit source); upwards = pairs; behind = All-nil (IsBehind least) } in
    subst (AreBehind source least) (sym is) none

pub one-behind : (source : List (List ℕ)) (least : ℕ) (edits grown : List LineEdit) (edit : LineEdit) → AreBehind source least edits → edit.line < least → IsLineEdit source edit
    → grown ≡ edits ++ edit ∷ [] → AreBehind source edit.line grown
one-behind source least edits grown edit old above fits is =
    let lower : (k : ℕ) (d : LineEdit) → k < length edits → edit.line < (get_or edits k d).line =
    λ k d within. let from = All-get_or (IsBehind least) edits k d within old.behind in omega (arith, from, above) in
    let lowered : All (IsBehind edit.line) edits =
    All-from_get_or (IsBehind edit.line) edits edit (λ k within. let low = lower k edit within in omega (arith, low)) in
    record {
      each = all-grown (IsLineEdit source) edits grown edit old.each fits is;
      upwards = subst (AllPairs Upwards) (sym is) (all_pairs_push Upwards edits edit old.upwards lower);
      behind = all-grown (IsBehind edit.line) edits grown edit lowered (omega arith) is;
    }

-- ---- what makes another text of a line

one-more : (n : ℕ) → n + 1 - 1 ≡ n
one-more n = omega arith
