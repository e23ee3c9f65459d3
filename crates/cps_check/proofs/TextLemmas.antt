-- What is told, as text: one report, and one behind the other.
use Rattle.std.proofs.Common.{◌≡◌, ℕ, ◌+◌, ◌<◌, List, [], ◌∷◌, ◌++◌, length, get_or, map, take, codes, refl, sym, ap, subst, ◌∙◌, append_assoc, append-nil}
use Rattle.std.proofs.lemmas.List.{map_more}
use Rattle.cps_cause.specs.Sentence.{IsSentence}
use Rattle.cps_check.specs.Reports.{Report}
use Rattle.cps_check.specs.Texts.{head_of, Tells}
use Rattle.cps_check.specs.Code.Adding.{Adds}

-- ---- what is told in one text and in another behind it

pub Tells-append : (name : List ℕ) (reports others : List Report) (text more : List ℕ) → Tells name reports text → Tells name others more
    → Tells name (reports ++ others) (text ++ more)
Tells-append name [] others text more none tells = subst (Tells name others) (ap (λ (t : List ℕ). t ++ more) (sym none)) tells
Tells-append name (report ∷ reports) others text more (here, back, is, told, rest) tells =
    (here, back ++ more, ap (λ (t : List ℕ). t ++ more) is ∙ append_assoc here back more, told, Tells-append name reports others back more rest tells)

pub Adds-none : (name text : List ℕ) → Adds name [] text text
Adds-none name text = record { piece = []; added = sym (append-nil text); tells = refl }

pub Adds-append : (name : List ℕ) (reports others : List Report) (a b c : List ℕ) → Adds name reports a b → Adds name others b c → Adds name (reports ++ others) a c
Adds-append name reports others a b c here back = record {
  piece = here.piece ++ back.piece;
  added = back.added ∙ ap (λ (t : List ℕ). t ++ back.piece) here.added ∙ append_assoc a here.piece back.piece;
  tells = Tells-append name reports others here.piece back.piece here.tells back.tells;
}

-- one more of some
pub Adds-next : {X : Type 0} (name : List ℕ) (report : X → Report) (xs : List X) (at : ℕ) (d : X) (a b c : List ℕ) → at < length xs
    → Adds name (map report (take at xs)) a b → Adds name (report (get_or xs at d) ∷ []) b c → Adds name (map report (take (at + 1) xs)) a c
Adds-next name report xs at d a b c within before here =
    subst (λ (reports : List Report). Adds name reports a c) (sym (map_more report xs at d within))
    (Adds-append name (map report (take at xs)) (report (get_or xs at d) ∷ []) a b c before here)

-- ---- one report

pub Adds-one : (name : List ℕ) (report : Report) (words old new : List ℕ) → IsSentence words
    → new ≡ old ++ (head_of name report.number report.column report.kind ++ words ++ codes "\n" ++ report.rows) → Adds name (report ∷ []) old new
Adds-one name report words old new sentence is =
    let piece = head_of name report.number report.column report.kind ++ words ++ codes "\n" ++ report.rows in
    record { piece = piece; added = is; tells = (piece, [], sym (append-nil piece), record { words = words; sentence = sentence; whole = refl }, refl) }

-- pieces of a text, one behind the other
pub three-pieces : (t a b c r1 r2 r3 : List ℕ) → r1 ≡ t ++ a → r2 ≡ r1 ++ b → r3 ≡ r2 ++ c → r3 ≡ t ++ (a ++ b ++ c)
three-pieces t a b c r1 r2 r3 e1 e2 e3 = e3 ∙ ap (λ (l : List ℕ). l ++ c) (e2 ∙ ap (λ (l : List ℕ). l ++ b) e1) ∙ simp append_assoc

pub four-pieces : (t a b c d r1 r2 r3 r4 : List ℕ) → r1 ≡ t ++ a → r2 ≡ r1 ++ b → r3 ≡ r2 ++ c → r4 ≡ r3 ++ d → r4 ≡ t ++ (a ++ b ++ c ++ d)
four-pieces t a b c d r1 r2 r3 r4 e1 e2 e3 e4 =
    e4 ∙ ap (λ (l : List ℕ). l ++ d) (three-pieces t a b c r1 r2 r3 e1 e2 e3) ∙ append_assoc t (a ++ b ++ c) d
