-- The parts of a row, one after another.
use Rattle.std.proofs.Common.{◌≡◌, ℕ, suc, ◌+◌, ◌-◌, ◌<◌, ◌≤◌, Bool, true, false, cond, not, List, [], ◌∷◌, ◌++◌, length, take, drop, refl, sym, ap, ◌∙◌, arith, append-nil, append_assoc, subst, get_or}
use Rattle.std.specs.List.{position_or_len}
use Rattle.std.proofs.lemmas.List.{length-take-le}
use Rattle.cps_claims.specs.Parts.{Part, is_blank, column_after, ended, parts_from}

-- what stands before a place ends there
abbrev Runs : ℕ → List ℕ → List ℕ → ℕ → Type 0
Runs column text bytes len = parts_from column text bytes ≡ ended (column + len) (text ++ take len bytes) ++ parts_from (column + len) [] (drop len bytes)

add_nothing : (n : ℕ) → n + 0 ≡ n
add_nothing n = omega arith

runs_here : (column : ℕ) (text bytes : List ℕ) → parts_from column text bytes ≡ ended column text ++ parts_from column [] bytes → Runs column text bytes 0
runs_here column text bytes h = h ∙ (λ i. ended (sym (add_nothing column) i) (sym (append-nil text) i) ++ parts_from (sym (add_nothing column) i) [] bytes)

runs_on : (column : ℕ) (text : List ℕ) (byte : ℕ) (row : List ℕ) (len : ℕ) → parts_from column text (byte ∷ row) ≡ parts_from (column + 1) (text ++ byte ∷ []) row
    → Runs (column + 1) (text ++ byte ∷ []) row len → Runs column text (byte ∷ row) (suc len)
runs_on column text byte row len h runs =
    let place : column + 1 + len ≡ column + suc len = omega arith in
    h ∙ runs ∙ (λ i. ended (place i) (append_assoc text (byte ∷ []) (take len row) i) ++ parts_from (place i) [] (drop len row))

runs_next : (column : ℕ) (text : List ℕ) (byte : ℕ) (row : List ℕ) (test : Bool) → is_blank byte ≡ test
    → Runs (column + 1) (text ++ byte ∷ []) row (position_or_len is_blank row)
    → Runs column text (byte ∷ row) (cond (not test) (1 + position_or_len is_blank row) 0)
runs_next column text byte row true e runs =
    runs_here column text (byte ∷ row)
    (ap (λ b. cond b (ended column text ++ parts_from (column_after column byte) [] row) (parts_from (column + 1) (text ++ byte ∷ []) row)) e
    ∙ sym (ap (λ b. ended column text ++ cond b (ended column [] ++ parts_from (column_after column byte) [] row) (parts_from (column + 1) ([] ++ byte ∷ []) row)) e))
runs_next column text byte row false e runs =
    let one : suc (position_or_len is_blank row) ≡ 1 + position_or_len is_blank row = omega arith in
    rw (← one) (runs_on column text byte row (position_or_len is_blank row)
    (ap (λ b. cond b (ended column text ++ parts_from (column_after column byte) [] row) (parts_from (column + 1) (text ++ byte ∷ []) row)) e) runs)

runs_all : (column : ℕ) (text bytes : List ℕ) → Runs column text bytes (position_or_len is_blank bytes)
runs_all column text [] = runs_here column text [] (sym (append-nil (ended column text)))
runs_all column text (byte ∷ row) =
    runs_next column text byte row (is_blank byte) refl (runs_all (column + 1) (text ++ byte ∷ []) row)

ended-some : (column len : ℕ) (text : List ℕ) → length text ≡ len → 0 < len → ended (column + len) text ≡ record { column = column; text = text } ∷ []
ended-some column len [] long some = absurd (omega arith)
ended-some column len (byte ∷ text) long some =
    let place : column + len - length (byte ∷ text) ≡ column = omega arith in
    ap (λ n. record { column = n; text = byte ∷ text } ∷ []) place

-- a part, and what is left behind it
pub next-part : (column : ℕ) (bytes : List ℕ) (len : ℕ) → len ≡ position_or_len is_blank bytes → len ≤ length bytes → 0 < len
    → parts_from column [] bytes ≡ record { column = column; text = take len bytes } ∷ parts_from (column + len) [] (drop len bytes)
next-part column bytes len is within some =
    let taken : length (take len bytes) ≡ len = length-take-le len bytes within in
    subst (Runs column [] bytes) (sym is) (runs_all column [] bytes)
    ∙ ap (λ (parts : List Part). parts ++ parts_from (column + len) [] (drop len bytes)) (ended-some column len (take len bytes) taken some)

-- what begins with no blank has a part there
pub some-part : (bytes : List ℕ) → 0 < length bytes → is_blank (get_or bytes 0 0) ≡ false → 0 < position_or_len is_blank bytes
some-part [] some none = absurd (omega arith)
some-part (byte ∷ bytes) some none = subst (λ b. 0 < cond (not b) (1 + position_or_len is_blank bytes) 0) (sym none) (omega arith)
