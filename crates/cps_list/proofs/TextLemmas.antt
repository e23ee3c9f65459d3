-- Blanks at the end of a line.
use Rattle.std.proofs.Common.{◌≡◌, ℕ, ◌+◌, ◌<◌, Bool, true, false, ◌&&◌, cond, refl, sym, ap, ◌∙◌, zero, suc, replicate, append_assoc, List, [], ◌∷◌, ◌++◌, length, get_or, take, drop}
use Rattle.std.proofs.lemmas.List.{append-nil, take_more}
use Rattle.std.proofs.Math.Seq.{drop-append_seam, take-append-add}
use Rattle.std.specs.List.{list_all}
use Rattle.cps_text.specs.Text.{is_blank}
use Rattle.cps_list.specs.Listing.{trimmed}

-- ---- blanks at the end

all-more : (front : List ℕ) (c : ℕ) → list_all is_blank (front ++ c ∷ []) ≡ (list_all is_blank front && is_blank c)
all-more [] c = elim (is_blank c) as (λ b. (b && true) ≡ (true && b)) [ true ↦ refl | false ↦ refl ]
all-more (x ∷ front) c = elim (is_blank x) as (λ b. (b && list_all is_blank (front ++ c ∷ [])) ≡ ((b && list_all is_blank front) && is_blank c)) [ true ↦ all-more front c | false ↦ refl ]

and_true : (b : Bool) → (b && true) ≡ b
and_true true = refl
and_true false = refl

and_false : (b : Bool) → (b && false) ≡ false
and_false true = refl
and_false false = refl

pub trimmed-blank : (front : List ℕ) (c : ℕ) → is_blank c ≡ true → trimmed (front ++ c ∷ []) ≡ trimmed front
trimmed-blank [] c is = ap (λ b. cond {A = List ℕ} (b && true) [] (c ∷ [])) is
trimmed-blank (x ∷ front) c is =
    let all = all-more (x ∷ front) c ∙ ap (λ b. list_all is_blank (x ∷ front) && b) is ∙ and_true (list_all is_blank (x ∷ front)) in
    ap (λ b. cond {A = List ℕ} b [] (x ∷ trimmed (front ++ c ∷ []))) all
    ∙ ap (λ t. cond {A = List ℕ} (list_all is_blank (x ∷ front)) [] (x ∷ t)) (trimmed-blank front c is)

pub trimmed-filled : (front : List ℕ) (c : ℕ) → is_blank c ≡ false → trimmed (front ++ c ∷ []) ≡ front ++ c ∷ []
trimmed-filled [] c is = ap (λ b. cond {A = List ℕ} (b && true) [] (c ∷ [])) is
trimmed-filled (x ∷ front) c is =
    let all = all-more (x ∷ front) c ∙ ap (λ b. list_all is_blank (x ∷ front) && b) is ∙ and_false (list_all is_blank (x ∷ front)) in
    ap (λ b. cond {A = List ℕ} b [] (x ∷ trimmed (front ++ c ∷ []))) all ∙ ap (λ t. x ∷ t) (trimmed-filled front c is)

-- blanks behind a text
pub trimmed-blanks : (count : ℕ) (text : List ℕ) → trimmed (text ++ replicate count 32) ≡ trimmed text
trimmed-blanks zero text = ap trimmed (append-nil text)
trimmed-blanks (suc count) text =
    ap trimmed (sym (append_assoc text (32 ∷ []) (replicate count 32))) ∙ trimmed-blanks count (text ++ 32 ∷ []) ∙ trimmed-blank text 32 refl

-- a blank at the end of a front
pub trimmed-cut : (text : List ℕ) (last d : ℕ) → last < length text → is_blank (get_or text last d) ≡ true → trimmed (take (last + 1) text) ≡ trimmed (take last text)
trimmed-cut text last d lt blank = ap trimmed (take_more text last d lt) ∙ trimmed-blank (take last text) (get_or text last d) blank

-- a front that ends in no blank
pub trimmed-kept : (text : List ℕ) (last d : ℕ) → last < length text → is_blank (get_or text last d) ≡ false → trimmed (take (last + 1) text) ≡ take (last + 1) text
trimmed-kept text last d lt filled =
    let more = take_more text last d lt in
    ap trimmed more ∙ trimmed-filled (take last text) (get_or text last d) filled ∙ sym more

-- blanks cut at the end of what stands behind a front
pub cut-behind : (old new front row back : List ℕ) (before kept : ℕ) → old ≡ front ++ row → before ≡ length front → back ≡ drop before old
    → take kept back ≡ trimmed back → new ≡ take (before + kept) old → new ≡ front ++ trimmed row
cut-behind old new front row back before kept is at behind ends cut =
    let whole : back ≡ row = behind ∙ (λ i. drop (at i) (is i)) ∙ drop-append_seam front row in
    cut ∙ (λ i. take (at i + kept) (is i)) ∙ take-append-add front row kept ∙ ap (λ t. front ++ t) (ap (take kept) (sym whole) ∙ ends ∙ ap trimmed whole)
