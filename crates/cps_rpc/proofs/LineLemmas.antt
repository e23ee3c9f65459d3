-- The lines that a buffer keeps.
use Rattle.std.proofs.Common.{◌≡◌, ℕ, ◌-◌, ◌<◌, Bool, true, false, cond, List, [], ◌∷◌, ◌++◌, length, get_or, set, take, drop, map, refl, sym, ap, subst, ◌∙◌, arith, append-nil}
use Rattle.std.specs.Prelude.{Result, Ok, Err}
use Rattle.std.specs.Result.{is_ok, OnOk}
use Rattle.std.specs.List.{AllZip, splice}
use Rattle.std.specs.Iterator.{Drains}
use Rattle.std.specs.Vec.Iter.{into_iter_items, into_iter_len, into_iter_steps}
use Rattle.std.specs.declared.vec.Vec.{Vec}
use Rattle.std.specs.declared.vec.IntoIter.{IntoIter}
use Rattle.std.proofs.lemmas.Iterator.{items_from_drains}
use Rattle.std.proofs.lemmas.Iterator.Adapters.{YieldsList-from_vec}
use Rattle.std.proofs.lemmas.List.{map-set, get_or-map, length-map, map_push, map-id, map-append, take-map, drop-map}
use Rattle.cps_input.specs.Lines.{newline, has_no_newline}
use Rattle.cps_rpc.specs.Lines.{AreLines, text_lines, text_of}
use Rattle.cps_rpc.proofs.TextLemmas.{text_lines-text_of, text_of-longer, AreLines-longer, text_of-newline}

-- the bytes of each line
abbrev pub texts : {Z : Type 0} → List (Vec ℕ Z) → List (List ℕ)
texts {Z} lines = map (λ (line : Vec ℕ Z). line.items) lines

pub length-texts : {Z : Type 0} (lines : List (Vec ℕ Z)) → length (texts lines) ≡ length lines
length-texts {Z} lines = length-map lines (λ (line : Vec ℕ Z). line.items)

-- lines have the bytes of those of which they are clones
pub texts-cloned : {Z : Type 0} (R : Vec ℕ Z → Vec ℕ Z → Type 0) → ((x y : Vec ℕ Z) → R x y → y.items ≡ x.items) → (old new : List (Vec ℕ Z)) → AllZip R old new
    → texts new ≡ texts old
texts-cloned R same [] [] each = refl
texts-cloned R same [] (y ∷ new) each = absurd each
texts-cloned R same (x ∷ old) [] each = absurd each
texts-cloned R same (x ∷ old) (y ∷ new) each = sym (λ i. sym (same x y each.0) i ∷ sym (texts-cloned R same old new each.1) i)

-- a line that was read
pub text-at : {Z : Type 0} (lines : List (Vec ℕ Z)) (at : ℕ) (line : Vec ℕ Z) → at < length lines → line ≡ get_or lines at line → line.items ≡ get_or (texts lines) at []
text-at {Z} lines at line within is =
    ap (λ (line : Vec ℕ Z). line.items) is ∙ sym (get_or-map (λ (line : Vec ℕ Z). line.items) lines at line [] within)

-- the last line, which was read
pub last-text : {Z : Type 0} (lines : List (Vec ℕ Z)) (at : ℕ) (line : Vec ℕ Z) → 0 < length lines → at ≡ length lines - 1 → line ≡ get_or lines at line
    → line.items ≡ get_or (texts lines) (length (texts lines) - 1) []
last-text lines at line some last is =
    text-at lines at line (omega arith) is ∙ ap (λ n. get_or (texts lines) n []) (last ∙ ap (λ n. n - 1) (sym (length-texts lines)))

-- the lines of the text that is kept
pub text_lines-kept : {Z : Type 0} (lines : List (Vec ℕ Z)) (text : List ℕ) → text_of (texts lines) ≡ text → AreLines (texts lines) → text_lines text ≡ texts lines
text_lines-kept lines text is are = sym (ap text_lines is) ∙ text_lines-text_of (texts lines) are

pub on_ok-if : {T E P : Type 0} (r : Result T E) → (is_ok r ≡ true → P) → OnOk r P
on_ok-if (Ok x) made = made refl
on_ok-if (Err e) made = tt

-- ---- bytes were appended to the last line

-- the last of some lines, and it with more bytes
pub record IsLonger {Z : Type 0} (lines : List (Vec ℕ Z)) (at : ℕ) (last new : Vec ℕ Z) : Type 0 where
  pub are : AreLines (texts lines)
  pub place : at ≡ length lines - 1
  pub is : last ≡ get_or lines at last

some-lines : {Z : Type 0} (lines : List (Vec ℕ Z)) → 0 < length (texts lines) → 0 < length lines
some-lines lines some = omega (arith, length-texts lines)

longer : {Z : Type 0} (lines : List (Vec ℕ Z)) (at : ℕ) (last new : Vec ℕ Z) (bytes : List ℕ) → IsLonger lines at last new → new.items ≡ last.items ++ bytes
    → texts (set lines at new) ≡ set (texts lines) (length (texts lines) - 1) (get_or (texts lines) (length (texts lines) - 1) [] ++ bytes)
longer {Z} lines at last new bytes is items =
    let some : 0 < length lines = some-lines lines is.are.some in
    let same : length (texts lines) - 1 ≡ at = ap (λ n. n - 1) (length-texts lines) ∙ sym is.place in
    let here : get_or (texts lines) at [] ≡ last.items = sym (text-at lines at last (omega (arith, is.place)) is.is) in
    map-set (λ (line : Vec ℕ Z). line.items) lines at new
    ∙ ap (λ l. set (texts lines) at l) (items ∙ ap (λ l. l ++ bytes) (sym here))
    ∙ ap (λ n. set (texts lines) n (get_or (texts lines) n [] ++ bytes)) (sym same)

pub text-longer : {Z : Type 0} (lines : List (Vec ℕ Z)) (at : ℕ) (last new : Vec ℕ Z) (bytes : List ℕ) → IsLonger lines at last new
    → new.items ≡ last.items ++ bytes → text_of (texts (set lines at new)) ≡ text_of (texts lines) ++ bytes
text-longer lines at last new bytes is items = ap text_of (longer lines at last new bytes is items) ∙ text_of-longer (texts lines) bytes is.are.some

lines-longer : {Z : Type 0} (lines : List (Vec ℕ Z)) (at : ℕ) (last new : Vec ℕ Z) (bytes : List ℕ) → IsLonger lines at last new → has_no_newline bytes ≡ true
    → new.items ≡ last.items ++ bytes → AreLines (texts (set lines at new))
lines-longer lines at last new bytes is none items =
    subst AreLines (sym (longer lines at last new bytes is items)) (AreLines-longer (texts lines) bytes is.are none)

-- the same, where memory may have been refused
pub lines-longer-if : {Z : Type 0} (done : Bool) (lines : List (Vec ℕ Z)) (at : ℕ) (last new : Vec ℕ Z) (bytes : List ℕ) → IsLonger lines at last new
    → has_no_newline bytes ≡ true → new.items ≡ cond done (last.items ++ bytes) last.items → AreLines (texts (set lines at new))
lines-longer-if true lines at last new bytes is none items = lines-longer lines at last new bytes is none items
lines-longer-if false lines at last new bytes is none items = lines-longer lines at last new [] is refl (items ∙ sym (append-nil last.items))

-- ---- a newline was appended

pub texts-push : {Z : Type 0} (lines more : List (Vec ℕ Z)) (line : Vec ℕ Z) → more ≡ lines ++ line ∷ [] → texts more ≡ texts lines ++ line.items ∷ []
texts-push {Z} lines more line pushed = ap texts pushed ∙ map_push (λ (line : Vec ℕ Z). line.items) lines line

pub text-ended : {Z : Type 0} (lines more : List (Vec ℕ Z)) (line : Vec ℕ Z) → AreLines (texts lines) → line.items ≡ [] → more ≡ lines ++ line ∷ []
    → text_of (texts more) ≡ text_of (texts lines) ++ newline ∷ []
text-ended lines more line are empty pushed =
    ap text_of (texts-push lines more line pushed ∙ ap (λ l. texts lines ++ l ∷ []) empty) ∙ text_of-newline (texts lines) are.some

-- ---- lines were put in the place of others

-- what an iterator over a list gave was put there
pub spliced : {X Z : Type 0} (old now news : List X) (from to : ℕ) (s : IntoIter X Z) (xs : List X) → into_iter_items s ≡ news → into_iter_len s ≡ length news
    → Drains (into_iter_steps {X = X} {Z = Z}) s xs → now ≡ splice old from to xs → now ≡ splice old from to news
spliced old now news from to s xs items len drained made =
    let gave = YieldsList-from_vec news items len in
    let same = items_from_drains xs (drained.1.0, drained.1.1, λ _. (drained.0, drained.1.2)) gave in
    made ∙ ap (λ l. splice old from to l) (sym (map-id xs) ∙ same)

pub texts-splice : {Z : Type 0} (old news : List (Vec ℕ Z)) (from to : ℕ) → texts (splice old from to news) ≡ splice (texts old) from to (texts news)
texts-splice {Z} old news from to =
    let item : Vec ℕ Z → List ℕ = λ line. line.items in
    map-append item (take from old) (news ++ drop to old)
    ∙ ap (λ l. l ++ map item (news ++ drop to old)) (sym (take-map item from old))
    ∙ ap (λ l. take from (map item old) ++ l) (map-append item news (drop to old) ∙ ap (λ l. map item news ++ l) (sym (drop-map item to old)))
