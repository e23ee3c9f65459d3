-- Values in holes.
use Rattle.std.proofs.Common.{◌≡◌, ℕ, ◌+◌, ◌-◌, ◌*◌, ◌%◌, ◌^◌, ◌<◌, ◌≤◌, Bool, true, false, cond, ltb, List, [], ◌∷◌, length, get_or, ℤ, pos, negsuc, refl, sym, ap, ◌∙◌, arith}
use Rattle.std.proofs.lemmas.Bool.Decides.{nat_tests}
use Rattle.std.proofs.lemmas.Nat.{pow-add, pow_pos}
use Rattle.std.proofs.Math.Nat.{mul-add-mod_self_right, mod-eq_of_lt, pow-le-pow_right}
use Rattle.cps_code.specs.declared.hole.Hole.{Hole}
use Rattle.std.specs.Prelude.{not, ◌||◌}
use Rattle.cps_code.specs.declared.hole.HoleKind.{HoleKind}
use Rattle.cps_code.specs.declared.hole.HoleKind.TheVariants.{Value, Count, Target}
use Rattle.cps_code.specs.Form.{room_of, put_values, is_cut, is_out, complemented, fits_width, put_value, put_in, is_cut_in, is_out_in}

chosen : (b : Bool) (x y : ℕ) → (b ≡ true → y ≡ x) → y ≡ cond b x y
chosen true x y same = same refl
chosen false x y same = refl

mod-least : (q c r : ℕ) → r < c → (q * c + r) % c ≡ r
mod-least q c r small = mul-add-mod_self_right q c r ∙ mod-eq_of_lt small

low-bits : (width n : ℕ) → 0 < width → width ≤ 60 → n + 1 < 2 ^ (width - 1) → (2 ^ 60 - 1 - (n + 1)) % 2 ^ width ≡ 2 ^ width - 1 - (n + 1)
low-bits width n some short small =
    let high = 2 ^ (60 - width) - 1 in
    let split : 60 - width + width ≡ 60 = omega arith in
    let whole : 2 ^ (60 - width) * 2 ^ width ≡ 2 ^ 60 = sym (pow-add 2 (60 - width) width) ∙ ap (λ n. 2 ^ n) split in
    let above : high + 1 ≡ 2 ^ (60 - width) = omega (arith, pow_pos (60 - width)) in
    let product : (high + 1) * 2 ^ width ≡ 2 ^ 60 = rw above whole in
    let half : 2 ^ (width - 1) ≤ 2 ^ width = pow-le-pow_right {n = 2} (omega arith) {i = width - 1} {j = width} (omega arith) in
    let parts : 2 ^ 60 - 1 - (n + 1) ≡ high * 2 ^ width + (2 ^ width - 1 - (n + 1)) = omega arith in
    rw parts (mod-least high (2 ^ width) (2 ^ width - 1 - (n + 1)) (omega arith))

-- the low bits in 60 bits are what is put, also of a value that fits
pub put_value-is : (width : ℕ) (value : ℤ) → 0 < width → width ≤ 60 → complemented 60 value % 2 ^ width ≡ put_value width value
put_value-is width (pos n) some short = chosen (ltb n (2 ^ width)) n (n % 2 ^ width) (λ fits. mod-eq_of_lt (grind (arith, nat_tests)))
put_value-is width (negsuc n) some short = chosen (ltb (n + 1) (2 ^ (width - 1))) (2 ^ width - 1 - (n + 1)) ((2 ^ 60 - 1 - (n + 1)) % 2 ^ width) (λ fits. low-bits width n some short (grind (arith, nat_tests)))

-- ---- holes of each kind

either_zero : (b : Bool) (x : ℕ) → b ≡ false → cond b x 0 ≡ 0
either_zero true x is = cc
either_zero false x is = refl

first_chosen : (b : Bool) (x y : ℕ) → b ≡ true → cond b x y ≡ x
first_chosen true x y is = refl
first_chosen false x y is = cc

is_true : (b : Bool) → not b ≡ false → b ≡ true
is_true true is = refl
is_true false is = cc

is_false : (b : Bool) → not b ≡ true → b ≡ false
is_false true is = cc
is_false false is = refl

-- a number that a hole can't hold is put as 0
pub put_in-out : (kind : HoleKind) (width : ℕ) (value : ℤ) → is_out_in kind width value ≡ true → put_in kind width value ≡ 0
put_in-out Value width value out = cc
put_in-out Count width (pos n) out = cc
put_in-out Count width (negsuc n) out = refl
put_in-out Target width (pos n) out = either_zero (ltb n (2 ^ (width - 1))) n (is_false (ltb n (2 ^ (width - 1))) out)
put_in-out Target width (negsuc n) out = either_zero (ltb (n + 1) (2 ^ (width - 1))) (2 ^ width - 1 - (n + 1)) (is_false (ltb (n + 1) (2 ^ (width - 1))) out)

pub is_cut_in-out : (kind : HoleKind) (width : ℕ) (value : ℤ) → is_out_in kind width value ≡ true → is_cut_in kind width value ≡ false
is_cut_in-out Value width value out = cc
is_cut_in-out Count width (pos n) out = cc
is_cut_in-out Count width (negsuc n) out = refl
is_cut_in-out Target width value out = refl

half_fits : (width n : ℕ) → ltb n (2 ^ (width - 1)) ≡ true → ltb n (2 ^ width) ≡ true
half_fits width n small =
    let half : 2 ^ (width - 1) ≤ 2 ^ width = pow-le-pow_right {n = 2} (omega arith) {i = width - 1} {j = width} (omega arith) in
    grind (arith, nat_tests)

-- any other as the value that it is
pub put_in-within : (kind : HoleKind) (width : ℕ) (value : ℤ) → is_out_in kind width value ≡ false → put_in kind width value ≡ put_value width value
put_in-within Value width value within = refl
put_in-within Count width (pos n) within = refl
put_in-within Count width (negsuc n) within = cc
put_in-within Target width (pos n) within =
    let small = is_true (ltb n (2 ^ (width - 1))) within in
    first_chosen (ltb n (2 ^ (width - 1))) n 0 small ∙ sym (first_chosen (ltb n (2 ^ width)) n (n % 2 ^ width) (half_fits width n small))
put_in-within Target width (negsuc n) within =
    let small = is_true (ltb (n + 1) (2 ^ (width - 1))) within in
    first_chosen (ltb (n + 1) (2 ^ (width - 1))) (2 ^ width - 1 - (n + 1)) 0 small
    ∙ sym (first_chosen (ltb (n + 1) (2 ^ (width - 1))) (2 ^ width - 1 - (n + 1)) ((2 ^ 60 - 1 - (n + 1)) % 2 ^ width) small)

not_true : (b : Bool) → b ≡ true → false ≡ not b
not_true true is = refl
not_true false is = cc

pub is_cut_in-within : (kind : HoleKind) (width : ℕ) (value : ℤ) → is_out_in kind width value ≡ false → is_cut_in kind width value ≡ not (fits_width width value)
is_cut_in-within Value width value within = refl
is_cut_in-within Count width (pos n) within = refl
is_cut_in-within Count width (negsuc n) within = cc
is_cut_in-within Target width (pos n) within =
    not_true (ltb n (2 ^ width)) (half_fits width n (is_true (ltb n (2 ^ (width - 1))) within))
is_cut_in-within Target width (negsuc n) within = not_true (ltb (n + 1) (2 ^ (width - 1))) (is_true (ltb (n + 1) (2 ^ (width - 1))) within)

-- ---- lists of one hole or of two

pub one_item : {T : Type 0} (xs : List T) (x : T) → length xs ≡ 1 → x ≡ get_or xs 0 x → xs ≡ x ∷ []
one_item [] x one is = absurd (omega arith)
one_item (y ∷ []) x one is = ap (λ z. z ∷ []) (sym is)
one_item (y ∷ z ∷ xs) x one is = absurd (omega arith)

pub two_items : {T : Type 0} (xs : List T) (x y : T) → length xs ≡ 2 → x ≡ get_or xs 0 x → y ≡ get_or xs 1 y → xs ≡ x ∷ y ∷ []
two_items [] x y two is also = absurd (omega arith)
two_items (z ∷ []) x y two is also = absurd (omega arith)
two_items (z ∷ w ∷ []) x y two is also = λ i. sym is i ∷ sym also i ∷ []
two_items (z ∷ w ∷ v ∷ xs) x y two is also = absurd (omega arith)

-- what a value adds to a code
abbrev pub put_at : ℕ → Hole → ℤ → ℕ
put_at bits hole value = put_in hole.kind hole.width value * 2 ^ (bits - hole.first - hole.width)

abbrev pub room_at : ℕ → Hole → ℕ
room_at bits hole = (2 ^ hole.width - 1) * 2 ^ (bits - hole.first - hole.width)

pub room-one : (bits : ℕ) (holes : List Hole) (hole : Hole) → holes ≡ hole ∷ [] → room_of bits holes ≡ room_at bits hole
room-one bits holes hole is = rw is (omega arith)

pub room-two : (bits : ℕ) (holes : List Hole) (hole other : Hole) → holes ≡ hole ∷ other ∷ [] → room_of bits holes ≡ room_at bits hole + room_at bits other
room-two bits holes hole other is = rw is (omega arith)

pub put_values-two : (bits : ℕ) (holes : List Hole) (values : List ℤ) (hole other : Hole) (value next : ℤ) → holes ≡ hole ∷ other ∷ [] → values ≡ value ∷ next ∷ []
    → put_values bits holes values ≡ put_at bits hole value + put_at bits other next
put_values-two bits holes values hole other value next is also = rw (is, also) (omega arith)

or_false : (b : Bool) → (b || false) ≡ b
or_false true = refl
or_false false = refl

pub is_cut-two : (holes : List Hole) (values : List ℤ) (hole other : Hole) (value next : ℤ) → holes ≡ hole ∷ other ∷ [] → values ≡ value ∷ next ∷ []
    → is_cut holes values ≡ (is_cut_in hole.kind hole.width value || is_cut_in other.kind other.width next)
is_cut-two holes values hole other value next is also = rw (is, also) (ap (λ b. is_cut_in hole.kind hole.width value || b) (or_false (is_cut_in other.kind other.width next)))

pub is_out-two : (holes : List Hole) (values : List ℤ) (hole other : Hole) (value next : ℤ) → holes ≡ hole ∷ other ∷ [] → values ≡ value ∷ next ∷ []
    → is_out holes values ≡ (is_out_in hole.kind hole.width value || is_out_in other.kind other.width next)
is_out-two holes values hole other value next is also = rw (is, also) (ap (λ b. is_out_in hole.kind hole.width value || b) (or_false (is_out_in other.kind other.width next)))

pub two_numbers : (values : List ℤ) → length values ≡ 2 → values ≡ get_or values 0 (pos 0) ∷ get_or values 1 (pos 0) ∷ []
two_numbers [] two = absurd (omega arith)
two_numbers (v ∷ []) two = absurd (omega arith)
two_numbers (v ∷ w ∷ []) two = refl
two_numbers (v ∷ w ∷ x ∷ values) two = absurd (omega arith)
