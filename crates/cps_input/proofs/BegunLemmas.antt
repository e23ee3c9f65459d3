-- A line of which some bytes have come.
use Rattle.std.proofs.Common.{◌≡◌, ℕ, suc, ◌+◌, ◌-◌, ◌<◌, ◌≤◌, Bool, true, false, cond, ◌&&◌, eqb, ltb, List, [], ◌∷◌, ◌++◌, length, get_or, take, drop, refl, sym, ap, ◌∙◌, arith, append-nil, length-append, length-take, length-drop, get_or-drop}
use Rattle.std.specs.Prelude.{Result, Ok, Err}
use Rattle.std.specs.Result.{is_ok, OnOk}
use Rattle.std.proofs.lemmas.List.{take_all, drop_all, take-append-le, drop-append-le}
use Rattle.std.proofs.lemmas.Bool.Decides.{nat_tests}
use Rattle.cps_input.specs.declared.begun_line.BegunLine.{BegunLine}
use Rattle.cps_input.specs.declared.begun_line.Overrun.TheVariants.{Nothing, Return, More}
use Rattle.cps_input.specs.Code.BegunLine.{past_of, more_past, IsBegun}
use Rattle.cps_input.specs.Lines.{without_return}

pub of-ok : {T E P : Type 0} (result : Result T E) → is_ok result ≡ true → OnOk result P → P
of-ok (Ok value) is holds = holds
of-ok (Err error) is holds = cc

-- with room left, all bytes were kept
pub kept-room : (room : ℕ) (begun bytes : List ℕ) → 0 < length bytes → length (take room begun) + length bytes ≤ room
    → (take room begun ++ bytes ≡ take room (begun ++ bytes)) × (drop room (begun ++ bytes) ≡ []) × (drop room begun ≡ [])
kept-room room begun bytes some short =
    let fits : length begun < room = omega (arith, length-take room begun) in
    let grown : length (begun ++ bytes) ≤ room = omega (arith, length-append begun bytes, length-take room begun) in
    (rw (take_all room begun (omega arith), take_all room (begun ++ bytes) grown) refl, drop_all room (begun ++ bytes) grown, drop_all room begun (omega arith))

pub kept-full : (room : ℕ) (begun : List ℕ) (byte : ℕ) → length (take room begun) ≡ room
    → (take room begun ≡ take room (begun ++ byte ∷ [])) × (drop room (begun ++ byte ∷ []) ≡ drop room begun ++ byte ∷ [])
kept-full room begun byte full =
    let past : room ≤ length begun = omega (arith, length-take room begun) in
    (sym (take-append-le room begun (byte ∷ []) past), drop-append-le room begun (byte ∷ []) past)

-- a byte past the room
past_of-one : (test : Bool) (byte : ℕ) → More ≡ more_past (cond test Return More) byte
past_of-one true byte = refl
past_of-one false byte = refl

past_of-more : (past : List ℕ) (byte : ℕ) → past_of (past ++ byte ∷ []) ≡ more_past (past_of past) byte
past_of-more [] byte = refl
past_of-more (x ∷ []) byte = past_of-one (eqb x 13) byte
past_of-more (x ∷ y ∷ past) byte = refl

not_return : (test : Bool) → cond test Return More ≡ More → test ≡ false
not_return true is = cc
not_return false is = refl

is_return : (test : Bool) → cond test Return More ≡ Return → test ≡ true
is_return true is = refl
is_return false is = cc

something : (test : Bool) → cond test Return More ≡ Nothing → ⊥
something true is = cc
something false is = cc

-- where there is room for all
pub begun-room : (old new : BegunLine) (begun bytes : List ℕ) → IsBegun old begun → length old.bytes.items + length bytes ≤ 200
    → new.bytes.items ≡ old.bytes.items ++ bytes → new.past ≡ old.past → IsBegun new (begun ++ bytes)
begun-room old new begun [] is short items past = record {
  kept = items ∙ append-nil old.bytes.items ∙ is.kept ∙ ap (take 200) (sym (append-nil begun));
  past = past ∙ is.past ∙ ap (λ b. past_of (drop 200 b)) (sym (append-nil begun));
}
begun-room old new begun (b ∷ bytes) is short items past =
    let kept = is.kept in
    let short' : length (take 200 begun) + length (b ∷ bytes) ≤ 200 = rw (← kept) short in
    let k = kept-room 200 begun (b ∷ bytes) (omega arith) short' in
    let k0 = k.0 in let k1 = k.1 in let k2 = k.2 in
    record { kept = rw (items, kept) k0; past = past ∙ is.past ∙ ap past_of (k2 ∙ sym k1) }

pub begun-full : (old new : BegunLine) (begun : List ℕ) (byte : ℕ) → IsBegun old begun → length old.bytes.items ≡ 200
    → new.bytes.items ≡ old.bytes.items → new.past ≡ more_past old.past byte → IsBegun new (begun ++ byte ∷ [])
begun-full old new begun byte is full items past =
    let kept = is.kept in
    let full' : length (take 200 begun) ≡ 200 = rw (← kept) full in
    let k = kept-full 200 begun byte full' in
    let k0 = k.0 in let k1 = k.1 in
    record { kept = rw (items, kept) k0; past = past ∙ ap (λ p. more_past p byte) is.past ∙ sym (ap past_of k1 ∙ past_of-more (drop 200 begun) byte) }

-- ---- the line without its carriage return

one-past : (room : ℕ) (begun : List ℕ) (x : ℕ) → drop room begun ≡ x ∷ [] → (length begun ≡ room + 1) × (get_or begun room 0 ≡ x)
one-past room begun x past =
    let count : length begun - room ≡ 1 = rw length-drop at (ap length past) in
    let first : get_or (drop room begun) 0 0 ≡ x = ap (λ l. get_or l 0 0) past in
    let at_room : get_or (drop room begun) 0 0 ≡ get_or begun (room + 0) 0 = get_or-drop room begun 0 0 in
    let none : room + 0 ≡ room = omega arith in
    (omega arith, sym (rw none at at_room) ∙ first)

cut_cases : (test : Bool) (n : ℕ) (line : List ℕ) → length line ≤ n + 1 → length line ≤ length (cond test (take n line) line) + 1
cut_cases true n line short = omega (arith, length-take n line)
cut_cases false n line short = omega arith

without_return-length : (line : List ℕ) → length line ≤ length (without_return line) + 1
without_return-length line = cut_cases (ltb 0 (length line) && eqb (get_or line (length line - 1) 0) 13) (length line - 1) line (omega arith)

line-more : (room : ℕ) (begun past : List ℕ) → drop room begun ≡ past → past_of past ≡ More → room < length (without_return begun)
line-more room begun [] is more = cc
line-more room begun (x ∷ []) is more =
    let one = one-past room begun x is in
    let one0 = one.0 in let one1 = one.1 in
    let last : length begun - 1 ≡ room = omega arith in
    let apart : eqb x 13 ≡ false = not_return (eqb x 13) more in
    let some : ltb 0 (length begun) ≡ true = grind (arith, nat_tests) in
    rw (some, last, one1, apart) (omega arith)
line-more room begun (x ∷ y ∷ past) is more =
    let count : length begun - room ≡ suc (suc (length past)) = rw length-drop at (ap length is) in
    omega (arith, without_return-length begun)

line-return : (room : ℕ) (begun past : List ℕ) → drop room begun ≡ past → past_of past ≡ Return → take room begun ≡ without_return begun
line-return room begun [] is back = cc
line-return room begun (x ∷ []) is back =
    let one = one-past room begun x is in
    let one0 = one.0 in let one1 = one.1 in
    let last : length begun - 1 ≡ room = omega arith in
    let same : eqb x 13 ≡ true = is_return (eqb x 13) back in
    let some : ltb 0 (length begun) ≡ true = grind (arith, nat_tests) in
    rw (some, last, one1, same) refl
line-return room begun (x ∷ y ∷ past) is back = cc

line-nothing : (room : ℕ) (begun past : List ℕ) → drop room begun ≡ past → past_of past ≡ Nothing → take room begun ≡ begun
line-nothing room begun [] is none =
    let count : length begun - room ≡ 0 = rw length-drop at (ap length is) in
    take_all room begun (omega arith)
line-nothing room begun (x ∷ []) is none = absurd (something (eqb x 13) none)
line-nothing room begun (x ∷ y ∷ past) is none = cc

pub begun-more : (line : BegunLine) (begun : List ℕ) → IsBegun line begun → line.past ≡ More → 200 < length (without_return begun)
begun-more line begun is more = line-more 200 begun (drop 200 begun) refl (sym is.past ∙ more)

pub begun-return : (line : BegunLine) (begun : List ℕ) → IsBegun line begun → line.past ≡ Return → line.bytes.items ≡ without_return begun
begun-return line begun is back = is.kept ∙ line-return 200 begun (drop 200 begun) refl (sym is.past ∙ back)

pub begun-nothing : (line : BegunLine) (begun : List ℕ) → IsBegun line begun → line.past ≡ Nothing → line.bytes.items ≡ begun
begun-nothing line begun is none = is.kept ∙ line-nothing 200 begun (drop 200 begun) refl (sym is.past ∙ none)
