-- Addresses outside of which nothing stands, and the addresses that pass a test.
use Rattle.std.proofs.Common.{◌≡◌, ℕ, zero, suc, ◌+◌, ◌-◌, ◌<◌, ◌≤◌, ◌&&◌, Bool, false, inl, inr, refl, sym, ap, ◌∙◌, arith, cond, List, [], ◌∷◌, ◌++◌, append-nil, Option, None, Some}
use Rattle.std.specs.Prelude.{filter, is_some, option_map}
use Rattle.cps_code.specs.Image.{Piece}
use Rattle.cps_expr.specs.declared.machine.Machine.{Machine}
use Rattle.cps_claims.specs.Claims.{Claimed, differs}
use Rattle.cps_claims.specs.Counts.{is_given}
use Rattle.cps_compare.specs.Differences.{digits_in, digits_of, word_of}
use Rattle.cps_disassembly.specs.declared.selection.Selection.{Selection}
use Rattle.cps_disassembly.specs.declared.span.Span.{Span}
use Rattle.cps_disassembly.specs.Makes.{is_within, is_wanted, is_wrong}
use Rattle.cps_disassembly.specs.Certificate.{addresses_below}
use Rattle.cps_disassembly.specs.Code.Kept.{IsNoneOutside}
use Rattle.cps_disassembly.proofs.CertificateLemmas.{and-false, below-more, none-yet, right-past}

-- an address that doesn't pass adds nothing
unchanged : (test : ℕ → Bool) (at : ℕ) → test at ≡ false → filter test (addresses_below (at + 1)) ≡ filter test (addresses_below at)
unchanged test at is =
    below-more test at ∙ ap (λ b. filter test (addresses_below at) ++ cond b (at ∷ []) []) is ∙ append-nil (filter test (addresses_below at))

-- nor do those from one on
behind : (test : ℕ → Bool) (end n : ℕ) → ((at : ℕ) → end ≤ at → test at ≡ false)
    → filter test (addresses_below (end + n)) ≡ filter test (addresses_below end)
behind test end zero is = ap (λ m. filter test (addresses_below m)) (omega arith)
behind test end (suc n) is =
    ap (λ m. filter test (addresses_below m)) (omega arith) ∙ unchanged test (end + n) (is (end + n) (omega arith)) ∙ behind test end n is

-- nor do those up to one
before : (test : ℕ → Bool) (first n : ℕ) → n ≤ first → ((at : ℕ) → at < first → test at ≡ false) → filter test (addresses_below n) ≡ []
before test first zero low is = sym (none-yet test)
before test first (suc n) low is =
    ap (λ m. filter test (addresses_below m)) (omega arith) ∙ unchanged test n (is n (omega arith)) ∙ before test first n (omega arith) is

-- none passes in front of a span
pub none-in-front : (span : Span) (test : ℕ → Bool) → IsNoneOutside span test → [] ≡ filter test (addresses_below span.first)
none-in-front span test none = sym (before test span.first span.first (omega arith) (λ at low. none at (inl low)))

-- nor behind it
pub none-behind : (span : Span) (test : ℕ → Bool) (at count : ℕ) → IsNoneOutside span test → span.end ≤ at → at ≤ count
    → filter test (addresses_below at) ≡ filter test (addresses_below count)
none-behind span test at count none past low =
    sym (ap (λ m. filter test (addresses_below m)) (omega arith) ∙ behind test at (count - at) (λ other high. none other (inr (omega arith))))

-- ---- what is wanted, and what is wrong

-- where none is given none is wanted
pub none-wanted-outside : (span : Span) (selection : Selection) (given : List Claimed) → IsNoneOutside span (is_given given)
    → IsNoneOutside span (is_wanted selection given)
none-wanted-outside span selection given none address outside =
    ap (λ b. is_within selection address && b) (none address outside) ∙ and-false (is_within selection address)

no-digits : (machine : Machine) (word : Option ℕ) → is_some word ≡ false → is_some (option_map (digits_of machine) word) ≡ false
no-digits machine None none = refl
no-digits machine (Some word) none = cc

-- and where no word stands either none is wrong
pub none-wrong-outside : (span : Span) (selection : Selection) (given : List Claimed) (pieces : List Piece) → IsNoneOutside span (is_given given)
    → IsNoneOutside span (λ address. is_some (word_of selection.machine pieces address))
    → IsNoneOutside span (is_wrong selection given (digits_in selection.machine pieces))
none-wrong-outside span selection given pieces claimed stands address outside =
    right-past (is_wanted selection given address) (differs (digits_in selection.machine pieces) given address) (is_some (digits_in selection.machine pieces address))
    (none-wanted-outside span selection given claimed address outside)
    (no-digits selection.machine (word_of selection.machine pieces address) (stands address outside))
