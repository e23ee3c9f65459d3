-- Reading a sum term by term.
use Rattle.std.proofs.Common.{◌≡◌, ℕ, zero, suc, ◌<◌, ◌≤◌, Bool, true, false, List, [], ◌∷◌, ◌++◌, length, get_or, take, drop, Option, None, Some, refl, sym, ap, subst, ◌∙◌, arith, append_assoc, append-nil, length-append}
use Rattle.std.specs.Prelude.{option_map, option_and_then, is_some, IfSome, IsSomeAnd, MatchBool}
use Rattle.std.proofs.lemmas.Bool.Decides.{nat_tests}
use Rattle.cps_expr.specs.declared.radix.Radix.{Radix}
use Rattle.cps_code.specs.declared.register.RegisterTerm.{RegisterTerm}
use Rattle.cps_code.specs.Sum.{SumTerm, register, other, Sum, no_terms, with_term, register_or_other, term_with, sum_of_texts, sum_of}
use Rattle.cps_expr.specs.Expression.{is_sign, is_minus, onto_first, cut_at_signs, with_first_sign}
use Rattle.cps_expr.specs.Term.{Term, term_of}
use Rattle.cps_code.specs.declared.sum.Registers.{Registers}
use Rattle.cps_code.specs.Register.{register_of}
use Rattle.cps_expr.specs.Code.TermsLeft.{sign_of}
use Rattle.cps_expr.proofs.TermsReading.{later_texts, IsSignAt, cut-at}
use Rattle.cps_code.specs.Code.Terms.{pushed, is_some_list, IsKept}

-- a sum and what more of it comes
abbrev pub joined : Sum → Option Sum → Option Sum
joined sum None = None
joined sum (Some more) = Some (record { registers = sum.registers ++ more.registers; constant = sum.constant ++ more.constant })

-- the sum of a text whose first term's sign is known
abbrev pub rest_sum : Radix → Bool → List ℕ → Option Sum
rest_sum radix minus rest = sum_of_texts radix (onto_first (sign_of minus) (cut_at_signs rest))

pub sum-start : (radix : Radix) (minus : Bool) (text rest : List ℕ) → with_first_sign text ≡ sign_of minus ∷ rest → rest_sum radix minus rest ≡ sum_of radix text
sum-start radix true text rest is = rw is refl
sum-start radix false text rest is = rw is refl

pub joined-none : (sum : Option Sum) → joined no_terms sum ≡ sum
joined-none None = refl
joined-none (Some sum) = refl

-- the first term, and the sum of the later ones
rest-cut : (radix : Radix) (minus : Bool) (n : ℕ) (rest : List ℕ) → IsSignAt rest n
    → rest_sum radix minus rest ≡ option_and_then (λ term. option_map (with_term term) (sum_of_texts radix (later_texts (drop n rest)))) (term_with radix minus (take n rest))
rest-cut radix true n rest at = rw (cut-at n rest at) refl
rest-cut radix false n rest at = rw (cut-at n rest at) refl

rest-none : (radix : Radix) (minus : Bool) (n : ℕ) (rest : List ℕ) → IsSignAt rest n → None ≡ term_with radix minus (take n rest) → rest_sum radix minus rest ≡ None
rest-none radix minus n rest at none =
    rest-cut radix minus n rest at
    ∙ ap (λ t. option_and_then (λ term. option_map (with_term term) (sum_of_texts radix (later_texts (drop n rest)))) t) (sym none)

pub rest-end : (radix : Radix) (minus : Bool) (n : ℕ) (rest : List ℕ) (term : SumTerm) → IsSignAt rest n → Some term ≡ term_with radix minus (take n rest) → drop n rest ≡ []
    → rest_sum radix minus rest ≡ Some (with_term term no_terms)
rest-end radix minus n rest term at is end =
    rest-cut radix minus n rest at
    ∙ ap (λ t. option_and_then (λ term. option_map (with_term term) (sum_of_texts radix (later_texts (drop n rest)))) t) (sym is)
    ∙ ap (λ left. option_map (with_term term) (sum_of_texts radix (later_texts left))) end

sign_back : (sign : ℕ) → is_sign sign ≡ true → sign_of (is_minus sign) ≡ sign
sign_back sign found = grind (arith, nat_tests)

drop-first : (n : ℕ) (text more : List ℕ) (sign : ℕ) → drop n text ≡ sign ∷ more → (n < length text) × (get_or text n 0 ≡ sign)
drop-first zero [] more sign is = cc
drop-first zero (c ∷ text) more sign is = (omega arith, cc)
drop-first (suc n) [] more sign is = cc
drop-first (suc n) (c ∷ text) more sign is = let later = drop-first n text more sign is in (omega (arith, later.0), later.1)

pub rest-more : (radix : Radix) (minus : Bool) (n sign : ℕ) (rest more : List ℕ) (term : SumTerm) → IsSignAt rest n → Some term ≡ term_with radix minus (take n rest)
    → drop n rest ≡ sign ∷ more → rest_sum radix minus rest ≡ option_map (with_term term) (rest_sum radix (is_minus sign) more)
rest-more radix minus n sign rest more term at is next =
    let first = drop-first n rest more sign next in
    let here : is_sign sign ≡ true = rw (← first.1) (at.found first.0) in
    rest-cut radix minus n rest at
    ∙ ap (λ t. option_and_then (λ term. option_map (with_term term) (sum_of_texts radix (later_texts (drop n rest)))) t) (sym is)
    ∙ ap (λ left. option_map (with_term term) (sum_of_texts radix (later_texts left))) next
    ∙ ap (λ s. option_map (with_term term) (sum_of_texts radix (onto_first s (cut_at_signs more)))) (sym (sign_back sign here))

pub joined-one : (sum : Sum) (term : SumTerm) → joined sum (Some (with_term term no_terms)) ≡ Some (pushed sum term)
joined-one sum (register r) = ap (λ ns. Some (record { registers = sum.registers ++ r ∷ []; constant = ns })) (append-nil sum.constant)
joined-one sum (other n) = ap (λ rs. Some (record { registers = rs; constant = sum.constant ++ n ∷ [] })) (append-nil sum.registers)

pub joined-more : (sum : Sum) (term : SumTerm) (more : Option Sum) → joined sum (option_map (with_term term) more) ≡ joined (pushed sum term) more
joined-more sum (register r) None = refl
joined-more sum (register r) (Some more) = ap (λ rs. Some (record { registers = rs; constant = sum.constant ++ more.constant })) (sym (append_assoc sum.registers (r ∷ []) more.registers))
joined-more sum (other n) None = refl
joined-more sum (other n) (Some more) = ap (λ ns. Some (record { registers = sum.registers ++ more.registers; constant = ns })) (sym (append_assoc sum.constant (n ∷ []) more.constant))

abbrev option_registers : Option Sum → List RegisterTerm
option_registers None = []
option_registers (Some sum) = sum.registers

joined-length : (sum : Sum) (more : Option Sum) (whole : Sum) → joined sum more ≡ Some whole → length sum.registers ≤ length whole.registers
joined-length sum None whole is = cc
joined-length sum (Some more) whole is =
    let same : Some (record { registers = sum.registers ++ more.registers; constant = sum.constant ++ more.constant }) ≡ Some whole = is in
    let parts : length (sum.registers ++ more.registers) ≡ length whole.registers = ap (λ o. length (option_registers o)) same in
    omega (arith, length-append sum.registers more.registers)

-- a register too many stays one
rest-many : (radix : Radix) (minus : Bool) (n : ℕ) (rest : List ℕ) (so_far : Sum) (term : SumTerm) (whole : Sum) → IsSignAt rest n → Some term ≡ term_with radix minus (take n rest)
    → 2 < length (pushed so_far term).registers → joined so_far (rest_sum radix minus rest) ≡ Some whole → 2 < length whole.registers
rest-many radix minus n rest so_far term whole at is many all =
    let later = sum_of_texts radix (later_texts (drop n rest)) in
    let cut = rest-cut radix minus n rest at ∙ ap (λ t. option_and_then (λ term. option_map (with_term term) later) t) (sym is) in
    let more = sym (joined-more so_far term later) ∙ sym (ap (joined so_far) cut) ∙ all in
    omega (arith, joined-length (pushed so_far term) later whole more)

-- what the next term is, if it is one
bad-term : (radix : Radix) (minus : Bool) (n : ℕ) (rest : List ℕ) (so_far whole : Sum) (term : Option SumTerm) → IsSignAt rest n → term ≡ term_with radix minus (take n rest)
    → ((t : SumTerm) → term_with radix minus (take n rest) ≡ Some t → 2 < length (pushed so_far t).registers)
    → joined so_far (rest_sum radix minus rest) ≡ Some whole → 2 < length whole.registers
bad-term radix minus n rest so_far whole None at is many all =
    let none = rest-none radix minus n rest at is in
    let whole' = sym (ap (joined so_far) none) ∙ all in
    cc
bad-term radix minus n rest so_far whole (Some term) at is many all = rest-many radix minus n rest so_far term whole at is (many term (sym is)) all

-- a text that is no term, or a register too many, is in no sum of two registers
pub rest-bad : (radix : Radix) (minus : Bool) (n : ℕ) (rest : List ℕ) (so_far whole : Sum) → IsSignAt rest n
    → ((t : SumTerm) → term_with radix minus (take n rest) ≡ Some t → 2 < length (pushed so_far t).registers)
    → joined so_far (rest_sum radix minus rest) ≡ Some whole → 2 < length whole.registers
rest-bad radix minus n rest so_far whole at many all = bad-term radix minus n rest so_far whole (term_with radix minus (take n rest)) at refl many all

-- ---- one term

-- that a text writes a term, which is added to a sum
abbrev pub Adds : Radix → Bool → List ℕ → Sum → (Sum → Type 0) → Type 0
Adds radix minus text so_far Kept = (term : SumTerm) × (term_with radix minus text ≡ Some term) × Kept (pushed so_far term)

-- that a text writes no term, or a third register
abbrev pub AddsNone : Radix → Bool → List ℕ → Sum → Type 0
AddsNone radix minus text so_far = (term : SumTerm) → term_with radix minus text ≡ Some term → 2 < length (pushed so_far term).registers

abbrev is_many : Sum → Option SumTerm → Type 0
is_many so_far None = Unit {0}
is_many so_far (Some term) = 2 < length (pushed so_far term).registers

either : {A B C D : Type 0} (b : Bool) → (A → C) → (B → D) → MatchBool b A B → MatchBool b C D
either true left right is = left is
either false left right is = right is

pub adds-register : (radix : Radix) (minus : Bool) (text : List ℕ) (so_far : Sum) (r : RegisterTerm) (Kept : Sum → Type 0) (added : Bool) → Some r ≡ register_of minus text
    → MatchBool added (Kept (pushed so_far (register r))) (2 < length (pushed so_far (register r)).registers)
    → MatchBool added (Adds radix minus text so_far Kept) (AddsNone radix minus text so_far)
adds-register radix minus text so_far r Kept added is kept =
    let term : term_with radix minus text ≡ Some (register r) = ap (λ f. register_or_other f (term_of radix minus text)) (sym is) in
    either added
    (λ k. (register r, term, k))
    (λ many. λ t found. subst (is_many so_far) (sym term ∙ found) many)
    kept

no-register : (radix : Radix) (minus : Bool) (text : List ℕ) → None ≡ register_of minus text → term_with radix minus text ≡ option_map other (term_of radix minus text)
no-register radix minus text is = ap (λ f. register_or_other f (term_of radix minus text)) (sym is)

kept-constant : (old new : Option (List Term)) (constant : List Term) (term : Term) → IfSome old (λ c. c ≡ constant)
    → IfSome new (λ after. IsSomeAnd old (λ before. after ≡ before ++ term ∷ [])) → IfSome new (λ c. c ≡ constant ++ term ∷ [])
kept-constant old None constant term kept is = tt
kept-constant None (Some after) constant term kept is = absurd is
kept-constant (Some before) (Some after) constant term kept is = is ∙ ap (λ c. c ++ term ∷ []) kept

some-list : (terms : List Term) (term : Term) → true ≡ is_some_list (terms ++ term ∷ [])
some-list [] term = refl
some-list (t ∷ terms) term = refl

adds-found : (radix : Radix) (minus : Bool) (text : List ℕ) (registers : Registers) (old new : Option (List Term)) (has : Bool) (so_far : Sum) (readable : Bool) (found : Option Term)
    → found ≡ term_of radix minus text → None ≡ register_of minus text → readable ≡ is_some found
    → ((term : Term) → found ≡ Some term → IfSome new (λ after. IsSomeAnd old (λ before. after ≡ before ++ term ∷ [])))
    → IsKept (record { registers = registers; has_constant = has; constant = old }) so_far
    → MatchBool readable (Adds radix minus text so_far (IsKept (record { registers = registers; has_constant = true; constant = new }))) (AddsNone radix minus text so_far)
adds-found radix minus text registers old new has so_far readable None is none reads added kept =
    let written : term_with radix minus text ≡ None = no-register radix minus text none ∙ ap (option_map other) (sym is) in
    let AddsNothing : AddsNone radix minus text so_far = λ t found. let both = sym written ∙ found in cc in
    rw reads AddsNothing
adds-found radix minus text registers old new has so_far readable (Some term) is none reads added kept =
    let written : term_with radix minus text ≡ Some (other term) = no-register radix minus text none ∙ ap (option_map other) (sym is) in
    let all : Adds radix minus text so_far (IsKept (record { registers = registers; has_constant = true; constant = new })) = (
      other term,
      written,
      record {
        registers = kept.registers;
        has_constant = some-list so_far.constant term;
        constant = kept-constant old new so_far.constant term kept.constant (added term refl);
        digits = kept.digits;
      },
    ) in
    rw reads all

pub adds-other : (radix : Radix) (minus : Bool) (text : List ℕ) (registers : Registers) (old new : Option (List Term)) (has : Bool) (so_far : Sum) (readable : Bool)
    → None ≡ register_of minus text → readable ≡ is_some (term_of radix minus text)
    → ((term : Term) → term_of radix minus text ≡ Some term → IfSome new (λ after. IsSomeAnd old (λ before. after ≡ before ++ term ∷ [])))
    → IsKept (record { registers = registers; has_constant = has; constant = old }) so_far
    → MatchBool readable (Adds radix minus text so_far (IsKept (record { registers = registers; has_constant = true; constant = new }))) (AddsNone radix minus text so_far)
adds-other radix minus text registers old new has so_far readable none reads added kept =
    adds-found radix minus text registers old new has so_far readable (term_of radix minus text) refl none reads added kept
