-- What `==` says of answers: that they hold the same.
use Rattle.std.proofs.Math.Bridge.{le_prop}
use Rattle.cps_code.specs.Bits.{word_bits}
use Rattle.std.proofs.Common.{◌≡◌, ◌<◌, ℕ, List, [], ◌∷◌, refl, ap, subst, ◌∙◌, Bool, true, Option}
use Rattle.std.specs.Prelude.{◌==◌}
use Rattle.std.specs.Bool.{Decides}
use Rattle.std.specs.Cmp.{unsigned_Decides, signed_Decides, booleans_Decides}
use Rattle.std.specs.Cmp.Lexicographic.{pointwise, pointwise_decides, bytes_decides}
use Rattle.std.specs.Option.{option_eq}
use Rattle.std.proofs.lemmas.Bool.{and_parts, and_from}
use Rattle.cps_text.specs.declared.name.Name.{Name}
use Rattle.cps_expr.specs.declared.machine.Machine.{Machine}
use Rattle.cps_expr.specs.declared.machine.Machine.TheVariants.{Cp, Pp}
use Rattle.cps_expr.specs.declared.radix.Radix.{Radix}
use Rattle.cps_expr.specs.declared.radix.Radix.TheVariants.{Octal, Decimal}
use Rattle.cps_expr.specs.declared.value.Value.{Value as AValue}
use Rattle.cps_expr.specs.Value.{same_name}
use Rattle.cps_code.specs.declared.place.Place.{Place}
use Rattle.cps_state.specs.declared.key.Answer.{Answer}
use Rattle.cps_state.specs.declared.key.Asked.{Asked}
use Rattle.cps_state.specs.Keys.{State}
use Rattle.cps_state.specs.Course.{Holds}
use Rattle.cps_state.specs.declared.key.Answer.TheVariants.{Control, Counter, Value, Uses, Ifs, Count, Macro, Text}
use Rattle.cps_state.specs.declared.key.Control.{Control as AControl}
use Rattle.cps_state.specs.declared.key.Phase.{Phase}
use Rattle.cps_state.specs.declared.key.Phase.TheVariants.{Head, Body, AfterEnd}
use Rattle.cps_state.specs.declared.key.Extent.{Extent}
use Rattle.cps_state.specs.declared.key.Extent.TheVariants.{Counted, ToEndd}
use Rattle.cps_state.specs.declared.key.Mode.{Mode}
use Rattle.cps_state.specs.declared.key.Mode.TheVariants.{Normal, SkipLines, SkipRange, KeepMacro, KeepDup}
use Rattle.cps_state.specs.declared.key.OpenRange.{OpenRange}
use Rattle.cps_state.specs.declared.key.OpenRange.TheVariants.{BeforeElse, BehindElse}
use Rattle.cps_state.specs.declared.key.Macro.{Macro as AMacro}
use Rattle.cps_expr.specs.contracts.machine.MachinePartialEq.TheImpl.{eq-value as machine_eq}
use Rattle.cps_expr.specs.contracts.radix.RadixPartialEq.TheImpl.{eq-value as radix_eq}
use Rattle.cps_expr.specs.contracts.value.ValuePartialEq.TheImpl.{eq-value as value_eq}
use Rattle.cps_code.specs.contracts.place.PlacePartialEq.TheImpl.{eq-value as place_eq}
use Rattle.cps_state.specs.contracts.key.ControlPartialEq.TheImpl.{eq-value as control_eq}
use Rattle.cps_state.specs.contracts.key.PhasePartialEq.TheImpl.{eq-value as phase_eq}
use Rattle.cps_state.specs.contracts.key.ModePartialEq.TheImpl.{eq-value as mode_eq}
use Rattle.cps_state.specs.contracts.key.ExtentPartialEq.TheImpl.{eq-value as extent_eq}
use Rattle.cps_state.specs.contracts.key.OpenRangePartialEq.TheImpl.{eq-value as range_eq}
use Rattle.cps_state.specs.contracts.key.MacroPartialEq.TheImpl.{eq-value as macro_eq}
use Rattle.cps_final.proofs.DecideLemmas.{decides}
pub use Rattle.cps_final.proofs.DecideLemmas.{option-decides, name-decides}
use Rattle.cps_final.specs.Holds.{same_answer, holds}

-- ---- parts

block-decides : (a b : Option Name) → Decides (option_eq same_name a b) (a ≡ b)
block-decides a b = option-decides same_name name-decides a b

names-decides : (a b : List Name) → Decides (pointwise same_name a b) (a ≡ b)
names-decides a b = pointwise_decides name-decides a b

texts-decides : (a b : List (List ℕ)) → Decides (pointwise (pointwise ◌==◌) a b) (a ≡ b)
texts-decides a b = pointwise_decides bytes_decides a b

machine-is : (a b : Machine) → (machine_eq.it) a b ≡ true → a ≡ b
machine-is Cp Cp h = refl
machine-is Cp Pp h = cc
machine-is Pp Cp h = cc
machine-is Pp Pp h = refl

machine-itself : (a : Machine) → (machine_eq.it) a a ≡ true
machine-itself Cp = refl
machine-itself Pp = refl

radix-is : (a b : Radix) → (radix_eq.it) a b ≡ true → a ≡ b
radix-is Octal Octal h = refl
radix-is Octal Decimal h = cc
radix-is Decimal Octal h = cc
radix-is Decimal Decimal h = refl

radix-itself : (a : Radix) → (radix_eq.it) a a ≡ true
radix-itself Octal = refl
radix-itself Decimal = refl

pub value-is : (a b : AValue) → (value_eq.it) a b ≡ true → a ≡ b
value-is a b h =
    let both = and_parts (option_eq same_name a.block b.block) _ h in
    let block = (block-decides a.block b.block).0 both.0 in
    let offset = (signed_Decides a.offset b.offset).0 both.1 in
    λ i. record { block = block i; offset = offset i }

pub value-itself : (a : AValue) → (value_eq.it) a a ≡ true
value-itself a = and_from (option_eq same_name a.block a.block) _ ((block-decides a.block a.block).1 refl) ((signed_Decides a.offset a.offset).1 refl)

pub value-decides : (a b : AValue) → Decides ((value_eq.it) a b) (a ≡ b)
value-decides a b = decides (value_eq.it) value-is value-itself a b

place-of : (word used : ℕ) (is_pending : Bool) → used < word_bits → Place
place-of word used is_pending in_word = record { word = word; used = used; is_pending = is_pending; in_word = in_word }

-- that the bits used are within a word has one proof at most
place-same : (a b : Place) → a.word ≡ b.word → a.used ≡ b.used → a.is_pending ≡ b.is_pending → a ≡ b
unfolding place-of
place-same a b word used is_pending =
    let P : ℕ → Type 0 = λ u. (h : u < word_bits) → a ≡ place-of a.word u a.is_pending h in
    let base : P a.used = λ h. ap (λ (p : a.used < word_bits). place-of a.word a.used a.is_pending p) (le_prop a.in_word h) in
    subst P used base b.in_word ∙ (λ i. place-of (word i) b.used (is_pending i) b.in_word)

place-is : (a b : Place) → (place_eq.it) a b ≡ true → a ≡ b
place-is a b h =
    let one = and_parts (a.word == b.word) _ h in
    let two = and_parts (a.used == b.used) _ one.1 in
    let word = (unsigned_Decides a.word b.word).0 one.0 in
    let used = (unsigned_Decides a.used b.used).0 two.0 in
    let is_pending = (booleans_Decides a.is_pending b.is_pending).0 two.1 in
    place-same a b word used is_pending

place-itself : (a : Place) → (place_eq.it) a a ≡ true
place-itself a =
    and_from (a.word == a.word) _ ((unsigned_Decides a.word a.word).1 refl)
    (and_from (a.used == a.used) _ ((unsigned_Decides a.used a.used).1 refl) ((booleans_Decides a.is_pending a.is_pending).1 refl))

phase-is : (a b : Phase) → (phase_eq.it) a b ≡ true → a ≡ b
phase-is (Head g) (Head h) t =
    let both = and_parts _ _ t in
    let is_named = (booleans_Decides g.is_named h.is_named).0 both.0 in
    let is_declared = (booleans_Decides g.is_declared h.is_declared).0 both.1 in
    λ i. Head (record { is_named = is_named i; is_declared = is_declared i })
phase-is (Head g) Body h = cc
phase-is (Head g) AfterEnd h = cc
phase-is Body (Head g) h = cc
phase-is Body Body h = refl
phase-is Body AfterEnd h = cc
phase-is AfterEnd (Head g) h = cc
phase-is AfterEnd Body h = cc
phase-is AfterEnd AfterEnd h = refl

phase-itself : (a : Phase) → (phase_eq.it) a a ≡ true
phase-itself (Head g) = and_from _ _ ((booleans_Decides g.is_named g.is_named).1 refl) ((booleans_Decides g.is_declared g.is_declared).1 refl)
phase-itself Body = refl
phase-itself AfterEnd = refl

control-is : (a b : AControl) → (control_eq.it) a b ≡ true → a ≡ b
control-is a b h =
    let one = and_parts ((phase_eq.it) a.phase b.phase) _ h in
    let two = and_parts ((machine_eq.it) a.machine b.machine) _ one.1 in
    let three = and_parts ((radix_eq.it) a.radix b.radix) _ two.1 in
    let phase = phase-is a.phase b.phase one.0 in
    let machine = machine-is a.machine b.machine two.0 in
    let radix = radix-is a.radix b.radix three.0 in
    let block = (block-decides a.block b.block).0 three.1 in
    λ i. record { phase = phase i; machine = machine i; radix = radix i; block = block i }

control-itself : (a : AControl) → (control_eq.it) a a ≡ true
control-itself a =
    and_from ((phase_eq.it) a.phase a.phase) _ (phase-itself a.phase)
    (and_from ((machine_eq.it) a.machine a.machine) _ (machine-itself a.machine)
    (and_from ((radix_eq.it) a.radix a.radix) _ (radix-itself a.radix) ((block-decides a.block a.block).1 refl)))

extent-is : (a b : Extent) → (extent_eq.it) a b ≡ true → a ≡ b
extent-is (Counted a) (Counted b) h = ap Counted ((unsigned_Decides a b).0 h)
extent-is (Counted a) (ToEndd b) h = cc
extent-is (ToEndd a) (Counted b) h = cc
extent-is (ToEndd a) (ToEndd b) h = ap ToEndd ((unsigned_Decides a b).0 h)

extent-itself : (a : Extent) → (extent_eq.it) a a ≡ true
extent-itself (Counted a) = (unsigned_Decides a a).1 refl
extent-itself (ToEndd a) = (unsigned_Decides a a).1 refl

mode-is : (a b : Mode) → (mode_eq.it) a b ≡ true → a ≡ b
mode-is Normal Normal h = refl
mode-is Normal (SkipLines k) h = cc
mode-is Normal (SkipRange t) h = cc
mode-is Normal (KeepMacro b) h = cc
mode-is Normal (KeepDup b) h = cc
mode-is (SkipLines j) Normal h = cc
mode-is (SkipLines j) (SkipLines k) h = ap SkipLines ((unsigned_Decides j k).0 h)
mode-is (SkipLines j) (SkipRange t) h = cc
mode-is (SkipLines j) (KeepMacro b) h = cc
mode-is (SkipLines j) (KeepDup b) h = cc
mode-is (SkipRange s) Normal h = cc
mode-is (SkipRange s) (SkipLines k) h = cc
mode-is (SkipRange s) (SkipRange t) h =
    let both = and_parts (s.nested == t.nested) _ h in
    let nested = (unsigned_Decides s.nested t.nested).0 both.0 in
    let may_resume = (booleans_Decides s.may_resume t.may_resume).0 both.1 in
    λ i. SkipRange (record { nested = nested i; may_resume = may_resume i })
mode-is (SkipRange s) (KeepMacro b) h = cc
mode-is (SkipRange s) (KeepDup b) h = cc
mode-is (KeepMacro g) Normal h = cc
mode-is (KeepMacro g) (SkipLines k) h = cc
mode-is (KeepMacro g) (SkipRange t) h = cc
mode-is (KeepMacro g) (KeepMacro b) h =
    let one = and_parts (option_eq same_name g.name b.name) _ h in
    let two = and_parts (pointwise same_name g.parameters b.parameters) _ one.1 in
    let three = and_parts (g.kept.lines == b.kept.lines) _ two.1 in
    let name = (block-decides g.name b.name).0 one.0 in
    let parameters = (names-decides g.parameters b.parameters).0 two.0 in
    let lines = (unsigned_Decides g.kept.lines b.kept.lines).0 three.0 in
    let is_over = (booleans_Decides g.kept.is_over b.kept.is_over).0 three.1 in
    λ i. KeepMacro (record { name = name i; parameters = parameters i; kept = record { lines = lines i; is_over = is_over i } })
mode-is (KeepMacro g) (KeepDup b) h = cc
mode-is (KeepDup g) Normal h = cc
mode-is (KeepDup g) (SkipLines k) h = cc
mode-is (KeepDup g) (SkipRange t) h = cc
mode-is (KeepDup g) (KeepMacro b) h = cc
mode-is (KeepDup g) (KeepDup b) h =
    let one = and_parts (g.times == b.times) _ h in
    let two = and_parts ((extent_eq.it) g.extent b.extent) _ one.1 in
    let three = and_parts (g.kept.lines == b.kept.lines) _ two.1 in
    let times = (unsigned_Decides g.times b.times).0 one.0 in
    let extent = extent-is g.extent b.extent two.0 in
    let lines = (unsigned_Decides g.kept.lines b.kept.lines).0 three.0 in
    let is_over = (booleans_Decides g.kept.is_over b.kept.is_over).0 three.1 in
    λ i. KeepDup (record { times = times i; extent = extent i; kept = record { lines = lines i; is_over = is_over i } })

mode-itself : (a : Mode) → (mode_eq.it) a a ≡ true
mode-itself Normal = refl
mode-itself (SkipLines j) = (unsigned_Decides j j).1 refl
mode-itself (SkipRange s) = and_from (s.nested == s.nested) _ ((unsigned_Decides s.nested s.nested).1 refl) ((booleans_Decides s.may_resume s.may_resume).1 refl)
mode-itself (KeepMacro g) =
    and_from (option_eq same_name g.name g.name) _ ((block-decides g.name g.name).1 refl)
    (and_from (pointwise same_name g.parameters g.parameters) _ ((names-decides g.parameters g.parameters).1 refl)
    (and_from (g.kept.lines == g.kept.lines) _ ((unsigned_Decides g.kept.lines g.kept.lines).1 refl) ((booleans_Decides g.kept.is_over g.kept.is_over).1 refl)))
mode-itself (KeepDup g) =
    and_from (g.times == g.times) _ ((unsigned_Decides g.times g.times).1 refl)
    (and_from ((extent_eq.it) g.extent g.extent) _ (extent-itself g.extent)
    (and_from (g.kept.lines == g.kept.lines) _ ((unsigned_Decides g.kept.lines g.kept.lines).1 refl) ((booleans_Decides g.kept.is_over g.kept.is_over).1 refl)))

range-is : (a b : OpenRange) → (range_eq.it) a b ≡ true → a ≡ b
range-is BeforeElse BeforeElse h = refl
range-is BeforeElse BehindElse h = cc
range-is BehindElse BeforeElse h = cc
range-is BehindElse BehindElse h = refl

range-itself : (a : OpenRange) → (range_eq.it) a a ≡ true
range-itself BeforeElse = refl
range-itself BehindElse = refl

ranges-decides : (a b : List OpenRange) → Decides (pointwise (range_eq.it) a b) (a ≡ b)
ranges-decides a b = pointwise_decides (decides (range_eq.it) range-is range-itself) a b

blocks-decides : (a b : List (Option Name)) → Decides (pointwise (option_eq same_name) a b) (a ≡ b)
blocks-decides a b = pointwise_decides block-decides a b

macro-is : (a b : AMacro) → (macro_eq.it) a b ≡ true → a ≡ b
macro-is a b h =
    let both = and_parts (pointwise same_name a.parameters b.parameters) _ h in
    let parameters = (names-decides a.parameters b.parameters).0 both.0 in
    let others = and_parts (pointwise (pointwise ◌==◌) a.locals b.locals) _ both.1 in
    let locals = (texts-decides a.locals b.locals).0 others.0 in
    let lines = (texts-decides a.lines b.lines).0 others.1 in
    λ i. record { parameters = parameters i; locals = locals i; lines = lines i }

macro-itself : (a : AMacro) → (macro_eq.it) a a ≡ true
macro-itself a =
    and_from (pointwise same_name a.parameters a.parameters) _ ((names-decides a.parameters a.parameters).1 refl)
    (and_from (pointwise (pointwise ◌==◌) a.locals a.locals) _ ((texts-decides a.locals a.locals).1 refl) ((texts-decides a.lines a.lines).1 refl))

-- ---- answers

pub answer-is : (a b : Answer) → same_answer a b ≡ true → a ≡ b
answer-is (Control c m) (Control d n) h = let both = and_parts ((control_eq.it) c d) ((mode_eq.it) m n) h in λ i. Control (control-is c d both.0 i) (mode-is m n both.1 i)
answer-is (Control c m) (Counter q) h = cc
answer-is (Control c m) (Value w) h = cc
answer-is (Control c m) (Uses w) h = cc
answer-is (Control c m) (Ifs s) h = cc
answer-is (Control c m) (Count k) h = cc
answer-is (Control c m) (Macro n) h = cc
answer-is (Control c m) (Text s) h = cc
answer-is (Counter p) (Control d n) h = cc
answer-is (Counter p) (Counter q) h = ap Counter (place-is p q h)
answer-is (Counter p) (Value w) h = cc
answer-is (Counter p) (Uses w) h = cc
answer-is (Counter p) (Ifs s) h = cc
answer-is (Counter p) (Count k) h = cc
answer-is (Counter p) (Macro n) h = cc
answer-is (Counter p) (Text s) h = cc
answer-is (Value v) (Control d n) h = cc
answer-is (Value v) (Counter q) h = cc
answer-is (Value v) (Value w) h = ap Value (value-is v w h)
answer-is (Value v) (Uses w) h = cc
answer-is (Value v) (Ifs s) h = cc
answer-is (Value v) (Count k) h = cc
answer-is (Value v) (Macro n) h = cc
answer-is (Value v) (Text s) h = cc
answer-is (Uses u) (Control d n) h = cc
answer-is (Uses u) (Counter q) h = cc
answer-is (Uses u) (Value w) h = cc
answer-is (Uses u) (Uses w) h = ap Uses ((blocks-decides u w).0 h)
answer-is (Uses u) (Ifs s) h = cc
answer-is (Uses u) (Count k) h = cc
answer-is (Uses u) (Macro n) h = cc
answer-is (Uses u) (Text s) h = cc
answer-is (Ifs r) (Control d n) h = cc
answer-is (Ifs r) (Counter q) h = cc
answer-is (Ifs r) (Value w) h = cc
answer-is (Ifs r) (Uses w) h = cc
answer-is (Ifs r) (Ifs s) h = ap Ifs ((ranges-decides r s).0 h)
answer-is (Ifs r) (Count k) h = cc
answer-is (Ifs r) (Macro n) h = cc
answer-is (Ifs r) (Text s) h = cc
answer-is (Count j) (Control d n) h = cc
answer-is (Count j) (Counter q) h = cc
answer-is (Count j) (Value w) h = cc
answer-is (Count j) (Uses w) h = cc
answer-is (Count j) (Ifs s) h = cc
answer-is (Count j) (Count k) h = ap Count ((unsigned_Decides j k).0 h)
answer-is (Count j) (Macro n) h = cc
answer-is (Count j) (Text s) h = cc
answer-is (Macro m) (Control d n) h = cc
answer-is (Macro m) (Counter q) h = cc
answer-is (Macro m) (Value w) h = cc
answer-is (Macro m) (Uses w) h = cc
answer-is (Macro m) (Ifs s) h = cc
answer-is (Macro m) (Count k) h = cc
answer-is (Macro m) (Macro n) h = ap Macro (macro-is m n h)
answer-is (Macro m) (Text s) h = cc
answer-is (Text t) (Control d n) h = cc
answer-is (Text t) (Counter q) h = cc
answer-is (Text t) (Value w) h = cc
answer-is (Text t) (Uses w) h = cc
answer-is (Text t) (Ifs s) h = cc
answer-is (Text t) (Count k) h = cc
answer-is (Text t) (Macro n) h = cc
answer-is (Text t) (Text s) h = ap Text ((bytes_decides t s).0 h)

pub answer-itself : (a : Answer) → same_answer a a ≡ true
answer-itself (Control c m) = and_from ((control_eq.it) c c) ((mode_eq.it) m m) (control-itself c) (mode-itself m)
answer-itself (Counter p) = place-itself p
answer-itself (Value v) = value-itself v
answer-itself (Uses u) = (blocks-decides u u).1 refl
answer-itself (Ifs r) = (ranges-decides r r).1 refl
answer-itself (Count j) = (unsigned_Decides j j).1 refl
answer-itself (Macro m) = macro-itself m
answer-itself (Text t) = (bytes_decides t t).1 refl

pub answer-decides : (a b : Answer) → Decides (same_answer a b) (a ≡ b)
answer-decides a b = decides same_answer answer-is answer-itself a b

pub answers-decide : (a b : Option Answer) → Decides (option_eq same_answer a b) (a ≡ b)
answers-decide a b = option-decides same_answer answer-decides a b

-- ---- what a line asked

pub asks-decide : (asks : List Asked) (state : State) → Decides (holds asks state) (Holds asks state)
asks-decide [] state = (λ h. tt, λ h. refl)
asks-decide (a ∷ asks) state = (
  λ h.
      let both = and_parts (option_eq same_answer (state a.key) a.answer) (holds asks state) h in
      ((answers-decide (state a.key) a.answer).0 both.0, (asks-decide asks state).0 both.1),
  λ h. and_from (option_eq same_answer (state a.key) a.answer) (holds asks state) ((answers-decide (state a.key) a.answer).1 h.0) ((asks-decide asks state).1 h.1),
)
