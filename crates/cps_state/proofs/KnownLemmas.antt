-- What is known after one more ask or put.
use Rattle.std.proofs.Common.{◌≡◌, refl, sym, ap, ◌∙◌, ℕ, List, [], ◌∷◌, ◌++◌, Option, Some, None, true, false, Bool}
use Rattle.std.specs.Prelude.{if◌then◌else◌, option_map, ◌&&◌, ◌==◌}
use Rattle.std.specs.Cmp.Lexicographic.{pointwise}
use Rattle.std.proofs.lemmas.Bool.{eqb-true}
use Rattle.cps_text.specs.declared.name.Name.{Name}
use Rattle.cps_expr.specs.Value.{same_name}
use Rattle.std.specs.Option.{option_or}
use Rattle.cps_state.specs.declared.key.Key.{Key}
use Rattle.cps_state.specs.declared.key.Key.TheVariants as key
use Rattle.cps_state.specs.declared.key.Answer.{Answer}
use Rattle.cps_state.specs.declared.key.Asked.{Asked}
use Rattle.cps_state.specs.declared.key.Put.{Put}
use Rattle.cps_state.specs.contracts.key.KeyPartialEq.TheImpl.{eq-value}
use Rattle.cps_state.specs.Keys.{same_key, same_block}
use Rattle.cps_state.specs.Course.{last_put, last_ask, known_in}

and-true-left : (a b : Bool) → (a && b) ≡ true → a ≡ true
and-true-left true b h = refl
and-true-left false b h = h

and-true-right : (a b : Bool) → (a && b) ≡ true → b ≡ true
and-true-right true b h = h
and-true-right false b h = cc

pub same_key_is : (a b : Key) → (eq-value.it) a b ≡ same_key a b
same_key_is key.Control key.Control = refl
same_key_is key.Control (key.Counter b) = refl
same_key_is key.Control (key.Label b) = refl
same_key_is key.Control (key.Setting b) = refl
same_key_is key.Control key.Uses = refl
same_key_is key.Control key.Ifs = refl
same_key_is key.Control key.Blocks = refl
same_key_is key.Control (key.Macro b) = refl
same_key_is key.Control (key.Kept b) = refl
same_key_is key.Control key.Locals = refl
same_key_is (key.Counter a) key.Control = refl
same_key_is (key.Counter a) (key.Counter b) = refl
same_key_is (key.Counter a) (key.Label b) = refl
same_key_is (key.Counter a) (key.Setting b) = refl
same_key_is (key.Counter a) key.Uses = refl
same_key_is (key.Counter a) key.Ifs = refl
same_key_is (key.Counter a) key.Blocks = refl
same_key_is (key.Counter a) (key.Macro b) = refl
same_key_is (key.Counter a) (key.Kept b) = refl
same_key_is (key.Counter a) key.Locals = refl
same_key_is (key.Label a) key.Control = refl
same_key_is (key.Label a) (key.Counter b) = refl
same_key_is (key.Label a) (key.Label b) = refl
same_key_is (key.Label a) (key.Setting b) = refl
same_key_is (key.Label a) key.Uses = refl
same_key_is (key.Label a) key.Ifs = refl
same_key_is (key.Label a) key.Blocks = refl
same_key_is (key.Label a) (key.Macro b) = refl
same_key_is (key.Label a) (key.Kept b) = refl
same_key_is (key.Label a) key.Locals = refl
same_key_is (key.Setting a) key.Control = refl
same_key_is (key.Setting a) (key.Counter b) = refl
same_key_is (key.Setting a) (key.Label b) = refl
same_key_is (key.Setting a) (key.Setting b) = refl
same_key_is (key.Setting a) key.Uses = refl
same_key_is (key.Setting a) key.Ifs = refl
same_key_is (key.Setting a) key.Blocks = refl
same_key_is (key.Setting a) (key.Macro b) = refl
same_key_is (key.Setting a) (key.Kept b) = refl
same_key_is (key.Setting a) key.Locals = refl
same_key_is key.Uses key.Control = refl
same_key_is key.Uses (key.Counter b) = refl
same_key_is key.Uses (key.Label b) = refl
same_key_is key.Uses (key.Setting b) = refl
same_key_is key.Uses key.Uses = refl
same_key_is key.Uses key.Ifs = refl
same_key_is key.Uses key.Blocks = refl
same_key_is key.Uses (key.Macro b) = refl
same_key_is key.Uses (key.Kept b) = refl
same_key_is key.Uses key.Locals = refl
same_key_is key.Ifs key.Control = refl
same_key_is key.Ifs (key.Counter b) = refl
same_key_is key.Ifs (key.Label b) = refl
same_key_is key.Ifs (key.Setting b) = refl
same_key_is key.Ifs key.Uses = refl
same_key_is key.Ifs key.Ifs = refl
same_key_is key.Ifs key.Blocks = refl
same_key_is key.Ifs (key.Macro b) = refl
same_key_is key.Ifs (key.Kept b) = refl
same_key_is key.Ifs key.Locals = refl
same_key_is key.Blocks key.Control = refl
same_key_is key.Blocks (key.Counter b) = refl
same_key_is key.Blocks (key.Label b) = refl
same_key_is key.Blocks (key.Setting b) = refl
same_key_is key.Blocks key.Uses = refl
same_key_is key.Blocks key.Ifs = refl
same_key_is key.Blocks key.Blocks = refl
same_key_is key.Blocks (key.Macro b) = refl
same_key_is key.Blocks (key.Kept b) = refl
same_key_is key.Blocks key.Locals = refl
same_key_is (key.Macro a) key.Control = refl
same_key_is (key.Macro a) (key.Counter b) = refl
same_key_is (key.Macro a) (key.Label b) = refl
same_key_is (key.Macro a) (key.Setting b) = refl
same_key_is (key.Macro a) key.Uses = refl
same_key_is (key.Macro a) key.Ifs = refl
same_key_is (key.Macro a) key.Blocks = refl
same_key_is (key.Macro a) (key.Macro b) = refl
same_key_is (key.Macro a) (key.Kept b) = refl
same_key_is (key.Macro a) key.Locals = refl
same_key_is (key.Kept a) key.Control = refl
same_key_is (key.Kept a) (key.Counter b) = refl
same_key_is (key.Kept a) (key.Label b) = refl
same_key_is (key.Kept a) (key.Setting b) = refl
same_key_is (key.Kept a) key.Uses = refl
same_key_is (key.Kept a) key.Ifs = refl
same_key_is (key.Kept a) key.Blocks = refl
same_key_is (key.Kept a) (key.Macro b) = refl
same_key_is (key.Kept a) (key.Kept b) = refl
same_key_is (key.Kept a) key.Locals = refl
same_key_is key.Locals key.Control = refl
same_key_is key.Locals (key.Counter b) = refl
same_key_is key.Locals (key.Label b) = refl
same_key_is key.Locals (key.Setting b) = refl
same_key_is key.Locals key.Uses = refl
same_key_is key.Locals key.Ifs = refl
same_key_is key.Locals key.Blocks = refl
same_key_is key.Locals (key.Macro b) = refl
same_key_is key.Locals (key.Kept b) = refl
same_key_is key.Locals key.Locals = refl

equal-bytes : (xs ys : List ℕ) → pointwise ◌==◌ xs ys ≡ true → xs ≡ ys
equal-bytes [] [] h = refl
equal-bytes [] (y ∷ ys) h = cc
equal-bytes (x ∷ xs) [] h = cc
equal-bytes (x ∷ xs) (y ∷ ys) h = λ i. eqb-true x y (and-true-left (x == y) (pointwise ◌==◌ xs ys) h) i ∷ equal-bytes xs ys (and-true-right (x == y) (pointwise ◌==◌ xs ys) h) i

same_name-true : (a b : Name) → same_name a b ≡ true → a ≡ b
same_name-true a b h = λ i. record { bytes = equal-bytes a.bytes b.bytes h i }

same_block-true : (a b : Option Name) → same_block a b ≡ true → a ≡ b
same_block-true None None h = refl
same_block-true None (Some b) h = cc
same_block-true (Some a) None h = cc
same_block-true (Some a) (Some b) h = ap Some (same_name-true a b h)

-- equal keys are one key
pub same_key-true : (a b : Key) → same_key a b ≡ true → a ≡ b
same_key-true key.Control key.Control h = refl
same_key-true key.Control (key.Counter b) h = cc
same_key-true key.Control (key.Label b) h = cc
same_key-true key.Control (key.Setting b) h = cc
same_key-true key.Control key.Uses h = cc
same_key-true key.Control key.Ifs h = cc
same_key-true key.Control key.Blocks h = cc
same_key-true key.Control (key.Macro b) h = cc
same_key-true key.Control (key.Kept b) h = cc
same_key-true key.Control key.Locals h = cc
same_key-true (key.Counter a) key.Control h = cc
same_key-true (key.Counter a) (key.Counter b) h = ap key.Counter (same_block-true a b h)
same_key-true (key.Counter a) (key.Label b) h = cc
same_key-true (key.Counter a) (key.Setting b) h = cc
same_key-true (key.Counter a) key.Uses h = cc
same_key-true (key.Counter a) key.Ifs h = cc
same_key-true (key.Counter a) key.Blocks h = cc
same_key-true (key.Counter a) (key.Macro b) h = cc
same_key-true (key.Counter a) (key.Kept b) h = cc
same_key-true (key.Counter a) key.Locals h = cc
same_key-true (key.Label a) key.Control h = cc
same_key-true (key.Label a) (key.Counter b) h = cc
same_key-true (key.Label a) (key.Label b) h = ap key.Label (same_name-true a b h)
same_key-true (key.Label a) (key.Setting b) h = cc
same_key-true (key.Label a) key.Uses h = cc
same_key-true (key.Label a) key.Ifs h = cc
same_key-true (key.Label a) key.Blocks h = cc
same_key-true (key.Label a) (key.Macro b) h = cc
same_key-true (key.Label a) (key.Kept b) h = cc
same_key-true (key.Label a) key.Locals h = cc
same_key-true (key.Setting a) key.Control h = cc
same_key-true (key.Setting a) (key.Counter b) h = cc
same_key-true (key.Setting a) (key.Label b) h = cc
same_key-true (key.Setting a) (key.Setting b) h = ap key.Setting (same_name-true a b h)
same_key-true (key.Setting a) key.Uses h = cc
same_key-true (key.Setting a) key.Ifs h = cc
same_key-true (key.Setting a) key.Blocks h = cc
same_key-true (key.Setting a) (key.Macro b) h = cc
same_key-true (key.Setting a) (key.Kept b) h = cc
same_key-true (key.Setting a) key.Locals h = cc
same_key-true key.Uses key.Control h = cc
same_key-true key.Uses (key.Counter b) h = cc
same_key-true key.Uses (key.Label b) h = cc
same_key-true key.Uses (key.Setting b) h = cc
same_key-true key.Uses key.Uses h = refl
same_key-true key.Uses key.Ifs h = cc
same_key-true key.Uses key.Blocks h = cc
same_key-true key.Uses (key.Macro b) h = cc
same_key-true key.Uses (key.Kept b) h = cc
same_key-true key.Uses key.Locals h = cc
same_key-true key.Ifs key.Control h = cc
same_key-true key.Ifs (key.Counter b) h = cc
same_key-true key.Ifs (key.Label b) h = cc
same_key-true key.Ifs (key.Setting b) h = cc
same_key-true key.Ifs key.Uses h = cc
same_key-true key.Ifs key.Ifs h = refl
same_key-true key.Ifs key.Blocks h = cc
same_key-true key.Ifs (key.Macro b) h = cc
same_key-true key.Ifs (key.Kept b) h = cc
same_key-true key.Ifs key.Locals h = cc
same_key-true key.Blocks key.Control h = cc
same_key-true key.Blocks (key.Counter b) h = cc
same_key-true key.Blocks (key.Label b) h = cc
same_key-true key.Blocks (key.Setting b) h = cc
same_key-true key.Blocks key.Uses h = cc
same_key-true key.Blocks key.Ifs h = cc
same_key-true key.Blocks key.Blocks h = refl
same_key-true key.Blocks (key.Macro b) h = cc
same_key-true key.Blocks (key.Kept b) h = cc
same_key-true key.Blocks key.Locals h = cc
same_key-true (key.Macro a) key.Control h = cc
same_key-true (key.Macro a) (key.Counter b) h = cc
same_key-true (key.Macro a) (key.Label b) h = cc
same_key-true (key.Macro a) (key.Setting b) h = cc
same_key-true (key.Macro a) key.Uses h = cc
same_key-true (key.Macro a) key.Ifs h = cc
same_key-true (key.Macro a) key.Blocks h = cc
same_key-true (key.Macro a) (key.Macro b) h = ap key.Macro (same_name-true a b h)
same_key-true (key.Macro a) (key.Kept b) h = cc
same_key-true (key.Macro a) key.Locals h = cc
same_key-true (key.Kept a) key.Control h = cc
same_key-true (key.Kept a) (key.Counter b) h = cc
same_key-true (key.Kept a) (key.Label b) h = cc
same_key-true (key.Kept a) (key.Setting b) h = cc
same_key-true (key.Kept a) key.Uses h = cc
same_key-true (key.Kept a) key.Ifs h = cc
same_key-true (key.Kept a) key.Blocks h = cc
same_key-true (key.Kept a) (key.Macro b) h = cc
same_key-true (key.Kept a) (key.Kept b) h = ap key.Kept (eqb-true a b h)
same_key-true (key.Kept a) key.Locals h = cc
same_key-true key.Locals key.Control h = cc
same_key-true key.Locals (key.Counter b) h = cc
same_key-true key.Locals (key.Label b) h = cc
same_key-true key.Locals (key.Setting b) h = cc
same_key-true key.Locals key.Uses h = cc
same_key-true key.Locals key.Ifs h = cc
same_key-true key.Locals key.Blocks h = cc
same_key-true key.Locals (key.Macro b) h = cc
same_key-true key.Locals (key.Kept b) h = cc
same_key-true key.Locals key.Locals h = refl

pub last_put-push : (ps : List Put) (p : Put) (k : Key) → last_put (ps ++ p ∷ []) k ≡ (if same_key p.key k then Some p.answer else last_put ps k)
last_put-push [] p k = refl
last_put-push (x ∷ ps) p k =
    ap (λ o. option_or o (if same_key x.key k then Some x.answer else None)) (last_put-push ps p k)
    ∙ elim (same_key p.key k) as (λ b. option_or (if b then Some p.answer else last_put ps k) (if same_key x.key k then Some x.answer else None) ≡ (if b then Some p.answer else option_or (last_put ps k) (if same_key x.key k then Some x.answer else None))) [ true ↦ refl | false ↦ refl ]

pub last_ask-push : (es : List Asked) (e : Asked) (k : Key) → last_ask (es ++ e ∷ []) k ≡ (if same_key e.key k then Some e.answer else last_ask es k)
last_ask-push [] e k = refl
last_ask-push (x ∷ es) e k =
    ap (λ o. option_or o (if same_key x.key k then Some x.answer else None)) (last_ask-push es e k)
    ∙ elim (same_key e.key k) as (λ b. option_or (if b then Some e.answer else last_ask es k) (if same_key x.key k then Some x.answer else None) ≡ (if b then Some e.answer else option_or (last_ask es k) (if same_key x.key k then Some x.answer else None))) [ true ↦ refl | false ↦ refl ]

none_told : (o : Option Answer) (a : Option (Option Answer)) → option_or (option_map Some o) a ≡ None → option_map Some o ≡ None
none_told None a h = refl
none_told (Some x) a h = cc

-- one more put
pub known_in-put : (es : List Asked) (ps : List Put) (p : Put) (k : Key) → known_in es (ps ++ p ∷ []) k ≡ (if same_key p.key k then Some (Some p.answer) else known_in es ps k)
known_in-put es ps p k =
    ap (λ o. option_or (option_map Some o) (last_ask es k)) (last_put-push ps p k)
    ∙ elim (same_key p.key k) as (λ b. option_or (option_map Some (if b then Some p.answer else last_put ps k)) (last_ask es k) ≡ (if b then Some (Some p.answer) else known_in es ps k)) [ true ↦ refl | false ↦ refl ]

-- one more ask, where the key was not known
pub known_in-ask : (es : List Asked) (ps : List Put) (e : Asked) (k : Key) → known_in es ps e.key ≡ None → known_in (es ++ e ∷ []) ps k ≡ (if same_key e.key k then Some e.answer else known_in es ps k)
known_in-ask es ps e k new =
    let none_put : option_map Some (last_put ps e.key) ≡ None = none_told (last_put ps e.key) (last_ask es e.key) new in
    ap (option_or (option_map Some (last_put ps k))) (last_ask-push es e k)
    ∙ elim (same_key e.key k) as (λ b. same_key e.key k ≡ b → option_or (option_map Some (last_put ps k)) (if b then Some e.answer else last_ask es k) ≡ (if b then Some e.answer else known_in es ps k)) [
      | true ↦ λ h. ap (λ o. option_or o (Some e.answer)) (ap (λ q. option_map Some (last_put ps q)) (sym (same_key-true e.key k h)) ∙ none_put)
      | false ↦ λ h. refl
    ] refl
