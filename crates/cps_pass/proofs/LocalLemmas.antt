-- The LOCAL lines of a call, one more.
use Rattle.std.proofs.Common.{◌≡◌, sym, ap, ◌∙◌, ℕ, ◌+◌, ◌<◌, ◌≤◌, List, ◌∷◌, Bool, true, false, length, get_or, drop}
use Rattle.std.proofs.lemmas.List.{drop_more, drop_all}
use Rattle.cps_text.specs.Insertion.{Pairs}
use Rattle.cps_state.specs.Course.{Course, begin, Part}
use Rattle.cps_state.specs.Code.Line.{Line, runs, goes_on, Goes}
use Rattle.cps_state.specs.Keys.{State}
use Rattle.cps_text.specs.CardIn.{card_in}
use Rattle.cps_pass.specs.Locals.{local_in, naming_all}
use Rattle.cps_pass.specs.Code.Naming.{Names}

-- a line, and then those behind it
pub named : {S : Type 0} (depth : ℕ) (texts : List (List ℕ)) (i : ℕ) (text : List ℕ) (pairs more : Pairs) (complete : Bool) (f : S → State) (s t u : Line S)
    → i < length texts → text ≡ get_or texts i text
    → Goes (begin depth text) true f s t
    → Names (local_in pairs (card_in text)) complete more f t u
    → (next : Pairs → Part) (rest : Course) → runs (naming_all depth pairs (drop i texts) next rest) f s ≡ goes_on complete (naming_all depth more (drop (i + 1) texts) next rest) f u
named depth texts i text pairs more complete f s t u lt is begins names next rest =
    let behind : List (List ℕ) = drop (i + 1) texts in
    ap (λ xs. runs (naming_all depth pairs xs next rest) f s) (drop_more texts i text lt)
    ∙ ap (λ (x : List ℕ). runs (naming_all depth pairs (x ∷ behind) next rest) f s) (sym is)
    ∙ begins (local_in pairs (card_in text) (λ later. naming_all depth later behind next) rest)
    ∙ names (λ later. naming_all depth later behind next) rest

-- a line that is too much
pub named-cut : {S : Type 0} (depth : ℕ) (texts : List (List ℕ)) (i : ℕ) (text : List ℕ) (pairs : Pairs) (f : S → State) (s t : Line S)
    → i < length texts → text ≡ get_or texts i text
    → Goes (begin depth text) false f s t
    → (next : Pairs → Part) (rest : Course) → runs (naming_all depth pairs (drop i texts) next rest) f s ≡ (t, false)
named-cut depth texts i text pairs f s t lt is begins next rest =
    let behind : List (List ℕ) = drop (i + 1) texts in
    ap (λ xs. runs (naming_all depth pairs xs next rest) f s) (drop_more texts i text lt)
    ∙ ap (λ (x : List ℕ). runs (naming_all depth pairs (x ∷ behind) next rest) f s) (sym is)
    ∙ begins (local_in pairs (card_in text) (λ later. naming_all depth later behind next) rest)

-- no line is left
pub named-all : {S : Type 0} (depth : ℕ) (texts : List (List ℕ)) (i : ℕ) (pairs : Pairs) (f : S → State) (s : Line S) → length texts ≤ i
    → (next : Pairs → Part) (rest : Course) → runs (naming_all depth pairs (drop i texts) next rest) f s ≡ runs (next pairs rest) f s
named-all depth texts i pairs f s le next rest = ap (λ (xs : List (List ℕ)). runs (naming_all depth pairs xs next rest) f s) (drop_all i texts le)

-- by how a part ended, and with which text
pub begins-as : {S : Type 0} (depth : ℕ) (shared text : List ℕ) (w b : Bool) (f : S → State) (s t : Line S) → shared ≡ text → w ≡ b → Goes (begin depth shared) w f s t → Goes (begin depth text) b f s t
begins-as depth shared text w b f s t same so goes rest =
    ap (λ (x : List ℕ). runs (begin depth x rest) f s) (sym same) ∙ goes rest ∙ ap (λ x. goes_on x rest f t) so

pub names-as : {S : Type 0} (pairs more : Pairs) (slice text : List ℕ) (w b : Bool) (f : S → State) (s t : Line S) → slice ≡ text → w ≡ b
    → Names (local_in pairs (card_in slice)) w more f s t → Names (local_in pairs (card_in text)) b more f s t
names-as pairs more slice text w b f s t same so names next rest =
    ap (λ (x : List ℕ). runs (local_in pairs (card_in x) next rest) f s) (sym same) ∙ names next rest ∙ ap (λ x. goes_on x (next more rest) f t) so
