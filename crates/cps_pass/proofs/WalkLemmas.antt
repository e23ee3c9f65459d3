-- The statements of an expansion, one more.
use Rattle.std.proofs.Common.{◌≡◌, Result, Ok, Err, map, append-nil, refl, sym, ap, ◌∙◌, ℕ, zero, suc, ◌+◌, ◌-◌, ◌<◌, ◌≤◌, List, [], ◌∷◌, ◌++◌, Option, Some, None, true, false, Bool, length, get_or, drop, arith}
use Rattle.std.proofs.lemmas.List.{drop_more}
use Rattle.std.specs.Prelude.{IfOk}
use Rattle.cps_text.specs.Insertion.{Pairs, inserted}
use Rattle.cps_state.specs.Course.{Course, stop, begin, settle, Part, ◌before◌, nothing, run, started}
use Rattle.cps_state.specs.Code.Line.{Line, runs, line_started, line_settled, goes_on, Goes}
use Rattle.cps_state.proofs.LineLemmas.{runs-before, runs-done}
use Rattle.cps_state.specs.declared.item.Item.{Item}
use Rattle.cps_state.specs.Keys.{State}
use Rattle.cps_pass.specs.declared.opened.Opened.{Opened}
use Rattle.cps_pass.specs.declared.scope.Scope.{Scope}
use Rattle.cps_pass.specs.declared.scope.Scope.TheVariants.{Source, Expansion}
use Rattle.cps_pass.specs.Expansion.{ended, walk, body, too_deep, line_part}
use Rattle.cps_pass.specs.Treating.{repeated}
use Rattle.cps_pass.specs.Meaning.{statement}
use Rattle.cps_pass.specs.Locals.{naming_all}
use Rattle.cps_pass.specs.Code.Naming.{Names}
use Rattle.cps_pass.specs.Code.Opened.{opening_of}
use Rattle.cps_pass.specs.Opening.{Opening, plain, naming, none_opened}
use Rattle.cps_pass.specs.Own.{new_expansion}
use Rattle.cps_pass.specs.Code.Taking.{HandsOn, Walks}

-- a statement, and then those after it
pub walked : {S : Type 0} (nested : ℕ → Opening → Part) (depth : ℕ) (texts : List (List ℕ)) (i : ℕ) (text : List ℕ) (scope later : Scope) (opened : Opening) (complete : Bool) (f : S → State) (s t u v : Line S)
    → i < length texts → text ≡ get_or texts i text
    → Goes (begin depth text) true f s t
    → HandsOn (statement scope text) later opened f t u
    → Goes (nested (depth + 1) opened) complete f u v
    → (next : Scope → Part) (rest : Course) → runs (walk nested depth scope (drop i texts) next rest) f s ≡ goes_on complete (walk nested depth later (drop (i + 1) texts) next rest) f v
walked nested depth texts i text scope later opened complete f s t u v lt is begins obeys nests next rest =
    let behind : List (List ℕ) = drop (i + 1) texts in
    ap (λ xs. runs (walk nested depth scope xs next rest) f s) (drop_more texts i text lt)
    ∙ ap (λ (x : List ℕ). runs (walk nested depth scope (x ∷ behind) next rest) f s) (sym is)
    ∙ begins (statement scope text (λ after lines. nested (depth + 1) lines before walk nested depth after behind next) rest)
    ∙ obeys (λ after lines. nested (depth + 1) lines before walk nested depth after behind next) rest
    ∙ nests (walk nested depth later behind next rest)

-- a statement that is too much
pub cut : {S : Type 0} (nested : ℕ → Opening → Part) (depth : ℕ) (texts : List (List ℕ)) (i : ℕ) (text : List ℕ) (scope : Scope) (f : S → State) (s t : Line S)
    → i < length texts → text ≡ get_or texts i text
    → Goes (begin depth text) false f s t
    → (next : Scope → Part) (rest : Course) → runs (walk nested depth scope (drop i texts) next rest) f s ≡ (t, false)
cut nested depth texts i text scope f s t lt is begins next rest =
    let behind : List (List ℕ) = drop (i + 1) texts in
    ap (λ xs. runs (walk nested depth scope xs next rest) f s) (drop_more texts i text lt)
    ∙ ap (λ (x : List ℕ). runs (walk nested depth scope (x ∷ behind) next rest) f s) (sym is)
    ∙ begins (statement scope text (λ after lines. nested (depth + 1) lines before walk nested depth after behind next) rest)

-- an expansion without statements
pub body-empty : (n depth : ℕ) → body n depth none_opened ≡ nothing
unfolding body
body-empty zero depth = refl
body-empty (suc n) depth = refl

pub body-next : (n depth : ℕ) (texts : List (List ℕ)) → body (suc n) depth (plain texts) ≡ walk (body n) depth (Expansion new_expansion) texts ended
unfolding body
body-next n depth texts = refl

-- statements, and then others
pub walk-append : (nested : ℕ → Opening → Part) (depth : ℕ) (xs ys : List (List ℕ)) (next : Scope → Part) (scope : Scope)
    → walk nested depth scope (xs ++ ys) next ≡ walk nested depth scope xs (λ later. walk nested depth later ys next)
walk-append nested depth [] ys next scope = refl
walk-append nested depth (text ∷ xs) ys next scope =
    ap (λ (g : Scope → Part). λ (rest : Course). begin depth text (statement scope text (λ later opened. nested (depth + 1) opened before g later) rest)) (λ i later. walk-append nested depth xs ys next later i)

-- what a part did, by how it ended
pub goes-as : {S : Type 0} (part : Part) (w b : Bool) (f : S → State) (s t : Line S) → w ≡ b → Goes part w f s t → Goes part b f s t
goes-as part w b f s t same goes rest = goes rest ∙ ap (λ x. goes_on x rest f t) same

pub begins-as : {S : Type 0} (depth : ℕ) (shared text : List ℕ) (w b : Bool) (f : S → State) (s t : Line S) → shared ≡ text → w ≡ b → Goes (begin depth shared) w f s t → Goes (begin depth text) b f s t
begins-as depth shared text w b f s t same so goes rest =
    ap (λ (x : List ℕ). runs (begin depth x rest) f s) (sym same) ∙ goes-as (begin depth shared) w b f s t so goes rest

pub obeys-as : {S : Type 0} (scope later : Scope) (slice text : List ℕ) (opened : Opening) (f : S → State) (s t : Line S) → slice ≡ text
    → HandsOn (statement scope slice) later opened f s t → HandsOn (statement scope text) later opened f s t
obeys-as scope later slice text opened f s t same hands behind rest = ap (λ (x : List ℕ). runs (statement scope x behind rest) f s) (sym same) ∙ hands behind rest

pub walks-as : {S : Type 0} (nested : ℕ → Opening → Part) (depth : ℕ) (scope later : Scope) (slice texts : List (List ℕ)) (w b : Bool) (f : S → State) (s t : Line S) → slice ≡ texts → w ≡ b
    → Walks (walk nested depth scope slice) w later f s t → Walks (walk nested depth scope texts) b later f s t
walks-as nested depth scope later slice texts w b f s t same so walks next rest =
    ap (λ (xs : List (List ℕ)). runs (walk nested depth scope xs next rest) f s) (sym same) ∙ walks next rest ∙ ap (λ x. goes_on x (next later rest) f t) so

-- what a statement opened
pub opened-some : {S : Type 0} (n p depth : ℕ) (o : Option Opened) (x : Opened) (w b : Bool) (f : S → State) (s t : Line S) → o ≡ Some x → n ≡ p → w ≡ b
    → Goes (body n depth (opening_of (Some x))) w f s t → Goes (body p depth (opening_of o)) b f s t
opened-some n p depth o x w b f s t some same so goes rest =
    ap (λ q. runs (body p depth (opening_of q) rest) f s) some
    ∙ ap (λ m. runs (body m depth (opening_of (Some x)) rest) f s) (sym same)
    ∙ goes-as (body n depth (opening_of (Some x))) w b f s t so goes rest

pub opened-none : {S : Type 0} (p depth : ℕ) (o : Option Opened) (f : S → State) (s : Line S) → o ≡ None → Goes (body p depth (opening_of o)) true f s s
opened-none p depth o f s none rest =
    ap (λ q. runs (body p depth (opening_of q) rest) f s) none ∙ ap (λ (part : Part). runs (part rest) f s) (body-empty p depth)

-- a turn, and then the others
repeated-next : (n i : ℕ) (texts : List (List ℕ)) → i < n → repeated (n - i) texts ≡ texts ++ repeated (n - (i + 1)) texts
repeated-next n i texts lt =
    let e : n - i ≡ suc (n - (i + 1)) = omega arith in
    ap (λ k. repeated k texts) e

pub one-turn : {S : Type 0} (nested : ℕ → Opening → Part) (depth n i : ℕ) (texts : List (List ℕ)) (scope later : Scope) (complete : Bool) (f : S → State) (s t : Line S) → i < n
    → Walks (walk nested depth scope texts) complete later f s t
    → (next : Scope → Part) (rest : Course) → runs (walk nested depth scope (repeated (n - i) texts) next rest) f s ≡ goes_on complete (walk nested depth later (repeated (n - (i + 1)) texts) next rest) f t
one-turn nested depth n i texts scope later complete f s t lt walks next rest =
    ap (λ xs. runs (walk nested depth scope xs next rest) f s) (repeated-next n i texts lt)
    ∙ ap (λ (part : Part). runs (part rest) f s) (walk-append nested depth texts (repeated (n - (i + 1)) texts) next scope)
    ∙ walks (λ after. walk nested depth after (repeated (n - (i + 1)) texts) next) rest

-- all turns
body-of : (depth : ℕ) (texts : List (List ℕ)) → depth ≤ too_deep → body (too_deep + 1 - depth) depth (plain texts) ≡ walk (body (too_deep - depth)) depth (Expansion new_expansion) texts ended
body-of depth texts le =
    let e : too_deep + 1 - depth ≡ suc (too_deep - depth) = omega arith in
    ap (λ n. body n depth (plain texts)) e ∙ body-next (too_deep - depth) depth texts

pub body-as : {S : Type 0} (depth : ℕ) (texts : List (List ℕ)) (f : S → State) (s : Line S) → depth ≤ too_deep → (rest : Course)
    → runs (body (too_deep + 1 - depth) depth (plain texts) rest) f s ≡ runs (walk (body (too_deep - depth)) depth (Expansion new_expansion) texts ended rest) f s
body-as depth texts f s le rest = ap (λ (part : Part). runs (part rest) f s) (body-of depth texts le)

-- a body with LOCAL lines
body-named : (n depth : ℕ) (pairs : Pairs) (locals lines : List (List ℕ))
    → body (suc n) depth (naming pairs locals lines) ≡ naming_all depth pairs locals (λ named. walk (body n) depth (Expansion new_expansion) (map (inserted named) lines) ended)
unfolding body
body-named n depth pairs locals lines = refl

body-named-of : (depth : ℕ) (pairs : Pairs) (locals lines : List (List ℕ)) → depth ≤ too_deep → body (too_deep + 1 - depth) depth (naming pairs locals lines)
    ≡ naming_all depth pairs locals (λ named. walk (body (too_deep - depth)) depth (Expansion new_expansion) (map (inserted named) lines) ended)
body-named-of depth pairs locals lines le =
    let e : too_deep + 1 - depth ≡ suc (too_deep - depth) = omega arith in
    ap (λ n. body n depth (naming pairs locals lines)) e ∙ body-named (too_deep - depth) depth pairs locals lines

-- LOCAL lines, by what stood for names in front and by how they ended
pub names-as : {S : Type 0} (depth : ℕ) (known pairs more : Pairs) (slice lines : List (List ℕ)) (w b : Bool) (f : S → State) (s t : Line S) → known ≡ pairs → slice ≡ lines → w ≡ b
    → Names (naming_all depth known slice) w more f s t → Names (naming_all depth pairs lines) b more f s t
names-as depth known pairs more slice lines w b f s t same are so names next rest =
    ap (λ (ps : Pairs). runs (naming_all depth ps lines next rest) f s) (sym same)
    ∙ ap (λ (xs : List (List ℕ)). runs (naming_all depth known xs next rest) f s) (sym are)
    ∙ names next rest ∙ ap (λ x. goes_on x (next more rest) f t) so

pub called : {S : Type 0} (depth : ℕ) (pairs named : Pairs) (locals lines texts : List (List ℕ)) (complete : Bool) (f : S → State) (s t u : Line S) → depth ≤ too_deep
    → Names (naming_all depth pairs locals) true named f s t → texts ≡ map (inserted named) lines
    → Goes (body (too_deep + 1 - depth) depth (plain (repeated 1 texts))) complete f t u
    → Goes (body (too_deep + 1 - depth) depth (naming pairs locals lines)) complete f s u
called depth pairs named locals lines texts complete f s t u le names are goes = λ rest.
    let ends : Pairs → Part = λ found. walk (body (too_deep - depth)) depth (Expansion new_expansion) (map (inserted found) lines) ended in
    ap (λ (part : Part). runs (part rest) f s) (body-named-of depth pairs locals lines le)
    ∙ names ends rest
    ∙ ap (λ (xs : List (List ℕ)). runs (walk (body (too_deep - depth)) depth (Expansion new_expansion) xs ended rest) f t) (sym (append-nil texts ∙ are))
    ∙ sym (body-as depth (repeated 1 texts) f t le rest)
    ∙ goes rest

pub called-if : {S V : Type 0} (depth : ℕ) (pairs named : Pairs) (locals lines texts : List (List ℕ)) (r : Result Bool V) (f : S → State) (s t u : Line S) → depth ≤ too_deep
    → Names (naming_all depth pairs locals) true named f s t → texts ≡ map (inserted named) lines
    → IfOk r (λ complete. Goes (body (too_deep + 1 - depth) depth (plain (repeated 1 texts))) complete f t u)
    → IfOk r (λ complete. Goes (body (too_deep + 1 - depth) depth (naming pairs locals lines)) complete f s u)
called-if depth pairs named locals lines texts (Ok complete) f s t u le names are goes = called depth pairs named locals lines texts complete f s t u le names are goes
called-if depth pairs named locals lines texts (Err fault) f s t u le names are goes = tt

-- a LOCAL line is too much
pub called-cut : {S : Type 0} (depth : ℕ) (pairs named : Pairs) (locals lines : List (List ℕ)) (f : S → State) (s t : Line S) → depth ≤ too_deep
    → Names (naming_all depth pairs locals) false named f s t → Goes (body (too_deep + 1 - depth) depth (naming pairs locals lines)) false f s t
called-cut depth pairs named locals lines f s t le names = λ rest.
    let ends : Pairs → Part = λ found. walk (body (too_deep - depth)) depth (Expansion new_expansion) (map (inserted found) lines) ended in
    ap (λ (part : Part). runs (part rest) f s) (body-named-of depth pairs locals lines le) ∙ names ends rest

-- no turn is left
pub no-turn : {S : Type 0} (nested : ℕ → Opening → Part) (depth n i : ℕ) (texts : List (List ℕ)) (scope : Scope) (f : S → State) (s : Line S) → n ≤ i
    → (next : Scope → Part) (rest : Course) → runs (walk nested depth scope (repeated (n - i) texts) next rest) f s ≡ runs (next scope rest) f s
no-turn nested depth n i texts scope f s le next rest =
    let e : n - i ≡ 0 = omega arith in
    ap (λ k. runs (walk nested depth scope (repeated k texts) next rest) f s) e

at-end : {S : Type 0} (complete : Bool) (f : S → State) (t : Line S) → goes_on complete stop f t ≡ (t, complete)
at-end true f t = refl
at-end false f t = refl

-- a line, by what its statement opened
pub lined : {S : Type 0} (text : List ℕ) (later : Scope) (o : Option Opened) (complete : Bool) (f : S → State) (r s u t : Line S) → HandsOn (statement Source text) later (opening_of o) f r s
    → u ≡ line_settled s → Goes (body too_deep 1 (opening_of o)) complete f u t → runs (line_part text stop) f r ≡ (t, complete)
lined text later o complete f r s u t hands settled goes =
    hands (λ after opened. settle before body too_deep 1 opened) stop
    ∙ ap (λ v. runs (body too_deep 1 (opening_of o) stop) f v) (sym settled)
    ∙ goes stop
    ∙ at-end complete f t

-- what a line did in its state
pub done-is : {S : Type 0} (course : Course) (f : S → State) (context : List Item) (state : S) (t : Line S) (complete : Bool)
    → runs course f (line_started context state) ≡ (t, complete) → (t.done, complete) ≡ run course (f state) started
done-is {S} course f context state t complete is = ap (λ (r : Line S × Bool). (r.0.done, r.1)) (sym is) ∙ runs-done course f state context started

-- the statements of the lines before stay
pub before-stays : {S : Type 0} (course : Course) (f : S → State) (context : List Item) (state : S) (t : Line S) (complete : Bool)
    → runs course f (line_started context state) ≡ (t, complete) → t.before ≡ context
before-stays {S} course f context state t complete is = ap (λ (r : Line S × Bool). r.0.before) (sym is) ∙ runs-before course f state context started
