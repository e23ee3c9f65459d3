-- A statement that is assembled: what it reads and puts first, and then what it says, by which it may open others.
use Rattle.std.proofs.Common.{ℕ, List, [], ◌∷◌, ◌≡◌, ◌∙◌, refl, sym, Bool, true, false, true≢false, if◌then◌else◌, Result, Ok, Err, Option, Some, None, subst}
use Rattle.std.specs.Prelude.{IfOk, is_some, bytes_eq, ◌==◌, length}
use Rattle.std.proofs.lemmas.Option.{none-some}
use Rattle.cps_text.specs.Card.{StatementFields, StatementLine}
use Rattle.cps_state.specs.declared.key.Control.{Control}
use Rattle.cps_state.specs.Course.{Part}
use Rattle.cps_state.specs.Keys.{State}
use Rattle.cps_state.specs.Code.Line.{Line, Hands}
use Rattle.cps_code.specs.Builtin.{is_operation}
use Rattle.cps_code.specs.PeripheralTable.{is_operation as is_peripheral_operation}
use Rattle.cps_pass.specs.declared.reading.Location.{Location}
use Rattle.cps_pass.specs.declared.reading.Reading.{Reading}
use Rattle.cps_expr.specs.declared.machine.Machine.{Machine}
use Rattle.cps_expr.specs.declared.machine.Machine.TheVariants.{Cp, Pp}
use Rattle.cps_expr.specs.declared.operation.Operation.{Operation}
use Rattle.cps_expr.specs.declared.radix.Radix.{Radix}
use Rattle.cps_expr.specs.Operation.{operations, operation_named}
use Rattle.cps_expr.specs.Statement.{row_with}
use Rattle.cps_expr.specs.declared.expr.ExprFault.{ExprFault}
use Rattle.cps_expr.specs.declared.expr.ExprFault.TheVariants.{Unreadable}
use Rattle.cps_expr.specs.Reads.{Reads}
use Rattle.cps_pass.specs.Reading.{location_in, instruction_in, row_or_none, reading_in}
use Rattle.cps_pass.specs.Head.{leaving_head}
use Rattle.cps_pass.specs.declared.opened.Opened.{Opened}
use Rattle.cps_pass.specs.declared.scope.Scope.{Scope}
use Rattle.cps_pass.specs.Meaning.{stays_in_head, stated, assembled_as, assembled}
use Rattle.cps_pass.specs.Code.Opened.{opening_of}
use Rattle.cps_pass.specs.Scope.{Behind}
use Rattle.cps_pass.specs.Code.Taking.{HandsOn}

handed-opens : {T V S : Type 0} (part : (T → Part) → Part) (value : T) (next : T → Behind → Part) (later : Scope) (f : S → State) (s t u : Line S) (r : Result (Option Opened) V)
    → Hands part value f s t → IfOk r (λ opened. HandsOn (next value) later (opening_of opened) f t u)
    → IfOk r (λ opened. HandsOn (λ behind. part (λ x. next x behind)) later (opening_of opened) f s u)
handed-opens part value next later f s t u (Ok opened) hands does = λ behind rest. hands (λ x. next x behind) rest ∙ does behind rest
handed-opens part value next later f s t u (Err fault) hands does = tt

-- a statement is read, the head ends unless the statement stays in it, and then the statement is done
pub assembled-opens : {V S : Type 0} (control there : Control) (scope later : Scope) (statement : StatementFields) (location : Location) (reading : Reading) (stays : Bool)
    (f : S → State) (s t u : Line S) (r : Result (Option Opened) V)
    → location ≡ location_in statement.location → reading ≡ reading_in control.machine control.radix statement.operation statement.tail → stays ≡ stays_in_head reading
    → Hands (leaving_head stays control) there f s t → IfOk r (λ opened. HandsOn (stated there scope location statement.tail reading) later (opening_of opened) f t u)
    → IfOk r (λ opened. HandsOn (assembled control scope (StatementLine statement)) later (opening_of opened) f s u)
assembled-opens control there scope later statement location reading stays f s t u r located read stay hands does =
    subst (λ (l : Location). IfOk r (λ opened. HandsOn (assembled_as control scope l statement.tail (reading_in control.machine control.radix statement.operation statement.tail)) later (opening_of opened) f s u)) located
    (subst (λ (said : Reading). IfOk r (λ opened. HandsOn (assembled_as control scope location statement.tail said) later (opening_of opened) f s u)) read
    (subst (λ (b : Bool). IfOk r (λ opened. HandsOn (λ behind. leaving_head b control (λ x. stated x scope location statement.tail reading behind)) later (opening_of opened) f s u)) stay
    (handed-opens (leaving_head stays control) there (λ x. stated x scope location statement.tail reading) later f s t u r hands does)))

pub there-is : (operation : List ℕ) → false ≡ (length operation == 0) → bytes_eq operation [] ≡ false
there-is [] full = sym full
there-is (c ∷ cs) full = refl

-- an operation that the statement table doesn't have: an instruction, or a macro's call
pub unnamed-said : (machine : Machine) (radix : Radix) (operation tail : List ℕ) → bytes_eq operation [] ≡ false → operation_named operation ≡ None
    → instruction_in machine radix operation tail ≡ reading_in machine radix operation tail
unnamed-said machine radix operation tail there unnamed = rw (there, unnamed) refl

not-named : operation_named [] ≡ None
unfolding operations
not-named = refl

-- one that it has isn't empty
pub named-said : (machine : Machine) (radix : Radix) (operation tail : List ℕ) (named : Operation) → operation_named operation ≡ Some named
    → row_or_none named (row_with named tail machine radix) ≡ reading_in machine radix operation tail
named-said machine radix [] tail named is = absurd (none-some named (sym not-named ∙ is))
named-said machine radix (c ∷ cs) tail named is = rw is refl

none-of : {T : Type 0} (written : Option T) → is_some written ≡ false → None ≡ written
none-of None empty = refl
none-of (Some value) empty = absurd (true≢false empty)

-- what can't be read isn't written
pub unread : {T : Type 0} (read : Result T ExprFault) (written : Option T) (fault : ExprFault) → read ≡ Err fault → fault ≡ Unreadable → Reads read written → None ≡ written
unread read written fault is unreadable reads =
    none-of written (subst (λ f. Reads (Err f) written) unreadable (subst (λ r. Reads r written) is reads))

leaves-if : (is : Bool) (x y : Reading) → false ≡ stays_in_head x → false ≡ stays_in_head y → false ≡ stays_in_head (if is then x else y)
leaves-if true x y first second = first
leaves-if false x y first second = second

-- an instruction and a macro's call end the head
pub instruction-leaves : (machine : Machine) (radix : Radix) (operation tail : List ℕ) → false ≡ stays_in_head (instruction_in machine radix operation tail)
instruction-leaves Cp radix operation tail = leaves-if (is_operation operation) _ _ refl refl
instruction-leaves Pp radix operation tail = leaves-if (is_peripheral_operation operation) _ _ refl refl
