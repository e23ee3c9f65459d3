-- The definitions, computed on small examples.
use Rattle.std.specs.Prelude.{◌≡◌, ℕ, true, false, List, [], ◌∷◌, ◌++◌, drop, codes, None, Some, option_map, refl}
use Rattle.cps_text.specs.Arguments.{has_unclosed, arguments_of}
use Rattle.cps_text.specs.Card.{CommentLine, ContinuedLine, StatementLine, fields_of}
use Rattle.cps_text.specs.ItemInFront.{item_in_front, item_len}
use Rattle.cps_text.specs.Display.{display_characters, display_of}
use Rattle.cps_text.specs.Insertion.{Pairs, inserted}
use Rattle.cps_text.specs.Name.{name_of, name_text, generated_name, generated_text, was_generated}
use Rattle.cps_text.specs.Octal.{octal}
use Rattle.cps_text.specs.Operands.{operands_of}
use Rattle.cps_text.specs.Parts.{parts_up_to, parts_from}
use Rattle.cps_text.specs.Symbol.{padded}
use Rattle.cps_text.specs.Text.{capitals}
use Rattle.cps_text.specs.declared.name.Name.{Name}

low_digits : octal 3 0o7254 ≡ codes "254"
unfolding octal
low_digits = refl

colon : display_of 58 ≡ Some 0
unfolding display_characters
colon = refl

small_z : display_of 122 ≡ Some 0o32
unfolding display_characters
small_z = refl

nine : display_of 57 ≡ Some 0o44
unfolding display_characters
nine = refl

blank : display_of 32 ≡ Some 0o55
unfolding display_characters
blank = refl

semicolon : display_of 59 ≡ Some 0o77
unfolding display_characters
semicolon = refl

no_tilde : display_of 126 ≡ None
unfolding display_characters
no_tilde = refl

whole_statement : fields_of (codes "START    SA1     B1+3   FIRST WORD") ≡ StatementLine (record { location = codes "START"; operation = codes "SA1"; variable = codes "B1+3"; comment = codes "FIRST WORD"; tail = codes "B1+3   FIRST WORD" })
whole_statement = refl

second_column : fields_of (codes " L  NO") ≡ StatementLine (record { location = codes "L"; operation = codes "NO"; variable = []; comment = []; tail = [] })
second_column = refl

late_variable : fields_of (codes "         SX1                 X2") ≡ StatementLine (record { location = []; operation = codes "SX1"; variable = []; comment = codes "X2"; tail = [] })
late_variable = refl

last_variable : fields_of (codes "         SX1                X2 Y ") ≡ StatementLine (record { location = []; operation = codes "SX1"; variable = codes "X2"; comment = codes "Y "; tail = codes "X2 Y " })
last_variable = refl

long_location : fields_of (codes "START1  SA1 B1") ≡ StatementLine (record { location = codes "START1"; operation = codes "SA1"; variable = codes "B1"; comment = []; tail = codes "B1" })
long_location = refl

close_fields : fields_of (codes "L NO X Y") ≡ StatementLine (record { location = codes "L"; operation = codes "NO"; variable = codes "X"; comment = codes "Y"; tail = codes "X Y" })
close_fields = refl

-- a line whose comment ends in column 73
abbrev full_card : List ℕ
full_card = codes "         CON     1                                            SECOND WOR"

column_72 : fields_of (full_card ++ codes "D") ≡ StatementLine (record { location = []; operation = codes "CON"; variable = codes "1"; comment = codes "SECOND WOR"; tail = drop 17 full_card })
column_72 = refl

third_column : fields_of (codes "  NO") ≡ StatementLine (record { location = []; operation = codes "NO"; variable = []; comment = []; tail = [] })
third_column = refl

continued : fields_of (codes ",  NO") ≡ ContinuedLine
continued = refl

star : fields_of (codes "*  NO") ≡ CommentLine
star = refl

empty_line : fields_of [] ≡ CommentLine
empty_line = refl

counted_item : item_len 10 (codes "3HA B,C") ≡ 5
unfolding display_characters item_in_front
counted_item = refl

leading_zero : item_len 10 (codes "03labc,") ≡ 6
unfolding display_characters item_in_front
leading_zero = refl

ended_item : item_len 10 (codes "10RABC") ≡ 6
unfolding display_characters item_in_front
ended_item = refl

too_many : item_len 10 (codes "11RABC") ≡ 0
unfolding display_characters item_in_front
too_many = refl

delimited_item : item_len 10 (codes "L*A, B*+1") ≡ 7
unfolding display_characters item_in_front
delimited_item = refl

nothing_between : item_len 10 (codes "L**") ≡ 0
unfolding display_characters item_in_front
nothing_between = refl

unclosed_item : item_len 10 (codes "L*AB") ≡ 0
unfolding display_characters item_in_front
unclosed_item = refl

letter_between : item_len 10 (codes "LXABX") ≡ 0
unfolding display_characters item_in_front
letter_between = refl

two_characters : item_len 2 (codes "2LABC") ≡ 4
unfolding display_characters item_in_front
two_characters = refl

three_characters : item_len 2 (codes "3LABC") ≡ 0
unfolding display_characters item_in_front
three_characters = refl

no_code : item_len 10 (codes "2LA~") ≡ 0
unfolding display_characters item_in_front
no_code = refl

three_operands : operands_of (codes "A,,B C,D") ≡ codes "A" ∷ [] ∷ codes "B" ∷ []
unfolding display_characters parts_from parts_up_to
three_operands = refl

two_operands : operands_of (codes "A,") ≡ codes "A" ∷ [] ∷ []
unfolding display_characters parts_from parts_up_to
two_operands = refl

no_operands : operands_of [] ≡ []
unfolding display_characters parts_from parts_up_to
no_operands = refl

comma_in_item : operands_of (codes "B1,=3LA, +1,X") ≡ codes "B1" ∷ codes "=3LA, +1" ∷ codes "X" ∷ []
unfolding display_characters item_in_front parts_from parts_up_to
comma_in_item = refl

item_not_first : operands_of (codes "A=3LB,C") ≡ codes "A=3LB" ∷ codes "C" ∷ []
unfolding display_characters parts_from parts_up_to
item_not_first = refl

nested_pairs : arguments_of (codes "((A)),(B,C),()") ≡ codes "(A)" ∷ codes "B,C" ∷ [] ∷ []
unfolding parts_from parts_up_to
nested_pairs = refl

pairs_beside : arguments_of (codes "(A)(B),(A)B") ≡ codes "(A)(B)" ∷ codes "(A)B" ∷ []
unfolding parts_from parts_up_to
pairs_beside = refl

empty_last : arguments_of (codes "A, B") ≡ codes "A" ∷ [] ∷ []
unfolding parts_from parts_up_to
empty_last = refl

blank_inside : arguments_of (codes "(A B),C D") ≡ codes "A B" ∷ codes "C" ∷ []
unfolding parts_from parts_up_to
blank_inside = refl

lone_closing : arguments_of (codes ")A,B)") ≡ codes ")A" ∷ codes "B)" ∷ []
unfolding parts_from parts_up_to
lone_closing = refl

blank_first : arguments_of (codes " A") ≡ []
unfolding parts_from parts_up_to
blank_first = refl

pair_and_closing : arguments_of (codes "(A))") ≡ codes "(A))" ∷ []
unfolding parts_from parts_up_to
pair_and_closing = refl

unclosed : has_unclosed (codes "A,(B,C") ≡ true
unfolding parts_from parts_up_to
unclosed = refl

unclosed_past_blank : has_unclosed (codes "(A B") ≡ true
unfolding parts_from parts_up_to
unclosed_past_blank = refl

closed : has_unclosed (codes "(A) (B") ≡ false
unfolding parts_from parts_up_to
closed = refl

lone_closing_closed : has_unclosed (codes ")(A)") ≡ false
unfolding parts_from parts_up_to
lone_closing_closed = refl

small_name : option_map name_text (name_of (codes "ab.1=")) ≡ Some (codes "AB.1=")
small_name = refl

register_name : name_of (codes "x7") ≡ None
register_name = refl

nine_characters : name_of (codes "ABCDEFGHI") ≡ None
nine_characters = refl

digit_first : name_of (codes "1A") ≡ None
digit_first = refl

first_generated : option_map name_text (name_of (codes "~0000001")) ≡ Some (codes "~0000001")
first_generated = refl

last_generated : option_map name_text (name_of (codes "~9999999")) ≡ Some (codes "~9999999")
last_generated = refl

generated_by_number : generated_text 8390057 ≡ codes "~8390057"
generated_by_number = refl

no_number_zero : name_of (codes "~0000000") ≡ None
no_number_zero = refl

six_digits : name_of (codes "~000001") ≡ None
six_digits = refl

eight_digits : name_of (codes "~00000001") ≡ None
eight_digits = refl

letter_in_number : name_of (codes "~000000A") ≡ None
letter_in_number = refl

tilde_first : name_of (codes "~A") ≡ None
tilde_first = refl

generated_is_told : was_generated (generated_name 1) ≡ true
generated_is_told = refl

abbrev name : List ℕ → Name
name text = record { bytes = padded (capitals text) }

symbol_is_told : was_generated (name (codes "ab.1=")) ≡ false
symbol_is_told = refl

abbrev two : Pairs
two = (name (codes "R"), codes "5") ∷ (name (codes "K"), codes "R_K") ∷ (name (codes "R"), codes "6") ∷ []

marks_join : inserted two (codes "  SX_R  X_r+1") ≡ codes "  SX5  X5+1"
marks_join = refl

inserted_stays : inserted two (codes "K,R") ≡ codes "R_K,5"
inserted_stays = refl

longer_run : inserted two (codes "KR R.K R=1 _") ≡ codes "KR R.K 5=1 "
longer_run = refl

comment_stays : inserted two (codes "* R_K") ≡ codes "* R_K"
comment_stays = refl
