-- The command line. Our own; what words mean to one is `clap`'s.
use Rattle.std.specs.Prelude.{true, false, List, [], ◌∷◌, ◌++◌, Some, codes}
use Rattle.clap.specs.Words.{App, Rule, Shape, Text, new_rule}
use Rattle.clap.specs.Simple.{new_shape}
use Rattle.clap.specs.declared.builder.action.ArgAction.TheVariants.{SetTrue}

-- ---- options and operands

-- `--NAME VALUE`, which may be left out
abbrev pub option_rule : Text → Rule
option_rule name = record (new_rule name) { long = Some name; value_names = 1 }

-- `--NAME`, which has no value and may be left out
abbrev pub flag_rule : Text → Rule
flag_rule name = record (new_rule name) { long = Some name; action = Some SetTrue }

-- an operand, which may be left out
abbrev pub operand_rule : Text → Rule
operand_rule name = record (new_rule name) { value_names = 1 }

-- an operand that is wanted
abbrev pub wanted_rule : Text → Rule
wanted_rule name = record (operand_rule name) { required = true }

-- ---- commands

-- `batch [--part PART] [--listing FILE] [--binary FILE] [--symbols FILE] [--flags FILE] [FILE]`
abbrev pub batch_shape : Shape
batch_shape = record (new_shape (codes "batch")) {
  rules = option_rule (codes "part")
      ∷ option_rule (codes "listing")
      ∷ option_rule (codes "binary")
      ∷ option_rule (codes "symbols")
      ∷ option_rule (codes "flags")
      ∷ option_rule (codes "page")
      ∷ operand_rule (codes "file")
      ∷ [];
}

-- `session [--source FILE]`
abbrev pub session_shape : Shape
session_shape = record (new_shape (codes "session")) { rules = option_rule (codes "source") ∷ [] }

-- `check [--errors] [FILE]`
abbrev pub check_shape : Shape
check_shape = record (new_shape (codes "check")) { rules = flag_rule (codes "errors") ∷ operand_rule (codes "file") ∷ [] }

-- `[--format FORMAT] [--columns F-L] [--offset N]`
abbrev pub reading_rules : List Rule
reading_rules = option_rule (codes "format") ∷ option_rule (codes "columns") ∷ option_rule (codes "offset") ∷ []

-- `[--from A] [--to B] [--whole] [--all]`
abbrev pub limit_rules : List Rule
limit_rules = option_rule (codes "from") ∷ option_rule (codes "to") ∷ flag_rule (codes "whole") ∷ flag_rule (codes "all") ∷ []

-- `compare`, with these options, and `OCTAL [FILE]`
abbrev pub compare_shape : Shape
compare_shape = record (new_shape (codes "compare")) {
  rules = reading_rules ++ limit_rules ++ wanted_rule (codes "octal") ∷ operand_rule (codes "file") ∷ [];
}

-- `[--from A] [--to B] [--columns F-L] [--format FORMAT]`
abbrev pub selection_rules : List Rule
selection_rules =
    option_rule (codes "from") ∷ option_rule (codes "to") ∷ option_rule (codes "columns") ∷ option_rule (codes "format") ∷ []

-- `[--entry LIST] [--code LIST] [--data LIST]`
abbrev pub place_rules : List Rule
place_rules = option_rule (codes "entry") ∷ option_rule (codes "code") ∷ option_rule (codes "data") ∷ []

-- `[--names FILE] [--ident NAME] [--bare]`
abbrev pub name_rules : List Rule
name_rules = option_rule (codes "names") ∷ option_rule (codes "ident") ∷ flag_rule (codes "bare") ∷ []

-- `disassemble [--central] [--peripheral]`, with these options, and `[OCTAL]`
abbrev pub disassemble_shape : Shape
disassemble_shape = record (new_shape (codes "disassemble")) {
  rules = flag_rule (codes "central") ∷ flag_rule (codes "peripheral") ∷ (selection_rules ++ place_rules ++ name_rules ++ operand_rule (codes "octal") ∷ []);
}

-- `explain WORD`
abbrev pub explain_shape : Shape
explain_shape = record (new_shape (codes "explain")) { rules = wanted_rule (codes "word") ∷ [] }

-- `server [--stdio]`
abbrev pub server_shape : Shape
server_shape = record (new_shape (codes "server")) { rules = flag_rule (codes "stdio") ∷ [] }

-- `help [COMMAND]`
abbrev pub help_shape : Shape
help_shape = record (new_shape (codes "help")) { rules = operand_rule (codes "command") ∷ [] }

-- ---- the program

-- `compass`, with `--version`, of which one of the commands is wanted; `help` is one of them, in the place of that which `clap` has
abbrev pub compass_shape : Shape
compass_shape = record (new_shape (codes "compass")) {
  disable_help_subcommand = true;
  has_version = true;
  subcommand_required = true;
}

abbrev pub bare_compass : App
bare_compass = record { top = compass_shape; subs = [] }

abbrev pub compass : App
compass = record {
  top = record compass_shape { is_leaf = false };
  subs = batch_shape ∷ session_shape ∷ check_shape ∷ compare_shape ∷ disassemble_shape ∷ explain_shape ∷ server_shape ∷ help_shape ∷ [];
}
