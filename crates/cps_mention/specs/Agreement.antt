-- Where mentions say all that a source's cross-reference has. Our own.
use Rattle.std.specs.Prelude.{ℕ, Bool, true, false, List, [], ◌++◌, All, Contains, map}
use Rattle.std.specs.List.{flat_map}
use Rattle.cps_text.specs.declared.name.Name.{Name}
use Rattle.cps_list.specs.Assembly.{Assembly}
use Rattle.cps_list.specs.Symbols.{mentions_from}
use Rattle.cps_list.specs.declared.mention.Mention.{Mention as Entry}
use Rattle.cps_mention.specs.declared.meaning.Meaning.{Meaning}
use Rattle.cps_mention.specs.declared.meaning.Meaning.TheVariants.{Symbol, Macro, Block, Program, Parameter, Local}
use Rattle.cps_mention.specs.declared.mention.Mention.{Mention}
use Rattle.cps_mention.specs.declared.role.Role.{Role}
use Rattle.cps_mention.specs.declared.role.Role.TheVariants.{Defines, Reads, Calls, Uses, Clashes}
use Rattle.cps_mention.specs.Mentions.{Stands}

-- what a cross-reference has of a symbol that these lines define, or that they read
abbrev pub entries_as : Bool → Name → List ℕ → List Entry
entries_as is_definition name lines = map (λ line. record { name = name; line = line; is_definition = is_definition }) lines

-- a line that gives a symbol another value is listed as one that reads it too, and so is one that can't give it a value any more
abbrev pub entries_in : Role → Name → List ℕ → List Entry
entries_in Defines name lines = entries_as true name lines ++ entries_as false name lines
entries_in Reads name lines = entries_as false name lines
entries_in Calls name lines = []
entries_in Uses name lines = []
entries_in Clashes name lines = entries_as false name lines

abbrev pub entries_by : Meaning → Role → List ℕ → List Entry
entries_by (Symbol name) role lines = entries_in role name lines
entries_by (Macro name) role lines = []
entries_by (Block name) role lines = []
entries_by (Program name) role lines = []
entries_by (Parameter line name) role lines = []
entries_by (Local line name) role lines = []

-- what mentions say of that, by the lines that did it
abbrev pub entries_of : Mention → List Entry
entries_of mention = entries_by mention.meaning mention.role mention.by.items

abbrev pub entries_said : List Mention → List Entry
entries_said mentions = flat_map entries_of mentions

-- mentions stand where they are told, and say all that the cross-reference of a source has
pub record AreMentions (assembly : Assembly) (mentions : List Mention) : Type 0 where
  pub stand : All (Stands assembly.lines) mentions
  pub all : All (Contains (entries_said mentions)) (mentions_from 1 assembly.outcomes)
