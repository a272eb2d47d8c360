-- What is said of words that are no call (this profile).
use Rattle.std.specs.Prelude.{ℕ, List, ◌++◌, codes, string_bytes}
use Rattle.signtool_cli.specs.declared.command_line.Usage.{Usage}
use Rattle.signtool_cli.specs.declared.command_line.Usage.TheVariants.{Line, NamesFile, NoCall, NoMemory, Memory}

-- after the lines of a word too many, how a description is given
abbrev pub usage_text : Usage → List ℕ
usage_text (Line lines) = string_bytes lines
usage_text (NamesFile lines) =
    string_bytes lines ++ codes "\nhint: the description is read from standard input: < FILE\n"
usage_text NoCall = codes "a subcommand and its words are wanted\n"
usage_text NoMemory = codes "error: a memory type is 2, 3, 4, 5 or 7\n"
usage_text Memory = codes "error: out of memory\n"
