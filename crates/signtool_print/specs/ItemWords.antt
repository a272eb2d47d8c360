-- The values of an item as the code has them, printed (this profile).
use Rattle.std.specs.Prelude.{ℕ, List, [], ◌++◌}
use Rattle.signtool_print.specs.declared.item_words.Values.{Values}
use Rattle.signtool_print.specs.declared.item_words.Values.TheVariants.{Nothing, One, Two}
use Rattle.signtool_print.specs.ItemLines.{value_text}

abbrev pub text_of_values : Values → List ℕ
text_of_values Nothing = []
text_of_values (One value) = value_text value
text_of_values (Two first second) = value_text first ++ value_text second
