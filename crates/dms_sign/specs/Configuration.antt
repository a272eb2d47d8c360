-- What a sign is made with, and why there is none (this profile).
use Rattle.std.specs.Prelude.{◌≡◌, ℕ, List, if◌then◌else◌, codes, Option, Some, None, option_map}
use Rattle.dms_table.specs.declared.stock.TableFault.TheVariants.{Memory}
use Rattle.dms_table.specs.Stock.{stock_fault}
use Rattle.dms_table.specs.FaultTexts.{table_fault_text}
use Rattle.dms_sign.specs.declared.config.Config.{Config}
use Rattle.dms_sign.specs.declared.config.ConfigFault.{ConfigFault}
use Rattle.dms_sign.specs.declared.config.ConfigFault.TheVariants as faults
use Rattle.dms_sign.specs.Communities.{are_communities}
use Rattle.dms_sign.specs.State.{ConfigModel}

abbrev pub config_of : Config → ConfigModel
config_of config = record { face = config.face; reader = config.reader.now; writer = config.writer.now }

-- the first thing that is wrong with a configuration
abbrev pub config_fault : Config → Option ConfigFault
config_fault config =
    if are_communities config.reader.now config.writer.now
    then option_map faults.Table (stock_fault config.face config.stock)
    else Some faults.Community

-- Where nothing is wrong with it, there may be no memory for it.
abbrev pub IsFirstConfigFault : Option ConfigFault → ConfigFault → Type 0
IsFirstConfigFault None fault = fault ≡ faults.Table Memory
IsFirstConfigFault (Some first) fault = fault ≡ first

-- what a fault prints
abbrev pub config_fault_text : ConfigFault → List ℕ
config_fault_text faults.Community = codes "the communities are not two of 1 to 32 octets"
config_fault_text (faults.Table fault) = table_fault_text fault
